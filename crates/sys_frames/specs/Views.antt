-- What contracts see of what is said of frames.
use Rattle.sys_terms.specs.View.{terms_view}
use Rattle.sys_frames.specs.Lists.{Lists}
use Rattle.sys_frames.specs.declared.lists.Lists.{Lists as ListsCode}

abbrev pub lists_view : ListsCode → Lists
lists_view l = record {
  shapes = l.shapes.items;
  first = terms_view l.first.items;
  here = terms_view l.here.items;
  next = terms_view l.next.items;
  asserts = terms_view l.asserts.items;
}
