use Rattle.std.proofs.Common.{◌∙◌, ap, string_bytes}
use Rattle.lus_meaning.specs.Depends.{named_in}
use Rattle.name_table.proofs.Names.{seen}
use Rattle.name_table.proofs.table.NameTable.has.Goals as goal

pub returns : goal.returns
returns c = c.contains.ensures ∙ seen string_bytes c.args.name.now c.self.inside.names.keys ∙ ap (named_in c.args.name.now) c.self.view_is
