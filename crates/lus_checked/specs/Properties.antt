-- The properties of nodes and functions, with their labels as text.
use Rattle.std.specs.Prelude.{ℕ, List, Option, Vec, map, option_map}
use Rattle.std.specs.Global.{Global}
use Rattle.std.specs.String.{string_bytes}
use Rattle.lus_tree.specs.Tree.{Component, Program}
use Rattle.lus_tree.specs.Lookup.{node_at}
use Rattle.lus_meaning.specs.Contract.{Kind, body, guaranteed, ensured, one_mode_active, assumed, Property as Stated}
use Rattle.lus_meaning.specs.Label.{label_of}
use Rattle.lus_meaning.specs.Program.{instance_of}
use Rattle.lus_meaning.specs.Property.{properties}
use Rattle.lus_properties.specs.Marks.{Mark}
use Rattle.lus_properties.specs.Texts.{mark_text}
use Rattle.lus_checked.specs.declared.property.Property.{Property}
use Rattle.lus_checked.specs.declared.property.PropertyKind.{PropertyKind}
use Rattle.lus_checked.specs.declared.property.PropertyKind.TheVariants.{Body, Guarantee, Ensure, OneMode, CalleeAssume}

-- what a property is of, without the name of an ensure's mode
abbrev pub plain_kind : Kind → PropertyKind
plain_kind body = Body
plain_kind guaranteed = Guarantee
plain_kind (ensured m) = Ensure
plain_kind one_mode_active = OneMode
plain_kind assumed = CalleeAssume

-- a label as it is printed, and what the property is of
abbrev pub Listed : Type 0
Listed = List ℕ × PropertyKind

abbrev pub listed : Stated → Listed
listed q = (label_of q, plain_kind q.kind)

-- the same by all of a property but its truth
abbrev pub listed_mark : Mark → Listed
listed_mark m = (mark_text m, plain_kind m.kind)

abbrev pub property_seen : Property → Listed
property_seen q = (string_bytes q.label, q.kind)

abbrev pub lists_seen : List (Vec Property Global) → List (List Listed)
lists_seen vs = map (λ v. map property_seen v.items) vs

-- those of a node or function, in order
abbrev pub listed_in : Program → Component → List Listed
listed_in p n = map listed (properties (instance_of p n))

-- those of the node or function with that number; none where there is no such node
abbrev pub listed_of : Program → ℕ → Option (List Listed)
listed_of p k = option_map (listed_in p) (node_at k p)
