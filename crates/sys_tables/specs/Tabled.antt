-- What is known of a declaration, once for all of its frames.
use Rattle.std.specs.Prelude.{ℕ, Bool, is_none, not, List, [], ◌∷◌, ◌++◌, map, length, Option, None}
use Rattle.std.specs.Map.{lookup}
use Rattle.std.specs.Str.{bytes_eq}
use Rattle.lus_tree.specs.Tree.{Name, Expression, Variable, Constant, Component, Program}
use Rattle.lus_meaning.specs.ClockFaults.{components}
use Rattle.lus_meaning.specs.Depends.{named_in}
use Rattle.lus_meaning.specs.Occurrences.{Memory, Start}
use Rattle.lus_meaning.specs.Occurrences as o
use Rattle.lus_meaning.specs.Program.{all_sites, contract_statement_constants, in_order, program_constants}
use Rattle.lus_meaning.specs.Run.{equations}
use Rattle.lus_meaning.specs.Scene.{Site, contract_statements, variables}
use Rattle.lus_meaning.specs.Value.{Value, absent}
use Rattle.name_table.specs.Names.{number_of}
use Rattle.lus_limits.specs.Instances.{callee}
use Rattle.lus_layouts.specs.declared.placing.CallSlots.{CallSlots}
use Rattle.lus_layouts.specs.Layouts.{LaidOut, layout_of}
use Rattle.sys_texts.specs.Sights.{Sight}
use Rattle.sys_texts.specs.Texts.{Folded, known, left_open, folded}
use Rattle.sys_conditions.specs.Named.{Right, right_of}

-- ---- constants

-- what is read by the values of constants alone
abbrev pub bare : List (Name × Value) → Sight
bare cs = record {
  beat = 0;
  missing = 0;
  streams = 0;
  constant = λ x. lookup (bytes_eq x) cs;
  stream = λ x. None;
  memories = [];
  starts = [];
  calls = [];
}

abbrev pub value_of : Folded → Value
value_of (known v) = v
value_of (left_open p) = absent

-- the value of a constant expression, of which no number is kept that is too great
abbrev pub small_value : List (Name × Value) → Expression → Value
small_value cs e = value_of (folded (bare cs) [] e)

-- such values of constants in text order, each by those before it
abbrev pub small_values : List (Name × Value) → List Constant → List (Name × Value)
small_values cs [] = cs
small_values cs (d ∷ ds) = small_values (cs ++ (d.name.text, small_value cs d.value) ∷ []) ds

abbrev pub own_constants : Component → List Constant
own_constants n = contract_statement_constants (contract_statements n) ++ n.constants

abbrev pub constants_known : Program → Component → List (Name × Value)
constants_known p n = small_values (small_values [] (program_constants p)) (own_constants n)

-- ---- streams

-- a stream, what an equation gives it, and whether it is an input
pub record Named : Type 0 where
  pub variable : Variable
  pub right : Option Right
  pub input : Bool

abbrev pub texts_of : List Variable → List Name
texts_of vs = map (λ v. v.name.text) vs

abbrev pub named_stream : Component → Variable → Named
named_stream n v = record {
  variable = v;
  right = right_of (equations n) v.name.text;
  input = named_in v.name.text (texts_of n.inputs);
}

-- ---- calls

-- a call or an import: the place of its callee among the declarations, how many inputs this has, its outputs, the values
-- of the defaults, and where the call stands
pub record Linked : Type 0 where
  pub site : Site
  pub place : ℕ
  pub inputs : ℕ
  pub outputs : List Variable
  pub defaults : List Value
  pub slots : CallSlots

abbrev pub names_of : List Component → List Name
names_of ns = map (λ n. n.name.text) ns

-- the place of the declaration of that name; past the last one where there is none
abbrev pub place_of : Program → Name → ℕ
place_of p x = number_of (names_of (components p)) x

abbrev pub linked : Program → Component → Site → CallSlots → Linked
linked p n s q = record {
  site = s;
  place = place_of p s.callee;
  inputs = length (callee p s.callee).inputs;
  outputs = (callee p s.callee).outputs;
  defaults = map (small_value (constants_known p n)) s.defaults;
  slots = q;
}

abbrev pub all_linked : Program → Component → List Site → List CallSlots → List Linked
all_linked p n (s ∷ ss) (q ∷ qs) = linked p n s q ∷ all_linked p n ss qs
all_linked p n _ _ = []

-- ---- the declaration

pub record Tabled : Type 0 where
  pub component : Component
  pub constants : List (Name × Value)
  pub streams : List Named
  pub memories : List Memory
  pub starts : List Start
  pub calls : List Linked
  pub layout : LaidOut
  pub contract : Bool

abbrev pub table_of : Program → Component → Tabled
table_of p n = record {
  component = n;
  constants = constants_known p n;
  streams = map (named_stream n) (variables n);
  memories = in_order (λ m. m.number) (o.memories n);
  starts = in_order (λ a. a.number) (o.starts n);
  calls = all_linked p n (all_sites n) (layout_of p n).calls;
  layout = layout_of p n;
  contract = not (is_none n.contract);
}
