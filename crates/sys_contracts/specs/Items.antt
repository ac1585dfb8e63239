-- What a contract says of a frame, by what names and numbers mean there.
use Rattle.std.specs.Prelude.{ℕ, List, [], ◌∷◌, ◌++◌, map, flat_map, unwrap_or}
use Rattle.lus_tree.specs.Tree.{Name, Labelled, ContractStatement, assume, guarantee, ghost_variable, constant, mode, «import»}
use Rattle.sys_terms.specs.View.{Formula}
use Rattle.sys_meaning.specs.Part.{all_of, some_of, implies}
use Rattle.sys_texts.specs.Sights.{Sight, Mode, Way, own, through, deeper, counted_from_one}
use Rattle.sys_texts.specs.Texts.{formula}

-- each kind in text order
pub record Items : Type 0 where
  pub assumes : List Formula
  pub guarantees : List Formula
  pub modes : List Mode

abbrev pub no_items : Items
no_items = record { assumes = []; guarantees = []; modes = [] }

-- what these expressions say
abbrev pub required : Sight → List Mode → List Labelled → List Formula
required s ms ls = map (λ l. formula s ms l.value) ls

-- what they say where something is true
abbrev pub ensured : Sight → List Mode → Formula → List Labelled → List Formula
ensured s ms asked ls = map (λ l. implies asked (formula s ms l.value)) ls

abbrev pub mode_asking : Sight → List Mode → Name → Formula → List Labelled → Mode
mode_asking s ms m asked es =
    record { way = own; name = m; asked = asked; ensures_each = ensured s ms asked es }

abbrev pub mode_item : Sight → List Mode → Name → List Labelled → List Labelled → Mode
mode_item s ms m rs es = mode_asking s ms m (all_of (required s ms rs)) es

-- a way with an import before it
abbrev pub way_through : Name → Way → Way
way_through c own = through c
way_through c (through d) = deeper
way_through c deeper = deeper

abbrev pub imported_mode : Name → Mode → Mode
imported_mode c m =
    record { way = way_through c m.way; name = m.name; asked = m.asked; ensures_each = m.ensures_each }

-- the items, and behind them those of an import
abbrev pub with_import : Items → Name → Items → Items
with_import i c r = record {
  assumes = i.assumes ++ r.assumes;
  guarantees = i.guarantees ++ r.guarantees;
  modes = i.modes ++ map (imported_mode c) r.modes;
}

-- what is imported by the call of that number
abbrev pub imported_at : List Items → ℕ → Items
imported_at subs k = unwrap_or (counted_from_one subs k) no_items

abbrev pub with_statement : Sight → List Items → Items → ContractStatement → Items
with_statement s subs i (assume l) = record i { assumes = i.assumes ++ formula s i.modes l.value ∷ [] }
with_statement s subs i (guarantee l) = record i { guarantees = i.guarantees ++ formula s i.modes l.value ∷ [] }
with_statement s subs i (ghost_variable x e) = i
with_statement s subs i (constant c) = i
with_statement s subs i (mode m rs es) = record i { modes = i.modes ++ mode_item s i.modes m.text rs es ∷ [] }
with_statement s subs i («import» k c as_ xs) = with_import i c.text (imported_at subs k)

abbrev pub with_statements : Sight → List Items → Items → List ContractStatement → Items
with_statements s subs i [] = i
with_statements s subs i (c ∷ cs) = with_statements s subs (with_statement s subs i c) cs

-- the items of a contract, by those of its calls and imports by number
abbrev pub contract_items : Sight → List Items → List ContractStatement → Items
contract_items s subs cs = with_statements s subs no_items cs

-- ---- properties

-- where there is a mode, that one is active
abbrev pub one_mode : List Mode → List Formula
one_mode [] = []
one_mode (m ∷ ms) = some_of (map (λ n. n.asked) (m ∷ ms)) ∷ []

-- what a contract promises
abbrev pub promises : Items → List Formula
promises i = i.guarantees ++ flat_map (λ m. m.ensures_each) i.modes ++ one_mode i.modes
