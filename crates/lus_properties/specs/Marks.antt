-- What names the properties of a declaration, by its own text and that of what it calls and imports.
use Rattle.std.specs.Prelude.{ℕ, zero, suc, pred, List, [], ◌∷◌, ◌++◌, map, flat_map, unwrap_or, Option, Some, None, slice_get}
use Rattle.lus_tree.specs.declared.place.Pos.{Pos}
use Rattle.lus_tree.specs.Tree.{Name, Spelled, Labelled, Statement, equation, assertion, property, main_mark, ContractStatement, assume, guarantee, ghost_variable, constant, mode, «import», Component, Program}
use Rattle.lus_meaning.specs.Scene.{no_component, contract_statements}
use Rattle.lus_meaning.specs.Program.{all_sites, component_named}
use Rattle.lus_meaning.specs.Contract.{Kind, body, guaranteed, ensured, one_mode_active, assumed, Property, first_token}
use Rattle.lus_limits.specs.declared.calls.Way.{Way}
use Rattle.lus_limits.specs.declared.calls.Way.TheVariants.{Plain, Condition, Import}
use Rattle.lus_limits.specs.Calls.{Called, called_of}
use Rattle.lus_properties.specs.declared.items.ItemKind.{ItemKind}
use Rattle.lus_properties.specs.declared.items.ItemKind.TheVariants.{Assumptions, Guarantees, Ensures, Modes}

-- all of a property but its truth
pub record Mark : Type 0 where
  pub kind : Kind
  pub path : List ℕ
  pub label : Option Name
  pub at : Pos

abbrev pub mark_of : Property → Mark
mark_of p = record { kind = p.kind; path = p.path; label = p.label; at = p.at }

-- of what a declaration states itself
abbrev pub labelled_mark : Kind → Labelled → Mark
labelled_mark k l = record { kind = k; path = []; label = l.label; at = first_token l.value }

-- of what stands behind the call or import with that number
abbrev pub behind : ℕ → Mark → Mark
behind k m = record { kind = m.kind; path = k ∷ m.path; label = m.label; at = m.at }

abbrev pub statement_marks : Statement → List Mark
statement_marks (property l) = labelled_mark body l ∷ []
statement_marks (equation xs e) = []
statement_marks (assertion e) = []
statement_marks (main_mark q) = []

abbrev pub body_marks : List Statement → List Mark
body_marks ss = flat_map statement_marks ss

-- ---- a contract: one kind of its items, or its modes

abbrev pub assumption_marks : ItemKind → Labelled → List Mark
assumption_marks Assumptions l = labelled_mark assumed l ∷ []
assumption_marks Guarantees l = []
assumption_marks Ensures l = []
assumption_marks Modes l = []

abbrev pub guarantee_marks : ItemKind → Labelled → List Mark
guarantee_marks Assumptions l = []
guarantee_marks Guarantees l = labelled_mark guaranteed l ∷ []
guarantee_marks Ensures l = []
guarantee_marks Modes l = []

-- a mode stands for itself by its name
abbrev pub name_mark : Spelled → Mark
name_mark m = record { kind = one_mode_active; path = []; label = Some m.text; at = m.at }

abbrev pub mode_marks : ItemKind → Spelled → List Labelled → List Mark
mode_marks Assumptions m es = []
mode_marks Guarantees m es = []
mode_marks Ensures m es = map (labelled_mark (ensured m.text)) es
mode_marks Modes m es = name_mark m ∷ []

-- of a statement, where those of imports are given by their numbers
abbrev pub item_marks : ItemKind → (ℕ → List Mark) → ContractStatement → List Mark
item_marks w sub (assume l) = assumption_marks w l
item_marks w sub (guarantee l) = guarantee_marks w l
item_marks w sub (ghost_variable x e) = []
item_marks w sub (constant c) = []
item_marks w sub (mode m rs es) = mode_marks w m es
item_marks w sub («import» k c as_ xs) = map (behind k) (sub k)

abbrev pub contract_marks : ItemKind → (ℕ → List Mark) → List ContractStatement → List Mark
contract_marks w sub cs = flat_map (item_marks w sub) cs

-- ---- by number

abbrev pub callees_of : List Called → List Name
callees_of cs = map (λ c. c.callee) cs

abbrev pub of_name : (Name → List Mark) → Option Name → List Mark
of_name f None = []
of_name f (Some x) = f x

-- of what the call or import with that number calls
abbrev pub at_number : (Name → List Mark) → List Called → ℕ → List Mark
at_number f cs k = of_name f (slice_get (callees_of cs) (pred k))

abbrev pub called : Component → List Called
called n = map called_of (all_sites n)

abbrev pub callee : Program → Name → Component
callee p x = unwrap_or (component_named p x) no_component

-- of the contract of the declaration with that name, where imports are nested less deep than the number
abbrev pub marks_below : ℕ → ItemKind → Program → Name → List Mark
marks_below zero w p x = []
marks_below (suc d) w p x = contract_marks w (at_number (marks_below d w p) (called (callee p x))) (contract_statements (callee p x))

-- of the contract of a declaration, where imports are nested no deeper than the number
abbrev pub marks_within : ℕ → ItemKind → Program → Component → List Mark
marks_within d w p n = contract_marks w (at_number (marks_below d w p) (called n)) (contract_statements n)

-- ---- a declaration

-- where there is a mode, that one is active
abbrev pub one_mode_marks : Pos → List Mark → List Mark
one_mode_marks at [] = []
one_mode_marks at (m ∷ ms) = record { kind = one_mode_active; path = []; label = None; at = at } ∷ []

-- what a call owes its callee, by how it runs
abbrev pub owes : Way → ℕ → List Mark → List Mark
owes Plain k ms = map (behind k) ms
owes Condition k ms = map (behind k) ms
owes Import k ms = []

abbrev pub call_owes : ℕ → Program → Called → List Mark
call_owes d p c = owes c.way c.number (marks_below d Assumptions p c.callee)

-- what a contract promises, with calls nested no deeper than the number
abbrev pub promised_within : ℕ → Program → Component → List Mark
promised_within d p n = marks_within d Guarantees p n ++ marks_within d Ensures p n ++ one_mode_marks n.name.at (marks_within d Modes p n)

abbrev pub marks_to : ℕ → Program → Component → List Mark
marks_to d p n = body_marks n.body ++ promised_within d p n ++ flat_map (call_owes d p) (called n)
