-- The instance of a declaration, by the declarations of its program with the places of those that they call.
use Rattle.std.specs.Prelude.{ℕ, zero, suc, pred, nat_le, cond, List, [], ◌∷◌, map, Option, Some, None, slice_get}
use Rattle.lus_tree.specs.Tree.{Name, Component, Program}
use Rattle.lus_meaning.specs.Scene.{Site, Instance, Instances, instance, no_component, no_instances, with_instance}
use Rattle.lus_meaning.specs.Program.{constants_in}

-- a call or an import, and the place of its callee among the declarations
pub record Linked : Type 0 where
  pub site : Site
  pub place : ℕ

-- a declaration, and its calls and imports in the order of their numbers
pub record Declared : Type 0 where
  pub component : Component
  pub calls : List Linked

-- the instance of a declaration that is not there
abbrev pub nothing : Program → Instance
nothing p = instance no_component (constants_in p no_component) no_instances

abbrev pub if_there : Program → (Declared → Instance) → Option Declared → Instance
if_there p f None = nothing p
if_there p f (Some t) = f t

abbrev pub calls_with : (ℕ → Instance) → List Linked → Instances
calls_with f [] = no_instances
calls_with f (l ∷ ls) = with_instance l.site (f l.place) (calls_with f ls)

-- the instance of a declaration, with calls nested no deeper than the number
abbrev pub unfolded : Program → List Declared → ℕ → Declared → Instance
unfolded p ts zero t = instance t.component (constants_in p t.component) no_instances
unfolded p ts (suc d) t = instance t.component (constants_in p t.component)
    (calls_with (λ k. if_there p (unfolded p ts d) (slice_get ts k)) t.calls)

-- that of the declaration of that place
abbrev pub called_instance : Program → List Declared → ℕ → ℕ → Instance
called_instance p ts d k = if_there p (unfolded p ts d) (slice_get ts k)

-- ---- what is called

-- where calls are nested no deeper than the number; at 0 there are none
abbrev pub calls_at : ℕ → Declared → List Linked
calls_at zero t = []
calls_at (suc d) t = t.calls

abbrev pub counted_from_one : {A : Type 0} → List A → ℕ → Option A
counted_from_one xs k = cond (nat_le 1 k) (slice_get xs (pred k)) None

abbrev pub declared_outputs : Option Declared → List Name
declared_outputs None = []
declared_outputs (Some t) = map (λ v. v.name.text) t.component.outputs

abbrev pub linked_outputs : List Declared → Option Linked → List Name
linked_outputs ts None = []
linked_outputs ts (Some l) = declared_outputs (slice_get ts l.place)
