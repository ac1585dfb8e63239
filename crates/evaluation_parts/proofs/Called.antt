-- The calls of an instance that is unfolded.
use Rattle.std.proofs.Common.{rules, ◌≡◌, refl, ap, sym, ◌∙◌, Bool, true, false, cond, nat_le, ℕ, zero, suc, List, [], ◌∷◌, Option, Some, None, slice_get}
use Rattle.lus_tree.specs.Tree.{Program}
use Rattle.lus_meaning.specs.Scene.{component_of, outputs_of, call_instance, instance_at}
use Rattle.evaluation_parts.specs.Unfolded.{Linked, Declared, if_there, calls_with, unfolded, called_instance, calls_at, counted_from_one, declared_outputs, linked_outputs}

pub component_there : (p : Program) (ts : List Declared) (d : ℕ) (t : Declared) → component_of (unfolded p ts d t) ≡ t.component
component_there p ts zero t = refl
component_there p ts (suc d) t = refl

outputs_there : (p : Program) (ts : List Declared) (d : ℕ) (o : Option Declared) → outputs_of (if_there p (unfolded p ts d) o) ≡ declared_outputs o
outputs_there p ts d None = refl
outputs_there p ts zero (Some t) = refl
outputs_there p ts (suc d) (Some t) = refl

outputs_at : (p : Program) (ts : List Declared) (d : ℕ) (ls : List Linked) (k : ℕ)
    → outputs_of (instance_at (calls_with (called_instance p ts d) ls) k) ≡ linked_outputs ts (slice_get ls k)
outputs_at p ts d [] k = refl
outputs_at p ts d (l ∷ ls) zero = outputs_there p ts d (slice_get ts l.place)
outputs_at p ts d (l ∷ ls) (suc k) = outputs_at p ts d ls k

one_is_least : (k : ℕ) → nat_le 1 (suc k) ≡ true
one_is_least k = search rules

none_either : {A : Type 0} (b : Bool) → cond {A = Option A} b None None ≡ None
none_either true = refl
none_either false = refl

pub outputs_called : (p : Program) (ts : List Declared) (d : ℕ) (t : Declared) (k : ℕ)
    → outputs_of (call_instance (unfolded p ts d t) k) ≡ linked_outputs ts (counted_from_one (calls_at d t) k)
outputs_called p ts zero t zero = refl
outputs_called p ts zero t (suc k) = sym (ap (linked_outputs ts) (none_either {A = Linked} (nat_le 1 (suc k))))
outputs_called p ts (suc d) t zero = refl
outputs_called p ts (suc d) t (suc k) =
    outputs_at p ts d t.calls k ∙ sym (ap (λ b. linked_outputs ts (cond b (slice_get t.calls k) None)) (one_is_least k))
