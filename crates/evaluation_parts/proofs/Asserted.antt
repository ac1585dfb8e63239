-- The assertions of a frame and of the frames of its calls.
use Rattle.std.proofs.Common.{◌≡◌, refl, ap, sym, ◌∙◌, ℕ, zero, suc, ◌<◌, cond, arith, List, [], ◌∷◌, ◌++◌, length}
use Rattle.std.proofs.lemmas.List.{append_assoc}
use Rattle.lus_tree.specs.Tree.{Expression, Program}
use Rattle.lus_meaning.specs.Scene.{Clock, Site, Instance, calls_of, component_of}
use Rattle.lus_evaluation.specs.Part.{Part, Setting, whole_parts, wholes}
use Rattle.lus_evaluation.specs.Frame.{ContractText, FrameText, Calls, asserted_below, asserted_in_calls, call_parts, is_evaluated}
use Rattle.evaluation_parts.specs.declared.part.Part.{Part as PartCode}
use Rattle.evaluation_parts.specs.PartViews.{parts_view}
use Rattle.evaluation_parts.specs.Unfolded.{Linked, Declared, calls_with, unfolded, calls_at}
use Rattle.evaluation_parts.specs.Framed.{asserted_as, asserted_each}

pub joint : (g : Setting) (c : Clock) (xs ys : List Expression) → wholes g c (xs ++ ys) ≡ wholes g c xs ++ wholes g c ys
joint g c [] ys = refl
joint g c (x ∷ xs) ys = ap (λ z. whole_parts g [] c x ++ z) (joint g c xs ys)
    ∙ sym (append_assoc (whole_parts g [] c x) (wholes g c xs) (wholes g c ys))

below_as : (g : Setting) (c : Site) (b : List Part) (k : ContractText) (qs : List Part)
    → asserted_below g c (record { body = b; contract = k; asserted = qs }) ≡ asserted_as g c (record { body = b; contract = k; asserted = qs }) qs
below_as g c b k [] = refl
below_as g c b k (q ∷ qs) = refl

pub below_is : (g : Setting) (c : Site) (t : FrameText) → asserted_below g c t ≡ asserted_as g c t t.asserted
below_is g c t = below_as g c t.body t.contract t.asserted

pub as_some : (g : Setting) (c : Site) (t : FrameText) (ps : List PartCode) → 0 < length ps
    → asserted_as g c t (parts_view ps) ≡ cond (is_evaluated (component_of g.place) c c.manner) [] (call_parts g c t) ++ parts_view ps
as_some g c t [] l = absurd (omega (arith, l))
as_some g c t (p ∷ ps) l = refl

each : (g : Setting) (sub : Calls) (f : ℕ → Instance) (ls : List Linked)
    → asserted_in_calls g sub (calls_with f ls) ≡ asserted_each g sub ls
each g sub f [] = refl
each g sub f (l ∷ ls) = ap (λ z. asserted_below g l.site (sub l.site.number) ++ z) (each g sub f ls)

pub each_is : (g : Setting) (sub : Calls) (p : Program) (ts : List Declared) (d : ℕ) (t : Declared)
    → asserted_in_calls g sub (calls_of (unfolded p ts d t)) ≡ asserted_each g sub (calls_at d t)
each_is g sub p ts zero t = refl
each_is g sub p ts (suc d) t = each g sub _ t.calls
