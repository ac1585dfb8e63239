-- One step down the calls.
use Rattle.std.proofs.Common.{◌≡◌, ℕ, suc, List, ◌++◌, append_assoc, sym, ap, ◌∙◌, subst, Result, Ok, Err}
use Rattle.std.specs.Prelude.{OnOk}
use Rattle.std.specs.List.{AllByRecursion}
use Rattle.lus_limits.specs.declared.calls.Way.{Way}
use Rattle.lus_meaning.specs.Occurrences.{Memory}
use Rattle.sys_texts.specs.Sights.{Sight}
use Rattle.sys_tables.specs.Tabled.{Linked, Named, Tabled}
use Rattle.sys_tables.specs.Numbers.{CallHasRoom, behind_own, first_memory, sight_at}
use Rattle.sys_frames.specs.Walked.{HasRoomWithin, OfCall}
use Rattle.trace_fits.specs.Slotted.{Slotted}
use Rattle.trace_fits.specs.Walked.{calls_listed, free_listed, listed_within, memories_listed, own_listed}

-- what is listed of a frame itself, and behind it that of its calls
pub frame_on : {V E : Type 0} (r : Result V E) (ts : List Tabled) (missing n d e : ℕ) (w : Way) (b from : ℕ) (path : List ℕ) (t : Tabled)
    (qs : List Linked) (old mid new : List Slotted) → d ≡ suc e → from ≡ behind_own w t b → qs ≡ t.calls → mid ≡ old ++ own_listed (sight_at t w b missing) n w b path t
    → OnOk r (new ≡ mid ++ calls_listed (listed_within ts missing n e) ts from path qs)
    → OnOk r (new ≡ old ++ listed_within ts missing n d w b path t)
frame_on (Ok v) ts missing n d e w b from path t qs old mid new f g q h k =
    k ∙ ap (λ z. mid ++ calls_listed (listed_within ts missing n e) ts from path z) q
    ∙ ap (λ z. mid ++ calls_listed (listed_within ts missing n e) ts z path t.calls) g
    ∙ ap (λ l. l ++ calls_listed (listed_within ts missing n e) ts (behind_own w t b) path t.calls) h
    ∙ append_assoc old (own_listed (sight_at t w b missing) n w b path t) (calls_listed (listed_within ts missing n e) ts (behind_own w t b) path t.calls)
    ∙ ap (λ z. old ++ listed_within ts missing n z w b path t) (sym f)
frame_on (Err x) ts missing n d e w b from path t qs old mid new f g q h k = tt

-- what is listed of its streams, and behind it that of its memories
pub own_on : {V E : Type 0} (r : Result V E) (s z : Sight) (n : ℕ) (w : Way) (b k f : ℕ) (path : List ℕ) (t : Tabled) (ss : List Named) (us : List Memory)
    (old mid new : List Slotted) → s ≡ z → k ≡ suc b → f ≡ first_memory t b → ss ≡ t.streams → us ≡ t.memories
    → mid ≡ old ++ free_listed w path n k ss → OnOk r (new ≡ mid ++ memories_listed s path f us) → OnOk r (new ≡ old ++ own_listed z n w b path t)
own_on (Ok v) s z n w b k f path t ss us old mid new e g h i j m o =
    o ∙ ap (λ x. mid ++ memories_listed x path f us) e
    ∙ ap (λ x. mid ++ memories_listed z path x us) h
    ∙ ap (λ x. mid ++ memories_listed z path (first_memory t b) x) j
    ∙ ap (λ x. x ++ memories_listed z path (first_memory t b) t.memories) (m ∙ ap (λ x. old ++ free_listed w path n x ss) g ∙ ap (λ x. old ++ free_listed w path n (suc b) x) i)
    ∙ append_assoc old (free_listed w path n (suc b) t.streams) (memories_listed z path (first_memory t b) t.memories)
own_on (Err x) s z n w b k f path t ss us old mid new e g h i j m o = tt

-- the calls of a frame have room where it has
pub calls_room : (d : ℕ) (ts : List Tabled) (t : Tabled) (w : Way) (b from : ℕ) (qs : List Linked) → from ≡ behind_own w t b → qs ≡ t.calls
    → HasRoomWithin d ts t w b → AllByRecursion (CallHasRoom from) qs
calls_room d ts t w b from qs g k h =
    subst (λ z. AllByRecursion (CallHasRoom z) qs) (sym g) (subst (AllByRecursion (CallHasRoom (behind_own w t b))) (sym k) h.0.calls)

pub calls_below : (d e : ℕ) (ts : List Tabled) (t : Tabled) (w : Way) (b from : ℕ) (qs : List Linked) → d ≡ suc e → from ≡ behind_own w t b → qs ≡ t.calls
    → HasRoomWithin d ts t w b → AllByRecursion (OfCall (HasRoomWithin e ts) ts from) qs
calls_below d e ts t w b from qs f g k h =
    subst (λ z. AllByRecursion (OfCall (HasRoomWithin e ts) ts z) qs) (sym g)
    (subst (AllByRecursion (OfCall (HasRoomWithin e ts) ts (behind_own w t b))) (sym k) (subst (λ z. HasRoomWithin z ts t w b) f h).1)
