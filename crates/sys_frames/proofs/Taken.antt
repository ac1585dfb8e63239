-- The parts that a caller gives, one after the other, and the shapes of what is held.
use Rattle.std.proofs.Common.{◌≡◌, ℕ, zero, suc, List, [], ◌∷◌, ◌++◌, ◌+◌, length, drop, append_assoc, refl, sym, ap, ◌∙◌, arith}
use Rattle.std.specs.Prelude.{slice_get}
use Rattle.sys_terms.specs.View.{Formula}
use Rattle.sys_meaning.specs.Part.{Part}
use Rattle.sys_texts.specs.Sights.{Sight, Mode, Output}
use Rattle.sys_tables.specs.Tabled.{Named}
use Rattle.sys_frames.specs.Streams.{first_part, other_parts, stream_here, streams_here}
use Rattle.sys_frames.specs.Walked.{held_shapes}

pub first_dropped : (ps : List Part) (k : ℕ) → slice_get ps k ≡ first_part (drop k ps)
first_dropped [] zero = refl
first_dropped [] (suc k) = refl
first_dropped (p ∷ ps) zero = refl
first_dropped (p ∷ ps) (suc k) = first_dropped ps k

others_dropped : (ps : List Part) (k : ℕ) → other_parts (drop k ps) ≡ drop (suc k) ps
others_dropped [] zero = refl
others_dropped [] (suc k) = refl
others_dropped (p ∷ ps) zero = refl
others_dropped (p ∷ ps) (suc k) = others_dropped ps k

pub streams_step : (s : Sight) (ms : List Mode) (gs : List Part) (j : ℕ) (v : Named) (vs rest : List Named) (old new all : List Formula)
    → vs ≡ v ∷ rest → new ≡ old ++ stream_here s ms v (first_part (drop j gs)) → old ++ streams_here s ms vs (drop j gs) ≡ all
    → new ++ streams_here s ms rest (drop (j + 1) gs) ≡ all
streams_step s ms gs j v vs rest old new all e n h =
    let more : j + 1 ≡ suc j = omega arith in
    ap (λ z. z ++ streams_here s ms rest (drop (j + 1) gs)) n
    ∙ (append_assoc old (stream_here s ms v (first_part (drop j gs))) (streams_here s ms rest (drop (j + 1) gs))
    ∙ (ap (λ k. old ++ (stream_here s ms v (first_part (drop j gs)) ++ streams_here s ms rest (drop k gs))) more
    ∙ (ap (λ z. old ++ (stream_here s ms v (first_part (drop j gs)) ++ streams_here s ms rest z)) (sym (others_dropped gs j))
    ∙ (ap (λ z. old ++ streams_here s ms z (drop j gs)) (sym e) ∙ h))))

-- where there are no defaults nothing is held
pub no_shapes : (os : List Output) → held_shapes os [] ≡ []
no_shapes [] = refl
no_shapes (o ∷ os) = refl

pub empty : {A : Type 0} (xs : List A) → length xs ≡ 0 → xs ≡ []
empty [] e = refl
empty (x ∷ xs) e = absurd (omega (arith, e))
