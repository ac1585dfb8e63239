-- A step of the walk.
use Rattle.std.proofs.Common.{◌≡◌, ℕ, suc, ◌+◌, List, ◌∷◌, ◌++◌, append_assoc, sym, ap, ◌∙◌, arith}
use Rattle.std.specs.Prelude.{slice_get}
use Rattle.sys_texts.specs.Sights.{Sight}
use Rattle.sys_tables.specs.Tabled.{Linked, Tabled}
use Rattle.slot_sources.specs.Source.{Source}
use Rattle.frame_sources.specs.Resolved.{Asked}
use Rattle.frame_sources.specs.Walked.{SourcesOf, call_sources_or_none, calls_sources}

pub calls_step : (f : SourcesOf) (ts : List Tabled) (s : Sight) (ms : List Asked) (from j : ℕ) (q : Linked) (qs rest : List Linked) (old new all : List Source)
    → qs ≡ q ∷ rest → new ≡ old ++ call_sources_or_none f ts s ms from q (slice_get s.calls j)
    → old ++ calls_sources f ts s ms from j qs ≡ all → new ++ calls_sources f ts s ms from (j + 1) rest ≡ all
calls_step f ts s ms from j q qs rest old new all e n h =
    let more : j + 1 ≡ suc j = omega arith in
    ap (λ z. z ++ calls_sources f ts s ms from (j + 1) rest) n
    ∙ (append_assoc old (call_sources_or_none f ts s ms from q (slice_get s.calls j)) (calls_sources f ts s ms from (j + 1) rest)
    ∙ (ap (λ k. old ++ (call_sources_or_none f ts s ms from q (slice_get s.calls j) ++ calls_sources f ts s ms from k rest)) more
    ∙ (ap (λ z. old ++ calls_sources f ts s ms from j z) (sym e) ∙ h)))
