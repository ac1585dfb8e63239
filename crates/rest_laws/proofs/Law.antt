-- The law of the slots on which the parts of an instant rest.
use Rattle.std.proofs.Common.{◌≡◌, ℕ, ◌<◌, true, List, ◌∷◌, ◌++◌, refl, sym, subst}
use Rattle.std.specs.Prelude.{Contains}
use Rattle.std.proofs.Math.Logic.{inl}
use Rattle.lus_tree.specs.Tree.{Component, Program}
use Rattle.lus_meaning.specs.Frame.{Frame}
use Rattle.lus_meaning.specs.Scene.{Instance}
use Rattle.lus_meaning.specs.Program.{instance_of}
use Rattle.lus_meaning.specs.Run.{IsRun}
use Rattle.lus_meaning.specs.Verdict.{throughout}
use Rattle.lus_meaning.specs.ClockFaults.{components}
use Rattle.lus_meaning.specs.Refusals.{IsChecked}
use Rattle.lus_meaning.proofs.Members.{IsIn, in_right}
use Rattle.lus_evaluation.specs.Part.{Part}
use Rattle.lus_evaluation.specs.Evaluation.{IsEvaluation}
use Rattle.lus_evaluation.specs.Past.{NonePast}
use Rattle.slot_sources.specs.Source.{Source}
use Rattle.slot_sources.specs.Sources.{sources_of, HasRanks}
use Rattle.row_laws.proofs.Ranks.{sources_have_ranks}
use Rattle.rest_laws.specs.Rests.{part_reads, RestsBefore, EachEvaluationRests}
use Rattle.rest_laws.proofs.Before as seen
use Rattle.rest_laws.proofs.Closure.{rested_on, rest_themselves, rest_further, rest_all}
use Rattle.rest_laws.proofs.Main.{in_set, closed, in_parts, rests}

module _ (p : Program) (c : IsChecked p) (n : Component) (j : Contains (components p) n) (qs : List Part) (ev : IsEvaluation (instance_of p n) qs) where
  abbrev i : Instance
  i = instance_of p n

  abbrev es : List Source
  es = sources_of i

  ranks : HasRanks es
  ranks = sources_have_ranks p c n j

  before : (m : ℕ) (f : Frame) → IsRun i m throughout f → (t : ℕ) → t < m → (front : List Part) (q : Part) (rest : List Part) → qs ≡ front ++ q ∷ rest →
      NonePast i f front t → RestsBefore i f t (in_set p c n j qs ev) q
  before m f run t l front q rest e none = record {
    done = rested_on es ranks (part_reads i q);
    inside = rest_all es ranks (λ k. in_set p c n j qs ev k ≡ true) (λ k s h g. (closed p c n j qs ev).now k s h g) (part_reads i q)
        (in_parts p c n j qs ev q (subst (IsIn q) (sym e) (in_right q front (q ∷ rest) (inl refl))));
    reads = rest_themselves es ranks (part_reads i q);
    now = rest_further es ranks (part_reads i q);
    within = λ k s h g. (seen.source_seen p c n j qs ev m f run t l front q rest e none k s h
        (rest_all es ranks (seen.R p c n j qs ev m f run t l front q rest e none)
        (λ k s h g. (seen.source_seen p c n j qs ev m f run t l front q rest e none k s h g).0) (part_reads i q)
        (seen.own_reads p c n j qs ev m f run t l front q rest e none) k g)).1;
  }

pub each_evaluation_rests : EachEvaluationRests
each_evaluation_rests p c n j qs ev = rests p c n j qs ev (before p c n j qs ev)
