-- A checked declaration has a rank, and so at most one run for given choices.
use Rattle.std.proofs.Common.{suc, List, length, sym, subst, Some}
use Rattle.std.specs.Prelude.{Contains}
use Rattle.lus_tree.specs.Tree.{Component, Program}
use Rattle.lus_meaning.specs.Scene.{Instance}
use Rattle.lus_meaning.specs.Program.{instance_of}
use Rattle.lus_meaning.specs.Cycle.{Place, last_place}
use Rattle.lus_meaning.specs.ClockFaults.{components}
use Rattle.lus_meaning.specs.Refusals.{IsChecked}
use Rattle.lus_meaning.proofs.Equal.{unique_run}
use Rattle.lus_meaning.proofs.NamesOnce.{instance_named}
use Rattle.lus_meaning.proofs.Ranked.{as_rank, ranked_from}
use Rattle.lus_meaning.proofs.Stable.{rounds}
use Rattle.lus_meaning.proofs.UniqueFrame.{exists_run}
use Rattle.rule_laws.proofs.Unfolded.{component_within, each_unfolded}
use Rattle.clock_laws.specs.Laws.{HasRank, NothingNeedsItself, EachHasRank, OneRunAtMost, ComputedRuns}
use Rattle.clock_laws.proofs.AllPlaces.{all_places}
use Rattle.clock_laws.proofs.Circles.{no_circle}
use Rattle.clock_laws.proofs.Made.{each_well_made}
use Rattle.clock_laws.proofs.Ranks.{rank_here, rank_lowers, rank_bound}
use Rattle.clock_laws.proofs.Reaching.{RouteOf, way_routes}

never : (p : Program) → IsChecked p → (n : Component) → Contains (components p) n → (q : Place) (ms : List Place) → RouteOf (instance_of p n) q ms q → ⊥
never p c n j = no_circle p c (instance_of p n) (each_unfolded p c n j) (subst (Contains (components p)) (sym (component_within _ p n)) j)

pub nothing_needs_itself : NothingNeedsItself
nothing_needs_itself p c n j q s ws w e =
    let r : (ms : List Place) × RouteOf (instance_of p n) q ms (last_place s.1 ws) = way_routes (instance_of p n) q s ws w in
    never p c n j q r.0 (subst (λ z. RouteOf (instance_of p n) q r.0 z) e r.1)

pub each_has_rank : EachHasRank
each_has_rank p c n j =
    let i : Instance = instance_of p n in
    record {
      rank = as_rank (rank_here i);
      ranked = ranked_from i (rank_here i) (rank_lowers i (never p c n j));
      bound = suc (suc (length (all_places i)));
      below = λ ks x. rank_bound i (ks, Some x);
    }

pub one_run_at_most : OneRunAtMost
one_run_at_most p c n j m b f g =
    let h : HasRank (instance_of p n) = each_has_rank p c n j in
    unique_run (instance_of p n) h.rank h.ranked (instance_named p c.rules.clocked.typed n j _) m b f g

pub computed_runs : ComputedRuns
computed_runs p c n j m b x h =
    let r : HasRank (instance_of p n) = each_has_rank p c n j in (
      rounds r.bound m,
      exists_run (instance_of p n) r.rank r.ranked r.bound r.below m b x (each_well_made p c n j m x h),
    )
