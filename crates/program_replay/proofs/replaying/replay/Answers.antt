use Rattle.std.proofs.Common.{rules, ◌≡◌, ℕ, Some, None, sym, subst}
use Rattle.lus_checked.specs.Program.{tree_of}
use Rattle.lus_tree.specs.View.{program_view}
use Rattle.lus_meaning.specs.Fits.{FitsProgram}
use Rattle.lus_meaning.specs.Program.{instance_of}
use Rattle.lus_meaning.specs.Refusals.{IsWithinLimits}
use Rattle.lus_meaning.specs.TraceView.{lines_of, trace_view}
use Rattle.trace_fits.specs.Given.{given_at}
use Rattle.trace_fits.specs.Views.{fitted_at}
use Rattle.program_replay.specs.Named.{numbers_from}
use Rattle.program_replay.specs.NamedView.{named_view}
use Rattle.program_replay.proofs.Numbers.{found_from}
use Rattle.program_replay.proofs.Joined.{unnamed_misfit}
use Rattle.program_replay.proofs.replaying.replay.Goals as goal

pub replay_node-requires : goal.replay_node-requires
replay_node-requires c =
    let p = tree_of c.args.checked.now in
    let q = program_view c.program-program.result.now in
    let t = trace_view c.args.trace.now in
    let m = named_view c.in-Some.named in
    let there : Some m ≡ numbers_from 0 0 t.node p = search rules in
    let found : Some m ≡ numbers_from 0 0 t.node q = search rules in
    record {
      found = there;
      fits = subst (λ p. FitsProgram p t) c.program-program.ensures.same c.in_ok-fitted-in-Some.ensures.fits;
      listed = subst (λ p. (k n : ℕ) → fitted_at c.in_ok-fitted-in-Some.fitted k n ≡ given_at (instance_of p m.node) (lines_of t) k n) c.program-program.ensures.same
          (c.in_ok-fitted-in-Some.ensures.listed m.node (found_from 0 0 t.node q m (sym found)).named);
    }

pub fitted-requires-clause-within : goal.fitted-requires-clause-within
fitted-requires-clause-within c = subst (λ p. IsWithinLimits p None) (sym c.program-program.ensures.same) c.program-program.ensures.within

pub returns-in-None : goal.returns-in-None
returns-in-None c =
    let p = tree_of c.args.checked.now in
    let t = trace_view c.args.trace.now in
    let e : None ≡ numbers_from 0 0 t.node p = search rules in
    record { fits = tt; shows = tt; fault = unnamed_misfit p t e }
