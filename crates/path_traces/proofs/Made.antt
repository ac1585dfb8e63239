-- What a walk over all frames makes is the trace of the states.
use Rattle.std.proofs.Common.{◌≡◌, ℕ, ◌<◌, List, [], ◌∷◌, ◌++◌, map, length, refl, sym, ap, ◌∙◌, arith, Result, Ok, Err, IfOk, Vec}
use Rattle.std.specs.declared.alloc.Global.{Global}
use Rattle.std.specs.Prelude.{Contains}
use Rattle.lus_tree.specs.Tree.{Variable, Component, Program}
use Rattle.lus_meaning.specs.declared.trace.TraceLine.{TraceLine}
use Rattle.lus_meaning.specs.ClockFaults.{components}
use Rattle.lus_meaning.specs.Program.{instance_of}
use Rattle.lus_meaning.specs.Refusals.{IsChecked}
use Rattle.lus_meaning.specs.Scene.{plain}
use Rattle.lus_meaning.specs.Slots.{width}
use Rattle.lus_meaning.specs.Trace.{free_names}
use Rattle.lus_meaning.specs.TraceView.{bare_line, bare_view, line_view}
use Rattle.lus_limits.specs.declared.calls.Way.TheVariants.{Plain}
use Rattle.sys_terms.specs.declared.term.Entry.{Entry}
use Rattle.sys_terms.specs.Paths.{IsPath}
use Rattle.sys_meaning.specs.Path.{trace_of}
use Rattle.sys_meaning.specs.System.{system_of}
use Rattle.path_traces.specs.Plans.{Plan, plan_of}
use Rattle.path_traces.specs.Walked.{walk}
use Rattle.path_traces.proofs.Walks.{counted_at, widths, trace_so}

bare_lines : (ls : List TraceLine) → map bare_line (map line_view ls) ≡ map bare_view ls
bare_lines [] = refl
bare_lines (l ∷ ls) = ap (λ ks. bare_view l ∷ ks) (bare_lines ls)

module _ (p : Program) (c : IsChecked p) (d : Component) (j : Contains (components p) d) (states : List (List Entry)) (ps : List Plan) (q : Plan) (f : ℕ)
    (plans : ps ≡ map plan_of (components p)) (plan : q ≡ plan_of d) (deep : f ≡ length p) where
  pub room_so : (m : ℕ) → width (instance_of p d) < m → (walk states ps f).width Plain q < m
  room_so m l =
      within (width (instance_of p d)) ((walk states ps f).width Plain q) m
      (widths p c states (length p) d (counted_at p c d j) plain []
      ∙ ap (λ ps. (walk states ps (length p)).width Plain (plan_of d)) (sym plans) ∙ ap (λ f. (walk states ps f).width Plain (plan_of d)) (sym deep)
      ∙ ap ((walk states ps f).width Plain) (sym plan)) l
    where
      within : (w v m : ℕ) → w ≡ v → w < m → v < m
      within w v m e l = omega (arith, e, l)

  pub lines_so : {E : Type 0} (r : Result (Vec TraceLine Global) E) (us : List Variable) → us ≡ d.inputs
      → IfOk r (λ v. map bare_view v.items ≡ (walk states ps f).lines Plain [] 0 (us ++ q.free) q)
      → IfOk r (λ v. IsPath (system_of (instance_of p d)) states → map bare_line (map line_view v.items) ≡ trace_of (instance_of p d) states)
  lines_so (Ok v) us listed h = λ path.
      bare_lines v.items ∙ h ∙ ap (λ us. (walk states ps f).lines Plain [] 0 (us ++ q.free) q) listed
      ∙ ap (λ q. (walk states ps f).lines Plain [] 0 (d.inputs ++ q.free) q) plan
      ∙ ap (λ ps. (walk states ps f).lines Plain [] 0 (d.inputs ++ free_names d) (plan_of d)) plans
      ∙ ap (λ f. (walk states (map plan_of (components p)) f).lines Plain [] 0 (d.inputs ++ free_names d) (plan_of d)) deep
      ∙ sym (trace_so p c states d j path)
  lines_so (Err e) us listed h = tt
