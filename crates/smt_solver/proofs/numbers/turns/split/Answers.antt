use Rattle.std.specs.Int.{w128}
use Rattle.std.specs.Prelude.{◌≡◌, ◌+◌, suc, [], ◌∷◌, ◌++◌, List, length, map}
use Rattle.std.proofs.Common.{rules, sym, subst, ap, ◌∙◌, arith}
use Rattle.std.proofs.lemmas.List.{map-append, length-map}
use Rattle.std.proofs.lemmas.Int.{to_z-of_z}
use mir.Val.{SFits}
use Rattle.proof_steps.specs.View.{Inequality, added, atom_view, step_view}
use Rattle.proof_steps.specs.Bounds.{split_atom}
use Rattle.sat_core.specs.Shown.{Adds}
use Rattle.smt_solver.specs.Conflicting.{AreMeaningsOf}
use Rattle.smt_solver.specs.Growing.{IsTaken, grown, split_move}
use Rattle.smt_solver.specs.Run.{IsRun, work_view}
use Rattle.smt_solver.specs.Turning.{IsSplitOff}
use Rattle.smt_solver.proofs.SplittingOff.{a_meaning, near-within, near-opposite, split-meanings, four}
use Rattle.smt_solver.proofs.numbers.turns.split.Goals as goal

pub take_step-requires-clause-run : goal.take_step-requires-clause-run
take_step-requires-clause-run c =
    let w : SFits w128 c.args.c = search rules in
    let s = work_view c.args.work.now in
    let e : map atom_view c.push-2.new.self.items ≡ s.form.atoms ++ split_atom (c.args.x, c.args.c) ∷ [] =
    ap (map atom_view) c.in_ok-push-2.ensures.items
    ∙ map-append atom_view c.args.work.now.cnf.atoms.items (c.in_ok-atom.atom ∷ [])
    ∙ ap (λ (i : Inequality). s.form.atoms ++ i ∷ []) c.in_ok-atom.ensures
    ∙ ap (λ z. s.form.atoms ++ split_atom (c.args.x, z) ∷ []) (to_z-of_z w128 c.args.c w) in
    subst
    (λ (atoms : List Inequality). IsRun record {
      form = record { shapes = s.form.shapes; atoms = atoms; clauses = s.form.clauses };
      search = s.search;
      moves = s.moves;
      listed = s.listed;
    }) (sym e) (c.runs_grow.ensures s (split_atom (c.args.x, c.args.c) ∷ []) c.requires.run)

pub take_step-requires-clause-taken : goal.take_step-requires-clause-taken
take_step-requires-clause-taken c =
    let w : SFits w128 c.args.c = search rules in
    let s = work_view c.args.work.now in
    let e : map atom_view c.push-2.new.self.items ≡ s.form.atoms ++ split_atom (c.args.x, c.args.c) ∷ [] =
    ap (map atom_view) c.in_ok-push-2.ensures.items
    ∙ map-append atom_view c.args.work.now.cnf.atoms.items (c.in_ok-atom.atom ∷ [])
    ∙ ap (λ (i : Inequality). s.form.atoms ++ i ∷ []) c.in_ok-atom.ensures
    ∙ ap (λ z. s.form.atoms ++ split_atom (c.args.x, z) ∷ []) (to_z-of_z w128 c.args.c w) in
    let l : length s.form.atoms ≡ length c.args.work.now.cnf.atoms.items = length-map c.args.work.now.cnf.atoms.items atom_view in
    let n : c.len-count.result ≡ length c.args.work.now.cnf.atoms.items = c.len-count.ensures ∙ c.args.work.now.cnf.atoms.ok.0 in
    let k : suc (length s.form.atoms) ≡ c.len-count.result + 1 = omega arith in
    subst
    (λ (atoms : List Inequality). IsTaken record {
      form = record { shapes = s.form.shapes; atoms = atoms; clauses = s.form.clauses };
      search = s.search;
      moves = s.moves;
      listed = s.listed;
    } (step_view c.in_ok-step.step)) (sym e)
    (subst (IsTaken record {
      form = grown s.form (split_atom (c.args.x, c.args.c) ∷ []);
      search = s.search;
      moves = s.moves;
      listed = s.listed;
    }) (ap (λ j. split_move j c.args.x c.args.c) k ∙ sym (c.in_ok-step.ensures c.args.x c.args.c))
    (c.splits_are_taken.ensures s c.args.x c.args.c c.requires.plain c.requires.number
    (near-within c.args.c c.requires.low c.requires.high) (near-opposite c.args.c c.requires.low c.requires.high)))

pub returns-clause-split : goal.returns-clause-split
returns-clause-split c =
    let w : SFits w128 c.args.c = search rules in
    let s = work_view c.args.work.now in
    let t = work_view c.take_step.new.work in
    let e : map atom_view c.push-2.new.self.items ≡ s.form.atoms ++ split_atom (c.args.x, c.args.c) ∷ [] =
    ap (map atom_view) c.in_ok-push-2.ensures.items
    ∙ map-append atom_view c.args.work.now.cnf.atoms.items (c.in_ok-atom.atom ∷ [])
    ∙ ap (λ (i : Inequality). s.form.atoms ++ i ∷ []) c.in_ok-atom.ensures
    ∙ ap (λ z. s.form.atoms ++ split_atom (c.args.x, z) ∷ []) (to_z-of_z w128 c.args.c w) in
    let l : length s.form.atoms ≡ length c.args.work.now.cnf.atoms.items = length-map c.args.work.now.cnf.atoms.items atom_view in
    let n : c.len-count.result ≡ length c.args.work.now.cnf.atoms.items = c.len-count.ensures ∙ c.args.work.now.cnf.atoms.ok.0 in
    let k : suc (length s.form.atoms) ≡ c.len-count.result + 1 = omega arith in
    four (IsRun t)
    (t.form ≡ record { shapes = s.form.shapes; atoms = map atom_view c.push-2.new.self.items; clauses = s.form.clauses })
    (t.listed ≡ s.listed) (Adds s.search t.search (added (step_view c.in_ok-step.step)))
    (IsSplitOff c.args.x c.args.c s t c.push.new.self.items) c.take_step.result
    (λ run form listed search.
    let g : t.form ≡ grown s.form (split_atom (c.args.x, c.args.c) ∷ []) =
    form ∙ ap (λ (atoms : List Inequality). record { shapes = s.form.shapes; atoms = atoms; clauses = s.form.clauses }) e in
    record {
      run = run;
      form = g;
      listed = listed;
      search = subst (λ m. Adds s.search t.search (added m))
          (c.in_ok-step.ensures c.args.x c.args.c ∙ ap (λ j. split_move j c.args.x c.args.c) (sym k)) search;
      meanings = subst (λ f. AreMeaningsOf f c.push.new.self.items) (sym g)
          (subst (AreMeaningsOf (grown s.form (split_atom (c.args.x, c.args.c) ∷ []))) (sym c.in_ok-push.ensures.items)
          (split-meanings s.form c.args.meanings.now.items c.args.x c.args.c _ c.requires.meanings
          (ap (λ z. a_meaning c.args.x z) (to_z-of_z w128 c.args.c w))));
    })
    c.take_step.ensures.run c.take_step.ensures.form c.take_step.ensures.listed c.take_step.ensures.search
