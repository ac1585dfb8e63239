use Rattle.std.proofs.Common.{◌≡◌, ◌+◌, ℕ, List, length, map, ap, sym, ◌∙◌}
use Rattle.std.proofs.lemmas.List.{length-map}
use Rattle.lus_tree.specs.View.{contract_item_view, param_view}
use Rattle.lus_meaning.specs.Scene.{ghosts}
use Rattle.lus_streams.specs.Clocks.{clock_seen}
use Rattle.lus_limits.specs.Measured.{passes}
use Rattle.lus_streams.specs.Names.{names_view}
use Rattle.lus_limits.proofs.Measures.{presence_passed, streams_counted}
use Rattle.lus_limits.proofs.presence.presence.Goals as goal

as_many : {A B : Type 0} (f : A → B) (xs : List A) (ys : List B) → map f xs ≡ ys → length xs ≡ length ys
as_many f xs ys e = sym (length-map xs f) ∙ ap length e

pub returns : goal.returns
returns c =
    let i : ℕ = length c.inputs.result.now in
    let o : ℕ = length c.outputs.result.now in
    let l : ℕ = length c.locals.result.now in
    let g : ℕ = length (ghosts (map contract_item_view c.contract.result.now)) in
    c.cut.ensures ∙ c.steps-end.ensures 0 ∙ c.steps-behind-2.ensures (0 + i) ∙ c.steps-behind.ensures ((0 + i) + o)
    ∙ c.ghost_steps-behind.ensures (((0 + i) + o) + l)
    ∙ ap (λ s. passes ((((0 + i) + o) + l) + g) (names_view c.args.names) (clock_seen c.args.clock) s) c.leaf.ensures
    ∙ presence_passed (names_view c.args.names) (clock_seen c.args.clock) ((((0 + i) + o) + l) + g)
    (streams_counted (names_view c.args.names) i o l g (as_many param_view _ _ c.inputs.ensures) (as_many param_view _ _ c.outputs.ensures)
    (as_many param_view _ _ c.locals.ensures) (ap (λ cs. length (ghosts cs)) c.contract.ensures))
