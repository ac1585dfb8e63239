use Rattle.std.proofs.Common.{rules, arith, ◌≡◌, ◌<◌, ◌^◌, true, length, subst, sym}
use Rattle.std.specs.Prelude.{List, All, Some}
use Rattle.sys_terms.specs.declared.term.State.{State}
use Rattle.sys_terms.specs.View.{system_view, state_view, states_view}
use Rattle.kind_engine.specs.Looks.{are_narrow}
use Rattle.kind_engine.specs.Larges.{IsLeast}
use Rattle.kind_engine.proofs.Lists.{length-map}
use Rattle.kind_engine.proofs.Narrowing.{all-narrow, few-values}
use Rattle.kind_engine.proofs.looking.broken.Goals as goal

pub large_value-requires-clause-states : goal.large_value-requires-clause-states
large_value-requires-clause-states c =
    let path = c.args.path.items in
    let same : c.deref.result.now ≡ path = search rules in
    let long = length-map state_view path in
    let n = c.requires.answer.count in
    let w = c.requires.within in
    let d = c.requires.ready.ranges.depth.1 in
    subst (λ (l : List State). length l < 2 ^ 32) (sym same) (omega (arith, long, n, w, d))

pub large_value-requires-clause-values : goal.large_value-requires-clause-values
large_value-requires-clause-values c =
    let path = c.args.path.items in
    let same : c.deref.result.now ≡ path = search rules in
    subst (λ (l : List State). All (λ (s : State). length s.values.items < 2 ^ 32) l) (sym same)
    (few-values (system_view c.args.subject.now.system) path c.requires.ready.few c.requires.answer.path.loose.each)

pub returns-in-None : goal.returns-in-None
returns-in-None c =
    let path = c.args.path.items in
    let same : c.deref.result.now ≡ path = search rules in (
      c.requires.answer,
      all-narrow (states_view path)
          (subst (λ (l : List State). are_narrow (states_view l) ≡ true) same (rw c.in-None.is at c.large_value.ensures)),
    )

pub narrowed-requires-clause-large : goal.narrowed-requires-clause-large
narrowed-requires-clause-large c =
    let path = c.args.path.items in
    let same : c.deref.result.now ≡ path = search rules in
    (subst (λ (l : List State). IsLeast (states_view l) (Some c.in-Some.large)) same
    (rw c.in-Some.is at c.large_value.ensures)).0

pub narrowed-requires-clause-first : goal.narrowed-requires-clause-first
narrowed-requires-clause-first c =
    let path = c.args.path.items in
    let same : c.deref.result.now ≡ path = search rules in
    (subst (λ (l : List State). IsLeast (states_view l) (Some c.in-Some.large)) same
    (rw c.in-Some.is at c.large_value.ensures)).1
