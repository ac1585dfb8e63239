use Rattle.std.proofs.Common.{rules, ◌≡◌, ◌++◌, ◌∷◌, ◌+◌, [], ◌∙◌, subst, sym, ap}
use Rattle.std.specs.Prelude.{Some, None}
use Rattle.sys_terms.specs.View.{term_view}
use Rattle.cert_rules.specs.declared.cited.Cited.{Cited}
use Rattle.cert_rules.specs.View.{cited_view, cites_view}
use Rattle.board_core.specs.View.{news_view, statement_view}
use Rattle.kind_engine.specs.Lemmas.{AreLemmas, told_term}
use Rattle.kind_engine.proofs.Lists.{map-push}
use Rattle.kind_engine.proofs.Citing.{lemmas-skip, lemmas-take}
use Rattle.kind_engine.proofs.lemmas.with_news.Goals as goal

pub returns-in_ok-push-in-Some-clause-lemmas : goal.returns-in_ok-push-in-Some-clause-lemmas
returns-in_ok-push-in-Some-clause-lemmas c =
    let front = c.args.lemmas.front in
    let cites = c.args.lemmas.cites.items in
    let term = c.in-Some.term in
    let at : c.args.news.place ≡ front = search rules in
    let said : told_term (statement_view c.args.news.statement) ≡ Some (term_view term) =
    sym (rw c.in-Some.is at c.told_lemma.ensures) in
    let one : Cited = record { place = c.args.news.place; term = term } in
    let e : c.push.new.self.items ≡ cites ++ one ∷ [] = search rules in
    let same : cited_view one ≡ record { place = front; term = term_view term } =
    ap (λ n. record { place = n; term = term_view term }) at in
    λ m plan history sound told h.
    subst (AreLemmas m history (front + 1))
    (sym (ap cites_view e ∙ (map-push cited_view cites one ∙ ap (λ x. cites_view cites ++ x ∷ []) same)))
    (lemmas-take m plan history sound front (cites_view cites) h (news_view c.args.news) told at (term_view term) said)

pub returns-in-None-clause-lemmas : goal.returns-in-None-clause-lemmas
returns-in-None-clause-lemmas c =
    let front = c.args.lemmas.front in
    let at : c.args.news.place ≡ front = search rules in
    let said : told_term (statement_view c.args.news.statement) ≡ None =
    sym (rw c.in-None.is at c.told_lemma.ensures) in
    λ m plan history sound told h.
    lemmas-skip m plan history sound front (cites_view c.args.lemmas.cites.items) h (news_view c.args.news) told at said
