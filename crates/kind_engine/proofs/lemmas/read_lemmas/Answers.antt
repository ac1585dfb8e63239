use Rattle.std.proofs.Common.{rules, arith, ◌≡◌, ◌∷◌, length, map, suc, ◌∙◌, subst, sym, ap}
use Rattle.std.specs.List.{AllByRecursion}
use Rattle.std.specs.Vec.Iter.{into_iter_items, into_iter_len}
use Rattle.cert_rules.specs.View.{cites_view}
use Rattle.board_core.specs.Entries.{AreSound}
use Rattle.board_core.specs.View.{news_view}
use Rattle.kind_engine.specs.Lemmas.{AreLemmas, IsToldOf}
use Rattle.kind_engine.proofs.Citing.{all-told, lemmas-later, IsLeft, left-all, left-next, left-none}
use Rattle.kind_engine.proofs.lemmas.read_lemmas.Goals as goal

pub loop-entry-init : goal.loop-entry-init
loop-entry-init g c =
    let b = g.B.BoardSeat in
    let before = b.seen c.args.seat.now in
    let after = b.seen c.read.new.self in
    let front = b.front c.args.seat.now in
    let cites = cites_view c.args.lemmas.cites.items in
    let e = c.in_ok-news.ensures in
    let items : into_iter_items c.into_iter-entry-iterator.result ≡ c.in_ok-news.news.items = search rules in
    let told = c.into_iter-entry-iterator.result in
    let long : into_iter_len told ≡ length (into_iter_items told) =
    search (rules, arith) in
    record {
      lemmas = subst (λ m. AreLemmas m after c.args.lemmas.front cites) (sym e.same.1)
          (lemmas-later (b.machine c.args.seat.now) before after c.args.lemmas.front cites (e.seen.others, e.seen.all)
          c.requires.known);
      told = subst (AllByRecursion (IsToldOf after)) (sym (ap (map news_view) items ∙ e.news)) (all-told after front);
      left = λ l.
          subst (IsLeft (length after) c.args.lemmas.front) (sym (ap (map news_view) items ∙ e.news))
          (left-all after front c.args.lemmas.front l);
      rest = long;
    }

pub loop-entry-preserved : goal.loop-entry-preserved
loop-entry-preserved g c =
    let b = g.B.BoardSeat in
    let seat = c.read.new.self in
    let seen = b.seen seat in
    let m = b.machine seat in
    let at = c.loop-entry in
    let v = at.invariant in
    let e = c.in_ok-news.ensures in
    let rest = into_iter_items c.next.new.self in
    let steps : into_iter_items at.entry-iterator ≡ c.in-Some.entry ∷ rest = c.in-Some.ensures.steps.0 in
    let told = subst (λ l. AllByRecursion (IsToldOf seen) (map news_view l)) steps v.told in
    let long : length (into_iter_items at.entry-iterator) ≡ suc (length rest) = ap length steps in
    record {
      lemmas = c.in_ok-lemmas.ensures.lemmas m (b.plan c.args.seat.now) seen
          (subst (λ k. AreSound k (b.plan c.args.seat.now) seen) (sym e.same.1) e.sound) told.0 v.lemmas;
      told = told.1;
      left = λ l.
          let now' = subst (λ es. IsLeft (length seen) at.lemmas.front (map news_view es)) steps (v.left l) in
          let next = left-next (length seen) at.lemmas.front (news_view c.in-Some.entry) (map news_view rest) now' in
          next.1 c.in_ok-lemmas.lemmas.front (c.in_ok-lemmas.ensures.taken next.0);
      rest = let k = v.rest in let s = c.in-Some.ensures.steps.1 in omega (arith, long, k, s);
    }

pub returns-clause-taken : goal.returns-clause-taken
returns-clause-taken g c =
    let seen = g.B.BoardSeat.seen c.read.new.self in
    let at = c.loop-entry in
    let v = at.invariant in
    let none : length (into_iter_items at.entry-iterator) ≡ 0 = let k = v.rest in search (rules, arith) in
    λ l. left-none (length seen) at.lemmas.front (into_iter_items at.entry-iterator) none (v.left l)
