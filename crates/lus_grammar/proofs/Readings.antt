-- A reading is what is promised of it.
use Rattle.std.proofs.Common.{◌≡◌, ℕ, ◌+◌, ◌<◌, ◌≤◌, arith, true, None}
use Rattle.lus_grammar.specs.Stream.{Stream}
use Rattle.lus_grammar.specs.Phrase.{Phrase}
use Rattle.lus_grammar.specs.Syntax.{Counts, Syntax}
use Rattle.lus_grammar.specs.Run.{Cause, unexpected, too_large, Run, read, stop}
use Rattle.lus_grammar.specs.Reading.{Whole, Stuck, Large, Stops}
use Rattle.lus_grammar.proofs.Fits.{fits}
use Rattle.lus_grammar.proofs.Texts.{agree_to, moved, weaker}
use Rattle.lus_grammar.proofs.Promise.{Parts, After, same, parts, Reads, Sticks}
use Rattle.lus_grammar.proofs.Possible.{put, put_here, put_before}
use Rattle.lus_grammar.proofs.Ended.{end_ends, ended, ended_text, ended_ends, ended_agree}
use Rattle.lus_grammar.proofs.Read.{reads}
use Rattle.lus_grammar.proofs.Stick.{sticks}

not_after : {s t : Stream} {j : ℕ} {m : Counts} {x : Syntax} {j' : ℕ} {m' : Counts} {x' : Syntax} → After s t j m x j' m' x' → j < j' → t j ≡ s j → ⊥
not_after same lt e = omega (arith, lt)
not_after (parts p) lt e = p.other e

module _ {limit : ℕ} {s : Stream} {g : Phrase} {i : ℕ} {n : Counts} where
  of_reads : {j : ℕ} {m : Counts} {x : Syntax} → Reads limit s g i n j m x → Whole limit s g i n j m x
  of_reads {j = j} r = record {
    text = r.text j;
    no_more = λ b. not_after (r.only (ended b) 0 b.j b.m b.x (agree_to j (ended_agree b) (omega arith)) (ended_text b) (ended_ends b))
        (omega (arith, b.past)) (ended_agree b j (omega arith));
  }

  module _ (k : ℕ) where
    stuck : Sticks limit s g i n unexpected k → Stuck limit s g i n k
    stuck r = record {
      can = r.begins;
      cannot = λ b. (r.none (ended b) 0 b.j b.m b.x (omega arith) (agree_to k (ended_agree b) (omega arith)) (ended_text b)
          (ended_ends b)).other (ended_agree b k (omega arith));
      unfinished = λ m x d.
          let t = put s k None in
          let p : Parts s t k k = r.none t 0 k m x (omega arith) (put_before s k None) (moved t d (put_before s k None)) (end_ends t g k (put_here s k None)) in
          omega (arith, p.further);
    }

    large : Sticks limit s g i n too_large k → Large limit s g i n k
    large r =
        let b = r.begins in
        record {
          can = record { t = b.t; j = b.j; m = b.m; x = b.x; agree = agree_to k b.agree (omega arith); past = omega (arith, b.past); text = b.text };
          could = record { t = b.t; j = b.j; m = b.m; x = b.x; agree = b.agree; past = b.past; text = weaker 0 (omega arith) b.text };
          cannot = λ b. (r.none (ended b) (k + 1) b.j b.m b.x (omega arith) (ended_agree b) (ended_text b) (ended_ends b)).other
              (ended_agree b k (omega arith));
        }

    of_sticks : (c : Cause) → Sticks limit s g i n c k → Stops limit s g i n c k
    of_sticks unexpected r = stuck r
    of_sticks too_large r = large r

  pub whole : {j : ℕ} {m : Counts} {x : Syntax} → Run limit s g i n (read j m x) → fits g ≡ true → Whole limit s g i n j m x
  whole d f = of_reads (reads d f)

  pub stopped : (c : Cause) (k : ℕ) → Run limit s g i n (stop c k) → 1 ≤ limit → fits g ≡ true → Stops limit s g i n c k
  stopped c k d l f = of_sticks k c (sticks d l f)
