-- The limit is passed where a reading of a line, over marks that are the same up to the token past the limit, goes past it.
use Rattle.std.proofs.Common.{◌≡◌, ℕ, ◌+◌, ◌<◌, ◌≤◌, refl, sym, ◌∙◌, subst, arith, false}
use Rattle.lus_grammar.specs.Stream.{Stream, Agree}
use Rattle.lus_grammar.specs.Phrase.{Part}
use Rattle.lus_grammar.specs.Grammar.{body}
use Rattle.lus_grammar.specs.Syntax.{Counts, Syntax}
use Rattle.lus_grammar.specs.Starts.{code, listed}
use Rattle.lus_grammar.specs.Extends.{Over, extends}
use Rattle.lus_grammar.specs.Run.{Cause, Run, read, stop}
use Rattle.lus_grammar.proofs.Fits.{Ends, body_fits}
use Rattle.lus_grammar.proofs.Texts.{ordered, moved, weaker, short_within}
use Rattle.lus_grammar.proofs.Promise.{Parts, After, same, parts, least, reaches}
use Rattle.lus_grammar.proofs.Read.{reads}
use Rattle.lus_grammar.proofs.Stick.{sticks}

-- the same marks the other way
agree_back : (s c : Stream) (k j : ℕ) → Agree s c k → j ≤ k → Agree s c j
agree_back s c k j h le x lt = h x (omega arith)

ends_there : (s c : Stream) (p : Part) (end j : ℕ) → Agree s c end → j < end → listed (code (s j).class) (extends (body p)) ≡ false → Ends c (body p) j
ends_there s c p end j h lt e = record { over = subst (λ z. listed (code z.class) (extends (body p)) ≡ false) (sym (h j lt)) e }

not_earlier : {c : Stream} {j j' : ℕ} {m m' : Counts} {x x' : Syntax} → After c c j m x j' m' x' → j' < j → ⊥
not_earlier same lt = omega (arith, lt)
not_earlier (parts q) lt = q.other refl

-- a text of s within the limit is one of c that ends there
module _ {limit : ℕ} {s c : Stream} {p : Part} {i : ℕ} {n : Counts} (h : Agree s c (i + limit + 1)) where
  -- it ends as read
  pub over_read : {j : ℕ} {m : Counts} {x : Syntax} → Run limit c (body p) i n (read j m x) → i + limit < j → Over limit s p i n
  over_read {j = j} {m = m} {x = x} d lt =
      let r = reads d (body_fits p) in
      record {
        t = c;
        j = j;
        m = m;
        x = x;
        agree = h;
        past = omega arith;
        text = r.text (i + limit);
        none = λ j' m' x' le e v. not_earlier (r.only c 0 j' m' x' (λ y q. refl)
            (moved c e (agree_back s c (i + limit + 1) j' h (omega arith))) (ends_there s c p (i + limit + 1) j' h (omega arith) v))
            (omega arith);
      }

  -- it stops
  pub over_stop : {w : Cause} {k : ℕ} → 1 ≤ limit → Run limit c (body p) i n (stop w k) → i + limit < k → Over limit s p i n
  over_stop {w = w} {k = k} l d lt =
      let r = sticks d l (body_fits p) in
      let b = r.begins in
      let u = reaches w k in
      record {
        t = b.t;
        j = b.j;
        m = b.m;
        x = b.x;
        agree = λ y q. b.agree y (omega arith) ∙ h y q;
        past = omega (arith, b.past);
        text = weaker (i + limit) (omega arith) b.text;
        none = λ j' m' x' le e v.
            let o = ordered e in
            let q : Parts c c k j' = r.none c (least w k) j' m' x' (omega arith) (λ y q. refl)
            (short_within limit (least w k) i (omega arith) le (moved c e (agree_back s c (i + limit + 1) j' h (omega arith))))
            (ends_there s c p (i + limit + 1) j' h (omega arith) v) in
            q.other refl;
      }
