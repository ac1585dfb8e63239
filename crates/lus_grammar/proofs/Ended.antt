-- Where there are no more tokens, every text ends.
use Rattle.std.proofs.Common.{◌≡◌, ℕ, sym, ◌∙◌, subst, arith, Bool, true, false, not, ◌==◌, List, [], ◌∷◌, ◌++◌, if◌then◌else◌, Option, Some, None, refl}
use Rattle.std.proofs.lemmas.Bool.{not-true, or_from}
use Rattle.lus_lexer.specs.declared.token.Class.{Class}
use Rattle.lus_grammar.specs.Stream.{Stream, Agree}
use Rattle.lus_grammar.specs.Phrase.{Phrase, one_of, counted, part, limited, fresh, ◌⨾◌, ◌∣◌, optional, repeated}
use Rattle.lus_grammar.specs.Syntax.{Counts}
use Rattle.lus_grammar.specs.Text.{Text}
use Rattle.lus_grammar.specs.Starts.{class_code, code, listed, codes_of, first_classes, may_be_nothing, starts}
use Rattle.lus_grammar.specs.Extends.{extends, next_classes}
use Rattle.lus_grammar.specs.Reading.{Begins}
use Rattle.lus_grammar.proofs.Classes.{every}
use Rattle.lus_grammar.proofs.Listed.{out_both}
use Rattle.lus_grammar.proofs.Fits.{Ends}
use Rattle.lus_grammar.proofs.Texts.{moved}
use Rattle.lus_grammar.proofs.Possible.{put, put_here, put_before}

abbrev not_end : Option Class → Bool
not_end None = true
not_end (Some c) = not (0 == class_code c)

no_end : (c : Class) → (0 == class_code c) ≡ false
no_end c = not-true _ (every not_end refl (Some c))

codes_not_end : (cs : List Class) → listed 0 (codes_of cs) ≡ false
codes_not_end [] = refl
codes_not_end (c ∷ cs) = or_from _ _ (no_end c) (codes_not_end cs)

first_if : (b : Bool) (xs ys : List ℕ) → listed 0 xs ≡ false → listed 0 ys ≡ false → listed 0 (if b then xs ++ ys else xs) ≡ false
first_if true xs ys h e = out_both xs ys 0 h e
first_if false xs ys h e = h

second_if : (b : Bool) (xs ys : List ℕ) → listed 0 xs ≡ false → listed 0 ys ≡ false → listed 0 (if b then xs ++ ys else ys) ≡ false
second_if true xs ys h e = out_both xs ys 0 h e
second_if false xs ys h e = e

pub starts_not_end : (g : Phrase) → listed 0 (starts g) ≡ false
starts_not_end (one_of cs) = codes_not_end cs
starts_not_end (counted k c) = codes_not_end (c ∷ [])
starts_not_end (part p) = codes_not_end (first_classes p)
starts_not_end (limited p) = codes_not_end (first_classes p)
starts_not_end (fresh p) = codes_not_end (first_classes p)
starts_not_end (a ⨾ b) = first_if (may_be_nothing a) (starts a) (starts b) (starts_not_end a) (starts_not_end b)
starts_not_end (a ∣ b) = out_both (starts a) (starts b) 0 (starts_not_end a) (starts_not_end b)
starts_not_end (optional a) = starts_not_end a
starts_not_end (repeated a) = starts_not_end a

pub extends_not_end : (g : Phrase) → listed 0 (extends g) ≡ false
extends_not_end (one_of cs) = refl
extends_not_end (counted k c) = refl
extends_not_end (part p) = codes_not_end (next_classes p)
extends_not_end (limited p) = codes_not_end (next_classes p)
extends_not_end (fresh p) = codes_not_end (next_classes p)
extends_not_end (a ⨾ b) = second_if (may_be_nothing b) (extends a) (extends b) (extends_not_end a) (extends_not_end b)
extends_not_end (a ∣ b) = out_both (extends a) (extends b) 0 (extends_not_end a) (extends_not_end b)
extends_not_end (optional a) = out_both (starts a) (extends a) 0 (starts_not_end a) (extends_not_end a)
extends_not_end (repeated a) = out_both (starts a) (extends a) 0 (starts_not_end a) (extends_not_end a)

pub end_ends : (t : Stream) (g : Phrase) (j : ℕ) → (t j).class ≡ None → Ends t g j
end_ends t g j e = record { over = subst (λ (o : Option Class). listed (code o) (extends g) ≡ false) (sym e) (extends_not_end g) }

-- what begins a text, with the end behind the text
module _ {limit bound : ℕ} {s : Stream} {g : Phrase} {i : ℕ} {n : Counts} {end : ℕ} (b : Begins limit bound s g i n end) where
  pub ended : Stream
  ended = put b.t b.j None

  pub ended_text : Text limit bound ended g i b.j n b.m b.x
  unfolding ended
  ended_text = moved (put b.t b.j None) b.text (put_before b.t b.j None)

  pub ended_ends : Ends ended g b.j
  unfolding ended
  ended_ends = end_ends (put b.t b.j None) g b.j (put_here b.t b.j None)

  pub ended_agree : Agree s ended end
  unfolding ended
  ended_agree x lt = put_before b.t b.j None x (omega (arith, b.past)) ∙ b.agree x lt
