-- With which tokens a text goes on, and what makes one token of lookahead enough. Each condition is a computation.
use Rattle.std.proofs.Common.{◌≡◌, ℕ, Bool, true, false, not, ◌&&◌, refl, [], ◌∷◌}
use Rattle.std.proofs.lemmas.Bool.{and_parts, not-true}
use Rattle.lus_grammar.specs.Stream.{Stream}
use Rattle.lus_grammar.specs.Phrase.{Products, Sums, Conjunctions, Disjunctions, Part, Expression, Chain, Phrase, one_of, counted, part, limited, fresh, ◌⨾◌, ◌∣◌, optional, repeated}
use Rattle.lus_grammar.specs.Grammar.{body}
use Rattle.lus_grammar.specs.Starts.{code, listed, codes_of, may_be_empty, first_classes, may_be_nothing, starts}
use Rattle.lus_grammar.specs.Extends.{extends, next_classes}
use Rattle.lus_grammar.proofs.Classes.{known, all_known}
use Rattle.lus_grammar.proofs.Listed.{subset, apart}

-- the lines of which a text may be one token
abbrev pub is_short : Part → Bool
is_short Expression = true
is_short _ = false

-- whether the next token always tells how to read on
abbrev pub fits : Phrase → Bool
fits (one_of []) = false
fits (one_of (c ∷ cs)) = all_known (c ∷ cs)
fits (counted k c) = known c
fits (part p) = true
fits (limited p) = is_short p
fits (fresh p) = true
fits (a ⨾ b) = fits a && (fits b && apart (extends a) (starts b))
fits (a ∣ b) = fits a && (fits b && (apart (starts a) (starts b) && (not (may_be_nothing a) && not (may_be_nothing b))))
fits (optional a) = fits a && not (may_be_nothing a)
fits (repeated a) = fits a && (not (may_be_nothing a) && apart (extends a) (starts a))

-- a mark behind a text with which the text can't go on
pub record Ends (t : Stream) (g : Phrase) (j : ℕ) : Type 0 where
  pub over : listed (code (t j).class) (extends g) ≡ false

pub record FitBoth (a b : Phrase) : Type 0 where
  pub first : fits a ≡ true
  pub second : fits b ≡ true
  pub parted : apart (extends a) (starts b) ≡ true

pub fit_both : (a b : Phrase) → fits (a ⨾ b) ≡ true → FitBoth a b
fit_both a b h =
    let u = and_parts (fits a) _ h in
    let v = and_parts (fits b) _ u.1 in
    record { first = u.0; second = v.0; parted = v.1 }

pub record FitEither (a b : Phrase) : Type 0 where
  pub one : fits a ≡ true
  pub other : fits b ≡ true
  pub parted : apart (starts a) (starts b) ≡ true
  pub one_some : may_be_nothing a ≡ false
  pub other_some : may_be_nothing b ≡ false

pub fit_either : (a b : Phrase) → fits (a ∣ b) ≡ true → FitEither a b
fit_either a b h =
    let u = and_parts (fits a) _ h in
    let v = and_parts (fits b) _ u.1 in
    let w = and_parts (apart (starts a) (starts b)) _ v.1 in
    let x = and_parts (not (may_be_nothing a)) (not (may_be_nothing b)) w.1 in
    record { one = u.0; other = v.0; parted = w.0; one_some = not-true _ x.0; other_some = not-true _ x.1 }

pub record FitOptional (a : Phrase) : Type 0 where
  pub it : fits a ≡ true
  pub it_some : may_be_nothing a ≡ false

pub fit_optional : (a : Phrase) → fits (optional a) ≡ true → FitOptional a
fit_optional a h =
    let u = and_parts (fits a) _ h in
    record { it = u.0; it_some = not-true _ u.1 }

pub record FitRepeated (a : Phrase) : Type 0 where
  pub it : fits a ≡ true
  pub it_some : may_be_nothing a ≡ false
  pub parted : apart (extends a) (starts a) ≡ true

pub fit_repeated : (a : Phrase) → fits (repeated a) ≡ true → FitRepeated a
fit_repeated a h =
    let u = and_parts (fits a) _ h in
    let v = and_parts (not (may_be_nothing a)) _ u.1 in
    record { it = u.0; it_some = not-true _ v.0; parted = v.1 }

-- the grammar's lines are such, and their tables say what their phrases do
pub body_fits : (p : Part) → fits (body p) ≡ true
body_fits (Chain Products) = refl
body_fits (Chain Sums) = refl
body_fits (Chain Conjunctions) = refl
body_fits (Chain Disjunctions) = refl
body_fits _ = refl

pub body_starts : (p : Part) → subset (starts (body p)) (codes_of (first_classes p)) ≡ true
body_starts (Chain Products) = refl
body_starts (Chain Sums) = refl
body_starts (Chain Conjunctions) = refl
body_starts (Chain Disjunctions) = refl
body_starts _ = refl

pub starts_body : (p : Part) → subset (codes_of (first_classes p)) (starts (body p)) ≡ true
starts_body (Chain Products) = refl
starts_body (Chain Sums) = refl
starts_body (Chain Conjunctions) = refl
starts_body (Chain Disjunctions) = refl
starts_body _ = refl

pub body_extends : (p : Part) → subset (extends (body p)) (codes_of (next_classes p)) ≡ true
body_extends (Chain Products) = refl
body_extends (Chain Sums) = refl
body_extends (Chain Conjunctions) = refl
body_extends (Chain Disjunctions) = refl
body_extends _ = refl

pub body_nothing : (p : Part) → may_be_nothing (body p) ≡ may_be_empty p
body_nothing (Chain Products) = refl
body_nothing (Chain Sums) = refl
body_nothing (Chain Conjunctions) = refl
body_nothing (Chain Disjunctions) = refl
body_nothing _ = refl
