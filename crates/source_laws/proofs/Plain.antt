-- The words and the literals of all that stands in an expression.
use Rattle.std.proofs.Common.{◌≡◌, ◌^◌, Bool, true, false, ◌&&◌, nat_lt, List, [], ◌∷◌, ◌++◌, refl, Some, None}
use Rattle.std.specs.List.{list_all}
use Rattle.lus_tree.specs.Tree.{Name, Expression, Expressions, truth, number, name, negation, minus, pre, arrow, binary, choice, sampled, merged, call, condact, mode_name, no_more, more, Component}
use Rattle.lus_meaning.specs.Scene.{sampled_by, clock_of}
use Rattle.lus_meaning.specs.Occurrences.{Standing, within, before, moved, Occurrence, occurs, occurrences, occurrences_among}
use Rattle.lus_meaning.specs.Grammatical.{is_identifier, is_plain_form, are_plain}
use Rattle.source_laws.proofs.Lists.{both_true, pass_both}
use Rattle.source_laws.proofs.Words.{name_identifier}
use Rattle.source_laws.proofs.Parts.{IsWord, IsPlain, ArePlain}

abbrev plain_occurrence : Occurrence → Bool
plain_occurrence o = is_plain_form o.expression

one_word : (x : Name) → IsWord x → (list_all is_identifier (x ∷ []) && true) ≡ true
one_word x h =
    both_true (list_all is_identifier (x ∷ [])) true (both_true (is_identifier x) true (name_identifier x h) refl) refl

two_words : (x y : Name) → IsWord x → IsWord y → (list_all is_identifier (x ∷ y ∷ []) && true) ≡ true
two_words x y h k =
    let r = both_true (is_identifier y) true (name_identifier y k) refl in
    both_true (list_all is_identifier (x ∷ y ∷ [])) true (both_true (is_identifier x) (list_all is_identifier (y ∷ [])) (name_identifier x h) r) refl

-- an occurrence, and those behind it
first : (o : Occurrence) (os : List Occurrence) → plain_occurrence o ≡ true → are_plain os ≡ true →
    are_plain (o ∷ os) ≡ true
first o os h k = both_true (plain_occurrence o) (are_plain os) h k

two : (os qs : List Occurrence) → are_plain os ≡ true → are_plain qs ≡ true → are_plain (os ++ qs) ≡ true
two os qs h k = pass_both plain_occurrence os qs h k

mutual
  pub plain_occurrences : (e : Expression) → IsPlain e → (n : Component) (s : Standing) →
      are_plain (occurrences n s e) ≡ true
  plain_occurrences (truth p b) h n s = refl
  plain_occurrences (number p k) h n s =
      first (occurs s (number p k)) [] (both_true true (nat_lt k (2 ^ 63)) refl h) refl
  plain_occurrences (name p x) h n s = first (occurs s (name p x)) [] (one_word x h) refl
  plain_occurrences (negation p a) h n s = plain_occurrences a h n (within s)
  plain_occurrences (minus p a) h n s = plain_occurrences a h n (within s)
  plain_occurrences (pre p k a) h n s = plain_occurrences a h n (before s)
  plain_occurrences (arrow p k a b) h n s =
      two (occurrences n (within s) a) (occurs s (arrow p k a b) ∷ occurrences n (within s) b)
      (plain_occurrences a h.0 n (within s)) (plain_occurrences b h.1 n (within s))
  plain_occurrences (binary p o a b) h n s =
      two (occurrences n (within s) a) (occurs s (binary p o a b) ∷ occurrences n (within s) b)
      (plain_occurrences a h.0 n (within s)) (plain_occurrences b h.1 n (within s))
  plain_occurrences (choice p a b d) h n s =
      two (occurs s (choice p a b d) ∷ occurrences n (within s) a) (occurrences n (within s) b ++ occurrences n (within s) d)
      (plain_occurrences a h.0 n (within s))
      (two (occurrences n (within s) b) (occurrences n (within s) d) (plain_occurrences b h.1 n (within s)) (plain_occurrences d h.2 n (within s)))
  plain_occurrences (sampled p a b x) h n s =
      two (occurrences n (moved (clock_of n x.text) s) a) (occurs s (sampled p a b x) ∷ [])
      (plain_occurrences a h.0 n (moved (clock_of n x.text) s)) (first (occurs s (sampled p a b x)) [] (one_word x.text h.1) refl)
  plain_occurrences (merged p x a b) h n s =
      let yes : Standing = moved (sampled_by true x.text) s in
      let no : Standing = moved (sampled_by false x.text) s in
      two (occurs s (merged p x a b) ∷ occurrences n yes a) (occurrences n no b)
      (first (occurs s (merged p x a b)) (occurrences n yes a) (one_word x.text h.0) (plain_occurrences a h.1 n yes))
      (plain_occurrences b h.2 n no)
  plain_occurrences (call p k f as_) h n s =
      first (occurs s (call p k f as_)) (occurrences_among n (within s) as_) (one_word f.text h.0) (plain_among as_ h.1 n (within s))
  plain_occurrences (condact p k a f as_ ds) h n s =
      two (occurs s (condact p k a f as_ ds) ∷ occurrences n (within s) a) (occurrences_among n (within s) as_ ++ occurrences_among n (within s) ds)
      (first (occurs s (condact p k a f as_ ds)) (occurrences n (within s) a) (one_word f.text h.1) (plain_occurrences a h.0 n (within s)))
      (two (occurrences_among n (within s) as_) (occurrences_among n (within s) ds) (plain_among as_ h.2 n (within s)) (plain_among ds h.3 n (within s)))
  plain_occurrences (mode_name p None m) h n s = first (occurs s (mode_name p None m)) [] (one_word m.text h) refl
  plain_occurrences (mode_name p (Some c) m) h n s =
      first (occurs s (mode_name p (Some c) m)) [] (two_words c.text m.text h.0 h.1) refl

  plain_among : (es : Expressions) → ArePlain es → (n : Component) (s : Standing) →
      are_plain (occurrences_among n s es) ≡ true
  plain_among no_more h n s = refl
  plain_among (more a as_) h n s =
      two (occurrences n s a) (occurrences_among n s as_) (plain_occurrences a h.0 n s) (plain_among as_ h.1 n s)
