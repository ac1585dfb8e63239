-- What holds of each occurrence in an expression, and of all occurrences in it.
use Rattle.std.proofs.Common.{◌≡◌, true, false, [], ◌∷◌, ◌++◌, refl}
use Rattle.std.specs.List.{AllByRecursion}
use Rattle.lus_tree.specs.Tree.{Expression, Expressions, truth, number, name, negation, minus, pre, arrow, binary, choice, sampled, merged, call, condact, mode_name, no_more, more, Component}
use Rattle.lus_meaning.specs.Scene.{clock_of, sampled_by}
use Rattle.lus_meaning.specs.Occurrences.{Standing, within, before, moved, Occurrence, occurs, occurrences, occurrences_among}
use Rattle.lus_meaning.proofs.EachPart.{Each, EachAmong}
use Rattle.lus_meaning.proofs.Lists.{both_parts}

-- each is one of all
module _ (P : Occurrence → Type 0) (n : Component) where
  root : (s : Standing) (e : Expression) → Each P n s e → P (occurs s e)
  root s (truth p b) a = a
  root s (number p k) a = a
  root s (name p x) a = a
  root s (negation p e) a = a.0
  root s (minus p e) a = a.0
  root s (pre p k e) a = a.0
  root s (arrow p k c d) a = a.0
  root s (binary p o c d) a = a.0
  root s (choice p c d e) a = a.0
  root s (sampled p c q x) a = a.0
  root s (merged p x c d) a = a.0
  root s (call p k g as_) a = a.0
  root s (condact p k c g as_ ds) a = a.0
  root s (mode_name p d m) a = a

  mutual
    pub all_parts : (s : Standing) (e : Expression) → Each P n s e → AllByRecursion P (occurrences n s e)
    all_parts s (truth p b) a = (a, tt)
    all_parts s (number p k) a = (a, tt)
    all_parts s (name p x) a = (a, tt)
    all_parts s (negation p e) a = (a.0, all_parts (within s) e a.1)
    all_parts s (minus p e) a = (a.0, all_parts (within s) e a.1)
    all_parts s (pre p k e) a = (a.0, all_parts (before s) e a.1)
    all_parts s (arrow p k c d) a = both_parts P (occurrences n (within s) c) (occurs s (arrow p k c d) ∷ occurrences n (within s) d)
        (all_parts (within s) c a.1) (a.0, all_parts (within s) d a.2)
    all_parts s (binary p o c d) a = both_parts P (occurrences n (within s) c) (occurs s (binary p o c d) ∷ occurrences n (within s) d)
        (all_parts (within s) c a.1) (a.0, all_parts (within s) d a.2)
    all_parts s (choice p c d e) a = (
      a.0,
      both_parts P (occurrences n (within s) c) (occurrences n (within s) d ++ occurrences n (within s) e) (all_parts (within s) c a.1)
          (both_parts P (occurrences n (within s) d) (occurrences n (within s) e) (all_parts (within s) d a.2) (all_parts (within s) e a.3)),
    )
    all_parts s (sampled p c q x) a = both_parts P (occurrences n (moved (clock_of n x.text) s) c) (occurs s (sampled p c q x) ∷ [])
        (all_parts (moved (clock_of n x.text) s) c a.1) (a.0, tt)
    all_parts s (merged p x c d) a = (
      a.0,
      both_parts P (occurrences n (moved (sampled_by true x.text) s) c) (occurrences n (moved (sampled_by false x.text) s) d)
          (all_parts (moved (sampled_by true x.text) s) c a.1) (all_parts (moved (sampled_by false x.text) s) d a.2),
    )
    all_parts s (call p k g as_) a = (a.0, all_among (within s) as_ a.1)
    all_parts s (condact p k c g as_ ds) a = (
      a.0,
      both_parts P (occurrences n (within s) c) (occurrences_among n (within s) as_ ++ occurrences_among n (within s) ds)
          (all_parts (within s) c a.1) (both_parts P (occurrences_among n (within s) as_) (occurrences_among n (within s) ds)
          (all_among (within s) as_ a.2) (all_among (within s) ds a.3)),
    )
    all_parts s (mode_name p d m) a = (a, tt)

    pub all_among : (s : Standing) (as_ : Expressions) → EachAmong P n s as_ → AllByRecursion P (occurrences_among n s as_)
    all_among s no_more a = tt
    all_among s (more e as_) a = both_parts P (occurrences n s e) (occurrences_among n s as_) (all_parts s e a.0) (all_among s as_ a.1)

  -- what holds of each part holds of each part of a part
  abbrev pub Whole : Occurrence → Type 0
  Whole o = Each P n o.standing o.expression

  mutual
    pub nested : (s : Standing) (e : Expression) → Each P n s e → Each Whole n s e
    nested s (truth p b) a = a
    nested s (number p k) a = a
    nested s (name p x) a = a
    nested s (negation p e) a = (a, nested (within s) e a.1)
    nested s (minus p e) a = (a, nested (within s) e a.1)
    nested s (pre p k e) a = (a, nested (before s) e a.1)
    nested s (arrow p k c d) a = (a, nested (within s) c a.1, nested (within s) d a.2)
    nested s (binary p o c d) a = (a, nested (within s) c a.1, nested (within s) d a.2)
    nested s (choice p c d e) a = (a, nested (within s) c a.1, nested (within s) d a.2, nested (within s) e a.3)
    nested s (sampled p c q x) a = (a, nested (moved (clock_of n x.text) s) c a.1)
    nested s (merged p x c d) a = (a, nested (moved (sampled_by true x.text) s) c a.1, nested (moved (sampled_by false x.text) s) d a.2)
    nested s (call p k g as_) a = (a, nested_among (within s) as_ a.1)
    nested s (condact p k c g as_ ds) a = (a, nested (within s) c a.1, nested_among (within s) as_ a.2, nested_among (within s) ds a.3)
    nested s (mode_name p d m) a = a

    pub nested_among : (s : Standing) (as_ : Expressions) → EachAmong P n s as_ → EachAmong Whole n s as_
    nested_among s no_more a = tt
    nested_among s (more e as_) a = (nested s e a.0, nested_among s as_ a.1)

-- what holds of every occurrence that is no whole right side holds of each part, where it holds of the whole
module _ (P : Occurrence → Type 0) (n : Component) (inner : (o : Occurrence) → o.standing.whole_side ≡ false → P o) where
  mutual
    pub from_root : (s : Standing) (e : Expression) → P (occurs s e) → Each P n s e
    from_root s (truth p b) r = r
    from_root s (number p k) r = r
    from_root s (name p x) r = r
    from_root s (negation p e) r = (r, from_root (within s) e (inner _ refl))
    from_root s (minus p e) r = (r, from_root (within s) e (inner _ refl))
    from_root s (pre p k e) r = (r, from_root (before s) e (inner _ refl))
    from_root s (arrow p k c d) r = (r, from_root (within s) c (inner _ refl), from_root (within s) d (inner _ refl))
    from_root s (binary p o c d) r = (r, from_root (within s) c (inner _ refl), from_root (within s) d (inner _ refl))
    from_root s (choice p c d e) r =
        (r, from_root (within s) c (inner _ refl), from_root (within s) d (inner _ refl), from_root (within s) e (inner _ refl))
    from_root s (sampled p c q x) r = (r, from_root (moved (clock_of n x.text) s) c (inner _ refl))
    from_root s (merged p x c d) r = (
      r,
      from_root (moved (sampled_by true x.text) s) c (inner _ refl),
      from_root (moved (sampled_by false x.text) s) d (inner _ refl),
    )
    from_root s (call p k g as_) r = (r, among_inner (within s) refl as_)
    from_root s (condact p k c g as_ ds) r =
        (r, from_root (within s) c (inner _ refl), among_inner (within s) refl as_, among_inner (within s) refl ds)
    from_root s (mode_name p d m) r = r

    among_inner : (s : Standing) → s.whole_side ≡ false → (as_ : Expressions) → EachAmong P n s as_
    among_inner s w no_more = tt
    among_inner s w (more e as_) = (from_root s e (inner (occurs s e) w), among_inner s w as_)
