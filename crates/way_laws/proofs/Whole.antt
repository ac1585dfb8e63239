-- An expression reads the same over two lists of modes that say the same of the modes in it.
use Rattle.std.proofs.Common.{option_map, ◌≡◌, true, false, List, [], ◌∷◌, ◌++◌, refl, ap}
use Rattle.std.specs.Prelude.{option_to_list}
use Rattle.lus_tree.specs.Tree.{Name, text_of, Expression, Expressions, truth, number, name, negation, minus, pre, arrow, binary, choice, sampled, merged, call, condact, mode_name, no_more, more, Component}
use Rattle.lus_meaning.specs.Scene.{sampled_by, clock_of}
use Rattle.lus_meaning.specs.Occurrences.{Standing, within, moved, Occurrence}
use Rattle.lus_meaning.specs.EquationFaults.{clock_names}
use Rattle.lus_meaning.proofs.EachPart.{Each, EachAmong}
use Rattle.way_laws.specs.OwnGraph.{Summaries, ModeReads, known_reads, reads, reads_each, arguments_read}

module _ (n : Component) (g : Summaries) (m m' : ModeReads) where
  abbrev pub SameReadIn : Expression → Type 0
  SameReadIn (mode_name p d x) =
      known_reads m (option_to_list (option_map text_of d), x.text) ≡ known_reads m' (option_to_list (option_map text_of d), x.text)
  SameReadIn _ = Unit {0}

  abbrev pub SameRead : Occurrence → Type 0
  SameRead o = SameReadIn o.expression

  mutual
    pub reads_same : (e : Expression) (s : Standing) → Each SameRead n s e → reads n g m s.clock e ≡ reads n g m' s.clock e
    reads_same (truth p b) s a = refl
    reads_same (number p b) s a = refl
    reads_same (name p x) s a = refl
    reads_same (negation p e) s a = ap (λ zs. clock_names s.clock ++ zs) (reads_same e (within s) a.1)
    reads_same (minus p e) s a = ap (λ zs. clock_names s.clock ++ zs) (reads_same e (within s) a.1)
    reads_same (pre p k e) s a = refl
    reads_same (arrow p k c d) s a = rw (reads_same c (within s) a.1, reads_same d (within s) a.2) refl
    reads_same (binary p o c d) s a = rw (reads_same c (within s) a.1, reads_same d (within s) a.2) refl
    reads_same (choice p c d e) s a = rw (reads_same c (within s) a.1, reads_same d (within s) a.2, reads_same e (within s) a.3) refl
    reads_same (sampled p e q x) s a = ap (λ zs. x.text ∷ zs) (reads_same e (moved (clock_of n x.text) s) a.1)
    reads_same (merged p x c d) s a = rw (
      reads_same c (moved (sampled_by true x.text) s) a.1,
      reads_same d (moved (sampled_by false x.text) s) a.2,
    ) refl
    reads_same (call p k f as_) s a = ap (λ zs. clock_names s.clock ++ zs) (read_same (g f.text).reads (g f.text).inputs as_ (within s) a.1)
    reads_same (condact p k c f as_ ds) s a = rw (
      reads_same c (within s) a.1,
      read_same (g f.text).reads (g f.text).inputs as_ (within s) a.2,
      each_same ds (within s) a.3,
    ) refl
    reads_same (mode_name p d x) s a = a

    each_same : (es : Expressions) (s : Standing) → EachAmong SameRead n s es → reads_each n g m s.clock es ≡ reads_each n g m' s.clock es
    each_same no_more s a = refl
    each_same (more e es) s a = rw (reads_same e s a.0, each_same es s a.1) refl

    read_same : (ys xs : List Name) (es : Expressions) (s : Standing) → EachAmong SameRead n s es
        → arguments_read n g m s.clock ys xs es ≡ arguments_read n g m' s.clock ys xs es
    read_same ys [] no_more s a = refl
    read_same ys [] (more e es) s a = refl
    read_same ys (x ∷ xs) no_more s a = refl
    read_same ys (x ∷ xs) (more e es) s a = rw (reads_same e s a.0, read_same ys xs es s a.1) refl
