-- What is read, with the modes replaced, is what the own graph says.
use Rattle.std.proofs.Common.{◌≡◌, Bool, true, false, cond, List, [], ◌∷◌, ◌++◌, map, flat_map, refl, ap, ◌∙◌, sym, append_assoc, option_map, option_to_list}
use Rattle.lus_tree.specs.Tree.{Name, Component, text_of, Expression, Expressions, truth, number, name, negation, minus, pre, arrow, binary, choice, sampled, merged, call, condact, mode_name, no_more, more}
use Rattle.lus_meaning.specs.Scene.{Clock, sampled_by, clock_of}
use Rattle.lus_meaning.specs.Depends.{named_in}
use Rattle.lus_meaning.specs.EquationFaults.{clock_names}
use Rattle.way_laws.specs.OwnGraph.{Summaries, ModeReads, known_reads, reads, reads_each, arguments_read}
use Rattle.lus_order.specs.Reads.{Read, names_read, read_in, read_each, read_arguments}
use Rattle.lus_order.specs.OwnReads.{expanded, AreClocksOf, AreFlagsOf, ReadsAreOwn}

module _ (m : ModeReads) where
  abbrev out : List Read → List Name
  out rs = flat_map (expanded m) rs

  out_joined : (rs ss : List Read) → out (rs ++ ss) ≡ out rs ++ out ss
  out_joined [] ss = refl
  out_joined (r ∷ rs) ss = ap (λ xs. expanded m r ++ xs) (out_joined rs ss) ∙ sym (append_assoc (expanded m r) (out rs) (out ss))

  out_names : (xs : List Name) → out (names_read xs) ≡ xs
  out_names [] = refl
  out_names (x ∷ xs) = ap (λ ys. x ∷ ys) (out_names xs)

  both_out : (xs ys : List Name) (rs ss : List Read) → xs ≡ out rs → ys ≡ out ss → xs ++ ys ≡ out (rs ++ ss)
  both_out xs ys rs ss e f = ap (λ z. z ++ ys) e ∙ (ap (λ z. out rs ++ z) f ∙ sym (out_joined rs ss))

  behind_clock : (xs ys : List Name) (ss : List Read) → ys ≡ out ss → xs ++ ys ≡ out (names_read xs ++ ss)
  behind_clock xs ys ss f = both_out xs ys (names_read xs) ss (sym (out_names xs)) f

  chosen : (b : Bool) (xs : List Name) (rs : List Read) → xs ≡ out rs → cond b xs [] ≡ out (cond b rs [])
  chosen true xs rs e = e
  chosen false xs rs e = refl

  module _ (n : Component) (g : Summaries) (k : Name → List Name) (h : Name → List Bool) (clocks : AreClocksOf n k) (flags : AreFlagsOf g h) where
    own_flagged : (c : Clock) (f : Name) (es : Expressions)
        → arguments_read n g m c (g f).reads (g f).inputs es ≡ out (read_arguments k h (clock_names c) (map (λ x. named_in x (g f).reads) (g f).inputs) es)
        → arguments_read n g m c (g f).reads (g f).inputs es ≡ out (read_arguments k h (clock_names c) (h f) es)
    own_flagged c f es e = e ∙ ap (λ z. out (read_arguments k h (clock_names c) z es)) (sym (flags f))

    mutual
      own : (c : Clock) (e : Expression) → reads n g m c e ≡ out (read_in k h (clock_names c) e)
      own c (truth p b) = sym (out_names (clock_names c))
      own c (number p i) = sym (out_names (clock_names c))
      own c (name p x) = ap (λ xs. x ∷ xs) (sym (out_names (clock_names c)))
      own c (negation p a) = behind_clock (clock_names c) (reads n g m c a) (read_in k h (clock_names c) a) (own c a)
      own c (minus p a) = behind_clock (clock_names c) (reads n g m c a) (read_in k h (clock_names c) a) (own c a)
      own c (pre p i a) = sym (out_names (clock_names c))
      own c (arrow p i a b) = behind_clock (clock_names c) (reads n g m c a ++ reads n g m c b)
          (read_in k h (clock_names c) a ++ read_in k h (clock_names c) b)
          (both_out (reads n g m c a) (reads n g m c b) (read_in k h (clock_names c) a) (read_in k h (clock_names c) b) (own c a) (own c b))
      own c (binary p o a b) = behind_clock (clock_names c) (reads n g m c a ++ reads n g m c b)
          (read_in k h (clock_names c) a ++ read_in k h (clock_names c) b)
          (both_out (reads n g m c a) (reads n g m c b) (read_in k h (clock_names c) a) (read_in k h (clock_names c) b) (own c a) (own c b))
      own c (choice p a b d) = behind_clock (clock_names c) (reads n g m c a ++ (reads n g m c b ++ reads n g m c d))
          (read_in k h (clock_names c) a ++ (read_in k h (clock_names c) b ++ read_in k h (clock_names c) d))
          (both_out (reads n g m c a) (reads n g m c b ++ reads n g m c d) (read_in k h (clock_names c) a)
          (read_in k h (clock_names c) b ++ read_in k h (clock_names c) d) (own c a)
          (both_out (reads n g m c b) (reads n g m c d) (read_in k h (clock_names c) b) (read_in k h (clock_names c) d) (own c b) (own c d)))
      own c (sampled p a b x) = ap (λ xs. x.text ∷ xs) (own (clock_of n x.text) a ∙ ap (λ z. out (read_in k h z a)) (sym (clocks x.text)))
      own c (merged p x a b) = ap (λ xs. x.text ∷ xs) (both_out (reads n g m (sampled_by true x.text) a) (reads n g m (sampled_by false x.text) b)
          (read_in k h (x.text ∷ []) a) (read_in k h (x.text ∷ []) b) (own (sampled_by true x.text) a) (own (sampled_by false x.text) b))
      own c (call p i f as_) = behind_clock (clock_names c) (arguments_read n g m c (g f.text).reads (g f.text).inputs as_)
          (read_arguments k h (clock_names c) (h f.text) as_) (own_flagged c f.text as_ (own_arguments c (g f.text).reads (g f.text).inputs as_))
      own c (condact p i a f as_ ds) = behind_clock (clock_names c)
          (reads n g m c a ++ (arguments_read n g m c (g f.text).reads (g f.text).inputs as_ ++ reads_each n g m c ds))
          (read_in k h (clock_names c) a ++ (read_arguments k h (clock_names c) (h f.text) as_ ++ read_each k h (clock_names c) ds))
          (both_out (reads n g m c a) (arguments_read n g m c (g f.text).reads (g f.text).inputs as_ ++ reads_each n g m c ds)
          (read_in k h (clock_names c) a) (read_arguments k h (clock_names c) (h f.text) as_ ++ read_each k h (clock_names c) ds) (own c a)
          (both_out (arguments_read n g m c (g f.text).reads (g f.text).inputs as_) (reads_each n g m c ds)
          (read_arguments k h (clock_names c) (h f.text) as_) (read_each k h (clock_names c) ds)
          (own_flagged c f.text as_ (own_arguments c (g f.text).reads (g f.text).inputs as_)) (own_each c ds)))
      own c (mode_name p d x) = last (known_reads m (option_to_list (option_map text_of d), x.text))
        where
          last : (xs : List Name) → xs ≡ xs ++ []
          last [] = refl
          last (y ∷ ys) = ap (λ zs. y ∷ zs) (last ys)

      own_each : (c : Clock) (es : Expressions) → reads_each n g m c es ≡ out (read_each k h (clock_names c) es)
      own_each c no_more = refl
      own_each c (more a as_) = both_out (reads n g m c a) (reads_each n g m c as_) (read_in k h (clock_names c) a) (read_each k h (clock_names c) as_)
          (own c a) (own_each c as_)

      own_arguments : (c : Clock) (ys xs : List Name) (es : Expressions)
          → arguments_read n g m c ys xs es ≡ out (read_arguments k h (clock_names c) (map (λ x. named_in x ys) xs) es)
      own_arguments c ys [] es = refl
      own_arguments c ys (x ∷ xs) no_more = refl
      own_arguments c ys (x ∷ xs) (more a as_) =
          both_out (cond (named_in x ys) (reads n g m c a) []) (arguments_read n g m c ys xs as_)
          (cond (named_in x ys) (read_in k h (clock_names c) a) []) (read_arguments k h (clock_names c) (map (λ x. named_in x ys) xs) as_)
          (chosen (named_in x ys) (reads n g m c a) (read_in k h (clock_names c) a) (own c a)) (own_arguments c ys xs as_)

pub reads_own : ReadsAreOwn
reads_own n g k h clocks flags m c e = own m n g k h clocks flags c e
