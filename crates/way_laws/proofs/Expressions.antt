-- What an expression reads in the own graph stands for what it needs in the tree.
use Rattle.std.proofs.Common.{◌≡◌, ℕ, pred, Bool, true, false, cond, List, [], ◌∷◌, ◌++◌, map, refl, sym, ap, subst, Some, None, option_map}
use Rattle.std.specs.Prelude.{option_to_list}
use Rattle.std.specs.List.{AllByRecursion}
use Rattle.std.proofs.Math.Logic.{◌⊎◌, inl, inr}
use Rattle.lus_tree.specs.Tree.{Name, text_of, Expression, Expressions, truth, number, name, negation, minus, pre, arrow, binary, choice, sampled, merged, call, condact, mode_name, no_more, more}
use Rattle.lus_meaning.specs.Scene.{Clock, sampled_by, Manner, plain, while_true, Site, Instance, component_of, clock_of, call_instance, outputs_of}
use Rattle.lus_meaning.specs.Program.{listed}
use Rattle.lus_meaning.specs.Run.{inputs_of}
use Rattle.lus_meaning.specs.Occurrences.{Standing, within, moved, Occurrence}
use Rattle.lus_meaning.specs.Depends.{Need, the_beat, a_name, inside, clock_needs, output_needs, needs, needs_each, ModeNeeds, modes_need, known_needs, site_needs, named_in}
use Rattle.lus_meaning.specs.Cycle.{place_of, declared_needs, defined_needs, own_needs, next_places, matching, caller_needs}
use Rattle.lus_meaning.specs.Rules.{names_of}
use Rattle.lus_meaning.specs.Run.{equations}
use Rattle.lus_meaning.specs.EquationFaults.{clock_names}
use Rattle.lus_meaning.proofs.Members.{IsIn, in_left, in_mapped, named_either}
use Rattle.lus_meaning.proofs.EachPart.{Each, EachAmong}
use Rattle.clock_laws.proofs.Reaching.{in_either, next_top}
use Rattle.way_laws.specs.OwnGraph.{Summaries, ModeReads, known_reads, reads, reads_each, arguments_read}
use Rattle.way_laws.specs.Summaries.{IsExact}
use Rattle.way_laws.proofs.Steps.{Comes, needs_come, GoesBy, Fits, come_left, come_right, by_left, fits_none, fits_both, fits_name, fits_clock}
use Rattle.way_laws.proofs.Crossing.{CallAt, passes, comes_back, goes_back}
use Rattle.way_laws.proofs.Arguments.{read_by, arguments_same, kept_left, kept_later, goes_among, argument, ArgumentFits, matched_by, matched_named, ReadBy, read_from}

-- ---- calls

-- a call stands in the tree at its number, and its callee's summary is exact; the callee has some output on the base clock
pub record CallReady (i : Instance) (g : Summaries) (c : Site) : Type 0 where
  pub there : CallAt i (pred c.number) c (call_instance i c.number)
  pub exact : IsExact (call_instance i c.number) (g c.callee)
  pub output : Name
  pub is_output : IsIn output (outputs_of (call_instance i c.number))
  pub on_beat : IsIn the_beat (declared_needs (component_of (call_instance i c.number)) output)

inside_names : (j : ℕ) (xs : List Name) → map (inside j) (map (a_name []) xs) ≡ map (a_name (j ∷ [])) xs
inside_names j [] = refl
inside_names j (x ∷ xs) = ap (λ ns. a_name (j ∷ []) x ∷ ns) (inside_names j xs)

left_alone : {A : Type 0} (x : A) (xs : List A) → IsIn x (xs ++ []) → IsIn x xs
left_alone x [] h = h
left_alone x (y ∷ xs) (inl e) = inl e
left_alone x (y ∷ xs) (inr h) = inr (left_alone x xs h)

module _ (i : Instance) (g : Summaries) (c : Site) (r : CallReady i g c) (R : Expression → List Name)
    (alone : (x : Name) (q : Need) → IsIn q (caller_needs i c (call_instance i c.number) (Some x))
    → IsIn q (matching (argument i c R (g c.callee).reads) x (inputs_of (call_instance i c.number)) c.arguments))
    (only : (x : Name) (q : Need) → IsIn q (matching (argument i c R (g c.callee).reads) x (inputs_of (call_instance i c.number)) c.arguments)
    → IsIn q (caller_needs i c (call_instance i c.number) (Some x)))
    (fit : AllByRecursion (ArgumentFits i c R (g c.callee).reads) c.arguments) where
  abbrev k : Instance
  k = call_instance i c.number

  abbrev ys : List Name
  ys = (g c.callee).reads

  abbrev from_arguments : List Name
  from_arguments = read_by R ys (g c.callee).inputs c.arguments

  abbrev outs : List Need
  outs = map (a_name []) (names_of (component_of k).outputs)

  given_back : (x : Name) → named_in x (inputs_of k) ≡ true → named_in x (g c.callee).inputs ≡ true
  given_back x h = subst (λ xs. named_in x xs ≡ true) (sym r.exact.inputs) h

  pub arguments_come : (z : Name) → named_in z from_arguments ≡ true → Comes i (output_needs i c.number) z
  arguments_come z e =
      let a : ReadBy i c R ys (g c.callee).inputs c.arguments z = read_from i c R ys (g c.callee).inputs c.arguments fit z e in
      let w : Comes k outs a.input = needs_come k outs a.input ((r.exact.reads a.input a.is_input).0 a.is_read) in
      let m : IsIn a.need (matching (argument i c R ys) a.input (inputs_of k) c.arguments) =
      subst (λ xs. IsIn a.need (matching (argument i c R ys) a.input xs c.arguments)) r.exact.inputs a.needed in
      subst (λ ns. Comes i ns z) (inside_names (pred c.number) (names_of (component_of k).outputs))
      (comes_back i (pred c.number) c k r.there outs a.input w a.need (only a.input a.need m) z a.steps a.way)

  -- each output needs the beat of its frame, and by it the clock of the call
  pub beat_comes : (z : Name) → Comes i (site_needs i (modes_need i) c c.manner) z → Comes i (output_needs i c.number) z
  beat_comes z w =
      let there : IsIn (a_name [] r.output) outs = in_mapped (a_name []) r.output (names_of (component_of k).outputs) r.is_output in
      let step : IsIn ([], None) (next_places k [] (Some r.output)) = subst (IsIn ([], None)) (sym (next_top k r.output))
      (in_mapped place_of the_beat (own_needs k r.output) (in_left the_beat (declared_needs (component_of k) r.output)
      (defined_needs k r.output (equations (component_of k))) r.on_beat)) in
      subst (λ ns. Comes i ns z) (inside_names (pred c.number) (names_of (component_of k).outputs))
      (passes i (pred c.number) c k r.there outs (a_name [] r.output) there 1 [] r.output refl None (([], None), step, refl) w.start w.starts z w.steps w.way)

  pub outputs_go : (W : List Name) → ((q : Need) → IsIn q (site_needs i (modes_need i) c c.manner) → GoesBy i (place_of q) W)
      → ((z : Name) → named_in z from_arguments ≡ true → named_in z W ≡ true)
      → (q : Need) → IsIn q (output_needs i c.number) → GoesBy i (place_of q) W
  outputs_go W s w q h = go (map_back (names_of (component_of k).outputs) h)
    where
      map_back : (xs : List Name) → IsIn q (map (a_name (pred c.number ∷ [])) xs) → (m : Need) × IsIn m (map (a_name []) xs) × (q ≡ inside (pred c.number) m)
      map_back [] h = absurd h
      map_back (x ∷ xs) (inl e) = (a_name [] x, inl refl, e)
      map_back (x ∷ xs) (inr h) = let b = map_back xs h in (b.0, inr b.1, b.2)

      go : (m : Need) × IsIn m outs × (q ≡ inside (pred c.number) m) → GoesBy i (place_of q) W
      go b = subst (λ m. GoesBy i (place_of m) W) (sym b.2)
          (goes_back i (pred c.number) c k r.there (g c.callee).inputs ys W outs r.exact.reads s
          (λ x m d. given_back x (matched_named i c R ys (inputs_of k) c.arguments x m (alone x m d)))
          (λ x m e d. matched_by i c R ys W s (inputs_of k) c.arguments fit
          (λ z t. w z (subst (λ xs. named_in z (read_by R ys xs c.arguments) ≡ true) (sym r.exact.inputs) t)) x m (alone x m d) e) b.0 b.1)

-- ---- expressions

module _ (i : Instance) (g : Summaries) (prefix : ModeNeeds) (rs : ModeReads) where
  -- the modes that are known somewhere, or all
  abbrev pub known : Bool → ModeNeeds
  known b = cond b (modes_need i) prefix

  abbrev pub ReadyIn : Standing → Expression → Type 0
  ReadyIn t (call p k f as_) =
      CallReady i g record { number = k; callee = f.text; clock = t.clock; arguments = listed as_; defaults = []; manner = plain }
  ReadyIn t (condact p k a f as_ ds) =
      CallReady i g record { number = k; callee = f.text; clock = t.clock; arguments = listed as_; defaults = listed ds; manner = while_true a }
  ReadyIn t (mode_name p d x) =
      (b : Bool) → Fits i (known_needs (known b) (option_to_list (option_map text_of d), x.text))
      (known_reads rs (option_to_list (option_map text_of d), x.text))
  ReadyIn t _ = Unit {0}

  abbrev pub Ready : Occurrence → Type 0
  Ready o = ReadyIn o.standing o.expression

  abbrev pub read : Clock → Expression → List Name
  read = reads (component_of i) g rs

  abbrev pub FitsOn : Bool → Clock → Expression → Type 0
  FitsOn b c e = Fits i (needs i (known b) c e) (read c e)

  module _ (s : Standing) (k : ℕ) (f : Name) (as_ ds : Expressions) where
    abbrev at_site : Manner → Site
    at_site m = record { number = k; callee = f; clock = s.clock; arguments = listed as_; defaults = listed ds; manner = m }

    abbrev plain_site : Site
    plain_site = record { number = k; callee = f; clock = s.clock; arguments = listed as_; defaults = []; manner = plain }

    abbrev AllFit : Type 0
    AllFit = AllByRecursion (λ a. FitsOn true s.clock a) (listed as_)

    abbrev arguments_of : List Name
    arguments_of = arguments_read (component_of i) g rs s.clock (g f).reads (g f).inputs as_

    by_list : (z : Name) → named_in z arguments_of ≡ true → named_in z (read_by (read s.clock) (g f).reads (g f).inputs (listed as_)) ≡ true
    by_list z e = subst (λ zs. named_in z zs ≡ true) (arguments_same (component_of i) g rs s.clock (g f).reads (g f).inputs as_) e

    of_list : (z : Name) → named_in z (read_by (read s.clock) (g f).reads (g f).inputs (listed as_)) ≡ true → named_in z arguments_of ≡ true
    of_list z e = subst (λ zs. named_in z zs ≡ true) (sym (arguments_same (component_of i) g rs s.clock (g f).reads (g f).inputs as_)) e

    call_fits : CallReady i g plain_site → AllFit → Fits i (output_needs i k) (clock_names s.clock ++ arguments_of)
    call_fits r a = record {
      sound = λ z e. from z (named_either z (clock_names s.clock) arguments_of e);
      complete = outputs_go i g plain_site r (read s.clock) (λ x q h. left_alone q _ h) (λ x q h. in_left q _ [] h) a
          (clock_names s.clock ++ arguments_of)
          (λ q h. by_left i (place_of q) (clock_names s.clock) arguments_of ((fits_clock i s.clock).complete q h))
          (λ z e. kept_later z (clock_names s.clock) arguments_of (of_list z e));
    }
      where
        from : (z : Name) → (named_in z (clock_names s.clock) ≡ true) ⊎ (named_in z arguments_of ≡ true) → Comes i (output_needs i k) z
        from z (inl e) = beat_comes i g plain_site r (read s.clock) (λ x q h. left_alone q _ h) (λ x q h. in_left q _ [] h) a z
            ((fits_clock i s.clock).sound z e)
        from z (inr e) = arguments_come i g plain_site r (read s.clock) (λ x q h. left_alone q _ h) (λ x q h. in_left q _ [] h) a z (by_list z e)

    -- a call under a condition needs its clock, its condition, the outputs of its frame and its defaults
    condact_fits : (b : Bool) (a : Expression) → CallReady i g (at_site (while_true a)) → FitsOn true s.clock a → FitsOn b s.clock a → AllFit
        → Fits i (needs_each i (known b) s.clock ds) (reads_each (component_of i) g rs s.clock ds)
        → Fits i (clock_needs s.clock ++ (needs i (known b) s.clock a ++ (output_needs i k ++ needs_each i (known b) s.clock ds)))
        (clock_names s.clock ++ (read s.clock a ++ (arguments_of ++ reads_each (component_of i) g rs s.clock ds)))
    condact_fits b a r all here fit defaults = record {
      sound = λ z e. from z (named_either z (clock_names s.clock) _ e);
      complete = λ q h. by q (in_either q (clock_needs s.clock) _ h);
    }
      where
        in_clock : (z : Name) → named_in z (clock_names s.clock) ≡ true → named_in z (clock_names s.clock ++ (read s.clock a ++
            (arguments_of ++ reads_each (component_of i) g rs s.clock ds))) ≡ true
        in_clock z e = kept_left z (clock_names s.clock) _ e

        in_condition : (z : Name) → named_in z (read s.clock a) ≡ true → named_in z (clock_names s.clock ++ (read s.clock a ++
            (arguments_of ++ reads_each (component_of i) g rs s.clock ds))) ≡ true
        in_condition z e = kept_later z (clock_names s.clock) _ (kept_left z (read s.clock a) _ e)

        in_arguments : (z : Name) → named_in z arguments_of ≡ true → named_in z (clock_names s.clock ++ (read s.clock a ++
            (arguments_of ++ reads_each (component_of i) g rs s.clock ds))) ≡ true
        in_arguments z e = kept_later z (clock_names s.clock) _ (kept_later z (read s.clock a) _ (kept_left z arguments_of _ e))

        in_defaults : (z : Name) → named_in z (reads_each (component_of i) g rs s.clock ds) ≡ true → named_in z (clock_names s.clock ++ (read s.clock a ++
            (arguments_of ++ reads_each (component_of i) g rs s.clock ds))) ≡ true
        in_defaults z e = kept_later z (clock_names s.clock) _ (kept_later z (read s.clock a) _ (kept_later z arguments_of _ e))

        last : (z : Name) → (named_in z arguments_of ≡ true) ⊎ (named_in z (reads_each (component_of i) g rs s.clock ds) ≡ true)
            → Comes i (output_needs i k ++ needs_each i (known b) s.clock ds) z
        last z (inl e) = come_left i (output_needs i k) _ z (arguments_come i g (at_site (while_true a)) r (read s.clock) (λ x q h. left_alone q _ h)
            (λ x q h. in_left q _ [] h) fit z (by_list z e))
        last z (inr e) = come_right i (output_needs i k) _ z (defaults.sound z e)

        then_ : (z : Name) → (named_in z (read s.clock a) ≡ true) ⊎ (named_in z (arguments_of ++ reads_each (component_of i) g rs s.clock ds) ≡ true)
            → Comes i (needs i (known b) s.clock a ++ (output_needs i k ++ needs_each i (known b) s.clock ds)) z
        then_ z (inl e) = come_left i (needs i (known b) s.clock a) _ z (here.sound z e)
        then_ z (inr e) = come_right i (needs i (known b) s.clock a) _ z (last z (named_either z arguments_of _ e))

        from : (z : Name) → (named_in z (clock_names s.clock) ≡ true) ⊎ (named_in z (read s.clock a ++
            (arguments_of ++ reads_each (component_of i) g rs s.clock ds)) ≡ true)
            → Comes i (clock_needs s.clock ++ (needs i (known b) s.clock a ++ (output_needs i k ++ needs_each i (known b) s.clock ds))) z
        from z (inl e) = come_left i (clock_needs s.clock) _ z ((fits_clock i s.clock).sound z e)
        from z (inr e) = come_right i (clock_needs s.clock) _ z (then_ z (named_either z (read s.clock a) _ e))

        of_site : (q : Need) → IsIn q (clock_needs s.clock) ⊎ IsIn q (needs i (modes_need i) s.clock a) → GoesBy i (place_of q) (clock_names s.clock ++
            (read s.clock a ++ (arguments_of ++ reads_each (component_of i) g rs s.clock ds)))
        of_site q (inl h) = goes_among i q (clock_names s.clock) _ in_clock ((fits_clock i s.clock).complete q h)
        of_site q (inr h) = goes_among i q (read s.clock a) _ in_condition (all.complete q h)

        by_last : (q : Need) → IsIn q (output_needs i k) ⊎ IsIn q (needs_each i (known b) s.clock ds) → GoesBy i (place_of q) (clock_names s.clock ++
            (read s.clock a ++ (arguments_of ++ reads_each (component_of i) g rs s.clock ds)))
        by_last q (inl h) = outputs_go i g (at_site (while_true a)) r (read s.clock) (λ x q h. left_alone q _ h) (λ x q h. in_left q _ [] h) fit
            (clock_names s.clock ++ (read s.clock a ++ (arguments_of ++ reads_each (component_of i) g rs s.clock ds)))
            (λ q h. of_site q (in_either q (clock_needs s.clock) (needs i (modes_need i) s.clock a) h))
            (λ z e. in_arguments z (of_list z e)) q h
        by_last q (inr h) = goes_among i q (reads_each (component_of i) g rs s.clock ds) _ in_defaults (defaults.complete q h)

        by_then : (q : Need) → IsIn q (needs i (known b) s.clock a) ⊎ IsIn q (output_needs i k ++ needs_each i (known b) s.clock ds)
            → GoesBy i (place_of q) (clock_names s.clock ++ (read s.clock a ++ (arguments_of ++ reads_each (component_of i) g rs s.clock ds)))
        by_then q (inl h) = goes_among i q (read s.clock a) _ in_condition (here.complete q h)
        by_then q (inr h) = by_last q (in_either q (output_needs i k) _ h)

        by : (q : Need) → IsIn q (clock_needs s.clock) ⊎ IsIn q (needs i (known b) s.clock a ++ (output_needs i k ++ needs_each i (known b) s.clock ds))
            → GoesBy i (place_of q) (clock_names s.clock ++ (read s.clock a ++ (arguments_of ++ reads_each (component_of i) g rs s.clock ds)))
        by q (inl h) = goes_among i q (clock_names s.clock) _ in_clock ((fits_clock i s.clock).complete q h)
        by q (inr h) = by_then q (in_either q (needs i (known b) s.clock a) _ h)

  mutual
    pub fits_there : (b : Bool) (e : Expression) (s : Standing) → Each Ready (component_of i) s e → FitsOn b s.clock e
    fits_there b (truth p q) s a = fits_clock i s.clock
    fits_there b (number p q) s a = fits_clock i s.clock
    fits_there b (name p x) s a = fits_both i (a_name [] x ∷ []) (clock_needs s.clock) (x ∷ []) (clock_names s.clock) (fits_name i x) (fits_clock i s.clock)
    fits_there b (negation p e) s a = fits_both i _ _ _ _ (fits_clock i s.clock) (fits_there b e (within s) a.1)
    fits_there b (minus p e) s a = fits_both i _ _ _ _ (fits_clock i s.clock) (fits_there b e (within s) a.1)
    fits_there b (pre p k e) s a = fits_clock i s.clock
    fits_there b (arrow p k d e) s a = fits_both i _ _ _ _ (fits_clock i s.clock)
        (fits_both i _ _ _ _ (fits_there b d (within s) a.1) (fits_there b e (within s) a.2))
    fits_there b (binary p o d e) s a = fits_both i _ _ _ _ (fits_clock i s.clock)
        (fits_both i _ _ _ _ (fits_there b d (within s) a.1) (fits_there b e (within s) a.2))
    fits_there b (choice p d e f) s a = fits_both i _ _ _ _ (fits_clock i s.clock) (fits_both i _ _ _ _ (fits_there b d (within s) a.1)
        (fits_both i _ _ _ _ (fits_there b e (within s) a.2) (fits_there b f (within s) a.3)))
    fits_there b (sampled p e q x) s a = fits_both i (a_name [] x.text ∷ []) _ (x.text ∷ []) _ (fits_name i x.text)
        (fits_there b e (moved (clock_of (component_of i) x.text) s) a.1)
    fits_there b (merged p x d e) s a = fits_both i (a_name [] x.text ∷ []) _ (x.text ∷ []) _ (fits_name i x.text)
        (fits_both i _ _ _ _ (fits_there b d (moved (sampled_by true x.text) s) a.1) (fits_there b e (moved (sampled_by false x.text) s) a.2))
    fits_there b (call p k f as_) s a = call_fits s k f.text as_ no_more a.0 (arguments_fit as_ (within s) a.1)
    fits_there b (condact p k e f as_ ds) s a = condact_fits s k f.text as_ ds b e a.0 (fits_there true e (within s) a.1) (fits_there b e (within s) a.1)
        (arguments_fit as_ (within s) a.2) (each_fits b ds (within s) a.3)
    fits_there b (mode_name p d x) s a = a b

    pub each_fits : (b : Bool) (es : Expressions) (s : Standing) → EachAmong Ready (component_of i) s es
        → Fits i (needs_each i (known b) s.clock es) (reads_each (component_of i) g rs s.clock es)
    each_fits b no_more s a = fits_none i
    each_fits b (more e es) s a = fits_both i _ _ _ _ (fits_there b e s a.0) (each_fits b es s a.1)

    arguments_fit : (es : Expressions) (s : Standing) → EachAmong Ready (component_of i) s es → AllByRecursion (λ a. FitsOn true s.clock a) (listed es)
    arguments_fit no_more s a = tt
    arguments_fit (more e es) s a = (fits_there true e s a.0, arguments_fit es s a.1)
