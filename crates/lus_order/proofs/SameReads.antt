-- What a declaration reads goes by the summaries of its callees alone.
use Rattle.std.proofs.Common.{◌≡◌, Bool, true, false, cond, List, [], ◌∷◌, ◌++◌, map, flat_map, refl, ap, ◌∙◌}
use Rattle.std.specs.List.{AllByRecursion}
use Rattle.lus_tree.specs.Tree.{Name, Spelled, Labelled, Expression, Expressions, truth, number, name, negation, minus, pre, arrow, binary, choice, sampled, merged, call, condact, mode_name, no_more, more, ContractStatement, assume, guarantee, ghost_variable, constant, mode, «import», Component}
use Rattle.lus_meaning.specs.Depends.{named_in}
use Rattle.lus_meaning.specs.EquationFaults.{clock_names}
use Rattle.lus_meaning.specs.Run.{Equation, equations}
use Rattle.lus_meaning.specs.Scene.{Clock, base, sampled_by, clock_of, clock_of_names, contract_statements}
use Rattle.way_laws.specs.OwnGraph.{Summary, Summaries, ModeReads, reads, reads_each, arguments_read, listed_read, shared_read, imported_reads, asked_reads, mode_reads_after, mode_reads, declared_reads, equation_reads, defined_reads, own_edges}
use Rattle.lus_order.specs.SameCallees.{SameIn, SameAmong, SameFor, SameCallees, ReadsByCallees}

module _ (n : Component) (g h : Summaries) where
  chosen : (b : Bool) (xs ys : List Name) → xs ≡ ys → cond b xs [] ≡ cond b ys []
  chosen b xs ys e = ap (λ z. cond b z []) e

  two : (xs ys us vs : List Name) → xs ≡ us → ys ≡ vs → xs ++ ys ≡ us ++ vs
  two xs ys us vs e f = ap (λ z. z ++ ys) e ∙ ap (λ z. us ++ z) f

  behind : (cs xs ys : List Name) → xs ≡ ys → cs ++ xs ≡ cs ++ ys
  behind cs xs ys e = ap (λ z. cs ++ z) e

  mutual
    same_reads : (m : ModeReads) (c : Clock) (e : Expression) → SameIn g h e → reads n g m c e ≡ reads n h m c e
    same_reads m c (truth p b) s = refl
    same_reads m c (number p k) s = refl
    same_reads m c (name p x) s = refl
    same_reads m c (negation p a) s = behind (clock_names c) _ _ (same_reads m c a s)
    same_reads m c (minus p a) s = behind (clock_names c) _ _ (same_reads m c a s)
    same_reads m c (pre p k a) s = refl
    same_reads m c (arrow p k a b) s = behind (clock_names c) _ _ (two _ _ _ _ (same_reads m c a s.0) (same_reads m c b s.1))
    same_reads m c (binary p o a b) s = behind (clock_names c) _ _ (two _ _ _ _ (same_reads m c a s.0) (same_reads m c b s.1))
    same_reads m c (choice p a b d) s =
        behind (clock_names c) _ _ (two _ _ _ _ (same_reads m c a s.0) (two _ _ _ _ (same_reads m c b s.1) (same_reads m c d s.2)))
    same_reads m c (sampled p a b x) s = ap (λ z. x.text ∷ z) (same_reads m (clock_of n x.text) a s)
    same_reads m c (merged p x a b) s =
        ap (λ z. x.text ∷ z) (two _ _ _ _ (same_reads m (sampled_by true x.text) a s.0) (same_reads m (sampled_by false x.text) b s.1))
    same_reads m c (call p k f as_) s = behind (clock_names c) _ _
        (ap (λ (u : Summary). arguments_read n g m c u.reads u.inputs as_) s.0 ∙ same_arguments m c (h f.text).reads (h f.text).inputs as_ s.1)
    same_reads m c (condact p k a f as_ ds) s = behind (clock_names c) _ _ (two _ _ _ _ (same_reads m c a s.0) (two _ _ _ _
        (ap (λ (u : Summary). arguments_read n g m c u.reads u.inputs as_) s.1 ∙ same_arguments m c (h f.text).reads (h f.text).inputs as_ s.2)
        (same_each m c ds s.3)))
    same_reads m c (mode_name p d x) s = refl

    same_each : (m : ModeReads) (c : Clock) (es : Expressions) → SameAmong g h es → reads_each n g m c es ≡ reads_each n h m c es
    same_each m c no_more s = refl
    same_each m c (more a as_) s = two _ _ _ _ (same_reads m c a s.0) (same_each m c as_ s.1)

    same_arguments : (m : ModeReads) (c : Clock) (ys xs : List Name) (es : Expressions) → SameAmong g h es
        → arguments_read n g m c ys xs es ≡ arguments_read n h m c ys xs es
    same_arguments m c ys [] es s = refl
    same_arguments m c ys (x ∷ xs) no_more s = refl
    same_arguments m c ys (x ∷ xs) (more a as_) s =
        two _ _ _ _ (chosen (named_in x ys) _ _ (same_reads m c a s.0)) (same_arguments m c ys xs as_ s.1)

  same_asked : (m : ModeReads) (rs : List Labelled) → AllByRecursion (λ r. SameIn g h r.value) rs → asked_reads n g m rs ≡ asked_reads n h m rs
  same_asked m [] s = refl
  same_asked m (r ∷ rs) s = two _ _ _ _ (same_reads m base r.value s.0) (same_asked m rs s.1)

  same_listed : (m : ModeReads) (ys xs : List Name) (es : List Expression) → AllByRecursion (SameIn g h) es
      → listed_read n g m ys xs es ≡ listed_read n h m ys xs es
  same_listed m ys [] es s = refl
  same_listed m ys (x ∷ xs) [] s = refl
  same_listed m ys (x ∷ xs) (e ∷ es) s = two _ _ _ _ (chosen (named_in x ys) _ _ (same_reads m base e s.0)) (same_listed m ys xs es s.1)

  same_shared : (ys os : List Name) (ws : List Spelled) → shared_read n g ys os ws ≡ shared_read n h ys os ws
  same_shared ys [] ws = refl
  same_shared ys (o ∷ os) [] = refl
  same_shared ys (o ∷ os) (w ∷ ws) = ap (λ z. cond (named_in o ys) (w.text ∷ []) [] ++ z) (same_shared ys os ws)

  abbrev imported : Summaries → ModeReads → Summary → Spelled → List Expression → List Spelled → Name × List Name → (List Name × Name) × List Name
  imported f m u c es ws e = ((c.text ∷ [], e.0), listed_read n f m e.1 u.inputs es ++ shared_read n f e.1 u.outputs ws)

  one_imported : (m : ModeReads) (u : Summary) (c : Spelled) (es : List Expression) (ws : List Spelled) (x : Name × List Name)
      → AllByRecursion (SameIn g h) es → imported g m u c es ws x ≡ imported h m u c es ws x
  one_imported m u c es ws x s =
      let pair : List Name → (List Name × Name) × List Name = λ z. ((c.text ∷ [], x.0), z) in
      ap pair (two _ _ _ _ (same_listed m x.1 u.inputs es s) (same_shared x.1 u.outputs ws))

  same_imported : (m : ModeReads) (u : Summary) (c : Spelled) (es : List Expression) (ws : List Spelled) (xs : List (Name × List Name))
      → AllByRecursion (SameIn g h) es → map (imported g m u c es ws) xs ≡ map (imported h m u c es ws) xs
  same_imported m u c es ws [] s = refl
  same_imported m u c es ws (x ∷ xs) s =
      ap (λ z. z ∷ map (imported g m u c es ws) xs) (one_imported m u c es ws x s)
      ∙ ap (λ zs. imported h m u c es ws x ∷ zs) (same_imported m u c es ws xs s)

  same_modes : (m : ModeReads) (cs : List ContractStatement) → AllByRecursion (SameFor g h) cs → mode_reads_after n g m cs ≡ mode_reads_after n h m cs
  same_modes m [] s = refl
  same_modes m (mode w rs es ∷ cs) s =
      same_modes (m ++ (([], w.text), asked_reads n g m rs) ∷ []) cs s.1
      ∙ ap (λ z. mode_reads_after n h (m ++ (([], w.text), z) ∷ []) cs) (same_asked m rs s.0)
  same_modes m («import» k c as_ xs ∷ cs) s =
      same_modes (m ++ imported_reads n g m (g c.text) c as_ xs) cs s.1
      ∙ ap (λ z. mode_reads_after n h (m ++ z) cs) (ap (λ (u : Summary). imported_reads n g m u c as_ xs) s.0.0
      ∙ same_imported m (h c.text) c as_ xs (h c.text).modes s.0.1)
  same_modes m (assume l ∷ cs) s = same_modes m cs s.1
  same_modes m (guarantee l ∷ cs) s = same_modes m cs s.1
  same_modes m (ghost_variable x e ∷ cs) s = same_modes m cs s.1
  same_modes m (constant c ∷ cs) s = same_modes m cs s.1

  module _ (s : SameCallees g h n) where
    whole : mode_reads n g ≡ mode_reads n h
    whole = same_modes [] (contract_statements n) s.modes

    same_equation : (e : Equation) → SameIn g h e.right → equation_reads n g e ≡ equation_reads n h e
    same_equation e t = two _ _ _ _ (declared e.names)
        (ap (λ m. reads n g m (clock_of_names n e.names) e.right) whole ∙ same_reads (mode_reads n h) (clock_of_names n e.names) e.right t)
      where
        declared : (xs : List Name) → flat_map (declared_reads n g) xs ≡ flat_map (declared_reads n h) xs
        declared [] = refl
        declared (x ∷ xs) = ap (λ z. declared_reads n g x ++ z) (declared xs)

    same_defined : (x : Name) (es : List Equation) → AllByRecursion (λ e. SameIn g h e.right) es → defined_reads n g x es ≡ defined_reads n h x es
    same_defined x [] t = refl
    same_defined x (e ∷ es) t = two _ _ _ _ (chosen (named_in x e.names) _ _ (same_equation e t.0)) (same_defined x es t.1)

    pub same_edges : (x : Name) → own_edges n g x ≡ own_edges n h x
    same_edges x = ap (λ z. declared_reads n g x ++ z) (same_defined x (equations n) s.sides)

pub reads_by_callees : ReadsByCallees
reads_by_callees n g h s = (whole n g h s, same_edges n g h s)
