-- The names of a declaration that neither an equation nor a caller gives are its free ones: those that a trace may list.
use Rattle.std.proofs.Common.{◌≡◌, Bool, true, false, ◌||◌, List, [], ◌++◌, map, refl, sym, ap, ◌∙◌, subst}
use Rattle.std.specs.Prelude.{Contains}
use Rattle.std.specs.List.{AllByRecursion}
use Rattle.std.proofs.lemmas.Bool.{false≢true, cases_Bool}
use Rattle.std.proofs.lemmas.List.Elements.{Contains-append_left, Contains-append_right}
use Rattle.std.proofs.Math.Logic.{◌⊎◌, inl, inr}
use Rattle.lus_tree.specs.Tree.{Name, text_of, Variable, Component}
use Rattle.lus_meaning.specs.Scene.{Manner, plain, while_true, as_import, contract_statements, ghosts, variables}
use Rattle.lus_meaning.specs.Depends.{named_in, left_names, outputs_given}
use Rattle.lus_meaning.specs.Trace.{free_names, free_in}
use Rattle.lus_meaning.specs.WellMade.{AreDistinct}
use Rattle.lus_meaning.specs.EquationFaults.{body_lefts, definable, left_faults}
use Rattle.lus_meaning.proofs.Choices.{free_part, free_whole}
use Rattle.lus_meaning.proofs.Lists.{all_from, all_from_both, both_parts, mapped_all, named_append, or_left, or_true}
use Rattle.lus_meaning.proofs.NamesOnce.{at_one}
use Rattle.lus_meaning.proofs.Now.{left_part, right_part}
use Rattle.rule_laws.proofs.Lists.{each_named}
use Rattle.rule_laws.proofs.Truths.{first_false, second_false}
use Rattle.clock_laws.proofs.Lefts.{lefts_apart, left_definable, variables_apart, not_in_both}
use Rattle.rule_laws.proofs.Covered.{all_contained}

abbrev names_of : List Variable → List Name
names_of vs = map (λ v. v.name.text) vs

-- neither given nor defined
abbrev pub IsOpen : List Name → Component → Variable → Type 0
IsOpen given d v = (named_in v.name.text given || named_in v.name.text (left_names d)) ≡ false

-- the free variables are those that are open
pub record AreFree (d : Component) (given : List Name) (free : List Variable) : Type 0 where
  pub each : AllByRecursion (λ v. IsOpen given d v → Contains free v) (variables d)
  pub declared : AllByRecursion (Contains (variables d)) free
  pub unset : AllByRecursion (IsOpen given d) free

-- what holds of the free ones holds of those that are open, and the other way
pub of_open : (d : Component) (given : List Name) (free : List Variable) → AreFree d given free → (P : Variable → Type 0) → AllByRecursion P free
    → AllByRecursion (λ v. IsOpen given d v → P v) (variables d)
of_open d given free r P a = all_from (λ v. IsOpen given d v → Contains free v) (λ v. IsOpen given d v → P v)
    (λ v h o. at_one P free v a (h o)) (variables d) r.each

pub of_free : (d : Component) (given : List Name) (free : List Variable) → AreFree d given free → (P : Variable → Type 0)
    → AllByRecursion (λ v. IsOpen given d v → P v) (variables d) → AllByRecursion P free
of_free d given free r P a = all_from_both (Contains (variables d)) (IsOpen given d) P
    (λ v m o. at_one (λ w. IsOpen given d w → P w) (variables d) v a m o) free r.declared r.unset

-- ---- truths

neither : (a b : Bool) → a ≡ false → b ≡ false → (a || b) ≡ false
neither a b e h = rw (e, h) refl

both_ways : (a : Bool) → a ≡ true → a ≡ false → ⊥
both_ways a e h = false≢true (sym h ∙ e)

-- ---- the parts of a declaration's variables

module _ (d : Component) where
  abbrev gs : List Variable
  gs = ghosts (contract_statements d)

  over_all : (P : Variable → Type 0) → AllByRecursion P d.inputs → AllByRecursion P (d.outputs ++ d.locals) → AllByRecursion P gs
      → AllByRecursion P (variables d)
  over_all P a b g = both_parts P (d.inputs ++ d.outputs ++ d.locals) gs
      (both_parts P (d.inputs ++ d.outputs) d.locals (both_parts P d.inputs d.outputs a (left_part P d.outputs d.locals b))
      (right_part P d.outputs d.locals b)) g

  over_inputs : (P : Variable → Type 0) → AllByRecursion P (variables d) → AllByRecursion P d.inputs
  over_inputs P a = left_part P d.inputs d.outputs
      (left_part P (d.inputs ++ d.outputs) d.locals (left_part P (d.inputs ++ d.outputs ++ d.locals) gs a))

  pub over_others : (P : Variable → Type 0) → AllByRecursion P (variables d) → AllByRecursion P (d.outputs ++ d.locals)
  over_others P a =
      let front : AllByRecursion P (d.inputs ++ d.outputs ++ d.locals) = left_part P (d.inputs ++ d.outputs ++ d.locals) gs a in
      both_parts P d.outputs d.locals (right_part P d.inputs d.outputs (left_part P (d.inputs ++ d.outputs) d.locals front))
      (right_part P (d.inputs ++ d.outputs) d.locals front)

  -- what holds of outputs and locals holds of the free names
  pub over_free : (P : Variable → Type 0) → AllByRecursion P (d.outputs ++ d.locals) → AllByRecursion P (free_names d)
  over_free P a = free_whole d P (d.outputs ++ d.locals)
      (all_from P (λ v. named_in v.name.text (left_names d) ≡ false → P v) (λ v h _. h) (d.outputs ++ d.locals) a)

  themselves : (vs : List Variable) → AllByRecursion (λ v. named_in v.name.text (names_of vs) ≡ true) vs
  themselves vs = mapped_all (λ x. named_in x (names_of vs) ≡ true) (λ v. v.name.text) vs (each_named (names_of vs))

  ghosts_left : AllByRecursion (λ v. named_in v.name.text (left_names d) ≡ true) gs
  ghosts_left = all_from (λ v. named_in v.name.text (names_of gs) ≡ true) (λ v. named_in v.name.text (left_names d) ≡ true)
      (λ v h. ap (named_in v.name.text) (lefts_apart d) ∙ named_append v.name.text (names_of gs) (map text_of (body_lefts d))
      ∙ or_left (named_in v.name.text (names_of gs)) (named_in v.name.text (map text_of (body_lefts d))) h) gs (themselves gs)

  ghosts_closed : (given : List Name) (P : Variable → Type 0) → AllByRecursion (λ v. IsOpen given d v → P v) gs
  ghosts_closed given P = all_from (λ v. named_in v.name.text (left_names d) ≡ true) (λ v. IsOpen given d v → P v)
      (λ v h o. absurd (both_ways (named_in v.name.text (left_names d)) h
      (second_false (named_in v.name.text given) (named_in v.name.text (left_names d)) o))) gs ghosts_left

  -- what is given is not open
  given_closed : (given : List Name) (P : Variable → Type 0) (vs : List Variable) → AllByRecursion (λ v. named_in v.name.text given ≡ true) vs
      → AllByRecursion (λ v. IsOpen given d v → P v) vs
  given_closed given P vs a = all_from (λ v. named_in v.name.text given ≡ true) (λ v. IsOpen given d v → P v)
      (λ v h o. absurd (both_ways (named_in v.name.text given) h
      (first_false (named_in v.name.text given) (named_in v.name.text (left_names d)) o))) vs a

  free_or_left : (given : List Name) → AllByRecursion (λ v. IsOpen given d v → Contains (free_names d) v) (d.outputs ++ d.locals)
  free_or_left given = all_from (λ v. named_in v.name.text (left_names d) ≡ false → Contains (free_names d) v)
      (λ v. IsOpen given d v → Contains (free_names d) v)
      (λ v h o. h (second_false (named_in v.name.text given) (named_in v.name.text (left_names d)) o)) (d.outputs ++ d.locals)
      (free_part d (Contains (free_names d)) (d.outputs ++ d.locals) (all_contained (Contains (free_names d)) (free_names d) (λ v h. h)))

  all_declared : AllByRecursion (Contains (variables d)) (variables d)
  all_declared = all_contained (Contains (variables d)) (variables d) (λ v h. h)

  -- ---- the analysed declaration, whose inputs are free

  module _ (distinct : AreDistinct (map (λ v. v.name.text) (variables d))) where
    apart : (z : Name) → named_in z (names_of d.inputs) ≡ true → named_in z (definable d ++ names_of gs) ≡ false
    apart z h = not_in_both z (names_of d.inputs) (definable d ++ names_of gs) (subst AreDistinct (variables_apart d) distinct) h

    inputs_not_left : left_faults d ≡ [] → AllByRecursion (λ v. named_in v.name.text (left_names d) ≡ false) d.inputs
    inputs_not_left e = all_from (λ v. named_in v.name.text (names_of d.inputs) ≡ true) (λ v. named_in v.name.text (left_names d) ≡ false)
        (λ v h. ap (named_in v.name.text) (lefts_apart d) ∙ named_append v.name.text (names_of gs) (map text_of (body_lefts d))
        ∙ go v.name.text (sym (named_append v.name.text (definable d) (names_of gs)) ∙ apart v.name.text h)
        (cases_Bool (named_in v.name.text (map text_of (body_lefts d))))) d.inputs (themselves d.inputs)
      where
        go : (z : Name) → (named_in z (definable d) || named_in z (names_of gs)) ≡ false
            → (named_in z (map text_of (body_lefts d)) ≡ true) ⊎ (named_in z (map text_of (body_lefts d)) ≡ false)
            → (named_in z (names_of gs) || named_in z (map text_of (body_lefts d))) ≡ false
        go z o (inl t) = absurd (both_ways (named_in z (definable d)) (left_definable d e z t)
            (first_false (named_in z (definable d)) (named_in z (names_of gs)) o))
        go z o (inr f) = neither (named_in z (names_of gs)) (named_in z (map text_of (body_lefts d)))
            (second_false (named_in z (definable d)) (named_in z (names_of gs)) o) f

    pub top_free : left_faults d ≡ [] → AreFree d [] (d.inputs ++ free_names d)
    top_free e = record {
      each = over_all (λ v. IsOpen [] d v → Contains free v)
          (all_from (Contains d.inputs) (λ v. IsOpen [] d v → Contains free v) (λ v h _. Contains-append_left d.inputs (free_names d) v h) d.inputs
          (all_contained (Contains d.inputs) d.inputs (λ v h. h)))
          (all_from (λ v. IsOpen [] d v → Contains (free_names d) v) (λ v. IsOpen [] d v → Contains free v)
          (λ v h o. Contains-append_right d.inputs (free_names d) v (h o)) (d.outputs ++ d.locals) (free_or_left []))
          (ghosts_closed [] (Contains free));
      declared = both_parts (Contains (variables d)) d.inputs (free_names d) (over_inputs (Contains (variables d)) all_declared)
          (over_free (Contains (variables d)) (over_others (Contains (variables d)) all_declared));
      unset = both_parts (IsOpen [] d) d.inputs (free_names d) (inputs_not_left e)
          (free_whole d (IsOpen [] d) (d.outputs ++ d.locals) (all_contained (λ v. named_in v.name.text (left_names d) ≡ false → IsOpen [] d v)
          (d.outputs ++ d.locals) (λ v _ h. h)));
    }
      where
        free : List Variable
        free = d.inputs ++ free_names d

    -- ---- a call, whose inputs the caller gives

    not_inputs : AllByRecursion (λ v. named_in v.name.text (names_of d.inputs) ≡ false) (d.outputs ++ d.locals)
    not_inputs = all_from (λ v. named_in v.name.text (definable d) ≡ true) (λ v. named_in v.name.text (names_of d.inputs) ≡ false)
        (λ v h. go v.name.text h (cases_Bool (named_in v.name.text (names_of d.inputs)))) (d.outputs ++ d.locals) (themselves (d.outputs ++ d.locals))
      where
        go : (z : Name) → named_in z (definable d) ≡ true → (named_in z (names_of d.inputs) ≡ true) ⊎ (named_in z (names_of d.inputs) ≡ false)
            → named_in z (names_of d.inputs) ≡ false
        go z h (inl t) = absurd (both_ways (named_in z (definable d)) h
            (first_false (named_in z (definable d)) (named_in z (names_of gs)) (sym (named_append z (definable d) (names_of gs)) ∙ apart z t)))
        go z h (inr f) = f

    inputs_given : (ys : List Name) → AllByRecursion (λ v. named_in v.name.text (names_of d.inputs ++ ys) ≡ true) d.inputs
    inputs_given ys = all_from (λ v. named_in v.name.text (names_of d.inputs) ≡ true) (λ v. named_in v.name.text (names_of d.inputs ++ ys) ≡ true)
        (λ v h. named_append v.name.text (names_of d.inputs) ys ∙ or_left (named_in v.name.text (names_of d.inputs)) (named_in v.name.text ys) h)
        d.inputs (themselves d.inputs)

    node_free : AreFree d (names_of d.inputs ++ []) (free_names d)
    node_free = record {
      each = over_all (λ v. IsOpen given d v → Contains (free_names d) v)
          (given_closed given (Contains (free_names d)) d.inputs (inputs_given [])) (free_or_left given)
          (ghosts_closed given (Contains (free_names d)));
      declared = over_free (Contains (variables d)) (over_others (Contains (variables d)) all_declared);
      unset = free_whole d (IsOpen given d) (d.outputs ++ d.locals)
          (all_from (λ v. named_in v.name.text (names_of d.inputs) ≡ false)
          (λ v. named_in v.name.text (left_names d) ≡ false → IsOpen given d v)
          (λ v h l. neither (named_in v.name.text given) (named_in v.name.text (left_names d))
          (named_append v.name.text (names_of d.inputs) [] ∙ neither (named_in v.name.text (names_of d.inputs)) false h refl) l)
          (d.outputs ++ d.locals) not_inputs);
    }
      where
        given : List Name
        given = names_of d.inputs ++ []

    -- an import has no locals, and its outputs are given too
    import_free : d.locals ≡ [] → AreFree d (names_of d.inputs ++ names_of d.outputs) []
    import_free e = record {
      each = over_all (λ v. IsOpen given d v → Contains [] v) (given_closed given (Contains []) d.inputs (inputs_given (names_of d.outputs)))
          (both_parts (λ v. IsOpen given d v → Contains [] v) d.outputs d.locals
          (given_closed given (Contains []) d.outputs (all_from (λ v. named_in v.name.text (names_of d.outputs) ≡ true)
          (λ v. named_in v.name.text given ≡ true) (λ v h. named_append v.name.text (names_of d.inputs) (names_of d.outputs)
          ∙ or_true (named_in v.name.text (names_of d.inputs)) (named_in v.name.text (names_of d.outputs)) h) d.outputs (themselves d.outputs)))
          (subst (AllByRecursion (λ v. IsOpen given d v → Contains [] v)) (sym e) tt))
          (ghosts_closed given (Contains []));
      declared = tt;
      unset = tt;
    }
      where
        given : List Name
        given = names_of d.inputs ++ names_of d.outputs

-- of an import it is asked that it has no locals
abbrev pub IsBare : Manner → Component → Type 0
IsBare (as_import xs) d = d.locals ≡ []
IsBare plain d = Unit {0}
IsBare (while_true a) d = Unit {0}

pub called_free : (d : Component) → AreDistinct (map (λ v. v.name.text) (variables d)) → (m : Manner) → IsBare m d
    → AreFree d (map (λ v. v.name.text) d.inputs ++ outputs_given m (map (λ v. v.name.text) d.outputs)) (free_in m d)
called_free d a plain h = node_free d a
called_free d a (while_true e) h = node_free d a
called_free d a (as_import xs) h = import_free d a h
