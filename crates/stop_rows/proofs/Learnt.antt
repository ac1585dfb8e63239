-- The rows of learnt clauses.
use Rattle.std.specs.Prelude.{ℕ, ◌≡◌, ◌==◌, Bool, true, false, List, [], ◌∷◌, ◌++◌, Contains, cond, refl}
use Rattle.std.proofs.Common.{arith}
use Rattle.std.proofs.lemmas.List.Elements.{All-nil, All-cons, All-contains}
use lib.IntN.{pos}
use Rattle.proof_steps.specs.declared.Literal.{Literal}
use Rattle.proof_steps.specs.declared.Literal.TheVariants.{Flag}
use Rattle.proof_steps.specs.Meaning.{Values, Solves, clause_true, as_said, opposite}
use Rattle.proof_steps.specs.StopView.{conflicts}
use Rattle.proof_steps.specs.Stopped.{IsTrueOf, IsLearnt, IsOver, Includes}
use Rattle.stop_rows.proofs.Halves.{alone-in}
use Rattle.stop_rows.specs.Conflicts.{three_flags, spent, a_alone, b_alone, a_or_c}

-- `a or b`, `a or not b`
abbrev either : Bool → List Literal
either b = Flag 0 true ∷ Flag 1 b ∷ []

abbrev known : List (List Literal)
known = three_flags.clauses

-- from `a or b` and `a or not b`
a-follows : (a b : Bool) → cond a true (cond b true false) ≡ true
    → cond a true (cond (as_said false b) true false) ≡ true → cond a true false ≡ true
a-follows true b h k = refl
a-follows false true h k = absurd cc
a-follows false false h k = absurd cc

follows : (v : Values) → Solves [] v known → clause_true [] v a_alone ≡ true
follows v s =
    let p = λ (c : List Literal). clause_true [] v c ≡ true in
    a-follows (v.flag 0) (v.flag 1) (All-contains p known _ s (0, omega arith, refl)) (All-contains p known _ s (1, omega arith, refl))

abbrev is-over : Literal → Type 0
is-over = IsOver three_flags []

abbrev has-no-opposite : Literal → Type 0
has-no-opposite m = ¬ Contains a_alone (opposite m)

abbrev is-no-part : List Literal → Type 0
is-no-part other = ¬ Includes a_alone other

other-sign : Flag 0 true ≡ Flag 0 false → ⊥
other-sign e = absurd cc

other-flag : (b : Bool) → Flag 0 true ≡ Flag 1 b → ⊥
other-flag b e = absurd cc

no-part : (b : Bool) → is-no-part (either b)
no-part b i =
    other-flag b (alone-in (Flag 0 true) (Flag 1 b) (All-contains (Contains a_alone) (either b) (Flag 1 b) i (1, omega arith, refl)))

is-learnt : IsLearnt three_flags [] known a_alone
is-learnt = record {
  over = All-cons is-over (Flag 0 true) [] refl (All-nil is-over);
  follows = follows;
  literals = λ e. absurd cc;
  no_opposites = All-cons has-no-opposite (Flag 0 true) [] (λ c. other-sign (alone-in (Flag 0 true) (Flag 0 false) c)) (All-nil has-no-opposite);
  fresh = All-cons is-no-part (either true) (either false ∷ []) (no-part true) (All-cons is-no-part (either false) [] (no-part false) (All-nil is-no-part));
}

pub learnt : IsTrueOf three_flags (spent 1) (conflicts (a_alone ∷ []) [])
learnt = (tt, refl, (is-learnt, tt))

pub nothing-new : ¬ IsTrueOf three_flags (spent 2) (conflicts (a_alone ∷ a_or_c ∷ []) [])
nothing-new t =
    All-contains (λ other. ¬ Includes a_or_c other) (known ++ a_alone ∷ []) a_alone t.2.1.0.fresh (2, omega arith, refl)
    (All-cons (Contains a_or_c) (Flag 0 true) [] (0, omega arith, refl) (All-nil (Contains a_or_c)))

-- a true and b false
abbrev values : Values
values = record { flag = λ x. x == 0; number = λ x. pos 0 }

abbrev holds : List Literal → Type 0
holds c = clause_true [] values c ≡ true

pub no-consequence : ¬ IsTrueOf three_flags (spent 1) (conflicts (b_alone ∷ []) [])
no-consequence t = false-true (t.2.0.follows values solves) where
  solves : Solves [] values known
  solves =
      All-cons holds (either true) (either false ∷ []) refl (All-cons holds (either false) [] refl (All-nil holds))

  false-true : false ≡ true → ⊥
  false-true e = absurd cc

pub too-few : ¬ IsTrueOf three_flags (spent 2) (conflicts (a_alone ∷ []) [])
too-few t = let e : ◌≡◌ {A = ℕ} 1 2 = t.1 in absurd (omega arith)
