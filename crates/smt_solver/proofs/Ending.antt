-- The end of a run over a grown form is one of the query.
use Rattle.std.specs.Prelude.{ℕ, zero, suc, ◌≡◌, true, false, cond, nat_lt, List, [], ◌∷◌, ◌++◌, length, map, Some, All, slice_get}
use Rattle.std.specs.List.{AllByRecursion}
use Rattle.std.proofs.Common.{◌∙◌, ap, subst, arith}
use Rattle.std.proofs.lemmas.List.{append-nil}
use Rattle.std.proofs.lemmas.List.Elements.{All-contains, recursion_from_All}
use Rattle.std.proofs.lemmas.Bool.Decides.{nat_tests}
use lib.IntN.{ℤ}
use Rattle.kind_num.specs.declared.Shape.{Shape}
use Rattle.kind_num.specs.declared.Shape.TheVariants.{Number}
use Rattle.proof_steps.specs.declared.Literal.{Literal}
use Rattle.proof_steps.specs.declared.Literal.TheVariants as l
use Rattle.proof_steps.specs.View.{Inequality, Move}
use Rattle.proof_steps.specs.Meaning.{Values, Solves, clause_true}
use Rattle.proof_steps.specs.Rows.{Form}
use Rattle.proof_steps.specs.Bounds.{split_atom}
use Rattle.proof_steps.specs.Stopped.{IsOver, IsLearnt, AreLearnt}
use Rattle.proof_checker.specs.Check.{literals_fit, is_number, terms_fit, verdict, refuted}
use Rattle.proof_checker.specs.Rules.{AreRight, AllFit}
use Rattle.proof_checker.proofs.Firsts.{right_refuted, refuted_right}
use Rattle.smt_solver.specs.Growing.{grown}
use Rattle.smt_solver.specs.Run.{Standing, AreFit, IsRun}
use Rattle.smt_solver.proofs.Turns.{all-of}
use Rattle.smt_solver.proofs.Growing.{clause-same}

module _ (f : Form) (pairs : List (ℕ × ℤ)) (fit : AreFit f f.clauses) where
  abbrev splits : List Inequality
  splits = map split_atom pairs

  abbrev form : Form
  form = grown f splits

  over-of : (x : Literal) → IsOver form [] x → IsOver f pairs x
  over-of (l.Flag n b) o = o
  over-of (l.Atom n b) o = (o.0, (let e = ap length (append-nil (f.atoms ++ splits)) in let q = o.1 in omega arith))

  solved : (v : Values) → Solves f.atoms v f.clauses → Solves (f.atoms ++ splits) v f.clauses
  solved v y = all-of (λ c. clause_true (f.atoms ++ splits) v c ≡ true) f.clauses (λ c i.
      clause-same f.atoms splits f.shapes v c
      (All-contains (λ c. literals_fit f.shapes (length f.atoms) c ≡ true) f.clauses c fit i)
      ∙ All-contains (λ c. clause_true f.atoms v c ≡ true) f.clauses c y i)

  learnt-of : (known : List (List Literal)) (c : List Literal) → IsLearnt form [] known c → IsLearnt f pairs known c
  learnt-of known c g = record {
    over = all-of (IsOver f pairs) c (λ x i. over-of x (All-contains (IsOver form []) c x g.over i));
    follows = λ v y. subst (λ (atoms : List Inequality). clause_true atoms v c ≡ true) (append-nil (f.atoms ++ splits))
        (g.follows v (solved v y));
    literals = g.literals;
    no_opposites = g.no_opposites;
    fresh = g.fresh;
  }

  all-learnt : (known cs : List (List Literal)) → AreLearnt form [] known cs → AreLearnt f pairs known cs
  all-learnt known [] g = tt
  all-learnt known (c ∷ cs) g = (learnt-of known c g.0, all-learnt (known ++ c ∷ []) cs g.1)

pub listed-of : (f : Form) (pairs : List (ℕ × ℤ)) (s : Standing) → AreFit f f.clauses → s.form ≡ grown f (map split_atom pairs)
    → IsRun s → AreLearnt f pairs f.clauses s.listed
listed-of f pairs s fit e h =
    all-learnt f pairs fit f.clauses s.listed
    (subst (λ (g : Form). AreLearnt g [] g.clauses s.listed) e h.learnt)

split-fits : (shapes : List Shape) (x : ℕ) (c : ℤ) → slice_get shapes x ≡ Some Number
    → terms_fit shapes 0 (split_atom (x, c)).terms ≡ true
split-fits shapes x c e =
    ap (λ b. cond (cond b false (cond (is_number (slice_get shapes x)) true false)) true false) (none x)
    ∙ ap (λ o. cond (cond (is_number o) true false) true false) e where
      none : (x : ℕ) → nat_lt x 0 ≡ false
      none x = grind (arith, nat_tests)

splits-fit : (shapes : List Shape) (pairs : List (ℕ × ℤ)) → AllByRecursion (λ (p : ℕ × ℤ). slice_get shapes p.0 ≡ Some Number) pairs
    → AllFit shapes (map split_atom pairs)
splits-fit shapes [] a n i e = absurd cc
splits-fit shapes (p ∷ pairs) a zero i e = subst (λ (j : Inequality). terms_fit shapes 0 j.terms ≡ true) (is (split_atom p) i e)
    (split-fits shapes p.0 p.1 a.0) where
      is : (x y : Inequality) → Some x ≡ Some y → x ≡ y
      is x y e = cc
splits-fit shapes (p ∷ pairs) a (suc n) i e = splits-fit shapes pairs a.1 n i e

pub refuted-of : (f : Form) (pairs : List (ℕ × ℤ)) (moves : List Move)
    → All (λ (p : ℕ × ℤ). slice_get f.shapes p.0 ≡ Some Number) pairs
    → verdict f.shapes (grown f (map split_atom pairs)).atoms f.clauses [] moves ≡ refuted
    → verdict f.shapes f.atoms f.clauses (map split_atom pairs) moves ≡ refuted
refuted-of f pairs moves a e =
    let r = refuted_right f.shapes (f.atoms ++ map split_atom pairs) f.clauses [] moves e in
    right_refuted f.shapes f.atoms f.clauses (map split_atom pairs) moves (
      record {
        fit = splits-fit f.shapes pairs (recursion_from_All (λ (p : ℕ × ℤ). slice_get f.shapes p.0 ≡ Some Number) pairs a);
        right = subst (λ atoms. AreRight f.shapes atoms f.clauses moves) (append-nil (f.atoms ++ map split_atom pairs)) r.0.right;
      },
      r.1,
    )
