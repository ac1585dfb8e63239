-- The variables of a search, which come from a form and from the clauses that are added.
use Rattle.std.specs.Prelude.{ℕ, zero, suc, ◌≡◌, ◌+◌, ◌<◌, Bool, true, false, cond, List, [], ◌∷◌, ◌++◌, length, Contains, refl}
use Rattle.std.proofs.Common.{ap, subst, arith}
use Rattle.std.proofs.lemmas.List.Elements.{Contains-append_left, Contains-append_right, Contains-push}
use Rattle.proof_steps.specs.declared.Literal.{Literal}
use Rattle.proof_steps.specs.declared.Literal.TheVariants.{Atom}
use Rattle.proof_steps.specs.View.{Inequality}
use Rattle.proof_steps.specs.Rows.{Form}
use Rattle.proof_checker.specs.Derived.{has}
use Rattle.proof_checker.proofs.Sets.{has-contains}
use Rattle.sat_core.specs.Shown.{plain, with_literal, with_clause, with_clauses, flags_from, atoms_from, variables_of}

literal-kept : (variables : List Literal) (l x : Literal) → Contains variables x → Contains (with_literal variables l) x
literal-kept variables l x i = go (has variables (plain l)) where
  go : (b : Bool) → Contains (cond b variables (variables ++ plain l ∷ [])) x
  go true = i
  go false = Contains-append_left variables (plain l ∷ []) x i

literal-there : (variables : List Literal) (l : Literal) → Contains (with_literal variables l) (plain l)
literal-there variables l = go (has variables (plain l)) refl where
  go : (b : Bool) → has variables (plain l) ≡ b → Contains (cond b variables (variables ++ plain l ∷ [])) (plain l)
  go true e = has-contains variables (plain l) e
  go false e = Contains-push variables (plain l)

pub variables-kept : (variables clause : List Literal) (x : Literal) → Contains variables x → Contains (with_clause variables clause) x
variables-kept variables [] x i = i
variables-kept variables (l ∷ ls) x i = variables-kept (with_literal variables l) ls x (literal-kept variables l x i)

-- those of the clause are among them
pub first-there : (variables : List Literal) (l : Literal) (ls : List Literal) → Contains (with_clause variables (l ∷ ls)) (plain l)
first-there variables l ls = variables-kept (with_literal variables l) ls (plain l) (literal-there variables l)

all-kept : (variables : List Literal) (clauses : List (List Literal)) (x : Literal) → Contains variables x
    → Contains (with_clauses variables clauses) x
all-kept variables [] x i = i
all-kept variables (c ∷ cs) x i = all-kept (with_clause variables c) cs x (variables-kept variables c x i)

atom-there : (m n : ℕ) (atoms : List Inequality) → n < length atoms → Contains (atoms_from m atoms) (Atom (m + n) true)
atom-there m n [] l = absurd (omega arith)
atom-there m zero (i ∷ rest) l = (0, omega arith, ap (λ k. Atom k true) (same m)) where
  same : (m : ℕ) → m ≡ m + 0
  same m = omega arith
atom-there m (suc n) (i ∷ rest) l =
    let j = atom-there (m + 1) n rest (omega arith) in
    subst (λ k. Contains (atoms_from m (i ∷ rest)) (Atom k true)) (next m n) (suc j.0, (let b = j.1 in omega arith), j.2) where
      next : (m n : ℕ) → (m + 1) + n ≡ m + suc n
      next m n = omega arith

-- each atom of a form is a variable
pub atoms-there : (f : Form) (n : ℕ) → n < length f.atoms → Contains (variables_of f) (Atom (suc n) true)
atoms-there f n l =
    subst (λ k. Contains (variables_of f) (Atom k true)) (up n)
    (all-kept (flags_from 0 f.shapes ++ atoms_from 1 f.atoms) f.clauses (Atom (1 + n) true)
    (Contains-append_right (flags_from 0 f.shapes) (atoms_from 1 f.atoms) (Atom (1 + n) true) (atom-there 1 n f.atoms l))) where
      up : (n : ℕ) → 1 + n ≡ suc n
      up n = omega arith
