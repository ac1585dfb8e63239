-- Sizes of expressions in code.
use Rattle.std.proofs.Common.{◌≡◌, ◌+◌, ◌<◌, ◌++◌, length, take, get_or, length-append, arith, ℕ, zero, suc, Bool, true, false, ◌||◌, not, cond, List, [], ◌∷◌, map, Option, Some, None, refl, sym, ap, ◌∙◌}
use Rattle.std.specs.Prelude.{is_none, option_map, find}
use Rattle.std.specs.Str.{bytes_eq}
use Rattle.lus_tree.specs.Tree.{Name, Variable, ContractStatement, Component}
use Rattle.lus_meaning.specs.ClockFaults.{name_clock}
use Rattle.lus_meaning.specs.Depends.{named_in}
use Rattle.lus_meaning.specs.Scene.{Clock, base, sampled_by, clock_of, variables, ghosts, contract_statements, clock_from}
use Rattle.lus_streams.proofs.Firsts.{next_ghosts}
use Rattle.lus_meaning.specs.Sizes.{Size, leaf, one, two, presence_within, presence}
use Rattle.lus_streams.specs.declared.clock.Clock.{Clock as CodeClock}
use Rattle.lus_streams.specs.Clocks.{clocks_seen}
use Rattle.lus_limits.specs.Measured.{wrapped, negations, passes}
use Rattle.lus_limits.specs.SizeCuts.{cut_term}
use Rattle.lus_limits.proofs.SizeCuts.{twice, two_alike}

none_seen : (o : Option CodeClock) → is_none (clocks_seen o) ≡ is_none o
none_seen None = refl
none_seen (Some c) = refl

none_named : (x : Name) (vs : List Variable) →
    is_none (option_map (λ v. clock_from v.clock) (find (λ v. bytes_eq x v.name.text) vs)) ≡ not (named_in x (map (λ v. v.name.text) vs))
none_named x [] = refl
none_named x (v ∷ vs) = by_case (bytes_eq x v.name.text) (none_named x vs) where
  by_case : (b : Bool) →
      is_none (option_map (λ v. clock_from v.clock) (find (λ v. bytes_eq x v.name.text) vs)) ≡ not (named_in x (map (λ v. v.name.text) vs)) →
      is_none (option_map (λ v. clock_from v.clock) (cond b (Some v) (find (λ v. bytes_eq x v.name.text) vs)))
      ≡ not (b || named_in x (map (λ v. v.name.text) vs))
  by_case true h = refl
  by_case false h = h

-- what has no clock is no stream
pub fixed_name : (o : Option CodeClock) (n : Component) (x : Name) → clocks_seen o ≡ name_clock n x →
    is_none o ≡ not (named_in x (map (λ v. v.name.text) (variables n)))
fixed_name o n x e = sym (none_seen o) ∙ ap is_none e ∙ none_named x (variables n)

-- ---- presence

wrapped_outside : (k : ℕ) (s : Size) → wrapped k (two s (one leaf)) ≡ two (wrapped k s) (one leaf)
wrapped_outside zero s = refl
wrapped_outside (suc k) s = wrapped_outside k (two s (one leaf))

presence_wrapped : (d : ℕ) (n : Component) (c : Clock) → presence_within d n c ≡ wrapped (negations d n c) leaf
presence_wrapped zero n c = refl
presence_wrapped (suc d) n base = refl
presence_wrapped (suc d) n (sampled_by true x) = refl
presence_wrapped (suc d) n (sampled_by false x) =
    ap (λ s. two s (one leaf)) (presence_wrapped d n (clock_of n x)) ∙ sym (wrapped_outside (negations d n (clock_of n x)) leaf)

none_at_base : (d : ℕ) (n : Component) → negations d n base ≡ zero
none_at_base zero n = refl
none_at_base (suc d) n = refl

none_where_true : (d : ℕ) (n : Component) (x : Name) → negations d n (sampled_by true x) ≡ zero
none_where_true zero n x = refl
none_where_true (suc d) n x = refl

next_is : (d : ℕ) → d + 1 ≡ suc d
next_is d = omega arith

pub base_passed : (d : ℕ) (n : Component) (s : Size) → passes d n base s ≡ passes (d + 1) n base s
base_passed d n s =
    ap (λ k. cut_term (wrapped k s)) (none_at_base d n) ∙ sym (ap (λ k. passes k n base s) (next_is d))

pub true_passed : (d : ℕ) (n : Component) (x : Name) (s : Size) → passes d n (sampled_by true x) s ≡ passes (d + 1) n (sampled_by true x) s
true_passed d n x s =
    ap (λ k. cut_term (wrapped k s)) (none_where_true d n x) ∙ sym (ap (λ k. passes k n (sampled_by true x) s) (next_is d))

cut_wrapped : (k : ℕ) (s t : Size) → cut_term s ≡ cut_term t → cut_term (wrapped k s) ≡ cut_term (wrapped k t)
cut_wrapped zero s t e = e
cut_wrapped (suc k) s t e = cut_wrapped k (two s (one leaf)) (two t (one leaf)) (two_alike s t (one leaf) (one leaf) e refl)

pub false_passed : (d : ℕ) (n : Component) (x : Name) (c : Clock) (s t : Size) → c ≡ clock_of n x → t ≡ cut_term (two s (one leaf)) →
    passes d n c t ≡ passes (d + 1) n (sampled_by false x) s
false_passed d n x c s t e f =
    ap (λ k. passes d n k t) e ∙ ap (λ z. passes d n (clock_of n x) z) f
    ∙ cut_wrapped (negations d n (clock_of n x)) (cut_term (two s (one leaf))) (two s (one leaf)) (twice (two s (one leaf)))
    ∙ sym (ap (λ k. passes k n (sampled_by false x) s) (next_is d))

-- as many streams as a declaration has, kind by kind
pub streams_counted : (n : Component) (a b d e : ℕ) → a ≡ length n.inputs → b ≡ length n.outputs → d ≡ length n.locals
    → e ≡ length (ghosts (contract_statements n)) → (((0 + a) + b) + d) + e ≡ length (variables n)
streams_counted n a b d e p q r s =
    let gs : List Variable = ghosts (contract_statements n) in
    let t : length (((n.inputs ++ n.outputs) ++ n.locals) ++ gs) ≡ length ((n.inputs ++ n.outputs) ++ n.locals) + length gs =
    length-append ((n.inputs ++ n.outputs) ++ n.locals) gs in
    let u : length ((n.inputs ++ n.outputs) ++ n.locals) ≡ length (n.inputs ++ n.outputs) + length n.locals =
    length-append (n.inputs ++ n.outputs) n.locals in
    let v : length (n.inputs ++ n.outputs) ≡ length n.inputs + length n.outputs = length-append n.inputs n.outputs in
    omega arith

pub presence_passed : (n : Component) (c : Clock) (k : ℕ) → k ≡ length (variables n) → passes k n c leaf ≡ cut_term (presence n c)
presence_passed n c k e = ap (λ d. passes d n c leaf) e ∙ ap cut_term (sym (presence_wrapped (length (variables n)) n c))

pub ghosts_counted : {X : Type 0} (view : X → ContractStatement) (xs : List X) (i : ℕ) (x : X) (d : ℕ) → i < length xs → x ≡ get_or xs i x
    → (d + length (ghosts (view x ∷ []))) + length (ghosts (map view (take i xs))) ≡ d + length (ghosts (map view (take (i + 1) xs)))
ghosts_counted view xs i x d h e =
    let t : length (ghosts (map view (take (i + 1) xs))) ≡ length (ghosts (map view (take i xs)) ++ ghosts (view x ∷ [])) =
    ap length (next_ghosts view xs i x [] h e) in
    let u : length (ghosts (map view (take i xs)) ++ ghosts (view x ∷ [])) ≡ length (ghosts (map view (take i xs))) + length (ghosts (view x ∷ [])) =
    length-append (ghosts (map view (take i xs))) (ghosts (view x ∷ [])) in
    omega arith
