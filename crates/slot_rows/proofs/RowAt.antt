-- The row of an instant by what is brought to it.
use Rattle.std.proofs.Common.{◌≡◌, ℕ, zero, suc, ◌+◌, false, List, [], ◌∷◌, ◌++◌, refl, ap, ◌∙◌, sym, subst, arith}
use Rattle.lus_meaning.specs.Value.{Value}
use Rattle.slot_sources.specs.Source.{Source}
use Rattle.slot_sources.specs.Rows.{Choices}
use Rattle.slot_rows.specs.Table.{Row, brought_to, closed, filled, next_values, row_at, row_from, rows, slots_of}

pub row_is : (c : Choices) (es : List Source) (ks : List ℕ) (t : ℕ) → row_at c es ks t ≡ row_from c es ks t (brought_to c es ks t)
row_is c es ks zero = refl
row_is c es ks (suc t) = refl

pub row_made : (c : Choices) (es : List Source) (ks : List ℕ) (t : ℕ) (vs : List Value) (r u : Row) → vs ≡ brought_to c es ks t
    → r ≡ filled c es t (record { values = vs; outside = false }) ks → u ≡ closed es r → u ≡ row_at c es ks t
row_made c es ks t vs r u v f e =
    e ∙ (ap (closed es) f ∙ (ap (λ vs. row_from c es ks t vs) v ∙ sym (row_is c es ks t)))

pub brought_made : (c : Choices) (es : List Source) (ks : List ℕ) (t : ℕ) (vs ws : List Value) (r : Row) → vs ≡ brought_to c es ks t
    → r ≡ filled c es t (record { values = vs; outside = false }) ks → ws ≡ next_values (slots_of r.values) 0 es → ws ≡ brought_to c es ks (suc t)
brought_made c es ks t vs ws r v f e =
    e ∙ ap (λ vs. next_values (slots_of vs) 0 es) (ap (λ r. r.values) (row_made c es ks t vs r (closed es r) v f refl))

pub rows_more : (c : Choices) (es : List Source) (ks : List ℕ) (n : ℕ) (rs us : List Row) → rs ≡ rows c es ks n → us ≡ rs ++ row_at c es ks n ∷ []
    → us ≡ rows c es ks (n + 1)
rows_more c es ks n rs us e f =
    let z : suc n ≡ n + 1 = omega arith in
    subst (λ m. us ≡ rows c es ks m) z (f ∙ ap (λ rs. rs ++ row_at c es ks n ∷ []) e)

pub brought_more : (c : Choices) (es : List Source) (ks : List ℕ) (n : ℕ) (vs : List Value) → vs ≡ brought_to c es ks (suc n) → vs ≡ brought_to c es ks (n + 1)
brought_more c es ks n vs e = let z : suc n ≡ n + 1 = omega arith in subst (λ m. vs ≡ brought_to c es ks m) z e
