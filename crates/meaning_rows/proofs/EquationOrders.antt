-- The orders of `p = next(q); q = condact(c, next(r), 0); r = -x`, and of `p = x; q = -x`.
use Rattle.std.proofs.Common.{◌≡◌, ℕ, zero, suc, ◌<◌, false, true, List, [], ◌∷◌, Some, codes, refl, arith}
use Rattle.std.specs.List.{IsDistinct}
use Rattle.std.proofs.lemmas.Bool.{false≢true, true≢false}
use Rattle.lus_meaning.specs.Run.{equations}
use Rattle.lus_meaning.specs.Order.{is_listed, IsReady, IsOrder, NeedsEquation, IsEquationOrder, IsLeastEquationOrder}
use Rattle.lus_meaning.proofs.Orders.{distinct-cons, no_numbers}
use Rattle.meaning_rows.specs.NeedRows.{chained, chained_node, apart, apart_node}
use Rattle.meaning_rows.proofs.Ways.{at_name, by_way, no_way}

-- p is 0, q is 1, r is 2
abbrev Needs : ℕ → ℕ → Type 0
Needs = NeedsEquation chained (equations chained_node)

p_needs_q : Needs 0 1
p_needs_q = by_way chained (codes "p") (codes "q") refl refl (2, (0 ∷ [], Some (codes "o")))
    ((3, (0 ∷ [], Some (codes "a"))) ∷ (1, at_name (codes "q")) ∷ []) (refl, (refl, (refl, tt))) refl

q_needs_r : Needs 1 2
q_needs_r = by_way chained (codes "q") (codes "r") refl refl (5, (1 ∷ [], Some (codes "o")))
    ((3, (1 ∷ [], Some (codes "a"))) ∷ (3, at_name (codes "r")) ∷ []) (refl, (refl, (refl, tt))) refl

p_not_p : Needs 0 0 → ⊥
p_not_p n = no_way chained 12 (codes "p") (codes "p") refl refl n

q_not_p : Needs 1 0 → ⊥
q_not_p n = no_way chained 12 (codes "q") (codes "p") refl refl n

q_not_q : Needs 1 1 → ⊥
q_not_q n = no_way chained 12 (codes "q") (codes "q") refl refl n

r_not_p : Needs 2 0 → ⊥
r_not_p n = no_way chained 12 (codes "r") (codes "p") refl refl n

r_not_q : Needs 2 1 → ⊥
r_not_q n = no_way chained 12 (codes "r") (codes "q") refl refl n

r_not_r : Needs 2 2 → ⊥
r_not_r n = no_way chained 12 (codes "r") (codes "r") refl refl n

r_ready : IsReady 3 Needs [] 2
r_ready zero l n = absurd (r_not_p n)
r_ready (suc zero) l n = absurd (r_not_q n)
r_ready (suc (suc zero)) l n = absurd (r_not_r n)
r_ready (suc (suc (suc j))) l n = absurd (omega arith)

q_ready : IsReady 3 Needs (2 ∷ []) 1
q_ready zero l n = absurd (q_not_p n)
q_ready (suc zero) l n = absurd (q_not_q n)
q_ready (suc (suc zero)) l n = refl
q_ready (suc (suc (suc j))) l n = absurd (omega arith)

p_ready : IsReady 3 Needs (2 ∷ 1 ∷ []) 0
p_ready zero l n = absurd (p_not_p n)
p_ready (suc zero) l n = refl
p_ready (suc (suc zero)) l n = refl
p_ready (suc (suc (suc j))) l n = absurd (omega arith)

all_listed : (k : ℕ) → k < 3 → is_listed (2 ∷ 1 ∷ 0 ∷ []) k ≡ true
all_listed zero l = refl
all_listed (suc zero) l = refl
all_listed (suc (suc zero)) l = refl
all_listed (suc (suc (suc k))) l = absurd (omega arith)

none_before_r : (j : ℕ) → j < 2 → is_listed [] j ≡ false → IsReady 3 Needs [] j → ⊥
none_before_r zero l e h = false≢true (h 1 (omega arith) p_needs_q)
none_before_r (suc zero) l e h = false≢true (h 2 (omega arith) q_needs_r)
none_before_r (suc (suc j)) l e h = absurd (omega arith)

none_before_q : (j : ℕ) → j < 1 → is_listed (2 ∷ []) j ≡ false → IsReady 3 Needs (2 ∷ []) j → ⊥
none_before_q zero l e h = false≢true (h 1 (omega arith) p_needs_q)
none_before_q (suc j) l e h = absurd (omega arith)

chained_is_order : IsOrder 3 Needs (2 ∷ 1 ∷ 0 ∷ [])
chained_is_order = record {
  below = (omega arith, (omega arith, (omega arith, tt)));
  all = all_listed;
  once = distinct-cons 2 (1 ∷ 0 ∷ []) (distinct-cons 1 (0 ∷ []) (distinct-cons 0 [] no_numbers refl) refl) refl;
  ready = (r_ready, (q_ready, (p_ready, tt)));
}

pub chained_order : IsLeastEquationOrder chained (equations chained_node) (2 ∷ 1 ∷ 0 ∷ [])
chained_order = record {
  order = chained_is_order;
  next = (
    record { below = omega arith; new = refl; ready = r_ready; least = none_before_r },
    (
      record { below = omega arith; new = refl; ready = q_ready; least = none_before_q },
      (record { below = omega arith; new = refl; ready = p_ready; least = λ j l e h. absurd (omega arith) }, tt),
    ),
  );
}

-- ---- no orders of them

pub turned : IsEquationOrder chained (equations chained_node) (1 ∷ 2 ∷ 0 ∷ []) → ⊥
turned h = false≢true (h.ready.0 2 (omega arith) q_needs_r)

pub without_p : IsEquationOrder chained (equations chained_node) (2 ∷ 1 ∷ []) → ⊥
without_p h = false≢true (h.all 0 (omega arith))

pub with_p_twice : IsEquationOrder chained (equations chained_node) (2 ∷ 1 ∷ 0 ∷ 0 ∷ []) → ⊥
unfolding IsDistinct
with_p_twice h = true≢false h.once.1.1.0.0

pub with_another : IsEquationOrder chained (equations chained_node) (2 ∷ 1 ∷ 0 ∷ 3 ∷ []) → ⊥
with_another h = absurd (none_at_three h.below.1.1.1.0)
  where
    none_at_three : 3 < 3 → ⊥
    none_at_three l = omega arith

-- ---- two equations that don't need each other

abbrev Apart : ℕ → ℕ → Type 0
Apart = NeedsEquation apart (equations apart_node)

none_apart : (k j : ℕ) → k < 2 → j < 2 → Apart k j → ⊥
none_apart zero zero l m n = no_way apart 9 (codes "p") (codes "p") refl refl n
none_apart zero (suc zero) l m n = no_way apart 9 (codes "p") (codes "q") refl refl n
none_apart (suc zero) zero l m n = no_way apart 9 (codes "q") (codes "p") refl refl n
none_apart (suc zero) (suc zero) l m n = no_way apart 9 (codes "q") (codes "q") refl refl n
none_apart (suc (suc k)) j l m n = absurd (omega arith)
none_apart zero (suc (suc j)) l m n = absurd (omega arith)
none_apart (suc zero) (suc (suc j)) l m n = absurd (omega arith)

ready_apart : (done : List ℕ) (k : ℕ) → k < 2 → IsReady 2 Apart done k
ready_apart done k l j m n = absurd (none_apart k j l m n)

both_listed : (k : ℕ) → k < 2 → is_listed (0 ∷ 1 ∷ []) k ≡ true
both_listed zero l = refl
both_listed (suc zero) l = refl
both_listed (suc (suc k)) l = absurd (omega arith)

both_turned : (k : ℕ) → k < 2 → is_listed (1 ∷ 0 ∷ []) k ≡ true
both_turned zero l = refl
both_turned (suc zero) l = refl
both_turned (suc (suc k)) l = absurd (omega arith)

-- only p comes before q, and p is listed
listed_before_q : (j : ℕ) → j < 1 → is_listed (0 ∷ []) j ≡ false → IsReady 2 Apart (0 ∷ []) j → ⊥
listed_before_q zero l e h = true≢false e
listed_before_q (suc j) l e h = absurd (omega arith)

pub apart_order : IsLeastEquationOrder apart (equations apart_node) (0 ∷ 1 ∷ [])
apart_order = record {
  order = record {
    below = (omega arith, (omega arith, tt));
    all = both_listed;
    once = distinct-cons 0 (1 ∷ []) (distinct-cons 1 [] no_numbers refl) refl;
    ready = (ready_apart [] 0 (omega arith), (ready_apart (0 ∷ []) 1 (omega arith), tt));
  };
  next = (
    record { below = omega arith; new = refl; ready = ready_apart [] 0 (omega arith); least = λ j l e h. absurd (omega arith) },
    (record { below = omega arith; new = refl; ready = ready_apart (0 ∷ []) 1 (omega arith); least = listed_before_q }, tt),
  );
}

-- the other one is an order too, and not the least
pub apart_turned : IsEquationOrder apart (equations apart_node) (1 ∷ 0 ∷ [])
apart_turned = record {
  below = (omega arith, (omega arith, tt));
  all = both_turned;
  once = distinct-cons 1 (0 ∷ []) (distinct-cons 0 [] no_numbers refl) refl;
  ready = (ready_apart [] 1 (omega arith), (ready_apart (1 ∷ []) 0 (omega arith), tt));
}

pub apart_not_least : IsLeastEquationOrder apart (equations apart_node) (1 ∷ 0 ∷ []) → ⊥
apart_not_least h = h.next.0.least 0 (omega arith) refl (ready_apart [] 0 (omega arith))
