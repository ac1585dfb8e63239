-- On which inputs outputs depend, kept by nodes and functions.
use Rattle.std.proofs.Common.{◌≡◌, ℕ, zero, suc, ◌<◌, ◌≤◌, ◌+◌, List, [], ◌∷◌, ◌++◌, map, get_or, drop, drop-cons, length, Option, Some, None, refl, sym, subst, ap, ◌∙◌, append_assoc, arith}
use Rattle.std.specs.Prelude.{option_map, option_to_list, slice_get, unwrap_or}
use Rattle.std.specs.Borrow.{Bor}
use Rattle.std.proofs.lemmas.Option.{slice_get-map}
use Rattle.lus_tree.specs.Tree.{Name, Variable, Component, Declaration, declared_constant, declared_node, declared_contract, Program}
use Rattle.lus_tree.specs.Lookup.{node_at, nodes_of}
use Rattle.lus_tree.specs.View.{decl_view}
use Rattle.lus_tree.specs.declared.declaration.Decl.{Decl}
use Rattle.lus_meaning.specs.ClockFaults.{components}
use Rattle.lus_meaning.specs.Cycle.{ReadsNow}
use Rattle.lus_meaning.specs.Program.{instance_of}
use Rattle.lus_order.specs.OutputReads.{AreAllReads, AreInputsRead, AreReads}
use Rattle.lus_bounds.specs.Passed.{parts_after}
use Rattle.lus_checked.specs.Reads.{AreReadNow, AreReadsOf, declaration_reads, node_reads, outputs_of}

-- ---- by all declarations

-- one declaration more
pub one_more : (rs : List (List (List ℕ))) (ds : List Decl) (k i : ℕ) (d : Decl) (o q : List (List (List ℕ))) → i < length ds → d ≡ get_or ds i d
    → q ≡ o ++ declaration_reads rs k (decl_view d)
    → q ++ node_reads rs (parts_after k (decl_view d)) (map decl_view (drop (i + 1) ds)) ≡ o ++ node_reads rs k (map decl_view (drop i ds))
one_more rs ds k i d o q h e g =
    let a : i + 1 ≡ suc i = omega arith in
    let l : drop i ds ≡ d ∷ drop (suc i) ds = drop-cons ds i d h ∙ ap (λ y. y ∷ drop (suc i) ds) (sym e) in
    let rest : List (List (List ℕ)) = node_reads rs (parts_after k (decl_view d)) (map decl_view (drop (suc i) ds)) in
    rw a
    (ap (λ z. z ++ rest) g ∙ append_assoc o (declaration_reads rs k (decl_view d)) rest
    ∙ ap (λ ys. o ++ node_reads rs k (map decl_view ys)) (sym l))

dropped : {A : Type 0} (xs : List A) (k : ℕ) (x : A) (ys : List A) → drop k xs ≡ x ∷ ys → (slice_get xs k ≡ Some x) × (drop (suc k) xs ≡ ys)
dropped [] zero x ys e = absurd (cc e)
dropped [] (suc k) x ys e = absurd (cc e)
dropped (z ∷ zs) zero x ys e = (cc e, cc e)
dropped (z ∷ zs) (suc k) x ys e = dropped zs k x ys e

pub reads_of_nodes : (p : Program) (rs : List (List (List ℕ))) (k : ℕ) (ds : Program) → AreAllReads p (components ds) (drop k rs)
    → AreAllReads p (nodes_of ds) (node_reads rs k ds)
reads_of_nodes p rs k [] h = tt
reads_of_nodes p rs k (declared_constant c ∷ ds) h = reads_of_nodes p rs k ds h
reads_of_nodes p rs k (declared_contract n ∷ ds) h = go (reads_of_nodes p rs (suc k) ds) (drop k rs) refl h
  where
    go : (AreAllReads p (components ds) (drop (suc k) rs) → AreAllReads p (nodes_of ds) (node_reads rs (suc k) ds))
        → (xs : List (List (List ℕ))) → drop k rs ≡ xs → AreAllReads p (n ∷ components ds) xs → AreAllReads p (nodes_of ds) (node_reads rs (suc k) ds)
    go f [] e h = absurd h
    go f (x ∷ xs) e h = f (subst (AreAllReads p (components ds)) (sym (dropped rs k x xs e).1) h.1)
reads_of_nodes p rs k (declared_node n ∷ ds) h = go (reads_of_nodes p rs (suc k) ds) (drop k rs) refl h
  where
    go : (AreAllReads p (components ds) (drop (suc k) rs) → AreAllReads p (nodes_of ds) (node_reads rs (suc k) ds))
        → (xs : List (List (List ℕ))) → drop k rs ≡ xs → AreAllReads p (n ∷ components ds) xs
        → AreAllReads p (n ∷ nodes_of ds) (option_to_list (slice_get rs k) ++ node_reads rs (suc k) ds)
    go f [] e h = absurd h
    go f (x ∷ xs) e h =
        subst (λ o. AreAllReads p (n ∷ nodes_of ds) (option_to_list o ++ node_reads rs (suc k) ds)) (sym (dropped rs k x xs e).0)
        (h.0, f (subst (AreAllReads p (components ds)) (sym (dropped rs k x xs e).1) h.1))

-- what is seen of the item of a place
pub seen_at : {A B : Type 0} (f : A → B) (o : Option (Bor A)) (xs : List A) (k : ℕ) → option_map (λ x. x.now) o ≡ slice_get xs k
    → option_map (λ x. f x.now) o ≡ slice_get (map f xs) k
seen_at {A = A} f o xs k e = twice o ∙ ap (option_map f) e ∙ sym (slice_get-map f xs k)
  where
    twice : (o : Option (Bor A)) → option_map (λ x. f x.now) o ≡ option_map f (option_map (λ x. x.now) o)
    twice None = refl
    twice (Some x) = refl

-- ---- of one node

pub as_many_reads : (p : Program) (ns : List Component) (rs : List (List (List ℕ))) → AreAllReads p ns rs → length rs ≡ length ns
as_many_reads p [] [] h = refl
as_many_reads p [] (r ∷ rs) h = absurd h
as_many_reads p (n ∷ ns) [] h = absurd h
as_many_reads p (n ∷ ns) (r ∷ rs) h = ap suc (as_many_reads p ns rs h.1)

node_reads_at : (p : Program) (ns : List Component) (rs : List (List (List ℕ))) → AreAllReads p ns rs → (k : ℕ) (r : List (List ℕ))
    → slice_get rs k ≡ Some r → (n : Component) → slice_get ns k ≡ Some n → AreReads (ReadsNow (instance_of p n)) n.inputs n.outputs r
node_reads_at p [] [] h k r e n g = cc
node_reads_at p [] (q ∷ rs) h k r e n g = absurd h
node_reads_at p (m ∷ ns) [] h k r e n g = absurd h
node_reads_at p (m ∷ ns) (q ∷ rs) h zero r e n g =
    subst (λ a. AreReads (ReadsNow (instance_of p a)) a.inputs a.outputs r) (let a = g in cc)
    (subst (AreReads (ReadsNow (instance_of p m)) m.inputs m.outputs) (let a = e in cc) h.0)
node_reads_at p (m ∷ ns) (q ∷ rs) h (suc k) r e n g = node_reads_at p ns rs h.1 k r e n g

pub reads_at : (p : Program) (rs : List (List (List ℕ))) → AreAllReads p (nodes_of p) rs → (k : ℕ) (r : List (List ℕ)) → slice_get rs k ≡ Some r → AreReadsOf p k r
reads_at p rs h k r e = node_reads_at p (nodes_of p) rs h k r e

-- ---- of one output

as_many_outputs : (Reads : Name → Name → Type 0) (is os : List Variable) (kss : List (List ℕ)) → AreReads Reads is os kss → length kss ≡ length os
as_many_outputs Reads is [] [] h = refl
as_many_outputs Reads is [] (ks ∷ kss) h = absurd h
as_many_outputs Reads is (o ∷ os) [] h = absurd h
as_many_outputs Reads is (o ∷ os) (ks ∷ kss) h = ap suc (as_many_outputs Reads is os kss h.1)

pub output_there : (p : Program) (k o : ℕ) (kss : List (List ℕ)) → AreReadsOf p k kss → o < length (outputs_of p k) → o < length kss
output_there p k o kss h = go (node_at k p) refl
  where
    go : (m : Option Component) → node_at k p ≡ m → o < length (unwrap_or (option_map (λ (n : Component). n.outputs) m) []) → o < length kss
    go None e l = absurd (omega (arith, l))
    go (Some n) e l = subst (λ j. o < j) (sym (as_many_outputs (ReadsNow (instance_of p n)) n.inputs n.outputs kss (h n e))) l

output_reads_at : (Reads : Name → Name → Type 0) (is os : List Variable) (kss : List (List ℕ)) → AreReads Reads is os kss → (o : ℕ) (ks : List ℕ)
    → slice_get kss o ≡ Some ks → (v : Variable) → slice_get os o ≡ Some v → AreInputsRead (Reads v.name.text) is ks
output_reads_at Reads is [] [] h o ks e v g = cc
output_reads_at Reads is [] (js ∷ kss) h o ks e v g = absurd h
output_reads_at Reads is (w ∷ os) [] h o ks e v g = absurd h
output_reads_at Reads is (w ∷ os) (js ∷ kss) h zero ks e v g =
    let outputs : w ≡ v = cc in
    let reads : js ≡ ks = cc in
    subst (λ (a : Variable). AreInputsRead (Reads a.name.text) is ks) outputs (subst (AreInputsRead (Reads w.name.text) is) reads h.0)
output_reads_at Reads is (w ∷ os) (js ∷ kss) h (suc o) ks e v g = output_reads_at Reads is os kss h.1 o ks e v g

pub read_now_at : (p : Program) (k o : ℕ) (kss : List (List ℕ)) (ks : List ℕ) → AreReadsOf p k kss → slice_get kss o ≡ Some ks → AreReadNow p k o ks
read_now_at p k o kss ks h e = λ n m v g. output_reads_at (ReadsNow (instance_of p n)) n.inputs n.outputs kss (h n m) o ks e v g
