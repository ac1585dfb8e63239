-- The places of a tree of instances that need others, listed.
use Rattle.std.proofs.Common.{◌≡◌, ℕ, zero, suc, Bool, true, false, cond, ◌&&◌, ◌||◌, eqb, List, [], ◌∷◌, ◌++◌, map, flat_map, refl, ap, ◌∙◌, subst, arith, ◌+◌, Option, Some, None}
use Rattle.std.specs.List.{list_any}
use Rattle.std.specs.Str.{bytes_eq}
use Rattle.std.proofs.Math.Logic.{◌⊎◌, inl, inr}
use Rattle.std.proofs.lemmas.Bool.{false≢true, cases_Bool, eqb-true, eq-eqb}
use Rattle.lus_tree.specs.Tree.{Name, Variable}
use Rattle.lus_meaning.specs.Scene.{Manner, plain, while_true, as_import, Site, Instance, Instances, instance, no_instances, with_instance, outputs_of, clock_from, variables}
use Rattle.lus_meaning.specs.Run.{Equation, equations, inputs_of}
use Rattle.lus_meaning.specs.Depends.{Need, a_name, clock_needs, needs, modes_need, site_needs, left_names, named_in}
use Rattle.lus_meaning.specs.Cycle.{Place, place_of, deeper, next_places, next_in_call, declared_needs, equation_step, defined_needs, own_needs, matching, shared_needs, caller_needs, at_top}
use Rattle.lus_meaning.proofs.Members.{IsIn, in_left, in_right, in_mapped}
use Rattle.lus_meaning.proofs.Exists.{self_bytes}
use Rattle.lus_meaning.proofs.Unique.{same_bytes}

-- ---- equal places

abbrev pub same_way : List ℕ → List ℕ → Bool
same_way [] [] = true
same_way (k ∷ ks) (j ∷ js) = eqb k j && same_way ks js
same_way _ _ = false

abbrev pub same_end : Option Name → Option Name → Bool
same_end None None = true
same_end (Some x) (Some y) = bytes_eq x y
same_end _ _ = false

abbrev pub same_spot : Place → Place → Bool
same_spot p q = same_way p.0 q.0 && same_end p.1 q.1

both_true : (a b : Bool) → (a && b) ≡ true → (a ≡ true) × (b ≡ true)
both_true true b e = (refl, e)
both_true false b e = absurd (false≢true e)

both : (a b : Bool) → a ≡ true → b ≡ true → (a && b) ≡ true
both a b e h = rw (e, h) refl

ways_equal : (ks js : List ℕ) → same_way ks js ≡ true → ks ≡ js
ways_equal [] [] e = refl
ways_equal [] (j ∷ js) e = absurd (false≢true e)
ways_equal (k ∷ ks) [] e = absurd (false≢true e)
ways_equal (k ∷ ks) (j ∷ js) e =
    let h : (eqb k j ≡ true) × (same_way ks js ≡ true) = both_true (eqb k j) (same_way ks js) e in
    rw (eqb-true k j h.0, ways_equal ks js h.1) refl

ends_equal : (x y : Option Name) → same_end x y ≡ true → x ≡ y
ends_equal None None e = refl
ends_equal None (Some y) e = absurd (false≢true e)
ends_equal (Some x) None e = absurd (false≢true e)
ends_equal (Some x) (Some y) e = ap (λ (z : Name). Some z) (same_bytes x y e)

pub spots_equal : (p q : Place) → same_spot p q ≡ true → p ≡ q
spots_equal (ks, x) (js, y) e =
    let h : (same_way ks js ≡ true) × (same_end x y ≡ true) = both_true (same_way ks js) (same_end x y) e in
    ap (λ (z : List ℕ). (z, x)) (ways_equal ks js h.0) ∙ ap (λ (z : Option Name). (js, z)) (ends_equal x y h.1)

way_itself : (ks : List ℕ) → same_way ks ks ≡ true
way_itself [] = refl
way_itself (k ∷ ks) = both (eqb k k) (same_way ks ks) (eq-eqb k k refl) (way_itself ks)

end_itself : (x : Option Name) → same_end x x ≡ true
end_itself None = refl
end_itself (Some x) = self_bytes x

pub spot_itself : (p : Place) → same_spot p p ≡ true
spot_itself (ks, x) = both (same_way ks ks) (same_end x x) (way_itself ks) (end_itself x)

-- ---- the places

abbrev named_places : List Name → List Place
named_places xs = map (λ x. ([], Some x)) xs

abbrev mutual
  pub all_places : Instance → List Place
  all_places (instance d cs is) = named_places (map (λ v. v.name.text) (variables d) ++ left_names d) ++ places_below 0 is

  pub places_below : ℕ → Instances → List Place
  places_below j no_instances = []
  places_below j (with_instance c k is) =
      map (deeper j) (([], None) ∷ (named_places (inputs_of k ++ outputs_of k) ++ all_places k)) ++ places_below (suc j) is

-- ---- all are listed

abbrev pub IsSome : {A : Type 0} → List A → Type 0
IsSome [] = ⊥
IsSome (x ∷ xs) = Unit {0}

in_some : {A : Type 0} (x : A) (xs : List A) → IsIn x xs → IsSome xs
in_some x [] h = absurd h
in_some x (y ∷ xs) h = tt

of_some : {A B : Type 0} (f : A → B) (xs : List A) → IsSome (map f xs) → IsSome xs
of_some f [] h = absurd h
of_some f (x ∷ xs) h = tt

some_either : {A : Type 0} (xs ys : List A) → IsSome (xs ++ ys) → IsSome xs ⊎ IsSome ys
some_either [] ys h = inr h
some_either (x ∷ xs) ys h = inl tt

some_if : {A : Type 0} (b : Bool) (xs : List A) → IsSome (cond b xs []) → b ≡ true
some_if true xs h = refl
some_if false xs h = absurd h

-- a name that is the same as one of these is one of these
in_names : (x : Name) (ys : List Name) → named_in x ys ≡ true → IsIn x ys
in_names x [] e = absurd (false≢true e)
in_names x (y ∷ ys) e = go (cases_Bool (bytes_eq x y)) (in_names x ys)
  where
    go : (bytes_eq x y ≡ true) ⊎ (bytes_eq x y ≡ false) → (named_in x ys ≡ true → IsIn x ys) → (x ≡ y) ⊎ IsIn x ys
    go (inl t) r = inl (same_bytes x y t)
    go (inr n) r = inr (r (subst (λ c. (c || named_in x ys) ≡ true) n e))

declared_in_variables : (x : Name) (vs : List Variable) → IsSome (flat_map (λ v. cond (bytes_eq x v.name.text) (clock_needs (clock_from v.clock)) []) vs)
    → IsIn x (map (λ v. v.name.text) vs)
declared_in_variables x [] h = absurd h
declared_in_variables x (v ∷ vs) h = go (some_either (cond (bytes_eq x v.name.text) (clock_needs (clock_from v.clock)) []) _ h) (declared_in_variables x vs)
  where
    go : IsSome (cond (bytes_eq x v.name.text) (clock_needs (clock_from v.clock)) []) ⊎ IsSome (flat_map
        (λ v. cond (bytes_eq x v.name.text) (clock_needs (clock_from v.clock)) []) vs) → (IsSome (flat_map
        (λ v. cond (bytes_eq x v.name.text) (clock_needs (clock_from v.clock)) []) vs) → IsIn x (map (λ v. v.name.text) vs)) →
        (x ≡ v.name.text) ⊎ IsIn x (map (λ v. v.name.text) vs)
    go (inl a) r = inl (same_bytes x v.name.text (some_if (bytes_eq x v.name.text) (clock_needs (clock_from v.clock)) a))
    go (inr a) r = inr (r a)

defined_in_lefts : (i : Instance) (x : Name) (es : List Equation) → IsSome (defined_needs i x es) → IsIn x (flat_map (λ e. e.names) es)
defined_in_lefts i x [] h = absurd h
defined_in_lefts i x (e ∷ es) h = go (some_either (cond (named_in x e.names) (equation_step i e) []) (defined_needs i x es) h) (defined_in_lefts i x es)
  where
    go : IsSome (cond (named_in x e.names) (equation_step i e) []) ⊎ IsSome (defined_needs i x es) → (IsSome (defined_needs i x es) → IsIn x
        (flat_map (λ e. e.names) es)) → IsIn x (e.names ++ flat_map (λ e. e.names) es)
    go (inl a) r = in_left x e.names (flat_map (λ e. e.names) es) (in_names x e.names (some_if (named_in x e.names) (equation_step i e) a))
    go (inr a) r = in_right x e.names (flat_map (λ e. e.names) es) (r a)

matched : {X : Type 0} (N : X → List Need) (x : Name) (ys : List Name) (as_ : List X) → IsSome (matching N x ys as_) → IsIn x ys
matched N x [] as_ h = absurd h
matched N x (y ∷ ys) [] h = absurd h
matched N x (y ∷ ys) (a ∷ as_) h = go (some_either (cond (bytes_eq x y) (N a) []) (matching N x ys as_) h) (matched N x ys as_)
  where
    go : IsSome (cond (bytes_eq x y) (N a) []) ⊎ IsSome (matching N x ys as_) → (IsSome (matching N x ys as_) → IsIn x ys) → (x ≡ y) ⊎ IsIn x ys
    go (inl b) r = inl (same_bytes x y (some_if (bytes_eq x y) (N a) b))
    go (inr b) r = inr (r b)

shared_in_outputs : (m : Manner) (x : Name) (ys : List Name) → IsSome (shared_needs m x ys) → IsIn x ys
shared_in_outputs (as_import xs) x ys h = matched (λ y. a_name [] y ∷ []) x ys xs h
shared_in_outputs plain x ys h = absurd h
shared_in_outputs (while_true a) x ys h = absurd h

abbrev call_heads : Instance → List Place
call_heads k = ([], None) ∷ (named_places (inputs_of k ++ outputs_of k) ++ all_places k)

head_place : (i : Instance) (c : Site) (k : Instance) (x : Option Name) → IsSome (caller_needs i c k x) → IsIn ([], x) (call_heads k)
head_place i c k None h = inl refl
head_place i c k (Some x) h = inr (in_left ([], Some x) (named_places (inputs_of k ++ outputs_of k)) (all_places k)
    (in_mapped (λ (y : Name). let q : Place = ([], Some y) in q) x (inputs_of k ++ outputs_of k) (go (some_either _ (shared_needs c.manner x
    (outputs_of k)) h))))
  where
    go : IsSome (matching (λ a. site_needs i (modes_need i) c c.manner ++ needs i (modes_need i) c.clock a) x (inputs_of k) c.arguments) ⊎ IsSome
        (shared_needs c.manner x (outputs_of k)) → IsIn x (inputs_of k ++ outputs_of k)
    go (inl a) = in_left x (inputs_of k) (outputs_of k) (matched _ x (inputs_of k) c.arguments a)
    go (inr a) = in_right x (inputs_of k) (outputs_of k) (shared_in_outputs c.manner x (outputs_of k) a)

top_place : (i : Instance) (c : Site) (k : Instance) (ks : List ℕ) (x : Option Name) → IsSome (at_top ks (caller_needs i c k x)) → IsIn (ks, x) (call_heads k)
top_place i c k [] x h = head_place i c k x h
top_place i c k (j ∷ ks) x h = absurd h

mutual
  pub place_listed : (i : Instance) (ks : List ℕ) (x : Option Name) → IsSome (next_places i ks x) → IsIn (ks, x) (all_places i)
  place_listed (instance d cs is) [] None h = absurd h
  place_listed (instance d cs is) [] (Some x) h =
      let xs : List Name = map (λ v. v.name.text) (variables d) ++ left_names d in
      in_left ([], Some x) (named_places xs) (places_below 0 is) (in_mapped (λ (y : Name). let q : Place = ([], Some y) in q) x xs
      (go (some_either (declared_needs d x) (defined_needs (instance d cs is) x (equations d)) (of_some place_of (own_needs (instance d cs is) x) h))))
    where
      go : IsSome (declared_needs d x) ⊎ IsSome (defined_needs (instance d cs is) x (equations d))
          → IsIn x (map (λ v. v.name.text) (variables d) ++ left_names d)
      go (inl a) = in_left x (map (λ v. v.name.text) (variables d)) (left_names d) (declared_in_variables x (variables d) a)
      go (inr a) = in_right x (map (λ v. v.name.text) (variables d)) (left_names d) (defined_in_lefts (instance d cs is) x (equations d) a)
  place_listed (instance d cs is) (j ∷ ks) x h =
      let xs : List Name = map (λ v. v.name.text) (variables d) ++ left_names d in
      in_right (j ∷ ks, x) (named_places xs) (places_below 0 is) (below_listed (instance d cs is) is 0 j j ks x (omega arith) h)

  pub below_listed : (i : Instance) (is : Instances) (b j0 j : ℕ) (ks : List ℕ) (x : Option Name) → j0 ≡ j + b → IsSome (next_in_call i is j0 j ks x)
      → IsIn (j0 ∷ ks, x) (places_below b is)
  below_listed i no_instances b j0 j ks x e h = absurd h
  below_listed i (with_instance c k is) b j0 zero ks x e h =
      subst (λ q. IsIn (j0 ∷ ks, x) (map (deeper q) (call_heads k) ++ places_below (suc b) is)) (let s : j0 ≡ b = omega arith in s)
      (in_left (j0 ∷ ks, x) (map (deeper j0) (call_heads k)) (places_below (suc b) is) (in_mapped (deeper j0) (ks, x) (call_heads k)
      (go (some_either (map place_of (at_top ks (caller_needs i c k x))) (map (deeper j0) (next_places k ks x)) h) (place_listed k ks x))))
    where
      go : IsSome (map place_of (at_top ks (caller_needs i c k x))) ⊎ IsSome (map (deeper j0) (next_places k ks x)) →
          (IsSome (next_places k ks x) → IsIn (ks, x) (all_places k)) → IsIn (ks, x) (call_heads k)
      go (inl a) r = top_place i c k ks x (of_some place_of (at_top ks (caller_needs i c k x)) a)
      go (inr a) r = inr (in_right (ks, x) (named_places (inputs_of k ++ outputs_of k)) (all_places k) (r (of_some (deeper j0) (next_places k ks x) a)))
  below_listed i (with_instance c k is) b j0 (suc j) ks x e h = in_right (j0 ∷ ks, x) (map (deeper b) (call_heads k)) (places_below (suc b) is)
      (below_listed i is (suc b) j0 j ks x (omega arith) h)

-- ---- steps by tests

pub is_member : (p : Place) (qs : List Place) → IsIn p qs → list_any (same_spot p) qs ≡ true
is_member p [] h = absurd h
is_member p (q ∷ qs) (inl e) = subst (λ r. (same_spot p r || list_any (same_spot p) qs) ≡ true) e (here (same_spot p p) (spot_itself p))
  where
    here : (c : Bool) → c ≡ true → (c || list_any (same_spot p) qs) ≡ true
    here true e = refl
    here false e = absurd (false≢true e)
is_member p (q ∷ qs) (inr h) = later (same_spot p q) (is_member p qs h)
  where
    later : (c : Bool) → list_any (same_spot p) qs ≡ true → (c || list_any (same_spot p) qs) ≡ true
    later true e = refl
    later false e = e

pub member_in : (p : Place) (qs : List Place) → list_any (same_spot p) qs ≡ true → IsIn p qs
member_in p [] e = absurd (false≢true e)
member_in p (q ∷ qs) e = go (cases_Bool (same_spot p q)) (member_in p qs)
  where
    go : (same_spot p q ≡ true) ⊎ (same_spot p q ≡ false) → (list_any (same_spot p) qs ≡ true → IsIn p qs) → (p ≡ q) ⊎ IsIn p qs
    go (inl t) r = inl (spots_equal p q t)
    go (inr n) r = inr (r (subst (λ c. (c || list_any (same_spot p) qs) ≡ true) n e))

pub spot_complete : (i : Instance) (p q : Place) → list_any (same_spot q) (next_places i p.0 p.1) ≡ true → list_any (same_spot p) (all_places i) ≡ true
spot_complete i p q e = is_member p (all_places i) (place_listed i p.0 p.1 (in_some q (next_places i p.0 p.1) (member_in q (next_places i p.0 p.1) e)))
