-- What comes back of a call: what the arguments of those inputs read that its callee reads.
use Rattle.std.proofs.Common.{◌≡◌, ℕ, Bool, true, false, cond, ◌||◌, List, [], ◌∷◌, ◌++◌, map, refl, sym, ap, ◌∙◌, subst, arith}
use Rattle.std.specs.List.{AllByRecursion}
use Rattle.std.specs.Str.{bytes_eq}
use Rattle.std.proofs.Math.Logic.{◌⊎◌, inl, inr}
use Rattle.std.proofs.lemmas.Bool.{false≢true}
use Rattle.lus_tree.specs.Tree.{Name, Spelled, text_of, Expression, Expressions, no_more, more, Component}
use Rattle.lus_meaning.specs.Scene.{Clock, base, as_import, Site, Instance}
use Rattle.lus_meaning.specs.Program.{listed}
use Rattle.lus_meaning.specs.Depends.{Need, a_name, needs, modes_need, site_needs, named_in}
use Rattle.lus_meaning.specs.Cycle.{place_of, matching, shared_needs}
use Rattle.lus_meaning.proofs.Members.{IsIn, in_left, in_right, named_either}
use Rattle.lus_meaning.proofs.Exists.{self_bytes}
use Rattle.lus_meaning.proofs.Lists.{named_append, or_left, or_true}
use Rattle.lus_meaning.proofs.Unique.{same_bytes}
use Rattle.clock_laws.proofs.Reaching.{in_either}
use Rattle.way_laws.specs.OwnGraph.{Summaries, ModeReads, reads, arguments_read, listed_read, shared_read}
use Rattle.way_laws.proofs.Steps.{top, Steps, Comes, Earlier, GoesBy, Fits}

-- what those expressions read whose names are among ys
abbrev pub read_by : (Expression → List Name) → List Name → List Name → List Expression → List Name
read_by R ys (x ∷ xs) (a ∷ as_) = cond (named_in x ys) (R a) [] ++ read_by R ys xs as_
read_by R ys xs _ = []

pub arguments_same : (n : Component) (g : Summaries) (m : ModeReads) (c : Clock) (ys xs : List Name) (as_ : Expressions)
    → arguments_read n g m c ys xs as_ ≡ read_by (reads n g m c) ys xs (listed as_)
arguments_same n g m c ys [] no_more = refl
arguments_same n g m c ys [] (more a as_) = refl
arguments_same n g m c ys (x ∷ xs) no_more = refl
arguments_same n g m c ys (x ∷ xs) (more a as_) = ap (λ zs. cond (named_in x ys) (reads n g m c a) [] ++ zs) (arguments_same n g m c ys xs as_)

pub listed_same : (n : Component) (g : Summaries) (m : ModeReads) (ys xs : List Name) (as_ : List Expression)
    → listed_read n g m ys xs as_ ≡ read_by (reads n g m base) ys xs as_
listed_same n g m ys [] [] = refl
listed_same n g m ys [] (a ∷ as_) = refl
listed_same n g m ys (x ∷ xs) [] = refl
listed_same n g m ys (x ∷ xs) (a ∷ as_) = ap (λ zs. cond (named_in x ys) (reads n g m base a) [] ++ zs) (listed_same n g m ys xs as_)

-- ---- names that are kept where a test holds

pub kept_here : (c : Bool) (z : Name) (zs ws : List Name) → c ≡ true → named_in z zs ≡ true → named_in z (cond c zs [] ++ ws) ≡ true
kept_here true z zs ws e h = named_append z zs ws ∙ or_left (named_in z zs) (named_in z ws) h
kept_here false z zs ws e h = absurd (false≢true e)

pub kept_later : (z : Name) (zs ws : List Name) → named_in z ws ≡ true → named_in z (zs ++ ws) ≡ true
kept_later z zs ws h = named_append z zs ws ∙ or_true (named_in z zs) (named_in z ws) h

pub kept_left : (z : Name) (zs ws : List Name) → named_in z zs ≡ true → named_in z (zs ++ ws) ≡ true
kept_left z zs ws h = named_append z zs ws ∙ or_left (named_in z zs) (named_in z ws) h

pub kept_so : (c : Bool) (z : Name) (zs : List Name) → named_in z (cond c zs []) ≡ true → (c ≡ true) × (named_in z zs ≡ true)
kept_so true z zs h = (refl, h)
kept_so false z zs h = absurd (false≢true h)

pub goes_among : (i : Instance) (q : Need) (zs ws : List Name) → ((z : Name) → named_in z zs ≡ true → named_in z ws ≡ true) → GoesBy i (place_of q) zs
    → GoesBy i (place_of q) ws
goes_among i q zs ws f g k y s =
    let e : Earlier i zs k y = g k y s in
    record { name = e.name; among = f e.name e.among; steps = e.steps; fewer = e.fewer; way = e.way }

-- ---- the arguments of a call

module _ (i : Instance) (c : Site) (R : Expression → List Name) (ys : List Name) where
  abbrev pub site : List Need
  site = site_needs i (modes_need i) c c.manner

  abbrev pub argument : Expression → List Need
  argument a = site ++ needs i (modes_need i) c.clock a

  abbrev pub ArgumentFits : Expression → Type 0
  ArgumentFits a = Fits i (needs i (modes_need i) c.clock a) (R a)

  -- what an input needs of the caller goes by what the arguments read
  pub matched_by : (W : List Name) → ((q : Need) → IsIn q site → GoesBy i (place_of q) W) → (xs : List Name) (as_ : List Expression)
      → AllByRecursion ArgumentFits as_ → ((z : Name) → named_in z (read_by R ys xs as_) ≡ true → named_in z W ≡ true)
      → (x : Name) (q : Need) → IsIn q (matching argument x xs as_) → named_in x ys ≡ true → GoesBy i (place_of q) W
  matched_by W s [] as_ a w x q h e = absurd h
  matched_by W s (y ∷ xs) [] a w x q h e = absurd h
  matched_by W s (y ∷ xs) (b ∷ as_) a w x q h e = go (bytes_eq x y) refl (in_either q (cond (bytes_eq x y) (argument b) []) (matching argument x xs as_) h)
      (matched_by W s xs as_ a.1 (λ z k. w z (kept_later z (cond (named_in y ys) (R b) []) (read_by R ys xs as_) k)) x q)
    where
      of_argument : x ≡ y → IsIn q site ⊎ IsIn q (needs i (modes_need i) c.clock b) → GoesBy i (place_of q) W
      of_argument t (inl k) = s q k
      of_argument t (inr k) = goes_among i q (R b) W (λ z k. w z (kept_here (named_in y ys) z (R b) (read_by R ys xs as_)
          (subst (λ u. named_in u ys ≡ true) t e) k)) (a.0.complete q k)

      go : (d : Bool) → bytes_eq x y ≡ d → IsIn q (cond d (argument b) []) ⊎ IsIn q (matching argument x xs as_)
          → (IsIn q (matching argument x xs as_) → named_in x ys ≡ true → GoesBy i (place_of q) W) → GoesBy i (place_of q) W
      go true t (inl k) f = of_argument (same_bytes x y t) (in_either q site (needs i (modes_need i) c.clock b) k)
      go false t (inl k) f = absurd k
      go d t (inr k) f = f k e

  -- only inputs need arguments
  pub matched_named : (xs : List Name) (as_ : List Expression) (x : Name) (q : Need) → IsIn q (matching argument x xs as_) → named_in x xs ≡ true
  matched_named [] as_ x q h = absurd h
  matched_named (y ∷ xs) [] x q h = absurd h
  matched_named (y ∷ xs) (b ∷ as_) x q h = go (bytes_eq x y) (in_either q (cond (bytes_eq x y) (argument b) []) (matching argument x xs as_) h)
      (matched_named xs as_ x q)
    where
      go : (d : Bool) → IsIn q (cond d (argument b) []) ⊎ IsIn q (matching argument x xs as_)
          → (IsIn q (matching argument x xs as_) → named_in x xs ≡ true) → (d || named_in x xs) ≡ true
      go true k f = refl
      go false (inl k) f = absurd k
      go false (inr k) f = f k

  -- an input that is read, and what its argument needs on the way to a name
  pub record ReadBy (xs : List Name) (as_ : List Expression) (z : Name) : Type 0 where
    pub input : Name
    pub is_input : named_in input xs ≡ true
    pub is_read : named_in input ys ≡ true
    pub need : Need
    pub needed : IsIn need (matching argument input xs as_)
    pub steps : ℕ
    pub way : Steps i steps (place_of need) (top z)

  pub read_from : (xs : List Name) (as_ : List Expression) → AllByRecursion ArgumentFits as_ → (z : Name) → named_in z (read_by R ys xs as_) ≡ true
      → ReadBy xs as_ z
  read_from [] [] a z e = absurd (false≢true e)
  read_from [] (b ∷ as_) a z e = absurd (false≢true e)
  read_from (y ∷ xs) [] a z e = absurd (false≢true e)
  read_from (y ∷ xs) (b ∷ as_) a z e = go (named_either z (cond (named_in y ys) (R b) []) (read_by R ys xs as_) e) (read_from xs as_ a.1 z)
    where
      go : (named_in z (cond (named_in y ys) (R b) []) ≡ true) ⊎ (named_in z (read_by R ys xs as_) ≡ true)
          → (named_in z (read_by R ys xs as_) ≡ true → ReadBy xs as_ z) → ReadBy (y ∷ xs) (b ∷ as_) z
      go (inl k) f =
          let two = kept_so (named_in y ys) z (R b) k in
          let d : Comes i (needs i (modes_need i) c.clock b) z = a.0.sound z two.1 in
          record {
            input = y;
            is_input = or_left (bytes_eq y y) (named_in y xs) (self_bytes y);
            is_read = two.0;
            need = d.start;
            needed = in_left d.start (cond (bytes_eq y y) (argument b) []) (matching argument y xs as_)
                (subst (λ u. IsIn d.start (cond u (argument b) [])) (sym (self_bytes y)) (in_right d.start site (needs i (modes_need i) c.clock b) d.starts));
            steps = d.steps;
            way = d.way;
          }
      go (inr k) f =
          let r : ReadBy xs as_ z = f k in
          record {
            input = r.input;
            is_input = or_true (bytes_eq r.input y) (named_in r.input xs) r.is_input;
            is_read = r.is_read;
            need = r.need;
            needed = in_right r.need (cond (bytes_eq r.input y) (argument b) []) (matching argument r.input xs as_) r.needed;
            steps = r.steps;
            way = r.way;
          }

-- ---- the outputs of an import

module _ (i : Instance) (n : Component) (g : Summaries) (ys : List Name) where
  pub shared_by : (xs : List Spelled) (os : List Name) (W : List Name) → ((z : Name) → named_in z (shared_read n g ys os xs) ≡ true → named_in z W ≡ true)
      → (x : Name) (q : Need) → IsIn q (shared_needs (as_import (map text_of xs)) x os)
      → (named_in x os ≡ true) × (named_in x ys ≡ true → GoesBy i (place_of q) W)
  shared_by [] [] W w x q h = absurd h
  shared_by (v ∷ xs) [] W w x q h = absurd h
  shared_by [] (o ∷ os) W w x q h = absurd h
  shared_by (v ∷ xs) (o ∷ os) W w x q h = go (bytes_eq x o) refl
      (in_either q (cond (bytes_eq x o) (a_name [] v.text ∷ []) []) (matching (λ y. a_name [] y ∷ []) x os (map text_of xs)) h)
      (shared_by xs os W (λ z k. w z (kept_later z (cond (named_in o ys) (v.text ∷ []) []) (shared_read n g ys os xs) k)) x q)
    where
      here : x ≡ o → q ≡ a_name [] v.text → named_in x ys ≡ true → GoesBy i (place_of q) W
      here t k e j y s = record {
        name = v.text;
        among = w v.text (kept_here (named_in o ys) v.text (v.text ∷ []) (shared_read n g ys os xs) (subst (λ u. named_in u ys ≡ true) t e)
            (or_left (bytes_eq v.text v.text) false (self_bytes v.text)));
        steps = j;
        fewer = omega arith;
        way = subst (λ r. Steps i j (place_of r) (top y)) k s;
      }

      go : (d : Bool) → bytes_eq x o ≡ d → IsIn q (cond d (a_name [] v.text ∷ []) []) ⊎ IsIn q (matching (λ y. a_name [] y ∷ []) x os (map text_of xs))
          → (IsIn q (matching (λ y. a_name [] y ∷ []) x os (map text_of xs)) → (named_in x os ≡ true) × (named_in x ys ≡ true → GoesBy i (place_of q) W))
          → ((d || named_in x os) ≡ true) × (named_in x ys ≡ true → GoesBy i (place_of q) W)
      go true t (inl (inl k)) f = (refl, here (same_bytes x o t) k)
      go true t (inl (inr k)) f = absurd k
      go true t (inr k) f = (refl, (f k).1)
      go false t (inl k) f = absurd k
      go false t (inr k) f = f k

  -- an output that is read, and the name of the importing declaration that stands for it
  pub record SharedBy (xs : List Spelled) (os : List Name) (z : Name) : Type 0 where
    pub output : Name
    pub is_output : named_in output os ≡ true
    pub is_read : named_in output ys ≡ true
    pub needed : IsIn (a_name [] z) (shared_needs (as_import (map text_of xs)) output os)

  pub shared_from : (xs : List Spelled) (os : List Name) (z : Name) → named_in z (shared_read n g ys os xs) ≡ true → SharedBy xs os z
  shared_from [] [] z e = absurd (false≢true e)
  shared_from (v ∷ xs) [] z e = absurd (false≢true e)
  shared_from [] (o ∷ os) z e = absurd (false≢true e)
  shared_from (v ∷ xs) (o ∷ os) z e = go (named_either z (cond (named_in o ys) (v.text ∷ []) []) (shared_read n g ys os xs) e) (shared_from xs os z)
    where
      same : (d : Bool) → bytes_eq z v.text ≡ d → (d || false) ≡ true → z ≡ v.text
      same true t e = same_bytes z v.text t
      same false t e = absurd (false≢true e)

      go : (named_in z (cond (named_in o ys) (v.text ∷ []) []) ≡ true) ⊎ (named_in z (shared_read n g ys os xs) ≡ true)
          → (named_in z (shared_read n g ys os xs) ≡ true → SharedBy xs os z) → SharedBy (v ∷ xs) (o ∷ os) z
      go (inl k) f =
          let two = kept_so (named_in o ys) z (v.text ∷ []) k in
          record {
            output = o;
            is_output = or_left (bytes_eq o o) (named_in o os) (self_bytes o);
            is_read = two.0;
            needed = in_left (a_name [] z) (cond (bytes_eq o o) (a_name [] v.text ∷ []) []) (matching (λ y. a_name [] y ∷ []) o os (map text_of xs))
                (subst (λ u. IsIn (a_name [] z) (cond u (a_name [] v.text ∷ []) [])) (sym (self_bytes o))
                (inl (ap (a_name []) (same (bytes_eq z v.text) refl two.1))));
          }
      go (inr k) f =
          let r : SharedBy xs os z = f k in
          record {
            output = r.output;
            is_output = or_true (bytes_eq r.output o) (named_in r.output os) r.is_output;
            is_read = r.is_read;
            needed = in_right (a_name [] z) (cond (bytes_eq r.output o) (a_name [] v.text ∷ []) [])
                (matching (λ y. a_name [] y ∷ []) r.output os (map text_of xs)) r.needed;
          }
