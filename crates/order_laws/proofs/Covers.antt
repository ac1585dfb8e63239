-- What one whole needs covers what another one needs, where it needs each name that the other one needs.
use Rattle.std.proofs.Common.{◌≡◌, ℕ, Bool, true, false, cond, ◌||◌, List, [], ◌∷◌, ◌++◌, map, flat_map, Some, option_map, option_to_list, unwrap_or, refl, ap, ◌∙◌, sym, subst}
use Rattle.std.specs.List.{AllByRecursion, list_any}
use Rattle.std.specs.Map.{lookup}
use Rattle.std.proofs.lemmas.Bool.{false≢true}
use Rattle.lus_tree.specs.Tree.{Name, text_of, Expression, Expressions, truth, number, name, negation, minus, pre, arrow, binary, choice, sampled, merged, call, condact, mode_name, no_more, more, Labelled}
use Rattle.lus_meaning.specs.Scene.{base, sampled_by, Instance, component_of, clock_of}
use Rattle.lus_meaning.specs.Meaning.{mode_key}
use Rattle.lus_meaning.specs.Occurrences.{Standing, on_clock, within, moved}
use Rattle.lus_meaning.specs.Depends.{Need, a_name, ModeNeeds, known_needs, clock_needs, needs, needs_each}
use Rattle.lus_meaning.specs.Cycle.{Place, IsWay, last_place}
use Rattle.lus_meaning.proofs.Members.{IsIn, in_left, in_right, in_mapped, at_some}
use Rattle.lus_meaning.proofs.EachPart.{Each, EachAmong}
use Rattle.clock_laws.proofs.Reaching.{at_in, in_image}
use Rattle.sys_meaning.specs.Items.{Key}
use Rattle.sys_meaning.specs.WellTyped.{IsAmong}
use Rattle.lus_evaluation.specs.Part.{from_top}
use Rattle.lus_evaluation.specs.Evaluation.{NeedsPlace, place_named}
use Rattle.order_laws.proofs.Names.{Named}

-- ---- ways of needs

module _ (i : Instance) where
  way_both : (s : Place) (xs ys : List (ℕ × Place)) → IsWay i s xs → IsWay i (last_place s xs) ys → IsWay i s (xs ++ ys)
  way_both s [] ys a b = b
  way_both s (x ∷ xs) ys a b = (a.0, way_both x.1 xs ys a.1 b)

  last_both : (s : Place) (xs ys : List (ℕ × Place)) → last_place s (xs ++ ys) ≡ last_place (last_place s xs) ys
  last_both s [] ys = refl
  last_both s (x ∷ xs) ys = last_both x.1 xs ys

  pub further : (ps : List Place) (s z : Place) → NeedsPlace i ps s → (rest : List (ℕ × Place)) → IsWay i s rest → last_place s rest ≡ z → NeedsPlace i ps z
  further ps s z a rest w e = record {
    number = a.number;
    start = a.start;
    starts = a.starts;
    rest = a.rest ++ rest;
    way = way_both a.start a.rest rest a.way (subst (λ q. IsWay i q rest) (sym a.last) w);
    last = last_both a.start a.rest rest ∙ ap (λ q. last_place q rest) a.last ∙ e;
  }

  pub needs_itself : (ps : List Place) (z : Place) → IsIn z ps → NeedsPlace i ps z
  needs_itself ps z h =
      let k : (m : ℕ) × _ = at_some z ps h in record { number = k.0; start = z; starts = k.1; rest = []; way = tt; last = refl }

  -- ---- covers

  abbrev pub Covers : List Place → List Place → Type 0
  Covers ns ms = (v : List ℕ) (x : Name) → NeedsPlace i ms (place_named v x) → NeedsPlace i ns (place_named v x)

  pub covers_itself : (ns : List Place) → Covers ns ns
  covers_itself ns v x h = h

  pub covers_both : (ns ms os : List Place) → Covers ns ms → Covers ms os → Covers ns os
  covers_both ns ms os a b v x h = a v x (b v x h)

  pub covers_all : (ns ms : List Place) → ((z : Place) → IsIn z ms → NeedsPlace i ns z) → Covers ns ms
  covers_all ns ms h v x n =
      further ns n.start (place_named v x) (h n.start (at_in n.number n.start ms n.starts)) n.rest n.way n.last

  -- of needs in the frame at the end of a way of calls
  module _ (w : List ℕ) (ns : List Place) where
    abbrev pub CoversNeeds : List Need → Type 0
    CoversNeeds qs = Covers ns (map (from_top w) qs)

    covers_some : (xs ys : List Need) → ((n : Need) → IsIn n xs → IsIn n ys) → CoversNeeds ys → CoversNeeds xs
    covers_some xs ys h a =
        covers_both ns (map (from_top w) ys) (map (from_top w) xs) a
        (covers_all (map (from_top w) ys) (map (from_top w) xs) (λ z m.
        let r : (n : Need) × IsIn n xs × (z ≡ from_top w n) = in_image (from_top w) z xs m in
        needs_itself (map (from_top w) ys) z
        (subst (λ y. IsIn y (map (from_top w) ys)) (sym r.2) (in_mapped (from_top w) r.0 ys (h r.0 r.1)))))

    pub covers_left : (xs ys : List Need) → CoversNeeds (xs ++ ys) → CoversNeeds xs
    covers_left xs ys a = covers_some xs (xs ++ ys) (λ n m. in_left n xs ys m) a

    pub covers_right : (xs ys : List Need) → CoversNeeds (xs ++ ys) → CoversNeeds ys
    covers_right xs ys a = covers_some ys (xs ++ ys) (λ n m. in_right n xs ys m) a

-- ---- the needs of a text, by the modes that stand before it

abbrev pub keys_needed : ModeNeeds → List Key
keys_needed ms = map (λ m. m.0) ms

pub known_first : (key : Key) (ms rest : ModeNeeds) → IsAmong (keys_needed ms) key → known_needs (ms ++ rest) key ≡ known_needs ms key
known_first key [] rest h = absurd (false≢true h)
known_first key (m ∷ ms) rest h = go (mode_key key m.0) h (known_first key ms rest)
  where
    go : (c : Bool) → (c || list_any (mode_key key) (keys_needed ms)) ≡ true →
        (IsAmong (keys_needed ms) key → known_needs (ms ++ rest) key ≡ known_needs ms key) →
        unwrap_or (cond c (Some m.1) (lookup (mode_key key) (ms ++ rest))) [] ≡ unwrap_or (cond c (Some m.1) (lookup (mode_key key) ms)) []
    go true k r = refl
    go false k r = r k

module _ (j : Instance) (ms rest : ModeNeeds) where
  abbrev Names : Standing → Expression → Type 0
  Names s e = Each (Named (IsAmong (keys_needed ms))) (component_of j) s e

  mutual
    pub needs_first : (s : Standing) (e : Expression) → Names s e → needs j (ms ++ rest) s.clock e ≡ needs j ms s.clock e
    needs_first s (truth p b) n = refl
    needs_first s (number p b) n = refl
    needs_first s (name p b) n = refl
    needs_first s (negation p a) n = ap (λ l. clock_needs s.clock ++ l) (needs_first (within s) a n.1)
    needs_first s (minus p a) n = ap (λ l. clock_needs s.clock ++ l) (needs_first (within s) a n.1)
    needs_first s (pre p k a) n = refl
    needs_first s (arrow p k a b) n = rw (needs_first (within s) a n.1, needs_first (within s) b n.2) refl
    needs_first s (binary p o a b) n = rw (needs_first (within s) a n.1, needs_first (within s) b n.2) refl
    needs_first s (choice p a b d) n = rw (needs_first (within s) a n.1, needs_first (within s) b n.2, needs_first (within s) d n.3) refl
    needs_first s (sampled p a b x) n =
        ap (λ l. a_name [] x.text ∷ l) (needs_first (moved (clock_of (component_of j) x.text) s) a n.1)
    needs_first s (merged p x a b) n =
        rw (needs_first (moved (sampled_by true x.text) s) a n.1, needs_first (moved (sampled_by false x.text) s) b n.2) refl
    needs_first s (call p k f as_) n = refl
    needs_first s (condact p k a f as_ ds) n = rw (needs_first (within s) a n.1, each_first (within s) ds n.3) refl
    needs_first s (mode_name p d m) n = known_first (option_to_list (option_map text_of d), m.text) ms rest n

    each_first : (s : Standing) (as_ : Expressions) → EachAmong (Named (IsAmong (keys_needed ms))) (component_of j) s as_ →
        needs_each j (ms ++ rest) s.clock as_ ≡ needs_each j ms s.clock as_
    each_first s no_more n = refl
    each_first s (more a as_) n = rw (needs_first s a n.0, each_first s as_ n.1) refl

  pub asked_first : (rs : List Labelled) → AllByRecursion (λ r. Names (on_clock base) r.value) rs →
      flat_map (λ r. needs j (ms ++ rest) base r.value) rs ≡ flat_map (λ r. needs j ms base r.value) rs
  asked_first [] a = refl
  asked_first (r ∷ rs) a = rw (needs_first (on_clock base) r.value a.0, asked_first rs a.1) refl
