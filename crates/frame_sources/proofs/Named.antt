-- What gives the names of a frame their values, by names and by places.
use Rattle.std.proofs.Common.{◌≡◌, ℕ, zero, suc, ◌<◌, ◌≤◌, Bool, true, false, cond, ◌||◌, List, [], ◌∷◌, ◌++◌, map, length, drop, Option, Some, None, option_map, unwrap_or, refl, sym, ap, ◌∙◌, subst, arith}
use Rattle.std.specs.Prelude.{slice_get}
use Rattle.std.specs.List.{AllByRecursion}
use Rattle.std.specs.Map.{lookup}
use Rattle.std.specs.Str.{bytes_eq}
use Rattle.std.proofs.lemmas.Option.{slice_get-map}
use Rattle.lus_tree.specs.Tree.{Name, Variable, Component, Expression, truth, number, name, negation, minus, pre, arrow, binary, choice, sampled, merged, call, condact, mode_name}
use Rattle.lus_meaning.specs.Depends.{named_in}
use Rattle.lus_meaning.specs.Run.{Equation, equations, sort_of_name}
use Rattle.lus_meaning.specs.Scene.{Clock, Instance, call_instance, clock_from, clock_of, clock_of_names, component_of, variables}
use Rattle.lus_meaning.specs.Value.{absent}
use Rattle.lus_meaning.specs.WellMade.{AreDistinct}
use Rattle.lus_meaning.proofs.Exists.{length_mapped, self_bytes}
use Rattle.lus_meaning.proofs.Unique.{same_bytes}
use Rattle.rule_laws.proofs.Lists.{other_bytes}
use Rattle.sys_meaning.specs.Slot.{Place}
use Rattle.sys_meaning.specs.WellTyped.{EquationFits, IsKnown, IsNameOn, OwnFits, StreamFits, right_sorts}
use Rattle.sys_texts.specs.Laws.{IsSightOf}
use Rattle.sys_texts.specs.Sights.{Sight}
use Rattle.sys_contracts.specs.Laws.{bare}
use Rattle.sys_conditions.specs.Named.{Right, place_in, right_of}
use Rattle.sys_tables.specs.Tabled.{named_stream}
use Rattle.slot_values.specs.Resolution.{Resolution, known}
use Rattle.slot_values.specs.Resolved.{Numbering, latest_resolution, output_resolution, outputs_at, resolution, right_resolutions}
use Rattle.evaluation_laws.specs.Resolvings.{resolvings}
use Rattle.slot_sources.specs.declared.source.Switch.{Switch}
use Rattle.slot_sources.specs.Source.{Source, given, listed}
use Rattle.slot_sources.specs.Sources.{NameSources, equation_sources, name_source, name_sources, numbering_of, paired, switch_of}
use Rattle.frame_sources.specs.Laws.{modes_at}
use Rattle.frame_sources.specs.OwnSources.{stream_source, stream_sources}
use Rattle.frame_sources.specs.Sourced.{own_source, right_by}
use Rattle.frame_sources.proofs.Sights.{rights_as, switch_as}

-- ---- what the caller gives

-- a source for each of the first names
abbrev pub zipped : List Variable → List Source → NameSources
zipped [] ps = []
zipped (v ∷ vs) [] = []
zipped (v ∷ vs) (p ∷ ps) = (v.name.text, p) ∷ zipped vs ps

pub none_zipped : (vs : List Variable) → zipped vs [] ≡ []
none_zipped [] = refl
none_zipped (v ∷ vs) = refl

pub paired_zipped : (vs : List Variable) (ps : List Source) → paired (map (λ v. v.name.text) vs) ps ≡ zipped vs ps
paired_zipped [] ps = refl
paired_zipped (v ∷ vs) [] = refl
paired_zipped (v ∷ vs) (p ∷ ps) = ap (λ l. (v.name.text, p) ∷ l) (paired_zipped vs ps)

pub zipped_behind : (vs ws : List Variable) (ps qs : List Source) → length ps ≡ length vs → zipped (vs ++ ws) (ps ++ qs) ≡ zipped vs ps ++ zipped ws qs
zipped_behind [] ws [] qs e = refl
zipped_behind [] ws (p ∷ ps) qs e = absurd (omega arith)
zipped_behind (v ∷ vs) ws [] qs e = absurd (omega arith)
zipped_behind (v ∷ vs) ws (p ∷ ps) qs e = ap (λ l. (v.name.text, p) ∷ l) (zipped_behind vs ws ps qs (omega arith))

-- ---- by place

module _ (g : Numbering) (es : NameSources) where
  -- a source of another name is passed
  passed : (x : Name) (p : Source) (from : NameSources) (vs : List Variable) → named_in x (map (λ v. v.name.text) vs) ≡ false
      → map (name_source g ((x, p) ∷ (from ++ es))) vs ≡ map (name_source g (from ++ es)) vs
  passed x p from [] e = refl
  passed x p from (v ∷ vs) e = go (bytes_eq x v.name.text) refl e (passed x p from vs)
    where
      go : (b : Bool) → bytes_eq x v.name.text ≡ b → (b || named_in x (map (λ v. v.name.text) vs)) ≡ false
          → (named_in x (map (λ v. v.name.text) vs) ≡ false → map (name_source g ((x, p) ∷ (from ++ es))) vs ≡ map (name_source g (from ++ es)) vs)
          → map (name_source g ((x, p) ∷ (from ++ es))) (v ∷ vs) ≡ map (name_source g (from ++ es)) (v ∷ vs)
      go true a e r = cc
      go false a e r =
          ap (λ b. unwrap_or (cond b (Some p) (lookup (bytes_eq v.name.text) (from ++ es))) (listed (switch_of g (clock_from v.clock)))
          ∷ map (name_source g ((x, p) ∷ (from ++ es))) vs) (other_bytes x v.name.text a)
          ∙ ap (λ l. name_source g (from ++ es) v ∷ l) (r e)

  pub by_place : (vs : List Variable) (ps : List Source) → length ps ≤ length vs → AreDistinct (map (λ v. v.name.text) vs)
      → map (name_source g (zipped vs ps ++ es)) vs ≡ ps ++ map (name_source g es) (drop (length ps) vs)
  by_place [] [] l d = refl
  by_place [] (p ∷ ps) l d = absurd (omega arith)
  by_place (v ∷ vs) [] l d = refl
  by_place (v ∷ vs) (p ∷ ps) l d =
      ap (λ b. unwrap_or (cond b (Some p) (lookup (bytes_eq v.name.text) (zipped vs ps ++ es))) (listed (switch_of g (clock_from v.clock)))
      ∷ map (name_source g ((v.name.text, p) ∷ (zipped vs ps ++ es))) vs) (self_bytes v.name.text)
      ∙ ap (λ l. p ∷ l) (passed v.name.text p (zipped vs ps) vs d.0 ∙ by_place vs ps (omega arith) d.1)

-- ---- by equations

-- what a right side gives to the left name of that place
abbrev pub given_at : Numbering → Right → Resolution
given_at g q = unwrap_or (slice_get (right_resolutions g q.side) q.place) (known absent)

abbrev pub by_right : Numbering → Variable → Option Right → Source
by_right g v None = listed (switch_of g (clock_from v.clock))
by_right g v (Some q) = given (switch_of g (clock_from v.clock)) (given_at g q)

-- the first of a name among left names
found_paired : (x : Name) (xs : List Name) (ps : List Source) (rest : NameSources) → length xs ≡ length ps
    → lookup (bytes_eq x) (paired xs ps ++ rest) ≡ cond (named_in x xs) (slice_get ps (place_in xs x)) (lookup (bytes_eq x) rest)
found_paired x [] [] rest e = refl
found_paired x [] (p ∷ ps) rest e = absurd (omega arith)
found_paired x (y ∷ xs) [] rest e = absurd (omega arith)
found_paired x (y ∷ xs) (p ∷ ps) rest e = go (bytes_eq x y) (found_paired x xs ps rest (omega arith))
  where
    go : (b : Bool) → lookup (bytes_eq x) (paired xs ps ++ rest) ≡ cond (named_in x xs) (slice_get ps (place_in xs x)) (lookup (bytes_eq x) rest)
        → cond b (Some p) (lookup (bytes_eq x) (paired xs ps ++ rest))
        ≡ cond (b || named_in x xs) (slice_get (p ∷ ps) (cond b zero (suc (place_in xs x)))) (lookup (bytes_eq x) rest)
    go true h = refl
    go false h = h

placed : (x : Name) (xs : List Name) → named_in x xs ≡ true → place_in xs x < length xs
placed x [] e = cc
placed x (y ∷ xs) e = go (bytes_eq x y) e (placed x xs)
  where
    go : (b : Bool) → (b || named_in x xs) ≡ true → (named_in x xs ≡ true → place_in xs x < length xs) → cond b zero (suc (place_in xs x)) < suc (length xs)
    go true e h = omega arith
    go false e h = let r : place_in xs x < length xs = h e in omega arith

got_some : {A : Type 0} (xs : List A) (k : ℕ) (d : A) → k < length xs → slice_get xs k ≡ Some (unwrap_or (slice_get xs k) d)
got_some [] k d l = absurd (omega (arith, l))
got_some (x ∷ xs) zero d l = refl
got_some (x ∷ xs) (suc k) d l = got_some xs k d (omega (arith, l))

-- an equation of that name has its clock, and gives each of its names a value
abbrev pub Gives : Numbering → Variable → Equation → Type 0
Gives g v e =
    (length e.names ≡ length (right_resolutions g e.right))
    × (named_in v.name.text e.names ≡ true → clock_of_names (component_of g.place) e.names ≡ clock_from v.clock)

module _ (g : Numbering) (v : Variable) where
  abbrev x : Name
  x = v.name.text

  abbrev on_its_clock : Switch
  on_its_clock = switch_of g (clock_from v.clock)

  abbrev by_name : Option Source → Source
  by_name o = unwrap_or o (listed on_its_clock)

  by_equations : (es : List Equation) → AllByRecursion (Gives g v) es → by_name (lookup (bytes_eq x) (equation_sources g es)) ≡ by_right g v (right_of es x)
  by_equations [] a = refl
  by_equations (e ∷ es) a =
      ap by_name (found_paired x e.names sides (equation_sources g es) (a.0.0 ∙ sym (length_mapped (given of_names) rights)))
      ∙ go (named_in x e.names) refl (by_equations es a.1)
    where
      rights : List Resolution
      rights = right_resolutions g e.right

      of_names : Switch
      of_names = switch_of g (clock_of_names (component_of g.place) e.names)

      sides : List Source
      sides = map (given of_names) rights

      go : (b : Bool) → named_in x e.names ≡ b → by_name (lookup (bytes_eq x) (equation_sources g es)) ≡ by_right g v (right_of es x)
          → by_name (cond b (slice_get sides (place_in e.names x)) (lookup (bytes_eq x) (equation_sources g es)))
          ≡ by_right g v (cond b (Some record { side = e.right; place = place_in e.names x }) (right_of es x))
      go false n r = r
      go true n r =
          ap by_name (slice_get-map (given of_names) rights (place_in e.names x)
          ∙ ap (option_map (given of_names)) (got_some rights (place_in e.names x) (known absent) (subst (λ k. place_in e.names x < k) a.0.0 (placed x e.names n))))
          ∙ ap (λ c. given (switch_of g c) (unwrap_or (slice_get rights (place_in e.names x)) (known absent))) (a.0.1 n)

-- ---- the names of a frame

rights_many : (i : Instance) (at : Place → ℕ) (e : Expression) → length (right_sorts i (IsKnown i) e) ≡ length (right_resolutions (numbering_of i at) e)
rights_many i at (call p k f as_) =
    length_mapped _ (component_of (call_instance i k)).outputs
    ∙ sym (length_mapped (output_resolution (numbering_of i at) k) (outputs_at (numbering_of i at) k) ∙ length_mapped _ (component_of (call_instance i k)).outputs)
rights_many i at (condact p k a f as_ ds) =
    length_mapped _ (component_of (call_instance i k)).outputs
    ∙ sym (length_mapped (latest_resolution (numbering_of i at) k (resolution (numbering_of i at) a)) (outputs_at (numbering_of i at) k)
    ∙ length_mapped _ (component_of (call_instance i k)).outputs)
rights_many i at (truth p b) = refl
rights_many i at (number p m) = refl
rights_many i at (name p x) = refl
rights_many i at (negation p a) = refl
rights_many i at (minus p a) = refl
rights_many i at (pre p k a) = refl
rights_many i at (arrow p k a b) = refl
rights_many i at (binary p o a b) = refl
rights_many i at (choice p a b d) = refl
rights_many i at (sampled p a q x) = refl
rights_many i at (merged p x a b) = refl
rights_many i at (mode_name p d m) = refl

-- a name that is among these is on their clock
on_clock : (i : Instance) (c : Clock) (x : Name) (xs : List Name) → AllByRecursion (λ y. IsNameOn i (IsKnown i) c y) xs → named_in x xs ≡ true
    → clock_of (component_of i) x ≡ c
on_clock i c x [] a e = cc
on_clock i c x (y ∷ xs) a e = go (bytes_eq x y) refl e (on_clock i c x xs a.1)
  where
    go : (b : Bool) → bytes_eq x y ≡ b → (b || named_in x xs) ≡ true → (named_in x xs ≡ true → clock_of (component_of i) x ≡ c) → clock_of (component_of i) x ≡ c
    go true s e r = ap (clock_of (component_of i)) (same_bytes x y s) ∙ a.0.clock
    go false s e r = r e

module _ (s : Sight) (i : Instance) (at : Place → ℕ) (h : IsSightOf s [] (bare i at)) (fits : OwnFits i (IsKnown i)) where
  abbrev here : Numbering
  here = numbering_of i at

  abbrev n : Component
  n = component_of i

  gives : (v : Variable) → StreamFits i (IsKnown i) v → (es : List Equation) → AllByRecursion (EquationFits i (IsKnown i)) es → AllByRecursion (Gives here v) es
  gives v u [] a = tt
  gives v u (e ∷ es) a = (
    (
      sym (length_mapped (sort_of_name i) e.names) ∙ (ap length a.0.sorts ∙ rights_many i at e.right),
      λ m. sym (on_clock i (clock_of_names n e.names) v.name.text e.names a.0.names m) ∙ u.name.clock,
    ),
    gives v u es a.1,
  )

  right_so : (c : Clock) (o : Option Right) (v : Variable) → c ≡ clock_from v.clock → own_source s (modes_at at i) c o ≡ by_right here v o
  right_so c None v e = ap listed (switch_as s i at h (resolvings i) c ∙ ap (switch_of here) e)
  right_so c (Some q) v e =
      ap (λ z. given z (right_by s (modes_at at i) q)) (switch_as s i at h (resolvings i) c ∙ ap (switch_of here) e)
      ∙ ap (λ z. given (switch_of here (clock_from v.clock)) (unwrap_or (slice_get z q.place) (known absent))) (rights_as s i at h (resolvings i) q.side)

  one_so : (v : Variable) → StreamFits i (IsKnown i) v
      → stream_source s (modes_at at i) (named_stream n v) ≡ name_source here (equation_sources here (equations n)) v
  one_so v u =
      right_so (clock_from v.clock) (right_of (equations n) v.name.text) v refl ∙ sym (by_equations here v (equations n) (gives v u (equations n) fits.equations))

  all_so : (vs : List Variable) → AllByRecursion (StreamFits i (IsKnown i)) vs
      → map (stream_source s (modes_at at i)) (map (named_stream n) vs) ≡ map (name_source here (equation_sources here (equations n))) vs
  all_so [] a = refl
  all_so (v ∷ vs) a =
      ap (λ z. z ∷ map (stream_source s (modes_at at i)) (map (named_stream n) vs)) (one_so v a.0)
      ∙ ap (λ l. name_source here (equation_sources here (equations n)) v ∷ l) (all_so vs a.1)

  all_dropped : {A : Type 0} (P : A → Type 0) (k : ℕ) (xs : List A) → AllByRecursion P xs → AllByRecursion P (drop k xs)
  all_dropped P zero xs a = a
  all_dropped P (suc k) [] a = tt
  all_dropped P (suc k) (x ∷ xs) a = all_dropped P k xs a.1

  dropped_mapped : {A B : Type 0} (f : A → B) (k : ℕ) (xs : List A) → drop k (map f xs) ≡ map f (drop k xs)
  dropped_mapped f zero xs = refl
  dropped_mapped f (suc k) [] = refl
  dropped_mapped f (suc k) (x ∷ xs) = dropped_mapped f k xs

  pub names_so : (ps : List Source) → length ps ≤ length (variables n)
      → stream_sources s (modes_at at i) (map (named_stream n) (variables n)) ps ≡ name_sources here (zipped (variables n) ps)
  names_so ps l =
      ap (λ z. ps ++ map (stream_source s (modes_at at i)) z) (dropped_mapped (named_stream n) (length ps) (variables n))
      ∙ (ap (λ z. ps ++ z) (all_so (drop (length ps) (variables n)) (all_dropped (StreamFits i (IsKnown i)) (length ps) (variables n) fits.streams))
      ∙ sym (by_place here (equation_sources here (equations n)) (variables n) ps l fits.once))
