-- A weight for each call of a declaration: what its arguments need of other calls is of calls of less weight.
use Rattle.std.proofs.Common.{option_map, ◌≡◌, ℕ, zero, suc, pred, ◌+◌, ◌≤◌, Bool, true, false, cond, ◌||◌, List, [], ◌∷◌, ◌++◌, map, unwrap_or, refl, ap, ◌∙◌, subst, arith, Option, Some, None}
use Rattle.std.specs.Prelude.{option_to_list}
use Rattle.std.specs.List.{AllByRecursion, list_any}
use Rattle.std.specs.Map.{lookup}
use Rattle.std.proofs.lemmas.Bool.{false≢true}
use Rattle.lus_tree.specs.Tree.{Name, text_of, Expression, Expressions, truth, number, name, negation, minus, pre, arrow, binary, choice, sampled, merged, call, condact, mode_name, no_more, more, Component}
use Rattle.lus_meaning.specs.Scene.{Clock, base, sampled_by, Manner, plain, while_true, as_import, Site, Instance, Instances, no_instances, with_instance, component_of, call_instance, outputs_of, clock_of}
use Rattle.lus_meaning.specs.Meaning.{mode_key}
use Rattle.lus_meaning.specs.Program.{listed}
use Rattle.lus_meaning.specs.Occurrences.{Standing, within, moved, Occurrence}
use Rattle.lus_meaning.specs.Depends.{Need, the_beat, a_name, inside, ModeNeeds, known_needs, clock_needs, output_needs, needs, needs_each, imported_needs}
use Rattle.lus_meaning.proofs.EachPart.{Each, EachAmong}
use Rattle.lus_meaning.proofs.Lists.{both_parts, all_from}
use Rattle.rule_laws.specs.Laws.{site_at}
use Rattle.clock_laws.proofs.Modes.{Key}

abbrev pub Weights : Type 0
Weights = List (Key × ℕ)

abbrev pub weight_at : Weights → Key → ℕ
weight_at ws key = unwrap_or (lookup (mode_key key) ws) 0

-- more than what any call in it weighs that it needs at its instant
abbrev mutual
  pub heft : Weights → Expression → ℕ
  heft ws (truth p b) = 0
  heft ws (number p k) = 0
  heft ws (name p x) = 0
  heft ws (negation p a) = heft ws a
  heft ws (minus p a) = heft ws a
  heft ws (pre p k a) = 0
  heft ws (arrow p k a b) = heft ws a + heft ws b
  heft ws (binary p o a b) = heft ws a + heft ws b
  heft ws (choice p a b d) = heft ws a + (heft ws b + heft ws d)
  heft ws (sampled p a b x) = heft ws a
  heft ws (merged p x a b) = heft ws a + heft ws b
  heft ws (call p k f as_) = suc (hefts ws as_)
  heft ws (condact p k a f as_ ds) = suc (heft ws a + hefts ws as_) + hefts ws ds
  heft ws (mode_name p d m) = weight_at ws (option_to_list (option_map text_of d), m.text)

  pub hefts : Weights → Expressions → ℕ
  hefts ws no_more = 0
  hefts ws (more a as_) = heft ws a + hefts ws as_

abbrev pub heft_all : Weights → List Expression → ℕ
heft_all ws [] = 0
heft_all ws (a ∷ as_) = heft ws a + heft_all ws as_

abbrev pub with_condition : Weights → Manner → ℕ → ℕ
with_condition ws plain b = b
with_condition ws (while_true a) b = heft ws a + b
with_condition ws (as_import xs) b = b

abbrev pub site_heft : Weights → Site → ℕ
site_heft ws c = suc (with_condition ws c.manner (heft_all ws c.arguments))

pub listed_heft : (ws : Weights) (as_ : Expressions) → heft_all ws (listed as_) ≡ hefts ws as_
listed_heft ws no_more = refl
listed_heft ws (more a as_) = ap (λ k. heft ws a + k) (listed_heft ws as_)

-- the weight of the call at a place
abbrev pub heft_at : Weights → Instances → ℕ → ℕ
heft_at ws no_instances j = 0
heft_at ws (with_instance c k is) zero = site_heft ws c
heft_at ws (with_instance c k is) (suc j) = heft_at ws is j

abbrev is_site : Option Site → Bool
is_site None = false
is_site (Some d) = true

abbrev the_site : Site → Option Site → Site
the_site c None = c
the_site c (Some d) = d

pub heft_there : (ws : Weights) (is : Instances) (j : ℕ) (c : Site) → site_at is j ≡ Some c → heft_at ws is j ≡ site_heft ws c
heft_there ws no_instances j c e = absurd (false≢true (ap is_site e))
heft_there ws (with_instance d k is) zero c e = ap (site_heft ws) (ap (the_site c) e)
heft_there ws (with_instance d k is) (suc j) c e = heft_there ws is j c e

-- ---- what an expression needs

module _ (weigh : ℕ → ℕ) where
  -- of a call, one that weighs no more
  abbrev pub Light : ℕ → Need → Type 0
  Light b the_beat = Unit {0}
  Light b (a_name [] x) = Unit {0}
  Light b (a_name (j ∷ ks) x) = weigh j ≤ b

  abbrev pub AllLight : ℕ → List Need → Type 0
  AllLight b ns = AllByRecursion (Light b) ns

  lighter_one : (b d : ℕ) → b ≤ d → (n : Need) → Light b n → Light d n
  lighter_one b d l the_beat h = tt
  lighter_one b d l (a_name [] x) h = tt
  lighter_one b d l (a_name (j ∷ ks) x) h = omega arith

  pub lighter : (b d : ℕ) → b ≤ d → (ns : List Need) → AllLight b ns → AllLight d ns
  lighter b d l ns a = all_from (Light b) (Light d) (lighter_one b d l) ns a

  pub clock_light : (b : ℕ) (c : Clock) → AllLight b (clock_needs c)
  clock_light b base = (tt, tt)
  clock_light b (sampled_by q x) = (tt, tt)

  outputs_light : (b j : ℕ) → weigh j ≤ b → (ys : List Name) → AllLight b (map (a_name (j ∷ [])) ys)
  outputs_light b j l [] = tt
  outputs_light b j l (y ∷ ys) = (l, outputs_light b j l ys)

  pub two_light : (b d : ℕ) (ns ms : List Need) → AllLight b ns → AllLight d ms → AllLight (b + d) (ns ++ ms)
  two_light b d ns ms a q = both_parts (Light (b + d)) ns ms (lighter b (b + d) (omega arith) ns a) (lighter d (b + d) (omega arith) ms q)

  pub behind_clock : (b : ℕ) (c : Clock) (ns : List Need) → AllLight b ns → AllLight b (clock_needs c ++ ns)
  behind_clock b c ns a = both_parts (Light b) (clock_needs c) ns (clock_light b c) a

  module _ (ns : ModeNeeds) (ws : Weights) where
    -- a call weighs what it weighs at its place, and a mode no more than it needs
    abbrev pub LightIn : Expression → Type 0
    LightIn (call p k f as_) = weigh (pred k) ≡ suc (heft_all ws (listed as_))
    LightIn (condact p k a f as_ ds) = weigh (pred k) ≡ suc (heft ws a + heft_all ws (listed as_))
    LightIn (mode_name p d m) = AllLight (weight_at ws (option_to_list (option_map text_of d), m.text))
        (known_needs ns (option_to_list (option_map text_of d), m.text))
    LightIn _ = Unit {0}

    abbrev pub LightPart : Occurrence → Type 0
    LightPart o = LightIn o.expression

    module _ (i : Instance) where
      mutual
        pub light_needs : (e : Expression) (t : Standing) (c : Clock) → Each LightPart (component_of i) t e → AllLight (heft ws e) (needs i ns c e)
        light_needs (truth p b) t c h = clock_light 0 c
        light_needs (number p k) t c h = clock_light 0 c
        light_needs (name p x) t c h = (tt, clock_light 0 c)
        light_needs (negation p a) t c h = behind_clock (heft ws a) c (needs i ns c a) (light_needs a (within t) c h.1)
        light_needs (minus p a) t c h = behind_clock (heft ws a) c (needs i ns c a) (light_needs a (within t) c h.1)
        light_needs (pre p k a) t c h = clock_light 0 c
        light_needs (arrow p k a b) t c h = behind_clock (heft ws a + heft ws b) c (needs i ns c a ++ needs i ns c b)
            (two_light (heft ws a) (heft ws b) (needs i ns c a) (needs i ns c b) (light_needs a (within t) c h.1) (light_needs b (within t) c h.2))
        light_needs (binary p o a b) t c h = behind_clock (heft ws a + heft ws b) c (needs i ns c a ++ needs i ns c b)
            (two_light (heft ws a) (heft ws b) (needs i ns c a) (needs i ns c b) (light_needs a (within t) c h.1) (light_needs b (within t) c h.2))
        light_needs (choice p a b d) t c h = behind_clock (heft ws a + (heft ws b + heft ws d)) c (needs i ns c a ++ (needs i ns c b ++ needs i ns c d))
            (two_light (heft ws a) (heft ws b + heft ws d) (needs i ns c a) (needs i ns c b ++ needs i ns c d) (light_needs a (within t) c h.1)
            (two_light (heft ws b) (heft ws d) (needs i ns c b) (needs i ns c d) (light_needs b (within t) c h.2) (light_needs d (within t) c h.3)))
        light_needs (sampled p a b x) t c h = (tt, light_needs a (moved (clock_of (component_of i) x.text) t) (clock_of (component_of i) x.text) h.1)
        light_needs (merged p x a b) t c h = (
          tt,
          two_light (heft ws a) (heft ws b) (needs i ns (sampled_by true x.text) a)
              (needs i ns (sampled_by false x.text) b) (light_needs a (moved (sampled_by true x.text) t) (sampled_by true x.text) h.1)
              (light_needs b (moved (sampled_by false x.text) t) (sampled_by false x.text) h.2),
        )
        light_needs (call p k f as_) t c h =
            let e : weigh (pred k) ≡ suc (hefts ws as_) = h.0 ∙ ap suc (listed_heft ws as_) in
            outputs_light (suc (hefts ws as_)) (pred k) (omega arith) (outputs_of (call_instance i k))
        light_needs (condact p k a f as_ ds) t c h =
            let all : ℕ = suc (heft ws a + hefts ws as_) + hefts ws ds in
            let e : weigh (pred k) ≡ suc (heft ws a + hefts ws as_) = h.0 ∙ ap (λ q. suc (heft ws a + q)) (listed_heft ws as_) in
            behind_clock all c (needs i ns c a ++ (output_needs i k ++ needs_each i ns c ds))
            (both_parts (Light all) (needs i ns c a) (output_needs i k ++ needs_each i ns c ds)
            (lighter (heft ws a) all (omega arith) (needs i ns c a) (light_needs a (within t) c h.1))
            (both_parts (Light all) (output_needs i k) (needs_each i ns c ds) (outputs_light all (pred k) (omega arith) (outputs_of (call_instance i k)))
            (lighter (hefts ws ds) all (omega arith) (needs_each i ns c ds) (light_each ds (within t) c h.3))))
        light_needs (mode_name p d m) t c h = h

        pub light_each : (as_ : Expressions) (t : Standing) (c : Clock) → EachAmong LightPart (component_of i) t as_ → AllLight (hefts ws as_)
            (needs_each i ns c as_)
        light_each no_more t c h = tt
        light_each (more a as_) t c h = two_light (heft ws a) (hefts ws as_) (needs i ns c a) (needs_each i ns c as_)
            (light_needs a t c h.0) (light_each as_ t c h.1)

  -- ---- modes

  abbrev pub PairsLight : ModeNeeds → Weights → Type 0
  PairsLight [] [] = Unit {0}
  PairsLight (e ∷ ns) (w ∷ ws) = (e.0 ≡ w.0) × AllLight w.1 e.1 × PairsLight ns ws
  PairsLight [] (w ∷ ws) = ⊥
  PairsLight (e ∷ ns) [] = ⊥

  pub pair_light : (ns : ModeNeeds) (ws : Weights) → PairsLight ns ws → (key : Key) → AllLight (weight_at ws key) (known_needs ns key)
  pair_light [] [] h key = tt
  pair_light [] (w ∷ ws) h key = absurd h
  pair_light (e ∷ ns) [] h key = absurd h
  pair_light (e ∷ ns) (w ∷ ws) h key = subst (λ q. AllLight (unwrap_or (cond (mode_key key q) (Some w.1) (lookup (mode_key key) ws)) 0)
      (known_needs (e ∷ ns) key)) h.0 (go (mode_key key e.0) (pair_light ns ws h.2 key))
    where
      go : (c : Bool) → AllLight (weight_at ws key) (known_needs ns key) → AllLight (unwrap_or (cond c (Some w.1) (lookup (mode_key key) ws)) 0)
          (unwrap_or (cond c (Some e.1) (lookup (mode_key key) ns)) [])
      go true r = h.1
      go false r = r

  pub pairs_joined : (ns ms : ModeNeeds) (ws vs : Weights) → PairsLight ns ws → PairsLight ms vs → PairsLight (ns ++ ms) (ws ++ vs)
  pairs_joined [] ms [] vs h g = g
  pairs_joined [] ms (w ∷ ws) vs h g = absurd h
  pairs_joined (e ∷ ns) ms [] vs h g = absurd h
  pairs_joined (e ∷ ns) ms (w ∷ ws) vs h g = (h.0, h.1, pairs_joined ns ms ws vs h.2 g)

  -- what a mode of an import needs is of the import
  inside_light : (b j : ℕ) → weigh j ≤ b → (ns : List Need) → AllLight b (map (inside j) ns)
  inside_light b j l [] = tt
  inside_light b j l (the_beat ∷ ns) = (tt, inside_light b j l ns)
  inside_light b j l (a_name ks x ∷ ns) = (l, inside_light b j l ns)

abbrev pub imported_weight : Name → ℕ → (List Name × Name) × List Need → Key × ℕ
imported_weight c b e = ((c ∷ e.0.0, e.0.1), b)

pub imported_light : (weigh : ℕ → ℕ) (b j : ℕ) (c : Name) → weigh j ≤ b → (ns : ModeNeeds) → PairsLight weigh (map (imported_needs j c) ns)
    (map (imported_weight c b) ns)
imported_light weigh b j c l [] = tt
imported_light weigh b j c l (e ∷ ns) = (refl, inside_light weigh b j l e.1, imported_light weigh b j c l ns)

-- ---- weights over two lists of modes

module _ (ws vs : Weights) (n : Component) where
  abbrev pub SameWeightIn : Expression → Type 0
  SameWeightIn (mode_name p d m) = weight_at ws (option_to_list (option_map text_of d), m.text) ≡ weight_at vs (option_to_list (option_map text_of d), m.text)
  SameWeightIn _ = Unit {0}

  abbrev pub SameWeight : Occurrence → Type 0
  SameWeight o = SameWeightIn o.expression

  mutual
    pub same_heft : (e : Expression) (t : Standing) → Each SameWeight n t e → heft ws e ≡ heft vs e
    same_heft (truth p b) t h = refl
    same_heft (number p k) t h = refl
    same_heft (name p x) t h = refl
    same_heft (negation p a) t h = same_heft a (within t) h.1
    same_heft (minus p a) t h = same_heft a (within t) h.1
    same_heft (pre p k a) t h = refl
    same_heft (arrow p k a b) t h = rw (same_heft a (within t) h.1, same_heft b (within t) h.2) refl
    same_heft (binary p o a b) t h = rw (same_heft a (within t) h.1, same_heft b (within t) h.2) refl
    same_heft (choice p a b d) t h = rw (same_heft a (within t) h.1, same_heft b (within t) h.2, same_heft d (within t) h.3) refl
    same_heft (sampled p a b x) t h = same_heft a (moved (clock_of n x.text) t) h.1
    same_heft (merged p x a b) t h = rw (same_heft a (moved (sampled_by true x.text) t) h.1, same_heft b (moved (sampled_by false x.text) t) h.2) refl
    same_heft (call p k f as_) t h = ap suc (same_hefts as_ (within t) h.1)
    same_heft (condact p k a f as_ ds) t h = rw (same_heft a (within t) h.1, same_hefts as_ (within t) h.2, same_hefts ds (within t) h.3) refl
    same_heft (mode_name p d m) t h = h

    pub same_hefts : (as_ : Expressions) (t : Standing) → EachAmong SameWeight n t as_ → hefts ws as_ ≡ hefts vs as_
    same_hefts no_more t h = refl
    same_hefts (more a as_) t h = rw (same_heft a t h.0, same_hefts as_ t h.1) refl

abbrev pub weight_listed : Key → Weights → Bool
weight_listed key ws = list_any (λ w. mode_key key w.0) ws

pub weight_before : (key : Key) (ws rest : Weights) → weight_listed key ws ≡ true → weight_at ws key ≡ weight_at (ws ++ rest) key
weight_before key [] rest e = absurd (false≢true e)
weight_before key (w ∷ ws) rest e = go (mode_key key w.0) e (weight_before key ws rest)
  where
    go : (c : Bool) → (c || weight_listed key ws) ≡ true → (weight_listed key ws ≡ true → weight_at ws key ≡ weight_at (ws ++ rest) key) → unwrap_or
        (cond c (Some w.1) (lookup (mode_key key) ws)) 0 ≡ unwrap_or (cond c (Some w.1) (lookup (mode_key key) (ws ++ rest))) 0
    go true q r = refl
    go false q r = r q
