-- On the clock of its place the resolution of an expression is worth what the expression is seen to be.
use Rattle.std.proofs.Common.{◌≡◌, ℕ, Bool, true, false, cond, List, [], ◌∷◌, map, Option, Some, None, option_map, option_to_list, unwrap_or, refl, ap, ◌∙◌, sym}
use Rattle.std.specs.Map.{lookup}
use Rattle.std.specs.Str.{bytes_eq}
use Rattle.std.proofs.lemmas.Bool.{false≢true}
use Rattle.lus_tree.specs.Tree.{Name, text_of, Expression, truth, number, name, negation, minus, pre, arrow, binary, choice, sampled, merged, call, condact, mode_name}
use Rattle.lus_meaning.specs.Value.{Value, absent, flag, whole, is, choose, not_value, minus_value}
use Rattle.lus_meaning.specs.Scene.{Clock, sampled_by, constants_of}
use Rattle.lus_meaning.specs.Meaning.{mode_key}
use Rattle.sys_meaning.specs.Slot.{named, own}
use Rattle.sys_meaning.specs.Items.{Key, Known}
use Rattle.sys_meaning.specs.Seen.{Row, seen_or, seen_output, seen_latest, head_value, seen, seen_right}
use Rattle.sys_meaning.specs.WellTyped.{clock_here, Stands}
use Rattle.slot_values.specs.Resolution.{Resolution, known}
use Rattle.slot_values.specs.Evaluated.{SlotValues, is_there, worth}
use Rattle.slot_values.specs.Resolved.{Numbering, constant_or_slot, slot_of, output_resolution, latest_resolution, outputs_at, first_resolution, resolution, right_resolutions}
use Rattle.slot_values.specs.Clocked.{row_by, clock_on, IsClocked, Passes, sight_by, WorthIsSeen, RightsAreSeen}

-- what is true or false is there
there_by : (q : Bool) (v : Value) → is q v ≡ true → is_there v ≡ true
there_by q absent e = absurd (false≢true e)
there_by q (flag b) e = refl
there_by q (whole n) e = absurd (false≢true e)

-- a merge chooses by a value that is there: of the branch that counts the value is right
merged_as : (v : Value) (a b a' b' : Value) → is_there v ≡ true → (is true v ≡ true → a ≡ a') → (is false v ≡ true → b ≡ b') →
    choose v a b ≡ choose v a' b'
merged_as absent a b a' b' h f g = refl
merged_as (flag true) a b a' b' h f g = f refl
merged_as (flag false) a b a' b' h f g = g refl
merged_as (whole n) a b a' b' h f g = refl

module _ (g : Numbering) (s : SlotValues) where
  mode_worth : (p : Key → Bool) (ms : Known Resolution) →
      worth s true (unwrap_or (lookup p ms) (known (flag false))) ≡ unwrap_or (lookup p (map (λ m. (m.0, worth s true m.1)) ms)) (flag false)
  mode_worth p [] = refl
  mode_worth p (m ∷ ms) = go (p m.0) (mode_worth p ms)
    where
      go : (c : Bool) →
          worth s true (unwrap_or (lookup p ms) (known (flag false))) ≡ unwrap_or (lookup p (map (λ m. (m.0, worth s true m.1)) ms)) (flag false) →
          worth s true (unwrap_or (cond c (Some m.1) (lookup p ms)) (known (flag false)))
          ≡ unwrap_or (cond c (Some (worth s true m.1)) (lookup p (map (λ m. (m.0, worth s true m.1)) ms))) (flag false)
      go true h = refl
      go false h = h

  name_worth : (o : Option Value) (x : Name) → worth s true (constant_or_slot o (slot_of g (own (named x)))) ≡ seen_or o (s (g.number (own (named x))))
  name_worth None x = refl
  name_worth (Some v) x = refl

  outputs_worth : (k : ℕ) (ys : List Name) → map (worth s true) (map (output_resolution g k) ys) ≡ map (seen_output (sight_by g s) k) ys
  outputs_worth k [] = refl
  outputs_worth k (y ∷ ys) = rw (outputs_worth k ys) refl

  latests_worth : (k : ℕ) (a : Resolution) (ys : List Name) →
      map (worth s true) (map (latest_resolution g k a) ys) ≡ map (seen_latest (sight_by g s) k) ys
  latests_worth k a [] = refl
  latests_worth k a (y ∷ ys) = rw (latests_worth k a ys) refl

  first_worth : (es : List Resolution) → worth s true (first_resolution es) ≡ head_value (map (worth s true) es)
  first_worth [] = refl
  first_worth (e ∷ es) = refl

  module _ (ModeAt : Key → Type 0) (clocked : IsClocked g.place ModeAt (row_by g.number s)) where
    abbrev row : Row
    row = row_by g.number s

    pub worth_seen : (c : Clock) (e : Expression) → Stands g.place ModeAt c e → clock_on row c ≡ true →
        worth s true (resolution g e) ≡ seen (sight_by g s) e
    worth_seen c (truth p b) h o = refl
    worth_seen c (number p n) h o = refl
    worth_seen c (name p x) h o = name_worth (lookup (bytes_eq x) (constants_of g.place)) x
    worth_seen c (negation p a) h o = ap not_value (worth_seen c a h.1 o)
    worth_seen c (minus p a) h o = ap minus_value (worth_seen c a h.1 o)
    worth_seen c (pre p k a) h o = refl
    worth_seen c (arrow p k a b) h o = rw (worth_seen c a h.2 o, worth_seen c b h.3 o) refl
    worth_seen c (binary p q a b) h o = rw (worth_seen c a h.3 o, worth_seen c b h.4 o) refl
    worth_seen c (choice p a b d) h o = rw (worth_seen c a h.2 o, worth_seen c b h.3 o, worth_seen c d h.4 o) refl
    worth_seen c (sampled p a q x) h o =
        let on : is q (row (own (named x.text))) ≡ true = sym (ap (clock_on row) h.0) ∙ o in
        let here : is_there (row (own (named x.text))) ≡ true = there_by q (row (own (named x.text))) on in
        let mine : clock_on row (clock_here g.place ModeAt x.text) ≡ true = sym (clocked x.text h.1.stream h.1.declared) ∙ here in
        rw (on, here) (worth_seen (clock_here g.place ModeAt x.text) a h.2 mine)
    worth_seen c (merged p x a b) h o =
        let here : is_there (row (own (named x.text))) ≡ true =
        clocked x.text h.0.stream h.0.declared ∙ ap (clock_on row) h.0.clock ∙ o in
        merged_as (row (own (named x.text))) (worth s (is true (row (own (named x.text)))) (resolution g a))
        (worth s (is false (row (own (named x.text)))) (resolution g b)) (seen (sight_by g s) a) (seen (sight_by g s) b) here
        (λ e. ap (λ k. worth s k (resolution g a)) e ∙ worth_seen (sampled_by true x.text) a h.3 e)
        (λ e. ap (λ k. worth s k (resolution g b)) e ∙ worth_seen (sampled_by false x.text) b h.4 e)
    worth_seen c (call p k f as_) h o =
        first_worth (map (output_resolution g k) (outputs_at g k)) ∙ ap head_value (outputs_worth k (outputs_at g k))
    worth_seen c (condact p k a f as_ ds) h o =
        first_worth (map (latest_resolution g k (resolution g a)) (outputs_at g k))
        ∙ ap head_value (latests_worth k (resolution g a) (outputs_at g k))
    worth_seen c (mode_name p d m) h o = mode_worth (mode_key (option_to_list (option_map text_of d), m.text)) g.modes

    one : (e : Resolution) (v : Value) → worth s true e ≡ v → map (worth s true) (e ∷ []) ≡ v ∷ []
    one e v h = ap (λ w. w ∷ []) h

    pub rights_seen : (c : Clock) (e : Expression) → Stands g.place ModeAt c e → clock_on row c ≡ true →
        map (worth s true) (right_resolutions g e) ≡ seen_right (sight_by g s) e
    rights_seen c (truth p b) h o = refl
    rights_seen c (number p n) h o = refl
    rights_seen c (name p x) h o = one (resolution g (name p x)) _ (worth_seen c (name p x) h o)
    rights_seen c (negation p a) h o = one (resolution g (negation p a)) _ (worth_seen c (negation p a) h o)
    rights_seen c (minus p a) h o = one (resolution g (minus p a)) _ (worth_seen c (minus p a) h o)
    rights_seen c (pre p k a) h o = refl
    rights_seen c (arrow p k a b) h o = one (resolution g (arrow p k a b)) _ (worth_seen c (arrow p k a b) h o)
    rights_seen c (binary p q a b) h o = one (resolution g (binary p q a b)) _ (worth_seen c (binary p q a b) h o)
    rights_seen c (choice p a b d) h o = one (resolution g (choice p a b d)) _ (worth_seen c (choice p a b d) h o)
    rights_seen c (sampled p a q x) h o = one (resolution g (sampled p a q x)) _ (worth_seen c (sampled p a q x) h o)
    rights_seen c (merged p x a b) h o = one (resolution g (merged p x a b)) _ (worth_seen c (merged p x a b) h o)
    rights_seen c (call p k f as_) h o = outputs_worth k (outputs_at g k)
    rights_seen c (condact p k a f as_ ds) h o = latests_worth k (resolution g a) (outputs_at g k)
    rights_seen c (mode_name p d m) h o = one (resolution g (mode_name p d m)) _ (worth_seen c (mode_name p d m) h o)

pub worth_is_seen : WorthIsSeen
worth_is_seen g test s clocked c e h o = worth_seen g s (Passes test) clocked c e h o

pub rights_are_seen : RightsAreSeen
rights_are_seen g test s clocked c e h o = rights_seen g s (Passes test) clocked c e h o
