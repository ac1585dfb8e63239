-- The operations of a resolution that are outside 128 bits are parts that are.
use Rattle.std.proofs.Common.{◌≡◌, ℕ, ◌<◌, length, arith, Bool, true, false, cond, List, [], ◌∷◌, ◌++◌, map, Option, Some, None, option_map, refl, ap, ◌∙◌, sym, subst}
use Rattle.std.specs.List.{AllByRecursion}
use Rattle.std.specs.Map.{lookup}
use Rattle.std.specs.Str.{bytes_eq}
use Rattle.lus_tree.specs.declared.place.Pos.{Pos}
use Rattle.lus_tree.specs.declared.expression.Operator.{Operator}
use Rattle.lus_tree.specs.Tree.{Name, Variable, text_of, Expression, truth, number, name, negation, minus, pre, arrow, binary, choice, sampled, merged, call, condact, mode_name}
use Rattle.kind_num.specs.declared.Past.{Past}
use Rattle.lus_meaning.specs.Value.{Value, absent, is}
use Rattle.lus_meaning.specs.Frame.{Frame, entry}
use Rattle.lus_meaning.specs.Scene.{Clock, sampled_by, Instance, component_of, constants_of, call_instance, Scene, is_on}
use Rattle.lus_meaning.specs.Meaning.{value}
use Rattle.lus_meaning.specs.Occurrences.{own}
use Rattle.lus_meaning.specs.Run.{sort_of_name}
use Rattle.lus_meaning.specs.Cycle.{Place as NeededPlace}
use Rattle.lus_meaning.proofs.Lists.{both_parts}
use Rattle.sys_meaning.specs.Slot.{named, own as own_place}
use Rattle.sys_meaning.specs.WellTyped.{clock_here, Stands, IsNameOn}
use Rattle.lus_evaluation.specs.Part.{Part, Setting, needs_of, key_of, asked_in, part, parts, argument_parts, operand_parts}
use Rattle.lus_evaluation.specs.Past.{past_of_values, past_of_minus, past_in, part_past, NonePast}
use Rattle.slot_values.specs.declared.resolved.PastAt.{PastAt}
use Rattle.slot_values.specs.Resolution.{Resolution}
use Rattle.slot_values.specs.Evaluated.{SlotValues, is_there, told, worth, outside}
use Rattle.slot_values.specs.Resolved.{Numbering, constant_or_slot, slot_of, output_resolution, latest_resolution, outputs_at, first_resolution, resolution}
use Rattle.slot_values.specs.Clocked.{row_by, clock_on, Passes}
use Rattle.slot_values.specs.FrameRow.{numbering, Shows}
use Rattle.slot_values.specs.Parts.{own_parts, operands, nested, Standpoint, scene_at, setting_at, ModesWithin, PartsByRows}
use Rattle.slot_values.proofs.FrameRow.{there_where, value_by_row, absent_by_row}

-- ---- lists

none_in : {X : Type 0} (xs ys : List X) → xs ++ ys ≡ [] → (xs ≡ []) × (ys ≡ [])
none_in [] ys e = (refl, e)
none_in (x ∷ xs) ys e = cc

both_none : {X : Type 0} {xs ys : List X} → xs ≡ [] → ys ≡ [] → xs ++ ys ≡ []
both_none e h = rw (e, h) refl

all_none : {X : Type 0} {xs ys zs : List X} → xs ≡ [] → ys ≡ [] → zs ≡ [] → xs ++ ys ++ zs ≡ []
all_none e h k = rw (e, h, k) refl

last_told : {X : Type 0} {xs ys zs ws : List X} → xs ≡ [] → ys ≡ [] → zs ≡ ws → xs ++ ys ++ zs ≡ ws
last_told e h k = rw (e, h, k) refl

then_told : {X : Type 0} {xs zs ws : List X} → xs ≡ [] → zs ≡ ws → xs ++ zs ≡ ws
then_told e k = rw (e, k) refl

none_told : (p : Pos) (o : Option Past) → told p o ≡ [] → o ≡ None
none_told p None e = refl
none_told p (Some x) e = cc

left_of : {X : Type 0} (P : X → Type 0) (xs ys : List X) → AllByRecursion P (xs ++ ys) → AllByRecursion P xs
left_of P [] ys a = tt
left_of P (x ∷ xs) ys a = (a.0, left_of P xs ys a.1)

right_of : {X : Type 0} (P : X → Type 0) (xs ys : List X) → AllByRecursion P (xs ++ ys) → AllByRecursion P ys
right_of P [] ys a = a
right_of P (x ∷ xs) ys a = right_of P xs ys a.1

-- ---- one operation

-- by the operand's value where the clock is on, and by an absent one where it is off
same_past : (F : Value → Option Past) (on : Bool) (v w : Value) → F absent ≡ None → v ≡ w → (on ≡ false → v ≡ absent) →
    F v ≡ cond on (F w) None
same_past F true v w a e h = ap F e
same_past F false v w a e h = ap F (h refl) ∙ a

same_pasts : (o : Operator) (on : Bool) (v v' w w' : Value) → v ≡ v' → w ≡ w' → (on ≡ false → v ≡ absent) →
    past_of_values o v w ≡ cond on (past_of_values o v' w') None
same_pasts o true v v' w w' e h a = rw (e, h) refl
same_pasts o false v v' w w' e h a = rw (a refl) refl

no_own : (p : Pos) (on : Bool) → told p (cond on None None) ≡ []
no_own p true = refl
no_own p false = refl

none_own : (on : Bool) → cond on None None ≡ (let n : Option Past = None in n)
none_own true = refl
none_own false = refl

module _ (v : Standpoint) (shows : Shows (scene_at v) v.test v.numbers v.modes v.row v.instant) where
  abbrev i : Instance
  i = v.top

  abbrev f : Frame
  f = v.frame

  abbrev row : SlotValues
  row = v.row

  abbrev t : ℕ
  t = v.instant

  abbrev s : Scene
  s = scene_at v

  abbrev g : Setting
  g = setting_at v

  abbrev n : Numbering
  n = numbering s v.numbers v.modes

  abbrev IsFine : Part → Type 0
  IsFine q = part_past i f q t ≡ None

  abbrev Operations : Clock → Expression → List PastAt
  Operations c e = outside row (is_on s c t) (resolution n e)

  abbrev Fits : Clock → Expression → Type 0
  Fits c e = Stands s.place (Passes v.test) c e

  abbrev IsShown : Clock → Type 0
  IsShown c = clock_on (row_by v.numbers row) c ≡ is_on s c t

  abbrev IsOwn : List NeededPlace → Clock → Expression → Type 0
  IsOwn ns c e = NonePast i f (operands g ns c e) t → Operations c e ≡ told (own e) (past_in s c e t)

  pub ends : (ns : List NeededPlace) (xs : List Name) (c : Clock) (e : Expression) →
      own_parts g ns xs c e ≡ operands g ns c e ++ part g ns xs c e ∷ []
  ends ns xs c (truth p b) = refl
  ends ns xs c (number p k) = refl
  ends ns xs c (name p x) = refl
  ends ns xs c (negation p a) = refl
  ends ns xs c (minus p a) = refl
  ends ns xs c (pre p k a) = refl
  ends ns xs c (arrow p k a b) = refl
  ends ns xs c (binary p o a b) = refl
  ends ns xs c (choice p a b d) = refl
  ends ns xs c (sampled p a q x) = refl
  ends ns xs c (merged p x a b) = refl
  ends ns xs c (call p k h as_) = refl
  ends ns xs c (condact p k a h as_ ds) = refl
  ends ns xs c (mode_name p d m) = refl

  -- where all own parts of an expression are within, none of its operations is outside
  within_from : (ns : List NeededPlace) (c : Clock) (e : Expression) → IsOwn ns c e → NonePast i f (own_parts g ns [] c e) t → Operations c e ≡ []
  within_from ns c e l a =
      let b : NonePast i f (operands g ns c e ++ part g ns [] c e ∷ []) t = subst (λ qs. NonePast i f qs t) (ends ns [] c e) a in
      l (left_of IsFine (operands g ns c e) (part g ns [] c e ∷ []) b)
      ∙ ap (told (own e)) (right_of IsFine (operands g ns c e) (part g ns [] c e ∷ []) b).0

  shown_there : (x : Name) (c : Clock) → IsNameOn s.place (Passes v.test) c x →
      is_there (row (v.numbers (own_place (named x)))) ≡ is_on s (clock_here s.place (Passes v.test) x) t
  shown_there x c h =
      ap is_there (shows.names x h.stream h.declared)
      ∙ there_where (sort_of_name s.place x) (is_on s (clock_here s.place (Passes v.test) x) t) (entry s.frame x t) (shows.types x h.stream h.declared)

  shown_truth : (q : Bool) (x : Name) (c : Clock) → IsNameOn s.place (Passes v.test) c x → IsShown (sampled_by q x)
  shown_truth q x c h = ap (is q) (shows.names x h.stream h.declared)

  value_of : (c : Clock) (a : Expression) → Fits c a → IsShown c → worth row (is_on s c t) (resolution n a) ≡ value s c a t
  value_of c a h o = value_by_row s v.test v.numbers v.modes row t shows c a h o

  off_of : (c : Clock) (a : Expression) → Fits c a → IsShown c → is_on s c t ≡ false → worth row (is_on s c t) (resolution n a) ≡ absent
  off_of c a h o e = absent_by_row s v.test v.numbers v.modes row t shows c a h o e

  minus_past : (c : Clock) (a : Expression) → Fits c a → IsShown c →
      past_of_minus (worth row (is_on s c t) (resolution n a)) ≡ cond (is_on s c t) (past_of_minus (value s c a t)) None
  minus_past c a h o =
      same_past past_of_minus (is_on s c t) (worth row (is_on s c t) (resolution n a)) (value s c a t) refl (value_of c a h o) (off_of c a h o)

  binary_past : (q : Operator) (c : Clock) (a b : Expression) → Fits c a → Fits c b → IsShown c →
      past_of_values q (worth row (is_on s c t) (resolution n a)) (worth row (is_on s c t) (resolution n b))
      ≡ cond (is_on s c t) (past_of_values q (value s c a t) (value s c b t)) None
  binary_past q c a b h k o =
      same_pasts q (is_on s c t) (worth row (is_on s c t) (resolution n a)) (value s c a t) (worth row (is_on s c t) (resolution n b)) (value s c b t)
      (value_of c a h o) (value_of c b k o) (off_of c a h o)

  name_outside : (o : Option Value) (x : Name) (on : Bool) → outside row on (constant_or_slot o (slot_of n (own_place (named x)))) ≡ []
  name_outside None x on = refl
  name_outside (Some v) x on = refl

  output_outside : (k : ℕ) (ys : List Name) (on : Bool) → outside row on (first_resolution (map (output_resolution n k) ys)) ≡ []
  output_outside k [] on = refl
  output_outside k (y ∷ ys) on = refl

  latest_outside : (k : ℕ) (a : Resolution) (ys : List Name) (on : Bool) → outside row on a ≡ [] →
      outside row on (first_resolution (map (latest_resolution n k a) ys)) ≡ []
  latest_outside k a [] on e = refl
  latest_outside k a (y ∷ ys) on e = e

  module _ (within : ModesWithin v) where
    pub own_past : (ns : List NeededPlace) (c : Clock) (e : Expression) → Fits c e → IsShown c → IsOwn ns c e
    own_past ns c (truth p b) h o l = sym (no_own (own (truth p b)) (is_on s c t))
    own_past ns c (number p k) h o l = sym (no_own (own (number p k)) (is_on s c t))
    own_past ns c (name p x) h o l =
        name_outside (lookup (bytes_eq x) (constants_of s.place)) x (is_on s c t) ∙ sym (no_own (own (name p x)) (is_on s c t))
    own_past ns c (negation p a) h o l =
        within_from ns c a (own_past ns c a h.1 o) l ∙ sym (no_own (own (negation p a)) (is_on s c t))
    own_past ns c (minus p a) h o l =
        then_told (within_from ns c a (own_past ns c a h.1 o) l) (ap (told p.at) (minus_past c a h.1 o))
    own_past ns c (pre p k a) h o l = sym (no_own (own (pre p k a)) (is_on s c t))
    own_past ns c (arrow p k a b) h o l =
        both_none (within_from ns c a (own_past ns c a h.2 o) (left_of IsFine (own_parts g ns [] c a) (own_parts g ns [] c b) l))
        (within_from ns c b (own_past ns c b h.3 o) (right_of IsFine (own_parts g ns [] c a) (own_parts g ns [] c b) l))
        ∙ sym (no_own (own (arrow p k a b)) (is_on s c t))
    own_past ns c (binary p q a b) h o l =
        last_told (within_from ns c a (own_past ns c a h.3 o) (left_of IsFine (own_parts g ns [] c a) (own_parts g ns [] c b) l))
        (within_from ns c b (own_past ns c b h.4 o) (right_of IsFine (own_parts g ns [] c a) (own_parts g ns [] c b) l))
        (ap (told p.at) (binary_past q c a b h.3 h.4 o))
    own_past ns c (choice p a b d) h o l =
        let ab : NonePast i f (own_parts g ns [] c a ++ own_parts g ns [] c b) t =
        left_of IsFine (own_parts g ns [] c a ++ own_parts g ns [] c b) (own_parts g ns [] c d) l in
        all_none (within_from ns c a (own_past ns c a h.2 o) (left_of IsFine (own_parts g ns [] c a) (own_parts g ns [] c b) ab))
        (within_from ns c b (own_past ns c b h.3 o) (right_of IsFine (own_parts g ns [] c a) (own_parts g ns [] c b) ab))
        (within_from ns c d (own_past ns c d h.4 o) (right_of IsFine (own_parts g ns [] c a ++ own_parts g ns [] c b) (own_parts g ns [] c d) l))
        ∙ sym (no_own (own (choice p a b d)) (is_on s c t))
    own_past ns c (sampled p a q x) h o l =
        ap (λ k. outside row k (resolution n a)) (shown_there x.text (clock_here s.place (Passes v.test) x.text) h.1)
        ∙ within_from ns (clock_here s.place (Passes v.test) x.text) a
        (own_past ns (clock_here s.place (Passes v.test) x.text) a h.2 (shows.clocks x.text h.1.stream h.1.declared)) l
        ∙ sym (no_own (own (sampled p a q x)) (is_on s c t))
    own_past ns c (merged p x a b) h o l =
        both_none
        (ap (λ k. outside row k (resolution n a)) (shown_truth true x.text c h.0)
        ∙ within_from ns (sampled_by true x.text) a (own_past ns (sampled_by true x.text) a h.3 (shown_truth true x.text c h.0))
        (left_of IsFine (own_parts g ns [] (sampled_by true x.text) a) (own_parts g ns [] (sampled_by false x.text) b) l))
        (ap (λ k. outside row k (resolution n b)) (shown_truth false x.text c h.0)
        ∙ within_from ns (sampled_by false x.text) b (own_past ns (sampled_by false x.text) b h.4 (shown_truth false x.text c h.0))
        (right_of IsFine (own_parts g ns [] (sampled_by true x.text) a) (own_parts g ns [] (sampled_by false x.text) b) l))
        ∙ sym (no_own (own (merged p x a b)) (is_on s c t))
    own_past ns c (call p k h as_) e o l =
        output_outside k (outputs_at n k) (is_on s c t) ∙ sym (no_own (own (call p k h as_)) (is_on s c t))
    own_past ns c (condact p k a h as_ ds) e o l =
        latest_outside k (resolution n a) (outputs_at n k) (is_on s c t)
        (within_from (needs_of g c a) c a (own_past (needs_of g c a) c a e.2 o) l)
        ∙ sym (no_own (own (condact p k a h as_ ds)) (is_on s c t))
    own_past ns c (mode_name p d m) h o l =
        ap (λ k. outside row (is_on s k t) (resolution n (mode_name p d m))) h.0
        ∙ within (key_of (option_map text_of d) m.text) ns h.1 l
        ∙ sym (no_own (own (mode_name p d m)) (is_on s c t))

  -- ---- where no operation is outside, and what is nested is within

  abbrev IsAllWithin : List NeededPlace → List Name → Clock → Expression → Type 0
  IsAllWithin ns xs c e = Operations c e ≡ [] → NonePast i f (nested g ns c e) t → NonePast i f (parts g ns xs c e) t

  -- a part whose operator can't be outside stands behind parts that are within
  fine_end : (qs : List Part) (q : Part) → part_past i f q t ≡ None → NonePast i f qs t → NonePast i f (qs ++ q ∷ []) t
  fine_end qs q e a = both_parts IsFine qs (q ∷ []) a (e, tt)

  plain_end : (c : Clock) → cond (is_on s c t) None None ≡ (let o : Option Past = None in o)
  plain_end c = none_own (is_on s c t)

  no_operation : (k : ℕ) (a : Resolution) (vs : List Variable) (on : Bool) → 0 < length vs →
      outside row on (first_resolution (map (latest_resolution n k a) (map (λ v. v.name.text) vs))) ≡ [] → outside row on a ≡ []
  no_operation k a [] on l e = absurd (omega arith)
  no_operation k a (v ∷ vs) on l e = e

  pub all_within : (ns : List NeededPlace) (xs : List Name) (c : Clock) (e : Expression) → Fits c e → IsShown c → IsAllWithin ns xs c e
  all_within ns xs c (truth p b) h o r l = (plain_end c, tt)
  all_within ns xs c (number p k) h o r l = (plain_end c, tt)
  all_within ns xs c (name p x) h o r l = (plain_end c, tt)
  all_within ns xs c (negation p a) h o r l = fine_end (parts g ns [] c a) (part g ns xs c (negation p a)) (plain_end c) (all_within ns [] c a h.1 o r l)
  all_within ns xs c (minus p a) h o r l =
      let q : (Operations c a ≡ []) × (told p.at (past_of_minus (worth row (is_on s c t) (resolution n a))) ≡ []) =
      none_in (Operations c a) (told p.at (past_of_minus (worth row (is_on s c t) (resolution n a)))) r in
      fine_end (parts g ns [] c a) (part g ns xs c (minus p a))
      (sym (minus_past c a h.1 o) ∙ none_told p.at (past_of_minus (worth row (is_on s c t) (resolution n a))) q.1)
      (all_within ns [] c a h.1 o q.0 l)
  all_within ns xs c (pre p k a) h o r l = fine_end (parts g (needs_of g c a) [] c a) (part g ns xs c (pre p k a)) (plain_end c) l
  all_within ns xs c (arrow p k a b) h o r l =
      let q : (Operations c a ≡ []) × (Operations c b ≡ []) = none_in (Operations c a) (Operations c b) r in
      fine_end (parts g ns [] c a ++ parts g ns [] c b) (part g ns xs c (arrow p k a b)) (plain_end c)
      (both_parts IsFine (parts g ns [] c a) (parts g ns [] c b)
      (all_within ns [] c a h.2 o q.0 (left_of IsFine (nested g ns c a) (nested g ns c b) l))
      (all_within ns [] c b h.3 o q.1 (right_of IsFine (nested g ns c a) (nested g ns c b) l)))
  all_within ns xs c (binary p k a b) h o r l =
      let mine : Option Past = past_of_values k (worth row (is_on s c t) (resolution n a)) (worth row (is_on s c t) (resolution n b)) in
      let q : (Operations c a ++ Operations c b ≡ []) × (told p.at mine ≡ []) = none_in (Operations c a ++ Operations c b) (told p.at mine) r in
      let u : (Operations c a ≡ []) × (Operations c b ≡ []) = none_in (Operations c a) (Operations c b) q.0 in
      fine_end (parts g ns [] c a ++ parts g ns [] c b) (part g ns xs c (binary p k a b))
      (sym (binary_past k c a b h.3 h.4 o) ∙ none_told p.at mine q.1)
      (both_parts IsFine (parts g ns [] c a) (parts g ns [] c b)
      (all_within ns [] c a h.3 o u.0 (left_of IsFine (nested g ns c a) (nested g ns c b) l))
      (all_within ns [] c b h.4 o u.1 (right_of IsFine (nested g ns c a) (nested g ns c b) l)))
  all_within ns xs c (choice p a b d) h o r l =
      let q : (Operations c a ++ Operations c b ≡ []) × (Operations c d ≡ []) = none_in (Operations c a ++ Operations c b) (Operations c d) r in
      let u : (Operations c a ≡ []) × (Operations c b ≡ []) = none_in (Operations c a) (Operations c b) q.0 in
      let ab : NonePast i f (nested g ns c a ++ nested g ns c b) t = left_of IsFine (nested g ns c a ++ nested g ns c b) (nested g ns c d) l in
      fine_end (parts g ns [] c a ++ parts g ns [] c b ++ parts g ns [] c d) (part g ns xs c (choice p a b d)) (plain_end c)
      (both_parts IsFine (parts g ns [] c a ++ parts g ns [] c b) (parts g ns [] c d)
      (both_parts IsFine (parts g ns [] c a) (parts g ns [] c b)
      (all_within ns [] c a h.2 o u.0 (left_of IsFine (nested g ns c a) (nested g ns c b) ab))
      (all_within ns [] c b h.3 o u.1 (right_of IsFine (nested g ns c a) (nested g ns c b) ab)))
      (all_within ns [] c d h.4 o q.1 (right_of IsFine (nested g ns c a ++ nested g ns c b) (nested g ns c d) l)))
  all_within ns xs c (sampled p a k x) h o r l =
      let here : Clock = clock_here s.place (Passes v.test) x.text in
      fine_end (parts g ns [] here a) (part g ns xs c (sampled p a k x)) (plain_end c)
      (all_within ns [] here a h.2 (shows.clocks x.text h.1.stream h.1.declared)
      (sym (ap (λ y. outside row y (resolution n a)) (shown_there x.text here h.1)) ∙ r) l)
  all_within ns xs c (merged p x a b) h o r l =
      let ct : Clock = sampled_by true x.text in
      let cf : Clock = sampled_by false x.text in
      let q : (outside row (is true (row (v.numbers (own_place (named x.text))))) (resolution n a) ≡ [])
      × (outside row (is false (row (v.numbers (own_place (named x.text))))) (resolution n b) ≡ []) =
      none_in (outside row (is true (row (v.numbers (own_place (named x.text))))) (resolution n a))
      (outside row (is false (row (v.numbers (own_place (named x.text))))) (resolution n b)) r in
      fine_end (parts g ns [] ct a ++ parts g ns [] cf b) (part g ns xs c (merged p x a b)) (plain_end c)
      (both_parts IsFine (parts g ns [] ct a) (parts g ns [] cf b)
      (all_within ns [] ct a h.3 (shown_truth true x.text c h.0)
      (sym (ap (λ y. outside row y (resolution n a)) (shown_truth true x.text c h.0)) ∙ q.0) (left_of IsFine (nested g ns ct a) (nested g ns cf b) l))
      (all_within ns [] cf b h.4 (shown_truth false x.text c h.0)
      (sym (ap (λ y. outside row y (resolution n b)) (shown_truth false x.text c h.0)) ∙ q.1) (right_of IsFine (nested g ns ct a) (nested g ns cf b) l)))
  all_within ns xs c (call p k h as_) e o r l = fine_end (argument_parts g c as_ ++ g.body k) (part g ns xs c (call p k h as_)) (plain_end c) l
  all_within ns xs c (condact p k a h as_ ds) e o r l =
      let ms : List NeededPlace = needs_of g c a in
      let front : List Part = nested g ms c a ++ argument_parts g c as_ ++ g.body k in
      let rest : NonePast i f (operand_parts g ns c ds) t = right_of IsFine front (operand_parts g ns c ds) l in
      let abc : NonePast i f front t = left_of IsFine front (operand_parts g ns c ds) l in
      let called : NonePast i f (g.body k) t = right_of IsFine (nested g ms c a ++ argument_parts g c as_) (g.body k) abc in
      let ab : NonePast i f (nested g ms c a ++ argument_parts g c as_) t = left_of IsFine (nested g ms c a ++ argument_parts g c as_) (g.body k) abc in
      let given : NonePast i f (argument_parts g c as_) t = right_of IsFine (nested g ms c a) (argument_parts g c as_) ab in
      let condition : NonePast i f (parts g ms [] c a) t =
      all_within ms [] c a e.2 o (no_operation k (resolution n a) (component_of (call_instance s.place k)).outputs (is_on s c t) e.0.outputs r)
      (left_of IsFine (nested g ms c a) (argument_parts g c as_) ab) in
      fine_end (parts g ms [] c a ++ argument_parts g c as_ ++ g.body k ++ operand_parts g ns c ds) (part g ns xs c (condact p k a h as_ ds)) (plain_end c)
      (both_parts IsFine (parts g ms [] c a ++ argument_parts g c as_ ++ g.body k) (operand_parts g ns c ds)
      (both_parts IsFine (parts g ms [] c a ++ argument_parts g c as_) (g.body k)
      (both_parts IsFine (parts g ms [] c a) (argument_parts g c as_) condition given) called) rest)
  all_within ns xs c (mode_name p d m) h o r l =
      fine_end (asked_in g ns (key_of (option_map text_of d) m.text)) (part g ns xs c (mode_name p d m)) (plain_end c) l

pub parts_by_rows : PartsByRows
parts_by_rows v shows within ns xs c e h o = record {
  ends = ends v shows ns xs c e;
  own_past = own_past v shows within ns c e h o;
  all_within = all_within v shows ns xs c e h o;
}
