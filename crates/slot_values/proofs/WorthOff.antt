-- Off the clock of its place the resolution of an expression is absent.
use Rattle.std.proofs.Common.{◌≡◌, ℕ, Bool, true, false, cond, List, [], ◌∷◌, map, Option, Some, None, option_map, option_to_list, unwrap_or, refl, ap, ◌∙◌, sym}
use Rattle.std.specs.List.{AllByRecursion}
use Rattle.std.specs.Map.{lookup}
use Rattle.std.specs.Str.{bytes_eq}
use Rattle.std.proofs.lemmas.Bool.{true≢false}
use Rattle.lus_tree.specs.declared.expression.Operator.{Operator}
use Rattle.lus_tree.specs.declared.expression.Operator.TheVariants.{Implies, Or, Xor, And, Less, AtMost, Equal, Differs, AtLeast, More, Add, Sub, Mul, Div, Mod}
use Rattle.lus_tree.specs.Tree.{Name, text_of, Expression, truth, number, name, negation, minus, pre, arrow, binary, choice, sampled, merged, call, condact, mode_name}
use Rattle.lus_meaning.specs.Value.{Value, absent, flag, whole, is, choose, apply, not_value, minus_value}
use Rattle.lus_meaning.specs.Scene.{Clock, base, constants_of}
use Rattle.lus_meaning.specs.Meaning.{mode_key}
use Rattle.sys_meaning.specs.Slot.{named, own}
use Rattle.sys_meaning.specs.Items.{Key, Known}
use Rattle.sys_meaning.specs.Seen.{Row}
use Rattle.sys_meaning.specs.WellTyped.{Stands}
use Rattle.slot_values.specs.Resolution.{Resolution, known}
use Rattle.slot_values.specs.Evaluated.{SlotValues, is_there, worth}
use Rattle.slot_values.specs.Resolved.{Numbering, constant_or_slot, slot_of, output_resolution, latest_resolution, outputs_at, first_resolution, resolution}
use Rattle.slot_values.specs.Clocked.{row_by, clock_on, IsClocked, Passes, WorthIsAbsent}

apply_absent : (o : Operator) (w : Value) → apply o absent w ≡ absent
apply_absent Implies w = refl
apply_absent Or w = refl
apply_absent Xor w = refl
apply_absent And w = refl
apply_absent Less w = refl
apply_absent AtMost w = refl
apply_absent Equal w = refl
apply_absent Differs w = refl
apply_absent AtLeast w = refl
apply_absent More w = refl
apply_absent Add w = refl
apply_absent Sub w = refl
apply_absent Mul w = refl
apply_absent Div w = refl
apply_absent Mod w = refl

-- of absent values none is chosen
choose_absent : (v : Value) → choose v absent absent ≡ absent
choose_absent absent = refl
choose_absent (flag true) = refl
choose_absent (flag false) = refl
choose_absent (whole n) = refl

choose_by_absent : (v : Value) (a b : Value) → is_there v ≡ false → choose v a b ≡ absent
choose_by_absent absent a b e = refl
choose_by_absent (flag b) a c e = absurd (true≢false e)
choose_by_absent (whole n) a b e = refl

module _ (g : Numbering) (s : SlotValues) where
  mode_off : (p : Key → Bool) (ms : Known Resolution) → AllByRecursion (λ m. worth s false m.1 ≡ absent) ms →
      worth s false (unwrap_or (lookup p ms) (known (flag false))) ≡ absent
  mode_off p [] a = refl
  mode_off p (m ∷ ms) a = go (p m.0) (mode_off p ms a.1)
    where
      go : (c : Bool) → worth s false (unwrap_or (lookup p ms) (known (flag false))) ≡ absent →
          worth s false (unwrap_or (cond c (Some m.1) (lookup p ms)) (known (flag false))) ≡ absent
      go true h = a.0
      go false h = h

  name_off : (o : Option Value) (x : Name) → worth s false (constant_or_slot o (slot_of g (own (named x)))) ≡ absent
  name_off None x = refl
  name_off (Some v) x = refl

  output_off : (k : ℕ) (ys : List Name) → worth s false (first_resolution (map (output_resolution g k) ys)) ≡ absent
  output_off k [] = refl
  output_off k (y ∷ ys) = refl

  latest_off : (k : ℕ) (a : Resolution) (ys : List Name) → worth s false (first_resolution (map (latest_resolution g k a) ys)) ≡ absent
  latest_off k a [] = refl
  latest_off k a (y ∷ ys) = refl

  module _ (ModeAt : Key → Type 0) (clocked : IsClocked g.place ModeAt (row_by g.number s))
      (modes : clock_on (row_by g.number s) base ≡ false → AllByRecursion (λ m. worth s false m.1 ≡ absent) g.modes) where
    abbrev row : Row
    row = row_by g.number s

    pub worth_off : (c : Clock) (e : Expression) → Stands g.place ModeAt c e → clock_on row c ≡ false →
        worth s false (resolution g e) ≡ absent
    worth_off c (truth p b) h o = refl
    worth_off c (number p n) h o = refl
    worth_off c (name p x) h o = name_off (lookup (bytes_eq x) (constants_of g.place)) x
    worth_off c (negation p a) h o = ap not_value (worth_off c a h.1 o)
    worth_off c (minus p a) h o = ap minus_value (worth_off c a h.1 o)
    worth_off c (pre p k a) h o = refl
    worth_off c (arrow p k a b) h o = rw (worth_off c a h.2 o, worth_off c b h.3 o) (choose_absent (s _))
    worth_off c (binary p q a b) h o = rw (worth_off c a h.3 o) (apply_absent q (worth s false (resolution g b)))
    worth_off c (choice p a b d) h o = rw (worth_off c a h.2 o) refl
    worth_off c (sampled p a q x) h o = rw (sym (ap (clock_on row) h.0) ∙ o) refl
    worth_off c (merged p x a b) h o =
        choose_by_absent (row (own (named x.text))) (worth s (is true (row (own (named x.text)))) (resolution g a))
        (worth s (is false (row (own (named x.text)))) (resolution g b))
        (clocked x.text h.0.stream h.0.declared ∙ ap (clock_on row) h.0.clock ∙ o)
    worth_off c (call p k f as_) h o = output_off k (outputs_at g k)
    worth_off c (condact p k a f as_ ds) h o = latest_off k (resolution g a) (outputs_at g k)
    worth_off c (mode_name p d m) h o =
        mode_off (mode_key (option_to_list (option_map text_of d), m.text)) g.modes (modes (sym (ap (clock_on row) h.0) ∙ o))

pub worth_is_absent : WorthIsAbsent
worth_is_absent g test s clocked modes c e h o = worth_off g s (Passes test) clocked modes c e h o
