-- Where a text has no operation outside 128 bits, none of its parts has.
use Rattle.std.proofs.Common.{◌≡◌, ℕ, ◌<◌, Bool, true, false, List, [], ◌∷◌, ◌++◌, map, length, refl, ap, ◌∙◌, sym, arith, option_map}
use Rattle.lus_tree.specs.Tree.{Name, text_of, Variable, Expression, Expressions, truth, number, name, negation, minus, pre, arrow, binary, choice, sampled, merged, call, condact, mode_name, no_more, more}
use Rattle.lus_meaning.specs.Value.{is}
use Rattle.lus_meaning.specs.Frame.{Frame, entry}
use Rattle.lus_meaning.specs.Scene.{Clock, sampled_by, Instance, component_of, call_instance, clock_of, Scene, is_on}
use Rattle.lus_meaning.specs.Cycle.{Place as NeededPlace}
use Rattle.lus_meaning.specs.Occurrences.{Standing, within, before, moved}
use Rattle.lus_meaning.specs.Program.{instance_of, listed}
use Rattle.lus_meaning.specs.Run.{sort_of_name}
use Rattle.lus_meaning.proofs.EachPart.{Each, EachAmong, each_part}
use Rattle.lus_meaning.proofs.Lists.{both_parts}
use Rattle.sys_meaning.specs.Slot.{named, own}
use Rattle.sys_meaning.specs.WellTyped.{IsKnown, IsNameOn, clock_here}
use Rattle.lus_evaluation.specs.Part.{Part, ModeParts, Setting, needs_of, key_of, asked_in, part, parts, argument_parts, operand_parts}
use Rattle.slot_values.specs.declared.resolved.PastAt.{PastAt}
use Rattle.slot_values.specs.Resolution.{Resolution}
use Rattle.slot_values.specs.Evaluated.{SlotValues, is_there, worth, told, outside}
use Rattle.slot_values.specs.Resolved.{latest_resolution, first_resolution, Numbering}
use Rattle.lus_evaluation.specs.Past.{past_of_values, past_of_minus}
use Rattle.slot_values.specs.FrameRow.{numbering}
use Rattle.slot_values.specs.Parts.{setting_on}
use Rattle.slot_values.proofs.FrameRow.{there_where}
use Rattle.evaluation_laws.specs.Rows.{row_at, scene_there, numbers_there, modes_there, resolution_there, RowShows}
use Rattle.evaluation_laws.proofs.RowFrames.{rows_show}
use Rattle.order_laws.specs.Laws.{operations_there}
use Rattle.order_laws.specs.Rows.{place_there}
use Rattle.within_laws.specs.Laws.{AreQuiet}
use Rattle.within_laws.specs.Texts.{IsQuiet, EachQuiet, IsGood, TextsAreQuiet}

pub none_in : {X : Type 0} (xs ys : List X) → xs ++ ys ≡ [] → (xs ≡ []) × (ys ≡ [])
none_in [] ys e = (refl, e)
none_in (x ∷ xs) ys e = cc

module _ (i : Instance) (f : Frame) (t : ℕ) (w : List ℕ) (sh : RowShows i f t w) (body : ℕ → List Part) (asked : ModeParts) where
  abbrev j : Instance
  j = place_there i f w

  abbrev s : Scene
  s = scene_there i f w

  abbrev g : Setting
  g = setting_on i f w body asked

  abbrev n : Numbering
  n = numbering s (numbers_there i w) (modes_there i f w)

  abbrev row : SlotValues
  row = row_at i f t

  abbrev Operations : Clock → Expression → List PastAt
  Operations c e = outside row (is_on s c t) (resolution_there i f w e)

  abbrev Quiet : Part → Type 0
  Quiet q = operations_there i f t q ≡ []

  abbrev Goods : Standing → Expression → Type 0
  Goods z e = Each (IsGood i f t w body asked) (component_of j) z e

  abbrev GoodAmong : Standing → Expressions → Type 0
  GoodAmong z as_ = EachAmong (IsGood i f t w body asked) (component_of j) z as_

  condition_of : (k : ℕ) (a : Resolution) (vs : List Variable) (on : Bool) → 0 < length vs →
      outside row on (first_resolution (map (latest_resolution n k a) (map (λ v. v.name.text) vs))) ≡ [] → outside row on a ≡ []
  condition_of k a [] on l e = absurd (omega arith)
  condition_of k a (v ∷ vs) on l e = e

  there : (x : Name) (c : Clock) → IsNameOn j (IsKnown j) c x →
      is_there (row (numbers_there i w (own (named x)))) ≡ is_on s (clock_here j (IsKnown j) x) t
  there x c h =
      ap is_there (sh.names x h.stream h.declared)
      ∙ there_where (sort_of_name j x) (is_on s (clock_here j (IsKnown j) x) t) (entry s.frame x t) (sh.types x h.stream h.declared)

  on_truth : (b : Bool) (x : Name) (c : Clock) → IsNameOn j (IsKnown j) c x →
      is b (row (numbers_there i w (own (named x)))) ≡ is_on s (sampled_by b x) t
  on_truth b x c h = ap (is b) (sh.names x h.stream h.declared)

  ended : (qs : List Part) (q : Part) → AreQuiet i f t qs → Quiet q → AreQuiet i f t (qs ++ q ∷ [])
  ended qs q a h = both_parts Quiet qs (q ∷ []) a (h, tt)

  both : (qs rs : List Part) → AreQuiet i f t qs → AreQuiet i f t rs → AreQuiet i f t (qs ++ rs)
  both qs rs a h = both_parts Quiet qs rs a h

  mutual
    pub quiet_parts : (ns : List NeededPlace) (xs : List Name) (z : Standing) (e : Expression) → Goods z e → IsQuiet i f t w z.clock e →
        AreQuiet i f t (parts g ns xs z.clock e)
    quiet_parts ns xs z (truth p b) a h = (h, tt)
    quiet_parts ns xs z (number p k) a h = (h, tt)
    quiet_parts ns xs z (name p x) a h = (h, tt)
    quiet_parts ns xs z (negation p x) a h =
        ended (parts g ns [] z.clock x) (part g ns xs z.clock (negation p x)) (quiet_parts ns [] (within z) x a.1 h) h
    quiet_parts ns xs z (minus p x) a h =
        let q = none_in (Operations z.clock x) (told p.at (past_of_minus (worth row (is_on s z.clock t) (resolution_there i f w x)))) h in
        ended (parts g ns [] z.clock x) (part g ns xs z.clock (minus p x)) (quiet_parts ns [] (within z) x a.1 q.0) h
    quiet_parts ns xs z (pre p k x) a h =
        ended (parts g (needs_of g z.clock x) [] z.clock x) (part g ns xs z.clock (pre p k x))
        (quiet_parts (needs_of g z.clock x) [] (before z) x a.1 a.0.1) h
    quiet_parts ns xs z (arrow p k x y) a h =
        let q = none_in (Operations z.clock x) (Operations z.clock y) h in
        ended (parts g ns [] z.clock x ++ parts g ns [] z.clock y) (part g ns xs z.clock (arrow p k x y))
        (both (parts g ns [] z.clock x) (parts g ns [] z.clock y) (quiet_parts ns [] (within z) x a.1 q.0) (quiet_parts ns [] (within z) y a.2 q.1)) h
    quiet_parts ns xs z (binary p o x y) a h =
        let mine = told p.at (past_of_values o (worth row (is_on s z.clock t) (resolution_there i f w x))
        (worth row (is_on s z.clock t) (resolution_there i f w y))) in
        let u = none_in (Operations z.clock x ++ Operations z.clock y) mine h in
        let q = none_in (Operations z.clock x) (Operations z.clock y) u.0 in
        ended (parts g ns [] z.clock x ++ parts g ns [] z.clock y) (part g ns xs z.clock (binary p o x y))
        (both (parts g ns [] z.clock x) (parts g ns [] z.clock y) (quiet_parts ns [] (within z) x a.1 q.0) (quiet_parts ns [] (within z) y a.2 q.1)) h
    quiet_parts ns xs z (choice p x y d) a h =
        let u = none_in (Operations z.clock x ++ Operations z.clock y) (Operations z.clock d) h in
        let q = none_in (Operations z.clock x) (Operations z.clock y) u.0 in
        ended (parts g ns [] z.clock x ++ parts g ns [] z.clock y ++ parts g ns [] z.clock d) (part g ns xs z.clock (choice p x y d))
        (both (parts g ns [] z.clock x ++ parts g ns [] z.clock y) (parts g ns [] z.clock d)
        (both (parts g ns [] z.clock x) (parts g ns [] z.clock y) (quiet_parts ns [] (within z) x a.1 q.0) (quiet_parts ns [] (within z) y a.2 q.1))
        (quiet_parts ns [] (within z) d a.3 u.1)) h
    quiet_parts ns xs z (sampled p x b y) a h =
        let here : Clock = clock_of (component_of j) y.text in
        ended (parts g ns [] here x) (part g ns xs z.clock (sampled p x b y))
        (quiet_parts ns [] (moved here z) x a.1
        (sym (ap (λ k. outside row k (resolution_there i f w x)) (there y.text here a.0.0.1)) ∙ h)) h
    quiet_parts ns xs z (merged p y x d) a h =
        let yes : Clock = sampled_by true y.text in
        let no : Clock = sampled_by false y.text in
        let u = none_in (outside row (is true (row (numbers_there i w (own (named y.text))))) (resolution_there i f w x))
        (outside row (is false (row (numbers_there i w (own (named y.text))))) (resolution_there i f w d)) h in
        ended (parts g ns [] yes x ++ parts g ns [] no d) (part g ns xs z.clock (merged p y x d))
        (both (parts g ns [] yes x) (parts g ns [] no d)
        (quiet_parts ns [] (moved yes z) x a.1
        (sym (ap (λ k. outside row k (resolution_there i f w x)) (on_truth true y.text z.clock a.0.0.0)) ∙ u.0))
        (quiet_parts ns [] (moved no z) d a.2
        (sym (ap (λ k. outside row k (resolution_there i f w d)) (on_truth false y.text z.clock a.0.0.0)) ∙ u.1))) h
    quiet_parts ns xs z (call p k l as_) a h =
        ended (argument_parts g z.clock as_ ++ g.body k) (part g ns xs z.clock (call p k l as_))
        (both (argument_parts g z.clock as_) (g.body k) (quiet_arguments (within z) as_ a.1 a.0.1.0) a.0.1.1) h
    quiet_parts ns xs z (condact p k x l as_ ds) a h =
        let condition = parts g (needs_of g z.clock x) [] z.clock x in
        let given = argument_parts g z.clock as_ in
        let kept = operand_parts g ns z.clock ds in
        ended (condition ++ given ++ g.body k ++ kept) (part g ns xs z.clock (condact p k x l as_ ds))
        (both (condition ++ given ++ g.body k) kept
        (both (condition ++ given) (g.body k)
        (both condition given
        (quiet_parts (needs_of g z.clock x) [] (within z) x a.1
        (condition_of k (resolution_there i f w x) (component_of (call_instance j k)).outputs (is_on s z.clock t) a.0.0.0.outputs h))
        (quiet_arguments (within z) as_ a.2 a.0.1.0)) a.0.1.1) (quiet_operands ns (within z) ds a.3 a.0.1.2)) h
    quiet_parts ns xs z (mode_name p d m) a h =
        ended (asked_in g ns (key_of (option_map text_of d) m.text)) (part g ns xs z.clock (mode_name p d m)) (a.1 h ns) h

    quiet_arguments : (z : Standing) (as_ : Expressions) → GoodAmong z as_ → EachQuiet i f t w z.clock (listed as_) →
        AreQuiet i f t (argument_parts g z.clock as_)
    quiet_arguments z no_more a h = tt
    quiet_arguments z (more x as_) a h =
        both (parts g (needs_of g z.clock x) [] z.clock x) (argument_parts g z.clock as_) (quiet_parts (needs_of g z.clock x) [] z x a.0 h.0)
        (quiet_arguments z as_ a.1 h.1)

    quiet_operands : (ns : List NeededPlace) (z : Standing) (as_ : Expressions) → GoodAmong z as_ → EachQuiet i f t w z.clock (listed as_) →
        AreQuiet i f t (operand_parts g ns z.clock as_)
    quiet_operands ns z no_more a h = tt
    quiet_operands ns z (more x as_) a h =
        both (parts g ns [] z.clock x) (operand_parts g ns z.clock as_) (quiet_parts ns [] z x a.0 h.0) (quiet_operands ns z as_ a.1 h.1)

pub texts_are_quiet : TextsAreQuiet
texts_are_quiet p c n j m f r t l w calls body asked ns xs z e a h =
    quiet_parts (instance_of p n) f t w (rows_show p c n j m f r t l w calls) body asked ns xs z e
    (each_part (IsGood (instance_of p n) f t w body asked) (component_of (place_there (instance_of p n) f w)) z e a) h
