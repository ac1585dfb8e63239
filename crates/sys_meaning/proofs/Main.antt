-- On its clock, the term of an expression is worth its value, in a state that shows the frame.
use Rattle.std.proofs.Common.{◌≡◌, ℕ, true, [], ◌∷◌, map, ap, ◌∙◌, sym}
use Rattle.lus_tree.specs.declared.place.Sort.TheVariants.{Bool as Flags}
use Rattle.lus_tree.specs.Tree.{Expression, truth, number, name, negation, minus, pre, arrow, binary, choice, sampled, merged, call, condact, mode_name}
use Rattle.lus_meaning.specs.Value.{flag, has_sort}
use Rattle.lus_meaning.specs.Scene.{Clock, Scene, is_on}
use Rattle.lus_meaning.specs.Meaning.{value}
use Rattle.lus_meaning.specs.Run.{sort_of, right_values, at_instant}
use Rattle.sys_terms.specs.View.{Formula}
use Rattle.sys_terms.specs.Meaning.{Values, truth_of}
use Rattle.sys_meaning.specs.Slot.{Place}
use Rattle.sys_meaning.specs.Items.{Key, Known}
use Rattle.sys_meaning.specs.Part.{worth}
use Rattle.sys_meaning.specs.Translate.{Stage, term_of, right_terms, formula}
use Rattle.sys_meaning.specs.Seen.{seen, seen_right}
use Rattle.sys_meaning.specs.WellTyped.{Stands}
use Rattle.sys_meaning.proofs.Values.{IsRow, value_seen}
use Rattle.lus_meaning.proofs.Typed.{has_as}
use Rattle.sys_meaning.proofs.Shown.{seen_has, term_shown, right_shown, formula_worth}
use Rattle.sys_meaning.proofs.Static.{modes_in, state_shown}
use Rattle.sys_meaning.proofs.Rows.{row, sight_here, OwnShown, modes_agree, is_row}

module _ (s : Scene) (ModeAt : Key → Type 0) (num : Place → ℕ) (modes : Known Formula) (now next : Values) where
  abbrev pub stage_here : Stage
  stage_here = record { place = s.place; number = num; modes = modes }

  -- a term has its expression's type in any state
  pub term_has : (e : Expression) (c : Clock) → Stands s.place ModeAt c e →
      has_sort (sort_of s.place e) (worth now next (term_of stage_here e)) ≡ true
  term_has e c h =
      rw (term_shown stage_here ModeAt (row s ModeAt num now next 0) (modes_in now next modes) now next
      (state_shown stage_here ModeAt now next) e c h)
      (seen_has stage_here ModeAt (row s ModeAt num now next 0) (modes_in now next modes) now next
      (state_shown stage_here ModeAt now next) e c h)

  module _ (t : ℕ) (shown : OwnShown s ModeAt num now next t modes)
      (agree : modes_agree s ModeAt num now next t modes shown) where
    here_row : IsRow s ModeAt (row s ModeAt num now next t) (modes_in now next modes) t
    here_row = is_row s ModeAt num now next t modes shown agree

    pub term_value : (e : Expression) (c : Clock) → Stands s.place ModeAt c e → is_on s c t ≡ true →
        worth now next (term_of stage_here e) ≡ value s c e t
    term_value e c h o =
        term_shown stage_here ModeAt (row s ModeAt num now next t) (modes_in now next modes) now next
        (state_shown stage_here ModeAt now next) e c h
        ∙ value_seen s ModeAt (row s ModeAt num now next t) (modes_in now next modes) t here_row e c h o

    -- a flag's formula is true exactly where the flag is
    pub formula_value : (e : Expression) (c : Clock) → Stands s.place ModeAt c e → sort_of s.place e ≡ Flags →
        is_on s c t ≡ true → flag (truth_of now next (formula stage_here e)) ≡ value s c e t
    formula_value e c h k o =
        formula_worth now next (term_of stage_here e) (has_as (sort_of s.place e) Flags (worth now next
        (term_of stage_here e)) k (term_has e c h)) ∙ term_value e c h o

    -- the value of an expression on its clock has its type
    pub value_typed : (e : Expression) (c : Clock) → Stands s.place ModeAt c e → is_on s c t ≡ true →
        has_sort (sort_of s.place e) (value s c e t) ≡ true
    value_typed e c h o = rw (sym (term_value e c h o)) (term_has e c h)

    -- an expression is seen in the state's row as it is
    pub seen_value : (e : Expression) (c : Clock) → Stands s.place ModeAt c e → is_on s c t ≡ true →
        seen (sight_here s ModeAt num now next t modes) e ≡ value s c e t
    seen_value e c h o =
        value_seen s ModeAt (row s ModeAt num now next t) (modes_in now next modes) t here_row e c h o

    abbrev pub RightValue : Clock → Expression → Type 0
    RightValue c e = seen_right (sight_here s ModeAt num now next t modes) e ≡ at_instant t (right_values s c e)

    one : (e : Expression) (c : Clock) → Stands s.place ModeAt c e → is_on s c t ≡ true →
        seen (sight_here s ModeAt num now next t modes) e ∷ [] ≡ at_instant t (value s c e ∷ [])
    one e c h o = ap (λ v. v ∷ []) (value_seen s ModeAt (row s ModeAt num now next t)
        (modes_in now next modes) t here_row e c h o)

    right_seen : (e : Expression) (c : Clock) → Stands s.place ModeAt c e → is_on s c t ≡ true → RightValue c e
    right_seen (truth p b) c h o = one (truth p b) c h o
    right_seen (number p n) c h o = one (number p n) c h o
    right_seen (name p x) c h o = one (name p x) c h o
    right_seen (negation p a) c h o = one (negation p a) c h o
    right_seen (minus p a) c h o = one (minus p a) c h o
    right_seen (pre p k a) c h o = one (pre p k a) c h o
    right_seen (arrow p k a b) c h o = one (arrow p k a b) c h o
    right_seen (binary p q a b) c h o = one (binary p q a b) c h o
    right_seen (choice p a b d) c h o = one (choice p a b d) c h o
    right_seen (sampled p a q x) c h o = one (sampled p a q x) c h o
    right_seen (merged p x a b) c h o = one (merged p x a b) c h o
    right_seen (call p k f as_) c h o = here_row.calls k c h.0 o
    right_seen (condact p k a f as_ ds) c h o =
        here_row.held_calls k c a ds h.0 o (value_seen s ModeAt (row s ModeAt num now next t)
        (modes_in now next modes) t here_row a c h.2 o)
    right_seen (mode_name p d m) c h o = one (mode_name p d m) c h o

    -- the terms of a right side are worth its values
    pub right_value : (e : Expression) (c : Clock) → Stands s.place ModeAt c e → is_on s c t ≡ true →
        map (worth now next) (right_terms stage_here e) ≡ at_instant t (right_values s c e)
    right_value e c h o =
        right_shown stage_here ModeAt (row s ModeAt num now next t) (modes_in now next modes) now next
        (state_shown stage_here ModeAt now next) e c h ∙ right_seen e c h o
