-- Turn by turn a row is filled, and what it brings is brought, as from slot to slot.
use Rattle.std.proofs.Common.{◌≡◌, ◌<◌, ◌≤◌, ℕ, zero, suc, ◌||◌, Bool, true, false, cond, List, [], ◌∷◌, ◌++◌, length, map, Option, Some, None, replicate, set, slice_get, refl, sym, ap, ◌∙◌, arith}
use Rattle.lus_meaning.specs.Value.{Value, absent}
use Rattle.std.proofs.lemmas.List.{length-map}
use Rattle.std.proofs.lemmas.Option.{slice_get_past}
use Rattle.slot_values.specs.Evaluated.{SlotValues, slot_view}
use Rattle.slot_values.specs.declared.slot.SlotValue.TheVariants.{Absent}
use Rattle.slot_sources.specs.Source.{Source, always, runs, runs_while, same, given, argument, listed, remembered, starting, held, unread, source_view}
use Rattle.slot_sources.specs.declared.source.Source.{Source as CodeSource}
use Rattle.slot_sources.specs.Rows.{Choices, outside_next}
use Rattle.slot_rows.specs.Table.{Row, filled, is_any, is_brought, next_outside, next_value, next_values, with_value}
use Rattle.slot_rows.specs.Turns.{Turn, turn_brought, turn_given, turn_view, turns_brought, turns_given}
use Rattle.slot_rows.specs.InTurn.{AreTurns}
use Rattle.slot_rows.specs.declared.turns.Turns.{Turns}
use Rattle.slot_rows.proofs.Slots.{stays}

-- a row is filled turn by turn
abbrev pub filled_in_turn : Choices → ℕ → Row → List Turn → Row
filled_in_turn c t r [] = r
filled_in_turn c t r (x ∷ xs) = filled_in_turn c t (with_value c t x.slot (Some x.source) r) xs

-- what these values bring to the next instant, turn by turn; and whether an operation is outside in that
abbrev pub brought_in_turn : SlotValues → List Value → List Turn → List Value
brought_in_turn s vs [] = vs
brought_in_turn s vs (x ∷ xs) = brought_in_turn s (set vs x.slot (next_value s x.slot x.source)) xs

abbrev pub outside_in_turn : SlotValues → List Turn → Bool
outside_in_turn s [] = false
outside_in_turn s (x ∷ xs) = is_any (outside_next s x.source) || outside_in_turn s xs

-- ---- what is given

one_given : (c : Choices) (t k : ℕ) (e : Source) (r : Row) (ts : List Turn) (b : Bool) → is_brought e ≡ b
    → filled_in_turn c t r (cond b [] (record { slot = k; source = e } ∷ []) ++ ts) ≡ filled_in_turn c t (with_value c t k (Some e) r) ts
one_given c t k e r ts true h = ap (λ u. filled_in_turn c t u ts) (stays c t k e r.values r.outside h)
one_given c t k e r ts false h = refl

turn_taken : (c : Choices) (t k : ℕ) (o : Option Source) (r : Row) (ts : List Turn)
    → filled_in_turn c t r (turn_given k o ++ ts) ≡ filled_in_turn c t (with_value c t k o r) ts
turn_taken c t k None r ts = refl
turn_taken c t k (Some e) r ts = one_given c t k e r ts (is_brought e) refl

each_given : (c : Choices) (es : List Source) (t : ℕ) (r : Row) (ks : List ℕ) → filled_in_turn c t r (turns_given es ks) ≡ filled c es t r ks
each_given c es t r [] = refl
each_given c es t r (k ∷ ks) =
    turn_taken c t k (slice_get es k) r (turns_given es ks) ∙ each_given c es t (with_value c t k (slice_get es k) r) ks

pub filled_by_turns : (c : Choices) (t : Turns) (i : ℕ) (r : Row) → AreTurns t
    → filled_in_turn c i r (map turn_view t.given.items) ≡ filled c (map source_view t.sources.now) i r t.order.now
filled_by_turns c t i r h = rw h.given (each_given c (map source_view t.sources.now) i r t.order.now)

-- ---- what is brought

set_behind : (vs : List Value) (v w : Value) (us : List Value) → set (vs ++ v ∷ us) (length vs) w ≡ vs ++ w ∷ us
set_behind [] v w us = refl
set_behind (u ∷ vs) v w us = ap (λ ws. u ∷ ws) (set_behind vs v w us)

turn_brings : (s : SlotValues) (vs us : List Value) (e : Source) (ts : List Turn)
    → brought_in_turn s (vs ++ absent ∷ us) (turn_brought (length vs) e ++ ts) ≡ brought_in_turn s (vs ++ next_value s (length vs) e ∷ us) ts
turn_brings s vs us (remembered w e) ts = ap (λ ws. brought_in_turn s ws ts) (set_behind vs absent (next_value s (length vs) (remembered w e)) us)
turn_brings s vs us (starting w) ts = ap (λ ws. brought_in_turn s ws ts) (set_behind vs absent (next_value s (length vs) (starting w)) us)
turn_brings s vs us (held b o d) ts = ap (λ ws. brought_in_turn s ws ts) (set_behind vs absent (next_value s (length vs) (held b o d)) us)
turn_brings s vs us unread ts = refl
turn_brings s vs us always ts = refl
turn_brings s vs us (runs w) ts = refl
turn_brings s vs us (runs_while w e) ts = refl
turn_brings s vs us (same k) ts = refl
turn_brings s vs us (given w e) ts = refl
turn_brings s vs us (argument b w e) ts = refl
turn_brings s vs us (listed w) ts = refl

one_behind : (vs : List Value) (v : Value) (us : List Value) → (vs ++ v ∷ []) ++ us ≡ vs ++ v ∷ us
one_behind [] v us = refl
one_behind (u ∷ vs) v us = ap (λ ws. u ∷ ws) (one_behind vs v us)

one_longer : (vs : List Value) (v : Value) → length (vs ++ v ∷ []) ≡ suc (length vs)
one_longer [] v = refl
one_longer (u ∷ vs) v = ap suc (one_longer vs v)

brings : (s : SlotValues) (vs : List Value) (es : List Source)
    → brought_in_turn s (vs ++ replicate (length es) absent) (turns_brought (length vs) es) ≡ vs ++ next_values s (length vs) es
brings s vs [] = refl
brings s vs (e ∷ es) =
    let n = length vs in
    let v = next_value s n e in
    let us = replicate (length es) absent in
    turn_brings s vs us e (turns_brought (suc n) es)
    ∙ (ap (λ ws. brought_in_turn s ws (turns_brought (suc n) es)) (sym (one_behind vs v us))
    ∙ (ap (λ k. brought_in_turn s ((vs ++ v ∷ []) ++ us) (turns_brought k es)) (sym (one_longer vs v))
    ∙ (brings s (vs ++ v ∷ []) es
    ∙ (ap (λ k. (vs ++ v ∷ []) ++ next_values s k es) (one_longer vs v) ∙ one_behind vs v (next_values s (suc n) es)))))

pub brought_by_turns : (s : SlotValues) (t : Turns) (vs : List Value) → AreTurns t → vs ≡ replicate (length t.sources.now) absent
    → brought_in_turn s vs (map turn_view t.brought.items) ≡ next_values s 0 (map source_view t.sources.now)
brought_by_turns s t vs h e =
    rw (e, h.brought, sym (length-map t.sources.now source_view)) (brings s [] (map source_view t.sources.now))

turn_outside : (s : SlotValues) (k : ℕ) (e : Source) (ts : List Turn)
    → outside_in_turn s (turn_brought k e ++ ts) ≡ (is_any (outside_next s e) || outside_in_turn s ts)
turn_outside s k (remembered w e) ts = refl
turn_outside s k (starting w) ts = refl
turn_outside s k (held b o d) ts = refl
turn_outside s k unread ts = refl
turn_outside s k always ts = refl
turn_outside s k (runs w) ts = refl
turn_outside s k (runs_while w e) ts = refl
turn_outside s k (same j) ts = refl
turn_outside s k (given w e) ts = refl
turn_outside s k (argument b w e) ts = refl
turn_outside s k (listed w) ts = refl

outside_from : (s : SlotValues) (k : ℕ) (es : List Source) → outside_in_turn s (turns_brought k es) ≡ next_outside s es
outside_from s k [] = refl
outside_from s k (e ∷ es) =
    turn_outside s k e (turns_brought (suc k) es) ∙ ap (λ b. is_any (outside_next s e) || b) (outside_from s (suc k) es)

pub outside_by_turns : (s : SlotValues) (t : Turns) (b : Bool) → AreTurns t
    → (b || outside_in_turn s (map turn_view t.brought.items)) ≡ (b || next_outside s (map source_view t.sources.now))
outside_by_turns s t b h = rw (h.brought, outside_from s 0 (map source_view t.sources.now)) refl

pub absent_each : (n : ℕ) → map slot_view (replicate n Absent) ≡ replicate n absent
absent_each zero = refl
absent_each (suc n) = ap (λ vs. absent ∷ vs) (absent_each n)

-- ---- how the turns are listed

append_nothing : (ts : List Turn) → ts ≡ ts ++ []
append_nothing [] = refl
append_nothing (x ∷ ts) = ap (λ us. x ∷ us) (append_nothing ts)

pub none_behind : (ts : List Turn) (es : List CodeSource) (k : ℕ) → ¬ (k < length es) → ts ≡ ts ++ turn_given k (slice_get (map source_view es) k)
none_behind ts es k h =
    let l : length (map source_view es) ≤ k = rw (length-map es source_view) (omega (arith, h)) in
    rw (slice_get_past (map source_view es) k l) (append_nothing ts)
