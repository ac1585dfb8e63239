-- The parts of an expression, each behind its own operands.
use Rattle.std.proofs.Common.{◌≡◌, ℕ, true, false, List, [], ◌∷◌, ◌++◌, option_map, refl}
use Rattle.std.proofs.Math.Logic.{inl}
use Rattle.std.specs.List.{AllByRecursion}
use Rattle.lus_tree.specs.Tree.{Name, text_of, Expression, truth, number, name, negation, minus, pre, arrow, binary, choice, sampled, merged, call, condact, mode_name}
use Rattle.lus_meaning.specs.Frame.{Frame}
use Rattle.lus_meaning.specs.Scene.{Clock, sampled_by, Instance, component_of, clock_of}
use Rattle.lus_meaning.specs.Occurrences.{Standing, within, moved}
use Rattle.lus_meaning.specs.Depends.{Need, a_name, known_needs, clock_needs, output_needs, needs, needs_each, modes_need}
use Rattle.lus_meaning.specs.Cycle.{Place as NeededPlace}
use Rattle.lus_meaning.proofs.Members.{IsIn, in_left, in_right}
use Rattle.lus_meaning.proofs.EachPart.{Each}
use Rattle.lus_meaning.proofs.Lists.{all_from}
use Rattle.sys_meaning.specs.Items.{Key}
use Rattle.lus_evaluation.specs.Part.{Part, ModeParts, Setting, needs_of, key_of, asked_in, part, parts, argument_parts, operand_parts, wholes}
use Rattle.lus_evaluation.specs.Frame.{ModeText, Calls, setting}
use Rattle.slot_values.specs.Parts.{own_parts}
use Rattle.order_laws.specs.Own.{own_setting}
use Rattle.order_laws.specs.Rows.{place_there}
use Rattle.order_laws.proofs.Names.{Named}
use Rattle.order_laws.proofs.Covers.{CoversNeeds, covers_itself, covers_left, covers_right}
use Rattle.order_laws.proofs.Placed.{Among, WholesIn, GivenTo, given_among, OwnIn, own_wider, own_covered, own_two, own_end}

module _ (i : Instance) (f : Frame) (t : ℕ) (w : List ℕ) (sub : Calls) where
  -- what is evaluated in the frame of a call is there, and what the call is given
  abbrev pub Holding : List Part → ℕ → Type 0
  Holding b k = AllByRecursion (λ r. IsIn r b) (sub k).body × GivenTo i f t w k b

  -- of these calls
  abbrev pub Has : List ℕ → List Part → Type 0
  Has ins b = AllByRecursion (Holding b) ins

  pub holding_among : (b qs : List Part) → Among b qs → (k : ℕ) → Holding b k → Holding qs k
  holding_among b qs m k h =
      (all_from (λ r. IsIn r b) (λ r. IsIn r qs) (λ r y. m r y) (sub k).body h.0, given_among i f t w k b qs m h.1)

  pub has_among : (ins : List ℕ) (b qs : List Part) → Among b qs → Has ins b → Has ins qs
  has_among ins b qs m a = all_from (Holding b) (Holding qs) (λ k h. holding_among b qs m k h) ins a

  pub has_more : (ins : List ℕ) (b xs : List Part) → Has ins b → Has ins (b ++ xs)
  has_more ins b xs a = has_among ins b (b ++ xs) (λ r m. in_left r b xs m) a

-- an expression is one of its parts
at_end : (qs : List Part) (q : Part) → IsIn q (qs ++ q ∷ [])
at_end qs q = in_right q qs (q ∷ []) (inl refl)

pub root_in : (g : Setting) (ns : List NeededPlace) (xs : List Name) (c : Clock) (e : Expression) → IsIn (part g ns xs c e) (parts g ns xs c e)
root_in g ns xs c (truth p b) = inl refl
root_in g ns xs c (number p n) = inl refl
root_in g ns xs c (name p x) = inl refl
root_in g ns xs c (negation p a) = at_end (parts g ns [] c a) (part g ns xs c (negation p a))
root_in g ns xs c (minus p a) = at_end (parts g ns [] c a) (part g ns xs c (minus p a))
root_in g ns xs c (pre p k a) = at_end (parts g (needs_of g c a) [] c a) (part g ns xs c (pre p k a))
root_in g ns xs c (arrow p k a b) = at_end (parts g ns [] c a ++ parts g ns [] c b) (part g ns xs c (arrow p k a b))
root_in g ns xs c (binary p o a b) = at_end (parts g ns [] c a ++ parts g ns [] c b) (part g ns xs c (binary p o a b))
root_in g ns xs c (choice p a b d) = at_end (parts g ns [] c a ++ parts g ns [] c b ++ parts g ns [] c d) (part g ns xs c (choice p a b d))
root_in g ns xs c (sampled p a q x) = at_end (parts g ns [] (clock_of (component_of g.place) x.text) a) (part g ns xs c (sampled p a q x))
root_in g ns xs c (merged p x a b) =
    at_end (parts g ns [] (sampled_by true x.text) a ++ parts g ns [] (sampled_by false x.text) b) (part g ns xs c (merged p x a b))
root_in g ns xs c (call p k f as_) = at_end (argument_parts g c as_ ++ g.body k) (part g ns xs c (call p k f as_))
root_in g ns xs c (condact p k a f as_ ds) =
    at_end (parts g (needs_of g c a) [] c a ++ argument_parts g c as_ ++ g.body k ++ operand_parts g ns c ds) (part g ns xs c (condact p k a f as_ ds))
root_in g ns xs c (mode_name p d m) = at_end (asked_in g ns (key_of (option_map text_of d) m.text)) (part g ns xs c (mode_name p d m))

module _ (i : Instance) (f : Frame) (t : ℕ) where
  -- texts that are wholes are among their parts
  pub wholes_given : (w : List ℕ) (sub : Calls) (ms : List ModeText) (c : Clock) (es : List Expression) (qs : List Part) →
      Among (wholes (setting (place_there i f w) w sub ms) c es) qs → WholesIn i f t w qs c es
  wholes_given w sub ms c [] qs m = tt
  wholes_given w sub ms c (e ∷ es) qs m =
      let g : Setting = setting (place_there i f w) w sub ms in
      let one : List Part = parts g (needs_of g c e) [] c e in (
        record {
          part = part g (needs_of g c e) [] c e;
          there = m (part g (needs_of g c e) [] c e)
              (in_left (part g (needs_of g c e) [] c e) one (wholes g c es) (root_in g (needs_of g c e) [] c e));
          way = refl;
          clock = refl;
          expression = refl;
          needs = refl;
        },
        wholes_given w sub ms c es qs (λ y z. m y (in_right y one (wholes g c es) z)),
      )

  -- ---- own parts are parts

  module _ (j : Instance) (w : List ℕ) (sub : Calls) (ms : List ModeText) (hs : ModeParts) (M : Key → Type 0) (b : List Part)
      (asks : (key : Key) → M key → (ns : List NeededPlace) → CoversNeeds i w ns (known_needs (modes_need j) key) →
      AllByRecursion (OwnIn i f t w b (asked_in (setting j w sub ms) ns key) ns) (asked_in (own_setting j w hs) ns key)) where
    abbrev g : Setting
    g = setting j w sub ms

    abbrev h : Setting
    h = own_setting j w hs

    abbrev Own : List NeededPlace → List Part → List Part → Type 0
    Own ns qs os = AllByRecursion (OwnIn i f t w b qs ns) os

    ended : (qs os : List Part) (q : Part) → q.way ≡ w → Own q.needs qs os → Own q.needs (qs ++ q ∷ []) (os ++ q ∷ [])
    ended qs os q e a = own_end i f t w b qs os q e a

    two : (ns : List NeededPlace) (qs rs os us : List Part) → Own ns qs os → Own ns rs us → Own ns (qs ++ rs) (os ++ us)
    two ns qs rs os us a e = own_two i f t w b qs rs os us ns a e

    abbrev Needed : Clock → Expression → List Need
    Needed c e = needs j (modes_need j) c e

    abbrev Reads : List NeededPlace → List Need → Type 0
    Reads ns qs = CoversNeeds i w ns qs

    pub own_in : (ns : List NeededPlace) (xs : List Name) (s : Standing) (e : Expression) → Each (Named M) (component_of j) s e →
        CoversNeeds i w ns (needs j (modes_need j) s.clock e) → Own ns (parts g ns xs s.clock e) (own_parts h ns xs s.clock e)
    own_in ns xs s (truth p k) n y = ended [] [] (part g ns xs s.clock (truth p k)) refl tt
    own_in ns xs s (number p k) n y = ended [] [] (part g ns xs s.clock (number p k)) refl tt
    own_in ns xs s (name p x) n y = ended [] [] (part g ns xs s.clock (name p x)) refl tt
    own_in ns xs s (negation p a) n y =
        ended (parts g ns [] s.clock a) (own_parts h ns [] s.clock a) (part g ns xs s.clock (negation p a)) refl
        (own_in ns [] (within s) a n.1 (covers_right i w ns (clock_needs s.clock) (Needed s.clock a) y))
    own_in ns xs s (minus p a) n y =
        ended (parts g ns [] s.clock a) (own_parts h ns [] s.clock a) (part g ns xs s.clock (minus p a)) refl
        (own_in ns [] (within s) a n.1 (covers_right i w ns (clock_needs s.clock) (Needed s.clock a) y))
    own_in ns xs s (pre p k a) n y = ended (parts g (needs_of g s.clock a) [] s.clock a) [] (part g ns xs s.clock (pre p k a)) refl tt
    own_in ns xs s (arrow p k a d) n y =
        let z : Reads ns (Needed s.clock a ++ Needed s.clock d) =
        covers_right i w ns (clock_needs s.clock) (Needed s.clock a ++ Needed s.clock d) y in
        ended (parts g ns [] s.clock a ++ parts g ns [] s.clock d) (own_parts h ns [] s.clock a ++ own_parts h ns [] s.clock d)
        (part g ns xs s.clock (arrow p k a d)) refl
        (two ns (parts g ns [] s.clock a) (parts g ns [] s.clock d) (own_parts h ns [] s.clock a) (own_parts h ns [] s.clock d)
        (own_in ns [] (within s) a n.1 (covers_left i w ns (Needed s.clock a) (Needed s.clock d) z))
        (own_in ns [] (within s) d n.2 (covers_right i w ns (Needed s.clock a) (Needed s.clock d) z)))
    own_in ns xs s (binary p o a d) n y =
        let z : Reads ns (Needed s.clock a ++ Needed s.clock d) =
        covers_right i w ns (clock_needs s.clock) (Needed s.clock a ++ Needed s.clock d) y in
        ended (parts g ns [] s.clock a ++ parts g ns [] s.clock d) (own_parts h ns [] s.clock a ++ own_parts h ns [] s.clock d)
        (part g ns xs s.clock (binary p o a d)) refl
        (two ns (parts g ns [] s.clock a) (parts g ns [] s.clock d) (own_parts h ns [] s.clock a) (own_parts h ns [] s.clock d)
        (own_in ns [] (within s) a n.1 (covers_left i w ns (Needed s.clock a) (Needed s.clock d) z))
        (own_in ns [] (within s) d n.2 (covers_right i w ns (Needed s.clock a) (Needed s.clock d) z)))
    own_in ns xs s (choice p a d e) n y =
        let z : Reads ns (Needed s.clock a ++ (Needed s.clock d ++ Needed s.clock e)) =
        covers_right i w ns (clock_needs s.clock) (Needed s.clock a ++ (Needed s.clock d ++ Needed s.clock e)) y in
        let q : Reads ns (Needed s.clock d ++ Needed s.clock e) =
        covers_right i w ns (Needed s.clock a) (Needed s.clock d ++ Needed s.clock e) z in
        ended (parts g ns [] s.clock a ++ parts g ns [] s.clock d ++ parts g ns [] s.clock e)
        (own_parts h ns [] s.clock a ++ own_parts h ns [] s.clock d ++ own_parts h ns [] s.clock e) (part g ns xs s.clock (choice p a d e)) refl
        (two ns (parts g ns [] s.clock a ++ parts g ns [] s.clock d) (parts g ns [] s.clock e)
        (own_parts h ns [] s.clock a ++ own_parts h ns [] s.clock d) (own_parts h ns [] s.clock e)
        (two ns (parts g ns [] s.clock a) (parts g ns [] s.clock d) (own_parts h ns [] s.clock a) (own_parts h ns [] s.clock d)
        (own_in ns [] (within s) a n.1 (covers_left i w ns (Needed s.clock a) (Needed s.clock d ++ Needed s.clock e) z))
        (own_in ns [] (within s) d n.2 (covers_left i w ns (Needed s.clock d) (Needed s.clock e) q)))
        (own_in ns [] (within s) e n.3 (covers_right i w ns (Needed s.clock d) (Needed s.clock e) q)))
    own_in ns xs s (sampled p a q x) n y =
        let k : Clock = clock_of (component_of j) x.text in
        ended (parts g ns [] k a) (own_parts h ns [] k a) (part g ns xs s.clock (sampled p a q x)) refl
        (own_in ns [] (moved k s) a n.1 (covers_right i w ns (a_name [] x.text ∷ []) (Needed k a) y))
    own_in ns xs s (merged p x a d) n y =
        let k : Clock = sampled_by true x.text in
        let l : Clock = sampled_by false x.text in
        let z : Reads ns (Needed k a ++ Needed l d) = covers_right i w ns (a_name [] x.text ∷ []) (Needed k a ++ Needed l d) y in
        ended (parts g ns [] k a ++ parts g ns [] l d) (own_parts h ns [] k a ++ own_parts h ns [] l d) (part g ns xs s.clock (merged p x a d)) refl
        (two ns (parts g ns [] k a) (parts g ns [] l d) (own_parts h ns [] k a) (own_parts h ns [] l d)
        (own_in ns [] (moved k s) a n.1 (covers_left i w ns (Needed k a) (Needed l d) z))
        (own_in ns [] (moved l s) d n.2 (covers_right i w ns (Needed k a) (Needed l d) z)))
    own_in ns xs s (call p k q as_) n y =
        ended (argument_parts g s.clock as_ ++ g.body k) [] (part g ns xs s.clock (call p k q as_)) refl tt
    own_in ns xs s (condact p k a q as_ ds) n y =
        let ms : List NeededPlace = needs_of g s.clock a in
        let asked : List Part = parts g ms [] s.clock a in
        let rest : List Need = output_needs j k ++ needs_each j (modes_need j) s.clock ds in
        ended (asked ++ argument_parts g s.clock as_ ++ g.body k ++ operand_parts g ns s.clock ds) (own_parts h ms [] s.clock a)
        (part g ns xs s.clock (condact p k a q as_ ds)) refl
        (own_covered i f t w b (asked ++ argument_parts g s.clock as_ ++ g.body k ++ operand_parts g ns s.clock ds) (own_parts h ms [] s.clock a) ns ms
        (covers_left i w ns (Needed s.clock a) rest (covers_right i w ns (clock_needs s.clock) (Needed s.clock a ++ rest) y))
        (own_wider i f t w b asked (asked ++ argument_parts g s.clock as_ ++ g.body k ++ operand_parts g ns s.clock ds) (own_parts h ms [] s.clock a) ms
        (λ r m. in_left r (asked ++ argument_parts g s.clock as_ ++ g.body k) (operand_parts g ns s.clock ds)
        (in_left r (asked ++ argument_parts g s.clock as_) (g.body k) (in_left r asked (argument_parts g s.clock as_) m)))
        (own_in ms [] (within s) a n.1 (covers_itself i ms))))
    own_in ns xs s (mode_name p d m) n y =
        ended (asked_in g ns (key_of (option_map text_of d) m.text)) (asked_in h ns (key_of (option_map text_of d) m.text))
        (part g ns xs s.clock (mode_name p d m)) refl (asks (key_of (option_map text_of d) m.text) n ns y)
