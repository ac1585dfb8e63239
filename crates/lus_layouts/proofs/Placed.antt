-- The slots of a frame stand where its layout says.
use Rattle.std.proofs.Common.{◌≡◌, ℕ, zero, suc, ◌+◌, ◌<◌, ◌≤◌, List, [], ◌∷◌, ◌++◌, map, length, length-append, append_assoc, zero-add, refl, sym, ap, ◌∙◌, subst, arith}
use Rattle.std.proofs.Common.{IfOk, Result, Ok, Err}
use Rattle.std.specs.Prelude.{is_none, not, slice_get}
use Rattle.lus_tree.specs.Tree.{Component, Program}
use Rattle.lus_meaning.specs.ClockFaults.{components}
use Rattle.lus_meaning.specs.Program.{all_sites, instances_with, instance_of}
use Rattle.lus_meaning.specs.RuleLaws.{sites_width}
use Rattle.lus_meaning.specs.Scene.{Manner, plain, while_true, as_import, Site, Instance}
use Rattle.lus_meaning.specs.Slots.{Slot, slot, own_cells, held_cells, slots_in, call_slots}
use Rattle.lus_meaning.proofs.Exists.{length_mapped}
use Rattle.lus_limits.specs.Calls.{way_of}
use Rattle.lus_limits.specs.Framed.{Framed, frame_of}
use Rattle.lus_limits.specs.Instances.{callee, instance_called_so}
use Rattle.lus_limits.specs.Summaries.{bound, cut, link_of, sofar_count}
use Rattle.lus_limits.specs.Widths.{frame_width}
use Rattle.lus_limits.proofs.Instances.{component_called, made_of_callees}
use Rattle.lus_limits.proofs.Sums.{frame_so, own_in}
use Rattle.lus_limits.proofs.Widths.{any_way, width_by_text}
use Rattle.lus_layouts.specs.Layouts.{callee_width, calls_from, LaidOut, laid_out, layout_of, own_count, IsPlaced, ArePlaced, LayoutsHold}

-- ---- lists

got_behind : {A : Type 0} (xs ys : List A) (k : ℕ) → slice_get (xs ++ ys) (length xs + k) ≡ slice_get ys k
got_behind [] ys k = ap (slice_get ys) (zero-add k)
got_behind (x ∷ xs) ys k =
    let e : suc (length xs) + k ≡ suc (length xs + k) = omega arith in
    ap (slice_get (x ∷ (xs ++ ys))) e ∙ got_behind xs ys k

got_before : {A : Type 0} (xs ys : List A) (k : ℕ) → k < length xs → slice_get (xs ++ ys) k ≡ slice_get xs k
got_before [] ys k h = absurd (omega (arith, h))
got_before (x ∷ xs) ys zero h = refl
got_before (x ∷ xs) ys (suc k) h = got_before xs ys k (omega (arith, h))

-- a part of a list
got_within : {A : Type 0} (xs ys zs : List A) (j k : ℕ) → j ≡ length xs → k < length ys → slice_get (xs ++ (ys ++ zs)) (j + k) ≡ slice_get ys k
got_within xs ys zs j k e h = ap (λ i. slice_get (xs ++ (ys ++ zs)) (i + k)) e ∙ got_behind xs (ys ++ zs) k ∙ got_before ys zs k h

-- ---- numbers below the cut

exact : (h k : ℕ) → h + k < bound → cut h ≡ h
exact h k l = omega arith

has_room : (before h : ℕ) → cut h ≤ cut (before + cut h)
has_room before h = omega arith

same_start : (own before h w j n : ℕ) → before + (h + w) < bound → j + cut h ≡ cut (before + cut h) → n ≡ own + before → own + j ≡ n
same_start own before h w j n l e f = omega arith

is_held : (h k n : ℕ) → k < cut h → n ≡ h → k < n
is_held h k n l e = omega arith

frame_start : (own before h w n m : ℕ) → before + (h + w) < bound → n ≡ own + before → m ≡ h → own + cut (before + cut h) ≡ n + m
frame_start own before h w n m l e f = omega arith

next_start : (before h f s w : ℕ) → before + (h + w) < bound → w ≡ f + s → cut (before + (cut h + (cut f + s))) ≡ before + (h + w)
next_start before h f s w l e = omega arith

-- ---- calls

module _ (p : Program) (i : Instance) (path : List ℕ) (own : ℕ) where
  abbrev held_of : Site → List Slot
  held_of s = map (slot i path) (held_cells s (callee p s.callee) s.manner)

  abbrev held_many : Site → ℕ
  held_many s = length (held_cells s (callee p s.callee) s.manner)

  abbrev slots_of : Site → List Slot
  slots_of s = slots_in s.manner (path ++ s.number ∷ []) (instance_called_so p s.callee)

  abbrev width_of : Site → ℕ
  width_of s = frame_width p s.manner (callee p s.callee)

  abbrev slots_behind : List Site → List Slot
  slots_behind ss = call_slots i path (instances_with (instance_called_so p) ss)

  many_held : (s : Site) → length (held_of s) ≡ held_many s
  many_held s = length_mapped (slot i path) (held_cells s (callee p s.callee) s.manner)

  many_slots : (s : Site) → length (slots_of s) ≡ width_of s
  many_slots s = any_way p s.manner (path ++ s.number ∷ []) (callee p s.callee)

  -- the slots of a call and of those behind it
  called : (s : Site) (ss : List Site) → slots_behind (s ∷ ss) ≡ held_of s ++ (slots_of s ++ slots_behind ss)
  called s ss = ap (λ n. map (slot i path) (held_cells s n s.manner) ++ (slots_of s ++ slots_behind ss)) (component_called p (callee p s.callee))

  -- one call, behind these slots and before those
  one_placed : (pre rest : List Slot) (before : ℕ) (s : Site) → length pre ≡ own + before → before + (held_many s + width_of s) < bound
      → IsPlaced (pre ++ (held_of s ++ (slots_of s ++ rest))) own p i path s
      (record { held = (link_of p s).held; frame = cut (before + (link_of p s).held) })
  one_placed pre rest before s e l = record {
    many = exact (held_many s) (before + width_of s) (omega arith);
    room = has_room before (held_many s);
    held = λ j k a b. got_within pre (held_of s) (slots_of s ++ rest) (own + j) k
        (same_start own before (held_many s) (width_of s) j (length pre) l a e) (is_held (held_many s) k (length (held_of s)) b (many_held s));
    frame = λ k a. ap (λ xs. slice_get xs ((own + cut (before + cut (held_many s))) + k)) (sym (append_assoc pre (held_of s) (slots_of s ++ rest)))
        ∙ got_within (pre ++ held_of s) (slots_of s) rest (own + cut (before + cut (held_many s))) k
        (frame_start own before (held_many s) (width_of s) (length pre) (length (held_of s)) l e (many_held s) ∙ sym (length-append pre (held_of s)))
        (subst (λ n. k < n) (sym (many_slots s)) a);
  }

  -- behind these slots
  all_placed : (pre : List Slot) (before : ℕ) (ss : List Site) → length pre ≡ own + before → before + sites_width (frame_width p) p ss < bound
      → ArePlaced (pre ++ slots_behind ss) own p i path ss (calls_from before (map (link_of p) ss))
  all_placed pre before [] e l = tt
  all_placed pre before (s ∷ ss) e l =
      let w : width_of s ≡ frame_width p (as_import []) (callee p s.callee) + sofar_count (way_of s.manner) (not (is_none (callee p s.callee).contract)) =
      frame_so p s.manner (callee p s.callee) in
      let f : before + (held_many s + width_of s) < bound = omega arith in
      let n : cut (before + ((link_of p s).held + callee_width (link_of p s))) ≡ before + (held_many s + width_of s) =
      next_start before (held_many s) (frame_width p (as_import []) (callee p s.callee))
      (sofar_count (way_of s.manner) (not (is_none (callee p s.callee).contract))) (width_of s) f w in
      let next : List Slot = (pre ++ held_of s) ++ slots_of s in
      let m : length next ≡ own + (before + (held_many s + width_of s)) = longer in
      let same : next ++ slots_behind ss ≡ pre ++ slots_behind (s ∷ ss) =
      append_assoc (pre ++ held_of s) (slots_of s) (slots_behind ss) ∙ append_assoc pre (held_of s) (slots_of s ++ slots_behind ss)
      ∙ ap (λ xs. pre ++ xs) (sym (called s ss)) in (
        subst (λ xs. IsPlaced xs own p i path s (record { held = (link_of p s).held; frame = cut (before + (link_of p s).held) }))
            (ap (λ xs. pre ++ xs) (sym (called s ss))) (one_placed pre (slots_behind ss) before s e f),
        subst (λ k. ArePlaced (pre ++ slots_behind (s ∷ ss)) own p i path ss (calls_from k (map (link_of p) ss))) (sym n)
            (subst (λ xs. ArePlaced xs own p i path ss (calls_from (before + (held_many s + width_of s)) (map (link_of p) ss))) same
            (all_placed next (before + (held_many s + width_of s)) ss m (omega arith))),
      )
    where
      longer : length ((pre ++ held_of s) ++ slots_of s) ≡ own + (before + (held_many s + width_of s))
      longer =
          let a : length ((pre ++ held_of s) ++ slots_of s) ≡ length (pre ++ held_of s) + length (slots_of s) =
          length-append (pre ++ held_of s) (slots_of s) in
          let b : length (pre ++ held_of s) ≡ length pre + length (held_of s) = length-append pre (held_of s) in
          let c : length (held_of s) ≡ held_many s = many_held s in
          let d : length (slots_of s) ≡ width_of s = many_slots s in
          omega arith

-- ---- frames

-- how many cells of its own, below the cut
own_exact : (p : Program) (m : Manner) (n : Component) → length (own_cells m n) < bound → own_count (way_of m) (layout_of p n) ≡ length (own_cells m n)
own_exact p m n l = by_way m (own_in m n) l
  where
    k : ℕ
    k = length (own_cells (as_import []) n)

    one : (k s t : ℕ) → t ≡ k + s → t < bound → cut (cut k + s) ≡ t
    one k s t e h = omega arith

    none : (k t : ℕ) → t ≡ k + 0 → t < bound → cut k ≡ t
    none k t e h = omega arith

    by_way : (m : Manner) → length (own_cells m n) ≡ k + sofar_count (way_of m) (not (is_none n.contract)) → length (own_cells m n) < bound
        → own_count (way_of m) (layout_of p n) ≡ length (own_cells m n)
    by_way plain e h = one k (sofar_count (way_of plain) (not (is_none n.contract))) (length (own_cells plain n)) e h
    by_way (while_true a) e h = one k (sofar_count (way_of (while_true a)) (not (is_none n.contract))) (length (own_cells (while_true a) n)) e h
    by_way (as_import xs) e h = none k (length (own_cells (as_import xs) n)) e h

pub layouts_hold : LayoutsHold
layouts_hold p c n i m path l =
    let w : frame_width p m n ≡ length (own_cells m n) + sites_width (frame_width p) p (all_sites n) = width_by_text p c n i m in
    let k : Instance = instance_of p n in
    let many : own_count (way_of m) (layout_of p n) ≡ length (own_cells m n) = own_exact p m n (omega arith) in
    let cells : List Slot = map (slot k path) (own_cells m n) in
    let long : length cells ≡ length (own_cells m n) = length_mapped (slot k path) (own_cells m n) in
    let made : slots_in m path k ≡ cells ++ call_slots k path (instances_with (instance_called_so p) (all_sites n)) = made_so in
    record {
      many = many;
      own = λ j h. ap (λ xs. slice_get xs j) made
          ∙ got_before cells (call_slots k path (instances_with (instance_called_so p) (all_sites n))) j (omega arith);
      calls = subst (λ xs. ArePlaced xs (own_count (way_of m) (layout_of p n)) p k path (all_sites n) (layout_of p n).calls) (sym made)
          (all_placed p k path (own_count (way_of m) (layout_of p n)) cells 0 (all_sites n) (omega arith) (omega arith));
    }
  where
    made_so : slots_in m path (instance_of p n) ≡ map (slot (instance_of p n) path) (own_cells m n)
        ++ call_slots (instance_of p n) path (instances_with (instance_called_so p) (all_sites n))
    made_so = subst (λ j. slots_in m path j ≡ map (slot j path) (own_cells m n) ++ call_slots j path (instances_with (instance_called_so p) (all_sites n)))
        (sym (made_of_callees p c n i)) refl

-- ---- all declarations

each_laid_out : (p : Program) (ns : List Component) → map laid_out (map (frame_of p) ns) ≡ map (layout_of p) ns
each_laid_out p [] = refl
each_laid_out p (n ∷ ns) = ap (λ ls. layout_of p n ∷ ls) (each_laid_out p ns)

pub layouts_right : {V E : Type 0} (view : V → List LaidOut) (p : Program) (fs : List Framed) (r : Result V E) → fs ≡ map (frame_of p) (components p)
    → IfOk r (λ v. view v ≡ map laid_out fs) → IfOk r (λ v. view v ≡ map (layout_of p) (components p))
layouts_right view p fs (Ok v) e h = h ∙ ap (map laid_out) e ∙ each_laid_out p (components p)
layouts_right view p fs (Err x) e h = tt
