-- In the rows of a run the first part with an operation outside 128 bits is the first value outside.
use Rattle.std.proofs.Common.{◌≡◌, ℕ, zero, suc, ◌<◌, true, List, [], ◌∷◌, ◌++◌, length, slice_get, refl, ap, ◌∙◌, sym, subst, arith, Option, Some, None}
use Rattle.std.specs.Prelude.{Contains, option_to_list}
use Rattle.std.specs.List.{AllByRecursion}
use Rattle.std.proofs.Math.Logic.{inl, inr}
use Rattle.lus_tree.specs.declared.place.Pos.{Pos}
use Rattle.lus_tree.specs.Tree.{Component, Program}
use Rattle.kind_num.specs.declared.Past.{Past}
use Rattle.lus_meaning.specs.Frame.{Frame}
use Rattle.lus_meaning.specs.Scene.{Instance, component_of}
use Rattle.lus_meaning.specs.Occurrences.{own}
use Rattle.lus_meaning.specs.Order.{is_listed}
use Rattle.lus_meaning.specs.Program.{instance_of}
use Rattle.lus_meaning.specs.Run.{IsRun}
use Rattle.lus_meaning.specs.Verdict.{throughout}
use Rattle.lus_meaning.specs.ClockFaults.{components}
use Rattle.lus_meaning.specs.Refusals.{IsChecked}
use Rattle.lus_meaning.proofs.Members.{IsIn}
use Rattle.lus_meaning.proofs.Lists.{append_none, all_from, both_parts}
use Rattle.rule_laws.specs.Laws.{IsUnfolded}
use Rattle.rule_laws.proofs.Unfolded.{component_within, each_unfolded}
use Rattle.clock_laws.proofs.AllPlaces.{all_places}
use Rattle.clock_laws.proofs.Circles.{no_circle}
use Rattle.clock_laws.proofs.Ranks.{rank_here, rank_lowers, rank_bound}
use Rattle.frame_laws.proofs.Along.{tree_along}
use Rattle.path_laws.proofs.Main.{each_is_well_typed}
use Rattle.lus_evaluation.specs.Part.{Part}
use Rattle.lus_evaluation.specs.Frame.{picked}
use Rattle.lus_evaluation.specs.Turn.{in_turn}
use Rattle.lus_evaluation.specs.Evaluation.{IsEvaluation}
use Rattle.lus_evaluation.specs.Past.{part_past, NonePast, IsFirstPast}
use Rattle.slot_values.specs.declared.resolved.PastAt.{PastAt}
use Rattle.slot_values.specs.Evaluated.{told}
use Rattle.slot_values.specs.Parts.{operands, setting_at, PartsByRow}
use Rattle.slot_values.proofs.Parts.{parts_by_rows}
use Rattle.evaluation_laws.specs.Rows.{AreCalls, RowShows}
use Rattle.evaluation_laws.proofs.EachPart.{each_part}
use Rattle.evaluation_laws.proofs.Wholes.{NeedsItsWhole, gives_nothing, right_sides}
use Rattle.evaluation_laws.proofs.RowFrames.{rows_show}
use Rattle.order_laws.specs.Laws.{operations_there, OwnPastInOrder, IsOneOf, OperandsComeBefore, IsFirstByRows, PartsHaveOwnPast, FirstPastByRows}
use Rattle.order_laws.specs.Rows.{standpoint_there}
use Rattle.order_laws.proofs.Lists.{grouped}
use Rattle.order_laws.proofs.Frames.{stands_there}
use Rattle.order_laws.proofs.OwnPast.{modes_within}
use Rattle.order_laws.proofs.Placed.{Settled, OwnIn, Placed, EachPlaced, within_itself, given_top}
use Rattle.order_laws.proofs.Bodies.{in_all, picked_in}
use Rattle.order_laws.proofs.Trees.{FrameAt}
use Rattle.order_laws.proofs.Top.{instant_laid, top_settled}
use Rattle.order_laws.proofs.Evaluated.{firsts, placed_at, operand_listed}

-- ---- a part of the order

-- a part of what is picked has a number
pub record Numbered (ps : List Part) (ks : List ℕ) (front : List Part) (q : Part) : Type 0 where
  pub number : ℕ
  pub before : List ℕ
  pub after : List ℕ
  pub split : ks ≡ before ++ number ∷ after
  pub there : slice_get ps number ≡ Some q
  pub fronts : picked before ps ≡ front

slice_there : (ps : List Part) (k : ℕ) → k < length ps → (q : Part) × (slice_get ps k ≡ Some q)
slice_there [] k l = absurd (omega arith)
slice_there (p ∷ ps) zero l = (p, refl)
slice_there (p ∷ ps) (suc k) l = slice_there ps k (omega arith)

heads : (q y : Part) (qs ys : List Part) → q ∷ qs ≡ y ∷ ys → q ≡ y
heads q y qs ys e = cc

tails : (q y : Part) (qs ys : List Part) → q ∷ qs ≡ y ∷ ys → qs ≡ ys
tails q y qs ys e = cc

numbered : (ps : List Part) (ks : List ℕ) → AllByRecursion (λ k. k < length ps) ks → (front : List Part) (q : Part) (rest : List Part) →
    picked ks ps ≡ front ++ q ∷ rest → Numbered ps ks front q
numbered ps [] a [] q rest e = cc
numbered ps [] a (y ∷ front) q rest e = cc
numbered ps (k ∷ ks) a [] q rest e =
    let r : (y : Part) × (slice_get ps k ≡ Some y) = slice_there ps k a.0 in
    let s : r.0 ∷ picked ks ps ≡ q ∷ rest = subst (λ z. option_to_list z ++ picked ks ps ≡ q ∷ rest) r.1 e in
    record { number = k; before = []; after = ks; split = refl; there = r.1 ∙ ap Some (heads r.0 q (picked ks ps) rest s); fronts = refl }
numbered ps (k ∷ ks) a (y ∷ front) q rest e =
    let r : (z : Part) × (slice_get ps k ≡ Some z) = slice_there ps k a.0 in
    let s : r.0 ∷ picked ks ps ≡ y ∷ front ++ q ∷ rest = subst (λ z. option_to_list z ++ picked ks ps ≡ y ∷ front ++ q ∷ rest) r.1 e in
    let m : Numbered ps ks front q = numbered ps ks a.1 front q rest (tails r.0 y (picked ks ps) (front ++ q ∷ rest) s) in
    record {
      number = m.number;
      before = k ∷ m.before;
      after = m.after;
      split = ap (λ l. k ∷ l) m.split;
      there = m.there;
      fronts = ap (λ z. option_to_list z ++ picked m.before ps) r.1 ∙ ap (λ l. r.0 ∷ l) m.fronts ∙ ap (λ z. z ∷ front) (heads r.0 y (picked ks ps) (front ++ q ∷ rest) s);
    }

pub one_of : (qs : List Part) (r : Part) → IsIn r qs → IsOneOf qs r
one_of [] r h = absurd h
one_of (y ∷ qs) r (inl e) = record { before = []; after = qs; split = ap (λ z. z ∷ qs) (sym e) }
one_of (y ∷ qs) r (inr h) =
    let o : IsOneOf qs r = one_of qs r h in
    record { before = y ∷ o.before; after = o.after; split = ap (λ l. y ∷ l) o.split }

-- ---- a run of a declaration

module _ (p : Program) (c : IsChecked p) (n : Component) (j : Contains (components p) n) (qs : List Part) (ev : IsEvaluation (instance_of p n) qs)
    (m : ℕ) (f : Frame) (run : IsRun (instance_of p n) m throughout f) where
  abbrev i : Instance
  i = instance_of p n

  pub unfolded : IsUnfolded p i
  unfolded = each_unfolded p c n j

  pub declared : Contains (components p) (component_of i)
  declared = subst (Contains (components p)) (sym (component_within _ p n)) j

  abbrev ps : List Part
  ps = in_turn ev.orders i

  pub whole : AllByRecursion (NeedsItsWhole i) ps
  whole =
      each_part (NeedsItsWhole i) (gives_nothing i) ev.orders i (right_sides i [] i (tree_along p c i [] i refl unfolded declared))

  module _ (t : ℕ) (l : t < m) where
    pub shown : (w : List ℕ) → AreCalls i w → RowShows i f t w
    shown w a = rows_show p c n j m f run t l w a

    top_frame : FrameAt p c i f t ps shown ev.orders ev.least [] i
    top_frame = record { stands = stands_there i f [] tt (each_is_well_typed p c n j).0.tree; unfolded = unfolded; declared = declared }

    pub top_there : Settled i f t [] ps
    top_there = top_settled p c i f t ps shown ev.orders ev.least top_frame

    pub laid : EachPlaced i f t ps [] ps
    laid =
        instant_laid p c i f t ps shown ev.orders ev.least
        top_frame
        (within_itself i f t [] ps) (given_top i f t []) (λ r m. absurd m) (λ r m. m)

    module _ (front : List Part) (q : Part) (rest : List Part) (e : qs ≡ front ++ q ∷ rest) where
      pub at : Numbered ps ev.numbers front q
      at = numbered ps ev.numbers ev.turn.order.below front q rest (sym ev.parts ∙ e)

      pub here : Placed i f t ps (firsts at.number ps) q
      here = placed_at i (rank_here i) (rank_lowers i (no_circle p c i unfolded declared)) f t ps laid whole ev.numbers ev.turn at.number q at.there

      in_front : (r : Part) → OwnIn i f t q.way (firsts at.number ps) (firsts at.number ps) q.needs r → IsIn r front
      in_front r a =
          let k : (m : ℕ) × (slice_get ps m ≡ Some r) × (is_listed at.before m ≡ true) =
          operand_listed i (rank_here i) (rank_lowers i (no_circle p c i unfolded declared)) f t ps laid whole ev.numbers ev.turn at.number q at.there
          at.before at.after at.split (suc (suc (length (all_places i)))) (rank_bound i) r a in
          subst (λ l. IsIn r l) at.fronts (picked_in at.before ps k.0 r k.1 k.2)

      abbrev own_operands : List Part
      own_operands = operands (setting_at (standpoint_there i f t q.way)) q.needs q.clock q.expression

      operands_in : AllByRecursion (λ r. IsIn r front) own_operands
      operands_in =
          all_from (OwnIn i f t q.way (firsts at.number ps) (firsts at.number ps) q.needs) (λ r. IsIn r front) in_front own_operands here.operands

      parts : PartsByRow (standpoint_there i f t q.way) q.needs q.gives q.clock q.expression
      parts =
          parts_by_rows (standpoint_there i f t q.way) (shown q.way here.calls)
          (modes_within i f t shown (each_is_well_typed p c n j).0.tree q.way here.calls) q.needs q.gives q.clock q.expression here.stands here.clock

      pub own_here : NonePast i f front t → operations_there i f t q ≡ told (own q.expression) (part_past i f q t)
      own_here none =
          parts.own_past (all_from (λ r. IsIn r front) (λ y. part_past i f y t ≡ None)
          (λ r a. in_all (λ y. part_past i f y t ≡ None) front r none a) own_operands operands_in)

      pub operands_before : AllByRecursion (IsOneOf front) own_operands
      operands_before = all_from (λ r. IsIn r front) (IsOneOf front) (λ r a. one_of front r a) own_operands operands_in

    pub own_in_order : OwnPastInOrder i f t qs
    own_in_order front q rest e none = own_here front q rest e none

pub operands_come_before : OperandsComeBefore
operands_come_before p c n j qs ev m f run t l front q rest e = operands_before p c n j qs ev m f run t l front q rest e

pub parts_have_own_past : PartsHaveOwnPast
parts_have_own_past p c n j qs ev m f run t l = own_in_order p c n j qs ev m f run t l

-- ---- the first one

none_told : (at : Pos) (o : Option Past) → told at o ≡ [] → o ≡ None
none_told at None e = refl
none_told at (Some x) e = cc

-- what is told is one operation at this place
record Told (at : Pos) (o : Option Past) (at' : Pos) (past : Past) : Type 0 where
  place : at' ≡ at
  outside : o ≡ Some past

told_one : (at : Pos) (o : Option Past) (at' : Pos) (past : Past) (more : List PastAt) → told at o ≡ record { at = at'; past = past } ∷ more → Told at o at' past
told_one at None at' past more e = cc
told_one at (Some x) at' past more e = record { place = place; outside = outside }
  where
    same : (let one : PastAt = record { at = at; past = x } in one) ≡ record { at = at'; past = past }
    same = cc

    place : at' ≡ at
    place = ap (λ z. z.at) (sym same)

    outside : (let one : Option Past = Some x in one) ≡ Some past
    outside = ap (λ z. let one : Option Past = Some z in one) (ap (λ z. z.past) same)

module _ (i : Instance) (f : Frame) (t : ℕ) (qs : List Part) (own_one : OwnPastInOrder i f t qs) where
  abbrev NoOperation : Part → Type 0
  NoOperation q = operations_there i f t q ≡ []

  abbrev Fine : Part → Type 0
  Fine q = part_past i f q t ≡ None

  abbrev All : (Part → Type 0) → List Part → Type 0
  All P xs = AllByRecursion P xs

  joined : (P : Part → Type 0) (xs : List Part) (y : Part) → All P xs → P y → All P (xs ++ y ∷ [])
  joined P xs y a h = both_parts P xs (y ∷ []) a (h, tt)

  fine_from : (done todo rest : List Part) → qs ≡ done ++ (todo ++ rest) → All Fine done → All NoOperation todo → All Fine todo
  fine_from done [] rest e a h = tt
  fine_from done (y ∷ todo) rest e a h =
      let mine : Fine y = none_told (own y.expression) (part_past i f y t) (sym (own_one done y (todo ++ rest) e a) ∙ h.0) in
      (mine, fine_from (done ++ y ∷ []) todo rest (e ∙ sym (grouped done (y ∷ []) (todo ++ rest))) (joined Fine done y a mine) h.1)

  none_from : (done todo rest : List Part) → qs ≡ done ++ (todo ++ rest) → All Fine done → All Fine todo → All NoOperation todo
  none_from done [] rest e a h = tt
  none_from done (y ∷ todo) rest e a h = (
    own_one done y (todo ++ rest) e a ∙ ap (told (own y.expression)) h.0,
    none_from (done ++ y ∷ []) todo rest (e ∙ sym (grouped done (y ∷ []) (todo ++ rest))) (joined Fine done y a h.0) h.1,
  )

  pub all_fine : All NoOperation qs → All Fine qs
  all_fine h = fine_from [] qs [] (sym (append_none qs)) tt h

  pub all_none : All Fine qs → All NoOperation qs
  all_none h = none_from [] qs [] (sym (append_none qs)) tt h

pub first_past_by_rows : FirstPastByRows
first_past_by_rows p c n j qs ev m f run k le at t past = (first, back)
  where
    own_one : (u : ℕ) → u < k → OwnPastInOrder (instance_of p n) f u qs
    own_one u l = own_in_order p c n j qs ev m f run u (omega (arith, l, le))

    first : IsFirstByRows (instance_of p n) f qs k at t past → IsFirstPast (instance_of p n) f qs k at t past
    first h =
        let l : t < k = h.below in
        let before : NonePast (instance_of p n) f h.front t =
        fine_from (instance_of p n) f t qs (own_one t h.below) [] h.front (h.part ∷ h.rest) h.split tt h.before in
        let told : Told (own h.part.expression) (part_past (instance_of p n) f h.part t) at past =
        told_one (own h.part.expression) (part_past (instance_of p n) f h.part t) at past h.more
        (sym (own_one t h.below h.front h.part h.rest h.split before) ∙ h.outside) in
        record {
          below = h.below;
          earlier = λ u g. all_fine (instance_of p n) f u qs (own_one u (omega (arith, g, l))) (h.earlier u g);
          front = h.front;
          part = h.part;
          rest = h.rest;
          split = h.split;
          before = before;
          place = told.place;
          outside = told.outside;
        }

    back : IsFirstPast (instance_of p n) f qs k at t past → IsFirstByRows (instance_of p n) f qs k at t past
    back h =
        let l : t < k = h.below in
        record {
          below = h.below;
          earlier = λ u g. all_none (instance_of p n) f u qs (own_one u (omega (arith, g, l))) (h.earlier u g);
          front = h.front;
          part = h.part;
          rest = h.rest;
          split = h.split;
          before = none_from (instance_of p n) f t qs (own_one t h.below) [] h.front (h.part ∷ h.rest) h.split tt h.before;
          more = [];
          outside = own_one t h.below h.front h.part h.rest h.split h.before ∙ ap (told (own h.part.expression)) h.outside
              ∙ ap (λ (z : Pos). let one : List PastAt = record { at = z; past = past } ∷ [] in one) (sym h.place);
        }
