-- What contracts see of needs.
use Rattle.std.specs.Prelude.{ℕ, pred, List, [], map, flat_map, slice_index_or}
use Rattle.std.specs.Borrow.{Bor}
use Rattle.std.specs.declared.alloc.Global.{Global}
use Rattle.std.specs.declared.vec.Vec.{Vec}
use Rattle.lus_tree.specs.Tree.{Name, Labelled}
use Rattle.lus_meaning.specs.Depends.{Need, the_beat, a_name, ModeNeeds, needs}
use Rattle.lus_meaning.specs.Scene.{base, Instance}
use Rattle.evaluation_parts.specs.declared.need.Need.{Need as NeedCode}
use Rattle.evaluation_parts.specs.declared.need.Need.TheVariants.{Beat, Name as NamedCode}
use Rattle.evaluation_parts.specs.declared.mode_need.ModeNeeds.{ModeNeeds as ModeNeedsCode}

abbrev pub need_view : NeedCode → Need
need_view Beat = the_beat
need_view (NamedCode ks x) = a_name ks.items x.now

abbrev pub needs_view : List NeedCode → List Need
needs_view ns = map need_view ns

abbrev pub texts : List (Bor Name) → List Name
texts xs = map (λ x. x.now) xs

abbrev pub mode_needs_view : ModeNeedsCode → (List Name × Name) × List Need
mode_needs_view m = ((texts m.contracts.items, m.mode.now), needs_view m.needs.items)

abbrev pub modes_needs_view : List ModeNeedsCode → ModeNeeds
modes_needs_view ms = map mode_needs_view ms

-- those of each call, in the order of the calls
abbrev pub all_modes_view : List (Vec ModeNeedsCode Global) → List ModeNeeds
all_modes_view mss = map (λ v. modes_needs_view v.items) mss

-- those of the call with that number
abbrev pub imported : List ModeNeeds → ℕ → ModeNeeds
imported mss k = slice_index_or mss (pred k) []

abbrev pub requires_need : Instance → ModeNeeds → List Labelled → List Need
requires_need i m rs = flat_map (λ r. needs i m base r.value) rs
