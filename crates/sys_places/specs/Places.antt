-- Where the variables of a frame stand among all variables.
use Rattle.std.specs.Prelude.{◌≡◌, ℕ, suc, ◌+◌, ◌<◌, cond, List, [], ◌∷◌, slice_get, Some}
use Rattle.lus_tree.specs.Tree.{Component, Program}
use Rattle.lus_meaning.specs.Program.{all_sites, instance_of}
use Rattle.lus_meaning.specs.RuleLaws.{OfEach}
use Rattle.lus_meaning.specs.Scene.{Manner, plain, Site, Instance}
use Rattle.lus_meaning.specs.Slots.{Slot, slots_in, width}
use Rattle.lus_limits.specs.Calls.{way_of}
use Rattle.lus_limits.specs.Instances.{instance_called_so}
use Rattle.lus_limits.specs.Summaries.{bound}
use Rattle.lus_limits.specs.Widths.{frame_width}
use Rattle.lus_layouts.specs.Layouts.{layout_of, own_count}
use Rattle.lus_layouts.specs.declared.placing.CallSlots.{CallSlots}
use Rattle.sys_meaning.specs.Slot.{Place, place_of, same_place}
use Rattle.sys_meaning.specs.System.{below_call, number_of}

-- the number of the first slot at a place, where slots are numbered on from `base`; `missing` where none is there
abbrev pub number_from : ℕ → ℕ → List Slot → Place → ℕ
number_from missing base [] p = missing
number_from missing base (q ∷ qs) p = cond (same_place p (place_of q)) base (number_from missing (suc base) qs p)

-- the frame of an instance that runs in this manner has its variables from `base` on; what it has not has the number `missing`
abbrev pub StandsAt : (Place → ℕ) → ℕ → ℕ → Manner → Instance → Type 0
StandsAt at missing base m i = (p : Place) → at p ≡ number_from missing base (slots_in m [] i) p

-- the analysed declaration has them all, and what is missing has the number behind the last one
abbrev pub StandsAtRoot : Type 0
StandsAtRoot = (i : Instance) → StandsAt (number_of i) (width i) 0 plain i

-- ---- calls

-- of each call or import and of where it stands
abbrev pub OfEachCall : (Site → CallSlots → Type 0) → List Site → List CallSlots → Type 0
OfEachCall P [] [] = Unit {0}
OfEachCall P [] (q ∷ qs) = ⊥
OfEachCall P (s ∷ ss) [] = ⊥
OfEachCall P (s ∷ ss) (q ∷ qs) = P s q × OfEachCall P ss qs

-- and of the one at a place of the lists
abbrev pub AtEachPlace : (Site → CallSlots → Type 0) → List Site → List CallSlots → Type 0
AtEachPlace P ss qs = (j : ℕ) (s : Site) (q : CallSlots) → slice_get ss j ≡ Some s → slice_get qs j ≡ Some q → P s q

-- behind which number those of a frame's own end
abbrev pub own_end : Program → Manner → Component → ℕ → ℕ
own_end p m n base = base + own_count (way_of m) (layout_of p n)

-- what follows for a frame of at most so many variables, of a declaration of a checked program, from where it stands
abbrev pub OfEachFrame : ((Place → ℕ) → ℕ → ℕ → Program → Manner → Component → Type 0) → Type 0
OfEachFrame P =
    OfEach (λ p n. (m : Manner) (at : Place → ℕ) (missing base : ℕ) → frame_width p m n < bound → StandsAt at missing base m (instance_of p n)
    → P at missing base p m n)

-- the frame of a call, `q.frame` behind the cells of its caller's own
abbrev pub CallStandsAt : (Place → ℕ) → ℕ → ℕ → Program → Site → CallSlots → Type 0
CallStandsAt at missing end p s q = StandsAt (below_call s.number at) missing (end + q.frame) s.manner (instance_called_so p s.callee)

-- in a checked program the frames of calls and imports stand where the caller's layout says
abbrev pub StandsAtCalls : Type 0
StandsAtCalls =
    OfEachFrame (λ at missing base p m n. OfEachCall (CallStandsAt at missing (own_end p m n base) p) (all_sites n) (layout_of p n).calls)

-- the same of the call at a place of the lists
abbrev pub StandsAtEachCall : Type 0
StandsAtEachCall =
    OfEachFrame (λ at missing base p m n. AtEachPlace (CallStandsAt at missing (own_end p m n base) p) (all_sites n) (layout_of p n).calls)
