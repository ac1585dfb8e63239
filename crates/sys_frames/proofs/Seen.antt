-- When the tables of declarations have what the translation of an instance finds in its frames.
use Rattle.std.specs.Prelude.{◌≡◌, ℕ, zero, suc, cond, List, [], ◌∷◌, map, length, Some, None, slice_get}
use Rattle.std.specs.List.{AllByRecursion}
use Rattle.lus_tree.specs.Tree.{Name, ContractStatement, assume, guarantee, ghost_variable, constant, mode, «import»}
use Rattle.lus_meaning.specs.Occurrences.{memories, starts}
use Rattle.lus_meaning.specs.Program.{in_order}
use Rattle.lus_meaning.specs.Run.{equations}
use Rattle.lus_meaning.specs.Scene.{Manner, plain, while_true, as_import, Site, Instance, Instances, instance, no_instances, with_instance, component_of, constants_of, contract_statements, variables}
use Rattle.lus_meaning.specs.Slots.{held_cells, slot}
use Rattle.lus_meaning.specs.WellMade.{AreDistinct}
use Rattle.lus_limits.specs.Calls.{way_of}
use Rattle.lus_limits.specs.declared.calls.Way.{Way}
use Rattle.sys_meaning.specs.Defaults.{site_of}
use Rattle.sys_meaning.specs.Slot.{Place, own, beat, so_far, in_call}
use Rattle.sys_meaning.specs.System.{below_call, has_so_far, held_first, held_next, shape_of}
use Rattle.sys_texts.specs.Sights.{Sight, Call}
use Rattle.sys_texts.specs.Laws.{IsSightOf, IsSteady}
use Rattle.sys_contracts.specs.Laws.{IsSteadyStatement, bare}
use Rattle.sys_conditions.specs.Laws.{IsSteadyItem, IsSteadyManner}
use Rattle.sys_tables.specs.Tabled.{Linked, Tabled, named_stream}
use Rattle.sys_tables.specs.Numbers.{behind_own, frame_base, sight_at}
use Rattle.sys_frames.specs.Walked.{held_lists, so_far_of}

-- the text of a frame is steady
pub record IsSteadyText (i : Instance) : Type 0 where
  pub memories : AllByRecursion (λ u. IsSteady (constants_of i) u.operand) (in_order (λ u. u.number) (memories (component_of i)))
  pub equations : AllByRecursion (λ e. IsSteady (constants_of i) e.right) (equations (component_of i))
  pub items : AllByRecursion (IsSteadyItem (constants_of i)) (component_of i).body
  pub statements : AllByRecursion (IsSteadyStatement (constants_of i)) (contract_statements (component_of i))

-- an import's number is that of a call that runs as an import
abbrev pub IsImportAt : Instance → ContractStatement → Type 0
IsImportAt i («import» k c as_ xs) = (ys : List Name) × ((site_of i k).manner ≡ as_import ys)
IsImportAt i (assume l) = Unit {0}
IsImportAt i (guarantee l) = Unit {0}
IsImportAt i (ghost_variable x e) = Unit {0}
IsImportAt i (constant c) = Unit {0}
IsImportAt i (mode m rs es) = Unit {0}

-- the outputs of an import have as many names as the contract has outputs
abbrev pub HasNames : Manner → Instance → Type 0
HasNames plain k = Unit {0}
HasNames (while_true a) k = Unit {0}
HasNames (as_import xs) k = length xs ≡ length (component_of k).outputs

module _ (missing : ℕ) where
  -- the table of a declaration, of which the frame runs so and has its variables from b on
  pub record SeesOwn (t : Tabled) (w : Way) (b : ℕ) (m : Manner) (i : Instance) (at : Place → ℕ) : Type 0 where
    pub text : t.component ≡ component_of i
    pub streams : t.streams ≡ map (named_stream (component_of i)) (variables (component_of i))
    pub memories : t.memories ≡ in_order (λ u. u.number) (memories (component_of i))
    pub starts : t.starts ≡ in_order (λ a. a.number) (starts (component_of i))
    pub kept : so_far_of t w b ≡ cond (has_so_far m (component_of i)) (Some (at (own so_far))) None
    pub sight : IsSightOf (sight_at t w b missing) [] (bare i at)
    pub distinct : AreDistinct (map (λ v. v.name.text) (variables (component_of i)))
    pub steady : IsSteadyText i
    pub imports : AllByRecursion (IsImportAt i) (contract_statements (component_of i))

  -- the call at a place, where the caller is seen so and its calls stand from there on
  pub record SeesCall (i : Instance) (at : Place → ℕ) (s : Sight) (from j : ℕ) (q : Linked) (c : Site) (k : Instance) : Type 0 where
    pub site : q.site ≡ c
    pub number : c.number ≡ suc j
    pub call : Call
    pub seen : slice_get s.calls j ≡ Some call
    pub beats : call.beat ≡ at (in_call c.number (own beat))
    pub frame : frame_base from q ≡ at (in_call c.number (own beat))
    pub manner : IsSteadyManner (constants_of i) c.manner
    pub arguments : AllByRecursion (IsSteady (constants_of i)) c.arguments
    pub many : length c.arguments ≡ length (component_of k).inputs
    pub names : HasNames c.manner k
    pub held_at_first : (held_lists q.defaults call c.manner).first ≡ held_first (bare i at) c c.manner k
    pub held_later : (held_lists q.defaults call c.manner).next ≡ held_next (bare i at) c c.manner k
    pub held_shapes : (path : List ℕ) → (held_lists q.defaults call c.manner).shapes
        ≡ map (λ p. shape_of p.sort) (map (slot i path) (held_cells c (component_of k) c.manner))

  module _ (ts : List Tabled) where
    abbrev mutual
      -- with calls nested no deeper than said
      pub Seen : ℕ → Tabled → Way → ℕ → Manner → Instance → (Place → ℕ) → Type 0
      Seen d t w b m (instance n cs is) at =
          SeesOwn t w b m (instance n cs is) at
          × CallsSeen d (instance n cs is) at (sight_at t w b missing) (behind_own w t b) 0 t.calls is

      -- those from a place on
      pub CallsSeen : ℕ → Instance → (Place → ℕ) → Sight → ℕ → ℕ → List Linked → Instances → Type 0
      CallsSeen d i at s from j [] no_instances = Unit {0}
      CallsSeen d i at s from j (q ∷ qs) no_instances = ⊥
      CallsSeen d i at s from j [] (with_instance c k is) = ⊥
      CallsSeen zero i at s from j (q ∷ qs) (with_instance c k is) = ⊥
      CallsSeen (suc d) i at s from j (q ∷ qs) (with_instance c k is) =
          SeesCall i at s from j q c k
          × ((u : Tabled) × (slice_get ts q.place ≡ Some u)
          × Seen d u (way_of q.site.manner) (frame_base from q) c.manner k (below_call c.number at))
          × CallsSeen (suc d) i at s from (suc j) qs is
