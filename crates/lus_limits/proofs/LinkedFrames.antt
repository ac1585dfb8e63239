-- The frames of declarations, by what is known of all declarations.
use Rattle.std.proofs.Common.{◌≡◌, ℕ, ◌<◌, true, false, List, [], map, length, get_or, Option, Some, None, refl, sym, ap, ◌∙◌, arith}
use Rattle.std.specs.Prelude.{MatchOption, Contains}
use Rattle.std.specs.Option.{IsSome}
use Rattle.std.proofs.lemmas.Bool.{false≢true}
use Rattle.lus_tree.specs.Tree.{Name, Component, Program}
use Rattle.lus_meaning.specs.ClockFaults.{components}
use Rattle.lus_meaning.specs.Program.{all_sites}
use Rattle.lus_meaning.specs.Refusals.{IsChecked}
use Rattle.lus_meaning.specs.Scene.{as_import, no_component}
use Rattle.lus_meaning.specs.Slots.{own_cells}
use Rattle.rule_laws.proofs.Places.{numbered}
use Rattle.lus_streams.specs.declared.owner.Owner.{Owner}
use Rattle.lus_streams.specs.Owner.{owner_view}
use Rattle.lus_limits.specs.declared.framed.Frame.{Frame}
use Rattle.lus_limits.specs.declared.needs.Needs.{Needs}
use Rattle.lus_limits.specs.declared.settling.Table.{Table}
use Rattle.lus_limits.specs.Calls.{Called, called_of}
use Rattle.lus_limits.specs.Framed.{frame_of, frame_view}
use Rattle.lus_limits.specs.Needed.{AllKnown, all_known, link_at, names_of}
use Rattle.lus_limits.specs.Summaries.{cut, link_of, own_count}
use Rattle.lus_limits.specs.Tables.{IsTableOf}
use Rattle.lus_limits.proofs.Needed.{links_are, many_mapped, many_named, same_length}
use Rattle.lus_limits.proofs.Settled.{callees_known}
use Rattle.lus_limits.proofs.Sums.{own_counted}
use Rattle.lus_limits.proofs.SystemSizes.{owner_is}

-- ---- tables

module _ (p : Program) (t : Table) (is : IsTableOf p t) where
  -- all have as many entries as there are declarations
  pub many_known : length t.known.items ≡ length t.names
  many_known = same_length p (components p) t.known.items is.known.right ∙ sym (many_named (components p)) ∙ ap length (sym is.names)

  pub many_parts : length t.parts.items ≡ length t.names
  many_parts = sym (many_mapped owner_view t.parts.items) ∙ ap length is.parts ∙ sym (many_named (components p)) ∙ ap length (sym is.names)

  pub owner_at : (k : ℕ) (o : Owner) → k < length (components p) → o ≡ get_or t.parts.items k o → owner_view o ≡ get_or (components p) k no_component
  owner_at k o l e = owner_is p t.parts.items k o is.parts (omega (arith, l, many_mapped owner_view t.parts.items, ap length is.parts)) e

-- ---- calls

module _ (p : Program) (c : IsChecked p) (known : List (Option Needs)) (a : AllKnown p known) (k : ℕ) (l : k < length (components p)) where
  abbrev n : Component
  n = get_or (components p) k no_component

  -- all that is called is known, as the code has it
  calls_known : (names : List Name) (cs : List Called) → names ≡ names_of p → cs ≡ map called_of (all_sites n) → all_known names known cs ≡ true
  calls_known names cs e f = ap (λ z. all_known z known cs) e ∙ ap (all_known (names_of p) known) f ∙ callees_known p c known a k l

  -- and the links are those of the program
  pub links_right : (names : List Name) (ns : List Component) (cs : List Called) → names ≡ names_of p → ns ≡ components p
      → cs ≡ map called_of (all_sites n) → map (link_at names ns known) cs ≡ map (link_of p) (all_sites n)
  links_right names ns cs e f g =
      ap (λ z. map (link_at z ns known) cs) e ∙ ap (λ z. map (link_at (names_of p) z known) cs) f
      ∙ ap (map (link_at (names_of p) (components p) known)) g
      ∙ links_are p known a.right (all_sites n) (callees_known p c known a k l)

  -- they are there
  pub links_there : {A : Type 0} (Q : A → Type 0) (names : List Name) (cs : List Called) (o : Option A) → names ≡ names_of p
      → cs ≡ map called_of (all_sites n) → MatchOption o (all_known names known cs ≡ false) Q → IsSome o
  links_there Q names cs None e f h = absurd (false≢true (sym h ∙ calls_known names cs e f))
  links_there Q names cs (Some v) e f h = refl

-- the frame of a declaration
pub frame_is : (p : Program) → IsChecked p → (n : Component) → Contains (components p) n → (f : Frame) → f.own ≡ cut (own_count n)
    → f.contract ≡ (frame_of p n).contract → f.links.items ≡ map (link_of p) (all_sites n) → frame_view f ≡ frame_of p n
frame_is p c n i f own contract links = λ j. record { own = same j; contract = contract j; links = links j }
  where
    same : f.own ≡ cut (length (own_cells (as_import []) n))
    same = own ∙ ap cut (sym (own_counted n (numbered p c.grammatical n i)))
