-- The system that the walk makes of a declaration is its translation.
use Rattle.std.proofs.Common.{◌≡◌, ℕ, zero, suc, ◌+◌, ◌<◌, min, Bool, true, false, cond, ◌||◌, List, [], ◌∷◌, map, length, Option, Some, option_map, refl, sym, ap, ◌∙◌, subst, arith, get_or}
use Rattle.std.specs.Prelude.{Contains, slice_get}
use Rattle.std.specs.Str.{bytes_eq}
use Rattle.std.proofs.lemmas.Bool.{false≢true}
use Rattle.std.proofs.lemmas.Option.{slice_get-map}
use Rattle.lus_tree.specs.Tree.{Name, Component, Program}
use Rattle.lus_meaning.specs.ClockFaults.{components}
use Rattle.lus_meaning.specs.Depends.{named_in}
use Rattle.lus_meaning.specs.Program.{instance_of}
use Rattle.lus_meaning.specs.Refusals.{IsChecked}
use Rattle.lus_meaning.specs.Scene.{plain}
use Rattle.lus_meaning.specs.Slots.{width}
use Rattle.lus_meaning.specs.WellMade.{AreDistinct}
use Rattle.lus_meaning.proofs.Exists.{self_bytes}
use Rattle.rule_laws.proofs.Lists.{other_bytes}
use Rattle.name_table.specs.Names.{number_of}
use Rattle.lus_limits.specs.Summaries.{bound, cut}
use Rattle.lus_limits.specs.SystemSizes.{system_size}
use Rattle.lus_limits.specs.declared.calls.Way.TheVariants.{Plain}
use Rattle.lus_limits.specs.declared.systems.SystemSize.{SystemSize}
use Rattle.sys_meaning.specs.System.{number_of as number_at, system_of}
use Rattle.sys_places.proofs.Numbers.{stands_at_root}
use Rattle.sys_tables.specs.Tabled.{Tabled, names_of, place_of, table_of}
use Rattle.sys_frames.specs.Systems.{missing_in, names_in, system_or_none}
use Rattle.sys_frames.specs.Walked.{HasRoomWithin, IfThere}
use Rattle.sys_frames.proofs.Checked.{Laws, table_list, seen_so}
use Rattle.sys_frames.proofs.Rooms.{rooms_within}
use Rattle.sys_frames.proofs.Translated.{system_so}

-- ---- a declaration by its name

names_are : (p : Program) (ns : List Component) → names_in (map (table_of p) ns) ≡ names_of ns
names_are p [] = refl
names_are p (n ∷ ns) = ap (λ l. n.name.text ∷ l) (names_are p ns)

not_named : (ns : List Component) (n : Component) (k : ℕ) → k < length ns → get_or ns k n ≡ n → (x : Name) → named_in x (names_of ns) ≡ false → bytes_eq x n.name.text ≡ false
not_named [] n k l e x h = absurd (omega (arith, l))
not_named (m ∷ ns) n zero l e x h = ap (λ (z : Component). bytes_eq x z.name.text) (sym e) ∙ first (bytes_eq x m.name.text) h
  where
    first : (b : Bool) → (b || named_in x (names_of ns)) ≡ false → b ≡ false
    first true h = h
    first false h = refl
not_named (m ∷ ns) n (suc k) l e x h = not_named ns n k (omega (arith, l)) e x (later (bytes_eq x m.name.text) h)
  where
    later : (b : Bool) → (b || named_in x (names_of ns)) ≡ false → named_in x (names_of ns) ≡ false
    later true h = absurd (false≢true (sym h))
    later false h = h

-- the first of its name is the declaration, since names are declared once
found_at : (ns : List Component) → AreDistinct (names_of ns) → (n : Component) → Contains ns n → slice_get ns (number_of (names_of ns) n.name.text) ≡ Some n
found_at [] d n (k, l, e) = absurd (omega (arith, l))
found_at (m ∷ ns) d n (zero, l, e) =
    ap (λ b. slice_get (m ∷ ns) (cond b 0 (suc (number_of (names_of ns) n.name.text))))
    (ap (λ (z : Component). bytes_eq n.name.text z.name.text) e ∙ self_bytes n.name.text) ∙ ap Some e
found_at (m ∷ ns) d n (suc k, l, e) =
    ap (λ b. slice_get (m ∷ ns) (cond b 0 (suc (number_of (names_of ns) n.name.text))))
    (other_bytes m.name.text n.name.text (not_named ns n k (omega (arith, l)) e m.name.text d.0)) ∙ found_at ns d.1 n (k, omega (arith, l), e)

module _ (laws : Laws) (p : Program) (c : IsChecked p) (once : AreDistinct (names_of (components p)))
    (n : Component) (j : Contains (components p) n) (small : width (instance_of p n) < 20001)
    (ts : List Tabled) (zs : List SystemSize) (place depth missing : ℕ)
    (tables : ts ≡ map (table_of p) (components p)) (sizes : zs ≡ map (system_size p) (components p))
    (placed : place ≡ number_of (names_in ts) n.name.text) (deep : depth ≡ length p) (lacks : missing ≡ missing_in (slice_get zs place)) where
  here : place ≡ place_of p n.name.text
  here = placed ∙ ap (λ z. number_of (names_in z) n.name.text) tables ∙ ap (λ z. number_of z n.name.text) (names_are p (components p))

  there : slice_get (components p) place ≡ Some n
  there = ap (slice_get (components p)) here ∙ found_at (components p) once n j

  pub table_there : slice_get ts place ≡ Some (table_of p n)
  table_there =
      ap (λ z. slice_get z place) tables ∙ (slice_get-map (table_of p) (components p) place ∙ ap (option_map (table_of p)) there)

  missing_there : missing ≡ width (instance_of p n)
  missing_there =
      lacks ∙ ap (λ z. missing_in (slice_get z place)) sizes
      ∙ (ap missing_in (slice_get-map (system_size p) (components p) place ∙ ap (option_map (system_size p)) there) ∙ exact (width (instance_of p n)) small)
    where
      exact : (k : ℕ) → k < 20001 → min bound (cut k) ≡ k
      exact k l = omega arith

  pub room_there : IfThere (HasRoomWithin depth ts) (slice_get ts place) Plain 0
  room_there =
      subst (λ (o : Option Tabled). IfThere (HasRoomWithin depth ts) o Plain 0) (sym table_there)
      (subst (λ zs. HasRoomWithin depth zs (table_of p n) Plain 0) (sym tables) (rooms_within laws p c depth n j plain 0 (within (width (instance_of p n)) small)))
    where
      within : (k : ℕ) → k < 20001 → 0 + k < bound
      within k l = omega arith

  pub system_exact : system_or_none depth ts missing (slice_get ts place) ≡ system_of (instance_of p n)
  system_exact =
      ap (system_or_none depth ts missing) table_there
      ∙ (ap (λ z. system_or_none depth z missing (Some (table_of p n))) tables
      ∙ (ap (λ d. system_or_none d (table_list p) missing (Some (table_of p n))) deep
      ∙ (ap (λ k. system_or_none (length p) (table_list p) k (Some (table_of p n))) missing_there
      ∙ system_so (width (instance_of p n)) (table_list p) (length p) (table_of p n) (instance_of p n) (number_at (instance_of p n))
      (seen_so laws p c (width (instance_of p n)) (length p) n j plain (number_at (instance_of p n)) 0 small (stands_at_root (instance_of p n)) refl))))
