-- What is answered of a row.
use Rattle.std.specs.Prelude.{ℕ, zero, suc, ◌≡◌, ◌≢◌, true, false, List, map, unsigned_abs}
use Rattle.std.proofs.Common.{sym, ◌∙◌, ap, subst, refl}
use Rattle.std.proofs.lemmas.Int.{ints}
use Rattle.std.proofs.Common.{arith}
use lib.IntN.{ℤ, pos, negsuc}
use lib.Signed.{◌≤ℤ◌, ◌<ℤ◌, lt_z}
use Rattle.kind_num.specs.declared.Past.{Past}
use Rattle.proof_steps.specs.View.{Inequality, Sum}
use Rattle.proof_steps.specs.Rows.{entry}
use Rattle.int_simplex.specs.State.{State}
use Rattle.int_simplex.specs.OnRows.{AreOnRows}
use Rattle.int_simplex.specs.Sound.{IsSound}
use Rattle.int_simplex.proofs.Floors.{is_below, not_below}
use Rattle.int_cuts.specs.Splits.{IsBroken}
use Rattle.int_cuts.specs.Cuts.{IsCut, IsCutPast}
use Rattle.int_cuts.specs.Parts.{facing, AreParts, AreTermsPast, IsMadeOf, IsRowOf, IsSizePast, NoneLooseIn}
use Rattle.int_cuts.specs.declared.parts.Part.{Part}
use Rattle.int_cuts.specs.declared.trouble.Trouble.{Trouble}
use Rattle.int_cuts.specs.declared.trouble.Trouble.TheVariants as t
use Rattle.int_cuts.proofs.Facing.{cut_is}
use Rattle.int_cuts.proofs.Pasts.{past_is, size_past}

size-positive : (z : ℤ) → z ≢ pos 0 → pos 0 <ℤ pos (unsigned_abs z)
size-positive (pos zero) n = absurd (n refl)
size-positive (pos (suc k)) n = omega (arith, ints)
size-positive (negsuc k) n = omega (arith, ints)

module _ (s : State) (x : ℕ) (row : List (ℕ × ℤ)) (own : ℤ) (r : IsRowOf s x row) (f : NoneLooseIn s row x) (e : own ≡ entry row x) where
  pub own_there : own ≢ pos 0
  own_there z = r.is_row.is_row.has_entry (sym (r.is_row.entries x) ∙ sym e ∙ z)

  above : lt_z (pos 0) own ≡ true → pos 0 <ℤ entry row x
  above t = let P : ℤ → Type 0 = λ z. pos 0 <ℤ z in subst P e (is_below (pos 0) own t)

  below : lt_z (pos 0) own ≡ false → entry row x ≤ℤ pos 0
  below t = let P : ℤ → Type 0 = λ z. z ≤ℤ pos 0 in subst P e (not_below (pos 0) own t)

  pub size_past_is : (past : Past) → IsSizePast own past → IsCutPast s x past
  size_past_is past h = size_past s x row own past r f own_there e h

  module _ (d : ℤ) (ed : d ≡ pos (unsigned_abs own)) where
    pub divisor : pos 0 <ℤ d
    divisor = let P : ℤ → Type 0 = λ z. pos 0 <ℤ z in subst P (sym ed) (size-positive own own_there)

    pub cut_from : IsSound s → AreOnRows s → IsBroken s.values x → (parts : List Part) → AreParts s x d (map (facing (lt_z (pos 0) own)) row) parts
        → (line : Sum) (atom : Inequality) → IsMadeOf s parts d line atom → IsCut s x line atom
    cut_from sound on b parts a line atom m =
        cut_is s x d row (lt_z (pos 0) own) parts line atom divisor sound on r f b (ed ∙ ap (λ z. pos (unsigned_abs z)) e) above below a m

    pub past_from : (parts : List Part) → AreParts s x d (map (facing (lt_z (pos 0) own)) row) parts → (o : Trouble) (past : Past) → o ≡ t.Past past
        → AreTermsPast s.given parts o → IsCutPast s x past
    past_from parts a o past q m =
        let P : Trouble → Type 0 = λ y. AreTermsPast s.given parts y in
        past_is s x d row (lt_z (pos 0) own) parts past divisor r f (ed ∙ ap (λ z. pos (unsigned_abs z)) e) above below a (subst P q m)
