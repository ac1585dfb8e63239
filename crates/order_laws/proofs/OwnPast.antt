-- In the row of a run the operations outside of a part are its own, where its operands are within.
use Rattle.std.proofs.Common.{ℕ, List, ap, ◌∙◌}
use Rattle.std.specs.List.{list_any}
use Rattle.lus_meaning.specs.Frame.{Frame}
use Rattle.lus_meaning.specs.Scene.{Instance}
use Rattle.lus_meaning.specs.Meaning.{mode_key}
use Rattle.lus_meaning.specs.Contract.{terms}
use Rattle.lus_meaning.specs.Program.{instance_of}
use Rattle.sys_meaning.specs.Items.{Key}
use Rattle.sys_meaning.specs.WellTyped.{IsKnown, IsAmong, TreeFits}
use Rattle.path_laws.proofs.Main.{each_is_well_typed}
use Rattle.slot_values.specs.Parts.{ModesWithin}
use Rattle.slot_values.proofs.Parts.{parts_by_rows}
use Rattle.evaluation_laws.specs.Resolvings.{resolvings}
use Rattle.evaluation_laws.specs.Rows.{AreCalls, RowShows}
use Rattle.evaluation_laws.proofs.RowFrames.{rows_show}
use Rattle.order_laws.specs.Rows.{place_there, standpoint_there, OwnPast, RowsHaveOwnPast}
use Rattle.order_laws.proofs.ModeKeys.{keys, resolving_keys, keys_any}
use Rattle.order_laws.proofs.Frames.{stands_there, clock_there}
use Rattle.order_laws.proofs.Asked.{fine_found, frame_fine}

module _ (i : Instance) (f : Frame) (t : ℕ) (shown : (w : List ℕ) → AreCalls i w → RowShows i f t w) (fits : TreeFits IsKnown i) where
  known_key : (j : Instance) (key : Key) → IsKnown j key → IsAmong (keys (resolvings j)) key
  known_key j key h =
      ap (λ l. list_any (mode_key key) l) (resolving_keys j) ∙ keys_any key (terms j).modes ∙ h

  pub modes_within : (w : List ℕ) → AreCalls i w → ModesWithin (standpoint_there i f t w)
  modes_within w a key ns k l =
      let j : Instance = place_there i f w in
      fine_found i f t shown w key ns _ (resolvings j) (frame_fine i f t shown w j (stands_there i f w a fits)) (known_key j key k) l

  pub own_past_there : (w : List ℕ) → AreCalls i w → OwnPast i f t w
  own_past_there w a ns xs c e h k =
      parts_by_rows (standpoint_there i f t w) (shown w a) (modes_within w a) ns xs c e h (clock_there i f t w (shown w a) c k)

pub rows_have_own_past : RowsHaveOwnPast
rows_have_own_past p c n j m f r t l w a =
    own_past_there (instance_of p n) f t (λ v b. rows_show p c n j m f r t l v b) (each_is_well_typed p c n j).0.tree w a
