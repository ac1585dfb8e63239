-- The conditions of a contract, one item after the other.
use Rattle.std.specs.Prelude.{ℕ, List, [], ◌∷◌, ◌++◌, map, flat_map, Option, option_map, unwrap_or}
use Rattle.std.specs.Borrow.{Bor}
use Rattle.lus_tree.specs.Tree.{Name, Labelled, ContractStatement, assume, guarantee, ghost_variable, constant, mode, «import»}
use Rattle.lus_meaning.specs.Cycle.{Place}
use Rattle.lus_meaning.specs.Scene.{base, Instance}
use Rattle.lus_evaluation.specs.Part.{Part, Setting, parts}
use Rattle.lus_evaluation.specs.Frame.{ModeText, ContractText, FrameText, Calls, no_text, setting, conditions_of, mode_text, imported_mode, contract_after, text_at}
use Rattle.evaluation_parts.specs.declared.part.Part.{Part as PartCode}
use Rattle.evaluation_parts.specs.declared.text.ModeText.{ModeText as ModeTextCode}
use Rattle.evaluation_parts.specs.declared.text.FrameText.{FrameText as FrameTextCode}
use Rattle.evaluation_parts.specs.declared.setting.Setting.{Setting as SettingCode}
use Rattle.evaluation_parts.specs.PartViews.{parts_view}
use Rattle.evaluation_parts.specs.Texts.{frame_text_view, frame_texts_view, mode_texts_view}
use Rattle.evaluation_parts.specs.Views.{frame_instance}

-- conditions and modes that are kept each by itself
abbrev pub joint_view : List PartCode → List PartCode → List ModeTextCode → ContractText
joint_view as_ gs ms = record { assumed = parts_view as_; guaranteed = parts_view gs; modes = mode_texts_view ms }

abbrev pub text_or_none : Option (Bor FrameTextCode) → FrameText
text_or_none t = unwrap_or (option_map (λ r. frame_text_view r.now) t) no_text

-- what a mode requires, as operands of a whole of these needs
abbrev pub asked_of : Setting → List Labelled → List Place → List Part
asked_of g rs ns = flat_map (λ r. parts g ns [] base r.value) rs

abbrev pub ensured_of : Setting → List Labelled → List Labelled → List Part
ensured_of g rs es = flat_map (λ e. conditions_of g rs ++ conditions_of g (e ∷ [])) es

-- ---- one item after the other

abbrev pub with_import : Name → ContractText → ContractText → ContractText
with_import c k t = record {
  assumed = t.assumed ++ k.assumed;
  guaranteed = t.guaranteed ++ k.guaranteed;
  modes = t.modes ++ map (imported_mode c) k.modes;
}

abbrev pub with_assumed : ContractText → List Part → ContractText
with_assumed t qs = record { assumed = t.assumed ++ qs; guaranteed = t.guaranteed; modes = t.modes }

abbrev pub with_guaranteed : ContractText → List Part → ContractText
with_guaranteed t qs = record { assumed = t.assumed; guaranteed = t.guaranteed ++ qs; modes = t.modes }

abbrev pub with_mode : ContractText → ModeText → ContractText
with_mode t m = record { assumed = t.assumed; guaranteed = t.guaranteed; modes = t.modes ++ m ∷ [] }

-- what there is, and behind it what an item adds
abbrev pub after_item : Instance → List ℕ → Calls → ContractText → ContractStatement → ContractText
after_item i w sub t (assume l) = with_assumed t (conditions_of (setting i w sub t.modes) (l ∷ []))
after_item i w sub t (guarantee l) = with_guaranteed t (conditions_of (setting i w sub t.modes) (l ∷ []))
after_item i w sub t (ghost_variable x e) = t
after_item i w sub t (constant c) = t
after_item i w sub t (mode m rs es) = with_mode t (mode_text (setting i w sub t.modes) m.text rs es)
after_item i w sub t («import» k c as_ xs) = with_import c.text (sub k).contract t

abbrev pub after_rest : ContractText → ContractText → ContractText
after_rest t r = record { assumed = t.assumed ++ r.assumed; guaranteed = t.guaranteed ++ r.guaranteed; modes = r.modes }

-- what there is, and behind it what the rest of a contract adds
abbrev pub after_items : Instance → List ℕ → Calls → ContractText → List ContractStatement → ContractText
after_items i w sub t cs = after_rest t (contract_after i w sub t.modes cs)

abbrev pub calls_view : SettingCode → Calls
calls_view s = text_at (frame_texts_view s.texts.now)

-- where a text stands, if these modes may be named
abbrev pub naming : SettingCode → List ModeTextCode → Setting
naming s ms = setting (frame_instance s.frame) s.way.now (calls_view s) (mode_texts_view ms)

abbrev pub with_item : SettingCode → ContractText → ContractStatement → ContractText
with_item s t c = after_item (frame_instance s.frame) s.way.now (calls_view s) t c

abbrev pub with_items : SettingCode → ContractText → List ContractStatement → ContractText
with_items s t cs = after_items (frame_instance s.frame) s.way.now (calls_view s) t cs
