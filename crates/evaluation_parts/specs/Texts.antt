-- What contracts see of the texts of frames, and of where a text stands.
use Rattle.std.specs.Prelude.{List, map}
use Rattle.lus_meaning.specs.Cycle.{Place}
use Rattle.lus_evaluation.specs.Part.{Part, Key, Setting}
use Rattle.lus_evaluation.specs.Frame.{ModeText, ContractText, FrameText, setting, text_at}
use Rattle.evaluation_parts.specs.declared.text.ModeText.{ModeText as ModeTextCode}
use Rattle.evaluation_parts.specs.declared.text.ContractText.{ContractText as ContractTextCode}
use Rattle.evaluation_parts.specs.declared.text.FrameText.{FrameText as FrameTextCode}
use Rattle.evaluation_parts.specs.declared.setting.Setting.{Setting as SettingCode}
use Rattle.evaluation_parts.specs.Needed.{texts}
use Rattle.evaluation_parts.specs.PartViews.{filled_each, parts_view}
use Rattle.evaluation_parts.specs.Views.{frame_instance}

abbrev pub mode_key_view : ModeTextCode → Key
mode_key_view m = (texts m.contracts.items, m.mode.now)

-- what is evaluated where the mode is named, in a whole of these needs
abbrev pub asked_view : ModeTextCode → List Place → List Part
asked_view m ns = filled_each ns m.asked.items

abbrev pub mode_text_view : ModeTextCode → ModeText
mode_text_view m = record {
  key = mode_key_view m;
  asked = asked_view m;
  required = parts_view m.required.items;
  ensured = parts_view m.ensured.items;
}

abbrev pub mode_texts_view : List ModeTextCode → List ModeText
mode_texts_view ms = map mode_text_view ms

abbrev pub contract_text_view : ContractTextCode → ContractText
contract_text_view k = record {
  assumed = parts_view k.assumed.items;
  guaranteed = parts_view k.guaranteed.items;
  modes = mode_texts_view k.modes.items;
}

abbrev pub frame_text_view : FrameTextCode → FrameText
frame_text_view t = record {
  body = parts_view t.body.items;
  contract = contract_text_view t.contract;
  asserted = parts_view t.asserted.items;
}

abbrev pub frame_texts_view : List FrameTextCode → List FrameText
frame_texts_view ts = map frame_text_view ts

abbrev pub setting_view : SettingCode → Setting
setting_view s =
    setting (frame_instance s.frame) s.way.now (text_at (frame_texts_view s.texts.now)) (mode_texts_view s.modes.now)
