use Rattle.lus_evaluation.specs.Frame.{no_text}
use Rattle.evaluation_parts.specs.Texts.{frame_text_view}
use Rattle.evaluation_parts.proofs.There.{seen_or}
use Rattle.evaluation_parts.proofs.contracts.text_there.Goals as goal

pub returns : goal.returns
returns c = seen_or frame_text_view no_text c.item_at.result c.args.texts.now c.args.place c.item_at.ensures
