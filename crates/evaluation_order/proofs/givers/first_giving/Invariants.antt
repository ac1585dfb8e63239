use Rattle.std.proofs.Common.{◌≡◌, drop}
use Rattle.std.specs.List.{position_from}
use Rattle.lus_evaluation.specs.Evaluation.{gives_name}
use Rattle.evaluation_parts.specs.PartViews.{parts_view}
use Rattle.evaluation_order.proofs.givers.first_giving.Given as goal

abbrev pub invariant-loop-part : goal.invariant-loop-part
invariant-loop-part l = record {
  counted : l.number ≡ l.part-index;
  found : position_from (gives_name l.way l.name) l.part-index (parts_view (drop l.part-index l.parts))
      ≡ position_from (gives_name l.way l.name) 0 (parts_view l.parts);
}
