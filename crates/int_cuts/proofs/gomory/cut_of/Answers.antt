use Rattle.int_cuts.specs.Parts.{IsRowOf}
use Rattle.int_cuts.proofs.Listed.{loose_is}
use Rattle.int_cuts.proofs.gomory.cut_of.Goals as goal

pub returns-in-Some-loose_in : goal.returns-in-Some-loose_in
returns-in-Some-loose_in c =
    let r : IsRowOf c.args.tableau.now c.in-Some.x c.in-Some-row.row.now = record {
      is_row = c.in-Some-row.ensures.row;
      in_order = c.in-Some-row.ensures.in_order;
      in_range = c.in-Some-row.ensures.in_range;
      entries = c.in-Some-row.ensures.entries;
    } in (
      c.in-Some.x,
      c.in-Some.field-0-1,
      c.in-Some.ensures,
      loose_is c.args.tableau.now c.in-Some.x c.in-Some-loose_in.column c.in-Some-row.row.now r c.in-Some-loose_in.ensures,
    )
