use Rattle.std.proofs.Common.{refl, arith}
use Rattle.meaning_rows.specs.TraceRows.{listing_node}
use Rattle.meaning_rows.proofs.fit_rows.fitting_row.Goals as goal

pub returns-clause-fits : goal.returns-clause-fits
returns-clause-fits c = record {
  node = listing_node;
  named = refl;
  some = omega arith;
  few = omega arith;
  lines = record {
    taken = (
      record { count = refl; each = (refl, (refl, (refl, tt))) },
      (
        record { count = refl; each = (refl, (refl, (refl, tt))) },
        (
          record { count = refl; each = (refl, (refl, (refl, tt))) },
          (
            record { count = refl; each = (refl, tt) },
            (
              record { count = refl; each = (refl, (refl, (refl, tt))) },
              (record { count = refl; each = (refl, tt) }, (record { count = refl; each = (refl, (refl, (refl, tt))) }, tt)),
            ),
          ),
        ),
      ),
    );
    once = (refl, (refl, (refl, (refl, (refl, (refl, (refl, tt)))))));
    given = (refl, (refl, tt));
  };
}

pub returns-clause-nothing_else_listed : goal.returns-clause-nothing_else_listed
returns-clause-nothing_else_listed c = record {
  node = listing_node;
  named = refl;
  some = omega arith;
  few = omega arith;
  lines = record {
    taken = (record { count = refl; each = (refl, (refl, (refl, tt))) }, (record { count = refl; each = (refl, (refl, (refl, tt))) }, tt));
    once = (refl, (refl, tt));
    given = (refl, (refl, tt));
  };
}
