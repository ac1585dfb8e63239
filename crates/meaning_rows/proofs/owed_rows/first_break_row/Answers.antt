use Rattle.std.proofs.Common.{rules, ◌≡◌, true, false, ap, arith}
use Rattle.std.proofs.lemmas.Bool.{false≢true}
use Rattle.lus_meaning.specs.Value.{flag, is}
use Rattle.lus_meaning.specs.Run.{IsRun}
use Rattle.lus_meaning.specs.Property.{IsLawful}
use Rattle.lus_meaning.specs.Verdict.{throughout}
use Rattle.meaning_rows.specs.OwedRows.{bounded, broken_frame}
use Rattle.meaning_rows.proofs.owed_rows.first_break_row.Goals as goal

-- src/owed_rows.rt:51:1
pub returns-clause-holds : goal.returns-clause-holds
returns-clause-holds c other h =
    let run : IsRun bounded 3 throughout broken_frame = search rules in
    let lawful : IsLawful bounded throughout broken_frame 1 = search rules in
    let at_one : flag false ≡ flag true = h 3 broken_frame 1 run (omega arith) lawful in
    false≢true (ap (is true) at_one)
