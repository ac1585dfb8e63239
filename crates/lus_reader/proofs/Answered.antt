-- What a reading gives is said by the grammar's texts alone.
use Rattle.std.proofs.Common.{◌≡◌, ℕ, true, arith}
use Rattle.lus_tree.specs.Reason.{Refused}
use Rattle.lus_grammar.specs.Stream.{Stream}
use Rattle.lus_grammar.specs.Phrase.{Phrase}
use Rattle.lus_grammar.specs.Syntax.{Counts, Syntax}
use Rattle.lus_grammar.specs.Answers.{Reads, Refuses, IsText, IsNoText}
use Rattle.lus_grammar.specs.Answers as A
use Rattle.lus_grammar.proofs.Fits.{fits}
use Rattle.lus_grammar.proofs.Readings.{whole, stopped}

pub is_text : {V : Type 0} {value : Syntax → V} {s : Stream} {g : Phrase} {i j : ℕ} {n m : Counts} {v : V} → fits g ≡ true
    → Reads value s g i n j m v → IsText value s g i n j m v
is_text e r = record { syntax = r.syntax; whole = whole r.run e; is = r.is }

pub is_no_text : {s : Stream} {g : Phrase} {i : ℕ} {n : Counts} {r : Refused} → fits g ≡ true → Refuses s g i n r → IsNoText s g i n r
is_no_text e (A.Refuses.out_of_memory m) = A.IsNoText.out_of_memory m
is_no_text e (A.Refuses.stopped {c = c} {k = k} run at is) = A.IsNoText.stopped (stopped c k run (omega arith) e) at is
