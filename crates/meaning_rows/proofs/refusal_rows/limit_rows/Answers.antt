use Rattle.std.proofs.Common.{◌≡◌, true, refl, get_or, Some, None, codes}
use Rattle.lus_tree.specs.Reason.{main_unknown, too_many}
use Rattle.lus_meaning.specs.Faults.{fault}
use Rattle.lus_meaning.specs.Limits.{size_faults}
use Rattle.lus_tree.specs.Tree.{Component}
use Rattle.lus_tree.specs.Numbers.{Counted, a_pre, an_arrow, a_call, are_counted, numbers_in}
use Rattle.lus_meaning.specs.Scene.{no_component}
use Rattle.lus_meaning.specs.ClockFaults.{components}
use Rattle.lus_meaning.specs.Grammatical.{IsGrammaticalComponent}
use Rattle.meaning_rows.specs.PlacedParts.{at}
use Rattle.meaning_rows.specs.RefusalRows.{late_argument, counting_up, five_hundred_and_one}
use Rattle.lus_meaning.proofs.FirstFault.{none_of}
use Rattle.lus_meaning.proofs.NoCircle.{follows_row, limit_row}
use Rattle.meaning_rows.proofs.refusal_rows.limit_rows.Goals as goal

pub returns-clause-main : goal.returns-clause-main
returns-clause-main c = limit_row counting_up (Some (codes "nobody")) (fault main_unknown (at 1 1))
    (follows_row counting_up 9 refl refl refl refl) refl refl refl

pub returns-clause-within : goal.returns-clause-within
returns-clause-within c = (follows_row counting_up 9 refl refl refl refl, none_of (size_faults counting_up (Some (codes "main"))) refl)

pub returns-clause-properties : goal.returns-clause-properties
returns-clause-properties c = limit_row five_hundred_and_one None (fault (too_many 500) (at 1 6))
    (follows_row five_hundred_and_one 9 refl refl refl refl) refl refl refl

abbrev late_part : Component
late_part = get_or (components late_argument) 0 no_component

abbrev late_main : Component
late_main = get_or (components late_argument) 1 no_component

part_counted : (c : Counted) → are_counted (numbers_in c late_part) ≡ true
part_counted a_pre = refl
part_counted an_arrow = refl
part_counted a_call = refl

main_counted : (c : Counted) → are_counted (numbers_in c late_main) ≡ true
main_counted a_pre = refl
main_counted an_arrow = refl
main_counted a_call = refl

part_is_plain : IsGrammaticalComponent late_part
part_is_plain = record
    { name = refl; names = refl; modes = refl; words = refl; clocks = refl; forms = refl; lefts = refl; labels = refl; numbered = record { each = part_counted } }

main_is_plain : IsGrammaticalComponent late_main
main_is_plain = record
    { name = refl; names = refl; modes = refl; words = refl; clocks = refl; forms = refl; lefts = refl; labels = refl; numbered = record { each = main_counted } }

pub returns-clause-grammatical : goal.returns-clause-grammatical
returns-clause-grammatical c = (part_is_plain, (main_is_plain, tt))
