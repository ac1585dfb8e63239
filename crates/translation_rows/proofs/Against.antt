-- A path of a program breaks a property.
use Rattle.std.proofs.Common.{◌≡◌, Bool, true, false, List, [], ◌∷◌, refl, ap}
use Rattle.std.proofs.lemmas.Bool.{false≢true}
use Rattle.sys_terms.specs.declared.term.Entry.{Entry}
use Rattle.sys_terms.specs.View.{Formula}
use Rattle.sys_terms.specs.Meaning.{values_of, truth_of}
use Rattle.sys_terms.specs.Paths.{IsState}
use Rattle.sys_meaning.specs.System.{system_of}
use Rattle.sys_meaning.proofs.RunPath.{positioned}
use Rattle.meaning_rows.specs.PairRows.{against}
use Rattle.translation_rows.specs.AgainstRow.{against_first, against_second, against_states, AgainstBreaks}

abbrev IsTrueOver : List Entry → List Entry → Formula → Type 0
IsTrueOver s t f = truth_of (values_of s) (values_of t) f ≡ true

pub against_breaks : AgainstBreaks
against_breaks = record {
  path = record {
    loose = record {
      some = λ e. false≢true (ap is_none e);
      each = positioned (IsState (system_of against)) against_states (first_state, (second_state, tt));
      joined = (positioned (IsTrueOver against_first against_second) (system_of against).next (refl, tt), tt);
    };
    first = positioned (IsTrueOver against_first against_first) (system_of against).first tt;
  };
  broken = (refl, refl);
}
  where
    is_none : List (List Entry) → Bool
    is_none [] = true
    is_none (s ∷ ss) = false

    first_state : IsState (system_of against) against_first
    first_state = record {
      fit = refl;
      here = positioned (IsTrueOver against_first against_first) (system_of against).here
          (refl, (refl, (refl, (refl, tt))));
      legal = positioned (IsTrueOver against_first against_first) (system_of against).legal tt;
    }

    second_state : IsState (system_of against) against_second
    second_state = record {
      fit = refl;
      here = positioned (IsTrueOver against_second against_second) (system_of against).here
          (refl, (refl, (refl, (refl, tt))));
      legal = positioned (IsTrueOver against_second against_second) (system_of against).legal tt;
    }
