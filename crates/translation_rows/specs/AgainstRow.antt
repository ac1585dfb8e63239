-- A program, a path of it that breaks a property, and the path's trace.
use Rattle.std.specs.Prelude.{◌≡◌, true, false, List, [], ◌∷◌, codes}
use Rattle.lus_meaning.specs.Value.{flag}
use Rattle.lus_meaning.specs.Trace.{of_name, of_first}
use Rattle.sys_terms.specs.declared.term.Entry.{Entry}
use Rattle.sys_terms.specs.declared.term.Entry.TheVariants as entries
use Rattle.sys_terms.specs.Paths.{Breaks}
use Rattle.sys_meaning.specs.Path.{trace_of}
use Rattle.sys_meaning.specs.System.{system_of}
use Rattle.meaning_rows.specs.PairRows.{against}

-- whether the frame is active, a, x, y, z, and the memory of `pre x`
abbrev pub against_first : List Entry
against_first = entries.Flag true ∷ entries.Flag false ∷ entries.Flag true ∷ entries.Flag false ∷ entries.Flag false
    ∷ entries.Flag false ∷ []

abbrev pub against_second : List Entry
against_second = entries.Flag true ∷ entries.Flag true ∷ entries.Flag true ∷ entries.Flag true ∷ entries.Flag false
    ∷ entries.Flag true ∷ []

abbrev pub against_states : List (List Entry)
against_states = against_first ∷ against_second ∷ []

-- the third property, `y = z`, is true at first and then false
abbrev pub AgainstBreaks : Type 0
AgainstBreaks = Breaks (system_of against) 2 against_states

-- the input, the name without an equation, and the first value
abbrev pub AgainstTrace : Type 0
AgainstTrace = trace_of against against_states ≡
    record { path = []; subject = of_name (codes "a"); values = flag false ∷ flag true ∷ [] }
    ∷ record { path = []; subject = of_name (codes "z"); values = flag false ∷ flag false ∷ [] }
    ∷ record { path = []; subject = of_first 1; values = flag false ∷ [] }
    ∷ []
