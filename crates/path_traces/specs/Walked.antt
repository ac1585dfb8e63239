-- The lines of a frame and of those of its calls, by the numbers of their variables, with calls nested no deeper than said.
use Rattle.std.specs.Prelude.{ℕ, zero, suc, ◌+◌, List, [], ◌∷◌, ◌++◌, map, length, get_or}
use Rattle.lus_tree.specs.Tree.{Variable}
use Rattle.lus_meaning.specs.Trace.{BareLine}
use Rattle.sys_terms.specs.declared.term.Entry.{Entry}
use Rattle.lus_limits.specs.declared.calls.Way.{Way}
use Rattle.lus_limits.specs.Calls.{Called}
use Rattle.path_traces.specs.Numbered.{name_line, first_lines}
use Rattle.path_traces.specs.Plans.{Plan, plan_named, own_width, held_count, free_by}

-- those of the frame itself, of which these names are listed
abbrev pub own_lines : List (List Entry) → List ℕ → ℕ → List Variable → Plan → List BareLine
own_lines states path b listed p =
    map (name_line path states p.names b) listed ++ first_lines path (get_or states 0 []) (b + suc (length p.names)) 1 p.memories

-- what is said of a frame: how many variables it and those of its calls have, and their lines
pub record Walk : Type 0 where
  pub width : Way → Plan → ℕ
  pub lines : Way → List ℕ → ℕ → List Variable → Plan → List BareLine

-- the variables of a call: those that the caller holds, and those of its frame
abbrev pub call_width : Walk → Called → Plan → ℕ
call_width k c p = held_count c p + k.width c.way p

abbrev pub calls_width : Walk → List Plan → List Called → ℕ
calls_width k ps [] = 0
calls_width k ps (c ∷ cs) = call_width k c (plan_named ps c.callee) + calls_width k ps cs

abbrev pub call_line : Walk → List ℕ → ℕ → Called → Plan → List BareLine
call_line k path b c p = k.lines c.way (path ++ c.number ∷ []) (b + held_count c p) (free_by c.way p) p

abbrev pub calls_lines : Walk → List Plan → List ℕ → ℕ → List Called → List BareLine
calls_lines k ps path b [] = []
calls_lines k ps path b (c ∷ cs) = call_line k path b c (plan_named ps c.callee)
    ++ calls_lines k ps path (b + call_width k c (plan_named ps c.callee)) cs

abbrev pub walk : List (List Entry) → List Plan → ℕ → Walk
walk states ps zero = record { width = own_width; lines = λ w path b listed p. own_lines states path b listed p }
walk states ps (suc m) = record {
  width = λ w p. own_width w p + calls_width (walk states ps m) ps p.calls;
  lines = λ w path b listed p. own_lines states path b listed p
      ++ calls_lines (walk states ps m) ps path (b + own_width w p) p.calls;
}
