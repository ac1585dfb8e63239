-- Streams by their names.
use Rattle.std.specs.Prelude.{◌≡◌, List, ◌++◌, map, Option, find}
use Rattle.std.specs.Borrow.{Bor}
use Rattle.std.specs.Str.{bytes_eq}
use Rattle.lus_tree.specs.declared.place.Param.{Param}
use Rattle.lus_streams.specs.declared.streams.Streams.{Streams}
use Rattle.lus_tree.specs.Tree.{Name, Variable}
use Rattle.lus_tree.specs.View.{param_view}

abbrev pub params_view : List (Bor Param) → List Variable
params_view vs = map (λ v. param_view v.now) vs

abbrev pub names_of : List Variable → List Name
names_of vs = map (λ v. v.name.text) vs

-- the first of that name
abbrev pub stream_named : List Variable → Name → Option Variable
stream_named vs x = find (λ v. bytes_eq x v.name.text) vs

-- the names are those of these streams, which are the first of each name among all
pub record AreFirst (table : List Name) (firsts all : List Variable) : Type 0 where
  pub names : table ≡ names_of firsts
  pub found : (x : Name) → stream_named firsts x ≡ stream_named all x

abbrev pub AreOf : Streams → List Variable → Type 0
AreOf s vs = AreFirst s.numbers (params_view s.firsts.items) vs

-- whatever streams there were, these stand behind them
abbrev pub Adds : Streams → Streams → List Variable → Type 0
Adds old new us = (vs : List Variable) → AreOf old vs → AreOf new (vs ++ us)
