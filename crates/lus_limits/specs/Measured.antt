-- What contracts see of sizes, and of a place whose modes have sizes.
use Rattle.std.specs.Prelude.{ℕ, zero, suc, true, false, List, map, option_map, option_to_list}
use Rattle.lus_tree.specs.declared.place.PlacedName.{PlacedName}
use Rattle.lus_tree.specs.Tree.{Name, Component}
use Rattle.lus_tree.specs.View.{word_view}
use Rattle.lus_meaning.specs.Scene.{Clock, base, sampled_by, clock_of}
use Rattle.lus_meaning.specs.Sizes.{Size, one, two, leaf, ModeSizes}
use Rattle.lus_limits.specs.SizeCuts.{cut_term}
use Rattle.lus_limits.specs.declared.term_size.Size.{Size as CodeSize}
use Rattle.lus_limits.specs.declared.measuring.ModeSize.{ModeSize}

abbrev pub size_view : CodeSize → Size
size_view s = record { levels = s.levels; parts = s.parts }

abbrev pub name_seen : PlacedName → Name
name_seen w = (word_view w).text

abbrev pub mode_view : ModeSize → (List Name × Name) × Size
mode_view m = ((option_to_list (option_map name_seen m.contract), name_seen m.mode), size_view m.size)

abbrev pub modes_view : List ModeSize → ModeSizes
modes_view ms = map mode_view ms

-- so many negations of a clock around a presence
abbrev pub wrapped : ℕ → Size → Size
wrapped zero s = s
wrapped (suc k) s = wrapped k (two s (one leaf))

-- how many negations stand before the presence of a clock ends, in so many steps
abbrev pub negations : ℕ → Component → Clock → ℕ
negations zero n c = zero
negations (suc d) n base = zero
negations (suc d) n (sampled_by true x) = zero
negations (suc d) n (sampled_by false x) = suc (negations d n (clock_of n x))

-- the size of what is behind, with what is to come in so many steps, cut
abbrev pub passes : ℕ → Component → Clock → Size → Size
passes d n c s = cut_term (wrapped (negations d n c) s)
