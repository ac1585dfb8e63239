-- What callers need of a declaration, cut at a bound past all limits of widths and counts, and the same by its own text.
use Rattle.std.specs.Prelude.{◌≡◌, ℕ, suc, pred, ◌+◌, min, Bool, cond, not, is_none, List, [], ◌∷◌, map, length, slice_index_or}
use Rattle.lus_tree.specs.Tree.{Expression, Expressions, truth, number, name, negation, minus, pre, arrow, binary, choice, sampled, merged, call, condact, mode_name, no_more, more, Component, Program}
use Rattle.lus_meaning.specs.Scene.{as_import, Site, contract_statements, variables}
use Rattle.lus_meaning.specs.Program.{all_sites, instance_of}
use Rattle.lus_meaning.specs.Contract.{terms}
use Rattle.lus_meaning.specs.Property.{properties}
use Rattle.lus_meaning.specs.Slots.{held_cells}
use Rattle.lus_meaning.specs.RuleLaws.{OfEach}
use Rattle.lus_limits.specs.declared.calls.Way.{Way}
use Rattle.lus_limits.specs.declared.calls.Way.TheVariants.{Plain, Condition, Import}
use Rattle.lus_limits.specs.declared.summing.ItemCounts.{ItemCounts}
use Rattle.lus_limits.specs.declared.summing.Summary.{Summary}
use Rattle.lus_limits.specs.declared.summing.Link.{Link}
use Rattle.lus_limits.specs.Calls.{way_of}
use Rattle.lus_limits.specs.Counts.{Counts, none_counted, counted, contract_counts, property_count, cut_counts}
use Rattle.lus_limits.specs.Instances.{callee}
use Rattle.lus_limits.specs.Parts.{sides}
use Rattle.lus_limits.specs.Widths.{frame_width}

-- one past the greatest limit of a count
abbrev pub bound : ℕ
bound = 20001

abbrev pub cut : ℕ → ℕ
cut k = min bound k

abbrev pub counts_view : ItemCounts → Counts
counts_view c = record { assumes = c.assumes; guarantees = c.guarantees; ensures = c.ensured; modes = c.modes }

abbrev pub as_code : Counts → ItemCounts
as_code c = record { assumes = c.assumes; guarantees = c.guarantees; ensured = c.ensures; modes = c.modes }

-- the cells of a frame that runs as an import, whether there is a contract, what this counts, and how many properties
abbrev pub summary_of : Program → Component → Summary
summary_of p n = record {
  frame = cut (frame_width p (as_import []) n);
  contract = not (is_none n.contract);
  counts = as_code (cut_counts bound (counted (terms (instance_of p n))));
  properties = cut (length (properties (instance_of p n)));
}

-- a call or import: how it runs, how many outputs are held, and its callee
abbrev pub link_of : Program → Site → Link
link_of p s = record {
  way = way_of s.manner;
  held = cut (length (held_cells s (callee p s.callee) s.manner));
  callee = summary_of p (callee p s.callee);
}

-- ---- by text

-- how many occurrences of `pre` and `->` an expression has
abbrev mutual
  pub state_count : Expression → ℕ
  state_count (truth p b) = 0
  state_count (number p n) = 0
  state_count (name p x) = 0
  state_count (negation p a) = state_count a
  state_count (minus p a) = state_count a
  state_count (pre p k a) = suc (state_count a)
  state_count (arrow p k a b) = suc (state_count a + state_count b)
  state_count (binary p o a b) = state_count a + state_count b
  state_count (choice p a b c) = state_count a + (state_count b + state_count c)
  state_count (sampled p a b x) = state_count a
  state_count (merged p x a b) = state_count a + state_count b
  state_count (call p k f as_) = states_among as_
  state_count (condact p k a f as_ ds) = state_count a + (states_among as_ + states_among ds)
  state_count (mode_name p c m) = 0

  pub states_among : Expressions → ℕ
  states_among no_more = 0
  states_among (more a as_) = state_count a + states_among as_

abbrev pub states_in : List Expression → ℕ
states_in [] = 0
states_in (e ∷ es) = state_count e + states_in es

-- the beat, the names, and what `pre` and `->` keep
abbrev pub own_count : Component → ℕ
own_count n = suc (length (variables n) + states_in (sides n))

-- a node's frame keeps whether its assumptions were true; an import's has none of its own
abbrev pub sofar_count : Way → Bool → ℕ
sofar_count Import c = 0
sofar_count Plain c = cond c 1 0
sofar_count Condition c = cond c 1 0

abbrev pub links_width : List Link → ℕ
links_width [] = 0
links_width (l ∷ ls) = l.held + ((l.callee.frame + sofar_count l.way l.callee.contract) + links_width ls)

abbrev pub owed_of : Way → ℕ → ℕ
owed_of Import k = 0
owed_of Plain k = k
owed_of Condition k = k

abbrev pub links_owed : List Link → ℕ
links_owed [] = 0
links_owed (l ∷ ls) = owed_of l.way l.callee.counts.assumes + links_owed ls

-- the counts of the import with that number
abbrev pub link_counts : List Link → ℕ → Counts
link_counts ls k = slice_index_or (map (λ l. counts_view l.callee.counts) ls) (pred k) none_counted

abbrev pub counts_by : Component → List Link → Counts
counts_by n ls = cut_counts bound (contract_counts (link_counts ls) (contract_statements n))

abbrev pub summary_by : Component → List Link → Summary
summary_by n ls = record {
  frame = cut (own_count n + links_width ls);
  contract = not (is_none n.contract);
  counts = as_code (counts_by n ls);
  properties = cut (property_count n.body (counts_by n ls) (links_owed ls));
}

-- what callers need of a declaration of a checked program is known from its own text and what is needed of its callees
abbrev pub SummaryByText : Type 0
SummaryByText = OfEach (λ p n. summary_by n (map (link_of p) (all_sites n)) ≡ summary_of p n)
