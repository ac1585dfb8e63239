-- The greatest size of the terms of a node's system, by what is known of its callees.
use Rattle.std.specs.Prelude.{◌≡◌, ℕ, ◌<◌, cond, List, [], ◌∷◌, length, map, get_or, Option, None}
use Rattle.lus_tree.specs.Tree.{Name, Statement, equation, assertion, property, main_mark, Component, Program}
use Rattle.lus_meaning.specs.ClockFaults.{components}
use Rattle.lus_meaning.specs.Program.{all_sites, instance_of}
use Rattle.lus_meaning.specs.Refusals.{IsChecked}
use Rattle.lus_meaning.specs.Scene.{no_component}
use Rattle.lus_meaning.specs.Sizes.{Size, ModeSizes, size_in, term_sizes}
use Rattle.lus_limits.specs.declared.calls.Way.{Way}
use Rattle.lus_limits.specs.declared.calls.Way.TheVariants.{Plain, Condition, Import}
use Rattle.lus_limits.specs.declared.needs.Needs.{Needs}
use Rattle.lus_limits.specs.Calls.{Called, called_of}
use Rattle.lus_limits.specs.Needed.{AllKnown, names_of, sizes_at, sizes_or}
use Rattle.lus_limits.specs.Peaks.{greater, no_size, peak}
use Rattle.lus_limits.specs.SizeCuts.{cut_term}
use Rattle.lus_limits.specs.SizeSummaries.{ContractPeaks, SizeSummary, owed_size}

-- of a statement, where it is a property
abbrev pub property_term : Component → ModeSizes → Statement → Size
property_term n ms (property l) = size_in n ms l.value
property_term n ms (equation xs e) = no_size
property_term n ms (assertion e) = no_size
property_term n ms (main_mark p) = no_size

abbrev pub property_terms : Component → ModeSizes → List Statement → Size
property_terms n ms [] = no_size
property_terms n ms (s ∷ ss) = greater (property_term n ms s) (property_terms n ms ss)

-- what is owed to a callee with that contract
abbrev pub owed_at : Way → ContractPeaks → Size
owed_at Import r = no_size
owed_at Plain r = cond r.assumed.is_none no_size (owed_size r.assumes)
owed_at Condition r = cond r.assumed.is_none no_size (owed_size r.assumes)

abbrev pub owed_term : List Name → List (Option Needs) → Called → Size
owed_term names known c = owed_at c.way (sizes_at names known c).contract

abbrev pub owed_terms : List Name → List (Option Needs) → List Called → Size
owed_terms names known [] = no_size
owed_terms names known (c ∷ cs) = greater (owed_term names known c) (owed_terms names known cs)

-- of all terms: the frame, the assumptions, the properties, the promises, the modes together, and what is owed
abbrev pub node_terms : List Name → List (Option Needs) → List Called → Component → SizeSummary → Size
node_terms names known cs n z =
    greater z.called
    (greater z.contract.assumes
    (greater (property_terms n z.contract.modes n.body)
    (greater z.contract.promises (greater z.contract.active.whole (owed_terms names known cs)))))

-- in a checked program of which all needs are known they are the greatest of the node's system, cut
abbrev pub NodeTermsKnown : Type 0
NodeTermsKnown =
    (p : Program) → IsChecked p → (known : List (Option Needs)) → AllKnown p known → (k : ℕ) → k < length (components p)
    → cut_term (node_terms (names_of p) known (map called_of (all_sites (get_or (components p) k no_component)))
    (get_or (components p) k no_component) (sizes_or (get_or known k None)))
    ≡ cut_term (peak (term_sizes (instance_of p (get_or (components p) k no_component))))
