-- The greatest sizes of a declaration's frame, item by item.
use Rattle.std.specs.Prelude.{◌≡◌, List, [], ◌∷◌, map, length}
use Rattle.lus_tree.specs.Tree.{Name, Component}
use Rattle.lus_meaning.specs.Scene.{contract_statements, variables}
use Rattle.lus_meaning.specs.Sizes.{Size}
use Rattle.lus_limits.specs.declared.calls.Way.{Way}
use Rattle.lus_limits.specs.declared.calls.Way.TheVariants.{Plain, Condition, Import}
use Rattle.lus_meaning.specs.Program.{all_sites}
use Rattle.lus_meaning.specs.RuleLaws.{OfEach}
use Rattle.lus_limits.specs.Calls.{way_of}
use Rattle.lus_limits.specs.Peaks.{no_size, greater, peak}
use Rattle.lus_limits.specs.OwnTerms.{all_contract_terms, constant_terms, body_terms, free_terms, own_terms}
use Rattle.lus_limits.specs.SizeSummaries.{ContractPeaks, SizeSummary, contract_by, inputs_given, all_given, sofar_by, size_summary_by}

abbrev pub frame_at : Way → SizeSummary → Size
frame_at Import z = z.imported
frame_at Plain z = z.called
frame_at Condition z = z.called

abbrev pub frames_of : List Way → List SizeSummary → Size
frames_of [] zs = no_size
frames_of (w ∷ ws) [] = no_size
frames_of (w ∷ ws) (z ∷ zs) = greater (frame_at w z) (frames_of ws zs)

-- the own terms and what stands for calls, and the callees' frames
abbrev pub items_by : List Way → List SizeSummary → List Name → Component → ContractPeaks → Size
items_by ws zs given n r = greater (own_terms given n r) (frames_of ws zs)

abbrev pub summary_by_items : List Way → List SizeSummary → Component → SizeSummary
summary_by_items ws zs n =
    let r : ContractPeaks = contract_by zs n in
    record { contract = r; called = items_by ws zs (inputs_given n) n r; imported = items_by ws zs (all_given n) n r }

-- the own terms, where a table has these names
abbrev pub own_known : List Name → Component → ContractPeaks → Size
own_known ks n r =
    greater (all_contract_terms n r.modes (contract_statements n))
    (greater (constant_terms n r.modes n.constants)
    (greater (body_terms n r.modes n.body)
    (greater (free_terms ks n (variables n)) (peak (sofar_by n.contract r.assumed.whole)))))

-- how the calls of a declaration run, by number
abbrev pub ways_of : Component → List Way
ways_of n = map (λ s. way_of s.manner) (all_sites n)

-- in a checked program the summary by items is the one by the text
abbrev pub SummaryByItems : Type 0
SummaryByItems =
    OfEach (λ p n. (zs : List SizeSummary) → length zs ≡ length (all_sites n) → size_summary_by zs n ≡ summary_by_items (ways_of n) zs n)
