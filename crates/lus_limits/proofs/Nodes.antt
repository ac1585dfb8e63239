-- The greatest size of the terms of a node's system.
use Rattle.std.proofs.Common.{◌≡◌, List, [], ◌∷◌, map, get_or, Option, None, refl, sym, ap, ◌∙◌}
use Rattle.lus_tree.specs.Tree.{Name, Statement, equation, assertion, property, main_mark, Component}
use Rattle.lus_meaning.specs.ClockFaults.{components}
use Rattle.lus_meaning.specs.Program.{all_sites, instance_of}
use Rattle.lus_meaning.specs.Scene.{Site, Manner, plain, while_true, as_import, no_component}
use Rattle.lus_meaning.specs.Sizes.{ModeSizes, property_sizes, term_sizes}
use Rattle.lus_limits.specs.declared.needs.Needs.{Needs}
use Rattle.lus_limits.specs.Calls.{called_of, way_of}
use Rattle.lus_limits.specs.Needed.{names_of, sizes_at, sizes_or}
use Rattle.lus_limits.specs.Nodes.{owed_at, owed_terms, property_term, property_terms, node_terms, NodeTermsKnown}
use Rattle.lus_limits.specs.Peaks.{greater, peak}
use Rattle.lus_limits.specs.SizeCuts.{cut_summary, cut_term}
use Rattle.lus_limits.specs.SizeSummaries.{ContractPeaks, SizeSummary, all_owed_by, owed_by, summaries_at, size_summary_of, terms_by}
use Rattle.lus_limits.proofs.Needed.{IsAt, among, at_number, sizes_are}
use Rattle.lus_limits.proofs.SizeCuts.{terms_cut}
use Rattle.lus_limits.proofs.SizeSummaries.{terms_by_summaries}
use Rattle.lus_limits.proofs.Settled.{callees_known}
use Rattle.lus_limits.proofs.Peaks.{none_greater}

properties_greatest : (n : Component) (ms : ModeSizes) (ss : List Statement) → peak (property_sizes n ms ss) ≡ property_terms n ms ss
properties_greatest n ms [] = refl
properties_greatest n ms (property l ∷ ss) = ap (greater (property_term n ms (property l))) (properties_greatest n ms ss)
properties_greatest n ms (equation xs e ∷ ss) = properties_greatest n ms ss ∙ sym (none_greater (property_terms n ms ss))
properties_greatest n ms (assertion e ∷ ss) = properties_greatest n ms ss ∙ sym (none_greater (property_terms n ms ss))
properties_greatest n ms (main_mark q ∷ ss) = properties_greatest n ms ss ∙ sym (none_greater (property_terms n ms ss))

owed_same : (m : Manner) (r : ContractPeaks) → owed_by m r ≡ owed_at (way_of m) r
owed_same plain r = refl
owed_same (while_true e) r = refl
owed_same (as_import xs) r = refl

owed_greatest : (names : List Name) (known : List (Option Needs)) (ss : List Site)
    → all_owed_by ss (map (sizes_at names known) (map called_of ss)) ≡ owed_terms names known (map called_of ss)
owed_greatest names known [] = refl
owed_greatest names known (s ∷ ss) =
    ap (λ z. greater z (all_owed_by ss (map (sizes_at names known) (map called_of ss)))) (owed_same s.manner (sizes_at names known (called_of s)).contract)
    ∙ ap (greater (owed_at (way_of s.manner) (sizes_at names known (called_of s)).contract)) (owed_greatest names known ss)

terms_same : (names : List Name) (known : List (Option Needs)) (n : Component) (z : SizeSummary)
    → terms_by (map (sizes_at names known) (map called_of (all_sites n))) n z ≡ node_terms names known (map called_of (all_sites n)) n z
terms_same names known n z =
    ap (λ a. greater z.called (greater z.contract.assumes (greater a (greater z.contract.promises (greater z.contract.active.whole
    (all_owed_by (all_sites n) (map (sizes_at names known) (map called_of (all_sites n)))))))))
    (properties_greatest n z.contract.modes n.body)
    ∙ ap (λ a. greater z.called (greater z.contract.assumes (greater (property_terms n z.contract.modes n.body)
    (greater z.contract.promises (greater z.contract.active.whole a)))))
    (owed_greatest names known (all_sites n))

pub node_terms_known : NodeTermsKnown
node_terms_known p c known a k h = go (at_number p (components p) known k a.right (a.all k h))
  where
    n : Component
    n = get_or (components p) k no_component

    zs : List SizeSummary
    zs = map (sizes_at (names_of p) known) (map called_of (all_sites n))

    go : (d : Needs) × IsAt p (components p) known k n d
        → cut_term (node_terms (names_of p) known (map called_of (all_sites n)) n (sizes_or (get_or known k None))) ≡ cut_term
        (peak (term_sizes (instance_of p n)))
    go (d, i) =
        let z : sizes_or (get_or known k None) ≡ cut_summary (size_summary_of p n) = ap sizes_or i.needs ∙ i.right.sizes in
        let s : zs ≡ map cut_summary (summaries_at p (all_sites n)) = sizes_are p known a.right (all_sites n) (callees_known p c known a k h) in
        ap cut_term (sym (terms_same (names_of p) known n (sizes_or (get_or known k None))))
        ∙ ap (λ y. cut_term (terms_by zs n y)) z
        ∙ ap (λ ys. cut_term (terms_by ys n (cut_summary (size_summary_of p n)))) s
        ∙ sym (terms_cut n (summaries_at p (all_sites n)) (size_summary_of p n))
        ∙ ap cut_term (sym (terms_by_summaries p c n (among (components p) k h)))
