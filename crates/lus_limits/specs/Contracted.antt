-- What contracts see of the sizes of a contract's terms.
use Rattle.std.specs.Prelude.{◌≡◌, ℕ, List, map}
use Rattle.std.specs.Borrow.{Bor}
use Rattle.lus_tree.specs.Tree.{Name, Labelled, ContractStatement, assume, guarantee, ghost_variable, constant, mode, «import», Component}
use Rattle.lus_meaning.specs.Sizes.{all_of, asked_size, size_in, sizes_of}
use Rattle.lus_limits.specs.Chained.{chain_view}
use Rattle.lus_limits.specs.Measured.{modes_view, size_view}
use Rattle.lus_limits.specs.Peaks.{peak}
use Rattle.lus_limits.specs.SizeCuts.{cut_peaks}
use Rattle.lus_limits.specs.SizeSummaries.{ContractPeaks, SizeSummary, with_assumption, with_promises, with_mode, with_import}
use Rattle.lus_limits.specs.declared.contract_size.ContractSize.{ContractSize}
use Rattle.lus_limits.specs.declared.contract_size.SizeSummary.{SizeSummary as CodeSummary}

abbrev pub contract_seen : ContractSize → ContractPeaks
contract_seen c = record {
  assumes = size_view c.assumes;
  assumed = chain_view c.assumed;
  promises = size_view c.promises;
  active = chain_view c.active;
  modes = modes_view c.modes.items;
}

abbrev pub summary_seen : CodeSummary → SizeSummary
summary_seen z = record { contract = contract_seen z.contract; called = size_view z.called; imported = size_view z.imported }

abbrev pub summaries_seen : List (Bor CodeSummary) → List SizeSummary
summaries_seen zs = map (λ z. summary_seen z.now) zs

-- nothing of it is past the cut
abbrev pub IsCut : ContractPeaks → Type 0
IsCut r = cut_peaks r ≡ r

-- a contract with one mode more
abbrev pub mode_after : Component → ContractPeaks → Name → List Labelled → List Labelled → ContractPeaks
mode_after n r m rs es =
    with_mode (with_promises r (peak (map (asked_size (all_of (sizes_of n r.modes rs))) (sizes_of n r.modes es)))) m
    (all_of (sizes_of n r.modes rs))

-- a contract with one item more
abbrev pub item_after : Component → (ℕ → ContractPeaks) → ContractPeaks → ContractStatement → ContractPeaks
item_after n sub r (assume l) = with_assumption r (size_in n r.modes l.value)
item_after n sub r (guarantee l) = with_promises r (size_in n r.modes l.value)
item_after n sub r (mode m rs es) = mode_after n r m.text rs es
item_after n sub r («import» k c as_ xs) = with_import r c.text (sub k)
item_after n sub r (ghost_variable v e) = r
item_after n sub r (constant c) = r
