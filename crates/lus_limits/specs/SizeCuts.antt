-- Sizes cut past the limits of levels and parts.
use Rattle.std.specs.Prelude.{◌≡◌, ℕ, min, List, map}
use Rattle.lus_tree.specs.Tree.{Component}
use Rattle.lus_meaning.specs.Sizes.{Size, ModeSizes}
use Rattle.lus_limits.specs.Sizes.{cut_size}
use Rattle.lus_limits.specs.Peaks.{Chain}
use Rattle.lus_limits.specs.SizeSummaries.{ContractPeaks, SizeSummary, size_summary_by, terms_by}

-- one past the greatest levels and the greatest parts of a term
abbrev pub level_bound : ℕ
level_bound = 4001

abbrev pub part_bound : ℕ
part_bound = 1000001

abbrev pub cut_term : Size → Size
cut_term s = cut_size level_bound part_bound s

abbrev pub cut_modes : ModeSizes → ModeSizes
cut_modes ms = map (λ m. (m.0, cut_term m.1)) ms

abbrev pub cut_chain : Chain → Chain
cut_chain c = record {
  is_none = c.is_none;
  whole = cut_term c.whole;
  lift = min level_bound c.lift;
  behind = cut_term c.behind;
}

abbrev pub cut_peaks : ContractPeaks → ContractPeaks
cut_peaks r = record {
  assumes = cut_term r.assumes;
  assumed = cut_chain r.assumed;
  promises = cut_term r.promises;
  active = cut_chain r.active;
  modes = cut_modes r.modes;
}

abbrev pub cut_summary : SizeSummary → SizeSummary
cut_summary z = record {
  contract = cut_peaks z.contract;
  called = cut_term z.called;
  imported = cut_term z.imported;
}

-- a summary, cut, is known from summaries of callees that are cut
abbrev pub SizeSummaryCuts : Type 0
SizeSummaryCuts =
    (n : Component) (zs : List SizeSummary) →
    cut_summary (size_summary_by zs n) ≡ cut_summary (size_summary_by (map cut_summary zs) n)

abbrev pub TermsCut : Type 0
TermsCut =
    (n : Component) (zs : List SizeSummary) (z : SizeSummary) →
    cut_term (terms_by zs n z) ≡ cut_term (terms_by (map cut_summary zs) n (cut_summary z))
