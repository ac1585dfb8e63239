-- How large the terms of declarations are, by finite summaries: what callers need of a declaration, and the same by its
-- own text and the summaries of its callees.
use Rattle.std.specs.Prelude.{◌≡◌, ℕ, pred, Bool, true, false, cond, List, [], ◌∷◌, ◌++◌, map, slice_index_or, Option, Some, None, nat_lt}
use Rattle.std.specs.List.{list_any}
use Rattle.lus_tree.specs.Tree.{Name, ContractStatement, assume, guarantee, ghost_variable, constant, mode, «import», Component, Program}
use Rattle.lus_meaning.specs.Scene.{contract_statements, Manner, plain, while_true, as_import, Site, no_component}
use Rattle.lus_meaning.specs.Program.{all_sites, instance_of}
use Rattle.lus_meaning.specs.Occurrences.{memories, starts}
use Rattle.lus_meaning.specs.Sizes.{Size, leaf, one, two, all_of, ModeSizes, size_in, sizes_of, imported_size, ContractSizes, asked_size, contract_sizes, equation_sizes, free_sizes, memory_size, start_size, assert_sizes, site_sizes, frame_sizes, property_sizes, term_sizes}
use Rattle.lus_meaning.specs.RuleLaws.{OfEach}
use Rattle.lus_limits.specs.Instances.{callee}
use Rattle.lus_limits.specs.Peaks.{no_size, greater, peak, by_and, by_or, Chain, no_chain, alone, followed, chain}

-- ---- contracts

-- the modes that a declaration's own text can name: its own ones, and those of what it imports
abbrev pub can_be_named : List Name → Bool
can_be_named [] = true
can_be_named (c ∷ []) = true
can_be_named (c ∷ d ∷ ps) = false

abbrev pub is_own : List Name → Bool
is_own [] = true
is_own (c ∷ ps) = false

abbrev pub those_with : (List Name → Bool) → ModeSizes → ModeSizes
those_with t [] = []
those_with t (m ∷ ms) = cond (t m.0.0) (m ∷ those_with t ms) (those_with t ms)

-- of the terms of a contract: the greatest sizes of its assumptions, these joined, the greatest sizes of what it
-- promises, its modes joined, and the modes that its text can name
pub record ContractPeaks : Type 0 where
  pub assumes : Size
  pub assumed : Chain
  pub promises : Size
  pub active : Chain
  pub modes : ModeSizes

abbrev pub no_peaks : ContractPeaks
no_peaks = record { assumes = no_size; assumed = no_chain; promises = no_size; active = no_chain; modes = [] }

abbrev pub contract_peaks : ContractSizes → ContractPeaks
contract_peaks r = record {
  assumes = peak r.assumes;
  assumed = chain by_and r.assumes;
  promises = peak r.promises;
  active = chain by_or (map (λ m. m.1) r.modes);
  modes = those_with can_be_named r.modes;
}

abbrev pub with_assumption : ContractPeaks → Size → ContractPeaks
with_assumption r s = record r { assumes = greater r.assumes s; assumed = followed r.assumed (alone by_and s) }

abbrev pub with_promises : ContractPeaks → Size → ContractPeaks
with_promises r s = record r { promises = greater r.promises s }

abbrev pub with_mode : ContractPeaks → Name → Size → ContractPeaks
with_mode r m s = record r { active = followed r.active (alone by_or s); modes = r.modes ++ (([], m), s) ∷ [] }

abbrev pub with_import : ContractPeaks → Name → ContractPeaks → ContractPeaks
with_import r c k = record {
  assumes = greater r.assumes k.assumes;
  assumed = followed r.assumed k.assumed;
  promises = greater r.promises k.promises;
  active = followed r.active k.active;
  modes = r.modes ++ map (imported_size c) (those_with is_own k.modes);
}

-- behind so much, by these of the imports with their numbers
abbrev pub peaks_after : Component → (ℕ → ContractPeaks) → ContractPeaks → List ContractStatement → ContractPeaks
peaks_after n sub r [] = r
peaks_after n sub r (assume l ∷ cs) = peaks_after n sub (with_assumption r (size_in n r.modes l.value)) cs
peaks_after n sub r (guarantee l ∷ cs) = peaks_after n sub (with_promises r (size_in n r.modes l.value)) cs
peaks_after n sub r (mode m rs es ∷ cs) =
    let asked : Size = all_of (sizes_of n r.modes rs) in
    peaks_after n sub
    (with_mode (with_promises r (peak (map (asked_size asked) (sizes_of n r.modes es)))) m.text asked) cs
peaks_after n sub r («import» k c as_ xs ∷ cs) = peaks_after n sub (with_import r c.text (sub k)) cs
peaks_after n sub r (ghost_variable v e ∷ cs) = peaks_after n sub r cs
peaks_after n sub r (constant c ∷ cs) = peaks_after n sub r cs

-- ---- frames

-- what callers need of a declaration: its contract's, and the greatest sizes of the terms of its frame and of all call
-- frames in it, where the caller gives its inputs, and where it gives its outputs too
pub record SizeSummary : Type 0 where
  pub contract : ContractPeaks
  pub called : Size
  pub imported : Size

abbrev pub inputs_given : Component → List Name
inputs_given n = map (λ v. v.name.text) n.inputs

abbrev pub all_given : Component → List Name
all_given n = inputs_given n ++ map (λ v. v.name.text) n.outputs

abbrev pub size_summary_of : Program → Component → SizeSummary
size_summary_of p n = record {
  contract = contract_peaks (contract_sizes (instance_of p n));
  called = peak (frame_sizes (inputs_given n) (instance_of p n));
  imported = peak (frame_sizes (all_given n) (instance_of p n));
}

-- sofar' = And(sofar, Not(And(beat, Not A))), where A has that size
abbrev pub sofar_by : Option (List ContractStatement) → Size → List Size
sofar_by None a = []
sofar_by (Some cs) a = two leaf (two leaf (one (two leaf (one a)))) ∷ []

-- the declaration's own terms
abbrev pub own_by : List Name → Component → ContractPeaks → List Size
own_by given n r =
    equation_sizes n r.modes
    ++ (free_sizes given n
    ++ (map (memory_size n r.modes) (memories n)
    ++ (map (start_size n) (starts n)
    ++ (sofar_by n.contract r.assumed.whole
    ++ assert_sizes n r.modes n.body))))

abbrev pub frame_of : Manner → SizeSummary → Size
frame_of (as_import xs) z = z.imported
frame_of plain z = z.called
frame_of (while_true a) z = z.called

-- what stands for each call, and its frame; callees have summaries by the numbers of the calls
abbrev pub sites_by : Component → ModeSizes → List Site → List SizeSummary → Size
sites_by n ms [] zs = no_size
sites_by n ms (s ∷ ss) [] = no_size
sites_by n ms (s ∷ ss) (z ∷ zs) =
    greater (peak (site_sizes n ms s no_component s.manner)) (greater (frame_of s.manner z) (sites_by n ms ss zs))

abbrev pub frame_by : List SizeSummary → List Name → Component → ContractPeaks → Size
frame_by zs given n r = greater (peak (own_by given n r)) (sites_by n r.modes (all_sites n) zs)

-- that of the call or import with that number
abbrev pub contract_at : List SizeSummary → ℕ → ContractPeaks
contract_at zs k = slice_index_or (map (λ z. z.contract) zs) (pred k) no_peaks

abbrev pub contract_by : List SizeSummary → Component → ContractPeaks
contract_by zs n = peaks_after n (contract_at zs) no_peaks (contract_statements n)

abbrev pub size_summary_by : List SizeSummary → Component → SizeSummary
size_summary_by zs n =
    let r : ContractPeaks = contract_by zs n in
    record { contract = r; called = frame_by zs (inputs_given n) n r; imported = frame_by zs (all_given n) n r }

-- ---- a node's system

-- an assumption that is owed: where the callee's beat is on
abbrev pub owed_size : Size → Size
owed_size a = one (two leaf (one a))

abbrev pub owed_by : Manner → ContractPeaks → Size
owed_by (as_import xs) r = no_size
owed_by plain r = cond r.assumed.is_none no_size (owed_size r.assumes)
owed_by (while_true a) r = cond r.assumed.is_none no_size (owed_size r.assumes)

abbrev pub all_owed_by : List Site → List SizeSummary → Size
all_owed_by [] zs = no_size
all_owed_by (s ∷ ss) [] = no_size
all_owed_by (s ∷ ss) (z ∷ zs) = greater (owed_by s.manner z.contract) (all_owed_by ss zs)

-- the greatest sizes of the terms of a node's system, by its own summary and those of its callees
abbrev pub terms_by : List SizeSummary → Component → SizeSummary → Size
terms_by zs n z =
    greater z.called
    (greater z.contract.assumes
    (greater (peak (property_sizes n z.contract.modes n.body))
    (greater z.contract.promises (greater z.contract.active.whole (all_owed_by (all_sites n) zs)))))

-- ---- what is proved

-- the summaries of what a declaration calls and imports, by number
abbrev pub summaries_at : Program → List Site → List SizeSummary
summaries_at p ss = map (λ s. size_summary_of p (callee p s.callee)) ss

-- in a checked program the summary of a declaration is known from its own text and the summaries of its callees
abbrev pub SizeSummaryByText : Type 0
SizeSummaryByText = OfEach (λ p n. size_summary_of p n ≡ size_summary_by (summaries_at p (all_sites n)) n)

-- and so are the greatest levels and parts of the terms of a node's system
abbrev pub TermsBySummaries : Type 0
TermsBySummaries =
    OfEach (λ p n. peak (term_sizes (instance_of p n)) ≡ terms_by (summaries_at p (all_sites n)) n (size_summary_of p n))

-- they tell whether some term passes a limit
abbrev pub LimitsByPeaks : Type 0
LimitsByPeaks =
    (k : ℕ) (ss : List Size) →
    (list_any (λ s. nat_lt k s.levels) ss ≡ nat_lt k (peak ss).levels)
    × (list_any (λ s. nat_lt k s.parts) ss ≡ nat_lt k (peak ss).parts)
