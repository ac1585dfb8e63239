-- The sizes of a contract's terms in code, item after item.
use Rattle.std.proofs.Common.{◌≡◌, ℕ, zero, suc, Bool, true, false, cond, pred, slice_index_or, arith, ◌+◌, ◌<◌, length, take, get_or, List, [], ◌∷◌, ◌++◌, map, refl, sym, ap, ◌∙◌}
use Rattle.std.proofs.lemmas.List.{map_more}
use Rattle.lus_tree.specs.Tree.{Name, Labelled, ContractStatement, assume, guarantee, ghost_variable, constant, mode, «import», Component}
use Rattle.lus_meaning.specs.Sizes.{Size, one, two, all_of, imported_size, asked_size, sizes_of}
use Rattle.lus_limits.specs.Peaks.{greater, peak, by_and, by_or, Chain, alone, followed, chain}
use Rattle.lus_limits.specs.SizeSummaries.{contract_at, no_peaks, peaks_after, is_own, those_with, ContractPeaks, with_assumption, with_promises, with_mode, with_import}
use Rattle.lus_limits.specs.SizeCuts.{cut_term, cut_modes, cut_chain, cut_peaks}
use Rattle.std.specs.Borrow.{Bor}
use Rattle.lus_limits.specs.declared.contract_size.SizeSummary.{SizeSummary as CodeSummary}
use Rattle.lus_limits.specs.Contracted.{IsCut, mode_after, item_after, contract_seen, summaries_seen}
use Rattle.lus_limits.proofs.Peaks.{chain_one}
use Rattle.lus_limits.proofs.SizeCuts.{promises_alike, mode_alike, asked_alike, peak_alike, after_alike, twice_peaks, modes_both, one_alike, two_alike, same_peaks, twice, greater_alike, chain_alike, alone_alike, twice_chain}

-- what is read of a contract that is cut is cut
pub assumption_added : (r q : ContractPeaks) (s t : Size) → IsCut r → s ≡ cut_term t →
    q ≡ record r { assumes = cut_term (greater r.assumes s); assumed = cut_chain (followed r.assumed (cut_chain (alone by_and s))) }
    → q ≡ cut_peaks (with_assumption r t)
assumption_added r q s t c e f =
    let g : cut_term s ≡ cut_term t = ap cut_term e ∙ twice t in
    f ∙ same_peaks (record r { assumes = cut_term (greater r.assumes s); assumed = cut_chain (followed r.assumed (cut_chain (alone by_and s))) })
    (cut_peaks (with_assumption r t))
    (greater_alike r.assumes r.assumes s t refl g)
    (chain_alike r.assumed r.assumed (cut_chain (alone by_and s)) (alone by_and t) refl (twice_chain (alone by_and s) ∙ alone_alike by_and s t g))
    (sym (ap (λ z. z.promises) c)) (sym (ap (λ z. z.active) c)) (sym (ap (λ z. z.modes) c))

pub promises_added : (r q : ContractPeaks) (s : Size) → IsCut r → q ≡ record r { promises = cut_term (greater r.promises s) }
    → q ≡ cut_peaks (with_promises r s)
promises_added r q s c f =
    f ∙ same_peaks (record r { promises = cut_term (greater r.promises s) }) (cut_peaks (with_promises r s))
    (sym (ap (λ z. z.assumes) c)) (sym (ap (λ z. z.assumed) c)) refl (sym (ap (λ z. z.active) c)) (sym (ap (λ z. z.modes) c))

-- one term more that is joined
pub joined_more : {X : Type 0} (view : X → Size) (xs : List X) (i : ℕ) (x : X) (c q : Chain) (s : Size) → i < length xs → x ≡ get_or xs i x
    → c ≡ cut_chain (chain by_and (map view (take i xs))) → s ≡ cut_term (view x) → q ≡ cut_chain (followed c (cut_chain (alone by_and s)))
    → q ≡ cut_chain (chain by_and (map view (take (i + 1) xs)))
joined_more view xs i x c q s h e f g k =
    k ∙ chain_alike c (chain by_and (map view (take i xs))) (cut_chain (alone by_and s)) (alone by_and (view x))
    (ap cut_chain f ∙ twice_chain (chain by_and (map view (take i xs))))
    (twice_chain (alone by_and s) ∙ alone_alike by_and s (view x) (ap cut_term g ∙ twice (view x)))
    ∙ ap cut_chain (sym (chain_one by_and (map view (take i xs)) (view x)))
    ∙ ap (λ z. cut_chain (chain by_and z)) (sym (map_more view xs i x h ∙ ap (λ y. map view (take i xs) ++ view y ∷ []) (sym e)))

pub asked_cut : (a s : Size) → cut_term (two a (cut_term (one (cut_term s)))) ≡ cut_term (two a (one s))
asked_cut a s = two_alike a a _ _ refl (twice (one (cut_term s)) ∙ one_alike (cut_term s) s (twice s))

pub mode_added : (r q : ContractPeaks) (m : Name) (s : Size) → IsCut r →
    q ≡ record r { active = cut_chain (followed r.active (cut_chain (alone by_or s))); modes = r.modes ++ (([], m), cut_term s) ∷ [] }
    → q ≡ cut_peaks (with_mode r m s)
mode_added r q m s c f =
    f ∙ same_peaks (record r { active = cut_chain (followed r.active (cut_chain (alone by_or s))); modes = r.modes ++ (([], m), cut_term s) ∷ [] })
    (cut_peaks (with_mode r m s))
    (sym (ap (λ z. z.assumes) c)) (sym (ap (λ z. z.assumed) c)) (sym (ap (λ z. z.promises) c))
    (chain_alike r.active r.active (cut_chain (alone by_or s)) (alone by_or s) refl (twice_chain (alone by_or s)))
    (ap (λ ms. ms ++ (([], m), cut_term s) ∷ []) (sym (ap (λ z. z.modes) c)) ∙ sym (modes_both r.modes ((([], m), s) ∷ [])))

pub import_added : (r q : ContractPeaks) (m : Name) (k : ContractPeaks) → IsCut r →
    q ≡ record {
      assumes = cut_term (greater r.assumes k.assumes);
      assumed = cut_chain (followed r.assumed k.assumed);
      promises = cut_term (greater r.promises k.promises);
      active = cut_chain (followed r.active k.active);
      modes = r.modes ++ cut_modes (map (imported_size m) (those_with is_own k.modes));
    }
    → q ≡ cut_peaks (with_import r m k)
import_added r q m k c f =
    f ∙ same_peaks _ (cut_peaks (with_import r m k)) refl refl refl refl
    (ap (λ ms. ms ++ cut_modes (map (imported_size m) (those_with is_own k.modes))) (sym (ap (λ z. z.modes) c))
    ∙ sym (modes_both r.modes (map (imported_size m) (those_with is_own k.modes))))

-- a mode, by its requires and what it ensures
pub mode_item_added : (n : Component) (r p q : ContractPeaks) (m : Name) (rs es : List Labelled) (a b : Size) → IsCut r →
    a ≡ cut_term (all_of (sizes_of n r.modes rs)) → b ≡ cut_term (peak (map (asked_size a) (sizes_of n r.modes es))) →
    p ≡ cut_peaks (with_promises r b) → q ≡ cut_peaks (with_mode p m a) → q ≡ cut_peaks (mode_after n r m rs es)
mode_item_added n r p q m rs es a b c e f g h =
    let A : Size = all_of (sizes_of n r.modes rs) in
    let ss : List Size = sizes_of n r.modes es in
    let B : Size = peak (map (asked_size A) ss) in
    let u : cut_term a ≡ cut_term A = ap cut_term e ∙ twice A in
    let v : cut_term b ≡ cut_term B =
    ap cut_term f ∙ twice (peak (map (asked_size a) ss)) ∙ peak_alike (map (asked_size a) ss) (map (asked_size A) ss) (asked_alike a A u ss ss refl) in
    let w : cut_peaks p ≡ cut_peaks (with_promises r B) = ap cut_peaks g ∙ twice_peaks (with_promises r b) ∙ promises_alike r r b B refl v in
    h ∙ mode_alike p (with_promises r B) m a A w u

-- what comes after one item more
after_item : (n : Component) (sub : ℕ → ContractPeaks) (r : ContractPeaks) (c : ContractStatement) (cs : List ContractStatement) →
    peaks_after n sub r (c ∷ cs) ≡ peaks_after n sub (item_after n sub r c) cs
after_item n sub r (assume l) cs = refl
after_item n sub r (guarantee l) cs = refl
after_item n sub r (ghost_variable v e) cs = refl
after_item n sub r (constant c) cs = refl
after_item n sub r (mode m rs es) cs = refl
after_item n sub r («import» k c as_ xs) cs = refl

pub items_after : (n : Component) (sub : ℕ → ContractPeaks) (r q t : ContractPeaks) (c : ContractStatement) (cs : List ContractStatement) →
    q ≡ cut_peaks (item_after n sub r c) → cut_peaks (peaks_after n sub r (c ∷ cs)) ≡ t → cut_peaks (peaks_after n sub q cs) ≡ t
items_after n sub r q t c cs e f =
    after_alike n sub sub (λ k. refl) cs q (item_after n sub r c) (ap cut_peaks e ∙ twice_peaks (item_after n sub r c))
    ∙ ap cut_peaks (sym (after_item n sub r c cs)) ∙ f

-- the contract at a place
pub contract_placed : (zs : List (Bor CodeSummary)) (i k : ℕ) (z : Bor CodeSummary) → i < length zs → i ≡ pred k
    → contract_seen (slice_index_or zs i z).now.contract ≡ contract_at (summaries_seen zs) k
contract_placed zs i k z h e = placed zs i h ∙ ap (λ j. slice_index_or (map (λ z. z.contract) (summaries_seen zs)) j no_peaks) e where
  placed : (zs : List (Bor CodeSummary)) (i : ℕ) → i < length zs →
      contract_seen (slice_index_or zs i z).now.contract ≡ slice_index_or (map (λ z. z.contract) (summaries_seen zs)) i no_peaks
  placed [] i h = absurd (omega arith)
  placed (x ∷ zs) zero h = refl
  placed (x ∷ zs) (suc i) h = placed zs i (omega arith)

-- of one mode of an import, and of those behind it
pub imported_first : (c : Name) (m : (List Name × Name) × Size) (ms : List ((List Name × Name) × Size)) →
    cut_modes (map (imported_size c) (those_with is_own (m ∷ []))) ++ cut_modes (map (imported_size c) (those_with is_own ms))
    ≡ cut_modes (map (imported_size c) (those_with is_own (m ∷ ms)))
imported_first c m ms = go (is_own m.0.0)
  where
    go : (b : Bool) → cut_modes (map (imported_size c) (cond b (m ∷ []) [])) ++ cut_modes (map (imported_size c) (those_with is_own ms))
        ≡ cut_modes (map (imported_size c) (cond b (m ∷ those_with is_own ms) (those_with is_own ms)))
    go true = refl
    go false = refl
