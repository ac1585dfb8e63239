-- The sizes of frames in code.
use Rattle.std.proofs.Common.{◌≡◌, arith, cond, ℕ, ◌≤◌, length, drop, List, [], ◌∷◌, ◌++◌, map, refl, sym, ap, ◌∙◌}
use Rattle.lus_tree.specs.Tree.{Name, Variable, ContractStatement, assume, guarantee, ghost_variable, constant, mode, «import», Component}
use Rattle.lus_meaning.specs.Scene.{Manner, plain, while_true, as_import, Site, ghosts, contract_statements, variables, clock_from}
use Rattle.lus_meaning.specs.Depends.{named_in, left_names}
use Rattle.lus_meaning.specs.Sizes.{Size, ModeSizes, free_size, presence}
use Rattle.std.specs.Borrow.{Bor}
use Rattle.std.proofs.lemmas.List.{drop_all}
use Rattle.lus_limits.specs.declared.calls.Call.{Call}
use Rattle.lus_limits.specs.declared.calls.Way.{Way}
use Rattle.lus_limits.specs.declared.contract_size.SizeSummary.{SizeSummary as CodeSummary}
use Rattle.lus_limits.specs.Contracted.{summaries_seen}
use Rattle.lus_limits.specs.Frames.{frame_at, frames_of, items_by, own_known, summary_by_items, ways_of, SummaryByItems}
use Rattle.lus_meaning.specs.Program.{all_sites}
use Rattle.lus_limits.specs.Calls.{way_of}
use Rattle.lus_limits.proofs.FrameTerms.{sites_in_any_order}
use Rattle.lus_limits.specs.FrameTerms.{site_terms, all_site_terms, found_sites}
use Rattle.lus_limits.specs.Known.{HasThese}
use Rattle.lus_limits.specs.SizeSummaries.{ContractPeaks, SizeSummary, sofar_by, contract_by, inputs_given, all_given, frame_of, sites_by, frame_by, own_by, size_summary_by}
use Rattle.lus_limits.specs.Peaks.{no_size, greater, peak}
use Rattle.lus_limits.specs.OwnTerms.{all_contract_terms, constant_terms, body_terms, free_terms, own_terms}
use Rattle.lus_limits.specs.SizeCuts.{cut_term, cut_modes, cut_peaks, cut_summary}
use Rattle.lus_limits.proofs.Peaks.{greater_none, none_greater, greater_in_turn}
use Rattle.lus_limits.proofs.SizeCuts.{Alike, same_summary, greater_alike, peak_alike, own_alike, site_alike, twice_peaks}
use Rattle.lus_limits.proofs.OwnTerms.{crossed, own_terms_by_items}
use Rattle.lus_limits.proofs.Greatest.{greater_cuts}

pub free_both : (ks : List Name) (n : Component) (us vs : List Variable) → free_terms ks n (us ++ vs) ≡ greater (free_terms ks n us) (free_terms ks n vs)
free_both ks n [] vs = sym (none_greater (free_terms ks n vs))
free_both ks n (u ∷ us) vs = ap (greater _) (free_both ks n us vs) ∙ sym (greater_in_turn _ (free_terms ks n us) (free_terms ks n vs))

-- those of one item, and of the others
pub free_ghosts : (ks : List Name) (n : Component) (c : ContractStatement) (cs : List ContractStatement) →
    free_terms ks n (ghosts (c ∷ cs)) ≡ greater (free_terms ks n (ghosts (c ∷ []))) (free_terms ks n (ghosts cs))
free_ghosts ks n (assume l) cs = sym (none_greater (free_terms ks n (ghosts cs)))
free_ghosts ks n (guarantee l) cs = sym (none_greater (free_terms ks n (ghosts cs)))
free_ghosts ks n (ghost_variable v e) cs = ap (λ x. greater x (free_terms ks n (ghosts cs))) (sym (greater_none _))
free_ghosts ks n (constant c) cs = sym (none_greater (free_terms ks n (ghosts cs)))
free_ghosts ks n (mode m rs es) cs = sym (none_greater (free_terms ks n (ghosts cs)))
free_ghosts ks n («import» k c as_ xs) cs = sym (none_greater (free_terms ks n (ghosts cs)))

-- all streams, kind by kind
pub free_by_kind : (ks : List Name) (n : Component) (i o l g : Size) → i ≡ cut_term (free_terms ks n n.inputs) → o ≡ cut_term (free_terms ks n n.outputs)
    → l ≡ cut_term (free_terms ks n n.locals) → g ≡ cut_term (free_terms ks n (ghosts (contract_statements n)))
    → greater i (greater o (greater l g)) ≡ cut_term (free_terms ks n (variables n))
free_by_kind ks n i o l g p q r s =
    let a : Size = free_terms ks n n.inputs in
    let b : Size = free_terms ks n n.outputs in
    let d : Size = free_terms ks n n.locals in
    let e : Size = free_terms ks n (ghosts (contract_statements n)) in
    ap (λ x. greater x (greater o (greater l g))) p ∙ ap (λ x. greater (cut_term a) (greater x (greater l g))) q
    ∙ ap (λ x. greater (cut_term a) (greater (cut_term b) (greater x g))) r
    ∙ ap (λ x. greater (cut_term a) (greater (cut_term b) (greater (cut_term d) x))) s
    ∙ ap (λ x. greater (cut_term a) (greater (cut_term b) x)) (greater_cuts d e)
    ∙ ap (greater (cut_term a)) (greater_cuts b (greater d e)) ∙ greater_cuts a (greater b (greater d e))
    ∙ ap cut_term
    (sym (free_both ks n ((n.inputs ++ n.outputs) ++ n.locals) (ghosts (contract_statements n))
    ∙ ap (λ x. greater x e) (free_both ks n (n.inputs ++ n.outputs) n.locals ∙ ap (λ x. greater x d) (free_both ks n n.inputs n.outputs))
    ∙ greater_in_turn (greater a b) d e ∙ greater_in_turn a b (greater d e)))

-- where the summaries end, no frame is to come
pub no_frames : (cs : List Call) (zs : List (Bor CodeSummary)) (i : ℕ) (a t : Size) → length zs ≤ i → cut_term a ≡ a
    → cut_term (greater a (frames_of (map (λ c. c.way) (drop i cs)) (summaries_seen (drop i zs)))) ≡ t → a ≡ t
no_frames cs zs i a t h e f =
    sym e ∙ ap cut_term (sym (greater_none a)) ∙ ap (λ x. cut_term (greater a x)) (sym (none_left (map (λ c. c.way) (drop i cs))))
    ∙ ap (λ x. cut_term (greater a (frames_of (map (λ c. c.way) (drop i cs)) (summaries_seen x)))) (sym (drop_all i zs h)) ∙ f where
      none_left : (ws : List Way) → frames_of ws [] ≡ no_size
      none_left [] = refl
      none_left (w ∷ ws) = refl

pub own_by_parts : (c k b f o a d e g h : Size) → c ≡ cut_term a → k ≡ cut_term d → b ≡ cut_term e → f ≡ cut_term g → o ≡ cut_term h
    → greater c (greater k (greater b (greater f o))) ≡ cut_term (greater a (greater d (greater e (greater g h))))
own_by_parts c k b f o a d e g h p q r s t =
    ap (λ x. greater x (greater k (greater b (greater f o)))) p ∙ ap (λ x. greater (cut_term a) (greater x (greater b (greater f o)))) q
    ∙ ap (λ x. greater (cut_term a) (greater (cut_term d) (greater x (greater f o)))) r
    ∙ ap (λ x. greater (cut_term a) (greater (cut_term d) (greater (cut_term e) (greater x o)))) s
    ∙ ap (λ x. greater (cut_term a) (greater (cut_term d) (greater (cut_term e) (greater (cut_term g) x)))) t
    ∙ ap (λ x. greater (cut_term a) (greater (cut_term d) (greater (cut_term e) x))) (greater_cuts g h)
    ∙ ap (λ x. greater (cut_term a) (greater (cut_term d) x)) (greater_cuts e (greater g h))
    ∙ ap (greater (cut_term a)) (greater_cuts d (greater e (greater g h))) ∙ greater_cuts a (greater d (greater e (greater g h)))

-- a table has the same free streams as the names in it
same_free : (ks xs : List Name) (n : Component) → HasThese [] ks xs → (vs : List Variable) → free_terms ks n vs ≡ free_terms xs n vs
same_free ks xs n h [] = refl
same_free ks xs n h (v ∷ vs) =
    ap (λ b. greater (cond b no_size (free_size (presence n (clock_from v.clock)))) (free_terms ks n vs)) (h v.name.text)
    ∙ ap (greater (cond (named_in v.name.text xs) no_size (free_size (presence n (clock_from v.clock))))) (same_free ks xs n h vs)

own_is : (ks : List Name) (given : List Name) (n : Component) (r : ContractPeaks) → HasThese [] ks (given ++ left_names n) → own_known ks n r
    ≡ own_terms given n r
own_is ks given n r h =
    ap (λ f. greater (all_contract_terms n r.modes (contract_statements n))
    (greater (constant_terms n r.modes n.constants)
    (greater (body_terms n r.modes n.body)
    (greater f (peak (sofar_by n.contract r.assumed.whole)))))) (same_free ks (given ++ left_names n) n h (variables n))

sites_alike : (n : Component) (ms ns : ModeSizes) → cut_modes ms ≡ cut_modes ns → (ss : List Site) → Alike (all_site_terms n ms ss) (all_site_terms n ns ss)
sites_alike n ms ns h [] = refl
sites_alike n ms ns h (s ∷ ss) =
    greater_alike _ _ _ _ (peak_alike _ _ (site_alike n ms ns h s s.manner)) (sites_alike n ms ns h ss)

own_terms_alike : (given : List Name) (n : Component) (r q : ContractPeaks) → cut_peaks r ≡ cut_peaks q → Alike (own_terms given n r) (own_terms given n q)
own_terms_alike given n r q h =
    ap cut_term (sym (own_terms_by_items given n r))
    ∙ greater_alike _ _ _ _ (peak_alike _ _ (own_alike given n r q h)) (sites_alike n r.modes q.modes (ap (λ z. z.modes) h) (found_sites n))
    ∙ ap cut_term (own_terms_by_items given n q)

pub with_callees : (ks given : List Name) (n : Component) (q : ContractPeaks) (o f s : Size) → HasThese [] ks (given ++ left_names n)
    → o ≡ cut_term (own_known ks n q) → s ≡ greater o f → s ≡ greater (cut_term (own_terms given n q)) f
with_callees ks given n q o f s h g l = l ∙ ap (λ x. greater x f) (g ∙ ap cut_term (own_is ks given n q h))

-- one of the two sizes of a frame
frame_seen : (given : List Name) (n : Component) (ws : List Way) (zs : List SizeSummary) (r q : ContractPeaks) (f s : Size) →
    q ≡ cut_peaks r → f ≡ cut_term (frames_of ws zs) → s ≡ greater (cut_term (own_terms given n q)) f → s ≡ cut_term (items_by ws zs given n r)
frame_seen given n ws zs r q f s e k l =
    l ∙ ap (λ x. greater x f) (own_terms_alike given n q r (ap cut_peaks e ∙ twice_peaks r))
    ∙ ap (greater (cut_term (own_terms given n r))) k ∙ greater_cuts (own_terms given n r) (frames_of ws zs)

pub summary_made : (n : Component) (ws : List Way) (zs : List SizeSummary) (z : SizeSummary) (f : Size) → z.contract ≡ cut_peaks (contract_by zs n)
    → f ≡ cut_term (frames_of ws zs) → z.called ≡ greater (cut_term (own_terms (inputs_given n) n z.contract)) f
    → z.imported ≡ greater (cut_term (own_terms (all_given n) n z.contract)) f → z ≡ cut_summary (summary_by_items ws zs n)
summary_made n ws zs z f e k g h =
    same_summary z (cut_summary (summary_by_items ws zs n)) e
    (frame_seen (inputs_given n) n ws zs (contract_by zs n) z.contract f z.called e k g)
    (frame_seen (all_given n) n ws zs (contract_by zs n) z.contract f z.imported e k h)

-- ---- by the text

frame_way : (m : Manner) (z : SizeSummary) → frame_of m z ≡ frame_at (way_of m) z
frame_way plain z = refl
frame_way (while_true a) z = refl
frame_way (as_import xs) z = refl

interleaved : (a b c d : Size) → greater a (greater b (greater c d)) ≡ greater (greater a c) (greater b d)
interleaved a b c d = sym (greater_in_turn a b (greater c d)) ∙ crossed a b c d

split_sites : (n : Component) (ms : ModeSizes) (ss : List Site) (zs : List SizeSummary) → length zs ≡ length ss →
    sites_by n ms ss zs ≡ greater (all_site_terms n ms ss) (frames_of (map (λ s. way_of s.manner) ss) zs)
split_sites n ms [] zs e = sym (greater_none no_size)
split_sites n ms (s ∷ ss) [] e = absurd (omega (arith, e))
split_sites n ms (s ∷ ss) (z ∷ zs) e =
    ap (λ x. greater (site_terms n ms s) (greater x (sites_by n ms ss zs))) (frame_way s.manner z)
    ∙ ap (λ x. greater (site_terms n ms s) (greater (frame_at (way_of s.manner) z) x)) (split_sites n ms ss zs (omega (arith, e)))
    ∙ interleaved (site_terms n ms s) (frame_at (way_of s.manner) z) (all_site_terms n ms ss) (frames_of (map (λ s. way_of s.manner) ss) zs)

pub summary_by_text : SummaryByItems
summary_by_text p c n i zs e =
    let r : ContractPeaks = contract_by zs n in
    let one : (given : List Name) → frame_by zs given n r ≡ items_by (ways_of n) zs given n r =
    λ given.
    ap (greater (peak (own_by given n r))) (split_sites n r.modes (all_sites n) zs e
    ∙ ap (λ x. greater x (frames_of (ways_of n) zs)) (sites_in_any_order p c n i r.modes))
    ∙ sym (greater_in_turn (peak (own_by given n r)) (all_site_terms n r.modes (found_sites n)) (frames_of (ways_of n) zs))
    ∙ ap (λ x. greater x (frames_of (ways_of n) zs)) (own_terms_by_items given n r) in
    same_summary (size_summary_by zs n) (summary_by_items (ways_of n) zs n) refl (one (inputs_given n)) (one (all_given n))
