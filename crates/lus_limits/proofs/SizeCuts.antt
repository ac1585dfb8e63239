-- Sizes cut past the limits are known from parts that are cut.
use Rattle.std.proofs.Common.{◌≡◌, ℕ, zero, suc, pred, Bool, true, false, cond, List, [], ◌∷◌, ◌++◌, map, slice_index_or, Option, Some, None, refl, sym, ap, ◌∙◌, arith}
use Rattle.std.specs.Prelude.{unwrap_or, option_map, option_to_list}
use Rattle.std.specs.Map.{lookup}
use Rattle.std.specs.List.{fold}
use Rattle.lus_tree.specs.declared.expression.Operator.{Operator}
use Rattle.lus_tree.specs.declared.expression.Operator.TheVariants.{Implies, Or, Xor, And, Less, AtMost, Equal, Differs, AtLeast, More, Add, Sub, Mul, Div, Mod}
use Rattle.lus_tree.specs.Tree.{Name, text_of, Expression, truth, number, name, negation, minus, pre, arrow, binary, choice, sampled, merged, call, condact, mode_name, Labelled, Statement, equation, assertion, property, main_mark, ContractStatement, assume, guarantee, ghost_variable, constant, mode, «import», Component}
use Rattle.lus_meaning.specs.Meaning.{mode_key}
use Rattle.lus_meaning.specs.Scene.{contract_statements, clock_of_names, Manner, plain, while_true, as_import, Site, no_component}
use Rattle.lus_meaning.specs.Occurrences.{memories, starts}
use Rattle.lus_meaning.specs.Run.{equations}
use Rattle.lus_meaning.specs.Program.{all_sites}
use Rattle.lus_meaning.specs.Sizes.{Size, leaf, one, two, three, either, all_of, ModeSizes, is_fixed, operator_size, unless_fixed, size_in, sizes_of, imported_size, asked_size, presence, given_size, equation_sizes, free_sizes, memory_size, start_size, assert_sizes, site_sizes, property_sizes}
use Rattle.lus_meaning.proofs.Lists.{map_append}
use Rattle.lus_limits.specs.Peaks.{no_size, greater, peak, by_and, by_or, Joint, Chain, put, alone, followed}
use Rattle.lus_limits.specs.SizeSummaries.{is_own, those_with, ContractPeaks, no_peaks, with_assumption, with_promises, with_mode, with_import, peaks_after, SizeSummary, inputs_given, all_given, sofar_by, own_by, frame_of, sites_by, frame_by, contract_at, contract_by, size_summary_by, owed_size, owed_by, all_owed_by}
use Rattle.lus_limits.specs.SizeCuts.{cut_term, cut_modes, cut_chain, cut_peaks, cut_summary, SizeSummaryCuts, TermsCut}
use Rattle.lus_limits.proofs.Sizes.{same_size}

-- ---- terms

pub twice : (a : Size) → cut_term (cut_term a) ≡ cut_term a
twice a = same_size (cut_term (cut_term a)) (cut_term a) (omega arith) (omega arith)

pub cut_one : (a : Size) → cut_term (one a) ≡ cut_term (one (cut_term a))
cut_one a = same_size (cut_term (one a)) (cut_term (one (cut_term a))) (omega arith) (omega arith)

pub cut_two : (a b : Size) → cut_term (two a b) ≡ cut_term (two (cut_term a) (cut_term b))
cut_two a b = same_size (cut_term (two a b)) (cut_term (two (cut_term a) (cut_term b))) (omega arith) (omega arith)

pub cut_three : (a b c : Size) → cut_term (three a b c) ≡ cut_term (three (cut_term a) (cut_term b) (cut_term c))
cut_three a b c = same_size (cut_term (three a b c)) (cut_term (three (cut_term a) (cut_term b) (cut_term c))) (omega arith) (omega arith)

pub cut_greater : (a b : Size) → cut_term (greater a b) ≡ cut_term (greater (cut_term a) (cut_term b))
cut_greater a b = same_size (cut_term (greater a b)) (cut_term (greater (cut_term a) (cut_term b))) (omega arith) (omega arith)

-- what is alike once cut
abbrev pub Alike : Size → Size → Type 0
Alike a b = cut_term a ≡ cut_term b

pub one_alike : (a b : Size) → Alike a b → Alike (one a) (one b)
one_alike a b e = cut_one a ∙ ap (λ x. cut_term (one x)) e ∙ sym (cut_one b)

pub two_alike : (a b c d : Size) → Alike a b → Alike c d → Alike (two a c) (two b d)
two_alike a b c d e f =
    cut_two a c ∙ ap (λ x. cut_term (two x (cut_term c))) e ∙ ap (λ x. cut_term (two (cut_term b) x)) f ∙ sym (cut_two b d)

pub three_alike : (a b c d x y : Size) → Alike a b → Alike c d → Alike x y → Alike (three a c x) (three b d y)
three_alike a b c d x y e f g =
    cut_three a c x
    ∙ ap (λ z. cut_term (three z (cut_term c) (cut_term x))) e
    ∙ ap (λ z. cut_term (three (cut_term b) z (cut_term x))) f
    ∙ ap (λ z. cut_term (three (cut_term b) (cut_term d) z)) g
    ∙ sym (cut_three b d y)

pub greater_alike : (a b c d : Size) → Alike a b → Alike c d → Alike (greater a c) (greater b d)
greater_alike a b c d e f =
    cut_greater a c ∙ ap (λ x. cut_term (greater x (cut_term c))) e ∙ ap (λ x. cut_term (greater (cut_term b) x)) f ∙ sym (cut_greater b d)

either_alike : (a b c d : Size) → Alike a b → Alike c d → Alike (either a c) (either b d)
either_alike a b c d e f = one_alike _ _ (two_alike (one a) (one b) (one c) (one d) (one_alike a b e) (one_alike c d f))

unless_alike : (n : Component) (e : Expression) (a b : Size) → Alike a b → Alike (unless_fixed n e a) (unless_fixed n e b)
unless_alike n e a b h = by_case (is_fixed n e) where
  by_case : (t : Bool) → Alike (cond t leaf a) (cond t leaf b)
  by_case true = refl
  by_case false = h

operator_alike : (o : Operator) (t : Bool) (a b c d : Size) → Alike a b → Alike c d → Alike (operator_size o t a c) (operator_size o t b d)
operator_alike Implies t a b c d e f = one_alike _ _ (two_alike a b (one c) (one d) e (one_alike c d f))
operator_alike Or t a b c d e f = either_alike a b c d e f
operator_alike Xor t a b c d e f = one_alike _ _ (two_alike a b c d e f)
operator_alike And t a b c d e f = two_alike a b c d e f
operator_alike Less t a b c d e f = one_alike _ _ (two_alike a b c d e f)
operator_alike AtMost t a b c d e f = two_alike a b c d e f
operator_alike Equal t a b c d e f = two_alike a b c d e f
operator_alike Differs t a b c d e f = one_alike _ _ (two_alike a b c d e f)
operator_alike AtLeast t a b c d e f = two_alike a b c d e f
operator_alike More t a b c d e f = one_alike _ _ (two_alike a b c d e f)
operator_alike Add t a b c d e f = two_alike a b c d e f
operator_alike Sub t a b c d e f = two_alike a b c d e f
operator_alike Mul true a b c d e f = one_alike c d f
operator_alike Mul false a b c d e f = one_alike a b e
operator_alike Div t a b c d e f = one_alike a b e
operator_alike Mod t a b c d e f = one_alike a b e

-- ---- expressions

found_alike : (k : List Name × Name) (ms : ModeSizes) → Alike (unwrap_or (lookup (mode_key k) ms) leaf) (unwrap_or (lookup (mode_key k) (cut_modes ms)) leaf)
found_alike k [] = refl
found_alike k (m ∷ ms) = by_case (mode_key k m.0) (found_alike k ms) where
  by_case : (t : Bool) → Alike (unwrap_or (lookup (mode_key k) ms) leaf) (unwrap_or (lookup (mode_key k) (cut_modes ms)) leaf) →
      Alike (unwrap_or (cond t (Some m.1) (lookup (mode_key k) ms)) leaf)
      (unwrap_or (cond t (Some (cut_term m.1)) (lookup (mode_key k) (cut_modes ms))) leaf)
  by_case true h = sym (twice m.1)
  by_case false h = h

cut_expression : (n : Component) (ms : ModeSizes) (e : Expression) → Alike (size_in n ms e) (size_in n (cut_modes ms) e)
cut_expression n ms (truth p b) = refl
cut_expression n ms (number p k) = refl
cut_expression n ms (name p x) = refl
cut_expression n ms (negation p a) = unless_alike n a _ _ (one_alike _ _ (cut_expression n ms a))
cut_expression n ms (minus p a) = unless_alike n a _ _ (one_alike _ _ (cut_expression n ms a))
cut_expression n ms (pre p k a) = refl
cut_expression n ms (arrow p k a b) = three_alike leaf leaf _ _ _ _ refl (cut_expression n ms a) (cut_expression n ms b)
cut_expression n ms (binary p o a b) =
    unless_alike n (binary p o a b) _ _ (operator_alike o (is_fixed n a) _ _ _ _ (cut_expression n ms a) (cut_expression n ms b))
cut_expression n ms (choice p a b c) =
    unless_alike n (choice p a b c) _ _
    (three_alike _ _ _ _ _ _ (cut_expression n ms a) (cut_expression n ms b) (cut_expression n ms c))
cut_expression n ms (sampled p a b x) = cut_expression n ms a
cut_expression n ms (merged p x a b) = three_alike leaf leaf _ _ _ _ refl (cut_expression n ms a) (cut_expression n ms b)
cut_expression n ms (call p k f as_) = refl
cut_expression n ms (condact p k a f as_ ds) = refl
cut_expression n ms (mode_name p c m) = found_alike (option_to_list (option_map text_of c), m.text) ms

-- by modes that are alike
pub expression_alike : (n : Component) (ms ns : ModeSizes) → cut_modes ms ≡ cut_modes ns → (e : Expression) → Alike (size_in n ms e) (size_in n ns e)
expression_alike n ms ns h e = cut_expression n ms e ∙ ap (λ m. cut_term (size_in n m e)) h ∙ sym (cut_expression n ns e)

-- ---- lists of terms

abbrev AllAlike : List Size → List Size → Type 0
AllAlike as_ bs = map cut_term as_ ≡ map cut_term bs

peak_cut : (ss : List Size) → Alike (peak ss) (peak (map cut_term ss))
peak_cut [] = refl
peak_cut (s ∷ ss) = greater_alike s (cut_term s) _ _ (sym (twice s)) (peak_cut ss)

pub peak_alike : (as_ bs : List Size) → AllAlike as_ bs → Alike (peak as_) (peak bs)
peak_alike as_ bs h = peak_cut as_ ∙ ap (λ ss. cut_term (peak ss)) h ∙ sym (peak_cut bs)

both_alike : (as_ bs cs ds : List Size) → AllAlike as_ bs → AllAlike cs ds → AllAlike (as_ ++ cs) (bs ++ ds)
both_alike as_ bs cs ds e f =
    map_append cut_term as_ cs ∙ ap (λ x. x ++ map cut_term cs) e ∙ ap (λ x. map cut_term bs ++ x) f ∙ sym (map_append cut_term bs ds)

each_alike : {A : Type 0} (f g : A → Size) → ((x : A) → Alike (f x) (g x)) → (xs : List A) → AllAlike (map f xs) (map g xs)
each_alike f g h [] = refl
each_alike f g h (x ∷ xs) = ap (λ s. s ∷ map cut_term (map f xs)) (h x) ∙ ap (λ r. cut_term (g x) ∷ r) (each_alike f g h xs)

-- ---- chains

same_chain : (c d : Chain) → c.is_none ≡ d.is_none → c.whole ≡ d.whole → c.lift ≡ d.lift → c.behind ≡ d.behind → c ≡ d
same_chain c d e f g h = λ i. record { is_none = e i; whole = f i; lift = g i; behind = h i }

pub cut_put : (a : Size) (c : Chain) → cut_term (put a c) ≡ cut_term (put (cut_term a) (cut_chain c))
cut_put a c = same_size (cut_term (put a c)) (cut_term (put (cut_term a) (cut_chain c))) (omega arith) (omega arith)

whole_cut : (b : Bool) (v : Size) (d : Chain) →
    cut_term (cond b d.whole (put v d)) ≡ cut_term (cond b (cut_term d.whole) (put (cut_term v) (cut_chain d)))
whole_cut true v d = sym (twice d.whole)
whole_cut false v d = cut_put v d

pub cut_followed : (c d : Chain) → cut_chain (followed c d) ≡ cut_chain (followed (cut_chain c) (cut_chain d))
cut_followed c d =
    same_chain (cut_chain (followed c d)) (cut_chain (followed (cut_chain c) (cut_chain d))) refl (whole_cut c.is_none c.whole d)
    (omega arith) (cut_put c.behind d)

pub cut_alone : (j : Joint) (a : Size) → cut_chain (alone j a) ≡ cut_chain (alone j (cut_term a))
cut_alone j a =
    same_chain (cut_chain (alone j a)) (cut_chain (alone j (cut_term a))) refl (sym (twice a)) refl
    (same_size (cut_term (alone j a).behind) (cut_term (alone j (cut_term a)).behind) (omega arith) (omega arith))

pub chain_alike : (c d x y : Chain) → cut_chain c ≡ cut_chain d → cut_chain x ≡ cut_chain y → cut_chain (followed c x) ≡ cut_chain (followed d y)
chain_alike c d x y e f =
    cut_followed c x ∙ ap (λ z. cut_chain (followed z (cut_chain x))) e ∙ ap (λ z. cut_chain (followed (cut_chain d) z)) f
    ∙ sym (cut_followed d y)

pub alone_alike : (j : Joint) (a b : Size) → Alike a b → cut_chain (alone j a) ≡ cut_chain (alone j b)
alone_alike j a b e = cut_alone j a ∙ ap (λ x. cut_chain (alone j x)) e ∙ sym (cut_alone j b)

-- terms that are joined by a fold
all_alike : (as_ bs : List Size) → AllAlike as_ bs → Alike (all_of as_) (all_of bs)
all_alike as_ bs h = all_cut as_ ∙ ap (λ ss. cut_term (all_of ss)) h ∙ sym (all_cut bs) where
  fold_cut : (a b : Size) → Alike a b → (ss : List Size) → Alike (fold two a ss) (fold two b (map cut_term ss))
  fold_cut a b h [] = h
  fold_cut a b h (s ∷ ss) = fold_cut (two a s) (two b (cut_term s)) (two_alike a b s (cut_term s) h (sym (twice s))) ss

  all_cut : (ss : List Size) → Alike (all_of ss) (all_of (map cut_term ss))
  all_cut [] = refl
  all_cut (s ∷ ss) = fold_cut s (cut_term s) (sym (twice s)) ss

-- ---- contracts

pub same_peaks : (a b : ContractPeaks) → a.assumes ≡ b.assumes → a.assumed ≡ b.assumed → a.promises ≡ b.promises → a.active ≡ b.active → a.modes
    ≡ b.modes → a ≡ b
same_peaks a b e f g h k = λ i. record { assumes = e i; assumed = f i; promises = g i; active = h i; modes = k i }

abbrev Same : ContractPeaks → ContractPeaks → Type 0
Same a b = cut_peaks a ≡ cut_peaks b

assumption_alike : (r q : ContractPeaks) (s t : Size) → Same r q → Alike s t → Same (with_assumption r s) (with_assumption q t)
assumption_alike r q s t h e =
    same_peaks (cut_peaks (with_assumption r s)) (cut_peaks (with_assumption q t))
    (greater_alike _ _ _ _ (ap (λ z. z.assumes) h) e)
    (chain_alike _ _ _ _ (ap (λ z. z.assumed) h) (alone_alike by_and s t e))
    (ap (λ z. z.promises) h) (ap (λ z. z.active) h) (ap (λ z. z.modes) h)

pub promises_alike : (r q : ContractPeaks) (s t : Size) → Same r q → Alike s t → Same (with_promises r s) (with_promises q t)
promises_alike r q s t h e =
    same_peaks (cut_peaks (with_promises r s)) (cut_peaks (with_promises q t))
    (ap (λ z. z.assumes) h) (ap (λ z. z.assumed) h) (greater_alike _ _ _ _ (ap (λ z. z.promises) h) e)
    (ap (λ z. z.active) h) (ap (λ z. z.modes) h)

pub modes_both : (ms ns : ModeSizes) → cut_modes (ms ++ ns) ≡ cut_modes ms ++ cut_modes ns
modes_both ms ns = map_append (λ m. (m.0, cut_term m.1)) ms ns

pub mode_alike : (r q : ContractPeaks) (m : Name) (s t : Size) → Same r q → Alike s t → Same (with_mode r m s) (with_mode q m t)
mode_alike r q m s t h e =
    same_peaks (cut_peaks (with_mode r m s)) (cut_peaks (with_mode q m t))
    (ap (λ z. z.assumes) h) (ap (λ z. z.assumed) h) (ap (λ z. z.promises) h)
    (chain_alike _ _ _ _ (ap (λ z. z.active) h) (alone_alike by_or s t e))
    (modes_both r.modes ((([], m), s) ∷ []) ∙ ap (λ x. x ++ (([], m), cut_term s) ∷ []) (ap (λ z. z.modes) h)
    ∙ ap (λ x. cut_modes q.modes ++ (([], m), x) ∷ []) e ∙ sym (modes_both q.modes ((([], m), t) ∷ [])))

pub imported_cut : (c : Name) (ms : ModeSizes) → cut_modes (map (imported_size c) (those_with is_own ms)) ≡ map (imported_size c)
    (those_with is_own (cut_modes ms))
imported_cut c [] = refl
imported_cut c (m ∷ ms) = by_case (is_own m.0.0) (imported_cut c ms) where
  by_case : (b : Bool) → cut_modes (map (imported_size c) (those_with is_own ms)) ≡ map (imported_size c) (those_with is_own (cut_modes ms)) →
      cut_modes (map (imported_size c) (cond b (m ∷ those_with is_own ms) (those_with is_own ms)))
      ≡ map (imported_size c) (cond b ((m.0, cut_term m.1) ∷ those_with is_own (cut_modes ms)) (those_with is_own (cut_modes ms)))
  by_case true h = ap (λ r. ((c ∷ m.0.0, m.0.1), cut_term m.1) ∷ r) h
  by_case false h = h

pub import_alike : (r q : ContractPeaks) (c : Name) (k l : ContractPeaks) → Same r q → Same k l → Same (with_import r c k) (with_import q c l)
import_alike r q c k l h e =
    same_peaks (cut_peaks (with_import r c k)) (cut_peaks (with_import q c l))
    (greater_alike _ _ _ _ (ap (λ z. z.assumes) h) (ap (λ z. z.assumes) e))
    (chain_alike _ _ _ _ (ap (λ z. z.assumed) h) (ap (λ z. z.assumed) e))
    (greater_alike _ _ _ _ (ap (λ z. z.promises) h) (ap (λ z. z.promises) e))
    (chain_alike _ _ _ _ (ap (λ z. z.active) h) (ap (λ z. z.active) e))
    (modes_both r.modes (map (imported_size c) (those_with is_own k.modes))
    ∙ ap (λ x. x ++ cut_modes (map (imported_size c) (those_with is_own k.modes))) (ap (λ z. z.modes) h)
    ∙ ap (λ x. cut_modes q.modes ++ x)
    (imported_cut c k.modes ∙ ap (λ x. map (imported_size c) (those_with is_own x)) (ap (λ z. z.modes) e) ∙ sym (imported_cut c l.modes))
    ∙ sym (modes_both q.modes (map (imported_size c) (those_with is_own l.modes))))

sizes_alike : (n : Component) (ms ns : ModeSizes) → cut_modes ms ≡ cut_modes ns → (ls : List Labelled) → AllAlike (sizes_of n ms ls) (sizes_of n ns ls)
sizes_alike n ms ns h ls = each_alike (λ l. size_in n ms l.value) (λ l. size_in n ns l.value) (λ l. expression_alike n ms ns h l.value) ls

pub asked_alike : (s t : Size) → Alike s t → (as_ bs : List Size) → AllAlike as_ bs → AllAlike (map (asked_size s) as_) (map (asked_size t) bs)
asked_alike s t e as_ bs h = asked_cut s as_ ∙ ap (λ ss. map cut_term (map (asked_size s) ss)) h ∙ sym (asked_cut s bs) ∙ each_alike
    (asked_size s) (asked_size t) (one_asked) bs where
      asked_cut : (s : Size) (ss : List Size) → AllAlike (map (asked_size s) ss) (map (asked_size s) (map cut_term ss))
      asked_cut s [] = refl
      asked_cut s (x ∷ ss) =
          ap (λ y. y ∷ map cut_term (map (asked_size s) ss))
          (one_alike _ _ (two_alike s s (one x) (one (cut_term x)) refl (one_alike x (cut_term x) (sym (twice x)))))
          ∙ ap (λ r. cut_term (asked_size s (cut_term x)) ∷ r) (asked_cut s ss)

      one_asked : (x : Size) → Alike (asked_size s x) (asked_size t x)
      one_asked x = one_alike _ _ (two_alike s t (one x) (one x) e refl)

pub after_alike : (n : Component) (sub tub : ℕ → ContractPeaks) → ((k : ℕ) → Same (sub k) (tub k)) → (cs : List ContractStatement)
    (r q : ContractPeaks) → Same r q → Same (peaks_after n sub r cs) (peaks_after n tub q cs)
after_alike n sub tub g [] r q h = h
after_alike n sub tub g (assume l ∷ cs) r q h =
    after_alike n sub tub g cs (with_assumption r (size_in n r.modes l.value)) (with_assumption q (size_in n q.modes l.value))
    (assumption_alike r q _ _ h (expression_alike n r.modes q.modes (ap (λ z. z.modes) h) l.value))
after_alike n sub tub g (guarantee l ∷ cs) r q h =
    after_alike n sub tub g cs (with_promises r (size_in n r.modes l.value)) (with_promises q (size_in n q.modes l.value))
    (promises_alike r q _ _ h (expression_alike n r.modes q.modes (ap (λ z. z.modes) h) l.value))
after_alike n sub tub g (mode m rs es ∷ cs) r q h =
    let e : cut_modes r.modes ≡ cut_modes q.modes = ap (λ z. z.modes) h in
    let s : Size = all_of (sizes_of n r.modes rs) in
    let t : Size = all_of (sizes_of n q.modes rs) in
    let a : Alike s t = all_alike _ _ (sizes_alike n r.modes q.modes e rs) in
    let u : Size = peak (map (asked_size s) (sizes_of n r.modes es)) in
    let v : Size = peak (map (asked_size t) (sizes_of n q.modes es)) in
    let b : Alike u v = peak_alike _ _ (asked_alike s t a _ _ (sizes_alike n r.modes q.modes e es)) in
    after_alike n sub tub g cs (with_mode (with_promises r u) m.text s) (with_mode (with_promises q v) m.text t)
    (mode_alike (with_promises r u) (with_promises q v) m.text s t (promises_alike r q u v h b) a)
after_alike n sub tub g («import» k c as_ xs ∷ cs) r q h =
    after_alike n sub tub g cs (with_import r c.text (sub k)) (with_import q c.text (tub k)) (import_alike r q c.text (sub k) (tub k) h (g k))
after_alike n sub tub g (ghost_variable v e ∷ cs) r q h = after_alike n sub tub g cs r q h
after_alike n sub tub g (constant c ∷ cs) r q h = after_alike n sub tub g cs r q h

pub twice_chain : (c : Chain) → cut_chain (cut_chain c) ≡ cut_chain c
twice_chain c = same_chain (cut_chain (cut_chain c)) (cut_chain c) refl (twice c.whole) (omega arith) (twice c.behind)

pub twice_modes : (ms : ModeSizes) → cut_modes (cut_modes ms) ≡ cut_modes ms
twice_modes [] = refl
twice_modes (m ∷ ms) = ap (λ x. (m.0, x) ∷ cut_modes (cut_modes ms)) (twice m.1) ∙ ap (λ r. (m.0, cut_term m.1) ∷ r) (twice_modes ms)

pub twice_peaks : (r : ContractPeaks) → cut_peaks (cut_peaks r) ≡ cut_peaks r
twice_peaks r =
    same_peaks (cut_peaks (cut_peaks r)) (cut_peaks r) (twice r.assumes) (twice_chain r.assumed) (twice r.promises) (twice_chain r.active)
    (twice_modes r.modes)

at_alike : (zs : List SizeSummary) (k : ℕ) →
    Same (slice_index_or (map (λ z. z.contract) zs) k no_peaks) (slice_index_or (map (λ z. z.contract) (map cut_summary zs)) k no_peaks)
at_alike [] k = refl
at_alike (z ∷ zs) zero = sym (twice_peaks z.contract)
at_alike (z ∷ zs) (suc k) = at_alike zs k

contract_alike : (n : Component) (zs : List SizeSummary) → Same (contract_by zs n) (contract_by (map cut_summary zs) n)
contract_alike n zs =
    after_alike n (contract_at zs) (contract_at (map cut_summary zs)) (λ k. at_alike zs (pred k)) (contract_statements n) no_peaks no_peaks refl

-- ---- frames

asserts_alike : (n : Component) (ms ns : ModeSizes) → cut_modes ms ≡ cut_modes ns → (ss : List Statement) →
    AllAlike (assert_sizes n ms ss) (assert_sizes n ns ss)
asserts_alike n ms ns h [] = refl
asserts_alike n ms ns h (equation xs e ∷ ss) = asserts_alike n ms ns h ss
asserts_alike n ms ns h (assertion e ∷ ss) =
    ap (λ x. x ∷ map cut_term (assert_sizes n ms ss))
    (one_alike _ _ (two_alike leaf leaf _ _ refl (one_alike _ _ (expression_alike n ms ns h e))))
    ∙ ap (λ r. cut_term (one (two leaf (one (size_in n ns e)))) ∷ r) (asserts_alike n ms ns h ss)
asserts_alike n ms ns h (property l ∷ ss) = asserts_alike n ms ns h ss
asserts_alike n ms ns h (main_mark p ∷ ss) = asserts_alike n ms ns h ss

properties_alike : (n : Component) (ms ns : ModeSizes) → cut_modes ms ≡ cut_modes ns → (ss : List Statement) →
    AllAlike (property_sizes n ms ss) (property_sizes n ns ss)
properties_alike n ms ns h [] = refl
properties_alike n ms ns h (equation xs e ∷ ss) = properties_alike n ms ns h ss
properties_alike n ms ns h (assertion e ∷ ss) = properties_alike n ms ns h ss
properties_alike n ms ns h (property l ∷ ss) =
    ap (λ x. x ∷ map cut_term (property_sizes n ms ss)) (expression_alike n ms ns h l.value)
    ∙ ap (λ r. cut_term (size_in n ns l.value) ∷ r) (properties_alike n ms ns h ss)
properties_alike n ms ns h (main_mark p ∷ ss) = properties_alike n ms ns h ss

given_alike : (p a b : Size) → Alike a b → Alike (given_size p a) (given_size p b)
given_alike p a b h = two_alike leaf leaf _ _ refl (three_alike p p a b leaf leaf refl h refl)

sofar_alike : (o : Option (List ContractStatement)) (a b : Size) → Alike a b → AllAlike (sofar_by o a) (sofar_by o b)
sofar_alike None a b h = refl
sofar_alike (Some cs) a b h =
    ap (λ x. x ∷ [])
    (two_alike leaf leaf _ _ refl (two_alike leaf leaf _ _ refl (one_alike _ _ (two_alike leaf leaf _ _ refl (one_alike a b h)))))

pub own_alike : (given : List Name) (n : Component) (r q : ContractPeaks) → Same r q → AllAlike (own_by given n r) (own_by given n q)
own_alike given n r q h =
    let e : cut_modes r.modes ≡ cut_modes q.modes = ap (λ z. z.modes) h in
    let x : (e : Expression) → Alike (size_in n r.modes e) (size_in n q.modes e) = expression_alike n r.modes q.modes e in
    both_alike (equation_sizes n r.modes) (equation_sizes n q.modes) _ _
    (each_alike (λ e. given_size (presence n (clock_of_names n e.names)) (size_in n r.modes e.right))
    (λ e. given_size (presence n (clock_of_names n e.names)) (size_in n q.modes e.right))
    (λ e. given_alike (presence n (clock_of_names n e.names)) _ _ (x e.right)) (equations n))
    (both_alike (free_sizes given n) (free_sizes given n) _ _ refl
    (both_alike (map (memory_size n r.modes) (memories n)) (map (memory_size n q.modes) (memories n)) _ _
    (each_alike (memory_size n r.modes) (memory_size n q.modes)
    (λ m. two_alike leaf leaf _ _ refl (three_alike (presence n m.clock) (presence n m.clock) _ _ leaf leaf refl (x m.operand) refl)) (memories n))
    (both_alike (map (start_size n) (starts n)) (map (start_size n) (starts n)) _ _ refl
    (both_alike (sofar_by n.contract r.assumed.whole) (sofar_by n.contract q.assumed.whole) _ _
    (sofar_alike n.contract _ _ (ap (λ z. z.assumed.whole) h)) (asserts_alike n r.modes q.modes e n.body)))))

pub site_alike : (n : Component) (ms ns : ModeSizes) → cut_modes ms ≡ cut_modes ns → (s : Site) (m : Manner) →
    AllAlike (site_sizes n ms s no_component m) (site_sizes n ns s no_component m)
site_alike n ms ns h s plain =
    ap (λ r. cut_term (two leaf (presence n s.clock)) ∷ r)
    (each_alike _ _ (λ a. given_alike leaf (size_in n ms a) (size_in n ns a) (expression_alike n ms ns h a)) s.arguments)
site_alike n ms ns h s (while_true c) =
    ap (λ x. x ∷ cut_term (three leaf leaf leaf) ∷ cut_term (two leaf (three leaf leaf leaf))
    ∷ map cut_term (map (λ a. given_size leaf (size_in n ms a)) s.arguments))
    (two_alike leaf leaf _ _ refl (two_alike (presence n s.clock) (presence n s.clock) _ _ refl (expression_alike n ms ns h c)))
    ∙ ap (λ r. cut_term (two leaf (two (presence n s.clock) (size_in n ns c))) ∷ cut_term (three leaf leaf leaf)
    ∷ cut_term (two leaf (three leaf leaf leaf)) ∷ r)
    (each_alike _ _ (λ a. given_alike leaf (size_in n ms a) (size_in n ns a) (expression_alike n ms ns h a)) s.arguments)
site_alike n ms ns h s (as_import xs) =
    ap (λ r. cut_term (given_size leaf leaf) ∷ r)
    (each_alike _ _ (λ a. given_alike leaf (size_in n ms a) (size_in n ns a) (expression_alike n ms ns h a)) s.arguments)

frame_of_alike : (m : Manner) (z : SizeSummary) → Alike (frame_of m z) (frame_of m (cut_summary z))
frame_of_alike plain z = sym (twice z.called)
frame_of_alike (while_true a) z = sym (twice z.called)
frame_of_alike (as_import xs) z = sym (twice z.imported)

sites_alike : (n : Component) (ms ns : ModeSizes) → cut_modes ms ≡ cut_modes ns → (ss : List Site) (zs : List SizeSummary) →
    Alike (sites_by n ms ss zs) (sites_by n ns ss (map cut_summary zs))
sites_alike n ms ns h [] zs = refl
sites_alike n ms ns h (s ∷ ss) [] = refl
sites_alike n ms ns h (s ∷ ss) (z ∷ zs) =
    greater_alike _ _ _ _ (peak_alike _ _ (site_alike n ms ns h s s.manner))
    (greater_alike _ _ _ _ (frame_of_alike s.manner z) (sites_alike n ms ns h ss zs))

frame_alike : (n : Component) (zs : List SizeSummary) (given : List Name) (r q : ContractPeaks) → Same r q →
    Alike (frame_by zs given n r) (frame_by (map cut_summary zs) given n q)
frame_alike n zs given r q h =
    greater_alike _ _ _ _ (peak_alike _ _ (own_alike given n r q h))
    (sites_alike n r.modes q.modes (ap (λ z. z.modes) h) (all_sites n) zs)

pub same_summary : (a b : SizeSummary) → a.contract ≡ b.contract → a.called ≡ b.called → a.imported ≡ b.imported → a ≡ b
same_summary a b e f g = λ i. record { contract = e i; called = f i; imported = g i }

pub size_summary_cuts : SizeSummaryCuts
size_summary_cuts n zs =
    let h : Same (contract_by zs n) (contract_by (map cut_summary zs) n) = contract_alike n zs in
    same_summary (cut_summary (size_summary_by zs n)) (cut_summary (size_summary_by (map cut_summary zs) n)) h
    (frame_alike n zs (inputs_given n) _ _ h) (frame_alike n zs (all_given n) _ _ h)

-- ---- a node's system

owed_alike : (r q : ContractPeaks) → Same r q →
    Alike (cond r.assumed.is_none no_size (owed_size r.assumes)) (cond q.assumed.is_none no_size (owed_size q.assumes))
owed_alike r q h =
    ap (λ b. cut_term (cond b no_size (owed_size r.assumes))) (ap (λ z. z.assumed.is_none) h)
    ∙ by_case q.assumed.is_none where
      by_case : (b : Bool) → Alike (cond b no_size (owed_size r.assumes)) (cond b no_size (owed_size q.assumes))
      by_case true = refl
      by_case false = one_alike _ _ (two_alike leaf leaf _ _ refl (one_alike _ _ (ap (λ z. z.assumes) h)))

owed_of_alike : (m : Manner) (r q : ContractPeaks) → Same r q → Alike (owed_by m r) (owed_by m q)
owed_of_alike (as_import xs) r q h = refl
owed_of_alike plain r q h = owed_alike r q h
owed_of_alike (while_true a) r q h = owed_alike r q h

all_owed_alike : (ss : List Site) (zs : List SizeSummary) → Alike (all_owed_by ss zs) (all_owed_by ss (map cut_summary zs))
all_owed_alike [] zs = refl
all_owed_alike (s ∷ ss) [] = refl
all_owed_alike (s ∷ ss) (z ∷ zs) =
    greater_alike _ _ _ _ (owed_of_alike s.manner z.contract (cut_peaks z.contract) (sym (twice_peaks z.contract))) (all_owed_alike ss zs)

pub terms_cut : TermsCut
terms_cut n zs z =
    greater_alike _ _ _ _ (sym (twice z.called))
    (greater_alike _ _ _ _ (sym (twice z.contract.assumes))
    (greater_alike _ _ _ _ (peak_alike _ _ (properties_alike n z.contract.modes (cut_modes z.contract.modes) (sym (twice_modes z.contract.modes)) n.body))
    (greater_alike _ _ _ _ (sym (twice z.contract.promises))
    (greater_alike _ _ _ _ (sym (twice z.contract.active.whole)) (all_owed_alike (all_sites n) zs)))))
