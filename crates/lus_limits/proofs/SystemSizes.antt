-- The sizes of a declaration's system, by what is known of all declarations.
use Rattle.std.proofs.Common.{◌≡◌, ℕ, ◌+◌, ◌<◌, List, [], ◌∷◌, ◌++◌, map, length, get_or, drop, drop-cons, Option, Some, None, sym, ap, ◌∙◌, subst, arith, append_assoc, add-one, is_none, not}
use Rattle.lus_tree.specs.Tree.{Component, Program}
use Rattle.lus_streams.specs.declared.owner.Owner.{Owner}
use Rattle.lus_streams.specs.Owner.{owner_view}
use Rattle.lus_meaning.specs.ClockFaults.{components}
use Rattle.lus_meaning.specs.Program.{all_sites, instance_of}
use Rattle.lus_meaning.specs.Refusals.{IsChecked}
use Rattle.lus_meaning.specs.Scene.{as_import, plain, no_component}
use Rattle.lus_meaning.specs.Sizes.{Size, term_sizes}
use Rattle.lus_limits.specs.declared.calls.Way.TheVariants.{Plain}
use Rattle.lus_limits.specs.declared.needs.Needs.{Needs}
use Rattle.lus_limits.specs.declared.systems.SystemSize.{SystemSize}
use Rattle.lus_limits.specs.Calls.{called_of}
use Rattle.lus_limits.specs.Contracted.{summary_seen}
use Rattle.lus_limits.specs.Needed.{AllKnown, IsNeeds, names_of, sizes_or}
use Rattle.lus_limits.specs.Nodes.{node_terms}
use Rattle.lus_limits.specs.Peaks.{peak}
use Rattle.lus_limits.specs.SizeCuts.{cut_term}
use Rattle.lus_limits.specs.Summaries.{cut, sofar_count}
use Rattle.lus_limits.specs.SystemSizes.{system_size}
use Rattle.lus_limits.specs.Widths.{frame_width}
use Rattle.lus_limits.proofs.Needed.{IsAt, at_number, mapped_at}
use Rattle.lus_limits.proofs.Nodes.{node_terms_known}
use Rattle.lus_limits.proofs.Sums.{frame_so}

cut_part : (a b : ℕ) → cut (cut a + b) ≡ cut (a + b)
cut_part a b = omega arith

same_size : (a b : SystemSize) → a.properties ≡ b.properties → a.variables ≡ b.variables → a.levels ≡ b.levels → a.parts ≡ b.parts → a ≡ b
same_size a b e f g h = λ i. record { properties = e i; variables = f i; levels = g i; parts = h i }

-- a size of these numbers
abbrev pub sized : ℕ → ℕ → ℕ → ℕ → SystemSize
sized k v l q = record { properties = k; variables = v; levels = l; parts = q }

-- the declaration with that number
pub owner_is : (p : Program) (os : List Owner) (k : ℕ) (o : Owner) → map owner_view os ≡ components p → k < length os → o ≡ get_or os k o
    → owner_view o ≡ get_or (components p) k no_component
owner_is p os k o e l h = sym (mapped_at os k o l h) ∙ ap (λ z. get_or z k no_component) e

module _ (p : Program) (c : IsChecked p) (known : List (Option Needs)) (a : AllKnown p known) (k : ℕ) (l : k < length (components p)) where
  abbrev n : Component
  n = get_or (components p) k no_component

  -- the needs with a declaration's number are its needs
  right_at : (d : Needs) → get_or known k None ≡ Some d → IsNeeds p n d
  right_at d e = go (at_number p (components p) known k a.right (a.all k l))
    where
      go : (b : Needs) × IsAt p (components p) known k n b → IsNeeds p n d
      go (b, i) = let f : b ≡ d = cc (i.needs, e) in subst (IsNeeds p n) f i.right

  pub size_is : (d : Needs) → get_or known k None ≡ Some d → (v : ℕ) → v ≡ cut (d.counts.frame + sofar_count Plain d.counts.contract)
      → (s : Size) → s ≡ cut_term (node_terms (names_of p) known (map called_of (all_sites n)) n (summary_seen d.sizes))
      → sized d.counts.properties v s.levels s.parts ≡ system_size p n
  size_is d e v f s g =
      let r : IsNeeds p n d = right_at d e in
      let t : s ≡ cut_term (peak (term_sizes (instance_of p n))) =
      g ∙ ap (λ o. cut_term (node_terms (names_of p) known (map called_of (all_sites n)) n (sizes_or o))) (sym e)
      ∙ node_terms_known p c known a k l in
      same_size (sized d.counts.properties v s.levels s.parts) (system_size p n)
      (ap (λ z. z.properties) r.counts)
      (f ∙ ap (λ z. cut (z.frame + sofar_count Plain z.contract)) r.counts
      ∙ cut_part (frame_width p (as_import []) n) (sofar_count Plain (not (is_none n.contract)))
      ∙ ap cut (sym (frame_so p plain n)))
      (ap (λ z. z.levels) t)
      (ap (λ z. z.parts) t)

-- one more
pub one_more : {X : Type 0} (f : Component → X) (ns : List Component) (k : ℕ) (xs ys : List X) (x : X) (t : List X) → k < length ns
    → x ≡ f (get_or ns k no_component) → ys ≡ xs ++ x ∷ [] → xs ++ map f (drop k ns) ≡ t → ys ++ map f (drop (k + 1) ns) ≡ t
one_more f ns k xs ys x t l e g h =
    ap (λ zs. zs ++ map f (drop (k + 1) ns)) g
    ∙ append_assoc xs (x ∷ []) (map f (drop (k + 1) ns))
    ∙ ap (λ z. xs ++ (z ∷ map f (drop (k + 1) ns))) e
    ∙ ap (λ zs. xs ++ map f zs) (ap (λ j. get_or ns k no_component ∷ drop j ns) (add-one k) ∙ sym (drop-cons ns k no_component l))
    ∙ h
