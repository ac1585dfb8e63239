-- The resolution of an expression by a sight.
use Rattle.std.proofs.Common.{◌≡◌, List, refl, ap, ◌∙◌, option_map}
use Rattle.lus_tree.specs.Tree.{Expression, text_of, truth, number, name, negation, minus, pre, arrow, binary, choice, sampled, merged, call, condact, mode_name}
use Rattle.sys_meaning.specs.Slot.{named, own}
use Rattle.sys_texts.specs.Sights.{Sight, name_number, number_at}
use Rattle.slot_values.specs.Resolution as r
use Rattle.slot_values.specs.Resolved.{Numbering, constant_or_slot, resolution, first_resolution}
use Rattle.frame_sources.specs.Resolved.{Asked, IsNumberedBy, call_by, latest_each_by, resolved_by}

module _ (s : Sight) (ms : List Asked) (g : Numbering) (h : IsNumberedBy s ms g) where
  pub resolved_is : (e : Expression) → resolution g e ≡ resolved_by s ms e
  resolved_is (truth p b) = refl
  resolved_is (number p n) = refl
  resolved_is (name p x) =
      ap (λ o. constant_or_slot o (r.slot (g.number (own (named x))))) (h.constants x) ∙ ap (λ n. constant_or_slot (s.constant x) (r.slot n)) (h.names x)
  resolved_is (negation p a) = ap r.negated (resolved_is a)
  resolved_is (minus p a) = ap (r.opposite p.at) (resolved_is a)
  resolved_is (pre p k a) = ap r.slot (h.memories k)
  resolved_is (arrow p k a b) =
      ap (λ n. r.started n (resolution g a) (resolution g b)) (h.starts k)
      ∙ (ap (λ x. r.started (number_at s.starts s.missing k) x (resolution g b)) (resolved_is a)
      ∙ ap (r.started (number_at s.starts s.missing k) (resolved_by s ms a)) (resolved_is b))
  resolved_is (binary p o a b) =
      ap (λ x. r.combined p.at o x (resolution g b)) (resolved_is a) ∙ ap (r.combined p.at o (resolved_by s ms a)) (resolved_is b)
  resolved_is (choice p a b d) =
      ap (λ x. r.chosen x (resolution g b) (resolution g d)) (resolved_is a)
      ∙ (ap (λ x. r.chosen (resolved_by s ms a) x (resolution g d)) (resolved_is b)
      ∙ ap (r.chosen (resolved_by s ms a) (resolved_by s ms b)) (resolved_is d))
  resolved_is (sampled p a q x) =
      ap (λ n. r.sampled n q (resolution g a)) (h.names x.text) ∙ ap (r.sampled (name_number s x.text) q) (resolved_is a)
  resolved_is (merged p x a b) =
      ap (λ n. r.merged n (resolution g a) (resolution g b)) (h.names x.text)
      ∙ (ap (λ z. r.merged (name_number s x.text) z (resolution g b)) (resolved_is a)
      ∙ ap (r.merged (name_number s x.text) (resolved_by s ms a)) (resolved_is b))
  resolved_is (call p k f as_) = h.output k
  resolved_is (condact p k a f as_ ds) =
      h.latest k (resolution g a) ∙ ap (λ z. first_resolution (latest_each_by z (call_by s k))) (resolved_is a)
  resolved_is (mode_name p d m) = h.modes (option_map text_of d) m.text
