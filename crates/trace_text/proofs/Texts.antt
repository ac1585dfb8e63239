-- What is written of a line.
use Rattle.std.proofs.Common.{◌≡◌, ℕ, List, [], ◌∷◌, ◌++◌, refl, ap, ◌∙◌, append_assoc}
use Rattle.std.specs.List.{flat_map}
use Rattle.std.proofs.lemmas.List.Concat.{flat_map-cons}
use Rattle.lus_meaning.specs.Value.{Value}
use Rattle.lus_meaning.specs.Trace.{Subject}
use Rattle.trace_text.specs.Words.{step_text, address_text, subject_text}
use Rattle.trace_text.specs.Traces.{item_text, line_text}

address_is : (ks : List ℕ) (s : Subject) → flat_map step_text ks ++ subject_text s ≡ address_text ks s
address_is [] s = refl
address_is (k ∷ ks) s =
    ap (λ (x : List ℕ). x ++ subject_text s) (flat_map-cons step_text k ks) ∙ append_assoc (step_text k) (flat_map step_text ks) (subject_text s)
    ∙ ap (λ (x : List ℕ). step_text k ++ x) (address_is ks s)

pub line_is : (o a b d e : List ℕ) (ks : List ℕ) (s : Subject) (vs : List Value) → a ≡ o ++ flat_map step_text ks → b ≡ a ++ subject_text s
    → d ≡ b ++ flat_map item_text vs → e ≡ d ++ 10 ∷ []
    → e ≡ o ++ line_text record { path = ks; subject = s; values = vs }
line_is o a b d e ks s vs p q r t =
    let x : b ≡ o ++ address_text ks s = q ∙ ap (λ (y : List ℕ). y ++ subject_text s) p ∙ append_assoc o (flat_map step_text ks)
    (subject_text s) ∙ ap (λ (y : List ℕ). o ++ y) (address_is ks s) in
    let z : d ≡ o ++ (address_text ks s ++ flat_map item_text vs) = r ∙ ap (λ (y : List ℕ). y ++ flat_map item_text vs) x ∙ append_assoc o
    (address_text ks s) (flat_map item_text vs) in
    t ∙ ap (λ (y : List ℕ). y ++ 10 ∷ []) z ∙ append_assoc o (address_text ks s ++ flat_map item_text vs) (10 ∷ []) ∙ ap
    (λ (y : List ℕ). o ++ y) (append_assoc (address_text ks s) (flat_map item_text vs) (10 ∷ []))
