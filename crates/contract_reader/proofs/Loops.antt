-- Loops over what may stand any number of times.
use Rattle.std.proofs.Common.{◌≡◌, ℕ, refl, sym, ap, ◌∙◌, List, [], ◌∷◌, ◌++◌, append_assoc, append-nil, map}
use Rattle.std.proofs.lemmas.List.{map_push}
use Rattle.lus_tree.specs.Reason.{Refused}
use Rattle.lus_grammar.specs.Stream.{Stream}
use Rattle.lus_grammar.specs.Phrase.{Phrase, repeated}
use Rattle.lus_grammar.specs.Syntax.{Counts, Syntax, none}
use Rattle.lus_grammar.specs.Starts.{Enters, Passes}
use Rattle.lus_grammar.specs.Answers.{Reads, Refuses}
use Rattle.contract_reader.specs.Parts.{Leads, Adds, GrowsBoth}
use Rattle.contract_reader.proofs.Leads.{here, once_more, ends_many, stops_next}

-- the phrase goes on at j, and vs is what it gave so far
pub record Loops {A : Type 0} (value : Syntax → List A) (s : Stream) (g : Phrase) (i : ℕ) (n : Counts) (j : ℕ) (m : Counts) (vs : List A) : Type 0 where
  pub f : Syntax → Syntax
  pub leads : Leads s (repeated g) i n (repeated g) j m f
  pub is : (x : Syntax) → value (f x) ≡ vs ++ value x

-- the same of two lists
pub record LoopsBoth {A B : Type 0} (value : Syntax → List A) (other : Syntax → List B) (s : Stream) (g : Phrase) (i : ℕ) (n : Counts)
    (j : ℕ) (m : Counts) (vs : List A) (ws : List B) : Type 0 where
  pub f : Syntax → Syntax
  pub leads : Leads s (repeated g) i n (repeated g) j m f
  pub is : (x : Syntax) → value (f x) ≡ vs ++ value x
  pub is_too : (x : Syntax) → other (f x) ≡ ws ++ other x

module _ {A : Type 0} {value : Syntax → List A} {s : Stream} {g : Phrase} {i : ℕ} {n : Counts} where
  pub begun : Loops value s g i n i n []
  begun = record { f = λ x. x; leads = here; is = λ x. refl }

  pub one_more : {j k : ℕ} {m o : Counts} {vs ws : List A} → Loops value s g i n j m vs → Enters s j g → Adds value s g j m k o ws
      → Loops value s g i n k o (vs ++ ws)
  one_more {vs = vs} {ws = ws} l e a = record {
    f = _;
    leads = once_more l.leads e a.run;
    is = λ x. l.is _ ∙
        (ap (λ z. vs ++ z) (a.is x) ∙ sym (append_assoc vs ws (value x)));
  }

  pub ended : {j : ℕ} {m : Counts} {vs : List A} → Loops value s g i n j m vs → Passes s j g → value none ≡ [] → Reads value s (repeated g) i n j m vs
  ended {vs = vs} l e h = record { syntax = _; run = ends_many l.leads e; is = sym (l.is none ∙ (ap (λ z. vs ++ z) h ∙ append-nil vs)) }

  pub stuck : {j : ℕ} {m : Counts} {vs : List A} {r : Refused} → Loops value s g i n j m vs → Enters s j g → Refuses s g j m r → Refuses s (repeated g) i n r
  stuck l e r = stops_next l.leads e r

module _ {A B : Type 0} {value : Syntax → List A} {other : Syntax → List B} {s : Stream} {g : Phrase} {i : ℕ} {n : Counts} where
  pub begun_both : LoopsBoth value other s g i n i n [] []
  begun_both = record { f = λ x. x; leads = here; is = λ x. refl; is_too = λ x. refl }

  pub more_both : {j k : ℕ} {m o : Counts} {vs vs' : List A} {ws ws' : List B} → LoopsBoth value other s g i n j m vs ws → Enters s j g
      → GrowsBoth value other s g j m k o vs vs' ws ws' → LoopsBoth value other s g i n k o vs' ws'
  more_both l e a = record { f = _; leads = once_more l.leads e a.run; is = λ x. l.is _ ∙ a.is x; is_too = λ x. l.is_too _ ∙ a.is_too x }

  pub ended_both : {j : ℕ} {m : Counts} {vs : List A} {ws : List B} → LoopsBoth value other s g i n j m vs ws → Passes s j g
      → value none ≡ [] → other none ≡ [] → Reads {V = List A × List B} (λ x. (value x, other x)) s (repeated g) i n j m (vs, ws)
  ended_both {vs = vs} {ws = ws} l e h k =
      let u : value (l.f none) ≡ vs = l.is none ∙ (ap (λ z. vs ++ z) h ∙ append-nil vs) in
      let w : other (l.f none) ≡ ws = l.is_too none ∙ (ap (λ z. ws ++ z) k ∙ append-nil ws) in
      record { syntax = _; run = ends_many l.leads e; is = rw (u, w) refl }

  pub stuck_both : {j : ℕ} {m : Counts} {vs : List A} {ws : List B} {r : Refused} → LoopsBoth value other s g i n j m vs ws → Enters s j g
      → Refuses s g j m r → Refuses s (repeated g) i n r
  stuck_both l e r = stops_next l.leads e r

-- the views of a list with one more value
pub pushed : {X A : Type 0} (f : X → A) (old new : List X) (v : X) → new ≡ old ++ v ∷ [] → map f new ≡ map f old ++ f v ∷ []
pushed f old new v e = rw (e, map_push) refl
