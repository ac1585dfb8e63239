-- A text that is cut into its lines.
use Rattle.std.proofs.Common.{◌≡◌, ◌≢◌, ◌≤◌, ◌<◌, ◌+◌, ℕ, List, [], ◌∷◌, ◌++◌, length, get_or, take, refl, sym, ap, ◌∙◌, append_assoc, append-nil, add-one, codes, decimal}
use Rattle.std.specs.List.{AllByRecursion}
use Rattle.std.proofs.Math.Seq.{take-suc}
use Rattle.std.proofs.lemmas.List.{take_all}
use Rattle.kind_main.specs.Lines.{Line, text_of}
use Rattle.trace_text.specs.Traces.{trace_text}
use Rattle.lus_meaning.specs.TraceView.{Listing}
use Rattle.kind_main.specs.Verdicts.{IsOneLine, IsEnded, Cuts, ends, goes_on}
use Rattle.kind_main.proofs.Printing.{text-append}

-- whole lines, and the front of the next one, are the first i bytes
pub record Cutting (text : List ℕ) (i : ℕ) (lines : List Line) (line : List ℕ) : Type 0 where
  pub whole : text_of lines ++ line ≡ take i text
  pub each : AllByRecursion IsOneLine lines
  pub one : AllByRecursion (λ b. b ≢ 10) line

pub cutting_start : (text : List ℕ) → Cutting text 0 [] []
cutting_start text = record { whole = refl; each = tt; one = tt }

one_more : {X : Type 0} (P : X → Type 0) (xs : List X) (x : X) → AllByRecursion P xs → P x → AllByRecursion P (xs ++ x ∷ [])
one_more P [] x h p = (p, tt)
one_more P (y ∷ ys) x h p = (h.0, one_more P ys x h.1 p)

-- one byte more, of which it is known that it is the next one
module _ (text : List ℕ) (i : ℕ) (lines : List Line) (line : List ℕ) (b : ℕ) (further : take (i + 1) text ≡ take i text ++ b ∷ []) (c : Cutting text i lines line) where
  -- a byte that ends no line
  cutting_goes_on : b ≢ 10 → Cutting text (i + 1) lines (line ++ b ∷ [])
  cutting_goes_on differs = record {
    whole = sym (append_assoc (text_of lines) line (b ∷ [])) ∙ (ap (λ t. t ++ b ∷ []) c.whole ∙ sym further);
    each = c.each;
    one = one_more (λ x. x ≢ 10) line b c.one differs;
  }

  -- a line feed
  cutting_ends : b ≡ 10 → Cutting text (i + 1) (lines ++ (line ++ b ∷ []) ∷ []) []
  cutting_ends feed = record {
    whole = append-nil (text_of (lines ++ (line ++ b ∷ []) ∷ []))
        ∙ (text-append lines ((line ++ b ∷ []) ∷ [])
        ∙ (ap (λ t. text_of lines ++ t) (append-nil (line ++ b ∷ []))
        ∙ (sym (append_assoc (text_of lines) line (b ∷ [])) ∙ (ap (λ t. t ++ b ∷ []) c.whole ∙ sym further))));
    each = one_more IsOneLine lines (line ++ b ∷ []) c.each (record { words = line; ended = ap (λ x. line ++ x ∷ []) feed; one = c.one });
    one = tt;
  }

  cutting_by : (new : List Line) (rest : List ℕ) → Cuts b lines line new rest → Cutting text (i + 1) new rest
  cutting_by new rest (ends feed e f) = rw (e, f) (cutting_ends feed)
  cutting_by new rest (goes_on differs e f) = rw (e, f) (cutting_goes_on differs)

pub cutting_next : (text : List ℕ) (i : ℕ) (lines : List Line) (line : List ℕ) → i < length text → Cutting text i lines line
    → (new : List Line) (rest : List ℕ) → Cuts (get_or text i 0) lines line new rest → Cutting text (i + 1) new rest
cutting_next text i lines line inside c new rest h =
    cutting_by text i lines line (get_or text i 0) (rw add-one (take-suc text i 0 inside)) c new rest h

-- ---- nothing is left behind the last line feed

abbrev last_of : List ℕ → ℕ
last_of [] = 0
last_of (x ∷ []) = x
last_of (x ∷ y ∷ xs) = last_of (y ∷ xs)

last_behind : (xs : List ℕ) (y : ℕ) (ys : List ℕ) → last_of (xs ++ y ∷ ys) ≡ last_of (y ∷ ys)
last_behind [] y ys = refl
last_behind (x ∷ []) y ys = refl
last_behind (x ∷ z ∷ xs) y ys = last_behind (z ∷ xs) y ys

last_differs : (y : ℕ) (ys : List ℕ) → AllByRecursion (λ b. b ≢ 10) (y ∷ ys) → last_of (y ∷ ys) ≢ 10
last_differs y [] h = h.0
last_differs y (z ∷ ys) h = last_differs z ys h.1

nothing_left : (before line words : List ℕ) → AllByRecursion (λ b. b ≢ 10) line → before ++ line ≡ words ++ 10 ∷ [] → line ≡ []
nothing_left before [] words h e = refl
nothing_left before (y ∷ ys) words h e =
    absurd (last_differs y ys h (sym (last_behind before y ys) ∙ (ap last_of e ∙ last_behind words 10 [])))

module _ (text : List ℕ) (text_ends : IsEnded text) (i : ℕ) (lines : List Line) (line : List ℕ) (le : length text ≤ i) (c : Cutting text i lines line) where
  pub cutting_whole : text_of lines ≡ text
  cutting_whole =
      let all : text_of lines ++ line ≡ text = c.whole ∙ take_all i text le in
      let none : line ≡ [] = nothing_left (text_of lines) line text_ends.words c.one (all ∙ text_ends.ended) in
      sym (append-nil (text_of lines)) ∙ (ap (λ l. text_of lines ++ l) (sym none) ∙ all)

-- the text of a trace ends with its line feed
behind : (xs ys : List ℕ) → IsEnded ys → IsEnded (xs ++ ys)
behind xs ys e = record { words = xs ++ e.words; ended = ap (λ l. xs ++ l) e.ended ∙ sym (append_assoc xs e.words (10 ∷ [])) }

behind_one : (x : ℕ) (ys : List ℕ) → IsEnded ys → IsEnded (x ∷ ys)
behind_one x ys e = record { words = x ∷ e.words; ended = ap (λ l. x ∷ l) e.ended }

pub trace_ends : (t : Listing) → IsEnded (trace_text t)
trace_ends t =
    let last : IsEnded (codes "end\n") = record { words = codes "end"; ended = refl } in
    behind (codes "trace ") _ (behind t.node _ (behind_one 32 _ (behind (decimal t.length) _ (behind_one 10 _ (behind _ (codes "end\n") last)))))
