-- The format of traces: which bytes are which trace, where bytes outside the format first don't fit, and what is written.
use Rattle.std.specs.Prelude.{◌≡◌, ℕ, ◌<◌, ◌⊎◌, true, List, [], ◌∷◌, ◌++◌, map, codes, decimal}
use Rattle.std.specs.List.{flat_map, AllByRecursion}
use Rattle.lus_tree.specs.declared.place.Pos.{Pos}
use Rattle.lus_meaning.specs.Value.{Value}
use Rattle.lus_meaning.specs.Trace.{BareLine}
use Rattle.lus_meaning.specs.TraceView.{PlacedValue, PlacedLine, Listing, bare_line, lines_of}
use Rattle.trace_text.specs.declared.fault.TraceFault.{TraceFault}
use Rattle.trace_text.specs.declared.fault.TraceFault.TheVariants.{Form, Memory}
use Rattle.trace_text.specs.Cutting.{TraceWord, TextLine, text_lines, end_of, filled}
use Rattle.lus_lexer.specs.Names.{is_name}
use Rattle.trace_text.specs.Words.{IsNumber, IsAddress, FitsSubject, address_text, IsValue, FitsValue, value_text}

-- ---- what a trace is

abbrev pub texts : List TraceWord → List (List ℕ)
texts ws = map (λ w. w.text) ws

abbrev pub places_of : List TraceWord → List Pos
places_of ws = map (λ w. w.at) ws

-- trace NODE N, and the places of NODE and N
pub record IsOpening (r : TextLine) (node : List ℕ) (node_at : Pos) (n : ℕ) (n_at : Pos) : Type 0 where
  pub count : List ℕ
  pub shape : texts r.words ≡ codes "trace" ∷ node ∷ count ∷ []
  pub first : Pos
  pub places : places_of r.words ≡ first ∷ node_at ∷ n_at ∷ []
  pub name : is_name node ≡ true
  pub number : IsNumber count n

-- the words are the values, and stand at their places
abbrev pub AreValues : List TraceWord → List PlacedValue → Type 0
AreValues [] [] = Unit {0}
AreValues (w ∷ ws) (v ∷ vs) = IsValue w.text v.value × (v.at ≡ w.at) × AreValues ws vs
AreValues _ _ = ⊥

-- PLACE V .. V, with at least one value
pub record IsLine (r : TextLine) (l : PlacedLine) : Type 0 where
  pub place : TraceWord
  pub first : TraceWord
  pub others : List TraceWord
  pub shape : r.words ≡ place ∷ first ∷ others
  pub at : l.at ≡ place.at
  pub is_address : IsAddress place.text l.path l.subject
  pub values : AreValues (first ∷ others) l.values

-- the one word end
abbrev pub IsClosing : TextLine → Type 0
IsClosing r = texts r.words ≡ codes "end" ∷ []

-- the lines of a trace, and then end at this place
abbrev pub AreLines : List TextLine → List PlacedLine → Pos → Type 0
AreLines [] ls e = ⊥
AreLines (r ∷ rs) [] e = IsClosing r × (places_of r.words ≡ e ∷ []) × (rs ≡ [])
AreLines (r ∷ rs) (l ∷ ls) e = IsLine r l × AreLines rs ls e

abbrev pub AreTrace : List TextLine → Listing → Type 0
AreTrace [] t = ⊥
AreTrace (r ∷ rs) t = IsOpening r t.node t.node_at t.length t.length_at × AreLines rs t.lines t.end_at

-- the bytes are the trace
abbrev pub IsTraceText : List ℕ → Listing → Type 0
IsTraceText bytes t = AreTrace (filled (text_lines bytes)) t

-- ---- where it doesn't fit

-- what a word has to be
pub data Wanted : Type 0 where
  this : List ℕ → Wanted
  a_name : Wanted
  a_number : Wanted
  an_address : Wanted
  a_value : Wanted

abbrev pub Fits : Wanted → List ℕ → Type 0
Fits (this x) w = w ≡ x
Fits a_name w = is_name w ≡ true
Fits a_number w = (n : ℕ) × IsNumber w n
Fits an_address w = (path : List ℕ) × (s : _) × IsAddress w path s
Fits a_value w = (v : Value) × IsValue w v

-- the first place in a line, which ends at e, where its words aren't those that are wanted
abbrev pub MisfitIn : List Wanted → List TraceWord → Pos → Pos → Type 0
MisfitIn [] [] e p = ⊥
MisfitIn [] (w ∷ ws) e p = p ≡ w.at
MisfitIn (k ∷ ks) [] e p = p ≡ e
MisfitIn (k ∷ ks) (w ∷ ws) e p = ((Fits k w.text → ⊥) × (p ≡ w.at)) ⊎ (Fits k w.text × MisfitIn ks ws e p)

-- its words are those that are wanted
abbrev pub AreFit : List Wanted → List TraceWord → Type 0
AreFit [] [] = Unit {0}
AreFit (k ∷ ks) (w ∷ ws) = Fits k w.text × AreFit ks ws
AreFit _ _ = ⊥

abbrev pub opening : List Wanted
opening = this (codes "trace") ∷ a_name ∷ a_number ∷ []

-- a place and a value, and a value for each further word
abbrev pub line_wanted : List TraceWord → List Wanted
line_wanted [] = an_address ∷ a_value ∷ []
line_wanted (w ∷ []) = an_address ∷ a_value ∷ []
line_wanted (w ∷ v ∷ vs) = an_address ∷ a_value ∷ map (λ _. a_value) vs

-- the first misfit behind the end line: the first word
abbrev pub MisfitBehind : List TextLine → Pos → Type 0
MisfitBehind [] p = ⊥
MisfitBehind (r ∷ rs) p = MisfitIn [] r.words r.end p

-- the first misfit in the lines, where the text ends at e
abbrev pub MisfitBelow : List TextLine → Pos → Pos → Type 0
MisfitBelow [] e p = p ≡ e
MisfitBelow (r ∷ rs) e p =
    (IsClosing r × MisfitBehind rs p)
    ⊎ ((IsClosing r → ⊥) × (MisfitIn (line_wanted r.words) r.words r.end p ⊎ (AreFit (line_wanted r.words) r.words × MisfitBelow rs e p)))

abbrev pub MisfitAt : List TextLine → Pos → Pos → Type 0
MisfitAt [] e p = p ≡ e
MisfitAt (r ∷ rs) e p = MisfitIn opening r.words r.end p ⊎ (AreFit opening r.words × MisfitBelow rs e p)

-- the first word or line end of the bytes that doesn't fit
abbrev pub FirstMisfit : List ℕ → Pos → Type 0
FirstMisfit bytes p = MisfitAt (filled (text_lines bytes)) (end_of bytes) p

-- a refusal
abbrev pub Refuses : List ℕ → TraceFault → Type 0
Refuses bytes (Form p) = FirstMisfit bytes p
Refuses bytes Memory = Unit {0}

-- ---- what is written

-- a space and a value
abbrev pub item_text : Value → List ℕ
item_text v = 32 ∷ value_text v

abbrev pub line_text : BareLine → List ℕ
line_text l = address_text l.path l.subject ++ (flat_map item_text l.values ++ 10 ∷ [])

abbrev pub trace_text : Listing → List ℕ
trace_text t = codes "trace " ++ (t.node ++ 32 ∷ (decimal t.length ++ 10 ∷ (flat_map (λ l. line_text (bare_line l)) t.lines ++ codes "end\n")))

-- names are names, numbers in range, and each line has a value
abbrev pub HasValues : List Value → Type 0
HasValues [] = ⊥
HasValues (v ∷ vs) = AllByRecursion FitsValue (v ∷ vs)

pub record FitsLine (l : BareLine) : Type 0 where
  pub path : AllByRecursion (λ k. k < 4294967296) l.path
  pub subject : FitsSubject l.subject
  pub values : HasValues l.values

pub record FitsTrace (t : Listing) : Type 0 where
  pub node : is_name t.node ≡ true
  pub length : t.length < 4294967296
  pub lines : AllByRecursion FitsLine (lines_of t)
