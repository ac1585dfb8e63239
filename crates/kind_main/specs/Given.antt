-- What the words behind `prove` give: a file, a depth and engines, in any order and each at most once.
use Rattle.std.specs.Prelude.{◌≡◌, ◌≤◌, ◌⊎◌, ℕ, Bool, false, ◌==◌, List, [], ◌∷◌, codes, length, Option, Some, None, option_map}
use Rattle.std.specs.Str.Parse.{IsNumeral, digits_value}
use Rattle.kind_main.specs.declared.options.Engines.{Engines}
use Rattle.kind_main.specs.declared.options.Engines.TheVariants as e
use Rattle.kind_main.specs.declared.given.Given.{Given as Read}

-- a word that begins with `-` is an option, and no positional word
abbrev pub is_option : List ℕ → Bool
is_option [] = false
is_option (b ∷ bs) = b == 45

pub record Given : Type 0 where
  pub file : Option (List ℕ)
  pub depth : Option ℕ
  pub engines : Option Engines

abbrev pub nothing : Given
nothing = record { file = None; depth = None; engines = None }

-- a number from 1 to 1,000 in 1 to 19 decimal digits
pub record IsDepth (word : List ℕ) (n : ℕ) : Type 0 where
  pub numeral : IsNumeral 10 word
  pub short : length word ≤ 19
  pub value : digits_value 10 word ≡ n
  pub least : 1 ≤ n
  pub most : n ≤ 1000

-- names of engines, separated by commas, none twice
abbrev pub engines_word : Engines → List ℕ
engines_word e.Bounded = codes "bounded"
engines_word e.Step = codes "step"
engines_word e.BoundedStep = codes "bounded,step"
engines_word e.StepBounded = codes "step,bounded"

-- the word gives a file, where the others give none
pub record GivesFile (word : List ℕ) (others all : Given) : Type 0 where
  pub spelled : is_option word ≡ false
  pub once : others.file ≡ None
  pub gives : all ≡ record others { file = Some word }

pub record GivesDepth (word value : List ℕ) (others all : Given) : Type 0 where
  pub spelled : word ≡ codes "--depth"
  pub once : others.depth ≡ None
  pub number : ℕ
  pub named : IsDepth value number
  pub gives : all ≡ record others { depth = Some number }

pub record GivesEngines (word value : List ℕ) (others all : Given) : Type 0 where
  pub spelled : word ≡ codes "--engines"
  pub once : others.engines ≡ None
  pub list : Engines
  pub named : value ≡ engines_word list
  pub gives : all ≡ record others { engines = Some list }

abbrev pub GivesOption : (word value : List ℕ) (others all : Given) → Type 0
GivesOption word value others all = GivesDepth word value others all ⊎ GivesEngines word value others all

-- a file and other words, or an option with its value and other words
abbrev pub AreGiven : List (List ℕ) → Given → Type 0
AreGiven [] g = g ≡ nothing
AreGiven (w ∷ []) g = GivesFile w nothing g
AreGiven (w ∷ v ∷ words) g =
    ((h : Given) × AreGiven (v ∷ words) h × GivesFile w h g) ⊎ ((h : Given) × AreGiven words h × GivesOption w v h g)

abbrev pub given_view : Read → Given
given_view r = record { file = option_map (λ w. w.now) r.source; depth = r.depth; engines = r.engines }
