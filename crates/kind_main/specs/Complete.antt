-- What is decided: where an engine went as far as the depth says, what it can decide up to there is decided.
use Rattle.std.specs.Prelude.{◌≡◌, ◌≤◌, ℕ, suc, List, ◌∷◌, Contains}
use Rattle.std.specs.List.{AllByRecursion}
use Rattle.lus_meaning.specs.Frame.{Frame}
use Rattle.lus_meaning.specs.Scene.{Instance}
use Rattle.lus_meaning.specs.Contract.{Property}
use Rattle.lus_meaning.specs.Verdict.{Breaks}
use Rattle.sys_meaning.specs.System.{system_of}
use Rattle.depth_laws.specs.Depths.{IsCutShort, IsInductive}
use Rattle.kind_main.specs.declared.options.Options.{Options}
use Rattle.kind_main.specs.Options.{numbers_of}
use Rattle.kind_main.specs.Causes.{Because}
use Rattle.kind_main.specs.Verdicts.{Verdict, valid, falsifiable, unknown}

-- if this is the engine's cause, it is none of conflicts, splits, pivots, past and wide
abbrev pub IsUncutOf : ℕ → Because → Type 0
IsUncutOf e b = b.engine ≡ e → ¬ IsCutShort b.why

-- the property is decided, or the engine was not cut short
abbrev pub IsUncut : ℕ → Verdict → Type 0
IsUncut e valid = Unit {0}
IsUncut e (falsifiable last trace) = Unit {0}
IsUncut e (unknown causes) = AllByRecursion (IsUncutOf e) causes

abbrev pub IsFalsifiable : Verdict → Type 0
IsFalsifiable valid = ⊥
IsFalsifiable (falsifiable last trace) = Unit {0}
IsFalsifiable (unknown causes) = ⊥

abbrev pub IsValid : Verdict → Type 0
IsValid valid = Unit {0}
IsValid (falsifiable last trace) = ⊥
IsValid (unknown causes) = ⊥

-- Of property q, the one of number k of a declaration: where bounded search is played and was not cut short, it is
-- falsifiable if some run breaks it at an instant up to the depth; and where induction is, it is valid if it is
-- inductive with a number of states up to the depth.
pub record IsComplete (o : Options) (i : Instance) (k : ℕ) (q : Property) (v : Verdict) : Type 0 where
  pub breaks : Contains (numbers_of o.engines) 0 → IsUncut 0 v → (f : Frame) (t : ℕ) → Breaks i q f t → t ≤ o.depth
      → IsFalsifiable v
  pub inductive : Contains (numbers_of o.engines) 1 → IsUncut 1 v → (states : ℕ) → states ≤ o.depth
      → IsInductive (system_of i) k states → IsValid v

-- of each property from number k on
abbrev pub AreComplete : Options → Instance → ℕ → List Property → List Verdict → Type 0
AreComplete o i k (q ∷ qs) (v ∷ vs) = IsComplete o i k q v × AreComplete o i (suc k) qs vs
AreComplete o i k _ _ = Unit {0}
