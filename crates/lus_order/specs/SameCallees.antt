-- What a declaration reads goes by the summaries of those alone that it calls and imports.
use Rattle.std.specs.Prelude.{◌≡◌}
use Rattle.std.specs.List.{AllByRecursion}
use Rattle.lus_tree.specs.Tree.{Name, Expression, Expressions, truth, number, name, negation, minus, pre, arrow, binary, choice, sampled, merged, call, condact, mode_name, no_more, more, ContractStatement, assume, guarantee, ghost_variable, constant, mode, «import», Component}
use Rattle.lus_meaning.specs.Run.{equations}
use Rattle.lus_meaning.specs.Scene.{contract_statements}
use Rattle.way_laws.specs.OwnGraph.{Summaries, mode_reads, own_edges}

module _ (g h : Summaries) where
  -- of the callees that an expression reads at its instant both know the same
  abbrev mutual
    pub SameIn : Expression → Type 0
    SameIn (truth p b) = Unit {0}
    SameIn (number p k) = Unit {0}
    SameIn (name p x) = Unit {0}
    SameIn (negation p a) = SameIn a
    SameIn (minus p a) = SameIn a
    SameIn (pre p k a) = Unit {0}
    SameIn (arrow p k a b) = SameIn a × SameIn b
    SameIn (binary p o a b) = SameIn a × SameIn b
    SameIn (choice p a b d) = SameIn a × SameIn b × SameIn d
    SameIn (sampled p a b x) = SameIn a
    SameIn (merged p x a b) = SameIn a × SameIn b
    SameIn (call p k f as_) = (g f.text ≡ h f.text) × SameAmong as_
    SameIn (condact p k a f as_ ds) = SameIn a × (g f.text ≡ h f.text) × SameAmong as_ × SameAmong ds
    SameIn (mode_name p d m) = Unit {0}

    pub SameAmong : Expressions → Type 0
    SameAmong no_more = Unit {0}
    SameAmong (more a as_) = SameIn a × SameAmong as_

  abbrev pub SameFor : ContractStatement → Type 0
  SameFor (mode m rs es) = AllByRecursion (λ r. SameIn r.value) rs
  SameFor («import» k c as_ xs) = (g c.text ≡ h c.text) × AllByRecursion SameIn as_
  SameFor (assume l) = Unit {0}
  SameFor (guarantee l) = Unit {0}
  SameFor (ghost_variable x e) = Unit {0}
  SameFor (constant c) = Unit {0}

  pub record SameCallees (n : Component) : Type 0 where
    pub modes : AllByRecursion SameFor (contract_statements n)
    pub sides : AllByRecursion (λ e. SameIn e.right) (equations n)

-- so both give the same own graph, and its modes read the same
abbrev pub ReadsByCallees : Type 0
ReadsByCallees =
    (n : Component) (g h : Summaries) → SameCallees g h n → (mode_reads n g ≡ mode_reads n h) × ((x : Name) → own_edges n g x ≡ own_edges n h x)
