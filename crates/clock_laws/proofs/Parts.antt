-- What holds of each occurrence in an expression follows from what holds of it, and of whole right sides from the whole.
use Rattle.std.proofs.Common.{◌≡◌, true, sym, ◌∙◌}
use Rattle.std.proofs.lemmas.Bool.{false≢true}
use Rattle.lus_tree.specs.Tree.{Expression, Component}
use Rattle.lus_meaning.specs.Occurrences.{Standing, Occurrence}
use Rattle.lus_meaning.proofs.EachPart.{Each, each_of_both}
use Rattle.rule_laws.proofs.Parts.{from_root}

pub each_from : (P Q : Occurrence → Type 0) → ((o : Occurrence) → P o → Q o) → (n : Component) (s : Standing) (e : Expression) → Each P n s e → Each Q n s e
each_from P Q f n s e a = each_of_both P P Q (λ o x y. f o x) n s e a a

-- what is to be shown of whole right sides alone
module _ (Q : Expression → Type 0) (n : Component) where
  abbrev pub AtTop : Occurrence → Type 0
  AtTop o = o.standing.whole_side ≡ true → Q o.expression

  pub each_at_top : (s : Standing) (e : Expression) → (s.whole_side ≡ true → Q e) → Each AtTop n s e
  each_at_top s e h = from_root AtTop n (λ o w k. absurd (false≢true (sym w ∙ k))) s e h
