-- The tables of a program's declarations have the places of those that they call.
use Rattle.std.proofs.Common.{◌≡◌, refl, ap, ◌∙◌, ℕ, List, [], ◌∷◌, map}
use Rattle.lus_tree.specs.Tree.{Component, Program}
use Rattle.lus_meaning.specs.Program.{all_sites}
use Rattle.lus_meaning.specs.Scene.{Site}
use Rattle.lus_limits.specs.Summaries.{link_of}
use Rattle.lus_layouts.specs.Layouts.{calls_from}
use Rattle.sys_tables.specs.Tabled.{all_linked, table_of}
use Rattle.evaluation_parts.specs.Unfolded.{Declared}
use Rattle.evaluation_parts.specs.Declares.{linked_in, declared_in}
use Rattle.evaluation_turns.specs.Seen.{link_seen, declared_seen}

calls_seen : (p : Program) (n : Component) (ss : List Site) (k : ℕ)
    → map link_seen (all_linked p n ss (calls_from k (map (link_of p) ss))) ≡ map (linked_in p) ss
calls_seen p n [] k = refl
calls_seen p n (s ∷ ss) k = ap (λ z. linked_in p s ∷ z) (calls_seen p n ss _)

declared_is : (p : Program) (n : Component) → declared_seen (table_of p n) ≡ declared_in p n
declared_is p n = ap (λ z. let t : Declared = record { component = n; calls = z } in t) (calls_seen p n (all_sites n) 0)

pub all_seen : (p : Program) (ns : List Component) → map declared_seen (map (table_of p) ns) ≡ map (declared_in p) ns
all_seen p [] = refl
all_seen p (n ∷ ns) = ap (λ z. z ∷ map declared_seen (map (table_of p) ns)) (declared_is p n) ∙ ap (λ z. declared_in p n ∷ z) (all_seen p ns)
