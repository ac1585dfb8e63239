-- A book with one more true entry is a book.
use Rattle.std.specs.Prelude.{suc, ◌≡◌, ◌++◌, List, [], ◌∷◌, map, length, refl}
use Rattle.std.specs.List.{AllByRecursion}
use Rattle.std.proofs.Common.{ap, sym, subst}
use Rattle.std.proofs.lemmas.List.Elements.{All-from_recursion, recursion_from_All}
use Rattle.sys_terms.specs.declared.term.System.{System}
use Rattle.sys_terms.specs.View.{system_view}
use Rattle.board_core.specs.declared.plan.Plan.{Plan}
use Rattle.board_core.specs.declared.posted.Posted.{Posted}
use Rattle.board_core.specs.Entries.{IsTrueAfter, AreSound}
use Rattle.board_core.specs.View.{made_view, IsMadeFor}
use Rattle.board_core.specs.Books.{posted_view, history_in, IsBook}
use Rattle.board_core.proofs.Sound.{sound-more}

history-more : (xs : List Posted) (p : Posted) → map posted_view (xs ++ p ∷ []) ≡ map posted_view xs ++ posted_view p ∷ []
history-more [] p = refl
history-more (x ∷ xs) p = ap (λ l. posted_view x ∷ l) (history-more xs p)

each-more : (P : Posted → Type 0) (xs : List Posted) (p : Posted) → AllByRecursion P xs → P p → AllByRecursion P (xs ++ p ∷ [])
each-more P [] p h q = (q, tt)
each-more P (x ∷ xs) p h q = (h.0, each-more P xs p h.1 q)

pub book-more : (system : System) (plan : Plan) (xs : List Posted) (p : Posted) → IsBook (system, plan, xs)
    → IsMadeFor (system_view system) p.made → IsTrueAfter (system_view system) plan (map posted_view xs) (made_view p.made)
    → IsBook (system, plan, xs ++ p ∷ [])
book-more system plan xs p book of t = record {
  mild = book.mild;
  plan = book.plan;
  sound = subst (AreSound (system_view system) plan) (sym (history-more xs p))
      (sound-more (system_view system) plan (map posted_view xs) (posted_view p) book.sound t);
  of_system =
      All-from_recursion (λ (q : Posted). IsMadeFor (system_view system) q.made) (xs ++ p ∷ [])
      (each-more (λ (q : Posted). IsMadeFor (system_view system) q.made) xs p
      (recursion_from_All (λ (q : Posted). IsMadeFor (system_view system) q.made) xs book.of_system) of);
}

pub count-in : (xs : List Posted) → length (history_in xs) ≡ length xs
count-in [] = refl
count-in (x ∷ xs) = ap suc (count-in xs)
