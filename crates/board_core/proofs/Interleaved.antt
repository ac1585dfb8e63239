-- What a seat posts after what it has seen is true after the whole book.
use Rattle.std.specs.Prelude.{ℕ, suc, List, [], ◌∷◌, length, take}
use Rattle.std.proofs.Common.{sym, subst}
use Rattle.sys_terms.specs.View.{Machine}
use Rattle.board_core.specs.declared.plan.Plan.{Plan}
use Rattle.board_core.specs.Entries.{Posting, Claim, IsTrueAfter, AreSound}
use Rattle.board_core.specs.Interleaving.{Event, posts, reads, book_after, book_of, AreEvents, IsInterleaving, seen_after}
use Rattle.board_core.proofs.Growing.{true-more}
use Rattle.board_core.proofs.Sound.{events-sound, empty-sound}
use Rattle.board_core.proofs.Turns.{begins-take}

true-of-all : (m : Machine) (plan : Plan) (n : ℕ) (history : List Posting) (says : Claim)
    → IsTrueAfter m plan (take n history) says → IsTrueAfter m plan history says
true-of-all m plan n history says h =
    let b = begins-take n history in
    subst (λ l. IsTrueAfter m plan l says) (sym b.1) (true-more m plan (take n history) b.0 says h)

are-events : (m : Machine) (plan : Plan) (seen : ℕ → ℕ) (history : List Posting) (events : List Event)
    → IsInterleaving m plan seen history events → AreEvents m plan history events
are-events m plan seen history [] h = tt
are-events m plan seen history (posts seat says ∷ events) h = (
  true-of-all m plan (seen seat) history says h.0,
  are-events m plan (seen_after seen seat (suc (length history))) (book_after history (posts seat says)) events h.1,
)
are-events m plan seen history (reads seat ∷ events) h =
    (tt, are-events m plan (seen_after seen seat (length history)) history events h)

pub interleaved : (m : Machine) (plan : Plan) (events : List Event)
    → IsInterleaving m plan (λ _. 0) [] events → AreEvents m plan [] events
interleaved m plan events h = are-events m plan (λ _. 0) [] events h

pub interleaved-sound : (m : Machine) (plan : Plan) (events : List Event)
    → IsInterleaving m plan (λ _. 0) [] events → AreSound m plan (book_of [] events)
interleaved-sound m plan events h = events-sound m plan events [] (empty-sound m plan) (interleaved m plan events h)
