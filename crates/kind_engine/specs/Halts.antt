-- What is kept behind a cause.
use Rattle.std.specs.Prelude.{ℕ, List, [], ◌++◌, map, Some}
use Rattle.proof_steps.specs.View.{Refutation}
use Rattle.sys_terms.specs.declared.term.Entry.{Entry as Cell}
use Rattle.sys_terms.specs.declared.term.State.{State}
use Rattle.std.specs.declared.vec.Vec.{Vec}
use Rattle.std.specs.declared.alloc.Global.{Global}
use Rattle.sys_terms.specs.View.{obligation_view, states_view}
use Rattle.cert_rules.specs.View.{proofs_view}
use Rattle.board_core.specs.Entries.{Grounds}
use Rattle.kind_engine.specs.declared.halted.Halted.{Halted}
use Rattle.kind_engine.specs.declared.looking.Open.{Open}

abbrev pub paths_view : List (Vec State Global) → List (List (List Cell))
paths_view = map (λ p. states_view p.items)

abbrev pub halted_grounds : Halted → Grounds
halted_grounds h = record {
  query = Some (obligation_view h.what, h.places.items);
  proofs = proofs_view h.proofs.items;
  paths = paths_view h.paths.items;
  terms = [];
}

-- behind these proofs, with these places, what is kept of an instant that is left open
abbrev pub open_grounds : List ℕ → List Refutation → Open → Grounds
open_grounds places proofs o = record {
  query = Some (obligation_view o.what, places);
  proofs = proofs ++ proofs_view o.proofs.items;
  paths = [];
  terms = [];
}
