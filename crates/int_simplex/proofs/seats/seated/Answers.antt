use Rattle.std.specs.Prelude.{ℕ, List}
use Rattle.std.proofs.Common.{arith, subst}
use Rattle.std.proofs.lemmas.List.{take_all}
use Rattle.int_simplex.specs.Seating.{AreSeats}
use Rattle.int_simplex.proofs.Seating.{no_seats, seat_next}
use Rattle.int_simplex.proofs.seats.seated.Goals as goal

pub loop-k-init : goal.loop-k-init
loop-k-init c = no_seats c.args.columns c.in_ok-seats.seats.items c.in_ok-seats.ensures

pub index_mut-requires : goal.index_mut-requires
index_mut-requires c =
    let n = c.loop-k.invariant.count in let r = c.requires c.loop-k.k 0 c.loop-k-test.true in
    let k = c.loop-k.seats.ok.0 in omega arith

pub loop-k-preserved : goal.loop-k-preserved
loop-k-preserved c = seat_next c.args.columns c.args.basis.now c.loop-k.seats.items c.loop-k.k 0 c.loop-k-test.true
    (c.requires c.loop-k.k 0 c.loop-k-test.true) c.loop-k.invariant

pub returns : goal.returns
returns c =
    let h = c.loop-k-test.false in
    subst (λ (b : List ℕ). AreSeats c.args.columns b c.loop-k.seats.items) (take_all c.loop-k.k c.args.basis.now (omega arith)) c.loop-k.invariant
