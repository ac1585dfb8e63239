use Rattle.std.proofs.Common.{◌++◌, take}
use Rattle.std.proofs.KnownBytes.{Appends-trans, Appends-kept}
use Rattle.kind_io.proofs.Transfers.{front_moves}
use Rattle.kind_io.proofs.std_sink.write_whole.Goals as goal
use Rattle.kind_io.proofs.std_sink.write_whole.Goals.{in-Ok, in-Err}

pub loop-preserved : goal.loop-preserved
loop-preserved g c =
    let (done, split, appended) = c.loop.invariant in
    elim c.match-write.branch [
      | in-Ok w ↦ (
        done ++ take w.in-Ok.count c.loop.rest.now,
        rw w.rest-is
            (front_moves _ done c.loop.rest.now w.in-Ok.count split),
        Appends-trans _ _ _ done _ appended w.in-Ok.ensures.bytes,
      )
      | in-Err w ↦ (done, rw w.rest-is split, Appends-kept _ _ _ done appended w.in-Err.ensures.bytes)
    ]
