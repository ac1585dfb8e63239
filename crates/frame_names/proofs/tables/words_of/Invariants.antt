use Rattle.std.proofs.Common.{◌≡◌, ◌++◌, drop, map}
use Rattle.sys_tables.specs.Views.{named_view}
use Rattle.frame_names.specs.Known.{stream_names}
use Rattle.frame_names.proofs.tables.words_of.Given as goal

-- what is there, followed by what is to come, is all
abbrev pub invariant-loop-stream : goal.invariant-loop-stream
invariant-loop-stream l = map (λ x. x.now) l.words.items ++ stream_names (map named_view (drop l.stream-index l.streams))
    ≡ stream_names (map named_view l.streams)
