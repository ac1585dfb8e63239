use Rattle.std.proofs.Common.{◌≡◌, ◌<◌, length, get_or, false, subst, sym, ◌∙◌}
use Rattle.lus_meaning.specs.Depends.{named_in}
use Rattle.lus_streams.specs.Streams.{params_view}
use Rattle.lus_streams.proofs.Firsts.{found_nowhere, number_within, stream_at}
use Rattle.lus_streams.proofs.names.Names.stream.Goals as goal

pub numbered-requires : goal.numbered-requires
numbered-requires c =
    subst (λ bs. c.in-Some.number < length bs) (sym c.deref.ensures.value)
    (subst (λ k. k < length c.args.self.streams.now.firsts.items) (sym c.in-Some.ensures.1)
    (number_within c.args.name.now c.args.self.streams.now.numbers c.args.self.streams.now.firsts.items c.args.self.named c.in-Some.ensures.0))

pub returns-in-Some : goal.returns-in-Some
returns-in-Some c =
    stream_at c.args.name.now c.args.self.streams.now.numbers c.args.self.streams.now.firsts.items c.numbered.result c.args.self.named
    c.in-Some.ensures.0
    (subst (λ k. c.numbered.result ≡ get_or c.args.self.streams.now.firsts.items k c.numbered.result) c.in-Some.ensures.1
    (subst (λ bs. c.numbered.result ≡ get_or bs c.in-Some.number c.numbered.result) c.deref.ensures.value
    c.numbered.ensures))
    ∙ c.args.self.first c.args.name.now

pub returns-in-None : goal.returns-in-None
returns-in-None c =
    sym (found_nowhere c.args.name.now (params_view c.args.self.streams.now.firsts.items)
    (subst (λ t. named_in c.args.name.now t ≡ false) c.args.self.named c.in-None.ensures))
    ∙ c.args.self.first c.args.name.now
