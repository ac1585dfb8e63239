use Rattle.std.proofs.Common.{◌≡◌, None, ap, ◌∙◌, sym, subst, map, option_map}
use Rattle.std.specs.List.{find}
use Rattle.lus_tree.specs.View.{program_view}
use Rattle.lus_meaning.specs.ClockFaults.{components}
use Rattle.lus_order.specs.Declarations.{declared_view, is_next}
use Rattle.lus_order.specs.Learned.{names_known}
use Rattle.lus_streams.specs.Owner.{owner_view}
use Rattle.lus_order.proofs.NextLearned.{IsFound, owner_found, none_found, listed_all, streams_once, none_settled, fewer_left, library_whole}
use Rattle.lus_order.proofs.Settled.{settled_more}
use Rattle.lus_order.proofs.learned.library_of.Goals as goal

pub loop-owner-init : goal.loop-owner-init
loop-owner-init c = record {
  listed = c.in_ok-all.ensures ∙ listed_all c.deref.result.now (components (program_view c.args.program.now))
      (ap (map owner_view) c.deref.ensures.value ∙ c.in_ok-owners.ensures);
  settled = none_settled (program_view c.args.program.now) c.new-library.result c.new-library.ensures.0 c.new-library.ensures.1;
}

pub learn-requires : goal.learn-requires
learn-requires c =
    let f : IsFound (program_view c.args.program.now) (names_known c.loop-owner.library) (map declared_view c.in_ok-all.all.items)
    (owner_view c.in-Some.owner) = owner_found (program_view c.args.program.now)
    (names_known c.loop-owner.library) c.deref-in-loop-owner.result.now c.in_ok-all.all.items
    c.next_of.result c.in-Some.owner c.deref-in-loop-owner.ensures.value c.loop-owner.invariant.listed c.next_of.ensures c.in-Some.is in
    record {
      consistent = c.loop-owner.invariant.settled.consistent;
      distinct = streams_once (program_view c.args.program.now) c.requires.typed (owner_view c.in-Some.owner) f.declared;
      new = f.new;
    }

pub loop-owner-smaller : goal.loop-owner-smaller
loop-owner-smaller c = fewer_left (program_view c.args.program.now) (names_known c.loop-owner.library) (map declared_view c.in_ok-all.all.items)
    (owner_view c.in-Some.owner) (names_known c.learn.new.library)
    (owner_found (program_view c.args.program.now) (names_known c.loop-owner.library) c.deref-in-loop-owner.result.now c.in_ok-all.all.items
    c.next_of.result c.in-Some.owner c.deref-in-loop-owner.ensures.value c.loop-owner.invariant.listed c.next_of.ensures c.in-Some.is) c.in_ok-learn.ensures.added.names

pub loop-owner-preserved : goal.loop-owner-preserved
loop-owner-preserved c =
    let f : IsFound (program_view c.args.program.now) (names_known c.loop-owner.library) (map declared_view c.in_ok-all.all.items)
    (owner_view c.in-Some.owner) = owner_found (program_view c.args.program.now)
    (names_known c.loop-owner.library) c.deref-in-loop-owner.result.now c.in_ok-all.all.items
    c.next_of.result c.in-Some.owner c.deref-in-loop-owner.ensures.value c.loop-owner.invariant.listed c.next_of.ensures c.in-Some.is in
    record {
      listed = c.loop-owner.invariant.listed;
      settled = settled_more (program_view c.args.program.now) c.requires.grammatical c.requires.typed c.loop-owner.library c.learn.new.library
          c.loop-owner.invariant.settled (owner_view c.in-Some.owner) f.declared f.calls f.new c.in_ok-learn.ensures;
    }

pub returns : goal.returns
returns c = library_whole (program_view c.args.program.now) c.requires.typed c.loop-owner.library c.loop-owner.invariant.settled
    (map declared_view c.in_ok-all.all.items) c.loop-owner.invariant.listed
    (none_found (names_known c.loop-owner.library) c.deref-in-loop-owner.result.now c.in_ok-all.all.items c.next_of.result
    c.deref-in-loop-owner.ensures.value c.next_of.ensures c.in_default.is)
