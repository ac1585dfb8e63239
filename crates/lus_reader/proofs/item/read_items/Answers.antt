use Rattle.std.proofs.Common.{◌∷◌, [], ◌∙◌, ap, map, refl, arith}
use Rattle.std.proofs.lemmas.List.{map-append}
use Rattle.lus_tree.specs.View.{item_view}
use Rattle.lus_grammar.specs.Stream.{stream}
use Rattle.lus_grammar.specs.Phrase.{part, repeated}
use Rattle.lus_grammar.specs.Phrase as P
use Rattle.lus_grammar.specs.Programs.{items_of}
use Rattle.lus_reader.specs.View.{counts_view}
use Rattle.lus_reader.proofs.Stops.{at_err}
use Rattle.lus_reader.proofs.Leading.{leads_end}
use Rattle.lus_reader.proofs.Items.{body_none, body_next, body_stuck}
use Rattle.lus_reader.proofs.item.read_items.Goals as goal

pub loop-alloc-init : goal.loop-alloc-init
loop-alloc-init c = record {
  leads = body_none (stream c.args.bytes.now c.args.tokens.now) c.args.from (counts_view c.args.counts.now) _
      (ap (λ x. map item_view x) c.new-items.ensures.items);
  past = omega arith;
  inside = c.requires.inside;
}

pub returns-in_err-item-clause-stop : goal.returns-in_err-item-clause-stop
returns-in_err-item-clause-stop c = at_err _ _ _ c.from_residual.ensures.1
    (body_stuck (stream c.args.bytes.now c.args.tokens.now) c.args.from c.loop-alloc.next (counts_view c.args.counts.now)
    (counts_view c.loop-alloc.after) _ _ c.loop-alloc.invariant.leads
    (c.loop-alloc-test.ensures.begins c.args.bytes.now) c.in_err-item.ensures.stop)

pub loop-alloc-preserved : goal.loop-alloc-preserved
loop-alloc-preserved c = record {
  leads = body_next (stream c.args.bytes.now c.args.tokens.now) c.args.from c.loop-alloc.next c.in_ok-item.behind
      (counts_view c.args.counts.now) (counts_view c.loop-alloc.after) (counts_view c.read_item.new.counts) _ _ _
      c.loop-alloc.invariant.leads (c.loop-alloc-test.ensures.begins c.args.bytes.now) c.in_ok-item.ensures.run
      (ap (λ x. map item_view x) c.in_ok-push.ensures.items ∙ map-append item_view c.loop-alloc.items.items (c.in_ok-item.item ∷ []));
  past = omega (arith, c.loop-alloc.invariant.past, c.in_ok-item.ensures.inside.0);
  inside = c.in_ok-item.ensures.inside.1;
}

pub returns-clause-run : goal.returns-clause-run
returns-clause-run c =
    leads_end items_of items_of (stream c.args.bytes.now c.args.tokens.now) (repeated (part P.Item)) (part P.Item) c.args.from
    (counts_view c.args.counts.now) _ c.loop-alloc.next (counts_view c.loop-alloc.after) c.loop-alloc.invariant.leads refl
    (c.loop-alloc-test.ensures.begins c.args.bytes.now)
