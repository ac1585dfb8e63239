use Rattle.std.proofs.Common.{arith, [], ◌∷◌, map}
use Rattle.lus_tree.specs.View.{program_view, word_view}
use Rattle.lus_types.specs.Called.{node_links}
use Rattle.lus_types.specs.Marks.{link_view}
use Rattle.lus_types.specs.Words.{words_view}
use Rattle.lus_types.proofs.Firsts.{nodes_first}
use Rattle.lus_types.proofs.Steps.{one_added}
use Rattle.lus_types.proofs.recursion.push_node_links.Goals as goal

pub loop-word-preserved : goal.loop-word-preserved
loop-word-preserved c =
    one_added (λ z. node_links (program_view c.args.declarations.now) c.args.names.now (word_view z.now ∷ [])) (λ zs. node_links (program_view c.args.declarations.now) c.args.names.now (words_view zs))
    (λ z zs. nodes_first (program_view c.args.declarations.now) c.args.names.now (word_view z.now) (words_view zs)) c.args.words.now c.loop-word.word-index c.word-item.result (map link_view c.loop-word.links.items)
    (map link_view c.push_node_link.new.links.items) _ (omega arith) c.word-item.is c.loop-word.invariant c.in_ok-push_node_link.ensures
