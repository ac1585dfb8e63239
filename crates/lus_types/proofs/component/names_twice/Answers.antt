use Rattle.std.proofs.Common.{ap, ◌∙◌}
use Rattle.lus_tree.specs.View.{program_view}
use Rattle.lus_meaning.specs.NameFaults.{constant_words, own_words}
use Rattle.lus_scopes.specs.Least.{least_view}
use Rattle.lus_scopes.specs.Scopes.{owner_view}
use Rattle.lus_types.specs.Words.{words_view}
use Rattle.lus_scopes.proofs.Noting.{own_noted}
use Rattle.lus_types.proofs.component.names_twice.Goals as goal

pub returns : goal.returns
returns c =
    own_noted (constant_words (program_view c.args.setting.now.declarations.now)) (words_view c.args.setting.now.words.now) (own_words (owner_view c.args.owner))
    (words_view c.deref.result.now) (words_view c.deref-2.result.now) (least_view c.args.least.now) (least_view c.words_twice.new.least)
    (least_view c.outer_twice.new.least) c.args.setting.now.listed (ap words_view c.deref.ensures.value ∙ c.in_ok-own.ensures)
    (ap words_view c.deref-2.ensures.value ∙ c.in_ok-own.ensures) c.in_ok-words_twice.ensures c.outer_twice.ensures
