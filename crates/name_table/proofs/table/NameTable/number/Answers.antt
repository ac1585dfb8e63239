use Rattle.std.proofs.Common.{◌≡◌, true, false, MatchOption, subst, string_bytes}
use Rattle.lus_meaning.specs.Depends.{named_in}
use Rattle.name_table.specs.Names.{number_of}
use Rattle.name_table.proofs.Names.{numbered}
use Rattle.name_table.proofs.table.NameTable.number.Goals as goal

pub returns : goal.returns
returns c =
    let x = c.args.name.now in
    subst (λ ks. MatchOption c.get_index_of.result (named_in x ks ≡ false) (λ i. (named_in x ks ≡ true) × (i ≡ number_of ks x))) c.self.view_is
    (numbered string_bytes x c.self.inside.names.keys c.get_index_of.result c.get_index_of.ensures.index c.get_index_of.ensures.found)
