use Rattle.std.proofs.Common.{◌≡◌, ◌∙◌, ap, map, sym, subst, string_bytes}
use Rattle.lus_meaning.specs.WellMade.{AreDistinct}
use Rattle.name_table.specs.Names.{add}
use Rattle.name_table.proofs.Names.{inserted, distinct_added}
use Rattle.name_table.proofs.table.NameTable.add.Goals as goal

pub invariant_of-self-2 : goal.invariant_of-self-2
invariant_of-self-2 c =
    let old = c.self.inside.names.keys in
    let grown : map string_bytes c.insert.new.self.keys ≡ add (map string_bytes old) (string_bytes c.in_ok-owned.owned) = ap
    (map string_bytes) c.in_ok-insert.ensures.keys ∙ inserted string_bytes old c.in_ok-owned.owned in
    subst AreDistinct (sym grown) (distinct_added (map string_bytes old) (string_bytes c.in_ok-owned.owned) c.self.invariant)

pub returns-clause-names : goal.returns-clause-names
returns-clause-names c =
    let old = c.self.inside.names.keys in
    ap (map string_bytes) c.in_ok-insert.ensures.keys ∙ inserted string_bytes old c.in_ok-owned.owned
    ∙ ap (add (map string_bytes old)) c.in_ok-owned.ensures.ok ∙ ap (λ ks. add ks c.args.name.now) c.self.view_is
