use Rattle.std.proofs.Common.{rules, ◌≡◌, ◌∙◌, ◌+◌, map}
use Rattle.proof_steps.specs.View.{clause_view}
use Rattle.cnf_maker.specs.View.{key_view}
use Rattle.cnf_maker.proofs.Table.{table, keys-tell, same_key, at-place}
use Rattle.cnf_maker.proofs.maker.Maker.atom.Goals as goal

pub returns-in-Ok : goal.returns-in-Ok
returns-in-Ok c =
    let t = table same_key key_view keys-tell c.args.self.now.atoms.keys c.insert_full.new.self.keys c.args.key
    c.in_ok-place.place c.in_ok-place.ensures.keys c.in_ok-place.ensures.index in
    let n : c.in-Ok.place + 1 ≡ c.in_ok-place.place + 1 = search rules in
    at-place c.args.self.now.shapes.items (map clause_view c.args.self.now.clauses.items)
    (map key_view c.args.self.now.atoms.keys) (map key_view c.insert_full.new.self.keys)
    (key_view c.args.key) (c.in-Ok.place + 1) t.0 (n ∙ t.1)
