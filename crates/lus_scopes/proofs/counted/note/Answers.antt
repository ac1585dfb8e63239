use Rattle.std.proofs.Common.{◌≡◌, ◌∙◌, ap, arith, cond, Bool, Some}
use Rattle.std.specs.Str.{bytes_eq}
use Rattle.std.proofs.lemmas.Map.Text.{text_keys}
use Rattle.lus_scopes.specs.Counts.{by_bytes}
use Rattle.lus_scopes.proofs.counted.note.Goals as goal

pub returns-clause-noted : goal.returns-clause-noted
returns-clause-noted c = λ x.
    let set : by_bytes c.insert.new.self x ≡ cond (bytes_eq x c.args.name.now) (Some c.contains_key-again.result) (by_bytes c.args.often.now x) =
    grind (arith, text_keys) in
    set ∙ ap (λ (b : Bool). cond (bytes_eq x c.args.name.now) (Some b) (by_bytes c.args.often.now x)) c.contains_key-again.ensures
