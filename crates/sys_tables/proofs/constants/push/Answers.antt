use Rattle.std.proofs.Common.{◌≡◌, ◌++◌, ◌∷◌, [], ap, ◌∙◌, sym, map}
use Rattle.std.specs.Map.{lookup}
use Rattle.std.specs.Str.{bytes_eq}
use Rattle.lus_meaning.proofs.Lists.{map_append}
use Rattle.sys_parts.specs.Constants.{constant_view}
use Rattle.sys_texts.specs.Views.{by_name}
use Rattle.sys_tables.specs.Views.{fixed_view}
use Rattle.sys_tables.proofs.Noted.{noted_last}
use Rattle.sys_tables.proofs.constants.push.Goals as goal

pub returns-clause-bare : goal.returns-clause-bare
returns-clause-bare c =
    let old = c.args.known.now.values.items in
    let same : map fixed_view c.push.new.self.items ≡ map fixed_view old ++ (c.args.name.now, constant_view c.args.value) ∷ [] =
    ap (map fixed_view) c.in_ok-push.ensures.items ∙ map_append fixed_view old _ in
    record {
      beat = c.requires.beat;
      missing = c.requires.missing;
      bound = c.requires.bound;
      constants = λ x. noted_last x c.args.name.now (map fixed_view old) c.args.value (by_name c.args.known.now.sight.constants x)
          (by_name c.note.new.table x) (c.requires.constants x) (c.in_ok-note.ensures x) ∙ ap (lookup (bytes_eq x)) (sym same);
      streams = c.requires.streams;
      memories = c.requires.memories;
      starts = c.requires.starts;
      calls = c.requires.calls;
    }
