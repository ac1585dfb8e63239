-- Constants with their values, and what is read by them alone.
use Rattle.std.specs.Prelude.{◌≡◌, List, [], map, None, option_map}
use Rattle.std.specs.Map.{lookup}
use Rattle.std.specs.Str.{bytes_eq}
use Rattle.lus_tree.specs.Tree.{Name}
use Rattle.lus_meaning.specs.Value.{Value}
use Rattle.sys_parts.specs.Constants.{constant_view}
use Rattle.sys_texts.specs.Views.{by_name, call_view, stream_view}
use Rattle.sys_tables.specs.declared.constants.Known.{Known}
use Rattle.sys_tables.specs.Views.{fixed_view}

abbrev pub values_seen : Known → List (Name × Value)
values_seen k = map fixed_view k.values.items

-- what is read by them alone finds just these
pub record IsBare (k : Known) : Type 0 where
  pub beat : k.sight.beat ≡ 0
  pub missing : k.sight.missing ≡ 0
  pub bound : k.sight.bound ≡ 0
  pub constants : (x : Name) → option_map constant_view (by_name k.sight.constants x) ≡ lookup (bytes_eq x) (values_seen k)
  pub streams : (x : Name) → option_map stream_view (by_name k.sight.streams x) ≡ None
  pub memories : k.sight.memories.items ≡ []
  pub starts : k.sight.starts.items ≡ []
  pub calls : map call_view k.sight.calls.items ≡ []
