-- What evaluation sees of what is known of a declaration.
use Rattle.std.specs.Prelude.{map}
use Rattle.sys_tables.specs.Tabled.{Tabled}
use Rattle.sys_tables.specs.Tabled as tabled
use Rattle.evaluation_parts.specs.Unfolded.{Linked, Declared}

abbrev pub link_seen : tabled.Linked → Linked
link_seen l = record { site = l.site; place = l.place }

abbrev pub declared_seen : Tabled → Declared
declared_seen t = record { component = t.component; calls = map link_seen t.calls }
