-- Along a way of calls by what is known of declarations, each number cut where no frame reaches.
use Rattle.std.specs.Prelude.{ℕ, zero, suc, ◌+◌, cond, List, [], ◌∷◌, Option, Some, None, option_map, slice_get}
use Rattle.std.specs.Option.{option_map_or}
use Rattle.lus_tree.specs.Tree.{Name}
use Rattle.lus_meaning.specs.Depends.{named_in}
use Rattle.lus_limits.specs.Summaries.{cut}
use Rattle.lus_limits.specs.declared.calls.Way.TheVariants.{Plain}
use Rattle.name_table.specs.Names.{number_of}
use Rattle.frame_names.specs.Known.{Known, own_cells_of}
use Rattle.frame_names.specs.declared.tables.Callee.{Callee}
use Rattle.frame_names.specs.declared.walk.Standing.{Standing}

-- the frame of the analysed declaration
abbrev pub analysed : ℕ → Standing
analysed root = record { place = root; base = 0; way = Plain }

-- counted from 1
abbrev pub call_of : List Callee → ℕ → Option Callee
call_of qs zero = None
call_of qs (suc k) = slice_get qs k

-- the frame of a call stands behind the caller's own cells
abbrev pub called : Standing → Known → Callee → Standing
called s k q = record { place = q.place; base = cut (s.base + cut (own_cells_of s.way k + q.frame)); way = q.way }

abbrev pub stands_after : List Known → Standing → ℕ → Option Standing
stands_after ks s n = option_map_or (λ k. option_map (called s k) (call_of k.calls n)) (slice_get ks s.place) None

abbrev pub walked : List Known → List ℕ → Standing → Option Standing
walked ks [] s = Some s
walked ks (n ∷ w) s = option_map_or (walked ks w) (stands_after ks s n) None

-- behind the beat come the streams
abbrev pub number_in : Known → Standing → Name → Option ℕ
number_in k s x = cond (named_in x k.names) (Some (cut (s.base + cut (1 + number_of k.names x)))) None

abbrev pub number_there : List Known → Name → Standing → Option ℕ
number_there ks x s = option_map_or (λ k. number_in k s x) (slice_get ks s.place) None

abbrev pub slot_of : List Known → ℕ → List ℕ → Name → Option ℕ
slot_of ks root w x = option_map_or (number_there ks x) (walked ks w (analysed root)) None
