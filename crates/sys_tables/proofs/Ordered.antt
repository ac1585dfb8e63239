-- What is seen of what is put in order.
use Rattle.std.proofs.Common.{◌≡◌, List, map, refl}
use Rattle.lus_meaning.specs.Scene.{Site}
use Rattle.lus_meaning.specs.Occurrences.{Memory, Start}
use Rattle.lus_meaning.specs.Program.{in_order}
use Rattle.sys_conditions.specs.declared.occurrences.Memory.{Memory as MemoryCode}
use Rattle.sys_conditions.specs.declared.occurrences.Start.{Start as StartCode}
use Rattle.sys_conditions.specs.Views.{memory_view, start_view}
use Rattle.sys_occurrences.specs.declared.sites.Site.{Site as SiteCode}
use Rattle.sys_occurrences.specs.Views.{site_view}
use Rattle.sys_tables.proofs.Seating.{order_seen}

pub memories_ordered : (ms : List MemoryCode) → map memory_view (in_order (λ (m : MemoryCode). m.number) ms) ≡ in_order (λ (m : Memory). m.number) (map memory_view ms)
memories_ordered ms = order_seen (λ (m : MemoryCode). m.number) (λ (m : Memory). m.number) memory_view (λ m. refl) ms

pub starts_ordered : (as_ : List StartCode) → map start_view (in_order (λ (a : StartCode). a.number) as_) ≡ in_order (λ (a : Start). a.number) (map start_view as_)
starts_ordered as_ = order_seen (λ (a : StartCode). a.number) (λ (a : Start). a.number) start_view (λ a. refl) as_

pub sites_ordered : (ss : List SiteCode) → map site_view (in_order (λ (s : SiteCode). s.number) ss) ≡ in_order (λ (s : Site). s.number) (map site_view ss)
sites_ordered ss = order_seen (λ (s : SiteCode). s.number) (λ (s : Site). s.number) site_view (λ s. refl) ss
