-- The greatest sizes of what stands for the calls of a declaration.
use Rattle.std.specs.Prelude.{◌≡◌, List, [], ◌∷◌}
use Rattle.lus_tree.specs.Tree.{Component}
use Rattle.lus_meaning.specs.Scene.{Site, contract_statements, no_component}
use Rattle.lus_meaning.specs.Occurrences.{gathered}
use Rattle.lus_meaning.specs.Program.{all_sites, site_in, import_site}
use Rattle.lus_meaning.specs.Sizes.{Size, ModeSizes, site_sizes}
use Rattle.std.specs.Prelude.{◌++◌, flat_map}
use Rattle.lus_meaning.specs.RuleLaws.{OfEach}
use Rattle.lus_limits.specs.Peaks.{no_size, greater, peak}
use Rattle.lus_limits.specs.SizeSummaries.{SizeSummary, frame_of}

-- what stands for one of them
abbrev pub site_terms : Component → ModeSizes → Site → Size
site_terms n ms s = peak (site_sizes n ms s no_component s.manner)

abbrev pub all_site_terms : Component → ModeSizes → List Site → Size
all_site_terms n ms [] = no_size
all_site_terms n ms (s ∷ ss) = greater (site_terms n ms s) (all_site_terms n ms ss)

-- the frames of those that have a summary
abbrev pub frames_by : List Site → List SizeSummary → Size
frames_by [] zs = no_size
frames_by (s ∷ ss) [] = no_size
frames_by (s ∷ ss) (z ∷ zs) = greater (frame_of s.manner z) (frames_by ss zs)

-- calls and imports in the order of the text
abbrev pub found_sites : Component → List Site
found_sites n = gathered site_in n ++ flat_map import_site (contract_statements n)

-- in a checked program what stands for calls is as large in the order of their numbers and in that of the text
abbrev pub SitesInAnyOrder : Type 0
SitesInAnyOrder = OfEach (λ p n. (ms : ModeSizes) → all_site_terms n ms (all_sites n) ≡ all_site_terms n ms (found_sites n))
