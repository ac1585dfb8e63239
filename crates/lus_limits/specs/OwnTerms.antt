-- The greatest sizes of a declaration's own terms and of what stands for its calls, item by item.
use Rattle.std.specs.Prelude.{◌≡◌, List, [], ◌∷◌, ◌++◌, map, cond}
use Rattle.lus_tree.specs.Tree.{Name, text_of, Expression, Constant, Labelled, Variable, Statement, equation, assertion, property, main_mark, ContractStatement, assume, guarantee, ghost_variable, constant, mode, «import», Component}
use Rattle.lus_meaning.specs.Scene.{Clock, base, clock_from, clock_of_names, contract_statements, variables}
use Rattle.lus_meaning.specs.Depends.{named_in, left_names}
use Rattle.lus_meaning.specs.Sizes.{Size, leaf, one, two, ModeSizes, presence, size_in, given_size, free_size}
use Rattle.lus_limits.specs.Peaks.{no_size, greater, peak}
use Rattle.lus_limits.specs.SizeSummaries.{ContractPeaks, sofar_by, own_by}
use Rattle.lus_limits.specs.Inner.{import_terms, inner_in}
use Rattle.lus_limits.specs.FrameTerms.{all_site_terms, found_sites}

-- an equation of these names: its right side, and what stands in it on that clock
abbrev pub side_terms : Component → ModeSizes → Clock → List Name → Expression → Size
side_terms n ms c xs e = greater (given_size (presence n (clock_of_names n xs)) (size_in n ms e)) (inner_in n ms c e)

-- what stands in these, on the base clock
abbrev pub inner_each : Component → ModeSizes → List Expression → Size
inner_each n ms [] = no_size
inner_each n ms (e ∷ es) = greater (inner_in n ms base e) (inner_each n ms es)

abbrev pub inner_labelled : Component → ModeSizes → List Labelled → Size
inner_labelled n ms [] = no_size
inner_labelled n ms (l ∷ ls) = greater (inner_in n ms base l.value) (inner_labelled n ms ls)

abbrev pub contract_terms : Component → ModeSizes → ContractStatement → Size
contract_terms n ms (assume l) = inner_in n ms base l.value
contract_terms n ms (guarantee l) = inner_in n ms base l.value
contract_terms n ms (ghost_variable v e) = side_terms n ms base (v.name.text ∷ []) e
contract_terms n ms (constant c) = inner_in n ms base c.value
contract_terms n ms (mode m rs es) = greater (inner_labelled n ms rs) (inner_labelled n ms es)
contract_terms n ms («import» k c as_ xs) = greater (import_terms n ms as_) (inner_each n ms as_)

abbrev pub all_contract_terms : Component → ModeSizes → List ContractStatement → Size
all_contract_terms n ms [] = no_size
all_contract_terms n ms (c ∷ cs) = greater (contract_terms n ms c) (all_contract_terms n ms cs)

abbrev pub constant_terms : Component → ModeSizes → List Constant → Size
constant_terms n ms [] = no_size
constant_terms n ms (c ∷ cs) = greater (inner_in n ms base c.value) (constant_terms n ms cs)

abbrev pub statement_terms : Component → ModeSizes → Statement → Size
statement_terms n ms (equation xs e) = side_terms n ms (clock_of_names n (map text_of xs)) (map text_of xs) e
statement_terms n ms (assertion e) = greater (one (two leaf (one (size_in n ms e)))) (inner_in n ms base e)
statement_terms n ms (property l) = inner_in n ms base l.value
statement_terms n ms (main_mark p) = no_size

abbrev pub body_terms : Component → ModeSizes → List Statement → Size
body_terms n ms [] = no_size
body_terms n ms (s ∷ ss) = greater (statement_terms n ms s) (body_terms n ms ss)

-- the streams that are not among these names
abbrev pub free_terms : List Name → Component → List Variable → Size
free_terms known n [] = no_size
free_terms known n (v ∷ vs) =
    greater (cond (named_in v.name.text known) no_size (free_size (presence n (clock_from v.clock)))) (free_terms known n vs)

abbrev pub own_terms : List Name → Component → ContractPeaks → Size
own_terms given n r =
    greater (all_contract_terms n r.modes (contract_statements n))
    (greater (constant_terms n r.modes n.constants)
    (greater (body_terms n r.modes n.body)
    (greater (free_terms (given ++ left_names n) n (variables n)) (peak (sofar_by n.contract r.assumed.whole)))))

-- they are those of the declaration's own terms, and of what stands for its calls
abbrev pub OwnTermsByItems : Type 0
OwnTermsByItems =
    (given : List Name) (n : Component) (r : ContractPeaks) →
    greater (peak (own_by given n r)) (all_site_terms n r.modes (found_sites n)) ≡ own_terms given n r

-- an equation on a clock, and what stands in its right side on another
abbrev pub side_on : Component → ModeSizes → Clock → Clock → Expression → Size
side_on n ms own c e = greater (given_size (presence n own) (size_in n ms e)) (inner_in n ms c e)
