-- Whether a term passes a limit, by the declaration's own text and what is known of its callees.
use Rattle.std.specs.Prelude.{◌≡◌, ℕ, pred, min, Bool, false, ◌||◌, List, [], ◌∷◌, map, slice_index_or}
use Rattle.std.specs.List.{list_any}
use Rattle.lus_tree.specs.Tree.{Name, Component, Program}
use Rattle.lus_meaning.specs.Scene.{Site, contract_statements}
use Rattle.lus_meaning.specs.Program.{all_sites, instance_of}
use Rattle.lus_meaning.specs.Depends.{from_caller}
use Rattle.lus_meaning.specs.Sizes.{Size, beside, above, ModeSizes, ContractSizes, no_sizes, sizes_after, contract_sizes, own_sizes, site_sizes, frame_sizes, property_sizes, some_of, owed_sizes, term_sizes}
use Rattle.lus_meaning.specs.RuleLaws.{OfEach}
use Rattle.lus_limits.specs.Instances.{callee, instance_called_so}

-- the sizes of the terms of a contract, with those of its imports by their numbers
abbrev pub sizes_at : (Name → ContractSizes) → List Site → ℕ → ContractSizes
sizes_at f ss k = slice_index_or (map (λ s. f s.callee) ss) (pred k) no_sizes

abbrev pub callee_sizes : Program → Name → ContractSizes
callee_sizes p x = contract_sizes (instance_called_so p x)

abbrev pub ContractSizesByText : Type 0
ContractSizesByText =
    OfEach (λ p n. contract_sizes (instance_of p n)
    ≡ sizes_after n (sizes_at (callee_sizes p) (all_sites n)) no_sizes (contract_statements n))

-- whether a term of a frame passes, where these names are given, those of its calls' frames too
abbrev pub frame_passes : (Size → Bool) → Program → List Name → Component → Bool
frame_passes f p given n = list_any f (frame_sizes given (instance_of p n))

-- of each call: what stands for it in the caller's frame, and its frame
abbrev pub sites_pass : (Size → Bool) → Program → Component → ModeSizes → List Site → Bool
sites_pass f p n ms [] = false
sites_pass f p n ms (s ∷ ss) =
    list_any f (site_sizes n ms s (callee p s.callee) s.manner)
    || (frame_passes f p (from_caller s (instance_called_so p s.callee)) (callee p s.callee) || sites_pass f p n ms ss)

abbrev pub FramesByText : Type 0
FramesByText =
    OfEach (λ p n. (f : Size → Bool) (given : List Name) → frame_passes f p given n
    ≡ (list_any f (own_sizes given n (contract_sizes (instance_of p n)))
    || sites_pass f p n (contract_sizes (instance_of p n)).modes (all_sites n)))

abbrev pub owed_pass : (Size → Bool) → Program → List Site → Bool
owed_pass f p [] = false
owed_pass f p (s ∷ ss) = list_any f (owed_sizes s.manner (instance_called_so p s.callee)) || owed_pass f p ss

-- those of the frame, the assumptions, the properties, the promises, the modes together, and what is owed
abbrev pub own_pass : (Size → Bool) → Component → ContractSizes → Bool
own_pass f n r =
    list_any f r.assumes
    || (list_any f (property_sizes n r.modes n.body)
    || (list_any f r.promises || f (some_of (map (λ m. m.1) r.modes))))

abbrev pub TermsByText : Type 0
TermsByText =
    OfEach (λ p n. (f : Size → Bool) → list_any f (term_sizes (instance_of p n))
    ≡ (frame_passes f p (map (λ v. v.name.text) n.inputs) n
    || (own_pass f n (contract_sizes (instance_of p n)) || owed_pass f p (all_sites n))))

-- levels and parts up to a bound each
abbrev pub cut_size : ℕ → ℕ → Size → Size
cut_size l k s = record { levels = min l s.levels; parts = min k s.parts }

-- sizes up to bounds are known from sizes that are cut there
abbrev pub BesideCuts : Type 0
BesideCuts = (l k : ℕ) (a b : Size) → cut_size l k (beside a b) ≡ cut_size l k (beside (cut_size l k a) (cut_size l k b))

abbrev pub AboveCuts : Type 0
AboveCuts = (l k : ℕ) (a : Size) → cut_size l k (above a) ≡ cut_size l k (above (cut_size l k a))
