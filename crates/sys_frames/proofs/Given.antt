-- What callers give to the streams of frames, by names and by places.
use Rattle.std.proofs.Common.{◌≡◌, Bool, true, false, cond, ◌||◌, List, [], ◌∷◌, ◌++◌, map, flat_map, length, Some, refl, sym, ap, ◌∙◌, arith}
use Rattle.std.specs.List.{AllByRecursion}
use Rattle.std.specs.Map.{lookup}
use Rattle.std.specs.Str.{bytes_eq}
use Rattle.lus_tree.specs.Tree.{Name, Variable, Component}
use Rattle.lus_meaning.specs.Depends.{named_in}
use Rattle.lus_meaning.specs.Run.{equations}
use Rattle.lus_meaning.specs.Scene.{component_of, constants_of, variables}
use Rattle.lus_meaning.specs.WellMade.{AreDistinct}
use Rattle.lus_meaning.proofs.Exists.{self_bytes}
use Rattle.rule_laws.proofs.Lists.{other_bytes}
use Rattle.sys_terms.specs.View.{Formula}
use Rattle.sys_meaning.specs.Part.{Part}
use Rattle.sys_meaning.specs.Translate.{Stage}
use Rattle.sys_meaning.specs.System.{Sources, paired, name_here, names_here, equation_sources}
use Rattle.sys_texts.specs.Sights.{Sight, Mode}
use Rattle.sys_texts.specs.Laws.{IsSteady}
use Rattle.sys_conditions.specs.Laws.{AreConditionsOf}
use Rattle.sys_conditions.specs.Named.{given_or, name_conditions, right_of}
use Rattle.sys_tables.specs.Tabled.{named_stream, texts_of}
use Rattle.sys_frames.specs.Streams.{stream_here, streams_here}

-- a part for each of the first streams
abbrev pub zipped : List Variable → List Part → Sources
zipped [] ps = []
zipped (v ∷ vs) [] = []
zipped (v ∷ vs) (p ∷ ps) = (v.name.text, p) ∷ zipped vs ps

pub none_zipped : (vs : List Variable) → zipped vs [] ≡ []
none_zipped [] = refl
none_zipped (v ∷ vs) = refl

pub paired_zipped : (vs : List Variable) (ps : List Part) → length ps ≡ length vs → paired (map (λ v. v.name.text) vs) ps ≡ zipped vs ps
paired_zipped [] ps e = refl
paired_zipped (v ∷ vs) [] e = absurd (omega arith)
paired_zipped (v ∷ vs) (p ∷ ps) e = ap (λ l. (v.name.text, p) ∷ l) (paired_zipped vs ps (omega arith))

pub zipped_behind : (vs ws : List Variable) (ps qs : List Part) → length ps ≡ length vs → zipped (vs ++ ws) (ps ++ qs) ≡ zipped vs ps ++ zipped ws qs
zipped_behind [] ws [] qs e = refl
zipped_behind [] ws (p ∷ ps) qs e = absurd (omega arith)
zipped_behind (v ∷ vs) ws [] qs e = absurd (omega arith)
zipped_behind (v ∷ vs) ws (p ∷ ps) qs e = ap (λ l. (v.name.text, p) ∷ l) (zipped_behind vs ws ps qs (omega arith))

-- ---- by place

module _ (s : Sight) (ms : List Mode) (n : Component) where
  abbrev by_name : Sources → Variable → List Formula
  by_name from v = name_conditions s (named_in v.name.text (texts_of n.inputs)) v (given_or s ms (lookup (bytes_eq v.name.text) from) (right_of (equations n) v.name.text))

  -- a source of another name is passed
  passed : (x : Name) (p : Part) (from : Sources) (vs : List Variable) → named_in x (map (λ v. v.name.text) vs) ≡ false
      → flat_map (by_name ((x, p) ∷ from)) vs ≡ flat_map (by_name from) vs
  passed x p from [] e = refl
  passed x p from (v ∷ vs) e = go (bytes_eq x v.name.text) refl e (passed x p from vs)
    where
      go : (b : Bool) → bytes_eq x v.name.text ≡ b → (b || named_in x (map (λ v. v.name.text) vs)) ≡ false
          → (named_in x (map (λ v. v.name.text) vs) ≡ false → flat_map (by_name ((x, p) ∷ from)) vs ≡ flat_map (by_name from) vs)
          → flat_map (by_name ((x, p) ∷ from)) (v ∷ vs) ≡ flat_map (by_name from) (v ∷ vs)
      go true a e r = cc
      go false a e r =
          ap (λ b. name_conditions s (named_in v.name.text (texts_of n.inputs)) v
          (given_or s ms (cond b (Some p) (lookup (bytes_eq v.name.text) from)) (right_of (equations n) v.name.text))
          ++ flat_map (by_name ((x, p) ∷ from)) vs) (other_bytes x v.name.text a)
          ∙ ap (λ l. by_name from v ++ l) (r e)

  pub by_place : (vs : List Variable) (ps : List Part) → AreDistinct (map (λ v. v.name.text) vs)
      → flat_map (by_name (zipped vs ps)) vs ≡ streams_here s ms (map (named_stream n) vs) ps
  by_place [] ps d = refl
  by_place (v ∷ vs) [] d =
      ap (λ l. by_name [] v ++ l) (ap (λ z. flat_map (by_name z) vs) (sym (none_zipped vs)) ∙ by_place vs [] d.1)
  by_place (v ∷ vs) (p ∷ ps) d =
      ap (λ b. name_conditions s (named_in v.name.text (texts_of n.inputs)) v
      (given_or s ms (cond b (Some p) (lookup (bytes_eq v.name.text) (zipped vs ps))) (right_of (equations n) v.name.text))
      ++ flat_map (by_name ((v.name.text, p) ∷ zipped vs ps)) vs) (self_bytes v.name.text)
      ∙ ap (λ l. stream_here s ms (named_stream n v) (Some p) ++ l) (passed v.name.text p (zipped vs ps) vs d.0 ∙ by_place vs ps d.1)

-- ---- the names of a frame

module _ (s : Sight) (ms : List Mode) (g : Stage) (h : AreConditionsOf s ms g) (u : AllByRecursion (λ e. IsSteady (constants_of g.place) e.right)
    (equations (component_of g.place))) where
  one_here : (from : Sources) (v : Variable) → name_here g v (lookup (bytes_eq v.name.text) (from ++ equation_sources g (equations (component_of g.place))))
      ≡ by_name s ms (component_of g.place) from v
  one_here from v =
      sym (ap (name_here g v) (h.given v.name.text (equations (component_of g.place)) from u))
      ∙ sym (h.names v (given_or s ms (lookup (bytes_eq v.name.text) from) (right_of (equations (component_of g.place)) v.name.text)))

  all_here : (from : Sources) (vs : List Variable)
      → flat_map (λ v. name_here g v (lookup (bytes_eq v.name.text) (from ++ equation_sources g (equations (component_of g.place))))) vs
      ≡ flat_map (by_name s ms (component_of g.place) from) vs
  all_here from [] = refl
  all_here from (v ∷ vs) =
      ap (λ z. z ++ flat_map (λ v. name_here g v (lookup (bytes_eq v.name.text) (from ++ equation_sources g (equations (component_of g.place))))) vs)
      (one_here from v) ∙ ap (λ l. by_name s ms (component_of g.place) from v ++ l) (all_here from vs)

  pub names_so : (ps : List Part) → AreDistinct (map (λ v. v.name.text) (variables (component_of g.place)))
      → streams_here s ms (map (named_stream (component_of g.place)) (variables (component_of g.place))) ps
      ≡ names_here g (zipped (variables (component_of g.place)) ps)
  names_so ps d =
      sym (all_here (zipped (variables (component_of g.place)) ps) (variables (component_of g.place))
      ∙ by_place s ms (component_of g.place) (variables (component_of g.place)) ps d)
