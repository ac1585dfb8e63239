-- The own graph of a declaration: which of its names each of them reads at the same instant. A call stands in it by what
-- comes back of it, the arguments of those inputs that its callee reads now, so that no callee is unfolded.
use Rattle.std.specs.Prelude.{◌≡◌, true, false, cond, List, [], ◌∷◌, ◌++◌, map, flat_map, unwrap_or, option_map, option_to_list}
use Rattle.std.specs.Map.{lookup}
use Rattle.std.specs.Str.{bytes_eq}
use Rattle.lus_tree.specs.Tree.{Name, Spelled, text_of, Expression, Expressions, truth, number, name, negation, minus, pre, arrow, binary, choice, sampled, merged, call, condact, mode_name, no_more, more, Labelled, ContractStatement, assume, guarantee, ghost_variable, constant, mode, «import», Component}
use Rattle.lus_meaning.specs.Scene.{Clock, base, sampled_by, clock_from, clock_of, clock_of_names, contract_statements, variables}
use Rattle.lus_meaning.specs.Meaning.{mode_key}
use Rattle.lus_meaning.specs.Run.{Equation, equations}
use Rattle.lus_meaning.specs.Depends.{named_in}
use Rattle.lus_meaning.specs.EquationFaults.{clock_names, last_name}

-- ---- what is known of a callee

-- A declaration as its callers see it: its inputs and outputs, those inputs that some output reads at the same instant,
-- and for each mode of its contract the inputs and outputs that its requires read.
pub record Summary : Type 0 where
  pub inputs : List Name
  pub outputs : List Name
  pub reads : List Name
  pub modes : List (Name × List Name)

-- the summaries of the declarations by name
abbrev pub Summaries : Type 0
Summaries = Name → Summary

-- what each known mode reads: `::m` goes by its name alone, `::C::m` by that of the imported contract too
abbrev pub ModeReads : Type 0
ModeReads = List ((List Name × Name) × List Name)

abbrev pub known_reads : ModeReads → List Name × Name → List Name
known_reads ms key = unwrap_or (lookup (mode_key key) ms) []

-- ---- what an expression reads

module _ (n : Component) (g : Summaries) where
  -- The names that an expression on that clock reads at its instant. Of a call these are the name of its clock and what
  -- the arguments of the inputs read that its callee reads now. The operand of `pre` is of an earlier instant.
  abbrev mutual
    pub reads : ModeReads → Clock → Expression → List Name
    reads m c (truth p b) = clock_names c
    reads m c (number p k) = clock_names c
    reads m c (name p x) = x ∷ clock_names c
    reads m c (negation p a) = clock_names c ++ reads m c a
    reads m c (minus p a) = clock_names c ++ reads m c a
    reads m c (pre p k a) = clock_names c
    reads m c (arrow p k a b) = clock_names c ++ (reads m c a ++ reads m c b)
    reads m c (binary p o a b) = clock_names c ++ (reads m c a ++ reads m c b)
    reads m c (choice p a b d) = clock_names c ++ (reads m c a ++ (reads m c b ++ reads m c d))
    reads m c (sampled p a b x) = x.text ∷ reads m (clock_of n x.text) a
    reads m c (merged p x a b) = x.text ∷ (reads m (sampled_by true x.text) a ++ reads m (sampled_by false x.text) b)
    reads m c (call p k f as_) = clock_names c ++ arguments_read m c (g f.text).reads (g f.text).inputs as_
    reads m c (condact p k a f as_ ds) =
        clock_names c ++ (reads m c a ++ (arguments_read m c (g f.text).reads (g f.text).inputs as_ ++ reads_each m c ds))
    reads m c (mode_name p d x) = known_reads m (option_to_list (option_map text_of d), x.text)

    pub reads_each : ModeReads → Clock → Expressions → List Name
    reads_each m c no_more = []
    reads_each m c (more a as_) = reads m c a ++ reads_each m c as_

    -- what those arguments read whose inputs are among ys
    pub arguments_read : ModeReads → Clock → List Name → List Name → Expressions → List Name
    arguments_read m c ys (x ∷ xs) (more a as_) = cond (named_in x ys) (reads m c a) [] ++ arguments_read m c ys xs as_
    arguments_read m c ys xs _ = []

  -- ---- modes

  abbrev pub listed_read : ModeReads → List Name → List Name → List Expression → List Name
  listed_read m ys (x ∷ xs) (a ∷ as_) = cond (named_in x ys) (reads m base a) [] ++ listed_read m ys xs as_
  listed_read m ys xs _ = []

  -- the names that stand for those outputs of an import that are among ys
  abbrev pub shared_read : List Name → List Name → List Spelled → List Name
  shared_read ys (o ∷ os) (x ∷ xs) = cond (named_in o ys) (x.text ∷ []) [] ++ shared_read ys os xs
  shared_read ys os _ = []

  abbrev pub imported_reads : ModeReads → Summary → Spelled → List Expression → List Spelled → ModeReads
  imported_reads m s c as_ xs =
      map (λ e. ((c.text ∷ [], e.0), listed_read m e.1 s.inputs as_ ++ shared_read e.1 s.outputs xs)) s.modes

  abbrev pub asked_reads : ModeReads → List Labelled → List Name
  asked_reads m rs = flat_map (λ r. reads m base r.value) rs

  -- the modes of these statements behind known ones: each reads by those before it
  abbrev pub mode_reads_after : ModeReads → List ContractStatement → ModeReads
  mode_reads_after ms [] = ms
  mode_reads_after ms (mode m rs es ∷ cs) = mode_reads_after (ms ++ (([], m.text), asked_reads ms rs) ∷ []) cs
  mode_reads_after ms («import» k c as_ xs ∷ cs) = mode_reads_after (ms ++ imported_reads ms (g c.text) c as_ xs) cs
  mode_reads_after ms (assume l ∷ cs) = mode_reads_after ms cs
  mode_reads_after ms (guarantee l ∷ cs) = mode_reads_after ms cs
  mode_reads_after ms (ghost_variable x e ∷ cs) = mode_reads_after ms cs
  mode_reads_after ms (constant c ∷ cs) = mode_reads_after ms cs

  abbrev pub mode_reads : ModeReads
  mode_reads = mode_reads_after [] (contract_statements n)

  -- ---- edges

  -- the name of its clock
  abbrev pub declared_reads : Name → List Name
  declared_reads x = flat_map (λ v. cond (bytes_eq x v.name.text) (clock_names (clock_from v.clock)) []) (variables n)

  -- what each left name of an equation reads by it
  abbrev pub equation_reads : Equation → List Name
  equation_reads e = flat_map declared_reads e.names ++ reads mode_reads (clock_of_names n e.names) e.right

  abbrev pub defined_reads : Name → List Equation → List Name
  defined_reads x es = flat_map (λ e. cond (named_in x e.names) (equation_reads e) []) es

  -- the names to which edges lead from a name: those that it reads at the same instant
  abbrev pub own_edges : Name → List Name
  own_edges x = declared_reads x ++ defined_reads x (equations n)

-- ---- ways along edges

abbrev pub Edges : Type 0
Edges = Name → List Name

abbrev pub IsOwnWay : Edges → Name → List Name → Type 0
IsOwnWay edges x [] = Unit {0}
IsOwnWay edges x (y ∷ ys) = (named_in y (edges x) ≡ true) × IsOwnWay edges y ys

-- a way of at least one edge from one of these names to one of those
pub record LeadsTo (edges : Edges) (xs ys : List Name) : Type 0 where
  pub start : Name
  pub starts : named_in start xs ≡ true
  pub first : Name
  pub rest : List Name
  pub way : IsOwnWay edges start (first ∷ rest)
  pub finishes : named_in (last_name first rest) ys ≡ true

-- a way of any number of edges from one of these names to that
pub record Finds (edges : Edges) (xs : List Name) (y : Name) : Type 0 where
  pub start : Name
  pub starts : named_in start xs ≡ true
  pub rest : List Name
  pub way : IsOwnWay edges start rest
  pub last : last_name start rest ≡ y
