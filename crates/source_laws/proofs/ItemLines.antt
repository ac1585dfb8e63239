-- The lines of names, items and contracts.
use Rattle.std.proofs.Common.{◌≡◌, [], ◌∷◌, ◌++◌, map, refl, Some, None}
use Rattle.std.proofs.Math.Logic.{◌⊎◌, inl, inr}
use Rattle.std.specs.List.{AllByRecursion}
use Rattle.lus_tree.specs.Tree as T
use Rattle.lus_tree.specs.Tree.{Spelled, Labelled}
use Rattle.lus_lexer.specs.declared.token.Class.TheVariants as C
use Rattle.lus_lexer.specs.declared.token.Keyword.TheVariants as K
use Rattle.lus_lexer.specs.declared.token.Sign.TheVariants as S
use Rattle.lus_grammar.specs.Stream.{Stream, Mark}
use Rattle.lus_grammar.specs.Phrase as P
use Rattle.lus_grammar.specs.Phrase.{Part, part, limited, one_of, optional, repeated, ◌⨾◌}
use Rattle.lus_grammar.specs.Grammar.{body, labelled, semicolon, when}
use Rattle.lus_grammar.specs.Syntax.{Syntax, leaf, node, ◌·◌, this, none, some}
use Rattle.lus_grammar.specs.Trees.{expression_of}
use Rattle.lus_grammar.specs.Programs.{label_of, labelled_of, names_of, more_names_of, sort_of, variable_of, clock_of, group_of, groups_of, local_group_of, local_groups_of, local_variables_of, local_constants_of, constants_of, import_arguments_of, more_arguments_of, contract_statements_of, optional_names_of}
use Rattle.source_laws.proofs.Lists.{all_both, all_map, all_such}
use Rattle.source_laws.proofs.Parts.{IsWord, AreWords, IsPlain, IsPrintable, IsItem, IsConstant, IsClock, IsLocal, IsOnClock, IsParameter, IsContractStatement}
use Rattle.source_laws.proofs.Made.{Made, token, occurrence, line, line_within, both, this_one, that_one, not_once, once, no_more, again}
use Rattle.source_laws.proofs.Lines.{AreMarks, AreModeItems, AreContractStatements, Adds, IsLine, Shown, the_one}

-- what each of some lines adds to
pub folded : {H : Part → Syntax → Type 0} {s : Stream} {p : Part} (F : Syntax → Type 0) → F none →
    ((x : Syntax) → H p x → Adds F x) → {x : Syntax} → Made H s (repeated (part p)) x → F x
folded F z f no_more = z
folded F z f (again {x = x} {y = xs} (line a) r) = f x a xs (folded F z f r)

module _ {s : Stream} where
  -- ---- streams

  pub groups : (x : Syntax) → Shown s (body P.Groups) x → IsLine P.Groups (node P.Groups x)
  groups x (both (line g) not_once) = g None
  groups x (both (line g) (once (both t not_once))) = g None
  groups x (both {x = g} (line h) (once (both t (once {x = gs} (line r))))) =
      all_both IsParameter (group_of None g) (groups_of gs) (h None) r

  pub parameters : (x : Syntax) → Shown s (body P.Parameters) x → IsLine P.Parameters (node P.Parameters x)
  parameters x (both t (both not_once u)) = tt
  parameters x (both t (both (once (line gs)) u)) = gs

  pub group : (x : Syntax) → Shown s (body P.Group) x → IsLine P.Group (node P.Group x)
  group x (both {x = xs} (line a) (both {y = q} t b)) c =
      all_map (λ w. IsWord w.text) (IsOnClock c) (variable_of (sort_of q) c) (λ w h. record { name = h; clock = refl }) (names_of xs) a.words

  -- ---- bodies

  pub left : (x : Syntax) → Shown s (body P.Left) x → IsLine P.Left (node P.Left x)
  left x (this_one (line a)) = a
  left x (that_one (both t (both (line a) u))) = a

  more_arguments : {x : Syntax} → Shown s (repeated (P.sign S.Comma ⨾ limited P.Expression)) x →
      AllByRecursion IsPlain (more_arguments_of x)
  more_arguments no_more = tt
  more_arguments (again (both t (line_within a)) r) = (a, more_arguments r)

  pub arguments : (x : Syntax) → Shown s (body P.Arguments) x → IsLine P.Arguments (node P.Arguments x)
  arguments x (both (line_within a) r) = (a, more_arguments r)

  import_arguments : {x : Syntax} → Shown s (optional (part P.Arguments)) x →
      AllByRecursion IsPlain (import_arguments_of x)
  import_arguments not_once = tt
  import_arguments (once (line a)) = a

  mode_items : {x : Syntax} → Shown s (repeated (part P.ModeItem)) x → AreModeItems x
  mode_items r = folded AreModeItems (record { required = tt; ensured = tt }) (λ x a. a) r

  contract_statements : {x : Syntax} → Shown s (repeated (part P.ContractItem)) x → AreContractStatements x
  contract_statements r = folded AreContractStatements tt (λ x a. a) r

  pub contract : (x : Syntax) → Shown s (body P.Contract) x → IsLine P.Contract (node P.Contract x)
  contract x (this_one (both t (both is u))) = contract_statements is
  contract x (that_one (both t (both is u))) = contract_statements is

  module _ (marks : AreMarks s) where
    more_names : {x : Syntax} → Shown s (repeated (P.sign S.Comma ⨾ P.identifier)) x → AreWords (more_names_of x)
    more_names no_more = tt
    more_names (again (both t (token {i = i} v)) r) = (marks.name i (the_one v), more_names r)

    pub names : (x : Syntax) → Shown s (body P.Names) x → IsLine P.Names (node P.Names x)
    names x (both (token {i = i} v) r) =
        record { words = (marks.name i (the_one v), more_names r); some_left = λ e. refl }

    -- [ "when" [ "not" ] ID ]
    clock : {x : Syntax} → Shown s (optional when) x → IsClock (clock_of x)
    clock not_once = tt
    clock (once (both t (both not_once (token {i = i} v)))) = marks.name i (the_one v)
    clock (once (both t (both (once n) (token {i = i} v)))) = marks.name i (the_one v)

    pub local_group : (x : Syntax) → Shown s (body P.LocalGroup) x → IsLine P.LocalGroup (node P.LocalGroup x)
    local_group x (both {x = g} {y = c} (line h) w) =
        all_such (IsOnClock (clock_of c)) IsLocal (λ v k. record { name = k.name; clock = rw k.clock (clock w) })
        (group_of (clock_of c) g) (h (clock_of c))

    local_groups : {x : Syntax} → Shown s (repeated (part P.LocalGroup ⨾ semicolon)) x →
        AllByRecursion IsLocal (local_groups_of x)
    local_groups no_more = tt
    local_groups (again {y = gs} (both {x = g} (line a) t) r) =
        all_both IsLocal (local_group_of g) (local_groups_of gs) a (local_groups r)

    pub locals : (x : Syntax) → Shown s (body P.Locals) x → IsLine P.Locals (node P.Locals x)
    locals x (this_one (both t (both {x = g} (line a) (both {y = gs} u b)))) xs h = record {
      streams = all_both IsLocal (local_group_of g ++ local_groups_of gs) (local_variables_of xs)
          (all_both IsLocal (local_group_of g) (local_groups_of gs) a (local_groups b)) h.streams;
      constants = h.constants;
    }
    locals x (that_one {x = c} (line a)) xs h = record {
      streams = h.streams;
      constants = all_both IsConstant (constants_of c) (local_constants_of xs) a h.constants;
    }

    -- [ names ] of an import
    import_names : {x : Syntax} → Shown s (optional (part P.Names)) x → AreWords (optional_names_of x)
    import_names not_once = tt
    import_names (once (line a)) = a.words

    pub constant_line : (x : Syntax) → Shown s (body P.Constant) x → IsLine P.Constant (node P.Constant x)
    constant_line x (both (token t) (both (token {i = i} v) (both q (both u (both (line_within a) w))))) =
        (record { name = marks.name i (the_one v); value = a }, tt)

    -- [ TEXT ] expr ";"
    label : {x : Syntax} → Shown s (optional (one_of (C.Text ∷ []))) x → IsPrintable (label_of x)
    label not_once = tt
    label (once (token {i = i} v)) = marks.text i (the_one v)

    labelled_item : (t : Mark) {x : Syntax} → Shown s labelled x → IsItem (labelled_of t x)
    labelled_item t (both l (both (line_within a) u)) = record { label = label l; value = a }

    pub item : (x : Syntax) → Shown s (body P.Item) x → IsLine P.Item (node P.Item x)
    item x (this_one (both (line l) (both t (both {x = a} (line_within e) u)))) is h =
        ((l.some_left (expression_of a), l.words, e), h)
    item x (that_one (this_one (both t (both (line_within e) u)))) is h = (e, h)
    item x (that_one (that_one (this_one (both (token {i = i} t) l)))) is h = (labelled_item (s i) l, h)
    item x (that_one (that_one (that_one (both (token t) u)))) is h = (tt, h)

    pub mode_item : (x : Syntax) → Shown s (body P.ModeItem) x → IsLine P.ModeItem (node P.ModeItem x)
    mode_item x (both {y = l} (token {i = i} t) e) is h = go t (labelled_item (s i) e)
      where
        go : ((s i).class ≡ Some (C.Keyword K.Require)) ⊎ (((s i).class ≡ Some (C.Keyword K.Ensure)) ⊎ ⊥) →
            IsItem (labelled_of (s i) l) → AreModeItems (some (node P.ModeItem (leaf (s i) · l)) is)
        go (inl a) p = record { required = rw a (p, h.required); ensured = rw a h.ensured }
        go (inr (inl a)) p = record { required = rw a h.required; ensured = rw a (p, h.ensured) }
        go (inr (inr a)) p = absurd a

    pub contract_item : (x : Syntax) → Shown s (body P.ContractItem) x → IsLine P.ContractItem (node P.ContractItem x)
    contract_item x (this_one (both {y = l} (token {i = i} t) e)) is h = go t (labelled_item (s i) e)
      where
        go : ((s i).class ≡ Some (C.Keyword K.Assume)) ⊎ (((s i).class ≡ Some (C.Keyword K.Guarantee)) ⊎ ⊥) →
            IsItem (labelled_of (s i) l) → AreContractStatements (some (node P.ContractItem (this (leaf (s i) · l))) is)
        go (inl a) p = rw a (p, h)
        go (inr (inl a)) p = rw a (p, h)
        go (inr (inr a)) p = absurd a
    contract_item x (that_one (this_one (both (token t) (both (token {i = i} v) (both u (both q (both w (both (line_within a) z)))))))) is h =
        ((record { name = marks.name i (the_one v); clock = refl }, a), h)
    contract_item x (that_one (that_one (this_one {x = c} (line k)))) is h =
        all_both IsContractStatement (map T.constant (constants_of c)) (contract_statements_of is)
        (all_map IsConstant IsContractStatement T.constant (λ d a. a) (constants_of c) k) h
    contract_item x (that_one (that_one (that_one (this_one (both (token t) (both (token {i = i} v) (both u (both r (both w z))))))))) is h =
        let m = mode_items r in
        ((marks.name i (the_one v), m.required, m.ensured), h)
    contract_item x (that_one (that_one (that_one (that_one (both occurrence
        (both (token {i = i} v) (both u (both a (both t1 (both t2 (both t3 (both w (both t4 t5))))))))))))) is h =
        ((marks.name i (the_one v), import_names w, import_arguments a), h)
