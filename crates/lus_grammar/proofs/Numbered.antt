-- The occurrences of each declaration of a source are numbered.
use Rattle.std.proofs.Common.{◌≡◌, ℕ, ◌+◌, true, false, List, [], ◌∷◌, ◌++◌, map, flat_map, refl, ap, ◌∙◌, sym, subst, arith, Some}
use Rattle.std.specs.List.{AllByRecursion}
use Rattle.lus_tree.specs.Tree.{Constant, Component, Declaration, declared_constant, declared_node, declared_contract, Program}
use Rattle.lus_tree.specs.Numbers.{Counted, a_pre, an_arrow, a_call, own_number, body_expressions, contract_statement_expressions, import_number, contract_of, all_numbers, counting, numbers_in, IsNumbered, IsNumberedDeclaration, AreNumbered}
use Rattle.lus_grammar.specs.Stream.{Stream}
use Rattle.lus_grammar.specs.Phrase as P
use Rattle.lus_grammar.specs.Phrase.{Phrase, part, fresh, repeated}
use Rattle.lus_grammar.specs.Syntax.{Counts, none_before, Syntax}
use Rattle.lus_grammar.specs.Trees.{spelled}
use Rattle.lus_grammar.specs.Programs.{is_function, parameters_of, local_variables_of, local_constants_of, constants_of, items_of, contract_statements_of, nodes_of, contract_nodes_of, declarations_of, program_of}
use Rattle.lus_grammar.specs.Programs.{contract_of as text_contract}
use Rattle.lus_grammar.specs.Text as G
use Rattle.lus_grammar.specs.Text.{Text}
use Rattle.lus_grammar.specs.Source.{IsSource}
use Rattle.lus_grammar.proofs.Weights.{weigh, weigh_both, counted_from}
use Rattle.lus_grammar.proofs.Counts.{count_of, goes_on, GoesOn, numbers_go_on}
use Rattle.lus_grammar.proofs.ExpressionNumbers.{in_text, quiet}
use Rattle.lus_grammar.proofs.DeclarationNumbers.{total, total_both, contract_statements_weight, in_items, in_locals, in_contract_statements, in_contract}

-- what the numbers of a declaration weigh: those of its contract, its constants and its body
parts_weight : (c : Counted) (w : ℕ → ℕ) (n : Component) → weigh w (numbers_in c n) ≡ contract_statements_weight c w (contract_of n) +
    (total c w (map (λ d. d.value) n.constants) + total c w (body_expressions n.body))
parts_weight c w n =
    let a = weigh_both w (all_numbers (own_number c) n) (flat_map (import_number c) (contract_of n)) in
    let b = total_both c w (flat_map contract_statement_expressions (contract_of n)) (map (λ d. d.value) n.constants ++ body_expressions n.body) in
    let e = total_both c w (map (λ d. d.value) n.constants) (body_expressions n.body) in
    omega arith

none_counted : (c : Counted) → count_of c none_before ≡ 0
none_counted a_pre = refl
none_counted an_arrow = refl
none_counted a_call = refl

from_none : (w : ℕ → ℕ) (before after all : ℕ) → before ≡ 0 → GoesOn w before after all → all ≡ weigh w (counting 1 after)
from_none w before after all z g =
    let m : after ≡ before + g.many = g.end in
    let e : before + 1 ≡ 1 = omega arith in
    let f : g.many ≡ after = omega arith in
    g.numbers ∙ (ap (λ k. weigh w (counting k g.many)) e ∙ ap (λ k. weigh w (counting 1 k)) f)

-- the numbers of a declaration weigh what those of a text do
abbrev DeclarationSame : Counted → (ℕ → ℕ) → Declaration → Syntax → Type 0
DeclarationSame c w (declared_constant d) x = Unit {0}
DeclarationSame c w (declared_node n) x = weigh w (numbers_in c n) ≡ in_text c w x
DeclarationSame c w (declared_contract n) x = weigh w (numbers_in c n) ≡ in_text c w x

only_constants : (cs : List Constant) → AllByRecursion IsNumberedDeclaration (map declared_constant cs)
only_constants [] = tt
only_constants (c ∷ cs) = (tt, only_constants cs)

both_numbered : (ds es : Program) → AllByRecursion IsNumberedDeclaration ds → AllByRecursion IsNumberedDeclaration es
    → AllByRecursion IsNumberedDeclaration (ds ++ es)
both_numbered [] es a b = b
both_numbered (d ∷ ds) es a b = (a.0, both_numbered ds es a.1 b)

module _ {limit end : ℕ} {s : Stream} where
  -- A declaration whose numbers weigh what those of its text do is numbered.
  numbered : {g : Phrase} {i j : ℕ} {m : Counts} {x : Syntax} → Text limit end s g i j none_before m x → goes_on g ≡ true → (n : Component)
      → ((c : Counted) (w : ℕ → ℕ) → weigh w (numbers_in c n) ≡ in_text c w x) → IsNumbered n
  numbered {m = m} {x = x} a e n same = record {
    each = λ c. counted_from (count_of c m) (numbers_in c n) (λ w. same c w ∙ from_none w (count_of c none_before) (count_of c m)
        (in_text c w x) (none_counted c) (numbers_go_on c w a e));
  }

  -- a node, and the declarations behind it
  node_same : (c : Counted) (w : ℕ → ℕ) {i j : ℕ} {n m : Counts} {x : Syntax} → Text limit end s (part P.Node) i j n m x → AllByRecursion
      (λ d. DeclarationSame c w d x) (nodes_of x)
  node_same c w (G.line (G.both (G.token {i = i} t) (G.both (G.token {i = k} v)
      (G.both {x = ps} a1 (G.both a2 (G.both {x = qs} a3 (G.both a4
      (G.both {x = cs} a5 (G.both {x = ls} a6 (G.both a7 (G.both {x = is} a8 (G.both a9 a10)))))))))))) =
      let n : Component = record {
        name = spelled (s k);
        function = is_function
            (s i).class;
        inputs = parameters_of ps;
        outputs = parameters_of qs;
        locals = local_variables_of ls;
        constants = local_constants_of
            ls;
        contract = text_contract cs;
        body = items_of is;
      } in
      let p = parts_weight c w n in
      let q1 = quiet c w a1 refl in
      let q2 = quiet c w a2 refl in
      let q3 = quiet c w a3 refl in
      let q4 = quiet c w a4 refl in
      let p5 = in_contract c w a5 in
      let p6 = in_locals c w a6 in
      let q7 = quiet c w a7 refl in
      let p8 = in_items c w a8 in
      let q9 = quiet c w a9 refl in
      let q10 = quiet c w a10 refl in
      (omega arith, tt)

  contract_same : (c : Counted) (w : ℕ → ℕ) {i j : ℕ} {n m : Counts} {x : Syntax} → Text limit end s (part P.ContractNode) i j n m x
      → AllByRecursion (λ d. DeclarationSame c w d x) (contract_nodes_of x)
  contract_same c w (G.line (G.both (G.token t) (G.both (G.token {i = k} v)
      (G.both {x = ps} a1 (G.both a2 (G.both {x = qs} a3 (G.both a4 (G.both a5 (G.both {x = is} a6 (G.both a7 a8)))))))))) =
      let n : Component = record {
        name = spelled (s k);
        function = false;
        inputs = parameters_of ps;
        outputs = parameters_of qs;
        locals =
            [];
        constants = [];
        contract = Some (contract_statements_of is);
        body = [];
      } in
      let p = parts_weight c w n in
      let q1 = quiet c w a1 refl in
      let q2 = quiet c w a2 refl in
      let q3 = quiet c w a3 refl in
      let q4 = quiet c w a4 refl in
      let q5 = quiet c w a5 refl in
      let p6 = in_contract_statements c w a6 in
      let q7 = quiet c w a7 refl in
      let q8 = quiet c w a8 refl in
      (omega arith, tt)

  -- each declaration that a text has
  each_numbered : {g : Phrase} {i j : ℕ} {m : Counts} {x : Syntax} → Text limit end s g i j none_before m x → goes_on g ≡ true →
      (ds : Program) → ((c : Counted) (w : ℕ → ℕ) → AllByRecursion (λ d. DeclarationSame c w d x) ds)
      → AllByRecursion IsNumberedDeclaration ds
  each_numbered a e [] h = tt
  each_numbered a e (declared_constant d ∷ ds) h = (tt, each_numbered a e ds (λ c w. (h c w).1))
  each_numbered a e (declared_node n ∷ ds) h = (numbered a e n (λ c w. (h c w).0), each_numbered a e ds (λ c w. (h c w).1))
  each_numbered a e (declared_contract n ∷ ds) h = (numbered a e n (λ c w. (h c w).0), each_numbered a e ds (λ c w. (h c w).1))

  declarations_numbered : {i j : ℕ} {n m : Counts} {x : Syntax} → Text limit end s (repeated (fresh P.Declaration)) i j n m x → AreNumbered (declarations_of x)
  declarations_numbered G.no_more = tt
  declarations_numbered (G.again {y = ds} (G.line_anew (G.this_one {x = x} a)) r) = both_numbered (map declared_constant (constants_of x))
      (declarations_of ds) (only_constants (constants_of x)) (declarations_numbered r)
  declarations_numbered (G.again {y = ds} (G.line_anew (G.that_one (G.this_one {x = x} a))) r) = both_numbered (nodes_of x)
      (declarations_of ds) (each_numbered a refl (nodes_of x) (λ c w. node_same c w a)) (declarations_numbered r)
  declarations_numbered (G.again {y = ds} (G.line_anew (G.that_one (G.that_one {x = x} a))) r) = both_numbered (contract_nodes_of x)
      (declarations_of ds) (each_numbered a refl (contract_nodes_of x) (λ c w. contract_same c w a)) (declarations_numbered r)

  program_numbered : {i j : ℕ} {n m : Counts} {x : Syntax} → Text limit end s (part P.Program) i j n m x → AreNumbered (program_of x)
  program_numbered (G.line a) = declarations_numbered a

-- The occurrences of each declaration of a source are numbered from 1 on, each number once.
pub source_numbered : (bytes : List ℕ) (p : Program) → IsSource bytes p → AreNumbered p
source_numbered bytes p s = subst AreNumbered (sym s.is) (program_numbered s.text)
