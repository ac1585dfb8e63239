-- The lines of declarations, and with them each line of a text.
use Rattle.std.proofs.Common.{ℕ, [], refl, unwrap_or}
use Rattle.std.specs.List.{AllByRecursion}
use Rattle.lus_tree.specs.Tree.{declared_constant}
use Rattle.lus_grammar.specs.Stream.{Stream}
use Rattle.lus_grammar.specs.Phrase as P
use Rattle.lus_grammar.specs.Phrase.{Part, part, fresh, optional, repeated}
use Rattle.lus_grammar.specs.Grammar.{body}
use Rattle.lus_grammar.specs.Syntax.{Counts, Syntax, node}
use Rattle.lus_grammar.specs.Programs.{contract_of, constants_of, declaration_of, declarations_of, program_of}
use Rattle.lus_grammar.specs.Text.{Text}
use Rattle.source_laws.proofs.Lists.{all_both, all_map}
use Rattle.source_laws.proofs.Parts.{IsConstant, IsContractStatement, IsDeclaration, IsProgram}
use Rattle.source_laws.proofs.Made.{token, line, line_anew, both, this_one, that_one, not_once, once, no_more, again, made, of_line}
use Rattle.source_laws.proofs.Lines.{AreMarks, AreLocals, AreItems, AreContractStatements, IsLine, Shown, the_one}
use Rattle.source_laws.proofs.ExpressionLines.{expressions, expression, condition, arrow_line, implication, relation, chain, unary, primary}
use Rattle.source_laws.proofs.ItemLines.{folded, names, group, groups, parameters, local_group, locals, left, item, arguments, constant_line, mode_item, contract_item, contract}

module _ {s : Stream} where
  optional_contract : {x : Syntax} → Shown s (optional (part P.Contract)) x →
      AllByRecursion IsContractStatement (unwrap_or (contract_of x) [])
  optional_contract not_once = tt
  optional_contract (once (line a)) = a

  declaration : (x : Syntax) → Shown s (body P.Declaration) x → IsLine P.Declaration (node P.Declaration x)
  declaration x (this_one {x = c} (line a)) =
      all_map IsConstant IsDeclaration declared_constant (λ d h. h) (constants_of c) a
  declaration x (that_one (this_one (line a))) = a
  declaration x (that_one (that_one (line a))) = a

  declarations : {x : Syntax} → Shown s (repeated (fresh P.Declaration)) x → IsProgram (declarations_of x)
  declarations no_more = tt
  declarations (again {x = d} {y = ds} (line_anew a) r) =
      all_both IsDeclaration (declaration_of d) (declarations_of ds) a (declarations r)

  module _ (marks : AreMarks s) where
    node_line : (x : Syntax) → Shown s (body P.Node) x → IsLine P.Node (node P.Node x)
    node_line x (both (token t) (both (token {i = k} v) (both (line ps)
        (both a2 (both (line qs) (both a4 (both c (both ls (both a7 (both is (both a9 a10))))))))))) =
        let l = folded AreLocals (record { streams = tt; constants = tt }) (λ y a. a) ls in (
          record {
            name = marks.name k (the_one v);
            inputs = ps;
            outputs = qs;
            locals = l.streams;
            constants = l.constants;
            contract = optional_contract c;
            body = folded AreItems tt (λ y a. a) is;
          },
          tt,
        )

    contract_node : (x : Syntax) → Shown s (body P.ContractNode) x → IsLine P.ContractNode (node P.ContractNode x)
    contract_node x (both (token t) (both (token {i = k} v) (both (line ps) (both a2 (both (line qs) (both a4 (both a5 (both is (both a7 a8))))))))) = (
      (
        record {
          name = marks.name k (the_one v);
          inputs = ps;
          outputs = qs;
          locals = tt;
          constants = tt;
          contract = folded AreContractStatements tt (λ y a. a) is;
          body = tt;
        },
        record { function = refl; locals = refl; constants = refl; contract = refl; body = refl },
      ),
      tt,
    )

    -- A line is as it is to be where the lines in it are.
    each_line : (p : Part) (x : Syntax) → Shown s (body p) x → IsLine p (node p x)
    each_line P.Program x a = declarations a
    each_line P.Declaration x a = declaration x a
    each_line P.Constant x a = constant_line marks x a
    each_line P.Node x a = node_line x a
    each_line P.ContractNode x a = contract_node x a
    each_line P.Parameters x a = parameters x a
    each_line P.Groups x a = groups x a
    each_line P.Group x a = group x a
    each_line P.Names x a = names marks x a
    each_line P.Sort x a = tt
    each_line P.Locals x a = locals marks x a
    each_line P.LocalGroup x a = local_group marks x a
    each_line P.Item x a = item marks x a
    each_line P.Left x a = left x a
    each_line P.Contract x a = contract x a
    each_line P.ContractItem x a = contract_item marks x a
    each_line P.ModeItem x a = mode_item marks x a
    each_line P.Arguments x a = arguments x a
    each_line P.Expressions x a = expressions x a
    each_line P.Expression x a = expression marks x a
    each_line P.Condition x a = condition x a
    each_line P.Arrow x a = arrow_line x a
    each_line P.Implication x a = implication x a
    each_line P.Relation x a = relation x a
    each_line P.Unary x a = unary x a
    each_line P.Primary x a = primary marks x a
    each_line (P.Chain l) x a = chain l x a

    pub program_parts : {limit end i j : ℕ} {n m : Counts} {x : Syntax} →
        Text limit end s (part P.Program) i j n m x → IsProgram (program_of x)
    program_parts a = of_line (made IsLine each_line a)
