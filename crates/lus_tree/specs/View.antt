-- What contracts see of the tree's types.
use Rattle.std.specs.Prelude.{Bool, false, List, [], ◌∷◌, Option, Some, map, option_map}
use Rattle.std.specs.String.{string_bytes}
use Rattle.std.specs.declared.alloc.Global.{Global}
use Rattle.std.specs.declared.vec.Vec.{Vec}
use Rattle.lus_tree.specs.declared.place.PlacedName.{PlacedName}
use Rattle.lus_tree.specs.declared.place.Param.{Param}
use Rattle.lus_tree.specs.declared.expression.Expr.{Expr, Expr-F, fold-Expr}
use Rattle.lus_tree.specs.declared.expression.Form.{Form, Form-F, fold-Form}
use Rattle.lus_tree.specs.declared.expression.Form.TheOpen.{Truth, Number, Name, Not, Minus, Pre, Arrow, Binary, If, When, Merge, Call, Condact, ModeName}
use Rattle.lus_tree.specs.declared.declaration.Definition.{Definition}
use Rattle.lus_tree.specs.declared.declaration.Named.{Named}
use Rattle.lus_tree.specs.declared.declaration.Item.{Item}
use Rattle.lus_tree.specs.declared.declaration.Item.TheVariants.{Equation, Assert, Property, Main}
use Rattle.lus_tree.specs.declared.declaration.ContractItem.{ContractItem}
use Rattle.lus_tree.specs.declared.declaration.ContractItem.TheVariants.{Assume, Guarantee, Ghost, Constant as ConstantItem, Mode, Import}
use Rattle.lus_tree.specs.declared.declaration.Node.{Node}
use Rattle.lus_tree.specs.declared.declaration.ContractNode.{ContractNode}
use Rattle.lus_tree.specs.declared.declaration.Decl.{Decl}
use Rattle.lus_tree.specs.declared.declaration.Decl.TheVariants.{Constant as ConstantDecl, Node as NodeDecl, Contract}
use Rattle.lus_tree.specs.declared.declaration.Program.{Program as ProgramCode}
use Rattle.lus_tree.specs.Tree.{Place, Expression, Expressions, truth, number, name, negation, minus, pre, arrow, binary, choice, sampled, merged, call, condact, mode_name, no_more, more, Spelled, Variable, Constant, Labelled, Statement, equation, assertion, property, main_mark, ContractStatement, assume, guarantee, ghost_variable, constant, mode, «import», Component, Declaration, declared_constant, declared_node, declared_contract, Program}

abbrev pub word_view : PlacedName → Spelled
word_view w = record { text = string_bytes w.text; at = w.at }

-- a list of expressions as the tree has it
abbrev pub joined : List Expression → Expressions
joined [] = no_more
joined (e ∷ es) = more e (joined es)

-- one layer of an expression, with the views of its parts in their place
abbrev pub form_step : Form-F (Place → Expression) Expression → Place → Expression
form_step (Truth b) s = truth s b
form_step (Number n) s = number s n
form_step (Name x) s = name s (string_bytes x)
form_step (Not a) s = negation s a.value
form_step (Minus a) s = minus s a.value
form_step (Pre k a) s = pre s k a.value
form_step (Arrow k a b) s = arrow s k a.value b.value
form_step (Binary o a b) s = binary s o a.value b.value
form_step (If a b c) s = choice s a.value b.value c.value
form_step (When a b w) s = sampled s a.value b (word_view w)
form_step (Merge w a b) s = merged s (word_view w) a.value b.value
form_step (Call k w xs) s = call s k (word_view w) (joined xs.items)
form_step (Condact k a w xs ds) s = condact s k a.value (word_view w) (joined xs.items) (joined ds.items)
form_step (ModeName c m) s = mode_name s (option_map word_view c) (word_view m)

abbrev pub expr_step : Expr-F (Place → Expression) Expression → Expression
expr_step e = e.form record { from = e.from; at = e.at }

abbrev pub expr_view : Expr → Expression
expr_view = fold-Expr (Place → Expression) Expression form_step expr_step

abbrev pub form_view : Form → Place → Expression
form_view = fold-Form (Place → Expression) Expression form_step expr_step

abbrev pub exprs_view : List Expr → List Expression
exprs_view = map expr_view

abbrev pub clock_view : Option (Bool × PlacedName) → Option (Bool × Spelled)
clock_view = option_map (λ c. (c.0, word_view c.1))

abbrev pub param_view : Param → Variable
param_view p = record { name = word_view p.name; sort = p.sort; clock = clock_view p.clock }

abbrev pub definition_view : Definition → Constant
definition_view d = record { name = word_view d.name; sort = d.sort; value = expr_view d.value }

abbrev pub named_view : Named → Labelled
named_view n = record { label = option_map string_bytes n.label; at = n.at; value = expr_view n.value }

abbrev pub item_view : Item → Statement
item_view (Equation xs e) = equation (map word_view xs.items) (expr_view e)
item_view (Assert e) = assertion (expr_view e)
item_view (Property n) = property (named_view n)
item_view (Main p) = main_mark p

abbrev pub contract_item_view : ContractItem → ContractStatement
contract_item_view (Assume n) = assume (named_view n)
contract_item_view (Guarantee n) = guarantee (named_view n)
contract_item_view (Ghost p e) = ghost_variable (param_view p) (expr_view e)
contract_item_view (ConstantItem d) = constant (definition_view d)
contract_item_view (Mode w rs es) = mode (word_view w) (map named_view rs.items) (map named_view es.items)
contract_item_view (Import k c as_ outs) = «import» k (word_view c) (map expr_view as_.items) (map word_view outs.items)

-- the contract of a node, where it has one
abbrev pub contract_view : Option (Vec ContractItem Global) → Option (List ContractStatement)
contract_view = option_map (λ v. map contract_item_view v.items)

abbrev pub node_view : Node → Component
node_view n = record {
  name = word_view n.name;
  function = n.function;
  inputs = map param_view n.inputs.items;
  outputs = map param_view n.outputs.items;
  locals = map param_view n.locals.items;
  constants = map definition_view n.consts.items;
  contract = contract_view n.contract;
  body = map item_view n.items.items;
}

abbrev pub contract_node_view : ContractNode → Component
contract_node_view c = record {
  name = word_view c.name;
  function = false;
  inputs = map param_view c.inputs.items;
  outputs = map param_view c.outputs.items;
  locals = [];
  constants = [];
  contract = Some (map contract_item_view c.items.items);
  body = [];
}

abbrev pub decl_view : Decl → Declaration
decl_view (ConstantDecl d) = declared_constant (definition_view d)
decl_view (NodeDecl n) = declared_node (node_view n)
decl_view (Contract c) = declared_contract (contract_node_view c)

abbrev pub program_view : ProgramCode → Program
program_view p = map decl_view p.decls.items
