-- With which token a part begins.
use Rattle.std.specs.Prelude.{Option, Some, None}
use Rattle.lus_lexer.specs.declared.token.Class.{Class}
use Rattle.lus_lexer.specs.declared.token.Class.TheVariants as C
use Rattle.lus_lexer.specs.declared.token.Keyword.TheVariants as K
use Rattle.lus_lexer.specs.declared.token.Opening.{Opening}
use Rattle.contract_reader.specs.declared.begin.DeclarationStart.{DeclarationStart}
use Rattle.contract_reader.specs.declared.begin.DeclarationStart.TheVariants as D
use Rattle.contract_reader.specs.declared.begin.LocalsStart.{LocalsStart}
use Rattle.contract_reader.specs.declared.begin.LocalsStart.TheVariants as L
use Rattle.contract_reader.specs.declared.begin.ContractItemStart.{ContractItemStart}
use Rattle.contract_reader.specs.declared.begin.ContractItemStart.TheVariants as I
use Rattle.contract_reader.specs.declared.begin.ModeItemStart.{ModeItemStart}
use Rattle.contract_reader.specs.declared.begin.ModeItemStart.TheVariants as M

abbrev pub declaration_start_of : Option Class → Option DeclarationStart
declaration_start_of (Some (C.Keyword K.Const)) = Some D.Constant
declaration_start_of (Some (C.Keyword K.Node)) = Some D.Node
declaration_start_of (Some (C.Keyword K.Function)) = Some D.Function
declaration_start_of (Some (C.Keyword K.Contract)) = Some D.Contract
declaration_start_of _ = None

abbrev pub declaration_class : DeclarationStart → Class
declaration_class D.Constant = C.Keyword K.Const
declaration_class D.Node = C.Keyword K.Node
declaration_class D.Function = C.Keyword K.Function
declaration_class D.Contract = C.Keyword K.Contract

abbrev pub locals_start_of : Option Class → Option LocalsStart
locals_start_of (Some (C.Keyword K.Var)) = Some L.Variables
locals_start_of (Some (C.Keyword K.Const)) = Some L.Constant
locals_start_of _ = None

abbrev pub locals_class : LocalsStart → Class
locals_class L.Variables = C.Keyword K.Var
locals_class L.Constant = C.Keyword K.Const

abbrev pub contract_item_start_of : Option Class → Option ContractItemStart
contract_item_start_of (Some (C.Keyword K.Assume)) = Some I.Assume
contract_item_start_of (Some (C.Keyword K.Guarantee)) = Some I.Guarantee
contract_item_start_of (Some (C.Keyword K.Var)) = Some I.Ghost
contract_item_start_of (Some (C.Keyword K.Const)) = Some I.Constant
contract_item_start_of (Some (C.Keyword K.Mode)) = Some I.Mode
contract_item_start_of (Some (C.Keyword K.Import)) = Some I.Import
contract_item_start_of _ = None

abbrev pub contract_item_class : ContractItemStart → Class
contract_item_class I.Assume = C.Keyword K.Assume
contract_item_class I.Guarantee = C.Keyword K.Guarantee
contract_item_class I.Ghost = C.Keyword K.Var
contract_item_class I.Constant = C.Keyword K.Const
contract_item_class I.Mode = C.Keyword K.Mode
contract_item_class I.Import = C.Keyword K.Import

abbrev pub mode_item_start_of : Option Class → Option ModeItemStart
mode_item_start_of (Some (C.Keyword K.Require)) = Some M.Require
mode_item_start_of (Some (C.Keyword K.Ensure)) = Some M.Ensure
mode_item_start_of _ = None

abbrev pub mode_item_class : ModeItemStart → Class
mode_item_class M.Require = C.Keyword K.Require
mode_item_class M.Ensure = C.Keyword K.Ensure

abbrev pub contract_start_of : Option Class → Option Opening
contract_start_of (Some (C.ContractOpen o)) = Some o
contract_start_of _ = None
