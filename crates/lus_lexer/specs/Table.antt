-- The table of tokens: the spellings that are fixed.
use Rattle.std.specs.Prelude.{ℕ, Bool, true, false, List, [], ◌∷◌, ◌++◌, codes}
use Rattle.lus_lexer.specs.declared.token.Class.TheVariants as C
use Rattle.lus_lexer.specs.declared.token.Keyword.{Keyword}
use Rattle.lus_lexer.specs.declared.token.Keyword.TheVariants as K
use Rattle.lus_lexer.specs.declared.token.LeftOut.{LeftOut}
use Rattle.lus_lexer.specs.declared.token.LeftOut.TheVariants as L
use Rattle.lus_lexer.specs.declared.token.Sign.{Sign}
use Rattle.lus_lexer.specs.declared.token.Sign.TheVariants as S
use Rattle.lus_lexer.specs.declared.token.Opening.{Opening}
use Rattle.lus_lexer.specs.declared.token.Opening.TheVariants as O
use Rattle.lus_lexer.specs.declared.token.Closing.{Closing}
use Rattle.lus_lexer.specs.declared.token.Closing.TheVariants as E
use Rattle.lus_lexer.specs.declared.token.Annotation.{Annotation}
use Rattle.lus_lexer.specs.declared.token.Annotation.TheVariants as A
use Rattle.lus_lexer.specs.declared.spelling.Comment.{Comment}
use Rattle.lus_lexer.specs.declared.spelling.Comment.TheVariants as M
use Rattle.lus_lexer.specs.declared.spelling.Lexeme.{Lexeme}
use Rattle.lus_lexer.specs.declared.spelling.Lexeme.TheVariants.{Token, Opens}

-- a spelling, what it is, and whether no letter, digit or _ may follow it
pub record Row : Type 0 where
  pub text : List ℕ
  pub is : Lexeme
  pub alone : Bool

abbrev pub keyword : List ℕ → Keyword → Row
keyword t k = record { text = t; is = Token (C.Keyword k); alone = false }

abbrev pub left_out : List ℕ → LeftOut → Row
left_out t l = record { text = t; is = Token (C.LeftOut l); alone = false }

abbrev pub sign : List ℕ → Sign → Row
sign t s = record { text = t; is = Token (C.Sign s); alone = false }

abbrev pub contract_open : List ℕ → Opening → Row
contract_open t o = record { text = t; is = Token (C.ContractOpen o); alone = true }

abbrev pub contract_close : List ℕ → Closing → Row
contract_close t c = record { text = t; is = Token (C.ContractClose c); alone = false }

abbrev pub annotation : List ℕ → Annotation → Row
annotation t a = record { text = t; is = Token (C.Annotation a); alone = true }

abbrev pub opens : List ℕ → Comment → Row
opens t c = record { text = t; is = Opens c; alone = false }

abbrev pub keywords : List Row
keywords = keyword (codes "node") K.Node ∷ keyword (codes "function") K.Function ∷ keyword (codes "contract") K.Contract ∷ keyword (codes "returns") K.Returns
    ∷ keyword (codes "var") K.Var ∷ keyword (codes "const") K.Const ∷ keyword (codes "let") K.Let ∷ keyword (codes "tel") K.Tel
    ∷ keyword (codes "import") K.Import ∷ keyword (codes "mode") K.Mode ∷ keyword (codes "assume") K.Assume ∷ keyword (codes "guarantee") K.Guarantee
    ∷ keyword (codes "require") K.Require ∷ keyword (codes "ensure") K.Ensure ∷ keyword (codes "assert") K.Assert ∷ keyword (codes "check") K.Check
    ∷ keyword (codes "if") K.If ∷ keyword (codes "then") K.Then ∷ keyword (codes "else") K.Else ∷ keyword (codes "when") K.When
    ∷ keyword (codes "merge") K.Merge ∷ keyword (codes "condact") K.Condact ∷ keyword (codes "activate") K.Activate ∷ keyword (codes "every") K.Every
    ∷ keyword (codes "initial") K.Initial ∷ keyword (codes "default") K.Default ∷ keyword (codes "pre") K.Pre ∷ keyword (codes "and") K.And
    ∷ keyword (codes "or") K.Or ∷ keyword (codes "xor") K.Xor ∷ keyword (codes "not") K.Not ∷ keyword (codes "div") K.Div
    ∷ keyword (codes "mod") K.Mod ∷ keyword (codes "true") K.True ∷ keyword (codes "false") K.False ∷ keyword (codes "bool") K.Bool
    ∷ keyword (codes "int") K.Int ∷ []

abbrev pub left_out_words : List Row
left_out_words = left_out (codes "type") L.TypeWord ∷ left_out (codes "struct") L.Struct ∷ left_out (codes "enum") L.Enum ∷ left_out
    (codes "subrange") L.Subrange
    ∷ left_out (codes "real") L.Real ∷ left_out (codes "imported") L.Imported ∷ left_out (codes "automaton") L.Automaton ∷ left_out (codes "restart") L.Restart
    ∷ left_out (codes "current") L.Current ∷ left_out (codes "fby") L.Fby ∷ left_out (codes "forall") L.Forall ∷ left_out (codes "exists") L.Exists
    ∷ left_out (codes "weakly") L.Weakly ∷ left_out (codes "array") L.Array ∷ left_out (codes "int8") L.Int8 ∷ left_out (codes "int16") L.Int16
    ∷ left_out (codes "int32") L.Int32 ∷ left_out (codes "int64") L.Int64 ∷ left_out (codes "uint8") L.Uint8 ∷ left_out (codes "uint16") L.Uint16
    ∷ left_out (codes "uint32") L.Uint32 ∷ left_out (codes "uint64") L.Uint64 ∷ []

abbrev pub left_out_signs : List Row
left_out_signs = left_out (codes "^") L.Caret ∷ left_out (codes "[") L.OpenBracket ∷ left_out (codes "]") L.CloseBracket ∷ left_out (codes "{") L.OpenBrace
    ∷ left_out (codes "}") L.CloseBrace ∷ left_out (codes ".") L.Dot ∷ left_out (codes "/") L.Slash ∷ left_out (codes "#") L.Hash
    ∷ left_out (codes "|") L.Bar ∷ left_out (codes "--!MAIN") L.Main ∷ left_out (codes "--!PROPERTY") L.Property ∷ []

abbrev pub signs : List Row
signs = sign (codes "(") S.Open ∷ sign (codes ")") S.Close ∷ sign (codes ",") S.Comma ∷ sign (codes ";") S.Semicolon
    ∷ sign (codes ":") S.Colon ∷ sign (codes "::") S.DoubleColon ∷ sign (codes "=") S.Equals ∷ sign (codes "<") S.Less
    ∷ sign (codes "<=") S.AtMost ∷ sign (codes ">") S.More ∷ sign (codes ">=") S.AtLeast ∷ sign (codes "<>") S.Differs
    ∷ sign (codes "+") S.Plus ∷ sign (codes "-") S.Minus ∷ sign (codes "*") S.Times ∷ sign (codes "->") S.Arrow
    ∷ sign (codes "=>") S.Implies ∷ []

abbrev pub contract_opens : List Row
contract_opens = contract_open (codes "(*@contract") O.Round ∷ contract_open (codes "/*@contract") O.Slash ∷ []

abbrev pub contract_closes : List Row
contract_closes = contract_close (codes "*)") E.Round ∷ contract_close (codes "*/") E.Slash ∷ []

abbrev pub annotations : List Row
annotations = annotation (codes "--%MAIN") A.Main ∷ annotation (codes "--%PROPERTY") A.Property ∷ []

abbrev pub comments : List Row
comments = opens (codes "--") M.Line ∷ opens (codes "(*") M.Round ∷ opens (codes "/*") M.Slash ∷ []

unfoldable pub table : List Row
table = signs ++ contract_opens ++ contract_closes ++ annotations ++ left_out_words ++ left_out_signs ++ keywords ++ comments
