-- What is promised of the tokens of a source.
use Rattle.std.specs.Prelude.{ℕ, List, [], ◌++◌, length, Result, Ok, Err, Option, None, Some, option_to_list}
use Rattle.lus_lexer.specs.declared.token.Token.{Token as Tok}
use Rattle.lus_tree.specs.declared.refusal.Refusal.{Refusal}
use Rattle.lus_tree.specs.declared.refusal.What.{What}
use Rattle.lus_tree.specs.declared.refusal.What.TheVariants.{Memory}
use Rattle.lus_tree.specs.declared.place.Pos.{Pos}
use Rattle.lus_lexer.specs.Tokens.{byte, Lexes, Ending, whole, fault}
use Rattle.lus_lexer.specs.declared.cursor.Cursor.{Cursor}

abbrev pub Refused : List ℕ → Pos → What → Type 0
Refused bytes at Memory = Unit {0}
Refused bytes at what = (ts : List Tok) × Lexes (byte bytes) (length bytes) 0 ts (fault at what)

-- One rule: the tokens that it gives, and where it goes on; or the fault
abbrev pub Steps : List ℕ → ℕ → Result (Option Tok × Cursor) Refusal → Type 0
Steps bytes i (Ok x) = (ts : List Tok) (e : Ending) → Lexes (byte bytes) (length bytes) x.1.at ts e → Lexes (byte bytes) (length bytes) i
    (option_to_list x.0 ++ ts) e
Steps bytes i (Err e) = Lexes (byte bytes) (length bytes) i [] (fault e.at e.what)

-- the reading up to its end, or up to its first fault
abbrev pub IsRead : List ℕ → Option Refusal → Type 0
IsRead bytes None = (ts : List Tok) × Lexes (byte bytes) (length bytes) 0 ts whole
IsRead bytes (Some e) = (ts : List Tok) × Lexes (byte bytes) (length bytes) 0 ts (fault e.at e.what)

-- whatever follows at i, some tokens stand before it
pub record Leads (bytes : List ℕ) (i : ℕ) : Type 0 where
  pub front : List Tok
  pub on : (ts : List Tok) (e : Ending) → Lexes (byte bytes) (length bytes) i ts e → Lexes (byte bytes) (length bytes) 0 (front ++ ts) e
