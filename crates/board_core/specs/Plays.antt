-- Two engines that play at chairs of one book: how far each is, and whose turn it is.
use Rattle.std.specs.Prelude.{ℕ, ◌≡◌, ◌≢◌, ◌≤◌, Bool, true, false, List, [], ◌∷◌, length, Option}
use Rattle.sys_terms.specs.View.{Machine}
use Rattle.board_core.specs.declared.engine.Progress.{Progress}
use Rattle.board_core.specs.declared.engine.Progress.TheVariants as p
use Rattle.board_core.specs.declared.playing.Player.{Player}
use Rattle.board_core.specs.declared.playing.Players.{Players}
use Rattle.board_core.specs.Entries.{Posting}
use Rattle.board_core.specs.Seats.{Stand, stand, Begins, HasCauses}

-- it knows a front of the history, no shorter than what was read at its chair; where it has ended, its
-- cause for each property that the history leaves undecided was posted there
pub record IsPlaying (history : List Posting) (m : Machine) (seat : ℕ) (number : Option ℕ)
    (known : List Posting) (player : Player) : Type 0 where
  pub known_front : Begins known history
  pub read : player.front ≤ length known
  pub causes : player.ended ≡ true → HasCauses history history seat number (length m.properties)

-- ---- the turns of one engine

-- what they do: the engine and where its seat stands before, the answer, and both after
abbrev pub Turns : Type 0 → Type 1
Turns E = E → Stand → Progress → E → Stand → Type 0

-- an engine, how far it is, and the history
pub record Place (E : Type 0) : Type 0 where
  pub engine : E
  pub player : Player
  pub history : List Posting

abbrev pub place : {E : Type 0} → E → Player → List Posting → Place E
place {E} engine player history = record { engine = engine; player = player; history = history }

abbrev pub stand_at : {E : Type 0} → ℕ → Place E → Stand
stand_at {E} seat x = stand seat x.player.front x.history

abbrev pub is_last : Progress → Bool
is_last p.More = false
is_last p.Spent = true
is_last p.Decided = true

-- one turn at the seat of this number, with the read front that the last one left; none where it has
-- ended
pub data HasTurn {E : Type 0} (turns : Turns E) (seat : ℕ) (x y : Place E) : Type 0 where
  one_turn : (progress : Progress) → x.player.ended ≡ false
      → turns x.engine (stand_at seat x) progress y.engine (stand_at seat y)
      → y.player.ended ≡ is_last progress → HasTurn turns seat x y
  no_turn : x.player.ended ≡ true → y ≡ x → HasTurn turns seat x y

-- turns until it has ended; the engine and the history behind them
pub data RunsOut {E : Type 0} (turns : Turns E) (seat : ℕ) : Place E → E → List Posting → Type 0 where
  no_more : (x : Place E) → x.player.ended ≡ true → RunsOut turns seat x x.engine x.history
  one_more : (x y : Place E) (engine : E) (history : List Posting) → HasTurn turns seat x y
      → RunsOut turns seat y engine history → RunsOut turns seat x engine history

-- ---- the turns of two

-- two engines, how far they are, and the history
pub record Table (A B : Type 0) : Type 0 where
  pub a : A
  pub b : B
  pub players : Players
  pub history : List Posting

abbrev pub table : {A B : Type 0} → A → B → Players → List Posting → Table A B
table {A} {B} a b players history = record { a = a; b = b; players = players; history = history }

abbrev pub first_place : {A B : Type 0} → Table A B → Place A
first_place {A} {B} t = place t.a t.players.first t.history

abbrev pub second_place : {A B : Type 0} → Table A B → Place B
second_place {A} {B} t = place t.b t.players.second t.history

-- a turn of the first at 0, of the second at 1; another number does nothing
pub data IsMove {A B : Type 0} (turns_a : Turns A) (turns_b : Turns B) (number : ℕ) (s t : Table A B) : Type 0 where
  of_first : number ≡ 0 → HasTurn turns_a 0 (first_place s) (first_place t)
      → t.b ≡ s.b → t.players.second ≡ s.players.second → IsMove turns_a turns_b number s t
  of_second : number ≡ 1 → HasTurn turns_b 1 (second_place s) (second_place t)
      → t.a ≡ s.a → t.players.first ≡ s.players.first → IsMove turns_a turns_b number s t
  of_none : number ≢ 0 → number ≢ 1 → t ≡ s → IsMove turns_a turns_b number s t

-- those of an order, one after another
abbrev pub AreMoves : {A B : Type 0} → Turns A → Turns B → List ℕ → (s t : Table A B) → Type 0
AreMoves {A} {B} turns_a turns_b [] s t = t ≡ s
AreMoves {A} {B} turns_a turns_b (number ∷ order) s t =
    (r : Table A B) × IsMove turns_a turns_b number s r × AreMoves turns_a turns_b order r t

abbrev pub new_player : Player
new_player = record { front = 0; ended = false }

-- neither has read anything, or has ended
abbrev pub new_players : Players
new_players = record { first = new_player; second = new_player }

-- A play of `a` and `b`, from no entries on: the turns of the order, then those of the first until it has
-- ended, then those of the second. Behind it the engines are `a'` and `b'`.
pub record IsPlay {A B : Type 0} (turns_a : Turns A) (turns_b : Turns B) (order : List ℕ) (a : A) (b : B) (a' : A)
    (b' : B) (history : List Posting) : Type 0 where
  pub middle : Table A B
  pub first_history : List Posting
  pub moves : AreMoves turns_a turns_b order (table a b new_players []) middle
  pub first_runs : RunsOut turns_a 0 (first_place middle) a' first_history
  pub second_runs : RunsOut turns_b 1 (place middle.b middle.players.second first_history) b' history
