-- Engines that play at one book.
use Rattle.std.specs.Prelude.{ℕ, zero, suc, ◌≡◌, ◌≢◌, ◌≤◌, ◌<◌, ◌++◌, Bool, true, false, List, [], ◌∷◌, Option, Some, None, Result, Ok, refl, length, take, drop}
use lib.ListN.{get_or}
use Rattle.std.proofs.Common.{ap, sym, ◌∙◌, subst, arith}
use Rattle.sys_terms.specs.View.{Machine}
use Rattle.board_core.specs.declared.engine.Progress.{Progress}
use Rattle.board_core.specs.declared.engine.Progress.TheVariants as p
use Rattle.board_core.specs.declared.fault.EngineFault.{EngineFault}
use Rattle.board_core.specs.declared.playing.Player.{Player}
use Rattle.board_core.specs.Entries.{Posting}
use Rattle.board_core.specs.Seats.{Begins, DecidesAll, HasCauses, has_cause}
use Rattle.board_core.specs.Plays.{IsPlaying, Turns, is_last, Place, HasTurn, RunsOut, no_more, one_more, Table, IsMove, AreMoves}
use Rattle.board_core.proofs.Verdicts.{causes-more, undecided-less}

pub begins-length : {X : Type 0} (xs all : List X) → Begins xs all → length xs ≤ length all
begins-length xs all b = subst (λ l. length xs ≤ length l) (sym b.1) (longer xs b.0) where
  longer : {X : Type 0} (xs ys : List X) → length xs ≤ length (xs ++ ys)
  longer [] ys = omega arith
  longer (x ∷ xs) ys = let r = longer xs ys in omega arith

++-assoc : {X : Type 0} (xs ys zs : List X) → (xs ++ ys) ++ zs ≡ xs ++ (ys ++ zs)
++-assoc [] ys zs = refl
++-assoc (x ∷ xs) ys zs = ap (λ l. x ∷ l) (++-assoc xs ys zs)

pub begins-begins : {X : Type 0} (xs ys zs : List X) → Begins xs ys → Begins ys zs → Begins xs zs
begins-begins xs ys zs a b = (a.0 ++ b.0, b.1 ∙ (ap (λ l. l ++ b.0) a.1 ∙ ++-assoc xs a.0 b.0))

pub begins-self : {X : Type 0} (xs : List X) → Begins xs xs
begins-self xs = ([], sym (none xs)) where
  none : {X : Type 0} (xs : List X) → xs ++ [] ≡ xs
  none [] = refl
  none (x ∷ xs) = ap (λ l. x ∷ l) (none xs)

pub begins-take : {X : Type 0} (n : ℕ) (xs : List X) → Begins (take n xs) xs
begins-take n xs = (drop n xs, both n xs) where
  both : {X : Type 0} (n : ℕ) (xs : List X) → xs ≡ take n xs ++ drop n xs
  both zero xs = refl
  both (suc n) [] = refl
  both (suc n) (x ∷ xs) = ap (λ l. x ∷ l) (both n xs)

cause-more : (seat engine p : ℕ) (xs all : List Posting) → Begins xs all
    → has_cause seat engine p xs ≡ true → has_cause seat engine p all ≡ true
cause-more seat engine p xs all b e =
    subst (λ l. has_cause seat engine p l ≡ true) (sym b.1) (causes-more seat engine p xs b.0 e)

-- causes for what was undecided then are causes for what is undecided now
pub all-causes : (read seen all : List Posting) (seat : ℕ) (number : Option ℕ) (count : ℕ) → Begins read all → Begins seen all
    → HasCauses read seen seat number count → HasCauses all all seat number count
all-causes read seen all seat None count a b h = tt
all-causes read seen all seat (Some engine) count a b h =
    λ p l e. cause-more seat engine p seen all b (h p l (undecided-less p read all a e))

pub no-causes : (read all : List Posting) (seat : ℕ) (number : Option ℕ) (count : ℕ) → Begins read all
    → DecidesAll read count → HasCauses all all seat number count
no-causes read all seat None count a h = tt
no-causes read all seat (Some engine) count a h =
    λ p l e. let u = undecided-less p read all a e in let d = h p l in absurd cc

pub playing-more : (history all : List Posting) (m : Machine) (seat : ℕ) (number : Option ℕ) (known : List Posting)
    (player : Player) → Begins history all → IsPlaying history m seat number known player → IsPlaying all m seat number known player
playing-more history all m seat number known player b h = record {
  known_front = begins-begins known history all h.known_front b;
  read = h.read;
  causes = λ e. all-causes history history all seat number (length m.properties) b b (h.causes e);
}

abbrev pub answered : Progress → Result Progress EngineFault
answered progress = Ok progress

-- an engine that has ended: all that was read is decided, or the causes are posted
pub ended-causes : (progress : Progress) (read seen : List Posting) (seat : ℕ) (number : Option ℕ) (count : ℕ) → Begins read seen
    → (answered progress ≡ answered p.Decided → DecidesAll read count)
    → (answered progress ≡ answered p.Spent → HasCauses read seen seat number count)
    → progress ≢ p.More → HasCauses seen seen seat number count
ended-causes p.More read seen seat number count b d s m = absurd (m refl)
ended-causes p.Spent read seen seat number count b d s m =
    all-causes read seen seen seat number count b (begins-self seen) (s refl)
ended-causes p.Decided read seen seat number count b d s m = no-causes read seen seat number count b (d refl)

pub playing-later : (history all : List Posting) (m n : Machine) (seat : ℕ) (number : Option ℕ) (known : List Posting)
    (player : Player) → n ≡ m → Begins history all
    → IsPlaying history m seat number known player → IsPlaying all n seat number known player
playing-later history all m n seat number known player e b h =
    subst (λ k. IsPlaying all k seat number known player) (sym e) (playing-more history all m seat number known player b h)

-- one that knows nothing yet
pub start-playing : (history : List Posting) (m : Machine) (seat : ℕ) (number : Option ℕ) (known : List Posting)
    → known ≡ [] → IsPlaying history m seat number known (record { front = 0; ended = false })
start-playing history m seat number known e = record {
  known_front = (history, ap (λ l. l ++ history) (sym e));
  read = omega arith;
  causes = λ f. absurd cc;
}

pub causes-later : (history all : List Posting) (m n : Machine) (seat : ℕ) (number other : Option ℕ)
    → n ≡ m → number ≡ other → Begins history all
    → HasCauses history history seat number (length m.properties) → HasCauses all all seat other (length n.properties)
causes-later history all m n seat number other e f b h =
    subst (λ (k : Machine). HasCauses all all seat other (length k.properties)) (sym e)
    (subst (λ k. HasCauses all all seat k (length m.properties)) f
    (all-causes history history all seat number (length m.properties) b b h))

-- a turn that answers anything but `More` is the last
pub last-of : (q : Progress) (b : Bool) → (b ≡ true → q ≢ p.More) → (b ≡ false → q ≡ p.More) → b ≡ is_last q
last-of p.More true f g = absurd (f refl refl)
last-of p.More false f g = refl
last-of p.Spent true f g = refl
last-of p.Spent false f g = let e = g refl in absurd cc
last-of p.Decided true f g = refl
last-of p.Decided false f g = let e = g refl in absurd cc

-- what runs out from y does so from x
abbrev pub RunsOnto : {E : Type 0} → Turns E → ℕ → (y x : Place E) → Type 0
RunsOnto {E} turns seat y x =
    (engine : E) (history : List Posting) → RunsOut turns seat y engine history → RunsOut turns seat x engine history

pub one-more : {E : Type 0} (turns : Turns E) (seat : ℕ) (x y z : Place E)
    → RunsOnto turns seat y x → HasTurn turns seat y z → RunsOnto turns seat z x
one-more turns seat x y z f h = λ engine history r. f engine history (one_more y z engine history h r)

pub no-more : {E : Type 0} (turns : Turns E) (seat : ℕ) (x y z : Place E) → RunsOnto turns seat y x
    → HasTurn turns seat y z → z.player.ended ≡ true → RunsOut turns seat x z.engine z.history
no-more turns seat x y z f h e = one-more turns seat x y z f h z.engine z.history (no_more z e)

-- what these moves reach from t, all reach from s
abbrev pub MovesOnto : {A B : Type 0} → Turns A → Turns B → (rest all : List ℕ) → (t s : Table A B) → Type 0
MovesOnto {A} {B} turns_a turns_b rest all t s =
    (r : Table A B) → AreMoves turns_a turns_b rest t r → AreMoves turns_a turns_b all s r

next-moves : {A B : Type 0} (turns_a : Turns A) (turns_b : Turns B) (order : List ℕ) (i : ℕ) (s t r : Table A B)
    → i < length order → IsMove turns_a turns_b (get_or order i 0) s t
    → AreMoves turns_a turns_b (drop (suc i) order) t r → AreMoves turns_a turns_b (drop i order) s r
next-moves turns_a turns_b [] i s t r l m h = absurd (omega arith)
next-moves turns_a turns_b (k ∷ order) zero s t r l m h = (t, m, h)
next-moves turns_a turns_b (k ∷ order) (suc i) s t r l m h =
    next-moves turns_a turns_b order i s t r (omega arith) m h

pub moves-onto : {A B : Type 0} (turns_a : Turns A) (turns_b : Turns B) (order all : List ℕ) (i : ℕ) (s t u : Table A B)
    → MovesOnto turns_a turns_b (drop i order) all t s → i < length order
    → IsMove turns_a turns_b (get_or order i 0) t u → MovesOnto turns_a turns_b (drop (suc i) order) all u s
moves-onto turns_a turns_b order all i s t u f l m = λ r h. f r (next-moves turns_a turns_b order i t u r l m h)
