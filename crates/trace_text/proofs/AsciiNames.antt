-- Names are ASCII.
use Rattle.std.proofs.Common.{◌≡◌, ℕ, zero, suc, ◌<◌, Bool, true, false, not, ◌&&◌, List, [], ◌∷◌, get_or, refl, arith}
use Rattle.std.specs.List.{list_all, list_any}
use Rattle.std.specs.Str.{bytes_eq, IsAscii, IsUtf8}
use Rattle.std.proofs.lemmas.Str.{IsUtf8-from_ascii}
use Rattle.lus_lexer.specs.Tokens.{is_letter, is_word}
use Rattle.lus_lexer.specs.Names.{reserved, is_name}

is_word_small : (b : ℕ) → is_word b ≡ true → b < 128
is_word_small b h = grind (arith, h)

word_ascii : (w : List ℕ) → list_all is_word w ≡ true → IsAscii w
word_ascii [] h i = omega arith
word_ascii (b ∷ bs) h i = go (is_word b) refl h (word_ascii bs) i
  where
    go : (x : Bool) → is_word b ≡ x → (x && list_all is_word bs) ≡ true → (list_all is_word bs ≡ true → IsAscii bs) → IsAscii (b ∷ bs)
    go true e h r zero = is_word_small b e
    go true e h r (suc i) = r h i
    go false e h r i = absurd cc

and_left : (x y : Bool) → (x && y) ≡ true → x ≡ true
and_left true y h = refl
and_left false y h = absurd cc

and_right : (x y : Bool) → (x && y) ≡ true → y ≡ true
and_right true y h = h
and_right false y h = absurd cc

pub name_word : (w : List ℕ) → is_name w ≡ true → list_all is_word w ≡ true
unfolding is_name
name_word w h = and_left (list_all is_word w) (not (list_any (bytes_eq w) reserved))
    (and_right (is_letter (get_or w 0 0)) (list_all is_word w && not (list_any (bytes_eq w) reserved)) h)

pub name_letter : (w : List ℕ) → is_name w ≡ true → is_letter (get_or w 0 0) ≡ true
unfolding is_name
name_letter w h = and_left (is_letter (get_or w 0 0)) (list_all is_word w && not (list_any (bytes_eq w) reserved)) h

pub name_utf8 : (w : List ℕ) → is_name w ≡ true → IsUtf8 w
name_utf8 w h = IsUtf8-from_ascii w (word_ascii w (name_word w h))
