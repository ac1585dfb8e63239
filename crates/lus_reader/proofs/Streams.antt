-- The stream of some tokens, at a place.
use Rattle.std.proofs.Common.{◌≡◌, ℕ, ◌<◌, ◌≤◌, List, length, map, get_or, arith}
use Rattle.std.proofs.lemmas.List.{get_or-map}
use Rattle.std.proofs.Math.ListN.{get_or-eq_default, length-map}
use Rattle.lus_lexer.specs.declared.token.Token.{Token}
use Rattle.lus_grammar.specs.Stream.{stream, mark_of, end_mark}

pub stream_inside : (bytes : List ℕ) (tokens : List Token) (k : ℕ) (d : Token) → k < length tokens → stream bytes tokens k ≡ mark_of bytes (get_or tokens k d)
unfolding stream
stream_inside bytes tokens k d h = get_or-map (mark_of bytes) tokens k d (end_mark bytes) h

pub stream_outside : (bytes : List ℕ) (tokens : List Token) (k : ℕ) → length tokens ≤ k → stream bytes tokens k ≡ end_mark bytes
unfolding stream
stream_outside bytes tokens k h = get_or-eq_default (map (mark_of bytes) tokens) (end_mark bytes) (omega (arith, length-map tokens (mark_of bytes), h))
