-- Left names are added to a table of streams.
use Rattle.std.proofs.Common.{◌≡◌, ℕ, zero, suc, Bool, true, false, cond, not, ◌||◌, List, [], ◌∷◌, ◌++◌, map, refl, ap, ◌∙◌, sym, subst, append_assoc, None}
use Rattle.std.specs.Str.{bytes_eq}
use Rattle.std.proofs.Math.Logic.{◌⊎◌, inl, inr}
use Rattle.std.proofs.lemmas.Bool.{true≢false, false≢true, cases_Bool}
use Rattle.std.proofs.lemmas.List.{append-nil, map-append}
use Rattle.lus_tree.specs.Tree.{Name, Variable}
use Rattle.lus_meaning.specs.Depends.{named_in}
use Rattle.lus_meaning.specs.Order.{left_at}
use Rattle.lus_meaning.specs.Run.{Equation}
use Rattle.lus_meaning.specs.WellMade.{AreDistinct}
use Rattle.lus_meaning.proofs.Unique.{same_bytes}
use Rattle.name_table.specs.Names.{add}
use Rattle.name_table.proofs.Names.{distinct_added, itself, in_joined}
use Rattle.lus_order.specs.declared.setting.Clocks.{Clocks}
use Rattle.lus_order.specs.Reads.{clock_seen}
use Rattle.lus_order.specs.Streams.{AreTabled, Widened, names_of, stream_clock, with_all, with_sides}
use Rattle.number_graphs.proofs.Searches.{or_right}

pub not_widened : (s : Clocks) → Widened s s
not_widened s = record { others = []; names = sym (append-nil s.names); clocks = sym (append-nil (map clock_seen s.clocks.items)) }

pub both_widened : (r s t : Clocks) → Widened r s → Widened s t → Widened r t
both_widened r s t a b = record {
  others = a.others ++ b.others;
  names = b.names ∙ ap (λ xs. xs ++ b.others) a.names ∙ append_assoc r.names a.others b.others;
  clocks = b.clocks ∙ ap (λ xs. xs ++ map (λ (x : Name). []) b.others) a.clocks
      ∙ append_assoc (map clock_seen r.clocks.items) (map (λ (x : Name). []) a.others) (map (λ (x : Name). []) b.others)
      ∙ ap (λ xs. map clock_seen r.clocks.items ++ xs) (sym (map-append (λ (x : Name). []) a.others b.others));
}

not_so : (b c : Bool) → b ≡ not c → b ≡ true → c ≡ false
not_so b false e t = refl
not_so b true e t = absurd (true≢false (sym t ∙ e))

so_there : (b c : Bool) → b ≡ not c → b ≡ false → c ≡ true
so_there b true e t = refl
so_there b false e t = absurd (false≢true (sym t ∙ e))

-- a new name, and one that is there
pub one_wider : (r s : Clocks) (x : Name) (b : Bool) → b ≡ not (named_in x r.names) → b ≡ true → s.names ≡ add r.names x
    → s.clocks.items ≡ r.clocks.items ++ None ∷ [] → Widened r s
one_wider r s x b e t n c = record {
  others = x ∷ [];
  names = n ∙ ap (λ z. cond z r.names (r.names ++ x ∷ [])) (not_so b (named_in x r.names) e t);
  clocks = ap (map clock_seen) c ∙ map-append clock_seen r.clocks.items (None ∷ []);
}

pub none_wider : (r s : Clocks) (x : Name) (b : Bool) → b ≡ not (named_in x r.names) → b ≡ false → s.names ≡ add r.names x
    → s.clocks.items ≡ r.clocks.items → Widened r s
none_wider r s x b e t n c = record {
  others = [];
  names = n ∙ ap (λ z. cond z r.names (r.names ++ x ∷ [])) (so_there b (named_in x r.names) e t) ∙ sym (append-nil r.names);
  clocks = ap (map clock_seen) c ∙ sym (append-nil (map clock_seen r.clocks.items));
}

pub table_widened : (vs : List Variable) (r s : Clocks) → r.names ≡ names_of vs → map clock_seen r.clocks.items ≡ map stream_clock vs → Widened r s
    → AreTabled vs s
table_widened vs r s n c w = record {
  others = w.others;
  names = w.names ∙ ap (λ xs. xs ++ w.others) n;
  clocks = w.clocks ∙ ap (λ xs. xs ++ map (λ (x : Name). []) w.others) c;
}

-- ---- what is added is there

kept_added : (x y : Name) (ks : List Name) → named_in x ks ≡ true → named_in x (add ks y) ≡ true
kept_added x y ks e = go (named_in y ks)
  where
    or_kept : (a b : Bool) → a ≡ true → (a || b) ≡ true
    or_kept true b e = refl
    or_kept false b e = absurd (false≢true e)

    go : (b : Bool) → named_in x (cond b ks (ks ++ y ∷ [])) ≡ true
    go true = e
    go false = in_joined x ks (y ∷ []) ∙ or_kept (named_in x ks) (named_in x (y ∷ [])) e

self_added : (x : Name) (ks : List Name) → named_in x (add ks x) ≡ true
self_added x ks = go (cases_Bool (named_in x ks))
  where
    or_first : (a : Bool) → a ≡ true → (a || false) ≡ true
    or_first true e = refl
    or_first false e = absurd (false≢true e)

    go : (named_in x ks ≡ true) ⊎ (named_in x ks ≡ false) → named_in x (add ks x) ≡ true
    go (inl t) = rw t t
    go (inr f) = rw f (in_joined x ks (x ∷ []) ∙ or_right (named_in x ks) (named_in x (x ∷ [])) (or_first (bytes_eq x x) (itself x)))

kept_all : (x : Name) (ks xs : List Name) → named_in x ks ≡ true → named_in x (with_all ks xs) ≡ true
kept_all x ks [] e = e
kept_all x ks (y ∷ ys) e = kept_all x (add ks y) ys (kept_added x y ks e)

all_there : (x : Name) (ks xs : List Name) → named_in x xs ≡ true → named_in x (with_all ks xs) ≡ true
all_there x ks [] e = absurd (false≢true e)
all_there x ks (y ∷ ys) e = go (bytes_eq x y) refl e (all_there x (add ks y) ys)
  where
    go : (b : Bool) → bytes_eq x y ≡ b → (b || named_in x ys) ≡ true → (named_in x ys ≡ true → named_in x (with_all (add ks y) ys) ≡ true)
        → named_in x (with_all (add ks y) ys) ≡ true
    go true t h f = kept_all x (add ks y) ys (subst (λ z. named_in x (add ks z) ≡ true) (same_bytes x y t) (self_added x ks))
    go false t h f = f h

kept_sides : (x : Name) (ks : List Name) (es : List Equation) → named_in x ks ≡ true → named_in x (with_sides ks es) ≡ true
kept_sides x ks [] e = e
kept_sides x ks (q ∷ es) e = kept_sides x (with_all ks q.names) es (kept_all x ks q.names e)

pub sides_there : (ks : List Name) (es : List Equation) (k : ℕ) (x : Name) → named_in x (left_at es k) ≡ true → named_in x (with_sides ks es) ≡ true
sides_there ks [] k x e = absurd (false≢true e)
sides_there ks (q ∷ es) zero x e = kept_sides x (with_all ks q.names) es (all_there x ks q.names e)
sides_there ks (q ∷ es) (suc k) x e = sides_there (with_all ks q.names) es k x e

all_distinct : (ks xs : List Name) → AreDistinct ks → AreDistinct (with_all ks xs)
all_distinct ks [] d = d
all_distinct ks (x ∷ xs) d = all_distinct (add ks x) xs (distinct_added ks x d)

pub sides_distinct : (ks : List Name) (es : List Equation) → AreDistinct ks → AreDistinct (with_sides ks es)
sides_distinct ks [] d = d
sides_distinct ks (e ∷ es) d = sides_distinct (with_all ks e.names) es (all_distinct ks e.names d)
