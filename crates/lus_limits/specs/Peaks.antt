-- The greatest sizes of some terms, and lists of terms that are joined to one.
use Rattle.std.specs.Prelude.{ℕ, ◌+◌, max, Bool, true, false, ◌&&◌, cond, List, [], ◌∷◌}
use Rattle.lus_meaning.specs.Sizes.{Size, leaf}

-- of no term
abbrev pub no_size : Size
no_size = record { levels = 0; parts = 0 }

-- the greater levels and the greater parts of two
abbrev pub greater : Size → Size → Size
greater a b = record { levels = max a.levels b.levels; parts = max a.parts b.parts }

-- the greatest levels and the greatest parts of some terms
abbrev pub peak : List Size → Size
peak [] = no_size
peak (s ∷ ss) = greater s (peak ss)

-- ---- terms that are joined, the first ones first

-- how many levels and parts more a term has that joins two
pub record Joint : Type 0 where
  pub levels : ℕ
  pub parts : ℕ

abbrev pub by_and : Joint
by_and = record { levels = 1; parts = 1 }

abbrev pub by_or : Joint
by_or = record { levels = 3; parts = 4 }

abbrev pub joined : Joint → Size → Size → Size
joined j a b = record { levels = j.levels + max a.levels b.levels; parts = j.parts + (a.parts + b.parts) }

-- a list of terms: whether there is none, all of them joined to one, and how they lengthen a term before them: by so
-- many levels, and to these levels at least, and by these parts
pub record Chain : Type 0 where
  pub is_none : Bool
  pub whole : Size
  pub lift : ℕ
  pub behind : Size

-- a term with a list of terms behind it, joined
abbrev pub put : Size → Chain → Size
put a c = record { levels = max (a.levels + c.lift) c.behind.levels; parts = a.parts + c.behind.parts }

-- the joint of no terms is a leaf
abbrev pub no_chain : Chain
no_chain = record { is_none = true; whole = leaf; lift = 0; behind = no_size }

abbrev pub alone : Joint → Size → Chain
alone j a = record {
  is_none = false;
  whole = a;
  lift = j.levels;
  behind = record { levels = j.levels + a.levels; parts = j.parts + a.parts };
}

abbrev pub followed : Chain → Chain → Chain
followed c d = record {
  is_none = c.is_none && d.is_none;
  whole = cond c.is_none d.whole (put c.whole d);
  lift = c.lift + d.lift;
  behind = put c.behind d;
}

abbrev pub chain : Joint → List Size → Chain
chain j [] = no_chain
chain j (a ∷ as_) = followed (alone j a) (chain j as_)
