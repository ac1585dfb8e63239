-- Lists of names, of which each knows how many constants stand before it.
use Rattle.std.specs.Prelude.{◌≡◌, ℕ, suc, List, [], ◌∷◌, ⊤}
use Rattle.lus_scopes.specs.declared.scope.Meaning.{Meaning}
use Rattle.lus_scopes.specs.declared.scope.Meaning.TheVariants.{Stream, Constant}
use Rattle.lus_scopes.specs.declared.scope.Entry.{Entry}

-- how many constants stand before the next name
abbrev pub behind : Meaning → ℕ → ℕ
behind (Stream r p) j = j
behind (Constant d q v) j = suc j

abbrev pub behind_all : ℕ → List Entry → ℕ
behind_all j [] = j
behind_all j (e ∷ es) = behind_all (behind e.meaning j) es

abbrev pub AreOrdered : ℕ → List Entry → Type 0
AreOrdered j [] = ⊤
AreOrdered j (e ∷ es) = (e.order ≡ j) × AreOrdered (behind e.meaning j) es
