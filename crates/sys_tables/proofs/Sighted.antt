-- Sights that find the same are the same.
use Rattle.std.proofs.Common.{◌≡◌, ℕ, List, Option, ap, ◌∙◌}
use mathlib.Core.Path.{fun_ext}
use Rattle.lus_tree.specs.Tree.{Name}
use Rattle.lus_meaning.specs.Value.{Value}
use Rattle.sys_texts.specs.Sights.{Stream, Call, Sight}
use Rattle.sys_texts.specs.Views.{sight_view}
use Rattle.sys_tables.specs.declared.constants.Known.{Known}
use Rattle.sys_tables.specs.Known.{IsBare, values_seen}
use Rattle.sys_tables.specs.Tabled.{bare}

abbrev made : ℕ → ℕ → ℕ → (Name → Option Value) → (Name → Option Stream) → List ℕ → List ℕ → List Call → Sight
made b m n c s ms as_ cs = record {
  beat = b;
  missing = m;
  streams = n;
  constant = c;
  stream = s;
  memories = ms;
  starts = as_;
  calls = cs;
}

pub sights_same : (b m n k : ℕ) (c d : Name → Option Value) (s t : Name → Option Stream) (ms us as_ bs : List ℕ) (cs ds : List Call)
    → n ≡ k → ((x : Name) → c x ≡ d x) → ((x : Name) → s x ≡ t x) → ms ≡ us → as_ ≡ bs → cs ≡ ds
    → made b m n c s ms as_ cs ≡ made b m k d t us bs ds
sights_same b m n k c d s t ms us as_ bs cs ds e f g h i j =
    ap (λ z. made b m z c s ms as_ cs) e ∙ ap (λ z. made b m k z s ms as_ cs) (fun_ext f) ∙ ap (λ z. made b m k d z ms as_ cs) (fun_ext g)
    ∙ ap (λ z. made b m k d t z as_ cs) h ∙ ap (λ z. made b m k d t us z cs) i ∙ ap (made b m k d t us bs) j

-- what is read by constants alone is just that
pub bared : (k : Known) → IsBare k → sight_view k.sight ≡ bare (values_seen k)
bared k b =
    let s : Sight = sight_view k.sight in
    let t : Sight = bare (values_seen k) in
    ap (λ z. made z s.missing s.streams s.constant s.stream s.memories s.starts s.calls) b.beat
    ∙ ap (λ z. made 0 z s.streams s.constant s.stream s.memories s.starts s.calls) b.missing
    ∙ sights_same 0 0 s.streams t.streams s.constant t.constant s.stream t.stream s.memories t.memories s.starts t.starts s.calls t.calls
    b.bound b.constants b.streams b.memories b.starts b.calls
