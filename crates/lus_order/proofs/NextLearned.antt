-- Turn by turn a declaration is found whose callees are known, and at the end all are known.
use Rattle.std.proofs.Common.{◌≡◌, ◌<◌, true, false, List, [], ◌∷◌, ◌++◌, map, length, Option, Some, None, unwrap_or, refl, sym, ap, ◌∙◌, subst, option_map}
use Rattle.std.specs.Prelude.{Contains, MatchOption}
use Rattle.std.specs.List.{find}
use Rattle.std.proofs.lemmas.Bool.{false≢true}
use Rattle.std.proofs.lemmas.Option.{none-some}
use Rattle.lus_tree.specs.Tree.{Name, Component, Program}
use Rattle.lus_meaning.specs.ClockFaults.{components}
use Rattle.lus_meaning.specs.Depends.{named_in}
use Rattle.lus_meaning.specs.Program.{all_sites}
use Rattle.lus_meaning.specs.Refusals.{IsTyped}
use Rattle.lus_meaning.specs.Scene.{Site, variables}
use Rattle.lus_meaning.specs.WellMade.{AreDistinct}
use Rattle.lus_meaning.proofs.NamesOnce.{instance_named}
use Rattle.lus_order.specs.declared.declarations.Declaration.{Declaration}
use Rattle.lus_order.specs.declared.library.Library.{Library}
use Rattle.lus_streams.specs.declared.owner.Owner.{Owner}
use Rattle.lus_order.specs.Declarations.{IsNextOf, declared_view, with_calls, is_next}
use Rattle.lus_order.specs.Learned.{names_known, IsConsistent, IsLibraryOf}
use Rattle.lus_streams.specs.Owner.{owner_view}
use Rattle.lus_order.specs.Streams.{names_of}
use Rattle.lus_order.proofs.CalleesFirst.{Entry, mapped_from, found_stands, next_is, all_named, left, fewer}
use Rattle.lus_order.proofs.Settled.{AreSettled, consistent_flags}

pub listed_all : (os : List Owner) (ns : List Component) → map owner_view os ≡ ns → map (λ o. with_calls (owner_view o)) os ≡ map with_calls ns
listed_all os ns e = twice os ∙ ap (map with_calls) e
  where
    twice : (xs : List Owner) → map (λ o. with_calls (owner_view o)) xs ≡ map with_calls (map owner_view xs)
    twice [] = refl
    twice (x ∷ xs) = ap (λ z. with_calls (owner_view x) ∷ z) (twice xs)

abbrev pub first_of : Option Entry → Option Component
first_of o = option_map (λ d. d.0) o

some_first : (o : Option Entry) (n : Component) → first_of o ≡ Some n → (d : Entry) × (o ≡ Some d) × (d.0 ≡ n)
some_first None n e = absurd (none-some n e)
some_first (Some d) n e = (d, refl, ap (λ z. unwrap_or z d.0) e)

none_first : (o : Option Entry) → first_of o ≡ None → o ≡ None
none_first None e = refl
none_first (Some d) e = absurd (none-some d.0 (sym e))

-- what is found
pub record IsFound (p : Program) (names : List Name) (all : List Entry) (n : Component) : Type 0 where
  pub declared : Contains (components p) n
  pub new : named_in n.name.text names ≡ false
  pub calls : (s : Site) → Contains (all_sites n) s → named_in s.callee names ≡ true
  pub entry : Entry
  pub stands : Contains all entry
  pub is : entry.0 ≡ n

pub found_next : (p : Program) (names : List Name) (all : List Entry) → all ≡ map with_calls (components p) → (n : Component)
    → IsNextOf names all n → IsFound p names all n
found_next p names all e n q = from (mapped_from with_calls (components p) q.entry (subst (λ z. Contains z q.entry) e q.stands))
  where
    from : (m : Component) × Contains (components p) m × (with_calls m ≡ q.entry) → IsFound p names all n
    from (m, j, w) =
        let same : m ≡ n = ap (λ (z : Entry). z.0) w ∙ q.is in
        let r : (named_in m.name.text names ≡ false) × ((c : Site) → Contains (all_sites m) c → named_in c.callee names ≡ true) =
        next_is names m (subst (λ z. is_next names z ≡ true) (sym w) q.next) in
        record {
          declared = subst (Contains (components p)) same j;
          new = subst (λ (z : Component). named_in z.name.text names ≡ false) same r.0;
          calls = subst (λ z. (c : Site) → Contains (all_sites z) c → named_in c.callee names ≡ true) same r.1;
          entry = q.entry;
          stands = q.stands;
          is = q.is;
        }

pub one_next : (names : List Name) (all : List Entry) (r : Option Owner) → option_map owner_view r ≡ first_of (find (is_next names) all)
    → MatchOption r (find (is_next names) all ≡ None) (λ o. IsNextOf names all (owner_view o))
one_next names all None h = none_first (find (is_next names) all) (sym h)
one_next names all (Some o) h = go (some_first (find (is_next names) all) (owner_view o) (sym h))
  where
    go : (d : Entry) × (find (is_next names) all ≡ Some d) × (d.0 ≡ owner_view o) → IsNextOf names all (owner_view o)
    go (d, f, s) =
        let q : Contains all d × (is_next names d ≡ true) = found_stands (is_next names) all d f in
        record { entry = d; stands = q.0; next = q.1; is = s }

pub owner_found : (p : Program) (names : List Name) (as_ bs : List Declaration) (r : Option Owner) (o : Owner) → as_ ≡ bs
    → map declared_view bs ≡ map with_calls (components p)
    → MatchOption r (find (is_next names) (map declared_view as_) ≡ None) (λ o. IsNextOf names (map declared_view as_) (owner_view o))
    → r ≡ Some o → IsFound p names (map declared_view bs) (owner_view o)
owner_found p names as_ bs r o s e h i = found_next p names (map declared_view bs) e (owner_view o)
    (subst (λ z. IsNextOf names (map declared_view z) (owner_view o)) s
    (subst (λ z. MatchOption z (find (is_next names) (map declared_view as_) ≡ None) (λ o. IsNextOf names (map declared_view as_) (owner_view o))) i h))

pub none_found : (names : List Name) (as_ bs : List Declaration) (r : Option Owner) → as_ ≡ bs
    → MatchOption r (find (is_next names) (map declared_view as_) ≡ None) (λ o. IsNextOf names (map declared_view as_) (owner_view o))
    → r ≡ None → find (is_next names) (map declared_view bs) ≡ None
none_found names as_ bs r s h i = subst (λ z. find (is_next names) (map declared_view z) ≡ None) s
    (subst (λ z. MatchOption z (find (is_next names) (map declared_view as_) ≡ None) (λ o. IsNextOf names (map declared_view as_) (owner_view o))) i h)

pub streams_once : (p : Program) → IsTyped p → (n : Component) → Contains (components p) n → AreDistinct (names_of (variables n))
streams_once p typed n d = (instance_named p typed n d 0).0

pub none_settled : (p : Program) (l : Library) → names_known l ≡ [] → IsConsistent l → AreSettled p l
none_settled p l e c = record { consistent = c; each = λ n d h. absurd (false≢true (subst (λ z. named_in n.name.text z ≡ true) e h)) }

pub fewer_left : (p : Program) (names : List Name) (all : List Entry) (n : Component) (new : List Name) → IsFound p names all n
    → new ≡ names ++ n.name.text ∷ [] → length (left new all) < length (left names all)
fewer_left p names all n new f e = subst (λ z. length (left z all) < length (left names all)) (sym e)
    (fewer names n.name.text all f.entry f.stands (ap (λ (z : Component). z.name.text) f.is) f.new)

pub library_whole : (p : Program) → IsTyped p → (l : Library) → AreSettled p l → (all : List Entry) → all ≡ map with_calls (components p)
    → find (is_next (names_known l)) all ≡ None → IsLibraryOf p l
library_whole p typed l so all e h = record {
  flags = consistent_flags l so.consistent;
  each = λ n d. (so.each n d (all_named p typed (names_known l)
      (subst (λ z. find (is_next (names_known l)) z ≡ None) e h) n d)).summary;
}
