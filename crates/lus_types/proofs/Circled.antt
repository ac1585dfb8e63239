-- The faults of all declarations, those of circles behind the others.
use Rattle.std.proofs.Common.{◌≡◌, ◌==◌, ℕ, suc, ◌+◌, ◌<◌, ◌≤◌, Bool, List, [], ◌∷◌, ◌++◌, map, flat_map, drop, get_or, length, refl, ap, ◌∙◌, sym, subst, arith, Option, Some, None}
use Rattle.std.specs.Prelude.{slice_get}
use Rattle.std.proofs.lemmas.List.{drop_all, length-map}
use Rattle.std.proofs.lemmas.Option.{slice_get-get_or, get_or_from_slice_get}
use Rattle.lus_tree.specs.declared.declaration.Decl.{Decl}
use Rattle.lus_tree.specs.Lookup.{nodes_of}
use Rattle.lus_tree.specs.Tree.{Component, Declaration, declared_constant, declared_node, declared_contract, Program}
use Rattle.lus_tree.specs.View.{decl_view}
use Rattle.lus_tree.specs.Reason.{Refused, name_twice, no_node}
use Rattle.lus_meaning.specs.ClockFaults.{components}
use Rattle.lus_meaning.specs.ExpressionFaults.{definition_faults}
use Rattle.lus_meaning.specs.Faults.{if_so, words_twice}
use Rattle.lus_meaning.specs.NameFaults.{assumption_faults, body_faults, component_faults, constant_words, contract_faults, declaration_faults, declaration_word, home, labels_twice, mode_words, outer_scope, outer_twice, own_words, recursion_faults, start_of_text, state_faults, typing_faults}
use Rattle.lus_meaning.specs.Scene.{contract_statements, no_component}
use Rattle.lus_meaning.specs.Scope.{body_scope}
use Rattle.lus_types.specs.declared.recursion.Graph.{Graph}
use Rattle.lus_types.specs.Called.{names_behind, row_of}
use Rattle.lus_types.specs.Circles.{IsGraph}
use Rattle.lus_types.specs.Declarations.{after, alone_faults, alone_from, alone_of}
use Rattle.lus_scopes.specs.Least.{IsLeast, noted_all}
use Rattle.lus_types.specs.Marks.{row_view}
use Rattle.lus_scopes.specs.Notes.{Notes}
use Rattle.lus_scopes.proofs.Leasts.{least_of_all}
use Rattle.lus_scopes.proofs.Loops.{OnTheWay, dropped, way_next, way_end}
use Rattle.lus_scopes.proofs.Noting.{all_noted, alike_noted, both_noted, nothing_noted}
use Rattle.lus_scopes.proofs.Walks.{failing, failing_append}

-- ---- circles

pub as_many : (p : Program) (g : Graph) → IsGraph p g → length g.rows.items ≡ length (components p)
as_many p g is = sym (length-map g.rows.items row_view) ∙ ap length is.rows ∙ length-map (components p) (row_of p (names_behind [] p))

pub circle_next : (p : Program) (g : Graph) (i : ℕ) (s o q : Option Refused) → IsGraph p g → i < length g.rows.items
    → OnTheWay (recursion_faults p) (components p) i s o
    → ((r : Program) (n : Component) → IsGraph r g → slice_get (components r) i ≡ Some n → Notes o q (recursion_faults r n))
    → OnTheWay (recursion_faults p) (components p) (i + 1) s q
circle_next p g i s o q is l w f =
    let h : i < length (components p) = subst (λ k. i < k) (as_many p g is) l in
    let e : slice_get (components p) i ≡ Some (get_or (components p) i no_component) = slice_get-get_or (components p) i no_component h in
    way_next (recursion_faults p) (components p) i (get_or (components p) i no_component) s o q h
    (sym (get_or_from_slice_get (components p) i (get_or (components p) i no_component) (get_or (components p) i no_component) e)) w
    (f p (get_or (components p) i no_component) is e)

pub circles_end : (p : Program) (g : Graph) (i : ℕ) (s o : Option Refused) → IsGraph p g → length g.rows.items ≤ i
    → OnTheWay (recursion_faults p) (components p) i s o → Notes s o (flat_map (recursion_faults p) (components p))
circles_end p g i s o is l w = way_end (recursion_faults p) (components p) i s o (subst (λ k. k ≤ i) (as_many p g is) l) w

-- ---- the others, declaration by declaration

abbrev pub OnDeclarations : Program → List Decl → ℕ → ℕ → Option Refused → Option Refused → Type 0
OnDeclarations p ds i k s o = (q : Option Refused) → Notes o q (alone_from p k (map decl_view (drop i ds))) → Notes s q (alone_from p 0 (map decl_view ds))

pub declarations_next : (p : Program) (ds : List Decl) (i : ℕ) (d : Decl) (j k : ℕ) (s o q : Option Refused) → i < length ds → d ≡ get_or ds i d
    → OnDeclarations p ds i j s o → k ≡ after j (decl_view d) → Notes o q (alone_of p j (decl_view d)) → OnDeclarations p ds (i + 1) k s q
declarations_next p ds i d j k s o q l g w e n r m =
    w r (subst (λ zs. Notes o r (alone_from p j (map decl_view zs))) (sym (dropped ds i d l g))
    (both_noted o q r (alone_of p j (decl_view d)) (alone_from p (after j (decl_view d)) (map decl_view (drop (i + 1) ds))) n
    (subst (λ z. Notes q r (alone_from p z (map decl_view (drop (i + 1) ds)))) e m)))

pub declarations_end : (p : Program) (ds : List Decl) (i k : ℕ) (s o : Option Refused) → length ds ≤ i
    → OnDeclarations p ds i k s o → Notes s o (alone_from p 0 (map decl_view ds))
declarations_end p ds i k s o l w = w o (subst (λ zs. Notes o o (alone_from p k (map decl_view zs))) (sym (drop_all i ds l)) (nothing_noted o))

pub after_most : (d : Declaration) (j i : ℕ) → j ≤ i → after j d ≤ i + 1
after_most (declared_constant c) j i l = omega arith
after_most (declared_node n) j i l = omega arith
after_most (declared_contract n) j i l = omega arith

-- ---- in which order they are

module _ (p : Refused → Bool) where
  abbrev count : List Refused → ℕ
  count fs = failing p fs

  four : (a b c d : List Refused) → count (a ++ (b ++ (c ++ d))) ≡ count a + (count b + (count c + count d))
  four a b c d = omega (arith, failing_append p a (b ++ (c ++ d)), failing_append p b (c ++ d), failing_append p c d)

  nine : (w o m l c b s r a : List Refused) → count (w ++ (o ++ (m ++ (l ++ (c ++ (b ++ (s ++ (r ++ a))))))))
      ≡ count ((w ++ o) ++ ((m ++ l) ++ (s ++ (c ++ (b ++ a))))) + count r
  nine w o m l c b s r a = omega (
    arith,
    four w o m (l ++ (c ++ (b ++ (s ++ (r ++ a))))),
    four l c b (s ++ (r ++ a)),
    failing_append p s (r ++ a),
    failing_append p r a,
    failing_append p (w ++ o) ((m ++ l) ++ (s ++ (c ++ (b ++ a)))),
    failing_append p w o,
    failing_append p (m ++ l) (s ++ (c ++ (b ++ a))),
    failing_append p m l,
    four s c b a,
  )

  parted : (x y r f g h : List Refused) → count x ≡ count y + count r → count f ≡ count g + count h
      → count (x ++ f) ≡ count (y ++ g) + count (r ++ h)
  parted x y r f g h d e = omega (arith, failing_append p x f, failing_append p y g, failing_append p r h, d, e)

  fixed : (x f g h : List Refused) → count f ≡ count g + count h → count (x ++ f) ≡ count (x ++ g) + count h
  fixed x f g h e = omega (arith, failing_append p x f, failing_append p x g, e)

  component_parted : (r : Program) (k : ℕ) (n : Component) (f g h : List Refused) → count f ≡ count g + count h
      → count (component_faults (home r k n) (constant_words r) ++ f)
      ≡ count (alone_faults (home r k n) (constant_words r) ++ g) + count (recursion_faults r n ++ h)
  component_parted r k n f g h e =
      parted (component_faults (home r k n) (constant_words r)) (alone_faults (home r k n) (constant_words r)) (recursion_faults r n) f g h
      (nine (words_twice name_twice (own_words n)) (outer_twice (constant_words r) (own_words n))
      (words_twice name_twice (mode_words (contract_statements n))) (labels_twice n)
      (contract_faults (home r k n) [] (contract_statements n)) (body_faults (home r k n)) (state_faults r n) (recursion_faults r n)
      (assumption_faults (body_scope (home r k n)))) e

  all_parted : (r : Program) (k : ℕ) (ds : List Declaration) → count (declaration_faults r k ds)
      ≡ count (alone_from r k ds) + count (flat_map (recursion_faults r) (components ds))
  all_parted r k [] = refl
  all_parted r k (declared_constant c ∷ ds) =
      fixed (definition_faults (outer_scope r k) c.sort c.value) (declaration_faults r (suc k) ds) (alone_from r (suc k) ds)
      (flat_map (recursion_faults r) (components ds)) (all_parted r (suc k) ds)
  all_parted r k (declared_node n ∷ ds) =
      component_parted r k n (declaration_faults r k ds) (alone_from r k ds) (flat_map (recursion_faults r) (components ds)) (all_parted r k ds)
  all_parted r k (declared_contract n ∷ ds) =
      component_parted r k n (declaration_faults r k ds) (alone_from r k ds) (flat_map (recursion_faults r) (components ds)) (all_parted r k ds)

  program_parted : (a b f g h : List Refused) → count f ≡ count g + count h → count (a ++ (b ++ (g ++ h))) ≡ count (a ++ (b ++ f))
  program_parted a b f g h e = omega (arith, four a b g h, failing_append p a (b ++ f), failing_append p b f, e)

-- all that were noted are the faults of the phase
pub program_noted : (p : Program) (a b c d : Option Refused) → a ≡ noted_all None (if_so (length (nodes_of p) == 0) no_node start_of_text)
    → Notes a b (words_twice name_twice (map declaration_word p)) → Notes b c (alone_from p 0 p)
    → Notes c d (flat_map (recursion_faults p) (components p)) → IsLeast d (typing_faults p)
program_noted p a b c d i j k l =
    let none : List Refused = if_so (length (nodes_of p) == 0) no_node start_of_text in
    let names : List Refused = words_twice name_twice (map declaration_word p) in
    let circles : List Refused = flat_map (recursion_faults p) (components p) in
    alike_noted None d (none ++ (names ++ (alone_from p 0 p ++ circles))) (typing_faults p)
    (λ t. let e : failing t (none ++ (names ++ (alone_from p 0 p ++ circles))) ≡ failing t (typing_faults p) =
    program_parted t none names (declaration_faults p 0 p) (alone_from p 0 p) circles (all_parted t p 0 p) in
    record { there = λ z. sym e ∙ z; back = λ z. e ∙ z })
    (both_noted None a d none (names ++ (alone_from p 0 p ++ circles)) (all_noted None a none i)
    (both_noted a b d names (alone_from p 0 p ++ circles) j (both_noted b c d (alone_from p 0 p) circles k l)))
    [] (least_of_all [])
