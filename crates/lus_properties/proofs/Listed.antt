-- The properties of a declaration's instance have the marks that are listed.
use Rattle.std.proofs.Common.{◌≡◌, ℕ, zero, suc, pred, List, [], ◌∷◌, ◌++◌, map, flat_map, length, slice_index_or, slice_get, Option, Some, None, append_assoc, refl, sym, ap, ◌∙◌, arith}
use Rattle.std.proofs.lemmas.List.{map-append}
use Rattle.lus_tree.specs.declared.place.Pos.{Pos}
use Rattle.lus_tree.specs.declared.declaration.Decl.{Decl}
use Rattle.lus_tree.specs.View.{decl_view}
use Rattle.lus_meaning.proofs.Exists.{length_mapped}
use Rattle.lus_tree.specs.Tree.{Name, Statement, equation, assertion, property, main_mark, Component, Program}
use Rattle.lus_meaning.specs.Scene.{Manner, plain, while_true, as_import, Site, Instance, Instances, instance, no_instances, contract_statements}
use Rattle.lus_meaning.specs.Program.{all_sites, constants_in, instances_with, instance_within, instance_of}
use Rattle.lus_meaning.specs.Contract.{body, Property, ModeTerms, Terms, no_terms, terms, terms_each}
use Rattle.lus_meaning.specs.Property.{body_properties, one_mode, owed, owed_by_site, owed_by_calls, properties}
use Rattle.lus_limits.specs.declared.calls.Way.{Way}
use Rattle.lus_limits.specs.declared.calls.Way.TheVariants.{Plain, Condition, Import}
use Rattle.lus_limits.specs.Calls.{Called, called_of, way_of}
use Rattle.lus_properties.specs.declared.items.ItemKind.{ItemKind}
use Rattle.lus_properties.specs.declared.items.ItemKind.TheVariants.{Assumptions, Guarantees, Ensures, Modes}
use Rattle.lus_properties.specs.Marks.{Mark, mark_of, labelled_mark, behind, body_marks, callees_of, of_name, at_number, called, callee, marks_below, marks_within, one_mode_marks, owes, call_owes, promised_within, marks_to}
use Rattle.lus_properties.proofs.Contracts.{ensures_of, marks, HasMarks, terms_marked, none_marked}

-- ---- by depth

no_marks : (o : Option Name) → of_name (λ x. []) o ≡ []
no_marks None = refl
no_marks (Some x) = refl

with_none : (f : ItemKind → List Mark) → ((w : ItemKind) → f w ≡ []) → HasMarks no_terms f
with_none f h = record {
  assumed = sym (h Assumptions);
  promised = sym (h Guarantees);
  ensured = sym (h Ensures);
  moded = sym (ap length (h Modes));
}

-- of the instances of what is called, by number
at_site : (g : Name → Instance) (f : ItemKind → Name → List Mark) → ((x : Name) → HasMarks (terms (g x)) (λ w. f w x)) → (ss : List Site) (j : ℕ)
    → HasMarks (slice_index_or (terms_each (instances_with g ss)) j no_terms) (λ w. of_name (f w) (slice_get (callees_of (map called_of ss)) j))
at_site g f h [] j = none_marked
at_site g f h (s ∷ ss) zero = h s.callee
at_site g f h (s ∷ ss) (suc j) = at_site g f h ss j

-- the instances of what a declaration calls
abbrev inner : ℕ → Program → Component → Instances
inner zero p n = no_instances
inner (suc d) p n = instances_with (λ x. instance_within d p (callee p x)) (all_sites n)

whole : (d : ℕ) (p : Program) (n : Component) → instance_within d p n ≡ instance n (constants_in p n) (inner d p n)
whole zero p n = refl
whole (suc d) p n = refl

within : (d : ℕ) (p : Program) (n : Component) → HasMarks (terms (instance_within d p n)) (λ w. marks_within d w p n)
within zero p n =
    terms_marked (instance_within zero p n) (λ k. no_terms) (λ w. at_number (λ x. []) (called n))
    (λ k. with_none (λ w. at_number (λ x. []) (called n) k) (λ w. no_marks (slice_get (callees_of (called n)) (pred k)))) (contract_statements n)
within (suc d) p n =
    terms_marked (instance_within (suc d) p n) (λ k. slice_index_or (terms_each (inner (suc d) p n)) (pred k) no_terms)
    (λ w. at_number (marks_below (suc d) w p) (called n))
    (λ k. at_site (λ x. instance_within d p (callee p x)) (λ w. marks_below (suc d) w p) (λ x. within d p (callee p x)) (all_sites n) (pred k))
    (contract_statements n)

-- ---- properties

body_marked : (i : Instance) (ss : List Statement) → marks (body_properties i ss) ≡ body_marks ss
body_marked i [] = refl
body_marked i (property l ∷ ss) = ap (λ xs. labelled_mark body l ∷ xs) (body_marked i ss)
body_marked i (equation xs e ∷ ss) = body_marked i ss
body_marked i (assertion e ∷ ss) = body_marked i ss
body_marked i (main_mark q ∷ ss) = body_marked i ss

one_marked : (n : Component) (ms : List ModeTerms) (xs : List Mark) → length ms ≡ length xs → marks (one_mode n ms) ≡ one_mode_marks n.name.at xs
one_marked n [] [] e = refl
one_marked n [] (x ∷ xs) e = absurd (omega (arith, e))
one_marked n (m ∷ ms) [] e = absurd (omega (arith, e))
one_marked n (m ∷ ms) (x ∷ xs) e = refl

marks_owed : (i : Instance) (s : Site) (ps : List Property) → marks (map (owed i s) ps) ≡ map (behind s.number) (marks ps)
marks_owed i s [] = refl
marks_owed i s (p ∷ ps) = ap (λ ms. behind s.number (mark_of p) ∷ ms) (marks_owed i s ps)

site_owed : (i : Instance) (s : Site) (m : Manner) (r : Terms) (xs : List Mark) → marks r.assumes ≡ xs
    → marks (owed_by_site i s m r) ≡ owes (way_of m) s.number xs
site_owed i s (as_import os) r xs e = refl
site_owed i s plain r xs e = marks_owed i s r.assumes ∙ ap (map (behind s.number)) e
site_owed i s (while_true a) r xs e = marks_owed i s r.assumes ∙ ap (map (behind s.number)) e

none_owed : (p : Program) (cs : List Called) → flat_map (call_owes zero p) cs ≡ []
none_owed p [] = refl
none_owed p (c ∷ cs) = rw (each c.way c.number, none_owed p cs) refl
  where
    each : (w : Way) (k : ℕ) → owes w k [] ≡ []
    each Plain k = refl
    each Condition k = refl
    each Import k = refl

calls_owed : (i : Instance) (d : ℕ) (p : Program) (ss : List Site)
    → marks (owed_by_calls i (instances_with (λ x. instance_within d p (callee p x)) ss)) ≡ flat_map (call_owes (suc d) p) (map called_of ss)
calls_owed i d p [] = refl
calls_owed i d p (s ∷ ss) =
    let k : Instance = instance_within d p (callee p s.callee) in
    map-append mark_of (owed_by_site i s s.manner (terms k)) (owed_by_calls i (instances_with (λ x. instance_within d p (callee p x)) ss))
    ∙ rw (site_owed i s s.manner (terms k) (marks_below (suc d) Assumptions p s.callee) (within d p (callee p s.callee)).assumed, calls_owed i d p ss) refl

all_owed : (i : Instance) (d : ℕ) (p : Program) (n : Component) → marks (owed_by_calls i (inner d p n)) ≡ flat_map (call_owes d p) (called n)
all_owed i zero p n = sym (none_owed p (called n))
all_owed i (suc d) p n = calls_owed i d p (all_sites n)

five : (as_ bs cs ds es : List Property) → marks ((((as_ ++ bs) ++ cs) ++ ds) ++ es)
    ≡ (marks as_ ++ ((marks bs ++ marks cs) ++ marks ds)) ++ marks es
five as_ bs cs ds es =
    map-append mark_of (((as_ ++ bs) ++ cs) ++ ds) es
    ∙ ap (λ xs. xs ++ marks es) (map-append mark_of ((as_ ++ bs) ++ cs) ds
    ∙ ap (λ xs. xs ++ marks ds) (map-append mark_of (as_ ++ bs) cs ∙ ap (λ xs. xs ++ marks cs) (map-append mark_of as_ bs))
    ∙ (ap (λ xs. xs ++ marks ds) (append_assoc (marks as_) (marks bs) (marks cs)) ∙ append_assoc (marks as_) (marks bs ++ marks cs) (marks ds)))

listed_so : (d : ℕ) (p : Program) (n : Component) → HasMarks (terms (instance n (constants_in p n) (inner d p n))) (λ w. marks_within d w p n)
    → marks (properties (instance n (constants_in p n) (inner d p n))) ≡ marks_to d p n
listed_so d p n h =
    let i : Instance = instance n (constants_in p n) (inner d p n) in
    five (body_properties i n.body) (terms i).guarantees (ensures_of (terms i).modes) (one_mode n (terms i).modes) (owed_by_calls i (inner d p n))
    ∙ rw (body_marked i n.body, h.promised, h.ensured, one_marked n (terms i).modes (marks_within d Modes p n) h.moded, all_owed i d p n) refl

pub listed_within : (d : ℕ) (p : Program) (n : Component) → marks (properties (instance_within d p n)) ≡ marks_to d p n
listed_within zero p n = listed_so zero p n (within zero p n)
listed_within (suc d) p n = listed_so (suc d) p n (within (suc d) p n)

-- ---- as the code has them

pub promised_so : (old one two new guarantees ensured : List Mark) (at place : Pos) (modes moded : List Mark) → one ≡ old ++ guarantees
    → two ≡ one ++ ensured → modes ≡ moded → place ≡ at → new ≡ two ++ one_mode_marks place modes
    → new ≡ old ++ (guarantees ++ ensured ++ one_mode_marks at moded)
promised_so old one two new guarantees ensured at place modes moded a b c d e =
    e ∙ rw (c, d) refl ∙ ap (λ xs. xs ++ one_mode_marks at moded) (b ∙ ap (λ xs. xs ++ ensured) a ∙ append_assoc old guarantees ensured)
    ∙ append_assoc old (guarantees ++ ensured) (one_mode_marks at moded)

pub listed : (depth : ℕ) (ds : List Decl) (n : Component) (first second all : List Mark) → depth ≡ length ds → first ≡ body_marks n.body
    → second ≡ first ++ promised_within depth (map decl_view ds) n
    → all ≡ second ++ flat_map (call_owes depth (map decl_view ds)) (called n) → all ≡ map mark_of (properties (instance_of (map decl_view ds) n))
listed depth ds n first second all d e f g =
    let p : Program = map decl_view ds in
    g ∙ ap (λ xs. xs ++ flat_map (call_owes depth p) (called n)) (f ∙ ap (λ xs. xs ++ promised_within depth p n) e)
    ∙ ap (λ k. marks_to k p n) (d ∙ sym (length_mapped decl_view ds)) ∙ sym (listed_within (length p) p n)
