-- What is written of a trace that fits is read back.
use Rattle.std.proofs.Common.{◌≡◌, ℕ, suc, ◌≤◌, ◌<◌, Bool, true, false, cond, not, ◌&&◌, ◌||◌, List, [], ◌∷◌, length, Option, Some, None, refl, sym, ap, ◌∙◌, subst, arith}
use Rattle.std.specs.Prelude.{◌==◌, Contains, pos, negsuc}
use Rattle.std.specs.List.{AllByRecursion}
use Rattle.std.proofs.lemmas.Bool.{false≢true}
use Rattle.lus_tree.specs.declared.place.Sort.{Sort}
use Rattle.lus_tree.specs.declared.place.Sort.TheVariants.{Bool as Flags, Int as Numbers}
use Rattle.lus_tree.specs.Tree.{Name, Component, declared_node, Program}
use Rattle.lus_lexer.specs.Names.{is_name}
use Rattle.lus_meaning.specs.ClockFaults.{components}
use Rattle.lus_meaning.specs.Fits.{Listable, listable, listable_at, same_place, is_of_sort, takes_value, IsTaken, AreTaken, FitsProgram}
use Rattle.lus_meaning.specs.Program.{instance_of}
use Rattle.lus_meaning.specs.Refusals.{IsChecked, IsWithinLimits}
use Rattle.lus_meaning.specs.Scene.{plain, Instance, component_of}
use Rattle.lus_meaning.specs.Slots.{slots, slots_in}
use Rattle.lus_meaning.specs.Trace.{Subject, of_name, of_first, BareLine, same_subject, same_numbers}
use Rattle.lus_meaning.specs.TraceView.{Listing, lines_of}
use Rattle.lus_meaning.specs.Value.{Value, absent, flag, whole}
use Rattle.lus_meaning.proofs.Exists.{length_mapped}
use Rattle.lus_meaning.proofs.Unique.{same_bytes}
use Rattle.rule_laws.specs.Laws.{Unfolding, NamedIsDeclared}
use Rattle.rule_laws.proofs.Unfolded.{component_within}
use Rattle.source_laws.specs.Laws.{AreIdentified}
use Rattle.sys_meaning.specs.System.{shape_of, system_of}
use Rattle.sys_meaning.proofs.Shows.{numbers_same, same_both, same_ways}
use Rattle.term_laws.specs.Laws.{SmallSystems}
use Rattle.trace_text.specs.Laws.{ReadBack}
use Rattle.trace_text.specs.Words.{FitsSubject, FitsValue}
use Rattle.trace_text.specs.Traces.{HasValues, FitsLine, FitsTrace}
use Rattle.trace_laws.specs.Laws.{EachReadBack}
use Rattle.trace_laws.proofs.Fine.{IsFine, all_fine}
use Rattle.trace_laws.proofs.Named.{identified, named_node, node_component}

-- ---- values

positive_fits : (o : Sort) (m : ℕ) (b : Bool) → (is_of_sort o (whole (pos m)) || (false && b)) ≡ true → m < 9223372036854775808
positive_fits Flags m b h = absurd cc
positive_fits Numbers m b h = grind (arith, h)

negative_fits : (o : Sort) (m : ℕ) (b : Bool) → (is_of_sort o (whole (negsuc m)) || (false && b)) ≡ true → suc m < 9223372036854775808
negative_fits Flags m b h = absurd cc
negative_fits Numbers m b h = grind (arith, h)

value_fits : (s : Listable) (v : Value) → takes_value s v ≡ true → FitsValue v
value_fits s absent h = tt
value_fits s (flag b) h = tt
value_fits s (whole (pos m)) h = positive_fits s.sort m (not s.needed) h
value_fits s (whole (negsuc m)) h = negative_fits s.sort m (not s.needed) h

values_fit : (s : Listable) (vs : List Value) → AllByRecursion (λ v. takes_value s v ≡ true) vs → AllByRecursion FitsValue vs
values_fit s [] h = tt
values_fit s (v ∷ vs) h = (value_fits s v h.0, values_fit s vs h.1)

some_values : (s : Listable) (vs : List Value) → 1 ≤ s.count → length vs ≡ s.count → AllByRecursion (λ v. takes_value s v ≡ true) vs → HasValues vs
some_values s [] l e h = absurd (omega (arith, l, e))
some_values s (v ∷ vs) l e h = values_fit s (v ∷ vs) h

-- ---- lines

same_subjects : (x y : Subject) → same_subject x y ≡ true → x ≡ y
same_subjects (of_name x) (of_name y) e = ap of_name (same_bytes x y e)
same_subjects (of_first k) (of_first j) e = ap of_first (numbers_same k j e)
same_subjects (of_name x) (of_first j) e = absurd (false≢true e)
same_subjects (of_first k) (of_name y) e = absurd (false≢true e)

-- what is found is fine, and is what is looked for
pub record IsFound (path : List ℕ) (x : Subject) (s : Listable) : Type 0 where
  pub fine : IsFine s
  pub way : s.path ≡ path
  pub what : s.subject ≡ x

found_fine : (ss : List Listable) → AllByRecursion IsFine ss → (path : List ℕ) (x : Subject) (s : Listable) → listable_at ss path x ≡ Some s → IsFound path x s
found_fine [] a path x s e = absurd cc
found_fine (y ∷ ss) a path x s e = go (same_place y.path y.subject path x) refl e (λ h. found_fine ss a.1 path x s h)
  where
    go : (b : Bool) → same_place y.path y.subject path x ≡ b → cond b (Some y) (listable_at ss path x) ≡ Some s
        → (listable_at ss path x ≡ Some s → IsFound path x s) → IsFound path x s
    go true q h r =
        let f : y ≡ s = cc in
        let o = same_both (same_numbers y.path path) (same_subject y.subject x) q in
        subst (IsFound path x) f record { fine = a.0; way = same_ways y.path path o.0; what = same_subjects y.subject x o.1 }
    go false q h r = r h

line_fits : (ss : List Listable) → AllByRecursion IsFine ss → (l : BareLine) (o : Option Listable) → listable_at ss l.path l.subject ≡ o
    → IsTaken o l.values → FitsLine l
line_fits ss a l None e h = absurd h
line_fits ss a l (Some s) e h =
    let f = found_fine ss a l.path l.subject s e in
    record {
      path = subst (AllByRecursion (λ k. k < 4294967296)) f.way f.fine.path;
      subject = subst FitsSubject f.what f.fine.subject;
      values = some_values s l.values f.fine.some h.count h.each;
    }

lines_fit : (ss : List Listable) → AllByRecursion IsFine ss → (ls : List BareLine) → AreTaken ss ls → AllByRecursion FitsLine ls
lines_fit ss a [] h = tt
lines_fit ss a (l ∷ ls) h = (line_fits ss a l (listable_at ss l.path l.subject) refl h.0, lines_fit ss a ls h.1)

-- ---- the trace

pub each_read_back : Unfolding → NamedIsDeclared → SmallSystems → ReadBack → EachReadBack
each_read_back unfolded declared small back p main c w ids t f =
    let d : Component = f.node in
    let i : Instance = instance_of p d in
    let found = named_node t.node p d f.named in
    let at : Contains (components p) d = node_component p d found.0 in
    let same : component_of i ≡ d = component_within (length p) p d in
    let few : length (system_of i).shapes ≤ 20000 = (small p main w d found.0).variables in
    let many : length (system_of i).shapes ≡ length (slots i) = length_mapped (λ s. shape_of s.sort) (slots i) in
    back t record {
      node = subst (λ (x : Name). is_name x ≡ true) (sym found.1) (identified p ids d at).node;
      length = let few = f.few in omega (arith, few);
      lines = lines_fit (listable t.length i)
          (all_fine p c ids declared t.length f.some i (unfolded p c d at) (subst (Contains (components p)) (sym same) at) (omega (arith, few, many)))
          (lines_of t) f.lines.taken;
    }
