-- A proof put together from its verdicts, its lines and its counts, and how it ends.
use Rattle.std.proofs.Common.{◌≡◌, ◌≤◌, ◌<◌, ℕ, zero, suc, List, [], ◌∷◌, ◌++◌, length, map, Option, Some, None, ap, sym, ◌∙◌, arith}
use Rattle.std.specs.Prelude.{Contains, slice_get}
use Rattle.kind_io.specs.Told.{MayHold}
use Rattle.lus_tree.specs.Lookup.{node_at, nodes_of}
use Rattle.lus_tree.specs.Tree.{Program, Component, declared_constant, declared_node, declared_contract}
use Rattle.lus_grammar.specs.Source.{IsSource}
use Rattle.lus_meaning.specs.Program.{instance_of}
use Rattle.lus_meaning.specs.Contract.{Property}
use Rattle.lus_meaning.specs.Property.{properties}
use Rattle.lus_meaning.specs.Label.{label_of}
use Rattle.lus_checked.specs.Main.{main_node}
use Rattle.lus_properties.specs.Marks.{Mark, mark_of}
use Rattle.lus_properties.specs.Texts.{mark_text}
use Rattle.source_laws.specs.Laws.{IdentifiedSources}
use Rattle.kind_main.specs.declared.options.Options.{Options}
use Rattle.kind_main.specs.Lines.{Line}
use Rattle.kind_main.specs.Verdicts.{Verdict, AreOfOneBook, Tally, tally_of, tally_code, summary_line, verdict_report, IsAnalysed}
use Rattle.kind_main.specs.Proof.{IsProofOf}
use Rattle.kind_main.specs.Complete.{AreComplete}
use Rattle.kind_main.specs.Ending.{Ending, usage, unread, refused, done}
use Rattle.kind_main.specs.Fetched.{Tells, limit, IsUnfetched}
use Rattle.kind_main.specs.Source as S
use Rattle.kind_main.specs.Source.{EndsAtSource, HoldsSource, FollowsAll}
use Rattle.kind_main.specs.Proved.{EndsProof}
use Rattle.kind_main.proofs.Lists.{map_map}

-- each property's mark has its label
pub labels_so : (ms : List Mark) (qs : List Property) → ms ≡ map mark_of qs → map mark_text ms ≡ map label_of qs
labels_so ms qs e = ap (map mark_text) e ∙ map_map mark_of mark_text qs

pub proof_made : (o : Options) (p : Program) (d : Component) (vs : List Verdict) → AreOfOneBook o p d vs
    → AreComplete o (instance_of p d) 0 (properties (instance_of p d)) vs → {X : Type 0} (mark : X → Mark) (xs : List X) → map mark xs ≡ map mark_of (properties (instance_of p d))
    → (report lines : List Line) → report ≡ verdict_report (instance_of p d) (map (λ x. mark_text (mark x)) xs) vs
    → (t : Tally) → t ≡ tally_of vs → (summary : Line) → summary ≡ summary_line t → lines ≡ report ++ summary ∷ [] → (code : ℕ)
    → code ≡ tally_code t → IsProofOf o p d lines code
proof_made o p d vs right complete mark xs marks report lines shape t counts summary text printed code status =
    let labels : map (λ x. mark_text (mark x)) xs ≡ map label_of (properties (instance_of p d)) =
    sym (map_map mark mark_text xs) ∙ labels_so (map mark xs) (properties (instance_of p d)) marks in
    record {
      verdicts = vs;
      right = right;
      complete = complete;
      printed = printed ∙ (ap (λ l. l ++ summary ∷ []) (shape ∙ ap (λ l. verdict_report (instance_of p d) l vs) labels)
          ∙ ap (λ (l : Line). verdict_report (instance_of p d) (map label_of (properties (instance_of p d))) vs ++ l ∷ [])
          (text ∙ ap summary_line counts));
      status = status ∙ ap tally_code counts;
    }

-- the node of that number is declared
pub node_declared : (p : Program) (k : ℕ) (d : Component) → node_at k p ≡ Some d → Contains p (declared_node d)
node_declared [] k d e = absurd cc
node_declared (declared_constant c ∷ ds) k d e = let r = node_declared ds k d e in let s = r.1 in (suc r.0, omega (arith, s), r.2)
node_declared (declared_contract c ∷ ds) k d e = let r = node_declared ds k d e in let s = r.1 in (suc r.0, omega (arith, s), r.2)
node_declared (declared_node n ∷ ds) zero d e = let f : n ≡ d = cc in (zero, omega arith, ap declared_node f)
node_declared (declared_node n ∷ ds) (suc k) d e = let r = node_declared ds k d e in let s = r.1 in (suc r.0, omega (arith, s), r.2)

-- the main node of a source that follows all rules
pub analysed_main : IdentifiedSources → (bytes : List ℕ) (p : Program) → IsSource bytes p → FollowsAll p → (k : ℕ) (d : Component)
    → node_at k p ≡ Some d → IsAnalysed p d
analysed_main law bytes p source right k d e =
    record { follows = right; declared = node_declared p k d e; identified = law bytes p source }

-- there is a node of that number
pub some_node : (p : Program) (k : ℕ) (o : Option Component) → o ≡ node_at k p → k < length (nodes_of p) → o ≡ None → ⊥
some_node p k o e l n = go (nodes_of p) k l (sym e ∙ n)
  where
    go : (ns : List Component) (k : ℕ) → k < length ns → slice_get ns k ≡ None → ⊥
    go [] k l e = omega (arith, l)
    go (n ∷ ns) zero l e = absurd cc
    go (n ∷ ns) (suc k) l e = go ns k (omega (arith, l)) e

module _ (o : Options) (told : Tells) (before now : ℕ) (file : List ℕ) where
  pub proof_without_source : (e : Ending) → IsUnfetched (told file) before now file e → EndsProof o told before now file e
  proof_without_source usage h = absurd h
  proof_without_source (unread name) h = h
  proof_without_source (refused line) h = S.too_long h.0 h.1
  proof_without_source (done lines code) h = absurd h

  pub proof_of_bad_source : (bytes : List ℕ) → MayHold (told file) bytes → length bytes ≤ limit → (e : Ending) → EndsAtSource bytes e
      → EndsProof o told before now file e
  proof_of_bad_source bytes m le usage h = absurd h
  proof_of_bad_source bytes m le (unread name) h = absurd h
  proof_of_bad_source bytes m le (refused line) h = S.refused_bytes bytes m le h
  proof_of_bad_source bytes m le (done lines code) h = absurd h

  pub proof_done : (p : Program) → HoldsSource (told file) p → (k : ℕ) → main_node p None ≡ Some k → (d : Component) → node_at k p ≡ Some d
      → (lines : List Line) (code : ℕ) → IsProofOf o p d lines code → EndsProof o told before now file (done lines code)
  proof_done p source k main d stands lines code proof = record {
    program = p;
    source = source;
    proof = record { number = k; is_main = main; node = d; stands = stands; proof = proof };
  }
