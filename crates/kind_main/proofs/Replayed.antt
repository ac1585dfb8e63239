-- The replay of a trace that fits, as it is printed.
use Rattle.std.proofs.Common.{◌≡◌, ◌<◌, ℕ, zero, suc, List, [], ◌∷◌, ◌++◌, Option, Some, None, length, map, refl, ap, ◌∙◌, sym, subst, arith}
use Rattle.std.specs.Prelude.{Contains, slice_get}
use Rattle.lus_tree.specs.Tree.{Program, Component, declared_node}
use Rattle.lus_tree.specs.Lookup.{nodes_of}
use Rattle.lus_meaning.specs.Label.{label_of}
use Rattle.lus_meaning.specs.Program.{instance_of}
use Rattle.lus_meaning.specs.Property.{properties}
use Rattle.lus_meaning.specs.TraceView.{Listing}
use Rattle.program_replay.specs.Answer.{Answer, ShowsTrace}
use Rattle.program_replay.specs.Faults.{MeetsPastOf}
use Rattle.kind_num.specs.declared.Past.{Past}
use Rattle.lus_tree.specs.declared.place.Pos.{Pos}
use Rattle.kind_main.specs.Lines.{Line, lawful_line, past_line}
use Rattle.kind_main.specs.Report as R
use Rattle.kind_main.specs.Report.{said, report_from, code_of, IsReplay, IsReplayReport}

same_some : {A : Type 0} (x y : A) → Some x ≡ Some y → x ≡ y
same_some x y e = cc

-- properties break at the same instants in the same lines
same_report : (k : ℕ) (ls : List (List ℕ)) (f g : ℕ → Option ℕ) → ((n : ℕ) → f n ≡ g n) → report_from k ls f ≡ report_from k ls g
same_report k [] f g e = refl
same_report k (l ∷ ls) f g e = ap (λ o. said l o ++ report_from (suc k) ls f) (e k) ∙ ap (λ m. said l (g k) ++ m) (same_report (suc k) ls f g e)

-- what is at a number is one of the list
pub inside : {A : Type 0} (xs : List A) (k : ℕ) (x : A) → slice_get xs k ≡ Some x → k < length xs
inside [] k x e = absurd cc
inside (y ∷ ys) zero x e = omega arith
inside (y ∷ ys) (suc k) x e = let r = inside ys k x e in omega (arith, r)

module _ (p : Program) (t : Listing) (r : Answer) (w : ShowsTrace p t r) where
  -- the node that is replayed is there
  pub node_inside : r.node < length (nodes_of p)
  node_inside = inside (nodes_of p) r.node w.replays.node w.node

  pub stays : (d : Component) → slice_get (nodes_of p) r.node ≡ Some d → (labels : List (List ℕ)) → labels ≡ map label_of (properties (instance_of p d)) →
      (broken : List Line) → broken ≡ report_from 0 labels r.breaks → (lines : List Line) → lines ≡ broken ++ lawful_line r.lawful t.length ∷ [] →
      (code : ℕ) → code ≡ code_of broken → IsReplay p t lines code
  stays d at labels named broken report lines printed code status =
      let same : d ≡ w.replays.node = same_some d w.replays.node (sym at ∙ w.node) in
      record {
        shown = w.shown;
        replays = w.replays;
        within = w.within;
        broken = broken;
        reported = report ∙ same_report 0 labels r.breaks w.shown.breaks w.breaks
            ∙ ap (λ ls. report_from 0 ls w.shown.breaks) (named ∙ ap (λ e. map label_of (properties (instance_of p e))) same);
        printed = printed ∙ ap (λ n. broken ++ lawful_line n t.length ∷ []) w.lawful;
        status = status;
      }

pub passes : (p : Program) (t : Listing) (at : Pos) (instant : ℕ) (past : Past) → MeetsPastOf p t at instant past → (lines : List Line) →
    lines ≡ past_line at instant past ∷ [] → (code : ℕ) → code ≡ 9 → IsReplayReport p t lines code
passes p t at instant past m lines printed code status = R.passes record {
  node = m.node;
  named = m.named;
  frame = m.frame;
  is_frame = m.is_frame;
  only = m.only;
  at = at;
  instant = instant;
  past = past;
  meets = m.meets;
  printed = printed;
  status = status;
}
