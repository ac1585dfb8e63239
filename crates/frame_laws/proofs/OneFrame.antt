-- Of a checked program each declaration has exactly one frame for a trace that fits: what the lines say are choices that
-- fit, the one run of these choices takes what they say, and each run that does makes these choices.
use Rattle.std.proofs.Common.{◌≡◌, List, [], ◌++◌, refl, sym, subst}
use Rattle.std.specs.Prelude.{Contains}
use Rattle.std.specs.List.{AllByRecursion}
use Rattle.lus_tree.specs.Tree.{Variable}
use Rattle.lus_meaning.specs.Frame.{Frame}
use Rattle.lus_meaning.specs.Scene.{Instance, instance, component_of, variables}
use Rattle.lus_meaning.specs.Program.{instance_of}
use Rattle.lus_meaning.specs.Run.{IsRun}
use Rattle.lus_meaning.specs.Depends.{SameChoices}
use Rattle.lus_meaning.specs.Trace.{free_names}
use Rattle.lus_meaning.specs.Verdict.{throughout}
use Rattle.lus_meaning.specs.ClockFaults.{components}
use Rattle.lus_meaning.proofs.Lists.{all_from}
use Rattle.rule_laws.specs.Laws.{IsUnfolded}
use Rattle.rule_laws.proofs.Unfolded.{component_within, each_unfolded}
use Rattle.clock_laws.proofs.OrderLaws.{names_distinct, no_left_fault}
use Rattle.clock_laws.proofs.RunLaws.{one_run_at_most}
use Rattle.run_laws.proofs.OneRun.{one_run}
use Rattle.frame_laws.specs.Laws.{EachHasOneFrame}
use Rattle.frame_laws.proofs.Free.{IsOpen, AreFree, of_free, top_free}
use Rattle.frame_laws.proofs.Along.{IsAlong, tree_along}
use Rattle.frame_laws.proofs.Listed.{HasOwnSort, SaysTyped, lines_typed, listed_frame, listed_fit}
use Rattle.frame_laws.proofs.Taken.{takes_listed, same_taken}

abbrev top_variables : Instance → List Variable
top_variables i = (component_of i).inputs ++ free_names (component_of i)

-- what a trace lists of the analysed declaration has the types of its names
top_sorts : (i : Instance) → IsAlong i [] i → AreFree (component_of i) [] (top_variables i)
    → AllByRecursion (HasOwnSort i) (top_variables i)
top_sorts (instance d cs is) a r = of_free d [] (top_variables (instance d cs is)) r
    (HasOwnSort (instance d cs is)) (all_from (HasOwnSort (instance d cs is))
    (λ v. IsOpen [] d v → HasOwnSort (instance d cs is) v) (λ v h _. h) (variables d) a.2)

pub one_frame : EachHasOneFrame
one_frame p c n j m ls fits =
    let i : Instance = instance_of p n in
    let u : IsUnfolded p i = each_unfolded p c n j in
    let here : Contains (components p) (component_of i) = subst (Contains (components p)) (sym (component_within _ p n)) j in
    let a : IsAlong i [] i = tree_along p c i [] i refl u here in
    let r : AreFree (component_of i) [] (top_variables i) = top_free (component_of i) (names_distinct p c.rules.clocked.typed (component_of i) here)
    (no_left_fault p c (component_of i) here) in
    let typed : SaysTyped i ls = lines_typed i a m ls (top_sorts i a r) fits.taken in
    let x : Frame = listed_frame ls [] m i in
    let q : (f : Frame) × (IsRun i m throughout f × SameChoices i [] m f x)
    × ((g : Frame) → IsRun i m throughout g → SameChoices i [] m g x → g ≡ f) = one_run p c n j m throughout x (listed_fit i ls typed m [] i a []) in (
      q.0,
      record { run = q.1.0; taken = takes_listed i ls typed m [] i a [] (top_variables i) r throughout q.0 q.1.0 q.1.1 },
      λ g k. one_run_at_most p c n j m throughout g q.0 k.run q.1.0
          (same_taken i ls m [] i a [] (top_variables i) r throughout throughout g q.0 k.run q.1.0 k.taken
          (takes_listed i ls typed m [] i a [] (top_variables i) r throughout q.0 q.1.0 q.1.1)),
    )
