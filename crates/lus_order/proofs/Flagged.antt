-- Equations that are flagged are those on circles.
use Rattle.std.proofs.Common.{◌≡◌, Bool, true, false, cond, List, [], ◌∷◌, ◌++◌, map, refl, sym, subst, arith}
use Rattle.std.specs.Prelude.{Contains}
use Rattle.std.proofs.Math.Logic.{◌⊎◌, inl, inr}
use Rattle.std.proofs.lemmas.Bool.{false≢true}
use Rattle.std.proofs.lemmas.List.Elements.{Contains-append_left, Contains-append_right, Contains-append_cases, Contains-push, Contains-push_cases}
use Rattle.lus_tree.specs.Tree.{Name, Component, Spelled, text_of}
use Rattle.lus_tree.specs.Reason.{Refused, cycle}
use Rattle.lus_meaning.specs.Faults.{fault}
use Rattle.lus_meaning.specs.WellMade.{AreDistinct}
use Rattle.way_laws.specs.OwnGraph.{Summaries, LeadsTo as NamesLead, own_edges}
use Rattle.number_graphs.specs.Graphs.{Rows}
use Rattle.lus_order.specs.Backs.{LeadsBack, AreFlagged, fault_at_first, flagged_faults, AreNumbered, IsOnCircle, FlaggedAreCircles}
use Rattle.lus_order.specs.OwnNodes.{AreNodes}
use Rattle.lus_order.proofs.BackNames.{backs_own}

none_in : {X : Type 0} (x : X) → Contains [] x → ⊥
none_in x (k, l, e) = omega arith

only_one : {X : Type 0} (y x : X) → Contains (y ∷ []) x → y ≡ x
only_one y x c = elim (Contains-push_cases [] y x c) [ inl d ↦ absurd (none_in x d) | inr e ↦ e ]

module _ (n : Component) (g : Summaries) (names : List Name) (rows : Rows) (d : AreDistinct names) (nodes : AreNodes n g names rows) where
  at_first : (ws : List Spelled) (wss : List (List Spelled)) (b : Bool) (r : Refused) → b ≡ true
      → NamesLead (own_edges n g) (map text_of ws) (map text_of ws) → Contains (cond b (fault_at_first ws) []) r → IsOnCircle n g (ws ∷ wss) r
  at_first ws wss false r e p c = absurd (none_in r c)
  at_first [] wss true r e p c = absurd (none_in r c)
  at_first (w ∷ ws) wss true r e p c = record {
    word = w;
    words = ws;
    stands = Contains-append_left ((w ∷ ws) ∷ []) wss (w ∷ ws) (Contains-push [] (w ∷ ws));
    circle = p;
    is = sym (only_one (fault cycle w.at) r c);
  }

  none_unflagged : (ws : List Spelled) (b : Bool) (r : Refused) → Contains (cond b (fault_at_first ws) []) r → b ≡ true
  none_unflagged ws true r c = refl
  none_unflagged ws false r c = absurd (none_in r c)

  to : (wss : List (List Spelled)) (bs : List Bool) → AreNumbered names wss → AreFlagged rows names wss bs → (r : Refused)
      → Contains (flagged_faults wss bs) r → IsOnCircle n g wss r
  to [] [] h a r c = absurd (none_in r c)
  to [] (b ∷ bs) h a r c = absurd a
  to (ws ∷ wss) [] h a r c = absurd a
  to (ws ∷ wss) (b ∷ bs) h a r c = go (Contains-append_cases (cond b (fault_at_first ws) []) (flagged_faults wss bs) r c)
      (to wss bs (λ vs k. h vs (Contains-append_right (ws ∷ []) wss vs k)) a.1 r)
    where
      go : (Contains (cond b (fault_at_first ws) []) r) ⊎ (Contains (flagged_faults wss bs) r)
          → (Contains (flagged_faults wss bs) r → IsOnCircle n g wss r) → IsOnCircle n g (ws ∷ wss) r
      go (inr k) f =
          let q : IsOnCircle n g wss r = f k in
          record { word = q.word; words = q.words; stands = Contains-append_right (ws ∷ []) wss (q.word ∷ q.words) q.stands; circle = q.circle; is = q.is }
      go (inl k) f =
          let e : b ≡ true = none_unflagged ws b r k in
          at_first ws wss b r e ((backs_own n g names rows d nodes (map text_of ws)
          (h ws (Contains-append_left (ws ∷ []) wss ws (Contains-push [] ws)))).0 (a.0.0 e)) k

  flagged_first : (w : Spelled) (ws : List Spelled) (b : Bool) → b ≡ true → Contains (cond b (fault_at_first (w ∷ ws)) []) (fault cycle w.at)
  flagged_first w ws true e = Contains-push [] (fault cycle w.at)
  flagged_first w ws false e = absurd (false≢true e)

  back : (wss : List (List Spelled)) (bs : List Bool) → AreNumbered names wss → AreFlagged rows names wss bs → (w : Spelled) (ws : List Spelled)
      → Contains wss (w ∷ ws) → NamesLead (own_edges n g) (map text_of (w ∷ ws)) (map text_of (w ∷ ws))
      → Contains (flagged_faults wss bs) (fault cycle w.at)
  back [] [] h a w ws c p = absurd (none_in (w ∷ ws) c)
  back [] (b ∷ bs) h a w ws c p = absurd a
  back (vs ∷ wss) [] h a w ws c p = absurd a
  back (vs ∷ wss) (b ∷ bs) h a w ws c p = go (Contains-append_cases (vs ∷ []) wss (w ∷ ws) c)
      (back wss bs (λ us k. h us (Contains-append_right (vs ∷ []) wss us k)) a.1 w ws)
    where
      go : (Contains (vs ∷ []) (w ∷ ws)) ⊎ (Contains wss (w ∷ ws))
          → (Contains wss (w ∷ ws) → NamesLead (own_edges n g) (map text_of (w ∷ ws)) (map text_of (w ∷ ws))
          → Contains (flagged_faults wss bs) (fault cycle w.at))
          → Contains (cond b (fault_at_first vs) [] ++ flagged_faults wss bs) (fault cycle w.at)
      go (inr k) f = Contains-append_right (cond b (fault_at_first vs) []) (flagged_faults wss bs) (fault cycle w.at) (f k p)
      go (inl k) f =
          let s : vs ≡ w ∷ ws = only_one vs (w ∷ ws) k in
          let here : LeadsBack rows names (map text_of vs) = subst (λ us. LeadsBack rows names (map text_of us)) (sym s)
          ((backs_own n g names rows d nodes (map text_of (w ∷ ws)) (h (w ∷ ws) c)).1 p) in
          let e : b ≡ true = a.0.1 here in
          Contains-append_left (cond b (fault_at_first vs) []) (flagged_faults wss bs) (fault cycle w.at)
          (subst (λ us. Contains (cond b (fault_at_first us) []) (fault cycle w.at)) (sym s) (flagged_first w ws b e))

pub flagged_circles : FlaggedAreCircles
flagged_circles n g names rows d nodes wss bs h a r = (
  λ c. to n g names rows d nodes wss bs h a r c,
  λ q. subst (Contains (flagged_faults wss bs)) (sym q.is) (back n g names rows d nodes wss bs h a q.word q.words q.stands q.circle),
)
