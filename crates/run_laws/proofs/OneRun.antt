-- Of a checked program each declaration has exactly one run for choices that fit: the frame that is mended in rounds has
-- its types, so its sources have theirs, and mending them changes nothing.
use Rattle.std.proofs.Common.{◌≡◌, ℕ, zero, suc, pred, ◌<◌, true, false, ◌||◌, List, [], ◌∷◌, ◌++◌, map, refl, sym, ap, ◌∙◌, subst, Some, unwrap_or, slice_index_or}
use Rattle.std.specs.Prelude.{Contains}
use Rattle.std.specs.List.{AllByRecursion}
use Rattle.std.specs.Map.{lookup}
use Rattle.std.specs.Str.{bytes_eq}
use Rattle.lus_tree.specs.Tree.{Name, Variable, Component, Program}
use Rattle.lus_meaning.specs.Value.{absent, Stream, Instants, has_sort, is_absent, only_on}
use Rattle.lus_meaning.specs.Frame.{Frame, entry, first_value, frame_at, calls_in}
use Rattle.lus_meaning.specs.Scene.{Scene, Site, Instance, Instances, instance, no_instances, with_instance, component_of, calls_of, instance_at, call_instance, clock_from, variables, is_on}
use Rattle.lus_meaning.specs.Contract.{scene}
use Rattle.lus_meaning.specs.Program.{all_sites, component_named, instance_of}
use Rattle.lus_meaning.specs.Run.{equations, is_typed, active, IsRun}
use Rattle.lus_meaning.specs.Depends.{named_in, left_names, from_caller, SameChoices, CallsChoices}
use Rattle.lus_meaning.specs.Recompute.{sample, Pool, equation_pool, source, call_pool, recompute, recompute_calls}
use Rattle.lus_meaning.specs.WellMade.{AreDistinct, HasTypes, CallsHaveTypes}
use Rattle.lus_meaning.specs.Choices.{ChoicesFrom, CallsFit}
use Rattle.lus_meaning.specs.ClockFaults.{components}
use Rattle.lus_meaning.specs.Refusals.{IsChecked}
use Rattle.lus_meaning.proofs.Choices.{same_choices}
use Rattle.lus_meaning.proofs.Exists.{keys, keys_append, equation_keys, call_keys, self_bytes, Stays}
use Rattle.lus_meaning.proofs.Lists.{all_from, all_from_both, both_parts, named_append, mapped_all}
use Rattle.lus_meaning.proofs.Now.{frame_on}
use Rattle.lus_meaning.proofs.Stable.{sample_at, entry_same, rounds}
use Rattle.lus_meaning.proofs.Typed.{only_typed}
use Rattle.lus_meaning.proofs.UniqueFrame.{keeps_choices}
use Rattle.rule_laws.specs.Laws.{IsUnfolded, AreUnfolded, site_at}
use Rattle.rule_laws.specs.Fitting.{IsStreamOn}
use Rattle.rule_laws.specs.Declarations.{StreamFits}
use Rattle.rule_laws.specs.Types.{HasTypedFirsts, CallsHaveTypedFirsts, IsTypedFrame}
use Rattle.rule_laws.proofs.Callees.{GoesDown, each_site}
use Rattle.rule_laws.proofs.Lists.{each_other}
use Rattle.rule_laws.proofs.Places.{by_number}
use Rattle.rule_laws.proofs.Unfolded.{component_within, each_unfolded}
use Rattle.clock_laws.specs.Laws.{HasRank}
use Rattle.clock_laws.proofs.Clocks.{declared_at}
use Rattle.clock_laws.proofs.Made.{each_well_made}
use Rattle.clock_laws.proofs.OrderLaws.{names_distinct}
use Rattle.clock_laws.proofs.RunLaws.{each_has_rank, one_run_at_most}
use Rattle.clock_laws.proofs.Same.{some_same}
use Rattle.run_laws.specs.Laws.{EachHasOneRun}
use Rattle.run_laws.proofs.Mend.{mended_typed, mended_stays, mended, mend, mend_calls, before_round, mended_settles}
use Rattle.run_laws.proofs.MendedRun.{run_of_mended}
use Rattle.run_laws.proofs.Sources.{SourceFits, SiteFits, equations_fit, given_fit, found_fits}
use Rattle.run_laws.proofs.Texts.{declaration, is_callee, good_rights, sites_fit, named_at}

abbrev MendStays : Instance → ℕ → Instants → Pool → Frame → Frame → Type 0
MendStays i n b given c f = (ks : List ℕ) (x : Name) (t : ℕ) → t < n → entry (frame_on f ks) x t ≡ entry (frame_on (mend i n b given c f) ks) x t

-- ---- types

-- of distinct names each has its own stream
own_entries : (n : ℕ) (g : Variable → Stream) (vs : List Variable) → AreDistinct (map (λ v. v.name.text) vs)
    → AllByRecursion (λ v. (t : ℕ) → t < n → slice_index_or (unwrap_or (lookup (bytes_eq v.name.text)
    (map (λ w. (w.name.text, sample n (g w))) vs)) []) t absent ≡ g v t) vs
own_entries n g [] d = tt
own_entries n g (v ∷ vs) d = (
  (λ t l. rw (self_bytes v.name.text) (sample_at n t (g v) l)),
  all_from_both (λ w. bytes_eq w.name.text v.name.text ≡ false)
      (λ w. (t : ℕ) → t < n → slice_index_or (unwrap_or (lookup (bytes_eq w.name.text)
      (map (λ z. (z.name.text, sample n (g z))) vs)) []) t absent ≡ g w t)
      (λ w. (t : ℕ) → t < n → slice_index_or (unwrap_or (lookup (bytes_eq w.name.text)
      (map (λ z. (z.name.text, sample n (g z))) (v ∷ vs))) []) t absent ≡ g w t)
      (λ w e h t l. rw e (h t l)) vs
      (mapped_all (λ z. bytes_eq z v.name.text ≡ false) (λ w. w.name.text) vs (each_other v.name.text (map (λ w. w.name.text) vs) d.0))
      (own_entries n g vs d.1),
)

mutual
  mended_firsts : (i : Instance) (n : ℕ) (b : Instants) (given : Pool) (c f : Frame) (names : List Name) → ChoicesFrom i names n c
      → HasTypedFirsts i (mend i n b given c f)
  mended_firsts (instance d cs is) n b given c f names h =
      (h.0, calls_firsts is n (scene (instance d cs is) b f) (frame_at (calls_in c)) (frame_at (calls_in f)) h.2)

  calls_firsts : (is : Instances) (n : ℕ) (s : Scene) (cs fs : ℕ → Frame) → CallsFit is n cs → CallsHaveTypedFirsts is
      (frame_at (mend_calls is n s cs fs))
  calls_firsts no_instances n s cs fs h = tt
  calls_firsts (with_instance c k is) n s cs fs h = (
    mended_firsts k n (active s c) (call_pool s c k) (cs 0) (fs 0) (from_caller c k) h.0,
    calls_firsts is n s (λ j. cs (suc j)) (λ j. fs (suc j)) h.1,
  )

-- the declaration that a site of an unfolded instance names
named : (p : Program) (i : Instance) → IsUnfolded p i → (z : Site) → site_at (calls_of i) (pred z.number) ≡ Some z
    → component_named p z.callee ≡ Some (component_of (instance_at (calls_of i) (pred z.number)))
named p (instance d cs is) u z e = named_at p (all_sites d) is u.1 (pred z.number) z e

module _ (p : Program) (c : IsChecked p) where
  mutual
    -- a frame that mending leaves as it is has its types
    mended_types : (i : Instance) → IsUnfolded p i → Contains (components p) (component_of i) → (n : ℕ) (b : Instants) (given : Pool) (x f : Frame)
        → MendStays i n b given x f → HasTypes i n b f
    mended_types (instance d cs is) u j n b given x f stays =
        let s : Scene = scene (instance d cs is) b f in (
          all_from (λ v. (t : ℕ) → t < n → entry (mend (instance d cs is) n b given x f) v.name.text t ≡ mended s given x v t)
              (λ v. (t : ℕ) → t < n → is_typed v.sort (is_on s (clock_from v.clock) t) (entry f v.name.text t) ≡ true)
              (λ v e t l. subst (λ w. is_typed v.sort (is_on s (clock_from v.clock) t) w ≡ true) (sym (stays [] v.name.text t l ∙ e t l))
              (mended_typed v.sort (is_on s (clock_from v.clock) t) (source s given x v t)))
              (variables d) (own_entries n (mended s given x) (variables d) (names_distinct p c.rules.clocked.typed d j)),
          calls_types d (all_sites d) is u.1 (each_site p c.rules.clocked.typed d j) n s (frame_at (calls_in x)) (frame_at (calls_in f))
              (λ j ks y t l. stays (j ∷ ks) y t l),
        )

    calls_types : (d : Component) (ss : List Site) (is : Instances) → AreUnfolded p ss is → AllByRecursion (λ s. GoesDown p d s.callee) ss → (n : ℕ)
        (s : Scene) (cs fs : ℕ → Frame)
        → ((j : ℕ) (ks : List ℕ) (y : Name) (t : ℕ) → t < n → entry (frame_on (fs j) ks) y t
        ≡ entry (frame_on (frame_at (mend_calls is n s cs fs) j) ks) y t) → CallsHaveTypes is n s fs
    calls_types d ss no_instances u a n s cs fs stays = tt
    calls_types d [] (with_instance q k is) u a n s cs fs stays = absurd u
    calls_types d (r ∷ ss) (with_instance q k is) u a n s cs fs stays = (
      mended_types k u.2 (declared_at p c d r k a.0 u.1) n (active s q) (call_pool s q k) (cs 0) (fs 0) (stays 0),
      calls_types d ss is u.3 a.1 n s (λ j. cs (suc j)) (λ j. fs (suc j)) (λ j. stays (suc j)),
    )

  -- ---- sources

  mutual
    -- where what the caller gives has its types, recomputing leaves such a frame as it is
    recomputed_stays : (i : Instance) → IsUnfolded p i → Contains (components p) (component_of i) → (names : List Name) (n : ℕ) (b : Instants)
        (given : Pool) → keys given ≡ names → (x f : Frame) → ChoicesFrom i names n x → IsTypedFrame i n b f
        → AllByRecursion (SourceFits (scene i b f) n) given → MendStays i n b given x f → Stays i n b given x f
    recomputed_stays (instance d cs is) u j names n b given e x f fit its g stays [] y t l =
        stays [] y t l ∙ entry_same y n t (mended s given x) (source s given x) (variables d) l
        (all_from_both (StreamFits i) (λ v. (named_in v.name.text names || named_in v.name.text (left_names d)) ≡ false → (t : ℕ) → t < n
        → has_sort v.sort (entry x v.name.text t) ≡ true) (λ v. y ≡ v.name.text → mended s given x v t ≡ source s given x v t)
        (λ v q h _. mended_stays v.sort (is_on s (clock_from v.clock) t) (source s given x v t) (typed v q h))
        (variables d) (declaration p c i u j).streams fit.1)
      where
        i : Instance
        i = instance d cs is

        s : Scene
        s = scene (instance d cs is) b f

        pool : Pool
        pool = given ++ equation_pool s (equations d)

        typed : (v : Variable) → StreamFits i v → ((named_in v.name.text names || named_in v.name.text (left_names d)) ≡ false → (t : ℕ) → t < n
            → has_sort v.sort (entry x v.name.text t) ≡ true) → is_typed v.sort (is_on s (clock_from v.clock) t) (source s given x v t) ≡ true
        typed v q h = found_fits v.name.text pool (only_on (is_on s (clock_from v.clock)) (entry x v.name.text))
            (λ w. is_typed v.sort (is_on s (clock_from v.clock) t) (w t) ≡ true)
            (all_from (SourceFits s n) (λ a. v.name.text ≡ a.0 → is_typed v.sort (is_on s (clock_from v.clock) t) (a.1 t) ≡ true)
            (λ a r m. r (clock_from v.clock) v.sort (subst (IsStreamOn i (clock_from v.clock) v.sort) m q.name) t l) pool
            (both_parts (SourceFits s n) given (equation_pool s (equations d)) g
            (equations_fit i n b f its (equations d) (declaration p c i u j).equations (good_rights p c i u j n b f its))))
            (λ o. only_typed v.sort (is_on s (clock_from v.clock) t) (entry x v.name.text t)
            (λ _. h (sym (named_append v.name.text names (left_names d)) ∙ subst (λ ks. named_in v.name.text ks ≡ false)
            (keys_append given (equation_pool s (equations d)) ∙ rw (e, equation_keys s (equations d)) refl) o) t l))
    recomputed_stays (instance d cs is) u j names n b given e x f fit its g stays (k ∷ ks) y t l =
        calls_stay (instance d cs is) u j n b f its (all_sites d) is u.1 (each_site p c.rules.clocked.typed d j)
        (sites_fit p c (instance d cs is) u j n b f its) (frame_at (calls_in x)) (frame_at (calls_in f)) fit.2 its.names.1 its.firsts.1
        (λ j ks y t l. stays (j ∷ ks) y t l) k ks y t l

    calls_stay : (i : Instance) → IsUnfolded p i → Contains (components p) (component_of i) → (n : ℕ) (b : Instants) (f : Frame)
        (its : IsTypedFrame i n b f) (ss : List Site) (is : Instances) → AreUnfolded p ss is
        → AllByRecursion (λ s. GoesDown p (component_of i) s.callee) ss → AllByRecursion (SiteFits i n b f its) ss → (cs fs : ℕ → Frame)
        → CallsFit is n cs → CallsHaveTypes is n (scene i b f) fs → CallsHaveTypedFirsts is fs
        → ((j : ℕ) (ks : List ℕ) (y : Name) (t : ℕ) → t < n → entry (frame_on (fs j) ks) y t
        ≡ entry (frame_on (frame_at (mend_calls is n (scene i b f) cs fs) j) ks) y t)
        → (j : ℕ) (ks : List ℕ) (y : Name) (t : ℕ) → t < n → entry (frame_on (fs j) ks) y t
        ≡ entry (frame_on (frame_at (recompute_calls is n (scene i b f) cs fs) j) ks) y t
    calls_stay i u j n b f its ss no_instances w a q cs fs fit types firsts stays k ks y t l = stays k ks y t l
    calls_stay i u j n b f its [] (with_instance r o is) w a q cs fs fit types firsts stays k ks y t l = absurd w
    calls_stay i u j n b f its (r ∷ ss) (with_instance z o is) w a q cs fs fit types firsts stays zero ks y t l =
        let site : SiteFits i n b f its z = subst (SiteFits i n b f its) (sym w.0) q.0 in
        let here : Contains (components p) (component_of o) = declared_at p c (component_of i) r o a.0 w.1 in
        recomputed_stays o w.2 here (from_caller z o) n (active (scene i b f) z) (call_pool (scene i b f) z o) (call_keys (scene i b f) z o) (cs 0)
        (fs 0) fit.0 record { names = types.0; firsts = firsts.0 }
        (given_fit i n b f its z o (fs 0) site (is_callee p c o w.2 here)
        (some_same (component_of o) (component_of (call_instance i z.number))
        (sym (ap (λ (v : Site). component_named p v.callee) w.0 ∙ w.1) ∙ named p i u z site.site ∙ ap (λ m. Some (component_of m))
        (by_number i z.number site.number))))
        (stays 0) ks y t l
    calls_stay i u j n b f its (r ∷ ss) (with_instance z o is) w a q cs fs fit types firsts stays (suc k) ks y t l =
        calls_stay i u j n b f its ss is w.3 a.1 q.1 (λ m. cs (suc m)) (λ m. fs (suc m)) fit.1 types.1 firsts.1 (λ m. stays (suc m)) k ks y t l

-- ---- choices

mutual
  same_firsts : (i : Instance) (n : ℕ) (b b' : Instants) (given given' : Pool) (c f f' : Frame) (ks : List ℕ) (k : ℕ) → first_value
      (frame_on (mend i n b given c f) ks) k ≡ first_value (frame_on (recompute i n b' given' c f') ks) k
  same_firsts (instance d cs is) n b b' given given' c f f' [] k = refl
  same_firsts (instance d cs is) n b b' given given' c f f' (j ∷ ks) k = same_call_firsts is n (scene (instance d cs is) b f)
      (scene (instance d cs is) b' f') (frame_at (calls_in c)) (frame_at (calls_in f)) (frame_at (calls_in f')) j ks k

  same_call_firsts : (is : Instances) (n : ℕ) (a a' : Scene) (cs fs fs' : ℕ → Frame) (j : ℕ) (ks : List ℕ) (k : ℕ) → first_value
      (frame_on (frame_at (mend_calls is n a cs fs) j) ks) k ≡ first_value (frame_on (frame_at (recompute_calls is n a' cs fs') j) ks) k
  same_call_firsts no_instances n a a' cs fs fs' j ks k = refl
  same_call_firsts (with_instance d i is) n a a' cs fs fs' zero ks k = same_firsts i n (active a d) (active a' d) (call_pool a d i)
      (call_pool a' d i) (cs 0) (fs 0) (fs' 0) ks k
  same_call_firsts (with_instance d i is) n a a' cs fs fs' (suc j) ks k =
      same_call_firsts is n a a' (λ j. cs (suc j)) (λ j. fs (suc j)) (λ j. fs' (suc j)) j ks k

mutual
  -- what has the entries of a frame has its choices
  chosen_alike : (i : Instance) (given : List Name) (n : ℕ) (f g x : Frame)
      → ((ks : List ℕ) (y : Name) (t : ℕ) → t < n → entry (frame_on f ks) y t ≡ entry (frame_on g ks) y t)
      → ((ks : List ℕ) (k : ℕ) → first_value (frame_on f ks) k ≡ first_value (frame_on g ks) k)
      → SameChoices i given n g x → SameChoices i given n f x
  chosen_alike (instance d cs is) given n f g x e h q = (
    (λ k. h [] k ∙ q.0 k),
    all_from (λ v. (named_in v.name.text given || named_in v.name.text (left_names d)) ≡ false → (t : ℕ) → t < n → is_absent
        (entry g v.name.text t) ≡ false → is_absent (entry x v.name.text t) ≡ false → entry g v.name.text t ≡ entry x v.name.text t)
        (λ v. (named_in v.name.text given || named_in v.name.text (left_names d)) ≡ false → (t : ℕ) → t < n → is_absent
        (entry f v.name.text t) ≡ false → is_absent (entry x v.name.text t) ≡ false → entry f v.name.text t ≡ entry x v.name.text t)
        (λ v a o t l y z. e [] v.name.text t l ∙ a o t l (sym (ap is_absent (e [] v.name.text t l)) ∙ y) z) (variables d) q.1,
    calls_alike is n (frame_at (calls_in f)) (frame_at (calls_in g)) (frame_at (calls_in x)) (λ j ks. e (j ∷ ks)) (λ j ks. h (j ∷ ks)) q.2,
  )

  calls_alike : (is : Instances) (n : ℕ) (f g x : ℕ → Frame)
      → ((j : ℕ) (ks : List ℕ) (y : Name) (t : ℕ) → t < n → entry (frame_on (f j) ks) y t ≡ entry (frame_on (g j) ks) y t)
      → ((j : ℕ) (ks : List ℕ) (k : ℕ) → first_value (frame_on (f j) ks) k ≡ first_value (frame_on (g j) ks) k)
      → CallsChoices is n g x → CallsChoices is n f x
  calls_alike no_instances n f g x e h q = tt
  calls_alike (with_instance c k is) n f g x e h q = (
    chosen_alike k (from_caller c k) n (f 0) (g 0) (x 0) (e 0) (h 0) q.0,
    calls_alike is n (λ j. f (suc j)) (λ j. g (suc j)) (λ j. x (suc j)) (λ j. e (suc j)) (λ j. h (suc j)) q.1,
  )

-- ---- the law

pub one_run : EachHasOneRun
one_run p c n j m b x fit =
    let i : Instance = instance_of p n in
    let r : HasRank i = each_has_rank p c n j in
    let before : Frame = before_round i r.rank r.ranked r.bound r.below m b x (rounds r.bound m) in
    let f : Frame = mend i m b [] x before in
    let u : IsUnfolded p i = each_unfolded p c n j in
    let here : Contains (components p) (component_of i) = subst (Contains (components p)) (sym (component_within _ p n)) j in
    let stays : MendStays i m b [] x f = mended_settles i r.rank r.ranked r.bound r.below m b x in
    let types : HasTypes i m b f = mended_types p c i u here m b [] x f stays in
    let again : Stays i m b [] x f = recomputed_stays p c i u here [] m b [] refl x f fit
    record { names = types; firsts = mended_firsts i m b [] x before [] fit } tt stays in
    let run : IsRun i m b f = run_of_mended i m b b [] [] [] refl x before (each_well_made p c n j m x fit) again types in
    let same : SameChoices i [] m f x = chosen_alike i [] m f (recompute i m b [] x f) x again
    (λ ks k. same_firsts i m b b [] [] x before f ks k) (keeps_choices i m b [] [] refl x f) in
    (f, (run, same), (λ g q h. one_run_at_most p c n j m b g f q run (same_choices i [] m g f x fit h same)))
