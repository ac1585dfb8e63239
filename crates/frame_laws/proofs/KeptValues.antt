-- Values in a frame of which the instants are left out at which a beat is off.
use Rattle.std.proofs.Common.{pos, ◌≡◌, ℕ, zero, suc, pred, ◌<◌, Bool, true, false, cond, ◌&&◌, List, [], ◌∷◌, ◌++◌, map, refl, ap, arith, Option, None, Some, option_map, option_to_list, slice_index_or, get_or}
use Rattle.std.specs.List.{AllByRecursion}
use Rattle.std.specs.Map.{lookup}
use Rattle.std.specs.Str.{bytes_eq}
use Rattle.lus_tree.specs.Tree.{Name, text_of, Expression, Expressions, truth, number, name, negation, minus, pre, arrow, binary, choice, sampled, merged, call, condact, mode_name, no_more, more, Labelled, ContractStatement, assume, guarantee, ghost_variable, constant, mode, «import»}
use Rattle.lus_meaning.specs.Value.{Value, absent, flag, whole, Stream, Instants, is, only_on, was_on, latest, apply, choose, not_value, minus_value}
use Rattle.lus_meaning.specs.Frame.{Frame, entry, first_value, call_frame}
use Rattle.lus_meaning.specs.Scene.{Clock, base, sampled_by, Scene, Instance, Instances, instance, no_instances, with_instance, clock_of, component_of, constants_of, call_instance, outputs_of, contract_statements, is_on}
use Rattle.lus_meaning.specs.Meaning.{value, values, constant_or, mode_key, head_stream, call_outputs, held_outputs}
use Rattle.lus_meaning.specs.Contract.{Test, ModeTerms, Terms, no_terms, mode_streams, scene_with, all_true, says, mode_terms, imported_mode, terms_after, terms, terms_each}
use Rattle.lus_meaning.specs.Run.{right_values}
use Rattle.lus_meaning.specs.Squeeze.{beats_before}
use Rattle.lus_meaning.proofs.Lists.{both_parts}
use Rattle.lus_meaning.proofs.Now.{frame_on}
use Rattle.frame_laws.proofs.Kept.{IsKept, AreKept, EachKept, latest_kept, was_on_kept, held_each_kept, head_kept, mapped_kept}

-- the second frame has at every depth what the first has where o is true, and the first has nothing where it is not
pub record AreSqueezed (o : Instants) (n : ℕ) (b b' : Instants) (f f' : Frame) : Type 0 where
  pub beats : AreKept o n b b'
  pub names : (ks : List ℕ) (x : Name) → IsKept o n (entry (frame_on f ks) x) (entry (frame_on f' ks) x)
  pub none : (ks : List ℕ) (x : Name) (t : ℕ) → t < n → o t ≡ false → entry (frame_on f ks) x t ≡ absent
  pub firsts : (ks : List ℕ) (k : ℕ) → first_value (frame_on f' ks) k ≡ first_value (frame_on f ks) k

-- a test that is kept in each such frame
abbrev pub KeepsTest : Test → Type 0
KeepsTest test = (o : Instants) (n : ℕ) (b b' : Instants) (f f' : Frame) → AreSqueezed o n b b' f f' → IsKept o n (test b f) (test b' f')

abbrev pub KeepsMode : ModeTerms → Type 0
KeepsMode m = KeepsTest m.requires_all

found_kept : (o : Instants) (n : ℕ) (b b' : Instants) (f f' : Frame) → AreSqueezed o n b b' f f' → (ms : List ModeTerms) → AllByRecursion KeepsMode ms
    → (key : List Name × Name) → IsKept o n (head_stream (option_to_list (lookup (mode_key key) (mode_streams ms b f))))
    (head_stream (option_to_list (lookup (mode_key key) (mode_streams ms b' f'))))
found_kept o n b b' f f' q [] a key = λ t l h. refl
found_kept o n b b' f f' q (m ∷ ms) a key = go (mode_key key m.key) (found_kept o n b b' f f' q ms a.1 key)
  where
    go : (c : Bool) → IsKept o n (head_stream (option_to_list (lookup (mode_key key) (mode_streams ms b f))))
        (head_stream (option_to_list (lookup (mode_key key) (mode_streams ms b' f'))))
        → IsKept o n (head_stream (option_to_list (cond c (Some (m.requires_all b f)) (lookup (mode_key key) (mode_streams ms b f)))))
        (head_stream (option_to_list (cond c (Some (m.requires_all b' f')) (lookup (mode_key key) (mode_streams ms b' f')))))
    go true r = a.0 o n b b' f f' q
    go false r = r

module _ (i : Instance) (ms : List ModeTerms) (modes : AllByRecursion KeepsMode ms) (o : Instants) (n : ℕ) (b b' : Instants) (f f' : Frame)
    (q : AreSqueezed o n b b' f f') where
  abbrev s : Scene
  s = scene_with i ms b f

  abbrev s' : Scene
  s' = scene_with i ms b' f'

  pub on_kept : (c : Clock) → AreKept o n (is_on s c) (is_on s' c)
  on_kept base = q.beats
  on_kept (sampled_by z x) = record {
    same = λ t l h. ap (is z) (q.names [] x t l h);
    off = λ t l h. ap (is z) (q.none [] x t l h);
  }

  only_kept : (c : Clock) (xs xs' : Stream) → IsKept o n xs xs' → IsKept o n (only_on (is_on s c) xs) (only_on (is_on s' c) xs')
  only_kept c xs xs' k t l h = rw ((on_kept c).same t l h, k t l h) refl

  named_kept : (c : Clock) (v : Option Value) (x : Name)
      → IsKept o n (constant_or v (is_on s c) (entry f x)) (constant_or v (is_on s' c) (entry f' x))
  named_kept c None x = q.names [] x
  named_kept c (Some v) x = only_kept c (λ t. v) (λ t. v) (λ t l h. refl)

  outputs_kept : (k : ℕ) → EachKept o n (call_outputs s k) (call_outputs s' k)
  outputs_kept k = mapped_kept o n (entry (call_frame f k)) (entry (call_frame f' k)) (λ x. q.names (pred k ∷ []) x) (outputs_of (call_instance i k))

  both_kept : (on on' : Instants) (xs xs' : Stream) → AreKept o n on on' → IsKept o n xs xs'
      → AreKept o n (λ t. on t && is true (xs t)) (λ t. on' t && is true (xs' t))
  both_kept on on' xs xs' a k = record {
    same = λ t l h. rw (a.same t l h, k t l h) refl;
    off = λ t l h. ap (λ c. c && is true (xs t)) (a.off t l h);
  }

  mutual
    pub value_kept : (e : Expression) (c : Clock) → IsKept o n (value s c e) (value s' c e)
    value_kept (truth p z) c = only_kept c (λ t. flag z) (λ t. flag z) (λ t l h. refl)
    value_kept (number p k) c = only_kept c (λ t. whole (pos k)) (λ t. whole (pos k)) (λ t l h. refl)
    value_kept (name p x) c = named_kept c (lookup (bytes_eq x) (constants_of i)) x
    value_kept (negation p a) c = only_kept c (λ t. not_value (value s c a t)) (λ t. not_value (value s' c a t))
        (λ t l h. ap not_value (value_kept a c t l h))
    value_kept (minus p a) c = only_kept c (λ t. minus_value (value s c a t)) (λ t. minus_value (value s' c a t))
        (λ t l h. ap minus_value (value_kept a c t l h))
    value_kept (pre p k a) c = only_kept c (latest (is_on s c) (value s c a) (first_value f k)) (latest (is_on s' c) (value s' c a) (first_value f' k))
        (λ t l h. latest_kept o n (is_on s c) (is_on s' c) (on_kept c) (value s c a) (value s' c a) (value_kept a c) (first_value f k) (first_value f' k)
        (q.firsts [] k) t (omega arith))
    value_kept (arrow p k a d) c = only_kept c (λ t. cond (was_on (is_on s c) t) (value s c d t) (value s c a t))
        (λ t. cond (was_on (is_on s' c) t) (value s' c d t) (value s' c a t))
        (λ t l h. rw (was_on_kept o n (is_on s c) (is_on s' c) (on_kept c) t (omega arith), value_kept a c t l h, value_kept d c t l h) refl)
    value_kept (binary p z a d) c = only_kept c (λ t. apply z (value s c a t) (value s c d t)) (λ t. apply z (value s' c a t) (value s' c d t))
        (λ t l h. rw (value_kept a c t l h, value_kept d c t l h) refl)
    value_kept (choice p a d e) c = only_kept c (λ t. choose (value s c a t) (value s c d t) (value s c e t))
        (λ t. choose (value s' c a t) (value s' c d t) (value s' c e t))
        (λ t l h. rw (value_kept a c t l h, value_kept d c t l h, value_kept e c t l h) refl)
    value_kept (sampled p a z x) c = λ t l h. rw (q.names [] x.text t l h, value_kept a (clock_of (component_of i) x.text) t l h) refl
    value_kept (merged p x a d) c = λ t l h. rw (
      q.names [] x.text t l h,
      value_kept a (sampled_by true x.text) t l h,
      value_kept d (sampled_by false x.text) t l h,
    ) refl
    value_kept (call p k x as_) c = head_kept o n (call_outputs s k) (call_outputs s' k) (outputs_kept k)
    value_kept (condact p k a x as_ ds) c = head_kept o n
        (held_outputs (is_on s c) (λ t. is_on s c t && is true (value s c a t)) (call_outputs s k) (values s c ds))
        (held_outputs (is_on s' c) (λ t. is_on s' c t && is true (value s' c a t)) (call_outputs s' k) (values s' c ds))
        (held_each_kept o n (is_on s c) (is_on s' c) (λ t. is_on s c t && is true (value s c a t)) (λ t. is_on s' c t && is true (value s' c a t))
        (on_kept c) (both_kept (is_on s c) (is_on s' c) (value s c a) (value s' c a) (on_kept c) (value_kept a c)) (call_outputs s k) (call_outputs s' k)
        (values s c ds) (values s' c ds) (outputs_kept k) (values_kept ds c))
    value_kept (mode_name p d m) c = found_kept o n b b' f f' q ms modes (option_to_list (option_map text_of d), m.text)

    values_kept : (es : Expressions) (c : Clock) → EachKept o n (values s c es) (values s' c es)
    values_kept no_more c = tt
    values_kept (more a as_) c = (value_kept a c, values_kept as_ c)

  pub right_kept : (e : Expression) (c : Clock) → EachKept o n (right_values s c e) (right_values s' c e)
  right_kept (truth p z) c = (value_kept (truth p z) c, tt)
  right_kept (number p k) c = (value_kept (number p k) c, tt)
  right_kept (name p x) c = (value_kept (name p x) c, tt)
  right_kept (negation p a) c = (value_kept (negation p a) c, tt)
  right_kept (minus p a) c = (value_kept (minus p a) c, tt)
  right_kept (pre p k a) c = (value_kept (pre p k a) c, tt)
  right_kept (arrow p k a d) c = (value_kept (arrow p k a d) c, tt)
  right_kept (binary p z a d) c = (value_kept (binary p z a d) c, tt)
  right_kept (choice p a d e) c = (value_kept (choice p a d e) c, tt)
  right_kept (sampled p a z x) c = (value_kept (sampled p a z x) c, tt)
  right_kept (merged p x a d) c = (value_kept (merged p x a d) c, tt)
  right_kept (call p k x as_) c = outputs_kept k
  right_kept (condact p k a x as_ ds) c =
      held_each_kept o n (is_on s c) (is_on s' c) (λ t. is_on s c t && is true (value s c a t)) (λ t. is_on s' c t && is true (value s' c a t))
      (on_kept c) (both_kept (is_on s c) (is_on s' c) (value s c a) (value s' c a) (on_kept c) (value_kept a c)) (call_outputs s k) (call_outputs s' k)
      (values s c ds) (values s' c ds) (outputs_kept k) (values_kept ds c)
  right_kept (mode_name p d m) c = (value_kept (mode_name p d m) c, tt)

-- ---- modes

all_true_kept : (o : Instants) (n : ℕ) (xs xs' : List Stream) → EachKept o n xs xs' → IsKept o n (all_true xs) (all_true xs')
all_true_kept o n [] [] h t l e = refl
all_true_kept o n [] (y ∷ ys) h t l e = absurd h
all_true_kept o n (x ∷ xs) [] h t l e = absurd h
all_true_kept o n (x ∷ []) (y ∷ []) h t l e = h.0 t l e
all_true_kept o n (x ∷ []) (y ∷ z ∷ ys) h t l e = absurd h.1
all_true_kept o n (x ∷ w ∷ xs) (y ∷ []) h t l e = absurd h.1
all_true_kept o n (x ∷ w ∷ xs) (y ∷ z ∷ ys) h t l e = rw (h.0 t l e, all_true_kept o n (w ∷ xs) (z ∷ ys) h.1 t l e) refl

mode_kept : (i : Instance) (ms : List ModeTerms) (m : Name) (rs es : List Labelled) → AllByRecursion KeepsMode ms → KeepsMode (mode_terms i ms m rs es)
mode_kept i ms m rs es a o n b b' f f' q t l h =
    let asked : all_true (map (λ r. says i ms r b' f') rs) (beats_before o t) ≡ all_true (map (λ r. says i ms r b f) rs) t =
    all_true_kept o n (map (λ r. says i ms r b f) rs) (map (λ r. says i ms r b' f') rs)
    (mapped_kept o n (λ r. says i ms r b f) (λ r. says i ms r b' f') (λ r. value_kept i ms a o n b b' f f' q r.value base) rs) t l h in
    rw (q.beats.same t l h, asked) refl

-- the frame of an import has the beat of its importer's
pub import_squeezed : (o : Instants) (n : ℕ) (b b' : Instants) (f f' : Frame) (k : ℕ) → AreSqueezed o n b b' f f'
    → AreSqueezed o n b b' (call_frame f k) (call_frame f' k)
import_squeezed o n b b' f f' k q = record {
  beats = q.beats;
  names = λ ks. q.names (pred k ∷ ks);
  none = λ ks. q.none (pred k ∷ ks);
  firsts = λ ks. q.firsts (pred k ∷ ks);
}

imported_kept : (k : ℕ) (c : Name) (ms : List ModeTerms) → AllByRecursion KeepsMode ms → AllByRecursion KeepsMode (map (imported_mode k c) ms)
imported_kept k c [] a = tt
imported_kept k c (m ∷ ms) a = (
  (λ o n b b' f f' q. a.0 o n b b' (call_frame f k) (call_frame f' k) (import_squeezed o n b b' f f' k q)),
  imported_kept k c ms a.1,
)

after_kept : (i : Instance) (sub : ℕ → Terms) → ((k : ℕ) → AllByRecursion KeepsMode (sub k).modes) → (cs : List ContractStatement) (ms : List ModeTerms)
    → AllByRecursion KeepsMode ms → AllByRecursion KeepsMode (terms_after i sub ms cs).modes
after_kept i sub g [] ms a = a
after_kept i sub g (assume l ∷ cs) ms a = after_kept i sub g cs ms a
after_kept i sub g (guarantee l ∷ cs) ms a = after_kept i sub g cs ms a
after_kept i sub g (ghost_variable x e ∷ cs) ms a = after_kept i sub g cs ms a
after_kept i sub g (constant d ∷ cs) ms a = after_kept i sub g cs ms a
after_kept i sub g (mode m rs es ∷ cs) ms a = after_kept i sub g cs (ms ++ mode_terms i ms m.text rs es ∷ [])
    (both_parts KeepsMode ms (mode_terms i ms m.text rs es ∷ []) a (mode_kept i ms m.text rs es a, tt))
after_kept i sub g («import» k d as_ xs ∷ cs) ms a = after_kept i sub g cs (ms ++ map (imported_mode k d.text) (sub k).modes)
    (both_parts KeepsMode ms (map (imported_mode k d.text) (sub k).modes) a (imported_kept k d.text (sub k).modes (g k)))

mutual
  pub modes_kept : (i : Instance) → AllByRecursion KeepsMode (terms i).modes
  modes_kept (instance d cs is) = after_kept (instance d cs is) (λ k. slice_index_or (terms_each is) (pred k) no_terms) (λ k. each_kept is (pred k))
      (contract_statements d) [] tt

  each_kept : (is : Instances) (j : ℕ) → AllByRecursion KeepsMode (get_or (terms_each is) j no_terms).modes
  each_kept no_instances j = tt
  each_kept (with_instance c k is) zero = modes_kept k
  each_kept (with_instance c k is) (suc j) = each_kept is j
