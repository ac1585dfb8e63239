-- What the rules know of a constant expression is, where it is a value, what kept values give, and its own value.
use Rattle.std.proofs.Common.{◌≡◌, ℕ, zero, suc, ◌≤◌, ◌+◌, ◌*◌, Bool, true, false, cond, List, Option, Some, None, option_map, refl, sym, ap, ◌∙◌, subst, arith, ℤ, pos, negsuc}
use Rattle.std.specs.Prelude.{max, nat_abs, unsigned_abs, unwrap_or, ◌*ℤ◌}
use Rattle.std.specs.Int.{int_div_euclid, int_rem_euclid}
use Rattle.std.specs.Map.{lookup}
use Rattle.std.specs.Str.{bytes_eq}
use Rattle.std.proofs.lemmas.Bool.{false≢true}
use Rattle.lus_tree.specs.declared.expression.Operator.{Operator}
use Rattle.lus_tree.specs.declared.expression.Operator.TheVariants.{Implies, Or, Xor, And, Less, AtMost, Equal, Differs, AtLeast, More, Add, Sub, Mul, Div, Mod}
use Rattle.lus_tree.specs.Tree.{Name, Expression, truth, number, name, negation, minus, pre, arrow, binary, choice, sampled, merged, call, condact, mode_name}
use Rattle.lus_meaning.specs.Value.{Value, absent, flag, whole, is_absent, not_value, minus_value, on_flags, on_numbers, on_order, equal_values, apply, choose}
use Rattle.lus_meaning.specs.Frame.{empty_frame, entry}
use Rattle.lus_meaning.specs.Meaning.{constant_or}
use Rattle.lus_meaning.specs.Program.{constant_value}
use Rattle.lus_meaning.specs.Scope.{Scope, is_constant_name, value_of_entry, is_constant, is_zero, apply_total, choose_total, size_of, both_weights, greater, greatest_weight, is_heavy, Worth, name_weight, operator_weight, worth_of, constant_of, weight_of}
use Rattle.sys_terms.specs.Fits as fits
use Rattle.sys_parts.specs.Values.{is_small, tame}
use Rattle.term_laws.proofs.Small.{within as less_or_same}
use Rattle.term_laws.proofs.Weights.{value_size, applied_size, chosen_size}
use Rattle.steady_laws.specs.Kept.{kept_value}
use Rattle.steady_laws.proofs.Small.{small_within, tame_small}

abbrev pub IsThere : Value → Type 0
IsThere v = is_absent v ≡ false

pub nothing : {A : Type 0} → true ≡ false → A
nothing e = absurd (false≢true (sym e))

-- ---- sizes and weights

-- a number is of no greater size than the weight
abbrev IsBound : Value → Option ℕ → Type 0
IsBound absent o = Unit {0}
IsBound (flag b) o = Unit {0}
IsBound (whole n) None = ⊥
IsBound (whole n) (Some w) = value_size (whole n) ≤ w

le_trans : (a b c : ℕ) → a ≤ b → b ≤ c → a ≤ c
le_trans a b c h k = omega arith

same_size : (n : ℤ) → unsigned_abs n ≡ nat_abs n
same_size (pos n) = refl
same_size (negsuc n) = refl

bound_kept : (b : Bool) (v : Value) (w : Option ℕ) → IsBound v w → IsBound (cond b absent v) w
bound_kept true v w h = tt
bound_kept false v w h = h

small_bound : (v : Value) (w : Option ℕ) → IsBound v w → is_heavy w ≡ false → is_small v ≡ true
small_bound absent w h e = refl
small_bound (flag b) w h e = refl
small_bound (whole n) None h e = absurd h
small_bound (whole n) (Some w) h e =
    small_within (whole n) (le_trans (value_size (whole n)) w greatest_weight h (less_or_same greatest_weight w e))

-- where what is known is a value, it is this value, which is kept
made : (v : Value) (w : Option ℕ) → IsBound v w → IsThere (cond (is_heavy w) absent v) → (cond (is_heavy w) absent v ≡ v) × (tame v ≡ v)
made v w h t = go (is_heavy w) refl t
  where
    go : (b : Bool) → is_heavy w ≡ b → IsThere (cond b absent v) → (cond b absent v ≡ v) × (tame v ≡ v)
    go true e k = nothing k
    go false e k = (refl, tame_small v (small_bound v w h e))

name_bound : (v : Value) (b : Bool) → (IsThere v → b ≡ true) → IsBound v (cond b (size_of v) (Some 1))
name_bound absent b h = tt
name_bound (flag c) b h = tt
name_bound (whole n) b h =
    subst (λ c. IsBound (whole n) (cond c (Some (nat_abs n)) (Some 1))) (sym (h refl))
    (let e : unsigned_abs n ≡ nat_abs n = same_size n in omega (arith, e))

not_bound : (v : Value) (o : Option ℕ) → IsBound (not_value v) o
not_bound absent o = tt
not_bound (flag b) o = tt
not_bound (whole n) o = tt

same_minus : (n : ℤ) (w : ℕ) → value_size (whole n) ≤ w → value_size (minus_value (whole n)) ≤ w
same_minus (pos zero) w h = h
same_minus (pos (suc n)) w h = h
same_minus (negsuc n) w h = h

minus_bound : (v : Value) (w : Option ℕ) → IsBound v w → IsBound (minus_value v) w
minus_bound absent w h = tt
minus_bound (flag b) w h = tt
minus_bound (whole n) None h = absurd h
minus_bound (whole n) (Some w) h = same_minus n w h

-- ---- operators

flags_bound : (f : Bool → Bool → Bool) (v w : Value) (o : Option ℕ) → IsBound (on_flags f v w) o
flags_bound f (flag a) (flag b) o = tt
flags_bound f absent w o = tt
flags_bound f (whole n) w o = tt
flags_bound f (flag a) absent o = tt
flags_bound f (flag a) (whole n) o = tt

order_bound : (f : ℤ → ℤ → Bool) (v w : Value) (o : Option ℕ) → IsBound (on_order f v w) o
order_bound f (whole a) (whole b) o = tt
order_bound f absent w o = tt
order_bound f (flag n) w o = tt
order_bound f (whole a) absent o = tt
order_bound f (whole a) (flag n) o = tt

equal_bound : (v w : Value) (o : Option ℕ) → IsBound (equal_values v w) o
equal_bound (flag a) (flag b) o = tt
equal_bound (whole a) (whole b) o = tt
equal_bound absent w o = tt
equal_bound (flag a) absent o = tt
equal_bound (flag a) (whole n) o = tt
equal_bound (whole a) absent o = tt
equal_bound (whole a) (flag n) o = tt

-- of two numbers
two_bound : (f : ℤ → ℤ → ℤ) (v w : Value) (o : Option ℕ) → ((m n : ℤ) → v ≡ whole m → w ≡ whole n → IsBound (whole (f m n)) o) →
    IsBound (on_numbers f v w) o
two_bound f (whole m) (whole n) o h = h m n refl refl
two_bound f absent w o h = tt
two_bound f (flag b) w o h = tt
two_bound f (whole m) absent o h = tt
two_bound f (whole m) (flag b) o h = tt

-- with the weights of both
weights_bound : (f : ℤ → ℤ → ℤ) (g : ℕ → ℕ → ℕ) (r : (m n : ℤ) (x y : ℕ) → unsigned_abs m ≤ x → unsigned_abs n ≤ y → unsigned_abs (f m n) ≤ g x y)
    (v w : Value) (x y : Option ℕ) → IsBound v x → IsBound w y → IsBound (on_numbers f v w) (both_weights g x y)
weights_bound f g r (whole m) (whole n) (Some x) (Some y) h k = r m n x y h k
weights_bound f g r (whole m) (whole n) None y h k = absurd h
weights_bound f g r (whole m) (whole n) (Some x) None h k = absurd k
weights_bound f g r absent w x y h k = tt
weights_bound f g r (flag b) w x y h k = tt
weights_bound f g r (whole m) absent x y h k = tt
weights_bound f g r (whole m) (flag b) x y h k = tt

-- the first factor's size counts, or the second one's
left_bound : (v w : Value) (y : Option ℕ) → IsBound w y → IsBound (on_numbers (λ a b. a *ℤ b) v w) (both_weights (λ v w. v * w) (size_of v) y)
left_bound (whole m) (whole n) (Some y) k =
    subst (λ z. unsigned_abs (m *ℤ n) ≤ z * y) (same_size m)
    (applied_size Mul true (whole m) (whole n) (unsigned_abs m) y tt (omega arith) k)
left_bound (whole m) (whole n) None k = absurd k
left_bound absent w y k = tt
left_bound (flag b) w y k = tt
left_bound (whole m) absent y k = tt
left_bound (whole m) (flag b) y k = tt

right_bound : (v w : Value) (x : Option ℕ) → IsBound v x → IsBound (on_numbers (λ a b. a *ℤ b) v w) (both_weights (λ v w. v * w) (size_of w) x)
right_bound (whole m) (whole n) (Some x) h =
    subst (λ z. unsigned_abs (m *ℤ n) ≤ z * x) (same_size n)
    (applied_size Mul false (whole m) (whole n) x (unsigned_abs n) tt h (omega arith))
right_bound (whole m) (whole n) None h = absurd h
right_bound absent w x h = tt
right_bound (flag b) w x h = tt
right_bound (whole m) absent x h = tt
right_bound (whole m) (flag b) x h = tt

-- a divisor that is not 0
divisor : (n : ℤ) → is_zero (whole n) ≡ false → fits.is_zero n ≡ false
divisor (pos zero) e = e
divisor (pos (suc n)) e = refl
divisor (negsuc n) e = refl

divided_bound : (b : Bool) (v w : Value) (x : Option ℕ) → is_zero w ≡ b → IsBound v x →
    IsBound (cond b absent (on_numbers int_div_euclid v w)) (cond b None (option_map (max 1) x))
divided_bound true v w x e h = tt
divided_bound false (whole m) (whole n) (Some x) e h =
    applied_size Div true (whole m) (whole n) x (unsigned_abs n) (divisor n e) h (omega arith)
divided_bound false (whole m) (whole n) None e h = absurd h
divided_bound false absent w x e h = tt
divided_bound false (flag b) w x e h = tt
divided_bound false (whole m) absent x e h = tt
divided_bound false (whole m) (flag b) x e h = tt

rest_bound : (b : Bool) (v w : Value) → is_zero w ≡ b → IsBound (cond b absent (on_numbers int_rem_euclid v w)) (cond b None (size_of w))
rest_bound true v w e = tt
rest_bound false (whole m) (whole n) e =
    subst (λ z. unsigned_abs (int_rem_euclid m n) ≤ z) (same_size n)
    (applied_size Mod true (whole m) (whole n) (unsigned_abs m) (unsigned_abs n) (divisor n e) (omega arith) (omega arith))
rest_bound false absent w e = tt
rest_bound false (flag b) w e = tt
rest_bound false (whole m) absent e = tt
rest_bound false (whole m) (flag b) e = tt

product_bound : (c : Bool) (a b : Worth) → IsBound a.value a.weight → IsBound b.value b.weight →
    IsBound (apply Mul a.value b.value) (operator_weight Mul c a b)
product_bound true a b h k = left_bound a.value b.value b.weight k
product_bound false a b h k = right_bound a.value b.value a.weight h

applied_bound : (o : Operator) (c : Bool) (a b : Worth) → IsBound a.value a.weight → IsBound b.value b.weight →
    IsBound (apply_total o a.value b.value) (operator_weight o c a b)
applied_bound Implies c a b h k = flags_bound _ a.value b.value None
applied_bound Or c a b h k = flags_bound _ a.value b.value None
applied_bound Xor c a b h k = flags_bound _ a.value b.value None
applied_bound And c a b h k = flags_bound _ a.value b.value None
applied_bound Less c a b h k = order_bound _ a.value b.value None
applied_bound AtMost c a b h k = order_bound _ a.value b.value None
applied_bound AtLeast c a b h k = order_bound _ a.value b.value None
applied_bound More c a b h k = order_bound _ a.value b.value None
applied_bound Equal c a b h k = equal_bound a.value b.value None
applied_bound Differs c a b h k = not_bound (equal_values a.value b.value) None
applied_bound Add c a b h k =
    weights_bound _ (λ v w. v + w) (λ m n x y l r. applied_size Add true (whole m) (whole n) x y tt l r) a.value b.value a.weight b.weight h k
applied_bound Sub c a b h k =
    weights_bound _ (λ v w. v + w) (λ m n x y l r. applied_size Sub true (whole m) (whole n) x y tt l r) a.value b.value a.weight b.weight h k
applied_bound Mul c a b h k = product_bound c a b h k
applied_bound Div c a b h k = divided_bound (is_zero b.value) a.value b.value a.weight refl h
applied_bound Mod c a b h k = rest_bound (is_zero b.value) a.value b.value refl

number_chosen : (c : Value) (m n : ℤ) (x y : Option ℕ) → IsBound (whole m) x → IsBound (whole n) y →
    IsBound (choose c (whole m) (whole n)) (greater x y)
number_chosen absent m n x y h k = tt
number_chosen (whole z) m n x y h k = tt
number_chosen (flag b) m n None y h k = absurd h
number_chosen (flag b) m n (Some x) None h k = absurd k
number_chosen (flag true) m n (Some x) (Some y) h k = chosen_size (flag true) (whole m) (whole n) x y h k
number_chosen (flag false) m n (Some x) (Some y) h k = chosen_size (flag false) (whole m) (whole n) x y h k

flag_chosen : (c : Value) (a b : Bool) (o : Option ℕ) → IsBound (choose c (flag a) (flag b)) o
flag_chosen absent a b o = tt
flag_chosen (whole z) a b o = tt
flag_chosen (flag true) a b o = tt
flag_chosen (flag false) a b o = tt

chosen_bound : (c v w : Value) (x y : Option ℕ) → IsBound v x → IsBound w y → IsBound (choose_total c v w) (greater x y)
chosen_bound c (whole m) (whole n) x y h k = number_chosen c m n x y h k
chosen_bound c (flag a) (flag b) x y h k = flag_chosen c a b (greater x y)
chosen_bound c absent w x y h k = tt
chosen_bound c (flag a) absent x y h k = tt
chosen_bound c (flag a) (whole n) x y h k = tt
chosen_bound c (whole m) absent x y h k = tt
chosen_bound c (whole m) (flag b) x y h k = tt

-- ---- what has a value has operands with values

not_there : (v : Value) → IsThere (not_value v) → IsThere v
not_there absent t = nothing t
not_there (flag b) t = refl
not_there (whole n) t = refl

minus_there : (v : Value) → IsThere (minus_value v) → IsThere v
minus_there absent t = nothing t
minus_there (flag b) t = refl
minus_there (whole n) t = refl

abbrev BothThere : Value → Value → Type 0
BothThere v w = IsThere v × IsThere w

flags_there : (f : Bool → Bool → Bool) (v w : Value) → IsThere (on_flags f v w) → BothThere v w
flags_there f (flag a) (flag b) t = (refl, refl)
flags_there f absent w t = nothing t
flags_there f (whole n) w t = nothing t
flags_there f (flag a) absent t = nothing t
flags_there f (flag a) (whole n) t = nothing t

numbers_there : (f : ℤ → ℤ → ℤ) (v w : Value) → IsThere (on_numbers f v w) → BothThere v w
numbers_there f (whole a) (whole b) t = (refl, refl)
numbers_there f absent w t = nothing t
numbers_there f (flag n) w t = nothing t
numbers_there f (whole a) absent t = nothing t
numbers_there f (whole a) (flag n) t = nothing t

order_there : (f : ℤ → ℤ → Bool) (v w : Value) → IsThere (on_order f v w) → BothThere v w
order_there f (whole a) (whole b) t = (refl, refl)
order_there f absent w t = nothing t
order_there f (flag n) w t = nothing t
order_there f (whole a) absent t = nothing t
order_there f (whole a) (flag n) t = nothing t

equal_there : (v w : Value) → IsThere (equal_values v w) → BothThere v w
equal_there (flag a) (flag b) t = (refl, refl)
equal_there (whole a) (whole b) t = (refl, refl)
equal_there absent w t = nothing t
equal_there (flag a) absent t = nothing t
equal_there (flag a) (whole n) t = nothing t
equal_there (whole a) absent t = nothing t
equal_there (whole a) (flag n) t = nothing t

undivided : (b : Bool) (v : Value) → IsThere (cond b absent v) → cond b absent v ≡ v
undivided true v t = nothing t
undivided false v t = refl

total_there : (o : Operator) (v w : Value) → IsThere (apply_total o v w) → apply_total o v w ≡ apply o v w
total_there Implies v w t = refl
total_there Or v w t = refl
total_there Xor v w t = refl
total_there And v w t = refl
total_there Less v w t = refl
total_there AtMost v w t = refl
total_there Equal v w t = refl
total_there Differs v w t = refl
total_there AtLeast v w t = refl
total_there More v w t = refl
total_there Add v w t = refl
total_there Sub v w t = refl
total_there Mul v w t = refl
total_there Div v w t = undivided (is_zero w) (apply Div v w) t
total_there Mod v w t = undivided (is_zero w) (apply Mod v w) t

operands_there : (o : Operator) (v w : Value) → IsThere (apply o v w) → BothThere v w
operands_there Implies v w t = flags_there _ v w t
operands_there Or v w t = flags_there _ v w t
operands_there Xor v w t = flags_there _ v w t
operands_there And v w t = flags_there _ v w t
operands_there Less v w t = order_there _ v w t
operands_there AtMost v w t = order_there _ v w t
operands_there AtLeast v w t = order_there _ v w t
operands_there More v w t = order_there _ v w t
operands_there Equal v w t = equal_there v w t
operands_there Differs v w t = equal_there v w (not_there (equal_values v w) t)
operands_there Add v w t = numbers_there _ v w t
operands_there Sub v w t = numbers_there _ v w t
operands_there Mul v w t = numbers_there _ v w t
operands_there Div v w t = numbers_there _ v w t
operands_there Mod v w t = numbers_there _ v w t

record ChoiceThere (c v w : Value) : Type 0 where
  condition : IsThere c
  first : IsThere v
  second : IsThere w
  made : choose_total c v w ≡ choose c v w

alike_there : (c v w : Value) → IsThere (choose c v w) → IsThere v → IsThere w → choose_total c v w ≡ choose c v w → ChoiceThere c v w
alike_there absent v w t f s e = nothing t
alike_there (flag b) v w t f s e = record { condition = refl; first = f; second = s; made = e }
alike_there (whole n) v w t f s e = nothing t

choice_there : (c v w : Value) → IsThere (choose_total c v w) → ChoiceThere c v w
choice_there c (flag a) (flag b) t = alike_there c (flag a) (flag b) t refl refl refl
choice_there c (whole a) (whole b) t = alike_there c (whole a) (whole b) t refl refl refl
choice_there c absent w t = nothing t
choice_there c (flag a) absent t = nothing t
choice_there c (flag a) (whole b) t = nothing t
choice_there c (whole a) absent t = nothing t
choice_there c (whole a) (flag b) t = nothing t

-- ---- expressions

-- kept values and those of the constants both give this value
abbrev pub Same : List (Name × Value) → Expression → Value → Type 0
Same cs e v = (kept_value cs e ≡ v) × (constant_value cs e ≡ v)

module _ (s : Scope) (cs : List (Name × Value))
    (light : (x : Name) → IsThere (value_of_entry s x) → is_constant_name s x ≡ true)
    (found : (x : Name) → IsThere (value_of_entry s x) → lookup (bytes_eq x) cs ≡ Some (value_of_entry s x)) where
  bound : (e : Expression) → IsBound (constant_of s e) (weight_of s e)
  bound (truth p b) = tt
  bound (number p n) = bound_kept (is_heavy (Some n)) (whole (pos n)) (Some n) (omega arith)
  bound (name p x) =
      bound_kept (is_heavy (name_weight s x)) (value_of_entry s x) (name_weight s x) (name_bound (value_of_entry s x) (is_constant_name s x) (light x))
  bound (negation p a) = not_bound (constant_of s a) None
  bound (minus p a) = bound_kept (is_heavy (weight_of s a)) _ (weight_of s a) (minus_bound (constant_of s a) (weight_of s a) (bound a))
  bound (binary p o a b) = bound_kept (is_heavy (operator_weight o (is_constant s a) (worth_of s a) (worth_of s b))) _ _
      (applied_bound o (is_constant s a) (worth_of s a) (worth_of s b) (bound a) (bound b))
  bound (choice p a b d) = bound_kept (is_heavy (greater (weight_of s b) (weight_of s d))) _ _
      (chosen_bound (constant_of s a) (constant_of s b) (constant_of s d) (weight_of s b) (weight_of s d) (bound b) (bound d))
  bound (pre p k a) = tt
  bound (arrow p k a b) = tt
  bound (sampled p a b x) = tt
  bound (merged p x a b) = tt
  bound (call p k f as_) = tt
  bound (condact p k a f as_ ds) = tt
  bound (mode_name p d m) = tt

  pub same : (e : Expression) → IsThere (constant_of s e) → Same cs e (constant_of s e)
  same (truth p b) t = (refl, refl)
  same (number p n) t =
      let m = made (whole (pos n)) (Some n) (omega arith) t in (m.1 ∙ sym m.0, sym m.0)
  same (name p x) t =
      let m = made (value_of_entry s x) (name_weight s x) (name_bound (value_of_entry s x) (is_constant_name s x) (light x)) t in
      let f = found x (subst IsThere m.0 t) in (
        ap (λ o. unwrap_or o absent) f ∙ sym m.0,
        ap (λ o. constant_or o (λ u. true) (entry empty_frame x) 0) f ∙ sym m.0,
      )
  same (negation p a) t =
      let r = same a (not_there (constant_of s a) t) in (ap not_value r.0, ap not_value r.1)
  same (minus p a) t =
      let m = made (minus_value (constant_of s a)) (weight_of s a) (minus_bound (constant_of s a) (weight_of s a) (bound a)) t in
      let r = same a (minus_there (constant_of s a) (subst IsThere m.0 t)) in
      (ap (λ v. tame (minus_value v)) r.0 ∙ m.1 ∙ sym m.0, ap minus_value r.1 ∙ sym m.0)
  same (binary p o a b) t =
      let m = made (apply_total o (constant_of s a) (constant_of s b)) (operator_weight o (is_constant s a) (worth_of s a) (worth_of s b))
      (applied_bound o (is_constant s a) (worth_of s a) (worth_of s b) (bound a) (bound b)) t in
      let e = total_there o (constant_of s a) (constant_of s b) (subst IsThere m.0 t) in
      let q = operands_there o (constant_of s a) (constant_of s b) (subst IsThere (m.0 ∙ e) t) in
      let l = same a q.0 in
      let r = same b q.1 in (
        ap (λ v. tame (apply_total o v (kept_value cs b))) l.0 ∙ ap (λ w. tame (apply_total o (constant_of s a) w)) r.0 ∙ m.1 ∙ sym m.0,
        ap (λ v. apply o v (constant_value cs b)) l.1 ∙ ap (apply o (constant_of s a)) r.1 ∙ sym e ∙ sym m.0,
      )
  same (choice p a b d) t =
      let m = made (choose_total (constant_of s a) (constant_of s b) (constant_of s d)) (greater (weight_of s b) (weight_of s d))
      (chosen_bound (constant_of s a) (constant_of s b) (constant_of s d) (weight_of s b) (weight_of s d) (bound b) (bound d)) t in
      let q = choice_there (constant_of s a) (constant_of s b) (constant_of s d) (subst IsThere m.0 t) in
      let l = same a q.condition in
      let f = same b q.first in
      let r = same d q.second in (
        ap (λ v. choose_total v (kept_value cs b) (kept_value cs d)) l.0
            ∙ ap (λ v. choose_total (constant_of s a) v (kept_value cs d)) f.0
            ∙ ap (λ v. choose_total (constant_of s a) (constant_of s b) v) r.0 ∙ sym m.0,
        ap (λ v. choose v (constant_value cs b) (constant_value cs d)) l.1
            ∙ ap (λ v. choose (constant_of s a) v (constant_value cs d)) f.1
            ∙ ap (λ v. choose (constant_of s a) (constant_of s b) v) r.1 ∙ sym q.made ∙ sym m.0,
      )
  same (pre p k a) t = nothing t
  same (arrow p k a b) t = nothing t
  same (sampled p a b x) t = nothing t
  same (merged p x a b) t = nothing t
  same (call p k f as_) t = nothing t
  same (condact p k a f as_ ds) t = nothing t
  same (mode_name p d m) t = nothing t
