-- Words give one thing at most.
use Rattle.std.proofs.Common.{◌≡◌, ◌+◌, ◌≤◌, ◌-◌, arith, length, get_or, drop, take, map, ◌⊎◌, inl, inr, ℕ, suc, true, false, List, [], ◌∷◌, Option, Some, None, MatchOption, codes, refl, sym, ap, ◌∙◌, subst}
use Rattle.std.proofs.lemmas.List.{take_all}
use Rattle.kind_main.specs.declared.options.Engines.{Engines}
use Rattle.kind_main.specs.declared.options.Engines.TheVariants as e
use Rattle.kind_main.specs.declared.options.Options.{Options}
use Rattle.kind_main.specs.declared.words.Command.{Command}
use Rattle.kind_main.specs.declared.words.Command.TheVariants.{Prove, Replay}
use Rattle.board_core.specs.Plans.{IsWithin}
use Rattle.kind_main.specs.Words as W
use Rattle.kind_main.specs.Words.{AreProve, AreReplay, AreNoCommand, IsCommand, IsProofOf, depth_or}
use Rattle.kind_main.specs.Given.{Given, nothing, is_option, engines_word, GivesFile, GivesOption, AreGiven}

no_file : (w : List ℕ) → is_option w ≡ false → (w ≡ codes "--depth") ⊎ (w ≡ codes "--engines") → ⊥
no_file w h (inl d) = let f : is_option (codes "--depth") ≡ false = subst (λ x. is_option x ≡ false) d h in absurd cc
no_file w h (inr d) = let f : is_option (codes "--engines") ≡ false = subst (λ x. is_option x ≡ false) d h in absurd cc

option_word : (w v : List ℕ) (h g : Given) → GivesOption w v h g → (w ≡ codes "--depth") ⊎ (w ≡ codes "--engines")
option_word w v h g (inl d) = inl d.spelled
option_word w v h g (inr d) = inr d.spelled

not_both_options : (w : List ℕ) → w ≡ codes "--depth" → w ≡ codes "--engines" → ⊥
not_both_options w d f = let x : codes "--depth" ≡ codes "--engines" = sym d ∙ f in absurd cc

abbrev head_of : List ℕ → ℕ
head_of [] = 0
head_of (b ∷ bs) = b

-- the four words differ in this number
abbrev mark : List ℕ → ℕ
mark w = length w + head_of w

one_list : (a b : Engines) → engines_word a ≡ engines_word b → a ≡ b
one_list e.Bounded e.Bounded h = refl
one_list e.Bounded e.Step h = let n : 105 ≡ 119 = ap mark h in absurd (omega (arith, n))
one_list e.Bounded e.BoundedStep h = let n : 105 ≡ 110 = ap mark h in absurd (omega (arith, n))
one_list e.Bounded e.StepBounded h = let n : 105 ≡ 127 = ap mark h in absurd (omega (arith, n))
one_list e.Step e.Bounded h = let n : 119 ≡ 105 = ap mark h in absurd (omega (arith, n))
one_list e.Step e.Step h = refl
one_list e.Step e.BoundedStep h = let n : 119 ≡ 110 = ap mark h in absurd (omega (arith, n))
one_list e.Step e.StepBounded h = let n : 119 ≡ 127 = ap mark h in absurd (omega (arith, n))
one_list e.BoundedStep e.Bounded h = let n : 110 ≡ 105 = ap mark h in absurd (omega (arith, n))
one_list e.BoundedStep e.Step h = let n : 110 ≡ 119 = ap mark h in absurd (omega (arith, n))
one_list e.BoundedStep e.BoundedStep h = refl
one_list e.BoundedStep e.StepBounded h = let n : 110 ≡ 127 = ap mark h in absurd (omega (arith, n))
one_list e.StepBounded e.Bounded h = let n : 127 ≡ 105 = ap mark h in absurd (omega (arith, n))
one_list e.StepBounded e.Step h = let n : 127 ≡ 119 = ap mark h in absurd (omega (arith, n))
one_list e.StepBounded e.BoundedStep h = let n : 127 ≡ 110 = ap mark h in absurd (omega (arith, n))
one_list e.StepBounded e.StepBounded h = refl

one_option : (w v : List ℕ) (x y g h : Given) → x ≡ y → GivesOption w v x g → GivesOption w v y h → g ≡ h
one_option w v x y g h s (inl a) (inl b) =
    let n : a.number ≡ b.number = sym a.named.value ∙ b.named.value in
    a.gives ∙ (ap (λ (z : Given). record z { depth = Some a.number }) s
    ∙ (ap (λ k. record y { depth = Some k }) n ∙ sym b.gives))
one_option w v x y g h s (inl a) (inr b) = absurd (not_both_options w a.spelled b.spelled)
one_option w v x y g h s (inr a) (inl b) = absurd (not_both_options w b.spelled a.spelled)
one_option w v x y g h s (inr a) (inr b) =
    let n : a.list ≡ b.list = one_list a.list b.list (sym a.named ∙ b.named) in
    a.gives ∙ (ap (λ (z : Given). record z { engines = Some a.list }) s
    ∙ (ap (λ k. record y { engines = Some k }) n ∙ sym b.gives))

one_file : (w : List ℕ) (x y g h : Given) → x ≡ y → GivesFile w x g → GivesFile w y h → g ≡ h
one_file w x y g h s a b = a.gives ∙ (ap (λ (z : Given). record z { file = Some w }) s ∙ sym b.gives)

abbrev pub Split : (w v : List ℕ) (words : List (List ℕ)) (g : Given) → Type 0
Split w v words g =
    ((h : Given) × AreGiven (v ∷ words) h × GivesFile w h g) ⊎ ((h : Given) × AreGiven words h × GivesOption w v h g)

one_split : (w v : List ℕ) (words : List (List ℕ)) (g h : Given)
    → ((x y : Given) → AreGiven (v ∷ words) x → AreGiven (v ∷ words) y → x ≡ y) → ((x y : Given) → AreGiven words x → AreGiven words y → x ≡ y)
    → Split w v words g → Split w v words h → g ≡ h
one_split w v words g h longer shorter (inl (x, p, q)) (inl (y, r, s)) = one_file w x y g h (longer x y p r) q s
one_split w v words g h longer shorter (inl (x, p, q)) (inr (y, r, s)) = absurd (no_file w q.spelled (option_word w v y h s))
one_split w v words g h longer shorter (inr (x, p, q)) (inl (y, r, s)) = absurd (no_file w s.spelled (option_word w v x g q))
one_split w v words g h longer shorter (inr (x, p, q)) (inr (y, r, s)) = one_option w v x y g h (shorter x y p r) q s

pub one_given : (words : List (List ℕ)) (g h : Given) → AreGiven words g → AreGiven words h → g ≡ h
one_given [] g h a b = a ∙ sym b
one_given (w ∷ []) g h a b = one_file w nothing nothing g h refl a b
one_given (w ∷ v ∷ words) g h a b =
    one_split w v words g h (λ x y. one_given (v ∷ words) x y) (λ x y. one_given words x y) a b

-- ---- what the words do not give

no_dashes : (w : List ℕ) → is_option w ≡ true → is_option w ≡ false → ⊥
no_dashes w a b = absurd cc

module _ (w v : List ℕ) (words : List (List ℕ)) where
  pub no_shorter : is_option w ≡ true → ((g : Given) → AreGiven words g → ⊥) → (g : Given) → AreGiven (w ∷ v ∷ words) g → ⊥
  no_shorter o none g (inl (x, p, q)) = no_dashes w o q.spelled
  no_shorter o none g (inr (x, p, q)) = none x p

  pub no_option : is_option w ≡ true → (h : Given) → AreGiven words h → ((g : Given) → GivesOption w v h g → ⊥) → (g : Given)
      → AreGiven (w ∷ v ∷ words) g → ⊥
  no_option o h is none g (inl (x, p, q)) = no_dashes w o q.spelled
  no_option o h is none g (inr (x, p, q)) = none g (subst (λ y. GivesOption w v y g) (one_given words x h p is) q)

  pub no_longer : is_option w ≡ false → ((g : Given) → AreGiven (v ∷ words) g → ⊥) → (g : Given) → AreGiven (w ∷ v ∷ words) g → ⊥
  no_longer o none g (inl (x, p, q)) = none x p
  no_longer o none g (inr (x, p, q)) = no_file w o (option_word w v x g q)

  pub no_second : is_option w ≡ false → (h : Given) → AreGiven (v ∷ words) h → ((g : Given) → GivesFile w h g → ⊥) → (g : Given)
      → AreGiven (w ∷ v ∷ words) g → ⊥
  no_second o h is none g (inl (x, p, q)) = none g (subst (λ y. GivesFile w y g) (one_given (v ∷ words) x h p is) q)
  no_second o h is none g (inr (x, p, q)) = no_file w o (option_word w v x g q)

two_less : (n : ℕ) → suc (suc n) - 2 ≡ n
two_less n = omega arith

one_less : (n : ℕ) → suc (suc n) - 1 ≡ suc n
one_less n = omega arith

two_items : {X : Type 0} (xs : List X) (a b : X) → 2 ≤ length xs → a ≡ get_or xs 0 a → b ≡ get_or xs 1 b
    → xs ≡ a ∷ b ∷ take (length xs - 2) (drop 2 xs)
two_items [] a b le p q = absurd (omega (arith, le))
two_items (x ∷ []) a b le p q = absurd (omega (arith, le))
two_items (x ∷ y ∷ xs) a b le p q =
    let f : a ≡ x = p in
    let g : b ≡ y = q in
    rw (f, g) (ap (λ l. x ∷ y ∷ l) (sym (ap (λ n. take n xs) (two_less (length xs)) ∙ take_all (length xs) xs (omega arith))))

one_item : {X : Type 0} (xs : List X) (a b : X) → 2 ≤ length xs → a ≡ get_or xs 0 a → b ≡ get_or xs 1 b
    → take (length xs - 1) (drop 1 xs) ≡ b ∷ take (length xs - 2) (drop 2 xs)
one_item [] a b le p q = absurd (omega (arith, le))
one_item (x ∷ []) a b le p q = absurd (omega (arith, le))
one_item (x ∷ y ∷ xs) a b le p q =
    let g : b ≡ y = q in
    rw g (ap (λ n. take n (y ∷ xs)) (one_less (length xs)) ∙ ap (λ n. y ∷ take n xs) (sym (two_less (length xs))))

module _ {Z : Type 0} (bytes : Z → List ℕ) (xs : List Z) (a b : Z) (le : 2 ≤ length xs) (p : a ≡ get_or xs 0 a) (q : b ≡ get_or xs 1 b) where
  pub words_here : map bytes xs ≡ bytes a ∷ bytes b ∷ map bytes (take (length xs - 2) (drop 2 xs))
  words_here = ap (map bytes) (two_items xs a b le p q)

  pub words_next : map bytes (take (length xs - 1) (drop 1 xs)) ≡ bytes b ∷ map bytes (take (length xs - 2) (drop 2 xs))
  words_next = ap (map bytes) (one_item xs a b le p q)

module _ {R : Type 0} (view : R → Given) (w v : List ℕ) (words all : List (List ℕ)) (here : all ≡ w ∷ v ∷ words) where
  pub added_option : is_option w ≡ true → (h : Given) → AreGiven words h → (r : Option R)
      → MatchOption r ((g : Given) → GivesOption w v h g → ⊥) (λ x. GivesOption w v h (view x))
      → MatchOption r ((g : Given) → AreGiven all g → ⊥) (λ x. AreGiven all (view x))
  added_option o h is None none = λ g a. no_option w v words o h is none g (subst (λ ws. AreGiven ws g) here a)
  added_option o h is (Some x) some = subst (λ ws. AreGiven ws (view x)) (sym here) (inr (h, is, some))

  pub added_file : is_option w ≡ false → (h : Given) → AreGiven (v ∷ words) h → (r : Option R)
      → MatchOption r ((g : Given) → GivesFile w h g → ⊥) (λ x. GivesFile w h (view x))
      → MatchOption r ((g : Given) → AreGiven all g → ⊥) (λ x. AreGiven all (view x))
  added_file o h is None none = λ g a. no_second w v words o h is none g (subst (λ ws. AreGiven ws g) here a)
  added_file o h is (Some x) some = subst (λ ws. AreGiven ws (view x)) (sym here) (inl (h, is, some))

-- ---- the words of a proof

within_split : (w v : List ℕ) (words : List (List ℕ)) (g : Given)
    → ((x : Given) → AreGiven (v ∷ words) x → IsWithin 1 1000 (depth_or x.depth)) → ((x : Given) → AreGiven words x → IsWithin 1 1000 (depth_or x.depth))
    → Split w v words g → IsWithin 1 1000 (depth_or g.depth)
within_split w v words g longer shorter (inl (x, p, q)) = subst (λ (y : Given). IsWithin 1 1000 (depth_or y.depth)) (sym q.gives) (longer x p)
within_split w v words g longer shorter (inr (x, p, inl q)) =
    subst (λ (y : Given). IsWithin 1 1000 (depth_or y.depth)) (sym q.gives) (q.named.least, q.named.most)
within_split w v words g longer shorter (inr (x, p, inr q)) = subst (λ (y : Given). IsWithin 1 1000 (depth_or y.depth)) (sym q.gives) (shorter x p)

pub depth_within : (words : List (List ℕ)) (g : Given) → AreGiven words g → IsWithin 1 1000 (depth_or g.depth)
depth_within [] g a = subst (λ (x : Given). IsWithin 1 1000 (depth_or x.depth)) (sym a) (omega arith, omega arith)
depth_within (w ∷ []) g a = subst (λ (x : Given). IsWithin 1 1000 (depth_or x.depth)) (sym a.gives) (omega arith, omega arith)
depth_within (w ∷ v ∷ words) g a = within_split w v words g (λ x h. depth_within (v ∷ words) x h) (λ x h. depth_within words x h) a

one_fewer : (n : ℕ) → suc n - 1 ≡ n
one_fewer n = omega arith

first_item : {X : Type 0} (xs : List X) (a : X) → 1 ≤ length xs → a ≡ get_or xs 0 a → xs ≡ a ∷ take (length xs - 1) (drop 1 xs)
first_item [] a le p = absurd (omega (arith, le))
first_item (x ∷ xs) a le p =
    let f : a ≡ x = p in
    rw f (ap (λ l. x ∷ l) (sym (ap (λ n. take n xs) (one_fewer (length xs)) ∙ take_all (length xs) xs (omega arith))))

pub first_word : {Z : Type 0} (bytes : Z → List ℕ) (xs : List Z) (a : Z) (word : List ℕ) → 1 ≤ length xs → a ≡ get_or xs 0 a → bytes a ≡ word
    → map bytes xs ≡ word ∷ map bytes (take (length xs - 1) (drop 1 xs))
first_word bytes xs a word le p is =
    ap (map bytes) (first_item xs a le p) ∙ ap (λ (w : List ℕ). w ∷ map bytes (take (length xs - 1) (drop 1 xs))) is

module _ (words more : List (List ℕ)) (here : words ≡ codes "prove" ∷ more) where
  no_proof_of : ((g : Given) → AreGiven more g → ⊥) → (file : List ℕ) (o : Options) → AreProve words file o → ⊥
  no_proof_of none file o (W.no_words e f i) = cc
  no_proof_of none file o (W.command others given e f i j) =
      let same : others ≡ more = cc in
      none given (subst (λ ws. AreGiven ws given) same f)

  no_replay_of : (file trace : List ℕ) → AreReplay words file trace → ⊥
  no_replay_of file trace r = let e = r.spelled in cc

  pub no_command : ((g : Given) → AreGiven more g → ⊥) → AreNoCommand words
  no_command none = record { no_proof = no_proof_of none; no_replay = no_replay_of }

  pub is_proof : (g : Given) (c : Command) → AreGiven more g → IsProofOf g c → IsCommand words c
  is_proof g (Prove source options) h p =
      (W.command more g here h p.0 p.1, subst (λ (x : Options). IsWithin 1 1000 x.depth) (sym p.1) (depth_within more g h))
  is_proof g (Replay source trace) h p = absurd p
