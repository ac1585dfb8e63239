-- Lines that are printed one after the other.
use Rattle.std.proofs.Common.{◌≡◌, ◌<◌, ◌≤◌, ◌+◌, inl, inr, ℕ, suc, List, [], ◌∷◌, ◌++◌, Option, length, get_or, take, drop, map, refl, sym, ap, ◌∙◌, arith, append_assoc, append-nil, add-one, subst}
use Rattle.std.specs.Io.KnownBytes.{Appends}
use Rattle.std.proofs.KnownBytes.{Appends-trans, Appends-nil}
use Rattle.std.proofs.Math.Seq.{drop-cons, take-suc}
use Rattle.std.proofs.lemmas.List.{take-append-drop, map-append, take_all}
use Rattle.kind_io.specs.Counts.{Rose}
use Rattle.kind_io.specs.Written.{AppendsFront}
use Rattle.kind_main.specs.Lines.{Line, text_of, memory_line}
use Rattle.kind_main.specs.Printing.{IsSaid, said, unsaid, Printed, whole, broken, stopped, lost}

pub text-append : (ls ms : List Line) → text_of (ls ++ ms) ≡ text_of ls ++ text_of ms
text-append [] ms = refl
text-append (l ∷ ls) ms = ap (λ (t : List ℕ). l ++ t) (text-append ls ms) ∙ sym (append_assoc l (text_of ls) (text_of ms))

pub rose-later : (a b c : ℕ) → a ≤ b → Rose b c → Rose a c
rose-later a b c le r = omega arith

-- what is written behind other bytes
pub front-behind : (old mid new : Option (List ℕ)) (text more all : List ℕ) → (rest : List ℕ) → all ≡ text ++ (more ++ rest)
    → Appends old mid text → AppendsFront mid new more → AppendsFront old new all
front-behind old mid new text more all rest shape a (front, left, split, b) = (
  text ++ front,
  left ++ rest,
  shape ∙ ap (λ (t : List ℕ). text ++ (t ++ rest)) split ∙ ap (λ (t : List ℕ). text ++ t) (append_assoc front left rest) ∙ sym
      (append_assoc text front (left ++ rest)),
  Appends-trans old mid new text front a b,
)

-- the first i lines are written
pub record Writing {Z : Type 0} (bytes : Z → Line) (items : List Z) (i before now : ℕ) (old new : Option (List ℕ)) : Type 0 where
  pub later : before ≤ now
  pub written : Appends old new (text_of (map bytes (take i items)))

pub writing-start : {Z : Type 0} (bytes : Z → Line) (items : List Z) (before : ℕ) (old : Option (List ℕ)) → Writing bytes items 0 before before old old
writing-start bytes items before old = record { later = omega arith; written = Appends-nil old }

-- one more line
module _ {Z : Type 0} (bytes : Z → Line) (items : List Z) (i : ℕ) (item : Z) (inside : i < length items) (is : item ≡ get_or items i item) where
  pub lines-split : map bytes items ≡ map bytes (take i items) ++ bytes item ∷ map bytes (drop (suc i) items)
  lines-split =
      let cons : drop i items ≡ item ∷ drop (suc i) items = drop-cons items i item inside ∙ ap (λ x. x ∷ drop (suc i) items) (sym is) in
      ap (map bytes) (sym (take-append-drop i items)) ∙ map-append bytes (take i items) (drop i items) ∙ ap
      (λ (l : List Z). map bytes (take i items) ++ map bytes l) cons

  pub text-split : text_of (map bytes items) ≡ text_of (map bytes (take i items)) ++ (bytes item ++ text_of (map bytes (drop (suc i) items)))
  text-split = ap text_of lines-split ∙ text-append (map bytes (take i items)) (bytes item ∷ map bytes (drop (suc i) items))

  pub text-next : text_of (map bytes (take (i + 1) items)) ≡ text_of (map bytes (take i items)) ++ bytes item
  text-next =
      let more : take (suc i) items ≡ take i items ++ item ∷ [] = take-suc items i item inside ∙ ap (λ x. take i items ++ x ∷ []) (sym is) in
      rw add-one (ap (λ (l : List Z). text_of (map bytes l)) more ∙ ap text_of (map-append bytes (take i items) (item ∷ [])) ∙ text-append
      (map bytes (take i items)) (bytes item ∷ []) ∙ ap (λ (t : List ℕ). text_of (map bytes (take i items)) ++ t)
      (append-nil (bytes item)))

  pub writing-next : (before mid now : ℕ) (old half new : Option (List ℕ)) → Writing bytes items i before mid old half → mid ≤ now
      → Appends half new (bytes item) → Writing bytes items (i + 1) before now old new
  writing-next before mid now old half new w le a = record {
    later = let l : before ≤ mid = w.later in omega arith;
    written = subst (Appends old new) (sym text-next) (Appends-trans old half new (text_of (map bytes (take i items))) (bytes item) w.written a);
  }

  pub writing-failed : (status before mid now : ℕ) (old half new : Option (List ℕ)) → Writing bytes items i before mid old half
      → Rose mid now → AppendsFront half new (bytes item)
      → Printed (map bytes items) status before now old new 6
  writing-failed status before mid now old half new w r a = broken refl (rose-later before mid now w.later r)
      (front-behind old half new (text_of (map bytes (take i items))) (bytes item) (text_of (map bytes items))
      (text_of (map bytes (drop (suc i) items))) text-split w.written a)

  pub writing-stays : (before mid now : ℕ) (old half new : Option (List ℕ)) → Writing bytes items i before mid old half → mid ≤ now
      → new ≡ half → Writing bytes items i before now old new
  writing-stays before mid now old half new w le e = record {
    later = let l : before ≤ mid = w.later in omega arith;
    written = subst
        (λ o. Appends old o (text_of (map bytes (take i items)))) (sym e) w.written;
  }

  pub writing-stopped : (status before mid now : ℕ) (old half new : Option (List ℕ)) (code : ℕ) → Writing bytes items i before mid old half
      → IsSaid mid now half new code → Printed (map bytes items) status before now old new code
  writing-stopped status before mid now old half new code w (said e (inl a)) =
      stopped (map bytes (take i items)) (bytes item ∷ map bytes (drop (suc i) items)) lines-split e
      (inl (Appends-trans old half new (text_of (map bytes (take i items))) memory_line w.written a))
  writing-stopped status before mid now old half new code w (said e (inr a)) =
      stopped (map bytes (take i items)) (bytes item ∷ map bytes (drop (suc i) items)) lines-split e
      (inr (subst (Appends old new) (append-nil (text_of (map bytes (take i items))))
      (Appends-trans old half new (text_of (map bytes (take i items))) [] w.written a)))
  writing-stopped status before mid now old half new code w (unsaid e r a) =
      lost (map bytes (take i items)) (bytes item ∷ map bytes (drop (suc i) items)) lines-split e (rose-later before mid now w.later r)
      (front-behind old half new (text_of (map bytes (take i items))) memory_line (text_of (map bytes (take i items)) ++ memory_line) []
      (ap (λ (t : List ℕ). text_of (map bytes (take i items)) ++ t) (sym (append-nil memory_line))) w.written a)

-- the last line is written
pub writing-end : {Z : Type 0} (bytes : Z → Line) (items : List Z) (i : ℕ) (status before now : ℕ) (old new : Option (List ℕ))
    → length items ≤ i → Writing bytes items i before now old new
    → Printed (map bytes items) status before now old new status
writing-end bytes items i status before now old new le w =
    whole refl (subst (λ l. Appends old new (text_of (map bytes l))) (take_all i items le) w.written)
