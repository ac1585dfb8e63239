-- A worked program with an assumption has what the laws of the translation ask.
use Rattle.std.proofs.Common.{◌≡◌, ℕ, zero, suc, pred, ◌<◌, Bool, true, false, ◌||◌, cond, List, [], ◌∷◌, Option, Some, None, is_some, unwrap_or, slice_get, refl, ap, sym, ◌∙◌, arith, codes}
use Rattle.std.specs.Str.{bytes_eq}
use Rattle.std.proofs.lemmas.Bool.{false≢true}
use Rattle.lus_tree.specs.declared.place.Sort.{Sort}
use Rattle.lus_tree.specs.declared.place.Sort.TheVariants.{Bool as Flags, Int as Numbers}
use Rattle.lus_tree.specs.Tree.{Name}
use Rattle.lus_meaning.specs.Scene.{Instance}
use Rattle.lus_meaning.specs.Run.{sort_of_name}
use Rattle.lus_meaning.specs.Slots.{Slot, slots}
use Rattle.translation_rows.specs.AssumingRow.{assuming}
use Rattle.sys_meaning.specs.Slot.{Spot, beat, named, memory, starting, so_far, held, place_of, number_in}
use Rattle.sys_meaning.specs.Items.{Key}
use Rattle.sys_meaning.specs.System.{number_of}
use Rattle.sys_meaning.specs.Law.{TreeDistinct}
use Rattle.sys_meaning.specs.WellTyped.{TreeFits, WellTyped, HasPlace, slot_sort}

abbrev pub no_modes : Instance → Key → Type 0
no_modes j key = ⊥

-- node part(a : int) returns (o : int); (*@contract assume "positive" 0 < a; *) let o = a; assert a < 5; tel

assuming_fits : TreeFits no_modes assuming
assuming_fits = (
  record {
    once = (refl, (refl, tt));
    contract = (((refl, refl, tt, tt, (refl, refl)), refl), tt);
    streams = (
      record { name = record { stream = refl; declared = refl; clock = refl }; sort = refl; clock = tt },
      (record { name = record { stream = refl; declared = refl; clock = refl }; sort = refl; clock = tt }, tt),
    );
    equations = (
      record {
        right = (refl, refl);
        names =
            (record { stream = refl; declared = refl; clock = refl }, tt);
        sorts = refl;
        clock = tt;
      },
      tt,
    );
    firsts = λ j l. absurd (omega (arith, l));
    memories = tt;
    starts = tt;
    asserts = (((refl, refl, tt, (refl, refl), tt), refl), tt);
    body_properties = tt;
  },
  tt,
)

no_some : {A : Type 0} {x : A} → None ≡ Some x → ⊥
no_some {A} e = false≢true (ap there e)
  where
    there : Option A → Bool
    there None = false
    there (Some y) = true

assuming_named : (p q : Bool) (z : Sort) → (p || (q || false)) ≡ true →
    unwrap_or (cond p (Some Numbers) (cond q (Some Numbers) None)) Flags ≡ z →
    cond p (Some Numbers) (cond q (Some Numbers) None) ≡ Some z
assuming_named true q z h e = ap Some e
assuming_named false true z h e = ap Some e
assuming_named false false z h e = absurd (false≢true h)

pub assuming_typed : WellTyped no_modes assuming
assuming_typed = record {
  tree = assuming_fits;
  places = there;
  numbered = index;
  slots = (refl, ((refl, refl, refl), ((refl, refl, refl), ((refl, refl), tt))));
  main_inputs = (record { stream = refl; declared = refl; clock = refl }, tt);
}
  where
    sort_there : (x : Name) (p q : Bool) → bytes_eq x (codes "a") ≡ p → bytes_eq x (codes "o") ≡ q →
        sort_of_name assuming x ≡ unwrap_or (cond p (Some Numbers) (cond q (Some Numbers) None)) Flags
    sort_there x true q e d = rw e refl
    sort_there x false true e d = rw (e, d) refl
    sort_there x false false e d = rw (e, d) refl

    there : (ks : List ℕ) (p : Spot) (z : Sort) → HasPlace no_modes ks assuming p z →
        slot_sort no_modes (slots assuming) (ks, p) ≡ Some z
    there [] beat z w = rw w refl
    there [] (named x) z w =
        assuming_named (bytes_eq x (codes "a")) (bytes_eq x (codes "o")) z w.0 (sym (sort_there x (bytes_eq x
        (codes "a")) (bytes_eq x (codes "o")) refl refl) ∙ w.2)
    there [] (memory k) z w = absurd (no_some w.2)
    there [] (starting k) z w = absurd (no_some w.1)
    there [] so_far z w = rw w.0 refl
    there [] (held k x) z w = let l : pred k < 0 = w.3.call.listed in absurd (omega arith)
    there (k ∷ ks) p z w = let l : pred k < 0 = w.0.listed in absurd (omega arith)

    some_slot : (p q : Slot) → Some p ≡ Some q → p ≡ q
    some_slot p q e = ap inside e
      where
        inside : Option Slot → Slot
        inside None = p
        inside (Some r) = r

    index : (k : ℕ) (q : Slot) → slice_get (slots assuming) k ≡ Some q →
        number_in (slots assuming) (place_of q) ≡ k
    index zero q e = rw (sym (some_slot _ q e)) refl
    index (suc zero) q e = rw (sym (some_slot _ q e)) refl
    index (suc (suc zero)) q e = rw (sym (some_slot _ q e)) refl
    index (suc (suc (suc zero))) q e = rw (sym (some_slot _ q e)) refl
    index (suc (suc (suc (suc k)))) q e = absurd (false≢true (ap is_some e))

pub assuming_distinct : TreeDistinct assuming (number_of assuming) []
assuming_distinct = ((refl, tt), tt)
