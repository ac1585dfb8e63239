-- What holds of a run with numbers at every turn.
use Rattle.std.specs.Prelude.{ℕ, zero, suc, ◌≡◌, ◌⊎◌, ◌+◌, ◌-◌, ◌<◌, true, false, List, [], ◌∷◌, ◌++◌, length, map, take, slice_get, Some, All, Contains, refl}
use Rattle.std.specs.List.{AllByRecursion}
use Rattle.std.proofs.Common.{sym, ◌∙◌, ap, subst, inl, inr, arith}
use Rattle.std.proofs.Math.Seq.{take-append_seam}
use Rattle.std.proofs.lemmas.List.{append_assoc, append-nil, length-append, length-map, map-append}
use Rattle.std.proofs.lemmas.List.Elements.{All-append, All-push, All-from_recursion, recursion_from_All, Contains-append_left}
use lib.IntN.{ℤ, pos, ◌-ℤ◌}
use Rattle.kind_num.specs.declared.Shape.{Shape}
use Rattle.kind_num.specs.declared.Shape.TheVariants.{Number}
use Rattle.proof_steps.specs.declared.Literal.{Literal}
use Rattle.proof_steps.specs.declared.Literal.TheVariants.{Atom}
use Rattle.proof_steps.specs.View.{Inequality, added}
use Rattle.proof_steps.specs.Rows.{Form, rows_of, columns_of}
use Rattle.proof_steps.specs.Bounds.{split_atom}
use Rattle.proof_steps.specs.Splits.{IsStand, IsSplit, AreSplitsAfter, AreSplits}
use Rattle.cnf_maker.specs.Plain.{IsPlain, IsSmall, IsPlainAtom}
use Rattle.int_simplex.specs.Answers.{IsNew}
use Rattle.int_simplex.specs.State.{State, places_of}
use Rattle.int_simplex.specs.Sound.{IsSound}
use Rattle.line_laws.specs.Lines.{Part, meant}
use Rattle.line_laws.specs.Steps.{HasProducts, SplitStepsFit}
use Rattle.sat_core.specs.Shown.{Shown, with_clause, variables_of, Keeps}
use Rattle.smt_solver.specs.declared.numbers.meanings.Meaning.{Meaning}
use Rattle.smt_solver.specs.Conflicting.{AreMeaningsOf}
use Rattle.smt_solver.specs.Growing.{grown, split_move, split_parts}
use Rattle.smt_solver.specs.Kept.{Course, IsKept, own_form}
use Rattle.smt_solver.specs.Looking.{asserted, HasChecked, IsLeft}
use Rattle.smt_solver.specs.Near.{IsNear, IsRoomy}
use Rattle.smt_solver.specs.Run.{Standing, AreFit, IsRun}
use Rattle.smt_solver.specs.Stops.{IsTableauFor}
use Rattle.smt_solver.specs.Turning.{HasMeanings, IsCounted, IsSplitOff, meaning_of_split}
use Rattle.smt_solver.proofs.Forms.{all-meanings, all-zero}
use Rattle.smt_solver.proofs.Refuting.{rows-grown}
use Rattle.smt_solver.proofs.Splitting.{split-plain}
use Rattle.smt_solver.proofs.SplittingOff.{near-within, near-opposite}
use Rattle.smt_solver.proofs.StopTruth.{kept}
use Rattle.smt_solver.proofs.Turns.{kept-run}
use Rattle.smt_solver.proofs.Variables.{variables-kept, first-there, atoms-there}

-- ---- splits

numbers-after : (f : Form) (earlier pairs : List (ℕ × ℤ)) → AreSplitsAfter f earlier pairs
    → AllByRecursion (λ (p : ℕ × ℤ). slice_get f.shapes p.0 ≡ Some Number) pairs
numbers-after f earlier [] s = tt
numbers-after f earlier ((x, c) ∷ rest) s = (s.0.number, numbers-after f (earlier ++ (x, c) ∷ []) rest s.1)

pub numbers-of : (f : Form) (pairs : List (ℕ × ℤ)) → AreSplits f pairs
    → All (λ (p : ℕ × ℤ). slice_get f.shapes p.0 ≡ Some Number) pairs
numbers-of f pairs s = All-from_recursion (λ (p : ℕ × ℤ). slice_get f.shapes p.0 ≡ Some Number) pairs (numbers-after f [] pairs s)

pub splits-more : (f : Form) (earlier pairs : List (ℕ × ℤ)) (x : ℕ) (c : ℤ) → AreSplitsAfter f earlier pairs
    → IsSplit f (earlier ++ pairs) x c → AreSplitsAfter f earlier (pairs ++ (x, c) ∷ [])
splits-more f earlier [] x c s h = (subst (λ (ps : List (ℕ × ℤ)). IsSplit f ps x c) (append-nil earlier) h, tt)
splits-more f earlier ((y, d) ∷ rest) x c s h = (
  s.0,
  splits-more f (earlier ++ (y, d) ∷ []) rest x c s.1
      (subst (λ (ps : List (ℕ × ℤ)). IsSplit f ps x c) (sym (append_assoc earlier ((y, d) ∷ []) rest)) h),
)

stand-more : (f : Form) (pairs more : List (ℕ × ℤ)) (c : ℕ) (z : ℤ) → IsStand f pairs c z → IsStand f (pairs ++ more) c z
stand-more f pairs more c z (inl e) = inl e
stand-more f pairs more c z (inr (inl b)) = inr (inl b)
stand-more f pairs more c z (inr (inr (inl i))) = inr (inr (inl (Contains-append_left pairs more (c, z) i)))
stand-more f pairs more c z (inr (inr (inr i))) = inr (inr (inr (Contains-append_left pairs more (c, z -ℤ pos 1) i)))

splits-plain : (shapes : List Shape) (pairs : List (ℕ × ℤ)) → AllByRecursion (λ (p : ℕ × ℤ). slice_get shapes p.0 ≡ Some Number) pairs
    → AllByRecursion (IsPlainAtom shapes) (map split_atom pairs)
splits-plain shapes [] h = tt
splits-plain shapes (p ∷ pairs) h = (split-plain shapes p.0 p.1 h.0, splits-plain shapes pairs h.1)

pub plain-with : (f : Form) (pairs : List (ℕ × ℤ)) → IsPlain f → AreSplits f pairs → IsPlain (grown f (map split_atom pairs))
plain-with f pairs p s = All-append (IsPlainAtom f.shapes) f.atoms (map split_atom pairs) p
    (All-from_recursion (IsPlainAtom f.shapes) (map split_atom pairs) (splits-plain f.shapes pairs (numbers-after f [] pairs s)))

-- ---- the parts of the record

module _ (f : Form) (s : Course) (k : IsKept f s) where
  seam : length (f.atoms ++ map split_atom s.pairs) - length s.pairs ≡ length f.atoms
  seam = let a = length-append f.atoms (map split_atom s.pairs) in let b = length-map s.pairs split_atom in omega arith

  pub own : own_form s ≡ f
  own =
      ap (λ (g : Form). of_atoms g.shapes (take (length g.atoms - length s.pairs) g.atoms) g.clauses) k.form
      ∙ ap (λ n. of_atoms f.shapes (take n (f.atoms ++ map split_atom s.pairs)) f.clauses) seam
      ∙ ap (λ atoms. of_atoms f.shapes atoms f.clauses) (take-append_seam f.atoms (map split_atom s.pairs)) where
        of_atoms : (shapes : List Shape) (atoms : List Inequality) (clauses : List (List Literal)) → Form
        of_atoms shapes atoms clauses = record { shapes = shapes; atoms = atoms; clauses = clauses }

  pub plain-form : IsPlain s.work.form
  plain-form = subst IsPlain (sym k.form) (plain-with f s.pairs k.plain k.splits)

  pub rows-form : rows_of s.work.form ≡ rows_of f
  rows-form = ap rows_of k.form ∙ rows-grown (length f.shapes) f.atoms s.pairs

  pub columns-form : columns_of s.work.form ≡ columns_of f
  columns-form = ap columns_of k.form ∙ ap (λ (rows : List (List (ℕ × ℤ))). length f.shapes + length rows) (rows-grown (length f.shapes) f.atoms s.pairs)

  -- with other work over the same form
  pub with-work : (new : Standing) → new.form ≡ s.work.form → IsRun new
      → ((x : Literal) → Contains s.work.search.variables x → Contains new.search.variables x)
      → IsKept f record { work = new; tableau = s.tableau; meanings = s.meanings; pairs = s.pairs }
  with-work new e run wider = record {
    plain = k.plain;
    fit = k.fit;
    form = e ∙ k.form;
    run = run;
    splits = k.splits;
    meanings = subst (λ g. AreMeaningsOf g s.meanings) (sym e) k.meanings;
    near = k.near;
    meant = subst (λ (g : Form). All HasMeanings g.atoms) (sym e) k.meant;
    usable = k.usable;
    given = k.given;
    columns = k.columns;
    stand = k.stand;
    variables = λ n l. wider (Atom (suc n) true) (k.variables n (subst (λ (g : Form). n < length g.atoms) e l));
  }

  pub with-search : (new : Shown) → Keeps s.work.search new → new.variables ≡ s.work.search.variables
      → IsKept f record {
        work = record { form = s.work.form; search = new; moves = s.work.moves; listed = s.work.listed };
        tableau = s.tableau;
        meanings = s.meanings;
        pairs = s.pairs;
      }
  with-search new h e = with-work
      record { form = s.work.form; search = new; moves = s.work.moves; listed = s.work.listed } refl
      (kept-run s.work new k.run h)
      (λ x i. subst (λ (vs : List Literal). Contains vs x) (sym e) i)

  -- with another tableau
  pub with-tableau : (u : State) → u.usable ≡ true → u.given ≡ rows_of f → u.columns ≡ columns_of f
      → ((c : ℕ) → (¬ Contains u.basis c) → IsStand f s.pairs c (places_of u.values c))
      → IsKept f record { work = s.work; tableau = u; meanings = s.meanings; pairs = s.pairs }
  with-tableau u a b c d = record {
    plain = k.plain;
    fit = k.fit;
    form = k.form;
    run = k.run;
    splits = k.splits;
    meanings = k.meanings;
    near = k.near;
    meant = k.meant;
    usable = a;
    given = b;
    columns = c;
    stand = d;
    variables = k.variables;
  }

  abbrev pub start : State
  start = asserted s.tableau s.work.search.trail s.meanings

  pub tableau-for : IsSound start → IsTableauFor f s.pairs s.meanings s.work.search.trail start
  tableau-for sound = record {
    meanings = subst (λ g. AreMeaningsOf g s.meanings) k.form k.meanings;
    sound = sound;
    given = k.given;
    columns = k.columns;
    bounds = refl;
    stand = k.stand;
  }

  pub after-check : (u : State) (pivots : ℕ) → HasChecked start u pivots
      → IsTableauFor f s.pairs s.meanings s.work.search.trail u
  after-check u pivots h =
      kept f s.pairs s.meanings s.work.search.trail start (tableau-for h.before) u pivots h.checked h.after

  pub left-kept : (u : State) (pivots : ℕ) → IsLeft s.tableau u s.work.search.trail s.meanings pivots
      → IsKept f record { work = s.work; tableau = u; meanings = s.meanings; pairs = s.pairs }
  left-kept u pivots h = go h.moved where
    go : ((u ≡ record s.tableau { bounds = u.bounds }) ⊎ HasChecked start u pivots)
        → IsKept f record { work = s.work; tableau = u; meanings = s.meanings; pairs = s.pairs }
    go (inl e) = with-tableau u h.usable (ap (λ (t : State). t.given) e ∙ k.given) (ap (λ (t : State). t.columns) e ∙ k.columns)
        (λ c out. subst (λ (values : List (ℤ × ℤ)). IsStand f s.pairs c (places_of values c)) (sym (ap (λ (t : State). t.values) e))
        (k.stand c (subst (λ (basis : List ℕ). ¬ Contains basis c) (ap (λ (t : State). t.basis) e) out)))
    go (inr d) = let t = after-check u pivots d in with-tableau u h.usable t.given t.columns t.stand

-- one more clause is listed
pub kept-counted : (f : Form) (s : Course) → IsKept f s → (new : Standing) (u : State) (pivots : ℕ) → IsCounted s.work new
    → IsLeft s.tableau u s.work.search.trail s.meanings pivots
    → IsKept f record { work = new; tableau = u; meanings = s.meanings; pairs = s.pairs }
kept-counted f s k new u pivots c l =
    with-work f record { work = s.work; tableau = u; meanings = s.meanings; pairs = s.pairs } (left-kept f s k u pivots l) new c.form c.run
    (λ x i. subst (λ (vs : List Literal). Contains vs x) (sym c.search.variables) (variables-kept s.work.search.variables c.clause x i))

-- ---- a split

split-near : (x : ℕ) (c : ℤ) → IsRoomy c → IsNear (meaning_of_split x c)
split-near x c r = record { above = r.low; below = r.high; lower = λ e. absurd cc }

split-meant : SplitStepsFit → (x : ℕ) (c : ℤ) → IsRoomy c → HasMeanings (split_atom (x, c))
split-meant law x c r =
    let m = recursion_from_All (λ (p : Part). HasProducts (pos 1) (meant p.sign p.atom)) (split_parts 0 x c)
    (law 0 x c (near-within c r.low r.high) (near-opposite c r.low r.high)).meanings in
    record { as_it_stands = m.1.0; opposite = m.0 }

pub kept-split : SplitStepsFit → (f : Form) (s : Course) → IsKept f s → (x : ℕ) (c : ℤ) → IsSplit f s.pairs x c → IsRoomy c
    → (new : Standing) (ms : List Meaning) (pairs : List (ℕ × ℤ)) → IsSplitOff x c s.work new ms
    → ms ≡ s.meanings ++ meaning_of_split x c ∷ [] → pairs ≡ s.pairs ++ (x, c) ∷ []
    → IsKept f record { work = new; tableau = s.tableau; meanings = ms; pairs = pairs }
kept-split law f s k x c h r new ms pairs o e q = record {
  plain = k.plain;
  fit = k.fit;
  form = o.form ∙ ap (λ (g : Form). grown g (split_atom (x, c) ∷ [])) k.form
      ∙ ap (λ (atoms : List Inequality). of_atoms atoms)
      (append_assoc f.atoms (map split_atom s.pairs) (split_atom (x, c) ∷ [])
      ∙ ap (λ (more : List Inequality). f.atoms ++ more)
      (sym (map-append split_atom s.pairs ((x, c) ∷ [])) ∙ ap (map split_atom) (sym q)));
  run = o.run;
  splits = subst (AreSplits f) (sym q) (splits-more f [] s.pairs x c k.splits h);
  meanings = o.meanings;
  near = subst (All IsNear) (sym e) (All-push IsNear s.meanings (meaning_of_split x c) k.near (split-near x c r));
  meant = subst (λ (g : Form). All HasMeanings g.atoms) (sym o.form)
      (All-push HasMeanings s.work.form.atoms (split_atom (x, c)) k.meant (split-meant law x c r));
  usable = k.usable;
  given = k.given;
  columns = k.columns;
  stand = λ d out. subst (λ (ps : List (ℕ × ℤ)). IsStand f ps d (places_of s.tableau.values d)) (sym q)
      (stand-more f s.pairs ((x, c) ∷ []) d (places_of s.tableau.values d) (k.stand d out));
  variables = λ n l. subst (λ (vs : List Literal). Contains vs (Atom (suc n) true)) (sym o.search.variables)
      (there n (subst (λ (g : Form). n < length g.atoms) o.form l));
} where
  of_atoms : (atoms : List Inequality) → Form
  of_atoms atoms = record { shapes = f.shapes; atoms = atoms; clauses = f.clauses }

  old-or-new : (n m : ℕ) → n < m + 1 → (n < m) ⊎ (n ≡ m)
  old-or-new zero zero l = inr refl
  old-or-new zero (suc m) l = inl (omega arith)
  old-or-new (suc n) zero l = absurd (omega arith)
  old-or-new (suc n) (suc m) l = elim (old-or-new n m (omega arith)) [ inl a ↦ inl (omega arith) | inr a ↦ inr (ap suc a) ]

  clause : List Literal
  clause = added (split_move (suc (length s.work.form.atoms)) x c)

  there : (n : ℕ) → n < length (s.work.form.atoms ++ split_atom (x, c) ∷ [])
      → Contains (with_clause s.work.search.variables (added (split_move (suc (length s.work.form.atoms)) x c))) (Atom (suc n) true)
  there n l =
      elim (old-or-new n (length s.work.form.atoms) (let a = length-append s.work.form.atoms (split_atom (x, c) ∷ []) in omega arith)) [
        | inl a ↦ variables-kept s.work.search.variables clause (Atom (suc n) true) (k.variables n a)
        | inr a ↦ subst (λ j. Contains (with_clause s.work.search.variables clause) (Atom (suc j) true)) (sym a)
            (first-there s.work.search.variables (Atom (suc (length s.work.form.atoms)) true)
            (Atom (suc (length s.work.form.atoms)) false ∷ []))
      ]

-- ---- a run of which nothing is done

pub kept-begun : (f : Form) → IsPlain f → IsSmall f → AreFit f f.clauses → (w : Standing) → w.form ≡ f → IsRun w
    → w.search.variables ≡ variables_of f → (ms : List Meaning) → AreMeaningsOf f ms → All IsNear ms → (t : State)
    → IsNew t (rows_of f) (columns_of f) → IsKept f record { work = w; tableau = t; meanings = ms; pairs = [] }
kept-begun f plain small fit w e run variables ms meant near t new = record {
  plain = plain;
  fit = fit;
  form = e ∙ ap (λ (atoms : List Inequality). record { shapes = f.shapes; atoms = atoms; clauses = f.clauses }) (sym (append-nil f.atoms));
  run = run;
  splits = tt;
  meanings = subst (λ g. AreMeaningsOf g ms) (sym e) meant;
  near = near;
  meant = subst (λ (g : Form). All HasMeanings g.atoms) (sym e) (all-meanings f plain small);
  usable = new.usable;
  given = new.given;
  columns = new.columns;
  stand = λ c out. inl (ap (λ (values : List (ℤ × ℤ)). places_of values c) new.values ∙ all-zero (columns_of f) c);
  variables = λ n l. subst (λ (vs : List Literal). Contains vs (Atom (suc n) true)) (sym variables)
      (atoms-there f n (subst (λ (g : Form). n < length g.atoms) e l));
}
