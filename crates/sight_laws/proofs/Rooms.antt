-- Frames of at most 20,000 variables have room.
use Rattle.std.proofs.Common.{◌≡◌, ℕ, suc, ◌+◌, ◌<◌, ◌≤◌, ◌^◌, List, [], ◌∷◌, ◌++◌, length, map, length-append, refl, subst, arith}
use Rattle.std.specs.Prelude.{Contains}
use Rattle.std.specs.List.{AllByRecursion}
use Rattle.lus_tree.specs.Tree.{Variable, Component, Program}
use Rattle.lus_meaning.specs.Occurrences.{Memory, Start, memories, starts}
use Rattle.lus_meaning.specs.Program.{all_sites, in_order, instance_of}
use Rattle.lus_meaning.specs.Scene.{Manner, Site, Instance, instance, component_of, contract_statements, ghosts, variables}
use Rattle.lus_meaning.specs.Slots.{Cell, call_slots, contract_cells, memory_cell, name_cell, own_cells, slot, slots_in, start_cell}
use Rattle.lus_meaning.proofs.Exists.{length_mapped}
use Rattle.lus_limits.specs.Calls.{way_of}
use Rattle.lus_limits.specs.Framed.{frame_of}
use Rattle.lus_limits.specs.Instances.{callee}
use Rattle.lus_limits.specs.Summaries.{bound, cut}
use Rattle.lus_limits.specs.Widths.{frame_width}
use Rattle.lus_limits.specs.declared.summing.Link.{Link}
use Rattle.lus_limits.proofs.Instances.{component_called}
use Rattle.lus_layouts.specs.declared.placing.CallSlots.{CallSlots}
use Rattle.lus_layouts.specs.Layouts.{callee_width, calls_from, layout_of, own_count}
use Rattle.lus_layouts.proofs.Fits.{callees_fit}
use Rattle.lus_layouts.proofs.Placed.{layouts_hold}
use Rattle.sys_tables.specs.Numbers.{CallHasRoom, behind_own}
use Rattle.sys_tables.specs.Tabled.{all_linked, named_stream, table_of}
use Rattle.sight_laws.specs.Sights.{FramesHaveRoom}
use Rattle.sight_laws.proofs.Names.{many_named}

all_contained : {A : Type 0} (P : A → Type 0) (xs : List A) → ((x : A) → Contains xs x → P x) → AllByRecursion P xs
all_contained P [] h = tt
all_contained P (x ∷ xs) h = (h x (0, omega arith, refl), all_contained P xs (λ y i. h y (behind y i)))
  where
    behind : (y : _) → Contains xs y → Contains (x ∷ xs) y
    behind y (k, l, e) = (suc k, omega (arith, l), e)

-- ---- own cells

cells_many : (m : Manner) (n : Component)
    → suc (length (variables n) + (length (in_order (λ (u : Memory). u.number) (memories n)) + length (in_order (λ (a : Start). a.number) (starts n))))
    ≤ length (own_cells m n)
cells_many m n =
    let vs : List Cell = map name_cell (variables n) in
    let us : List Cell = map memory_cell (in_order (λ (u : Memory). u.number) (memories n)) in
    let ss : List Cell = map start_cell (in_order (λ (a : Start). a.number) (starts n)) in
    let cs : List Cell = contract_cells m n.contract in
    let a : length (vs ++ (us ++ (ss ++ cs))) ≡ length vs + length (us ++ (ss ++ cs)) = length-append vs (us ++ (ss ++ cs)) in
    let b : length (us ++ (ss ++ cs)) ≡ length us + length (ss ++ cs) = length-append us (ss ++ cs) in
    let c : length (ss ++ cs) ≡ length ss + length cs = length-append ss cs in
    let e : length vs ≡ length (variables n) = length_mapped name_cell (variables n) in
    let f : length us ≡ length (in_order (λ (u : Memory). u.number) (memories n)) = length_mapped memory_cell (in_order (λ (u : Memory). u.number) (memories n)) in
    let g : length ss ≡ length (in_order (λ (a : Start). a.number) (starts n)) = length_mapped start_cell (in_order (λ (a : Start). a.number) (starts n)) in
    omega (arith, a, b, c, e, f, g)

sides_many : (n : Component) → length n.inputs + length n.outputs ≤ length (variables n)
sides_many n =
    let gs : List Variable = ghosts (contract_statements n) in
    let a : length (variables n) ≡ length ((n.inputs ++ n.outputs) ++ n.locals) + length gs = length-append ((n.inputs ++ n.outputs) ++ n.locals) gs in
    let b : length ((n.inputs ++ n.outputs) ++ n.locals) ≡ length (n.inputs ++ n.outputs) + length n.locals =
    length-append (n.inputs ++ n.outputs) n.locals in
    let c : length (n.inputs ++ n.outputs) ≡ length n.inputs + length n.outputs = length-append n.inputs n.outputs in
    omega (arith, a, b, c)

own_within : (m : Manner) (i : Instance) → length (own_cells m (component_of i)) ≤ length (slots_in m [] i)
own_within m (instance n cs is) =
    let e : length (map (slot (instance n cs is) []) (own_cells m n) ++ call_slots (instance n cs is) [] is)
    ≡ length (map (slot (instance n cs is) []) (own_cells m n)) + length (call_slots (instance n cs is) [] is) =
    length-append (map (slot (instance n cs is) []) (own_cells m n)) (call_slots (instance n cs is) [] is) in
    let f : length (map (slot (instance n cs is) []) (own_cells m n)) ≡ length (own_cells m n) = length_mapped (slot (instance n cs is) []) (own_cells m n) in
    omega (arith, e, f)

own_fits : (p : Program) (m : Manner) (n : Component) → length (own_cells m n) ≤ frame_width p m n
own_fits p m n = subst (λ k. length (own_cells m k) ≤ frame_width p m n) (component_called p n) (own_within m (instance_of p n))

-- ---- calls

frames_cut : (ls : List Link) (k : ℕ) → AllByRecursion (λ (q : CallSlots). q.frame ≤ bound) (calls_from k ls)
frames_cut [] k = tt
frames_cut (l ∷ ls) k = (below_cut (k + l.held), frames_cut ls (cut (k + (l.held + callee_width l))))
  where
    below_cut : (j : ℕ) → cut j ≤ bound
    below_cut j = omega arith

one_room : (from frame inputs outputs width : ℕ) → from < 2 ^ 31 + bound → frame ≤ bound → inputs + outputs ≤ width → width < bound
    → (from + frame) + suc (inputs + outputs) < 2 ^ 32
one_room from frame inputs outputs width a b c d = omega (arith, a, b, c, d)

calls_room : (p : Program) (n : Component) (from : ℕ) (ss : List Site) (qs : List CallSlots) → from < 2 ^ 31 + bound
    → AllByRecursion (λ (q : CallSlots). q.frame ≤ bound) qs
    → AllByRecursion (λ (s : Site). frame_width p s.manner (callee p s.callee) < bound) ss → AllByRecursion (CallHasRoom from) (all_linked p n ss qs)
calls_room p n from [] [] l a b = tt
calls_room p n from [] (q ∷ qs) l a b = tt
calls_room p n from (s ∷ ss) [] l a b = tt
calls_room p n from (s ∷ ss) (q ∷ qs) l a b =
    let k : Component = callee p s.callee in
    let f : length k.inputs + length k.outputs ≤ length (variables k) = sides_many k in
    let g : suc (length (variables k) + (length (in_order (λ (u : Memory). u.number) (memories k)) + length (in_order (λ (a : Start). a.number) (starts k))))
    ≤ length (own_cells s.manner k) = cells_many s.manner k in
    let h : length (own_cells s.manner k) ≤ frame_width p s.manner k = own_fits p s.manner k in (
      one_room from q.frame (length k.inputs) (length k.outputs) (frame_width p s.manner k) l a.0 (omega (arith, f, g, h)) b.0,
      calls_room p n from ss qs l a.1 b.1,
    )

-- ---- frames

pub frames_have_room : FramesHaveRoom
frames_have_room p c n i m base fits small =
    let a : suc (length (variables n) + (length (in_order (λ (u : Memory). u.number) (memories n)) + length (in_order (λ (a : Start). a.number) (starts n))))
    ≤ length (own_cells m n) = cells_many m n in
    let b : length (own_cells m n) ≤ frame_width p m n = own_fits p m n in
    let d : own_count (way_of m) (layout_of p n) ≡ length (own_cells m n) = (layouts_hold p c n i m [] fits).many in
    let e : length (map (named_stream n) (variables n)) ≡ length (variables n) = many_named n (variables n) in
    record {
      own = own_room base (length (map (named_stream n) (variables n))) (length (variables n))
          (length (in_order (λ (u : Memory). u.number) (memories n))) (length (in_order (λ (a : Start). a.number) (starts n))) small e
          (omega (arith, a, b, fits));
      behind = behind_room base (own_count (way_of m) (layout_of p n)) small (omega (arith, b, d, fits));
      calls = calls_room p n (behind_own (way_of m) (table_of p n) base) (all_sites n) (layout_of p n).calls
          (end_room base (own_count (way_of m) (layout_of p n)) small (omega (arith, b, d, fits)))
          (frames_cut (frame_of p n).links 0) (all_contained _ (all_sites n) (λ s j. callees_fit p c n i m fits s j));
    }
  where
    own_room : (base named many kept started : ℕ) → base < 2 ^ 31 → named ≡ many → suc (many + (kept + started)) < bound
        → ((base + suc named) + kept) + started < 2 ^ 32
    own_room base named many kept started l e h = omega (arith, l, e, h)

    behind_room : (base own : ℕ) → base < 2 ^ 31 → own < bound → base + own < 2 ^ 32
    behind_room base own l h = omega (arith, l, h)

    end_room : (base own : ℕ) → base < 2 ^ 31 → own < bound → base + own < 2 ^ 31 + bound
    end_room base own l h = omega (arith, l, h)
