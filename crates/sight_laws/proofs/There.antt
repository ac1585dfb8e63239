-- What calls and imports name is there.
use Rattle.std.proofs.Common.{◌≡◌, ℕ, zero, suc, ◌<◌, Bool, true, false, ◌||◌, List, [], ◌∷◌, length, refl, ap, ◌∙◌, subst, arith}
use Rattle.std.specs.Prelude.{Contains}
use Rattle.std.specs.Str.{bytes_eq}
use Rattle.std.proofs.lemmas.Bool.{false≢true}
use Rattle.lus_tree.specs.Tree.{Component}
use Rattle.lus_meaning.specs.ClockFaults.{components}
use Rattle.lus_meaning.specs.Depends.{named_in}
use Rattle.lus_meaning.specs.RuleLaws.{callee_of}
use Rattle.lus_limits.proofs.Needed.{many_named}
use Rattle.name_table.proofs.Names.{itself}
use Rattle.name_table.proofs.Numbers.{number_below}
use Rattle.way_laws.specs.Laws.{GoesLower}
use Rattle.way_laws.proofs.Callees.{callees_lower}
use Rattle.sys_tables.specs.Tabled.{names_of, place_of}
use Rattle.sys_tables.proofs.Once.{callee_found}
use Rattle.sight_laws.specs.Sights.{CalleesAreThere, CalleesStand}

pub callees_stand : CalleesStand
callees_stand p x = callee_found p x

mentioned : (ns : List Component) (m : Component) → Contains ns m → named_in m.name.text (names_of ns) ≡ true
mentioned [] m (k, l, e) = absurd (omega (arith, l))
mentioned (n ∷ ns) m (zero, l, e) = here (bytes_eq m.name.text n.name.text) (ap (λ (z : Component). bytes_eq m.name.text z.name.text) e ∙ itself m.name.text)
  where
    here : (b : Bool) → b ≡ true → (b || named_in m.name.text (names_of ns)) ≡ true
    here true h = refl
    here false h = absurd (false≢true h)
mentioned (n ∷ ns) m (suc k, l, e) = there (bytes_eq m.name.text n.name.text) (mentioned ns m (k, omega (arith, l), e))
  where
    there : (b : Bool) → named_in m.name.text (names_of ns) ≡ true → (b || named_in m.name.text (names_of ns)) ≡ true
    there true h = refl
    there false h = h

pub callees_are_there : CalleesAreThere
callees_are_there p c n i s j =
    let r : Component → ℕ = (callees_lower p c.rules.clocked.typed).0 in
    let g : GoesLower p r n s = (callees_lower p c.rules.clocked.typed).1 n i s j in
    let m : named_in s.callee (names_of (components p)) ≡ true = subst (λ x. named_in x (names_of (components p)) ≡ true) g.named
    (mentioned (components p) (callee_of p s) g.declared) in
    let b : place_of p s.callee < length (names_of (components p)) = number_below (names_of (components p)) s.callee m in
    let e : length (names_of (components p)) ≡ length (components p) = many_named (components p) in
    omega (arith, b, e)
