-- Cut sums.
use Rattle.std.proofs.Common.{◌≡◌, ℕ, suc, ◌+◌, List, ◌++◌, length, length-append, arith}
use Rattle.lus_tree.specs.Tree.{Variable, Component}
use Rattle.lus_meaning.specs.Scene.{ghosts, contract_statements, variables}
use Rattle.lus_limits.specs.Summaries.{cut}

-- a sum so far, cut, with one part more that is cut, and what is to come
pub cut_on : (a x r : ℕ) → cut (cut (a + cut x) + r) ≡ cut (a + (x + r))
cut_on a x r = omega arith

pub cut_once : (a : ℕ) → cut (cut a) ≡ cut a
cut_once a = omega arith

pub cut_end : (a t : ℕ) → cut a ≡ a → cut (a + 0) ≡ t → a ≡ t
cut_end a t e f = omega arith

pub cut_sums : (a b : ℕ) → cut (cut a + cut b) ≡ cut (a + b)
cut_sums a b = omega arith

pub cut_inner : (a b : ℕ) → cut (a + cut b) ≡ cut (a + b)
cut_inner a b = omega arith

-- the streams of a declaration, kind by kind
pub names_counted : (n : Component) → cut (length n.inputs + cut (length n.outputs + cut (length n.locals + cut (length (ghosts (contract_statements n))))))
    ≡ cut (length (variables n))
names_counted n =
    let gs : List Variable = ghosts (contract_statements n) in
    let a : length (((n.inputs ++ n.outputs) ++ n.locals) ++ gs) ≡ length ((n.inputs ++ n.outputs) ++ n.locals) + length gs =
    length-append ((n.inputs ++ n.outputs) ++ n.locals) gs in
    let b : length ((n.inputs ++ n.outputs) ++ n.locals) ≡ length (n.inputs ++ n.outputs) + length n.locals =
    length-append (n.inputs ++ n.outputs) n.locals in
    let c : length (n.inputs ++ n.outputs) ≡ length n.inputs + length n.outputs = length-append n.inputs n.outputs in
    omega arith

pub own_cut : (v s : ℕ) → cut (1 + cut (cut v + cut s)) ≡ cut (suc (v + s))
own_cut v s = omega arith

pub properties_cut : (b g e m o : ℕ) → cut (cut b + cut (g + cut (e + cut (m + o)))) ≡ cut (b + (g + (e + (m + o))))
properties_cut b g e m o = omega arith

pub summary_cut : (a w : ℕ) → cut (cut a + cut w) ≡ cut (a + w)
summary_cut a w = omega arith
