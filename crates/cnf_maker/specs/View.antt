-- What contracts see of a clause form, made or in the making.
use Rattle.std.specs.declared.vec.Vec.{Vec}
use Rattle.std.specs.declared.alloc.Global.{Global}
use lib.IntN.{ℤ}
use Rattle.std.specs.Prelude.{ℕ, ◌≡◌, ◌<◌, ◌^◌, length, map, Result, Ok, Err}
use Rattle.kind_num.specs.declared.Op.{Op}
use Rattle.kind_num.specs.declared.Op.TheVariants.{Add, Sub}
use Rattle.kind_num.specs.declared.Past.{Past as Operands}
use Rattle.proof_steps.specs.View.{Inequality, atom_view, clause_view}
use Rattle.proof_steps.specs.declared.Literal.{Literal}
use Rattle.proof_steps.specs.Rows.{Form}
use Rattle.cnf_maker.specs.Linear.{Linear as Sum}
use Rattle.cnf_maker.specs.declared.cnf.Cnf.{Cnf}
use Rattle.cnf_maker.specs.declared.linear.Linear.{Linear}
use Rattle.cnf_maker.specs.declared.maker.Maker.{Maker}
use Rattle.cnf_maker.specs.declared.linear.Sign.{Sign}
use Rattle.cnf_maker.specs.declared.linear.Sign.TheVariants.{Plus, Minus}
use Rattle.cnf_maker.specs.declared.fault.CnfFault.{CnfFault}
use Rattle.cnf_maker.specs.declared.fault.CnfFault.TheVariants.{Past, Memory}

abbrev pub form_view : Cnf → Form
form_view c = record {
  shapes = c.shapes.items;
  atoms = map atom_view c.atoms.items;
  clauses = map clause_view c.clauses.items;
}

abbrev pub linear_view : Linear → Sum
linear_view l = record { terms = l.terms.items; constant = l.constant }

-- the terms and the bound of an inequality
abbrev pub key_view : Vec (ℕ × ℤ) Global × ℤ → Inequality
key_view k = record { terms = k.0.items; bound = k.1 }

-- the form that is made so far
abbrev pub made : Maker → Form
made m = record {
  shapes = m.shapes.items;
  atoms = map key_view m.atoms.keys;
  clauses = map clause_view m.clauses.items;
}

abbrev pub op_of : Sign → Op
op_of Plus = Add
op_of Minus = Sub

-- memory may run out at any time
abbrev pub Fails : {X : Type 0} → Result X Operands → CnfFault → Type 0
Fails o (Past p) = o ≡ Err p
Fails o Memory = Unit

-- what is made is what the definition gives
abbrev pub Gives : {X Y : Type 0} → (X → Y) → Result Y Operands → Result X CnfFault → Type 0
Gives view o (Ok x) = o ≡ Ok (view x)
Gives view o (Err e) = Fails o e

-- what is to be made stays the same
abbrev pub Goes : {X Y : Type 0} → Result Y Operands → Result X CnfFault → (X → Result Y Operands) → Type 0
Goes o (Ok x) left = left x ≡ o
Goes o (Err e) left = Fails o e

-- the form is the one that the definition gives, and what is told past 128 bits is what it tells
abbrev pub Makes : Result Form Operands → Result Cnf CnfFault → Type 0
Makes o (Ok c) = o ≡ Ok (form_view c)
Makes o (Err e) = Fails o e

-- the form that is left is what the definition gives
abbrev pub Reaches : {X : Type 0} → Result Form Operands → Result X CnfFault → Form → Type 0
Reaches o (Ok x) f = o ≡ Ok f
Reaches o (Err e) f = Fails o e

-- the form that is left, and the literal or the sum that is answered, are what the definition gives
abbrev pub Leaves : {X Y : Type 0} → (X → Y) → Result (Form × Y) Operands → Result X CnfFault → Form → Type 0
Leaves view o (Ok x) f = o ≡ Ok (f, view x)
Leaves view o (Err e) f = Fails o e

abbrev pub itself : Literal → Literal
itself x = x

-- variables, atoms and clauses have numbers of 32 bits
pub record AreFew (f : Form) : Type 0 where
  pub shapes : length f.shapes < 2 ^ 32
  pub atoms : length f.atoms < 2 ^ 32
  pub clauses : length f.clauses < 2 ^ 32
