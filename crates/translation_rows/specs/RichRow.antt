-- The system, the states and the frame of a worked program, as an independent translation has them:
--
--   const K = 3; const YES = true;
--   node acc(a : int; r : bool) returns (s, m : int);
--   (*@contract
--     const LIM = K * 2 + 1;
--     var neg : bool = a < 0;
--     assume "small" a < LIM;
--     assume not (neg and r);
--     guarantee s >= m - LIM;
--   *)
--   let
--     s = if r then a else (0 -> pre s) + a;
--     m = a -> if a > pre m then a else pre m;
--     assert a >= -100;
--   tel
--   contract spec(x : int; c : bool) returns (o : int);
--   let
--     var seen : bool = c or (false -> pre seen);
--     assume x <> 77;
--     guarantee "g" o >= 0 or not seen;
--     mode hot (require c; require x > 0; ensure o > x div 2;);
--     mode cold (require not c;);
--   tel
--   node main(x : int; c, d : bool) returns (o : int; p : bool);
--   (*@contract
--     import spec(x, c) returns (o);
--     var up : bool = ::spec::hot => o > pre o;
--     mode own (require ::spec::hot; ensure "e" o mod 5 <> -K div -2;);
--     guarantee ::own or up xor d;
--     assume x < 1000;
--   *)
--   var b : bool when not c; u, w : int when c; f : int when not b; q : int; e : int when b;
--   let
--     u, w = acc(x when c, d when c);
--     b = d when not c;
--     e = 2 * (x when not c when b) - (1 -> pre e);
--     q = merge c (true -> u + w) (false -> merge b (true -> e) (false -> f));
--     o = condact(c and d, acc2(x, q * K), K - 1) + (if YES then q else -q);
--     p = (activate neg every d initial default (false))(c) and not (c and 1 + K = 4);
--     --%MAIN;
--     assert q > -50;
--     --%PROPERTY "a" o <> 3 => p;
--     check true -> pre p or o >= x;
--   tel
--   function acc2(x, y : int) returns (o : int);
--   let o = (x - y) mod 7; tel
--   node neg(b : bool) returns (o : bool);
--   (*@contract assume b or K > 2; *)
--   var fr : bool;
--   let o = not b and fr; tel
use Rattle.std.specs.Prelude.{◌≡◌, true, false, [], ◌∷◌, pos, negsuc, Some, None, codes}
use Rattle.lus_tree.specs.declared.expression.Operator.TheVariants as o
use Rattle.lus_tree.specs.declared.place.Sort.TheVariants.{Bool as Flags, Int as Numbers}
use Rattle.lus_tree.specs.Tree.{no_more, more, truth, number, name, negation, minus, pre, arrow, binary, choice, sampled, merged, call, condact, mode_name, equation, assertion, property, main_mark, assume, guarantee, ghost_variable, constant, mode, «import», Component, Program, declared_constant, declared_node, declared_contract}
use Rattle.lus_meaning.specs.Program.{instance_of}
use Rattle.meaning_rows.specs.RowParts.{here, start, spelled}
use Rattle.kind_num.specs.declared.Shape.TheVariants.{Flag, Number}
use Rattle.sys_terms.specs.declared.term.Entry.TheVariants as entries
use Rattle.sys_terms.specs.View as t
use Rattle.sys_terms.specs.View.{Formula}
use Rattle.sys_meaning.specs.System.{system_of}
use Rattle.lus_meaning.specs.Value.{Value, absent, whole}
use Rattle.lus_meaning.specs.Value as v
use Rattle.lus_meaning.specs.Frame.{Frame, frame, no_frames, with_frame}
use Rattle.sys_meaning.specs.State.{states_of}
use Rattle.sys_meaning.specs.Path.{frame_of_path}

abbrev pub accumulator : Component
accumulator = record {
  name = (spelled (codes "acc"));
  function = false;
  inputs = ((record {
    name = (spelled
        (codes "a"));
    sort = Numbers;
    clock = None;
  }) ∷ (record {
    name = (spelled (codes "r"));
    sort = Flags;
    clock =
        None;
  }) ∷ []);
  outputs = ((record {
    name = (spelled (codes "s"));
    sort = Numbers;
    clock =
        None;
  }) ∷ (record { name = (spelled (codes "m")); sort = Numbers; clock = None }) ∷ []);
  locals =
      ([]);
  constants = ([]);
  contract =
      Some ((constant (record {
        name = (spelled (codes "LIM"));
        sort = None;
        value = (binary here o.Add
            (binary here o.Mul (name here (codes "K")) (number here 2)) (number here 1));
      })) ∷ (ghost_variable
      (record { name = (spelled (codes "neg")); sort = Flags; clock = None }) (binary here o.Less (name here
      (codes "a")) (number here 0))) ∷ (assume (record {
        label = None;
        at = start;
        value =
            (binary here o.Less (name here (codes "a")) (name here (codes "LIM")));
      })) ∷ (assume (record {
        label = None;
        at =
            start;
        value =
            (negation here (binary here o.And (name here (codes "neg")) (name here (codes "r"))));
      })) ∷ (guarantee
      (record {
        label = None;
        at = start;
        value = (binary here o.AtLeast (name here (codes "s")) (binary here o.Sub
            (name here (codes "m")) (name here (codes "LIM"))));
      })) ∷ []);
  body =
      ((equation ((spelled (codes "s")) ∷ []) (choice here (name here (codes "r")) (name here (codes "a"))
      (binary here o.Add (arrow here 1 (number here 0) (pre here 1 (name here (codes "s")))) (name here
      (codes "a"))))) ∷ (equation ((spelled (codes "m")) ∷ []) (arrow here 2 (name here (codes "a")) (choice here
      (binary here o.More (name here (codes "a")) (pre here 2 (name here (codes "m")))) (name here (codes "a"))
      (pre here 3 (name here (codes "m")))))) ∷ (assertion (binary here o.AtLeast (name here (codes "a")) (minus here
      (number here 100)))) ∷ []);
}

abbrev pub watch : Component
watch = record {
  name = (spelled (codes "spec"));
  function = false;
  inputs = ((record {
    name = (spelled
        (codes "x"));
    sort = Numbers;
    clock = None;
  }) ∷ (record {
    name = (spelled (codes "c"));
    sort = Flags;
    clock =
        None;
  }) ∷ []);
  outputs = ((record { name = (spelled (codes "o")); sort = Numbers; clock = None }) ∷ []);
  locals =
      [];
  constants = [];
  contract =
      Some ((ghost_variable (record { name = (spelled (codes "seen")); sort = Flags; clock = None })
      (binary here o.Or (name here (codes "c")) (arrow here 1 (truth here false) (pre here 1 (name here
      (codes "seen")))))) ∷ (assume (record {
        label = None;
        at = start;
        value =
            (binary here o.Differs (name here (codes "x")) (number here 77));
      })) ∷ (guarantee (record {
        label = None;
        at =
            start;
        value =
            (binary here o.Or (binary here o.AtLeast (name here (codes "o")) (number here 0)) (negation here
            (name here
            (codes "seen"))));
      })) ∷ (mode (spelled (codes "hot")) ((record {
        label = None;
        at = start;
        value =
            (name here (codes "c"));
      }) ∷ (record {
        label = None;
        at = start;
        value =
            (binary here o.More (name here (codes "x")) (number here 0));
      }) ∷ []) ((record {
        label = None;
        at =
            start;
        value =
            (binary here o.More (name here (codes "o")) (binary here o.Div (name here (codes "x"))
            (number here 2)));
      }) ∷ [])) ∷ (mode (spelled (codes "cold")) ((record {
        label = None;
        at = start;
        value =
            (negation here (name here (codes "c")));
      }) ∷ []) ([])) ∷ []);
  body = [];
}

abbrev pub top : Component
top = record {
  name = (spelled (codes "main"));
  function = false;
  inputs = ((record {
    name = (spelled
        (codes "x"));
    sort = Numbers;
    clock = None;
  }) ∷ (record {
    name = (spelled (codes "c"));
    sort = Flags;
    clock =
        None;
  }) ∷ (record { name = (spelled (codes "d")); sort = Flags; clock = None }) ∷ []);
  outputs =
      ((record { name = (spelled (codes "o")); sort = Numbers; clock = None }) ∷ (record {
        name = (spelled
            (codes "p"));
        sort = Flags;
        clock = None;
      }) ∷ []);
  locals = ((record {
    name = (spelled (codes "b"));
    sort =
        Flags;
    clock = Some (false, (spelled (codes "c")));
  }) ∷ (record {
    name = (spelled (codes "u"));
    sort =
        Numbers;
    clock = Some (true, (spelled (codes "c")));
  }) ∷ (record {
    name = (spelled (codes "w"));
    sort =
        Numbers;
    clock = Some (true, (spelled (codes "c")));
  }) ∷ (record {
    name = (spelled (codes "f"));
    sort =
        Numbers;
    clock = Some (false, (spelled (codes "b")));
  }) ∷ (record {
    name = (spelled (codes "q"));
    sort =
        Numbers;
    clock = None;
  }) ∷ (record {
    name = (spelled (codes "e"));
    sort = Numbers;
    clock =
        Some (true, (spelled (codes "b")));
  }) ∷ []);
  constants = ([]);
  contract =
      Some ((«import» 1 (spelled (codes "spec")) ((name here (codes "x")) ∷ (name here (codes "c")) ∷ []) ((spelled
      (codes "o")) ∷ [])) ∷ (ghost_variable (record {
        name = (spelled (codes "up"));
        sort = Flags;
        clock =
            None;
      }) (binary here o.Implies (mode_name here (Some (spelled (codes "spec"))) (spelled (codes "hot")))
      (binary here o.More (name here (codes "o")) (pre here 1 (name here (codes "o")))))) ∷ (mode (spelled
      (codes "own")) ((record {
        label = None;
        at = start;
        value = (mode_name here (Some (spelled (codes "spec")))
            (spelled (codes "hot")));
      }) ∷ []) ((record {
        label = None;
        at = start;
        value =
            (binary here o.Differs (binary here o.Mod (name here (codes "o")) (number here 5)) (binary here o.Div
            (minus here (name here (codes "K"))) (minus here (number here 2))));
      }) ∷ [])) ∷ (guarantee (record {
        label =
            None;
        at = start;
        value =
            (binary here o.Xor (binary here o.Or (mode_name here None (spelled (codes "own"))) (name here
            (codes "up")))
            (name here (codes "d")));
      })) ∷ (assume (record {
        label = None;
        at = start;
        value =
            (binary here o.Less (name here (codes "x")) (number here 1000));
      })) ∷ []);
  body =
      ((equation ((spelled (codes "u")) ∷ (spelled (codes "w")) ∷ []) (call here 2 (spelled (codes "acc")) (more
      (sampled here (name here (codes "x")) true (spelled (codes "c"))) (more (sampled here (name here
      (codes "d")) true (spelled (codes "c"))) no_more)))) ∷ (equation ((spelled (codes "b")) ∷ []) (sampled here
      (name here (codes "d")) false (spelled (codes "c")))) ∷ (equation ((spelled (codes "e")) ∷ [])
      (binary here o.Sub (binary here o.Mul (number here 2) (sampled here (sampled here (name here (codes "x")) false
      (spelled (codes "c"))) true (spelled (codes "b")))) (arrow here 1 (number here 1) (pre here 2 (name here
      (codes "e")))))) ∷ (equation ((spelled (codes "q")) ∷ []) (merged here (spelled (codes "c")) (binary here o.Add
      (name here (codes "u")) (name here (codes "w"))) (merged here (spelled (codes "b")) (name here (codes "e"))
      (name here (codes "f"))))) ∷ (equation ((spelled (codes "o")) ∷ []) (binary here o.Add (condact here 3
      (binary here o.And (name here (codes "c")) (name here (codes "d"))) (spelled (codes "acc2")) (more (name here
      (codes "x")) (more (binary here o.Mul (name here (codes "q")) (name here (codes "K"))) no_more)) (more
      (binary here o.Sub (name here (codes "K")) (number here 1)) no_more)) (choice here (name here (codes "YES"))
      (name here (codes "q")) (minus here (name here (codes "q")))))) ∷ (equation ((spelled (codes "p")) ∷ [])
      (binary here o.And (condact here 4 (name here (codes "d")) (spelled (codes "neg")) (more (name here
      (codes "c")) no_more) (more (truth here false) no_more)) (negation here (binary here o.And (name here
      (codes "c")) (binary here o.Equal (binary here o.Add (number here 1) (name here (codes "K")))
      (number here 4)))))) ∷ (main_mark start) ∷ (assertion (binary here o.More (name here (codes "q")) (minus here
      (number here 50)))) ∷ (property (record {
        label = None;
        at = start;
        value =
            (binary here o.Implies (binary here o.Differs (name here (codes "o")) (number here 3)) (name here
            (codes "p")));
      })) ∷ (property (record {
        label = None;
        at = start;
        value =
            (arrow here 2 (truth here true) (binary here o.Or (pre here 3 (name here (codes "p")))
            (binary here o.AtLeast
            (name here (codes "o")) (name here (codes "x")))));
      })) ∷ []);
}

abbrev pub remainder_of : Component
remainder_of = record {
  name = (spelled (codes "acc2"));
  function = true;
  inputs = ((record {
    name = (spelled
        (codes "x"));
    sort = Numbers;
    clock = None;
  }) ∷ (record {
    name = (spelled (codes "y"));
    sort = Numbers;
    clock =
        None;
  }) ∷ []);
  outputs = ((record { name = (spelled (codes "o")); sort = Numbers; clock = None }) ∷ []);
  locals =
      ([]);
  constants = ([]);
  contract = None;
  body =
      ((equation ((spelled (codes "o")) ∷ []) (binary here o.Mod (binary here o.Sub (name here (codes "x"))
      (name here (codes "y"))) (number here 7))) ∷ []);
}

abbrev pub denial : Component
denial = record {
  name = (spelled (codes "neg"));
  function = false;
  inputs = ((record {
    name = (spelled
        (codes "b"));
    sort = Flags;
    clock = None;
  }) ∷ []);
  outputs = ((record {
    name = (spelled (codes "o"));
    sort =
        Flags;
    clock = None;
  }) ∷ []);
  locals = ((record {
    name = (spelled (codes "fr"));
    sort = Flags;
    clock =
        None;
  }) ∷ []);
  constants = ([]);
  contract =
      Some ((assume (record {
        label = None;
        at = start;
        value = (binary here o.Or (name here (codes "b"))
            (binary here o.More (name here (codes "K")) (number here 2)));
      })) ∷ []);
  body =
      ((equation ((spelled (codes "o")) ∷ []) (binary here o.And (negation here (name here (codes "b"))) (name here
      (codes "fr")))) ∷ []);
}

abbrev pub rich_program : Program
rich_program = ((declared_constant (record { name = (spelled (codes "K")); sort = None; value = (number here 3) })) ∷
    (declared_constant (record { name = (spelled (codes "YES")); sort = None; value = (truth here true) })) ∷
    (declared_node accumulator) ∷ (declared_contract watch) ∷ (declared_node top) ∷ (declared_node remainder_of) ∷
    (declared_node denial) ∷ [])

abbrev pub RichShapes : Type 0
RichShapes = (system_of (instance_of rich_program top)).shapes ≡
    (Flag ∷ Number ∷ Flag ∷ Flag ∷ Number ∷ Flag ∷ Flag ∷ Number ∷ Number ∷ Number ∷ Number ∷ Number ∷ Flag ∷ Number ∷ Number ∷ Flag ∷ Flag
    ∷ Flag ∷ Flag ∷ Flag ∷ Number ∷ Flag ∷ Number ∷ Flag ∷ Flag ∷ Flag ∷ Flag ∷ Number ∷ Flag ∷ Number ∷ Number ∷ Flag ∷ Number ∷ Number
    ∷ Number ∷ Flag ∷ Flag ∷ Flag ∷ Number ∷ Flag ∷ Number ∷ Number ∷ Number ∷ Flag ∷ Flag ∷ Flag ∷ Flag ∷ Flag ∷ Flag ∷ [])

abbrev pub RichFirst : Type 0
RichFirst = (system_of (instance_of rich_program top)).first ≡ ((t.flag record { number = 16; next = false }) ∷
    (t.flag record { number = 17; next = false }) ∷ (t.flag record { number = 18; next = false }) ∷
    (t.flag record { number = 25; next = false }) ∷ (t.flag record { number = 35; next = false }) ∷
    (t.flag record { number = 36; next = false }) ∷ (t.flag record { number = 37; next = false }) ∷ (t.equal
    (t.number record { number = 38; next = false }) (t.constant (pos 2))) ∷ (t.same
    (t.flag record { number = 43; next = false }) (t.truth false)) ∷
    (t.flag record { number = 48; next = false }) ∷ [])

abbrev pub RichHere : Type 0
RichHere = (system_of (instance_of rich_program top)).here ≡ ((t.flag record { number = 0; next = false }) ∷ (t.equal
    (t.number record { number = 4; next = false }) (t.chosen (t.flag record { number = 0; next = false }) (t.plus
    (t.chosen (t.flag record { number = 39; next = false }) (t.number record { number = 42; next = false })
    (t.number record { number = 38; next = false })) (t.chosen (t.truth true)
    (t.number record { number = 10; next = false }) (t.multiple (negsuc 0)
    (t.number record { number = 10; next = false })))) (t.constant (pos 0)))) ∷ (t.same (t.flag record {
      number =
          5;
      next = false;
    }) (t.choice (t.flag record { number = 0; next = false }) (t.both (t.choice
    (t.flag record { number = 44; next = false }) (t.flag record { number = 46; next = false })
    (t.flag record { number = 43; next = false })) (t.negation (t.both (t.flag record { number = 2; next = false })
    (t.truth true)))) (t.truth false))) ∷ (t.same (t.flag record {
      number = 6;
      next =
          false;
    }) (t.choice (t.both (t.flag record { number = 0; next = false }) (t.negation
    (t.flag record { number = 2; next = false }))) (t.flag record {
      number = 3;
      next =
          false;
    }) (t.truth false))) ∷ (t.equal (t.number record {
      number = 7;
      next =
          false;
    }) (t.chosen (t.flag record { number = 2; next = false }) (t.number record { number = 29; next = false })
    (t.constant (pos 0)))) ∷ (t.equal (t.number record { number = 8; next = false }) (t.chosen
    (t.flag record { number = 2; next = false }) (t.number record { number = 30; next = false }) (t.constant
    (pos 0)))) ∷ (t.negation (t.both (t.negation (t.both (t.both (t.flag record { number = 0; next = false })
    (t.negation (t.flag record { number = 2; next = false }))) (t.negation
    (t.flag record { number = 6; next = false })))) (t.negation (t.equal
    (t.number record { number = 9; next = false }) (t.constant (pos 0)))))) ∷ (t.equal (t.number record {
      number =
          10;
      next = false;
    }) (t.chosen (t.flag record { number = 0; next = false }) (t.chosen
    (t.flag record { number = 2; next = false }) (t.plus (t.number record { number = 7; next = false })
    (t.number record { number = 8; next = false })) (t.chosen (t.flag record { number = 6; next = false })
    (t.number record { number = 11; next = false }) (t.number record { number = 9; next = false }))) (t.constant
    (pos 0)))) ∷ (t.equal (t.number record {
      number = 11;
      next =
          false;
    }) (t.chosen (t.flag record { number = 6; next = false }) (t.minus (t.multiple (pos 2)
    (t.number record { number = 1; next = false })) (t.chosen (t.flag record { number = 16; next = false })
    (t.constant (pos 1)) (t.number record { number = 14; next = false }))) (t.constant (pos 0)))) ∷ (t.same
    (t.flag record { number = 12; next = false }) (t.choice (t.flag record { number = 0; next = false })
    (t.negation (t.both (t.both (t.flag record { number = 21; next = false }) (t.negation (t.at_most
    (t.number record { number = 20; next = false }) (t.constant (pos 0))))) (t.negation (t.negation (t.at_most
    (t.number record { number = 4; next = false }) (t.number record { number = 13; next = false }))))))
    (t.truth false))) ∷ (t.same (t.flag record { number = 19; next = false })
    (t.flag record { number = 0; next = false })) ∷ (t.equal (t.number record { number = 20; next = false })
    (t.chosen (t.flag record { number = 19; next = false }) (t.number record { number = 1; next = false })
    (t.constant (pos 0)))) ∷ (t.same (t.flag record { number = 21; next = false }) (t.choice
    (t.flag record { number = 19; next = false }) (t.flag record { number = 2; next = false }) (t.truth false))) ∷
    (t.equal (t.number record { number = 22; next = false }) (t.chosen
    (t.flag record { number = 19; next = false }) (t.number record { number = 4; next = false }) (t.constant
    (pos 0)))) ∷ (t.same (t.flag record {
      number = 23;
      next =
          false;
    }) (t.choice (t.flag record { number = 19; next = false }) (t.negation (t.both (t.negation
    (t.flag record { number = 21; next = false })) (t.negation (t.choice
    (t.flag record { number = 25; next = false }) (t.truth false) (t.flag record { number = 24; next = false })))))
    (t.truth false))) ∷ (t.same (t.flag record { number = 26; next = false })
    (t.flag record { number = 2; next = false })) ∷ (t.equal (t.number record { number = 27; next = false })
    (t.chosen (t.flag record { number = 26; next = false }) (t.number record { number = 1; next = false })
    (t.constant (pos 0)))) ∷ (t.same (t.flag record { number = 28; next = false }) (t.choice
    (t.flag record { number = 26; next = false }) (t.flag record { number = 3; next = false }) (t.truth false))) ∷
    (t.equal (t.number record { number = 29; next = false }) (t.chosen
    (t.flag record { number = 26; next = false }) (t.chosen (t.flag record { number = 28; next = false })
    (t.number record { number = 27; next = false }) (t.plus (t.chosen (t.flag record { number = 35; next = false })
    (t.constant (pos 0)) (t.number record { number = 32; next = false }))
    (t.number record { number = 27; next = false }))) (t.constant (pos 0)))) ∷ (t.equal (t.number record {
      number =
          30;
      next = false;
    }) (t.chosen (t.flag record { number = 26; next = false }) (t.chosen
    (t.flag record { number = 36; next = false }) (t.number record { number = 27; next = false }) (t.chosen
    (t.negation (t.at_most (t.number record { number = 27; next = false })
    (t.number record { number = 33; next = false }))) (t.number record {
      number = 27;
      next =
          false;
    }) (t.number record {
      number = 34;
      next =
          false;
    }))) (t.constant (pos 0)))) ∷ (t.same (t.flag record {
      number = 31;
      next =
          false;
    }) (t.choice (t.flag record { number = 26; next = false }) (t.negation (t.at_most (t.constant (pos 0))
    (t.number record { number = 27; next = false }))) (t.truth false))) ∷ (t.same (t.flag record {
      number =
          39;
      next = false;
    }) (t.both (t.flag record { number = 0; next = false }) (t.both
    (t.flag record { number = 2; next = false }) (t.flag record { number = 3; next = false })))) ∷ (t.equal
    (t.number record { number = 40; next = false }) (t.chosen (t.flag record { number = 39; next = false })
    (t.number record { number = 1; next = false }) (t.constant (pos 0)))) ∷ (t.equal
    (t.number record { number = 41; next = false }) (t.chosen (t.flag record { number = 39; next = false })
    (t.multiple (pos 3) (t.number record { number = 10; next = false })) (t.constant (pos 0)))) ∷ (t.equal
    (t.number record { number = 42; next = false }) (t.chosen (t.flag record { number = 39; next = false })
    (t.remainder (t.minus (t.number record { number = 40; next = false })
    (t.number record { number = 41; next = false })) (pos 7)) (t.constant (pos 0)))) ∷ (t.same
    (t.flag record { number = 44; next = false }) (t.both (t.flag record { number = 0; next = false })
    (t.flag record { number = 3; next = false }))) ∷ (t.same (t.flag record { number = 45; next = false })
    (t.choice (t.flag record { number = 44; next = false }) (t.flag record { number = 2; next = false })
    (t.truth false))) ∷ (t.same (t.flag record { number = 46; next = false }) (t.choice
    (t.flag record { number = 44; next = false }) (t.both (t.negation
    (t.flag record { number = 45; next = false })) (t.flag record { number = 47; next = false }))
    (t.truth false))) ∷ (t.negation (t.both (t.negation (t.flag record { number = 44; next = false })) (t.negation
    (t.same (t.flag record { number = 47; next = false }) (t.truth false))))) ∷ [])

abbrev pub RichNext : Type 0
RichNext = (system_of (instance_of rich_program top)).next ≡ ((t.equal (t.number record { number = 13; next = true })
    (t.chosen (t.flag record { number = 0; next = false }) (t.number record { number = 4; next = false })
    (t.number record { number = 13; next = false }))) ∷ (t.equal (t.number record { number = 14; next = true })
    (t.chosen (t.flag record { number = 6; next = false }) (t.number record { number = 11; next = false })
    (t.number record { number = 14; next = false }))) ∷ (t.same (t.flag record { number = 15; next = true })
    (t.choice (t.flag record { number = 0; next = false }) (t.flag record { number = 5; next = false })
    (t.flag record { number = 15; next = false }))) ∷ (t.same (t.flag record { number = 16; next = true }) (t.both
    (t.flag record { number = 16; next = false }) (t.negation (t.flag record { number = 6; next = false })))) ∷
    (t.same (t.flag record { number = 17; next = true }) (t.both (t.flag record { number = 17; next = false })
    (t.negation (t.flag record { number = 0; next = false })))) ∷ (t.same
    (t.flag record { number = 18; next = true }) (t.both (t.flag record { number = 18; next = false }) (t.negation
    (t.both (t.flag record { number = 0; next = false }) (t.negation (t.both (t.negation (t.equal
    (t.number record { number = 20; next = false }) (t.constant (pos 77)))) (t.negation (t.at_most (t.constant
    (pos 1000)) (t.number record { number = 1; next = false }))))))))) ∷ (t.same (t.flag record {
      number = 24;
      next =
          true;
    }) (t.choice (t.flag record { number = 19; next = false }) (t.flag record { number = 23; next = false })
    (t.flag record { number = 24; next = false }))) ∷ (t.same (t.flag record { number = 25; next = true }) (t.both
    (t.flag record { number = 25; next = false }) (t.negation (t.flag record { number = 19; next = false })))) ∷
    (t.equal (t.number record { number = 32; next = true }) (t.chosen (t.flag record { number = 26; next = false })
    (t.number record { number = 29; next = false }) (t.number record { number = 32; next = false }))) ∷ (t.equal
    (t.number record { number = 33; next = true }) (t.chosen (t.flag record { number = 26; next = false })
    (t.number record { number = 30; next = false }) (t.number record { number = 33; next = false }))) ∷ (t.equal
    (t.number record { number = 34; next = true }) (t.chosen (t.flag record { number = 26; next = false })
    (t.number record { number = 30; next = false }) (t.number record { number = 34; next = false }))) ∷ (t.same
    (t.flag record { number = 35; next = true }) (t.both (t.flag record { number = 35; next = false }) (t.negation
    (t.flag record { number = 26; next = false })))) ∷ (t.same (t.flag record {
      number = 36;
      next =
          true;
    }) (t.both (t.flag record { number = 36; next = false }) (t.negation
    (t.flag record { number = 26; next = false })))) ∷ (t.same (t.flag record {
      number = 37;
      next =
          true;
    }) (t.both (t.flag record { number = 37; next = false }) (t.negation (t.both
    (t.flag record { number = 26; next = false }) (t.negation (t.both (t.negation (t.at_most (t.constant (pos 7))
    (t.number record { number = 27; next = false }))) (t.negation (t.both
    (t.flag record { number = 31; next = false }) (t.flag record { number = 28; next = false }))))))))) ∷ (t.equal
    (t.number record { number = 38; next = true }) (t.chosen (t.flag record { number = 39; next = false })
    (t.number record { number = 42; next = false }) (t.number record { number = 38; next = false }))) ∷ (t.same
    (t.flag record { number = 43; next = true }) (t.choice (t.flag record { number = 44; next = false })
    (t.flag record { number = 46; next = false }) (t.flag record { number = 43; next = false }))) ∷ (t.same
    (t.flag record { number = 48; next = true }) (t.both (t.flag record { number = 48; next = false }) (t.negation
    (t.both (t.flag record { number = 44; next = false }) (t.negation (t.negation (t.both (t.negation
    (t.flag record { number = 45; next = false })) (t.negation (t.truth true))))))))) ∷ [])

abbrev pub RichLegal : Type 0
RichLegal = (system_of (instance_of rich_program top)).legal ≡ ((t.negation (t.equal
    (t.number record { number = 20; next = false }) (t.constant (pos 77)))) ∷ (t.negation (t.at_most (t.constant
    (pos 1000)) (t.number record { number = 1; next = false }))) ∷ (t.negation (t.both
    (t.flag record { number = 0; next = false }) (t.negation (t.negation (t.at_most
    (t.number record { number = 10; next = false }) (t.constant (negsuc 49))))))) ∷ (t.negation (t.both
    (t.flag record { number = 26; next = false }) (t.negation (t.at_most (t.constant (negsuc 99))
    (t.number record { number = 27; next = false }))))) ∷ [])

abbrev pub RichProperties : Type 0
RichProperties = (system_of (instance_of rich_program top)).properties ≡ ((t.negation (t.both (t.negation (t.equal
    (t.number record { number = 4; next = false }) (t.constant (pos 3)))) (t.negation
    (t.flag record { number = 5; next = false })))) ∷ (t.choice (t.flag record {
      number = 17;
      next =
          false;
    }) (t.truth true) (t.negation (t.both (t.negation (t.flag record { number = 15; next = false }))
    (t.negation (t.at_most (t.number record { number = 1; next = false })
    (t.number record { number = 4; next = false })))))) ∷ (t.negation (t.both (t.negation (t.at_most (t.constant
    (pos 0)) (t.number record { number = 22; next = false }))) (t.negation (t.negation
    (t.flag record { number = 23; next = false }))))) ∷ (t.negation (t.same (t.negation (t.both (t.negation (t.both
    (t.flag record { number = 21; next = false }) (t.negation (t.at_most
    (t.number record { number = 20; next = false }) (t.constant (pos 0)))))) (t.negation (t.flag record {
      number =
          12;
      next = false;
    })))) (t.flag record {
      number = 3;
      next =
          false;
    }))) ∷ (t.negation (t.both (t.both (t.flag record { number = 21; next = false }) (t.negation (t.at_most
    (t.number record { number = 20; next = false }) (t.constant (pos 0))))) (t.negation (t.negation (t.at_most
    (t.number record { number = 22; next = false }) (t.quotient (t.number record { number = 20; next = false })
    (pos 2))))))) ∷ (t.negation (t.both (t.both (t.flag record {
      number = 21;
      next =
          false;
    }) (t.negation (t.at_most (t.number record { number = 20; next = false }) (t.constant (pos 0)))))
    (t.negation (t.negation (t.equal (t.remainder (t.number record { number = 4; next = false }) (pos 5))
    (t.constant (pos 2))))))) ∷ (t.negation (t.both (t.negation (t.negation (t.both (t.negation (t.both
    (t.flag record { number = 21; next = false }) (t.negation (t.at_most
    (t.number record { number = 20; next = false }) (t.constant (pos 0)))))) (t.negation (t.negation
    (t.flag record { number = 21; next = false })))))) (t.negation (t.both (t.flag record {
      number = 21;
      next =
          false;
    }) (t.negation (t.at_most (t.number record { number = 20; next = false }) (t.constant (pos 0)))))))) ∷
    (t.negation (t.both (t.flag record { number = 26; next = false }) (t.negation (t.negation (t.at_most
    (t.constant (pos 7)) (t.number record { number = 27; next = false })))))) ∷ (t.negation (t.both
    (t.flag record { number = 26; next = false }) (t.negation (t.negation (t.both
    (t.flag record { number = 31; next = false }) (t.flag record { number = 28; next = false })))))) ∷ (t.negation
    (t.both (t.flag record { number = 44; next = false }) (t.negation (t.negation (t.both (t.negation
    (t.flag record { number = 45; next = false })) (t.negation (t.truth true))))))) ∷ [])

abbrev pub rich_frame : Frame
rich_frame = (frame ((
  (codes "x"),
  ((whole (negsuc 0)) ∷ (whole (negsuc 3)) ∷ (whole (pos 0)) ∷ (whole (pos 4)) ∷
      (whole (negsuc 5)) ∷ []),
) ∷ (
  (codes "c"),
  ((v.flag true) ∷ (v.flag true) ∷ (v.flag true) ∷ (v.flag true) ∷
      (v.flag true) ∷ []),
) ∷ (
  (codes "d"),
  ((v.flag true) ∷ (v.flag true) ∷ (v.flag true) ∷ (v.flag true) ∷
      (v.flag true) ∷ []),
) ∷ (
  (codes "o"),
  ((whole (pos 3)) ∷ (whole (negsuc 0)) ∷ (whole (pos 0)) ∷ (whole
      (pos 9)) ∷ (whole (negsuc 1)) ∷ []),
) ∷ (
  (codes "p"),
  ((v.flag false) ∷ (v.flag false) ∷ (v.flag false) ∷
      (v.flag false) ∷ (v.flag false) ∷ []),
) ∷ ((codes "b"), (absent ∷ absent ∷ absent ∷ absent ∷ absent ∷ [])) ∷ (
  (codes "u"),
  ((whole (negsuc 0)) ∷ (whole (negsuc 3)) ∷ (whole (pos 0)) ∷ (whole (pos 4)) ∷ (whole
      (negsuc 5)) ∷ []),
) ∷ (
  (codes "w"),
  ((whole (negsuc 0)) ∷ (whole (negsuc 0)) ∷ (whole (pos 0)) ∷ (whole
      (pos 4)) ∷ (whole (pos 4)) ∷ []),
) ∷ ((codes "f"), (absent ∷ absent ∷ absent ∷ absent ∷ absent ∷ [])) ∷ (
  (codes "q"),
  ((whole (negsuc 1)) ∷ (whole (negsuc 4)) ∷ (whole (pos 0)) ∷ (whole (pos 8)) ∷ (whole
      (negsuc 1)) ∷ []),
) ∷ ((codes "e"), (absent ∷ absent ∷ absent ∷ absent ∷ absent ∷ [])) ∷ (
  (codes "up"),
  ((v.flag true) ∷ (v.flag true) ∷ (v.flag true) ∷ (v.flag true) ∷ (v.flag true) ∷ []),
) ∷ []) ((whole (pos 4)) ∷
    (whole (pos 3)) ∷ (v.flag false) ∷ []) (with_frame (frame ((
      (codes "x"),
      ((whole (negsuc 0)) ∷ (whole
          (negsuc 3)) ∷ (whole (pos 0)) ∷ (whole (pos 4)) ∷ (whole (negsuc 5)) ∷ []),
    ) ∷ (
      (codes "c"),
      ((v.flag true) ∷
          (v.flag true) ∷ (v.flag true) ∷ (v.flag true) ∷ (v.flag true) ∷ []),
    ) ∷ (
      (codes "o"),
      ((whole (pos 3)) ∷ (whole
          (negsuc 0)) ∷ (whole (pos 0)) ∷ (whole (pos 9)) ∷ (whole (negsuc 1)) ∷ []),
    ) ∷ (
      (codes "seen"),
      ((v.flag true) ∷
          (v.flag true) ∷ (v.flag true) ∷ (v.flag true) ∷ (v.flag true) ∷ []),
    ) ∷ []) ((v.flag true) ∷ []) no_frames)
    (with_frame (frame ((
      (codes "a"),
      ((whole (negsuc 0)) ∷ (whole (negsuc 3)) ∷ (whole (pos 0)) ∷ (whole
          (pos 4)) ∷ (whole (negsuc 5)) ∷ []),
    ) ∷ (
      (codes "r"),
      ((v.flag true) ∷ (v.flag true) ∷ (v.flag true) ∷
          (v.flag true) ∷ (v.flag true) ∷ []),
    ) ∷ (
      (codes "s"),
      ((whole (negsuc 0)) ∷ (whole (negsuc 3)) ∷ (whole
          (pos 0)) ∷ (whole (pos 4)) ∷ (whole (negsuc 5)) ∷ []),
    ) ∷ (
      (codes "m"),
      ((whole (negsuc 0)) ∷ (whole
          (negsuc 0)) ∷ (whole (pos 0)) ∷ (whole (pos 4)) ∷ (whole (pos 4)) ∷ []),
    ) ∷ (
      (codes "neg"),
      ((v.flag true) ∷
          (v.flag true) ∷ (v.flag false) ∷ (v.flag false) ∷ (v.flag true) ∷ []),
    ) ∷ []) ((whole (pos 0)) ∷ (whole
    (negsuc 5)) ∷ (whole (negsuc 2)) ∷ []) no_frames) (with_frame (frame ((
      (codes "x"),
      ((whole (negsuc 0)) ∷
          (whole (negsuc 3)) ∷ (whole (pos 0)) ∷ (whole (pos 4)) ∷ (whole (negsuc 5)) ∷ []),
    ) ∷ (
      (codes "y"),
      ((whole
          (negsuc 5)) ∷ (whole (negsuc 14)) ∷ (whole (pos 0)) ∷ (whole (pos 24)) ∷ (whole (negsuc 5)) ∷ []),
    ) ∷ (
      (codes "o"),
      ((whole (pos 5)) ∷ (whole (pos 4)) ∷ (whole (pos 0)) ∷ (whole (pos 1)) ∷ (whole
          (pos 0)) ∷ []),
    ) ∷ []) ([]) no_frames) (with_frame (frame ((
      (codes "b"),
      ((v.flag true) ∷ (v.flag true) ∷
          (v.flag true) ∷ (v.flag true) ∷ (v.flag true) ∷ []),
    ) ∷ (
      (codes "o"),
      ((v.flag false) ∷ (v.flag false) ∷
          (v.flag false) ∷ (v.flag false) ∷ (v.flag false) ∷ []),
    ) ∷ (
      (codes "fr"),
      ((v.flag true) ∷ (v.flag false) ∷
          (v.flag true) ∷ (v.flag true) ∷ (v.flag true) ∷ []),
    ) ∷ []) ([]) no_frames) no_frames)))))

abbrev pub RichStates : Type 0
RichStates = states_of (instance_of rich_program top) rich_frame 5 ≡ (((entries.Flag true) ∷ (entries.Number (negsuc 0)) ∷
    (entries.Flag true) ∷ (entries.Flag true) ∷ (entries.Number (pos 3)) ∷ (entries.Flag false) ∷
    (entries.Flag false) ∷ (entries.Number (negsuc 0)) ∷ (entries.Number (negsuc 0)) ∷ (entries.Number (pos 0)) ∷
    (entries.Number (negsuc 1)) ∷ (entries.Number (pos 0)) ∷ (entries.Flag true) ∷ (entries.Number (pos 4)) ∷
    (entries.Number (pos 3)) ∷ (entries.Flag false) ∷ (entries.Flag true) ∷ (entries.Flag true) ∷
    (entries.Flag true) ∷ (entries.Flag true) ∷ (entries.Number (negsuc 0)) ∷ (entries.Flag true) ∷ (entries.Number
    (pos 3)) ∷ (entries.Flag true) ∷ (entries.Flag true) ∷ (entries.Flag true) ∷ (entries.Flag true) ∷
    (entries.Number (negsuc 0)) ∷ (entries.Flag true) ∷ (entries.Number (negsuc 0)) ∷ (entries.Number (negsuc 0)) ∷
    (entries.Flag true) ∷ (entries.Number (pos 0)) ∷ (entries.Number (negsuc 5)) ∷ (entries.Number (negsuc 2)) ∷
    (entries.Flag true) ∷ (entries.Flag true) ∷ (entries.Flag true) ∷ (entries.Number (pos 2)) ∷
    (entries.Flag true) ∷ (entries.Number (negsuc 0)) ∷ (entries.Number (negsuc 5)) ∷ (entries.Number (pos 5)) ∷
    (entries.Flag false) ∷ (entries.Flag true) ∷ (entries.Flag true) ∷ (entries.Flag false) ∷ (entries.Flag true) ∷
    (entries.Flag true) ∷ []) ∷ ((entries.Flag true) ∷ (entries.Number (negsuc 3)) ∷ (entries.Flag true) ∷
    (entries.Flag true) ∷ (entries.Number (negsuc 0)) ∷ (entries.Flag false) ∷ (entries.Flag false) ∷
    (entries.Number (negsuc 3)) ∷ (entries.Number (negsuc 0)) ∷ (entries.Number (pos 0)) ∷ (entries.Number
    (negsuc 4)) ∷ (entries.Number (pos 0)) ∷ (entries.Flag true) ∷ (entries.Number (pos 3)) ∷ (entries.Number
    (pos 3)) ∷ (entries.Flag false) ∷ (entries.Flag true) ∷ (entries.Flag false) ∷ (entries.Flag true) ∷
    (entries.Flag true) ∷ (entries.Number (negsuc 3)) ∷ (entries.Flag true) ∷ (entries.Number (negsuc 0)) ∷
    (entries.Flag true) ∷ (entries.Flag true) ∷ (entries.Flag false) ∷ (entries.Flag true) ∷ (entries.Number
    (negsuc 3)) ∷ (entries.Flag true) ∷ (entries.Number (negsuc 3)) ∷ (entries.Number (negsuc 0)) ∷
    (entries.Flag true) ∷ (entries.Number (negsuc 0)) ∷ (entries.Number (negsuc 0)) ∷ (entries.Number (negsuc 0)) ∷
    (entries.Flag false) ∷ (entries.Flag false) ∷ (entries.Flag false) ∷ (entries.Number (pos 5)) ∷
    (entries.Flag true) ∷ (entries.Number (negsuc 3)) ∷ (entries.Number (negsuc 14)) ∷ (entries.Number (pos 4)) ∷
    (entries.Flag false) ∷ (entries.Flag true) ∷ (entries.Flag true) ∷ (entries.Flag false) ∷
    (entries.Flag false) ∷ (entries.Flag true) ∷ []) ∷ ((entries.Flag true) ∷ (entries.Number (pos 0)) ∷
    (entries.Flag true) ∷ (entries.Flag true) ∷ (entries.Number (pos 0)) ∷ (entries.Flag false) ∷
    (entries.Flag false) ∷ (entries.Number (pos 0)) ∷ (entries.Number (pos 0)) ∷ (entries.Number (pos 0)) ∷
    (entries.Number (pos 0)) ∷ (entries.Number (pos 0)) ∷ (entries.Flag true) ∷ (entries.Number (negsuc 0)) ∷
    (entries.Number (pos 3)) ∷ (entries.Flag false) ∷ (entries.Flag true) ∷ (entries.Flag false) ∷
    (entries.Flag true) ∷ (entries.Flag true) ∷ (entries.Number (pos 0)) ∷ (entries.Flag true) ∷ (entries.Number
    (pos 0)) ∷ (entries.Flag true) ∷ (entries.Flag true) ∷ (entries.Flag false) ∷ (entries.Flag true) ∷
    (entries.Number (pos 0)) ∷ (entries.Flag true) ∷ (entries.Number (pos 0)) ∷ (entries.Number (pos 0)) ∷
    (entries.Flag false) ∷ (entries.Number (negsuc 3)) ∷ (entries.Number (negsuc 0)) ∷ (entries.Number
    (negsuc 0)) ∷ (entries.Flag false) ∷ (entries.Flag false) ∷ (entries.Flag false) ∷ (entries.Number (pos 4)) ∷
    (entries.Flag true) ∷ (entries.Number (pos 0)) ∷ (entries.Number (pos 0)) ∷ (entries.Number (pos 0)) ∷
    (entries.Flag false) ∷ (entries.Flag true) ∷ (entries.Flag true) ∷ (entries.Flag false) ∷ (entries.Flag true) ∷
    (entries.Flag true) ∷ []) ∷ ((entries.Flag true) ∷ (entries.Number (pos 4)) ∷ (entries.Flag true) ∷
    (entries.Flag true) ∷ (entries.Number (pos 9)) ∷ (entries.Flag false) ∷ (entries.Flag false) ∷ (entries.Number
    (pos 4)) ∷ (entries.Number (pos 4)) ∷ (entries.Number (pos 0)) ∷ (entries.Number (pos 8)) ∷ (entries.Number
    (pos 0)) ∷ (entries.Flag true) ∷ (entries.Number (pos 0)) ∷ (entries.Number (pos 3)) ∷ (entries.Flag false) ∷
    (entries.Flag true) ∷ (entries.Flag false) ∷ (entries.Flag true) ∷ (entries.Flag true) ∷ (entries.Number
    (pos 4)) ∷ (entries.Flag true) ∷ (entries.Number (pos 9)) ∷ (entries.Flag true) ∷ (entries.Flag true) ∷
    (entries.Flag false) ∷ (entries.Flag true) ∷ (entries.Number (pos 4)) ∷ (entries.Flag true) ∷ (entries.Number
    (pos 4)) ∷ (entries.Number (pos 4)) ∷ (entries.Flag false) ∷ (entries.Number (pos 0)) ∷ (entries.Number
    (pos 0)) ∷ (entries.Number (pos 0)) ∷ (entries.Flag false) ∷ (entries.Flag false) ∷ (entries.Flag false) ∷
    (entries.Number (pos 0)) ∷ (entries.Flag true) ∷ (entries.Number (pos 4)) ∷ (entries.Number (pos 24)) ∷
    (entries.Number (pos 1)) ∷ (entries.Flag false) ∷ (entries.Flag true) ∷ (entries.Flag true) ∷
    (entries.Flag false) ∷ (entries.Flag true) ∷ (entries.Flag true) ∷ []) ∷ ((entries.Flag true) ∷ (entries.Number
    (negsuc 5)) ∷ (entries.Flag true) ∷ (entries.Flag true) ∷ (entries.Number (negsuc 1)) ∷ (entries.Flag false) ∷
    (entries.Flag false) ∷ (entries.Number (negsuc 5)) ∷ (entries.Number (pos 4)) ∷ (entries.Number (pos 0)) ∷
    (entries.Number (negsuc 1)) ∷ (entries.Number (pos 0)) ∷ (entries.Flag true) ∷ (entries.Number (pos 9)) ∷
    (entries.Number (pos 3)) ∷ (entries.Flag false) ∷ (entries.Flag true) ∷ (entries.Flag false) ∷
    (entries.Flag true) ∷ (entries.Flag true) ∷ (entries.Number (negsuc 5)) ∷ (entries.Flag true) ∷ (entries.Number
    (negsuc 1)) ∷ (entries.Flag true) ∷ (entries.Flag true) ∷ (entries.Flag false) ∷ (entries.Flag true) ∷
    (entries.Number (negsuc 5)) ∷ (entries.Flag true) ∷ (entries.Number (negsuc 5)) ∷ (entries.Number (pos 4)) ∷
    (entries.Flag true) ∷ (entries.Number (pos 4)) ∷ (entries.Number (pos 4)) ∷ (entries.Number (pos 4)) ∷
    (entries.Flag false) ∷ (entries.Flag false) ∷ (entries.Flag false) ∷ (entries.Number (pos 1)) ∷
    (entries.Flag true) ∷ (entries.Number (negsuc 5)) ∷ (entries.Number (negsuc 5)) ∷ (entries.Number (pos 0)) ∷
    (entries.Flag false) ∷ (entries.Flag true) ∷ (entries.Flag true) ∷ (entries.Flag false) ∷ (entries.Flag true) ∷
    (entries.Flag true) ∷ []) ∷ [])

abbrev pub RichBack : Type 0
RichBack = frame_of_path (instance_of rich_program top) (((entries.Flag true) ∷ (entries.Number (negsuc 0)) ∷
    (entries.Flag true) ∷ (entries.Flag true) ∷ (entries.Number (pos 3)) ∷ (entries.Flag false) ∷
    (entries.Flag false) ∷ (entries.Number (negsuc 0)) ∷ (entries.Number (negsuc 0)) ∷ (entries.Number (pos 0)) ∷
    (entries.Number (negsuc 1)) ∷ (entries.Number (pos 0)) ∷ (entries.Flag true) ∷ (entries.Number (pos 4)) ∷
    (entries.Number (pos 3)) ∷ (entries.Flag false) ∷ (entries.Flag true) ∷ (entries.Flag true) ∷
    (entries.Flag true) ∷ (entries.Flag true) ∷ (entries.Number (negsuc 0)) ∷ (entries.Flag true) ∷ (entries.Number
    (pos 3)) ∷ (entries.Flag true) ∷ (entries.Flag true) ∷ (entries.Flag true) ∷ (entries.Flag true) ∷
    (entries.Number (negsuc 0)) ∷ (entries.Flag true) ∷ (entries.Number (negsuc 0)) ∷ (entries.Number (negsuc 0)) ∷
    (entries.Flag true) ∷ (entries.Number (pos 0)) ∷ (entries.Number (negsuc 5)) ∷ (entries.Number (negsuc 2)) ∷
    (entries.Flag true) ∷ (entries.Flag true) ∷ (entries.Flag true) ∷ (entries.Number (pos 2)) ∷
    (entries.Flag true) ∷ (entries.Number (negsuc 0)) ∷ (entries.Number (negsuc 5)) ∷ (entries.Number (pos 5)) ∷
    (entries.Flag false) ∷ (entries.Flag true) ∷ (entries.Flag true) ∷ (entries.Flag false) ∷ (entries.Flag true) ∷
    (entries.Flag true) ∷ []) ∷ ((entries.Flag true) ∷ (entries.Number (negsuc 3)) ∷ (entries.Flag true) ∷
    (entries.Flag true) ∷ (entries.Number (negsuc 0)) ∷ (entries.Flag false) ∷ (entries.Flag false) ∷
    (entries.Number (negsuc 3)) ∷ (entries.Number (negsuc 0)) ∷ (entries.Number (pos 0)) ∷ (entries.Number
    (negsuc 4)) ∷ (entries.Number (pos 0)) ∷ (entries.Flag true) ∷ (entries.Number (pos 3)) ∷ (entries.Number
    (pos 3)) ∷ (entries.Flag false) ∷ (entries.Flag true) ∷ (entries.Flag false) ∷ (entries.Flag true) ∷
    (entries.Flag true) ∷ (entries.Number (negsuc 3)) ∷ (entries.Flag true) ∷ (entries.Number (negsuc 0)) ∷
    (entries.Flag true) ∷ (entries.Flag true) ∷ (entries.Flag false) ∷ (entries.Flag true) ∷ (entries.Number
    (negsuc 3)) ∷ (entries.Flag true) ∷ (entries.Number (negsuc 3)) ∷ (entries.Number (negsuc 0)) ∷
    (entries.Flag true) ∷ (entries.Number (negsuc 0)) ∷ (entries.Number (negsuc 0)) ∷ (entries.Number (negsuc 0)) ∷
    (entries.Flag false) ∷ (entries.Flag false) ∷ (entries.Flag false) ∷ (entries.Number (pos 5)) ∷
    (entries.Flag true) ∷ (entries.Number (negsuc 3)) ∷ (entries.Number (negsuc 14)) ∷ (entries.Number (pos 4)) ∷
    (entries.Flag false) ∷ (entries.Flag true) ∷ (entries.Flag true) ∷ (entries.Flag false) ∷
    (entries.Flag false) ∷ (entries.Flag true) ∷ []) ∷ ((entries.Flag true) ∷ (entries.Number (pos 0)) ∷
    (entries.Flag true) ∷ (entries.Flag true) ∷ (entries.Number (pos 0)) ∷ (entries.Flag false) ∷
    (entries.Flag false) ∷ (entries.Number (pos 0)) ∷ (entries.Number (pos 0)) ∷ (entries.Number (pos 0)) ∷
    (entries.Number (pos 0)) ∷ (entries.Number (pos 0)) ∷ (entries.Flag true) ∷ (entries.Number (negsuc 0)) ∷
    (entries.Number (pos 3)) ∷ (entries.Flag false) ∷ (entries.Flag true) ∷ (entries.Flag false) ∷
    (entries.Flag true) ∷ (entries.Flag true) ∷ (entries.Number (pos 0)) ∷ (entries.Flag true) ∷ (entries.Number
    (pos 0)) ∷ (entries.Flag true) ∷ (entries.Flag true) ∷ (entries.Flag false) ∷ (entries.Flag true) ∷
    (entries.Number (pos 0)) ∷ (entries.Flag true) ∷ (entries.Number (pos 0)) ∷ (entries.Number (pos 0)) ∷
    (entries.Flag false) ∷ (entries.Number (negsuc 3)) ∷ (entries.Number (negsuc 0)) ∷ (entries.Number
    (negsuc 0)) ∷ (entries.Flag false) ∷ (entries.Flag false) ∷ (entries.Flag false) ∷ (entries.Number (pos 4)) ∷
    (entries.Flag true) ∷ (entries.Number (pos 0)) ∷ (entries.Number (pos 0)) ∷ (entries.Number (pos 0)) ∷
    (entries.Flag false) ∷ (entries.Flag true) ∷ (entries.Flag true) ∷ (entries.Flag false) ∷ (entries.Flag true) ∷
    (entries.Flag true) ∷ []) ∷ ((entries.Flag true) ∷ (entries.Number (pos 4)) ∷ (entries.Flag true) ∷
    (entries.Flag true) ∷ (entries.Number (pos 9)) ∷ (entries.Flag false) ∷ (entries.Flag false) ∷ (entries.Number
    (pos 4)) ∷ (entries.Number (pos 4)) ∷ (entries.Number (pos 0)) ∷ (entries.Number (pos 8)) ∷ (entries.Number
    (pos 0)) ∷ (entries.Flag true) ∷ (entries.Number (pos 0)) ∷ (entries.Number (pos 3)) ∷ (entries.Flag false) ∷
    (entries.Flag true) ∷ (entries.Flag false) ∷ (entries.Flag true) ∷ (entries.Flag true) ∷ (entries.Number
    (pos 4)) ∷ (entries.Flag true) ∷ (entries.Number (pos 9)) ∷ (entries.Flag true) ∷ (entries.Flag true) ∷
    (entries.Flag false) ∷ (entries.Flag true) ∷ (entries.Number (pos 4)) ∷ (entries.Flag true) ∷ (entries.Number
    (pos 4)) ∷ (entries.Number (pos 4)) ∷ (entries.Flag false) ∷ (entries.Number (pos 0)) ∷ (entries.Number
    (pos 0)) ∷ (entries.Number (pos 0)) ∷ (entries.Flag false) ∷ (entries.Flag false) ∷ (entries.Flag false) ∷
    (entries.Number (pos 0)) ∷ (entries.Flag true) ∷ (entries.Number (pos 4)) ∷ (entries.Number (pos 24)) ∷
    (entries.Number (pos 1)) ∷ (entries.Flag false) ∷ (entries.Flag true) ∷ (entries.Flag true) ∷
    (entries.Flag false) ∷ (entries.Flag true) ∷ (entries.Flag true) ∷ []) ∷ ((entries.Flag true) ∷ (entries.Number
    (negsuc 5)) ∷ (entries.Flag true) ∷ (entries.Flag true) ∷ (entries.Number (negsuc 1)) ∷ (entries.Flag false) ∷
    (entries.Flag false) ∷ (entries.Number (negsuc 5)) ∷ (entries.Number (pos 4)) ∷ (entries.Number (pos 0)) ∷
    (entries.Number (negsuc 1)) ∷ (entries.Number (pos 0)) ∷ (entries.Flag true) ∷ (entries.Number (pos 9)) ∷
    (entries.Number (pos 3)) ∷ (entries.Flag false) ∷ (entries.Flag true) ∷ (entries.Flag false) ∷
    (entries.Flag true) ∷ (entries.Flag true) ∷ (entries.Number (negsuc 5)) ∷ (entries.Flag true) ∷ (entries.Number
    (negsuc 1)) ∷ (entries.Flag true) ∷ (entries.Flag true) ∷ (entries.Flag false) ∷ (entries.Flag true) ∷
    (entries.Number (negsuc 5)) ∷ (entries.Flag true) ∷ (entries.Number (negsuc 5)) ∷ (entries.Number (pos 4)) ∷
    (entries.Flag true) ∷ (entries.Number (pos 4)) ∷ (entries.Number (pos 4)) ∷ (entries.Number (pos 4)) ∷
    (entries.Flag false) ∷ (entries.Flag false) ∷ (entries.Flag false) ∷ (entries.Number (pos 1)) ∷
    (entries.Flag true) ∷ (entries.Number (negsuc 5)) ∷ (entries.Number (negsuc 5)) ∷ (entries.Number (pos 0)) ∷
    (entries.Flag false) ∷ (entries.Flag true) ∷ (entries.Flag true) ∷ (entries.Flag false) ∷ (entries.Flag true) ∷
    (entries.Flag true) ∷ []) ∷ []) ≡ rich_frame
