-- What is evaluated of an expression before itself.
use Rattle.std.specs.Prelude.{true, false, List, [], ◌++◌, option_map}
use Rattle.lus_tree.specs.Tree.{text_of, Expression, truth, number, name, negation, minus, pre, arrow, binary, choice, sampled, merged, call, condact, mode_name}
use Rattle.lus_meaning.specs.Cycle.{Place}
use Rattle.lus_meaning.specs.Scene.{Clock, sampled_by, component_of, clock_of}
use Rattle.lus_evaluation.specs.Part.{Part, Setting, argument_parts, asked_in, key_of, needs_of, operand_parts, parts}

-- on its own clock
abbrev pub beside : Setting → List Place → Clock → Expression → List Part
beside g ns c (negation p a) = parts g ns [] c a
beside g ns c (minus p a) = parts g ns [] c a
beside g ns c (pre p k a) = parts g (needs_of g c a) [] c a
beside g ns c (arrow p k a b) = parts g ns [] c a ++ parts g ns [] c b
beside g ns c (binary p o a b) = parts g ns [] c a ++ parts g ns [] c b
beside g ns c (choice p a b d) = parts g ns [] c a ++ parts g ns [] c b ++ parts g ns [] c d
beside g ns c (truth p b) = []
beside g ns c (number p n) = []
beside g ns c (name p x) = []
beside g ns c (sampled p a b x) = []
beside g ns c (merged p x a b) = []
beside g ns c (call p k f as_) = []
beside g ns c (condact p k a f as_ ds) = []
beside g ns c (mode_name p d m) = []

-- on another clock or in another frame, or of a mode that it names
abbrev pub elsewhere : Setting → List Place → Clock → Expression → List Part
elsewhere g ns c (sampled p a b x) = parts g ns [] (clock_of (component_of g.place) x.text) a
elsewhere g ns c (merged p x a b) = parts g ns [] (sampled_by true x.text) a ++ parts g ns [] (sampled_by false x.text) b
elsewhere g ns c (call p k f as_) = argument_parts g c as_ ++ g.body k
elsewhere g ns c (condact p k a f as_ ds) =
    parts g (needs_of g c a) [] c a ++ (argument_parts g c as_ ++ g.body k) ++ operand_parts g ns c ds
elsewhere g ns c (mode_name p d m) = asked_in g ns (key_of (option_map text_of d) m.text)
elsewhere g ns c (truth p b) = []
elsewhere g ns c (number p n) = []
elsewhere g ns c (name p x) = []
elsewhere g ns c (negation p a) = []
elsewhere g ns c (minus p a) = []
elsewhere g ns c (pre p k a) = []
elsewhere g ns c (arrow p k a b) = []
elsewhere g ns c (binary p o a b) = []
elsewhere g ns c (choice p a b d) = []
