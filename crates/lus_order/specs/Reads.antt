-- What an expression reads at its instant, names of modes as they stand. The clocks of names are given, and for each callee
-- whether it reads its inputs at the same instant, one behind the other.
use Rattle.std.specs.Prelude.{◌≡◌, Bool, cond, List, [], ◌∷◌, ◌++◌, map, Option, None, option_map, option_to_list, get_or}
use Rattle.std.specs.Borrow.{Bor}
use Rattle.lus_tree.specs.Tree.{Name, text_of, Expression, Expressions, truth, number, name, negation, minus, pre, arrow, binary, choice, sampled, merged, call, condact, mode_name, no_more, more}
use Rattle.lus_meaning.specs.Depends.{named_in}
use Rattle.name_table.specs.Names.{number_of}
use Rattle.lus_order.specs.declared.reads.Read.{Read as CodeRead}
use Rattle.lus_order.specs.declared.reads.Read.TheVariants.{Name as NameRead, Mode as ModeRead}
use Rattle.lus_order.specs.declared.setting.Clocks.{Clocks}
use Rattle.lus_order.specs.declared.setting.Callees.{Callees}

-- a name, or a mode by its name and the import before it
pub data Read : Type 0 where
  a_name : Name → Read
  a_mode : List Name × Name → Read

abbrev pub text_seen : Option (Bor Name) → Option Name
text_seen = option_map (λ x. x.now)

abbrev pub read_view : CodeRead → Read
read_view (NameRead x) = a_name x.now
read_view (ModeRead d m) = a_mode (option_to_list (text_seen d), m.now)

abbrev pub reads_view : List CodeRead → List Read
reads_view = map read_view

-- the reads are those before, and these behind them
abbrev pub Gains : List CodeRead → List CodeRead → List Read → Type 0
Gains old new rs = reads_view new ≡ reads_view old ++ rs

-- ---- what is known of names and callees

-- the name of a clock
abbrev pub clock_seen : Option (Bor Name) → List Name
clock_seen c = option_to_list (text_seen c)

abbrev pub clock_at : List Name → List (Option (Bor Name)) → Name → List Name
clock_at xs cs x = cond (named_in x xs) (clock_seen (get_or cs (number_of xs x) None)) []

abbrev pub clocks_view : Clocks → Name → List Name
clocks_view s = clock_at s.names s.clocks.items

abbrev pub flags_at : List Name → List (List Bool) → Name → List Bool
flags_at fs bs f = cond (named_in f fs) (get_or bs (number_of fs f) []) []

abbrev pub callees_view : Callees → Name → List Bool
callees_view s = flags_at s.names (map (λ b. b.items) s.flags.items)

-- ---- what an expression reads

abbrev pub names_read : List Name → List Read
names_read xs = map a_name xs

-- on a clock, by its name
abbrev mutual
  pub read_in : (Name → List Name) → (Name → List Bool) → List Name → Expression → List Read
  read_in k g c (truth p b) = names_read c
  read_in k g c (number p n) = names_read c
  read_in k g c (name p x) = a_name x ∷ names_read c
  read_in k g c (negation p a) = names_read c ++ read_in k g c a
  read_in k g c (minus p a) = names_read c ++ read_in k g c a
  read_in k g c (pre p n a) = names_read c
  read_in k g c (arrow p n a b) = names_read c ++ (read_in k g c a ++ read_in k g c b)
  read_in k g c (binary p o a b) = names_read c ++ (read_in k g c a ++ read_in k g c b)
  read_in k g c (choice p a b d) = names_read c ++ (read_in k g c a ++ (read_in k g c b ++ read_in k g c d))
  read_in k g c (sampled p a b x) = a_name x.text ∷ read_in k g (k x.text) a
  read_in k g c (merged p x a b) = a_name x.text ∷ (read_in k g (x.text ∷ []) a ++ read_in k g (x.text ∷ []) b)
  read_in k g c (call p n f as_) = names_read c ++ read_arguments k g c (g f.text) as_
  read_in k g c (condact p n a f as_ ds) =
      names_read c ++ (read_in k g c a ++ (read_arguments k g c (g f.text) as_ ++ read_each k g c ds))
  read_in k g c (mode_name p d m) = a_mode (option_to_list (option_map text_of d), m.text) ∷ []

  pub read_each : (Name → List Name) → (Name → List Bool) → List Name → Expressions → List Read
  read_each k g c no_more = []
  read_each k g c (more a as_) = read_in k g c a ++ read_each k g c as_

  -- of arguments whose inputs are read
  pub read_arguments : (Name → List Name) → (Name → List Bool) → List Name → List Bool → Expressions → List Read
  read_arguments k g c (b ∷ bs) (more a as_) = cond b (read_in k g c a) [] ++ read_arguments k g c bs as_
  read_arguments k g c bs _ = []
