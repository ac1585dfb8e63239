-- Faults that are noted one behind the other.
use Rattle.std.proofs.Common.{◌≡◌, List, [], ◌++◌, ap, subst, ◌∙◌, append_assoc, arith, Option}
use Rattle.std.proofs.lemmas.List.{append-nil}
use Rattle.lus_tree.specs.Reason.{Refused, name_twice}
use Rattle.lus_tree.specs.Tree.{Spelled, Expression, Component}
use Rattle.lus_meaning.specs.Scope.{Scope}
use Rattle.lus_meaning.specs.NameFaults.{import_fits, outer_twice}
use Rattle.lus_meaning.specs.Faults.{words_twice}
use Rattle.lus_scopes.specs.Least.{noted_all}
use Rattle.lus_scopes.specs.Notes.{Notes}
use Rattle.lus_scopes.proofs.Leasts.{least_noted_all}
use Rattle.lus_scopes.proofs.Walks.{failing_append}
use Rattle.lus_scopes.proofs.Alike.{AreSame, least_same}

pub nothing_noted : (o : Option Refused) → Notes o o []
nothing_noted o gs i = rw (append-nil gs) i

pub both_noted : (o p q : Option Refused) (fs gs : List Refused) → Notes o p fs → Notes p q gs → Notes o q (fs ++ gs)
both_noted o p q fs gs a b hs i = rw (← append_assoc hs fs gs) (b (hs ++ fs) (a hs i))

pub all_noted : (o q : Option Refused) (fs : List Refused) → q ≡ noted_all o fs → Notes o q fs
all_noted o q fs e gs i = rw e (least_noted_all o gs fs i)

pub fits_named : (s : Scope) (c : Spelled) (as_ : List Expression) (ws : List Spelled) (n m : Option Component) (o q : Option Refused) → n ≡ m
    → q ≡ noted_all o (import_fits s c as_ ws n) → Notes o q (import_fits s c as_ ws m)
fits_named s c as_ ws n m o q e h = all_noted o q (import_fits s c as_ ws m) (h ∙ ap (λ z. noted_all o (import_fits s c as_ ws z)) e)

-- ---- in another order

alike_behind : (fs gs hs : List Refused) → AreSame fs gs → AreSame (hs ++ fs) (hs ++ gs)
alike_behind fs gs hs a p = record {
  there = λ z. omega (arith, failing_append p hs fs, failing_append p hs gs, (a p).there);
  back = λ z. omega (arith, failing_append p hs fs, failing_append p hs gs, (a p).back);
}

pub alike_noted : (o q : Option Refused) (fs gs : List Refused) → AreSame fs gs → Notes o q fs → Notes o q gs
alike_noted o q fs gs a n hs i = least_same q (hs ++ fs) (hs ++ gs) (alike_behind fs gs hs a) (n hs i)

swapped : (as_ bs cs : List Refused) → AreSame (as_ ++ (bs ++ cs)) (bs ++ (as_ ++ cs))
swapped as_ bs cs p = record {
  there = λ z. omega (arith, failing_append p as_ (bs ++ cs), failing_append p bs cs, failing_append p bs (as_ ++ cs), failing_append p as_ cs);
  back = λ z. omega (arith, failing_append p as_ (bs ++ cs), failing_append p bs cs, failing_append p bs (as_ ++ cs), failing_append p as_ cs);
}

-- the first of three noted behind the second
pub second_first : (o p q r : Option Refused) (as_ bs cs : List Refused) → Notes o p as_ → Notes p q bs → Notes q r cs → Notes o r (bs ++ (as_ ++ cs))
second_first o p q r as_ bs cs a b c =
    alike_noted o r (as_ ++ (bs ++ cs)) (bs ++ (as_ ++ cs)) (swapped as_ bs cs) (both_noted o p r as_ (bs ++ cs) a (both_noted p q r bs cs b c))

-- four, one behind the other
pub four_noted : (o p q r t : Option Refused) (as_ bs cs ds : List Refused) → Notes o p as_ → Notes p q bs → Notes q r cs → Notes r t ds
    → Notes o t (as_ ++ (bs ++ (cs ++ ds)))
four_noted o p q r t as_ bs cs ds a b c d = both_noted o p t as_ (bs ++ (cs ++ ds)) a
    (both_noted p q t bs (cs ++ ds) b (both_noted q r t cs ds c d))

-- names that stand twice among them, and that are outer ones
pub own_noted : (outer os own vs ws : List Spelled) (o p q : Option Refused) → os ≡ outer → vs ≡ own → ws ≡ own
    → Notes o p (words_twice name_twice vs) → q ≡ noted_all p (outer_twice os ws) → Notes o q (words_twice name_twice own ++ outer_twice outer own)
own_noted outer os own vs ws o p q e f g n m =
    both_noted o p q (words_twice name_twice own) (outer_twice outer own) (subst (λ z. Notes o p (words_twice name_twice z)) f n)
    (all_noted p q (outer_twice outer own) (m ∙ ap (λ z. noted_all p (outer_twice z ws)) e ∙ ap (λ z. noted_all p (outer_twice outer z)) g))
