-- The faults that are noted of a program are those of the definition.
use Rattle.std.proofs.Common.{◌≡◌, ◌+◌, Bool, List, [], ◌∷◌, ◌++◌, map, flat_map, refl, ap, sym, ◌∙◌, Option, None}
use Rattle.lus_tree.specs.Tree.{Name, text_of, Component, Expression, Labelled, Statement, equation, assertion, property, main_mark, ContractStatement, assume, guarantee, ghost_variable, constant, mode, «import», declared_constant, declared_node, declared_contract, Program}
use Rattle.lus_tree.specs.Reason.{Refused, clock_clash}
use Rattle.lus_meaning.specs.Scene.{base, clock_of_names, contract_statements}
use Rattle.lus_meaning.specs.Occurrences.{begin}
use Rattle.lus_meaning.specs.Faults.{if_so}
use Rattle.lus_meaning.specs.ClockFaults.{clock_faults, clock_faults_of, component_clock_faults, contract_statement_clock_faults, statement_clock_faults, side_faults, all_on_base}
use Rattle.lus_scopes.specs.Least.{IsLeast, noted_all}
use Rattle.lus_scopes.proofs.Alike.{AreSame, least_same}
use Rattle.lus_scopes.proofs.Leasts.{least_of_all}
use Rattle.lus_scopes.proofs.Walks.{failing, failing_append}
use Rattle.lus_clocks.specs.Items.{some_other, placed_walk, side_walk, labelled_walk, contract_statement_walk, statement_walk, component_walk, declaration_walk}
use Rattle.lus_clocks.proofs.Walks.{placed}

module _ (p : Refused → Bool) where
  each_same : {X : Type 0} (f g : X → List Refused) → ((x : X) → failing p (f x) ≡ failing p (g x)) → (xs : List X)
      → failing p (flat_map f xs) ≡ failing p (flat_map g xs)
  each_same f g i [] = refl
  each_same f g i (x ∷ xs) =
      failing_append p (f x) (flat_map f xs) ∙ ap (λ z. z + failing p (flat_map f xs)) (i x)
      ∙ ap (λ z. failing p (g x) + z) (each_same f g i xs) ∙ sym (failing_append p (g x) (flat_map g xs))

  both_same : (as_ bs cs ds : List Refused) → failing p as_ ≡ failing p bs → failing p cs ≡ failing p ds → failing p (as_ ++ cs) ≡ failing p (bs ++ ds)
  both_same as_ bs cs ds i j =
      failing_append p as_ cs ∙ ap (λ z. z + failing p cs) i ∙ ap (λ z. failing p bs + z) j ∙ sym (failing_append p bs ds)

  module _ (n : Component) where
    side_same : (xs : List Name) (e : Expression) → failing p (side_walk n xs e) ≡ failing p (side_faults n xs e)
    side_same xs e =
        let clash : List Refused = if_so (some_other n (clock_of_names n xs) xs) clock_clash (begin e) in
        both_same clash clash (placed_walk n (clock_of_names n xs) e) (clock_faults_of n (clock_of_names n xs) e)
        refl (placed p n (clock_of_names n xs) e)

    labelled_same : (ls : List Labelled) → failing p (labelled_walk n ls) ≡ failing p (all_on_base n ls)
    labelled_same ls = each_same (λ l. placed_walk n base l.value) (λ l. clock_faults_of n base l.value) (λ l. placed p n base l.value) ls

    statement_same : (s : Statement) → failing p (statement_walk n s) ≡ failing p (statement_clock_faults n s)
    statement_same (equation xs e) = side_same (map text_of xs) e
    statement_same (assertion e) = placed p n base e
    statement_same (property l) = placed p n base l.value
    statement_same (main_mark q) = refl

    contract_same : (s : ContractStatement) → failing p (contract_statement_walk n s) ≡ failing p (contract_statement_clock_faults n s)
    contract_same (assume l) = placed p n base l.value
    contract_same (guarantee l) = placed p n base l.value
    contract_same (ghost_variable v e) = placed p n base e
    contract_same (constant c) = refl
    contract_same (mode m rs es) =
        both_same (labelled_walk n rs) (all_on_base n rs) (labelled_walk n es) (all_on_base n es) (labelled_same rs) (labelled_same es)
    contract_same («import» k c as_ xs) = each_same (placed_walk n base) (clock_faults_of n base) (placed p n base) as_

    component_same : failing p (component_walk n) ≡ failing p (component_clock_faults n)
    component_same =
        both_same (flat_map (contract_statement_walk n) (contract_statements n)) (flat_map (contract_statement_clock_faults n) (contract_statements n))
        (flat_map (statement_walk n) n.body) (flat_map (statement_clock_faults n) n.body)
        (each_same (contract_statement_walk n) (contract_statement_clock_faults n) contract_same (contract_statements n))
        (each_same (statement_walk n) (statement_clock_faults n) statement_same n.body)

  program_same : (q : Program) → failing p (flat_map declaration_walk q) ≡ failing p (clock_faults q)
  program_same [] = refl
  program_same (declared_constant c ∷ ds) = program_same ds
  program_same (declared_node n ∷ ds) =
      both_same (component_walk n) (component_clock_faults n) (flat_map declaration_walk ds) (clock_faults ds) (component_same n) (program_same ds)
  program_same (declared_contract n ∷ ds) =
      both_same (component_walk n) (component_clock_faults n) (flat_map declaration_walk ds) (clock_faults ds) (component_same n) (program_same ds)

are_same : (q : Program) → AreSame (flat_map declaration_walk q) (clock_faults q)
are_same q p = record { there = λ z. sym (program_same p q) ∙ z; back = λ z. program_same p q ∙ z }

pub least_of_program : (q : Program) (o : Option Refused) → o ≡ noted_all None (flat_map declaration_walk q) → IsLeast o (clock_faults q)
least_of_program q o e = least_same o (flat_map declaration_walk q) (clock_faults q) (are_same q) (rw e (least_of_all (flat_map declaration_walk q)))
