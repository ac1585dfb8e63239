use Rattle.std.proofs.Common.{◌≡◌, ◌∙◌, sym, ap, rules, List, ℕ, Some, string_bytes}
use Rattle.kind_io.proofs.Storing.{found_kept, found_others, push_kept, push_others, none_before}
use Rattle.kind_io.proofs.held.store.Goals as goal

pub returns-in-Some-clause-kept : goal.returns-in-Some-clause-kept
returns-in-Some-clause-kept c =
    let copied : c.in_ok-copy.copy.items ≡ c.args.bytes.now = search rules in
    found_kept c.args.files.now.items c.args.name.now c.in-Some.place c.in_ok-copy.copy c.index_mut.result.now
    (rw c.deref.ensures.value at c.in-Some.ensures) c.index_mut.ensures.value ∙ ap (λ (l : List ℕ). Some l) copied

pub returns-in-Some-clause-others : goal.returns-in-Some-clause-others
returns-in-Some-clause-others c = λ other differs.
    found_others c.args.files.now.items c.args.name.now other c.in-Some.place c.in_ok-copy.copy c.index_mut.result.now
    (rw c.deref.ensures.value at c.in-Some.ensures) c.index_mut.ensures.value differs

pub returns-in_ok-push-in-None-clause-kept : goal.returns-in_ok-push-in-None-clause-kept
returns-in_ok-push-in-None-clause-kept c =
    let copied : c.in_ok-copy.copy.items ≡ c.args.bytes.now = search rules in
    let named : string_bytes c.in_ok-from_str-in-None.field-0 ≡ c.args.name.now = search rules in
    rw c.in_ok-push-in-None.ensures.items (push_kept c.args.files.now.items c.args.name.now (c.in_ok-from_str-in-None.field-0, c.in_ok-copy.copy)
    (none_before _ _ (sym (rw c.deref.ensures.value at c.in-None.ensures))) named ∙ ap (λ (l : List ℕ). Some l) copied)

pub returns-in_ok-push-in-None-clause-others : goal.returns-in_ok-push-in-None-clause-others
returns-in_ok-push-in-None-clause-others c = λ other differs.
    let named : string_bytes c.in_ok-from_str-in-None.field-0 ≡ c.args.name.now = search rules in
    rw c.in_ok-push-in-None.ensures.items (push_others c.args.files.now.items other (c.in_ok-from_str-in-None.field-0, c.in_ok-copy.copy)
    (λ z. differs (sym z ∙ named)))
