use Rattle.std.proofs.Common.{rules, ◌≡◌, ap, ◌∙◌, sym, map, length}
use Rattle.lus_tree.specs.View.{program_view}
use Rattle.lus_streams.specs.Owner.{owner_view}
use Rattle.lus_limits.specs.Needed.{names_of}
use Rattle.lus_limits.proofs.Needed.{many_mapped}
use Rattle.lus_limits.proofs.Settled.{table_there, table_names, known_all}
use Rattle.lus_limits.proofs.settling.all_needs.Goals as goal

pub unwrap-names-requires : goal.unwrap-names-requires
unwrap-names-requires c =
    let same : map (λ x. x.now) c.deref-2.result.now ≡ names_of (program_view c.args.program.now) =
    ap (map (λ x. x.now)) c.deref-2.ensures.value ∙ c.in_ok-words.ensures
    ∙ ap (λ z. map (λ n. n.name.text) (map owner_view z)) c.deref.ensures.value
    ∙ ap (map (λ n. n.name.text)) c.in_ok-parts.ensures in
    table_there (program_view c.args.program.now) c.requires.checked (map (λ x. x.now) c.deref-2.result.now) same c.in_ok-distinct.field-0
    c.in_ok-distinct.ensures

pub returns : goal.returns
returns c =
    let same : map (λ x. x.now) c.deref-2.result.now ≡ names_of (program_view c.args.program.now) =
    ap (map (λ x. x.now)) c.deref-2.ensures.value ∙ c.in_ok-words.ensures
    ∙ ap (λ z. map (λ n. n.name.text) (map owner_view z)) c.deref.ensures.value
    ∙ ap (map (λ n. n.name.text)) c.in_ok-parts.ensures in
    let names : c.unwrap-names.result ≡ names_of (program_view c.args.program.now) =
    table_names (program_view c.args.program.now) c.requires.checked (map (λ x. x.now) c.deref-2.result.now) same c.in_ok-distinct.field-0
    c.unwrap-names.result c.in_ok-distinct.ensures c.unwrap-names.ensures in
    let many : c.len.result ≡ length c.deref-3.result.now = search rules in
    record {
      names = names;
      parts = c.in_ok-parts.ensures;
      known = known_all (program_view c.args.program.now) c.requires.checked c.unwrap-names.result (map owner_view c.deref-3.result.now) c.len.result
          c.in_ok-known.known.items c.settle.new.known.items names
          (ap (map owner_view) c.deref-3.ensures.value ∙ c.in_ok-parts.ensures)
          (many ∙ sym (many_mapped owner_view c.deref-3.result.now)) c.in_ok-known.ensures c.in_ok-settle.ensures;
    }
