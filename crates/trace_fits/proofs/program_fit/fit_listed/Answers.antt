use Rattle.std.proofs.Common.{◌∙◌, map}
use Rattle.lus_tree.specs.View.{node_view, program_view}
use Rattle.lus_meaning.specs.TraceView.{trace_view}
use Rattle.trace_fits.specs.Filling.{seats_needed}
use Rattle.trace_fits.specs.Views.{slotted_view}
use Rattle.trace_fits.proofs.Fits.{fits, form, given_so, listables_seen}
use Rattle.trace_fits.proofs.Room.{room_for}
use Rattle.trace_fits.proofs.program_fit.fit_listed.Goals as goal

pub returns : goal.returns
returns c =
    let p = program_view c.args.program.now in
    let t = trace_view c.args.trace.now in
    let d = node_view c.args.node.now in
    let ss = map slotted_view c.args.listables.now in
    let w = seats_needed 0 ss in
    let l = listables_seen c.args.listables.now ∙ c.requires.listables in
    record {
      fits = fits p c.requires.checked t d c.requires.named ss w (room_for 0 ss) l c.requires.slots c.fit_node.result c.fit_node.ensures.misfit;
      form = form p c.requires.checked t d c.requires.named ss w (room_for 0 ss) l c.requires.slots c.fit_node.result c.fit_node.ensures.misfit;
      listed = given_so p c.requires.checked t d c.requires.named ss w (room_for 0 ss) l c.requires.slots c.fit_node.result c.fit_node.ensures.misfit c.fit_node.ensures.seats;
    }
