use Rattle.std.proofs.Common.{◌≡◌, false, ◌<◌, length, get_or, ap, ◌∙◌, sym, subst, arith}
use Rattle.std.proofs.lemmas.List.{get_or_read}
use Rattle.wait_index.specs.Index.{Index}
use Rattle.wait_index.specs.Net.{IsOpen}
use Rattle.wait_index.specs.Inside.Tally.{net_of, tally_of, is_open_in}
use Rattle.wait_index.proofs.CloseFacts.{open-shown, open-from_shown}
use Rattle.wait_index.proofs.reach.Reach.is_open.Goals as goal

pub returns : goal.returns
returns c =
    let r = c.self.inside in
    let k = c.self.invariant.settled in
    let within : c.args.label < length r.graph.closed.items = omega (arith, c.requires, ap (λ (x : Index). length x.net.closed) c.self.view_is) in
    let read : c.index-2.result.now ≡ get_or r.marks.opened.items c.index.result false =
    get_or_read r.marks.opened.items c.index.result c.index-2.result.now
    (omega (arith, within, c.index.ensures, k.follows.steady.sizes.opened)) c.index-2.ensures false in
    let opened : c.index-2.result.now ≡ is_open_in (tally_of r.marks) c.args.label = read ∙ ap (is_open_in (tally_of r.marks)) c.index.ensures in (
      λ e. subst (λ (x : Index). IsOpen x.net c.args.label) c.self.view_is
          (open-shown (net_of r.graph) (tally_of r.marks) k r.marks.touched.listed r.graph.shaped.labels c.args.label
          within (sym opened ∙ e)),
      λ e. opened ∙ open-from_shown (net_of r.graph) (tally_of r.marks) k r.marks.touched.listed r.graph.shaped.labels
          c.args.label (subst (λ (x : Index). IsOpen x.net c.args.label) (sym c.self.view_is) e),
    )
