use Rattle.std.proofs.Common.{rules}
use Rattle.replica_c_calls.specs.Outcomes.{OutRun, WritesOut, FitsOut, out_run}
use Rattle.fedbundle_c.proofs.ExportFacts.{fits_held}
use Rattle.fedbundle_c.proofs.changing_c.fedbundle_raw_observe.Goals as goal

-- the line that is held was made for the room that there is
pub returns-in-Ok-Held-clause-does : goal.returns-in-Ok-Held-clause-does
returns-in-Ok-Held-clause-does c =
    let seen = rw c.in-Ok-Held.field-0-is at c.in-Ok-Held.ensures in
    let run : OutRun =
    out_run c.args.out.now c.put-in-Ok-Held.new.out c.put-in-Ok-Held.new.self.length c.put-in-Ok-Held.result in
    let wrote : WritesOut c.in-Ok-Held.text.items run = rw c.as_slice.ensures.value at c.put-in-Ok-Held.ensures.writes in
    let fits : FitsOut c.in-Ok-Held.text.items run = fits_held c.in-Ok-Held.text.items run seen.is.1 wrote in
    search rules
