use Rattle.std.proofs.Common.{ℕ, ◌-◌, ◌≤◌, length-take, arith}
use Rattle.byte_lines.proofs.StreamFacts.{slice_range-passed}
use Rattle.byte_lines.proofs.read_ahead.ReadAhead.pass.Goals as goal

pub returns-clause-bytes : goal.returns-clause-bytes
returns-clause-bytes c =
    let ahead = c.args.self.now in
    let within : c.args.count ≤ ahead.end - ahead.start = omega (arith, length-take {A = ℕ}) in
    slice_range-passed ahead.bytes.items ahead.start ahead.end c.args.count within
