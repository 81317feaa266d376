use Rattle.std.proofs.Common.{◌≡◌, codes, decimal, ◌++◌, ◌∙◌, subst}
use Rattle.std.specs.Io.KnownBytes.{Appends}
use Rattle.byte_lines.specs.Device.{AppendsBeginning}
use Rattle.fedbundle.specs.Stream.{why_text}
use Rattle.fedbundle.proofs.line_fault.write_line_error.Goals as goal

pub returns-in_err-write_all-clause-beginning : goal.returns-in_err-write_all-clause-beginning
returns-in_err-write_all-clause-beginning g c =
    c.pieces.ensures.in_first _ _ (codes "line ") (decimal c.args.number ++ why_text c.args.why)
    c.write_all.ensures.beginning

pub returns-in_err-write_all-2-clause-beginning : goal.returns-in_err-write_all-2-clause-beginning
returns-in_err-write_all-2-clause-beginning g c =
    let digits : c.as_bytes.result.now ≡ decimal c.args.number = c.as_bytes.ensures.value ∙ c.format.ensures.text in
    let first = g.E.Sink.contents c.args.sink.now in
    let second = g.E.Sink.contents c.write_all.new.sink in
    let third = g.E.Sink.contents c.write_all-2.new.sink in
    c.pieces.ensures.in_second first second third (codes "line ") (decimal c.args.number ++ why_text c.args.why) c.in_ok-write_all.ensures.ok
    (c.pieces.ensures.in_first second third (decimal c.args.number) (why_text c.args.why)
    (subst (AppendsBeginning second third) digits c.write_all-2.ensures.beginning))

pub returns-clause-beginning : goal.returns-clause-beginning
returns-clause-beginning g c =
    let digits : c.as_bytes.result.now ≡ decimal c.args.number = c.as_bytes.ensures.value ∙ c.format.ensures.text in
    let why : c.as_bytes-2.result.now ≡ why_text c.args.why = c.as_bytes-2.ensures.value ∙ c.text_of.ensures in
    let first = g.E.Sink.contents c.args.sink.now in
    let second = g.E.Sink.contents c.write_all.new.sink in
    let third = g.E.Sink.contents c.write_all-2.new.sink in
    let fourth = g.E.Sink.contents c.write_all-3.new.sink in
    c.pieces.ensures.in_second first second fourth (codes "line ") (decimal c.args.number ++ why_text c.args.why) c.in_ok-write_all.ensures.ok
    (c.pieces.ensures.in_second second third fourth (decimal c.args.number) (why_text c.args.why)
    (subst (Appends second third) digits c.in_ok-write_all-2.ensures.ok)
    (subst (AppendsBeginning third fourth) why c.write_all-3.ensures.beginning))
