use Rattle.std.proofs.Common.{◌++◌, codes, decimal}
use Rattle.fedbundle.proofs.counts.write_counted.Goals as goal

pub returns-in_err-write_all-clause-beginning : goal.returns-in_err-write_all-clause-beginning
returns-in_err-write_all-clause-beginning g c =
    c.pieces.ensures.in_first _ _ c.args.label.now (decimal c.args.count ++ codes "\n") c.write_all.ensures.beginning

pub returns-in_err-write_all-2-clause-beginning : goal.returns-in_err-write_all-2-clause-beginning
returns-in_err-write_all-2-clause-beginning g c =
    c.pieces.ensures.in_second _ _ _ c.args.label.now (decimal c.args.count ++ codes "\n") c.in_ok-write_all.ensures.ok
    (c.pieces.ensures.in_first _ _ (decimal c.args.count) (codes "\n")
    (rw (c.as_bytes.ensures.value, c.format.ensures.text) at c.write_all-2.ensures.beginning))

pub returns-clause-beginning : goal.returns-clause-beginning
returns-clause-beginning g c =
    c.pieces.ensures.in_second _ _ _ c.args.label.now (decimal c.args.count ++ codes "\n") c.in_ok-write_all.ensures.ok
    (c.pieces.ensures.in_second _ _ _ (decimal c.args.count) (codes "\n")
    (rw (c.as_bytes.ensures.value, c.format.ensures.text) at c.in_ok-write_all-2.ensures.ok)
    c.write_all-3.ensures.beginning)
