use Rattle.std.proofs.Common.{◌++◌, ◌∷◌, [], codes}
use Rattle.std.proofs.lemmas.Result.{on_ok_weaker}
use Rattle.command_exits.proofs.fault.write_line.Goals as goal

pub returns-in_err-write_all-clause-beginning : goal.returns-in_err-write_all-clause-beginning
returns-in_err-write_all-clause-beginning g c = c.pieces.ensures.in_first _ _ (codes "fedbundle: ") (c.args.text.now ++ 10 ∷ []) c.write_all.ensures.beginning

pub returns-in_err-write_all-2-clause-beginning : goal.returns-in_err-write_all-2-clause-beginning
returns-in_err-write_all-2-clause-beginning g c =
    c.pieces.ensures.in_second _ _ _ (codes "fedbundle: ") (c.args.text.now ++ 10 ∷ []) c.in_ok-write_all.ensures.ok
    (c.pieces.ensures.in_first _ _ c.args.text.now (10 ∷ []) c.write_all-2.ensures.beginning)

pub returns-clause-ok : goal.returns-clause-ok
returns-clause-ok g c =
    on_ok_weaker c.write_all-3.result
    (λ last. c.pieces.ensures.both _ _ _ (codes "fedbundle: ") (c.args.text.now ++ 10 ∷ []) c.in_ok-write_all.ensures.ok
    (c.pieces.ensures.both _ _ _ c.args.text.now (10 ∷ []) c.in_ok-write_all-2.ensures.ok last))
    c.write_all-3.ensures.ok

pub returns-clause-beginning : goal.returns-clause-beginning
returns-clause-beginning g c =
    c.pieces.ensures.in_second _ _ _ (codes "fedbundle: ") (c.args.text.now ++ 10 ∷ []) c.in_ok-write_all.ensures.ok
    (c.pieces.ensures.in_second _ _ _ c.args.text.now (10 ∷ []) c.in_ok-write_all-2.ensures.ok c.write_all-3.ensures.beginning)
