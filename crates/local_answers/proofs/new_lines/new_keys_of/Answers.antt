use Rattle.std.proofs.Common.{rules}
use Rattle.local_answers.proofs.NewLineFacts.{key_held, next_left}
use Rattle.local_answers.proofs.new_lines.new_keys_of.Goals as goal

pub loop-key-preserved-then-is_distrusted : goal.loop-key-preserved-then-is_distrusted
loop-key-preserved-then-is_distrusted g c =
    key_held (g.C.Closure.state c.args.closure.now).meaning c.args.of.now c.args.given.now _ _ _ _ _ c.config-config.ensures.valid
    (next_left c.args.given.now c.loop-key.key-index _ c.loop-key-test.true (search rules))
    (c.is_distrusted.ensures.0 c.if-is_distrusted.true) c.loop-key.invariant
