use Rattle.std.proofs.Common.{◌∙◌}
use Rattle.replica_texts.proofs.ScanFacts.{long-digest, split-digest}
use Rattle.replica_texts.proofs.scanner.digest_after.Goals as goal

pub returns-then-text-lt64 : goal.returns-then-text-lt64
returns-then-text-lt64 c = λ digest rest is e.
    absurd (long-digest c.rest_after-text.result.now digest rest is (c.rest_after-text.ensures _ e) c.if-text-lt64.true)

pub returns : goal.returns
returns c = λ digest rest is e.
    let parts = split-digest c.rest_after-text.result.now digest rest is (c.rest_after-text.ensures _ e) in
    (c.digest_of-2.ensures digest is (c.split_at.ensures.front ∙ parts.0), c.split_at.ensures.back ∙ parts.1)
