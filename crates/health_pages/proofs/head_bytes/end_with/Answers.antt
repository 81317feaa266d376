use Rattle.std.proofs.Common.{Some, drop, subst, take}
use Rattle.std.proofs.lemmas.List.{take-append-drop}
use Rattle.health_pages.specs.HeadEnds.{EndsAt}
use Rattle.health_pages.proofs.VerdictFacts.{ends_more}
use Rattle.health_pages.proofs.head_bytes.end_with.Goals as goal

pub returns-in-Some : goal.returns-in-Some
returns-in-Some c =
    let seen = take c.args.seen c.args.bytes.now in
    subst (λ l. EndsAt l (Some c.in-Some.end)) (take-append-drop c.args.seen c.args.bytes.now)
    (ends_more seen (drop c.args.seen c.args.bytes.now) c.in-Some.end (subst (EndsAt seen) c.in-Some.is c.requires.known))

pub end_after-requires-clause-awaited : goal.end_after-requires-clause-awaited
end_after-requires-clause-awaited c = subst (EndsAt (take c.args.seen c.args.bytes.now)) c.in-None.is c.requires.known
