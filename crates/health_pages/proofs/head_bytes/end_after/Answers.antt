use Rattle.std.proofs.Common.{◌≡◌, ◌+◌, ◌-◌, None, Some, arith, drop, length, subst, sym, take_all}
use Rattle.std.proofs.lemmas.List.{length-drop}
use Rattle.health_pages.specs.HeadEnds.{EndsAt}
use Rattle.health_pages.proofs.VerdictFacts.{ends_after}
use Rattle.health_pages.proofs.head_bytes.end_after.Goals as goal

pub returns-in-Some : goal.returns-in-Some
returns-in-Some c =
    let bytes = c.args.bytes.now in
    let n = c.saturating_sub-from.result in
    let from : n ≡ c.args.seen - 3 = c.saturating_sub-from.ensures in
    let all = take_all (length bytes - n) (drop n bytes) (omega (arith, length-drop n bytes)) in
    let found = subst (λ l. EndsAt l c.find.result) all c.find.ensures in
    subst (λ k. EndsAt bytes (Some (k + c.in-Some.place))) (sym from)
    (ends_after bytes c.args.seen (Some c.in-Some.place) c.requires.seen c.requires.awaited
    (subst (λ k. EndsAt (drop k bytes) (Some c.in-Some.place)) from (subst (EndsAt (drop n bytes)) c.in-Some.is found)))

pub returns-in-None : goal.returns-in-None
returns-in-None c =
    let bytes = c.args.bytes.now in
    let n = c.saturating_sub-from.result in
    let from : n ≡ c.args.seen - 3 = c.saturating_sub-from.ensures in
    let all = take_all (length bytes - n) (drop n bytes) (omega (arith, length-drop n bytes)) in
    let found = subst (λ l. EndsAt l c.find.result) all c.find.ensures in
    ends_after bytes c.args.seen None c.requires.seen c.requires.awaited
    (subst (λ k. EndsAt (drop k bytes) None) from (subst (EndsAt (drop n bytes)) c.in-None.is found))
