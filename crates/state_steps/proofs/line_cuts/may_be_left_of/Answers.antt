use Rattle.std.proofs.Common.{◌≡◌, ◌≤◌, ◌-◌, ◌++◌, length, drop, take, sym, ◌∙◌, inl, inr, arith, true, false}
use Rattle.std.proofs.lemmas.Bool.{true≢false}
use Rattle.std.proofs.lemmas.Bool.Decides.{Decides-eqb}
use Rattle.std.proofs.lemmas.Slice.Eq.{starts_is}
use Rattle.state_steps.proofs.LineCutFacts.{at_most, begins_left, left_before, left_begins, zeros_left}
use Rattle.state_steps.proofs.line_cuts.may_be_left_of.Goals as goal

pub returns-then-starts_with : goal.returns-then-starts_with
returns-then-starts_with c =
    let beginning = c.args.beginning.now in
    let bytes = c.args.bytes.now in
    let begins = starts_is Decides-eqb bytes beginning c.starts_with.result c.starts_with.ensures.value in (
      λ yes. begins_left beginning bytes (drop (length beginning) bytes) (begins.0 yes),
      λ left. c.if-starts_with.true,
    )

pub returns-else-starts_with : goal.returns-else-starts_with
returns-else-starts_with c =
    let beginning = c.args.beginning.now in
    let bytes = c.args.bytes.now in
    let front = c.without_zeros.result.now in
    let zeros = c.without_zeros.ensures.zeros in
    let more = length bytes - length front in
    let begins = starts_is Decides-eqb bytes beginning c.starts_with.result c.starts_with.ensures.value in
    let within = starts_is Decides-eqb beginning front c.starts_with-else-starts_with.result c.starts_with-else-starts_with.ensures.value in (
      λ yes. zeros_left beginning bytes front (drop (length front) beginning) more zeros (within.0 yes),
      λ left. elim (at_most (length beginning) left.2.0) [
        | inl long ↦
            let own = left_begins beginning bytes left.0 left.2.0 left.2.1 left.1 long left.2.3 in
            absurd (true≢false (sym (begins.1 own.0 own.1) ∙ c.if-starts_with.false))
        | inr short ↦ within.1 (drop (length front) beginning) (left_before beginning bytes left.0 front left.2.0 left.2.1 more left.1
            short left.2.3 zeros (c.without_zeros.ensures.least (take left.2.0 left.0) left.2.1 left.2.3))
      ],
    )
