use Rattle.std.proofs.Common.{arith, inl, inr, subst, sym}
use Rattle.health_pages.specs.HeadEnds.{EndsFirstAt}
use Rattle.health_pages.specs.Heads.{AnswersWhole}
use Rattle.health_pages.proofs.head_bytes.HeadBytes.verdict.Goals as goal

pub returns-in-None : goal.returns-in-None
returns-in-None c = (c.args.self.now.awaited c.in-None.is, omega (arith, c.len.ensures, c.if-len-lt-MOST_HEAD.true))

pub returns-in-None-2 : goal.returns-in-None-2
returns-in-None-2 c = inr (record {
  ends = c.args.self.now.awaited c.in-None.is;
  long = omega (arith, c.len.ensures, c.if-len-lt-MOST_HEAD.false, c.args.self.now.short);
  verdict = c.refused_head.ensures;
})

pub returns-in_ok-verdict-in-Some : goal.returns-in_ok-verdict-in-Some
returns-in_ok-verdict-in-Some c =
    inl (subst (λ bytes. AnswersWhole bytes c.in_ok-verdict-in-Some.verdict) c.as_slice.ensures.value c.in_ok-verdict-in-Some.ensures)

pub verdict_to-requires : goal.verdict_to-requires
verdict_to-requires c =
    subst (λ l. EndsFirstAt l c.in-Some.end) (sym c.as_slice.ensures.value) (c.args.self.now.ended c.in-Some.end c.in-Some.is)
