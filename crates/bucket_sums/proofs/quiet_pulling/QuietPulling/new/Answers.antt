use Rattle.std.proofs.Common.{◌≡◌, ◌∙◌, ap}
use Rattle.fed_config.specs.Configuration.{Configuration}
use Rattle.bucket_sums.specs.Questions.{sums_question}
use Rattle.bucket_sums.proofs.QuietPullFacts.{first_alone}
use Rattle.bucket_sums.proofs.quiet_pulling.QuietPulling.new.Goals as goal

pub returns-clause-ok : goal.returns-clause-ok
returns-clause-ok g c =
    let m = (g.C.Closure.state c.args.closure.now).meaning in
    let own : c.config.result.now ≡ m.config = c.config.ensures.config ∙ ap (λ x. (g.C.Closure.state x).meaning.config) c.sums.ensures.same in
    record {
      asks = c.in_ok-sums_question.ensures ∙ ap (λ (k : Configuration). sums_question k c.in_ok-sums.sums) own
          ∙ ap (sums_question m.config) c.in_ok-sums.ensures.sums;
      takes = c.new.ensures.begins m.config;
      sound = c.new.ensures.sound;
      waits = c.new.ensures.waits;
      quiet = tt;
    }

pub returns-clause-asks : goal.returns-clause-asks
returns-clause-asks g c =
    let m = (g.C.Closure.state c.args.closure.now).meaning in
    let own : c.config.result.now ≡ m.config = c.config.ensures.config ∙ ap (λ x. (g.C.Closure.state x).meaning.config) c.sums.ensures.same in
    first_alone c.in_ok-sums_question.field-0.items
    ∙ c.in_ok-sums_question.ensures ∙ ap (λ (k : Configuration). sums_question k c.in_ok-sums.sums) own
    ∙ ap (sums_question m.config) c.in_ok-sums.ensures.sums
