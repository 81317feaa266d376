use Rattle.std.proofs.Common.{inr, refl}
use Rattle.serde_json.specs.View.{view}
use Rattle.fed_config.specs.Inside.Entries.{seed_text}
use Rattle.fed_config.specs.Written.{SaysSeedText}
use Rattle.fed_config.proofs.ZipFacts.{zip_more, zip_none}
use Rattle.fed_config.proofs.written.read_seeds.Goals as goal

pub loop-element-preserved : goal.loop-element-preserved
loop-element-preserved c =
    rw c.in_ok-push.ensures.items (zip_more (λ value e. SaysSeedText (view value) (seed_text e)) c.args.elements.now
    c.loop-element.entries.items c.loop-element.element-index c.element-item.result c.in-Some.entry
    c.loop-element-test.true c.element-item.is c.loop-element.invariant c.in-Some.ensures)

pub returns-in_default : goal.returns-in_default
returns-in_default c =
    inr (
      refl,
      λ h. zip_none (λ value t. SaysSeedText (view value) t) c.args.elements.now h.0
          c.loop-element.element-index c.element-item.result c.loop-element-test.true c.element-item.is c.in_default.ensures
          h.1,
    )
