use Rattle.bundle_view.proofs.ObserveFacts.{concluded}
use Rattle.bundle_view.proofs.observation.take_observed.Goals as goal

pub returns : goal.returns
returns g c = λ fetched o. concluded _ _ fetched c.args.receipt c.keep.result c.keep.ensures.valid c.keep.ensures.configuration
    c.keep.ensures.form o c.keep.ensures.kept
