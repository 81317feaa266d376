-- What only this crate's own functions say.
use Rattle.state_steps.specs.declared.appending.AppendStage.{AppendStage}
use Rattle.state_steps.specs.declared.appending.AppendStage.TheVariants.{OnDisk, Due}
use Rattle.state_steps.specs.declared.appending.AppendStep.{AppendStep}
use Rattle.state_steps.specs.declared.appending.AppendStep.TheVariants.{WriteLines, SyncLines}
use Rattle.state_steps.specs.declared.appending.AppendStep.TheVariants.{SeeNames}

-- the stage after this one, if this step is done if it is due
abbrev pub following_if : AppendStep → AppendStage → AppendStage
following_if WriteLines (Due WriteLines) = Due SyncLines
following_if SyncLines (Due SyncLines) = Due SeeNames
following_if SeeNames (Due SeeNames) = OnDisk
following_if step stage = stage
