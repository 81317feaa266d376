use Rattle.std.proofs.Common.{subst, sym}
use Rattle.std.proofs.lemmas.Result.{IfOk-weaker}
use Rattle.clap.specs.Words.{app_of}
use Rattle.command_line.specs.Inside.WordsErrors.{ReadsAsAll}
use Rattle.command_line.proofs.NarrowFacts.{all_reads, reads_as_all}
use Rattle.command_line.proofs.words.command_for.Goals as goal

pub returns-in-Some : goal.returns-in-Some
returns-in-Some c =
    IfOk-weaker c.command_with.result _ _
    (λ command is. subst (λ words. ReadsAsAll words (app_of command)) (sym c.in-Some.ensures.1)
    (subst (ReadsAsAll _) (sym is) (reads_as_all c.in-Some.name c.in-Some.ensures.0)))
    c.command_with.ensures

pub returns-in-None : goal.returns-in-None
returns-in-None c =
    IfOk-weaker c.whole_command.result _ _ (λ command is. subst (ReadsAsAll _) (sym is) (all_reads _)) c.whole_command.ensures
