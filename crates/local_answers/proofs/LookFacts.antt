-- What is replied if nothing can be changed.
use Rattle.std.proofs.Common.{ℕ, false, List, inl, inr, Result, Ok, Err, IfErr, IfOk}
use Rattle.command_line.specs.Checks.{IsSoundRequest}
use Rattle.command_exits.specs.declared.exits.Exit.{Exit}
use Rattle.local_answers.specs.Looking.{AnswersLook, Changes, EndsLook, LooksAtCall, RepliesToLook}
use Rattle.local_answers.specs.RequestRun.{AnswersShown, CallRun, EndsOver}
use Rattle.local_answers.specs.declared.reply.Reply.{Reply}
use Rattle.local_answers.specs.declared.request_fault.RequestFault.{RequestFault}

-- what is replied to a call is replied to its arguments
pub words_looked : (words : List (List ℕ)) (run : CallRun) (result : Result Reply RequestFault) → IsSoundRequest words run.name run.texts
    → IfOk result (LooksAtCall run) → IfOk result (RepliesToLook words run.running run.change)
words_looked words run (Ok reply) calls replied = inl (record { name = run.name; texts = run.texts; call = calls; replied = replied })
words_looked words run (Err fault) calls replied = tt

-- what is shown is what a command that only looks answers
pub look_answered : (run : CallRun) (result : Result Reply Exit) → Changes run false → IfOk result (AnswersShown run) → IfOk result (AnswersLook run)
look_answered run (Ok reply) looks shows = record { looks = looks; shows = shows }
look_answered run (Err exit) looks shows = tt

-- the same for how it ends
pub look_ended : (run : CallRun) (result : Result Reply Exit) → Changes run false → IfErr result (EndsOver run)
    → IfErr result (EndsLook run)
look_ended run (Ok reply) looks ends = tt
look_ended run (Err exit) looks (inl anyhow) = inl anyhow
look_ended run (Err exit) looks (inr ends) = inr (inr (record { looks = looks; ends = ends }))
