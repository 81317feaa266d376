use Rattle.std.proofs.Common.{IfOk, subst, sym}
use Rattle.command_line.specs.declared.words.WordsError.{WordsError}
use Rattle.local_answers.specs.RequestRun.{RepliesToError}
use Rattle.local_answers.proofs.carrying_out.reply_by_words.Goals as goal

pub returns-in-Words : goal.returns-in-Words
returns-in-Words c = subst (λ (e : WordsError). IfOk c.reply_of_clap.result (RepliesToError e)) (sym c.in-Words.is) c.reply_of_clap.ensures

pub returns-in-Usage : goal.returns-in-Usage
returns-in-Usage c = subst (λ (e : WordsError). IfOk c.ended.result (RepliesToError e)) (sym c.in-Usage.is) c.ended.ensures

pub returns-in-Flawed : goal.returns-in-Flawed
returns-in-Flawed c = subst (λ (e : WordsError). IfOk c.reply_of_flaw.result (RepliesToError e)) (sym c.in-Flawed.is) c.reply_of_flaw.ensures
