use Rattle.std.proofs.Common.{refl}
use Rattle.std.proofs.lemmas.Result.{err_from_is_err_and}
use Rattle.fedbundle.proofs.polls.run_polls_in.Goals as goal

pub returns-in_err-write_all : goal.returns-in_err-write_all
returns-in_err-write_all g c =
    let exit = err_from_is_err_and c.from_residual-in_err-write_all.result c.from_residual-in_err-write_all.ensures.1 in
    let domains = rw c.config.ensures.config at c.in_ok-log.ensures.domains in
    let lines = rw c.config.ensures.config at c.in_ok-log.ensures.log in
    rw (exit.1, exit.2) (record {
      text = c.in_ok-text.text.items;
      is = record { log = c.in_ok-log.log; reads = record { domains = domains; lines = lines }; is = c.in_ok-text.ensures };
      cut = (c.in_err-write_all.ensures.io refl, rw c.as_slice.ensures.value at c.in_err-write_all.ensures.beginning);
    })
