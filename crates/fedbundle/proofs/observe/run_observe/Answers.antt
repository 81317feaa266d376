use Rattle.std.proofs.Common.{refl, inr}
use Rattle.std.proofs.lemmas.Result.{err_from_is_err_and}
use Rattle.fedbundle.proofs.CommandFacts.{observe_unmade}
use Rattle.fedbundle.proofs.observe.run_observe.Goals as goal

pub returns-in_err-observed : goal.returns-in_err-observed
returns-in_err-observed g c =
    let exit = err_from_is_err_and c.from_residual.result c.from_residual.ensures.1 in
    rw (exit.1, exit.2) (observe_unmade _ _ _ _ c.in_err-observed.field-0.0 c.in_err-observed.ensures.refused refl)

pub returns-in_err-write_all : goal.returns-in_err-write_all
returns-in_err-write_all g c =
    let exit = err_from_is_err_and c.from_residual-in_err-write_all.result c.from_residual-in_err-write_all.ensures.1 in
    let made = c.in_ok-observed.ensures.receipt in
    rw (exit.1, exit.2) (inr (record {
      receipt = c.in_ok-observed.observed.receipt;
      observes = record { bytes = made.bytes; read = made.read; observed = c.in_ok-take_observed.ensures _ made.observation };
      cut = (
        c.in_err-write_all.ensures.io refl,
        rw (c.as_slice.ensures.value, c.in_ok-observed.ensures.line) at c.in_err-write_all.ensures.beginning,
      );
    }))

pub returns-in_err-take_observed : goal.returns-in_err-take_observed
returns-in_err-take_observed g c =
    let exit = err_from_is_err_and c.from_residual-in_err-take_observed.result c.from_residual-in_err-take_observed.ensures.1 in
    let made = c.in_ok-observed.ensures.receipt in
    rw (exit.1, exit.2) (record {
      bytes = made.bytes;
      read = made.read;
      refused = c.in_err-take_observed.ensures _ made.observation;
      unwritten = refl;
    })

pub returns : goal.returns
returns g c =
    let made = c.in_ok-observed.ensures.receipt in
    record {
      receipt = c.in_ok-observed.observed.receipt;
      observes = record { bytes = made.bytes; read = made.read; observed = c.in_ok-take_observed.ensures _ made.observation };
      written = rw (c.as_slice.ensures.value, c.in_ok-observed.ensures.line) at c.in_ok-write_all.ensures.ok;
    }
