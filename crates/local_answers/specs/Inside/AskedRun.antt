-- What a request asks for, as the run of a call
use Rattle.fedbundle.specs.CommandRun.{StateRun}
use Rattle.fedbundle.specs.SaidValues.{texts_of_call}
use Rattle.local_answers.specs.RequestRun.{CallRun, call_run, change_run}
use Rattle.local_answers.specs.declared.asked.Asked.{Asked}

abbrev pub run_of_asked : Asked → StateRun → CallRun
run_of_asked asked state = call_run asked.call.now.name (texts_of_call asked.call.now)
    asked.running.now (change_run state asked.input.now)
