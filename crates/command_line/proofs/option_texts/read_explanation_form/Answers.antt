use Rattle.std.proofs.Common.{ℕ, List, Option, inl, inr}
use Rattle.std.proofs.lemmas.Result.{err_from_is_err_and}
use Rattle.command_line.specs.OptionTexts.{SaysNoExplanationIn, SaysNoOutputForm}
use Rattle.command_line.specs.declared.option_texts.OutputForm.TheVariants.{Text, Json}
use Rattle.command_line.proofs.option_texts.read_explanation_form.Goals as goal

-- if the text of the form names no form, the chain has no form
no_form_of_it : (short form : Option (List ℕ)) → SaysNoOutputForm form → SaysNoExplanationIn short form
no_form_of_it short form none chosen (inl says) = none Text says.0
no_form_of_it short form none chosen (inr says) = none Json says.0

pub returns-in_err-read_output_form-clause-refused : goal.returns-in_err-read_output_form-clause-refused
returns-in_err-read_output_form-clause-refused c =
    let exit = err_from_is_err_and c.from_residual.result c.from_residual.ensures.1 in
    let refused = c.in_err-read_output_form.ensures.refused in
    rw (exit.1, exit.2) (refused.0, no_form_of_it _ _ refused.1)
