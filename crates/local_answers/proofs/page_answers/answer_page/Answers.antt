use Rattle.std.proofs.lemmas.Result.{IfOk-weaker}
use Rattle.local_answers.proofs.page_answers.answer_page.Goals as goal

pub returns : goal.returns
returns g c =
    IfOk-weaker c.write_response.result _ _
    (λ response is. record { answer = c.in_ok-answer.answer; shows = c.in_ok-answer.ensures; is = is })
    c.write_response.ensures
