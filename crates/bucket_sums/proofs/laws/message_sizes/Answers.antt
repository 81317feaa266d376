use Rattle.bucket_sums.proofs.SizeFacts.{answer_size, question_size}
use Rattle.bucket_sums.proofs.laws.message_sizes.Goals as goal

pub returns-clause-question : goal.returns-clause-question
returns-clause-question c = question_size

pub returns-clause-answer : goal.returns-clause-answer
returns-clause-answer c = answer_size
