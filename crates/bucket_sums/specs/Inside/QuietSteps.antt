-- How a question of sums opens a connection.
use Rattle.std.specs.Prelude.{ℕ}
use Rattle.replica_sync.specs.Pieces.{longest}
use Rattle.bucket_sums.specs.Questions.{longest_line}
use Rattle.bucket_sums.specs.declared.quiet_serving.Opening.{Opening}
use Rattle.bucket_sums.specs.declared.quiet_serving.Opening.TheVariants.{FirstLine, Question, Plain}
use Rattle.bucket_sums.specs.declared.quiet_serving.Opening.TheVariants.{Answered}

-- how many bytes the line that is kept may have
abbrev pub limit_of_opening : Opening → ℕ
limit_of_opening (FirstLine part) = longest part
limit_of_opening (Question question) = longest_line
limit_of_opening Plain = longest_line
limit_of_opening Answered = longest_line
