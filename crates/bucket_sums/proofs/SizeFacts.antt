-- How many bytes a question and its answer have.
use Rattle.std.proofs.Common.{◌≡◌, ℕ, ◌+◌, ◌*◌, Bool, List, [], ◌∷◌, length, ap, arith, length-append}
use Rattle.std.specs.List.{AllByRecursion}
use Rattle.fed_config.specs.Configuration.{Configuration}
use Rattle.replica_sync.specs.ServedPieces.{Came, bytes_came}
use Rattle.replica_texts.specs.Snapshots.{ended, text_of_lines}
use Rattle.replica_texts.specs.SoleLines.{written_header}
use Rattle.bucket_sums.specs.Lines.{IsSumLine, marks_line, part_count}
use Rattle.bucket_sums.specs.Questions.{sums_answer}
use Rattle.bucket_sums.specs.Quiet.{AnswersQuestion}

-- a line and its line feed
ended_size : (text : List ℕ) → length (ended text) ≡ length text + 1
ended_size text = length-append text (10 ∷ [])

-- Each line of a sum has 65 bytes with its line feed.
lines_size : (lines : List (List ℕ)) → AllByRecursion IsSumLine lines → length (text_of_lines lines) ≡ 65 * length lines
lines_size [] each = omega arith
lines_size (line ∷ lines) each =
    let one = each.0.size in
    let first = ended_size line in
    let both = length-append (ended line) (text_of_lines lines) in
    let later = lines_size lines each.1 in
    omega (arith, one, first, both, later)

-- a question that is taken whole
pub question_size : (config : Configuration) (asked : List Came) (said : List ℕ) (differ : Bool) → AnswersQuestion config asked said differ
    → length (bytes_came asked) ≡ length (written_header config) + 16706
question_size config asked said differ h =
    let is = ap length h.bytes in
    let first = ended_size (written_header config) in
    let both = length-append (ended (written_header config)) (text_of_lines h.lines) in
    let lines = lines_size h.lines h.each in
    let all = h.all in
    omega (arith, is, first, both, lines, all)

marks_size : (marks : List Bool) → length (marks_line marks) ≡ length marks
marks_size [] = omega arith
marks_size (mark ∷ marks) = let later = marks_size marks in omega (arith, later)

-- an answer to it
pub answer_size : (config : Configuration) (marks : List Bool) → length marks ≡ part_count
    → length (sums_answer config marks) ≡ length (written_header config) + 259
answer_size config marks all =
    let first = ended_size (written_header config) in
    let last = ended_size (marks_line marks) in
    let both = length-append (ended (written_header config)) (ended (marks_line marks)) in
    let size = marks_size marks in
    omega (arith, all, first, last, both, size)
