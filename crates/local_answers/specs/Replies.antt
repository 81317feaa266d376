-- What is sent back: a first line, standard output and standard error.
use Rattle.std.specs.Prelude.{ℕ, List, codes, length}
use Rattle.request_lines.specs.RequestLines.{reply_line}
use Rattle.request_lines.specs.declared.request_error.RequestError.{RequestError}
use Rattle.request_lines.specs.declared.request_error.RequestError.TheVariants.{TooLong, BadLine}
use Rattle.request_lines.specs.declared.request_error.RequestError.TheVariants as line_error
use Rattle.replica_texts.specs.Snapshots.{ended}
use Rattle.local_answers.specs.declared.request_fault.RequestFault.{RequestFault}
use Rattle.local_answers.specs.declared.request_fault.RequestFault.TheVariants.{WordsTooLong}
use Rattle.local_answers.specs.declared.request_fault.RequestFault.TheVariants.{InputTooLong}
use Rattle.local_answers.specs.declared.request_fault.RequestFault.TheVariants.{NoWords, BadWords}
use Rattle.local_answers.specs.declared.request_fault.RequestFault.TheVariants.{TooManyRequests}
use Rattle.local_answers.specs.declared.request_fault.RequestFault.TheVariants.{NoMemory}

-- the first line with its line feed: how long the two streams are, and the exit status
abbrev pub first_line : List ℕ → List ℕ → ℕ → List ℕ
first_line output errors status = ended
    (reply_line (record { errors = length errors; output = length output; status = status }))

-- the whole reply if no command gives one
abbrev pub fault_reply : RequestFault → List ℕ
fault_reply WordsTooLong =
    codes "{\"errors\":26,\"output\":0,\"status\":1}\nfedbundle: words too long\n"
fault_reply InputTooLong =
    codes "{\"errors\":26,\"output\":0,\"status\":1}\nfedbundle: input too long\n"
fault_reply NoWords = codes "{\"errors\":20,\"output\":0,\"status\":1}\nfedbundle: no words\n"
fault_reply BadWords = codes "{\"errors\":21,\"output\":0,\"status\":1}\nfedbundle: bad words\n"
fault_reply TooManyRequests =
    codes "{\"errors\":29,\"output\":0,\"status\":1}\nfedbundle: too many requests\n"
fault_reply NoMemory =
    codes "{\"errors\":23,\"output\":0,\"status\":4}\nfedbundle: E2 NoMemory\n"

-- the error of a request whose first line or whose arguments are not read
abbrev pub words_fault : RequestError → RequestFault
words_fault TooLong = WordsTooLong
words_fault BadLine = BadWords
words_fault line_error.NoMemory = NoMemory
