-- How a reply is sent: nothing of it before its lines of the journal are on the disk.
use Rattle.std.specs.Prelude.{◌≡◌, ℕ, List, [], ◌∷◌, ◌++◌, drop}
use Rattle.local_answers.specs.declared.reply_sending.Sending.{Sending}

-- what of each part is not sent yet
abbrev pub left_of_head : Sending → List ℕ
left_of_head sending = drop sending.head_sent sending.reply.head.items

abbrev pub left_of_output : Sending → List ℕ
left_of_output sending = drop sending.output_sent sending.reply.output.items

abbrev pub left_of_errors : Sending → List ℕ
left_of_errors sending = drop sending.errors_sent sending.reply.errors.items

-- what of the reply is not sent yet, in the order in which it is sent
abbrev pub unsent : Sending → List ℕ
unsent sending = left_of_head sending ++ (left_of_output sending ++ left_of_errors sending)

-- the first of three that has a byte
abbrev pub first_filled : List ℕ → List ℕ → List ℕ → List ℕ
first_filled (byte ∷ head) output errors = byte ∷ head
first_filled [] (byte ∷ output) errors = byte ∷ output
first_filled [] [] errors = errors

-- what is sent next: nothing as long as lines of the journal wait for the disk
abbrev pub due_after : List ℕ → Sending → List ℕ
due_after [] sending =
    first_filled (left_of_head sending) (left_of_output sending) (left_of_errors sending)
due_after (byte ∷ lines) sending = []

abbrev pub due_part : Sending → List ℕ
due_part sending = due_after sending.reply.journal.items sending

-- The second has what the first has, except the lines of the journal.
pub record DifferInJournalAlone (old new : Sending) : Type 0 where
  pub head : new.reply.head.items ≡ old.reply.head.items
  pub output : new.reply.output.items ≡ old.reply.output.items
  pub errors : new.reply.errors.items ≡ old.reply.errors.items
  pub status : new.reply.status ≡ old.reply.status
  pub ends : new.reply.ends ≡ old.reply.ends
  pub head_sent : new.head_sent ≡ old.head_sent
  pub output_sent : new.output_sent ≡ old.output_sent
  pub errors_sent : new.errors_sent ≡ old.errors_sent
