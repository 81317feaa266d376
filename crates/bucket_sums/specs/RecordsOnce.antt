-- Records of distrust in a session that begins with sums: if they differ the first answer has them,
-- and no other answer has any.
use Rattle.std.specs.Prelude.{ℕ, ◌==◌, Bool, true, false, List, [], ◌∷◌, ◌++◌}
use Rattle.std.specs.List.{list_any}
use Rattle.replica_sync.specs.ServedPieces.{Came}
use Rattle.replica_sync.specs.AnsweredFrom.{answered_from}
use Rattle.replica_sync.specs.declared.answer_records.AnswerRecords.{AnswerRecords}
use Rattle.replica_sync.specs.declared.answer_records.AnswerRecords.TheVariants.{All, LeftOut}

-- A line has ended.
abbrev pub has_feed : List ℕ → Bool
has_feed bytes = list_any (λ b. b == 10) bytes

-- which records the next answer has: all, if they differ and no have has ended
abbrev pub records_due : Bool → Bool → AnswerRecords
records_due true false = All
records_due true true = LeftOut
records_due false ended = LeftOut

-- a piece, with what is answered from if it ends a have; `before` are the haves' bytes before it
abbrev pub shown_at : Bool → List ℕ → Came → Came
shown_at differ before c =
    record c { held = answered_from (records_due differ (has_feed before)) c.held }

-- pieces of haves, each with what is answered from
abbrev pub shown_once : Bool → List ℕ → List Came → List Came
shown_once differ before [] = []
shown_once differ before (c ∷ came) = shown_at differ before c
    ∷ shown_once differ (before ++ c.bytes) came

-- which records the next answer has, if they are left out from now on or not
abbrev pub left_out_if : Bool → AnswerRecords → AnswerRecords
left_out_if true records = LeftOut
left_out_if false records = records
