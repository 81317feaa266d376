-- What the pieces of a snapshot say together, if receipts and records come while they are written.
use Rattle.std.specs.Prelude.{◌≡◌, ℕ, ◌+◌, ◌^◌, ◌<◌, ◌⊎◌, ◌++◌, Bool, true, false, List, [], length}
use Rattle.std.specs.Prelude.{map, filter, codes, decimal, Contains, Option, Some, None}
use Rattle.std.specs.List.{last_or}
use Rattle.std.specs.List.Sorted.{IsStrictlySortedBy}
use Rattle.std.specs.Ordering.{is_lt}
use Rattle.receipt_core.specs.declared.distrust.Distrust.{Distrust}
use Rattle.receipt_core.specs.Receipt.{Receipt, line, receipt_cmp}
use Rattle.receipt_core.specs.Acceptance.{Meaning, IsMeaning}
use Rattle.receipt_core.specs.Limits.{receipt_line_limit}
use Rattle.replica_texts.specs.Snapshots.{ended, held_lines, text_of_lines}
use Rattle.replica_texts.specs.SoleLines.{written_header}
use Rattle.replica_texts.specs.WrittenSnapshot.{written_snapshot}
use Rattle.snapshot_pieces.specs.declared.pieces.Piece.{Piece}
use Rattle.snapshot_pieces.specs.declared.pieces.SnapshotPieces.{SnapshotPieces}

-- the receipts behind this one, in order; without one, all of them
abbrev pub receipts_after : Option Receipt → List Receipt → List Receipt
receipts_after None held = held
receipts_after (Some last) held = filter (λ r. is_lt (receipt_cmp last r)) held

-- The configuration is the same, and all that was held is held.
pub record Grows (before after : Meaning) : Type 0 where
  pub config : after.config ≡ before.config
  pub held : (r : Receipt) → Contains before.held r → Contains after.held r
  pub records : (x : Distrust) → Contains before.records x → Contains after.records x

-- the meaning with these receipts in place of its own
abbrev pub with_written : Meaning → List Receipt → Meaning
with_written m receipts = record { config = m.config; held = receipts; records = m.records }

-- the snapshot without its last line
abbrev pub written_beginning : Meaning → List ℕ
written_beginning m = ended (written_header m.config) ++ text_of_lines (held_lines m)

-- ---- one piece

-- the last line of a snapshot, of the numbers of receipts and of records
unfoldable pub end_line : ℕ → ℕ → List ℕ
end_line receipts records = codes "{\"count\":"
    ++ (decimal receipts ++ ((codes ",\"distrusts\":" ++ decimal records) ++ codes "}"))

-- the last line, if the snapshot ends
abbrev pub end_of : Bool → SnapshotPieces → List ℕ
end_of false pieces = []
end_of true pieces = ended (end_line pieces.receipts pieces.records)

-- The piece has the lines of the first of the receipts behind the last one that was written. If
-- these are all, the last line follows, with the numbers of the lines in all pieces; and if not,
-- there is one at least. The number of receipts that are held always fits.
pub record IsNextPiece (old : SnapshotPieces) (held : List Receipt) (new : SnapshotPieces)
    (piece : Piece) : Type 0 where
  pub done : List Receipt
  pub left : List Receipt
  pub parts : receipts_after old.last held ≡ done ++ left
  pub text : piece.text.items ≡ text_of_lines (map line done) ++ end_of piece.is_last new
  pub last : new.last ≡ last_or old.last done
  pub receipts : old.receipts + length done < 2 ^ 64 → new.receipts ≡ old.receipts + length done
  pub records : new.records ≡ old.records
  pub all : piece.is_last ≡ true → left ≡ []
  pub moves : piece.is_last ≡ false → 0 < length done

-- how many bytes a piece may have beyond the size that was asked for: one line of a receipt, and
-- the last line, which has 63 bytes at most, each with its line feed
abbrev pub piece_rest : ℕ
piece_rest = receipt_line_limit + 65

-- ---- all pieces

-- A snapshot was begun when m was held. Until `now` is held, this text of it was written: the first
-- line, the lines of all records of m, and those of the receipts `done`, which are held. What m has
-- and is not among them comes behind the last of them.
pub record HasWritten (m : Meaning) (pieces : SnapshotPieces) (text : List ℕ)
    (now : Meaning) : Type 0 where
  pub valid : IsMeaning m
  pub since : Grows m now
  pub done : List Receipt
  pub spelt : text ≡ written_beginning (with_written m done)
  pub rising : IsStrictlySortedBy receipt_cmp done
  pub within : (r : Receipt) → Contains done r → Contains now.held r
  pub left : (r : Receipt) → Contains m.held r
      → Contains done r ⊎ Contains (receipts_after pieces.last m.held) r
  pub last : pieces.last ≡ last_or None done
  pub receipts : pieces.receipts ≡ length done
  pub records : pieces.records ≡ length m.records

-- The text is the snapshot of what has all that m has, and nothing that is not held now.
pub record IsSnapshotBetween (m now : Meaning) (text : List ℕ) : Type 0 where
  pub content : Meaning
  pub valid : IsMeaning content
  pub spelt : text ≡ written_snapshot content
  pub since : Grows m content
  pub until : Grows content now
