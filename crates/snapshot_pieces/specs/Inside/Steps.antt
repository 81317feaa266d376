-- Lines of receipts, by what the code does.
use Rattle.std.specs.Prelude.{◌≡◌, ℕ, ◌+◌, ◌<◌, ◌≤◌, ◌++◌, true, false, List, [], length}
use Rattle.std.specs.Prelude.{map, Option, None, option_copied}
use Rattle.std.specs.List.{cons_option, last_or}
use Rattle.receipt_core.specs.Receipt.{Receipt, line}
use Rattle.receipt_core.specs.Limits.{receipt_line_limit}
use Rattle.replica_texts.specs.Snapshots.{text_of_lines}
use Rattle.snapshot_pieces.specs.declared.lines.Run.{Run}
use Rattle.snapshot_pieces.specs.declared.places.Behind.{Behind}

-- the receipts that are lent, with the one that is at hand
abbrev pub lent_list : Behind → List Receipt
lent_list behind = cons_option (option_copied behind.first) behind.rest

-- These are lent, and the first of them, if there is one, is at hand.
pub record AreLent (receipts : List Receipt) (behind : Behind) : Type 0 where
  pub lent : lent_list behind ≡ receipts
  pub ends : option_copied behind.first ≡ None → receipts ≡ []

-- what there is so far: a text, how many lines it has, and the last receipt of them
pub record RunLines : Type 0 where
  pub text : List ℕ
  pub count : ℕ
  pub last : Option Receipt

-- These are the lines of the first of the receipts, and `left` follow them. `first` came before.
pub record AreFirst (first : Option Receipt) (receipts left : List Receipt)
    (lines : RunLines) : Type 0 where
  pub done : List Receipt
  pub parts : receipts ≡ done ++ left
  pub text : lines.text ≡ text_of_lines (map line done)
  pub count : lines.count ≡ length done
  pub last : lines.last ≡ last_or first done

abbrev pub lines_of_run : Run → RunLines
lines_of_run run = record {
  text = run.text.items;
  count = run.count;
  last = option_copied run.last;
}

-- They are enough, or all.
pub record IsRun (first : Option Receipt) (receipts : List Receipt) (size : ℕ)
    (run : Run) : Type 0 where
  pub left : List Receipt
  pub lines : AreFirst first receipts left (lines_of_run run)
  pub all : run.is_all ≡ true → left ≡ []
  pub moves : run.is_all ≡ false → 0 < run.count
  pub ample : run.is_all ≡ false → size ≤ length run.text.items
  pub few : length run.text.items ≤ size + receipt_line_limit + 1
