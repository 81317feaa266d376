-- What carrying one item, or the first items of a list, has done.
use Rattle.std.specs.Prelude.{◌≡◌, ℕ, ◌+◌, ◌≤◌, ◌++◌, ◌⊎◌, ◌↔◌, List, length, Contains, Option}
use Rattle.std.specs.List.{concat}
use Rattle.std.specs.Io.KnownBytes.{Appends}
use Rattle.byte_lines.specs.Device.{AppendsBeginning}
use Rattle.migration.specs.Carry.{AreLeftOut}

-- what a sink holds before and after
pub record SinkRun : Type 0 where
  pub before : Option (List ℕ)
  pub after : Option (List ℕ)

abbrev pub sink_run : Option (List ℕ) → Option (List ℕ) → SinkRun
sink_run before after = record { before = before; after = after }

-- The item goes along: it is kept, with those that were.
pub record GoesAlong {A : Type 0} (goes : A → Type 0) (item : A) (old new : List A)
    (sink : SinkRun) : Type 0 where
  pub fits : goes item
  pub members : (a : A) → (Contains new a ↔ ((item ≡ a) ⊎ Contains old a))
  pub few : length new ≤ length old + 1
  pub unwritten : sink.after ≡ sink.before

-- The item is left out, and its line was written.
pub record StaysBehind {A : Type 0} (goes : A → Type 0) (reports : A → List ℕ → Type 0) (item : A)
    (old new : List A) (sink : SinkRun) : Type 0 where
  pub stays : goes item → ⊥
  pub same : new ≡ old
  pub line : List ℕ
  pub reported : reports item line
  pub written : Appends sink.before sink.after line

-- One of both, and n lines were written.
abbrev pub SortsItem : {A : Type 0} → (A → Type 0) → (A → List ℕ → Type 0) → A → List A → List A
    → SinkRun → ℕ → Type 0
SortsItem goes reports item old new sink n = (GoesAlong goes item old new sink × (n ≡ 0))
    ⊎ (StaysBehind goes reports item old new sink × (n ≡ 1))

-- A beginning of the item's line was written, or nothing.
abbrev pub StopsAtItem : {A : Type 0} → (A → List ℕ → Type 0) → A → SinkRun → Type 0
StopsAtItem reports item sink = (sink.after ≡ sink.before)
    ⊎ ((line : List ℕ) × reports item line × AppendsBeginning sink.before sink.after line)

-- Exactly those of these items that go along are kept, and the lines of the others were written, n
-- of them.
pub record HasSorted {A : Type 0} (goes : A → Type 0) (reports : A → List ℕ → Type 0)
    (items kept : List A) (sink : SinkRun) (n : ℕ) : Type 0 where
  pub members : (a : A) → (Contains kept a ↔ (Contains items a × goes a))
  pub few : length kept ≤ length items
  pub lines : List (List ℕ)
  pub left : AreLeftOut goes reports items lines
  pub written : Appends sink.before sink.after (concat lines)
  pub counted : n ≡ length lines

-- A beginning of the lines of the first of these items was written.
pub record StopsSorting {A : Type 0} (goes : A → Type 0) (reports : A → List ℕ → Type 0)
    (items : List A) (sink : SinkRun) : Type 0 where
  pub first : List A
  pub later : List A
  pub front : items ≡ first ++ later
  pub lines : List (List ℕ)
  pub left : AreLeftOut goes reports first lines
  pub begun : AppendsBeginning sink.before sink.after (concat lines)
