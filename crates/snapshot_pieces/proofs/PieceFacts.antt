-- One piece more of a snapshot.
use Rattle.std.proofs.Common.{◌≡◌, ℕ, ◌+◌, ◌^◌, ◌<◌, ◌≤◌, ◌⊎◌, inl, inr, true, false, List, [], ◌++◌, length, length-append, map, Contains}
use Rattle.std.proofs.Common.{Option, None, Some, refl, sym, ap, ◌∙◌, subst, arith, append_assoc, append-nil, Bool}
use Rattle.std.specs.Ordering.{is_lt}
use Rattle.std.specs.List.{AllByRecursion, last_or}
use Rattle.std.specs.List.Sorted.{IsStrictlySortedBy}
use Rattle.std.proofs.lemmas.Grind.{flat_map-append}
use Rattle.std.proofs.lemmas.List.Elements.{Contains-append_cases, Contains-append_left, Contains-append_right}
use Rattle.std.proofs.lemmas.List.Kept.{IsStrictlySortedBy-filter}
use Rattle.fed_config.specs.Configuration.{Configuration}
use Rattle.receipt_core.specs.Receipt.{Receipt, IsReceipt, line, distrust_line, receipt_cmp}
use Rattle.receipt_core.specs.Order.{receipt_total}
use Rattle.receipt_core.specs.Acceptance.{Meaning, IsMeaning, IsFitting}
use Rattle.receipt_core.specs.Limits.{receipt_limit}
use Rattle.receipt_core.proofs.LimitFacts.{receipt_limit-most}
use Rattle.replica_core.proofs.ContainsFacts.{contains-none, each-from, each-to, filter-from, filter-to}
use Rattle.replica_core.proofs.RisingListFacts.{rising_nil}
use Rattle.replica_texts.specs.Snapshots.{count_of, ended, text_of_lines}
use Rattle.replica_texts.specs.SoleLines.{written_header}
use Rattle.replica_texts.specs.WrittenSnapshot.{written_snapshot}
use Rattle.snapshot_pieces.specs.Pieces.{receipts_after, Grows, with_written, written_beginning, HasWritten, IsSnapshotBetween}
use Rattle.snapshot_pieces.specs.Pieces.{IsNextPiece, end_of, end_line}
use Rattle.snapshot_pieces.specs.declared.pieces.Piece.{Piece}
use Rattle.snapshot_pieces.specs.declared.pieces.SnapshotPieces.{SnapshotPieces}
use Rattle.snapshot_pieces.proofs.LineFacts.{lines_append}
use Rattle.snapshot_pieces.proofs.PlaceFacts.{less_of}
use Rattle.snapshot_pieces.proofs.RisingFacts.{IsAbove, above_last, front_below, last_append, no_longer, rising_front, rising_joined}

-- ---- the receipts behind one

-- What is behind the last one is held, and above it.
pub after_from : (o : Option Receipt) (held : List Receipt) (r : Receipt) → Contains (receipts_after o held) r
    → Contains held r × IsAbove receipt_cmp o r
after_from None held r has = (has, tt)
after_from (Some last) held r has =
    let kept = filter-from (λ s. is_lt (receipt_cmp last s)) held r has in
    (kept.0, less_of (receipt_cmp last r) kept.1)

-- What is held and above the last one is behind it.
pub after_to : (o : Option Receipt) (held : List Receipt) (r : Receipt) → Contains held r → IsAbove receipt_cmp o r
    → Contains (receipts_after o held) r
after_to None held r has above = has
after_to (Some last) held r has above = filter-to (λ s. is_lt (receipt_cmp last s)) held r has (ap is_lt above)

-- The receipts behind one are sorted.
pub after_rising : (o : Option Receipt) (held : List Receipt) → IsStrictlySortedBy receipt_cmp held
    → IsStrictlySortedBy receipt_cmp (receipts_after o held)
after_rising None held rising = rising
after_rising (Some last) held rising = IsStrictlySortedBy-filter receipt_cmp (λ s. is_lt (receipt_cmp last s)) held rising

-- What holds of all that is held holds of the receipts behind one.
pub after_each : (P : Receipt → Type 0) (o : Option Receipt) (held lent : List Receipt) → lent ≡ receipts_after o held → AllByRecursion P held
    → AllByRecursion P lent
after_each P o held lent e all =
    subst (λ (rs : List Receipt). AllByRecursion P rs) (sym e)
    (each-to P (receipts_after o held) (λ r has. each-from P held all r (after_from o held r has).0))

-- They are not more than are held.
pub after_few : (o : Option Receipt) (held lent : List Receipt) → lent ≡ receipts_after o held → IsStrictlySortedBy receipt_cmp held
    → length lent ≤ length held
after_few o held lent e rising =
    subst (λ (rs : List Receipt). length rs ≤ length held) (sym e)
    (no_longer receipt_total (receipts_after o held) held (after_rising o held rising) rising (λ r has. (after_from o held r has).0))

-- ---- the text

-- The text that was begun, with one list of lines for records and receipts.
begun_parts : (m : Meaning) (done : List Receipt)
    → written_beginning (with_written m done)
    ≡ (ended (written_header m.config) ++ text_of_lines (map distrust_line m.records)) ++ text_of_lines (map line done)
begun_parts m done =
    ap (λ t. ended (written_header m.config) ++ t) (flat_map-append ended (map distrust_line m.records) (map line done))
    ∙ sym (append_assoc (ended (written_header m.config)) (text_of_lines (map distrust_line m.records)) (text_of_lines (map line done)))

-- More receipts add their lines.
begun_more : (m : Meaning) (done more : List Receipt)
    → written_beginning (with_written m done) ++ text_of_lines (map line more) ≡ written_beginning (with_written m (done ++ more))
begun_more m done more =
    let front = ended (written_header m.config) ++ text_of_lines (map distrust_line m.records) in
    ap (λ t. t ++ text_of_lines (map line more)) (begun_parts m done)
    ∙ append_assoc front (text_of_lines (map line done)) (text_of_lines (map line more))
    ∙ ap (λ t. front ++ t) (sym (lines_append done more)) ∙ sym (begun_parts m (done ++ more))

-- The first line and the lines of the records are the beginning without a receipt.
pub begun_text : (m : Meaning) (header sliced empty start text : List ℕ) → header ≡ written_header m.config → sliced ≡ header
    → empty ≡ [] → start ≡ empty ++ ended sliced → text ≡ start ++ text_of_lines (map distrust_line m.records)
    → text ≡ written_beginning (with_written m [])
begun_text m header sliced empty start text h s e first records =
    let same : start ≡ ended (written_header m.config) =
    first ∙ ap (λ (t : List ℕ). t ++ ended sliced) e ∙ ap (λ (t : List ℕ). ended t) (s ∙ h) in
    records ∙ ap (λ (t : List ℕ). t ++ text_of_lines (map distrust_line m.records)) same
    ∙ ap (λ (lines : List (List ℕ)). ended (written_header m.config) ++ text_of_lines lines) (sym (append-nil (map distrust_line m.records)))

-- With that beginning, a snapshot was begun.
pub has_begun : (m : Meaning) (pieces : SnapshotPieces) (text : List ℕ) → IsMeaning m → text ≡ written_beginning (with_written m [])
    → pieces.last ≡ None → pieces.receipts ≡ 0 → pieces.records ≡ length m.records → HasWritten m pieces text m
has_begun m pieces text valid spelt last receipts records = record {
  valid = valid;
  since = record { config = refl; held = λ r has. has; records = λ x has. has };
  done = [];
  spelt = spelt;
  rising = rising_nil receipt_cmp;
  within = λ r has. absurd (contains-none r has);
  left = λ r has. inr (subst (λ (o : Option Receipt). Contains (receipts_after o m.held) r) (sym last) has);
  last = last;
  receipts = receipts;
  records = records;
}

-- A snapshot is its beginning and its last line.
snapshot_ends : (m : Meaning) → written_beginning m ++ ended (end_line (length m.held) (length m.records)) ≡ written_snapshot m
unfolding count_of end_line
snapshot_ends m = refl

-- ---- one piece more

module _ (m earlier now : Meaning) (old new : SnapshotPieces) (before : List ℕ) (piece : Piece) (w : HasWritten m old before earlier)
    (g : Grows earlier now) (valid : IsMeaning now) (n : IsNextPiece old now.held new piece) where
  -- All that was held at the beginning is held now.
  grown : Grows m now
  grown = record {
    config = g.config ∙ w.since.config;
    held = λ r has. g.held r (w.since.held r has);
    records = λ x has. g.records x (w.since.records x has);
  }

  -- The receipts that are written now, and those that are left, are sorted.
  behind_rising : IsStrictlySortedBy receipt_cmp (n.done ++ n.left)
  behind_rising = subst (λ (rs : List Receipt). IsStrictlySortedBy receipt_cmp rs) n.parts (after_rising old.last now.held valid.rising)

  -- Each of them is held, and above the last one.
  behind : (r : Receipt) → Contains (n.done ++ n.left) r → Contains now.held r × IsAbove receipt_cmp old.last r
  behind r has = after_from old.last now.held r (subst (λ (rs : List Receipt). Contains rs r) (sym n.parts) has)

  -- All that are written rise.
  all_rising : IsStrictlySortedBy receipt_cmp (w.done ++ n.done)
  all_rising =
      rising_joined receipt_total w.done n.done w.rising (rising_front receipt_cmp n.done n.left behind_rising)
      (λ r has. subst (λ (o : Option Receipt). IsAbove receipt_cmp o r) w.last (behind r (Contains-append_left n.done n.left r has)).1)

  -- All that are written are held.
  all_within : (r : Receipt) → Contains (w.done ++ n.done) r → Contains now.held r
  all_within r has = elim (Contains-append_cases w.done n.done r has) [
    | inl first ↦ g.held r (w.within r first)
    | inr second ↦ (behind r (Contains-append_left n.done n.left r second)).0
  ]

  -- So their number is at most that of what is held.
  no_more : length (w.done ++ n.done) ≤ length now.held
  no_more = no_longer receipt_total (w.done ++ n.done) now.held all_rising valid.rising all_within

  -- Their number is counted.
  counted : new.receipts ≡ length (w.done ++ n.done)
  counted =
      let size = length-append w.done n.done in
      let few = valid.few in
      let most = receipt_limit-most now.config in
      let fits : old.receipts + length n.done < 2 ^ 64 = omega (arith, size, no_more, few, most, w.receipts) in
      omega (arith, n.receipts fits, w.receipts, size)

  -- What was held at the beginning is written, or left.
  found : (r : Receipt) → Contains m.held r → Contains (w.done ++ n.done) r ⊎ Contains n.left r
  found r has = elim (w.left r has) [
    | inl first ↦ inl (Contains-append_left w.done n.done r first)
    | inr after ↦
        let there = after_to old.last now.held r (grown.held r has) (after_from old.last m.held r after).1 in
        elim (Contains-append_cases n.done n.left r (subst (λ (rs : List Receipt). Contains rs r) n.parts there)) [
          | inl second ↦ inl (Contains-append_right w.done n.done r second)
          | inr left ↦ inr left
        ]
  ]

  -- What is left is above the last one that is written now.
  left_above : (r : Receipt) → Contains n.left r → IsAbove receipt_cmp new.last r
  left_above r has =
      subst (λ (o : Option Receipt). IsAbove receipt_cmp o r) (sym n.last)
      (above_last receipt_cmp old.last n.done r (behind r (Contains-append_right n.done n.left r has)).1
      (front_below receipt_cmp n.done n.left r behind_rising has))

  -- The text that was written has these lines too.
  longer_text : before ++ text_of_lines (map line n.done) ≡ written_beginning (with_written m (w.done ++ n.done))
  longer_text = ap (λ t. t ++ text_of_lines (map line n.done)) w.spelt ∙ begun_more m w.done n.done

  -- With the new lines, this is what was written.
  longer : HasWritten m new (before ++ text_of_lines (map line n.done)) now
  longer = record {
    valid = w.valid;
    since = grown;
    done = w.done ++ n.done;
    spelt = longer_text;
    rising = all_rising;
    within = all_within;
    left = λ r has. elim (found r has) [
      | inl there ↦ inl there
      | inr left ↦ inr (after_to new.last m.held r has (left_above r left))
    ];
    last = n.last ∙ ap (λ (o : Option Receipt). last_or o n.done) w.last ∙ last_append None w.done n.done;
    receipts = counted;
    records = n.records ∙ w.records;
  }

  -- A piece that is not the last is only these lines.
  pub continued : piece.is_last ≡ false → HasWritten m new (before ++ piece.text.items) now
  continued e =
      subst (λ (t : List ℕ). HasWritten m new (before ++ t) now)
      (sym (n.text ∙ ap (λ (b : Bool). text_of_lines (map line n.done) ++ end_of b new) e ∙ append-nil (text_of_lines (map line n.done))))
      longer

  -- It has a line at least.
  pub moved : piece.is_last ≡ false → old.receipts < new.receipts
  moved e = omega (arith, n.moves e, counted, w.receipts, length-append w.done n.done)

  -- All that are written can be held.
  content_valid : IsMeaning (with_written m (w.done ++ n.done))
  content_valid = record {
    receipts = each-to IsReceipt (w.done ++ n.done) (λ r has. each-from IsReceipt now.held valid.receipts r (all_within r has));
    rising = all_rising;
    fitting = each-to (IsFitting m.config) (w.done ++ n.done)
        (λ r has. subst (λ (c : Configuration). IsFitting c r) grown.config
        (each-from (IsFitting now.config) now.held valid.fitting r (all_within r has)));
    few = let few = valid.few in
        let same : receipt_limit now.config ≡ receipt_limit m.config = ap receipt_limit grown.config in
        omega (arith, no_more, few, same);
    distrusts = w.valid.distrusts;
    records_rising = w.valid.records_rising;
    domains = w.valid.domains;
    few_records = w.valid.few_records;
  }

  -- With the end, it is the snapshot of these.
  whole_text : piece.is_last ≡ true → before ++ piece.text.items ≡ written_snapshot (with_written m (w.done ++ n.done))
  whole_text e =
      let lines = text_of_lines (map line n.done) in
      let last = ended (end_line (length (w.done ++ n.done)) (length m.records)) in
      let end : end_of piece.is_last new ≡ last =
      ap (λ (b : Bool). end_of b new) e ∙ ap (λ (k : ℕ). ended (end_line k new.records)) counted
      ∙ ap (λ (k : ℕ). ended (end_line (length (w.done ++ n.done)) k)) (n.records ∙ w.records) in
      ap (λ (t : List ℕ). before ++ t) (n.text ∙ ap (λ (t : List ℕ). lines ++ t) end) ∙ sym (append_assoc before lines last)
      ∙ ap (λ (t : List ℕ). t ++ last) longer_text ∙ snapshot_ends (with_written m (w.done ++ n.done))

  -- The last piece ends the snapshot.
  pub finished : piece.is_last ≡ true → IsSnapshotBetween m now (before ++ piece.text.items)
  finished e = record {
    content = with_written m (w.done ++ n.done);
    valid = content_valid;
    spelt = whole_text e;
    since = record {
      config = refl;
      held = λ r has. elim (found r has) [
        | inl there ↦ there
        | inr left ↦ absurd (contains-none r (subst (λ (rs : List Receipt). Contains rs r) (n.all e) left))
      ];
      records = λ x has. has;
    };
    until = record { config = grown.config; held = all_within; records = grown.records };
  }
