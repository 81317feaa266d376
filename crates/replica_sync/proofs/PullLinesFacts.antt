-- Several lines, taken by one call.
use Rattle.std.proofs.Common.{◌≡◌, ◌≢◌, ℕ, zero, suc, ◌+◌, ◌-◌, ◌≤◌, inl, inr, List, [], ◌∷◌, ◌++◌, length, take, drop}
use Rattle.std.proofs.Common.{refl, sym, ap, ◌∙◌, subst, append_assoc, append-nil, length-append, take-append-drop, arith}
use Rattle.std.specs.Prelude.{flat_map, Option, None, Some}
use Rattle.std.proofs.lemmas.Grind.{flat_map-append}
use Rattle.std.proofs.lemmas.List.{take_rest}
use Rattle.std.proofs.lemmas.List.Sums.{fold-append}
use Rattle.receipt_core.specs.Acceptance.{Meaning}
use Rattle.replica_core.specs.Absorbing.{with_entries, with_entry}
use Rattle.replica_core.specs.declared.entry.Entry.{Entry}
use Rattle.replica_core.specs.declared.error.SyncError.{SyncError}
use Rattle.replica_core.specs.declared.entry.Entry.TheVariants.{Record, Receipt as AReceipt}
use Rattle.replica_core.proofs.UnwelcomeFacts.{all-push}
use Rattle.replica_texts.specs.SoleLines.{IsWellFormed}
use Rattle.replica_journal.specs.Journal.{entry_text}
use Rattle.replica_sync.specs.PulledPieces.{AreAlone, AreNewInTurn, Journals, JournalsAll, JournalsEntry, PulledPiece}
use Rattle.replica_sync.specs.PullSessions.{EndsInFeed, HasPulledAbout, PullsLines, StopsNow, fault_of_pulling}
use Rattle.replica_sync.specs.declared.piece_pulling.Pulling.{Pulling}
use Rattle.replica_sync.proofs.PulledPieceFacts.{bytes_more}

-- ---- the configuration

-- With more entries it is the same.
pub config_same : (entries : List Entry) (m : Meaning) → (with_entries entries m).config ≡ m.config
config_same [] m = refl
config_same (Record x ∷ entries) m = config_same entries (with_entry (Record x) m)
config_same (AReceipt r ∷ entries) m = config_same entries (with_entry (AReceipt r) m)

-- ---- the journal

-- No line is appended.
pub journals_none : (m : Meaning) (before : List ℕ) → JournalsAll m m before before
journals_none m before = record { entries = []; forms = tt; meaning = refl; changed = tt; text = sym (append-nil before) }

-- One more is new after those that are new.
new_more : (m : Meaning) (entries : List Entry) (entry : Entry) → AreNewInTurn m entries
    → with_entry entry (with_entries entries m) ≢ with_entries entries m → AreNewInTurn m (entries ++ entry ∷ [])
new_more m [] entry all one = (one, tt)
new_more m (first ∷ entries) entry all one = (all.0, new_more (with_entry first m) entries entry all.1 one)

-- One more line is appended.
entry_more : (old mid new : Meaning) (before then after : List ℕ) → JournalsAll old mid before then → JournalsEntry mid new then after
    → JournalsAll old new before after
entry_more old mid new before then after all one =
    let entry = one.entry in
    record {
      entries = all.entries ++ entry ∷ [];
      forms = all-push IsWellFormed all.entries entry all.forms one.form;
      meaning = one.meaning ∙ ap (with_entry entry) all.meaning
          ∙ sym (fold-append (λ (m : Meaning) (e : Entry). with_entry e m) old all.entries (entry ∷ []));
      changed = new_more old all.entries entry all.changed
          (λ same. one.changed (one.meaning ∙ ap (with_entry entry) all.meaning ∙ same ∙ sym all.meaning));
      text = one.text ∙ ap (λ (l : List ℕ). l ++ entry_text entry) all.text
          ∙ append_assoc before (flat_map entry_text all.entries) (entry_text entry)
          ∙ ap (λ (l : List ℕ). before ++ l) (sym (flat_map-append entry_text all.entries (entry ∷ [])
          ∙ ap (λ (l : List ℕ). flat_map entry_text all.entries ++ l) (append-nil (entry_text entry))));
    }

-- Whatever one more line appends.
pub journals_more : (old mid new : Meaning) (before then after : List ℕ) → JournalsAll old mid before then → Journals mid new then after
    → JournalsAll old new before after
journals_more old mid new before then after all (inl none) =
    subst (λ (m : Meaning). JournalsAll old m before after) (sym none.0)
    (subst (λ (l : List ℕ). JournalsAll old mid before l) (sym none.1) all)
journals_more old mid new before then after all (inr one) = entry_more old mid new before then after all one

-- ---- the pieces

-- One more piece, between which and those before nothing changes.
alone_more : (before after : Meaning) (came : List PulledPiece) (c : PulledPiece) → AreAlone before came after → c.old ≡ after
    → AreAlone before (came ++ c ∷ []) c.new
alone_more before after [] c alone same = (same ∙ alone, refl)
alone_more before after (first ∷ came) c alone same = (alone.0, alone_more first.new after came c alone.1 same)

-- what one call does to a session, whichever it is
abbrev pub PullsPiece : Pulling → PulledPiece → Pulling → Type 0
PullsPiece before c after = (plan : Option (List ℕ)) (start : Meaning) (came : List PulledPiece) (written : List ℕ) → c.old.config ≡ start.config
    → HasPulledAbout plan before start came written → HasPulledAbout plan after start (came ++ c ∷ []) written

-- what a call finds in the piece that returns an error
abbrev pub FindsFault : Pulling → PulledPiece → Pulling → Type 0
FindsFault before c after = (e : SyncError) → fault_of_pulling before ≡ None → fault_of_pulling after ≡ Some e
    → (plan : Option (List ℕ)) (start : Meaning) (came : List PulledPiece) (written : List ℕ) → c.old.config ≡ start.config
    → HasPulledAbout plan before start came written → StopsNow plan start came c written e

-- the same, by its parts
abbrev pub Lines : Pulling → Meaning → List ℕ → Pulling → Meaning → Type 0
Lines before old bytes after new = PullsLines before (record { bytes = bytes; old = old; new = new }) after

-- One more line is taken.
pub pulls_more : (p then q : Pulling) (old mid : Meaning) (bytes : List ℕ) (c : PulledPiece) → Lines p old bytes then mid
    → c.old ≡ mid → mid.config ≡ old.config → (fault_of_pulling p ≡ None → fault_of_pulling then ≡ None)
    → PullsPiece then c q → FindsFault then c q → Lines p old (bytes ++ c.bytes) q c.new
pulls_more p then q old mid bytes c all at same calm one finds = record {
  pieces = all.pieces ++ c ∷ [];
  whole = bytes_more all.pieces c ∙ ap (λ (l : List ℕ). l ++ c.bytes) all.whole;
  alone = alone_more old mid all.pieces c all.alone at;
  pulls = λ plan start came written own h.
      subst (λ (l : List PulledPiece). HasPulledAbout plan q start l written) (append_assoc came all.pieces (c ∷ []))
      (one plan start (came ++ all.pieces) written (ap (λ (m : Meaning). m.config) at ∙ same ∙ own) (all.pulls plan start came written own h));
  stops = λ e sound stopped. record {
    front = all.pieces;
    last = c;
    order = refl;
    stops = λ plan start came written own h.
        finds e (calm sound) stopped plan start (came ++ all.pieces) written (ap (λ (m : Meaning). m.config) at ∙ same ∙ own)
        (all.pulls plan start came written own h);
  };
}

-- ---- the bytes

-- The first n bytes, and the first k of those after them.
pub take_both : (n k : ℕ) (piece : List ℕ) → n ≤ length piece → take n piece ++ take k (drop n piece) ≡ take (n + k) piece
take_both zero k piece few = let on : k ≡ zero + k = omega arith in ap (λ (m : ℕ). take m piece) on
take_both (suc n) k [] few = absurd (omega (arith, few))
take_both (suc n) k (x ∷ piece) few =
    let on : suc (n + k) ≡ suc n + k = omega arith in
    ap (λ (l : List ℕ). x ∷ l) (take_both n k piece (omega (arith, few))) ∙ ap (λ (m : ℕ). take m (x ∷ piece)) on

-- No bytes end in a line feed.
pub no_feed : EndsInFeed [] → ⊥
no_feed (before, same) = let longer = ap length same in let parts = length-append before (10 ∷ []) in omega (arith, longer, parts)

-- After the lines so far the configuration is the same.
pub config_then : (old mid : Meaning) (before then : List ℕ) → JournalsAll old mid before then → mid.config ≡ old.config
config_then old mid before then all = ap (λ (m : Meaning). m.config) all.meaning ∙ config_same all.entries old

-- what is left of the piece, as a call is given it
abbrev pub rest_of : List ℕ → ℕ → List ℕ
rest_of piece used = take (length piece - used) (drop used piece)

-- What a call does that ends with an error.
pub pulls_stop : (p then q : Pulling) (old mid new : Meaning) (piece : List ℕ) (used : ℕ) → Lines p old (take used piece) then mid
    → mid.config ≡ old.config → (fault_of_pulling p ≡ None → fault_of_pulling then ≡ None)
    → PullsPiece then (record { bytes = rest_of piece used; old = mid; new = new }) q
    → FindsFault then (record { bytes = rest_of piece used; old = mid; new = new }) q
    → Lines p old piece q new
pulls_stop p then q old mid new piece used all same calm one finds =
    subst (λ (l : List ℕ). Lines p old l q new)
    (ap (λ (l : List ℕ). take used piece ++ l) (take_rest piece used) ∙ take-append-drop used piece)
    (pulls_more p then q old mid (take used piece) (record { bytes = rest_of piece used; old = mid; new = new }) all refl same calm one finds)

-- What a call does that takes some bytes more.
pub pulls_on : (p then q : Pulling) (old mid new : Meaning) (piece : List ℕ) (used more : ℕ) → used ≤ length piece
    → Lines p old (take used piece) then mid → mid.config ≡ old.config
    → (fault_of_pulling p ≡ None → fault_of_pulling then ≡ None) → fault_of_pulling q ≡ None
    → PullsPiece then (record { bytes = take more (rest_of piece used); old = mid; new = new }) q
    → Lines p old (take (used + more) piece) q new
pulls_on p then q old mid new piece used more few all same calm sound one =
    subst (λ (l : List ℕ). Lines p old l q new)
    (ap (λ (l : List ℕ). take used piece ++ take more l) (take_rest piece used) ∙ take_both used more piece few)
    (pulls_more p then q old mid (take used piece) (record { bytes = take more (rest_of piece used); old = mid; new = new }) all refl same calm one
    (λ e before stopped. absurd (cc)))
