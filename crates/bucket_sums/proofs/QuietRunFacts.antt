-- A whole session over devices: what one step does, and what steps do together.
use Rattle.std.proofs.Common.{◌≡◌, ◌∙◌, ℕ, List, [], ◌∷◌, ◌++◌, take, drop, refl, sym, ap, subst, append_assoc, append-nil, take-append-drop}
use Rattle.std.proofs.KnownBytes.{Appends-kept, Appends-nil, Appends-trans, Consumes-kept, Consumes-nil, Consumes-trans}
use Rattle.std.proofs.lemmas.Grind.{flat_map-append}
use Rattle.std.specs.Prelude.{Option, Some, None}
use Rattle.std.specs.Io.KnownBytes.{Appends, Consumes, Keeps, prepend_known}
use Rattle.receipt_core.specs.Acceptance.{Meaning}
use Rattle.replica_sync.specs.PulledPieces.{AreAlone, PulledPiece, bytes_pulled}
use Rattle.bucket_sums.specs.QuietPulls.{HasPulledQuietly, PullsQuietly}
use Rattle.bucket_sums.specs.QuietRuns.{RunsQuietly, SessionState, session_state}
use Rattle.bucket_sums.specs.declared.quiet_pulling.QuietPulling.{QuietPulling}

-- ---- steps together

-- Nothing changes between the first pieces, between the others, and between both.
alone_both : (before mid after : Meaning) (came more : List PulledPiece) → AreAlone before came mid → AreAlone mid more after
    → AreAlone before (came ++ more) after
alone_both before mid after [] more first then = subst (λ (m : Meaning). AreAlone m more after) first then
alone_both before mid after (c ∷ came) more first then = (first.0, alone_both c.new mid after came more first.1 then)

-- the bytes of both
bytes_both : (came more : List PulledPiece) → bytes_pulled (came ++ more) ≡ bytes_pulled came ++ bytes_pulled more
bytes_both came more = flat_map-append (λ (c : PulledPiece). c.bytes) came more

-- One run follows another.
pub run_both : (a : QuietPulling) (x y : SessionState) (b : QuietPulling) (z : SessionState) (c : QuietPulling) → RunsQuietly a x y b
    → RunsQuietly b y z c → RunsQuietly a x z c
run_both a x y b z c first then = record {
  pieces = first.pieces ++ then.pieces;
  written = first.written ++ then.written;
  read = subst (Consumes x.source z.source) (sym (bytes_both first.pieces then.pieces))
      (Consumes-trans x.source y.source z.source (bytes_pulled first.pieces) (bytes_pulled then.pieces) first.read then.read);
  wrote = Appends-trans x.sink y.sink z.sink first.written then.written first.wrote then.wrote;
  alone = alone_both x.held y.held z.held first.pieces then.pieces first.alone then.alone;
  own = then.own ∙ first.own;
  pulls = λ start came said own h.
      subst (λ (l : List PulledPiece). HasPulledQuietly c start l (said ++ (first.written ++ then.written)))
      (append_assoc came first.pieces then.pieces)
      (subst (λ (l : List ℕ). HasPulledQuietly c start ((came ++ first.pieces) ++ then.pieces) l) (append_assoc said first.written then.written)
      (then.pulls start (came ++ first.pieces) (said ++ first.written) (first.own ∙ own) (first.pulls start came said own h)));
}

-- ---- one step

-- Nothing comes and nothing is written.
pub run_still : (p : QuietPulling) (m : Meaning) (source rest sink then : Option (List ℕ)) → Keeps source rest → Keeps sink then
    → RunsQuietly p (session_state m source sink) (session_state m rest then) p
run_still p m source rest sink then same kept = record {
  pieces = [];
  written = [];
  read = Consumes-kept source source rest [] (Consumes-nil source) same;
  wrote = Appends-kept sink sink then [] (Appends-nil sink) kept;
  alone = refl;
  own = refl;
  pulls = λ start came said own h.
      subst (λ (l : List PulledPiece). HasPulledQuietly p start l (said ++ [])) (sym (append-nil came))
      (subst (λ (l : List ℕ). HasPulledQuietly p start came l) (sym (append-nil said)) h);
}

-- A part of what is due is written.
pub run_wrote : (p q : QuietPulling) (m : Meaning) (source sink then : Option (List ℕ)) (bytes : List ℕ) → Appends sink then bytes
    → ((start : Meaning) (came : List PulledPiece) (said : List ℕ) → HasPulledQuietly p start came said
    → HasPulledQuietly q start came (said ++ bytes))
    → RunsQuietly p (session_state m source sink) (session_state m source then) q
run_wrote p q m source sink then bytes appends wrote = record {
  pieces = [];
  written = bytes;
  read = Consumes-nil source;
  wrote = appends;
  alone = refl;
  own = refl;
  pulls = λ start came said own h.
      subst (λ (l : List PulledPiece). HasPulledQuietly q start l (said ++ bytes)) (sym (append-nil came)) (wrote start came said h);
}

-- Bytes are taken of those that come.
pub run_read : (p q : QuietPulling) (piece : PulledPiece) (source rest sink : Option (List ℕ)) → PullsQuietly p piece q
    → piece.new.config ≡ piece.old.config → Consumes source rest piece.bytes
    → RunsQuietly p (session_state piece.old source sink) (session_state piece.new rest sink) q
run_read p q piece source rest sink pulls same consumes = record {
  pieces = pulls.pieces;
  written = [];
  read = subst (Consumes source rest) (sym pulls.whole) consumes;
  wrote = Appends-nil sink;
  alone = pulls.alone;
  own = same;
  pulls = λ start came said own h.
      subst (λ (l : List ℕ). HasPulledQuietly q start (came ++ pulls.pieces) l) (sym (append-nil said)) (pulls.pulls start came said own h);
}

-- ---- what was read ahead

-- its first bytes are those that come first
pub first_ahead : (bytes : List ℕ) (used : ℕ) (source : Option (List ℕ))
    → Consumes (prepend_known bytes source) (prepend_known (drop used bytes) source) (take used bytes)
first_ahead bytes used None = tt
first_ahead bytes used (Some later) =
    ap (λ (l : List ℕ). l ++ later) (sym (take-append-drop used bytes)) ∙ append_assoc (take used bytes) (drop used bytes) later

-- all of it comes first
pub all_ahead : (bytes : List ℕ) (source : Option (List ℕ)) → Consumes (prepend_known bytes source) source bytes
all_ahead bytes None = tt
all_ahead bytes (Some later) = refl

-- if nothing was read ahead
pub none_ahead : (bytes : List ℕ) (source : Option (List ℕ)) → bytes ≡ [] → Keeps source (prepend_known bytes source)
none_ahead bytes None none = tt
none_ahead bytes (Some later) none = ap (λ (l : List ℕ). l ++ later) none

-- A run ends in the same state under other names.
pub run_as : (a : QuietPulling) (x : SessionState) (m n : Meaning) (r s k l : Option (List ℕ)) (b c : QuietPulling) → m ≡ n → r ≡ s → k ≡ l
    → b ≡ c → RunsQuietly a x (session_state n s l) c → RunsQuietly a x (session_state m r k) b
run_as a x m n r s k l b c held source sink after runs =
    subst (λ (t : Meaning). RunsQuietly a x (session_state t r k) b) (sym held)
    (subst (λ (t : Option (List ℕ)). RunsQuietly a x (session_state n t k) b) (sym source)
    (subst (λ (t : Option (List ℕ)). RunsQuietly a x (session_state n s t) b) (sym sink)
    (subst (λ (t : QuietPulling). RunsQuietly a x (session_state n s l) t) (sym after) runs)))
