-- The answers of a session, one after another.
use Rattle.std.proofs.Common.{◌≡◌, ℕ, ◌+◌, ◌≤◌, List, [], ◌∷◌, ◌++◌, length, sym, ap, subst, arith}
use Rattle.std.proofs.Common.{Option}
use Rattle.std.specs.Io.KnownBytes.{Appends}
use Rattle.std.proofs.lemmas.List.{take_all}
use Rattle.std.specs.declared.cmp.Ordering.{Ordering}
use Rattle.std.specs.declared.cmp.Ordering.TheVariants.{Less, Equal, Greater}
use Rattle.fed_config.specs.Configuration.{Configuration}
use Rattle.byte_lines.specs.Device.{AppendsBeginning}
use Rattle.receipt_core.specs.Rising.{placed, with_item, with_items}
use Rattle.replica_core.specs.State.{State, joined}
use Rattle.replica_core.specs.Session.{HaveMessage, GiveMessage}
use Rattle.replica_core.specs.declared.error.SyncError.{SyncError}
use Rattle.replica_core.specs.declared.error.SyncError.TheVariants.{BadHeader, ConfigDiffers, VersionDiffers, NotCanonical, NotRising, BadCount, Truncated}
use Rattle.replica_core.specs.declared.error.SyncError.TheVariants.{Refused, Io, NoMemory}
use Rattle.replica_sync.specs.SessionRun.{IsWritten}
use Rattle.replica_sync.specs.Pulling.{AreGives, IsGiveAbout, after_gives, have_in, haves_of}

-- ---- one answer more

-- One answer more, about the next bucket.
pub gives_more : (config : Configuration) (start bucket : ℕ) (gives : List GiveMessage) (give : GiveMessage)
    → bucket ≡ start + length gives → AreGives config start gives → IsGiveAbout config bucket give
    → AreGives config start (gives ++ give ∷ [])
gives_more config start bucket [] give e h one = let same : bucket ≡ start = omega (arith, e) in (subst (λ (b : ℕ). IsGiveAbout config b give) same one, tt)
gives_more config start bucket (first ∷ gives) give e h one = (
  h.0,
  gives_more config (start + 1) bucket gives give
      (let longer : length (first ∷ gives) ≡ length gives + 1 = omega arith in omega (arith, e, longer)) h.1 one,
)

-- One have more, with the ids that are held then.
pub haves_more : (config : Configuration) (start bucket : ℕ) (state : State) (gives : List GiveMessage) (give : GiveMessage) → bucket ≡ start + length gives
    → haves_of config start state (gives ++ give ∷ [])
    ≡ haves_of config start state gives ++ have_in config (after_gives state gives) bucket ∷ []
haves_more config start bucket state [] give e = let same : start ≡ bucket = omega (arith, e) in ap (λ (b : ℕ). have_in config state b ∷ []) same
haves_more config start bucket state (first ∷ gives) give e =
    ap (λ (qs : List HaveMessage). have_in config state start ∷ qs)
    (haves_more config (start + 1) bucket (joined state first.content) gives give
    (let longer : length (first ∷ gives) ≡ length gives + 1 = omega arith in omega (arith, e, longer)))

-- ---- what was written

-- A text that was written whole is a beginning of itself.
begins_all : (a b : Option (List ℕ)) (text : List ℕ) → Appends a b text → AppendsBeginning a b text
begins_all a b text p = (length text, subst (Appends a b) (sym (take_all (length text) text (omega arith))) p)

-- What was written whole is written, whatever the error.
pub written_all : (e : SyncError) (a b : Option (List ℕ)) (text : List ℕ) → Appends a b text → IsWritten e a b text
written_all BadHeader a b text p = p
written_all ConfigDiffers a b text p = p
written_all VersionDiffers a b text p = p
written_all (NotCanonical n) a b text p = p
written_all (NotRising n) a b text p = p
written_all BadCount a b text p = p
written_all Truncated a b text p = p
written_all (Refused n why) a b text p = p
written_all Io a b text p = begins_all a b text p
written_all NoMemory a b text p = begins_all a b text p

-- ---- what is held grows

-- One step of `longer_with_item`, for each way the item compares with the first.
longer_placed : {A : Type 0} (o : Ordering) (x h : A) (t longer : List A) → length t ≤ length longer → length (h ∷ t) ≤ length (placed o x h t longer)
longer_placed Less x h t longer more = omega arith
longer_placed Equal x h t longer more = omega arith
longer_placed Greater x h t longer more = omega (arith, more)

-- Adding an item makes no set smaller.
longer_with_item : {A : Type 0} (cmp : A → A → Ordering) (x : A) (set : List A) → length set ≤ length (with_item cmp x set)
longer_with_item cmp x [] = omega arith
longer_with_item cmp x (h ∷ t) = longer_placed (cmp x h) x h t (with_item cmp x t) (longer_with_item cmp x t)

-- Adding many items makes no set smaller.
pub longer_with_items : {A : Type 0} (cmp : A → A → Ordering) (items set : List A) → length set ≤ length (with_items cmp items set)
longer_with_items cmp [] set = omega arith
longer_with_items cmp (x ∷ items) set =
    let first = longer_with_item cmp x set in
    let others = longer_with_items cmp items (with_item cmp x set) in
    omega (arith, first, others)
