-- Lemmas on bytes that are read or written piece by piece.
use Rattle.std.proofs.Common.{◌≡◌, ℕ, ◌+◌, ◌-◌, ◌≤◌, List, ◌++◌, length, take, drop, Option, None, Some, sym, ap, ◌∙◌}
use Rattle.std.proofs.Common.{subst, append-nil, take-append-drop, refl, arith, min, Bool, false, ◌||◌, Err}
use Rattle.std.proofs.Math.Seq.{take-add, take-append-add}
use Rattle.std.proofs.lemmas.List.{take_rest, take_at, take_all, drop-drop, length-take-le, drop_all, take-append-le, take_min}
use Rattle.std.specs.Io.KnownBytes.{Appends, Consumes, IsAtEnd}
use Rattle.std.proofs.KnownBytes.{Appends-trans}
use Rattle.byte_lines.specs.Device.{AppendsBeginning, TakesUpTo, is_source_fault}
use Rattle.byte_lines.specs.declared.error.DeviceError.{DeviceError}
use Rattle.byte_lines.specs.declared.error.DeviceError.TheVariants.{Io, NoMemory}

-- the sink took `count` bytes of those from `written` on
pub Appends-piece : (a b c : Option (List ℕ)) (bytes : List ℕ) (written count : ℕ) → Appends a b (take written bytes)
    → Appends b c (take count (take (length bytes - written) (drop written bytes))) → Appends a c (take (written + count) bytes)
Appends-piece a b c bytes written count before piece =
    let rest = subst (λ l. Appends b c (take count l)) (take_rest bytes written) piece in
    subst (Appends a c) (sym (take-add written count bytes)) (Appends-trans a b c _ _ before rest)

-- a beginning of the first piece is one of both pieces
pub AppendsBeginning-first : (a b : Option (List ℕ)) (first second : List ℕ) → AppendsBeginning a b first → AppendsBeginning a b (first ++ second)
AppendsBeginning-first a b first second (count, appended) =
    let within : min count (length first) ≤ length first = omega arith in
    (min count (length first), subst (Appends a b) (sym (take-append-le (min count (length first)) first second within ∙ take_min count first)) appended)

-- the first piece and a beginning of the second are a beginning of both
pub AppendsBeginning-second : (a b c : Option (List ℕ)) (first second : List ℕ) → Appends a b first
    → AppendsBeginning b c second → AppendsBeginning a c (first ++ second)
AppendsBeginning-second a b c first second before (count, appended) =
    (length first + count, subst (Appends a c) (sym (take-append-add first second count)) (Appends-trans a b c first _ before appended))

-- if the source ended within the limit, all of its bytes were taken
pub TakesUpTo-end : (a b : Option (List ℕ)) (limit : ℕ) (taken : List ℕ) → Consumes a b taken → IsAtEnd b → length taken ≤ limit → TakesUpTo a b limit taken
TakesUpTo-end None b limit taken consumed end within = within
TakesUpTo-end (Some x) None limit taken consumed end within = absurd consumed
TakesUpTo-end (Some x) (Some y) limit taken consumed end within =
    let whole : x ≡ taken = consumed ∙ ap (λ l. taken ++ l) end ∙ append-nil taken in
    (sym (ap (take limit) whole ∙ take_all limit taken within), ap Some (end ∙ sym (ap (drop limit) whole ∙ drop_all limit taken within)))

-- a read copied `count` bytes of the piece from `position` to `end` to the front of a buffer
pub unread-copied : (bytes shown rest buffer : List ℕ) (position end count room : ℕ) → shown ≡ bytes
    → count ≡ min (length (take (end - position) (drop position shown))) room → buffer ≡ take count (take (end - position) (drop position shown)) ++ rest
    → drop position bytes ≡ take count buffer ++ drop (position + count) bytes
unread-copied bytes shown rest buffer position end count room same is copied =
    let left = drop position shown in
    let piece = take (end - position) left in
    let within : count ≤ length piece = omega arith in
    let front : take count buffer ≡ take count piece = ap (take count) copied ∙ take_at (take count piece) rest count (length-take-le count piece within) in
    let begins : take count left ≡ take count piece =
    ap (take count) (sym (take-append-drop (end - position) left)) ∙ take-append-le count piece (drop (end - position) left) within in
    let split : left ≡ take count buffer ++ drop (position + count) shown =
    sym (take-append-drop count left) ∙ ap (λ l. l ++ drop count left) (begins ∙ sym front)
    ∙ ap (λ l. take count buffer ++ l) (drop-drop count position shown) in
    subst (λ l. drop position l ≡ take count buffer ++ drop (position + count) l) same split

-- after `Io` the source has failed, and after `NoMemory` it is as sound as it was
pub failed_or_kept : (T U : Type 0) (error : DeviceError) (new old initial : Bool) → new ≡ is_source_fault {T = T} (Err error)
    → (is_source_fault {T = T} (Err error) ≡ false → old ≡ false) → old ≡ initial → new ≡ (is_source_fault {T = U} (Err error) || initial)
failed_or_kept T U Io new old initial is sound kept = is
failed_or_kept T U NoMemory new old initial is sound kept = is ∙ sym (sound refl) ∙ kept
