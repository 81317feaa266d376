-- Verdicts on the same bytes, and on bytes with more after them
use Rattle.std.proofs.Common.{◌≡◌, ℕ, ◌+◌, ◌-◌, ◌<◌, ◌≤◌, ◌⊎◌, List, [], ◌++◌, Option, Some, None, option_map, length, take, drop, get_or}
use Rattle.std.proofs.Common.{Result, Ok, Err, OnOk, OnErr, refl}
use Rattle.std.specs.declared.alloc.AllocError.{AllocError}
use Rattle.std.proofs.Common.{sym, ap, ◌∙◌, subst, arith, inl, inr, ⊎_elim, append_assoc, append-nil}
use Rattle.std.proofs.lemmas.Bool.{cases_order}
use Rattle.std.proofs.lemmas.List.{get_or-drop, length-append, length-drop, length-take-le, take-append-drop, take-append-le, take_all}
use Rattle.std.proofs.Math.Seq.{take-append-add}
use Rattle.std.proofs.Math.ListN.{get_or-append}
use Rattle.memchr.specs.Find.{OccursAt}
use Rattle.httparse.proofs.GrammarLemmas.{request_unique}
use Rattle.health_pages.specs.declared.asked_page.PageFault.{PageFault}
use Rattle.health_pages.specs.declared.asked_page.PageFault.TheVariants.{BadHead, TooLong}
use Rattle.health_pages.specs.declared.head_verdict.HeadVerdict.{HeadVerdict}
use Rattle.std.specs.Option.{ForNone, ForSome}
use Rattle.health_pages.specs.HeadEnds.{EndsAt, EndsFirstAt, HasNoEnd, head_end, head_limit}
use Rattle.health_pages.specs.Heads.{AnswersWhole, IsVerdict, IsVerdictOfHead, RefusesRequest, SaysHead}
use Rattle.health_pages.specs.Heads.{asked_of, host_of, host_view, is_head, result_view, with_piece}

-- ---- the place at which a head ends

-- what is in the bytes is there with more after them
occurs_more : (bytes more : List ℕ) (k : ℕ) → OccursAt bytes head_end k → OccursAt (bytes ++ more) head_end k
occurs_more bytes more k at = record {
  fits = omega (arith, at.fits, length-append bytes more);
  reads = λ j low. get_or-append bytes more 0 (k + j) (omega (arith, at.fits, low)) ∙ at.reads j low;
}

-- and if that reaches no further than the bytes, the other way round
occurs_less : (bytes more : List ℕ) (k : ℕ) → k + 4 ≤ length bytes → OccursAt (bytes ++ more) head_end k → OccursAt bytes head_end k
occurs_less bytes more k fits at = record {
  fits = fits;
  reads = λ j low. sym (get_or-append bytes more 0 (k + j) (omega (arith, fits, low))) ∙ at.reads j low;
}

pub ends_more : (bytes more : List ℕ) (p : ℕ) → EndsAt bytes (Some p) → EndsAt (bytes ++ more) (Some p)
ends_more bytes more p ends =
    let fits : p + 4 ≤ length bytes = ends.1.fits in (
      record {
        low = ends.0.low;
        high = omega (arith, fits, length-append bytes more);
        before = λ k low high at. ends.0.before k low high (occurs_less bytes more k (omega (arith, fits, high)) at);
      },
      occurs_more bytes more p ends.1,
    )

-- a head ends at one place
one_end : (bytes : List ℕ) (p q : ℕ) → EndsAt bytes (Some p) → EndsAt bytes (Some q) → p ≡ q
one_end bytes p q a b =
    ⊎_elim (λ same. same)
    (λ other. ⊎_elim (λ less. absurd (b.0.before p a.0.low less a.1)) (λ more. absurd (a.0.before q b.0.low more b.1)) other)
    (cases_order p q)

-- or at none
no_end : (bytes : List ℕ) (p : ℕ) → EndsAt bytes (Some p) → EndsAt bytes None → ⊥
no_end bytes p a none = none p a.0.low a.0.high a.1

-- ---- verdicts

abbrev AreSame : HeadVerdict → HeadVerdict → Type 0
AreSame v w = (v.is_head ≡ w.is_head) × (result_view v.asked ≡ result_view w.asked) × (host_view v ≡ host_view w)

same_refusal : (fault : PageFault) (v w : HeadVerdict) → RefusesRequest fault v → RefusesRequest fault w → AreSame v w
same_refusal fault v w a b = (a.is_head ∙ sym b.is_head, a.asked ∙ sym b.asked, a.host ∙ sym b.host)

same_heads : (bytes : List ℕ) (v w : HeadVerdict) → SaysHead bytes v → SaysHead bytes w → AreSame v w
same_heads bytes v w a b =
    let same : a.head ≡ b.head = (request_unique bytes a.head b.head [] [] a.is.reads b.is.reads).0 in
    (a.is_head ∙ ap (λ h. is_head h.method) same ∙ sym b.is_head, a.asked ∙ ap asked_of same ∙ sym b.asked, a.host ∙ ap host_of same ∙ sym b.host)

one_of_head : (bytes : List ℕ) (v w : HeadVerdict) → IsVerdictOfHead bytes v → IsVerdictOfHead bytes w → AreSame v w
one_of_head bytes v w a b =
    ⊎_elim
    (λ says. ⊎_elim (λ other. same_heads bytes v w says other) (λ none. absurd (none.0 says.head says.is)) b)
    (λ none. ⊎_elim (λ other. absurd (none.0 other.head other.is)) (λ both. same_refusal BadHead v w none.1 both.1) b)
    a

whole_ones : (bytes : List ℕ) (v w : HeadVerdict) → AnswersWhole bytes v → AnswersWhole bytes w → AreSame v w
whole_ones bytes v w a b =
    let same : b.place ≡ a.place = one_end bytes b.place a.place b.ends a.ends in
    one_of_head (take (a.place + 4) bytes) v w a.verdict (subst (λ p. IsVerdictOfHead (take (p + 4) bytes) w) same b.verdict)

pub one_verdict : (bytes : List ℕ) (v w : HeadVerdict) → IsVerdict bytes (Some v) → IsVerdict bytes (Some w) → AreSame v w
one_verdict bytes v w a b =
    ⊎_elim
    (λ whole. ⊎_elim (λ other. whole_ones bytes v w whole other) (λ long. absurd (no_end bytes whole.place whole.ends long.ends)) b)
    (λ long. ⊎_elim (λ whole. absurd (no_end bytes whole.place whole.ends long.ends)) (λ other. same_refusal TooLong v w long.verdict other.verdict) b)
    a

pub whole_verdict : (bytes : List ℕ) (v : HeadVerdict) → IsVerdict bytes (Some v) → IsVerdict bytes None → ⊥
whole_verdict bytes v a none =
    ⊎_elim (λ whole. no_end bytes whole.place whole.ends none.0) (λ long. omega (arith, long.long, none.1)) a

-- ---- pieces

kept_whole : (bytes more : List ℕ) (v : HeadVerdict) → AnswersWhole bytes v → AnswersWhole (bytes ++ more) v
kept_whole bytes more v a = record {
  place = a.place;
  ends = ends_more bytes more a.place a.ends;
  verdict = subst (λ head. IsVerdictOfHead head v) (sym (take-append-le (a.place + 4) bytes more a.ends.1.fits)) a.verdict;
}

-- the first bytes of two lists, one after the other
take_parts_within : (n : ℕ) (xs ys : List ℕ) → n ≤ length xs → take n xs ++ take (n - length xs) ys ≡ take n (xs ++ ys)
take_parts_within n xs ys low =
    let none : n - length xs ≡ 0 = omega (arith, low) in
    ap (λ k. take n xs ++ take k ys) none ∙ append-nil (take n xs) ∙ sym (take-append-le n xs ys low)

take_parts_beyond : (n : ℕ) (xs ys : List ℕ) → length xs ≤ n → take n xs ++ take (n - length xs) ys ≡ take n (xs ++ ys)
take_parts_beyond n xs ys high =
    let sum : length xs + (n - length xs) ≡ n = omega (arith, high) in
    ap (λ t. t ++ take (n - length xs) ys) (take_all n xs high) ∙ sym (take-append-add xs ys (n - length xs)) ∙ ap (λ k. take k (xs ++ ys)) sum

-- either way of two numbers
order : (a b : ℕ) → (a ≤ b) ⊎ (b ≤ a)
order a b =
    ⊎_elim (λ same. inl (omega (arith, same))) (λ other. ⊎_elim (λ less. inl (omega (arith, less))) (λ more. inr (omega (arith, more))) other)
    (cases_order a b)

take_parts : (n : ℕ) (xs ys : List ℕ) → take n xs ++ take (n - length xs) ys ≡ take n (xs ++ ys)
take_parts n xs ys = ⊎_elim (take_parts_within n xs ys) (take_parts_beyond n xs ys) (order n (length xs))

-- how much room a piece leaves
room_left : (bytes piece : List ℕ) → length bytes ≤ head_limit
    → head_limit - length (with_piece bytes piece) ≡ (head_limit - length bytes) - length piece
room_left bytes piece short =
    let n = head_limit - length bytes in
    let all = length-append bytes (take n piece) in
    ⊎_elim
    (λ low. let taken = length-take-le n piece low in omega (arith, all, taken, low, short))
    (λ high. let taken = ap length (take_all n piece high) in omega (arith, all, taken, high, short))
    (order n (length piece))

pub joined_pieces : (bytes first second : List ℕ) → length bytes ≤ head_limit
    → with_piece (with_piece bytes first) second ≡ with_piece bytes (first ++ second)
joined_pieces bytes first second short =
    let n = head_limit - length bytes in
    ap (λ k. with_piece bytes first ++ take k second) (room_left bytes first short)
    ∙ append_assoc bytes (take n first) (take (n - length first) second) ∙ ap (λ t. bytes ++ t) (take_parts n first second)

-- what is full does not change
full : (bytes piece : List ℕ) → length bytes ≡ head_limit → with_piece bytes piece ≡ bytes
full bytes piece long =
    let none : head_limit - length bytes ≡ 0 = omega (arith, long) in
    ap (λ n. bytes ++ take n piece) none ∙ append-nil bytes

pub kept_verdict : (bytes piece : List ℕ) (v : HeadVerdict) → IsVerdict bytes (Some v) → IsVerdict (with_piece bytes piece) (Some v)
kept_verdict bytes piece v a =
    ⊎_elim (λ whole. inl (kept_whole bytes (take (head_limit - length bytes) piece) v whole))
    (λ long. subst (λ all. IsVerdict all (Some v)) (sym (full bytes piece long.long)) (inr long))
    a

-- ---- the end of a head that came with the last piece

-- what is in what is left is in the bytes
occurs_left : (bytes : List ℕ) (from k : ℕ) → from ≤ length bytes → OccursAt (drop from bytes) head_end k → OccursAt bytes head_end (from + k)
occurs_left bytes from k low at = record {
  fits = omega (arith, at.fits, length-drop from bytes, low);
  reads = λ j less. ap (λ n. get_or bytes n 0) (omega arith) ∙ sym (get_or-drop from bytes (k + j) 0) ∙ at.reads j less;
}

-- and the other way round
occurs_right : (bytes : List ℕ) (from k : ℕ) → from ≤ k → OccursAt bytes head_end k → OccursAt (drop from bytes) head_end (k - from)
occurs_right bytes from k low at = record {
  fits = omega (arith, at.fits, length-drop from bytes, low);
  reads = λ j less. get_or-drop from bytes (k - from + j) 0 ∙ ap (λ n. get_or bytes n 0) (omega (arith, low)) ∙ at.reads j less;
}

-- an end that begins further left came before
none_left : (bytes : List ℕ) (seen k : ℕ) → seen ≤ length bytes → k < seen - 3 → EndsAt (take seen bytes) None → OccursAt bytes head_end k → ⊥
none_left bytes seen k low less none at =
    let size : length (take seen bytes) ≡ seen = length-take-le seen bytes low in
    let whole = subst (λ l. OccursAt l head_end k) (sym (take-append-drop seen bytes)) at in
    none k (omega arith) (omega (arith, size, less)) (occurs_less (take seen bytes) (drop seen bytes) k (omega (arith, size, less)) whole)

-- a place is at another one or after it, or before it
from_or_before : (a k : ℕ) → (a ≤ k) ⊎ (k < a)
from_or_before a k =
    ⊎_elim (λ same. inl (omega (arith, same))) (λ other. ⊎_elim (λ less. inl (omega (arith, less))) (λ more. inr more) other)
    (cases_order a k)

-- so it is looked for from there
none_before : (bytes : List ℕ) (seen p : ℕ) → seen ≤ length bytes → EndsAt (take seen bytes) None
    → ((k : ℕ) → k < p → OccursAt (drop (seen - 3) bytes) head_end k → ⊥) → (k : ℕ) → k < seen - 3 + p → OccursAt bytes head_end k → ⊥
none_before bytes seen p low awaited before k less at =
    ⊎_elim (λ right. before (k - (seen - 3)) (omega (arith, right, less)) (occurs_right bytes (seen - 3) k right at))
    (λ left. none_left bytes seen k low left awaited at)
    (from_or_before (seen - 3) k)

pub ends_after : (bytes : List ℕ) (seen : ℕ) (found : Option ℕ) → seen ≤ length bytes → EndsAt (take seen bytes) None
    → EndsAt (drop (seen - 3) bytes) found → EndsAt bytes (option_map (λ k. seen - 3 + k) found)
ends_after bytes seen None low awaited none = λ k least high at.
    none_before bytes seen (length (drop (seen - 3) bytes) + 1) low awaited (λ j less found. none j (omega arith) less found) k
    (omega (arith, high, length-drop (seen - 3) bytes, low)) at
ends_after bytes seen (Some p) low awaited at = (
  record {
    low = omega arith;
    high = omega (arith, at.0.high, length-drop (seen - 3) bytes, low);
    before = λ k least less occurs.
        none_before bytes seen p low awaited (λ j lower found. at.0.before j (omega arith) lower found) k less occurs;
  },
  occurs_left bytes (seen - 3) p (omega (arith, low)) at.1,
)

-- ---- what is kept: the bytes, and the place at which the head ends

pub found_of : (bytes : List ℕ) (end : Option ℕ) → ForNone end (HasNoEnd bytes) → ForSome end (EndsFirstAt bytes) → EndsAt bytes end
found_of bytes None awaited ended = awaited refl
found_of bytes (Some p) awaited ended = ended p refl

pub awaited_of : (bytes : List ℕ) (end : Option ℕ) → EndsAt bytes end → ForNone end (HasNoEnd bytes)
awaited_of bytes end found none = subst (EndsAt bytes) none found

pub ended_of : (bytes : List ℕ) (end : Option ℕ) → EndsAt bytes end → ForSome end (EndsFirstAt bytes)
ended_of bytes end found p some = subst (EndsAt bytes) some found

-- both parts after a piece, of which all was taken or nothing
pub kept_found : (result : Result (Unit {0}) AllocError) (was new piece : List ℕ) (end now : Option ℕ) → EndsAt was end
    → OnOk result ((new ≡ was ++ piece) × EndsAt new now) → OnErr result ((new ≡ was) × (now ≡ end)) → EndsAt new now
kept_found (Ok done) was new piece end now found kept left = kept.1
kept_found (Err fault) was new piece end now found kept left =
    subst (λ l. EndsAt l now) (sym left.0) (subst (EndsAt was) (sym left.1) found)

pub kept_short : (result : Result (Unit {0}) AllocError) (was new piece : List ℕ) (end now : Option ℕ) → length was ≤ head_limit
    → length was + length piece ≤ head_limit → OnOk result ((new ≡ was ++ piece) × EndsAt new now)
    → OnErr result ((new ≡ was) × (now ≡ end)) → length new ≤ head_limit
kept_short (Ok done) was new piece end now short fits kept left = omega (arith, ap length kept.0, length-append was piece, fits)
kept_short (Err fault) was new piece end now short fits kept left = omega (arith, ap length left.0, short)
