-- Warnings, found one after another.
use Rattle.std.proofs.Common.{◌≡◌, ◌<◌, ◌≤◌, ◌+◌, ℕ, List, ◌++◌, length, get_or, drop, flat_map, sym, ap, ◌∙◌}
use Rattle.std.proofs.Common.{append_assoc, append-nil}
use Rattle.std.proofs.lemmas.List.{drop_all}
use Rattle.status_view.proofs.PieceFacts.{drop_next}
use Rattle.status_view.specs.declared.running.PeerStatus.{PeerStatus}
use Rattle.status_view.specs.declared.status.Status.{Status}
use Rattle.status_view.specs.declared.status_format.StatusFormat.{StatusFormat}
use Rattle.status_warnings.specs.declared.seen.CertificateEnd.{CertificateEnd}
use Rattle.status_warnings.specs.declared.seen.SamePublicKey.{SamePublicKey}
use Rattle.status_warnings.specs.declared.warning_kinds.Warning.{Warning}
use Rattle.status_warnings.specs.Warnings.{Sight, warnings_of}
use Rattle.status_warnings.specs.WarnedStatus.{Watching, began_of, found_in, peers_of, sight_with, warned_text}

-- the items that one more thing gives were added: the step of a loop over things
pub flat_next : {X Y : Type 0} (f : X → List Y) (xs : List X) (k : ℕ) (x : X) (whole old new : List Y) → k < length xs → x ≡ get_or xs k x
    → old ++ flat_map f (drop k xs) ≡ whole → new ≡ old ++ f x → new ++ flat_map f (drop (k + 1) xs) ≡ whole
flat_next f xs k x whole old new low is so now =
    ap (λ t. t ++ flat_map f (drop (k + 1) xs)) now ∙ append_assoc old (f x) (flat_map f (drop (k + 1) xs))
    ∙ ap (λ rest. old ++ flat_map f rest) (sym (drop_next xs k x low is)) ∙ so

-- after the last thing the whole is there
pub flat_end : {X Y : Type 0} (f : X → List Y) (xs : List X) (k : ℕ) (whole out : List Y) → length xs ≤ k
    → out ++ flat_map f (drop k xs) ≡ whole → out ≡ whole
flat_end f xs k whole out high so = sym (append-nil out) ∙ ap (λ rest. out ++ flat_map f rest) (sym (drop_all k xs high)) ∙ so

-- what is seen, of its parts
abbrev pub sight_from : (w : Watching) (s : Status) (certificates : List CertificateEnd) (same_keys : List SamePublicKey) (peers : List PeerStatus)
    (began : ℕ) → Sight
sight_from w s certificates same_keys peers began =
    record { status = s; certificates = certificates; same_keys = same_keys; fetches = w.fetches; peers = peers; began = began }

-- what is seen of a replica that is watched so
pub sight_as : (w : Watching) (s : Status) (certificates : List CertificateEnd) (same_keys : List SamePublicKey) (peers : List PeerStatus) (began : ℕ)
    → peers ≡ peers_of w.running → began ≡ began_of w.running
    → sight_from w s certificates same_keys peers began ≡ sight_with w s certificates same_keys
sight_as w s certificates same_keys peers began p b =
    λ i. record { status = s; certificates = certificates; same_keys = same_keys; fetches = w.fetches; peers = p i; began = b i }

-- what was written is the text of what was seen, and of what was found in that
pub text_found : (format : StatusFormat) (w : Watching) (status : Status) (certificates : List CertificateEnd) (same_keys : List SamePublicKey)
    (seen : Sight) (slice : List Warning) (text : List ℕ) → seen ≡ sight_with w status certificates same_keys → slice ≡ warnings_of w.limits seen
    → text ≡ warned_text format w.running seen slice
    → text ≡ warned_text format w.running (sight_with w status certificates same_keys) (found_in w status certificates same_keys)
text_found format w status certificates same_keys seen slice text is all text_is =
    text_is ∙ ap (warned_text format w.running seen) (all ∙ ap (warnings_of w.limits) is)
    ∙ ap (λ s. warned_text format w.running s (found_in w status certificates same_keys)) is
