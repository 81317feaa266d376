-- What records of distrust change, as lines that an operator reads
use Rattle.std.specs.Prelude.{◌≡◌, ◌↔◌, ℕ, ◌||◌, ◌&&◌, not, Bool, true, false, cond, Contains}
use Rattle.std.specs.Prelude.{List, [], ◌++◌, map, filter, flat_map, codes, Option, Some, None}
use Rattle.std.specs.Str.{bytes_eq}
use Rattle.std.specs.List.{list_all, list_any}
use Rattle.std.specs.List.Sorted.{IsStrictlySortedBy}
use Rattle.hex.specs.Hex.{encode_lower}
use Rattle.jwk_set.specs.Element.{key_id_of}
use Rattle.jwk_set.specs.declared.authority.Authority.{Authority}
use Rattle.jwk_set.specs.declared.authority.KeyId.{KeyId}
use Rattle.bundle_doc.specs.Bundle.{Bundle, doc_id_of, same_text}
use Rattle.fed_config.specs.Configuration.{AreDomains}
use Rattle.receipt_core.specs.Acceptance.{Meaning, IsMember, pair_of_seed}
use Rattle.receipt_core.specs.Receipt.{Pair, key_ids, pair_of}
use Rattle.receipt_core.specs.declared.distrust.Distrust.{Distrust}
use Rattle.closure_core.specs.AcceptedList.{document_cmp, document_of}
use Rattle.bundle_view.specs.Current.{IsCurrent}
use Rattle.bundle_view.specs.Report.{records_of}
use Rattle.text_lines.specs.TextLines.{number_or_none}
use Rattle.distrust_view.specs.declared.given_keys.GivenKeys.{GivenKeys}

-- what is held before and after keys are distrusted, and the keys
pub record DistrustChange : Type 0 where
  pub old : Meaning
  pub new : Meaning
  pub given : GivenKeys

abbrev pub distrust_change : Meaning → Meaning → GivenKeys → DistrustChange
distrust_change old new given = record { old = old; new = new; given = given }

-- ---- documents that fall

-- the domain's documents that are accepted before and not after, each once, sorted
pub record AreFallen (old new : Meaning) (domain : List ℕ) (documents : List Bundle)
    : Type 0 where
  pub rising : IsStrictlySortedBy document_cmp documents
  pub exactly : (d : Bundle) → (Contains documents d
      ↔ (IsMember old (document_of domain d) × (IsMember new (document_of domain d) → ⊥)))

-- the id in lower-case hexadecimal, and the sequence number
abbrev pub named_document : List ℕ → Bundle → List ℕ
named_document domain d = encode_lower (doc_id_of domain d)
    ++ (codes " sequence " ++ number_or_none d.rank)

abbrev pub fall_line : List ℕ → Bundle → List ℕ
fall_line domain d = codes "falls "
    ++ (domain ++ (codes " document " ++ (named_document domain d ++ codes "\n")))

-- ---- the current document

abbrev pub document_or_none : List ℕ → Option Bundle → List ℕ
document_or_none domain None = codes "none"
document_or_none domain (Some d) = named_document domain d

abbrev pub change_line : List ℕ → Option Bundle → Option Bundle → List ℕ
change_line domain before after = codes "current "
    ++ (domain ++ (codes " before " ++ (document_or_none domain before
    ++ (codes " after " ++ (document_or_none domain after ++ codes "\n")))))

abbrev pub is_same_current : Option Bundle → Option Bundle → Bool
is_same_current None None = true
is_same_current None (Some e) = false
is_same_current (Some d) None = false
is_same_current (Some d) (Some e) = same_text d e

-- ---- its keys

-- the different key ids of the X.509 authorities of a current document, sorted
abbrev pub current_keys : Option Bundle → List KeyId
current_keys None = []
current_keys (Some d) = key_ids d.authorities

-- the keys that are distrusted in the domain
abbrev pub distrusted_keys : List ℕ → List Distrust → List KeyId
distrusted_keys domain records = map (λ x. x.key) (records_of domain records)

abbrev pub same_key : KeyId → KeyId → Bool
same_key one other = bytes_eq one.0 other.0

abbrev pub has_key : List KeyId → KeyId → Bool
has_key keys key = list_any (λ own. same_key own key) keys

abbrev pub key_line_of : List ℕ → List ℕ → KeyId → List ℕ
key_line_of word domain key = word
    ++ (domain ++ (codes " key " ++ (encode_lower key.0 ++ codes "\n")))

-- a line for each of the keys that the others lack
abbrev pub lacking_lines : List ℕ → List ℕ → List KeyId → List KeyId → List ℕ
lacking_lines word domain keys others =
    flat_map (key_line_of word domain) (filter (λ key. not (has_key others key)) keys)

-- a line for each of the keys that is among the distrusted ones
abbrev pub listed_lines : List ℕ → List KeyId → List KeyId → List ℕ
listed_lines domain keys distrusted =
    flat_map (key_line_of (codes "lists ") domain) (filter (has_key distrusted) keys)

-- a line if none of the keys can vouch
abbrev pub locked_out_line : List ℕ → List KeyId → List KeyId → List ℕ
locked_out_line domain keys distrusted =
    cond (list_all (has_key distrusted) keys) (codes "locked-out " ++ (domain ++ codes "\n")) []

-- the keys that the later current document has and the earlier one lacks; the other way; the
-- distrusted ones that the later one lists; and whether none of its keys can vouch
abbrev pub change_of_keys : List ℕ → List KeyId → List KeyId → List KeyId → List ℕ
change_of_keys domain before after distrusted = lacking_lines (codes "gains ") domain after before
    ++ (lacking_lines (codes "loses ") domain before after
    ++ (listed_lines domain after distrusted ++ locked_out_line domain after distrusted))

-- ---- a domain

-- a domain, its current document before and after, and its documents that fall
pub record DomainEffect : Type 0 where
  pub domain : List ℕ
  pub before : Option Bundle
  pub after : Option Bundle
  pub fallen : List Bundle

pub record IsDomainEffect (change : DistrustChange) (e : DomainEffect) : Type 0 where
  pub before : IsCurrent change.old e.domain e.before
  pub after : IsCurrent change.new e.domain e.after
  pub fallen : AreFallen change.old change.new e.domain e.fallen

-- it is that of the keys, or its current document changes
abbrev pub is_concerned : GivenKeys → List ℕ → Option Bundle → Option Bundle → Bool
is_concerned given domain before after =
    bytes_eq given.domain domain || not (is_same_current before after)

abbrev pub current_text : List Distrust → DomainEffect → List ℕ
current_text records e = change_line e.domain e.before e.after
    ++ change_of_keys e.domain (current_keys e.before) (current_keys e.after)
    (distrusted_keys e.domain records)

abbrev pub effect_text : DistrustChange → DomainEffect → List ℕ
effect_text change e = flat_map (fall_line e.domain) e.fallen
    ++ cond (is_concerned change.given e.domain e.before e.after)
    (current_text change.new.records e) []

-- ---- a key that is in no bundle

abbrev pub is_key_of : Option KeyId → KeyId → Bool
is_key_of None key = false
is_key_of (Some own) key = same_key own key

-- an X.509 authority has the key
abbrev pub lists_key : List Authority → KeyId → Bool
lists_key authorities key = list_any (λ a. is_key_of (key_id_of a) key) authorities

-- the document is of the domain and lists the key
abbrev pub is_about : List ℕ → KeyId → Pair → Bool
is_about domain key p = bytes_eq p.domain domain && lists_key p.document.authorities key

-- a configured document, or that of a held receipt, is of the domain and lists the key
abbrev pub is_listed : Meaning → List ℕ → KeyId → Bool
is_listed m domain key = list_any (λ s. is_about domain key (pair_of_seed s)) m.config.seeds
    || list_any (λ r. is_about domain key (pair_of r)) m.held

abbrev pub unknown_key_line : List ℕ → KeyId → List ℕ
unknown_key_line domain key = codes "warning: no bundle of "
    ++ (domain ++ (codes " that is held lists the key " ++ (encode_lower key.0 ++ codes "\n")))

abbrev pub key_warning : Meaning → List ℕ → KeyId → List ℕ
key_warning m domain key = cond (is_listed m domain key) [] (unknown_key_line domain key)

abbrev pub warning_text : Meaning → GivenKeys → List ℕ
warning_text m given = flat_map (key_warning m given.domain) given.keys.items

-- ---- the whole

-- what is so of each domain of the configuration, sorted, and then the warnings, if there are any
pub record IsEffectText (change : DistrustChange) (text : List ℕ) : Type 0 where
  pub effects : List DomainEffect
  pub domains : AreDomains change.old.config (map (λ e. e.domain) effects)
  pub each : (e : DomainEffect) → Contains effects e → IsDomainEffect change e
  pub is : text ≡ flat_map (effect_text change) effects ++ warning_text change.old change.given
