-- What is printed of the keys
use Rattle.std.specs.Prelude.{◌≡◌, ℕ, ℤ, Bool, false, not, cond, List, [], ◌∷◌, ◌++◌, map, flat_map}
use Rattle.std.specs.Prelude.{codes, Option, Some, None, option_map, string_bytes}
use Rattle.std.specs.Str.{bytes_eq}
use Rattle.std.specs.Fmt.{signed_decimal}
use Rattle.hex.specs.Hex.{encode_lower}
use Rattle.json_text.specs.JsonText.{array_member, digest_member, string_member, truth_member}
use Rattle.jwk_set.specs.declared.authority.KeyId.{KeyId}
use Rattle.bundle_doc.specs.declared.document.DocId.{DocId}
use Rattle.receipt_core.specs.Acceptance.{Meaning}
use Rattle.key_view.specs.declared.key_listing.DomainKeys.{DomainKeys}
use Rattle.key_view.specs.declared.known_entry.KeyEntry.{KeyEntry}
use Rattle.key_view.specs.declared.known_entry.KeyParts.{KeyParts}
use Rattle.key_view.specs.declared.keys_writer.KeysForm.{KeysForm}
use Rattle.key_view.specs.declared.keys_writer.KeysForm.TheVariants.{Lines, Json}
use Rattle.key_view.specs.KeyEntries.{AreAllKeys, IsDomainKeys, has_distrusted_key}

-- ---- parts of lines and objects

-- a text after its label
unfoldable pub labelled : List ℕ → List ℕ → List ℕ
labelled label text = label ++ text

-- what ends a line or an object
unfoldable pub closing : List ℕ → List ℕ
closing text = text

-- a number after its label
unfoldable pub key_number : List ℕ → ℤ → List ℕ
key_number label number = label ++ signed_decimal number

abbrev pub yes_or_no : Bool → List ℕ
yes_or_no is = cond is (codes "yes") (codes "no")

-- another domain was chosen
abbrev pub is_of_other : Option (List ℕ) → List ℕ → Bool
is_of_other None domain = false
is_of_other (Some chosen) domain = not (bytes_eq domain chosen)

-- ---- lines

unfoldable pub no_parts_text : List ℕ
no_parts_text = codes " public-key none from none to none"

abbrev pub read_parts_text : KeyParts → List ℕ
read_parts_text p = labelled (codes " public-key ") (encode_lower p.public_key)
    ++ (labelled (codes " from ") (string_bytes p.valid_from)
    ++ labelled (codes " to ") (string_bytes p.valid_until))

abbrev pub parts_text : Option KeyParts → List ℕ
parts_text None = no_parts_text
parts_text (Some p) = read_parts_text p

abbrev pub bundle_words : List DocId → List ℕ
bundle_words ids = flat_map (λ (id : DocId). labelled (codes " ") (encode_lower id.0)) ids

abbrev pub bundles_text : List DocId → List ℕ
bundles_text [] = codes " bundles none"
bundles_text (id ∷ others) = labelled (codes " bundles") [] ++ bundle_words (id ∷ others)

-- a subject as it is, which is not `none` or `empty`: it has a `=` if it is not empty
abbrev pub subject_words : Option (List ℕ) → List ℕ
subject_words None = codes "none"
subject_words (Some []) = codes "empty"
subject_words (Some (b ∷ bytes)) = b ∷ bytes

abbrev pub subject_of : Option KeyParts → Option (List ℕ)
subject_of None = None
subject_of (Some p) = option_map string_bytes p.subject

-- A subject can have spaces, so it ends the line.
unfoldable pub subject_ending : List ℕ → List ℕ
subject_ending words = codes " subject " ++ (words ++ codes "\n")

abbrev pub subject_end : Option (List ℕ) → List ℕ
subject_end subject = subject_ending (subject_words subject)

-- the line of a key among those of its domain
abbrev pub known_key_line : List ℕ → List KeyEntry → KeyEntry → List ℕ
known_key_line domain keys e = labelled (codes "key ") (encode_lower e.key.0)
    ++ (labelled (codes " domain ") domain ++ (parts_text e.parts
    ++ (labelled (codes " distrusted ") (yes_or_no e.is_distrusted)
    ++ (labelled (codes " same-public-key ") (yes_or_no (has_distrusted_key keys e))
    ++ (bundles_text e.bundles.items ++ subject_end (subject_of e.parts))))))

abbrev pub domain_lines : Option (List ℕ) → DomainKeys → List ℕ
domain_lines chosen k = cond (is_of_other chosen k.domain) []
    (flat_map (known_key_line k.domain k.keys.items) k.keys.items)

-- ---- JSON

unfoldable pub no_parts_json : List ℕ
no_parts_json =
    codes ",\"public_key\":null,\"not_before\":null,\"not_after\":null"
    ++ codes ",\"valid_from\":null,\"valid_until\":null,\"subject\":null"

unfoldable pub no_subject_json : List ℕ
no_subject_json = codes ",\"subject\":null"

abbrev pub subject_json : Option (List ℕ) → List ℕ
subject_json None = no_subject_json
subject_json (Some text) = string_member (codes ",\"subject\":") text

abbrev pub texts_json : KeyParts → List ℕ
texts_json p = string_member (codes ",\"valid_from\":") (string_bytes p.valid_from)
    ++ (string_member (codes ",\"valid_until\":") (string_bytes p.valid_until)
    ++ subject_json (option_map string_bytes p.subject))

abbrev pub read_parts_json : KeyParts → List ℕ
read_parts_json p = digest_member (codes ",\"public_key\":") p.public_key
    ++ (key_number (codes ",\"not_before\":") p.not_before
    ++ (key_number (codes ",\"not_after\":") p.not_after ++ texts_json p))

abbrev pub parts_json : Option KeyParts → List ℕ
parts_json None = no_parts_json
parts_json (Some p) = read_parts_json p

abbrev pub quoted_id : DocId → List ℕ
quoted_id id = digest_member [] id.0

abbrev pub known_key_json : List ℕ → List KeyEntry → KeyEntry → List ℕ
known_key_json domain keys e = digest_member (codes "{\"key\":") e.key.0
    ++ (string_member (codes ",\"domain\":") domain ++ (parts_json e.parts
    ++ (truth_member (codes ",\"distrusted\":") e.is_distrusted
    ++ (truth_member (codes ",\"same_public_key\":") (has_distrusted_key keys e)
    ++ (array_member (codes ",\"bundles\":") (map quoted_id e.bundles.items) ++ closing
    (codes "}"))))))

abbrev pub domain_jsons : Option (List ℕ) → DomainKeys → List (List ℕ)
domain_jsons chosen k = cond (is_of_other chosen k.domain) []
    (map (known_key_json k.domain k.keys.items) k.keys.items)

-- an object, and a line feed
abbrev pub keys_json : Option (List ℕ) → List DomainKeys → List ℕ
keys_json chosen all =
    array_member (codes "{\"keys\":") (flat_map (domain_jsons chosen) all) ++ codes "}\n"

-- ---- the whole

abbrev pub keys_in : KeysForm → Option (List ℕ) → List DomainKeys → List ℕ
keys_in Lines chosen all = flat_map (domain_lines chosen) all
keys_in Json chosen all = keys_json chosen all

-- the text of the keys of all domains, or of one
pub record IsKeysText (form : KeysForm) (m : Meaning) (chosen : Option (List ℕ)) (text : List ℕ)
    : Type 0 where
  pub all : List DomainKeys
  pub are : AreAllKeys m all
  pub is : text ≡ keys_in form chosen all

-- ---- the same public key

abbrev pub same_key_line : List ℕ → KeyId → DocId → List ℕ
same_key_line domain key id = labelled (codes "same public key: ") (encode_lower key.0)
    ++ (labelled (codes " of ") domain
    ++ (labelled (codes " in ") (encode_lower id.0) ++ closing (codes "\n")))

abbrev pub same_key_lines : List ℕ → List KeyEntry → KeyEntry → List ℕ
same_key_lines domain keys e =
    cond (has_distrusted_key keys e) (flat_map (same_key_line domain e.key) e.bundles.items) []

abbrev pub same_keys : DomainKeys → List ℕ
same_keys k = flat_map (same_key_lines k.domain k.keys.items) k.keys.items

-- the lines of a domain
pub record IsSameKeysText (m : Meaning) (domain text : List ℕ) : Type 0 where
  pub keys : DomainKeys
  pub of : keys.domain ≡ domain
  pub are : IsDomainKeys m keys
  pub is : text ≡ same_keys keys
