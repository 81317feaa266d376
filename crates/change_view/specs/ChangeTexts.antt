-- A change as the line of an event, and as a line of the audit file
use Rattle.std.specs.Prelude.{ℕ, List, ◌++◌, codes, decimal, string_bytes, Bool, true, false}
use Rattle.std.specs.Prelude.{Some}
use Rattle.jwk_set.specs.declared.authority.KeyId.{KeyId}
use Rattle.hex.specs.Hex.{encode_lower}
use Rattle.text_lines.specs.TextLines.{number_or_none}
use Rattle.json_text.specs.JsonText.{digest_member, number_member, parted_texts, string_member}
use Rattle.json_text.specs.JsonText.{truth_member}
use Rattle.change_view.specs.declared.held_change.DistrustedKeys.{DistrustedKeys}
use Rattle.change_view.specs.declared.held_change.HeldChange.{HeldChange}
use Rattle.change_view.specs.declared.held_change.HeldChange.TheVariants.{Observe, Distrust, Merge}
use Rattle.change_view.specs.declared.held_change.HeldChange.TheVariants.{Pull}
use Rattle.change_view.specs.declared.held_change.NewEntries.{NewEntries}
use Rattle.change_view.specs.declared.held_change.ObservedBundle.{ObservedBundle}

-- ---- the line of an event, without a line feed

abbrev pub current_word : Bool → List ℕ
current_word true = codes "yes"
current_word false = codes "no"

-- which document it is
unfoldable pub document_pairs : ObservedBundle → List ℕ
document_pairs o = o.domain
    ++ (codes " document="
    ++ (encode_lower o.document.0 ++ (codes " sequence=" ++ number_or_none o.sequence)))

-- by what it was taken
unfoldable pub voucher_pairs : ObservedBundle → List ℕ
voucher_pairs o = codes " key="
    ++ (encode_lower o.key.0
    ++ (codes " voucher="
    ++ (encode_lower o.voucher.0 ++ (codes " current=" ++ current_word o.is_current))))

abbrev pub observe_event : ObservedBundle → List ℕ
observe_event o = codes "event=observe domain=" ++ (document_pairs o ++ voucher_pairs o)

abbrev pub key_digits : KeyId → List ℕ
key_digits key = encode_lower key.0

-- all keys in their order, with a comma between two
abbrev pub key_list : List KeyId → List ℕ
key_list keys = parted_texts key_digits false keys

-- which keys they are, and what they did
unfoldable pub distrust_pairs : DistrustedKeys → List ℕ
distrust_pairs k = k.domain
    ++ (codes " key=" ++ (key_list k.keys.items ++ (codes " fell=" ++ decimal k.fell)))

abbrev pub distrust_event : DistrustedKeys → List ℕ
distrust_event k = codes "event=distrust domain=" ++ distrust_pairs k

unfoldable pub new_entries : NewEntries → List ℕ
new_entries n = codes " new=" ++ (decimal n.receipts ++ (codes " records=" ++ decimal n.records))

abbrev pub event_text : HeldChange → List ℕ
event_text (Observe o) = observe_event o
event_text (Distrust k) = distrust_event k
event_text (Merge n) = codes "event=merge" ++ new_entries n
event_text (Pull peer n) = codes "event=pull peer=" ++ (string_bytes peer ++ new_entries n)

-- ---- members of a line of the audit file, each after its comma

abbrev pub document_members : ObservedBundle → List ℕ
document_members o = string_member (codes ",\"event\":\"observe\",\"domain\":") o.domain
    ++ (digest_member (codes ",\"document\":") o.document.0
    ++ number_member (codes ",\"sequence\":") o.sequence)

unfoldable pub voucher_members : ObservedBundle → List ℕ
voucher_members o = digest_member (codes ",\"key\":") o.key.0
    ++ (digest_member (codes ",\"voucher\":") o.voucher.0
    ++ truth_member (codes ",\"current\":") o.is_current)

abbrev pub observe_members : ObservedBundle → List ℕ
observe_members o = document_members o ++ voucher_members o

-- one string, whatever the number of keys
unfoldable pub keys_member : List KeyId → List ℕ
keys_member keys = codes ",\"key\":\"" ++ (key_list keys ++ codes "\"")

abbrev pub distrust_members : DistrustedKeys → List ℕ
distrust_members k = string_member (codes ",\"event\":\"distrust\",\"domain\":") k.domain
    ++ (keys_member k.keys.items ++ number_member (codes ",\"fell\":") (Some k.fell))

unfoldable pub new_members : NewEntries → List ℕ
new_members n = number_member (codes ",\"new\":") (Some n.receipts)
    ++ number_member (codes ",\"records\":") (Some n.records)

abbrev pub change_members : HeldChange → List ℕ
change_members (Observe o) = observe_members o
change_members (Distrust k) = distrust_members k
change_members (Merge n) = codes ",\"event\":\"merge\"" ++ new_members n
change_members (Pull peer n) = string_member (codes ",\"event\":\"pull\",\"peer\":")
    (string_bytes peer) ++ new_members n

-- ---- whole lines of the audit file

-- The time comes first, and last the SHA-256 of the last line of the change in the journal.
abbrev pub audit_line : ℕ → HeldChange → List ℕ → List ℕ
audit_line moment change last = codes "{\"at\":"
    ++ (decimal moment
    ++ (change_members change ++ (digest_member (codes ",\"last\":") last ++ codes "}\n")))

-- what is held when a replica starts
unfoldable pub held_members : NewEntries → List ℕ
held_members held = number_member (codes ",\"event\":\"start\",\"receipts\":") (Some held.receipts)
    ++ number_member (codes ",\"distrusts\":") (Some held.records)

abbrev pub start_line : ℕ → NewEntries → List ℕ
start_line moment held =
    codes "{\"at\":" ++ (decimal moment ++ (held_members held ++ codes "}\n"))
