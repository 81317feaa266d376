-- Which document vouches for which, as a graph in Graphviz's language DOT. A node has a document's
-- id. If several lines speak of one node, a later one adds to the earlier ones, and replaces what
-- they say of the same attribute.
use Rattle.std.specs.Prelude.{◌≡◌, ℕ, List, [], ◌∷◌, ◌++◌, take, codes, Option, Some, None}
use Rattle.std.specs.Prelude.{Contains}
use Rattle.std.specs.Prelude.{true}
use Rattle.hex.specs.Hex.{encode_lower}
use Rattle.bundle_doc.specs.Bundle.{Bundle, doc_id_of}
use Rattle.fed_config.specs.Configuration.{AreDomains}
use Rattle.fed_config.specs.declared.seed.Seed.{Seed}
use Rattle.receipt_core.specs.Receipt.{Receipt}
use Rattle.receipt_core.specs.Acceptance.{Meaning}
use Rattle.text_lines.specs.TextLines.{joined_lines, number_or_none}
use Rattle.bundle_view.specs.Current.{IsCurrent}
use Rattle.replica_view.specs.HeldLines.{IsStatusOf}
use Rattle.replica_view.specs.HeldTexts.{AreLinesFor, IsReceiptOfOther, is_left_aside}
use Rattle.replica_view.specs.declared.receipt_status.ReceiptStatus.{ReceiptStatus}
use Rattle.replica_view.specs.declared.receipt_status.ReceiptStatus.TheVariants.{Accepted, Pending}
use Rattle.replica_view.specs.declared.receipt_status.ReceiptStatus.TheVariants.{Distrusted}

-- ---- parts of a line

-- an id between quotation marks
abbrev pub node_text : List ℕ → List ℕ
node_text id = codes "\"" ++ (encode_lower id ++ codes "\"")

-- the first eight digits of an id
abbrev pub short_text : List ℕ → List ℕ
short_text id = encode_lower (take 4 id)

-- a label of a domain and a short id
abbrev pub unseen_label : (domain id : List ℕ) → List ℕ
unseen_label domain id = codes " [label=\"" ++ (domain ++ (codes "\\n" ++ short_text id))

abbrev pub label_start : List ℕ → List ℕ
label_start domain = codes " [label=\"" ++ domain

abbrev pub sequence_label : List ℕ → Bundle → List ℕ
sequence_label domain d = codes "\\nsequence " ++ (number_or_none d.rank
    ++ (codes "\\n" ++ short_text (doc_id_of domain d)))

-- a label of a domain, a sequence number and a short id
abbrev pub seen_label : List ℕ → Bundle → List ℕ
seen_label domain d = label_start domain ++ sequence_label domain d

-- ---- lines

-- the document that vouches for a receipt, of which the receipt says only its id
abbrev pub voucher_line : Receipt → List ℕ
voucher_line r = node_text r.voucher.0
    ++ (unseen_label r.endpoint.domain r.voucher.0 ++ codes "\"];")

-- the document that a receipt brought
abbrev pub brought_line : Receipt → List ℕ
brought_line r = node_text (doc_id_of r.domain r.document)
    ++ (seen_label r.domain r.document ++ codes "\"];")

-- a configured document
abbrev pub configured_line : Seed → List ℕ
configured_line s = node_text (doc_id_of s.domain s.document)
    ++ (seen_label s.domain s.document ++ codes "\", peripheries=2];")

-- a comment if a domain has no current document, and else that document
abbrev pub no_current_line : List ℕ → List ℕ
no_current_line domain = codes "// no current document of " ++ domain

abbrev pub graph_current_line : List ℕ → Option Bundle → List ℕ
graph_current_line domain None = no_current_line domain
graph_current_line domain (Some d) = node_text (doc_id_of domain d) ++ codes " [style=bold];"

abbrev pub status_style : ReceiptStatus → List ℕ
status_style Accepted = codes "\"];"
status_style Pending = codes "\", style=dashed];"
status_style Distrusted = codes "\", color=red];"

abbrev pub edge_label : Receipt → ReceiptStatus → List ℕ
edge_label r status = codes " [label=\"" ++ (short_text r.key.0 ++ status_style status)

-- from the document that vouches for it to the one that it brought, and by which key
abbrev pub edge_line : Receipt → ReceiptStatus → List ℕ
edge_line r status = node_text r.voucher.0 ++ (codes " -> "
    ++ (node_text (doc_id_of r.domain r.document) ++ edge_label r status))

abbrev pub ShowsVoucher : Receipt → List ℕ → Type 0
ShowsVoucher r line = line ≡ voucher_line r

abbrev pub ShowsBrought : Receipt → List ℕ → Type 0
ShowsBrought r line = line ≡ brought_line r

abbrev pub ShowsConfigured : Seed → List ℕ → Type 0
ShowsConfigured s line = line ≡ configured_line s

pub record ShowsCurrent (m : Meaning) (domain line : List ℕ) : Type 0 where
  pub current : Option Bundle
  pub is_current : IsCurrent m domain current
  pub is : line ≡ graph_current_line domain current

pub record ShowsEdge (m : Meaning) (r : Receipt) (line : List ℕ) : Type 0 where
  pub status : ReceiptStatus
  pub is_status : IsStatusOf m r status
  pub is : line ≡ edge_line r status

-- ---- what is shown of other domains

-- A receipt that is shown names the document with this id as the one that vouches for it.
pub record IsShownVoucher (m : Meaning) (chosen : Option (List ℕ)) (id : List ℕ) : Type 0 where
  pub receipt : Receipt
  pub held : Contains m.held receipt
  pub shown : IsReceiptOfOther chosen receipt → ⊥
  pub is : receipt.voucher.0 ≡ id

-- The document is of another domain than the chosen one, and vouches for no receipt that is shown.
pub record IsPassedDocument (m : Meaning) (chosen : Option (List ℕ)) (domain : List ℕ)
    (d : Bundle) : Type 0 where
  pub other : is_left_aside chosen domain ≡ true
  pub unnamed : IsShownVoucher m chosen (doc_id_of domain d) → ⊥

abbrev pub IsPassedReceipt : Meaning → Option (List ℕ) → Receipt → Type 0
IsPassedReceipt m chosen r = IsPassedDocument m chosen r.domain r.document

abbrev pub IsPassedSeed : Meaning → Option (List ℕ) → Seed → Type 0
IsPassedSeed m chosen s = IsPassedDocument m chosen s.domain s.document

-- It is another domain than the chosen one, and its current document, if there is one, vouches for
-- no receipt that is shown.
pub record IsPassedDomain (m : Meaning) (chosen : Option (List ℕ)) (domain : List ℕ)
    : Type 0 where
  pub other : is_left_aside chosen domain ≡ true
  pub unnamed : (d : Bundle) → IsCurrent m domain (Some d)
      → IsShownVoucher m chosen (doc_id_of domain d) → ⊥

-- ---- the whole

-- All receipts, the documents that vouch for them and that they brought, the configured documents
-- and the current ones. With a domain: the receipts that brought a document of it; and of the
-- documents that are of it or vouch for one of these receipts, which a held receipt brought, which
-- are configured and which are current.
pub record AreGraphLines (m : Meaning) (chosen : Option (List ℕ))
    (lines : List (List ℕ)) : Type 0 where
  pub vouchers : List (List ℕ)
  pub each_voucher : AreLinesFor (IsReceiptOfOther chosen) ShowsVoucher m.held vouchers
  pub brought : List (List ℕ)
  pub each_brought : AreLinesFor (IsPassedReceipt m chosen) ShowsBrought m.held brought
  pub configured : List (List ℕ)
  pub each_configured : AreLinesFor (IsPassedSeed m chosen) ShowsConfigured m.config.seeds
      configured
  pub domains : List (List ℕ)
  pub are_domains : AreDomains m.config domains
  pub currents : List (List ℕ)
  pub each_current : AreLinesFor (IsPassedDomain m chosen) (ShowsCurrent m) domains currents
  pub edges : List (List ℕ)
  pub each_edge : AreLinesFor (IsReceiptOfOther chosen) (ShowsEdge m) m.held edges
  pub are : lines ≡ vouchers ++ (brought ++ (configured ++ (currents ++ edges)))

abbrev pub graph_head : List (List ℕ)
graph_head = codes "digraph trust {" ∷ codes "node [shape=box];" ∷ []

-- the text of these lines, between those that open and close the graph
pub record IsGraphText (m : Meaning) (chosen : Option (List ℕ)) (text : List ℕ) : Type 0 where
  pub lines : List (List ℕ)
  pub are : AreGraphLines m chosen lines
  pub is : text ≡ joined_lines (graph_head ++ (lines ++ codes "}" ∷ []))
