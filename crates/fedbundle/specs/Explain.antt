-- What a run of `explain` does.
use Rattle.std.specs.Prelude.{ℕ, ◌++◌, ◌⊎◌, List, [], ◌∷◌, flat_map, reverse, Bool, true, false}
use Rattle.std.specs.Prelude.{Result, Ok, Err, codes}
use Rattle.hex.specs.Hex.{encode_lower}
use Rattle.bundle_doc.specs.Bundle.{Bundle, doc_id_of}
use Rattle.receipt_core.specs.Acceptance.{Meaning, IsMember}
use Rattle.receipt_core.specs.Receipt.{Receipt, Pair, line}
use Rattle.closure_core.specs.AcceptedList.{document_of}
use Rattle.bundle_view.specs.Explain.{IsShortest}
use Rattle.json_reports.specs.ChainJson.{chain_json, root_id}
use Rattle.fedbundle.specs.CommandRun.{CommandRun, ReadsDocument, RefusesDocument}
use Rattle.command_exits.specs.DeviceRuns.{DeviceRun}
use Rattle.fedbundle.specs.CommandRun.{PrintsText, WritesNothing, CutsOff, FailsToRead}
use Rattle.text_lines.specs.TextLines.{number_or_none}
use Rattle.command_line.specs.declared.option_texts.ExplanationForm.{ExplanationForm}
use Rattle.command_line.specs.declared.option_texts.ExplanationForm.TheVariants.{Receipts, Steps}
use Rattle.command_line.specs.declared.option_texts.ExplanationForm.TheVariants.{Json}
use Rattle.command_exits.specs.declared.error.CommandError.{CommandError}
use Rattle.command_exits.specs.declared.error.CommandError.TheVariants.{Document, NoMemory, Io}

-- ---- the text

abbrev pub receipt_line : Receipt → List ℕ
receipt_line r = line r ++ 10 ∷ []

abbrev pub chain_text : List Receipt → List ℕ
chain_text chain = flat_map receipt_line chain

-- the document that a receipt brought
abbrev pub brought_part : Receipt → List ℕ
brought_part r = encode_lower (doc_id_of r.domain r.document)
    ++ (codes " sequence " ++ number_or_none r.document.rank)

-- and the key of which document vouched for it
abbrev pub vouched_part : Receipt → List ℕ
vouched_part r = codes " <- key "
    ++ (encode_lower r.key.0 ++ (codes " of " ++ (encode_lower r.voucher.0 ++ codes "\n")))

-- a step back
abbrev pub step_line : Receipt → List ℕ
step_line r = brought_part r ++ vouched_part r

abbrev pub root_line : List ℕ → List ℕ
root_line id = encode_lower id ++ (codes " configured" ++ codes "\n")

-- the steps from the document back to the configured one
abbrev pub steps_text : Pair → List Receipt → List ℕ
steps_text p chain = flat_map step_line (reverse chain) ++ root_line (root_id p chain)

abbrev pub explanation_text : ExplanationForm → Pair → List Receipt → List ℕ
explanation_text Receipts p chain = chain_text chain
explanation_text Steps p chain = steps_text p chain
explanation_text Json p chain = chain_json p chain

-- of which domain a document is explained, and how that is written
pub record ExplanationCall : Type 0 where
  pub domain : List ℕ
  pub form : ExplanationForm

abbrev pub explanation_call : List ℕ → ExplanationForm → ExplanationCall
explanation_call domain form = record { domain = domain; form = form }

-- ---- a run

-- The text of a shortest chain to the document was written and nothing else; or it is not accepted,
-- and nothing was written.
abbrev pub PrintsChain : DeviceRun → Meaning → ExplanationForm → Pair → Bool → Type 0
PrintsChain sink m form p true = (chain : List Receipt) × IsShortest m p chain
    × PrintsText sink (explanation_text form p chain)
PrintsChain sink m form p false = (IsMember m p → ⊥) × WritesNothing sink

-- The bytes read are a document, and that was done for it.
pub record PrintsExplanation (run : CommandRun) (m : Meaning) (call : ExplanationCall)
    (accepted : Bool) : Type 0 where
  pub document : Bundle
  pub read : ReadsDocument run.source document
  pub prints : PrintsChain run.sink m call.form (document_of call.domain document) accepted

-- The bytes read are a document that is accepted, and the sink failed after a beginning of the
-- text.
pub record CutsExplanation (run : CommandRun) (m : Meaning) (call : ExplanationCall)
    : Type 0 where
  pub document : Bundle
  pub read : ReadsDocument run.source document
  pub chain : List Receipt
  pub shortest : IsShortest m (document_of call.domain document) chain
  pub cut : CutsOff run.sink (explanation_text call.form (document_of call.domain document) chain)

-- By the answer: the bytes read are a document, and why it is accepted was written, or nothing
-- if it is not; the source failed before anything was written, or the sink failed; memory ran
-- out before anything was written; the bytes are not a document. There is no other error.
abbrev pub RunsExplain : CommandRun → Meaning → ExplanationCall → Result Bool CommandError
    → Type 0
RunsExplain run m call (Ok accepted) = PrintsExplanation run m call accepted
RunsExplain run m call (Err Io) = FailsToRead run ⊎ CutsExplanation run m call
RunsExplain run m call (Err NoMemory) = WritesNothing run.sink
RunsExplain run m call (Err (Document why)) = RefusesDocument run why
RunsExplain run m call (Err _) = ⊥
