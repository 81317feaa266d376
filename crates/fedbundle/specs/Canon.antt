-- What a run of `canon` does.
use Rattle.std.specs.Prelude.{ℕ, ◌++◌, ◌⊎◌, List, [], ◌∷◌, codes, Option, Some, None}
use Rattle.std.specs.Prelude.{Result, Ok, Err}
use Rattle.hex.specs.Hex.{encode_lower}
use Rattle.jwk_set.specs.declared.authority.Authority.{Authority}
use Rattle.jwk_set.specs.declared.authority.KeyId.{KeyId}
use Rattle.jwk_set.specs.Element.{key_id_of}
use Rattle.bundle_doc.specs.Bundle.{Bundle, IsDocument, canonical_text, doc_id_of}
use Rattle.bundle_doc.specs.Refusal.{RefusesBytes}
use Rattle.fedbundle.specs.CommandRun.{CommandRun, ReadsDocument, RefusesDocument}
use Rattle.command_exits.specs.DeviceRuns.{DeviceRun}
use Rattle.fedbundle.specs.CommandRun.{PrintsText}
use Rattle.fedbundle.specs.CommandRun.{WritesNothing, CutsOff, FailsToRead}
use Rattle.json_reports.specs.DocumentJson.{document_json}
use Rattle.command_line.specs.declared.option_texts.OutputForm.{OutputForm}
use Rattle.command_line.specs.declared.option_texts.OutputForm.TheVariants.{Text, Json}
use Rattle.command_exits.specs.declared.error.CommandError.{CommandError}
use Rattle.command_exits.specs.declared.error.CommandError.TheVariants.{Document, NoMemory, Io}

-- ---- the text

-- a label, a digest in lower-case hexadecimal, and a line feed
abbrev pub digest_line : List ℕ → List ℕ → List ℕ
digest_line label digest = label ++ (encode_lower digest ++ 10 ∷ [])

abbrev pub key_line : Option KeyId → List ℕ
key_line None = []
key_line (Some key) = digest_line (codes "key ") key.0

-- a line for each X.509 authority
abbrev pub key_lines : List Authority → List ℕ
key_lines [] = []
key_lines (a ∷ others) = key_line (key_id_of a) ++ key_lines others

-- the canonical text, the id and the id of each X.509 authority in order, each on a line of its own
abbrev pub canon_text : List ℕ → Bundle → List ℕ
canon_text domain b = canonical_text b
    ++ (10 ∷ [] ++ (digest_line (codes "id ") (doc_id_of domain b) ++ key_lines b.authorities))

-- that, or the same as JSON
abbrev pub canon_in : OutputForm → List ℕ → Bundle → List ℕ
canon_in Text domain b = canon_text domain b
canon_in Json domain b = document_json domain b

-- ---- a run

-- The bytes read are a document, and its text was written and nothing else.
pub record PrintsCanon (run : CommandRun) (domain : List ℕ) (form : OutputForm) : Type 0 where
  pub document : Bundle
  pub read : ReadsDocument run.source document
  pub written : PrintsText run.sink (canon_in form domain document)

-- The bytes read are a document, and the sink failed after a beginning of its text.
pub record CutsCanon (run : CommandRun) (domain : List ℕ) (form : OutputForm) : Type 0 where
  pub document : Bundle
  pub read : ReadsDocument run.source document
  pub cut : CutsOff run.sink (canon_in form domain document)

-- By the answer: the text of the document was written; the source failed before anything was
-- written, or the sink failed; memory ran out before anything was written; the bytes are not
-- a document. There is no other error.
abbrev pub RunsCanon : CommandRun → List ℕ → OutputForm → Result (Unit {0}) CommandError → Type 0
RunsCanon run domain form (Ok _) = PrintsCanon run domain form
RunsCanon run domain form (Err Io) = FailsToRead run ⊎ CutsCanon run domain form
RunsCanon run domain form (Err NoMemory) = WritesNothing run.sink
RunsCanon run domain form (Err (Document why)) = RefusesDocument run why
RunsCanon run domain form (Err _) = ⊥

-- of which domain a document is, and how it is written
pub record CanonCall : Type 0 where
  pub domain : List ℕ
  pub form : OutputForm

abbrev pub canon_call : List ℕ → OutputForm → CanonCall
canon_call domain form = record { domain = domain; form = form }

-- The same for bytes that were read already: by the answer, the text of the document was written;
-- the sink failed; nothing was written, as memory ran out or the bytes are not a document.
abbrev pub RunsCanonOn : List ℕ → DeviceRun → CanonCall → Result (Unit {0}) CommandError → Type 0
RunsCanonOn bytes sink call (Ok _) = (document : Bundle) × IsDocument bytes document
    × PrintsText sink (canon_in call.form call.domain document)
RunsCanonOn bytes sink call (Err Io) = (document : Bundle) × IsDocument bytes document
    × CutsOff sink (canon_in call.form call.domain document)
RunsCanonOn bytes sink call (Err NoMemory) = WritesNothing sink
RunsCanonOn bytes sink call (Err (Document why)) = RefusesBytes bytes why
    × WritesNothing sink
RunsCanonOn bytes sink call (Err _) = ⊥
