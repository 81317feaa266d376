-- What a clause reads of the parts of requests, and of a whole one.
use Rattle.std.specs.Prelude.{ℕ, List, drop, map, string_bytes}
use Rattle.local_answers.specs.RequestStream.{Asking}
use Rattle.local_answers.specs.declared.request_parts.RequestParts.{RequestParts}
use Rattle.local_answers.specs.declared.request_parts.WholeRequest.{WholeRequest}

-- all bytes that came and were not given yet, joined
abbrev pub bytes_come : RequestParts → List ℕ
bytes_come parts = parts.bytes.items

abbrev pub asked_input : WholeRequest → List ℕ
asked_input request = drop request.start request.bytes.items

abbrev pub asking_of : WholeRequest → Asking
asking_of request = record {
  words = map string_bytes request.words.items;
  input = asked_input request;
}
