-- Steps of finding the first request of a stream
use Rattle.std.specs.Prelude.{◌≡◌, ℕ, ◌+◌, ◌<◌, ◌≤◌, List, drop, length, map, string_bytes, take}
use Rattle.request_lines.specs.RequestLines.{SaysWords, request_limit}
use Rattle.request_lines.specs.declared.request_line.InputEnd.{InputEnd}
use Rattle.request_lines.specs.declared.request_line.InputEnd.TheVariants.{Bytes, Stream}
use Rattle.local_answers.specs.RequestStream.{HasFirst, LacksInput, PassesInput}
use Rattle.local_answers.specs.RequestStream.{input_limit}
use Rattle.local_answers.specs.declared.request_fault.RequestFault.{RequestFault}
use Rattle.local_answers.specs.declared.request_fault.RequestFault.TheVariants.{InputTooLong}
use Rattle.local_answers.specs.declared.request_fault.RequestFault.TheVariants.{NoWords}
use Rattle.local_answers.specs.declared.request_fault.RequestFault.TheVariants.{WordsTooLong}
use Rattle.local_answers.specs.declared.request_parts.FirstPlaces.{FirstPlaces}
use Rattle.local_answers.specs.declared.request_parts.StreamState.{StreamState}
use Rattle.local_answers.specs.declared.request_parts.StreamState.TheVariants.{Ended, Open}

-- The arguments of the first request, and its places in the bytes.
pub record IsAtPlaces (state : StreamState) (bytes : List ℕ) (places : FirstPlaces) : Type 0 where
  pub line : List ℕ
  pub words : List ℕ
  pub end : InputEnd
  pub first : HasFirst state bytes (record {
    line = line;
    words = words;
    end = end;
    input = take places.count (drop places.start bytes);
    rest = drop places.count (drop places.start bytes);
  })
  pub says : SaysWords words (map string_bytes places.words.items)
  pub within : places.start + places.count ≤ length bytes

-- without a first line
abbrev pub AwaitsLine : StreamState → (count : ℕ) → Type 0
AwaitsLine Open count = count ≤ request_limit
AwaitsLine Ended count = ⊥

abbrev pub RefusesCountOf : StreamState → (count : ℕ) → RequestFault → Type 0
RefusesCountOf state count WordsTooLong = request_limit < count
RefusesCountOf Ended count NoWords = count ≤ request_limit
RefusesCountOf state count fault = ⊥

-- This many of the bytes after the line are the input, and it is whole.
abbrev pub HasInput : StreamState → InputEnd → (came count : ℕ) → Type 0
HasInput state (Bytes n) came count = (count ≡ n) × (count ≤ came) × (count ≤ input_limit)
HasInput Ended Stream came count = (count ≡ came) × (count ≤ input_limit)
HasInput Open Stream came count = ⊥

abbrev pub AwaitsInput : StreamState → InputEnd → (came : ℕ) → Type 0
AwaitsInput Open end came = LacksInput Open end came
AwaitsInput Ended end came = ⊥

abbrev pub RefusesLength : StreamState → InputEnd → (came : ℕ) → RequestFault → Type 0
RefusesLength state end came InputTooLong = PassesInput end came
RefusesLength Ended end came NoWords = LacksInput Ended end came
RefusesLength state end came fault = ⊥
