-- The texts of haves and answers: JSON without spaces, its members in the order of their names.
use Rattle.std.specs.Prelude.{ℕ, List, [], ◌++◌, length, flat_map, codes, decimal, Option, Some}
use Rattle.std.specs.Prelude.{None, Result, MatchResult}
use Rattle.std.specs.Io.KnownBytes.{Appends}
use Rattle.std.specs.List.{join_by}
use Rattle.hex.specs.Hex.{encode_lower}
use Rattle.receipt_core.specs.declared.distrust.Distrust.{Distrust}
use Rattle.receipt_core.specs.Receipt.{Receipt, line, distrust_line}
use Rattle.byte_lines.specs.Device.{AppendsBeginning}
use Rattle.replica_core.specs.Session.{HaveMessage, GiveMessage}
use Rattle.replica_texts.specs.Snapshots.{ended}

abbrev pub quoted : List ℕ → List ℕ
quoted id = codes "\"" ++ (encode_lower id ++ codes "\"")

-- what the line of a have says, of whatever format and number of buckets
pub record AnyHave : Type 0 where
  pub have : HaveMessage
  pub format : ℕ
  pub buckets : ℕ

unfoldable pub any_have_text : AnyHave → List ℕ
any_have_text a =
    codes "{\"bucket\":" ++
    (decimal a.have.bucket
    ++ (codes ",\"config\":\""
    ++ (encode_lower a.have.config ++ (codes "\",\"format\":" ++ (decimal a.format
    ++ (codes ",\"have\":["
    ++ (join_by quoted (codes ",") a.have.ids
    ++ (codes "],\"of\":" ++ (decimal a.buckets ++ codes "}")))))))))

-- what the first line of an answer says, for any format and number of buckets; only in the first
-- format it has no number of records
pub record GiveHeader : Type 0 where
  pub bucket : ℕ
  pub config : List ℕ
  pub count : ℕ
  pub distrusts : Option ℕ
  pub format : ℕ
  pub buckets : ℕ

abbrev pub distrusts_part : Option ℕ → List ℕ
distrusts_part None = []
distrusts_part (Some n) = codes ",\"distrusts\":" ++ decimal n

unfoldable pub give_header_text : GiveHeader → List ℕ
give_header_text t =
    codes "{\"bucket\":" ++
    (decimal t.bucket ++ (codes ",\"config\":\""
    ++ (encode_lower t.config ++ (codes "\",\"count\":" ++ (decimal t.count
    ++ (distrusts_part t.distrusts
    ++ (codes ",\"format\":"
    ++ (decimal t.format ++ (codes ",\"of\":" ++ (decimal t.buckets ++ codes "}"))))))))))

abbrev pub as_any_have : HaveMessage → AnyHave
as_any_have q = record { have = q; format = 2; buckets = 256 }

-- the have's one line, of format 2 with 256 buckets
abbrev pub have_text : HaveMessage → List ℕ
have_text q = ended (any_have_text (as_any_have q))

abbrev pub give_header_of : GiveMessage → GiveHeader
give_header_of r = record {
  bucket = r.bucket;
  config = r.config;
  count = length r.content.held;
  distrusts = Some (length r.content.records);
  format = 2;
  buckets = 256;
}

abbrev pub record_text : Distrust → List ℕ
record_text x = ended (distrust_line x)

abbrev pub receipt_text : Receipt → List ℕ
receipt_text r = ended (line r)

-- the answer: its first line, a line for each record, and a line for each receipt
abbrev pub give_text : GiveMessage → List ℕ
give_text r = ended (give_header_text (give_header_of r))
    ++ (flat_map record_text r.content.records ++ flat_map receipt_text r.content.held)

-- exactly the text was written; at an error a beginning of it
abbrev pub WritesText : {E : Type 0} → Option (List ℕ) → Option (List ℕ) → Result (Unit {0}) E
    → List ℕ → Type 0
WritesText old new result text = MatchResult result (λ done. Appends old new text)
    (λ why. AppendsBeginning old new text)
