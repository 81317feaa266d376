-- First and last lines of snapshots and texts of messages, said of the definitions: a slip in one
-- of these does not check.
use Rattle.std.proofs.Common.{◌≡◌, [], ◌∷◌, Some, None, codes, refl}
use Rattle.std.specs.Fmt.{digits}
use Rattle.hex.specs.Hex.{encode_with}
use Rattle.replica_core.specs.Session.{HaveMessage}
use Rattle.replica_texts.specs.declared.format.Format.TheVariants.{First, Second}
use Rattle.replica_texts.specs.Snapshots.{header_of, count_of}
use Rattle.replica_texts.specs.Messages.{any_have_text, give_header_text, have_text, give_text}

-- ---- snapshots

-- A first line has the digest and the format.
pub first_line : header_of (codes "12ab") (codes "2") ≡ codes "{\"config\":\"12ab\",\"format\":2}"
unfolding header_of
first_line = refl

-- the second format counts receipts, then records
pub last_line : count_of Second 2 1 ≡ codes "{\"count\":2,\"distrusts\":1}"
unfolding count_of digits
last_line = refl

-- the first format has no records
pub last_line_without_records : count_of First 2 0 ≡ codes "{\"count\":2}"
unfolding count_of digits
last_line_without_records = refl

-- ---- haves

-- a have that names no ids
abbrev have_of_nothing : HaveMessage
have_of_nothing = record { bucket = 0; config = 18 ∷ 171 ∷ []; ids = [] }

-- a have that names two ids
abbrev names_two : HaveMessage
names_two = record { bucket = 97; config = 18 ∷ 171 ∷ []; ids = (1 ∷ 35 ∷ []) ∷ (255 ∷ 0 ∷ []) ∷ [] }

-- one line, with its line feed
pub have_without_ids : have_text have_of_nothing ≡ codes "{\"bucket\":0,\"config\":\"12ab\",\"format\":2,\"have\":[],\"of\":256}\n"
unfolding any_have_text digits encode_with
have_without_ids = refl

-- ids in quotes, a comma between them
pub have_with_ids : have_text names_two ≡ codes "{\"bucket\":97,\"config\":\"12ab\",\"format\":2,\"have\":[\"0123\",\"ff00\"],\"of\":256}\n"
unfolding any_have_text digits encode_with
have_with_ids = refl

-- Another format, and another number of buckets, make another line.
pub have_of_one_bucket : any_have_text (record { have = have_of_nothing; format = 1; buckets = 1 })
    ≡ codes "{\"bucket\":0,\"config\":\"12ab\",\"format\":1,\"have\":[],\"of\":1}"
unfolding any_have_text digits encode_with
have_of_one_bucket = refl

-- ---- answers

-- an answer with nothing to give is its first line
pub empty_give : give_text (record { bucket = 255; config = 18 ∷ 171 ∷ []; content = record { held = []; records = [] } })
    ≡ codes "{\"bucket\":255,\"config\":\"12ab\",\"count\":0,\"distrusts\":0,\"format\":2,\"of\":256}\n"
unfolding give_header_text digits encode_with
empty_give = refl

-- receipts are counted before records
pub first_line_of_a_give : give_header_text (record { bucket = 97; config = 18 ∷ 171 ∷ []; count = 2; distrusts = Some 1; format = 2; buckets = 256 })
    ≡ codes "{\"bucket\":97,\"config\":\"12ab\",\"count\":2,\"distrusts\":1,\"format\":2,\"of\":256}"
unfolding give_header_text digits encode_with
first_line_of_a_give = refl

-- The first format has no number of records.
pub first_line_without_records : give_header_text (record { bucket = 0; config = 18 ∷ 171 ∷ []; count = 2; distrusts = None; format = 1; buckets = 1 })
    ≡ codes "{\"bucket\":0,\"config\":\"12ab\",\"count\":2,\"format\":1,\"of\":1}"
unfolding give_header_text digits encode_with
first_line_without_records = refl
