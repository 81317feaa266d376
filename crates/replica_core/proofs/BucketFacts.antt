-- A bucket is a byte.
use Rattle.std.proofs.Common.{ℕ, zero, suc, ◌<◌, ◌≤◌, List, [], ◌∷◌, ◌++◌, arith}
use Rattle.std.specs.Prelude.{slice_index, slice_index_or}
use Rattle.std.specs.List.{AllByRecursion}
use Rattle.std.specs.Int.{to_be_bytes, w32, bytes_high_first, byte_at}
use Rattle.sha2.specs.Sha256.{sha256, digest_bytes}
use Rattle.receipt_core.specs.Receipt.{Receipt, receipt_id_of}
use Rattle.replica_core.specs.State.{bucket_of_id}

-- each number is a byte
abbrev AreBytes : List ℕ → Type 0
AreBytes = AllByRecursion (λ b. b < 256)

-- A digit of a number in base 256 is a byte.
byte-small : (k n : ℕ) → byte_at k n < 256
byte-small zero n = omega arith
byte-small (suc k) n = omega arith

-- The digits of a number are bytes.
high-bytes : (k n : ℕ) → AreBytes (bytes_high_first k n)
high-bytes zero n = tt
high-bytes (suc k) n = (byte-small k n, high-bytes k n)

-- Bytes after bytes are bytes.
both-bytes : (xs ys : List ℕ) → AreBytes xs → AreBytes ys → AreBytes (xs ++ ys)
both-bytes [] ys a b = b
both-bytes (x ∷ xs) ys a b = (a.0, both-bytes xs ys a.1 b)

-- The numbers of a digest are bytes.
pub digest-bytes : (h : List ℕ) (n : ℕ) → AreBytes (digest_bytes h n)
unfolding digest_bytes
digest-bytes h zero = tt
digest-bytes h (suc n) = both-bytes (digest_bytes h n) (to_be_bytes w32 (slice_index h n)) (digest-bytes h n) (high-bytes 4 (slice_index h n))

-- The first of bytes is at most 255.
first-small : (xs : List ℕ) → AreBytes xs → slice_index_or xs 0 0 ≤ 255
first-small [] a = omega arith
first-small (x ∷ xs) a = omega (arith, a.0)

-- Each receipt's bucket is at most 255, so the 256 haves ask about all receipts.
pub bucket-small : (r : Receipt) → bucket_of_id r ≤ 255
unfolding receipt_id_of sha256
bucket-small r = first-small (receipt_id_of r) (digest-bytes _ 8)
