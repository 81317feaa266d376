-- The public keys of distrusted keys
use Rattle.std.specs.Prelude.{◌≡◌, ℕ, Bool, ◌&&◌, ◌||◌, List, Option}
use Rattle.std.specs.Ordering.{nat_cmp}
use Rattle.std.specs.Cmp.Lexicographic.{slice_cmp}
use Rattle.std.specs.BTreeSet.{BTreeSet, contains}
use Rattle.key_view.specs.declared.known_entry.KeyEntry.{KeyEntry}
use Rattle.key_view.specs.declared.known_entry.KeyParts.{KeyParts}
use Rattle.key_view.specs.KeyEntries.{has_public_key, is_one_public_key}

-- the digest is one of the set
abbrev pub has_digest : BTreeSet (List ℕ) → List ℕ → Bool
has_digest digests digest = contains (slice_cmp nat_cmp) digests digest

-- These are the public keys of the distrusted ones among the keys.
pub record HasPublicKeys (entries : List KeyEntry) (public_keys : BTreeSet (List ℕ))
    : Type 0 where
  pub same : (wanted : List ℕ) → has_digest public_keys wanted ≡ has_public_key entries wanted

-- That of the certificate was added, if it is read.
pub record AddsPublicKeyOf (parts : Option KeyParts) (old new : BTreeSet (List ℕ))
    : Type 0 where
  pub same : (wanted : List ℕ) → has_digest new wanted
      ≡ (has_digest old wanted || is_one_public_key parts wanted)

-- That of the key was added, if it is distrusted.
pub record AddsPublicKey (entry : KeyEntry) (old new : BTreeSet (List ℕ)) : Type 0 where
  pub same : (wanted : List ℕ) → has_digest new wanted
      ≡ (has_digest old wanted || (entry.is_distrusted && is_one_public_key entry.parts wanted))
