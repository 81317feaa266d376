-- Certificates (RFC 5280, section 4.1), as far as they are read
use Rattle.std.specs.Prelude.{◌≡◌, ℕ, ◌^◌, ◌<◌, List, [], ◌++◌, length, Option, Some, None, ℤ}
use Rattle.cert_key.specs.declared.certificate.CertParts.{CertParts}
use Rattle.cert_key.specs.Der.{element}
use Rattle.cert_key.specs.Moment.{Time, IsTime, moment_of, time, unix_seconds}

-- the contents of its fields, and the bytes that are not read
pub record Certificate : Type 0 where
  pub version : Option (List ℕ)
  pub serial_number : List ℕ
  pub signature : List ℕ
  pub issuer : List ℕ
  pub not_before : Time
  pub not_after : Time
  pub subject : List ℕ
  pub public_key : List ℕ
  -- after the public key: unique identifiers and extensions
  pub extensions : List ℕ
  -- after tbsCertificate: the signature over it
  pub signed : List ℕ

-- [0], which a certificate of version 1 leaves out
abbrev pub version_field : Option (List ℕ) → List ℕ
version_field None = []
version_field (Some content) = element 160 content

-- the fields of tbsCertificate in their order: 2 is the tag of an INTEGER, 48 of a SEQUENCE
unfoldable pub fields : Certificate → List ℕ
fields c =
    version_field c.version ++ (element 2 c.serial_number ++ (element 48 c.signature
    ++ (element 48 c.issuer ++ (element 48 (time c.not_before ++ time c.not_after)
    ++ (element 48 c.subject ++ (element 48 c.public_key ++ c.extensions))))))

abbrev pub spelling : Certificate → List ℕ
spelling c = element 48 (element 48 (fields c) ++ c.signed)

pub record IsSpelled (c : Certificate) (bytes : List ℕ) : Type 0 where
  pub all : bytes ≡ spelling c
  pub short : length (element 48 (fields c) ++ c.signed) < 2 ^ 24
  pub not_before : IsTime c.not_before
  pub not_after : IsTime c.not_after

-- what is returned of it
pub record Parts : Type 0 where
  pub public_key : List ℕ
  pub subject : List ℕ
  pub not_before : ℤ
  pub not_after : ℤ

abbrev pub parts_of : Certificate → Parts
parts_of c =
    record {
      public_key = element 48 c.public_key;
      subject = element 48 c.subject;
      not_before = unix_seconds (moment_of c.not_before);
      not_after = unix_seconds (moment_of c.not_after);
    }

-- the same as the program lends it
abbrev pub lent_parts : CertParts → Parts
lent_parts p =
    record {
      public_key = p.public_key.now;
      subject = p.subject.now;
      not_before = p.not_before;
      not_after = p.not_after;
    }
