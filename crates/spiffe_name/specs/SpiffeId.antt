-- SPIFFE IDs: SPIFFE-ID, section 2.
use Rattle.std.specs.Prelude.{◌≡◌, ◌≢◌, ℕ, ◌+◌, ◌<◌, ◌≤◌, ◌⊎◌, Bool, true, false, ◌||◌, List, []}
use Rattle.std.specs.Prelude.{◌∷◌, ◌++◌, length, flat_map, bytes_eq, codes}
use Rattle.std.specs.List.{AllPass, AllByRecursion}
use Rattle.spiffe_name.specs.Bytes.{is_segment_byte, is_not_slash, EmptyOrSlash, FirstFails}
use Rattle.spiffe_name.specs.TrustDomain.{IsDomainText, RefusesDomain}
use Rattle.spiffe_name.specs.declared.error.NameError.{NameError}
use Rattle.spiffe_name.specs.declared.error.NameError.TheVariants.{Empty, TooLong, BadScheme}
use Rattle.spiffe_name.specs.declared.error.NameError.TheVariants.{BadDomainByte, BadPath, NoMemory}
use Rattle.spiffe_name.specs.Limits.{id_limit}

-- An ID, as contracts see it.
pub record Id : Type 0 where
  pub text : List ℕ
  pub domain : List ℕ
  pub path : List ℕ

abbrev pub scheme : List ℕ
scheme = codes "spiffe://"

-- Section 2.2: no segment is empty, or one of the relative path modifiers . and ..
abbrev pub is_empty_or_modifier : List ℕ → Bool
is_empty_or_modifier segment = bytes_eq segment [] || bytes_eq segment (codes ".")
    || bytes_eq segment (codes "..")

pub record IsSegment (segment : List ℕ) : Type 0 where
  pub bytes : AllPass is_segment_byte segment
  pub named : is_empty_or_modifier segment ≡ false

-- each segment after a slash
abbrev pub path_of_segments : List (List ℕ) → List ℕ
path_of_segments segments = flat_map (λ segment. 47 ∷ segment) segments

pub record IsPath (path : List ℕ) : Type 0 where
  pub segments : List (List ℕ)
  pub each : AllByRecursion IsSegment segments
  pub whole : path ≡ path_of_segments segments

-- Sections 2 and 2.3: the text is the scheme, the name of a trust domain and a path, of at most
-- 2,048 bytes together.
pub record IsIdText (text domain path : List ℕ) : Type 0 where
  pub whole : text ≡ scheme ++ (domain ++ path)
  pub limit : length text ≤ id_limit
  pub is_domain : IsDomainText domain
  pub is_path : IsPath path

abbrev pub IsId : Id → Type 0
IsId id = IsIdText id.text id.domain id.path

-- A text within the limit is spiffe://, then what should be a trust domain name, up to the next
-- slash or the end, and then what should be a path.
pub record HasParts (text domain path : List ℕ) : Type 0 where
  pub limit : length text ≤ id_limit
  pub whole : text ≡ scheme ++ (domain ++ path)
  pub no_slash : AllPass is_not_slash domain
  pub slash : EmptyOrSlash path

-- What should be a trust domain name is not one, for this cause.
abbrev pub RefusesDomainPart : List ℕ → NameError → Type 0
RefusesDomainPart text error = (domain path : List ℕ)
    × (HasParts text domain path × RefusesDomain domain error)

-- A segment has its first wrong byte here, or begins here and is empty or a modifier.
abbrev pub FaultInSegment : List ℕ → ℕ → Type 0
FaultInSegment segment place = FirstFails is_segment_byte segment place
    ⊎ ((is_empty_or_modifier segment ≡ true) × (place ≡ 0))

-- A front of the path is segments, and the next one has an error here.
pub record FirstFault (path : List ℕ) (place : ℕ) : Type 0 where
  pub front : List (List ℕ)
  pub each : AllByRecursion IsSegment front
  pub segment : List ℕ
  pub rest : List ℕ
  pub whole : path ≡ path_of_segments front ++ (47 ∷ (segment ++ rest))
  pub no_slash : AllPass is_not_slash segment
  pub slash : EmptyOrSlash rest
  pub offset : ℕ
  pub fault : FaultInSegment segment offset
  pub counted : place ≡ length (path_of_segments front) + (1 + offset)

-- The first cause for which the text is not an ID, or that there was no memory for one.
abbrev pub RefusesId : List ℕ → NameError → Type 0
RefusesId text Empty = (text ≡ []) ⊎ RefusesDomainPart text Empty
RefusesId text TooLong = (id_limit < length text) ⊎ RefusesDomainPart text TooLong
RefusesId text BadScheme = (text ≢ []) × (length text ≤ id_limit)
    × ((rest : List ℕ) → text ≢ scheme ++ rest)
RefusesId text (BadDomainByte place) = (n : ℕ)
    × ((place ≡ length scheme + n) × RefusesDomainPart text (BadDomainByte n))
RefusesId text (BadPath place) = (domain path : List ℕ) × (n : ℕ)
    × (HasParts text domain path × IsDomainText domain × FirstFault path n
    × (place ≡ length scheme + length domain + n))
RefusesId text NoMemory = (domain path : List ℕ) × IsIdText text domain path
