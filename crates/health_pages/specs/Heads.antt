-- What the bytes of a request ask for (RFC 9112). The head is all up to the first empty line; what
-- comes after it is not read.
use Rattle.std.specs.Prelude.{◌≡◌, ℕ, ◌+◌, ◌-◌, ◌<◌, ◌≤◌, ◌⊎◌, ◌==◌, ◌&&◌, ◌||◌, ◌++◌, not}
use Rattle.std.specs.Prelude.{List, [], Bool, false, codes, count_by, if◌then◌else◌, length}
use Rattle.std.specs.Prelude.{find, map, nat_le, Option, Some, None, option_map, Result, Ok, Err}
use Rattle.std.specs.Prelude.{take}
use Rattle.std.specs.List.{list_all, list_any}
use Rattle.std.specs.Char.{to_ascii_lowercase}
use Rattle.std.specs.Str.{bytes_eq}
use Rattle.httparse.specs.declared.spans.HeaderSpan.{HeaderSpan}
use Rattle.httparse.specs.declared.spans.RequestSpans.{RequestSpans}
use Rattle.httparse.specs.Grammar.{ReadsRequest, RequestHead}
use Rattle.httparse.specs.Spans.{IsRequestAt, IsRequestWithin, name_and_value}
use Rattle.health_pages.specs.declared.asked_page.AskedPage.{AskedPage}
use Rattle.health_pages.specs.declared.asked_page.Page.{Page}
use Rattle.health_pages.specs.declared.asked_page.PageFault.{PageFault}
use Rattle.health_pages.specs.declared.asked_page.PageFault.TheVariants.{TooLong, BadHead}
use Rattle.health_pages.specs.declared.asked_page.PageFault.TheVariants.{BadMethod, NoPage}
use Rattle.health_pages.specs.declared.asked_page.PageFault.TheVariants.{BadFields, CrossSite}
use Rattle.health_pages.specs.declared.head_verdict.HeadVerdict.{HeadVerdict}
use Rattle.health_pages.specs.HeadEnds.{EndsAt, head_limit}
use Rattle.health_pages.specs.Pages.{asked_view, page_at}

-- the most fields of a head
abbrev pub field_limit : ℕ
field_limit = 64

-- what is kept of a stream, with a piece more
abbrev pub with_piece : List ℕ → List ℕ → List ℕ
with_piece bytes piece = bytes ++ take (head_limit - length bytes) piece

-- ---- fields, as pairs of a name and a value

abbrev pub is_get : List ℕ → Bool
is_get method = bytes_eq method (codes "GET")

abbrev pub is_head : List ℕ → Bool
is_head method = bytes_eq method (codes "HEAD")

-- the names are equal, in letters of any case
abbrev pub has_field_name : List ℕ → List ℕ → Bool
has_field_name wanted name = bytes_eq (map to_ascii_lowercase name) (map to_ascii_lowercase wanted)

-- the field announces no body (RFC 9112, section 6)
abbrev pub is_bodiless : List ℕ × List ℕ → Bool
is_bodiless field = not (has_field_name (codes "transfer-encoding") field.0)
    && (not (has_field_name (codes "content-length") field.0) || bytes_eq field.1 (codes "0"))

-- the number of `Host` fields is right for the version: one, or with HTTP/1.0 at most one (section
-- 3.2)
abbrev pub is_hosted : ℕ → ℕ → Bool
is_hosted minor count = if minor == 1 then count == 1 else nat_le count 1

abbrev pub are_fine : ℕ → List (List ℕ × List ℕ) → Bool
are_fine minor fields = list_all is_bodiless fields
    && is_hosted minor (count_by (λ field. has_field_name (codes "host") field.0) fields)

-- a browser says that a page of another site asks (Fetch Metadata)
abbrev pub is_cross_site : List ℕ × List ℕ → Bool
is_cross_site field =
    has_field_name (codes "sec-fetch-site") field.0 && bytes_eq field.1 (codes "cross-site")

-- why the fields are refused, if they are
abbrev pub fields_fault : ℕ → List (List ℕ × List ℕ) → Option PageFault
fields_fault minor fields = if are_fine minor fields
    then (if list_any is_cross_site fields then Some CrossSite else None) else Some BadFields

-- the value of the first `Host` field
abbrev pub host_in : List (List ℕ × List ℕ) → Option (List ℕ)
host_in fields = option_map (λ field. field.1)
    (find (λ field. has_field_name (codes "host") field.0) fields)

-- ---- a head

abbrev pub asked_with : Option (Page × Option (List ℕ)) → Option PageFault
    → Result (Page × Option (List ℕ)) PageFault
asked_with None fault = Err NoPage
asked_with (Some asked) None = Ok asked
asked_with (Some asked) (Some fault) = Err fault

-- what a head with this method and target asks for, or the first of the causes of a refusal;
-- `fault`: why its fields are refused
abbrev pub asked_by : (method target : List ℕ) → (fault : Option PageFault)
    → Result (Page × Option (List ℕ)) PageFault
asked_by method target fault = if is_get method || is_head method
    then asked_with (page_at target) fault else Err BadMethod

-- the same for a whole head
abbrev pub asked_of : RequestHead → Result (Page × Option (List ℕ)) PageFault
asked_of h = asked_by h.method h.target (fields_fault h.minor (map name_and_value h.fields))

-- the host that it asks
abbrev pub host_of : RequestHead → Option (List ℕ)
host_of h = host_in (map name_and_value h.fields)

-- the same for what is read
abbrev pub host_view : HeadVerdict → Option (List ℕ)
host_view v = option_map (λ host. host.items) v.host

-- the same for what is read
abbrev pub result_view : Result AskedPage PageFault → Result (Page × Option (List ℕ)) PageFault
result_view (Ok asked) = Ok (asked_view asked)
result_view (Err fault) = Err fault

-- The bytes are this head, with not too many fields.
pub record IsHead (bytes : List ℕ) (h : RequestHead) : Type 0 where
  pub reads : ReadsRequest bytes h []
  pub few : length h.fields ≤ field_limit

-- the bytes are not such a head
abbrev pub IsNoHead : List ℕ → Type 0
IsNoHead bytes = (h : RequestHead) → IsHead bytes h → ⊥

-- They are one, with its parts at these places.
pub record IsHeadAt (bytes : List ℕ) (fields : List HeaderSpan) (r : RequestSpans) : Type 0 where
  pub within : IsRequestWithin bytes fields r
  pub head : RequestHead
  pub at : IsRequestAt bytes fields r head
  pub is : IsHead bytes head

-- They are one, and that is what it asks for.
pub record SaysHead (bytes : List ℕ) (v : HeadVerdict) : Type 0 where
  pub head : RequestHead
  pub is : IsHead bytes head
  pub is_head : v.is_head ≡ is_head head.method
  pub asked : result_view v.asked ≡ asked_of head
  pub host : host_view v ≡ host_of head

-- the head is refused without a look at its parts
pub record RefusesRequest (fault : PageFault) (v : HeadVerdict) : Type 0 where
  pub is_head : v.is_head ≡ false
  pub asked : result_view v.asked ≡ Err fault
  pub host : host_view v ≡ None

-- the verdict on all bytes of a head
abbrev pub IsVerdictOfHead : List ℕ → HeadVerdict → Type 0
IsVerdictOfHead bytes v = SaysHead bytes v ⊎ (IsNoHead bytes × RefusesRequest BadHead v)

-- ---- bytes that came

-- The head has come whole.
pub record AnswersWhole (bytes : List ℕ) (v : HeadVerdict) : Type 0 where
  pub place : ℕ
  pub ends : EndsAt bytes (Some place)
  pub verdict : IsVerdictOfHead (take (place + 4) bytes) v

-- It is longer than it may be.
pub record AnswersLong (bytes : List ℕ) (v : HeadVerdict) : Type 0 where
  pub ends : EndsAt bytes None
  pub long : length bytes ≡ head_limit
  pub verdict : RefusesRequest TooLong v

-- what the bytes that came ask for, or that more has to come
abbrev pub IsVerdict : List ℕ → Option HeadVerdict → Type 0
IsVerdict bytes None = EndsAt bytes None × (length bytes < head_limit)
IsVerdict bytes (Some v) = AnswersWhole bytes v ⊎ AnswersLong bytes v
