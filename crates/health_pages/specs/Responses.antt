-- A response as bytes (RFC 9112, section 4)
use Rattle.std.specs.Prelude.{ℕ, List, [], ◌++◌, Bool, codes, decimal, if◌then◌else◌, length}
use Rattle.health_pages.specs.declared.asked_page.FixedPage.{FixedPage}
use Rattle.health_pages.specs.declared.asked_page.FixedPage.TheVariants as fixed
use Rattle.health_pages.specs.declared.asked_page.HeldPage.{HeldPage}
use Rattle.health_pages.specs.declared.asked_page.HeldPage.TheVariants as held
use Rattle.health_pages.specs.declared.asked_page.PageFault.{PageFault}
use Rattle.health_pages.specs.declared.asked_page.PageFault.TheVariants as fault
use Rattle.health_pages.specs.declared.response.ContentType.{ContentType}
use Rattle.health_pages.specs.declared.response.ContentType.TheVariants.{Html, Style, Script, Text}
use Rattle.health_pages.specs.declared.response.ContentType.TheVariants.{Metrics, Json, Graph}
use Rattle.health_pages.specs.declared.response.ResponseStatus.{ResponseStatus}
use Rattle.health_pages.specs.declared.response.ResponseStatus.TheVariants.{Done, BadRequest}
use Rattle.health_pages.specs.declared.response.ResponseStatus.TheVariants.{NotFound, NotAllowed}
use Rattle.health_pages.specs.declared.response.ResponseStatus.TheVariants.{TooLong, Unavailable}
use Rattle.health_pages.specs.declared.response.ResponseStatus.TheVariants.{Forbidden}

-- ---- the head

abbrev pub status_phrase : ResponseStatus → List ℕ
status_phrase Done = codes "200 OK"
status_phrase BadRequest = codes "400 Bad Request"
status_phrase Forbidden = codes "403 Forbidden"
status_phrase NotFound = codes "404 Not Found"
status_phrase NotAllowed = codes "405 Method Not Allowed"
status_phrase TooLong = codes "431 Request Header Fields Too Large"
status_phrase Unavailable = codes "503 Service Unavailable"

abbrev pub type_text : ContentType → List ℕ
type_text Html = codes "text/html; charset=utf-8"
type_text Style = codes "text/css; charset=utf-8"
type_text Script = codes "text/javascript; charset=utf-8"
type_text Text = codes "text/plain; charset=utf-8"
type_text Metrics = codes "text/plain; version=0.0.4; charset=utf-8"
type_text Json = codes "application/json"
type_text Graph = codes "text/vnd.graphviz; charset=utf-8"

-- after a method that is not allowed, those that are
abbrev pub allow_line : ResponseStatus → List ℕ
allow_line NotAllowed = codes "Allow: GET, HEAD\r\n"
allow_line status = []

-- the page for people loads what this address has, and nothing else
abbrev pub policy_line : ContentType → List ℕ
policy_line Html = codes "Content-Security-Policy: default-src 'none'; script-src 'self'; "
    ++ codes "style-src 'self'; connect-src 'self'; base-uri 'none'; form-action 'none'; "
    ++ codes "frame-ancestors 'none'\r\n"
policy_line content = []

abbrev pub response_line : (label text : List ℕ) → List ℕ
response_line label text = label ++ (text ++ codes "\r\n")

abbrev pub status_line : ResponseStatus → List ℕ
status_line status = response_line (codes "HTTP/1.1 ") (status_phrase status)

abbrev pub length_line : ℕ → List ℕ
length_line count = response_line (codes "Content-Length: ") (decimal count)

abbrev pub content_line : ContentType → List ℕ
content_line content = response_line (codes "Content-Type: ") (type_text content)

-- the fields that each response has
abbrev pub fixed_lines : List ℕ
fixed_lines = codes "Connection: close\r\nX-Content-Type-Options: nosniff\r\n"
    ++ codes "Cross-Origin-Resource-Policy: same-origin\r\nCache-Control: no-store\r\n"

-- the other fields, and the empty line
abbrev pub further_lines : ResponseStatus → ContentType → List ℕ
further_lines status content = fixed_lines
    ++ (allow_line status ++ (policy_line content ++ codes "\r\n"))

-- the head of a response whose body has this many bytes
abbrev pub response_head : ResponseStatus → ContentType → ℕ → List ℕ
response_head status content count = status_line status
    ++ (length_line count ++ (content_line content ++ further_lines status content))

-- ---- the whole

-- the body, which a response to HEAD does not have (RFC 9110, section 9.3.2)
abbrev pub sent_body : List ℕ → Bool → List ℕ
sent_body body is_head = if is_head then [] else body

abbrev pub response_text : ResponseStatus → ContentType → (body : List ℕ) → (is_head : Bool)
    → List ℕ
response_text status content body is_head =
    response_head status content (length body) ++ sent_body body is_head

-- ---- what is said of a refusal

abbrev pub fault_status : PageFault → ResponseStatus
fault_status fault.TooLong = TooLong
fault_status fault.BadHead = BadRequest
fault_status fault.BadMethod = NotAllowed
fault_status fault.NoPage = NotFound
fault_status fault.BadFields = BadRequest
fault_status fault.CrossSite = Forbidden
fault_status fault.BadHost = Forbidden

abbrev pub page_fault_text : PageFault → List ℕ
page_fault_text fault.TooLong = codes "head too long\n"
page_fault_text fault.BadHead = codes "bad head\n"
page_fault_text fault.BadMethod = codes "bad method\n"
page_fault_text fault.NoPage = codes "no page\n"
page_fault_text fault.BadFields = codes "bad fields\n"
page_fault_text fault.CrossSite = codes "request of another site\n"
page_fault_text fault.BadHost = codes "host not named by --health-host\n"

-- ---- what the pages are

abbrev pub fixed_type : FixedPage → ContentType
fixed_type fixed.Index = Html
fixed_type fixed.Style = Style
fixed_type fixed.Script = Script
fixed_type fixed.Live = Text

abbrev pub held_type : HeldPage → ContentType
held_type held.Metrics = Metrics
held_type held.Status = Json
held_type held.Report = Json
held_type held.Keys = Json
held_type held.Graph = Graph
