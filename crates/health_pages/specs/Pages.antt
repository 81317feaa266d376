-- The pages, and the target of a request that asks for one (RFC 9112, section 3.2.1): a path, and
-- nothing else, or the path of the graph with a query that names a domain.
use Rattle.std.specs.Prelude.{ℕ, List, [], ◌∷◌, ◌==◌, ◌||◌, Bool, false, codes, drop, find, length}
use Rattle.std.specs.Prelude.{if◌then◌else◌, nat_eq, Option, Some, None, option_map, string_bytes}
use Rattle.std.specs.List.{list_all, starts_with}
use Rattle.std.specs.Char.{is_ascii_digit, is_ascii_lowercase}
use Rattle.std.specs.Str.{bytes_eq}
use Rattle.health_pages.specs.declared.asked_page.AskedPage.{AskedPage}
use Rattle.health_pages.specs.declared.asked_page.FixedPage.TheVariants.{Index, Style, Script, Live}
use Rattle.health_pages.specs.declared.asked_page.HeldPage.TheVariants.{Metrics, Status, Report}
use Rattle.health_pages.specs.declared.asked_page.HeldPage.TheVariants.{Keys, Graph}
use Rattle.health_pages.specs.declared.asked_page.Page.{Page}
use Rattle.health_pages.specs.declared.asked_page.Page.TheVariants.{Fixed, Ready, Held}

abbrev pub page_path : Page → List ℕ
page_path (Fixed Index) = codes "/"
page_path (Fixed Style) = codes "/page.css"
page_path (Fixed Script) = codes "/page.js"
page_path (Fixed Live) = codes "/live"
page_path Ready = codes "/ready"
page_path (Held Metrics) = codes "/metrics"
page_path (Held Status) = codes "/status.json"
page_path (Held Report) = codes "/report.json"
page_path (Held Keys) = codes "/keys.json"
page_path (Held Graph) = codes "/graph.dot"

abbrev pub all_pages : List Page
all_pages = Fixed Index ∷ Fixed Style ∷ Fixed Script ∷ Held Metrics ∷ Fixed Live ∷ Ready
    ∷ Held Status ∷ Held Report ∷ Held Keys ∷ Held Graph ∷ []

-- the page whose path it is
abbrev pub page_of : List ℕ → Option Page
page_of target = find (λ page. bytes_eq (page_path page) target) all_pages

-- ---- the graph of one domain

abbrev pub is_name_byte : ℕ → Bool
is_name_byte b = is_ascii_lowercase b || is_ascii_digit b || b == 45 || b == 46 || b == 95

-- lower-case letters, digits, dots, hyphens and underscores, at least one
abbrev pub is_name : List ℕ → Bool
is_name [] = false
is_name bytes = list_all is_name_byte bytes

abbrev pub domain_prefix : List ℕ
domain_prefix = codes "/graph.dot?domain="

-- the graph of the domain that the bytes are, if they are a name
abbrev pub graph_of : List ℕ → Option (Page × Option (List ℕ))
graph_of name = if is_name name then Some (Held Graph, Some name) else None

abbrev pub graph_at : List ℕ → Option (Page × Option (List ℕ))
graph_at target = if starts_with nat_eq target domain_prefix
    then graph_of (drop (length domain_prefix) target) else None

-- ---- a target

abbrev pub page_or_graph : Option Page → List ℕ → Option (Page × Option (List ℕ))
page_or_graph (Some page) target = Some (page, None)
page_or_graph None target = graph_at target

-- the page that a target asks for, with its domain
abbrev pub page_at : List ℕ → Option (Page × Option (List ℕ))
page_at target = page_or_graph (page_of target) target

-- the same for what is read
abbrev pub asked_view : AskedPage → Page × Option (List ℕ)
asked_view asked = (asked.page, option_map string_bytes asked.domain)
