-- Which hosts a page may be asked of. Whoever has a name can let it lead to this address, and then
-- a browser takes what is read here for a part of their site: so of names only those are let in
-- that are listed. An address leads nowhere else.
use Rattle.std.specs.Prelude.{ℕ, List, ◌∷◌, ◌==◌, ◌||◌, Bool, true, false, codes, nat_eq}
use Rattle.std.specs.Prelude.{Option, None, Some, Result, Ok, Err}
use Rattle.std.specs.List.{before_first, list_all, list_any, starts_with}
use Rattle.std.specs.Char.{is_ascii_digit}
use Rattle.health_pages.specs.declared.asked_page.Page.{Page}
use Rattle.health_pages.specs.declared.asked_page.PageFault.{PageFault}
use Rattle.health_pages.specs.declared.asked_page.PageFault.TheVariants.{BadHost}
use Rattle.health_pages.specs.Heads.{has_field_name}

-- a value of `Host` without its port
abbrev pub host_name : List ℕ → List ℕ
host_name value = before_first (λ b. b == 58) value

abbrev pub is_numeric_byte : ℕ → Bool
is_numeric_byte b = is_ascii_digit b || b == 46

-- The value is an address: one of version 6 is in brackets, one of version 4 has only digits and
-- dots. No name is like that. An empty value is let in, too.
abbrev pub is_address : List ℕ → Bool
is_address value =
    starts_with nat_eq value (codes "[") || list_all is_numeric_byte (host_name value)

-- It is this name, in letters of any case.
abbrev pub is_host_named : List ℕ → List ℕ → Bool
is_host_named value name = has_field_name name (host_name value)

-- the value is let in, if these names are listed
abbrev pub is_let_in : List (List ℕ) → List ℕ → Bool
is_let_in names value =
    is_address value || list_any (is_host_named value) (codes "localhost" ∷ names)

-- the same for a request, which may have no value
abbrev pub lets_in : List (List ℕ) → Option (List ℕ) → Bool
lets_in names None = true
lets_in names (Some value) = is_let_in names value

-- what a request asks for, if its host is let in
abbrev pub asked_if : (is_in : Bool) → Result (Page × Option (List ℕ)) PageFault
    → Result (Page × Option (List ℕ)) PageFault
asked_if is_in (Err fault) = Err fault
asked_if true (Ok asked) = Ok asked
asked_if false (Ok asked) = Err BadHost
