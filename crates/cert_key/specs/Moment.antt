-- Times of certificates (RFC 5280, section 4.1.2.5)
use Rattle.std.specs.Prelude.{◌≡◌, ℕ, ◌+◌, ◌*◌, ◌/◌, ◌%◌, ◌≤◌, Bool, true, ◌&&◌, List, [], ◌∷◌}
use Rattle.std.specs.Prelude.{◌++◌, codes, nat_le, nat_lt, ℤ, pos, ◌+ℤ◌, ◌*ℤ◌}
use Rattle.jiff_core.specs.Calendar.{days_from_civil, days_in_month}
use Rattle.cert_key.specs.Der.{element}

pub record Moment : Type 0 where
  pub year : ℕ
  pub month : ℕ
  pub day : ℕ
  pub hour : ℕ
  pub minute : ℕ
  pub second : ℕ

-- the calendar has this day, and a clock shows this time
unfoldable pub is_real : Moment → Bool
is_real m =
    nat_le 1 m.month && nat_le m.month 12
    && nat_le 1 m.day && nat_le m.day (days_in_month (pos m.year) m.month)
    && nat_lt m.hour 24 && nat_lt m.minute 60 && nat_lt m.second 60

-- seconds since 1970-01-01T00:00:00Z
unfoldable pub unix_seconds : Moment → ℤ
unix_seconds m =
    (days_from_civil (pos m.year) m.month m.day *ℤ pos 86_400)
    +ℤ pos (m.hour * 3_600 + m.minute * 60 + m.second)

-- a number below 100 in two digits
abbrev pub digits : ℕ → List ℕ
digits n = (48 + n / 10) ∷ (48 + n % 10) ∷ []

-- MMDDHHMMSSZ
unfoldable pub after_year : Moment → List ℕ
after_year m =
    digits m.month ++ (digits m.day ++ (digits m.hour ++ (digits m.minute
    ++ (digits m.second ++ (90 ∷ [])))))

-- UTCTime has two digits of a year from 1950 to 2049, GeneralizedTime four of one up to 9999
pub data Time : Type 0 where
  Utc : Moment → Time
  Generalized : Moment → Time

abbrev pub moment_of : Time → Moment
moment_of (Utc m) = m
moment_of (Generalized m) = m

abbrev pub HasYear : Time → Type 0
HasYear (Utc m) = (1950 ≤ m.year) × (m.year ≤ 2049)
HasYear (Generalized m) = m.year ≤ 9999

abbrev pub IsTime : Time → Type 0
IsTime t = HasYear t × (is_real (moment_of t) ≡ true)

abbrev pub time : Time → List ℕ
time (Utc m) = element 23 (digits (m.year % 100) ++ after_year m)
time (Generalized m) =
    element 24 (digits (m.year / 100) ++ (digits (m.year % 100) ++ after_year m))

-- the date and time of this many seconds since 1970-01-01T00:00:00Z, in a year from 0 to 9999
pub record IsMomentOf (seconds : ℤ) (m : Moment) : Type 0 where
  pub year : m.year ≤ 9999
  pub real : is_real m ≡ true
  pub is : unix_seconds m ≡ seconds

abbrev pub date_text : Moment → List ℕ
date_text m =
    digits (m.year / 100) ++ (digits (m.year % 100) ++ (codes "-" ++ (digits m.month
    ++ (codes "-" ++ digits m.day))))

abbrev pub clock_text : Moment → List ℕ
clock_text m =
    digits m.hour ++ (codes ":" ++ (digits m.minute ++ (codes ":" ++ digits m.second)))

-- a date and time in UTC (RFC 3339, section 5.6): YYYY-MM-DDTHH:MM:SSZ
unfoldable pub moment_text : Moment → List ℕ
moment_text m = date_text m ++ (codes "T" ++ (clock_text m ++ codes "Z"))
