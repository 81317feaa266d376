-- Reading times, from left to right
use Rattle.std.specs.Prelude.{ℕ, ◌+◌, ◌-◌, ◌*◌, ◌≤◌, ◌<◌, pos, Bool, false, ◌&&◌, List, [], ◌∷◌}
use Rattle.std.specs.Prelude.{◌/◌, ◌%◌, length, Option, Some, None, nat_eq, nat_le, nat_lt, ℤ}
use Rattle.std.specs.Prelude.{unsigned_abs, if◌then◌else◌}
use Rattle.jiff_core.specs.Calendar.{days_in_month}
use Rattle.jiff_core.specs.declared.civil.date.Date.{Date}
use Rattle.cert_key.specs.declared.moment.Clock.{Clock}
use Rattle.cert_key.specs.Moment.{Moment, is_real, unix_seconds}
use Rattle.cert_key.specs.Inside.Reading.{◌>>=◌, Found, element_at}

abbrev pub is_decimal : ℕ → Bool
is_decimal n = nat_le 48 n && nat_le n 57

unfoldable pub two_digits_at : List ℕ → Option (ℕ × List ℕ)
two_digits_at [] = None
two_digits_at (a ∷ []) = None
two_digits_at (a ∷ b ∷ rest) =
    if is_decimal a && is_decimal b then Some ((a - 48) * 10 + (b - 48), rest) else None

-- a date and time as the program keeps it
abbrev pub moment_view : Clock → Moment
moment_view c =
    record {
      year = c.year;
      month = c.month;
      day = c.day;
      hour = c.hour;
      minute = c.minute;
      second = c.second;
    }

-- the two halves of what is real
pub record IsDay (m : Moment) : Type 0 where
  pub first_month : 1 ≤ m.month
  pub last_month : m.month ≤ 12
  pub first_day : 1 ≤ m.day
  pub last_day : m.day ≤ days_in_month (pos m.year) m.month

pub record IsTimeOfDay (m : Moment) : Type 0 where
  pub hour : m.hour < 24
  pub minute : m.minute < 60
  pub second : m.second < 60

-- Two digits are enough for each part, and four for the year.
pub record IsShown (m : Moment) : Type 0 where
  pub year : m.year ≤ 9999
  pub month : m.month < 100
  pub day : m.day < 100
  pub hour : m.hour < 100
  pub minute : m.minute < 100
  pub second : m.second < 100

-- the `Moment` of a date and a second of its day
abbrev pub moment_on : Date → ℕ → Moment
moment_on d second =
    record {
      year = unsigned_abs d.year;
      month = d.month;
      day = d.day;
      hour = second / 3600;
      minute = second / 60 % 60;
      second = second % 60;
    }

unfoldable pub seconds_at : Moment → Option ℤ
seconds_at m = if is_real m then Some (unix_seconds m) else None

-- a Z and nothing after it
unfoldable pub is_z : List ℕ → Bool
is_z [] = false
is_z (z ∷ []) = nat_eq z 90
is_z (z ∷ more ∷ rest) = false

-- what is after the year
unfoldable pub moment_at : ℕ → List ℕ → Option ℤ
moment_at year bytes = do
  month ← two_digits_at bytes
  day ← two_digits_at month.1
  hour ← two_digits_at day.1
  minute ← two_digits_at hour.1
  second ← two_digits_at minute.1
  if is_z second.1 then seconds_at (record {
    year = year;
    month = month.0;
    day = day.0;
    hour = hour.0;
    minute = minute.0;
    second = second.0;
  }) else None

abbrev pub year_of_two : ℕ → ℕ
year_of_two n = if nat_lt n 50 then 2000 + n else 1900 + n

unfoldable pub utc_at : List ℕ → Option ℤ
utc_at bytes = do
  year ← two_digits_at bytes
  moment_at (year_of_two year.0) year.1

unfoldable pub generalized_at : List ℕ → Option ℤ
generalized_at bytes = do
  hundreds ← two_digits_at bytes
  years ← two_digits_at hundreds.1
  moment_at (hundreds.0 * 100 + years.0) years.1

unfoldable pub time_at : Found → Option ℤ
time_at e =
    if nat_eq e.tag 23 then utc_at e.content
    else (if nat_eq e.tag 24 then generalized_at e.content else None)

unfoldable pub times_at : List ℕ → Option (ℤ × ℤ)
times_at bytes = do
  first ← element_at bytes
  not_before ← time_at first
  second ← element_at first.after
  not_after ← time_at second
  if nat_eq (length second.after) 0 then Some (not_before, not_after) else None
