-- Dates and times of seconds, and seconds of dates and times.
use Rattle.std.specs.Prelude.{nat_le, nat_lt}
use Rattle.std.proofs.lemmas.Bool.{and_parts, and_from, ltb-true, lt-ltb}
use Rattle.std.proofs.Common.{◌≡◌, ℕ, ◌+◌, ◌*◌, ◌/◌, ◌%◌, ◌≤◌, ◌<◌, true, refl, sym, subst, ap, ◌∙◌, arith, ℤ, pos, negsuc, ◌+ℤ◌, ◌*ℤ◌, ◌≤ℤ◌, unsigned_abs}
use Rattle.std.specs.Int.{int_div_euclid, int_rem_euclid}
use Rattle.jiff_core.specs.Calendar.{days_from_civil, days_in_month, IsEpochDay}
use Rattle.jiff_core.specs.Date.{epoch_day}
use Rattle.jiff_core.specs.declared.civil.date.Date.{Date}
use Rattle.jiff_core.proofs.CalendarLemmas.{days_in_month_bounds}
use Rattle.jiff_core.proofs.DateLemmas.{epoch_day_injective, epoch_day_range}
use Rattle.jiff_core.proofs.SignedLemmas.{signed_arith}
use Rattle.cert_key.specs.Moment.{Moment, IsMomentOf, is_real, unix_seconds, Time, Utc, Generalized, IsTime, moment_of}
use Rattle.cert_key.specs.Inside.Times.{IsDay, IsTimeOfDay, IsShown, moment_on}

-- ---- what is real

leb-true : (a b : ℕ) → nat_le a b ≡ true → a ≤ b
leb-true a b e = grind arith

pub record IsReal (m : Moment) : Type 0 where
  pub day : IsDay m
  pub time : IsTimeOfDay m

pub real_parts : (m : Moment) → is_real m ≡ true → IsReal m
unfolding is_real
real_parts m e =
    let g = and_parts _ (nat_lt m.second 60) e in
    let f = and_parts _ (nat_lt m.minute 60) g.0 in
    let d = and_parts _ (nat_lt m.hour 24) f.0 in
    let c = and_parts _ (nat_le m.day (days_in_month (pos m.year) m.month)) d.0 in
    let b = and_parts _ (nat_le 1 m.day) c.0 in
    let a = and_parts (nat_le 1 m.month) (nat_le m.month 12) b.0 in
    record {
      day = record {
        first_month = leb-true 1 m.month a.0;
        last_month = leb-true m.month 12 a.1;
        first_day = leb-true 1 m.day b.1;
        last_day = leb-true m.day (days_in_month (pos m.year) m.month) c.1;
      };
      time = record { hour = ltb-true m.hour 24 d.1; minute = ltb-true m.minute 60 f.1; second = ltb-true m.second 60 g.1 };
    }

leb-from : (a b : ℕ) → a ≤ b → nat_le a b ≡ true
leb-from a b e = grind arith

pub real_from : (m : Moment) → IsReal m → is_real m ≡ true
unfolding is_real
real_from m h =
    and_from _ _ (and_from _ _ (and_from _ _ (and_from _ _ (and_from _ _ (and_from _ _ (leb-from 1 m.month h.day.first_month)
    (leb-from m.month 12 h.day.last_month)) (leb-from 1 m.day h.day.first_day)) (leb-from m.day _ h.day.last_day))
    (lt-ltb m.hour 24 h.time.hour)) (lt-ltb m.minute 60 h.time.minute)) (lt-ltb m.second 60 h.time.second)

-- ---- dates

abbrev date_of : (m : Moment) → m.year ≤ 9999 → IsDay m → Date
date_of m year day = record {
  year = pos m.year;
  month = m.month;
  day = m.day;
  year_in = (omega (arith, signed_arith), omega (arith, signed_arith));
  month_in = (day.first_month, day.last_month);
  day_in = (day.first_day, day.last_day);
}

abbrev second_of : Moment → ℕ
second_of m = m.hour * 3600 + m.minute * 60 + m.second

second_low : (m : Moment) → IsTimeOfDay m → second_of m < 86400
second_low m h = omega (arith, h.hour, h.minute, h.second)

parts_of_seconds : (s day : ℤ) (second : ℕ) → second < 86400 → (day *ℤ pos 86400) +ℤ pos second ≡ s
    → (int_div_euclid s (pos 86400) ≡ day) × (int_rem_euclid s (pos 86400) ≡ pos second)
parts_of_seconds s day second low e = (omega (arith, signed_arith, low, e), omega (arith, signed_arith, low, e))

seconds_of_parts : (s day : ℤ) (second : ℕ) → int_div_euclid s (pos 86400) ≡ day → int_rem_euclid s (pos 86400) ≡ pos second
    → (day *ℤ pos 86400) +ℤ pos second ≡ s
seconds_of_parts s day second d r = omega (arith, signed_arith, d, r)

day_is : (s : ℤ) (m : Moment) → IsMomentOf s m → int_div_euclid s (pos 86400) ≡ days_from_civil (pos m.year) m.month m.day
unfolding unix_seconds
day_is s m h =
    let r = real_parts m h.real in
    (parts_of_seconds s (days_from_civil (pos m.year) m.month m.day) (second_of m) (second_low m r.time) h.is).0

second_is : (s : ℤ) (m : Moment) → IsMomentOf s m → int_rem_euclid s (pos 86400) ≡ pos (second_of m)
unfolding unix_seconds
second_is s m h =
    let r = real_parts m h.real in
    (parts_of_seconds s (days_from_civil (pos m.year) m.month m.day) (second_of m) (second_low m r.time) h.is).1

-- a `Moment` has a date
pub has_day : (s : ℤ) (m : Moment) → IsMomentOf s m → IsEpochDay (int_div_euclid s (pos 86400))
has_day s m h =
    let d = date_of m h.year (real_parts m h.real).day in
    subst IsEpochDay (sym (day_is s m h)) (epoch_day_range d)

-- and its year is not negative
pub has_year : (s : ℤ) (m : Moment) (d : Date) → IsMomentOf s m → epoch_day d ≡ int_div_euclid s (pos 86400) → d.year ≡ pos m.year
has_year s m d h is =
    (epoch_day_injective d (date_of m h.year (real_parts m h.real).day) (is ∙ day_is s m h)).0

not_negative : (y : ℤ) → pos 0 ≤ℤ y → pos (unsigned_abs y) ≡ y
not_negative (pos n) h = refl
not_negative (negsuc n) h = absurd (omega (arith, signed_arith, h))

-- the `Moment` of a date and a second
pub moment_is : (s : ℤ) (d : Date) (second : ℕ) → epoch_day d ≡ int_div_euclid s (pos 86400) → int_rem_euclid s (pos 86400) ≡ pos second
    → second < 86400 → pos 0 ≤ℤ d.year → IsMomentOf s (moment_on d second)
unfolding unix_seconds
moment_is s d second is rest low year =
    let same : pos (unsigned_abs d.year) ≡ d.year = not_negative d.year year in
    let all : second / 3600 * 3600 + second / 60 % 60 * 60 + second % 60 ≡ second = omega arith in
    record {
      year = omega (arith, signed_arith, d.year_in);
      real = real_from (moment_on d second) (record {
        day = record {
          first_month = d.month_in.0;
          last_month = d.month_in.1;
          first_day = d.day_in.0;
          last_day = subst (λ (y : ℤ). d.day ≤ days_in_month y d.month) (sym same) d.day_in.1;
        };
        time = record { hour = omega (arith, low); minute = omega arith; second = omega arith };
      });
      is = ap (λ (y : ℤ). (days_from_civil y d.month d.day *ℤ pos 86400) +ℤ pos (second / 3600 * 3600 + second / 60 % 60 * 60 + second % 60)) same
          ∙ ap (λ (n : ℕ). (epoch_day d *ℤ pos 86400) +ℤ pos n) all
          ∙ seconds_of_parts s (epoch_day d) second (sym is) rest;
    }

-- two digits are enough
pub is_shown : (s : ℤ) (m : Moment) → IsMomentOf s m → IsShown m
is_shown s m h =
    let r = real_parts m h.real in
    record {
      year = h.year;
      month = omega (arith, r.day.last_month);
      day = omega (arith, r.day.last_day, days_in_month_bounds (pos m.year) m.month);
      hour = omega (arith, r.time.hour);
      minute = omega (arith, r.time.minute);
      second = omega (arith, r.time.second);
    }

same_parts : (m n : Moment) → m.year ≡ n.year → m.month ≡ n.month → m.day ≡ n.day → m.hour ≡ n.hour → m.minute ≡ n.minute
    → m.second ≡ n.second → m ≡ n
same_parts m n y o d h i s = λ k. record { year = y k; month = o k; day = d k; hour = h k; minute = i k; second = s k }

-- there is one
pub same_moment : (s : ℤ) (m n : Moment) → IsMomentOf s m → IsMomentOf s n → m ≡ n
same_moment s m n h k =
    let a = real_parts m h.real in
    let b = real_parts n k.real in
    let e = epoch_day_injective (date_of m h.year a.day) (date_of n k.year b.day) (sym (day_is s m h) ∙ day_is s n k) in
    let t : pos (second_of m) ≡ pos (second_of n) = sym (second_is s m h) ∙ second_is s n k in
    let u : second_of m ≡ second_of n = omega (arith, signed_arith, t) in
    let y : m.year ≡ n.year = omega (arith, signed_arith, e.0) in
    same_parts m n y e.1 e.2
    (omega (arith, u, a.time.hour, a.time.minute, a.time.second, b.time.hour, b.time.minute, b.time.second))
    (omega (arith, u, a.time.hour, a.time.minute, a.time.second, b.time.hour, b.time.minute, b.time.second))
    (omega (arith, u, a.time.hour, a.time.minute, a.time.second, b.time.hour, b.time.minute, b.time.second))

-- the rest of a division
natural_rest : (s : ℤ) → (int_rem_euclid s (pos 86400) ≡ pos (unsigned_abs (int_rem_euclid s (pos 86400))))
    × (unsigned_abs (int_rem_euclid s (pos 86400)) < 86400)
natural_rest (pos a) = (refl, omega arith)
natural_rest (negsuc a) = (refl, omega arith)

pub rest_is : (s rest : ℤ) → rest ≡ int_rem_euclid s (pos 86400)
    → (int_rem_euclid s (pos 86400) ≡ pos (unsigned_abs rest)) × (unsigned_abs rest < 86400)
rest_is s rest e =
    subst (λ (z : ℤ). (int_rem_euclid s (pos 86400) ≡ pos (unsigned_abs z)) × (unsigned_abs z < 86400)) (sym e) (natural_rest s)

-- the `Moment` of a time of a certificate
pub time_moment : (t : Time) → IsTime t → IsMomentOf (unix_seconds (moment_of t)) (moment_of t)
time_moment (Utc m) h = record { year = omega (arith, h.0.1); real = h.1; is = refl }
time_moment (Generalized m) h = record { year = h.0; real = h.1; is = refl }
