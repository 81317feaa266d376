-- The bytes of a time are read as that time, and what is read has these bytes.
use Rattle.std.proofs.Common.{◌≡◌, ℕ, ◌+◌, ◌-◌, ◌*◌, ◌/◌, ◌%◌, ◌<◌, ◌≤◌, true, cond, ltb, leb, eqb, ◌&&◌, List, [], ◌∷◌, ◌++◌, length, Some, None}
use Rattle.std.proofs.Common.{refl, sym, ap, subst, ◌∙◌, arith, inl, inr, ℤ, pos}
use Rattle.std.proofs.lemmas.Bool.{cases_lt, leb-true, ltb-true, lt-ltb, le-ltb, eqb-true, and_parts}
use Rattle.std.proofs.lemmas.Bool.Decides.{nat_tests}
use Rattle.std.proofs.lemmas.List.{append-nil, nil_from_length}
use Rattle.jiff_core.specs.Calendar.{days_in_month}
use Rattle.jiff_core.proofs.CalendarLemmas.{days_in_month_bounds}
use Rattle.cert_key.specs.Der.{element}
use Rattle.cert_key.specs.Moment.{Moment, is_real, unix_seconds, digits, after_year, Time, Utc, Generalized, moment_of, IsTime, time}
use Rattle.cert_key.specs.Inside.Reading.{◌>>=◌, Found, element_at}
use Rattle.cert_key.specs.Inside.Times.{is_decimal, two_digits_at, seconds_at, is_z, moment_at, year_of_two, utc_at, generalized_at, time_at}
use Rattle.cert_key.specs.Inside.Times.{times_at}
use Rattle.cert_key.proofs.StepFacts.{bind_some, if_some, chosen, same_some, some_of, IsBytes}
use Rattle.cert_key.proofs.ElementFacts.{element_takes, element_again, made}

-- ---- two digits

is_decimal-true : (n : ℕ) → is_decimal n ≡ true → (48 ≤ n) × (n ≤ 57)
is_decimal-true n e = grind (arith, nat_tests)

is_decimal-from : (n : ℕ) → n < 10 → is_decimal (48 + n) ≡ true
is_decimal-from n lt = grind (arith, nat_tests)

digits_again : (n : ℕ) (rest : List ℕ) → n < 100 → two_digits_at (digits n ++ rest) ≡ Some (n, rest)
unfolding two_digits_at
digits_again n rest lt =
    let e : (48 + n / 10 - 48) * 10 + (48 + n % 10 - 48) ≡ n = omega arith in
    rw (is_decimal-from (n / 10) (omega arith), is_decimal-from (n % 10) (omega arith))
    (ap (λ (k : ℕ). some_of (k, rest)) e)

digits_take : (bytes : List ℕ) (n : ℕ) (rest : List ℕ) → two_digits_at bytes ≡ Some (n, rest)
    → (bytes ≡ digits n ++ rest) × (n < 100)
unfolding two_digits_at
digits_take [] n rest e = absurd cc
digits_take (a ∷ []) n rest e = absurd cc
digits_take (a ∷ b ∷ bytes) n rest e =
    let g = if_some (is_decimal a && is_decimal b) (Some ((a - 48) * 10 + (b - 48), bytes)) (n, rest) e in
    let both = and_parts (is_decimal a) (is_decimal b) g.0 in
    let first = is_decimal-true a both.0 in
    let second = is_decimal-true b both.1 in
    let tens : 48 + ((a - 48) * 10 + (b - 48)) / 10 ≡ a = omega (arith, first.0, first.1, second.0, second.1) in
    let ones : 48 + ((a - 48) * 10 + (b - 48)) % 10 ≡ b = omega (arith, first.0, first.1, second.0, second.1) in
    subst (λ (x : ℕ × List ℕ). (a ∷ b ∷ bytes ≡ digits x.0 ++ x.1) × (x.0 < 100))
    (same_some ((a - 48) * 10 + (b - 48), bytes) (n, rest) g.1)
    (rw (tens, ones) refl, omega (arith, first.1, second.1))

-- ---- dates and times

is_z-true : (bytes : List ℕ) → is_z bytes ≡ true → bytes ≡ 90 ∷ []
unfolding is_z
is_z-true [] e = absurd cc
is_z-true (z ∷ []) e = ap (λ (k : ℕ). k ∷ []) (eqb-true z 90 e)
is_z-true (z ∷ more ∷ rest) e = absurd cc

-- six pieces, each found after the one before
six_parts : (p q r s t u bytes a b c d e : List ℕ) → bytes ≡ p ++ a → a ≡ q ++ b → b ≡ r ++ c → c ≡ s ++ d → d ≡ t ++ e → e ≡ u
    → bytes ≡ p ++ (q ++ (r ++ (s ++ (t ++ u))))
six_parts p q r s t u bytes a b c d e h1 h2 h3 h4 h5 h6 = cc

stated : (y z : ℤ) → some_of y ≡ some_of z → z ≡ y
stated y z e = sym (same_some y z e)

-- the `Moment` of these numbers
abbrev pub moment : ℕ → ℕ × List ℕ → ℕ × List ℕ → ℕ × List ℕ → ℕ × List ℕ → ℕ × List ℕ → Moment
moment year month day hour minute second =
    record { year = year; month = month.0; day = day.0; hour = hour.0; minute = minute.0; second = second.0 }

-- a `Moment` that was read has these bytes, and is real
pub record MomentTakes (year : ℕ) (bytes : List ℕ) (z : ℤ) (m : Moment) : Type 0 where
  pub same_year : m.year ≡ year
  pub parts : bytes ≡ after_year m
  pub real : is_real m ≡ true
  pub seconds : z ≡ unix_seconds m

pub moment_takes : (year : ℕ) (bytes : List ℕ) (z : ℤ) → moment_at year bytes ≡ Some z
    → (m : Moment) × MomentTakes year bytes z m
unfolding moment_at seconds_at after_year
moment_takes year bytes z e =
    let a = bind_some (two_digits_at bytes) (λ month. two_digits_at month.1 >>= λ day. two_digits_at day.1 >>= λ hour. two_digits_at hour.1
    >>= λ minute. two_digits_at minute.1 >>= λ second. cond (is_z second.1) (seconds_at (moment year month day hour minute second)) None) z e in
    let b = bind_some (two_digits_at a.0.1) (λ day. two_digits_at day.1 >>= λ hour. two_digits_at hour.1 >>= λ minute. two_digits_at minute.1
    >>= λ second. cond (is_z second.1) (seconds_at (moment year a.0 day hour minute second)) None) z a.2 in
    let c = bind_some (two_digits_at b.0.1) (λ hour. two_digits_at hour.1 >>= λ minute. two_digits_at minute.1
    >>= λ second. cond (is_z second.1) (seconds_at (moment year a.0 b.0 hour minute second)) None) z b.2 in
    let d = bind_some (two_digits_at c.0.1) (λ minute. two_digits_at minute.1
    >>= λ second. cond (is_z second.1) (seconds_at (moment year a.0 b.0 c.0 minute second)) None) z c.2 in
    let f = bind_some (two_digits_at d.0.1) (λ second. cond (is_z second.1) (seconds_at (moment year a.0 b.0 c.0 d.0 second)) None) z d.2 in
    let g = if_some (is_z f.0.1) (seconds_at (moment year a.0 b.0 c.0 d.0 f.0)) z f.2 in
    let h = if_some (is_real (moment year a.0 b.0 c.0 d.0 f.0)) (Some (unix_seconds (moment year a.0 b.0 c.0 d.0 f.0))) z g.1 in
    let last = is_z-true f.0.1 g.0 in
    let t1 = (digits_take bytes a.0.0 a.0.1 a.1).0 in
    let t2 = (digits_take a.0.1 b.0.0 b.0.1 b.1).0 in
    let t3 = (digits_take b.0.1 c.0.0 c.0.1 c.1).0 in
    let t4 = (digits_take c.0.1 d.0.0 d.0.1 d.1).0 in
    let t5 = (digits_take d.0.1 f.0.0 f.0.1 f.1).0 in (
      moment year a.0 b.0 c.0 d.0 f.0,
      record {
        same_year = refl;
        parts = six_parts (digits a.0.0) (digits b.0.0) (digits c.0.0) (digits d.0.0) (digits f.0.0)
            (90 ∷ []) bytes a.0.1 b.0.1 c.0.1 d.0.1 f.0.1 t1 t2 t3 t4 t5 last;
        real = h.0;
        seconds = stated (unix_seconds (moment year a.0 b.0 c.0 d.0 f.0)) z h.1;
      },
    )

-- the numbers of a real `Moment` have two digits
pub record IsShown (m : Moment) : Type 0 where
  pub month : m.month < 100
  pub day : m.day < 100
  pub hour : m.hour < 100
  pub minute : m.minute < 100
  pub second : m.second < 100

below : (a b : ℕ) → ltb a b ≡ true → b ≤ 100 → a < 100
below a b e le = omega (arith, ltb-true a b e)

at_most : (a b : ℕ) → leb a b ≡ true → b ≤ 99 → a < 100
at_most a b e le = omega (arith, leb-true a b e)

is_shown : (m : Moment) → is_real m ≡ true → IsShown m
unfolding is_real
is_shown m e =
    let p7 = and_parts _ (ltb m.second 60) e in
    let p6 = and_parts _ (ltb m.minute 60) p7.0 in
    let p5 = and_parts _ (ltb m.hour 24) p6.0 in
    let p4 = and_parts _ (leb m.day (days_in_month (pos m.year) m.month)) p5.0 in
    let p3 = and_parts _ (leb 1 m.day) p4.0 in
    let p2 = and_parts (leb 1 m.month) (leb m.month 12) p3.0 in
    let few = (days_in_month_bounds (pos m.year) m.month).0 in
    record {
      month = at_most m.month 12 p2.1 (omega arith);
      day = at_most m.day (days_in_month (pos m.year) m.month) p4.1 (omega (arith, few));
      hour = below m.hour 24 p5.1 (omega arith);
      minute = below m.minute 60 p6.1 (omega arith);
      second = below m.second 60 p7.1 (omega arith);
    }

pub moment_again : (m : Moment) → is_real m ≡ true → moment_at m.year (after_year m) ≡ Some (unix_seconds m)
unfolding moment_at seconds_at after_year is_z
moment_again m real =
    let s = is_shown m real in
    rw (
      digits_again m.month (digits m.day ++ (digits m.hour ++ (digits m.minute ++ (digits m.second ++ (90 ∷ []))))) s.month,
      digits_again m.day (digits m.hour ++ (digits m.minute ++ (digits m.second ++ (90 ∷ [])))) s.day,
      digits_again m.hour (digits m.minute ++ (digits m.second ++ (90 ∷ []))) s.hour,
      digits_again m.minute (digits m.second ++ (90 ∷ [])) s.minute,
      digits_again m.second (90 ∷ []) s.second,
      real,
    ) refl

-- ---- times

-- the years that two digits say
two_of_year : (n year : ℕ) → n < 100 → year ≡ year_of_two n → (1950 ≤ year) × (year ≤ 2049) × (n ≡ year % 100)
two_of_year n year lt e =
    elim (cases_lt n 50) [
      | inl small ↦
          let k : year ≡ 2000 + n = e ∙ rw (lt-ltb n 50 small) refl in
          (omega arith, omega arith, omega arith)
      | inr large ↦
          let k : year ≡ 1900 + n = e ∙ rw (le-ltb n 50 large) refl in
          (omega arith, omega arith, omega arith)
    ]

-- the years that four digits say
four_of_year : (a b year : ℕ) → a < 100 → b < 100 → year ≡ a * 100 + b → (year ≤ 9999) × (a ≡ year / 100) × (b ≡ year % 100)
four_of_year a b year h k e = (omega arith, omega arith, omega arith)

year_from_two : (year : ℕ) → 1950 ≤ year → year ≤ 2049 → year_of_two (year % 100) ≡ year
year_from_two year low high =
    elim (cases_lt year 2000) [
      | inl before ↦ rw (le-ltb (year % 100) 50 (omega arith)) (omega arith)
      | inr after ↦ rw (lt-ltb (year % 100) 50 (omega arith)) (omega arith)
    ]

joined : (n k : ℕ) (rest more : List ℕ) → n ≡ k → rest ≡ more → digits n ++ rest ≡ digits k ++ more
joined n k rest more e h = cc

-- the time that the bytes of a UTCTime say
pub utc_takes : (bytes : List ℕ) (z : ℤ) → utc_at bytes ≡ Some z
    → (m : Moment) × ((1950 ≤ m.year) × (m.year ≤ 2049)) × (is_real m ≡ true) × (bytes ≡ digits (m.year % 100) ++ after_year m) × (z ≡ unix_seconds m)
unfolding utc_at
utc_takes bytes z e =
    let a = bind_some (two_digits_at bytes) (λ year. moment_at (year_of_two year.0) year.1) z e in
    let b = moment_takes (year_of_two a.0.0) a.0.1 z a.2 in
    let t = digits_take bytes a.0.0 a.0.1 a.1 in
    let k : b.0.year ≡ year_of_two a.0.0 = b.1.same_year in
    let y = two_of_year a.0.0 b.0.year t.1 k in
    (b.0, (y.0, y.1), b.1.real, t.0 ∙ joined a.0.0 (b.0.year % 100) a.0.1 (after_year b.0) y.2 b.1.parts, b.1.seconds)

pub generalized_takes : (bytes : List ℕ) (z : ℤ) → generalized_at bytes ≡ Some z
    → (m : Moment) × (m.year ≤ 9999) × (is_real m ≡ true) × (bytes ≡ digits (m.year / 100) ++ (digits (m.year % 100) ++ after_year m)) ×
    (z ≡ unix_seconds m)
unfolding generalized_at
generalized_takes bytes z e =
    let a = bind_some (two_digits_at bytes) (λ hundreds. two_digits_at hundreds.1 >>= λ years. moment_at (hundreds.0 * 100 + years.0) years.1) z e in
    let b = bind_some (two_digits_at a.0.1) (λ years. moment_at (a.0.0 * 100 + years.0) years.1) z a.2 in
    let c = moment_takes (a.0.0 * 100 + b.0.0) b.0.1 z b.2 in
    let t = digits_take bytes a.0.0 a.0.1 a.1 in
    let u = digits_take a.0.1 b.0.0 b.0.1 b.1 in
    let y = four_of_year a.0.0 b.0.0 c.0.year t.1 u.1 c.1.same_year in (
      c.0,
      y.0,
      c.1.real,
      t.0 ∙ joined a.0.0 (c.0.year / 100) a.0.1 (digits (c.0.year % 100) ++ after_year c.0) y.1
          (u.0 ∙ joined b.0.0 (c.0.year % 100) b.0.1 (after_year c.0) y.2 c.1.parts),
      c.1.seconds,
    )

-- the time that an element is
pub record TimeTakes (e : Found) (z : ℤ) (t : Time) : Type 0 where
  pub is_time : IsTime t
  pub parts : element e.tag e.content ≡ time t
  pub seconds : z ≡ unix_seconds (moment_of t)

-- an element with another tag
retag : (tag other : ℕ) (content bytes : List ℕ) → tag ≡ other → content ≡ bytes → element tag content ≡ element other bytes
retag tag other content bytes h e = cc

pub time_takes : (e : Found) (z : ℤ) → time_at e ≡ Some z → (t : Time) × TimeTakes e z t
unfolding time_at
time_takes e z h =
    elim (chosen (eqb e.tag 23) (utc_at e.content) (cond (eqb e.tag 24) (generalized_at e.content) None) (Some z) h) [
      | inl k ↦
          let u = utc_takes e.content z k.1 in (
            Utc u.0,
            record {
              is_time = (u.1, u.2);
              parts = retag e.tag 23 e.content (digits (u.0.year % 100) ++ after_year u.0) (eqb-true e.tag 23 k.0) u.3;
              seconds = u.4;
            },
          )
      | inr k ↦
          let g = if_some (eqb e.tag 24) (generalized_at e.content) z k.1 in
          let u = generalized_takes e.content z g.1 in (
            Generalized u.0,
            record {
              is_time = (u.1, u.2);
              parts = retag e.tag 24 e.content (digits (u.0.year / 100) ++ (digits (u.0.year % 100) ++ after_year u.0)) (eqb-true e.tag 24 g.0) u.3;
              seconds = u.4;
            },
          )
    ]

-- a time that was spelled is found, whatever follows
pub record TimeFound (t : Time) (rest : List ℕ) (e : Found) : Type 0 where
  pub found : element_at (time t ++ rest) ≡ Some e
  pub after : e.after ≡ rest
  pub read : time_at e ≡ Some (unix_seconds (moment_of t))

utc_again : (m : Moment) → 1950 ≤ m.year → m.year ≤ 2049 → is_real m ≡ true
    → utc_at (digits (m.year % 100) ++ after_year m) ≡ Some (unix_seconds m)
unfolding utc_at
utc_again m low high real =
    rw (digits_again (m.year % 100) (after_year m) (omega arith), year_from_two m.year low high)
    (moment_again m real)

generalized_again : (m : Moment) → m.year ≤ 9999 → is_real m ≡ true
    → generalized_at (digits (m.year / 100) ++ (digits (m.year % 100) ++ after_year m)) ≡ Some (unix_seconds m)
unfolding generalized_at
generalized_again m high real =
    let k : m.year / 100 * 100 + m.year % 100 ≡ m.year = omega arith in
    rw (
      digits_again (m.year / 100) (digits (m.year % 100) ++ after_year m) (omega arith),
      digits_again (m.year % 100) (after_year m) (omega arith),
      k,
    )
    (moment_again m real)

few_bytes : (m : Moment) → length (after_year m) ≡ 11
unfolding after_year
few_bytes m = refl

pub time_again : (t : Time) (rest : List ℕ) → IsTime t → (e : Found) × TimeFound t rest e
unfolding time_at
time_again (Utc m) rest h = (
  made 23 (element 23 (digits (m.year % 100) ++ after_year m)) (digits (m.year % 100) ++ after_year m) rest,
  record {
    found = element_again 23 (digits (m.year % 100) ++ after_year m) rest (omega (arith, few_bytes m));
    after = refl;
    read = utc_again m h.0.0 h.0.1 h.1;
  },
)
time_again (Generalized m) rest h = (
  made 24 (element 24 (digits (m.year / 100) ++ (digits (m.year % 100) ++ after_year m))) (digits (m.year / 100) ++ (digits
      (m.year % 100) ++ after_year m)) rest,
  record {
    found = element_again 24 (digits (m.year / 100) ++ (digits (m.year % 100) ++ after_year m)) rest (omega (arith, few_bytes m));
    after = refl;
    read = generalized_again m h.0 h.1;
  },
)

-- ---- a validity

-- two times that were read are spelled so
pub record TimesTake (bytes : List ℕ) (z : ℤ × ℤ) (t u : Time) : Type 0 where
  pub first : IsTime t
  pub second : IsTime u
  pub parts : bytes ≡ time t ++ time u
  pub seconds : z ≡ (unix_seconds (moment_of t), unix_seconds (moment_of u))

two_parts : (bytes first second a b t u : List ℕ) → bytes ≡ first ++ a → a ≡ second ++ b → b ≡ [] → first ≡ t → second ≡ u → bytes ≡ t ++ u
two_parts bytes first second a b t u h k e p q =
    h ∙ ap (λ (x : List ℕ). first ++ x) (k ∙ ap (λ (x : List ℕ). second ++ x) e ∙ append-nil second) ∙ ap (λ (x : List ℕ). x ++ second) p
    ∙ ap (λ (x : List ℕ). t ++ x) q

same_pair : (a b c d : ℤ) (z : ℤ × ℤ) → some_of (a, b) ≡ some_of z → a ≡ c → b ≡ d → z ≡ (c, d)
same_pair a b c d z e h k = sym (same_some (a, b) z e) ∙ ap (λ (x : ℤ). (x, b)) h ∙ ap (λ (x : ℤ). (c, x)) k

pub times_take : (bytes : List ℕ) (z : ℤ × ℤ) → IsBytes bytes → times_at bytes ≡ Some z
    → (t : Time) × (u : Time) × TimesTake bytes z t u
unfolding times_at
times_take bytes z fits e =
    let a = bind_some (element_at bytes) (λ first. time_at first >>= λ not_before. element_at first.after >>= λ second. time_at second
    >>= λ not_after. cond (eqb (length second.after) 0) (Some (not_before, not_after)) None) z e in
    let b = bind_some (time_at a.0) (λ not_before. element_at a.0.after >>= λ second. time_at second
    >>= λ not_after. cond (eqb (length second.after) 0) (Some (not_before, not_after)) None) z a.2 in
    let c = bind_some (element_at a.0.after) (λ second. time_at second
    >>= λ not_after. cond (eqb (length second.after) 0) (Some (b.0, not_after)) None) z b.2 in
    let d = bind_some (time_at c.0) (λ not_after. cond (eqb (length c.0.after) 0) (Some (b.0, not_after)) None) z c.2 in
    let g = if_some (eqb (length c.0.after) 0) (Some (b.0, d.0)) z d.2 in
    let f1 = element_takes bytes a.0 fits a.1 in
    let f2 = element_takes a.0.after c.0 f1.after_fits c.1 in
    let t1 = time_takes a.0 b.0 b.1 in
    let t2 = time_takes c.0 d.0 d.1 in (
      t1.0,
      t2.0,
      record {
        first = t1.1.is_time;
        second = t2.1.is_time;
        parts = two_parts bytes (element a.0.tag a.0.content) (element c.0.tag c.0.content) a.0.after c.0.after (time t1.0)
            (time t2.0) f1.parts f2.parts (nil_from_length c.0.after (eqb-true (length c.0.after) 0 g.0)) t1.1.parts t2.1.parts;
        seconds = same_pair b.0 d.0 (unix_seconds (moment_of t1.0)) (unix_seconds (moment_of t2.0)) z g.1 t1.1.seconds t2.1.seconds;
      },
    )

pub times_again : (t u : Time) → IsTime t → IsTime u
    → times_at (time t ++ time u) ≡ Some (unix_seconds (moment_of t), unix_seconds (moment_of u))
unfolding times_at
times_again t u first second =
    let a = time_again t (time u) first in
    let b = time_again u [] second in
    let found : element_at (time u) ≡ Some b.0 = ap element_at (sym (append-nil (time u))) ∙ b.1.found in
    rw (a.1.found, a.1.read, a.1.after, found, b.1.read, b.1.after) refl
