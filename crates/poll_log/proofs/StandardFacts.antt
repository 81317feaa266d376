-- The definitions of polling at examples
use Rattle.std.proofs.Common.{◌≡◌, true, false, pos, [], ◌∷◌, codes, None, Some, refl}
use Rattle.poll_log.specs.Polling.{interval_of, wait_of, standing_of}

-- ---- intervals and waits

-- without a hint the interval is five minutes
no_hint : interval_of None ≡ 300
no_hint = refl

-- the interval is a minute at least
least_hint : interval_of (Some 0) ≡ 60
least_hint = refl

-- between the limits the interval is the hint
own_hint : interval_of (Some 61) ≡ 61
own_hint = refl

-- the interval is a day at most
greatest_hint : interval_of (Some 18446744073709551615) ≡ 86400
greatest_hint = refl

-- after one failure the wait is 30 seconds
one_failure : wait_of None 1 ≡ 30
one_failure = refl

-- each further failure doubles the wait
four_failures : wait_of None 4 ≡ 240
four_failures = refl

-- the wait is never above the interval
five_failures : wait_of None 5 ≡ 300
five_failures = refl

-- up to the twelfth failure each doubles the wait
twelve_failures : wait_of (Some 86400) 12 ≡ 61440
twelve_failures = refl

-- the thirteenth failure doubles it no more
thirteen_failures : wait_of (Some 86400) 13 ≡ 61440
thirteen_failures = refl

-- ---- statuses: the last poll of the domain counts, its last success, and the failures since

-- two failures in a row count, whatever comes before and of other domains; the last poll's time is
-- kept, also if it is not the latest, and that of the success before it
two_failures : standing_of (record { domain = codes "a"; moment = pos 9; ok = true } ∷ record {
  domain = codes "a";
  moment = pos 7;
  ok = false;
} ∷ record { domain = codes "b"; moment = pos 8; ok = true } ∷ record {
  domain =
      codes "a";
  moment = pos 5;
  ok = false;
} ∷ []) (codes "a")
    ≡ record { domain = codes "a"; last = Some (pos 5); succeeded = Some (pos 9); failures = 2 }
two_failures = refl

-- a success ends the count of failures
then_ok : standing_of (record { domain = codes "a"; moment = pos 7; ok = false } ∷ record {
  domain = codes "a";
  moment =
      pos 9;
  ok = true;
} ∷ []) (codes "a") ≡ record { domain = codes "a"; last = Some (pos 9); succeeded = Some (pos 9); failures = 0 }
then_ok = refl

-- the last success counts, also if an earlier one has a later time
back_in_time : standing_of (record { domain = codes "a"; moment = pos 9; ok = true } ∷ record {
  domain = codes "a";
  moment =
      pos 7;
  ok = true;
} ∷ []) (codes "a") ≡ record { domain = codes "a"; last = Some (pos 7); succeeded = Some (pos 7); failures = 0 }
back_in_time = refl

-- if every poll failed there is no success
only_failures : standing_of (record { domain = codes "a"; moment = pos 7; ok = false } ∷ []) (codes "a")
    ≡ record { domain = codes "a"; last = Some (pos 7); succeeded = None; failures = 1 }
only_failures = refl

-- a domain that was never polled has no time and no failure
never : standing_of [] (codes "a") ≡ record { domain = codes "a"; last = None; succeeded = None; failures = 0 }
never = refl
