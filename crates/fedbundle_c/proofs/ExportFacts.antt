-- A handle that held a replica holds it again, after what was made of it was put out; and a text that
-- is short enough is put out whole.
use Rattle.std.proofs.Common.{◌≡◌, ℕ, ◌≤◌, ℤ, List, length, sym, subst, inl, inr, Some, None, Ok, Err, arith}
use Rattle.std.specs.Prelude.{Option, Result, MatchResult, MatchOption}
use Rattle.receipt_core.specs.Acceptance.{Meaning}
use Rattle.replica_c_calls.specs.Outcomes.{OutRun, WritesOut, FitsOut, LacksOut, RefusesOut, out_run}
use Rattle.replica_c_calls.specs.declared.call_error.CallError.{CallError}
use Rattle.fedbundle_c.specs.Exports.{HandleRun, BufferRun, IsShownClosed, meaning_in, FindsByHandle, FindsHeld}
use Rattle.fedbundle_c.specs.declared.held_replica.Replica.{Replica}

-- a text for which there is room is written
pub fits_held : (text : List ℕ) (run : OutRun) → length text ≤ length run.before → WritesOut text run → FitsOut text run
fits_held text run h (inl fits) = fits
fits_held text run h (inr over) = let more = over.more in absurd (omega arith)

module _ (old new : Option Replica) (held : Replica) (before after : List ℕ) (said : ℕ) (returned : ℤ) (was : old ≡ Some held) (is : new ≡ Some held) where
  abbrev run : HandleRun
  run = record { old = old; new = new; said = said; returned = returned }

  abbrev buffer : BufferRun
  buffer = record { before = before; after = after }

  -- by what was made: a text, none, or a refusal
  found : {V : Type 0} (N : Type 0) (P : List ℕ → Type 0) (Q : CallError → Type 0) (made : Result (Option V) CallError) (items : V → List ℕ)
      → MatchResult made (λ o. MatchOption o N (λ v. P (items v))) Q
      → MatchResult made (λ o. MatchOption o (LacksOut (out_run before after said returned)) (λ v. WritesOut (items v) (out_run before after said returned)))
      (λ e. RefusesOut e (out_run before after said returned))
      → FindsHeld held N P Q buffer run
  found N P Q (Ok None) items is_so put = record { same = is; puts = inl (record { absent = is_so; none = put }) }
  found N P Q (Ok (Some v)) items is_so put = record { same = is; puts = inr (inl (record { text = items v; is = is_so; written = put })) }
  found N P Q (Err e) items is_so put =
      record { same = is; puts = inr (inr (record { error = e; cause = is_so; refused = put })) }

  -- whatever is so of the replica that was held is so of the handle
  pub finds-by : {V : Type 0} (N : Meaning → Type 0) (P : Meaning → List ℕ → Type 0) (Q : CallError → Type 0) (made : Result (Option V) CallError)
      (items : V → List ℕ)
      → MatchResult made (λ o. MatchOption o (N (meaning_in held)) (λ v. P (meaning_in held) (items v))) Q
      → MatchResult made (λ o. MatchOption o (LacksOut (out_run before after said returned)) (λ v. WritesOut (items v) (out_run before after said returned)))
      (λ e. RefusesOut e (out_run before after said returned))
      → FindsByHandle N P Q buffer run
  finds-by N P Q made items is_so put =
      subst (λ (o : Option Replica). MatchOption o (IsShownClosed buffer run) (λ h. FindsHeld h (N (meaning_in h)) (P (meaning_in h)) Q buffer run))
      (sym was) (found (N (meaning_in held)) (P (meaning_in held)) Q made items is_so put)
