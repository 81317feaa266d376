-- Receipts and records that are new.
use Rattle.std.proofs.Common.{◌≡◌, ◌≢◌, inl, List, [], ◌∷◌, refl, sym, ap, subst}
use Rattle.std.specs.Prelude.{Contains, IfErr, IsErrAnd, Result, Ok, Err}
use Rattle.std.specs.List.{AllByRecursion}
use Rattle.receipt_core.specs.declared.distrust.Distrust.{Distrust}
use Rattle.receipt_core.specs.Receipt.{IsReceipt, distrust_cmp, receipt_cmp}
use Rattle.receipt_core.specs.Acceptance.{Meaning, IsMeaning}
use Rattle.receipt_core.specs.Sets.{Always, AreSets}
use Rattle.replica_core.specs.Absorbing.{with_entry}
use Rattle.replica_core.specs.declared.entry.Entry.{Entry}
use Rattle.replica_core.specs.declared.entry.Entry.TheVariants.{Record, Receipt as AReceipt}
use Rattle.replica_core.specs.declared.error.SyncError.{SyncError}
use Rattle.replica_texts.specs.SoleLines.{IsWellFormed}
use Rattle.replica_sync.specs.Inside.NewEntries.{IsHeldEntry}

-- That each record is one says nothing.
always : (xs : List Distrust) → AllByRecursion Always xs
always [] = tt
always (x ∷ xs) = (tt, always xs)

-- What is not held changes what is.
pub new_entry : (m : Meaning) (entry : Entry) → AreSets IsReceipt receipt_cmp → AreSets Always distrust_cmp → IsMeaning m → IsWellFormed entry
    → (IsHeldEntry m entry → ⊥) → with_entry entry m ≢ m
new_entry m (Record x) receipts records is form unheld = λ same.
    unheld (subst (λ l. Contains l x) (ap (λ (k : Meaning). k.records) same) ((records.members x x m.records tt (always m.records)).1 (inl refl)))
new_entry m (AReceipt r) receipts records is form unheld = λ same.
    unheld (subst (λ l. Contains l r) (ap (λ (k : Meaning). k.held) same) ((receipts.members r r m.held form is.receipts).1 (inl refl)))

-- What holds of an error holds of the result that the exit of a `?` returns.
pub refused_with : {T : Type 0} (r : Result T SyncError) (Q : SyncError → Type 0) (e : SyncError) → IsErrAnd r (λ y. y ≡ e) → Q e → IfErr r Q
refused_with (Ok value) Q e is q = tt
refused_with (Err y) Q e is q = subst Q (sym is) q
