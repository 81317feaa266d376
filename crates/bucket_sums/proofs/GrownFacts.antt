-- What a closure holds only grows.
use Rattle.std.proofs.Common.{◌≡◌, sym, subst}
use Rattle.std.specs.Prelude.{Result, Ok, Err}
use Rattle.receipt_core.specs.declared.distrust.Distrust.{Distrust}
use Rattle.receipt_core.specs.Receipt.{Receipt, distrust_cmp, receipt_cmp}
use Rattle.receipt_core.specs.Acceptance.{Meaning}
use Rattle.receipt_core.specs.Rising.{with_item, with_items}
use Rattle.receipt_core.proofs.RisingFacts.{Contains-from_has, Has-from_contains, with_item-keeps, with_items-keeps}
use Rattle.closure_core.specs.Changes.{HeldAndRoom, Merges, Takes, TakesDistrust, union_of}
use Rattle.closure_core.specs.declared.error.TakeError.{TakeError}
use Rattle.closure_core.specs.declared.outcome.Distrusted.{Distrusted}
use Rattle.closure_core.specs.declared.outcome.Distrusted.TheVariants.{New as DistrustedNew, Already as DistrustedAlready}
use Rattle.closure_core.specs.declared.outcome.Refused.{Refused}
use Rattle.closure_core.specs.declared.outcome.Taken.{Taken}
use Rattle.closure_core.specs.declared.outcome.Taken.TheVariants.{New as TakenNew, Already as TakenAlready}
use Rattle.std.specs.Prelude.{ℕ}
use Rattle.replica_core.specs.Convergence.{IsPartOf}
use Rattle.replica_core.specs.Session.{state_of}
use Rattle.replica_core.proofs.EventFacts.{part-refl}

-- Nothing is lost if nothing has changed.
pub same_grown : (old new : Meaning) → new ≡ old → IsPartOf (state_of old) (state_of new)
same_grown old new e = subst (λ (m : Meaning). IsPartOf (state_of old) (state_of m)) (sym e) (part-refl (state_of old))

receipt_grown : (old : Meaning) (r : Receipt) → IsPartOf (state_of old) (state_of (record old { held = with_item receipt_cmp r old.held }))
receipt_grown old r = record {
  receipts = λ s c. Contains-from_has (with_item receipt_cmp r old.held) s (with_item-keeps receipt_cmp r old.held s (Has-from_contains old.held s c));
  distrusts = λ y c. c;
}

record_grown : (old : Meaning) (x : Distrust) → IsPartOf (state_of old) (state_of (record old { records = with_item distrust_cmp x old.records }))
record_grown old x = record {
  receipts = λ r c. c;
  distrusts = λ y c. Contains-from_has (with_item distrust_cmp x old.records) y
      (with_item-keeps distrust_cmp x old.records y (Has-from_contains old.records y c));
}

union_grown : (old other : Meaning) → IsPartOf (state_of old) (state_of (union_of old other))
union_grown old other = record {
  receipts = λ s c. Contains-from_has (with_items receipt_cmp other.held old.held) s
      (with_items-keeps receipt_cmp other.held old.held s (Has-from_contains old.held s c));
  distrusts = λ y c. Contains-from_has (with_items distrust_cmp other.records old.records) y
      (with_items-keeps distrust_cmp other.records old.records y (Has-from_contains old.records y c));
}

-- if it is this that is held then
then_grown : (old next new : Meaning) → new ≡ next → IsPartOf (state_of old) (state_of next) → IsPartOf (state_of old) (state_of new)
then_grown old next new e grown = subst (λ (m : Meaning). IsPartOf (state_of old) (state_of m)) (sym e) grown

-- Nothing is lost by taking a receipt, also if it is refused.
pub takes_grown : (old new : HeldAndRoom) (r : Receipt) (result : Result Taken Refused) → Takes old r new result
    → IsPartOf (state_of old.meaning) (state_of new.meaning)
takes_grown old new r (Ok (TakenNew count)) takes = then_grown old.meaning _ new.meaning takes.meaning (receipt_grown old.meaning r)
takes_grown old new r (Ok TakenAlready) takes =
    subst (λ (m : HeldAndRoom). IsPartOf (state_of old.meaning) (state_of m.meaning)) (sym takes.same) (part-refl (state_of old.meaning))
takes_grown old new r (Err refused) takes = same_grown old.meaning new.meaning takes.unchanged.meaning

-- Nothing is lost by a record of distrust.
pub distrusts_grown : (old new : Meaning) (x : Distrust) (result : Result Distrusted TakeError) → TakesDistrust old x new result
    → IsPartOf (state_of old) (state_of new)
distrusts_grown old new x (Ok (DistrustedNew count)) takes = then_grown old _ new takes.meaning (record_grown old x)
distrusts_grown old new x (Ok DistrustedAlready) takes = same_grown old new takes.meaning
distrusts_grown old new x (Err why) takes = same_grown old new takes.meaning

-- Nothing is lost by joining.
pub merges_grown : (old new : HeldAndRoom) (other : Meaning) (result : Result ℕ TakeError) → Merges old other new result
    → IsPartOf (state_of old.meaning) (state_of new.meaning)
merges_grown old new other (Ok count) merges = then_grown old.meaning _ new.meaning merges.merged.meaning (union_grown old.meaning other)
merges_grown old new other (Err why) merges = same_grown old.meaning new.meaning merges.unchanged.meaning
