use Rattle.std.proofs.Common.{◌≡◌, ◌∙◌, ◌<◌, ◌≤◌, refl, sym, ap, subst, length, arith, Less, Greater}
use Rattle.std.specs.List.{Contains, insert}
use Rattle.std.specs.List.Sorted.{IsStrictlySortedBy, IsPartitionPoint}
use Rattle.std.specs.Vec.{vec_capacity, vec_len}
use Rattle.receipt_core.specs.Rising.{with_item}
use Rattle.sorted_order.proofs.BlockFacts.{if_ok}
use Rattle.closure_parts.specs.Records.{record_cmp, AreRecords, IsAdded, KeptRecords}
use Rattle.closure_parts.proofs.RecordFacts.{record_total, held_at, searched, split_lacks, with_record, more_records}
use Rattle.closure_parts.proofs.records.Records.add.Goals as goal

-- equal views have equal records
kept : {a b : KeptRecords} → a ≡ b → a.records ≡ b.records
kept same = ap (λ (k : KeptRecords). k.records) same

pub returns-in-Ok : goal.returns-in-Ok
returns-in-Ok c = (
  subst (λ xs. Contains xs c.args.entry) (c.deref.ensures.value ∙ kept c.self.view_is)
      (held_at c.deref.result.now c.args.entry c.in-Ok.field-0 c.in-Ok.ensures.bound c.in-Ok.ensures.ok),
  refl,
)

pub returns-in-Err : goal.returns-in-Err
returns-in-Err c =
    let same = c.deref.ensures.value in
    let rising : IsStrictlySortedBy record_cmp c.deref.result.now = subst (IsStrictlySortedBy record_cmp) (sym same) c.self.invariant.rising in
    let split : IsPartitionPoint (λ y. record_cmp y c.args.entry ≡ Less) (λ y. record_cmp y c.args.entry ≡ Greater) c.deref.result.now c.in-Err.field-0 =
    searched record_total c.deref.result.now c.args.entry c.in-Err.field-0 rising c.in-Err.ensures.position in
    let size : length c.args.self.now.records ≡ length c.self.inside.items.items = ap (λ (k : KeptRecords). length k.records) (sym c.self.view_is) in
    let limit : c.args.self.now.limit ≡ c.self.inside.limit = ap (λ (k : KeptRecords). k.limit) (sym c.self.view_is) in
    let known = c.self.inside.items.ok.0 in
    record {
      unheld = λ has. split_lacks record_total c.deref.result.now c.args.entry c.in-Err.field-0 split.0 split.1
          (subst (λ xs. Contains xs c.args.entry) (sym (same ∙ kept c.self.view_is)) has);
      full = omega arith;
      now = refl;
    }

-- A record for which there is a place is added at the end of the search, and the records are kept
-- as they should be.
inserted : (c : goal.After-insert)
    → IsAdded c.args.self.now c.args.entry (record { records = c.insert.new.self.items; limit = c.self.inside.limit })
    × AreRecords (record { records = c.insert.new.self.items; limit = c.self.inside.limit }) (vec_capacity c.insert.new.self)
inserted c =
    let same : c.deref.result.now ≡ c.self.inside.items.items = c.deref.ensures.value in
    let rising : IsStrictlySortedBy record_cmp c.deref.result.now = subst (IsStrictlySortedBy record_cmp) (sym same) c.self.invariant.rising in
    let split : IsPartitionPoint (λ y. record_cmp y c.args.entry ≡ Less) (λ y. record_cmp y c.args.entry ≡ Greater) c.deref.result.now c.in-Err.field-0 =
    searched record_total c.deref.result.now c.args.entry c.in-Err.field-0 rising c.in-Err.ensures.position in
    let here : IsPartitionPoint (λ y. record_cmp y c.args.entry ≡ Less) (λ y. record_cmp y c.args.entry ≡ Greater) c.self.inside.items.items c.in-Err.field-0 =
    subst (λ xs. IsPartitionPoint (λ y. record_cmp y c.args.entry ≡ Less) (λ y. record_cmp y c.args.entry ≡ Greater) xs c.in-Err.field-0) same split in
    let within : c.in-Err.field-0 ≤ length c.self.inside.items.items = subst (λ xs. c.in-Err.field-0 ≤ length xs) same c.in-Err.ensures.bound in
    let known = c.self.inside.items.ok.0 in
    let room = c.self.invariant.room in
    let fits : vec_len c.self.inside.items < vec_capacity c.self.inside.items = omega arith in
    let put : c.insert.new.self.items ≡ insert c.self.inside.items.items c.in-Err.field-0 c.args.entry =
    if_ok c.insert.result c.insert.new.self.items (insert c.self.inside.items.items c.in-Err.field-0 c.args.entry)
    c.self.inside.items.items (c.insert.ensures.succeeds fits) c.insert.ensures.items in
    let now : c.insert.new.self.items ≡ with_item record_cmp c.args.entry c.self.inside.items.items =
    with_record c.self.inside.items.items c.insert.new.self.items c.args.entry c.in-Err.field-0 c.self.invariant.rising here within put in
    let few : length c.self.inside.items.items < c.self.inside.limit = omega arith in (
      record {
        unheld = λ has. split_lacks record_total c.self.inside.items.items c.args.entry c.in-Err.field-0 here.0 here.1
            (subst (λ xs. Contains xs c.args.entry) (sym (kept c.self.view_is)) has);
        few = subst (λ (k : KeptRecords). length k.records < k.limit) c.self.view_is few;
        now = ap (λ xs. let k : KeptRecords = record { records = xs; limit = c.self.inside.limit } in k) now
            ∙ ap (λ (k : KeptRecords). let l : KeptRecords = record k { records = with_item record_cmp c.args.entry k.records } in l) c.self.view_is;
      },
      more_records c.self.inside.items.items c.insert.new.self.items c.args.entry c.self.inside.limit c.in-Err.field-0
          (vec_capacity c.self.inside.items) (vec_capacity c.insert.new.self) c.self.invariant few within put now
          c.insert.ensures.capacity,
    )

pub returns-in-Err-2 : goal.returns-in-Err-2
returns-in-Err-2 c = (inserted c).0

pub invariant_of-self : goal.invariant_of-self
invariant_of-self c = (inserted c).1
