use Rattle.std.proofs.Common.{◌∙◌, ap, sym, subst}
use Rattle.std.specs.Bool.{IsTrue}
use Rattle.std.specs.List.{Contains}
use Rattle.std.specs.List.Sorted.{IsStrictlySortedBy}
use Rattle.std.specs.Prelude.{◌↔◌}
use Rattle.std.specs.Result.{is_ok}
use Rattle.closure_parts.specs.Records.{record_cmp, KeptRecords}
use Rattle.closure_parts.proofs.RecordFacts.{holds_found}
use Rattle.closure_parts.proofs.records.Records.holds.Goals as goal

pub returns : goal.returns
returns c =
    let rising : IsStrictlySortedBy record_cmp c.deref.result.now = subst (IsStrictlySortedBy record_cmp) (sym c.deref.ensures.value) c.self.invariant.rising in
    subst (λ b. IsTrue b ↔ Contains c.args.self.now.records c.args.sought.now) (sym c.is_ok.ensures.value)
    (subst (λ xs. IsTrue (is_ok c.binary_search.result) ↔ Contains xs c.args.sought.now)
    (c.deref.ensures.value ∙ ap (λ (k : KeptRecords). k.records) c.self.view_is)
    (holds_found c.deref.result.now c.args.sought.now c.binary_search.result rising c.binary_search.ensures.bound c.binary_search.ensures.position))
