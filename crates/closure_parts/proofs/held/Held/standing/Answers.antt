use Rattle.std.proofs.Common.{◌≡◌, ◌<◌, ◌≤◌, sym, subst, length, arith}
use Rattle.std.specs.Ordering.{ordering_index}
use Rattle.std.specs.List.{Contains}
use Rattle.std.specs.List.Sorted.{IsNonDecreasingBy}
use Rattle.receipt_core.specs.Order.{receipt_total}
use Rattle.receipt_core.specs.Receipt.{Receipt, receipt_cmp}
use Rattle.receipt_core.specs.Acceptance.{IsFitting}
use Rattle.sorted_order.specs.ArenaView.{in_order, IsNumber}
use Rattle.sorted_order.specs.Sought.{IsMissing}
use Rattle.closure_core.specs.Inside.Records.{distrusts_of}
use Rattle.closure_parts.specs.Held.{HeldReceipts, RefusesNew, meaning_of, domains_of}
use Rattle.closure_core.proofs.RisingFacts.{sought}
use Rattle.closure_parts.proofs.HeldFacts.{misfit_repels, found_held, missing_lacks, length_in_order}
use Rattle.closure_parts.proofs.held.Held.standing.Goals as goal
use Rattle.receipt_core.specs.Limits.{receipt_limit}

-- the receipt fits the configuration of what is held
abbrev Fits : HeldReceipts → Receipt → Type 0
Fits h r = IsFitting h.config r

pub find_by_guess-requires : goal.find_by_guess-requires
find_by_guess-requires c = record {
  rising = subst (λ (r : Receipt). IsNonDecreasingBy (λ s. ordering_index (receipt_cmp s r)) (in_order c.self.inside.receipts)) (sym c.new-sought.ensures)
      (sought receipt_total (in_order c.self.inside.receipts) c.args.receipt.now c.self.invariant.rising);
}

pub returns-in-Ok : goal.returns-in-Ok
returns-in-Ok c =
    let found : IsNumber (λ s. receipt_cmp s c.args.receipt.now) c.self.inside.receipts c.in-Ok.field-0 =
    subst (λ (r : Receipt). IsNumber (λ s. receipt_cmp s r) c.self.inside.receipts c.in-Ok.field-0) c.new-sought.ensures c.in-Ok.ensures in
    subst (λ (h : HeldReceipts). Contains h.held c.args.receipt.now) c.self.view_is
    (found_held c.self.inside.receipts c.args.receipt.now c.in-Ok.field-0 c.self.invariant.receipts
    c.check_fit.ensures.form found)

pub returns-in-Err : goal.returns-in-Err
returns-in-Err c =
    subst (λ (h : HeldReceipts). RefusesNew (meaning_of h) c.args.receipt.now c.in-Err.why) c.self.view_is
    (misfit_repels (record {
      config = c.self.inside.config;
      held = in_order c.self.inside.receipts;
      records =
          distrusts_of (domains_of c.self.inside.config) c.self.inside.records.records;
    }) c.args.receipt.now c.in-Err.why
    c.in-Err.ensures.fits)

pub returns-in-Err-find_by_guess : goal.returns-in-Err-find_by_guess
returns-in-Err-find_by_guess c =
    let missing : IsMissing (λ s. receipt_cmp s c.args.receipt.now) (in_order c.self.inside.receipts) c.in-Err-find_by_guess.field-0 =
    subst (λ (r : Receipt). IsMissing (λ s. receipt_cmp s r) (in_order c.self.inside.receipts) c.in-Err-find_by_guess.field-0)
    c.new-sought.ensures c.in-Err-find_by_guess.ensures in
    let size : length (in_order c.self.inside.receipts) ≡ length c.self.inside.receipts.items =
    length_in_order c.self.inside.receipts c.self.invariant.arranged in
    let full : receipt_limit c.self.inside.config ≤ length (in_order c.self.inside.receipts) = omega arith in
    record {
      fits = subst (λ (h : HeldReceipts). Fits h c.args.receipt.now) c.self.view_is c.in_default.ensures.fits;
      unheld = λ has. missing_lacks (in_order c.self.inside.receipts) c.args.receipt.now c.in-Err-find_by_guess.field-0 missing
          (subst (λ (h : HeldReceipts). Contains h.held c.args.receipt.now) (sym c.self.view_is) has);
      full = subst (λ (h : HeldReceipts). receipt_limit h.config ≤ length h.held) c.self.view_is full;
    }

pub returns-in-Err-2 : goal.returns-in-Err-2
returns-in-Err-2 c =
    let missing : IsMissing (λ s. receipt_cmp s c.args.receipt.now) (in_order c.self.inside.receipts) c.in-Err-find_by_guess.field-0 =
    subst (λ (r : Receipt). IsMissing (λ s. receipt_cmp s r) (in_order c.self.inside.receipts) c.in-Err-find_by_guess.field-0)
    c.new-sought.ensures c.in-Err-find_by_guess.ensures in
    let size : length (in_order c.self.inside.receipts) ≡ length c.self.inside.receipts.items =
    length_in_order c.self.inside.receipts c.self.invariant.arranged in
    let few : length (in_order c.self.inside.receipts) < receipt_limit c.self.inside.config = omega arith in
    record {
      is = c.check_fit.ensures.form;
      fits = subst (λ (h : HeldReceipts). Fits h c.args.receipt.now) c.self.view_is c.in_default.ensures.fits;
      unheld = λ has. missing_lacks (in_order c.self.inside.receipts) c.args.receipt.now c.in-Err-find_by_guess.field-0 missing
          (subst (λ (h : HeldReceipts). Contains h.held c.args.receipt.now) (sym c.self.view_is) has);
      few = subst (λ (h : HeldReceipts). length h.held < receipt_limit h.config) c.self.view_is few;
      missing = subst (λ (h : HeldReceipts). IsMissing (λ s. receipt_cmp s c.args.receipt.now) h.held c.in-Err-find_by_guess.field-0) c.self.view_is missing;
    }
