use Rattle.std.proofs.Common.{◌≡◌, sym, subst}
use Rattle.std.specs.Prelude.{Contains, ◌↔◌}
use Rattle.fed_config.specs.Configuration.{Configuration}
use Rattle.receipt_core.specs.Acceptance.{Meaning}
use Rattle.receipt_core.specs.Receipt.{Receipt}
use Rattle.closure_core.specs.Alike.{IsSameTrust}
use Rattle.migration.specs.Carry.{chosen_receipts}
use Rattle.migration.specs.declared.carrying.Choice.{Choice}
use Rattle.migration.specs.declared.carrying.Choice.TheVariants.{All, RecordsOnly}
use Rattle.closure_core.proofs.AlikeFacts.{domain_alike, same_turned}
use Rattle.closure_core.proofs.AlikeFacts.{fits_alike}
use Rattle.migration.proofs.laws.one_migration.Goals as goal

-- The same receipts are chosen from equal sets.
chosen_alike : (choice : Choice) (one other : Meaning) → ((r : Receipt) → (Contains one.held r ↔ Contains other.held r))
    → (r : Receipt) → (Contains (chosen_receipts choice one) r ↔ Contains (chosen_receipts choice other) r)
chosen_alike All one other same r = same r
chosen_alike RecordsOnly one other same r = (λ h. h, λ h. h)

-- What was carried over has the same relationships, seeds and floors as its configuration.
carried_trust : (c d : Configuration) (new newer : Meaning) → IsSameTrust c d → new.config ≡ c → newer.config ≡ d
    → IsSameTrust new.config newer.config
carried_trust c d new newer same e f =
    subst (λ (k : Configuration). IsSameTrust k newer.config) (sym e) (subst (IsSameTrust c) (sym f) same)

pub returns : goal.returns
returns g choice c d one other new newer same same_receipts same_records p q =
    let chosen = chosen_alike choice one other same_receipts in
    let back = same_turned c d same in
    record {
      trust = carried_trust c d new newer same p.config q.config;
      held = g.one_list.ensures.receipts new.held newer.held p.valid.rising q.valid.rising (λ r. (
        λ h. let both = (p.receipts r).0 h in (q.receipts r).1 ((chosen r).0 both.0, fits_alike c d same r both.1),
        λ h. let both = (q.receipts r).0 h in (p.receipts r).1 ((chosen r).1 both.0, fits_alike d c back r both.1),
      ));
      records = g.one_list.ensures.records new.records newer.records p.valid.records_rising q.valid.records_rising (λ x. (
        λ h. let both = (p.records x).0 h in (q.records x).1 ((same_records x).0 both.0, domain_alike c d same x.domain both.1),
        λ h. let both = (q.records x).0 h in (p.records x).1 ((same_records x).1 both.0, domain_alike d c back x.domain both.1),
      ));
    }
