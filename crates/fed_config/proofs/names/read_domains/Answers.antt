use Rattle.std.proofs.Common.{sym, subst}
use Rattle.spiffe_name.specs.TrustDomain.{IsDomainText}
use Rattle.fed_config.specs.Inside.Entries.{seed_text}
use Rattle.fed_config.specs.Reading.{SaysDomain}
use Rattle.fed_config.proofs.ZipFacts.{zip_more}
use Rattle.fed_config.proofs.names.read_domains.Goals as goal

pub loop-entry-preserved : goal.loop-entry-preserved
loop-entry-preserved c =
    rw c.in_ok-push.ensures.items (zip_more (λ e domain. SaysDomain (seed_text e) domain) c.args.entries.now
    c.loop-entry.domains.items c.loop-entry.entry-index c.entry-item.result c.in_ok-domain_of.field-0
    c.loop-entry-test.true c.entry-item.is c.loop-entry.invariant
    (record {
      same = c.in_ok-domain_of.ensures.0;
      is =
          subst IsDomainText (sym c.in_ok-domain_of.ensures.0) c.in_ok-domain_of.ensures.1;
    }))
