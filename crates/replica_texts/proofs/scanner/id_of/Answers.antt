use Rattle.std.proofs.Common.{subst, sym}
use Rattle.receipt_core.specs.Receipt.{IsDigest}
use Rattle.receipt_core.proofs.HexFacts.{AreOctets-from_reads}
use Rattle.replica_texts.proofs.scanner.id_of.Goals as goal

pub returns-clause-form : goal.returns-clause-form
returns-clause-form c = subst IsDigest (sym c.config_id.ensures)
    (record { size = c.told-digest; octets = AreOctets-from_reads c.args.digest.now c.fits-digest })
