use Rattle.receipt_core.proofs.HexFacts.{AreOctets-from_reads}
use Rattle.closure_core.proofs.record.record_of.Goals as goal

pub returns-clause-form : goal.returns-clause-form
returns-clause-form c = record { size = c.told-digest; octets = AreOctets-from_reads c.args.digest.now c.fits-digest }
