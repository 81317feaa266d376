use Rattle.receipt_core.proofs.HexFacts.{AreOctets-from_reads}
use Rattle.local_answers.proofs.new_lines.key_of.Goals as goal

pub returns : goal.returns
returns c = record { size = c.told-digest; octets = AreOctets-from_reads c.args.digest.now c.fits-digest }
