use Rattle.bundle_doc.proofs.HexFacts.{IsPlainText-hex}
use Rattle.bundle_doc.proofs.laws.hex_texts.Goals as goal

pub returns : goal.returns
returns c = IsPlainText-hex
