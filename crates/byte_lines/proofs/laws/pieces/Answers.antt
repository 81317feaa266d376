use Rattle.std.proofs.KnownBytes.{Appends-nil, Appends-trans}
use Rattle.byte_lines.proofs.PieceFacts.{AppendsBeginning-first, AppendsBeginning-second}
use Rattle.byte_lines.proofs.laws.pieces.Goals as goal

pub returns : goal.returns
returns c = record { none = Appends-nil; both = Appends-trans; in_first = AppendsBeginning-first; in_second = AppendsBeginning-second }
