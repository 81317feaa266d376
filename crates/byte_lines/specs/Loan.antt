-- What a buffer is like once the line that it lent is given back.
use Rattle.std.specs.Borrow.{MutBor, Fml}
use Rattle.std.specs.Io.BufRead.{Rests}
use Rattle.byte_lines.specs.declared.line_buf.LineBuf.{LineBuf}
use Rattle.byte_lines.specs.contracts.line_buf.LineBuf.{the_row}

-- `is_so` holds of the buffer behind `lender` once nothing of it is lent any more
abbrev pub IsGivenBack : MutBor LineBuf → (LineBuf → Type 0) → Fml
IsGivenBack lender is_so = Rests the_row lender is_so
