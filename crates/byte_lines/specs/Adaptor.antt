-- What a clause reads of the devices that are made of std's readers and writers.
use Rattle.std.specs.Prelude.{ℕ, Bool, ◌-◌, ◌^◌}
use Rattle.byte_lines.specs.declared.from_read.FromRead.{FromRead}
use Rattle.byte_lines.specs.declared.from_write.FromWrite.{FromWrite}

-- the reader inside
abbrev pub reader_of : {R : Type 0} → FromRead R → R
reader_of source = source.reader

-- how many bytes it may still give, of 2^64 - 1 in all
abbrev pub bytes_allowed : {R : Type 0} → FromRead R → ℕ
bytes_allowed source = 2 ^ 64 - 1 - source.count

-- whether a read failed
abbrev pub reader_failed : {R : Type 0} → FromRead R → Bool
reader_failed source = source.failed

-- the writer inside
abbrev pub writer_of : {W : Type 0} → FromWrite W → W
writer_of sink = sink.writer

-- whether a write failed
abbrev pub writer_failed : {W : Type 0} → FromWrite W → Bool
writer_failed sink = sink.failed
