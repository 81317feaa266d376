-- What a clause reads of the devices that fail after a number of calls.
use Rattle.std.specs.Prelude.{ℕ, Bool}
use Rattle.byte_lines.specs.declared.fuse_source.FuseSource.{FuseSource}
use Rattle.byte_lines.specs.declared.fuse_sink.FuseSink.{FuseSink}

-- the device inside
abbrev pub source_of : {S : Type 0} → FuseSource S → S
source_of fuse = fuse.inner

-- how many reads it still passes on
abbrev pub reads_left : {S : Type 0} → FuseSource S → ℕ
reads_left fuse = fuse.calls_left

-- whether a read came after the last one that it passes on
abbrev pub source_blew : {S : Type 0} → FuseSource S → Bool
source_blew fuse = fuse.blown

-- the device inside
abbrev pub sink_of : {W : Type 0} → FuseSink W → W
sink_of fuse = fuse.inner

-- how many writes it still passes on
abbrev pub writes_left : {W : Type 0} → FuseSink W → ℕ
writes_left fuse = fuse.calls_left

-- whether a write came after the last one that it passes on
abbrev pub sink_blew : {W : Type 0} → FuseSink W → Bool
sink_blew fuse = fuse.blown
