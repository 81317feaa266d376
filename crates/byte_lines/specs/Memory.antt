-- What a clause reads of the devices over memory.
use Rattle.std.specs.Prelude.{ℕ, List, Bool, ◌-◌, ◌^◌, drop}
use Rattle.byte_lines.specs.declared.mem_source.MemSource.{MemSource}
use Rattle.byte_lines.specs.declared.mem_sink.MemSink.{MemSink}

-- the bytes that were not read yet
abbrev pub unread_bytes : MemSource → List ℕ
unread_bytes source = drop source.position source.bytes.items

-- at most this many bytes still come
abbrev pub unread_limit : MemSource → ℕ
unread_limit source = 2 ^ 64 - 1 - source.position

-- the bytes that were written
abbrev pub written_bytes : MemSink → List ℕ
written_bytes sink = sink.bytes.items

-- how many bytes it takes in all
abbrev pub sink_room : MemSink → ℕ
sink_room sink = sink.room

-- whether a write came while it was full
abbrev pub overran : MemSink → Bool
overran sink = sink.failed
