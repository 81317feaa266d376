-- Bytes that were read from a connection and are taken later.
use Rattle.std.specs.Prelude.{ℕ, List, drop}
use Rattle.peer_talks.specs.declared.unread_bytes.UnreadBytes.{UnreadBytes}

-- the bytes that were not taken yet, in their order
abbrev pub untaken : UnreadBytes → List ℕ
untaken unread = drop unread.used unread.bytes.items
