-- What a clause reads of the head that came.
use Rattle.std.specs.Prelude.{ℕ, List}
use Rattle.health_pages.specs.declared.head_bytes.HeadBytes.{HeadBytes}

abbrev pub head_bytes_come : HeadBytes → List ℕ
head_bytes_come head = head.bytes.items
