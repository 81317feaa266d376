use Rattle.std.proofs.Common.{◌≡◌, drop, map}
use Rattle.httparse.specs.Spans.{header_bytes}
use Rattle.health_pages.specs.Heads.{host_in}
use Rattle.health_pages.proofs.head_fields.host_in.Given as goal

abbrev pub invariant-fields : goal.invariant-fields
invariant-fields l =
    host_in (map (header_bytes l.head) (drop l.field-index l.fields)) ≡ host_in (map (header_bytes l.head) l.fields)
