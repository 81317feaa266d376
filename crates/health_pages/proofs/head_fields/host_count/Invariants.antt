use Rattle.std.proofs.Common.{◌≡◌, ◌+◌, ◌≤◌, codes, count_by, drop, map}
use Rattle.httparse.specs.Spans.{header_bytes}
use Rattle.health_pages.specs.Heads.{has_field_name}
use Rattle.health_pages.proofs.head_fields.host_count.Given as goal

abbrev pub invariant-fields : goal.invariant-fields
invariant-fields l =
    (l.count ≤ l.field-index)
    × (l.count + count_by (λ field. has_field_name (codes "host") field.0) (map (header_bytes l.head) (drop l.field-index l.fields))
    ≡ count_by (λ field. has_field_name (codes "host") field.0) (map (header_bytes l.head) l.fields))
