use Rattle.std.proofs.Common.{◌≡◌, drop, map}
use Rattle.std.specs.List.{list_any}
use Rattle.httparse.specs.Spans.{header_bytes}
use Rattle.health_pages.specs.Heads.{is_cross_site}
use Rattle.health_pages.proofs.head_fields.has_cross_site.Given as goal

abbrev pub invariant-fields : goal.invariant-fields
invariant-fields l =
    list_any is_cross_site (map (header_bytes l.head) (drop l.field-index l.fields)) ≡ list_any is_cross_site (map (header_bytes l.head) l.fields)
