use Rattle.std.proofs.Common.{◌≡◌, drop, map}
use Rattle.std.specs.List.{list_all}
use Rattle.httparse.specs.Spans.{header_bytes}
use Rattle.health_pages.specs.Heads.{is_bodiless}
use Rattle.health_pages.proofs.head_fields.are_bodiless.Given as goal

abbrev pub invariant-fields : goal.invariant-fields
invariant-fields l =
    list_all is_bodiless (map (header_bytes l.head) (drop l.field-index l.fields)) ≡ list_all is_bodiless (map (header_bytes l.head) l.fields)
