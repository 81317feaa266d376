use Rattle.std.proofs.Common.{◌≡◌, ◌∙◌, sym}
use Rattle.std.specs.Cmp.Lexicographic.{same_text}
use Rattle.spiffe_name.proofs.IdFacts.{one_value}
use Rattle.bundle_view.proofs.observation.check_endpoint.Goals as goal

pub returns-then-eq : goal.returns-then-eq
returns-then-eq c =
    let texts : c.as_str.result.now ≡ c.as_str-2.result.now = same_text c.as_str.result.now c.as_str-2.result.now c.if-eq.ensures in
    record {
      relationship = c.in-Some.relationship.now;
      found = c.in-Some.ensures;
      endpoint_is = one_value c.in-Some.relationship.now.endpoint c.args.endpoint.now c.as_str.ensures.valid c.as_str-2.ensures.valid
          (sym c.as_str.ensures.text ∙ texts ∙ c.as_str-2.ensures.text);
    }
