use Rattle.std.proofs.Common.{refl}
use Rattle.fed_config.proofs.relationship.is_plain_https.Goals as goal

pub returns : goal.returns
returns c = (
  λ h. (
    c.if-not-is_https.ensures.0 refl,
    c.if-not-has_no_user_name.ensures.0 refl,
    c.has_no_password.ensures.0 h,
  ),
  λ h. c.has_no_password.ensures.1 h.2,
)
