use Rattle.std.proofs.Common.{sym}
use Rattle.serde_json.specs.View.{view}
use Rattle.fault_view.proofs.ignored_keys.is_ignored.Goals as goal

pub returns-in-Some : goal.returns-in-Some
returns-in-Some c = λ h. (view c.in-Some.element.now, sym c.in-Some.ensures, c.says_none.ensures h)
