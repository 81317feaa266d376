-- How many members an object has.
use Rattle.std.proofs.Common.{◌≡◌, ◌↔◌, ℕ, suc, List, [], ◌∷◌, length, sym, ap, ◌∙◌, refl, Some, ◌==◌, String, Global}
use Rattle.std.specs.Bool.{IsTrue}
use Rattle.std.proofs.lemmas.Bool.Decides.{Decides-eqb}
use Rattle.serde_json.specs.Data.{Data}
use Rattle.serde_json.specs.Find.{as_object}
use Rattle.serde_json.specs.View.{members_view}
use Rattle.serde_json.specs.declared.value.Value.{Value}
use Rattle.fed_config.specs.Written.{member_count, HasCount}

-- an object in memory has the same number of members and of entries
pub member_count-members : (es : List (String Global × Value)) → member_count (members_view es) ≡ length es
member_count-members [] = refl
member_count-members (e ∷ es) = ap suc (member_count-members es)

-- the test of the number of entries decides the number of members
pub counted : (tree : Data) (es : List (String Global × Value)) (n count : ℕ) → Some (members_view es) ≡ as_object tree
    → n ≡ length es → IsTrue (n == count) ↔ HasCount tree count
counted tree es n count is len = (
  λ h. (members_view es, sym is, member_count-members es ∙ sym len ∙ (Decides-eqb n count).0 h),
  λ h. let same : members_view es ≡ h.0 = (let both : Some (members_view es) ≡ Some h.0 = is ∙ h.1 in cc) in
      (Decides-eqb n count).1 (len ∙ sym (member_count-members es) ∙ ap member_count same ∙ h.2),
)
