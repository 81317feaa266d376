use Rattle.std.proofs.Common.{◌≡◌, ◌∙◌, ap, sym, subst}
use Rattle.serde_json.specs.Data.{object}
use Rattle.serde_json.specs.View.{view}
use Rattle.serde_json.proofs.Views.{view-Object}
use Rattle.serde_json.specs.declared.value.Value.{Object}
use Rattle.jwk_set.specs.Element.{IsElement, tree_of}
use Rattle.jwk_set.proofs.TreeFacts.{IsElement-tree_of}
use Rattle.jwk_set.proofs.authority.Authority.to_value.Goals as goal

-- the object that was made is the element of the authority
written : (c : goal.In_ok-members_of) → view (Object c.in_ok-members_of.field-0) ≡ tree_of c.args.self.now
written c = view-Object c.in_ok-members_of.field-0 ∙ ap object c.in_ok-members_of.ensures.members

pub returns-clause-tree : goal.returns-clause-tree
returns-clause-tree c = written c

pub returns-clause-reads_back : goal.returns-clause-reads_back
returns-clause-reads_back c =
    subst (λ d. IsElement d c.args.self.now) (sym (written c)) (IsElement-tree_of c.args.self.now c.in_ok-members_of.ensures.form)
