use Rattle.serde_json.specs.View.{view}
use Rattle.jwk_set.specs.Element.{IsElement}
use Rattle.jwk_set.proofs.ElementFacts.{form_of}
use Rattle.bundle_doc.proofs.EntryFacts.{AddsElement-insert_entry}
use Rattle.bundle_doc.proofs.elements.add_element.Goals as goal

pub returns : goal.returns
returns c =
    let is : IsElement (view c.args.element.now) c.in-Some.authority = rw c.in-Some.is at c.in_ok-authority.ensures in
    let form = form_of (view c.args.element.now) c.in-Some.authority is in
    rw c.in_ok-insert.ensures.entries
    (AddsElement-insert_entry c.args.found.now.entries c.in_ok-text.text c.in-Some.authority
    (view c.args.element.now) (c.in_ok-text.ensures, form) is)
