use Rattle.std.proofs.Common.{◌≡◌, ◌++◌, ◌==◌, not, refl, sym, ap, ◌∙◌, subst, vec_len, string_bytes, lit<}
use Rattle.std.specs.List.Sorted.{IsStrictlySortedBy}
use Rattle.serde_json.specs.Written.{comma_if}
use Rattle.bundle_doc.specs.Bundle.{text_cmp}
use Rattle.bundle_doc.specs.Entries.{authorities_of, keys_text}
use Rattle.bundle_doc.proofs.EntryFacts.{rising_texts, Writes-next, Writes-end}
use Rattle.bundle_doc.proofs.elements.write_elements.Goals as goal

pub loop-text-init : goal.loop-text-init
loop-text-init c = record {
  entries = rw c.into_iter-text-iterator.ensures.into_iter_gives.0 c.requires;
  kept = rw c.in_ok-authorities.ensures.items refl;
  written = rw (c.in_ok-push_str.ensures.bytes, c.in_ok-out.ensures.bytes, c.in_ok-authorities.ensures.len) refl;
}

pub loop-text-preserved : goal.loop-text-preserved
loop-text-preserved c =
    let text : string_bytes c.write_element.new.out ≡ string_bytes c.loop-text.out ++
    (comma_if (not (vec_len c.loop-text.authorities == 0)) ++ string_bytes c.in-Some.text) =
    rw (← c.is_empty.ensures, ← c.as_str.ensures.value) c.in_ok-write_element.ensures in
    Writes-next (c.in-Some.text, c.in-Some.authority) c.loop-text.text-iterator c.next.new.self c.loop-text.authorities.items c.push.new.self.items
    (vec_len c.loop-text.authorities) (vec_len c.push.new.self) (string_bytes c.loop-text.out)
    (string_bytes c.write_element.new.out) c.into_iter-text-iterator.result
    c.loop-text.invariant c.in-Some.ensures.steps c.in_ok-push.ensures.items c.in_ok-push.ensures.len text

pub returns-clause-authorities : goal.returns-clause-authorities
returns-clause-authorities c =
    (Writes-end c.loop-text.text-iterator c.loop-text.authorities.items (vec_len c.loop-text.authorities)
    (string_bytes c.loop-text.out) c.into_iter-text-iterator.result c.loop-text.invariant
    c.in-None.ensures.steps.0).0
    ∙ ap authorities_of c.into_iter-text-iterator.ensures.into_iter_gives.0

pub returns-clause-text : goal.returns-clause-text
returns-clause-text c =
    c.in_ok-push-2.ensures.bytes
    ∙ ap (λ t. string_bytes c.loop-text.out ++ t) (c.in_ok-push-2.ensures.ascii (lit< tt))
    ∙ (Writes-end c.loop-text.text-iterator c.loop-text.authorities.items (vec_len c.loop-text.authorities)
    (string_bytes c.loop-text.out) c.into_iter-text-iterator.result c.loop-text.invariant
    c.in-None.ensures.steps.0).1
    ∙ ap (λ es. keys_text (authorities_of es)) c.into_iter-text-iterator.ensures.into_iter_gives.0

pub returns-clause-rising : goal.returns-clause-rising
returns-clause-rising c =
    subst (IsStrictlySortedBy text_cmp) (sym (returns-clause-authorities c))
    (rising_texts c.args.found.entries c.requires c.into_iter-text-iterator.ensures.into_iter_gives.5)
