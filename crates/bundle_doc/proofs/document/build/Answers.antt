use Rattle.std.proofs.Common.{◌≡◌, ◌∙◌, length, string_bytes}
use Rattle.bundle_doc.proofs.BuildFacts.{IsBuilt, IsBundleOf-built, IsKept-built, fits-built, too_long-built}
use Rattle.bundle_doc.proofs.document.build.Goals as goal

pub returns-then-len-gt-MAX_DOCUMENT_BYTES : goal.returns-then-len-gt-MAX_DOCUMENT_BYTES
returns-then-len-gt-MAX_DOCUMENT_BYTES c =
    let built : IsBuilt c.args.contents.found.entries c.args.contents.rank c.args.contents.hint
    c.in_ok-authorities.authorities.items (string_bytes c.in_ok-authorities.canonical)
    (string_bytes c.write_numbers.new.out) = record {
      entries = c.requires.entries;
      authorities_are = c.in_ok-authorities.ensures.authorities;
      rising = c.in_ok-authorities.ensures.rising;
      keys_are = c.in_ok-authorities.ensures.text;
      out_is = c.in_ok-write_numbers.ensures;
      rank_fits = c.requires.rank_fits;
      hint_fits = c.requires.hint_fits;
    } in
    too_long-built _ _ _ _ _ _ built c.len.result (c.len.ensures ∙ c.write_numbers.new.out.bytes.ok.0) c.if-len-gt-MAX_DOCUMENT_BYTES.true

-- what was written, within the limit, is that of the entries and the numbers
built : (c : goal.Else-len-gt-MAX_DOCUMENT_BYTES)
    → IsBuilt c.args.contents.found.entries c.args.contents.rank c.args.contents.hint
    c.in_ok-authorities.authorities.items (string_bytes c.in_ok-authorities.canonical)
    (string_bytes c.write_numbers.new.out)
built c = record {
  entries = c.requires.entries;
  authorities_are = c.in_ok-authorities.ensures.authorities;
  rising = c.in_ok-authorities.ensures.rising;
  keys_are = c.in_ok-authorities.ensures.text;
  out_is = c.in_ok-write_numbers.ensures;
  rank_fits = c.requires.rank_fits;
  hint_fits = c.requires.hint_fits;
}

-- the length that is compared with the limit is that of the text
measured : (c : goal.Else-len-gt-MAX_DOCUMENT_BYTES) → c.len.result ≡ length (string_bytes c.write_numbers.new.out)
measured c = c.len.ensures ∙ c.write_numbers.new.out.bytes.ok.0

pub invariant_of-result : goal.invariant_of-result
invariant_of-result c = IsKept-built _ _ _ _ _ _ (built c) c.len.result (measured c) c.if-len-gt-MAX_DOCUMENT_BYTES.false

pub returns : goal.returns
returns c = (IsBundleOf-built _ _ _ _ _ _ (built c), fits-built _ _ _ _ _ _ (built c) c.len.result (measured c) c.if-len-gt-MAX_DOCUMENT_BYTES.false)
