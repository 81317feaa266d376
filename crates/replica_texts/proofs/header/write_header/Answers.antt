use Rattle.std.proofs.Common.{◌++◌, ap, ◌∙◌}
use Rattle.std.specs.Prelude.{decimal}
use Rattle.hex.specs.Hex.{encode_lower}
use Rattle.replica_texts.specs.Snapshots.{digits_of, version_of}
use Rattle.replica_texts.proofs.HeaderFacts.{header_pushed}
use Rattle.replica_texts.proofs.header.write_header.Goals as goal

pub returns : goal.returns
returns c =
    header_pushed _ _ _ _ _ _ (digits_of c.args.config.now) (decimal (version_of c.args.format))
    c.new-text.ensures.items c.in_ok-extend_from_slice.ensures.items
    (c.in_ok-push_digits.ensures ∙ ap (λ d. c.extend_from_slice.new.self.items ++ encode_lower d) c.digest.ensures) c.in_ok-extend_from_slice-2.ensures.items
    (c.in_ok-push_number.ensures ∙ ap (λ v. c.extend_from_slice-2.new.self.items ++ decimal v) c.version.ensures) c.in_ok-extend_from_slice-3.ensures.items
