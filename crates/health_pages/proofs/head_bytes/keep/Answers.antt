use Rattle.std.proofs.Common.{◌≡◌, ◌++◌, ◌∙◌, ap, arith, length, subst, sym, take}
use Rattle.std.proofs.lemmas.List.{take-append-le, take_all}
use Rattle.health_pages.specs.HeadEnds.{EndsAt}
use Rattle.health_pages.proofs.head_bytes.keep.Goals as goal

pub end_with-requires-clause-known : goal.end_with-requires-clause-known
end_with-requires-clause-known c =
    let was = c.args.bytes.now.items in
    let size : c.len-seen.result ≡ length was = omega (arith, c.len-seen.ensures) in
    let all : c.as_slice.result.now ≡ was ++ c.args.piece.now = c.as_slice.ensures.value ∙ c.in_ok-extend_from_slice.ensures.items in
    let first : take c.len-seen.result c.as_slice.result.now ≡ was =
    (λ i. take (size i) (all i)) ∙ take-append-le (length was) was c.args.piece.now (omega arith) ∙ take_all (length was) was (omega arith) in
    subst (λ l. EndsAt l c.args.end.now) (sym first) c.requires

pub returns-clause-kept : goal.returns-clause-kept
returns-clause-kept c =
    (c.in_ok-extend_from_slice.ensures.items, subst (λ l. EndsAt l c.end_with.result) c.as_slice.ensures.value c.end_with.ensures)
