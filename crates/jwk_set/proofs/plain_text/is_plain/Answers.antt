use Rattle.std.proofs.Common.{◌≡◌, sym, ap, ◌∙◌}
use Rattle.std.proofs.lemmas.List.{take_all}
use Rattle.std.specs.List.{list_all}
use Rattle.std.proofs.lemmas.List.Folds.{list_all_more}
use Rattle.std.proofs.lemmas.List.Sums.{AllPass-from_list_all, list_all-from_AllPass}
use Rattle.jwk_set.specs.Json.{is_unescaped}
use Rattle.jwk_set.proofs.plain_text.is_plain.Goals as goal

pub loop-byte-preserved : goal.loop-byte-preserved
loop-byte-preserved c =
    rw (c.loop-byte.invariant, c.is_plain_byte-passed.ensures)
    (sym (list_all_more is_unescaped c.args.text.now c.loop-byte.byte-index 0 c.loop-byte-test.true))

pub returns : goal.returns
returns c =
    let whole : c.loop-byte.passed ≡ list_all is_unescaped c.args.text.now =
    c.loop-byte.invariant ∙ ap (list_all is_unescaped) (take_all c.loop-byte.byte-index c.args.text.now c.loop-byte-test.false) in (
      λ passed. AllPass-from_list_all is_unescaped c.args.text.now (sym whole ∙ passed),
      λ all. whole ∙ list_all-from_AllPass is_unescaped c.args.text.now all,
    )
