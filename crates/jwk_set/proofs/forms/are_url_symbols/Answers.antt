use Rattle.std.proofs.Common.{◌≡◌, sym, ap, ◌∙◌}
use Rattle.std.proofs.lemmas.List.{take_all}
use Rattle.std.specs.List.{list_all}
use Rattle.std.proofs.lemmas.List.Folds.{list_all_more}
use Rattle.std.proofs.lemmas.List.Sums.{AllPass-from_list_all, list_all-from_AllPass}
use Rattle.jwk_set.specs.Forms.{is_url_symbol as url_symbol}
use Rattle.jwk_set.proofs.forms.are_url_symbols.Goals as goal

pub loop-b-preserved : goal.loop-b-preserved
loop-b-preserved c =
    rw (c.loop-b.invariant, c.is_url_symbol-passed.ensures)
    (sym (list_all_more url_symbol c.args.text.now c.loop-b.b-index 0 c.loop-b-test.true))

pub returns : goal.returns
returns c =
    let whole : c.loop-b.passed ≡ list_all url_symbol c.args.text.now =
    c.loop-b.invariant ∙ ap (list_all url_symbol) (take_all c.loop-b.b-index c.args.text.now c.loop-b-test.false) in (
      λ passed. AllPass-from_list_all url_symbol c.args.text.now (sym whole ∙ passed),
      λ all. whole ∙ list_all-from_AllPass url_symbol c.args.text.now all,
    )
