use Rattle.std.proofs.Common.{◌≡◌, ◌∙◌, sym, ap, ap₂, subst, length, List, ℕ}
use Rattle.closure_parts.specs.Held.{HeldReceipts, domains_of}
use Rattle.closure_core.specs.Inside.Records.{AreWithin, distrusts_of}
use Rattle.closure_parts.proofs.ConfigFacts.{one_domains}
use Rattle.closure_parts.proofs.held.Held.distrusts.Goals as goal

pub new-requires : goal.new-requires
new-requires c =
    let names : c.domains.result.now ≡ domains_of c.self.inside.config = one_domains c.self.inside.config c.domains.result.now c.domains.ensures.all in
    subst (λ (ds : List (List ℕ)). AreWithin (length ds) c.as_slice.result.now) (sym names)
    (subst (AreWithin (length (domains_of c.self.inside.config))) (sym c.as_slice.ensures.records) c.self.invariant.within)

pub returns : goal.returns
returns c =
    let names : c.domains.result.now ≡ domains_of c.self.inside.config = one_domains c.self.inside.config c.domains.result.now c.domains.ensures.all in
    c.new.ensures ∙ ap₂ distrusts_of names c.as_slice.ensures.records ∙ ap (λ (h : HeldReceipts). h.records) c.self.view_is
