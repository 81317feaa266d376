use Rattle.std.proofs.Common.{sym, subst, option_map}
use Rattle.std.specs.List.{Contains}
use Rattle.std.specs.List.Sorted.{IsStrictlySortedBy}
use Rattle.std.proofs.lemmas.Result.{err_from_is_err_and}
use Rattle.serde_json.specs.View.{view}
use Rattle.spiffe_name.specs.TrustDomain.{IsDomainText}
use Rattle.fed_config.specs.Configuration.{domain_cmp}
use Rattle.fed_config.specs.Inside.Entries.{seed_text}
use Rattle.fed_config.specs.Reading.{HasName}
use Rattle.fed_config.specs.UnknownFloors.{FindsFailing}
use Rattle.fed_config.proofs.MeaningFacts.{finds_unknown, no_names, no_shape}
use Rattle.fed_config.proofs.ReadFacts.{each_at_slice, read_slices, written}
use Rattle.fed_config.proofs.ZipFacts.{each_map}
use Rattle.fed_config.proofs.floor.unknown_floor.Goals as goal

pub returns-in_err-entries : goal.returns-in_err-entries
returns-in_err-entries c =
    let p = err_from_is_err_and c.from_residual.result c.from_residual.ensures.1 in
    rw (p.1, p.2) (no_shape _ _ c.in_err-entries.ensures.said)

pub returns-in_err-names : goal.returns-in_err-names
returns-in_err-names c =
    let p = err_from_is_err_and c.from_residual-in_err-names.result c.from_residual-in_err-names.ensures.1 in
    rw (p.1, p.2) (no_names (view c.args.value.now)
    (written c.in_ok-entries.entries.relationships.items c.in_ok-entries.entries.seeds.items c.in_ok-entries.entries.floors.items)
    _ _ c.in_ok-entries.ensures.said c.in_err-names.ensures
    (λ h. each_at_slice HasName c.as_slice.result.now c.in_ok-entries.entries.relationships.items c.as_slice.ensures.value h.relationships))

pub returns-in_err-seeds : goal.returns-in_err-seeds
returns-in_err-seeds c =
    let p = err_from_is_err_and c.from_residual-in_err-seeds.result c.from_residual-in_err-seeds.ensures.1 in
    rw (p.1, p.2) (no_names (view c.args.value.now)
    (written c.in_ok-entries.entries.relationships.items c.in_ok-entries.entries.seeds.items c.in_ok-entries.entries.floors.items)
    _ _ c.in_ok-entries.ensures.said c.in_err-seeds.ensures
    (λ h. each_at_slice (λ e. IsDomainText (seed_text e).domain) c.as_slice-2.result.now c.in_ok-entries.entries.seeds.items
    c.as_slice-2.ensures.value (each_map (λ t. IsDomainText t.domain) seed_text c.in_ok-entries.entries.seeds.items h.seeds)))

pub first_unknown-requires : goal.first_unknown-requires
first_unknown-requires c = subst (IsStrictlySortedBy domain_cmp) (sym c.as_slice-6.ensures.value) c.in_ok-domains.ensures.rising

pub returns : goal.returns
returns c =
    finds_unknown (view c.args.value.now) c.in_ok-entries.entries.relationships.items c.in_ok-entries.entries.seeds.items
    c.in_ok-entries.entries.floors.items c.in_ok-names.names.items c.in_ok-seeds.seeds.items c.in_ok-domains.domains.items
    (read_slices c.in_ok-entries.entries.relationships.items c.as_slice.result.now c.in_ok-entries.entries.seeds.items c.as_slice-2.result.now
    c.in_ok-names.names.items c.as_slice-3.result.now c.in_ok-seeds.seeds.items c.as_slice-4.result.now
    c.in_ok-domains.domains.items c.as_slice.ensures.value c.as_slice-2.ensures.value c.as_slice-3.ensures.value
    c.as_slice-4.ensures.value c.in_ok-names.ensures c.in_ok-seeds.ensures c.in_ok-domains.ensures)
    c.one_reading.ensures c.in_ok-entries.ensures.said _
    (subst (λ fs. FindsFailing (Contains c.in_ok-domains.domains.items) fs (option_map (λ name. name.now) c.first_unknown.result))
    c.as_slice-5.ensures.value
    (subst (λ ds. FindsFailing (Contains ds) c.as_slice-5.result.now (option_map (λ name. name.now) c.first_unknown.result))
    c.as_slice-6.ensures.value c.first_unknown.ensures))
