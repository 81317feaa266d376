use Rattle.std.proofs.Common.{◌≡◌, ◌≤◌, ◌∙◌, sym, subst, refl}
use Rattle.std.specs.Result.{MatchResult}
use Rattle.std.specs.List.{AllByRecursion}
use Rattle.std.specs.List.Sorted.{IsStrictlySortedBy}
use Rattle.std.proofs.lemmas.Result.{err_from_is_err_and}
use Rattle.url.specs.Parts.{Parts}
use Rattle.bundle_doc.specs.Bundle.{Bundle, Means, Fits}
use Rattle.spiffe_name.specs.TrustDomain.{IsDomainText}
use Rattle.fed_config.specs.EndpointUrl.{IsParsed}
use Rattle.fed_config.specs.Configuration.{AreDomains, IsConfiguration, domain_cmp, floor_cmp, relationship_cmp}
use Rattle.fed_config.specs.Inside.Entries.{seed_text}
use Rattle.fed_config.specs.Reading.{Fails, HasFewDomains, HasName, HasRisingLists, IsProfile, SaysUrl}
use Rattle.fed_config.specs.Reading.{SaysSeedDocument}
use Rattle.fed_config.specs.declared.error.ConfigError.TheVariants.{BadName, BadUrl, BadSeed, TooMany}
use Rattle.fed_config.proofs.TextFacts.{config_of}
use Rattle.fed_config.proofs.ZipFacts.{each_map}
use Rattle.fed_config.proofs.ReadFacts.{written, exits, zip_at_slice, each_at_slice, map_length, read_slices, known_slices}
use Rattle.fed_config.proofs.ReadFacts.{unknown_slices, reach_slices, low_slices, bad_floor, bad_url, bad_profile, double, bad_seed}
use Rattle.fed_config.proofs.ReadFacts.{document_of, low_seed, too_many, are_seeds, domains_of, are_sets, finish}
use Rattle.fed_config.proofs.config.Config.from_entries.Goals as goal

pub returns-in_err-names : goal.returns-in_err-names
returns-in_err-names c = let p =
    err_from_is_err_and c.from_residual.result c.from_residual.ensures.1 in
    rw (p.1, p.2) (exits (written c.args.entries.now.relationships.items c.args.entries.now.seeds.items c.args.entries.now.floors.items) BadName _ _
    c.in_err-names.ensures (λ none. record {
      passed = tt;
      failed = λ h. none (each_at_slice HasName c.as_slice.result.now c.args.entries.now.relationships.items c.as_slice.ensures.value h.relationships);
    }))

pub returns-in_err-seed_domains : goal.returns-in_err-seed_domains
returns-in_err-seed_domains c = let p =
    err_from_is_err_and c.from_residual-in_err-seed_domains.result c.from_residual-in_err-seed_domains.ensures.1 in
    rw (p.1, p.2) (exits (written c.args.entries.now.relationships.items c.args.entries.now.seeds.items c.args.entries.now.floors.items) BadName _ _
    c.in_err-seed_domains.ensures (λ none. record {
      passed = tt;
      failed =
          λ h. none (each_at_slice (λ e. IsDomainText (seed_text e).domain) c.as_slice-2.result.now
          c.args.entries.now.seeds.items c.as_slice-2.ensures.value
          (each_map (λ t. IsDomainText t.domain) seed_text c.args.entries.now.seeds.items h.seeds));
    }))

pub read_floors-requires : goal.read_floors-requires
read_floors-requires c = subst (IsStrictlySortedBy domain_cmp) (sym c.as_slice-6.ensures.value) c.in_ok-domains.ensures.rising

pub returns-in_err-floors : goal.returns-in_err-floors
returns-in_err-floors c = let p =
    err_from_is_err_and c.from_residual-in_err-floors.result c.from_residual-in_err-floors.ensures.1 in
    rw (p.1, p.2) (exits (written c.args.entries.now.relationships.items c.args.entries.now.seeds.items c.args.entries.now.floors.items) BadName _ _
    c.in_err-floors.ensures (λ none. bad_floor c.args.entries.now.relationships.items c.args.entries.now.seeds.items c.args.entries.now.floors.items
    c.in_ok-names.names.items c.in_ok-seed_domains.seed_domains.items c.in_ok-domains.domains.items
    (read_slices c.args.entries.now.relationships.items c.as_slice.result.now c.args.entries.now.seeds.items c.as_slice-2.result.now
    c.in_ok-names.names.items c.as_slice-3.result.now c.in_ok-seed_domains.seed_domains.items c.as_slice-4.result.now c.in_ok-domains.domains.items
    c.as_slice.ensures.value c.as_slice-2.ensures.value c.as_slice-3.ensures.value c.as_slice-4.ensures.value
    c.in_ok-names.ensures c.in_ok-seed_domains.ensures c.in_ok-domains.ensures)
    c.one_reading.ensures (λ h. none (unknown_slices c.args.entries.now.floors.items c.as_slice-5.result.now c.in_ok-domains.domains.items
    c.as_slice-6.result.now c.as_slice-5.ensures.value c.as_slice-6.ensures.value h))))

pub returns-in_err-urls : goal.returns-in_err-urls
returns-in_err-urls c = let p =
    err_from_is_err_and c.from_residual-in_err-urls.result c.from_residual-in_err-urls.ensures.1 in
    rw (p.1, p.2) (exits (written c.args.entries.now.relationships.items c.args.entries.now.seeds.items c.args.entries.now.floors.items) BadUrl _ _
    c.in_err-urls.ensures (λ none. bad_url c.args.entries.now.relationships.items c.args.entries.now.seeds.items c.args.entries.now.floors.items
    c.in_ok-names.names.items c.in_ok-seed_domains.seed_domains.items c.in_ok-domains.domains.items
    (read_slices c.args.entries.now.relationships.items c.as_slice.result.now c.args.entries.now.seeds.items c.as_slice-2.result.now
    c.in_ok-names.names.items c.as_slice-3.result.now c.in_ok-seed_domains.seed_domains.items c.as_slice-4.result.now c.in_ok-domains.domains.items
    c.as_slice.ensures.value c.as_slice-2.ensures.value c.as_slice-3.ensures.value c.as_slice-4.ensures.value
    c.in_ok-names.ensures c.in_ok-seed_domains.ensures c.in_ok-domains.ensures)
    (known_slices c.args.entries.now.floors.items c.as_slice-5.result.now c.in_ok-domains.domains.items c.as_slice-6.result.now
    c.as_slice-5.ensures.value c.as_slice-6.ensures.value c.in_ok-floors.ensures.1)
    (λ h. none (each_at_slice (λ t. (parts : Parts) × IsParsed t.url parts) c.as_slice-7.result.now
    c.args.entries.now.relationships.items c.as_slice-7.ensures.value h))))

pub returns-then-not-have_profile : goal.returns-then-not-have_profile
returns-then-not-have_profile c =
    bad_profile c.args.entries.now.relationships.items c.args.entries.now.seeds.items c.args.entries.now.floors.items
    c.in_ok-names.names.items c.in_ok-seed_domains.seed_domains.items c.in_ok-domains.domains.items
    (read_slices c.args.entries.now.relationships.items c.as_slice.result.now c.args.entries.now.seeds.items c.as_slice-2.result.now
    c.in_ok-names.names.items c.as_slice-3.result.now c.in_ok-seed_domains.seed_domains.items c.as_slice-4.result.now c.in_ok-domains.domains.items
    c.as_slice.ensures.value c.as_slice-2.ensures.value c.as_slice-3.ensures.value c.as_slice-4.ensures.value
    c.in_ok-names.ensures c.in_ok-seed_domains.ensures c.in_ok-domains.ensures)
    (known_slices c.args.entries.now.floors.items c.as_slice-5.result.now c.in_ok-domains.domains.items c.as_slice-6.result.now
    c.as_slice-5.ensures.value c.as_slice-6.ensures.value c.in_ok-floors.ensures.1)
    c.in_ok-urls.urls.items
    (zip_at_slice SaysUrl c.as_slice-7.result.now c.args.entries.now.relationships.items c.in_ok-urls.urls.items
    c.as_slice-7.ensures.value c.in_ok-urls.ensures) (λ h. let stated =
    c.if-not-have_profile.ensures.1 (each_at_slice (λ t. IsProfile t.profile) c.as_slice-8.result.now
    c.args.entries.now.relationships.items c.as_slice-8.ensures.value h) in cc)

pub returns-then-not-are_single : goal.returns-then-not-are_single
returns-then-not-are_single c =
    double c.args.entries.now.relationships.items c.args.entries.now.seeds.items c.args.entries.now.floors.items
    c.in_ok-names.names.items c.in_ok-seed_domains.seed_domains.items c.in_ok-domains.domains.items
    (read_slices c.args.entries.now.relationships.items c.as_slice.result.now c.args.entries.now.seeds.items c.as_slice-2.result.now
    c.in_ok-names.names.items c.as_slice-3.result.now c.in_ok-seed_domains.seed_domains.items c.as_slice-4.result.now c.in_ok-domains.domains.items
    c.as_slice.ensures.value c.as_slice-2.ensures.value c.as_slice-3.ensures.value c.as_slice-4.ensures.value
    c.in_ok-names.ensures c.in_ok-seed_domains.ensures c.in_ok-domains.ensures)
    (known_slices c.args.entries.now.floors.items c.as_slice-5.result.now c.in_ok-domains.domains.items c.as_slice-6.result.now
    c.as_slice-5.ensures.value c.as_slice-6.ensures.value c.in_ok-floors.ensures.1)
    c.in_ok-urls.urls.items
    (zip_at_slice SaysUrl c.as_slice-7.result.now c.args.entries.now.relationships.items c.in_ok-urls.urls.items
    c.as_slice-7.ensures.value c.in_ok-urls.ensures)
    (subst (AllByRecursion (λ t. IsProfile t.profile)) c.as_slice-8.ensures.value
    (c.if-not-have_profile.ensures.0 refl)) c.in_ok-relationships.relationships.items c.in_ok-relationships.ensures
    c.sort_relationships.new.relationships.items c.sort_relationships.ensures.permutation
    c.sort_relationships.ensures.sorted (λ h. let stated =
    c.if-not-are_single.ensures.1 (subst (IsStrictlySortedBy relationship_cmp) (sym c.as_slice-9.ensures.value) h) in
    cc)

pub returns-in_err-documents : goal.returns-in_err-documents
returns-in_err-documents c = let p =
    err_from_is_err_and c.from_residual-in_err-documents.result c.from_residual-in_err-documents.ensures.1 in
    rw (p.1, p.2) (exits (written c.args.entries.now.relationships.items c.args.entries.now.seeds.items c.args.entries.now.floors.items) BadSeed _ _
    c.in_err-documents.ensures (λ none. bad_seed c.args.entries.now.relationships.items c.args.entries.now.seeds.items c.args.entries.now.floors.items
    c.in_ok-names.names.items c.in_ok-seed_domains.seed_domains.items c.in_ok-domains.domains.items
    (read_slices c.args.entries.now.relationships.items c.as_slice.result.now c.args.entries.now.seeds.items c.as_slice-2.result.now
    c.in_ok-names.names.items c.as_slice-3.result.now c.in_ok-seed_domains.seed_domains.items c.as_slice-4.result.now c.in_ok-domains.domains.items
    c.as_slice.ensures.value c.as_slice-2.ensures.value c.as_slice-3.ensures.value c.as_slice-4.ensures.value
    c.in_ok-names.ensures c.in_ok-seed_domains.ensures c.in_ok-domains.ensures)
    (known_slices c.args.entries.now.floors.items c.as_slice-5.result.now c.in_ok-domains.domains.items c.as_slice-6.result.now
    c.as_slice-5.ensures.value c.as_slice-6.ensures.value c.in_ok-floors.ensures.1)
    c.in_ok-urls.urls.items
    (zip_at_slice SaysUrl c.as_slice-7.result.now c.args.entries.now.relationships.items c.in_ok-urls.urls.items
    c.as_slice-7.ensures.value c.in_ok-urls.ensures)
    (subst (AllByRecursion (λ t. IsProfile t.profile)) c.as_slice-8.ensures.value
    (c.if-not-have_profile.ensures.0 refl)) c.in_ok-relationships.relationships.items c.in_ok-relationships.ensures
    c.sort_relationships.new.relationships.items c.sort_relationships.ensures.permutation
    (subst (IsStrictlySortedBy relationship_cmp) c.as_slice-9.ensures.value (c.if-not-are_single.ensures.0 refl))
    (λ h. none (each_at_slice (λ e. (b : Bundle) × Means (seed_text e).bundle b
    × Fits b) c.as_slice-10.result.now c.args.entries.now.seeds.items c.as_slice-10.ensures.value
    (document_of c.args.entries.now.floors.items c.args.entries.now.seeds.items h)))))

pub reach_floors-requires : goal.reach_floors-requires
reach_floors-requires c = subst (IsStrictlySortedBy floor_cmp)
    (sym (c.as_slice-11.ensures.value ∙ c.in_ok-floors.ensures.0 ∙ c.as_slice-5.ensures.value)) c.requires.rising

pub returns-then-not-reach_floors : goal.returns-then-not-reach_floors
returns-then-not-reach_floors c =
    low_seed c.args.entries.now.relationships.items c.args.entries.now.seeds.items c.args.entries.now.floors.items
    c.in_ok-names.names.items c.in_ok-seed_domains.seed_domains.items c.in_ok-domains.domains.items
    (read_slices c.args.entries.now.relationships.items c.as_slice.result.now c.args.entries.now.seeds.items c.as_slice-2.result.now
    c.in_ok-names.names.items c.as_slice-3.result.now c.in_ok-seed_domains.seed_domains.items c.as_slice-4.result.now c.in_ok-domains.domains.items
    c.as_slice.ensures.value c.as_slice-2.ensures.value c.as_slice-3.ensures.value c.as_slice-4.ensures.value
    c.in_ok-names.ensures c.in_ok-seed_domains.ensures c.in_ok-domains.ensures)
    (known_slices c.args.entries.now.floors.items c.as_slice-5.result.now c.in_ok-domains.domains.items c.as_slice-6.result.now
    c.as_slice-5.ensures.value c.as_slice-6.ensures.value c.in_ok-floors.ensures.1)
    c.in_ok-urls.urls.items
    (zip_at_slice SaysUrl c.as_slice-7.result.now c.args.entries.now.relationships.items c.in_ok-urls.urls.items
    c.as_slice-7.ensures.value c.in_ok-urls.ensures)
    (subst (AllByRecursion (λ t. IsProfile t.profile)) c.as_slice-8.ensures.value
    (c.if-not-have_profile.ensures.0 refl)) c.in_ok-relationships.relationships.items c.in_ok-relationships.ensures
    c.sort_relationships.new.relationships.items c.sort_relationships.ensures.permutation
    (subst (IsStrictlySortedBy relationship_cmp) c.as_slice-9.ensures.value (c.if-not-are_single.ensures.0 refl))
    c.in_ok-documents.documents.items
    (zip_at_slice (λ e b. SaysSeedDocument (seed_text e) b) c.as_slice-10.result.now c.args.entries.now.seeds.items
    c.in_ok-documents.documents.items c.as_slice-10.ensures.value c.in_ok-documents.ensures)
    c.in_ok-seeds.seeds.items c.in_ok-seeds.ensures
    c.values.ensures.one (λ h. let stated = c.if-not-reach_floors.ensures.1 (low_slices c.args.entries.now.floors.items c.as_slice-11.result.now
    c.in_ok-seeds.seeds.items c.as_slice-12.result.now
    (c.as_slice-11.ensures.value ∙ c.in_ok-floors.ensures.0 ∙ c.as_slice-5.ensures.value) c.as_slice-12.ensures.value h) in cc)

pub returns-then-not-are_few : goal.returns-then-not-are_few
returns-then-not-are_few c =
    too_many c.args.entries.now.relationships.items c.args.entries.now.seeds.items c.args.entries.now.floors.items
    c.in_ok-names.names.items c.in_ok-seed_domains.seed_domains.items c.in_ok-domains.domains.items
    (read_slices c.args.entries.now.relationships.items c.as_slice.result.now c.args.entries.now.seeds.items c.as_slice-2.result.now
    c.in_ok-names.names.items c.as_slice-3.result.now c.in_ok-seed_domains.seed_domains.items c.as_slice-4.result.now c.in_ok-domains.domains.items
    c.as_slice.ensures.value c.as_slice-2.ensures.value c.as_slice-3.ensures.value c.as_slice-4.ensures.value
    c.in_ok-names.ensures c.in_ok-seed_domains.ensures c.in_ok-domains.ensures)
    (known_slices c.args.entries.now.floors.items c.as_slice-5.result.now c.in_ok-domains.domains.items c.as_slice-6.result.now
    c.as_slice-5.ensures.value c.as_slice-6.ensures.value c.in_ok-floors.ensures.1)
    c.in_ok-urls.urls.items
    (zip_at_slice SaysUrl c.as_slice-7.result.now c.args.entries.now.relationships.items c.in_ok-urls.urls.items
    c.as_slice-7.ensures.value c.in_ok-urls.ensures)
    (subst (AllByRecursion (λ t. IsProfile t.profile)) c.as_slice-8.ensures.value
    (c.if-not-have_profile.ensures.0 refl)) c.in_ok-relationships.relationships.items c.in_ok-relationships.ensures
    c.sort_relationships.new.relationships.items c.sort_relationships.ensures.permutation
    (subst (IsStrictlySortedBy relationship_cmp) c.as_slice-9.ensures.value (c.if-not-are_single.ensures.0 refl))
    c.in_ok-documents.documents.items
    (zip_at_slice (λ e b. SaysSeedDocument (seed_text e) b) c.as_slice-10.result.now c.args.entries.now.seeds.items
    c.in_ok-documents.documents.items c.as_slice-10.ensures.value c.in_ok-documents.ensures)
    c.in_ok-seeds.seeds.items c.in_ok-seeds.ensures
    (reach_slices c.args.entries.now.floors.items c.as_slice-11.result.now c.in_ok-seeds.seeds.items c.as_slice-12.result.now
    (c.as_slice-11.ensures.value ∙ c.in_ok-floors.ensures.0 ∙ c.as_slice-5.ensures.value) c.as_slice-12.ensures.value
    (c.if-not-reach_floors.ensures.0 refl)) (λ h. let stated =
    c.if-not-are_few.ensures.1 (
      h.relationships,
      subst (λ n. n ≤ 4096) (map_length seed_text c.args.entries.now.seeds.items) h.seeds,
    ) in cc)

pub sort_seeds-requires : goal.sort_seeds-requires
sort_seeds-requires c = are_seeds c.args.entries.now.relationships.items c.args.entries.now.seeds.items c.args.entries.now.floors.items
    c.in_ok-names.names.items c.in_ok-seed_domains.seed_domains.items c.in_ok-domains.domains.items
    (read_slices c.args.entries.now.relationships.items c.as_slice.result.now c.args.entries.now.seeds.items c.as_slice-2.result.now
    c.in_ok-names.names.items c.as_slice-3.result.now c.in_ok-seed_domains.seed_domains.items c.as_slice-4.result.now c.in_ok-domains.domains.items
    c.as_slice.ensures.value c.as_slice-2.ensures.value c.as_slice-3.ensures.value c.as_slice-4.ensures.value
    c.in_ok-names.ensures c.in_ok-seed_domains.ensures c.in_ok-domains.ensures)
    (known_slices c.args.entries.now.floors.items c.as_slice-5.result.now c.in_ok-domains.domains.items c.as_slice-6.result.now
    c.as_slice-5.ensures.value c.as_slice-6.ensures.value c.in_ok-floors.ensures.1)
    c.in_ok-urls.urls.items
    (zip_at_slice SaysUrl c.as_slice-7.result.now c.args.entries.now.relationships.items c.in_ok-urls.urls.items
    c.as_slice-7.ensures.value c.in_ok-urls.ensures)
    (subst (AllByRecursion (λ t. IsProfile t.profile)) c.as_slice-8.ensures.value
    (c.if-not-have_profile.ensures.0 refl)) c.in_ok-relationships.relationships.items c.in_ok-relationships.ensures
    c.sort_relationships.new.relationships.items c.sort_relationships.ensures.permutation
    (subst (IsStrictlySortedBy relationship_cmp) c.as_slice-9.ensures.value (c.if-not-are_single.ensures.0 refl))
    c.in_ok-documents.documents.items
    (zip_at_slice (λ e b. SaysSeedDocument (seed_text e) b) c.as_slice-10.result.now c.args.entries.now.seeds.items
    c.in_ok-documents.documents.items c.as_slice-10.ensures.value c.in_ok-documents.ensures)
    c.in_ok-seeds.seeds.items c.in_ok-seeds.ensures

pub of_sets-requires-clause-lists : goal.of_sets-requires-clause-lists
of_sets-requires-clause-lists c =
    subst (λ floors. HasRisingLists (config_of c.sort_relationships.new.relationships.items c.sort_seeds.new.seeds.items floors))
    (sym (c.in_ok-floors.ensures.0 ∙ c.as_slice-5.ensures.value))
    (are_sets c.args.entries.now.relationships.items c.args.entries.now.seeds.items c.args.entries.now.floors.items
    c.in_ok-names.names.items c.in_ok-seed_domains.seed_domains.items c.in_ok-domains.domains.items
    (read_slices c.args.entries.now.relationships.items c.as_slice.result.now c.args.entries.now.seeds.items c.as_slice-2.result.now
    c.in_ok-names.names.items c.as_slice-3.result.now c.in_ok-seed_domains.seed_domains.items c.as_slice-4.result.now c.in_ok-domains.domains.items
    c.as_slice.ensures.value c.as_slice-2.ensures.value c.as_slice-3.ensures.value c.as_slice-4.ensures.value
    c.in_ok-names.ensures c.in_ok-seed_domains.ensures c.in_ok-domains.ensures)
    (known_slices c.args.entries.now.floors.items c.as_slice-5.result.now c.in_ok-domains.domains.items c.as_slice-6.result.now
    c.as_slice-5.ensures.value c.as_slice-6.ensures.value c.in_ok-floors.ensures.1)
    c.in_ok-urls.urls.items
    (zip_at_slice SaysUrl c.as_slice-7.result.now c.args.entries.now.relationships.items c.in_ok-urls.urls.items
    c.as_slice-7.ensures.value c.in_ok-urls.ensures)
    (subst (AllByRecursion (λ t. IsProfile t.profile)) c.as_slice-8.ensures.value
    (c.if-not-have_profile.ensures.0 refl)) c.in_ok-relationships.relationships.items c.in_ok-relationships.ensures
    c.sort_relationships.new.relationships.items c.sort_relationships.ensures.permutation
    (subst (IsStrictlySortedBy relationship_cmp) c.as_slice-9.ensures.value (c.if-not-are_single.ensures.0 refl))
    c.in_ok-documents.documents.items
    (zip_at_slice (λ e b. SaysSeedDocument (seed_text e) b) c.as_slice-10.result.now c.args.entries.now.seeds.items
    c.in_ok-documents.documents.items c.as_slice-10.ensures.value c.in_ok-documents.ensures)
    c.in_ok-seeds.seeds.items c.in_ok-seeds.ensures
    (reach_slices c.args.entries.now.floors.items c.as_slice-11.result.now c.in_ok-seeds.seeds.items c.as_slice-12.result.now
    (c.as_slice-11.ensures.value ∙ c.in_ok-floors.ensures.0 ∙ c.as_slice-5.ensures.value) c.as_slice-12.ensures.value
    (c.if-not-reach_floors.ensures.0 refl))
    (c.if-not-are_few.ensures.0 refl).0 (c.if-not-are_few.ensures.0 refl).1
    c.sort_seeds.new.seeds.items c.sort_seeds.ensures.set c.sort_seeds.ensures.bound c.requires)

pub of_sets-requires-clause-domains : goal.of_sets-requires-clause-domains
of_sets-requires-clause-domains c =
    subst (λ floors. AreDomains (config_of c.sort_relationships.new.relationships.items c.sort_seeds.new.seeds.items floors)
    c.in_ok-domains.domains.items) (sym (c.in_ok-floors.ensures.0 ∙ c.as_slice-5.ensures.value))
    (domains_of c.args.entries.now.relationships.items c.args.entries.now.seeds.items c.args.entries.now.floors.items
    c.in_ok-names.names.items c.in_ok-seed_domains.seed_domains.items c.in_ok-domains.domains.items
    (read_slices c.args.entries.now.relationships.items c.as_slice.result.now c.args.entries.now.seeds.items c.as_slice-2.result.now
    c.in_ok-names.names.items c.as_slice-3.result.now c.in_ok-seed_domains.seed_domains.items c.as_slice-4.result.now c.in_ok-domains.domains.items
    c.as_slice.ensures.value c.as_slice-2.ensures.value c.as_slice-3.ensures.value c.as_slice-4.ensures.value
    c.in_ok-names.ensures c.in_ok-seed_domains.ensures c.in_ok-domains.ensures)
    (known_slices c.args.entries.now.floors.items c.as_slice-5.result.now c.in_ok-domains.domains.items c.as_slice-6.result.now
    c.as_slice-5.ensures.value c.as_slice-6.ensures.value c.in_ok-floors.ensures.1)
    c.in_ok-urls.urls.items
    (zip_at_slice SaysUrl c.as_slice-7.result.now c.args.entries.now.relationships.items c.in_ok-urls.urls.items
    c.as_slice-7.ensures.value c.in_ok-urls.ensures)
    (subst (AllByRecursion (λ t. IsProfile t.profile)) c.as_slice-8.ensures.value
    (c.if-not-have_profile.ensures.0 refl)) c.in_ok-relationships.relationships.items c.in_ok-relationships.ensures
    c.sort_relationships.new.relationships.items c.sort_relationships.ensures.permutation
    (subst (IsStrictlySortedBy relationship_cmp) c.as_slice-9.ensures.value (c.if-not-are_single.ensures.0 refl))
    c.in_ok-documents.documents.items
    (zip_at_slice (λ e b. SaysSeedDocument (seed_text e) b) c.as_slice-10.result.now c.args.entries.now.seeds.items
    c.in_ok-documents.documents.items c.as_slice-10.ensures.value c.in_ok-documents.ensures)
    c.in_ok-seeds.seeds.items c.in_ok-seeds.ensures
    (reach_slices c.args.entries.now.floors.items c.as_slice-11.result.now c.in_ok-seeds.seeds.items c.as_slice-12.result.now
    (c.as_slice-11.ensures.value ∙ c.in_ok-floors.ensures.0 ∙ c.as_slice-5.ensures.value) c.as_slice-12.ensures.value
    (c.if-not-reach_floors.ensures.0 refl))
    (c.if-not-are_few.ensures.0 refl).0 (c.if-not-are_few.ensures.0 refl).1
    c.sort_seeds.new.seeds.items c.sort_seeds.ensures.set c.sort_seeds.ensures.bound c.requires)

pub returns : goal.returns
returns c = finish c.args.entries.now.relationships.items c.args.entries.now.seeds.items c.args.entries.now.floors.items
    c.in_ok-names.names.items c.in_ok-seed_domains.seed_domains.items c.in_ok-domains.domains.items
    (read_slices c.args.entries.now.relationships.items c.as_slice.result.now c.args.entries.now.seeds.items c.as_slice-2.result.now
    c.in_ok-names.names.items c.as_slice-3.result.now c.in_ok-seed_domains.seed_domains.items c.as_slice-4.result.now c.in_ok-domains.domains.items
    c.as_slice.ensures.value c.as_slice-2.ensures.value c.as_slice-3.ensures.value c.as_slice-4.ensures.value
    c.in_ok-names.ensures c.in_ok-seed_domains.ensures c.in_ok-domains.ensures)
    (known_slices c.args.entries.now.floors.items c.as_slice-5.result.now c.in_ok-domains.domains.items c.as_slice-6.result.now
    c.as_slice-5.ensures.value c.as_slice-6.ensures.value c.in_ok-floors.ensures.1)
    c.in_ok-urls.urls.items
    (zip_at_slice SaysUrl c.as_slice-7.result.now c.args.entries.now.relationships.items c.in_ok-urls.urls.items
    c.as_slice-7.ensures.value c.in_ok-urls.ensures)
    (subst (AllByRecursion (λ t. IsProfile t.profile)) c.as_slice-8.ensures.value
    (c.if-not-have_profile.ensures.0 refl)) c.in_ok-relationships.relationships.items c.in_ok-relationships.ensures
    c.sort_relationships.new.relationships.items c.sort_relationships.ensures.permutation
    (subst (IsStrictlySortedBy relationship_cmp) c.as_slice-9.ensures.value (c.if-not-are_single.ensures.0 refl))
    c.in_ok-documents.documents.items
    (zip_at_slice (λ e b. SaysSeedDocument (seed_text e) b) c.as_slice-10.result.now c.args.entries.now.seeds.items
    c.in_ok-documents.documents.items c.as_slice-10.ensures.value c.in_ok-documents.ensures)
    c.in_ok-seeds.seeds.items c.in_ok-seeds.ensures
    (reach_slices c.args.entries.now.floors.items c.as_slice-11.result.now c.in_ok-seeds.seeds.items c.as_slice-12.result.now
    (c.as_slice-11.ensures.value ∙ c.in_ok-floors.ensures.0 ∙ c.as_slice-5.ensures.value) c.as_slice-12.ensures.value
    (c.if-not-reach_floors.ensures.0 refl))
    (c.if-not-are_few.ensures.0 refl).0 (c.if-not-are_few.ensures.0 refl).1
    c.sort_seeds.new.seeds.items c.sort_seeds.ensures.set c.sort_seeds.ensures.bound c.requires
    c.of_sets.result
    (subst (λ floors. MatchResult c.of_sets.result
    (λ d. (d ≡ config_of c.sort_relationships.new.relationships.items c.sort_seeds.new.seeds.items floors) × IsConfiguration d)
    (Fails TooMany (HasFewDomains (config_of c.sort_relationships.new.relationships.items c.sort_seeds.new.seeds.items floors))))
    (c.in_ok-floors.ensures.0 ∙ c.as_slice-5.ensures.value) c.of_sets.ensures)
