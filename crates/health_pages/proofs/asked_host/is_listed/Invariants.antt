use Rattle.std.proofs.Common.{◌≡◌, drop, map}
use Rattle.std.specs.List.{list_any}
use Rattle.health_pages.specs.Hosts.{is_host_named}
use Rattle.health_pages.proofs.asked_host.is_listed.Given as goal

abbrev pub invariant-names : goal.invariant-names
invariant-names l =
    list_any (is_host_named l.value) (map (λ n. n.now) (drop l.name-index l.names)) ≡ list_any (is_host_named l.value) (map (λ n. n.now) l.names)
