-- The domains of a configuration, as they are gathered.
use Rattle.std.specs.Prelude.{ℕ, List, [], ◌∷◌, ◌++◌, flat_map}
use Rattle.fed_config.specs.declared.names.Names.{Names}

-- a relationship's own domain, and that of its endpoint
abbrev pub both_domains : Names → List (List ℕ)
both_domains n = n.domain ∷ n.endpoint.domain ∷ []

-- those of relationships, and then those of seeds
abbrev pub gathered : List Names → List (List ℕ) → List (List ℕ)
gathered names seeds = flat_map both_domains names ++ seeds
