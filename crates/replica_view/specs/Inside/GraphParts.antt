-- A graph, as far as it is made
use Rattle.std.specs.Prelude.{◌≡◌, ℕ, List, [], ◌∷◌, ◌++◌, codes, Option}
use Rattle.fed_config.specs.Configuration.{AreDomains}
use Rattle.receipt_core.specs.Receipt.{Receipt}
use Rattle.receipt_core.specs.Acceptance.{Meaning}
use Rattle.replica_view.specs.TrustGraph.{AreGraphLines, ShowsEdge, ShowsVoucher}
use Rattle.replica_view.specs.TrustGraph.{IsPassedDomain, ShowsCurrent, graph_head}
use Rattle.replica_view.specs.Inside.MadeLines.{AddsLinesFor}
use Rattle.replica_view.specs.declared.trust_graph.GraphPart.{GraphPart}
use Rattle.replica_view.specs.declared.trust_graph.GraphPart.TheVariants.{Voucher, Edge}

-- what is shown of a receipt
abbrev pub ShowsPart : GraphPart → Meaning → Receipt → List ℕ → Type 0
ShowsPart Voucher m = ShowsVoucher
ShowsPart Edge m = ShowsEdge m

-- all lines
pub record IsWholeGraph (m : Meaning) (chosen : Option (List ℕ))
    (whole : List (List ℕ)) : Type 0 where
  pub lines : List (List ℕ)
  pub are : AreGraphLines m chosen lines
  pub is : whole ≡ graph_head ++ (lines ++ codes "}" ∷ [])

-- which documents of all domains are current was added
pub record AddsCurrents (m : Meaning) (chosen : Option (List ℕ)) (old new : List (List ℕ))
    : Type 0 where
  pub domains : List (List ℕ)
  pub are_domains : AreDomains m.config domains
  pub lines : AddsLinesFor (IsPassedDomain m chosen) (ShowsCurrent m) domains old new
