-- The parts of a graph, one after the other
use Rattle.std.proofs.Common.{◌≡◌, ◌<◌, ◌≤◌, ◌+◌, ℕ, suc, List, [], ◌∷◌, ◌++◌, length, get_or, drop, refl, sym, ap, ◌∙◌, append_assoc, Option}
use Rattle.std.proofs.Common.{add-one, drop-cons}
use Rattle.std.proofs.lemmas.List.{drop_all}
use Rattle.receipt_core.specs.Acceptance.{Meaning}
use Rattle.replica_view.specs.HeldTexts.{IsReceiptOfOther}
use Rattle.replica_view.specs.TrustGraph.{AreGraphLines, IsPassedReceipt, IsPassedSeed}
use Rattle.replica_view.specs.TrustGraph.{ShowsBrought, ShowsConfigured, ShowsEdge, ShowsVoucher}
use Rattle.replica_view.specs.Inside.GraphParts.{AddsCurrents}
use Rattle.replica_view.specs.Inside.MadeLines.{AddsLinesFor}
use Rattle.replica_view.proofs.MadeLineFacts.{LinesSoFar, lines_all}

-- the first of the items that are left, and the others
pub drop_next : {X : Type 0} (xs : List X) (k : ℕ) (x : X) → k < length xs → x ≡ get_or xs k x → drop k xs ≡ x ∷ drop (k + 1) xs
drop_next xs k x low is =
    let first = ap (λ z. z ∷ drop (suc k) xs) (sym is) in drop-cons xs k x low ∙ first ∙ ap (λ n. x ∷ drop n xs) (sym (add-one k))

-- after the last item of a slice
pub slice_lines_all : {A : Type 0} (passed : A → Type 0) (shows : A → List ℕ → Type 0) (xs : List A) (k : ℕ) (old new : List (List ℕ))
    → length xs ≤ k → LinesSoFar passed shows xs (drop k xs) old new → AddsLinesFor passed shows xs old new
slice_lines_all passed shows xs k old new high so_far = lines_all passed shows xs (drop k xs) xs old new (drop_all k xs high) refl so_far

-- all parts were made
pub graph_made : (m : Meaning) (chosen : Option (List ℕ)) (old one two three four five : List (List ℕ)) → old ≡ []
    → AddsLinesFor (IsReceiptOfOther chosen) ShowsVoucher m.held old one
    → AddsLinesFor (IsPassedReceipt m chosen) ShowsBrought m.held one two
    → AddsLinesFor (IsPassedSeed m chosen) ShowsConfigured m.config.seeds two three
    → AddsCurrents m chosen three four
    → AddsLinesFor (IsReceiptOfOther chosen) (ShowsEdge m) m.held four five → AreGraphLines m chosen five
graph_made m chosen old one two three four five empty vouchers brought configured currents edges =
    let flat : (((vouchers.made ++ brought.made) ++ configured.made) ++ currents.lines.made) ++ edges.made
    ≡ vouchers.made ++ (brought.made ++ (configured.made ++ (currents.lines.made ++ edges.made))) = simp append_assoc in
    record {
      vouchers = vouchers.made;
      each_voucher = vouchers.are;
      brought = brought.made;
      each_brought = brought.are;
      configured = configured.made;
      each_configured = configured.are;
      domains = currents.domains;
      are_domains = currents.are_domains;
      currents = currents.lines.made;
      each_current = currents.lines.are;
      edges = edges.made;
      each_edge = edges.are;
      are = edges.now
          ∙ ap (λ z. z ++ edges.made)
          (currents.lines.now
          ∙ ap (λ z. z ++ currents.lines.made)
          (configured.now
          ∙ ap (λ z. z ++ configured.made)
          (brought.now ∙ ap (λ z. z ++ brought.made) (vouchers.now ∙ ap (λ z. z ++ vouchers.made) empty))))
          ∙ flat;
    }
