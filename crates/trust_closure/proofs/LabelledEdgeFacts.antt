-- The arrows of spots
use Rattle.std.proofs.Common.{◌≡◌, ℕ, zero, suc, ◌+◌, inl, inr, List, [], ◌∷◌, ◌++◌, length, map, Some, arith, refl, sym, ap, ◌∙◌, subst}
use Rattle.std.specs.Prelude.{Contains, slice_get}
use Rattle.std.proofs.lemmas.List.{append-nil, append_assoc}
use Rattle.std.proofs.lemmas.List.Elements.{Contains-append_left, Contains-append_right, Contains-append_cases}
use Rattle.std.proofs.lemmas.Option.{slice_get_within, same_Some}
use Rattle.trust_closure.specs.Inside.NodeSpecs.{NodeSpec, LabelledEdge, labelled_edge_at, labelled_edges_from}
use Rattle.closure_core.proofs.ContainsFacts.{contains_map}
use Rattle.closure_parts.proofs.PlaceFacts.{Contains-from_map}

-- the arrows are those of the spots

-- the arrow leads from a node with a spot, and has one of that spot's labels
pub record IsArrowOf {A : Type 0} (of : NodeSpec A → List A) (node : ℕ) (spots : List (NodeSpec A)) (arrow : LabelledEdge A) : Type 0 where
  pub place : ℕ
  pub spot : NodeSpec A
  pub label : A
  pub at : slice_get spots place ≡ Some spot
  pub has : Contains (of spot) label
  pub node_is : arrow.node ≡ node + place
  pub label_is : arrow.label ≡ Some label

-- Each arrow is one of a spot.
pub arrow-cases : {A : Type 0} (of : NodeSpec A → List A) (node : ℕ) (spots : List (NodeSpec A)) (arrow : LabelledEdge A)
    → Contains (labelled_edges_from of node spots) arrow → IsArrowOf of node spots arrow
arrow-cases of node [] arrow c = absurd (omega (arith, c.1))
arrow-cases {A = A} of node (spot ∷ spots) arrow c =
    elim (Contains-append_cases (map (labelled_edge_at node) (of spot)) (labelled_edges_from of (node + 1) spots) arrow c) [
      | inl h ↦
          let m = Contains-from_map (labelled_edge_at node) (of spot) arrow h in
          record {
            place = 0;
            spot = spot;
            label = m.0;
            at = refl;
            has = m.1;
            node_is = omega (arith, ap (λ (a : LabelledEdge A). a.node) (sym m.2));
            label_is = ap (λ (a : LabelledEdge A). a.label) (sym m.2);
          }
      | inr h ↦
          let r = arrow-cases of (node + 1) spots arrow h in
          record {
            place = suc r.place;
            spot = r.spot;
            label = r.label;
            at = r.at;
            has = r.has;
            node_is = omega (arith, r.node_is);
            label_is = r.label_is;
          }
    ]

-- Each label of a spot has its arrow.
pub arrow-has : {A : Type 0} (of : NodeSpec A → List A) (node : ℕ) (spots : List (NodeSpec A)) (place : ℕ) (spot : NodeSpec A)
    (label : A) → slice_get spots place ≡ Some spot → Contains (of spot) label
    → Contains (labelled_edges_from of node spots) (labelled_edge_at (node + place) label)
arrow-has of node [] place spot label at has = absurd (omega (arith, slice_get_within [] place spot at))
arrow-has {A = A} of node (other ∷ spots) zero spot label at has =
    let same : other ≡ spot = same_Some other spot at in
    let here : Contains (of other) label = subst (λ s. Contains (of s) label) (sym same) has in
    let e : node + 0 ≡ node = omega arith in
    Contains-append_left (map (labelled_edge_at node) (of other)) (labelled_edges_from of (node + 1) spots) (labelled_edge_at (node + 0) label)
    (subst (λ n. Contains (map (labelled_edge_at node) (of other)) (labelled_edge_at n label)) (sym e)
    (contains_map (labelled_edge_at node) (of other) label here))
arrow-has of node (other ∷ spots) (suc place) spot label at has =
    let e : (node + 1) + place ≡ node + suc place = omega arith in
    Contains-append_right (map (labelled_edge_at node) (of other)) (labelled_edges_from of (node + 1) spots) (labelled_edge_at (node + suc place) label)
    (subst (λ n. Contains (labelled_edges_from of (node + 1) spots) (labelled_edge_at n label)) e (arrow-has of (node + 1) spots place spot label at has))

-- one more spot

-- A spot at the end adds its own arrows at the end.
pub arrows-push : {A : Type 0} (of : NodeSpec A → List A) (node : ℕ) (spots : List (NodeSpec A)) (spot : NodeSpec A)
    → labelled_edges_from of node (spots ++ spot ∷ []) ≡ labelled_edges_from of node spots ++ map (labelled_edge_at (node + length spots))
    (of spot)
arrows-push of node [] spot =
    let e : node + 0 ≡ node = omega arith in
    append-nil (map (labelled_edge_at node) (of spot)) ∙ ap (λ n. map (labelled_edge_at n) (of spot)) (sym e)
arrows-push of node (other ∷ spots) spot =
    let e : (node + 1) + length spots ≡ node + suc (length spots) = omega arith in
    ap (λ rest. map (labelled_edge_at node) (of other) ++ rest)
    (arrows-push of (node + 1) spots spot
    ∙ ap (λ n. labelled_edges_from of (node + 1) spots ++ map (labelled_edge_at n) (of spot)) e)
    ∙ sym (append_assoc (map (labelled_edge_at node) (of other)) (labelled_edges_from of (node + 1) spots)
    (map (labelled_edge_at (node + suc (length spots))) (of spot)))
