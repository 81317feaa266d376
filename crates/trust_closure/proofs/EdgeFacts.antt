-- The edges of a net and what is at its nodes
use Rattle.std.proofs.Common.{◌≡◌, ℕ, ◌+◌, inl, inr, true, false, List, [], length}
use Rattle.std.proofs.Common.{get_or, map, Option, Some, None, arith, sym, ap, ◌∙◌, subst}
use Rattle.std.specs.Prelude.{Contains, slice_get}
use Rattle.std.specs.Option.{option_to_list}
use Rattle.std.proofs.lemmas.Bool.{cases_lt, cases_Bool, both_ways}
use Rattle.std.proofs.lemmas.List.{length-map, get_or_default, get_or_past}
use Rattle.std.proofs.lemmas.Option.{slice_get-get_or, get_or_from_slice_get}
use Rattle.wait_index.specs.declared.edges.Edge.{Edge}
use Rattle.wait_index.specs.Edge.{edge_at, IsEdge}
use Rattle.wait_index.specs.Net.{Net, is_root, is_closed, IsReached, step}
use Rattle.trust_closure.specs.Inside.NodeSpecs.{NodeSpec, LabelledEdge, labelled_edge_at, offered_at, awaited_at, offer_edge, wait_edge, Represents}
use Rattle.closure_parts.proofs.PlaceFacts.{Contains-from_map}
use Rattle.trust_closure.proofs.LabelledEdgeFacts.{arrow-cases, arrow-has}
use Rattle.closure_core.proofs.ContainsFacts.{contains_first, contains_cases, contains_map}
use Rattle.closure_parts.proofs.PlaceFacts.{slice_get-map_at, one_place}

-- ---- lists by places

-- ---- edges and arrows

-- An offer edge is among the arrows, as the one that it is mapped to.
edge-offer_edge : {A : Type 0} (labels : List A) (edges : List Edge) (i m l : ℕ) → IsEdge edges i m l
    → Contains (map (offer_edge labels) edges) (record { node = m; label = slice_get labels l })
edge-offer_edge {A = A} labels edges i m l e =
    let edge : Edge = edge_at edges i in
    let has : Contains edges edge = (i, e.within, get_or_default edges i edge (record { from = 0; to = 0 }) e.within) in
    let mapped : Contains (map (offer_edge labels) edges) (offer_edge labels edge) = contains_map (offer_edge labels) edges edge has in
    let same : offer_edge labels edge ≡ record { node = m; label = slice_get labels l } =
    ap (λ (n : ℕ). let a : LabelledEdge A = record { node = n; label = slice_get labels edge.to } in a) e.from
    ∙ ap (λ (n : ℕ). let a : LabelledEdge A = record { node = m; label = slice_get labels n } in a) e.to
    in
    subst (Contains (map (offer_edge labels) edges)) same mapped

-- A wait edge is among the arrows, as the one that it is mapped to.
edge-wait_edge : {A : Type 0} (labels : List A) (edges : List Edge) (i l n : ℕ) → IsEdge edges i l n
    → Contains (map (wait_edge labels) edges) (record { node = n; label = slice_get labels l })
edge-wait_edge {A = A} labels edges i l n e =
    let edge : Edge = edge_at edges i in
    let has : Contains edges edge = (i, e.within, get_or_default edges i edge (record { from = 0; to = 0 }) e.within) in
    let mapped : Contains (map (wait_edge labels) edges) (wait_edge labels edge) = contains_map (wait_edge labels) edges edge has in
    let same : wait_edge labels edge ≡ record { node = n; label = slice_get labels l } =
    ap (λ (k : ℕ). let a : LabelledEdge A = record { node = k; label = slice_get labels edge.from } in a) e.to
    ∙ ap (λ (k : ℕ). let a : LabelledEdge A = record { node = n; label = slice_get labels k } in a) e.from
    in
    subst (Contains (map (wait_edge labels) edges)) same mapped

-- An edge that is listed has a place.
edge-from_contains : (edges : List Edge) (edge : Edge) → Contains edges edge → (i : ℕ) × IsEdge edges i edge.from edge.to
edge-from_contains edges edge c =
    let at : edge_at edges c.0 ≡ edge = get_or_default edges c.0 (record { from = 0; to = 0 }) edge c.1 ∙ c.2 in
    (c.0, record { within = c.1; from = ap (λ (e : Edge). e.from) at; to = ap (λ (e : Edge). e.to) at })

-- ---- a net of spots

-- an offer edge leads from the node to the label
pub record HasOfferEdge {A : Type 0} (net : Net) (labels : List A) (node : ℕ) (label : A) : Type 0 where
  pub place : ℕ
  pub number : ℕ
  pub edge : IsEdge net.offers place node number
  pub named : slice_get labels number ≡ Some label

-- a wait edge leads from the label to the node
pub record HasWaitEdge {A : Type 0} (net : Net) (labels : List A) (node : ℕ) (label : A) : Type 0 where
  pub place : ℕ
  pub number : ℕ
  pub edge : IsEdge net.waits place number node
  pub named : slice_get labels number ≡ Some label

-- the node's spot offers the label with the number
pub record IsOfferOf {A : Type 0} (spots : List (NodeSpec A)) (labels : List A) (node number : ℕ) : Type 0 where
  pub spot : NodeSpec A
  pub label : A
  pub at : slice_get spots node ≡ Some spot
  pub has : Contains spot.offers label
  pub named : slice_get labels number ≡ Some label

-- the node's spot awaits the label with the number
pub record IsWaitOf {A : Type 0} (spots : List (NodeSpec A)) (labels : List A) (node number : ℕ) : Type 0 where
  pub spot : NodeSpec A
  pub label : A
  pub at : slice_get spots node ≡ Some spot
  pub awaits : spot.awaits ≡ Some label
  pub named : slice_get labels number ≡ Some label

-- What the list of an awaited label contains is awaited.
awaits-from_list : {A : Type 0} (o : Option A) (label : A) → Contains (option_to_list o) label → o ≡ Some label
awaits-from_list None label c = absurd (omega (arith, c.1))
awaits-from_list (Some x) label c =
    elim (contains_cases x [] label c) [ inl e ↦ ap (λ y. Some y) e | inr d ↦ absurd (omega (arith, d.1)) ]

module _ {A : Type 0} (spots : List (NodeSpec A)) (labels : List A) (IsShut : A → Type 0) (net : Net) (h : Represents spots labels IsShut net) where
  -- Each offer edge is an offer of a spot.
  pub offer-of_edge : (i m l : ℕ) → IsEdge net.offers i m l → IsOfferOf spots labels m l
  offer-of_edge i m l e =
      let r = arrow-cases offered_at 0 spots (record { node = m; label = slice_get labels l })
      (subst (λ arrows. Contains arrows (record { node = m; label = slice_get labels l })) h.offers
      (edge-offer_edge labels net.offers i m l e)) in
      let at : m ≡ r.place = omega (arith, r.node_is) in
      record { spot = r.spot; label = r.label; at = ap (λ n. slice_get spots n) at ∙ r.at; has = r.has; named = r.label_is }

  -- Each wait edge is what a spot awaits.
  pub wait-of_edge : (j l n : ℕ) → IsEdge net.waits j l n → IsWaitOf spots labels n l
  wait-of_edge j l n e =
      let r = arrow-cases awaited_at 0 spots (record { node = n; label = slice_get labels l })
      (subst (λ arrows. Contains arrows (record { node = n; label = slice_get labels l })) h.waits
      (edge-wait_edge labels net.waits j l n e)) in
      let at : n ≡ r.place = omega (arith, r.node_is) in
      record {
        spot = r.spot;
        label = r.label;
        at = ap (λ k. slice_get spots k) at ∙ r.at;
        awaits =
            awaits-from_list r.spot.awaits r.label r.has;
        named = r.label_is;
      }

  -- Each offer of a spot has its offer edge.
  pub edge-of_offer : (m : ℕ) (spot : NodeSpec A) (label : A) → slice_get spots m ≡ Some spot → Contains spot.offers label → HasOfferEdge net labels m label
  edge-of_offer m spot label at has =
      let c : Contains (map (offer_edge labels) net.offers) (labelled_edge_at (0 + m) label) =
      subst (λ arrows. Contains arrows (labelled_edge_at (0 + m) label)) (sym h.offers)
      (arrow-has offered_at 0 spots m spot label at has) in
      let f = Contains-from_map (offer_edge labels) net.offers (labelled_edge_at (0 + m) label) c in
      let e = edge-from_contains net.offers f.0 f.1 in
      let node : f.0.from ≡ m = omega (arith, ap (λ (a : LabelledEdge A). a.node) f.2) in
      record {
        place = e.0;
        number = f.0.to;
        edge = record { within = e.1.within; from = e.1.from ∙ node; to = e.1.to };
        named = ap (λ (a : LabelledEdge A). a.label) f.2;
      }

  -- What a spot awaits has its wait edge.
  pub edge-of_wait : (n : ℕ) (spot : NodeSpec A) (label : A) → slice_get spots n ≡ Some spot → spot.awaits ≡ Some label → HasWaitEdge net labels n label
  edge-of_wait n spot label at awaits =
      let has : Contains (awaited_at spot) label = subst (λ o. Contains (option_to_list o) label) (sym awaits) (contains_first label []) in
      let c : Contains (map (wait_edge labels) net.waits) (labelled_edge_at (0 + n) label) =
      subst (λ arrows. Contains arrows (labelled_edge_at (0 + n) label)) (sym h.waits)
      (arrow-has awaited_at 0 spots n spot label at has) in
      let f = Contains-from_map (wait_edge labels) net.waits (labelled_edge_at (0 + n) label) c in
      let e = edge-from_contains net.waits f.0 f.1 in
      let node : f.0.to ≡ n = omega (arith, ap (λ (a : LabelledEdge A). a.node) f.2) in
      record {
        place = e.0;
        number = f.0.from;
        edge = record { within = e.1.within; from = e.1.from; to = e.1.to ∙ node };
        named = ap (λ (a : LabelledEdge A). a.label) f.2;
      }

  -- A node is a root exactly if its spot says so.
  pub root-of_spot : (n : ℕ) (spot : NodeSpec A) → slice_get spots n ≡ Some spot → is_root net n ≡ spot.rooted
  root-of_spot n spot at =
      ap (λ rs. get_or rs n false) h.roots ∙ get_or_from_slice_get (map (λ (s : NodeSpec A). s.rooted) spots) n spot.rooted
      false (slice_get-map_at (λ (s : NodeSpec A). s.rooted) spots n spot at)

  -- A root has a spot.
  pub spot-of_root : (n : ℕ) → is_root net n ≡ true → (spot : NodeSpec A) × (slice_get spots n ≡ Some spot)
  spot-of_root n e =
      elim (cases_lt n (length spots)) [
        | inl l ↦ let d : NodeSpec A = record { rooted = false; offers = []; awaits = None } in (get_or spots n d, slice_get-get_or spots n d l)
        | inr g ↦
            let size : length net.roots ≡ length spots = ap length h.roots ∙ length-map spots (λ (s : NodeSpec A). s.rooted) in
            absurd (both_ways (is_root net n) (get_or_past net.roots n false (omega (arith, g, size))) e)
      ]

  -- An awaited label that is not shut, and that a reached node offers, reaches the node that awaits
  -- it.
  pub reached-on : (m n : ℕ) (here there : NodeSpec A) (label : A) → IsReached net m → slice_get spots m ≡ Some here
      → slice_get spots n ≡ Some there → Contains here.offers label → there.awaits ≡ Some label → (IsShut label → ⊥)
      → IsReached net n
  reached-on m n here there label r at to has awaits open' =
      let o = edge-of_offer m here label at has in
      let w = edge-of_wait n there label to awaits in
      let same : w.number ≡ o.number = one_place labels h.once w.number o.number label w.named o.named in
      let wait : IsEdge net.waits w.place o.number n = record { within = w.edge.within; from = w.edge.from ∙ same; to = w.edge.to } in
      elim (cases_Bool (is_closed net o.number)) [
        | inl e ↦ absurd (open' ((h.closed o.number label o.named).0 e))
        | inr e ↦ step r o.edge e wait
      ]
