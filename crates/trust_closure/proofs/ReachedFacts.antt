-- Reached nodes are those of accepted documents and of released receipts
use Rattle.std.proofs.Common.{◌≡◌, ℕ, ◌+◌, ◌⊎◌, inl, inr, true, List, [], ◌∷◌, ◌++◌, length, map, Some, arith, refl, sym, ap, ◌∙◌, subst}
use Rattle.std.specs.Prelude.{Contains, slice_get, ◌↔◌}
use Rattle.std.specs.List.{AllByRecursion}
use Rattle.std.proofs.lemmas.Bool.{both_ways}
use Rattle.std.proofs.lemmas.List.{length-map}
use Rattle.std.proofs.lemmas.Option.{slice_get_within, same_Some, none-some}
use Rattle.fed_config.specs.declared.seed.Seed.{Seed}
use Rattle.wait_index.specs.Net.{Net, is_root, is_closed, IsReached, root, step}
use Rattle.receipt_core.specs.declared.triple.Triple.{Triple}
use Rattle.receipt_core.specs.Receipt.{Receipt, Pair, pair_of, offers_of, need_of}
use Rattle.receipt_core.specs.Acceptance.{IsFitting, Vouches, Leads, Meaning, IsMember, IsReleased, pair_of_seed}
use Rattle.trust_closure.specs.Inside.NodeSpecs.{NodeSpec}
use Rattle.closure_parts.proofs.PlaceFacts.{slice_get-left, slice_get-right, slice_get-append_cases, slice_get-map_at}
use Rattle.closure_parts.proofs.PlaceFacts.{slice_get-map_cases, Contains-slice_get, slice_get-Contains}
use Rattle.trust_closure.proofs.EdgeFacts.{offer-of_edge}
use Rattle.trust_closure.proofs.EdgeFacts.{wait-of_edge, root-of_spot, spot-of_root, reached-on}
use Rattle.closure_core.specs.Inside.Nodes.{pairs_of}
use Rattle.trust_closure.specs.Inside.NetOf.{seed_node, receipt_node, node_specs_of, IsNetOf}
use Rattle.closure_parts.specs.Held.{IsShutBy}
use Rattle.closure_core.proofs.MemberFacts.{leads_more, all_more}
use Rattle.closure_parts.proofs.VouchingFacts.{vouches-from_offer, offer-from_vouches, open-from_vouches}
use Rattle.closure_parts.proofs.HeldChangeFacts.{pair-of_seed_node, pair-of_receipt_node}

-- ---- the net of a closure

-- the node is that of a configured document
pub record IsSeedNode (seeds : List Seed) (node : ℕ) (spot : NodeSpec Triple) : Type 0 where
  pub seed : Seed
  pub at : slice_get seeds node ≡ Some seed
  pub is : seed_node seed ≡ spot

-- the node is that of a receipt
pub record IsReceiptNode (seeds : List Seed) (arrivals : List Receipt) (node : ℕ) (spot : NodeSpec Triple) : Type 0 where
  pub place : ℕ
  pub receipt : Receipt
  pub node_is : node ≡ length seeds + place
  pub at : slice_get arrivals place ≡ Some receipt
  pub is : receipt_node receipt ≡ spot

module _ (seeds : List Seed) (arrivals : List Receipt) where
  -- Each node is that of a configured document or of a receipt.
  pub node-cases : (n : ℕ) (spot : NodeSpec Triple) → slice_get (node_specs_of seeds arrivals) n ≡ Some spot
      → IsSeedNode seeds n spot ⊎ IsReceiptNode seeds arrivals n spot
  node-cases n spot e =
      elim (slice_get-append_cases (map seed_node seeds) (map receipt_node arrivals) n spot e) [
        | inl a ↦ let f = slice_get-map_cases seed_node seeds n spot a in inl (record { seed = f.0; at = f.1; is = f.2 })
        | inr a ↦
            let f = slice_get-map_cases receipt_node arrivals a.place spot a.at in
            inr (record { place = a.place; receipt = f.0; node_is = omega (arith, a.is, length-map seeds seed_node); at = f.1; is = f.2 })
      ]

  -- A configured document's node has its spot.
  pub spot-of_seed_node : (n : ℕ) (s : Seed) → slice_get seeds n ≡ Some s → slice_get (node_specs_of seeds arrivals) n ≡ Some (seed_node s)
  spot-of_seed_node n s at =
      slice_get-left (map seed_node seeds) (map receipt_node arrivals) n (seed_node s)
      (slice_get-map_at seed_node seeds n s at)

  -- A receipt's node has its spot.
  pub spot-of_receipt_node : (k : ℕ) (r : Receipt) → slice_get arrivals k ≡ Some r
      → slice_get (node_specs_of seeds arrivals) (length seeds + k) ≡ Some (receipt_node r)
  spot-of_receipt_node k r at =
      ap (λ n. slice_get (node_specs_of seeds arrivals) (n + k)) (sym (length-map seeds seed_node))
      ∙ slice_get-right (map seed_node seeds) (map receipt_node arrivals) k
      ∙ slice_get-map_at receipt_node arrivals k r at

  -- what a node offers is what its pair offers
  pub offers-of_node : (n : ℕ) (spot : NodeSpec Triple) (p : Pair) → slice_get (node_specs_of seeds arrivals) n ≡ Some spot
      → slice_get (pairs_of seeds arrivals) n ≡ Some p → spot.offers ≡ offers_of p
  offers-of_node n spot p e f =
      elim (node-cases n spot e) [
        | inl a ↦ ap (λ (s : NodeSpec Triple). s.offers) (sym a.is)
            ∙ ap offers_of (same_Some (pair_of_seed a.seed) p (sym (pair-of_seed_node seeds arrivals n a.seed a.at) ∙ f))
        | inr a ↦
            ap (λ (s : NodeSpec Triple). s.offers) (sym a.is)
            ∙ ap offers_of (same_Some (pair_of a.receipt) p
            (sym (pair-of_receipt_node seeds arrivals a.place a.receipt a.at)
            ∙ ap (λ k. slice_get (pairs_of seeds arrivals) k) (sym a.node_is) ∙ f))
      ]

  -- each node has a spot
  pub spot-of_pair : (n : ℕ) (p : Pair) → slice_get (pairs_of seeds arrivals) n ≡ Some p
      → (spot : NodeSpec Triple) × (slice_get (node_specs_of seeds arrivals) n ≡ Some spot)
  spot-of_pair n p e =
      elim (slice_get-append_cases (map pair_of_seed seeds) (map pair_of arrivals) n p e) [
        | inl a ↦ let f = slice_get-map_cases pair_of_seed seeds n p a in (seed_node f.0, spot-of_seed_node n f.0 f.1)
        | inr a ↦
            let f = slice_get-map_cases pair_of arrivals a.place p a.at in
            let at : n ≡ length seeds + a.place = omega (arith, a.is, length-map seeds pair_of_seed) in
            (receipt_node f.0, ap (λ k. slice_get (node_specs_of seeds arrivals) k) at ∙ spot-of_receipt_node a.place f.0 f.1)
      ]

-- the node's document is accepted, and the node's receipt, if it has one, is released
pub record IsAccepted (m : Meaning) (arrivals : List Receipt) (node : ℕ) : Type 0 where
  pub pair : Pair
  pub at : slice_get (pairs_of m.config.seeds arrivals) node ≡ Some pair
  pub member : IsMember m pair
  pub released : (k : ℕ) (r : Receipt) → node ≡ length m.config.seeds + k → slice_get arrivals k ≡ Some r → IsReleased m r

-- a reached node has the document
pub record IsReachedAt (seeds : List Seed) (arrivals : List Receipt) (net : Net) (p : Pair) : Type 0 where
  pub node : ℕ
  pub reached : IsReached net node
  pub at : slice_get (pairs_of seeds arrivals) node ≡ Some p

module _ (m : Meaning) (arrivals : List Receipt) (same : (r : Receipt)
    → Contains m.held r ↔ Contains arrivals r) (fits : (r : Receipt) → Contains arrivals r
    → IsFitting m.config r) (labels : List Triple) (net : Net)
    (h : IsNetOf m.config.seeds arrivals m.records labels net) where
  -- reached is accepted

  -- A configured document is accepted.
  member-seed : (s : Seed) → Contains m.config.seeds s → IsMember m (pair_of_seed s)
  member-seed s c = record { seed = s; configured = c; chain = []; held = tt; leads = refl }

  -- A held receipt that an accepted document vouches for has its document accepted.
  member-on : (p : Pair) (r : Receipt) → IsMember m p → Contains m.held r → IsFitting m.config r → Vouches m.records p r → IsMember m (pair_of r)
  member-on p r a held fit v = record {
    seed = a.seed;
    configured = a.configured;
    chain = a.chain ++ r ∷ [];
    held = all_more (Contains m.held) a.chain r a.held held;
    leads = leads_more m.config m.records (pair_of_seed a.seed) a.chain p r a.leads fit v;
  }

  -- What is at a reached node is accepted: the index accepts no more than the meaning does.
  pub accepted-from_reached : (n : ℕ) → IsReached net n → IsAccepted m arrivals n
  accepted-from_reached n (root e) =
      let spot = spot-of_root (node_specs_of m.config.seeds arrivals) labels (IsShutBy m.records) net h n e in
      elim (node-cases m.config.seeds arrivals n spot.0 spot.1) [
        | inl a ↦ record {
          pair = pair_of_seed a.seed;
          at = pair-of_seed_node m.config.seeds arrivals n a.seed a.at;
          member = member-seed a.seed (slice_get-Contains m.config.seeds n a.seed a.at);
          released = λ k r is at. absurd (omega (arith, is, slice_get_within m.config.seeds n a.seed a.at));
        }
        | inr a ↦
            absurd (both_ways (is_root net n)
            (root-of_spot (node_specs_of m.config.seeds arrivals) labels (IsShutBy m.records) net h n spot.0 spot.1
            ∙ ap (λ (s : NodeSpec Triple). s.rooted) (sym a.is)) e)
      ]
  accepted-from_reached n (step {node = v} {label = l} {i = i} {j = j} r e c w) =
      let before = accepted-from_reached v r in
      let o = offer-of_edge (node_specs_of m.config.seeds arrivals) labels (IsShutBy m.records) net h i v l e in
      let a = wait-of_edge (node_specs_of m.config.seeds arrivals) labels (IsShutBy m.records) net h j l n w in
      elim (node-cases m.config.seeds arrivals n a.spot a.at) [
        | inl b ↦ absurd (none-some a.label (ap (λ (s : NodeSpec Triple). s.awaits) b.is ∙ a.awaits))
        | inr b ↦
            let need : need_of b.receipt ≡ o.label =
            same_Some (need_of b.receipt) o.label
            (ap (λ (s : NodeSpec Triple). s.awaits) b.is ∙ a.awaits ∙ sym a.named ∙ o.named) in
            let has : Contains (offers_of before.pair) (need_of b.receipt) =
            subst (λ offers. Contains offers (need_of b.receipt))
            (offers-of_node m.config.seeds arrivals v o.spot before.pair o.at before.at)
            (subst (Contains o.spot.offers) (sym need) o.has)
            in
            let open' : IsShutBy m.records (need_of b.receipt) → ⊥ =
            λ x. both_ways (is_closed net l) c ((h.closed l o.label o.named).1 (subst (IsShutBy m.records) need x))
            in
            let vouches = vouches-from_offer m.records before.pair b.receipt has open' in
            let arrived : Contains arrivals b.receipt = slice_get-Contains arrivals b.place b.receipt b.at in
            let held : Contains m.held b.receipt = (same b.receipt).1 arrived in
            let fit = fits b.receipt arrived in
            let released : IsReleased m b.receipt = record { held = held; fits = fit; voucher = before.pair; accepted = before.member; vouches = vouches } in
            record {
              pair = pair_of b.receipt;
              at = ap (λ k. slice_get (pairs_of m.config.seeds arrivals) k) b.node_is ∙ pair-of_receipt_node m.config.seeds arrivals b.place b.receipt b.at;
              member = member-on before.pair b.receipt before.member held fit vouches;
              released = λ k r' is at.
                  let k_is : k ≡ b.place = omega (arith, is, b.node_is) in
                  subst (IsReleased m) (same_Some b.receipt r' (sym b.at ∙ ap (λ x. slice_get arrivals x) (sym k_is) ∙ at)) released;
            }
      ]

  -- released is reached

  -- A receipt that the document of a reached node vouches for has a reached node.
  pub reached-on_receipt : (v : ℕ) (p : Pair) (k : ℕ) (r : Receipt) → IsReached net v
      → slice_get (pairs_of m.config.seeds arrivals) v ≡ Some p → slice_get arrivals k ≡ Some r → Vouches m.records p r
      → IsReached net (length m.config.seeds + k)
  reached-on_receipt v p k r reached at to vouches =
      let here = spot-of_pair m.config.seeds arrivals v p at in
      reached-on (node_specs_of m.config.seeds arrivals) labels (IsShutBy m.records) net h v (length m.config.seeds + k)
      here.0 (receipt_node r) (need_of r) reached here.1
      (spot-of_receipt_node m.config.seeds arrivals k r to)
      (subst (λ offers. Contains offers (need_of r)) (sym (offers-of_node m.config.seeds arrivals v here.0 p here.1 at))
      (offer-from_vouches m.records p r vouches))
      refl
      (open-from_vouches m.records p r vouches)

  -- A chain of held receipts from a reached node leads to a reached node.
  reached-along : (chain : List Receipt) (v : ℕ) (p to : Pair) → IsReached net v
      → slice_get (pairs_of m.config.seeds arrivals) v ≡ Some p → AllByRecursion (Contains m.held) chain
      → Leads m.config m.records p chain to → IsReachedAt m.config.seeds arrivals net to
  reached-along [] v p to reached at held leads = record { node = v; reached = reached; at = at ∙ ap (λ q. Some q) leads }
  reached-along (r ∷ chain) v p to reached at held leads =
      let place = Contains-slice_get arrivals r ((same r).0 held.0) in
      reached-along chain (length m.config.seeds + place.0) (pair_of r) to (reached-on_receipt v p place.0 r reached at place.1 leads.1)
      (pair-of_receipt_node m.config.seeds arrivals place.0 r place.1) held.1 leads.2

  -- An accepted document has a reached node: the index accepts no less than the meaning does.
  pub reached-from_member : (p : Pair) → IsMember m p → IsReachedAt m.config.seeds arrivals net p
  reached-from_member p a =
      let place = Contains-slice_get m.config.seeds a.seed a.configured in
      let is : is_root net place.0 ≡ true =
      root-of_spot (node_specs_of m.config.seeds arrivals) labels (IsShutBy m.records) net h place.0
      (seed_node a.seed) (spot-of_seed_node m.config.seeds arrivals place.0 a.seed place.1) in
      reached-along a.chain place.0 (pair_of_seed a.seed) p (root is) (pair-of_seed_node m.config.seeds arrivals place.0 a.seed place.1) a.held a.leads

  -- A receipt that an accepted document vouches for has a reached node.
  pub reached-from_released : (k : ℕ) (r : Receipt) → slice_get arrivals k ≡ Some r → IsReleased m r → IsReached net (length m.config.seeds + k)
  reached-from_released k r at released =
      let v = reached-from_member released.voucher released.accepted in
      reached-on_receipt v.node released.voucher k r v.reached v.at at released.vouches
