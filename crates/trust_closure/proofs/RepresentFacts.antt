-- A net remains a mirror
use Rattle.std.proofs.Common.{◌≡◌, ◌≢◌, ℕ, ◌+◌, ◌<◌, ◌⊎◌, inl, inr, Bool, true, false, List, [], ◌∷◌, ◌++◌}
use Rattle.std.proofs.Common.{length, get_or, set, map, Option, Some, None, arith, refl, sym, ap, ◌∙◌, subst}
use Rattle.std.specs.Prelude.{AllPairs, Contains, slice_get, ◌↔◌}
use Rattle.std.specs.Option.{option_to_list}
use Rattle.std.proofs.lemmas.List.{append-nil, append_assoc, map_push, length-map, length_push, get_or_append_left, set_at, get_or_push}
use Rattle.std.proofs.lemmas.List.Quantifiers.{all_pairs_push}
use Rattle.std.proofs.lemmas.List.Elements.{Contains-get_or, Contains-push, Contains-push_cases, Contains-append_left}
use Rattle.std.proofs.lemmas.Option.{none-some}
use Rattle.wait_index.specs.declared.edges.Edge.{Edge}
use Rattle.wait_index.specs.Net.{Net, is_closed, with_node, with_label, with_offer, with_wait, with_root}
use Rattle.trust_closure.specs.Inside.NodeSpecs.{NodeSpec, LabelledEdge, labelled_edge_at, labelled_edges_from, offered_at, awaited_at, offer_edge, wait_edge}
use Rattle.trust_closure.specs.Inside.NodeSpecs.{IsUsed, Represents, bare_node}
use Rattle.trust_closure.proofs.LabelledEdgeFacts.{arrows-push}
use Rattle.closure_parts.proofs.PlaceFacts.{slice_get-left, slice_get-push_cases}

-- arrows name labels that are there, so more labels change none

-- each of these arrows names a label
abbrev pub AreNamed : {A : Type 0} → List (LabelledEdge A) → Type 0
AreNamed [] = Unit {0}
AreNamed {A} (arrow ∷ arrows) = ((label : A) × (arrow.label ≡ Some label)) × AreNamed arrows

-- The arrows of one node name labels.
AreNamed-map : {A : Type 0} (node : ℕ) (labels : List A) → AreNamed (map (labelled_edge_at node) labels)
AreNamed-map node [] = tt
AreNamed-map node (label ∷ labels) = ((label, refl), AreNamed-map node labels)

-- What two lists of arrows name, both together do.
AreNamed-append : {A : Type 0} (xs ys : List (LabelledEdge A)) → AreNamed xs → AreNamed ys → AreNamed (xs ++ ys)
AreNamed-append [] ys a b = b
AreNamed-append (x ∷ xs) ys a b = (a.0, AreNamed-append xs ys a.1 b)

-- The arrows of spots name labels.
pub AreNamed-arrows : {A : Type 0} (of : NodeSpec A → List A) (node : ℕ) (spots : List (NodeSpec A)) → AreNamed (labelled_edges_from of node spots)
AreNamed-arrows of node [] = tt
AreNamed-arrows of node (spot ∷ spots) =
    AreNamed-append (map (labelled_edge_at node) (of spot)) (labelled_edges_from of (node + 1) spots)
    (AreNamed-map node (of spot)) (AreNamed-arrows of (node + 1) spots)

-- More labels leave the arrows of offer edges as they are.
offers-named : {A : Type 0} (labels more : List A) (edges : List Edge) → AreNamed (map (offer_edge labels) edges)
    → map (offer_edge (labels ++ more)) edges ≡ map (offer_edge labels) edges
offers-named labels more [] a = refl
offers-named {A = A} labels more (edge ∷ edges) a =
    let e : slice_get (labels ++ more) edge.to ≡ slice_get labels edge.to = slice_get-left labels more edge.to a.0.0 a.0.1 ∙ sym a.0.1 in
    let same : offer_edge (labels ++ more) edge ≡ offer_edge labels edge =
    ap (λ (o : Option A). let arrow : LabelledEdge A = record { node = edge.from; label = o } in arrow) e in
    ap (λ first. first ∷ map (offer_edge (labels ++ more)) edges) same ∙ ap (λ rest. offer_edge labels edge ∷ rest) (offers-named labels more edges a.1)

-- More labels leave the arrows of wait edges as they are.
waits-named : {A : Type 0} (labels more : List A) (edges : List Edge) → AreNamed (map (wait_edge labels) edges)
    → map (wait_edge (labels ++ more)) edges ≡ map (wait_edge labels) edges
waits-named labels more [] a = refl
waits-named {A = A} labels more (edge ∷ edges) a =
    let e : slice_get (labels ++ more) edge.from ≡ slice_get labels edge.from = slice_get-left labels more edge.from a.0.0 a.0.1 ∙ sym a.0.1 in
    let same : wait_edge (labels ++ more) edge ≡ wait_edge labels edge =
    ap (λ (o : Option A). let arrow : LabelledEdge A = record { node = edge.to; label = o } in arrow) e in
    ap (λ first. first ∷ map (wait_edge (labels ++ more)) edges) same ∙ ap (λ rest. wait_edge labels edge ∷ rest) (waits-named labels more edges a.1)

-- ---- which labels are used

-- A label that is used is so with one more spot.
IsUsed-push : {A : Type 0} (spots : List (NodeSpec A)) (spot : NodeSpec A) (label : A) → IsUsed spots label
    → IsUsed (spots ++ spot ∷ []) label
IsUsed-push spots spot label h = record {
  spot = h.spot;
  placed = Contains-append_left spots (spot ∷ []) h.spot h.placed;
  uses = h.uses;
}

-- What the last spot offers or awaits is used.
IsUsed-last : {A : Type 0} (spots : List (NodeSpec A)) (spot : NodeSpec A) (label : A)
    → Contains spot.offers label ⊎ (spot.awaits ≡ Some label) → IsUsed (spots ++ spot ∷ []) label
IsUsed-last spots spot label uses = record {
  spot = spot;
  placed = Contains-push spots spot;
  uses = uses;
}

-- What is used is still used if the last spot is replaced by one that uses what it does.
IsUsed-other : {A : Type 0} (spots : List (NodeSpec A)) (spot other : NodeSpec A) (label : A)
    → (Contains spot.offers label → Contains other.offers label)
    → (spot.awaits ≡ Some label → other.awaits ≡ Some label)
    → IsUsed (spots ++ spot ∷ []) label → IsUsed (spots ++ other ∷ []) label
IsUsed-other {A = A} spots spot other label offers awaits h =
    elim (Contains-push_cases spots spot h.spot h.placed) [
      | inl c ↦
          IsUsed-push spots other label (record { spot = h.spot; placed = c; uses = h.uses })
      | inr e ↦
          let uses : Contains spot.offers label ⊎ (spot.awaits ≡ Some label) =
          subst (λ (s : NodeSpec A). Contains s.offers label ⊎ (s.awaits ≡ Some label)) (sym e) h.uses
          in
          IsUsed-last spots other label
          (elim uses [ inl a ↦ inl (offers a) | inr a ↦ inr (awaits a) ])
    ]

-- The net mirrors the spots, but none needs to use a label that is new.
pub record MirrorsBut {A : Type 0} (IsNew : A → Type 0) (spots : List (NodeSpec A)) (labels : List A)
    (IsShut : A → Type 0) (net : Net) : Type 0 where
  pub roots : net.roots ≡ map (λ spot. spot.rooted) spots
  pub sizes : length net.closed ≡ length labels
  pub closed : (number : ℕ) (label : A) → slice_get labels number ≡ Some label
      → (is_closed net number ≡ true) ↔ IsShut label
  pub offers : map (offer_edge labels) net.offers ≡ labelled_edges_from offered_at 0 spots
  pub waits : map (wait_edge labels) net.waits ≡ labelled_edges_from awaited_at 0 spots
  pub once : AllPairs ◌≢◌ labels
  pub used : (label : A) → Contains labels label → IsUsed spots label ⊎ IsNew label

module _ {A : Type 0} (spots : List (NodeSpec A)) (labels : List A) (IsShut : A → Type 0) (net : Net) (h : Represents spots labels IsShut net) where
  -- There is one node for each spot.
  pub length-roots : length net.roots ≡ length spots
  length-roots = ap length h.roots ∙ length-map spots (λ (s : NodeSpec A). s.rooted)

  -- With a node more the net mirrors a bare spot more.
  pub Represents-node : Represents (spots ++ bare_node ∷ []) labels IsShut (with_node net)
  Represents-node = record {
    roots = ap (λ rs. rs ++ false ∷ []) h.roots ∙ sym (map_push (λ (s : NodeSpec A). s.rooted) spots bare_node);
    sizes = h.sizes;
    closed = h.closed;
    offers = h.offers ∙ sym (arrows-push offered_at 0 spots bare_node ∙ append-nil (labelled_edges_from offered_at 0 spots));
    waits = h.waits ∙ sym (arrows-push awaited_at 0 spots bare_node ∙ append-nil (labelled_edges_from awaited_at 0 spots));
    once = h.once;
    used = λ label c. IsUsed-push spots bare_node label (h.used label c);
  }

  -- A net that mirrors the spots does so whichever labels are new.
  pub Represents-but : (IsNew : A → Type 0) → MirrorsBut IsNew spots labels IsShut net
  Represents-but IsNew = record {
    roots = h.roots;
    sizes = h.sizes;
    closed = h.closed;
    offers = h.offers;
    waits = h.waits;
    once = h.once;
    used = λ label c. inl (h.used label c);
  }

  -- With a new label the net mirrors the spots, but none needs to use that label.
  pub Represents-label : (IsNew : A → Type 0) (label : A) (closed : Bool) → IsNew label
      → (Contains labels label → ⊥) → ((closed ≡ true) ↔ IsShut label)
      → MirrorsBut IsNew spots (labels ++ label ∷ []) IsShut (with_label net closed)
  Represents-label IsNew label closed is new when = record {
    roots = h.roots;
    sizes = omega (arith, h.sizes, length_push labels label, length_push net.closed closed);
    closed = λ number other e.
        elim (slice_get-push_cases labels label number other e) [
          | inl a ↦
              let l : number < length net.closed = omega (arith, a.0, h.sizes) in
              let same : get_or (net.closed ++ closed ∷ []) number false ≡ get_or net.closed number false =
              get_or_append_left net.closed (closed ∷ []) false number l in
              let old = h.closed number other a.1 in
              (λ t. old.0 (sym same ∙ t), λ s. same ∙ old.1 s)
          | inr a ↦
              let at : get_or (net.closed ++ closed ∷ []) number false ≡ closed = get_or_push net.closed closed false number (h.sizes ∙ sym a.0) in
              (λ t. subst IsShut a.1 (when.0 (sym at ∙ t)), λ s. at ∙ when.1 (subst IsShut (sym a.1) s))
        ];
    offers = offers-named labels (label ∷ []) net.offers (subst AreNamed (sym h.offers) (AreNamed-arrows offered_at 0 spots)) ∙ h.offers;
    waits = waits-named labels (label ∷ []) net.waits (subst AreNamed (sym h.waits) (AreNamed-arrows awaited_at 0 spots)) ∙ h.waits;
    once = all_pairs_push ◌≢◌ labels label h.once (λ k d l e. new (subst (Contains labels) e (Contains-get_or labels k d l)));
    used = λ other c.
        elim (Contains-push_cases labels label other c) [
          | inl a ↦ inl (h.used other a)
          | inr e ↦ inr (subst IsNew e is)
        ];
  }

  -- A net with other flags mirrors the spots if these flags say what is shut.
  pub Represents-shut : (IsShut' : A → Type 0) (flags : List Bool) → length flags ≡ length net.closed
      → ((number : ℕ) (label : A) → slice_get labels number ≡ Some label
      → (get_or flags number false ≡ true) ↔ IsShut' label)
      → Represents spots labels IsShut' (record net { closed = flags })
  Represents-shut IsShut' flags size when = record {
    roots = h.roots;
    sizes = size ∙ h.sizes;
    closed = when;
    offers = h.offers;
    waits = h.waits;
    once = h.once;
    used = h.used;
  }

-- The last spot changes.

-- the spot as that of a root
abbrev pub rooted_spot : {A : Type 0} → NodeSpec A → NodeSpec A
rooted_spot spot = record spot { rooted = true }

-- the spot with one more offer
abbrev pub offering_spot : {A : Type 0} → NodeSpec A → A → NodeSpec A
offering_spot spot label = record spot { offers = spot.offers ++ label ∷ [] }

-- the spot that awaits the label
abbrev pub awaiting_spot : {A : Type 0} → NodeSpec A → A → NodeSpec A
awaiting_spot spot label = record spot { awaits = Some label }

module _ {A : Type 0} (spots : List (NodeSpec A)) (spot : NodeSpec A) (labels : List A) (IsShut : A
    → Type 0) (net : Net) (h : Represents (spots ++ spot ∷ []) labels IsShut net) where
  -- When the last spot's node becomes a root, the net mirrors the rooted spot.
  pub Represents-root : Represents (spots ++ rooted_spot spot ∷ []) labels IsShut (with_root net (length spots))
  Represents-root = record {
    roots = ap (λ rs. set rs (length spots) true) (h.roots ∙ map_push (λ (s : NodeSpec A). s.rooted) spots spot)
        ∙ set_at (map (λ (s : NodeSpec A). s.rooted) spots) spot.rooted [] true (length spots) (length-map spots (λ (s : NodeSpec A). s.rooted))
        ∙ sym (map_push (λ (s : NodeSpec A). s.rooted) spots (rooted_spot spot));
    sizes = h.sizes;
    closed = h.closed;
    offers = h.offers ∙ arrows-push offered_at 0 spots spot ∙ sym (arrows-push offered_at 0 spots (rooted_spot spot));
    waits = h.waits ∙ arrows-push awaited_at 0 spots spot ∙ sym (arrows-push awaited_at 0 spots (rooted_spot spot));
    once = h.once;
    used = λ label c.
        IsUsed-other spots spot (rooted_spot spot) label (λ a. a) (λ a. a) (h.used label c);
  }

-- It offers or awaits a label that may be new.
module _ {A : Type 0} (spots : List (NodeSpec A)) (spot : NodeSpec A) (labels : List A)
    (IsShut : A → Type 0) (net : Net) (label : A)
    (h : MirrorsBut (λ other. label ≡ other) (spots ++ spot ∷ []) labels IsShut net) where
  -- The roots do not change if the last spot is replaced by one that is a root exactly if it is.
  same-roots : (other : NodeSpec A) → spot.rooted ≡ other.rooted → net.roots ≡ map (λ (s : NodeSpec A). s.rooted) (spots ++ other ∷ [])
  same-roots other e =
      h.roots ∙ map_push (λ (s : NodeSpec A). s.rooted) spots spot ∙ ap (λ b. map (λ (s : NodeSpec A). s.rooted) spots ++ b ∷ []) e
      ∙ sym (map_push (λ (s : NodeSpec A). s.rooted) spots other)

  -- When the last spot's node offers the label, the net mirrors the spot with that offer.
  pub Represents-offer : (number : ℕ) → slice_get labels number ≡ Some label
      → Represents (spots ++ offering_spot spot label ∷ []) labels IsShut
      (with_offer net (length spots) number)
  Represents-offer number at =
      let edge : Edge = record { from = length spots; to = number } in
      let here : offer_edge labels edge ≡ labelled_edge_at (0 + length spots) label =
      ap (λ (o : Option A). let arrow : LabelledEdge A = record { node = length spots; label = o } in arrow) at
      ∙ ap (λ (n : ℕ). labelled_edge_at n label) (let e : length spots ≡ 0 + length spots = omega arith in e)
      in
      record {
        roots = same-roots (offering_spot spot label) refl;
        sizes = h.sizes;
        closed = h.closed;
        offers = map_push (offer_edge labels) net.offers edge
            ∙ ap (λ arrows. arrows ++ offer_edge labels edge ∷ []) (h.offers ∙ arrows-push offered_at 0 spots spot)
            ∙ append_assoc (labelled_edges_from offered_at 0 spots) (map (labelled_edge_at (0 + length spots)) spot.offers) (offer_edge labels edge ∷ [])
            ∙ ap (λ arrow. labelled_edges_from offered_at 0 spots ++ (map (labelled_edge_at (0 + length spots)) spot.offers ++ arrow ∷ [])) here
            ∙ ap (λ arrows. labelled_edges_from offered_at 0 spots ++ arrows) (sym (map_push (labelled_edge_at (0 + length spots)) spot.offers label))
            ∙ sym (arrows-push offered_at 0 spots (offering_spot spot label));
        waits = h.waits ∙ arrows-push awaited_at 0 spots spot ∙ sym (arrows-push awaited_at 0 spots (offering_spot spot label));
        once = h.once;
        used = λ other c.
            elim (h.used other c) [
              | inl u ↦
                  IsUsed-other spots spot (offering_spot spot label) other
                  (Contains-append_left spot.offers (label ∷ []) other) (λ a. a) u
              | inr e ↦
                  IsUsed-last spots (offering_spot spot label) other
                  (inl (subst (Contains (spot.offers ++ label ∷ [])) e
                  (Contains-push spot.offers label)))
            ];
      }

  -- When the last spot's node awaits the label, the net mirrors the spot that awaits it.
  pub Represents-wait : (number : ℕ) → spot.awaits ≡ None → slice_get labels number ≡ Some label
      → Represents (spots ++ awaiting_spot spot label ∷ []) labels IsShut
      (with_wait net number (length spots))
  Represents-wait number none at =
      let edge : Edge = record { from = number; to = length spots } in
      let here : wait_edge labels edge ≡ labelled_edge_at (0 + length spots) label =
      ap (λ (o : Option A). let arrow : LabelledEdge A = record { node = length spots; label = o } in arrow) at
      ∙ ap (λ (n : ℕ). labelled_edge_at n label) (let e : length spots ≡ 0 + length spots = omega arith in e)
      in
      let before : labelled_edges_from awaited_at 0 (spots ++ spot ∷ []) ≡ labelled_edges_from awaited_at 0 spots =
      arrows-push awaited_at 0 spots spot
      ∙ ap (λ (o : Option A). labelled_edges_from awaited_at 0 spots ++ map (labelled_edge_at (0 + length spots)) (option_to_list o)) none
      ∙ append-nil (labelled_edges_from awaited_at 0 spots)
      in
      record {
        roots = same-roots (awaiting_spot spot label) refl;
        sizes = h.sizes;
        closed = h.closed;
        offers = h.offers ∙ arrows-push offered_at 0 spots spot ∙ sym (arrows-push offered_at 0 spots (awaiting_spot spot label));
        waits = map_push (wait_edge labels) net.waits edge
            ∙ ap (λ arrows. arrows ++ wait_edge labels edge ∷ []) (h.waits ∙ before)
            ∙ ap (λ arrow. labelled_edges_from awaited_at 0 spots ++ arrow ∷ []) here
            ∙ sym (arrows-push awaited_at 0 spots (awaiting_spot spot label));
        once = h.once;
        used = λ other c.
            elim (h.used other c) [
              | inl u ↦
                  IsUsed-other spots spot (awaiting_spot spot label) other (λ a. a)
                  (λ a. absurd (none-some other (sym none ∙ a))) u
              | inr e ↦
                  IsUsed-last spots (awaiting_spot spot label) other
                  (inr (ap (λ (x : A). Some x) e))
            ];
      }
