-- A label index continues to mirror spots
use Rattle.std.proofs.Common.{◌≡◌, ℕ, zero, suc, ◌+◌, ◌<◌, ◌≤◌, inl, inr, Bool, true, List, [], ◌∷◌, ◌++◌, length}
use Rattle.std.proofs.Common.{get_or, take, map, Some, None, arith, refl, sym, ap, ◌∙◌, subst}
use Rattle.std.specs.Prelude.{Contains, slice_get, ◌↔◌}
use Rattle.std.specs.List.{All}
use Rattle.std.specs.List.Sorted.{IsStrictlySortedBy}
use Rattle.std.specs.declared.cmp.Ordering.TheVariants.{Less, Equal}
use Rattle.std.proofs.lemmas.Bool.{cases_order}
use Rattle.std.proofs.lemmas.Cmp.{nat_list_cmp_total, tied_itself}
use Rattle.std.proofs.lemmas.List.{map_push, append_assoc, take_more, take_all, take-take, length-take, append-nil}
use Rattle.std.proofs.lemmas.List.Elements.{All-push, All-contains, All-same, Contains-get_or}
use Rattle.std.proofs.lemmas.Option.{slice_get_within, same_Some, slice_get-get_or, get_or_from_slice_get}
use Rattle.fed_config.specs.Configuration.{Configuration, HasDomain, AreDomains, domain_cmp}
use Rattle.wait_index.specs.Net.{Net, with_offer, with_wait, with_root}
use Rattle.receipt_core.specs.declared.distrust.Distrust.{Distrust}
use Rattle.receipt_core.specs.declared.triple.Triple.{Triple}
use Rattle.receipt_core.specs.Receipt.{Receipt, Pair, key_ids, offer_of, offers_of}
use Rattle.receipt_core.specs.Acceptance.{IsFitting}
use Rattle.label_index.specs.declared.label.Label.{Label}
use Rattle.label_index.specs.Labels.{LabelIndexView, HasNumber, HasNode, Offers, Awaits, IsRooted}
use Rattle.trust_closure.specs.Inside.NodeSpecs.{NodeSpec, Represents, bare_node}
use Rattle.closure_parts.proofs.PlaceFacts.{Contains-from_map}
use Rattle.closure_parts.proofs.PlaceFacts.{slice_get-map_at, slice_get-Contains}
use Rattle.trust_closure.proofs.RepresentFacts.{rooted_spot, offering_spot, awaiting_spot, length-roots, MirrorsBut}
use Rattle.trust_closure.proofs.RepresentFacts.{Represents-but, Represents-node, Represents-label, Represents-root, Represents-offer}
use Rattle.trust_closure.proofs.RepresentFacts.{Represents-wait}
use Rattle.closure_parts.specs.Held.{IsShutBy}
use Rattle.trust_closure.specs.Inside.NetOf.{triple_by, IsLabelOf, IsLabelIndexOf, Widens}
use Rattle.closure_core.proofs.RisingFacts.{each_has}

-- ---- domains are different

-- No item of a sorted list is at two places.
pub rising-one_place : (xs : List (List ℕ)) → IsStrictlySortedBy domain_cmp xs → (i j : ℕ) (x : List ℕ) → i < j
    → slice_get xs i ≡ Some x → slice_get xs j ≡ Some x → ⊥
unfolding IsStrictlySortedBy
rising-one_place [] s i j x l a b = omega (arith, slice_get_within [] i x a)
rising-one_place (y ∷ xs) s zero zero x l a b = omega arith
rising-one_place (y ∷ xs) s zero (suc j) x l a b =
    let same : y ≡ x = same_Some y x a in
    let less : domain_cmp y x ≡ Less = each_has (λ z. domain_cmp y z ≡ Less) xs x s.0 (slice_get-Contains xs j x b) in
    let tied : domain_cmp x x ≡ Equal = tied_itself nat_list_cmp_total x in
    let both : Less ≡ Equal = sym (subst (λ z. domain_cmp z x ≡ Less) same less) ∙ tied in
    absurd (cc)
rising-one_place (y ∷ xs) s (suc i) zero x l a b = omega arith
rising-one_place (y ∷ xs) s (suc i) (suc j) x l a b = rising-one_place xs s.1 i j x (omega (arith, l)) a b

-- A domain has one number.
pub domain-one_number : (domains : List (List ℕ)) → IsStrictlySortedBy domain_cmp domains → (i j : ℕ)
    → i < length domains → j < length domains → get_or domains i [] ≡ get_or domains j [] → i ≡ j
domain-one_number domains rising i j k l e =
    let at : slice_get domains i ≡ Some (get_or domains i []) = slice_get-get_or domains i [] k in
    let there : slice_get domains j ≡ Some (get_or domains i []) = slice_get-get_or domains j [] l ∙ ap (λ (x : List ℕ). Some x) (sym e) in
    elim (cases_order i j) [
      | inl s ↦ s
      | inr c ↦
          elim c [
            | inl b ↦ absurd (rising-one_place domains rising i j (get_or domains i []) b at there)
            | inr b ↦ absurd (rising-one_place domains rising j i (get_or domains i []) b there at)
          ]
    ]

module _ (domains : List (List ℕ)) (rising : IsStrictlySortedBy domain_cmp domains) where
  -- Labels that mean one triple are one label.
  triple-one_label : (a b : Label) → a.domain < length domains → b.domain < length domains → triple_by domains a ≡ triple_by domains b → a ≡ b
  triple-one_label a b k l e =
      let domain : a.domain ≡ b.domain = domain-one_number domains rising a.domain b.domain k l (ap (λ (t : Triple). t.domain) e) in
      let document = ap (λ (t : Triple). t.document) e in
      let key = ap (λ (t : Triple). t.key) e in
      ap (λ (n : ℕ). let x : Label = record { domain = n; document = a.document; key = a.key } in x) domain
      ∙ ap (λ d. let x : Label = record { domain = b.domain; document = d; key = a.key } in x) document
      ∙ ap (λ q. let x : Label = record { domain = b.domain; document = b.document; key = q } in x) key

  -- a label gets its number

  -- the number is that of the triple's label, which alone may be used by no spot yet
  pub record IsNumbered (records : List Distrust) (spots : List (NodeSpec Triple)) (more : List Label) (wider : Net) (number : ℕ) (t : Triple) : Type 0 where
    pub within : All (λ (label : Label). label.domain < length domains) more
    pub mirrors : MirrorsBut (λ other. t ≡ other) spots (map (triple_by domains) more)
        (IsShutBy records) wider
    pub named : slice_get (map (triple_by domains) more) number ≡ Some t

  -- After its number is looked up or made, the label has it.
  numbered : (records : List Distrust) (spots : List (NodeSpec Triple)) (labels : List Label) (net : Net) (label : Label)
      (closed : Bool) (more : List Label) (wider : Net) (number : ℕ) (t : Triple)
      → All (λ (l : Label). l.domain < length domains) labels → Represents spots (map (triple_by domains) labels) (IsShutBy records) net
      → label.domain < length domains → triple_by domains label ≡ t → ((closed ≡ true) ↔ IsShutBy records t)
      → HasNumber labels net label closed more wider number
      → IsNumbered records spots more wider number t
  numbered records spots labels net label closed more wider number t within mirrors l is when h =
      let named : slice_get (map (triple_by domains) more) number ≡ Some t =
      slice_get-map_at (triple_by domains) more number label h.named ∙ ap (λ (x : Triple). Some x) is in
      elim h.grown [
        | inl same ↦ record {
          within = All-same (λ (x : Label). x.domain < length domains) more labels same.0 within;
          mirrors = Represents-but spots (map (triple_by domains) more) (IsShutBy records) wider
              (subst (λ ls. Represents spots (map (triple_by domains) ls) (IsShutBy records) wider)
              (sym same.0)
              (subst (Represents spots (map (triple_by domains) labels) (IsShutBy records))
              (sym same.1) mirrors))
              (λ other. t ≡ other);
          named = named;
        }
        | inr new ↦
            let fresh : Contains (map (triple_by domains) labels) (triple_by domains label) → ⊥ = λ c.
            let f = Contains-from_map (triple_by domains) labels (triple_by domains label) c in
            new.0 (subst (Contains labels)
            (triple-one_label f.0 label
            (All-contains (λ (x : Label). x.domain < length domains) labels f.0 within f.1) l f.2) f.1)
            in
            let on = Represents-label spots (map (triple_by domains) labels) (IsShutBy records) net mirrors
            (λ other. t ≡ other) (triple_by domains label) closed (sym is) fresh
            (λ e. subst (IsShutBy records) (sym is) (when.0 e), λ s. when.1 (subst (IsShutBy records) is s))
            in
            let lists : map (triple_by domains) more ≡ map (triple_by domains) labels ++ triple_by domains label ∷ [] =
            ap (map (triple_by domains)) new.1 ∙ map_push (triple_by domains) labels label in
            record {
              within = All-same (λ (x : Label). x.domain < length domains) more (labels ++ label ∷ []) new.1
                  (All-push (λ (x : Label). x.domain < length domains) labels label within l);
              mirrors = subst (λ ts. MirrorsBut (λ other. t ≡ other) spots ts (IsShutBy records) wider)
                  (sym lists)
                  (subst (MirrorsBut (λ other. t ≡ other) spots
                  (map (triple_by domains) labels ++ triple_by domains label ∷ []) (IsShutBy records))
                  (sym new.2) on);
              named = named;
            }
      ]

  -- ---- one call

  module _ (records : List Distrust) (spots : List (NodeSpec Triple)) (old new : LabelIndexView) where
    -- When a node is added, the label index mirrors a bare spot more.
    pub label_index-node : (node : ℕ) → IsLabelIndexOf domains records spots old → HasNode old new node
        → IsLabelIndexOf domains records (spots ++ bare_node ∷ []) new
    label_index-node node h n = record {
      within = All-same (λ (x : Label). x.domain < length domains) new.labels old.labels n.labels h.within;
      mirrors = subst (λ ls. Represents (spots ++ bare_node ∷ []) (map (triple_by domains) ls) (IsShutBy records) new.net) (sym n.labels)
          (subst (Represents (spots ++ bare_node ∷ []) (map (triple_by domains) old.labels) (IsShutBy records)) (sym n.net)
          (Represents-node spots (map (triple_by domains) old.labels) (IsShutBy records) old.net h.mirrors));
    }

    -- When the last node becomes a root, the label index mirrors a rooted spot.
    pub label_index-root : (spot : NodeSpec Triple) (node : ℕ) → node ≡ length spots
        → IsLabelIndexOf domains records (spots ++ spot ∷ []) old → IsRooted old node new
        → IsLabelIndexOf domains records (spots ++ rooted_spot spot ∷ []) new
    label_index-root spot node at h r = record {
      within = All-same (λ (x : Label). x.domain < length domains) new.labels old.labels r.labels h.within;
      mirrors = subst (λ ls. Represents (spots ++ rooted_spot spot ∷ []) (map (triple_by domains) ls) (IsShutBy records) new.net) (sym r.labels)
          (subst (Represents (spots ++ rooted_spot spot ∷ []) (map (triple_by domains) old.labels) (IsShutBy records)) (sym (r.net ∙ ap (with_root old.net) at))
          (Represents-root spots spot (map (triple_by domains) old.labels) (IsShutBy records) old.net h.mirrors));
    }

    -- When the last node offers a label, the label index mirrors a spot with that offer.
    pub label_index-offer : (spot : NodeSpec Triple) (node : ℕ) (label : Label) (closed : Bool) (t : Triple)
        → node ≡ length spots → label.domain < length domains → triple_by domains label ≡ t
        → ((closed ≡ true) ↔ IsShutBy records t) → IsLabelIndexOf domains records (spots ++ spot ∷ []) old
        → Offers old node label closed new → IsLabelIndexOf domains records (spots ++ offering_spot spot t ∷ []) new
    label_index-offer spot node label closed t at l is when h o =
        let n = numbered records (spots ++ spot ∷ []) old.labels old.net label closed new.labels o.wider o.number t h.within h.mirrors l is when o.numbered in
        record {
          within = n.within;
          mirrors = subst (Represents (spots ++ offering_spot spot t ∷ []) (map (triple_by domains) new.labels)
              (IsShutBy records)) (sym (o.net ∙ ap (λ k. with_offer o.wider k o.number) at))
              (Represents-offer spots spot (map (triple_by domains) new.labels) (IsShutBy records) o.wider t n.mirrors o.number n.named);
        }

    -- When the last node awaits a label, the label index mirrors a spot that awaits it.
    pub label_index-wait : (spot : NodeSpec Triple) (node : ℕ) (label : Label) (closed : Bool) (t : Triple) → node ≡ length spots
        → spot.awaits ≡ None → label.domain < length domains → triple_by domains label ≡ t
        → ((closed ≡ true) ↔ IsShutBy records t) → IsLabelIndexOf domains records (spots ++ spot ∷ []) old
        → Awaits old node label closed new → IsLabelIndexOf domains records (spots ++ awaiting_spot spot t ∷ []) new
    label_index-wait spot node label closed t at none l is when h o =
        let n = numbered records (spots ++ spot ∷ []) old.labels old.net label closed new.labels o.wider o.number t h.within h.mirrors l is when o.numbered in
        record {
          within = n.within;
          mirrors = subst (Represents (spots ++ awaiting_spot spot t ∷ []) (map (triple_by domains) new.labels)
              (IsShutBy records)) (sym (o.net ∙ ap (λ k. with_wait o.wider o.number k) at))
              (Represents-wait spots spot (map (triple_by domains) new.labels) (IsShutBy records) o.wider t n.mirrors o.number none n.named);
        }

-- ---- labels of triples

-- A triple's label names a domain that is there.
pub label-within : (c : Configuration) (domains : List (List ℕ)) (t : Triple) (label : Label) → AreDomains c domains
    → IsLabelOf c t label → label.domain < length domains
label-within c domains t label d h = slice_get_within domains label.domain t.domain (h.domain domains d)

-- A triple's label means it.
pub label-triple : (c : Configuration) (domains : List (List ℕ)) (t : Triple) (label : Label) → AreDomains c domains
    → IsLabelOf c t label → triple_by domains label ≡ t
label-triple c domains t label d h =
    ap (λ (n : List ℕ). let x : Triple = record { domain = n; document = label.document; key = label.key } in
    x) (get_or_from_slice_get domains label.domain t.domain [] (h.domain domains d))
    ∙ ap (λ i. let x : Triple = record { domain = t.domain; document = i; key = label.key } in x) h.document
    ∙ ap (λ k. let x : Triple = record { domain = t.domain; document = t.document; key = k } in x) h.key

-- ---- domains of receipts and of what they offer

-- The domain of a receipt that fits is one of the configuration.
pub fitting-domain : (c : Configuration) (r : Receipt) → IsFitting c r → HasDomain c r.domain
fitting-domain c r h = inl (h.relationship, h.has, h.domain)

-- The endpoint's domain of a receipt that fits is one of the configuration.
pub fitting-endpoint : (c : Configuration) (r : Receipt) → IsFitting c r → HasDomain c r.endpoint.domain
fitting-endpoint c r h = inr (inl (h.relationship, h.has, ap (λ e. e.domain) h.endpoint))

-- What a document offers is of its own domain.
pub offers-domain : (P : List ℕ → Type 0) (p : Pair) → P p.domain → All (λ (t : Triple). P t.domain) (offers_of p)
offers-domain P p h k d l =
    let f = Contains-from_map (offer_of p) (key_ids p.document.authorities) (get_or (offers_of p) k d) (Contains-get_or (offers_of p) k d l) in
    subst (λ (t : Triple). P t.domain) f.2 h

-- ---- what the calls promise

module _ (c : Configuration) (records : List Distrust) (old new : LabelIndexView) (node : ℕ) (label : Label) (closed : Bool)
    (t : Triple) (is : IsLabelOf c t label) (when : (closed ≡ true) ↔ IsShutBy records t) where
  -- After the node offers the label, the label index mirrors a spot with that offer.
  pub offer-mirrors : Offers old node label closed new
      → (domains : List (List ℕ)) (spots : List (NodeSpec Triple)) (spot : NodeSpec Triple) → AreDomains c domains
      → node ≡ length spots → IsLabelIndexOf domains records (spots ++ spot ∷ []) old
      → IsLabelIndexOf domains records (spots ++ offering_spot spot t ∷ []) new
  offer-mirrors o domains spots spot d at h =
      label_index-offer domains d.rising records spots old new spot node label closed t at
      (label-within c domains t label d is) (label-triple c domains t label d is) when h o

  -- After the node awaits the label, the label index mirrors a spot that awaits it.
  pub wait-mirrors : Awaits old node label closed new
      → (domains : List (List ℕ)) (spots : List (NodeSpec Triple)) (spot : NodeSpec Triple) → AreDomains c domains
      → node ≡ length spots → spot.awaits ≡ None → IsLabelIndexOf domains records (spots ++ spot ∷ []) old
      → IsLabelIndexOf domains records (spots ++ awaiting_spot spot t ∷ []) new
  wait-mirrors o domains spots spot d at none h =
      label_index-wait domains d.rising records spots old new spot node label closed t at none
      (label-within c domains t label d is) (label-triple c domains t label d is) when h o

-- offers come one after another

module _ (domains : List (List ℕ)) (records : List Distrust) (spots : List (NodeSpec Triple)) (spot : NodeSpec Triple)
    (triples : List Triple) (w : LabelIndexView) where
  -- Equal offers are mirrored alike.
  other-offers : (before after : List Triple) → before ≡ after
      → IsLabelIndexOf domains records (spots ++ record spot { offers = before } ∷ []) w
      → IsLabelIndexOf domains records (spots ++ record spot { offers = after } ∷ []) w
  other-offers before after e h = subst (λ (os : List Triple). IsLabelIndexOf domains records (spots ++ record spot { offers = os } ∷ []) w) e h

  -- Before the first offer the spot has only its own offers: the loop's beginning.
  pub offers-none : IsLabelIndexOf domains records (spots ++ spot ∷ []) w
      → IsLabelIndexOf domains records (spots ++ record spot { offers = spot.offers ++ take 0 triples } ∷ []) w
  offers-none h = other-offers spot.offers (spot.offers ++ []) (sym (append-nil spot.offers)) h

  -- One offer more of the list is mirrored: the loop's step.
  pub offers-more : (k : ℕ) (t : Triple) → k < length triples → t ≡ get_or triples k t
      → IsLabelIndexOf domains records (spots ++ record spot { offers = (spot.offers ++ take k triples) ++ t ∷ [] } ∷ []) w
      → IsLabelIndexOf domains records (spots ++ record spot { offers = spot.offers ++ take (k + 1) triples } ∷ []) w
  offers-more k t l e h =
      other-offers ((spot.offers ++ take k triples) ++ t ∷ []) (spot.offers ++ take (k + 1) triples)
      (append_assoc spot.offers (take k triples) (t ∷ [])
      ∙ ap (λ ts. spot.offers ++ ts) (ap (λ x. take k triples ++ x ∷ []) e ∙ sym (take_more triples k t l)))
      h

  -- When no offer is left, all of the list are mirrored: the loop's end.
  pub offers-all : (k : ℕ) → length triples ≤ k
      → IsLabelIndexOf domains records (spots ++ record spot { offers = spot.offers ++ take k triples } ∷ []) w
      → IsLabelIndexOf domains records (spots ++ record spot { offers = spot.offers ++ triples } ∷ []) w
  offers-all k l h = other-offers (spot.offers ++ take k triples) (spot.offers ++ triples) (ap (λ ts. spot.offers ++ ts) (take_all k triples l)) h

-- ---- marked nodes remain in their places

-- What remains at the front twice remains there.
pub front-trans : {A : Type 0} (xs ys zs : List A) → take (length xs) ys ≡ xs → take (length ys) zs ≡ ys → take (length xs) zs ≡ xs
front-trans xs ys zs a b =
    let few : length xs ≤ length ys = omega (arith, ap length (sym a), length-take (length xs) ys) in
    sym (take-take (length xs) (length ys) zs few) ∙ ap (take (length xs)) b ∙ a

-- Without an edge nothing changes.
pub Widens-none : (w : LabelIndexView) → Widens 0 w w
Widens-none w = record { roots = refl; front = take_all (length w.marked) w.marked (omega arith); nodes = refl; room = omega arith }

-- Some edges, and then some more, take the room of both.
pub Widens-more : (k n : ℕ) (a b d : LabelIndexView) → Widens k a b → Widens n b d → Widens (k + n) a d
Widens-more k n a b d f g = record {
  roots = g.roots ∙ f.roots;
  front = front-trans a.marked b.marked d.marked f.front g.front;
  nodes = g.nodes ∙ f.nodes;
  room = omega (arith, f.room, g.room);
}

-- ---- a receipt's node

-- There is one node for each spot, so the next node's number is known.
pub node-number : (domains : List (List ℕ)) (records : List Distrust) (spots : List (NodeSpec Triple)) (w : LabelIndexView)
    → IsLabelIndexOf domains records spots w → length w.net.roots ≡ length spots
node-number domains records spots w h = length-roots spots (map (triple_by domains) w.labels) (IsShutBy records) w.net h.mirrors
