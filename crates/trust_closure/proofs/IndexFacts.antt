-- The flags of an indexed closure show what is accepted
use Rattle.std.proofs.Common.{◌≡◌, ℕ, zero, suc, ◌+◌, ◌-◌, ◌^◌, ◌<◌, ◌≤◌, ◌⊎◌, inl, inr, true, false, List}
use Rattle.std.proofs.Common.{[], ◌∷◌, ◌++◌, length, get_or, map, Some, None, arith, refl, sym, ap, ◌∙◌, subst}
use Rattle.std.specs.Prelude.{Contains, slice_get, ◌↔◌, ◌≢◌, AllPairs}
use Rattle.std.proofs.lemmas.List.Quantifiers.{all_pairs_push}
use Rattle.std.specs.List.{All}
use Rattle.std.proofs.lemmas.Bool.{cases_lt, both_ways}
use Rattle.std.proofs.lemmas.List.{append_assoc, append-nil, map_push, length_push, get_or_past}
use Rattle.std.proofs.lemmas.List.Elements.{Contains-get_or, All-contains, All-same}
use Rattle.std.proofs.lemmas.Option.{slice_get_within, same_Some, slice_get-get_or, get_or_from_slice_get}
use Rattle.fed_config.specs.declared.seed.Seed.{Seed}
use Rattle.fed_config.specs.Configuration.{Configuration, HasDomain, AreDomains, domain_cmp}
use Rattle.wait_index.specs.Index.{Index, Last}
use Rattle.wait_index.specs.Net.{Net, IsReached, root, ListsReached, ReportsFallen, visits_of, ClosesIn}
use Rattle.std.specs.List.Sorted.{IsStrictlySortedBy}
use Rattle.receipt_core.specs.declared.distrust.Distrust.{Distrust}
use Rattle.receipt_core.specs.declared.triple.Triple.{Triple}
use Rattle.receipt_core.specs.Receipt.{Receipt, Pair, pair_of, IsReceipt, offers_of, distrust_cmp}
use Rattle.receipt_core.specs.Rising.{with_items}
use Rattle.label_index.specs.declared.label.Label.{Label}
use Rattle.trust_closure.specs.Inside.NodeSpecs.{NodeSpec, Represents, bare_node}
use Rattle.closure_parts.proofs.PlaceFacts.{Contains-from_map}
use Rattle.closure_core.proofs.ContainsFacts.{contains_first, contains_cases, contains_none, contains_map}
use Rattle.std.proofs.lemmas.List.{length-map, length-append}
use Rattle.closure_core.specs.AcceptedList.{IsPendingCount}
use Rattle.receipt_core.specs.Acceptance.{Meaning, IsMeaning, IsMember, IsReleased, IsFitting, pair_of_seed}
use Rattle.label_index.specs.Labels.{LabelIndexView, IsOfKey, Closes, HasNode, IsRooted, IsRoomierIndex as IsRoomierWired}
use Rattle.closure_parts.proofs.PlaceFacts.{slice_get-left, slice_get-map_cases, slice_get-Contains, Contains-slice_get, one_place}
use Rattle.trust_closure.proofs.EdgeFacts.{root-of_spot}
use Rattle.trust_closure.proofs.RepresentFacts.{Represents-shut}
use Rattle.closure_core.specs.Inside.Nodes.{pairs_of, is_raised, flags_of, count_at}
use Rattle.closure_core.specs.Inside.Flags.{raised_count, ReportsMembers}
use Rattle.closure_parts.specs.NodeCounts.{AreCounts, AddsNodes}
use Rattle.closure_parts.specs.Held.{HeldReceipts, meaning_of}
use Rattle.trust_closure.specs.Inside.NetOf.{node_specs_of, seed_node, receipt_node, IsNetOf, IsLabelIndexOf, triple_by}
use Rattle.closure_parts.specs.Held.{IsShutBy}
use Rattle.closure_parts.specs.Pairs.{DocumentTableView, IsDocumentTable, HasRaised, no_documents}
use Rattle.trust_closure.specs.Work.{ClosesAtOnce, IsWorkOf}
use Rattle.trust_closure.specs.Inside.Indexed.{IsBuilt, IsIndexed, WasCounted, IsDistrusted, HasRoom}
use Rattle.closure_parts.specs.Held.{IsBefore}
use Rattle.trust_closure.specs.Inside.Indexed.{IsIndexedClosure, Reserves, IsIndexOf, Indexed, indexed_of, IsSeeded}
use Rattle.trust_closure.specs.declared.changes.FreeRoom.{FreeRoom}
use Rattle.closure_core.specs.Changes.{IsGain}
use Rattle.std.proofs.Common.{eqb}
use Rattle.std.proofs.lemmas.Bool.{eq-eqb, eqb-true, not-true, not_from_false, false_from_ne_true}
use Rattle.std.proofs.lemmas.List.{get_or_default}
use Rattle.std.proofs.lemmas.List.Folds.{Any-from_list_any, list_any_at}
use Rattle.wait_index.specs.Net.{is_among}
use Rattle.closure_core.specs.Count.{AreDifferent}
use Rattle.closure_core.proofs.CountFacts.{no_longer}
use Rattle.closure_core.proofs.NodeFacts.{length-flags}
use Rattle.closure_parts.proofs.NodeCountFacts.{flags-counted, flags-kept, flags-push, count_at-push, counts-from_zero}
use Rattle.closure_core.proofs.FlagFacts.{IsFirstOf, gain-from_flags, passing, passing-to, passing-from, passing-differ, only_wide, length-only_wide}
use Rattle.closure_core.proofs.FlagFacts.{different-map}
use Rattle.closure_parts.proofs.ConfigFacts.{one_domains}
use Rattle.closure_core.proofs.MemberFacts.{member_more}
use Rattle.closure_core.proofs.AlikeFacts.{same_of_equal}
use Rattle.trust_closure.proofs.LabelIndexFacts.{domain-one_number, label_index-node, label_index-root, node-number}
use Rattle.closure_core.proofs.RisingFacts.{each_has}
use Rattle.trust_closure.proofs.ReachedFacts.{IsAccepted, IsReachedAt, accepted-from_reached, reached-from_member, reached-from_released, spot-of_seed_node}
use Rattle.closure_parts.proofs.PairFacts.{pairing-once}
use Rattle.closure_parts.proofs.HeldChangeFacts.{pairs-push, distrust-sets, always-all, with_arrival, same-more, with_mistrust, hoard-before}
use Rattle.closure_parts.proofs.PairFacts.{pairing-counts}
use Rattle.receipt_core.specs.Limits.{most_receipts}
use Rattle.closure_parts.proofs.NodeCountFacts.{count-push}

module _ (h : HeldReceipts) (p : DocumentTableView) (w : LabelIndexView) (b : IsBuilt h p w) where
  -- Each receipt fits, since what is held is a meaning.
  fits : (r : Receipt) → Contains h.arrived r → IsFitting h.config r
  fits r c = each_has (IsFitting h.config) h.held r b.valid.fitting ((b.same r).1 c)

  -- What is at a reached node is accepted.
  pub node-accepted : (n : ℕ) → IsReached w.net n → IsAccepted (meaning_of h) h.arrived n
  node-accepted n r = accepted-from_reached (meaning_of h) h.arrived b.same fits (map (triple_by b.domains) w.labels) w.net b.wired.mirrors n r

  -- An accepted document has a reached node.
  pub member-reached : (q : Pair) → IsMember (meaning_of h) q → IsReachedAt h.config.seeds h.arrived w.net q
  member-reached q a = reached-from_member (meaning_of h) h.arrived b.same fits (map (triple_by b.domains) w.labels) w.net b.wired.mirrors q a

  -- The marked nodes are nodes that there are.
  pub marked-within : All (λ n. n < length p.heads) w.marked
  marked-within k d l =
      let c : Contains w.marked (get_or w.marked k d) = Contains-get_or w.marked k d l in
      let a = node-accepted (get_or w.marked k d) (b.reached.reached (get_or w.marked k d) c) in
      omega (arith, slice_get_within (pairs_of h.config.seeds h.arrived) (get_or w.marked k d) a.pair a.at, b.pairing.sizes)

  -- Each node's first number has a count.
  pub heads-within : All (λ f. f < length p.counts) p.heads
  heads-within k d l =
      let f = b.pairing.first k (get_or p.heads k d) (slice_get-get_or p.heads k d l) in
      omega (
        arith,
        All-contains (λ n. n < length (pairs_of h.config.seeds h.arrived)) p.numbers
            (get_or p.heads k d) b.pairing.within f.0,
        b.pairing.counted,
      )

  -- If the raised flags are those of marked nodes, they say what is accepted.
  reports-flags : ((number : ℕ) → (is_raised (flags_of p.counts) number ≡ true) ↔ IsFirstOf p.heads
      w.marked number) → ReportsMembers (meaning_of h) (pairs_of h.config.seeds h.arrived) p.numbers
      (flags_of p.counts)
  reports-flags flags = record {
    size = length-flags p.counts ∙ b.pairing.counted;
    sound = λ n q e at.
        let f = (flags n).0 e in
        let a = node-accepted f.0 (b.reached.reached f.0 f.1) in
        let same = same_Some a.pair q (sym a.at ∙ sym (b.pairing.first f.0 n f.2).1 ∙ at) in
        subst (IsMember (meaning_of h)) same a.member;
    listed = λ n e. let f = (flags n).0 e in (b.pairing.first f.0 n f.2).0;
    all = λ q a.
        let r = member-reached q a in
        let l : r.node < length p.heads = omega (arith, slice_get_within (pairs_of h.config.seeds h.arrived) r.node q r.at, b.pairing.sizes) in
        let at = slice_get-get_or p.heads r.node 0 l in
        let f = b.pairing.first r.node (get_or p.heads r.node 0) at in
        (get_or p.heads r.node 0, (flags (get_or p.heads r.node 0)).1 (r.node, b.reached.all r.node r.reached, at), f.1 ∙ r.at);
    once = λ one other q. pairing-once (pairs_of h.config.seeds h.arrived) p b.pairing one other q;
  }

  -- If the counts are those of marked nodes, their flags say what is accepted.
  pub reports : AreCounts p.heads w.marked p.counts
      → ReportsMembers (meaning_of h) (pairs_of h.config.seeds h.arrived) p.numbers
      (flags_of p.counts)
  reports are = reports-flags (flags-counted p.heads w.marked p.counts marked-within are)

-- A pair's flag is raised exactly if its document is accepted.
pub raised-member : (h : HeldReceipts) (p : DocumentTableView) (w : LabelIndexView) → IsIndexed h p w → (q : Pair)
    → HasRaised (pairs_of h.config.seeds h.arrived) p q ↔ IsMember (meaning_of h) q
raised-member h p w i q =
    let t = reports h p w i.built i.counts in (
      λ r. t.sound r.number q r.raised r.at,
      λ a. let f = t.all q a in record { number = f.0; has = t.listed f.0 f.1; at = f.2; raised = f.1 },
    )

-- ---- one more receipt

-- One more receipt has its spot last.
pub spots-push : (seeds : List Seed) (arrived : List Receipt) (r : Receipt)
    → node_specs_of seeds (arrived ++ r ∷ []) ≡ node_specs_of seeds arrived ++ receipt_node r ∷ []
spots-push seeds arrived r = ap (λ ss. map seed_node seeds ++ ss) (map_push receipt_node arrived r)
    ∙ sym (append_assoc (map seed_node seeds) (map receipt_node arrived) (receipt_node r ∷ []))

-- The index is built of what is held, after one more receipt.
pub built-more : (h new : HeldReceipts) (p q : DocumentTableView) (w v : LabelIndexView) (r : Receipt) → IsBuilt h p w → IsReceipt r
    → (Contains h.held r → ⊥) → new ≡ with_arrival h r → IsMeaning (meaning_of new)
    → ((domains : List (List ℕ)) (spots : List (NodeSpec Triple)) → AreDomains h.config domains
    → IsLabelIndexOf domains h.records spots w → IsLabelIndexOf domains h.records (spots ++ receipt_node r ∷ []) v)
    → ListsReached v.net v.marked → IsDocumentTable (pairs_of h.config.seeds h.arrived ++ pair_of r ∷ []) q → IsBuilt new q v
built-more h new p q w v r b form unheld is valid wired reached pairing =
    let valid' : IsMeaning (meaning_of (with_arrival h r)) = subst (λ x. IsMeaning (meaning_of x)) is valid in
    subst (λ x. IsBuilt x q v) (sym is) (record {
      valid = valid';
      same = same-more h r b.valid form b.same;
      once = all_pairs_push ◌≢◌ h.arrived r b.once
          (λ k d l e. unheld (subst (Contains h.held) e
          ((b.same (get_or h.arrived k d)).1 (Contains-get_or h.arrived k d l))));
      domains = b.domains;
      are_domains = b.are_domains;
      wired = subst (λ ss. IsLabelIndexOf b.domains h.records ss v) (sym (spots-push h.config.seeds h.arrived r))
          (wired b.domains (node_specs_of h.config.seeds h.arrived) b.are_domains b.wired);
      reached = reached;
      pairing = subst (λ ps. IsDocumentTable ps q) (sym (pairs-push h.config.seeds h.arrived r)) pairing;
    })

-- The same number of other counts leaves it built.
pub built-counts : (h : HeldReceipts) (p q : DocumentTableView) (w : LabelIndexView) → IsBuilt h p w → q.numbers ≡ p.numbers
    → q.heads ≡ p.heads → length q.counts ≡ length p.counts → IsBuilt h q w
built-counts h p q w b numbers heads counts = record {
  valid = b.valid;
  same = b.same;
  once = b.once;
  domains = b.domains;
  are_domains = b.are_domains;
  wired = b.wired;
  reached = b.reached;
  pairing = pairing-counts (pairs_of h.config.seeds h.arrived) p q b.pairing numbers heads counts;
}

-- The rise of the number of raised flags, with one more receipt, is what is gained.
pub gain-more : (h new : HeldReceipts) (p q : DocumentTableView) (w v : LabelIndexView) (r : Receipt) (nodes : List ℕ) (n : ℕ) → IsIndexed h p w
    → IsIndexed new q v → new ≡ with_arrival h r
    → AddsNodes q.heads nodes (p.counts ++ 0 ∷ []) q.counts
    → raised_count (flags_of q.counts) ≡ raised_count (flags_of (p.counts ++ 0 ∷ [])) + n
    → IsGain (meaning_of h) (meaning_of new) n
gain-more h new p q w v r nodes n i j is adds count =
    let prefix : pairs_of new.config.seeds new.arrived ≡ pairs_of h.config.seeds h.arrived ++ pair_of r ∷ [] =
    ap (λ (x : HeldReceipts). pairs_of x.config.seeds x.arrived) is ∙ pairs-push h.config.seeds h.arrived r in
    gain-from_flags no_documents (meaning_of h) (meaning_of new) (pairs_of h.config.seeds h.arrived)
    (pairs_of new.config.seeds new.arrived) p.numbers q.numbers (flags_of p.counts)
    (flags_of q.counts)
    (reports h p w i.built i.counts) (reports new q v j.built j.counts)
    (flags-kept p.counts q.counts (λ k. omega (arith, adds.each k, count_at-push p.counts k)))
    (λ k x e f at. ap (λ ps. slice_get ps k) prefix ∙ slice_get-left (pairs_of h.config.seeds h.arrived) (pair_of r ∷ []) k x at)
    n (count ∙ ap (λ m. m + n) (ap raised_count (flags-push p.counts (p.counts ++ 0 ∷ []) refl)
    ∙ count-push (flags_of p.counts)))
    (omega (arith, adds.size, length_push p.counts 0, length-flags p.counts, length-flags q.counts))

-- ---- more records of distrust

-- Labels are closed by these records exactly if they were before, or are meant.
abbrev pub Shuts : List (List ℕ) → List Distrust → List Distrust → (Label → Type 0) → Type 0
Shuts domains old new IsMeant = (label : Label) → label.domain < length domains
    → IsShutBy new (triple_by domains label) ↔
    (IsShutBy old (triple_by domains label) ⊎ IsMeant label)

-- The label index after a close mirrors the same spots under more records.
label_index-closed : (domains : List (List ℕ)) (records more : List Distrust) (IsMeant : Label → Type 0)
    (spots : List (NodeSpec Triple)) (old new : LabelIndexView) (work : ℕ)
    → IsLabelIndexOf domains records spots old → Shuts domains records more IsMeant
    → Closes old IsMeant new work → IsLabelIndexOf domains more spots new
label_index-closed domains records more IsMeant spots old new work h shuts c =
    let mirrors = Represents-shut spots (map (triple_by domains) old.labels) (IsShutBy records) old.net
    h.mirrors (IsShutBy more) c.net.flags c.net.sizes (λ i t e.
    let f = slice_get-map_cases (triple_by domains) old.labels i t e in
    let l : f.0.domain < length domains =
    All-contains (λ (a : Label). a.domain < length domains) old.labels f.0 h.within
    (slice_get-Contains old.labels i f.0 f.1) in
    let before = h.mirrors.closed i t e in
    let is = c.net.closed i f.0 f.1 in
    let both = shuts f.0 l in (
      λ shut. subst (IsShutBy more) f.2 (both.1
          (elim (is.0 shut) [
            | inl a ↦ inl (subst (IsShutBy records) (sym f.2) (before.0 a))
            | inr k
                ↦ inr k
          ])),
      λ has. is.1 (elim (both.0 (subst (IsShutBy more) (sym f.2) has))
          [ inl a ↦ inl (before.1 (subst (IsShutBy records) f.2 a)) | inr k ↦ inr k ]),
    ))
    in
    record {
      within = All-same (λ (a : Label). a.domain < length domains) new.labels old.labels c.labels h.within;
      mirrors = subst (λ ls. Represents spots (map (triple_by domains) ls) (IsShutBy more) new.net)
          (sym c.labels)
          (subst (Represents spots (map (triple_by domains) old.labels) (IsShutBy more))
          (sym c.net.net_is) mirrors);
    }

-- the labels of a key in a domain are those that one record closes
pub key-shut : (domains : List (List ℕ)) (x : Distrust) (number : ℕ)
    → IsStrictlySortedBy domain_cmp domains → slice_get domains number ≡ Some x.domain
    → (label : Label) → label.domain < length domains
    → IsOfKey number x.key label ↔ IsShutBy (x ∷ []) (triple_by domains label)
key-shut domains x number rising at label l = (
  λ k. subst (Contains (x ∷ []))
      (sym (ap (λ (d : List ℕ). let y : Distrust = record { domain = d; key = label.key } in y)
      (ap (λ j. get_or domains j []) k.0 ∙ get_or_from_slice_get domains number x.domain [] at)
      ∙ ap (λ q. let y : Distrust = record { domain = x.domain; key = q } in y) k.1))
      (contains_first x []),
  λ has. elim (contains_cases x [] (record
      { domain = get_or domains label.domain []; key = label.key }) has) [
        | inl same ↦ (
          domain-one_number domains rising label.domain number l
              (slice_get_within domains number x.domain at)
              (sym (ap (λ (y : Distrust). y.domain) same)
              ∙ sym (get_or_from_slice_get domains number x.domain [] at)),
          sym (ap (λ (y : Distrust). y.key) same),
        )
        | inr none ↦ absurd (contains_none (record
            { domain = get_or domains label.domain []; key = label.key }) none)
      ],
)

-- what more records close is what these close, or those
pub shuts-more : (domains : List (List ℕ)) (more records : List Distrust) (IsMeant : Label → Type 0)
    → ((label : Label) → label.domain < length domains
    → IsMeant label ↔ IsShutBy more (triple_by domains label))
    → Shuts domains records (with_items distrust_cmp more records) IsMeant
shuts-more domains more records IsMeant means label l =
    let t = triple_by domains label in
    let m = distrust-sets.all_members more records (record { domain = t.domain; key = t.key })
    (always-all more) (always-all records) in (
      λ has. elim (m.0 has) [ inl new ↦ inr ((means label l).1 new) | inr a ↦ inl a ],
      λ h. m.1 (elim h [ inl a ↦ inr a | inr k ↦ inl ((means label l).0 k) ]),
    )

-- the labels of distrusted keys are those that the records close
pub distrusted-shut : (h : HeldReceipts) (domains : List (List ℕ)) → AreDomains h.config domains
    → (label : Label) → label.domain < length domains
    → IsDistrusted h label ↔ IsShutBy h.records (triple_by domains label)
distrusted-shut h domains are =
    subst (λ (ds : List (List ℕ)). (label : Label) → label.domain < length ds
    → IsDistrusted h label ↔ IsShutBy h.records (triple_by ds label))
    (sym (one_domains h.config domains are))
    (λ label l. (λ d. d.shut, λ s. record { within = l; shut = s }))

-- what more records close is what the old ones close, or what all do
pub shuts-all : (domains : List (List ℕ)) (old new more : List Distrust) (IsMeant : Label → Type 0)
    → new ≡ with_items distrust_cmp more old
    → ((label : Label) → label.domain < length domains
    → IsMeant label ↔ IsShutBy new (triple_by domains label))
    → Shuts domains old (with_items distrust_cmp more old) IsMeant
shuts-all domains old new more IsMeant is means label l =
    let t = triple_by domains label in
    let m = distrust-sets.all_members more old (record { domain = t.domain; key = t.key })
    (always-all more) (always-all old) in (
      λ has. inr ((means label l).1 (subst (λ (xs : List Distrust). IsShutBy xs t) (sym is) has)),
      λ h. elim h [
        | inl a ↦ m.1 (inr a)
        | inr k ↦ subst (λ (xs : List Distrust). IsShutBy xs t) is
            ((means label l).0 k)
      ],
    )

-- The index is built of what is held, after a close for more records of distrust.
pub built-closed : (old new : HeldReceipts) (more : List Distrust) (p q : DocumentTableView) (w v : LabelIndexView)
    (IsMeant : Label → Type 0) (work : ℕ) → IsBuilt old p w → IsBefore old more new
    → IsMeaning (meaning_of new)
    → ((domains : List (List ℕ)) → AreDomains old.config domains
    → Shuts domains old.records (with_items distrust_cmp more old.records) IsMeant)
    → Closes w IsMeant v work → ListsReached v.net v.marked
    → q.numbers ≡ p.numbers → q.heads ≡ p.heads → length q.counts ≡ length p.counts
    → IsBuilt new q v
built-closed old new more p q w v IsMeant work b before valid shuts closes reached numbers heads
    counts =
    let is = hoard-before old new more before in
    let valid' : IsMeaning (meaning_of (with_mistrust old more new.capacity)) = subst
    (λ h. IsMeaning (meaning_of h)) is valid in
    subst (λ h. IsBuilt h q v) (sym is) (record {
      valid = valid';
      same = b.same;
      once = b.once;
      domains = b.domains;
      are_domains = b.are_domains;
      wired = label_index-closed b.domains old.records (with_items distrust_cmp more old.records) IsMeant
          (node_specs_of old.config.seeds old.arrived) w v work b.wired (shuts b.domains b.are_domains)
          closes;
      reached = reached;
      pairing = pairing-counts (pairs_of old.config.seeds old.arrived) p q b.pairing numbers heads
          counts;
    })

-- the counts are those of before a close
pub was-counted : (h : HeldReceipts) (p : DocumentTableView) (w v : LabelIndexView) (i : Index) (IsMeant : Label → Type 0)
    (work : ℕ) → IsIndexed h p w → Closes w IsMeant v work → i.marked ≡ v.marked → i.last ≡ v.last
    → WasCounted p i
was-counted h p w v i IsMeant work is c marked last = record {
  net = w.net;
  marked = w.marked;
  closing = c.numbers;
  reached = is.built.reached;
  within = marked-within h p w is.built;
  fell = subst (λ (l : Last). ReportsFallen w.net c.numbers l.fallen l.kept i.marked) (sym last)
      (subst (ReportsFallen w.net c.numbers v.last.fallen v.last.kept) (sym marked) c.fallen);
  many = subst (λ (l : Last). length l.fallen + l.kept ≡ length w.marked) (sym last) c.many;
  counts = is.counts;
}

-- A close of the labels that records shut closes them together, as the caller states it.
pub closes-at_once : (old new : HeldReceipts) (p : DocumentTableView) (w v : LabelIndexView) (was after : FreeRoom)
    (before work : ℕ) (records : List Distrust) (IsMeant : Label → Type 0) → IsBuilt old p w
    → Closes w IsMeant v work
    → ((domains : List (List ℕ)) → AreDomains old.config domains → (label : Label)
    → label.domain < length domains → IsMeant label ↔ IsShutBy records
    (triple_by domains label))
    → ClosesAtOnce (indexed_of old w was before) records (indexed_of new v after work)
closes-at_once old new p w v was after before work records IsMeant b c means = record {
  labels = map (triple_by b.domains) w.labels;
  net = b.wired.mirrors;
  closing = c.numbers;
  within = subst (λ n. All (λ number. number < n) c.numbers)
      (sym (length-map w.labels (triple_by b.domains))) c.are.within;
  exactly = λ number t at.
      let f = slice_get-map_cases (triple_by b.domains) w.labels number t at in
      let l : f.0.domain < length b.domains = All-contains
      (λ (a : Label). a.domain < length b.domains) w.labels f.0 b.wired.within
      (slice_get-Contains w.labels number f.0 f.1) in
      let is = c.are.exactly number f.0 f.1 in
      let shut = means b.domains b.are_domains f.0 l in (
        λ has. subst (IsShutBy records) f.2 (shut.0 (is.0 has)),
        λ s. is.1
            (shut.1 (subst (IsShutBy records) (sym f.2) s)),
      );
  work = c.work;
  fewer = c.fewer;
}

-- what is accepted with more records was accepted without them
pub kept-closed : (old new : HeldReceipts) (xs : List Distrust) (p q : DocumentTableView) (w v : LabelIndexView)
    → IsIndexed old p w → IsIndexed new q v → IsBefore old xs new → q.numbers ≡ p.numbers → (k : ℕ)
    → is_raised (flags_of q.counts) k ≡ true → is_raised (flags_of p.counts) k ≡ true
kept-closed old new xs p q w v i j before numbers k e =
    let is = hoard-before old new xs before in
    let same : pairs_of new.config.seeds new.arrived ≡ pairs_of old.config.seeds old.arrived =
    ap (λ (h : HeldReceipts). pairs_of h.config.seeds h.arrived) is in
    let fewer = reports new q v j.built j.counts in
    let more = reports old p w i.built i.counts in
    let l : k < length (pairs_of new.config.seeds new.arrived) = omega (arith, within, fewer.size) in
    let at = slice_get-get_or (pairs_of new.config.seeds new.arrived) k no_documents l in
    let m = fewer.sound k (get_or (pairs_of new.config.seeds new.arrived) k no_documents) e at in
    let less = member_more (meaning_of new) (meaning_of old) (same_of_equal new.config old.config before.config)
    (λ r c. subst (λ rs. Contains rs r) before.held c)
    (λ y c. subst (λ ys. Contains ys y) (sym before.records)
    ((distrust-sets.all_members xs old.records y (always-all xs) (always-all old.records)).1
    (inr c)))
    (get_or (pairs_of new.config.seeds new.arrived) k no_documents) m
    in
    let f = more.all (get_or (pairs_of new.config.seeds new.arrived) k no_documents) less in
    let here = more.once k f.0 (get_or (pairs_of new.config.seeds new.arrived) k no_documents)
    (subst (λ ns. Contains ns k) numbers (fewer.listed k e)) (more.listed f.0 f.1)
    (ap (λ ps. slice_get ps k) (sym same) ∙ at) f.2 in
    ap (λ a. is_raised (flags_of p.counts) a) here ∙ f.1
  where
    within : k < length (flags_of q.counts)
    within = elim (cases_lt k (length (flags_of q.counts))) [
      | inl b ↦ b
      | inr b ↦ absurd (both_ways (is_raised (flags_of q.counts) k)
          (get_or_past (flags_of q.counts) k false b) e)
    ]

-- The fall of the number of raised flags, with more records of distrust, is what is lost.
pub loss-closed : (old new : HeldReceipts) (xs : List Distrust) (p q : DocumentTableView) (w v : LabelIndexView) (n : ℕ)
    → IsIndexed old p w → IsIndexed new q v → IsBefore old xs new
    → length q.counts ≡ length p.counts → q.numbers ≡ p.numbers
    → raised_count (flags_of p.counts) ≡ raised_count (flags_of q.counts) + n
    → IsGain (meaning_of new) (meaning_of old) n
loss-closed old new xs p q w v n i j before size numbers count =
    let same : pairs_of new.config.seeds new.arrived ≡ pairs_of old.config.seeds old.arrived = ap
    (λ (h : HeldReceipts). pairs_of h.config.seeds h.arrived) (hoard-before old new xs before) in
    gain-from_flags no_documents (meaning_of new) (meaning_of old)
    (pairs_of new.config.seeds new.arrived) (pairs_of old.config.seeds old.arrived) q.numbers
    p.numbers (flags_of q.counts) (flags_of p.counts)
    (reports new q v j.built j.counts) (reports old p w i.built i.counts)
    (kept-closed old new xs p q w v i j before numbers)
    (λ k y e f at. ap (λ ps. slice_get ps k) (sym same) ∙ at)
    n count (omega (arith, size, length-flags p.counts, length-flags q.counts))

-- ---- more room

-- A label index is as roomy as itself.
same-label_index : (w : LabelIndexView) → IsRoomierWired w w
same-label_index w = record {
  labels = refl;
  net = refl;
  marked = refl;
  last = refl;
  nodes = omega arith;
  edges = omega arith;
}

-- More room leaves the index as it is.
indexed-roomier : (h new : HeldReceipts) (p q : DocumentTableView) (w v : LabelIndexView) → IsIndexed h p w
    → new ≡ record h { capacity = new.capacity } → q.numbers ≡ p.numbers → q.heads ≡ p.heads
    → q.counts ≡ p.counts → IsRoomierWired w v → IsIndexed new q v
indexed-roomier h new p q w v i is numbers heads counts r =
    let b = i.built in
    let other : HeldReceipts = record h { capacity = new.capacity } in
    subst (λ x. IsIndexed x q v) (sym is) (record {
      built = record {
        valid = b.valid;
        same = b.same;
        once = b.once;
        domains = b.domains;
        are_domains = b.are_domains;
        wired = record {
          within = All-same (λ (a : Label). a.domain < length b.domains) v.labels w.labels r.labels b.wired.within;
          mirrors = subst (λ ls. Represents (node_specs_of h.config.seeds h.arrived) (map (triple_by b.domains) ls) (IsShutBy h.records) v.net) (sym r.labels)
              (subst (Represents (node_specs_of h.config.seeds h.arrived) (map (triple_by b.domains) w.labels) (IsShutBy h.records))
              (sym r.net) b.wired.mirrors);
        };
        reached = subst (λ ns. ListsReached v.net ns) (sym r.marked) (subst (λ net. ListsReached net w.marked) (sym r.net) b.reached);
        pairing = pairing-counts (pairs_of h.config.seeds h.arrived) p q b.pairing numbers heads
            (ap length counts);
      };
      counts = subst (λ ms. AreCounts q.heads ms q.counts) (sym r.marked)
          (subst (λ fs. AreCounts fs w.marked q.counts) (sym heads)
          (subst (AreCounts p.heads w.marked) (sym counts) i.counts));
    })

-- The room that was promised is still there after more was reserved.
pub room-kept : (h new : HeldReceipts) (p q : DocumentTableView) (w v : LabelIndexView) (spare : FreeRoom) → HasRoom h p w spare
    → new ≡ record h { capacity = new.capacity } → h.capacity ≤ new.capacity → q.heads ≡ p.heads
    → p.capacity ≤ q.capacity → IsRoomierWired w v → HasRoom new q v spare
room-kept h new p q w v spare r is held heads pairs wired = record {
  held = omega (arith, r.held, held, ap (λ (x : HeldReceipts). length x.arrived) is);
  pairs = omega (arith, r.pairs, pairs, ap length heads);
  nodes = omega (arith, r.nodes, wired.nodes);
  edges = omega (arith, r.edges, wired.edges);
  few = omega (arith, r.few, ap length heads);
}

-- What reserving did, given the new room.
pub reserves-from : (h new : HeldReceipts) (p q : DocumentTableView) (w v : LabelIndexView) (spare more : FreeRoom)
    → IsIndexedClosure h p w spare → new ≡ record h { capacity = new.capacity } → q.numbers ≡ p.numbers
    → q.heads ≡ p.heads → q.counts ≡ p.counts → IsRoomierWired w v → HasRoom new q v more
    → spare.receipts ≤ more.receipts → spare.offers ≤ more.offers
    → Reserves h new p q w v spare more
reserves-from h new p q w v spare more k is numbers heads counts r room receipts offers = record {
  meaning = ap meaning_of is;
  arrived = ap (λ (x : HeldReceipts). x.arrived) is;
  net = r.net;
  marked = r.marked;
  kept = record {
    indexed = indexed-roomier h new p q w v k.indexed is numbers heads counts r;
    room = room;
  };
  roomier = record { receipts = receipts; offers = offers };
}

-- A refusal leaves the room that was there.
pub reserves-kept : (h new : HeldReceipts) (p q : DocumentTableView) (w v : LabelIndexView) (spare : FreeRoom)
    → IsIndexedClosure h p w spare → new ≡ record h { capacity = new.capacity } → h.capacity ≤ new.capacity
    → q.numbers ≡ p.numbers → q.heads ≡ p.heads → q.counts ≡ p.counts → p.capacity ≤ q.capacity
    → IsRoomierWired w v → Reserves h new p q w v spare spare
reserves-kept h new p q w v spare k is held numbers heads counts pairs r =
    reserves-from h new p q w v spare spare k is numbers heads counts r
    (room-kept h new p q w v spare k.room is held heads pairs r) (omega arith) (omega arith)

-- A refusal after what is held and the documents got room leaves all else as it was.
pub reserves-pairs : (h new : HeldReceipts) (p q : DocumentTableView) (w : LabelIndexView) (spare : FreeRoom) → IsIndexedClosure h p w spare
    → new ≡ record h { capacity = new.capacity } → h.capacity ≤ new.capacity → q.numbers ≡ p.numbers
    → q.heads ≡ p.heads → q.counts ≡ p.counts → p.capacity ≤ q.capacity
    → Reserves h new p q w w spare spare
reserves-pairs h new p q w spare k is held numbers heads counts pairs = reserves-kept h new p q w w
    spare k is held numbers heads counts pairs (same-label_index w)

-- ---- what the index is

-- configured documents' nodes are marked, and those of receipts that are released
pub index-parts : (h : HeldReceipts) (p : DocumentTableView) (w : LabelIndexView) → IsBuilt h p w
    → ((n : ℕ) → n < length h.config.seeds → Contains w.marked n)
    × ((place : ℕ) (r : Receipt) → slice_get h.arrived place ≡ Some r
    → Contains w.marked (length h.config.seeds + place) ↔ IsReleased (meaning_of h) r)
index-parts h p w b =
    let labels = map (triple_by b.domains) w.labels in
    let fits : (r : Receipt) → Contains h.arrived r → IsFitting h.config r = λ r c. each_has (IsFitting h.config) h.held r b.valid.fitting ((b.same r).1 c) in (
      (λ n l.
          let s = get_or_seed h.config.seeds n l in
          b.reached.all n
          (root (root-of_spot (node_specs_of h.config.seeds h.arrived) labels (IsShutBy h.records) w.net b.wired.mirrors
          n (seed_node s.0) (spot-of_seed_node h.config.seeds h.arrived n s.0 s.1)))),
      (λ place r at. (
        λ c.
            let a = node-accepted h p w b (length h.config.seeds + place) (b.reached.reached (length h.config.seeds + place) c) in
            a.released place r refl at,
        λ released. b.reached.all (length h.config.seeds + place)
            (reached-from_released (meaning_of h) h.arrived b.same fits labels w.net b.wired.mirrors place r at
            released),
      )),
    )
  where
    get_or_seed : (seeds : List Seed) (n : ℕ) → n < length seeds → (s : Seed) × (slice_get seeds n ≡ Some s)
    get_or_seed [] n l = absurd (omega (arith, l))
    get_or_seed (s ∷ seeds) zero l = (s, refl)
    get_or_seed (s ∷ seeds) (suc n) l = get_or_seed seeds n (omega (arith, l))

-- What is built is an index as the caller states it.
pub index-of_built : (h : HeldReceipts) (p : DocumentTableView) (w : LabelIndexView) (spare : FreeRoom) (work : ℕ)
    → IsBuilt h p w → length h.arrived ≡ length h.held → IsIndexOf (indexed_of h w spare work)
index-of_built h p w spare work b once =
    let parts = index-parts h p w b in
    record { labels = map (triple_by b.domains) w.labels; net = b.wired.mirrors; held = b.same; once = once; seeds = parts.0; receipts = parts.1 }

-- All that a closure keeps is an index as the caller states it.
pub index-of_kept : (h : HeldReceipts) (p : DocumentTableView) (w : LabelIndexView) (spare : FreeRoom) (work : ℕ)
    → IsIndexedClosure h p w spare → length h.arrived ≡ length h.held → IsIndexOf (indexed_of h w spare work)
index-of_kept h p w spare work k once = index-of_built h p w spare work k.indexed.built once

-- A close of all labels of distrusted keys is the work of the records that are added.
pub work-of : (old new : HeldReceipts) (more : List Distrust) (p q : DocumentTableView) (w v : LabelIndexView) (spare : FreeRoom)
    (before work : ℕ) → IsBefore old more new → IsBuilt old p w → IsBuilt new q v
    → length new.arrived ≡ length new.held → Closes w (IsDistrusted new) v work
    → IsWorkOf (indexed_of old w spare before) more work
work-of old new more p q w v spare before work was b built once c = record {
  after = indexed_of new v spare work;
  is = index-of_built new q v spare work built once;
  meaning = ap meaning_of (hoard-before old new more was);
  arrived = was.arrived;
  closes = closes-at_once old new p w v spare spare before work new.records (IsDistrusted new) b c
      (λ domains d. distrusted-shut new domains
      (subst (λ (k : Configuration). AreDomains k domains) (sym was.config) d));
  work = refl;
}

-- more room leaves the work as it was
pub same-work : (old new : Indexed) → new.state.meaning ≡ old.state.meaning
    → new.arrived ≡ old.arrived → new.wired.net ≡ old.wired.net
    → new.wired.marked ≡ old.wired.marked
    → (records : List Distrust) (count : ℕ) → IsWorkOf new records count
    → IsWorkOf old records count
same-work old new meaning arrived net marked records count is =
    let c = is.closes in
    record {
      after = is.after;
      is = is.is;
      meaning = is.meaning ∙ ap (λ (m : Meaning). record m
          { records = with_items distrust_cmp records m.records }) meaning;
      arrived = is.arrived ∙ arrived;
      closes = record {
        labels = c.labels;
        net = subst (λ (m : Meaning). IsNetOf m.config.seeds old.arrived m.records c.labels
            old.wired.net) meaning
            (subst (λ (rs : List Receipt). IsNetOf new.state.meaning.config.seeds rs
            new.state.meaning.records c.labels old.wired.net) arrived
            (subst (IsNetOf new.state.meaning.config.seeds new.arrived new.state.meaning.records
            c.labels) net c.net));
        closing = c.closing;
        within = c.within;
        exactly = c.exactly;
        work = subst (λ (ns : List ℕ). ClosesIn old.wired.net c.closing
            (visits_of old.wired.net ns) (visits_of is.after.wired.net is.after.wired.marked)
            is.after.work) marked
            (subst (λ (n : Net). ClosesIn n c.closing (visits_of n new.wired.marked)
            (visits_of is.after.wired.net is.after.wired.marked) is.after.work) net c.work);
        fewer = subst (λ (ns : List ℕ). visits_of is.after.wired.net is.after.wired.marked
            ≤ visits_of old.wired.net ns) marked
            (subst (λ (n : Net). visits_of is.after.wired.net is.after.wired.marked
            ≤ visits_of n new.wired.marked) net c.fewer);
      };
      work = is.work;
    }

-- ---- configured documents

-- More room leaves the label index as it is.
label_index-same : (domains : List (List ℕ)) (records : List Distrust) (spots : List (NodeSpec Triple)) (w v : LabelIndexView)
    → IsLabelIndexOf domains records spots w → IsRoomierWired w v → IsLabelIndexOf domains records spots v
label_index-same domains records spots w v h r = record {
  within = All-same (λ (a : Label). a.domain < length domains) v.labels w.labels r.labels h.within;
  mirrors = subst (λ ls. Represents spots (map (triple_by domains) ls) (IsShutBy records) v.net) (sym r.labels)
      (subst (Represents spots (map (triple_by domains) w.labels) (IsShutBy records)) (sym r.net) h.mirrors);
}

-- The label index mirrors one more configured document after its node, its root and its offers are
-- added.
pub wired-seed : (h : HeldReceipts) (seeds : List Seed) (s : Seed) (w a b c d : LabelIndexView) (node : ℕ) (triples : List Triple)
    → ((domains : List (List ℕ)) → AreDomains h.config domains → IsLabelIndexOf domains h.records (map seed_node seeds) w)
    → IsRoomierWired w a → HasNode a b node → IsRooted b node c → triples ≡ offers_of (pair_of_seed s)
    → ((domains : List (List ℕ)) (spots : List (NodeSpec Triple)) (spot : NodeSpec Triple) → AreDomains h.config domains
    → node ≡ length spots → IsLabelIndexOf domains h.records (spots ++ spot ∷ []) c
    → IsLabelIndexOf domains h.records (spots ++ record spot { offers = spot.offers ++ triples } ∷ []) d)
    → (domains : List (List ℕ)) → AreDomains h.config domains → IsLabelIndexOf domains h.records (map seed_node (seeds ++ s ∷ [])) d
wired-seed h seeds s w a b c d node triples wired room has rooted is offers domains are =
    let spots = map seed_node seeds in
    let before = label_index-same domains h.records spots w a (wired domains are) room in
    let at : node ≡ length spots = has.number ∙ node-number domains h.records spots a before in
    let first = label_index-node domains are.rising h.records spots a b node before has in
    let second = label_index-root domains are.rising h.records spots b c bare_node node at first rooted in
    let third = offers domains spots (record { rooted = true; offers = []; awaits = None }) are at second in
    subst (λ ss. IsLabelIndexOf domains h.records ss d) (sym (map_push seed_node seeds s))
    (subst (λ (ts : List Triple). IsLabelIndexOf domains h.records (spots ++ record { rooted = true; offers = ts; awaits = None } ∷ []) d) is third)

-- The index is right for one more configured document.
pub seeded-more : (h : HeldReceipts) (seeds : List Seed) (s : Seed) (p a q : DocumentTableView) (w d : LabelIndexView) (first : ℕ)
    → h.arrived ≡ [] → IsSeeded h seeds p w
    → IsDocumentTable (pairs_of seeds h.arrived ++ pair_of_seed s ∷ []) q → a.counts ≡ p.counts
    → a.heads ≡ p.heads → q.counts ≡ a.counts ++ 0 ∷ [] → q.heads ≡ a.heads ++ first ∷ []
    → length a.heads + 1 ≤ a.capacity → q.capacity ≡ a.capacity
    → ((domains : List (List ℕ)) → AreDomains h.config domains
    → IsLabelIndexOf domains h.records (map seed_node (seeds ++ s ∷ [])) d) → ListsReached d.net d.marked
    → IsSeeded h (seeds ++ s ∷ []) q d
seeded-more h seeds s p a q w d first none g pairing f1 f2 counts heads room capacity wired
    reached =
    let pairs : pairs_of seeds h.arrived ++ pair_of_seed s ∷ [] ≡ pairs_of (seeds ++ s ∷ []) h.arrived =
    ap (λ rs. (map pair_of_seed seeds ++ map pair_of rs) ++ pair_of_seed s ∷ []) none
    ∙ ap (λ ps. ps ++ pair_of_seed s ∷ []) (append-nil (map pair_of_seed seeds))
    ∙ sym (map_push pair_of_seed seeds s)
    ∙ sym (append-nil (map pair_of_seed (seeds ++ s ∷ [])))
    ∙ ap (λ rs. map pair_of_seed (seeds ++ s ∷ []) ++ map pair_of rs) (sym none)
    in
    record {
      pairing = subst (λ ps. IsDocumentTable ps q) pairs pairing;
      lowered = λ n. ap (λ ks. count_at ks n) (counts ∙ ap (λ ks. ks ++ 0 ∷ []) f1)
          ∙ count_at-push p.counts n ∙ g.lowered n;
      room = omega (arith, ap length heads, length_push a.heads first, room, capacity);
      heads = omega (arith, ap length heads, length_push a.heads first, ap length f2, g.heads, length_push seeds s);
      wired = wired;
      reached = reached;
    }

-- The domain of each configured document is one of the configuration.
pub seeds-domains : (c : Configuration) → All (λ (s : Seed). HasDomain c s.domain) c.seeds
seeds-domains c k d l = inr (inr (get_or c.seeds k d, Contains-get_or c.seeds k d l, refl))

-- With all configured documents the index is built of what is held: nothing else.
pub built-seeded : (h : HeldReceipts) (domains : List (List ℕ)) (p : DocumentTableView) (w : LabelIndexView) (seeds : List Seed)
    → IsMeaning (meaning_of h) → h.held ≡ [] → h.arrived ≡ [] → AreDomains h.config domains → seeds ≡ h.config.seeds
    → IsSeeded h seeds p w → IsBuilt h p w
built-seeded h domains p w seeds valid held arrived are is g =
    let both : h.held ≡ h.arrived = held ∙ sym arrived in
    let spots : map seed_node seeds ≡ node_specs_of h.config.seeds h.arrived =
    ap (map seed_node) is ∙ sym (append-nil (map seed_node h.config.seeds))
    ∙ ap (λ rs. map seed_node h.config.seeds ++ map receipt_node rs) (sym arrived)
    in
    record {
      valid = valid;
      same = λ r. (λ c. subst (λ rs. Contains rs r) both c, λ c. subst (λ rs. Contains rs r) (sym both) c);
      once = subst (λ rs. AllPairs ◌≢◌ rs) (sym arrived) (λ i j d l b. absurd (omega (arith, b)));
      domains = domains;
      are_domains = are;
      wired = subst (λ ss. IsLabelIndexOf domains h.records ss w) spots (g.wired domains are);
      reached = g.reached;
      pairing = subst (λ ss. IsDocumentTable (pairs_of ss h.arrived) p) is g.pairing;
    }

-- After the counts of its marked nodes are raised, an index of the configured documents is all that
-- a closure keeps, with no room yet.
pub kept-seeded : (h : HeldReceipts) (p q : DocumentTableView) (w : LabelIndexView) (nodes : List ℕ) (seeds : List Seed) → IsBuilt h p w
    → IsSeeded h seeds p w → h.arrived ≡ [] → length seeds ≤ 4096
    → q.numbers ≡ p.numbers → q.heads ≡ p.heads → q.capacity ≡ p.capacity → nodes ≡ w.marked
    → AddsNodes p.heads nodes p.counts q.counts
    → IsIndexedClosure h q w (record { receipts = 0; offers = 0 })
kept-seeded h p q w nodes seeds b g none few numbers heads capacity is adds =
    let right : AddsNodes q.heads w.marked p.counts q.counts = subst
    (λ fs. AddsNodes fs w.marked p.counts q.counts) (sym heads)
    (subst (λ ns. AddsNodes p.heads ns p.counts q.counts) is adds) in
    record {
      indexed = record {
        built = built-counts h p q w b numbers heads adds.size;
        counts = counts-from_zero q.heads w.marked p.counts q.counts g.lowered right;
      };
      room = record {
        held = omega (arith, ap length none);
        pairs = omega (arith, ap length heads, capacity, g.room);
        nodes = omega arith;
        edges = omega arith;
        few = omega (arith, ap length heads, g.heads, few);
      };
    }

-- The number of nodes fits 32 bits.
pub pairs-few : (h : HeldReceipts) (p : DocumentTableView) → IsDocumentTable (pairs_of h.config.seeds h.arrived) p
    → length h.config.seeds ≤ 4096 → length h.arrived ≤ most_receipts → length p.heads < 2 ^ 32
pairs-few h p pairing seeds arrived =
    omega (
      arith,
      pairing.sizes,
      length-append (map pair_of_seed h.config.seeds)
          (map pair_of h.arrived),
      length-map h.config.seeds pair_of_seed,
      length-map h.arrived
          pair_of,
      seeds,
      arrived,
    )

-- ---- pending receipts

-- Items that differ pairwise are different.
pub different-from_pairs : {A : Type 0} (xs : List A) → AllPairs ◌≢◌ xs → AreDifferent xs
different-from_pairs [] h = tt
different-from_pairs (x ∷ xs) h = (
  λ c. h 0 (suc c.0) x (omega arith) (omega (arith, c.1)) (sym c.2),
  different-from_pairs xs (λ i j d l b. h (suc i) (suc j) d (omega (arith, l)) (omega (arith, b))),
)

-- All numbers below a bound pass the test that passes all.
length-passing_all : (n : ℕ) → length (passing (λ k. true) n) ≡ n
length-passing_all zero = refl
length-passing_all (suc n) = ap suc (length-passing_all n)

-- A listed node is among the nodes, by the test.
pub among-from : (nodes : List ℕ) (n : ℕ) → Contains nodes n → is_among nodes n ≡ true
among-from nodes n c = list_any_at (λ m. eqb m n) nodes c.0 n c.1 (eq-eqb (get_or nodes c.0 n) n c.2)

-- What the test finds among the nodes is listed.
pub among-to : (nodes : List ℕ) (n : ℕ) → is_among nodes n ≡ true → Contains nodes n
among-to nodes n t =
    let a = Any-from_list_any (λ m. eqb m n) nodes t in
    (a.0, a.2, get_or_default nodes a.0 n a.1 a.2 ∙ a.3 ∙ eqb-true a.1 n a.4)

-- the nodes below the count that are not marked
abbrev pub unmarked : List ℕ → ℕ → List ℕ
unmarked marked count = passing (only_wide (λ k. is_among marked k) (λ k. true) (λ k e. refl)) count

-- The nodes that are not marked and those that are add up to all.
pub length-unmarked : (marked : List ℕ) (count : ℕ) → AllPairs ◌≢◌ marked
    → All (λ n. n < count) marked → length (unmarked marked count) + length marked ≡ count
length-unmarked marked count once within =
    let among = λ (k : ℕ). is_among marked k in
    let less : length (passing among count) ≤ length marked =
    no_longer (passing among count) marked (passing-differ among count)
    (λ k c. among-to marked k (passing-to among count k c).1) in
    let more : length marked ≤ length (passing among count) =
    no_longer marked (passing among count) (different-from_pairs marked once)
    (λ k c. passing-from among count k (All-contains (λ n. n < count) marked k within c) (among-from marked k c)) in
    omega (arith, length-only_wide among (λ k. true) (λ k e. refl) count, length-passing_all count, less, more)

-- The number of nodes that are not marked is that of pending receipts.
pub pending-count : (h : HeldReceipts) (p : DocumentTableView) (w : LabelIndexView) (none : Receipt) (n : ℕ) → IsBuilt h p w
    → n + length w.marked ≡ length h.config.seeds + length h.arrived → IsPendingCount (meaning_of h) n
pending-count h p w none n b total =
    let seeds = length h.config.seeds in
    let count = seeds + length h.arrived in
    let at : ℕ → Receipt = λ k. get_or h.arrived (k - seeds) none in
    let list : List ℕ = unmarked w.marked count in
    let labels = map (triple_by b.domains) w.labels in
    let fits' : (r : Receipt) → Contains h.arrived r → IsFitting h.config r = λ r c. each_has (IsFitting h.config) h.held r b.valid.fitting ((b.same r).1 c) in
    let index = index-parts h p w b in
    let parts : (k : ℕ) → Contains list k → (seeds ≤ k) × (k - seeds < length h.arrived) × (Contains w.marked k → ⊥) = λ k c.
    let g = passing-to (only_wide (λ j. is_among w.marked j) (λ j. true) (λ j e. refl)) count k c in
    let off : is_among w.marked k ≡ false = not-true (is_among w.marked k) g.1 in
    let low : seeds ≤ k = elim (cases_lt k seeds) [ inl l ↦ absurd (both_ways (is_among w.marked k) off (among-from w.marked k (index.0 k l))) | inr l ↦ l ] in
    (low, omega (arith, low, g.0), λ m. both_ways (is_among w.marked k) off (among-from w.marked k m))
    in
    record {
      items = map at list;
      different = different-map at list (passing-differ (only_wide (λ j. is_among w.marked j) (λ j. true) (λ j e. refl)) count) (λ x y cx cy s.
          let a = parts x cx in
          let c = parts y cy in
          let one = one_place h.arrived b.once (x - seeds) (y - seeds) (at y)
          (slice_get-get_or h.arrived (x - seeds) none a.1 ∙ ap (λ (r : Receipt). Some r) s)
          (slice_get-get_or h.arrived (y - seeds) none c.1) in
          omega (arith, one, a.0, c.0));
      exactly = λ r. (
        λ c.
            let f = Contains-from_map at list r c in
            let a = parts f.0 f.1 in
            let here : slice_get h.arrived (f.0 - seeds) ≡ Some r = slice_get-get_or h.arrived (f.0 - seeds) none a.1 ∙ ap (λ (x : Receipt). Some x) f.2 in
            let node : seeds + (f.0 - seeds) ≡ f.0 = omega (arith, a.0) in
            record {
              held = (b.same r).1 (slice_get-Contains h.arrived (f.0 - seeds) r here);
              unreleased = λ released. a.2 (subst (Contains w.marked) node ((index.1 (f.0 - seeds) r here).1 released));
            },
        λ pending.
            let place = Contains-slice_get h.arrived r ((b.same r).0 pending.held) in
            let l : place.0 < length h.arrived = slice_get_within h.arrived place.0 r place.1 in
            let off : is_among w.marked (seeds + place.0) ≡ false =
            false_from_ne_true (is_among w.marked (seeds + place.0))
            (λ t. pending.unreleased ((index.1 place.0 r place.1).0 (among-to w.marked (seeds + place.0) t))) in
            let c : Contains list (seeds + place.0) =
            passing-from (only_wide (λ j. is_among w.marked j) (λ j. true) (λ j e. refl)) count (seeds + place.0)
            (omega (arith, l)) (not_from_false (is_among w.marked (seeds + place.0)) off) in
            let is : at (seeds + place.0) ≡ r =
            (let e : (seeds + place.0) - seeds ≡ place.0 = omega arith in ap (λ k. get_or h.arrived k none) e)
            ∙ get_or_from_slice_get h.arrived place.0 r none place.1 in
            subst (Contains (map at list)) is (contains_map at list (seeds + place.0) c),
      );
      count = length-map list at ∙ (let e : length list ≡ n = omega (arith, length-unmarked w.marked count b.reached.once within, total) in e);
    }
  where
    within : All (λ k. k < length h.config.seeds + length h.arrived) w.marked
    within k d l =
        let small = marked-within h p w b k d l in
        omega (
          arith,
          small,
          b.pairing.sizes,
          length-append (map pair_of_seed h.config.seeds) (map pair_of h.arrived),
          length-map h.config.seeds pair_of_seed,
          length-map h.arrived pair_of,
        )

-- There are no more marked nodes than nodes, so the difference does not underflow.
pub marked-few : (h : HeldReceipts) (p : DocumentTableView) (w : LabelIndexView) → IsBuilt h p w → length w.marked ≤ length h.config.seeds + length h.arrived
marked-few h p w b = omega (arith, length-unmarked w.marked (length h.config.seeds + length h.arrived) b.reached.once within)
  where
    within : All (λ k. k < length h.config.seeds + length h.arrived) w.marked
    within k d l =
        let small = marked-within h p w b k d l in
        omega (
          arith,
          small,
          b.pairing.sizes,
          length-append (map pair_of_seed h.config.seeds) (map pair_of h.arrived),
          length-map h.config.seeds pair_of_seed,
          length-map h.arrived pair_of,
        )
