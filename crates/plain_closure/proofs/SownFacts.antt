-- The documents of a configuration in a plain closure, and what is pending there
use Rattle.std.proofs.Common.{◌≡◌, ℕ, zero, suc, ◌+◌, ◌<◌, ◌≤◌, inl, inr, Bool, true, false, List, [], ◌∷◌, ◌++◌}
use Rattle.std.proofs.Common.{length, get_or, map, Some, append-nil, arith, refl, sym, ap, ◌∙◌, subst}
use Rattle.std.specs.Prelude.{Contains, slice_get}
use Rattle.std.proofs.lemmas.Bool.{both_ways, not-true, not_from_false, false_from_ne_true}
use Rattle.std.proofs.lemmas.List.{length-map, length_push, map_push}
use Rattle.std.proofs.lemmas.List.Elements.{Contains-append_left, Contains-append_right, Contains-append_cases, Contains-push, Contains-push_cases}
use Rattle.std.proofs.lemmas.Option.{slice_get_within, slice_get-get_or, get_or_from_slice_get}
use Rattle.fed_config.specs.declared.seed.Seed.{Seed}
use Rattle.receipt_core.specs.declared.triple.Triple.{Triple}
use Rattle.receipt_core.specs.Receipt.{Receipt, pair_of, offers_of}
use Rattle.receipt_core.specs.Acceptance.{IsMeaning, pair_of_seed}
use Rattle.closure_parts.proofs.PlaceFacts.{Contains-from_map}
use Rattle.closure_core.proofs.ContainsFacts.{contains_none, contains_map}
use Rattle.closure_parts.proofs.PlaceFacts.{slice_get-Contains, Contains-slice_get, one_place}
use Rattle.closure_core.specs.Inside.Nodes.{pairs_of, is_raised, count_at}
use Rattle.closure_core.specs.Inside.Flags.{raised_count}
use Rattle.closure_parts.specs.Held.{HeldReceipts, meaning_of}
use Rattle.closure_core.specs.AcceptedList.{IsPendingCount}
use Rattle.closure_parts.specs.Pairs.{DocumentTableView, IsDocumentTable}
use Rattle.plain_closure.specs.Plain.{AreSeedOffers, IsSet, HasPlainFlags, IsSown, AreReleased}
use Rattle.closure_parts.proofs.NodeCountFacts.{count_at-push}
use Rattle.closure_core.proofs.FlagFacts.{passing, passing-to, passing-from, passing-differ, only_wide, length-only_wide, count-passing, different-map}

-- The offers of the configured documents, with one document more.
offers-more : (seeds : List Seed) (s : Seed) (offers more : List Triple) → AreSeedOffers seeds offers
    → more ≡ offers_of (pair_of_seed s) → AreSeedOffers (seeds ++ s ∷ []) (offers ++ more)
offers-more seeds s offers more are is t = (
  λ c. elim (Contains-append_cases offers more t c) [
    | inl a ↦ let f = (are t).0 a in (f.0, Contains-append_left seeds (s ∷ []) f.0 f.1, f.2)
    | inr a ↦ (s, Contains-push seeds s, subst (λ ts. Contains ts t) is a)
  ],
  λ f. elim (Contains-push_cases seeds s f.0 f.1) [
    | inl a ↦ Contains-append_left offers more t ((are t).1 (f.0, a, f.2))
    | inr e ↦ Contains-append_right offers more t
        (subst (λ ts. Contains ts t) (sym is)
        (subst (λ (x : Seed). Contains (offers_of (pair_of_seed x)) t) (sym e) f.2))
  ],
)

-- What is sown is right for one more configured document.
pub sown-more : (h : HeldReceipts) (seeds : List Seed) (s : Seed) (p a q : DocumentTableView) (offers more all : List Triple) (first : ℕ)
    → h.arrived ≡ [] → IsSown h seeds p offers
    → IsDocumentTable (pairs_of seeds h.arrived ++ pair_of_seed s ∷ []) q → a.counts ≡ p.counts
    → a.heads ≡ p.heads → q.counts ≡ a.counts ++ 0 ∷ [] → q.heads ≡ a.heads ++ first ∷ []
    → length a.heads + 1 ≤ a.capacity → q.capacity ≡ a.capacity
    → more ≡ offers_of (pair_of_seed s) → all ≡ offers ++ more → IsSown h (seeds ++ s ∷ []) q all
sown-more h seeds s p a q offers more all first none g pairing f1 f2 counts heads room capacity is
    whole =
    let pairs : pairs_of seeds h.arrived ++ pair_of_seed s ∷ [] ≡ pairs_of (seeds ++ s ∷ []) h.arrived =
    ap (λ rs. (map pair_of_seed seeds ++ map pair_of rs) ++ pair_of_seed s ∷ []) none
    ∙ ap (λ ps. ps ++ pair_of_seed s ∷ []) (append-nil (map pair_of_seed seeds))
    ∙ sym (map_push pair_of_seed seeds s)
    ∙ sym (append-nil (map pair_of_seed (seeds ++ s ∷ [])))
    ∙ ap (λ rs. map pair_of_seed (seeds ++ s ∷ []) ++ map pair_of rs) (sym none)
    in
    record {
      pairing = subst (λ ps. IsDocumentTable ps q) pairs pairing;
      lowered = λ n. ap (λ ks. count_at ks n) (counts ∙ ap (λ ks. ks ++ 0 ∷ []) f1)
          ∙ count_at-push p.counts n ∙ g.lowered n;
      room = omega (arith, ap length heads, length_push a.heads first, room, capacity);
      heads = omega (arith, ap length heads, length_push a.heads first, ap length f2, g.heads, length_push seeds s);
      offers = subst (AreSeedOffers (seeds ++ s ∷ [])) (sym whole) (offers-more seeds s offers more g.offers is);
    }

-- With all configured documents, what is kept apart from the flags is right.
pub sown-set : (h : HeldReceipts) (p : DocumentTableView) (offers : List Triple) (seeds : List Seed) → seeds ≡ h.config.seeds
    → IsMeaning (meaning_of h) → h.held ≡ [] → h.arrived ≡ [] → IsSown h seeds p offers → IsSet h p offers []
sown-set h p offers seeds are valid held arrived g = record {
  valid = valid;
  once = λ i j d l b. absurd (omega (arith, b, ap length arrived));
  same = λ r. (λ c. absurd (contains_none r (subst (λ rs. Contains rs r) held c)), λ c. absurd (contains_none r (subst (λ rs. Contains rs r) arrived c)));
  offers = subst (λ ss. AreSeedOffers ss offers) are g.offers;
  pairing = subst (λ ss. IsDocumentTable (pairs_of ss h.arrived) p) are g.pairing;
  size = sym (ap length arrived);
}

-- Without receipts no flag has to be raised.
pub none-released : (h : HeldReceipts) (released : List Bool) → h.arrived ≡ [] → AreReleased (meaning_of h) h.arrived released
none-released h released arrived place r at = absurd (omega (arith, slice_get_within h.arrived place r at, ap length arrived))

-- ---- pending receipts

-- All numbers below a bound pass the test that passes all.
length-passing_every : (n : ℕ) → length (passing (λ k. true) n) ≡ n
length-passing_every zero = refl
length-passing_every (suc n) = ap suc (length-passing_every n)

-- The number of receipts whose flags are not raised is that of pending receipts.
pub pending-plain : (h : HeldReceipts) (p : DocumentTableView) (offers : List Triple) (released : List Bool) (none : Receipt) (n : ℕ)
    → HasPlainFlags h p offers released → n + raised_count released ≡ length released → IsPendingCount (meaning_of h) n
pending-plain h p offers released none n i total =
    let count = length h.arrived in
    let raised : ℕ → Bool = λ k. is_raised released k in
    let at : ℕ → Receipt = λ k. get_or h.arrived k none in
    let list : List ℕ = passing (only_wide raised (λ k. true) (λ k e. refl)) count in
    let parts : (k : ℕ) → Contains list k → (k < count) × (raised k ≡ false) = λ k c.
    let g = passing-to (only_wide raised (λ j. true) (λ j e. refl)) count k c in
    (g.0, not-true (raised k) g.1)
    in
    record {
      items = map at list;
      different = different-map at list (passing-differ (only_wide raised (λ j. true) (λ j e. refl)) count) (λ x y cx cy s.
          let a = parts x cx in
          let c = parts y cy in
          one_place h.arrived i.set.once x y (at y) (slice_get-get_or h.arrived x none a.0
          ∙ ap (λ (r : Receipt). Some r) s) (slice_get-get_or h.arrived y none c.0));
      exactly = λ r. (
        λ c.
            let f = Contains-from_map at list r c in
            let a = parts f.0 f.1 in
            let here : slice_get h.arrived f.0 ≡ Some r = slice_get-get_or h.arrived f.0 none a.0 ∙ ap (λ (x : Receipt). Some x) f.2 in
            record {
              held = (i.set.same r).1 (slice_get-Contains h.arrived f.0 r here);
              unreleased = λ is. both_ways (raised f.0) a.1 ((i.settled f.0 r here).1 is);
            },
        λ pending.
            let place = Contains-slice_get h.arrived r ((i.set.same r).0 pending.held) in
            let l : place.0 < count = slice_get_within h.arrived place.0 r place.1 in
            let off : raised place.0 ≡ false = false_from_ne_true (raised place.0) (λ t. pending.unreleased ((i.settled place.0 r place.1).0 t)) in
            let c : Contains list place.0 = passing-from (only_wide raised (λ j. true) (λ j e. refl)) count place.0 l (not_from_false (raised place.0) off) in
            subst (Contains (map at list)) (get_or_from_slice_get h.arrived place.0 r none place.1) (contains_map at list place.0 c),
      );
      count = length-map list at ∙ (let e : length list ≡ n =
          omega (
            arith,
            length-only_wide raised (λ k. true) (λ k e. refl) count,
            length-passing_every count,
            count-passing released count (omega (arith, i.set.size)),
            total,
            i.set.size,
          ) in e);
    }
