-- One step more, and what was visited
use Rattle.std.proofs.Common.{◌≡◌, ℕ, zero, suc, ◌+◌, ◌<◌, ◌≤◌, ◌⊎◌, inl, inr, Bool, true, false, List, [], ◌∷◌, ◌++◌}
use Rattle.std.proofs.Common.{length, replicate, get_or, set, Option, Some, Less, Equal, Greater, arith, refl, sym, ap}
use Rattle.std.proofs.Common.{◌∙◌, subst, length-append}
use Rattle.std.specs.Prelude.{Contains, slice_get}
use Rattle.std.specs.declared.cmp.Ordering.{Ordering}
use Rattle.std.specs.Ordering.{is_lt, ordering_reverse}
use Rattle.std.specs.List.Sorted.{IsSortedByKey, IsPartitionPoint}
use Rattle.std.proofs.lemmas.Bool.{cases_lt, cases_eq, cases_Bool, both_ways}
use Rattle.std.proofs.lemmas.List.{length-set, get_or-set_same, get_or-set_other}
use Rattle.std.proofs.lemmas.List.Sorted.{sorted_far, ranks_by}
use Rattle.std.proofs.lemmas.List.Elements.{Contains-append_left, Contains-append_right, Contains-append_cases}
use Rattle.std.specs.List.Sorted.{IsPartitionedBy}
use Rattle.std.specs.Ordering.{ordering_index}
use Rattle.std.proofs.lemmas.List.Sorted.{searchable_from_sorted}
use Rattle.std.proofs.lemmas.List.{get_or-replicate, get_or_past, length-replicate}
use Rattle.closure_core.proofs.FlagFacts.{count-lowered}
use Rattle.std.proofs.lemmas.Option.{same_Some, none-some, slice_get_within, slice_get-get_or, get_or_from_slice_get}
use Rattle.receipt_core.specs.declared.triple.Triple.{Triple}
use Rattle.receipt_core.specs.Receipt.{Receipt, need_of, triple_cmp}
use Rattle.receipt_core.specs.Order.{triple_total}
use Rattle.receipt_core.proofs.LineFacts.{one_triple}
use Rattle.closure_core.specs.Inside.Nodes.{is_raised}
use Rattle.closure_core.specs.Inside.Flags.{raised_count}
use Rattle.bundle_view.specs.Inside.Search.{Stride, HasStride, AreFollowed, AreMarked, AreVisited, IsAddedStep, AppendsSteps, FollowsOffers, IsEdgeDue}
use Rattle.closure_core.proofs.ContainsFacts.{contains_first, contains_none, contains_cases}

-- ---- places

-- an item keeps its place when others are added at the end
pub at_left : {A : Type 0} (xs ys : List A) (i : ℕ) (x : A) → slice_get xs i ≡ Some x → slice_get (xs ++ ys) i ≡ Some x
at_left [] ys i x e = absurd (none-some x e)
at_left (a ∷ xs) ys zero x e = e
at_left (a ∷ xs) ys (suc i) x e = at_left xs ys i x e

-- an item added at the end is there
pub at_end : {A : Type 0} (xs : List A) (y : A) → slice_get (xs ++ y ∷ []) (length xs) ≡ Some y
at_end [] y = refl
at_end (a ∷ xs) y = at_end xs y

-- a list of one item has it only at place 0
one_at : {A : Type 0} (y : A) (i : ℕ) (x : A) → slice_get (y ∷ []) i ≡ Some x → (i ≡ 0) × (y ≡ x)
one_at y zero x e = (refl, same_Some y x e)
one_at y (suc i) x e = absurd (none-some x e)

-- an item of a list with one more at the end was there, or is that one
pub at_push : {A : Type 0} (xs : List A) (y : A) (i : ℕ) (x : A) → slice_get (xs ++ y ∷ []) i ≡ Some x → (slice_get xs i ≡ Some x) ⊎ ((i ≡ length xs) × (y ≡ x))
at_push [] y i x e = inr (one_at y i x e)
at_push (a ∷ xs) y zero x e = inl e
at_push (a ∷ xs) y (suc i) x e = elim (at_push xs y i x e) [ inl old ↦ inl old | inr new ↦ inr (ap suc new.0, new.1) ]

-- each place within has an item
pub item_at : {A : Type 0} (xs : List A) (i : ℕ) → i < length xs → (x : A) × (slice_get xs i ≡ Some x)
item_at [] i l = absurd (omega (arith, l))
item_at (x ∷ xs) zero l = (x, refl)
item_at (x ∷ xs) (suc i) l = item_at xs i (omega (arith, l))

-- an item at a place is a member
pub has_at : {A : Type 0} (xs : List A) (i : ℕ) (x : A) → slice_get xs i ≡ Some x → Contains xs x
has_at xs i x e = (i, slice_get_within xs i x e, get_or_from_slice_get xs i x x e)

-- a member is at some place
pub at_of_has : {A : Type 0} (xs : List A) (x : A) → Contains xs x → (i : ℕ) × (slice_get xs i ≡ Some x)
at_of_has xs x has = (has.0, slice_get-get_or xs has.0 x has.1 ∙ ap Some has.2)

-- ---- what was visited is so later

-- a receipt that was visited is visited with more steps, and with a greater limit
pub more-HasStride : (old new : List Stride) (r : Receipt) (n k : ℕ)
    → ((i : ℕ) (s : Stride) → slice_get old i ≡ Some s → slice_get new i ≡ Some s) → n ≤ k → HasStride old r n
    → HasStride new r k
more-HasStride old new r n k kept l h =
    record {
      place = h.place;
      stride = h.stride;
      at = kept h.place h.stride h.at;
      is = h.is;
      short =
          omega (arith, l, h.short);
    }

-- what was followed is still followed with more steps
pub more-AreFollowed : (waiting : List Receipt) (old new : List Stride) (offers : List Triple) (n : ℕ)
    → ((i : ℕ) (s : Stride) → slice_get old i ≡ Some s → slice_get new i ≡ Some s) → AreFollowed waiting old offers n
    → AreFollowed waiting new offers n
more-AreFollowed waiting old new offers n kept f r waits has = more-HasStride old new r n n kept (omega arith) (f r waits has)

-- the flags are those of the steps also with a greater limit
pub wider : (waiting : List Receipt) (visited : List Bool) (strides : List Stride) (n k : ℕ) → n ≤ k
    → AreVisited waiting visited strides n → AreVisited waiting visited strides k
wider waiting visited strides n k l v = record {
  marks = record {
    size = v.marks.size;
    count = v.marks.count;
    marked = λ i r at e. more-HasStride strides strides r n k (λ j s h. h) l (v.marks.marked i r at e);
    rising = v.marks.rising;
    short = λ i s at. let h = v.marks.short i s at in omega (arith, h, l);
    early = v.marks.early;
  };
  together = v.together;
}

-- if steps were added, those at the old places are the old ones
pub old_at : (waiting : List Receipt) (offers : List Triple) (before : Option ℕ) (most : ℕ) (old new : List Stride)
    → AppendsSteps waiting offers before most old new → (i : ℕ) (s : Stride) → i < length old → slice_get new i ≡ Some s
    → slice_get old i ≡ Some s
old_at waiting offers before most old new adds i s l at =
    let x = item_at old i l in
    x.1 ∙ ap Some (same_Some x.0 s (sym (adds.kept i x.0 x.1) ∙ at))

-- ---- one step more

module _ (waiting : List Receipt) (visited : List Bool) (strides : List Stride) (most : ℕ) (m : AreMarked waiting visited strides most) where
  -- one step was added and its receipt's flag raised
  pub marked_more : (place : ℕ) (s : Stride) (flags : List Bool) → flags ≡ set visited place true
      → raised_count flags ≡ raised_count visited + 1 → slice_get waiting place ≡ Some s.receipt → s.length ≡ most
      → most ≤ length strides + 1
      → AreMarked waiting flags (strides ++ s ∷ []) most
  marked_more place s flags is count at long early = record {
    size = ap length is ∙ length-set visited place true ∙ m.size;
    count = omega (arith, length-append strides (s ∷ []), count, m.count);
    marked = λ k r there raised. elim (cases_eq k place) [
      | inl e ↦ record {
        place = length strides;
        stride = s;
        at = at_end strides s;
        is = same_Some s.receipt r (sym at ∙ ap (slice_get waiting) (sym e) ∙ there);
        short = omega (arith, long);
      }
      | inr other ↦
          more-HasStride strides (strides ++ s ∷ []) r most most (λ i t h. at_left strides (s ∷ []) i t h) (omega arith)
          (m.marked k r there (sym (get_or-set_other visited place k true false other) ∙ ap (λ fs. is_raised fs k) (sym is) ∙ raised))
    ];
    rising = λ i j t u l ti uj. elim (at_push strides s j u uj) [
      | inl uo ↦ elim (at_push strides s i t ti) [
        | inl to ↦ m.rising i j t u l to uo
        | inr tn ↦ absurd (omega (arith, tn.0, l, slice_get_within strides j u uo))
      ]
      | inr un ↦ elim (at_push strides s i t ti) [
        | inl to ↦ omega (arith, m.short i t to, long, ap (λ (x : Stride). x.length) un.1)
        | inr tn ↦ omega (arith, ap (λ (x : Stride). x.length) tn.1, ap (λ (x : Stride). x.length) un.1)
      ]
    ];
    short = λ i t ti. elim (at_push strides s i t ti) [
      | inl to ↦ m.short i t to
      | inr tn ↦ omega (arith, long, ap (λ (x : Stride). x.length) tn.1)
    ];
    early = λ i t ti. elim (at_push strides s i t ti) [
      | inl to ↦ m.early i t to
      | inr tn ↦ omega (arith, long, early, tn.0, ap (λ (x : Stride). x.length) tn.1)
    ];
  }

-- no step was added yet
pub adds_none : (waiting : List Receipt) (offers : List Triple) (before : Option ℕ) (most : ℕ) (strides : List Stride)
    → AppendsSteps waiting offers before most strides strides
adds_none waiting offers before most strides = record { longer = omega arith; kept = λ i s h. h; each = λ i s h. inl h }

-- one more step was added
pub adds_more : (waiting : List Receipt) (offers : List Triple) (before : Option ℕ) (most : ℕ) (old new : List Stride)
    (s : Stride) → AppendsSteps waiting offers before most old new → IsAddedStep waiting offers before most s
    → AppendsSteps waiting offers before most old (new ++ s ∷ [])
adds_more waiting offers before most old new s adds is = record {
  longer = omega (arith, adds.longer, length-append new (s ∷ []));
  kept = λ i t h. at_left new (s ∷ []) i t (adds.kept i t h);
  each = λ i t h. elim (at_push new s i t h) [
    | inl there ↦ adds.each i t there
    | inr end ↦ inr (subst (IsAddedStep waiting offers before most) end.1 is)
  ];
}

-- steps that were added in two parts were added in all
pub adds_both : (waiting : List Receipt) (some others all : List Triple) (before : Option ℕ) (most : ℕ)
    (old mid new : List Stride) → ((t : Triple) → Contains some t → Contains all t)
    → ((t : Triple) → Contains others t → Contains all t)
    → AppendsSteps waiting some before most old mid → AppendsSteps waiting others before most mid new → AppendsSteps waiting all before most old new
adds_both waiting some others all before most old mid new left right a b = record {
  longer = omega (arith, a.longer, b.longer);
  kept = λ i s h. b.kept i s (a.kept i s h);
  each = λ i s h. elim (b.each i s h) [
    | inl there ↦ elim (a.each i s there) [
      | inl first ↦ inl first
      | inr is ↦ inr record { waits = is.waits; offered = left (need_of s.receipt) is.offered; led = is.led; long = is.long }
    ]
    | inr is ↦ inr record { waits = is.waits; offered = right (need_of s.receipt) is.offered; led = is.led; long = is.long }
  ];
}

-- ---- the receipts that need the same are next to each other

-- no triple is below itself
less_itself : (a : Triple) → is_lt (triple_cmp a a) ≡ true → ⊥
less_itself a h = both_ways (is_lt (triple_cmp a a))
    (sorted_far (λ (x y : Triple). is_lt (triple_cmp x y)) (ranks_by triple_total (λ (t : Triple). t)) (a ∷ [])
    (λ k d low high. absurd (omega (arith, high))) 0 0 a (omega arith) (omega arith)) h

-- what is neither less nor greater ties
neither : (o : Ordering) → is_lt o ≡ false → is_lt (ordering_reverse o) ≡ false → o ≡ Equal
neither Less p q = absurd (both_ways true p refl)
neither Equal p q = refl
neither Greater p q = absurd (both_ways true q refl)

-- triples of which neither is below the other are equal
same_triple_from : (a b : Triple) → is_lt (triple_cmp a b) ≡ false → is_lt (triple_cmp b a) ≡ false → a ≡ b
same_triple_from a b p q = one_triple a b (neither (triple_cmp a b) p (ap is_lt (sym (triple_total.antisymm b a)) ∙ q))

-- an order whose result comes no later than another's finds less if the other does
index_less : (a b : Ordering) → ordering_index a ≤ ordering_index b → is_lt b ≡ true → is_lt a ≡ true
index_less Less b l h = refl
index_less a Equal l h = absurd (both_ways false refl h)
index_less a Greater l h = absurd (both_ways false refl h)
index_less Equal Less l h = absurd (omega (arith, l))
index_less Greater Less l h = absurd (omega (arith, l))

-- the receipts that need something before it come before the others
pub parted : (waiting : List Receipt) (offer : Triple) → IsSortedByKey need_of triple_cmp waiting
    → IsPartitionedBy (λ r. is_lt (triple_cmp (need_of r) offer)) waiting
parted waiting offer sorted i j d l below h =
    index_less (triple_cmp (need_of (get_or waiting i d)) offer) (triple_cmp (need_of (get_or waiting j d)) offer)
    (searchable_from_sorted triple_total need_of waiting offer sorted i j d l below) h

-- if no flag is raised and no step was made, no receipt was visited
pub visited_none : (waiting : List Receipt) (flags : List Bool) (strides : List Stride)
    → flags ≡ replicate (length waiting) false → strides ≡ [] → AreVisited waiting flags strides 1
visited_none waiting flags strides is none = record {
  marks = record {
    size = ap length is ∙ length-replicate (length waiting) false;
    count = ap length none ∙ sym (count-lowered flags lowered);
    marked = λ k r at e. absurd (both_ways (is_raised flags k) (lowered k) e);
    rising = λ i j s t l at. absurd (no i s at);
    short = λ i s at. absurd (no i s at);
    early = λ i s at. absurd (no i s at);
  };
  together = λ j k q r a b e f. absurd (both_ways (is_raised flags j) (lowered j) f);
}
  where
    lowered : (k : ℕ) → is_raised flags k ≡ false
    lowered k = ap (λ fs. is_raised fs k) is ∙ elim (cases_lt k (length waiting)) [
      | inl l ↦ get_or-replicate (length waiting) k false false l
      | inr l ↦ get_or_past (replicate (length waiting) false) k false (omega (arith, l, length-replicate (length waiting) false))
    ]

    no : (i : ℕ) (s : Stride) → slice_get strides i ≡ Some s → ⊥
    no i s at = let l = slice_get_within strides i s at in omega (arith, l, ap length none)

-- So far the receipts from the start up to the place need it, and were visited; no other flag is
-- changed.
pub record Gathers (waiting : List Receipt) (offer : Triple) (before : Option ℕ) (most : ℕ) (flags : List Bool)
    (old : List Stride) (start place : ℕ) (visited : List Bool) (new : List Stride) : Type 0 where
  pub marks : AreMarked waiting visited new most
  pub adds : AppendsSteps waiting (offer ∷ []) before most old new
  pub from : start ≤ place
  pub within : place ≤ length waiting
  pub fresh : (k : ℕ) (r : Receipt) → start ≤ k → k < place → slice_get waiting k ≡ Some r → (is_raised visited k ≡ true) × (need_of r ≡ offer)
  pub same : (k : ℕ) → (k < start) ⊎ (place ≤ k) → is_raised visited k ≡ is_raised flags k

-- before the first receipt that needs it nothing was added
pub gathers_none : (waiting : List Receipt) (offer : Triple) (before : Option ℕ) (most : ℕ) (flags : List Bool)
    (old : List Stride) (start : ℕ) → start ≤ length waiting → AreVisited waiting flags old most
    → Gathers waiting offer before most flags old start start flags old
gathers_none waiting offer before most flags old start l v = record {
  marks = v.marks;
  adds = adds_none waiting (offer ∷ []) before most old;
  from = omega arith;
  within = l;
  fresh = λ k r a b. absurd (omega (arith, a, b));
  same = λ k h. refl;
}

module _ (waiting : List Receipt) (offer : Triple) (before : Option ℕ) (most : ℕ) (flags : List Bool)
    (old : List Stride) (start place : ℕ) (visited : List Bool) (new : List Stride)
    (g : Gathers waiting offer before most flags old start place visited new) where
  -- one more receipt that needs it was visited: the step of the loop in `follow_offer`
  pub gathers_more : most ≤ length old + 1 → IsEdgeDue waiting visited offer place → (r : Receipt)
      → slice_get waiting place ≡ Some r → (more : List Bool) → more ≡ set visited place true
      → raised_count more ≡ raised_count visited + 1
      → Gathers waiting offer before most flags old start (place + 1) more (new ++ record { receipt = r; before = before; length = most } ∷ [])
  gathers_more early due r at more is count =
      let s : Stride = record { receipt = r; before = before; length = most } in
      let below : place < length waiting = slice_get_within waiting place r at in
      let needs : need_of r ≡ offer = ap need_of (same_Some r due.receipt (sym at ∙ due.at)) ∙ due.needs in
      let set_here : is_raised more place ≡ true =
      ap (λ fs. is_raised fs place) is ∙ get_or-set_same visited place true false
      (omega (arith, below, g.marks.size)) in
      record {
        marks = marked_more waiting visited new most g.marks place s more is count at refl (omega (arith, early, g.adds.longer));
        adds = adds_more waiting (offer ∷ []) before most old new s g.adds record {
          waits = has_at waiting place r at;
          offered = subst (Contains (offer ∷ [])) (sym needs) (contains_first offer []);
          led = refl;
          long = refl;
        };
        from = omega (arith, g.from);
        within = omega (arith, below);
        fresh = λ k q a b there. elim (cases_eq k place) [
          | inl e ↦ (ap (is_raised more) e ∙ set_here, ap need_of (same_Some q r (sym there ∙ ap (slice_get waiting) e ∙ at)) ∙ needs)
          | inr other ↦
              let h = g.fresh k q a (omega (arith, b, other)) there in
              (ap (λ fs. is_raised fs k) is ∙ get_or-set_other visited place k true false other ∙ h.0, h.1)
        ];
        same = λ k h.
            let other : k ≡ place → ⊥ = λ e. elim h [ inl a ↦ omega (arith, a, e, g.from) | inr a ↦ omega (arith, a, e) ] in
            ap (λ fs. is_raised fs k) is ∙ get_or-set_other visited place k true false other
            ∙ g.same k (elim h [ inl a ↦ inl a | inr a ↦ inr (omega (arith, a)) ]);
      }

  module _ (sorted : IsSortedByKey need_of triple_cmp waiting)
      (point : IsPartitionPoint (λ r. is_lt (triple_cmp (need_of r) offer) ≡ true)
      (λ r. is_lt (triple_cmp (need_of r) offer) ≡ false) waiting start)
      (v : AreVisited waiting flags old most) (done : IsEdgeDue waiting visited offer place → ⊥) where
    -- each receipt that needs it was visited
    needing : (k : ℕ) (r : Receipt) → slice_get waiting k ≡ Some r → need_of r ≡ offer → is_raised visited k ≡ true
    needing k r at needs = elim (cases_lt k start) [
      | inl before_start ↦
          absurd (less_itself offer (subst (λ t. is_lt (triple_cmp t offer) ≡ true)
          (ap need_of (get_or_from_slice_get waiting k r r at) ∙ needs) (point.0 k r (omega arith) before_start)))
      | inr later ↦ elim (cases_lt k place) [
        | inl here ↦ (g.fresh k r later here at).0
        | inr past ↦
            let kl = slice_get_within waiting k r at in
            let q = item_at waiting place (omega (arith, past, kl)) in
            let at_place : get_or waiting place r ≡ q.0 = get_or_from_slice_get waiting place q.0 r q.1 in
            let at_k : get_or waiting k r ≡ r = get_or_from_slice_get waiting k r r at in
            let not_less : is_lt (triple_cmp (need_of q.0) offer) ≡ false =
            subst (λ (x : Receipt). is_lt (triple_cmp (need_of x) offer) ≡ false) at_place (point.1 place r g.from (omega (arith, past, kl))) in
            let not_more : is_lt (triple_cmp offer (need_of q.0)) ≡ false =
            subst (λ (x : Receipt). is_lt (triple_cmp offer (need_of x)) ≡ false) at_place
            (subst (λ t. is_lt (triple_cmp t (need_of (get_or waiting place r))) ≡ false) (ap need_of at_k ∙ needs)
            (sorted_far (λ (x y : Receipt). is_lt (triple_cmp (need_of x) (need_of y))) (ranks_by triple_total need_of) waiting sorted place k r past kl)) in
            let alike : need_of q.0 ≡ offer = same_triple_from (need_of q.0) offer not_less not_more in
            elim (cases_Bool (is_raised visited place)) [
              | inl raised ↦
                  g.same k (inr past) ∙ v.together place k q.0 r q.1 at (alike ∙ sym needs) (sym (g.same place (inr (omega arith))) ∙ raised)
              | inr lowered ↦ absurd (done record { receipt = q.0; at = q.1; new = lowered; needs = alike })
            ]
      ]
    ]

    -- a flag that was raised is still raised
    kept_raised : (k : ℕ) (r : Receipt) → slice_get waiting k ≡ Some r → is_raised flags k ≡ true → is_raised visited k ≡ true
    kept_raised k r at raised = elim (cases_lt k start) [
      | inl a ↦ g.same k (inl a) ∙ raised
      | inr a ↦ elim (cases_lt k place) [
        | inl b ↦ (g.fresh k r a b at).0
        | inr b ↦ g.same k (inr b) ∙ raised
      ]
    ]

    -- receipts that need the same are visited together
    together : (j k : ℕ) (q r : Receipt) → slice_get waiting j ≡ Some q → slice_get waiting k ≡ Some r
        → need_of q ≡ need_of r → is_raised visited j ≡ true → is_raised visited k ≡ true
    together j k q r atj atk alike raised = elim (cases_lt j start) [
      | inl a ↦ kept_raised k r atk (v.together j k q r atj atk alike (sym (g.same j (inl a)) ∙ raised))
      | inr a ↦ elim (cases_lt j place) [
        | inl b ↦ needing k r atk (sym alike ∙ (g.fresh j q a b atj).1)
        | inr b ↦ kept_raised k r atk (v.together j k q r atj atk alike (sym (g.same j (inr b)) ∙ raised))
      ]
    ]

    -- after the last receipt that needs it the offer was followed
    pub gathers_all : FollowsOffers waiting (offer ∷ []) before most old visited new
    gathers_all = record {
      visits = record { marks = g.marks; together = together };
      adds = g.adds;
      reached = λ r waits has. elim (contains_cases offer [] (need_of r) has) [
        | inl e ↦ let k = at_of_has waiting r waits in g.marks.marked k.0 r k.1 (needing k.0 r k.1 (sym e))
        | inr none ↦ absurd (contains_none (need_of r) none)
      ];
    }

-- ---- many offers

-- before the first offer none was followed
pub follows_none : (waiting : List Receipt) (before : Option ℕ) (most : ℕ) (visited : List Bool) (strides : List Stride)
    → AreVisited waiting visited strides most → FollowsOffers waiting [] before most strides visited strides
follows_none waiting before most visited strides v =
    record {
      visits = v;
      adds = adds_none waiting [] before most strides;
      reached =
          λ r waits has. absurd (contains_none (need_of r) has);
    }

-- one more offer was followed: the step of the loop in `follow`
pub follows_more : (waiting : List Receipt) (some : List Triple) (offer : Triple) (before : Option ℕ) (most : ℕ)
    (old mid : List Stride) (flags visited : List Bool) (new : List Stride)
    → FollowsOffers waiting some before most old flags mid
    → FollowsOffers waiting (offer ∷ []) before most mid visited new
    → FollowsOffers waiting (some ++ offer ∷ []) before most old visited new
follows_more waiting some offer before most old mid flags visited new a b = record {
  visits = b.visits;
  adds = adds_both waiting some (offer ∷ []) (some ++ offer ∷ []) before most old mid new
      (λ t h. Contains-append_left some (offer ∷ []) t h) (λ t h. Contains-append_right some (offer ∷ []) t h) a.adds
      b.adds;
  reached = λ r waits has. elim (Contains-append_cases some (offer ∷ []) (need_of r) has) [
    | inl h ↦ more-HasStride mid new r most most b.adds.kept (omega arith) (a.reached r waits h)
    | inr h ↦ b.reached r waits h
  ];
}
