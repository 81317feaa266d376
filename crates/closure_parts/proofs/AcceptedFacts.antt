-- The accepted documents of one domain, in order
use Rattle.std.proofs.Common.{◌≡◌, ℕ, zero, suc, ◌<◌, ◌≤◌, ◌⊎◌, inl, inr, Bool, true, false, cond, List, [], ◌∷◌}
use Rattle.std.proofs.Common.{length, get_or, Option, Some, None, arith, refl, sym, ap, ◌∙◌, subst}
use Rattle.std.specs.Prelude.{Contains, slice_get, AllPairs}
use Rattle.std.specs.Option.{option_map}
use Rattle.std.specs.declared.cmp.Ordering.{Ordering}
use Rattle.std.specs.declared.cmp.Ordering.TheVariants.{Less, Equal, Greater}
use Rattle.std.specs.List.{All, AllByRecursion, filter_map, cons_option}
use Rattle.std.specs.List.Sorted.{IsStrictlySortedBy}
use Rattle.std.specs.Ordering.{ordering_then, ordering_index}
use Rattle.std.proofs.lemmas.Bool.{cases_order}
use Rattle.std.proofs.lemmas.Cmp.{nat_list_cmp_total, tied_itself}
use Rattle.std.proofs.lemmas.List.Elements.{All-head, All-tail, All-filter, filter_passes}
use Rattle.std.proofs.lemmas.List.Kept.{AllPairs-filter}
use Rattle.std.proofs.lemmas.Map.Lookups.{exact_bytes}
use Rattle.std.proofs.lemmas.Option.{same_Some, get_or_from_slice_get}
use Rattle.bundle_doc.specs.Bundle.{Bundle}
use Rattle.receipt_core.specs.Receipt.{Pair}
use Rattle.receipt_core.specs.Acceptance.{Meaning, IsMember}
use Rattle.fed_config.specs.Configuration.{domain_cmp}
use Rattle.sorted_order.specs.Sought.{IsRising, is_equal}
use Rattle.closure_core.proofs.ContainsFacts.{contains_first, contains_later, contains_cases}
use Rattle.closure_core.specs.Inside.Flags.{ReportsMembers}
use Rattle.closure_core.specs.Inside.Nodes.{is_raised, raised_document, raised_documents, flags_of}
use Rattle.closure_parts.specs.Pairs.{pair_cmp, no_documents, pair_at, DocumentTableView, AreRising, numbers_of, raised_of}
use Rattle.closure_core.specs.AcceptedList.{document_cmp, document_of, IsAcceptedList}
use Rattle.closure_parts.proofs.HeldFacts.{filter_gets, filter_test}

-- ---- what is shown of each number

-- One step of `shown`, for either flag.
shown-cases : (b : Bool) (o : Option Pair) (d : Bundle) → cond b (option_map (λ p. p.document) o) None ≡ Some d
    → (p : Pair) × (b ≡ true) × (o ≡ Some p) × (p.document ≡ d)
shown-cases true (Some p) d e = (p, refl, refl, same_Some p.document d e)
shown-cases true None d e = absurd (cc)
shown-cases false o d e = absurd (cc)

-- A document that is shown of a number is that of a pair whose flag is raised.
shown : (pairs : List Pair) (flags : List Bool) (n : ℕ) (d : Bundle) → raised_document pairs flags n ≡ Some d
    → (p : Pair) × (is_raised flags n ≡ true) × (slice_get pairs n ≡ Some p) × (p.document ≡ d)
shown pairs flags n d e = shown-cases (is_raised flags n) (slice_get pairs n) d e

-- A number whose flag is raised shows its pair's document.
shows : (pairs : List Pair) (flags : List Bool) (n : ℕ) (p : Pair) → is_raised flags n ≡ true
    → slice_get pairs n ≡ Some p → raised_document pairs flags n ≡ Some p.document
shows pairs flags n p raised at = ap (λ b. cond b (option_map (λ q. q.document) (slice_get pairs n)) None) raised
    ∙ ap (λ o. option_map (λ (q : Pair). q.document) o) at

-- The document that is shown of a number is that at its place.
shown-document : (pairs : List Pair) (flags : List Bool) (n : ℕ) (d : Bundle) → raised_document pairs flags n ≡ Some d → (pair_at pairs n).document ≡ d
shown-document pairs flags n d e =
    let s = shown pairs flags n d e in
    ap (λ (p : Pair). p.document) (get_or_from_slice_get pairs n s.0 no_documents s.2) ∙ s.3

-- What is in a list after an option was put in front is the option's item or was there.
onto-cases : {Y : Type 0} (o : Option Y) (ys : List Y) (y : Y) → Contains (cons_option o ys) y → (o ≡ Some y) ⊎ Contains ys y
onto-cases None ys y c = inr c
onto-cases (Some x) ys y c = elim (contains_cases x ys y c) [ inl e ↦ inl (ap (λ z. Some z) e) | inr later ↦ inr later ]

-- What was in the list still is after an option is put in front.
onto-later : {Y : Type 0} (o : Option Y) (ys : List Y) (y : Y) → Contains ys y → Contains (cons_option o ys) y
onto-later None ys y c = c
onto-later (Some x) ys y c = contains_later x ys y c

-- Each item of the new list comes from one of the old list.
from-filter_map : {X Y : Type 0} (h : X → Option Y) (xs : List X) (y : Y) → Contains (filter_map h xs) y → (x : X) × Contains xs x × (h x ≡ Some y)
from-filter_map h [] y c = absurd (omega (arith, c.1))
from-filter_map h (x ∷ xs) y c = elim (onto-cases (h x) (filter_map h xs) y c) [
  | inl e ↦ (x, contains_first x xs, e)
  | inr later ↦ let f = from-filter_map h xs y later in (f.0, contains_later x xs f.0 f.1, f.2)
]

-- What comes of an item of the old list is in the new one.
in-filter_map : {X Y : Type 0} (h : X → Option Y) (xs : List X) (x : X) (y : Y) → Contains xs x → h x ≡ Some y → Contains (filter_map h xs) y
in-filter_map h [] x y c e = absurd (omega (arith, c.1))
in-filter_map h (z ∷ xs) x y c e = elim (contains_cases z xs x c) [
  | inl s ↦ subst (λ o. Contains (cons_option o (filter_map h xs)) y) (sym (ap h s ∙ e)) (contains_first y (filter_map h xs))
  | inr later ↦ onto-later (h z) (filter_map h xs) y (in-filter_map h xs x y later e)
]

-- ---- in order

-- What holds of a list, and of an option's item, holds of both together.
onto-all : {Y : Type 0} (P : Y → Type 0) (o : Option Y) (ys : List Y) → ((y : Y) → o ≡ Some y → P y) → AllByRecursion P ys → AllByRecursion P (cons_option o ys)
onto-all P None ys head all = all
onto-all P (Some y) ys head all = (head y refl, all)

-- An option's item that comes before a sorted list makes it rise still.
onto-sorted : (o : Option Bundle) (ds : List Bundle)
    → ((d : Bundle) → o ≡ Some d → AllByRecursion (λ e. document_cmp d e ≡ Less) ds)
    → IsStrictlySortedBy document_cmp ds → IsStrictlySortedBy document_cmp (cons_option o ds)
unfolding IsStrictlySortedBy
onto-sorted None ds head rest = rest
onto-sorted (Some d) ds head rest = (head d refl, rest)

module _ (pairs : List Pair) (flags : List Bool) where
  -- A document that comes before those of all the numbers comes before all that are shown.
  below : (d : Bundle) (ns : List ℕ) → All (λ n. document_cmp d (pair_at pairs n).document ≡ Less) ns
      → AllByRecursion (λ e. document_cmp d e ≡ Less) (raised_documents pairs flags ns)
  below d [] all = tt
  below d (n ∷ ns) all =
      onto-all (λ e. document_cmp d e ≡ Less) (raised_document pairs flags n) (raised_documents pairs flags ns)
      (λ e is. subst (λ x. document_cmp d x ≡ Less) (shown-document pairs flags n e is)
      (All-head (λ k. document_cmp d (pair_at pairs k).document ≡ Less) n ns all))
      (below d ns (All-tail (λ k. document_cmp d (pair_at pairs k).document ≡ Less) n ns all))

  -- The empty list rises.
  sorted-empty : IsStrictlySortedBy document_cmp []
  unfolding IsStrictlySortedBy
  sorted-empty = tt

  -- If the documents of the numbers rise, those that are shown do.
  sorted : (ns : List ℕ) → AllPairs (λ i j. document_cmp (pair_at pairs i).document (pair_at pairs j).document ≡ Less)
      ns → IsStrictlySortedBy document_cmp (raised_documents pairs flags ns)
  sorted [] rise = sorted-empty
  sorted (n ∷ ns) rise =
      let head : All (λ k. document_cmp (pair_at pairs n).document (pair_at pairs k).document ≡ Less) ns =
      λ k d l. rise zero (suc k) d (omega arith) (omega (arith, l)) in
      onto-sorted (raised_document pairs flags n) (raised_documents pairs flags ns)
      (λ d is. subst (λ x. AllByRecursion (λ e. document_cmp x e ≡ Less) (raised_documents pairs flags ns))
      (shown-document pairs flags n d is) (below (pair_at pairs n).document ns head))
      (sorted ns (λ i j d l last. rise (suc i) (suc j) d (omega (arith, l)) (omega (arith, last))))

-- ---- one domain

-- What the test of equality accepts is equal.
equal-from : (o : Ordering) → is_equal o ≡ true → o ≡ Equal
equal-from Less e = absurd (cc)
equal-from Equal e = refl
equal-from Greater e = absurd (cc)

-- What comes first by two comparisons does so by the first, or ties there.
then-less : (a b : Ordering) → ordering_then a b ≡ Less → (a ≡ Less) ⊎ (a ≡ Equal)
then-less Less b e = inl refl
then-less Equal b e = inr refl
then-less Greater b e = absurd (cc)

-- An index is at most 2.
index-most : (o : Ordering) → ordering_index o ≤ 2
index-most Less = omega arith
index-most Equal = omega arith
index-most Greater = omega arith

-- Compared with a sought domain, the first of two sorted domains comes no later than the second.
domain-rises : (a b x : List ℕ) → domain_cmp a b ≡ Less → (o : Ordering) → domain_cmp b x ≡ o → ordering_index (domain_cmp a x) ≤ ordering_index o
domain-rises a b x l Less e = let f : domain_cmp a x ≡ Less = nat_list_cmp_total.trans a b x l e in omega (arith, ap ordering_index f)
domain-rises a b x l Equal e = let f : domain_cmp a x ≡ Less = ap (domain_cmp a) (sym (exact_bytes b x e)) ∙ l in omega (arith, ap ordering_index f)
domain-rises a b x l Greater e = index-most (domain_cmp a x)

-- Compared with a sought domain, the first of two sorted pairs comes no later than the second.
pair-rises : (p q : Pair) (x : List ℕ) → pair_cmp p q ≡ Less → ordering_index (domain_cmp p.domain x) ≤ ordering_index (domain_cmp q.domain x)
pair-rises p q x e = elim (then-less (domain_cmp p.domain q.domain) (document_cmp p.document q.document) e) [
  | inl l ↦ domain-rises p.domain q.domain x l (domain_cmp q.domain x) refl
  | inr s ↦ let f : ordering_index (domain_cmp p.domain x) ≡ ordering_index (domain_cmp q.domain x) =
      ap (λ a. ordering_index (domain_cmp a x)) (exact_bytes p.domain q.domain s) in omega (arith, f)
]

-- Pairs in order rise for the search of a domain.
pub domain-sought : (pairs : List Pair) (numbers : List ℕ) (x : List ℕ) → AreRising pairs numbers
    → IsRising (λ n. domain_cmp (pair_at pairs n).domain x) numbers
domain-sought pairs numbers x h = record {
  rising = λ i j d l within.
      elim (cases_order i j) [
        | inl e ↦ let f : ordering_index (domain_cmp (pair_at pairs (get_or numbers i d)).domain x)
            ≡ ordering_index (domain_cmp (pair_at pairs (get_or numbers j d)).domain x) =
            ap (λ k. ordering_index (domain_cmp (pair_at pairs (get_or numbers k d)).domain x)) e in omega (arith, f)
        | inr c ↦
            elim c [
              | inl b ↦ pair-rises (pair_at pairs (get_or numbers i d)) (pair_at pairs (get_or numbers j d)) x (h i j d b within)
              | inr b ↦ absurd (omega (arith, b, l))
            ]
      ];
}

-- The numbers of a domain's pairs are numbers of pairs.
pub numbers-within : (pairs : List Pair) (numbers : List ℕ) (x : List ℕ) → All (λ n. n < length pairs) numbers
    → All (λ n. n < length pairs) (numbers_of pairs numbers x)
numbers-within pairs numbers x h = All-filter (λ n. is_equal (domain_cmp (pair_at pairs n).domain x)) (λ n. n < length pairs) numbers h

module _ (pairs : List Pair) (x : List ℕ) where
  -- A pair that the search of the domain finds equal is of the domain.
  domain-is : (n : ℕ) → is_equal (domain_cmp (pair_at pairs n).domain x) ≡ true → (pair_at pairs n).domain ≡ x
  domain-is n e = exact_bytes (pair_at pairs n).domain x (equal-from (domain_cmp (pair_at pairs n).domain x) e)

  -- Within one domain the documents of pairs in order rise.
  documents-rise : (ns : List ℕ) → All (λ n. is_equal (domain_cmp (pair_at pairs n).domain x) ≡ true) ns
      → AreRising pairs ns → AllPairs (λ i j. document_cmp (pair_at pairs i).document (pair_at pairs j).document ≡ Less)
      ns
  documents-rise ns all rise i j d l last =
      let one : Pair = pair_at pairs (get_or ns i d) in
      let other : Pair = pair_at pairs (get_or ns j d) in
      let same : other.domain ≡ one.domain = domain-is (get_or ns j d) (all j d last) ∙ sym (domain-is (get_or ns i d) (all i d (omega (arith, l, last)))) in
      let tied : domain_cmp one.domain other.domain ≡ Equal = ap (domain_cmp one.domain) same ∙ tied_itself nat_list_cmp_total one.domain in
      sym (ap (λ o. ordering_then o (document_cmp one.document other.document)) tied) ∙ rise i j d l last

-- the domain's documents whose flags are raised are its accepted ones
pub accepted-list : (m : Meaning) (pairs : List Pair) (p : DocumentTableView) (x : List ℕ)
    → ReportsMembers m pairs p.numbers (flags_of p.counts) → AreRising pairs p.numbers
    → IsAcceptedList m x (raised_of pairs p x)
accepted-list m pairs p x t rise =
    let test : ℕ → Bool = λ n. is_equal (domain_cmp (pair_at pairs n).domain x) in
    record {
      rising = sorted pairs (flags_of p.counts) (numbers_of pairs p.numbers x)
          (documents-rise pairs x (numbers_of pairs p.numbers x) (filter_passes test p.numbers)
          (AllPairs-filter (λ i j. pair_cmp (pair_at pairs i) (pair_at pairs j) ≡ Less) test p.numbers rise));
      sound = λ d c.
          let f = from-filter_map (raised_document pairs (flags_of p.counts))
          (numbers_of pairs p.numbers x) d c in
          let s = shown pairs (flags_of p.counts) f.0 d f.2 in
          let at : pair_at pairs f.0 ≡ s.0 = get_or_from_slice_get pairs f.0 s.0 no_documents s.2 in
          let domain : s.0.domain ≡ x = sym (ap (λ (q : Pair). q.domain) at) ∙ domain-is pairs x f.0 (filter_test test p.numbers f.0 f.1) in
          subst (IsMember m) (same_pair s.0 x d domain s.3) (t.sound f.0 s.0 s.1 s.2);
      complete = λ d member.
          let f = t.all (document_of x d) member in
          let at : (pair_at pairs f.0).domain ≡ x = ap (λ (q : Pair). q.domain) (get_or_from_slice_get pairs f.0 (document_of x d) no_documents f.2) in
          let tied : is_equal (domain_cmp (pair_at pairs f.0).domain x) ≡ true = ap is_equal (ap (λ a. domain_cmp a x) at ∙ tied_itself nat_list_cmp_total x) in
          in-filter_map (raised_document pairs (flags_of p.counts)) (numbers_of pairs p.numbers x)
          f.0 d (filter_gets test p.numbers f.0 (t.listed f.0 f.1) tied)
          (shows pairs (flags_of p.counts) f.0 (document_of x d) f.1 f.2);
    }
  where
    same_pair : (q : Pair) (y : List ℕ) (d : Bundle) → q.domain ≡ y → q.document ≡ d → q ≡ document_of y d
    same_pair q y d a b =
        ap (λ (z : List ℕ). let w : Pair = record { domain = z; document = q.document } in w) a
        ∙ ap (λ (e : Bundle). let w : Pair = record { domain = y; document = e } in w) b
