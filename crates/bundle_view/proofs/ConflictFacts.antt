-- Conflicts: those of a group, and those of documents in a row
use Rattle.std.proofs.Common.{◌≡◌, ℕ, ◌<◌, ◌≤◌, ◌⊎◌, inl, inr, List, [], ◌∷◌, ◌++◌, map, length, get_or, take, drop}
use Rattle.std.proofs.Common.{Option, Some, None, Less, Equal, Greater, refl, sym, ap, ◌∙◌, subst, arith}
use Rattle.std.specs.declared.cmp.Ordering.{Ordering}
use Rattle.std.specs.Ordering.{nat_cmp, ordering_then}
use Rattle.std.specs.Option.{option_cmp}
use Rattle.std.specs.Cmp.{on_total, nat_cmp_total}
use Rattle.std.specs.Cmp.Lexicographic.{options_total, on_texts}
use Rattle.std.specs.List.{Contains}
use Rattle.std.specs.List.Sorted.{IsStrictlySortedBy}
use Rattle.std.proofs.lemmas.List.Elements.{Contains-append_left, Contains-append_right, Contains-append_cases}
use Rattle.bundle_doc.specs.Bundle.{Bundle}
use Rattle.fed_config.specs.Configuration.{Configuration, AreDomains, domain_cmp}
use Rattle.receipt_core.specs.Acceptance.{Meaning, IsMember}
use Rattle.receipt_core.proofs.OrderFacts.{equal_bytes, cmp_equal}
use Rattle.closure_core.specs.Alike.{AreAlike}
use Rattle.closure_core.specs.AcceptedList.{document_cmp, document_of}
use Rattle.closure_core.specs.Order.{document_total}
use Rattle.bundle_view.specs.declared.conflict.ConflictKind.{ConflictKind}
use Rattle.bundle_view.specs.declared.conflict.ConflictKind.TheVariants.{Keys, HintOnly}
use Rattle.bundle_view.specs.Conflicts.{ConflictGroup, IsConflictGroup, AreConflictGroups, AreConflicts, IsOfKind, group_cmp, OfDomain, report_all}
use Rattle.bundle_view.specs.Conflicts.{AreAllConflicts, ReportedConflict}
use Rattle.closure_core.proofs.AlikeFacts.{domains_alike}
use Rattle.closure_core.proofs.MemberFacts.{alike_turned, member_alike}
use Rattle.closure_core.proofs.ContainsFacts.{contains_first, contains_later, contains_none, contains_cases}
use Rattle.bundle_view.proofs.RisingListFacts.{same_list}
use Rattle.bundle_view.proofs.RisingListFacts.{rising_none, rising_one, rising_append, rising_across, rising_first}
use Rattle.bundle_view.proofs.RisingListFacts.{rising_rest, two_in_one, first_of}

-- ---- ranks

-- the order of ranks, an absent one below all
abbrev pub rank_cmp : Option ℕ → Option ℕ → Ordering
rank_cmp = option_cmp nat_cmp

-- two orders in turn find less only if the first does, or ties
then_less : (a b : Ordering) → ordering_then a b ≡ Less → (a ≡ Less) ⊎ (a ≡ Equal)
then_less Less b h = inl refl
then_less Equal b h = inr refl
then_less Greater b h = absurd (cc)

-- ranks that tie are equal
rank_equal : (a b : Option ℕ) → rank_cmp a b ≡ Equal → a ≡ b
rank_equal None None h = refl
rank_equal None (Some b) h = absurd (cc)
rank_equal (Some a) None h = absurd (cc)
rank_equal (Some a) (Some b) h = ap Some (equal_bytes a b h)

-- a document below another has a lesser rank or the same
rank_first : (d e : Bundle) → document_cmp d e ≡ Less → (rank_cmp d.rank e.rank ≡ Less) ⊎ (d.rank ≡ e.rank)
rank_first d e h = elim (then_less _ _ h) [
  | inl less ↦ inl less
  | inr same ↦ inr (rank_equal d.rank e.rank same)
]

-- one sequence number is not below itself
same_sequence_below : (s : ℕ) (a b : Option ℕ) → a ≡ Some s → b ≡ Some s → rank_cmp a b ≡ Less → ⊥
same_sequence_below s a b p q less =
    let here : rank_cmp (Some s) (Some s) ≡ Less =
    subst (λ (z : Option ℕ). rank_cmp (Some s) z ≡ Less) q (subst (λ (z : Option ℕ). rank_cmp z b ≡ Less) p less) in
    let same : rank_cmp (Some s) (Some s) ≡ Equal = cmp_equal s s refl in
    cc

-- a lesser rank is a lesser sequence number
sequence_below : (s t : ℕ) (a b : Option ℕ) → a ≡ Some s → b ≡ Some t → rank_cmp a b ≡ Less → nat_cmp s t ≡ Less
sequence_below s t a b p q less = subst (λ (z : Option ℕ). rank_cmp (Some s) z ≡ Less) q (subst (λ (z : Option ℕ). rank_cmp z b ≡ Less) p less)

-- the documents of a group are below all that follow
pub group_below : (group others : List Bundle) → IsStrictlySortedBy document_cmp (group ++ others)
    → ((d e : Bundle) → Contains group d → Contains (take 1 others) e → d.rank ≡ e.rank → ⊥)
    → (d e : Bundle) → Contains group d → Contains others e → rank_cmp d.rank e.rank ≡ Less
group_below group [] rising ended d e h k = absurd (contains_none e k)
group_below group (x ∷ others) rising ended d e h k =
    let next : rank_cmp d.rank x.rank ≡ Less = elim (rank_first d x (rising_across document_cmp group (x ∷ others) d x rising h (contains_first x others))) [
      | inl less ↦ less
      | inr same ↦ absurd (ended d x h (contains_first x []) same)
    ] in
    elim (contains_cases x others e k) [
      | inl is ↦ subst (λ (z : Bundle). rank_cmp d.rank z.rank ≡ Less) is next
      | inr later ↦ elim (rank_first x e (rising_later group x others e rising later)) [
        | inl less ↦ (options_total nat_cmp_total).trans d.rank x.rank e.rank next less
        | inr same ↦ subst (λ (z : Option ℕ). rank_cmp d.rank z ≡ Less) same next
      ]
    ]
  where
    rising_later : (group : List Bundle) (x : Bundle) (others : List Bundle) (e : Bundle)
        → IsStrictlySortedBy document_cmp (group ++ x ∷ others) → Contains others e → document_cmp x e ≡ Less
    rising_later [] x others e rising has = rising_first document_cmp x others e rising has
    rising_later (y ∷ group) x others e rising has = rising_later group x others e (rising_rest document_cmp y (group ++ x ∷ others) rising) has

-- ---- one property in place of another

-- a conflict among the documents with a property is one among those with an equivalent one
pub clash_iff : (P Q : Bundle → Type 0) → ((d : Bundle) → P d → Q d) → ((d : Bundle) → Q d → P d) → (c : ConflictGroup)
    → IsConflictGroup P c → IsConflictGroup Q c
clash_iff P Q f g c is = record {
  rising = is.rising;
  exactly = λ d. (λ h. let r = (is.exactly d).0 h in (f d r.0, r.1), λ r. (is.exactly d).1 (g d r.0, r.1));
  several = is.several;
  kind = is.kind;
}

-- the same for the list of all conflicts
pub clashes_iff : (P Q : Bundle → Type 0) → ((d : Bundle) → P d → Q d) → ((d : Bundle) → Q d → P d) → (cs : List ConflictGroup)
    → AreConflictGroups P cs → AreConflictGroups Q cs
clashes_iff P Q f g cs are = record {
  rising = are.rising;
  sound = λ c h. clash_iff P Q f g c (are.sound c h);
  complete = λ c is. are.complete c (clash_iff Q P g f c is);
}

-- ---- documents in a row

module _ (P Q R : Bundle → Type 0) (cut : (d : Bundle) → R d → P d ⊎ Q d) (front : (d : Bundle) → P d → R d) (back : (d : Bundle) → Q d → R d)
    (below : (d e : Bundle) → P d → Q e → rank_cmp d.rank e.rank ≡ Less) where
  -- if a document in front has a sequence number, none in the back has it
  apart : (s : ℕ) (d e : Bundle) → P d → d.rank ≡ Some s → Q e → e.rank ≡ Some s → ⊥
  apart s d e p a q b = same_sequence_below s d.rank e.rank a b (below d e p q)

  -- all documents with the sequence number of one in front are in front
  in_front : (c : ConflictGroup) (d : Bundle) → P d → d.rank ≡ Some c.sequence → (e : Bundle) → R e → e.rank ≡ Some c.sequence → P e
  in_front c d p a e r b = elim (cut e r) [
    | inl here ↦ here
    | inr there ↦ absurd (apart c.sequence d e p a there b)
  ]

  -- all documents with the sequence number of one in the back are in the back
  in_back : (c : ConflictGroup) (d : Bundle) → Q d → d.rank ≡ Some c.sequence → (e : Bundle) → R e → e.rank ≡ Some c.sequence → Q e
  in_back c d q a e r b = elim (cut e r) [
    | inl here ↦ absurd (apart c.sequence e d here b q a)
    | inr there ↦ there
  ]

  -- a conflict in front is one of the whole
  whole_of_front : (c : ConflictGroup) → IsConflictGroup P c → IsConflictGroup R c
  whole_of_front c is =
      let first = first_of c.documents is.several in
      let at = (is.exactly first.0).0 first.1 in
      record {
        rising = is.rising;
        exactly = λ d. (λ h. let r = (is.exactly d).0 h in (front d r.0, r.1), λ r. (is.exactly d).1 (in_front c first.0 at.0 at.1 d r.0 r.1, r.1));
        several = is.several;
        kind = is.kind;
      }

  -- a conflict in the back is one of the whole
  whole_of_back : (c : ConflictGroup) → IsConflictGroup Q c → IsConflictGroup R c
  whole_of_back c is =
      let first = first_of c.documents is.several in
      let at = (is.exactly first.0).0 first.1 in
      record {
        rising = is.rising;
        exactly = λ d. (λ h. let r = (is.exactly d).0 h in (back d r.0, r.1), λ r. (is.exactly d).1 (in_back c first.0 at.0 at.1 d r.0 r.1, r.1));
        several = is.several;
        kind = is.kind;
      }

  -- a conflict of the whole with a sequence number that is in front is one in front
  front_of_whole : (c : ConflictGroup) (e : Bundle) → P e → e.rank ≡ Some c.sequence → IsConflictGroup R c → IsConflictGroup P c
  front_of_whole c e p a is = record {
    rising = is.rising;
    exactly = λ d. (λ h. let r = (is.exactly d).0 h in (in_front c e p a d r.0 r.1, r.1), λ r. (is.exactly d).1 (front d r.0, r.1));
    several = is.several;
    kind = is.kind;
  }

  -- a conflict of the whole with a sequence number that is in the back is one in the back
  back_of_whole : (c : ConflictGroup) (e : Bundle) → Q e → e.rank ≡ Some c.sequence → IsConflictGroup R c → IsConflictGroup Q c
  back_of_whole c e q a is = record {
    rising = is.rising;
    exactly = λ d. (λ h. let r = (is.exactly d).0 h in (in_back c e q a d r.0 r.1, r.1), λ r. (is.exactly d).1 (back d r.0, r.1));
    several = is.several;
    kind = is.kind;
  }

  -- each conflict in front is below each in the back
  clash_below : (c d : ConflictGroup) → IsConflictGroup P c → IsConflictGroup Q d → group_cmp c d ≡ Less
  clash_below c d is js =
      let x = first_of c.documents is.several in
      let y = first_of d.documents js.several in
      let px = (is.exactly x.0).0 x.1 in
      let qy = (js.exactly y.0).0 y.1 in
      sequence_below c.sequence d.sequence x.0.rank y.0.rank px.1 qy.1 (below x.0 y.0 px.0 qy.0)

  -- the conflicts of the whole are those in front and then those in the back
  pub clashes_append : (cs ds : List ConflictGroup) → AreConflictGroups P cs → AreConflictGroups Q ds → AreConflictGroups R (cs ++ ds)
  clashes_append cs ds p q = record {
    rising = rising_append group_cmp cs ds p.rising q.rising (λ c d h k. clash_below c d (p.sound c h) (q.sound d k));
    sound = λ c h. elim (Contains-append_cases cs ds c h) [
      | inl here ↦ whole_of_front c (p.sound c here)
      | inr there ↦ whole_of_back c (q.sound c there)
    ];
    complete = λ c is.
        let first = first_of c.documents is.several in
        let at = (is.exactly first.0).0 first.1 in
        elim (cut first.0 at.0) [
          | inl here ↦ Contains-append_left cs ds c (p.complete c (front_of_whole c first.0 here at.1 is))
          | inr there ↦ Contains-append_right cs ds c (q.complete c (back_of_whole c first.0 there at.1 is))
        ];
  }

-- ---- a group

-- documents are in conflict of one kind at most
one_kind : (group : List Bundle) (a b : ConflictKind) → IsOfKind group a → IsOfKind group b → a ≡ b
one_kind group Keys Keys p q = refl
one_kind group HintOnly HintOnly p q = refl
one_kind group Keys HintOnly p q = absurd (p.differ (q p.one p.other p.has_one p.has_other))
one_kind group HintOnly Keys p q = absurd (q.differ (p q.one q.other q.has_one q.has_other))

-- if there is no conflict, the empty list has them all
no_clash : (P : Bundle → Type 0) → ((c : ConflictGroup) → IsConflictGroup P c → ⊥) → AreConflictGroups P []
no_clash P none = record { rising = rising_none group_cmp; sound = λ c h. absurd (contains_none c h); complete = λ c is. absurd (none c is) }

-- documents without a sequence number are in no conflict
pub absent_rank : (group : List Bundle) → ((d : Bundle) → Contains group d → d.rank ≡ None) → AreConflictGroups (Contains group) []
absent_rank group absent = no_clash (Contains group) (λ c is.
    let first = first_of c.documents is.several in
    let at = (is.exactly first.0).0 first.1 in
    let none = absent first.0 at.0 in
    let some = at.1 in
    none_some first.0.rank c.sequence none some)
  where
    none_some : (o : Option ℕ) (s : ℕ) → o ≡ None → o ≡ Some s → ⊥
    none_some o s p q = cc

-- a group of one document has no conflict
pub single : (group : List Bundle) → length group < 2 → AreConflictGroups (Contains group) []
single group few =
    no_clash (Contains group) (λ c is. two_in_one document_cmp document_total c.documents group is.rising is.several
    (λ x h. ((is.exactly x).0 h).0) few)

-- a conflict in a group of one sequence number has all of the group
same_clash : (group : List Bundle) (s : ℕ) (k : ConflictKind) → IsStrictlySortedBy document_cmp group
    → ((d : Bundle) → Contains group d → d.rank ≡ Some s) → IsOfKind group k
    → (c : ConflictGroup) → IsConflictGroup (Contains group) c → record { sequence = s; kind = k; documents = group } ≡ c
same_clash group s k rising ranks kind c is =
    let first = first_of c.documents is.several in
    let at = (is.exactly first.0).0 first.1 in
    let sequence : s ≡ c.sequence = one_some first.0.rank s c.sequence (ranks first.0 at.0) at.1 in
    let documents : group ≡ c.documents = same_list document_cmp document_total group c.documents rising is.rising
    (λ d h. (is.exactly d).1 (h, subst (λ (n : ℕ). d.rank ≡ Some n) sequence (ranks d h))) (λ d h. ((is.exactly d).0 h).0) in
    let kinds : k ≡ c.kind = one_kind c.documents k c.kind (subst (λ (ds : List Bundle). IsOfKind ds k) documents kind) is.kind in
    λ i. record { sequence = sequence i; kind = kinds i; documents = documents i }
  where
    one_some : (o : Option ℕ) (s t : ℕ) → o ≡ Some s → o ≡ Some t → s ≡ t
    one_some o s t p q = cc

-- two or more with one sequence number are one conflict
pub one_clash : (group : List Bundle) (s : ℕ) (k : ConflictKind) → IsStrictlySortedBy document_cmp group
    → ((d : Bundle) → Contains group d → d.rank ≡ Some s) → 2 ≤ length group → IsOfKind group k
    → AreConflictGroups (Contains group) (record { sequence = s; kind = k; documents = group } ∷ [])
one_clash group s k rising ranks many kind =
    let it : ConflictGroup = record { sequence = s; kind = k; documents = group } in
    let is : IsConflictGroup (Contains group) it = record { rising = rising; exactly = λ d. (λ h. (h, ranks d h), λ r. r.0); several = many; kind = kind } in
    record {
      rising = rising_one group_cmp it;
      sound = λ c h. elim (contains_cases it [] c h) [
        | inl e ↦ subst (IsConflictGroup (Contains group)) e is
        | inr none ↦ absurd (contains_none c none)
      ];
      complete = λ c js. subst (Contains (it ∷ [])) (same_clash group s k rising ranks kind c js) (contains_first it []);
    }

-- ---- they are the only ones

-- documents have one list of conflicts
pub one_list : (P : Bundle → Type 0) (cs ds : List ConflictGroup) → AreConflictGroups P cs → AreConflictGroups P ds → cs ≡ ds
one_list P cs ds p q =
    same_list group_cmp (on_total (λ (c : ConflictGroup). c.sequence) nat_cmp_total) cs ds p.rising q.rising
    (λ c h. q.complete c (p.sound c h)) (λ c h. p.complete c (q.sound c h))

-- a configuration has one list of domains
pub one_domains : (c : Configuration) (xs ys : List (List ℕ)) → AreDomains c xs → AreDomains c ys → xs ≡ ys
one_domains c xs ys p q =
    same_list domain_cmp (on_texts (λ (x : List ℕ). x)) xs ys p.rising q.rising (λ d h. q.complete d (p.sound d h)) (λ d h. p.complete d (q.sound d h))

-- the lists of conflicts of equal domains are equal
same_parts : (m : Meaning) (xs ys : List OfDomain) → map (λ (p : OfDomain). p.domain) xs ≡ map (λ (p : OfDomain). p.domain) ys
    → ((p : OfDomain) → Contains xs p → AreConflicts m p.domain p.clashes) → ((p : OfDomain) → Contains ys p → AreConflicts m p.domain p.clashes) → xs ≡ ys
same_parts m [] [] names p q = refl
same_parts m [] (y ∷ ys) names p q = absurd (let n = ap length names in omega arith)
same_parts m (x ∷ xs) [] names p q = absurd (let n = ap length names in omega arith)
same_parts m (x ∷ xs) (y ∷ ys) names p q =
    let name : x.domain ≡ y.domain = ap (λ l. get_or l 0 []) names in
    let clashes : x.clashes ≡ y.clashes = one_list (λ d. IsMember m (document_of y.domain d)) x.clashes y.clashes
    (subst (λ (z : List ℕ). AreConflicts m z x.clashes) name (p x (contains_first x xs))) (q y (contains_first y ys)) in
    let rest : xs ≡ ys = same_parts m xs ys (ap (λ l. drop 1 l) names) (λ z h. p z (contains_later x xs z h)) (λ z h. q z (contains_later y ys z h)) in
    λ i. record { domain = name i; clashes = clashes i } ∷ rest i

-- conflicts are those of the same documents
group_alike : (P Q : Bundle → Type 0) → ((d : Bundle) → P d → Q d) → ((d : Bundle) → Q d → P d) → (c : ConflictGroup)
    → IsConflictGroup P c → IsConflictGroup Q c
group_alike P Q to from c h = record {
  rising = h.rising;
  exactly = λ d. (
    λ has. let both = (h.exactly d).0 has in (to d both.0, both.1),
    λ both. (h.exactly d).1 (from d both.0, both.1),
  );
  several = h.several;
  kind = h.kind;
}

-- replicas that hold alike have the same conflicts
pub conflicts_alike : (m n : Meaning) → AreAlike m n → (domain : List ℕ) (cs : List ConflictGroup) → AreConflicts m domain cs → AreConflicts n domain cs
conflicts_alike m n alike domain cs h =
    let to = λ (d : Bundle). member_alike m n alike (document_of domain d) in
    let from = λ (d : Bundle). member_alike n m (alike_turned m n alike) (document_of domain d) in
    record {
      rising = h.rising;
      sound = λ c has. group_alike (λ d. IsMember m (document_of domain d)) (λ d. IsMember n (document_of domain d)) to from c (h.sound c has);
      complete = λ c is. h.complete c (group_alike (λ d. IsMember n (document_of domain d)) (λ d. IsMember m (document_of domain d)) from to c is);
    }

-- all conflicts of replicas that hold alike are one list, as `laws::one_view` says
pub one_stated : (one other : Meaning) (cs ds : List ReportedConflict) → AreAlike one other → AreAllConflicts one cs
    → AreAllConflicts other ds → cs ≡ ds
one_stated one other cs ds alike p q =
    let names = one_domains other.config _ _ (domains_alike one.config other.config alike.trust _ p.domains) q.domains in
    let parts : p.parts ≡ q.parts = same_parts other p.parts q.parts names
    (λ part has. conflicts_alike one other alike part.domain part.clashes (p.each part has)) q.each in
    p.are ∙ ap report_all parts ∙ sym q.are
