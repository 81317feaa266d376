-- Groups of documents and their conflicts, one after the other
use Rattle.std.proofs.Common.{◌≡◌, ℕ, ◌+◌, ◌-◌, ◌<◌, ◌≤◌, inl, inr, List, [], ◌∷◌, ◌++◌, map, length, get_or, take}
use Rattle.std.proofs.Common.{drop, refl, sym, ap, ◌∙◌, subst, arith, append_assoc, append-nil, length-drop}
use Rattle.std.proofs.Common.{length-take-le, add-one}
use Rattle.std.proofs.Math.Seq.{take-suc}
use Rattle.std.proofs.lemmas.List.{take-append-drop, drop-drop, map-append, flat_map_more}
use Rattle.std.specs.List.{Contains}
use Rattle.std.specs.List.Sorted.{IsStrictlySortedBy}
use Rattle.std.proofs.lemmas.List.Elements.{Contains-append_left, Contains-append_right, Contains-append_cases, Contains-push_cases}
use Rattle.bundle_doc.specs.Bundle.{Bundle}
use Rattle.fed_config.specs.Configuration.{AreDomains}
use Rattle.receipt_core.specs.Acceptance.{Meaning, IsMember}
use Rattle.closure_core.specs.AcceptedList.{document_cmp, document_of, IsAcceptedList}
use Rattle.bundle_view.specs.Conflicts.{ConflictGroup, AreConflictGroups, AreConflicts, OfDomain, AreAllConflicts, ReportedConflict, reported_conflict}
use Rattle.bundle_view.specs.Inside.Groups.{IsGroup, IsGroupLength, AddsConflicts, SoFar, AreFoundOf}
use Rattle.bundle_view.proofs.RisingListFacts.{rising_left, rising_right}
use Rattle.bundle_view.proofs.ConflictFacts.{group_below, clashes_append, clashes_iff, single}

-- the documents from a place on rise
rising_parts : (documents : List Bundle) (start : ℕ) (rest : List Bundle) → IsStrictlySortedBy document_cmp documents
    → rest ≡ drop start documents → IsStrictlySortedBy document_cmp rest
rising_parts documents start rest rising e =
    subst (IsStrictlySortedBy document_cmp) (sym e)
    (rising_right document_cmp (take start documents) (drop start documents)
    (subst (IsStrictlySortedBy document_cmp) (sym (take-append-drop start documents)) rising))

-- sorted documents rise also if they are cut in two
cut_at : (rest : List Bundle) (len : ℕ) → IsStrictlySortedBy document_cmp rest → IsStrictlySortedBy document_cmp (take len rest ++ drop len rest)
cut_at rest len rising = subst (IsStrictlySortedBy document_cmp) (sym (take-append-drop len rest)) rising

-- the first documents of one rank are not none
some_taken : (rest : List Bundle) (len : ℕ) → 0 < len → len ≤ length rest → 0 < length (take len rest)
some_taken rest len low high = omega (arith, length-take-le len rest high)

-- the first documents of one rank are a group
pub group_at : (documents : List Bundle) (start len : ℕ) (rest : List Bundle)
    → IsStrictlySortedBy document_cmp documents → rest ≡ drop start documents → IsGroupLength rest len
    → IsGroup (take len rest)
group_at documents start len rest rising e is = record {
  rising = rising_left document_cmp (take len rest) (drop len rest) (cut_at rest len (rising_parts documents start rest rising e));
  some = some_taken rest len is.some is.within;
  alike = is.alike;
}

-- the conflicts of a list are those of its first group and those of the others
group_first : (rest : List Bundle) (len : ℕ) (cs ds : List ConflictGroup) → IsStrictlySortedBy document_cmp rest
    → IsGroupLength rest len → AreConflictGroups (Contains (take len rest)) cs
    → AreConflictGroups (Contains (drop len rest)) ds → AreConflictGroups (Contains rest) (cs ++ ds)
group_first rest len cs ds rising is p q =
    clashes_append (Contains (take len rest)) (Contains (drop len rest)) (Contains rest)
    (λ d h. Contains-append_cases (take len rest) (drop len rest) d (subst (λ (z : List Bundle). Contains z d) (sym (take-append-drop len rest)) h))
    (λ d h. subst (λ (z : List Bundle). Contains z d) (take-append-drop len rest) (Contains-append_left (take len rest) (drop len rest) d h))
    (λ d h. subst (λ (z : List Bundle). Contains z d) (take-append-drop len rest) (Contains-append_right (take len rest) (drop len rest) d h))
    (group_below (take len rest) (drop len rest) (cut_at rest len rising) is.ended) cs ds p q

-- the conflicts of one more group were added: the step of the loop in `add_conflicts`
pub so_far_step : (domain : List ℕ) (documents : List Bundle) (start len : ℕ) (rest : List Bundle)
    (old new more : List ReportedConflict) → IsStrictlySortedBy document_cmp documents → rest ≡ drop start documents
    → SoFar domain documents start old new → IsGroupLength rest len → AddsConflicts domain (take len rest) new more
    → SoFar domain documents (start + len) old more
so_far_step domain documents start len rest old new more rising e s is a =
    let rising_rest : IsStrictlySortedBy document_cmp rest = rising_parts documents start rest rising e in
    let left_over : drop len rest ≡ drop (start + len) documents = ap (drop len) e ∙ drop-drop len start documents in
    let size : length rest ≡ length documents - start = ap length e ∙ length-drop start documents in
    record {
      within = let low = s.within in let high = is.within in omega arith;
      clashes = s.clashes ++ a.clashes;
      now = a.now ∙ ap (λ z. z ++ map (reported_conflict domain) a.clashes) s.now
          ∙ append_assoc old (map (reported_conflict domain) s.clashes) (map (reported_conflict domain) a.clashes)
          ∙ ap (λ z. old ++ z) (sym (map-append (reported_conflict domain) s.clashes a.clashes));
      all = λ others are.
          let here : AreConflictGroups (Contains rest) (a.clashes ++ others) =
          group_first rest len a.clashes others rising_rest is a.are
          (subst (λ (z : List Bundle). AreConflictGroups (Contains z) others) (sym left_over) are) in
          subst (AreConflictGroups (Contains documents)) (sym (append_assoc s.clashes a.clashes others))
          (s.all (a.clashes ++ others) (subst (λ (z : List Bundle). AreConflictGroups (Contains z) (a.clashes ++ others)) e here));
    }

-- after the last group all conflicts were added
pub so_far_end : (domain : List ℕ) (documents : List Bundle) (start : ℕ) (old new : List ReportedConflict)
    → SoFar domain documents start old new → length documents ≤ start → AddsConflicts domain documents old new
so_far_end domain documents start old new s past =
    let size : length (drop start documents) ≡ length documents - start = length-drop start documents in
    record {
      clashes = s.clashes;
      are = subst (AreConflictGroups (Contains documents)) (append-nil s.clashes) (s.all [] (single (drop start documents) (omega arith)));
      now = s.now;
    }

-- ---- the conflicts of several domains

-- the conflicts among a domain's accepted documents are the domain's
pub conflicts_of : (m : Meaning) (domain : List ℕ) (documents : List Bundle) (cs : List ConflictGroup)
    → IsAcceptedList m domain documents → AreConflictGroups (Contains documents) cs → AreConflicts m domain cs
conflicts_of m domain documents cs list are = clashes_iff (Contains documents) (λ d. IsMember m (document_of domain d)) list.sound list.complete cs are

-- the items up to a place and the one there are the items up to the next place
pub taken_more : {X : Type 0} (xs : List X) (k : ℕ) (x : X) → k < length xs → x ≡ get_or xs k x → take (k + 1) xs ≡ take k xs ++ x ∷ []
taken_more xs k x low is = ap (λ n. take n xs) (add-one k) ∙ take-suc xs k x low ∙ ap (λ z. take k xs ++ z ∷ []) (sym is)

-- before the first domain no conflict is found
pub found_none : (m : Meaning) → AreFoundOf m [] []
found_none m = record { parts = []; domains_are = refl; each = λ p h. absurd (omega (arith, h.1)); now = refl }

-- the conflicts of one more domain were found: the step of the loop in `conflicts`
pub found_more : (m : Meaning) (domains : List (List ℕ)) (domain : List ℕ) (documents : List Bundle)
    (old new : List ReportedConflict) → AreFoundOf m domains old → IsAcceptedList m domain documents
    → AddsConflicts domain documents old new → AreFoundOf m (domains ++ domain ∷ []) new
found_more m domains domain documents old new f list a =
    let part : OfDomain = record { domain = domain; clashes = a.clashes } in
    record {
      parts = f.parts ++ part ∷ [];
      domains_are = map-append (λ (p : OfDomain). p.domain) f.parts (part ∷ []) ∙ ap (λ z. z ++ domain ∷ []) f.domains_are;
      each = λ p h. elim (Contains-push_cases f.parts part p h) [
        | inl old ↦ f.each p old
        | inr e ↦ subst (λ (z : OfDomain). AreConflicts m z.domain z.clashes) e (conflicts_of m domain documents a.clashes list a.are)
      ];
      now = a.now ∙ ap (λ z. z ++ map (reported_conflict domain) a.clashes) f.now
          ∙ flat_map_more (λ (p : OfDomain). map (reported_conflict p.domain) p.clashes) [] f.parts part;
    }

-- after the last domain all conflicts are found
pub found_all : (m : Meaning) (domains : List (List ℕ)) (found : List ReportedConflict) → AreDomains m.config domains
    → AreFoundOf m domains found → AreAllConflicts m found
found_all m domains found are f = record { parts = f.parts; domains = subst (AreDomains m.config) (sym f.domains_are) are; each = f.each; are = f.now }
