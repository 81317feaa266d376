-- One report
use Rattle.std.proofs.Common.{◌≡◌, ℕ, ◌+◌, ◌<◌, List, [], ◌∷◌, ◌++◌, map, length, get_or, drop, drop-cons, add-one}
use Rattle.std.proofs.Common.{codes, decimal, flat_map, Option, refl, sym, ap, ◌∙◌, subst, arith, append_assoc}
use Rattle.std.proofs.Common.{append-nil, inl, inr}
use Rattle.std.proofs.lemmas.List.{map-append, flat_map_more}
use Rattle.std.proofs.lemmas.List.Elements.{Contains-push_cases}
use Rattle.receipt_core.specs.declared.distrust.Distrust.{Distrust}
use Rattle.hex.specs.Hex.{encode_lower}
use Rattle.fed_config.specs.Configuration.{AreDomains, config_id_of}
use Rattle.std.specs.List.{Contains}
use Rattle.bundle_doc.specs.Bundle.{Bundle, doc_id_of}
use Rattle.receipt_core.specs.Acceptance.{Meaning, IsMember}
use Rattle.closure_core.specs.Alike.{AreAlike}
use Rattle.closure_core.specs.AcceptedList.{document_cmp, document_of, IsAcceptedList, IsPendingCount}
use Rattle.closure_core.specs.Order.{document_total}
use Rattle.bundle_view.specs.Current.{IsCurrent}
use Rattle.bundle_view.specs.Conflicts.{AreConflicts, ReportedConflict, reported_conflict}
use Rattle.bundle_view.specs.Inside.Groups.{AddsConflicts}
use Rattle.bundle_view.specs.Inside.Sections.{HasReportHead, AddsSection, HasSections}
use Rattle.bundle_view.specs.Report.{Section, IsSection, IsReport, head_text, section_text, current_line}
use Rattle.bundle_view.specs.Report.{accepted_line, conflict_line, reported_distrust_line, records_of, document_text}
use Rattle.bundle_view.specs.Report.{sequence_text}
use Rattle.closure_core.proofs.ContainsFacts.{contains_first, contains_later}
use Rattle.bundle_view.proofs.RisingListFacts.{same_list, joined}
use Rattle.closure_core.proofs.AlikeFacts.{domains_alike, one_digest}
use Rattle.closure_core.proofs.MemberFacts.{alike_turned, member_alike}
use Rattle.bundle_view.proofs.CurrentFacts.{current_alike, one_current}
use Rattle.bundle_view.proofs.ConflictFacts.{conflicts_alike, one_list, one_domains}
use Rattle.bundle_view.proofs.GroupFacts.{conflicts_of}

-- a domain has one list of accepted documents
one_accepted : (m : Meaning) (domain : List ℕ) (ds es : List Bundle) → IsAcceptedList m domain ds → IsAcceptedList m domain es → ds ≡ es
one_accepted m domain ds es p q =
    same_list document_cmp document_total ds es p.rising q.rising (λ d h. q.complete d (p.sound d h))
    (λ d h. p.complete d (q.sound d h))

-- a section of a domain is one of an equal domain
moved : (m : Meaning) (s : Section) (domain : List ℕ) → s.domain ≡ domain → IsSection m s → IsSection m (record s { domain = domain })
moved m s domain e is = record {
  current = subst (λ (z : List ℕ). IsCurrent m z s.current) e is.current;
  accepted = subst (λ (z : List ℕ). IsAcceptedList m z s.accepted) e is.accepted;
  conflicts = subst (λ (z : List ℕ). AreConflicts m z s.conflicts) e is.conflicts;
}

-- a domain has one section
same_section : (m : Meaning) (s t : Section) → s.domain ≡ t.domain → IsSection m s → IsSection m t → s ≡ t
same_section m s t e p q =
    let here : IsSection m (record s { domain = t.domain }) = moved m s t.domain e p in
    let accepted : s.accepted ≡ t.accepted = one_accepted m t.domain s.accepted t.accepted here.accepted q.accepted in
    let current : s.current ≡ t.current = one_current m t.domain t.accepted s.current t.current q.accepted here.current q.current in
    let conflicts : s.conflicts ≡ t.conflicts = one_list (λ d. IsMember m (document_of t.domain d)) s.conflicts t.conflicts here.conflicts q.conflicts in
    λ i. record { domain = e i; current = current i; accepted = accepted i; conflicts = conflicts i }

-- equal domains have equal sections
same_sections : (m : Meaning) (xs ys : List Section) → map (λ (s : Section). s.domain) xs ≡ map (λ (s : Section). s.domain) ys
    → ((s : Section) → Contains xs s → IsSection m s) → ((s : Section) → Contains ys s → IsSection m s) → xs ≡ ys
same_sections m [] [] names p q = refl
same_sections m [] (y ∷ ys) names p q = absurd (let n = ap length names in omega arith)
same_sections m (x ∷ xs) [] names p q = absurd (let n = ap length names in omega arith)
same_sections m (x ∷ xs) (y ∷ ys) names p q =
    let first : x ≡ y = same_section m x y (ap (λ l. get_or l 0 []) names) (p x (contains_first x xs)) (q y (contains_first y ys)) in
    let rest : xs ≡ ys = same_sections m xs ys (ap (λ l. drop 1 l) names) (λ z h. p z (contains_later x xs z h)) (λ z h. q z (contains_later y ys z h)) in
    λ i. first i ∷ rest i

-- replicas that hold alike have the same sections
section_alike : (m n : Meaning) → AreAlike m n → (s : Section) → IsSection m s → IsSection n s
section_alike m n alike s is = record {
  current = current_alike m n alike s.domain s.current is.current;
  accepted = record {
    rising = is.accepted.rising;
    sound = λ d has. member_alike m n alike (document_of s.domain d) (is.accepted.sound d has);
    complete = λ d h. is.accepted.complete d (member_alike n m (alike_turned m n alike) (document_of s.domain d) h);
  };
  conflicts = conflicts_alike m n alike s.domain s.conflicts is.conflicts;
}

-- replicas that hold alike have one report, as `laws::one_view` says
pub one_report : (one other : Meaning) (s t : List ℕ) → AreAlike one other
    → ((n k : ℕ) → IsPendingCount one n → IsPendingCount other k → n ≡ k) → IsReport one s → IsReport other t → s ≡ t
one_report one other s t alike one_pending p q =
    let pending : p.pending ≡ q.pending = one_pending p.pending q.pending p.is_pending q.is_pending in
    let names = one_domains other.config _ _ (domains_alike one.config other.config alike.trust _ p.domains) q.domains in
    let sections : p.sections ≡ q.sections = same_sections other p.sections q.sections names
    (λ s has. section_alike one other alike s (p.each s has)) q.each in
    let digest : config_id_of one.config ≡ config_id_of other.config = one_digest one.config other.config alike.trust in
    p.is
    ∙ (λ i. (codes "config " ++
    (encode_lower (digest i) ++ (codes "\nreceipts " ++
    (decimal (length (alike.held i)) ++ (codes " pending " ++ (decimal (pending i) ++ codes "\n"))))))
    ++ flat_map (section_text (alike.records i)) (sections i))
    ∙ sym q.is

-- ---- lines

-- the parts that are written of a document are its text
pub document_made : (domain : List ℕ) (d : Bundle) (id : List ℕ) (rank : Option ℕ) (o x y z : List ℕ) → id ≡ doc_id_of domain d → rank ≡ d.rank
    → x ≡ o ++ encode_lower id → y ≡ x ++ codes " sequence " → z ≡ y ++ sequence_text rank → z ≡ o ++ document_text domain d
document_made domain d id rank o x y z e f p q r =
    joined o (encode_lower id) (codes " sequence " ++ sequence_text rank) x z p (joined x (codes " sequence ") (sequence_text rank) y z q r)
    ∙ (λ i. o ++ (encode_lower (e i) ++ (codes " sequence " ++ sequence_text (f i))))

-- the parts that are written of an accepted document are its line
pub accepted_made : (domain : List ℕ) (d : Bundle) (n : ℕ) (o x y z u v : List ℕ) → n ≡ length d.authorities
    → x ≡ o ++ codes "  accepted " → y ≡ x ++ document_text domain d → z ≡ y ++ codes " authorities " → u ≡ z ++ decimal n → v ≡ u ++ codes "\n"
    → v ≡ o ++ accepted_line domain d
accepted_made domain d n o x y z u v e p q r s t =
    joined o (codes "  accepted ") _ x v p
    (joined x (document_text domain d) _ y v q
    (joined y (codes " authorities ") _ z v r (joined z (decimal n) (codes "\n") u v s t)))
    ∙ (λ i. o ++ (codes "  accepted " ++ (document_text domain d ++ (codes " authorities " ++ (decimal (e i) ++ codes "\n")))))

-- the parts that are written of the head are its text
pub head_made : (m : Meaning) (pending : ℕ) (id : List ℕ) (n : ℕ) (o x y z u v w t : List ℕ) → id ≡ config_id_of m.config → n ≡ length m.held
    → x ≡ o ++ codes "config " → y ≡ x ++ encode_lower id → z ≡ y ++ codes "\nreceipts " → u ≡ z ++ decimal n
    → v ≡ u ++ codes " pending " → w ≡ v ++ decimal pending → t ≡ w ++ codes "\n"
    → t ≡ o ++ head_text m pending
head_made m pending id n o x y z u v w t e f p q r s a b k =
    joined o (codes "config ") _ x t p (joined x (encode_lower id) _ y t q (joined y (codes "\nreceipts ") _ z t r (joined z (decimal n) _ u t s
    (joined u (codes " pending ") _ v t a (joined v (decimal pending) (codes "\n") w t b k)))))
    ∙ (λ i. o ++
    (codes "config " ++
    (encode_lower (e i) ++ (codes "\nreceipts " ++
    (decimal (f i) ++ (codes " pending " ++ (decimal pending ++ codes "\n")))))))

-- what is left is the next item and what is left after it
next_at : {X : Type 0} (xs : List X) (k : ℕ) (x : X) → k < length xs → x ≡ get_or xs k x → drop k xs ≡ x ∷ drop (k + 1) xs
next_at xs k x low is = drop-cons xs k x low ∙ (λ i. sym is i ∷ drop (sym (add-one k) i) xs)

-- one more line was written: the step of the loops that write lines
pub lines_more : {X : Type 0} (f : X → List ℕ) (xs : List X) (k : ℕ) (x : X) → k < length xs → x ≡ get_or xs k x → (o n : List ℕ) → n ≡ o ++ f x
    → n ++ flat_map f (drop (k + 1) xs) ≡ o ++ flat_map f (drop k xs)
lines_more f xs k x low is o n e =
    ap (λ z. z ++ flat_map f (drop (k + 1) xs)) e ∙ append_assoc o (f x) (flat_map f (drop (k + 1) xs))
    ∙ ap (λ ys. o ++ flat_map f ys) (sym (next_at xs k x low is))

-- the same for lines of what items mean
pub stated_more : {X Y : Type 0} (v : X → Y) (f : Y → List ℕ) (xs : List X) (k : ℕ) (x : X) → k < length xs
    → x ≡ get_or xs k x → (o n : List ℕ) → n ≡ o ++ f (v x)
    → n ++ flat_map f (map v (drop (k + 1) xs)) ≡ o ++ flat_map f (map v (drop k xs))
stated_more v f xs k x low is o n e =
    ap (λ z. z ++ flat_map f (map v (drop (k + 1) xs))) e
    ∙ append_assoc o (f (v x)) (flat_map f (map v (drop (k + 1) xs)))
    ∙ ap (λ ys. o ++ flat_map f (map v ys)) (sym (next_at xs k x low is))

-- ---- sections

-- the parts that are written of a section are its text
section_made : (records : List Distrust) (s : Section) (o x y z u v : List ℕ)
    → x ≡ o ++ (codes "domain " ++ (s.domain ++ codes "\n")) → y ≡ x ++ current_line s.domain s.current
    → z ≡ y ++ flat_map (accepted_line s.domain) s.accepted
    → u ≡ z ++ flat_map conflict_line (map (reported_conflict s.domain) s.conflicts)
    → v ≡ u ++ flat_map reported_distrust_line (records_of s.domain records)
    → v ≡ o ++ section_text records s
section_made records s o x y z u v p q r a b =
    joined o (codes "domain " ++ (s.domain ++ codes "\n")) _ x v p
    (joined x (current_line s.domain s.current) _ y v q
    (joined y (flat_map (accepted_line s.domain) s.accepted) _ z v r
    (joined z (flat_map conflict_line (map (reported_conflict s.domain) s.conflicts)) (flat_map reported_distrust_line (records_of s.domain records)) u v a b)))
    ∙ ap (λ t. o ++ t) (append_assoc (codes "domain ") (s.domain ++ codes "\n") _ ∙ ap (λ t. codes "domain " ++ t) (append_assoc s.domain (codes "\n") _))

-- what `push_section` writes is the section of the domain
pub section_added : (m : Meaning) (domain : List ℕ) (documents : List Bundle) (current : Option Bundle)
    (none found : List ReportedConflict) (o x y z u v : List ℕ)
    → IsAcceptedList m domain documents → IsCurrent m domain current → none ≡ [] → AddsConflicts domain documents none found
    → x ≡ o ++ (codes "domain " ++ (domain ++ codes "\n")) → y ≡ x ++ current_line domain current → z ≡ y ++ flat_map (accepted_line domain) documents
    → u ≡ z ++ flat_map conflict_line found → v ≡ u ++ flat_map reported_distrust_line (records_of domain m.records) → AddsSection m domain o v
section_added m domain documents current none found o x y z u v list is_current empty adds p q r a b =
    let s : Section = record { domain = domain; current = current; accepted = documents; conflicts = adds.clashes } in
    let stated_all : found ≡ map (reported_conflict domain) adds.clashes = adds.now ∙ ap (λ t. t ++ map (reported_conflict domain) adds.clashes) empty in
    record {
      section = s;
      domain_is = refl;
      is = record { current = is_current; accepted = list; conflicts = conflicts_of m domain documents adds.clashes list adds.are };
      now = section_made m.records s o x y z u v p q r (a ∙ ap (λ t. z ++ flat_map conflict_line t) stated_all) b;
    }

-- after the head no section is written
pub sections_none : (m : Meaning) (old new : List ℕ) → old ≡ [] → HasReportHead m old new → HasSections m [] new
sections_none m old new empty head = record {
  pending = head.pending;
  is_pending = head.is_pending;
  sections = [];
  domains_are = refl;
  each = λ s h. absurd (omega (arith, h.1));
  now = head.now ∙ ap (λ t. t ++ head_text m head.pending) empty ∙ sym (append-nil (head_text m head.pending));
}

-- one more section was written: the step of the loop in `render`
pub sections_more : (m : Meaning) (domains : List (List ℕ)) (domain : List ℕ) (old new : List ℕ)
    → HasSections m domains old → AddsSection m domain old new → HasSections m (domains ++ domain ∷ []) new
sections_more m domains domain old new has adds = record {
  pending = has.pending;
  is_pending = has.is_pending;
  sections = has.sections ++ adds.section ∷ [];
  domains_are = map-append (λ (s : Section). s.domain) has.sections (adds.section ∷ []) ∙ (λ i. has.domains_are i ++ adds.domain_is i ∷ []);
  each = λ s h. elim (Contains-push_cases has.sections adds.section s h) [
    | inl old ↦ has.each s old
    | inr e ↦ subst (IsSection m) e adds.is
  ];
  now = adds.now ∙ ap (λ t. t ++ section_text m.records adds.section) has.now
      ∙ flat_map_more (section_text m.records) (head_text m has.pending) has.sections adds.section;
}

-- after the last domain the text is the report
pub sections_all : (m : Meaning) (domains : List (List ℕ)) (text : List ℕ) → AreDomains m.config domains → HasSections m domains text → IsReport m text
sections_all m domains text are has = record {
  pending = has.pending;
  is_pending = has.is_pending;
  sections = has.sections;
  domains = subst (AreDomains m.config) (sym has.domains_are) are;
  each = has.each;
  is = has.now;
}
