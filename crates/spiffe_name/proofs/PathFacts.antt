-- A path as far as it is read, and the one error that it may have.
use Rattle.std.proofs.Common.{◌≡◌, ◌≢◌, ℕ, ◌+◌, true, List, [], ◌∷◌, ◌++◌, length, refl, sym, ◌∙◌, ap, subst, arith}
use Rattle.std.proofs.lemmas.List.{append-nil, append_assoc, length-append}
use Rattle.std.proofs.lemmas.List.Concat.{flat_map-append}
use Rattle.std.proofs.lemmas.List.Elements.{All-from_recursion, recursion_from_All, All-push, All-weaker}
use Rattle.std.specs.List.{AllPass, AllByRecursion}
use Rattle.spiffe_name.specs.Bytes.{is_segment_byte, is_domain_byte, is_not_slash, EmptyOrSlash, SplitsAtSlash}
use Rattle.spiffe_name.specs.SpiffeId.{IsSegment, IsPath, FirstFault, FaultInSegment, path_of_segments}
use Rattle.spiffe_name.proofs.SlashFacts.{passes, same_split}
use Rattle.spiffe_name.proofs.FaultFacts.{one_segment_fault, no_segment_fault}

-- no byte of a segment is a slash
segment_byte : (b : ℕ) → is_segment_byte b ≡ true → is_not_slash b ≡ true
segment_byte b h = passes b (λ e. let k : is_segment_byte 47 ≡ true = subst (λ n. is_segment_byte n ≡ true) e h in cc)

-- no byte of a domain name is a slash
domain_byte : (b : ℕ) → is_domain_byte b ≡ true → is_not_slash b ≡ true
domain_byte b h = passes b (λ e. let k : is_domain_byte 47 ≡ true = subst (λ n. is_domain_byte n ≡ true) e h in cc)

-- a segment has no slash, so it ends at the next one
pub no_slash_in_segment : (segment : List ℕ) → IsSegment segment → AllPass is_not_slash segment
no_slash_in_segment segment good = All-weaker (λ b. is_segment_byte b ≡ true) (λ b. is_not_slash b ≡ true) segment_byte segment good.bytes

-- a domain name has no slash, so it ends at the next one
pub no_slash_in_domain : (domain : List ℕ) → AllPass is_domain_byte domain → AllPass is_not_slash domain
no_slash_in_domain domain all = All-weaker (λ b. is_domain_byte b ≡ true) (λ b. is_not_slash b ≡ true) domain_byte domain all

-- joined segments are empty or begin with a slash
pub EmptyOrSlash-joined : (segments : List (List ℕ)) → EmptyOrSlash (path_of_segments segments)
EmptyOrSlash-joined [] = tt
EmptyOrSlash-joined (s ∷ segments) = refl

-- a front of the path is segments, and this is the rest
pub record Reads (path rest : List ℕ) : Type 0 where
  pub front : List (List ℕ)
  pub each : AllByRecursion IsSegment front
  pub whole : path ≡ path_of_segments front ++ rest
  pub slash : EmptyOrSlash rest

-- one good segment more is read: the step of the loop in `fault_in_path`
pub Reads-more : (path rest after segment next : List ℕ) → Reads path rest → rest ≡ 47 ∷ after
    → SplitsAtSlash after segment next → IsSegment segment → Reads path next
Reads-more path rest after segment next r e split good = record {
  front = r.front ++ segment ∷ [];
  each = recursion_from_All IsSegment (r.front ++ segment ∷ []) (All-push IsSegment r.front segment (All-from_recursion IsSegment r.front r.each) good);
  whole =
      r.whole ∙ ap (λ x. path_of_segments r.front ++ x) (e ∙ ap (λ x. 47 ∷ x) split.whole)
      ∙ sym (append_assoc (path_of_segments r.front) (47 ∷ segment) next)
      ∙ ap (λ x. (path_of_segments r.front ++ (47 ∷ x)) ++ next) (sym (append-nil segment))
      ∙ ap (λ x. x ++ next) (sym (flat_map-append (λ (s : List ℕ). 47 ∷ s) r.front (segment ∷ [])));
  slash = split.slash;
}

-- a rest that is empty or begins with a slash, and does not begin with one, is empty
no_rest : (rest : List ℕ) → EmptyOrSlash rest → ((more : List ℕ) → rest ≢ 47 ∷ more) → rest ≡ []
no_rest [] slash none = refl
no_rest (b ∷ rest) slash none = absurd (none rest (ap (λ x. x ∷ rest) slash))

-- if no slash follows, all is read
pub IsPath-read : (path rest : List ℕ) → Reads path rest → ((more : List ℕ) → rest ≢ 47 ∷ more) → IsPath path
IsPath-read path rest r none = record {
  segments = r.front;
  each = r.each;
  whole =
      r.whole ∙ ap (λ x. path_of_segments r.front ++ x) (no_rest rest r.slash none)
      ∙ append-nil (path_of_segments r.front);
}

-- a rest that is empty or begins with a slash is still so with segments in front
EmptyOrSlash-front : (segments : List (List ℕ)) (rest : List ℕ) → EmptyOrSlash rest → EmptyOrSlash (path_of_segments segments ++ rest)
EmptyOrSlash-front [] rest h = h
EmptyOrSlash-front (s ∷ segments) rest h = refl

-- the next segments of two equal paths are equal
next_segment : (s : List ℕ) (front : List (List ℕ)) (x segment rest : List ℕ) → AllPass is_not_slash s → EmptyOrSlash x
    → AllPass is_not_slash segment → EmptyOrSlash rest
    → path_of_segments (s ∷ front) ++ x ≡ 47 ∷ (segment ++ rest) → (s ≡ segment) × (path_of_segments front ++ x ≡ rest)
next_segment s front x segment rest a b c d e =
    let tails : (s ++ path_of_segments front) ++ x ≡ segment ++ rest = cc in
    same_split s (path_of_segments front ++ x) segment rest a (EmptyOrSlash-front front x b) c d (sym (append_assoc s (path_of_segments front) x) ∙ tails)

-- the first errors of two equal paths are at one place
faults_meet : (front other : List (List ℕ)) → AllByRecursion IsSegment front → AllByRecursion IsSegment other
    → (segment rest : List ℕ) → AllPass is_not_slash segment → EmptyOrSlash rest → (m : ℕ) → FaultInSegment segment m
    → (apart more : List ℕ) → AllPass is_not_slash apart → EmptyOrSlash more → (n : ℕ) → FaultInSegment apart n
    → path_of_segments front ++ (47 ∷ (segment ++ rest)) ≡ path_of_segments other ++ (47 ∷ (apart ++ more))
    → length (path_of_segments front) + (1 + m) ≡ length (path_of_segments other) + (1 + n)
faults_meet [] [] p q segment rest a b m f apart more c d n g e =
    let same = same_split segment rest apart more a b c d (cc) in
    ap (λ k. 0 + (1 + k)) (one_segment_fault apart m n (subst (λ s. FaultInSegment s m) same.0 f) g)
faults_meet [] (t ∷ other) p q segment rest a b m f apart more c d n g e =
    let same = next_segment t other (47 ∷ (apart ++ more)) segment rest (no_slash_in_segment t q.0) refl a b (sym e) in
    absurd (no_segment_fault segment m (subst IsSegment same.0 q.0) f)
faults_meet (s ∷ front) [] p q segment rest a b m f apart more c d n g e =
    let same = next_segment s front (47 ∷ (segment ++ rest)) apart more (no_slash_in_segment s p.0) refl c d e in
    absurd (no_segment_fault apart n (subst IsSegment same.0 p.0) g)
faults_meet (s ∷ front) (t ∷ other) p q segment rest a b m f apart more c d n g e =
    let same = next_segment s front (47 ∷ (segment ++ rest)) t (path_of_segments other ++ (47 ∷ (apart ++ more)))
    (no_slash_in_segment s p.0) refl (no_slash_in_segment t q.0)
    (EmptyOrSlash-front other (47 ∷ (apart ++ more)) refl)
    (e ∙ append_assoc (47 ∷ t) (path_of_segments other) (47 ∷ (apart ++ more))) in
    let rests = faults_meet front other p.1 q.1 segment rest a b m f apart more c d n g same.1 in
    let fronts = ap length same.0 in
    rw (length-append s (path_of_segments front), length-append t (path_of_segments other)) (omega arith)

-- a path has one first error at most
pub one_fault : (path : List ℕ) (m n : ℕ) → FirstFault path m → FirstFault path n → m ≡ n
one_fault path m n f g = f.counted ∙ faults_meet f.front g.front f.each g.each f.segment f.rest f.no_slash f.slash
    f.offset f.fault g.segment g.rest g.no_slash g.slash g.offset g.fault (sym f.whole ∙ g.whole) ∙ sym g.counted

-- segments joined to a path have no error
fault_within : (front segments : List (List ℕ)) → AllByRecursion IsSegment front → AllByRecursion IsSegment segments
    → (segment rest : List ℕ) → AllPass is_not_slash segment → EmptyOrSlash rest → (m : ℕ) → FaultInSegment segment m
    → path_of_segments front ++ (47 ∷ (segment ++ rest)) ≡ path_of_segments segments → ⊥
fault_within [] [] p q segment rest a b m f e = cc
fault_within (s ∷ front) [] p q segment rest a b m f e = cc
fault_within [] (t ∷ segments) p q segment rest a b m f e =
    let same = same_split segment rest t (path_of_segments segments) a b (no_slash_in_segment t q.0) (EmptyOrSlash-joined segments) (cc) in
    no_segment_fault segment m (subst IsSegment (sym same.0) q.0) f
fault_within (s ∷ front) (t ∷ segments) p q segment rest a b m f e =
    let same = next_segment s front (47 ∷ (segment ++ rest)) t (path_of_segments segments) (no_slash_in_segment s p.0)
    refl (no_slash_in_segment t q.0) (EmptyOrSlash-joined segments) e in
    fault_within front segments p.1 q.1 segment rest a b m f same.1

-- a path has no error, so no ID is refused for its path
pub no_fault : (path : List ℕ) (n : ℕ) → IsPath path → FirstFault path n → ⊥
no_fault path n p f = fault_within f.front p.segments f.each p.each f.segment f.rest f.no_slash f.slash f.offset f.fault (sym f.whole ∙ p.whole)

-- a path is empty or begins with a slash, so the domain ends before it
pub EmptyOrSlash-path : (path : List ℕ) → IsPath path → EmptyOrSlash path
EmptyOrSlash-path path p = subst EmptyOrSlash (sym p.whole) (EmptyOrSlash-joined p.segments)
