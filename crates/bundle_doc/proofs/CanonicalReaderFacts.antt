-- Keys read one after another from their canonical texts.
use Rattle.std.proofs.Common.{◌≡◌, ℕ, ◌+◌, ◌-◌, ◌<◌, ◌==◌, List, [], ◌∷◌, ◌++◌, Bool, true, false, not, length, take}
use Rattle.std.proofs.Common.{Less, Ordering, Option, codes, sym, ap, ◌∙◌, subst, arith, append-nil, append_assoc}
use Rattle.std.proofs.Common.{length-append}
use Rattle.std.specs.Ordering.{nat_cmp}
use Rattle.std.specs.Cmp.Lexicographic.{slice_cmp}
use Rattle.std.specs.List.{AllByRecursion}
use Rattle.std.specs.List.Sorted.{IsStrictlySortedBy}
use Rattle.std.proofs.lemmas.Cmp.{nat_list_cmp_total}
use Rattle.std.proofs.lemmas.Bool.{ne_eqb}
use Rattle.std.proofs.lemmas.List.{take_at}
use Rattle.serde_json.specs.Written.{comma_if, items_text}
use Rattle.jwk_set.specs.Element.{IsAuthority}
use Rattle.jwk_set.specs.declared.authority.Authority.{Authority}
use Rattle.jwk_set.specs.declared.authority.Authority.TheVariants.{X509, Jwt}
use Rattle.jwk_set.specs.declared.authority.PublicKey.TheVariants.{Rsa, Ec}
use Rattle.bundle_doc.specs.Bundle.{authority_text, text_cmp, trees}
use Rattle.bundle_doc.specs.Entries.{numbers_text}
use Rattle.bundle_doc.specs.CanonicalReader.{ReadsAuthority, ReadsNext, ReadsKeys, ReadsNumbers, ReadsBundle}
use Rattle.bundle_doc.proofs.EntryFacts.{canonical_text-parts}

-- a text cut by the length of its rest is its front
own_text : (t front rest : List ℕ) → t ≡ front ++ rest → take (length t - length rest) t ≡ front
own_text t front rest e = rw e (take_at front rest (length (front ++ rest) - length rest) (omega (arith, length-append front rest)))

-- an authority that was read is the one of its own text, without the rest
pub ReadsAuthority-alone : (text rest own : List ℕ) (a : Authority) → ReadsAuthority text a rest
    → own ≡ take (length text - length rest) text → ReadsAuthority own a []
ReadsAuthority-alone text rest own a reads cut = record {
  whole = cut ∙ own_text text (authority_text a) rest reads.whole ∙ sym (append-nil (authority_text a));
  form = reads.form;
}

-- an authority that was read, with a text above the last one, is the next one
pub ReadsNext-read : (text t b rest last : List ℕ) (later : Bool) (a : Authority) (o : Ordering) → b ≡ t
    → text ≡ comma_if later ++ t → ReadsAuthority t a rest
    → o ≡ slice_cmp nat_cmp last (take (length t - length rest) b) → o ≡ Less
    → ReadsNext text later last a (take (length t - length rest) b) rest
ReadsNext-read text t b rest last later a o same head reads compared less =
    let own : take (length t - length rest) b ≡ authority_text a = ap (take (length t - length rest)) same ∙ own_text t (authority_text a) rest reads.whole in
    record {
      whole = head ∙ ap (λ x. comma_if later ++ x) reads.whole;
      form = reads.form;
      own_is = own;
      above = subst (λ x. slice_cmp nat_cmp last x ≡ Less) own (sym compared ∙ less);
    }

-- ---- one key after another

-- What was read is in order, and below what is above the last one. And with any keys that the rest may be, it is the
-- text.
pub record Keeps (text : List ℕ) (authorities : List Authority) (count : ℕ) (last rest : List ℕ) : Type 0 where
  pub joined : (more : List Authority) (end : List ℕ) → rest ≡ items_text (not (count == 0)) (trees more) ++ end
      → text ≡ items_text false (trees (authorities ++ more)) ++ end
  pub forms : AllByRecursion IsAuthority authorities
  pub rising : IsStrictlySortedBy text_cmp authorities
  pub below : (t : List ℕ) → slice_cmp nat_cmp last t ≡ Less → AllByRecursion (λ b. slice_cmp nat_cmp (authority_text b) t ≡ Less) authorities

-- before the first authority all of the text is left
pub Keeps-init : (text : List ℕ) (authorities : List Authority) (count : ℕ) (last : List ℕ) → authorities ≡ []
    → count ≡ 0 → Keeps text authorities count last text
unfolding IsStrictlySortedBy
Keeps-init text authorities count last none zero = rw (none, zero) (record { joined = λ more end e. e; forms = tt; rising = tt; below = λ t less. tt })

-- a property of all authorities and of one more holds with that one at the end
push_all : (P : Authority → Type 0) (xs : List Authority) (x : Authority) → AllByRecursion P xs → P x → AllByRecursion P (xs ++ x ∷ [])
push_all P [] x h p = (p, tt)
push_all P (y ∷ xs) x h p = (h.0, push_all P xs x h.1 p)

-- a strictly sorted list is still so with an authority above all of it at the end
push_rising : (xs : List Authority) (x : Authority) → IsStrictlySortedBy text_cmp xs
    → AllByRecursion (λ b. text_cmp b x ≡ Less) xs → IsStrictlySortedBy text_cmp (xs ++ x ∷ [])
unfolding IsStrictlySortedBy
push_rising [] x h below = (tt, tt)
push_rising (y ∷ xs) x h below = (push_all (λ b. text_cmp y b ≡ Less) xs x h.0 below.0, push_rising xs x h.1 below.1)

-- after one more the count is not zero, so a comma comes before the next one
counted : (n : ℕ) → not ((n + 1) == 0) ≡ true
counted n = ap not (ne_eqb (n + 1) 0 (λ e. omega arith))

-- one authority and the text of others is the text of all of them
next_text : (later : Bool) (a : Authority) (more : List Authority) (rest behind end : List ℕ)
    → rest ≡ comma_if later ++ (authority_text a ++ behind) → behind ≡ items_text true (trees more) ++ end
    → rest ≡ items_text later (trees (a ∷ more)) ++ end
next_text later a more rest behind end whole e =
    whole
    ∙ ap (λ x. comma_if later ++ (authority_text a ++ x)) e
    ∙ ap (λ x. comma_if later ++ x) (sym (append_assoc (authority_text a) (items_text true (trees more)) end))
    ∙ sym (append_assoc (comma_if later) (authority_text a ++ items_text true (trees more)) end)

-- one more authority was read: the step of the loop in `read_keys`
pub Keeps-next : (text : List ℕ) (old new : List Authority) (n m : ℕ) (last rest : List ℕ) (later : Bool) (a : Authority) (own behind : List ℕ)
    → Keeps text old n last rest → ReadsNext rest later last a own behind → later ≡ not (n == 0) → new ≡ old ++ a ∷ [] → m ≡ n + 1 → Keeps text new m own behind
Keeps-next text old new n m last rest later a own behind k r is_later pushed count =
    let next : rest ≡ comma_if (not (n == 0)) ++ (authority_text a ++ behind) =
    subst (λ b. rest ≡ comma_if b ++ (authority_text a ++ behind)) is_later r.whole in
    let now_later : not (m == 0) ≡ true = ap (λ x. not (x == 0)) count ∙ counted n in
    rw pushed (record {
      joined = λ more end e.
          k.joined (a ∷ more) end (next_text (not (n == 0)) a more rest behind end next (subst (λ b. behind ≡ items_text b (trees more) ++ end) now_later e))
          ∙ ap (λ l. items_text false (trees l) ++ end) (sym (append_assoc old (a ∷ []) more));
      forms = push_all IsAuthority old a k.forms r.form;
      rising = push_rising old a k.rising (k.below (authority_text a) r.above);
      below = λ t less.
          let less_own : slice_cmp nat_cmp (authority_text a) t ≡ Less = subst (λ x. slice_cmp nat_cmp x t ≡ Less) r.own_is less in
          push_all (λ b. slice_cmp nat_cmp (authority_text b) t ≡ Less) old a
          (k.below t (nat_list_cmp_total.trans last (authority_text a) t r.above less_own)) less_own;
    })

-- at the closing bracket all authorities of the array are read
pub Keeps-end : (text : List ℕ) (authorities : List Authority) (n : ℕ) (last rest end : List ℕ)
    → Keeps text authorities n last rest → rest ≡ 93 ∷ end → ReadsKeys text authorities end
Keeps-end text authorities n last rest end k e = record {
  whole = k.joined [] end e ∙ ap (λ l. items_text false (trees l) ++ end) (append-nil authorities);
  forms = k.forms;
  rising = k.rising;
}

-- ---- each key takes some of the text

-- the text of an authority is not empty
some_text : (a : Authority) → 0 < length (authority_text a)
some_text (X509 (Rsa n e) der) = omega arith
some_text (X509 (Ec crv x y) der) = omega arith
some_text (Jwt kid (Rsa n e)) = omega arith
some_text (Jwt kid (Ec crv x y)) = omega arith

-- each authority that is read leaves less of the text, so the loop ends
pub shorter : (text last own rest : List ℕ) (later : Bool) (a : Authority) → ReadsNext text later last a own rest → length rest < length text
shorter text last own rest later a r =
    let long : length text ≡ length (comma_if later) + length (authority_text a ++ rest) =
    ap length r.whole ∙ length-append (comma_if later) (authority_text a ++ rest) in
    let some = some_text a in
    omega (arith, length-append (authority_text a) rest)

-- ---- all of it

-- the elements and the numbers together are the canonical text of a bundle
pub ReadsBundle-parts : (text keys rest : List ℕ) (authorities : List Authority) (hint rank : Option ℕ)
    → text ≡ codes "{\"keys\":[" ++ keys → ReadsKeys keys authorities rest → ReadsNumbers rest hint rank
    → ReadsBundle text authorities hint rank
ReadsBundle-parts text keys rest authorities hint rank head k n = record {
  whole =
      head
      ∙ ap (λ t. codes "{\"keys\":[" ++ t) (k.whole ∙ ap (λ t. items_text false (trees authorities) ++ t) n.whole)
      ∙ sym (append_assoc (codes "{\"keys\":[") (items_text false (trees authorities)) (numbers_text hint rank))
      ∙ sym (canonical_text-parts (record { authorities = authorities; rank = rank; hint = hint }));
  is = record { rising = k.rising; forms = k.forms; rank = n.rank_fits; hint = n.hint_fits };
}
