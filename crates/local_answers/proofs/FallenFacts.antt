-- Counts of domains, and lines of what fell, one after another.
use Rattle.std.proofs.Common.{◌≡◌, ℕ, List, [], ◌∷◌, ◌++◌, map, refl, sym, ap, ◌∙◌, subst, append_assoc, append-nil}
use Rattle.std.specs.List.{AllByRecursion}
use Rattle.std.proofs.lemmas.List.{map-append}
use Rattle.fed_config.specs.Configuration.{AreDomains}
use Rattle.receipt_core.specs.Acceptance.{Meaning}
use Rattle.replica_core.proofs.RisingListFacts.{all_append}
use Rattle.local_answers.specs.Fallen.{AreAcceptedCounts, IsAcceptedCount, IsCountedDomain, SaysFell, fallen_line}
use Rattle.local_answers.specs.declared.fallen_counts.DomainCount.{DomainCount}

-- These domains are counted.
pub record CountsSoFar (m : Meaning) (domains : List (List ℕ)) (counts : List DomainCount) : Type 0 where
  pub of : map (λ (c : DomainCount). c.domain) counts ≡ domains
  pub each : AllByRecursion (IsCountedDomain m) counts

pub counts_begin : (m : Meaning) (counts : List DomainCount) → counts ≡ [] → CountsSoFar m [] counts
counts_begin m counts none = record {
  of = ap (map (λ (c : DomainCount). c.domain)) none;
  each = subst (AllByRecursion (IsCountedDomain m)) (sym none) tt;
}

-- one more is
pub counts_more : (m : Meaning) (domains : List (List ℕ)) (domain : List ℕ) (old new : List DomainCount) (c : DomainCount)
    → CountsSoFar m domains old → c.domain ≡ domain → IsCountedDomain m c → new ≡ old ++ c ∷ [] → CountsSoFar m (domains ++ domain ∷ []) new
counts_more m domains domain old new c so_far is counted grown = record {
  of = ap (map (λ (x : DomainCount). x.domain)) grown ∙ map-append (λ (x : DomainCount). x.domain) old (c ∷ [])
      ∙ (λ i. so_far.of i ++ is i ∷ []);
  each = subst (AllByRecursion (IsCountedDomain m)) (sym grown) (all_append (IsCountedDomain m) old (c ∷ []) so_far.each (counted, tt));
}

-- all are
pub counts_all : (m : Meaning) (domains : List (List ℕ)) (counts : List DomainCount) → AreDomains m.config domains → CountsSoFar m domains counts
    → AreAcceptedCounts m counts
counts_all m domains counts are so_far = record { domains = subst (AreDomains m.config) (sym so_far.of) are; each = so_far.each }

-- what fell in one more domain
pub fell_more : (m : Meaning) (before : List DomainCount) (c : DomainCount) (after : ℕ) (old new : List ℕ) → SaysFell m before old
    → IsAcceptedCount m c.domain after → new ≡ old ++ fallen_line c.domain c.accepted after → SaysFell m (before ++ c ∷ []) new
fell_more m [] c after old new none counted grown = record {
  after = after;
  counted = counted;
  others = [];
  are = refl;
  is = grown ∙ ap (λ t. t ++ fallen_line c.domain c.accepted after) none ∙ sym (append-nil (fallen_line c.domain c.accepted after));
}
fell_more m (b ∷ before) c after old new fell counted grown = record {
  after = fell.after;
  counted = fell.counted;
  others = fell.others ++ fallen_line c.domain c.accepted after;
  are = fell_more m before c after fell.others (fell.others ++ fallen_line c.domain c.accepted after) fell.are counted refl;
  is = grown ∙ ap (λ t. t ++ fallen_line c.domain c.accepted after) fell.is
      ∙ append_assoc (fallen_line b.domain b.accepted fell.after) fell.others (fallen_line c.domain c.accepted after);
}
