-- What a direct reader of canonical texts has read, as parts of the text.
use Rattle.std.specs.Prelude.{◌≡◌, ℕ, ◌++◌, List, Bool, false, Option}
use Rattle.std.specs.List.{AllByRecursion}
use Rattle.std.specs.List.Sorted.{IsStrictlySortedBy}
use Rattle.std.specs.Ordering.{nat_cmp}
use Rattle.std.specs.Cmp.Lexicographic.{slice_cmp}
use Rattle.std.specs.declared.cmp.Ordering.TheVariants.{Less}
use Rattle.serde_json.specs.Written.{comma_if, items_text}
use Rattle.json.specs.Print.{escape}
use Rattle.jwk_set.specs.Element.{IsAuthority}
use Rattle.jwk_set.specs.declared.authority.Authority.{Authority}
use Rattle.bundle_doc.specs.Bundle.{IsBundle, authority_text, canonical_text, text_cmp, trees}
use Rattle.bundle_doc.specs.Entries.{FitsWord, numbers_text}

-- the text is a front that needs no escape, and the rest
pub record SplitsPlain (text front rest : List ℕ) : Type 0 where
  pub whole : text ≡ front ++ rest
  pub plain : escape front ≡ front

-- the text is a front that needs no escape, the label, and the rest
pub record ReadsText (text front label rest : List ℕ) : Type 0 where
  pub whole : text ≡ front ++ (label ++ rest)
  pub plain : escape front ≡ front

-- the text is that of the authority, and the rest
pub record ReadsAuthority (text : List ℕ) (a : Authority) (rest : List ℕ) : Type 0 where
  pub whole : text ≡ authority_text a ++ rest
  pub form : IsAuthority a

-- the text is the authority's own, perhaps after a comma, and the rest; and the authority is above
-- the last one
pub record ReadsNext (text : List ℕ) (later : Bool) (last : List ℕ) (a : Authority)
    (own rest : List ℕ) : Type 0 where
  pub whole : text ≡ comma_if later ++ (authority_text a ++ rest)
  pub form : IsAuthority a
  pub own_is : own ≡ authority_text a
  pub above : slice_cmp nat_cmp last (authority_text a) ≡ Less

-- the text is that of these authorities up to the closing bracket, and the rest
pub record ReadsKeys (text : List ℕ) (authorities : List Authority) (rest : List ℕ) : Type 0 where
  pub whole : text ≡ items_text false (trees authorities) ++ rest
  pub forms : AllByRecursion IsAuthority authorities
  pub rising : IsStrictlySortedBy text_cmp authorities

-- the text is that of these numbers
pub record ReadsNumbers (text : List ℕ) (hint rank : Option ℕ) : Type 0 where
  pub whole : text ≡ numbers_text hint rank
  pub hint_fits : FitsWord hint
  pub rank_fits : FitsWord rank

-- the text is the canonical one of a bundle of these parts
pub record ReadsBundle (text : List ℕ) (authorities : List Authority)
    (hint rank : Option ℕ) : Type 0 where
  pub whole : text ≡ canonical_text (record { authorities = authorities; rank = rank; hint = hint })
  pub is : IsBundle (record { authorities = authorities; rank = rank; hint = hint })
