-- Finite sets, kept as lists that rise strictly: so equal sets are equal lists.
use Rattle.std.specs.Prelude.{List, [], ◌∷◌, fold}
use Rattle.std.specs.declared.cmp.Ordering.{Ordering}
use Rattle.std.specs.declared.cmp.Ordering.TheVariants.{Less, Equal, Greater}

-- the head goes before the rest, is the same as the rest's head, or goes after it
abbrev pub placed : {A : Type 0} → Ordering → A → A → List A → List A → List A
placed Less item head rest longer = item ∷ head ∷ rest
placed Equal item head rest longer = head ∷ rest
placed Greater item head rest longer = head ∷ longer

-- the set with the item; one that is there already remains
abbrev pub with_item : {A : Type 0} → (A → A → Ordering) → A → List A → List A
with_item cmp item [] = item ∷ []
with_item cmp item (head ∷ rest) = placed (cmp item head) item head rest (with_item cmp item rest)

-- the set with all these items: the join of two sets if these are one
abbrev pub with_items : {A : Type 0} → (A → A → Ordering) → List A → List A → List A
with_items cmp items set = fold (λ old item. with_item cmp item old) set items
