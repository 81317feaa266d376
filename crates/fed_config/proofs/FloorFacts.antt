-- The floors that the members of an object are.
use Rattle.std.proofs.Common.{◌≡◌, ℕ, ◌+◌, inl, inr, List, [], ◌∷◌, ◌++◌, String, Global, string_bytes, string_cmp, Less}
use Rattle.std.proofs.Common.{codes, Some, Ok, Err, Result, refl, sym, ap, ap₂, ◌∙◌}
use Rattle.std.specs.Result.{MatchResult}
use Rattle.std.specs.Ordering.{nat_cmp}
use Rattle.std.specs.Cmp.Lexicographic.{slice_cmp}
use Rattle.std.specs.List.{AllByRecursion}
use Rattle.std.specs.List.Sorted.{IsStrictlySortedBy}
use Rattle.std.specs.Map.{keys_of}
use Rattle.serde_json.specs.Data.{Data, object, number, unsigned, Members, no_members, member}
use Rattle.serde_json.specs.Find.{get}
use Rattle.serde_json.specs.View.{view, members_view}
use Rattle.serde_json.specs.declared.value.Value.{Value}
use Rattle.fed_config.specs.Configuration.{floor_cmp, floor_members}
use Rattle.fed_config.specs.Inside.Entries.{AreFloors}
use Rattle.fed_config.specs.Written.{HasCount, SaysFloors}
use Rattle.fed_config.specs.Reading.{Fails}
use Rattle.fed_config.specs.declared.error.ConfigError.{ConfigError}
use Rattle.fed_config.specs.declared.error.ConfigError.TheVariants.{Shape}
use Rattle.fed_config.specs.declared.floor.Floor.{Floor}

-- ---- one member after another

-- the members of these floors, and then others
abbrev pub before : List Floor → Members → Members
before [] others = others
before (f ∷ fs) others = member f.domain (number (unsigned f.sequence)) (before fs others)

-- with no others they are the members of these floors
before_none : (fs : List Floor) → before fs no_members ≡ floor_members fs
before_none [] = refl
before_none (f ∷ fs) = ap (member f.domain (number (unsigned f.sequence))) (before_none fs)

-- one more floor takes the first of the others
before_more : (fs : List Floor) (f : Floor) (others : Members)
    → before (fs ++ f ∷ []) others ≡ before fs (member f.domain (number (unsigned f.sequence)) others)
before_more [] f others = refl
before_more (g ∷ fs) f others = ap (member g.domain (number (unsigned g.sequence))) (before_more fs f others)

-- one more floor was read: the step of the loop in `read_members`
pub floor_next : (fs : List Floor) (f : Floor) (old new : List (String Global × Value)) (name : String Global) (value : Value) (all : Members)
    → before fs (members_view old) ≡ all → old ≡ (name, value) ∷ new → f.domain ≡ string_bytes name
    → view value ≡ number (unsigned f.sequence) → before (fs ++ f ∷ []) (members_view new) ≡ all
floor_next fs f old new name value all had steps domain is =
    before_more fs f (members_view new)
    ∙ ap₂ (λ n d. before fs (member n d (members_view new))) domain (sym is)
    ∙ ap (λ l. before fs (members_view l)) (sym steps) ∙ had

-- after the last member all were read
pub floor_end : (fs : List Floor) (left : List (String Global × Value)) (all : Members)
    → before fs (members_view left) ≡ all → left ≡ [] → all ≡ floor_members fs
floor_end fs left all had none = sym had ∙ ap (λ l. before fs (members_view l)) none ∙ before_none fs

-- each of the members of floors is a number
is_number : (fs gs : List Floor) (name : List ℕ) (d : Data) (others : Members) → before fs (member name d others) ≡ floor_members gs
    → (n : ℕ) × (d ≡ number (unsigned n))
is_number [] [] name d others e = absurd (cc)
is_number [] (g ∷ gs) name d others e = (g.sequence, cc)
is_number (f ∷ fs) [] name d others e = absurd (cc)
is_number (f ∷ fs) (g ∷ gs) name d others e = let rest : before fs (member name d others) ≡ floor_members gs = cc in is_number fs gs name d others rest

-- if the next member is not a number, the members are not those of floors
pub not_floors : (fs gs : List Floor) (old new : List (String Global × Value)) (name : String Global) (value : Value) (all : Members)
    → before fs (members_view old) ≡ all → old ≡ (name, value) ∷ new → ((n : ℕ) → view value ≡ number (unsigned n) → ⊥)
    → all ≡ floor_members gs → ⊥
not_floors fs gs old new name value all had steps none is =
    let found = is_number fs gs (string_bytes name) (view value) (members_view new) (ap (λ l. before fs (members_view l)) (sym steps) ∙ had ∙ is) in
    none found.0 found.1

-- what holds of each element and of one more holds of each with that one
pub each_push : {X : Type 0} (P : X → Type 0) (xs : List X) (x : X) → AllByRecursion P xs → P x → AllByRecursion P (xs ++ x ∷ [])
each_push P [] x each one = (one, tt)
each_push P (y ∷ xs) x each one = (each.0, each_push P xs x each.1 one)

-- ---- in order

-- a floor whose name is below others' is below these
below_names : (k : String Global) (f : Floor) (es : List (String Global × Value)) (fs : List Floor) → f.domain ≡ string_bytes k
    → members_view es ≡ floor_members fs → AllByRecursion (λ l. string_cmp k l ≡ Less) (keys_of es)
    → AllByRecursion (λ g. floor_cmp f g ≡ Less) fs
below_names k f [] [] same is below = tt
below_names k f [] (g ∷ fs) same is below = absurd (cc)
below_names k f (e ∷ es) [] same is below = tt
below_names k f (e ∷ es) (g ∷ fs) same is below =
    let name : string_bytes e.0 ≡ g.domain = cc in
    let rest : members_view es ≡ floor_members fs = cc in
    (ap₂ (slice_cmp nat_cmp) same (sym name) ∙ below.0, below_names k f es fs same rest below.1)

-- the floors of members in order are strictly sorted
pub rising_floors : (es : List (String Global × Value)) (fs : List Floor) → members_view es ≡ floor_members fs
    → IsStrictlySortedBy string_cmp (keys_of es) → IsStrictlySortedBy floor_cmp fs
unfolding IsStrictlySortedBy
rising_floors [] [] is rising = tt
rising_floors [] (g ∷ fs) is rising = absurd (cc)
rising_floors (e ∷ es) [] is rising = absurd (cc)
rising_floors (e ∷ es) (g ∷ fs) is rising =
    let name : g.domain ≡ string_bytes e.0 = cc in
    let rest : members_view es ≡ floor_members fs = cc in
    (below_names e.0 g es fs name rest rising.0, rising_floors es fs rest rising.1)

-- no floors are in order
pub are_none : AreFloors []
unfolding IsStrictlySortedBy
are_none = record { rising = tt; fit = tt }

-- ---- the member of a configuration

-- an object that has neither two members nor three has no floors in this form
pub no_floors : (tree : Data) → (HasCount tree 2 → ⊥) → (HasCount tree 3 → ⊥) → (fs : List Floor) → SaysFloors tree fs → ⊥
no_floors tree two three fs (inl h) = two h.0
no_floors tree two three fs (inr h) = three h.0

-- an object of three members says what its member `floors` says
pub said_floors : (tree : Data) (ms : Members) (fs : List Floor) → (HasCount tree 2 → ⊥) → get (codes "floors") tree ≡ Some (object ms)
    → SaysFloors tree fs → ms ≡ floor_members fs
said_floors tree ms fs two found (inl h) = absurd (two h.0)
said_floors tree ms fs two found (inr h) = let both : Some (object ms) ≡ Some (object (floor_members fs)) = sym found ∙ h.1 in cc

-- so what is read of the member is what the object says
pub floors_exit : {X : Type 0} (items : X → List Floor) (tree : Data) (ms : Members) (r : Result X ConfigError) → (HasCount tree 2 → ⊥) → HasCount tree 3
    → get (codes "floors") tree ≡ Some (object ms)
    → MatchResult r (λ v. ms ≡ floor_members (items v)) (Fails Shape ((fs : List Floor) × (ms ≡ floor_members fs)))
    → MatchResult r (λ v. SaysFloors tree (items v)) (Fails Shape ((fs : List Floor) × SaysFloors tree fs))
floors_exit items tree ms (Ok v) two three found h = inr (three, found ∙ ap (λ m. Some (object m)) h)
floors_exit items tree ms (Err e) two three found (inl is) = inl is
floors_exit items tree ms (Err e) two three found (inr f) = inr (f.0, λ p. f.1 (p.0, said_floors tree ms p.0 two found p.1))
