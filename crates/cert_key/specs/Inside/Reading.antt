-- Reading from left to right
use Rattle.std.specs.Prelude.{◌≡◌, ℕ, ◌+◌, ◌-◌, ◌*◌, List, [], ◌∷◌, length, take, drop, Option}
use Rattle.std.specs.Prelude.{Some, None, nat_eq, nat_lt, if◌then◌else◌}
use Rattle.cert_key.specs.declared.der.Element.{Element}
pub use Rattle.cert_key.specs.Step.{◌>>=◌}

-- what a function returned, seen by view, is what reading gives
abbrev pub IsReadAs : {X Y : Type 0} → (X → Y) → Option X → Option Y → Type 0
IsReadAs view (Some x) read = read ≡ Some (view x)
IsReadAs view None read = read ≡ None

-- ---- elements

unfoldable pub one_at : List ℕ → Option (ℕ × List ℕ)
one_at [] = None
one_at (a ∷ bytes) = if nat_lt a 128 then None else Some (a, bytes)

unfoldable pub two_at : List ℕ → Option (ℕ × List ℕ)
two_at [] = None
two_at (a ∷ []) = None
two_at (a ∷ b ∷ bytes) = if nat_lt (a * 256 + b) 256 then None else Some (a * 256 + b, bytes)

unfoldable pub three_at : List ℕ → Option (ℕ × List ℕ)
three_at [] = None
three_at (a ∷ []) = None
three_at (a ∷ b ∷ []) = None
three_at (a ∷ b ∷ c ∷ bytes) =
    if nat_lt (a * 65_536 + b * 256 + c) 65_536 then None
    else Some (a * 65_536 + b * 256 + c, bytes)

unfoldable pub length_at : List ℕ → Option (ℕ × List ℕ)
length_at [] = None
length_at (n ∷ bytes) =
    if nat_lt n 128 then Some (n, bytes)
    else (if nat_eq n 129 then one_at bytes
    else (if nat_eq n 130 then two_at bytes
    else (if nat_eq n 131 then three_at bytes else None)))

pub record Found : Type 0 where
  pub tag : ℕ
  pub whole : List ℕ
  pub content : List ℕ
  pub after : List ℕ

abbrev pub view : Element → Found
view e =
    record { tag = e.tag; whole = e.whole.now; content = e.content.now; after = e.after.now }

-- an element whose tag and length are read
abbrev pub found : ℕ → List ℕ → ℕ × List ℕ → Option Found
found tag bytes l =
    if nat_lt (length l.1) l.0 then None
    else Some (record {
      tag = tag;
      whole = take (length (tag ∷ bytes) - length (drop l.0 l.1)) (tag ∷ bytes);
      content = take l.0 l.1;
      after = drop l.0 l.1;
    })

unfoldable pub element_at : List ℕ → Option Found
element_at [] = None
element_at (tag ∷ bytes) = length_at bytes >>= found tag bytes

abbrev pub with_tag : ℕ → Found → Option Found
with_tag tag e = if nat_eq e.tag tag then Some e else None

unfoldable pub field_at : ℕ → List ℕ → Option Found
field_at tag bytes = element_at bytes >>= with_tag tag
