-- The compact text of a plain value is read as that value.
use Rattle.std.proofs.Common.{◌≡◌, ℕ, suc, ◌≤◌, List, [], ◌∷◌, Bool, true, false, max, Some, option_map}
use Rattle.std.proofs.Common.{option_and_then, Greater, refl, sym, ap, ap₂, ◌∙◌, append-nil}
use Rattle.std.specs.Prelude.{⊤}
use Rattle.std.specs.Ordering.{nat_cmp, ordering_reverse}
use Rattle.std.specs.Cmp.Lexicographic.{slice_cmp}
use Rattle.std.specs.Str.{IsUtf8}
use Rattle.std.proofs.lemmas.Cmp.{nat_list_cmp_total}
use Rattle.std.proofs.lemmas.Str.{IsUtf8-append, IsUtf8-nil, IsUtf8-from_ascii}
use Rattle.std.proofs.lemmas.Fmt.{IsAscii-decimal}
use Rattle.json.specs.Json as json
use Rattle.json.specs.Lex.{tokens}
use Rattle.json.specs.Tree as tree
use Rattle.json.proofs.Printed.Tokens.{tokens-print}
use Rattle.json.proofs.Printed.Trees.{value-json_tokens, ArePrintable-json_tokens}
use Rattle.json.proofs.Printed.Decimals.{IsNumber-decimal}
use Rattle.json.proofs.Printed.Utf8.{are_ascii, IsUtf8-are_ascii, IsUtf8-quoted, IsUtf8-boolean}
use Rattle.serde_json.specs.Data.{unsigned, negative, float, Data, null, boolean, number, string, array, object, Items}
use Rattle.serde_json.specs.Data.{no_items, item, Members, no_members, member, put, depth, items_depth, members_depth}
use Rattle.serde_json.specs.Read.{read, of_json, of_items, of_members, max_depth}
use Rattle.serde_json.specs.Written.{outline, items_outline, members_outline, compact_text, items_text, members_text}
use Rattle.serde_json.specs.Written.{comma_if, has_float, items_have_float, members_have_float}
use Rattle.serde_json.proofs.Texts.{print-outline}
use Rattle.serde_json.proofs.Numbers.{number_of-decimal}
use Rattle.jwk_set.specs.Json.{IsJson, IsBelowNames, IsPlain, ArePlain, HasPlainMembers}

-- ---- the depth of the outline

mutual
  -- a value nests as deep as its tree of tokens, so the reader's limit on depth is one on the value
  depth-outline : (d : Data) → tree.depth (outline d) ≡ depth d
  depth-outline null = refl
  depth-outline (boolean b) = refl
  depth-outline (number n) = refl
  depth-outline (string s) = refl
  depth-outline (array ds) = ap (λ n. suc n) (items_depth-outline ds)
  depth-outline (object ms) = ap (λ n. suc n) (members_depth-outline ms)

  -- the same for the items of an array
  items_depth-outline : (ds : Items) → tree.items_depth (items_outline ds) ≡ items_depth ds
  items_depth-outline no_items = refl
  items_depth-outline (item d ds) = ap₂ (λ a b. max a b) (depth-outline d) (items_depth-outline ds)

  -- the same for the members of an object
  members_depth-outline : (ms : Members) → tree.members_depth (members_outline ms) ≡ members_depth ms
  members_depth-outline no_members = refl
  members_depth-outline (member k d ms) = ap₂ (λ a b. max a b) (depth-outline d) (members_depth-outline ms)

-- ---- its numbers can be printed

mutual
  -- the numbers of a plain value are written as JSON numbers, so its tree can be printed
  HasNumbers-outline : (d : Data) → IsPlain d → tree.HasNumbers (outline d)
  HasNumbers-outline null h = tt
  HasNumbers-outline (boolean b) h = tt
  HasNumbers-outline (number (unsigned n)) h = IsNumber-decimal n h
  HasNumbers-outline (number (negative z)) h = absurd h
  HasNumbers-outline (number (float x)) h = absurd h
  HasNumbers-outline (string s) h = tt
  HasNumbers-outline (array ds) h = ItemsHaveNumbers-outline ds h
  HasNumbers-outline (object ms) h = MembersHaveNumbers-outline ms h

  -- the same for the items of an array
  ItemsHaveNumbers-outline : (ds : Items) → ArePlain ds → tree.ItemsHaveNumbers (items_outline ds)
  ItemsHaveNumbers-outline no_items h = tt
  ItemsHaveNumbers-outline (item d ds) h = (HasNumbers-outline d h.0, ItemsHaveNumbers-outline ds h.1)

  -- the same for the members of an object
  MembersHaveNumbers-outline : (ms : Members) → HasPlainMembers ms → tree.MembersHaveNumbers (members_outline ms)
  MembersHaveNumbers-outline no_members h = tt
  MembersHaveNumbers-outline (member k d ms) h = (HasNumbers-outline d h.1, MembersHaveNumbers-outline ms h.3)

-- ---- members that come in order go last

-- the members of one list and then of the other
abbrev join : Members → Members → Members
join no_members ms = ms
join (member k d found) ms = member k d (join found ms)

-- joined with none, the members are as they were
join_nil : (found : Members) → join found no_members ≡ found
join_nil no_members = refl
join_nil (member k d found) = ap (member k d) (join_nil found)

-- each name that was found is below each name that comes
abbrev Apart : Members → Members → Type 0
Apart no_members ms = ⊤
Apart (member k d found) ms = IsBelowNames k ms × Apart found ms

-- a name above all that were found is put last
put_last : (found : Members) (k : List ℕ) (d : Data) (ms : Members) → Apart found (member k d ms) → put k d found ≡ join found (member k d no_members)
put_last no_members k d ms h = refl
put_last (member l e found) k d ms h =
    let above : slice_cmp nat_cmp k l ≡ Greater = nat_list_cmp_total.antisymm k l ∙ ap ordering_reverse h.0.0 in
    rw above (ap (member l e) (put_last found k d ms h.1))

-- a member may be joined to either list
join_one : (found : Members) (k : List ℕ) (d : Data) (ms : Members) → join (join found (member k d no_members)) ms ≡ join found (member k d ms)
join_one no_members k d ms = refl
join_one (member l e found) k d ms = ap (member l e) (join_one found k d ms)

-- the lists are still apart when the first name that comes is found
Apart_one : (found : Members) (k : List ℕ) (d : Data) (ms : Members) → Apart found (member k d ms) → IsBelowNames k ms
    → Apart (join found (member k d no_members)) ms
Apart_one no_members k d ms h below = (below, tt)
Apart_one (member l e found) k d ms h below = (h.0.1, Apart_one found k d ms h.1 below)

mutual
  -- the tree of a plain value is read as that value
  of_json-outline : (d : Data) → IsPlain d → of_json (outline d) ≡ Some d
  of_json-outline null h = refl
  of_json-outline (boolean b) h = refl
  of_json-outline (number (unsigned n)) h = ap (option_map number) (number_of-decimal n h)
  of_json-outline (number (negative z)) h = absurd h
  of_json-outline (number (float x)) h = absurd h
  of_json-outline (string s) h = refl
  of_json-outline (array ds) h = ap (option_map array) (of_items-outline ds h)
  of_json-outline (object ms) h = ap (option_map object) (of_members-outline ms no_members h tt)

  -- the same for the items of an array
  of_items-outline : (ds : Items) → ArePlain ds → of_items (items_outline ds) ≡ Some ds
  of_items-outline no_items h = refl
  of_items-outline (item d ds) h = rw (of_json-outline d h.0, of_items-outline ds h.1)

  -- the same for the members of an object, after those that were found before
  of_members-outline : (ms found : Members) → HasPlainMembers ms → Apart found ms → of_members (members_outline ms) found ≡ Some (join found ms)
  of_members-outline no_members found h apart = ap Some (sym (join_nil found))
  of_members-outline (member k d ms) found h apart =
      rw (of_json-outline d h.1)
      (ap (of_members (members_outline ms)) (put_last found k d ms apart)
      ∙ of_members-outline ms (join found (member k d no_members)) h.3 (Apart_one found k d ms apart h.2)
      ∙ ap Some (join_one found k d ms))

-- ---- the text is UTF-8

-- a comma between two items is UTF-8
IsUtf8-comma_if : (later : Bool) → IsUtf8 (comma_if later)
IsUtf8-comma_if true = IsUtf8-are_ascii (44 ∷ []) refl
IsUtf8-comma_if false = IsUtf8-nil

-- UTF-8 with an ASCII byte in front is UTF-8
ascii : (x : ℕ) (xs : List ℕ) → are_ascii (x ∷ []) ≡ true → IsUtf8 xs → IsUtf8 (x ∷ xs)
ascii x xs e h = IsUtf8-append (x ∷ []) xs (IsUtf8-are_ascii (x ∷ []) e) h

mutual
  -- the compact text of a plain value is UTF-8
  IsUtf8-compact_text : (d : Data) → IsPlain d → IsUtf8 (compact_text d)
  IsUtf8-compact_text null h = IsUtf8-are_ascii _ refl
  IsUtf8-compact_text (boolean b) h = IsUtf8-boolean b
  IsUtf8-compact_text (number (unsigned n)) h = IsUtf8-from_ascii _ (IsAscii-decimal n h)
  IsUtf8-compact_text (number (negative z)) h = absurd h
  IsUtf8-compact_text (number (float x)) h = absurd h
  IsUtf8-compact_text (string s) h = IsUtf8-quoted s h
  IsUtf8-compact_text (array ds) h = ascii 91 _ refl (IsUtf8-items_text false ds h)
  IsUtf8-compact_text (object ms) h = ascii 123 _ refl (IsUtf8-members_text false ms h)

  -- the same for the items of an array
  IsUtf8-items_text : (later : Bool) (ds : Items) → ArePlain ds → IsUtf8 (items_text later ds)
  IsUtf8-items_text later no_items h = IsUtf8-are_ascii (93 ∷ []) refl
  IsUtf8-items_text later (item d ds) h =
      IsUtf8-append _ _ (IsUtf8-comma_if later) (IsUtf8-append _ _ (IsUtf8-compact_text d h.0) (IsUtf8-items_text true ds h.1))

  -- the same for the members of an object
  IsUtf8-members_text : (later : Bool) (ms : Members) → HasPlainMembers ms → IsUtf8 (members_text later ms)
  IsUtf8-members_text later no_members h = IsUtf8-are_ascii (125 ∷ []) refl
  IsUtf8-members_text later (member k d ms) h =
      IsUtf8-append _ _ (IsUtf8-comma_if later)
      (IsUtf8-append _ _ (IsUtf8-quoted k h.0) (ascii 58 _ refl (IsUtf8-append _ _ (IsUtf8-compact_text d h.1) (IsUtf8-members_text true ms h.3))))

-- ---- together

-- the compact text of a plain value has the tokens of its tree
tokens-compact_text : (d : Data) → IsPlain d → tokens (compact_text d) ≡ tree.json_tokens (outline d)
tokens-compact_text d h = ap tokens (sym (print-outline d)) ∙ tokens-print _ (ArePrintable-json_tokens (outline d) (HasNumbers-outline d h))

-- the compact text of a plain value is read as that value
pub read-compact_text : (d : Data) → IsPlain d → depth d ≤ max_depth → read (compact_text d) ≡ Some d
read-compact_text d h shallow =
    ap (λ r. option_and_then of_json (option_and_then (λ p. json.if_last p.0 p.1) r))
    (ap (json.value max_depth) (tokens-compact_text d h ∙ sym (append-nil _)) ∙ value-json_tokens (outline d) max_depth [] (rw (depth-outline d) shallow))
    ∙ of_json-outline d h

-- the compact text of a plain value is a JSON text of it, as `laws::compact_texts` says
pub IsJson-compact_text : (d : Data) → IsPlain d → depth d ≤ max_depth → IsJson (compact_text d) d
IsJson-compact_text d h shallow = (IsUtf8-compact_text d h, read-compact_text d h shallow)

-- ---- no float

mutual
  -- a plain value has no float, as `laws::compact_texts` says
  pub has_float-plain : (d : Data) → IsPlain d → has_float d ≡ false
  has_float-plain null h = refl
  has_float-plain (boolean b) h = refl
  has_float-plain (number (unsigned n)) h = refl
  has_float-plain (number (negative z)) h = absurd h
  has_float-plain (number (float x)) h = absurd h
  has_float-plain (string s) h = refl
  has_float-plain (array ds) h = items_have_float-plain ds h
  has_float-plain (object ms) h = members_have_float-plain ms h

  -- the same for the items of an array
  items_have_float-plain : (ds : Items) → ArePlain ds → items_have_float ds ≡ false
  items_have_float-plain no_items h = refl
  items_have_float-plain (item d ds) h = rw (has_float-plain d h.0) (items_have_float-plain ds h.1)

  -- the same for the members of an object
  members_have_float-plain : (ms : Members) → HasPlainMembers ms → members_have_float ms ≡ false
  members_have_float-plain no_members h = refl
  members_have_float-plain (member k d ms) h = rw (has_float-plain d h.1) (members_have_float-plain ms h.3)
