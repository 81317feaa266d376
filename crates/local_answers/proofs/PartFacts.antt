-- The first request of a stream by its places, and the requests after it.
use Rattle.std.proofs.Common.{◌≡◌, ℕ, suc, ◌+◌, ◌-◌, ◌<◌, ◌≤◌, List, [], ◌∷◌, ◌++◌}
use Rattle.std.proofs.Common.{length, take, drop, map, string_bytes, codes, get_or, drop-cons, add-one, unwrap_or}
use Rattle.std.proofs.Common.{inl, inr, refl, sym, ap, ap₂, ◌∙◌, subst, append_assoc, length-append, length-take, length-drop, arith}
use Rattle.std.proofs.Math.Seq.{take-append_seam, drop-append_seam}
use Rattle.std.proofs.lemmas.List.{append-nil, take-append-drop}
use Rattle.serde_json.specs.Data.{Data, string, array, Items, no_items, item}
use Rattle.serde_json.specs.View.{items_of}
use Rattle.byte_lines.specs.Lines.{HasNoFeed}
use Rattle.byte_lines.specs.Ahead.{IsFeed}
use Rattle.request_lines.specs.RequestLines.{IsOfWords, IsRequestLine, RefusesInput, RefusesLine, SaysInput, SaysWords, words_value}
use Rattle.request_lines.specs.declared.request_error.RequestError.{RequestError}
use Rattle.request_lines.specs.declared.request_error.RequestError.TheVariants.{TooLong, BadLine}
use Rattle.request_lines.specs.declared.request_error.RequestError.TheVariants as line_error
use Rattle.request_lines.specs.declared.request_line.InputEnd.{InputEnd}
use Rattle.request_lines.specs.declared.request_line.InputEnd.TheVariants.{Bytes, Stream}
use Rattle.request_lines.proofs.CountedFacts.{one_counted}
use Rattle.local_answers.specs.Replies.{words_fault}
use Rattle.local_answers.specs.RequestStream.{Asking, AwaitsBytes, EndsInput, GivesAll, GivesFirst}
use Rattle.local_answers.specs.RequestStream.{HasFirst, GivesNoRequest, SplitsInto, input_limit}
use Rattle.local_answers.specs.Inside.StreamSteps.{AwaitsInput, AwaitsLine, HasInput, IsAtPlaces, RefusesCountOf, RefusesLength}
use Rattle.local_answers.specs.declared.request_fault.RequestFault.{RequestFault}
use Rattle.local_answers.specs.declared.request_fault.RequestFault.TheVariants.{WordsTooLong, InputTooLong, NoWords}
use Rattle.local_answers.specs.declared.request_parts.FirstPlaces.{FirstPlaces}
use Rattle.local_answers.specs.declared.request_parts.StreamState.{StreamState}
use Rattle.local_answers.specs.declared.request_parts.StreamState.TheVariants.{Ended, Open}

-- ---- without a line feed

-- a line that may still come is awaited
pub awaits_line : (state : StreamState) (bytes : List ℕ) → HasNoFeed bytes → AwaitsLine state (length bytes) → AwaitsBytes state bytes
awaits_line Open bytes plain short = inl (record { plain = plain; short = short })
awaits_line Ended bytes plain none = absurd none

-- and one that may not is refused
pub refuses_line : (state : StreamState) (bytes : List ℕ) (e : RequestFault) → HasNoFeed bytes → RefusesCountOf state (length bytes) e
    → GivesNoRequest state bytes e
refuses_line state bytes WordsTooLong plain long =
    record { text = bytes; rest = []; plain = plain; long = long; parts = sym (append-nil bytes) }
refuses_line Ended bytes NoWords plain short = inl (record { plain = plain; short = short })
refuses_line state bytes e plain none = absurd none

-- ---- with one

-- the bytes before a line feed are the line
pub split_at : (bytes : List ℕ) (feed : ℕ) → IsFeed bytes feed → SplitsInto bytes (take feed bytes) (drop (feed + 1) bytes)
split_at bytes feed is = record { parts = is.parts; plain = is.plain }

-- the arguments are no longer than their line
words_shorter : (line words : List ℕ) (end : InputEnd) → SaysInput line words end → length words ≤ length line
words_shorter line words (Bytes n) says =
    let back : List ℕ = codes "\"words\":" ++ (words ++ codes "}") in
    let whole : length line ≡ length (codes "{\"input\":" ++ (says.count ++ (44 ∷ back))) = ap length says.split.whole in
    omega (
      arith,
      whole,
      length-append (codes "{\"input\":") (says.count ++ (44 ∷ back)),
      length-append says.count (44 ∷ back),
      length-append (codes "\"words\":") (words ++ codes "}"),
      length-append words (codes "}"),
    )
words_shorter line words Stream says = omega (arith, ap length says.0)

-- a line that is refused is one that begins the bytes
pub refuses_first : (state : StreamState) (bytes line after : List ℕ) (e : RequestError) → SplitsInto bytes line after → RefusesInput line e
    → GivesNoRequest state bytes (words_fault e)
refuses_first state bytes line after TooLong split long =
    record { text = line; rest = 10 ∷ after; plain = split.plain; long = long; parts = split.parts }
refuses_first state bytes line after BadLine split refused = inl (record { line = line; after = after; split = split; refused = refused })
refuses_first state bytes line after line_error.NoMemory split refused = tt

module _ (bytes line after words : List ℕ) (split : SplitsInto bytes line after) where
  -- input that lacks a byte is awaited
  pub awaits_input : (state : StreamState) (end : InputEnd) → IsRequestLine line words end → AwaitsInput state end (length after) → AwaitsBytes state bytes
  awaits_input Open end says lacks = inr (record { line = line; after = after; split = split; words = words; end = end; says = says; lacks = lacks })
  awaits_input Ended end says none = absurd none

  -- and refused if it is too long, or if no more comes
  pub refuses_input : (state : StreamState) (end : InputEnd) (e : RequestFault) → IsRequestLine line words end → RefusesLength state end (length after) e
      → GivesNoRequest state bytes e
  refuses_input state end InputTooLong says long =
      record { line = line; after = after; split = split; words = words; end = end; says = says; long = long }
  refuses_input Ended end NoWords says lacks =
      inr (record { line = line; after = after; split = split; words = words; end = end; says = says; lacks = lacks })
  refuses_input state end e says none = absurd none

-- this many bytes are the input, and it ends there
ends_there : (state : StreamState) (end : InputEnd) (after : List ℕ) (count : ℕ) → HasInput state end (length after) count
    → EndsInput state end (take count after) (drop count after)
ends_there state (Bytes n) after count has = omega (arith, length-take count after, has.0, has.1)
ends_there Ended Stream after count has = none_left (drop count after) (omega (arith, length-drop count after, has.0))
  where
    none_left : (xs : List ℕ) → length xs ≡ 0 → xs ≡ []
    none_left [] e = refl
    none_left (x ∷ xs) e = absurd (omega arith)
ends_there Open Stream after count none = absurd none

-- and it is no longer than it may be
short_input : (state : StreamState) (end : InputEnd) (after : List ℕ) (count : ℕ) → HasInput state end (length after) count
    → (count ≤ length after) × (count ≤ input_limit)
short_input state (Bytes n) after count has = (has.1, has.2)
short_input Ended Stream after count has = (omega (arith, has.0), has.1)
short_input Open Stream after count none = absurd none

module _ (state : StreamState) (bytes line after words : List ℕ) (end : InputEnd) (count : ℕ) (split : SplitsInto bytes line after)
    (says : IsRequestLine line words end) (has : HasInput state end (length after) count) where
  -- input that is whole is that of the first request
  pub first_there : HasFirst state bytes (record { line = line; words = words; end = end; input = take count after; rest = drop count after })
  first_there = record {
    split = record {
      parts = split.parts ∙ ap (λ l. line ++ 10 ∷ l) (sym (take-append-drop count after));
      plain = split.plain;
    };
    says = says;
    ends = ends_there state end after count has;
    small = omega (arith, length-take count after, (short_input state end after count has).1);
  }

  -- whose arguments may be refused
  pub refuses_words : (e : RequestError) → RefusesLine IsOfWords words e → GivesNoRequest state bytes (words_fault e)
  refuses_words TooLong long = absurd (omega (arith, says.short, words_shorter line words end says.says, long))
  refuses_words BadLine refused = inr (record {
    parts = record { line = line; words = words; end = end; input = take count after; rest = drop count after };
    first = first_there;
    refused = refused;
  })
  refuses_words line_error.NoMemory refused = tt

-- how many bytes came after the line
pub came_after : (bytes : List ℕ) (feed : ℕ) → length bytes - (feed + 1) ≡ length (drop (feed + 1) bytes)
came_after bytes feed = sym (length-drop (feed + 1) bytes)

-- the first request by its places
pub at_places : (state : StreamState) (bytes words : List ℕ) (end : InputEnd) (feed : ℕ) (places : FirstPlaces) → IsFeed bytes feed
    → IsRequestLine (take feed bytes) words end → places.start ≡ feed + 1 → HasInput state end (length (drop (feed + 1) bytes)) places.count
    → SaysWords words (map string_bytes places.words.items) → IsAtPlaces state bytes places
at_places state bytes words end feed places is says start has spelt =
    let after : List ℕ = drop (feed + 1) bytes in
    let same : drop places.start bytes ≡ after = ap (λ k. drop k bytes) start in
    record {
      line = take feed bytes;
      words = words;
      end = end;
      first = subst (λ l. HasFirst state bytes (record {
        line = take feed bytes;
        words = words;
        end = end;
        input = take places.count l;
        rest = drop places.count l;
      }))
          (sym same) (first_there state bytes (take feed bytes) after words end places.count (split_at bytes feed is) says has);
      says = spelt;
      within = omega (arith, start, is.inside, length-drop (feed + 1) bytes, (short_input state end after places.count has).0);
    }

-- what is taken out at these places is that request
pub gives_at : (state : StreamState) (bytes rest : List ℕ) (places : FirstPlaces) (asking : Asking) → IsAtPlaces state bytes places
    → asking.words ≡ map string_bytes places.words.items → asking.input ≡ take places.count (drop places.start bytes)
    → rest ≡ drop places.count (drop places.start bytes) → GivesFirst state bytes asking rest
gives_at state bytes rest places asking is words input left = record {
  line = is.line;
  words = is.words;
  end = is.end;
  first = subst (HasFirst state bytes)
      (λ i. record { line = is.line; words = is.words; end = is.end; input = sym input i; rest = sym left i }) is.first;
  says = subst (SaysWords is.words) (sym words) is.says;
}

-- ---- one after another

-- a line without a line feed has none after its first byte
feedless_later : (b : ℕ) (bs : List ℕ) → HasNoFeed (b ∷ bs) → HasNoFeed bs
feedless_later b bs plain k d below = plain (suc k) d (omega arith)

-- bytes have one first line
one_line : (line other after more : List ℕ) → HasNoFeed line → HasNoFeed other → line ++ (10 ∷ after) ≡ other ++ (10 ∷ more)
    → (line ≡ other) × (after ≡ more)
one_line [] [] after more p q e = (refl, ap (drop 1) e)
one_line [] (b ∷ other) after more p q e = absurd (q 0 0 (omega arith) (let same : 10 ≡ b = cc in sym same))
one_line (b ∷ line) [] after more p q e = absurd (p 0 0 (omega arith) (let same : b ≡ 10 = cc in same))
one_line (b ∷ line) (c ∷ other) after more p q e =
    let first : b ≡ c = cc in
    let later = one_line line other after more (feedless_later b line p) (feedless_later c other q) (ap (drop 1) e) in
    (ap₂ (λ x l. x ∷ l) first later.0, later.1)

-- the texts of an array
abbrev texts_in : Items → List (List ℕ)
texts_in no_items = []
texts_in (item (string s) ds) = s ∷ texts_in ds
texts_in (item d ds) = texts_in ds

abbrev texts_of : Data → List (List ℕ)
texts_of (array ds) = texts_in ds
texts_of d = []

-- those of an array of arguments are the arguments
texts_back : (ws : List (List ℕ)) → texts_in (items_of (map string ws)) ≡ ws
texts_back [] = refl
texts_back (w ∷ ws) = ap (λ l. w ∷ l) (texts_back ws)

-- a text has one list of arguments
one_list : (text : List ℕ) (ws vs : List (List ℕ)) → SaysWords text ws → SaysWords text vs → ws ≡ vs
one_list text ws vs a b =
    let same : words_value ws ≡ words_value vs = ap (λ o. unwrap_or o (words_value ws)) (sym a.json.1 ∙ b.json.1) in
    sym (texts_back ws) ∙ ap texts_of same ∙ texts_back vs

-- two parts of one length are equal if both are with what follows them
one_cut : (xs ys rest more : List ℕ) → length xs ≡ length ys → xs ++ rest ≡ ys ++ more → (xs ≡ ys) × (rest ≡ more)
one_cut xs ys rest more size e = (
  sym (take-append_seam xs rest) ∙ (λ i. take (size i) (e i)) ∙ take-append_seam ys more,
  sym (drop-append_seam xs rest) ∙ (λ i. drop (size i) (e i)) ∙ drop-append_seam ys more,
)

-- the count of the input that a request has as long as more may come
counted_by : (end : InputEnd) (input rest : List ℕ) → EndsInput Open end input rest → (n : ℕ) × (end ≡ Bytes n) × (length input ≡ n)
counted_by (Bytes n) input rest size = (n, refl, size)
counted_by Stream input rest none = absurd none

-- bytes have one first request, as long as more may come
one_first : (bytes rest other : List ℕ) (a b : Asking) → GivesFirst Open bytes a rest → GivesFirst Open bytes b other → (a ≡ b) × (rest ≡ other)
one_first bytes rest other a b p q =
    let lines = one_line p.line q.line (a.input ++ rest) (b.input ++ other) p.first.split.plain q.first.split.plain
    (sym p.first.split.parts ∙ q.first.split.parts) in
    let n = counted_by p.end a.input rest p.first.ends in
    let m = counted_by q.end b.input other q.first.ends in
    let said = one_counted q.line p.words q.words n.0 m.0
    (subst (λ l. SaysInput l p.words (Bytes n.0)) lines.0 (subst (SaysInput p.line p.words) n.1 p.first.says.says))
    (subst (SaysInput q.line q.words) m.1 q.first.says.says) in
    let cut = one_cut a.input b.input rest other (n.2 ∙ said.0 ∙ sym m.2) lines.1 in
    let words = one_list q.words a.words b.words (subst (λ t. SaysWords t a.words) said.1 p.says) q.says in
    ((λ i. record { words = words i; input = cut.0 i }), cut.1)

-- input that ended still ends there if more comes
ends_still : (end : InputEnd) (input rest more : List ℕ) → EndsInput Open end input rest → EndsInput Open end input (rest ++ more)
ends_still (Bytes n) input rest more size = size
ends_still Stream input rest more none = absurd none

-- the first request is still the same if more comes
first_still : (bytes rest more : List ℕ) (a : Asking) → GivesFirst Open bytes a rest → GivesFirst Open (bytes ++ more) a (rest ++ more)
first_still bytes rest more a p = record {
  line = p.line;
  words = p.words;
  end = p.end;
  first = record {
    split = record {
      parts = ap (λ l. l ++ more) p.first.split.parts ∙ append_assoc p.line (10 ∷ (a.input ++ rest)) more
          ∙ ap (λ l. p.line ++ 10 ∷ l) (append_assoc a.input rest more);
      plain = p.first.split.plain;
    };
    says = p.first.says;
    ends = ends_still p.end a.input rest more p.first.ends;
    small = p.first.small;
  };
  says = p.says;
}

-- those given before and after a piece are those of all bytes
pub all_joined : (bytes more : List ℕ) (before after : List Asking) (left rest : List ℕ) → GivesAll bytes before left → GivesAll (left ++ more) after rest
    → GivesAll (bytes ++ more) (before ++ after) rest
all_joined bytes more [] after left rest same later = subst (λ l. GivesAll (l ++ more) after rest) (sym same) later
all_joined bytes more (a ∷ before) after left rest given later =
    (given.0 ++ more, first_still bytes given.0 more a given.1, all_joined given.0 more before after left rest given.2 later)

-- the same number are the same ones
pub all_one : (bytes : List ℕ) (some others : List Asking) (rest other : List ℕ) → GivesAll bytes some rest → GivesAll bytes others other
    → length some ≡ length others → (some ≡ others) × (rest ≡ other)
all_one bytes [] [] rest other p q size = (refl, sym p ∙ q)
all_one bytes [] (b ∷ others) rest other p q size = absurd (omega arith)
all_one bytes (a ∷ some) [] rest other p q size = absurd (omega arith)
all_one bytes (a ∷ some) (b ∷ others) rest other p q size =
    let first = one_first bytes p.0 q.0 a b p.1 q.1 in
    let later = all_one q.0 some others rest other (subst (λ l. GivesAll l some rest) first.1 p.2) q.2 (omega arith) in
    (ap₂ (λ x l. x ∷ l) first.0 later.0, later.1)

-- ---- arguments

-- one more argument was taken: the step of the loop in `texts_of_words`
pub word_more : {X : Type 0} (f : X → List ℕ) (xs : List X) (k : ℕ) (x : X) → k < length xs → x ≡ get_or xs k x
    → (old new : List (List ℕ)) (text : List ℕ) → new ≡ old ++ text ∷ [] → f x ≡ text
    → new ++ map f (drop (k + 1) xs) ≡ old ++ map f (drop k xs)
word_more f xs k x low is old new text grown same =
    ap (λ ts. ts ++ map f (drop (k + 1) xs)) grown
    ∙ append_assoc old (text ∷ []) (map f (drop (k + 1) xs)) ∙ (λ i. old ++ (sym same i ∷ map f (drop (k + 1) xs)))
    ∙ ap (λ ys. old ++ map f ys) (sym (drop-cons xs k x low ∙ (λ i. sym is i ∷ drop (sym (add-one k) i) xs)))
