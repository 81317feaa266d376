-- The contents of elements, one after another.
use Rattle.std.proofs.Common.{◌≡◌, ℕ, zero, suc, ◌^◌, ◌≤◌, ◌<◌, List, [], ◌∷◌, ◌++◌, length, flat_map}
use Rattle.std.proofs.Common.{Some, None, refl, sym, ap, ◌∙◌, subst, append_assoc, arith}
use Rattle.std.specs.Prelude.{All}
use Rattle.std.proofs.lemmas.List.{append-nil, length-append}
use Rattle.std.proofs.lemmas.List.Elements.{All-nil, All-cons}
use Rattle.cert_key.specs.Der.{element, length_bytes}
use Rattle.cert_key.specs.Inside.Names.{contents_from, contents_at}
use Rattle.cert_key.specs.Inside.Reading.{◌>>=◌, Found, field_at}
use Rattle.cert_key.proofs.ElementFacts.{field_again, field_takes, short_content, short_rest}
use Rattle.cert_key.proofs.StepFacts.{IsBytes, bind_some, same_some}

-- ---- the loop

-- These contents were read, and the rest is left.
pub record Reads (tag : ℕ) (bytes : List ℕ) (contents : List (List ℕ)) (rest : List ℕ) : Type 0 where
  pub fuel : ℕ
  pub enough : length rest ≤ fuel
  pub fits : IsBytes rest
  pub same : contents_from tag contents fuel rest ≡ contents_at tag bytes

-- before the first
pub reads_none : (tag : ℕ) (bytes : List ℕ) → IsBytes bytes → Reads tag bytes [] bytes
unfolding contents_at
reads_none tag bytes fits = record { fuel = length bytes; enough = omega arith; fits = fits; same = refl }

-- what is after an element is shorter
pub after_short : (tag : ℕ) (bytes : List ℕ) (e : Found) → IsBytes bytes → field_at tag bytes ≡ Some e → length e.after < length bytes
after_short tag bytes e fits is =
    let t = field_takes tag bytes e fits is in
    omega (arith, ap length t.parts, length-append (element tag e.content) e.after)

more_at : (tag : ℕ) (bytes : List ℕ) (contents : List (List ℕ)) (fuel b : ℕ) (rest : List ℕ) (e : Found) → suc (length rest) ≤ fuel
    → IsBytes (b ∷ rest) → contents_from tag contents fuel (b ∷ rest) ≡ contents_at tag bytes → field_at tag (b ∷ rest) ≡ Some e
    → Reads tag bytes (contents ++ e.content ∷ []) e.after
more_at tag bytes contents zero b rest e enough fits same is = absurd (omega (arith, enough))
more_at tag bytes contents (suc fuel) b rest e enough fits same is =
    let short : length e.after < suc (length rest) = after_short tag (b ∷ rest) e fits is in
    record {
      fuel = fuel;
      enough = omega (arith, short, enough);
      fits = (field_takes tag (b ∷ rest) e fits is).after_fits;
      same = sym (ap (λ o. o >>= λ (x : Found). contents_from tag (contents ++ x.content ∷ []) fuel x.after) is) ∙ same;
    }

-- one element more
pub reads_more : (tag : ℕ) (bytes : List ℕ) (contents : List (List ℕ)) (rest : List ℕ) (e : Found) → Reads tag bytes contents rest
    → field_at tag rest ≡ Some e → Reads tag bytes (contents ++ e.content ∷ []) e.after
reads_more tag bytes contents [] e so is = absurd (omega (arith, after_short tag [] e so.fits is))
reads_more tag bytes contents (b ∷ rest) e so is =
    more_at tag bytes contents so.fuel b rest e so.enough so.fits so.same is

wrong_at : (tag : ℕ) (bytes : List ℕ) (contents : List (List ℕ)) (fuel b : ℕ) (rest : List ℕ)
    → contents_from tag contents fuel (b ∷ rest) ≡ contents_at tag bytes → field_at tag (b ∷ rest) ≡ None → contents_at tag bytes ≡ None
wrong_at tag bytes contents zero b rest same is = sym same
wrong_at tag bytes contents (suc fuel) b rest same is =
    sym same ∙ ap (λ o. o >>= λ (x : Found). contents_from tag (contents ++ x.content ∷ []) fuel x.after) is

-- what is left is not such an element
pub reads_wrong : (tag : ℕ) (bytes : List ℕ) (contents : List (List ℕ)) (rest : List ℕ) → Reads tag bytes contents rest → 0 < length rest
    → field_at tag rest ≡ None → contents_at tag bytes ≡ None
reads_wrong tag bytes contents [] so some is = absurd (omega (arith, some))
reads_wrong tag bytes contents (b ∷ rest) so some is = wrong_at tag bytes contents so.fuel b rest so.same is

-- nothing is left
pub reads_all : (tag : ℕ) (bytes : List ℕ) (contents : List (List ℕ)) (rest : List ℕ) → Reads tag bytes contents rest → length rest ≡ 0
    → contents_at tag bytes ≡ Some contents
reads_all tag bytes contents [] so empty = sym so.same
reads_all tag bytes contents (b ∷ rest) so empty = absurd (omega (arith, empty))

-- ---- what is spelled is read

from_again : (tag : ℕ) (before : List (List ℕ)) (fuel : ℕ) (cs : List (List ℕ)) → length (flat_map (element tag) cs) < 2 ^ 24
    → length (flat_map (element tag) cs) ≤ fuel → contents_from tag before fuel (flat_map (element tag) cs) ≡ Some (before ++ cs)
from_again tag before fuel [] short enough = ap (λ (x : List (List ℕ)). Some x) (sym (append-nil before))
from_again tag before zero (c ∷ cs) short enough = absurd (omega (arith, enough))
from_again tag before (suc fuel) (c ∷ cs) short enough =
    let rest = flat_map (element tag) cs in
    let own = short_content tag c rest short in
    let more = short_rest (element tag c) rest short in
    let fewer : length rest ≤ fuel = omega (arith, enough, length-append (length_bytes (length c) ++ c) rest) in
    ap (λ o. o >>= λ (x : Found). contents_from tag (before ++ x.content ∷ []) fuel x.after) (field_again tag c rest own)
    ∙ from_again tag (before ++ c ∷ []) fuel cs more fewer
    ∙ ap (λ (x : List (List ℕ)). Some x) (append_assoc before (c ∷ []) cs)

pub contents_again : (tag : ℕ) (cs : List (List ℕ)) → length (flat_map (element tag) cs) < 2 ^ 24
    → contents_at tag (flat_map (element tag) cs) ≡ Some cs
unfolding contents_at
contents_again tag cs short = from_again tag [] (length (flat_map (element tag) cs)) cs short (omega arith)

-- ---- what is read is spelled so

pub record ContentsTake (tag : ℕ) (bytes : List ℕ) (cs : List (List ℕ)) : Type 0 where
  pub parts : bytes ≡ flat_map (element tag) cs
  pub fits : All IsBytes cs

from_takes : (tag : ℕ) (before : List (List ℕ)) (fuel : ℕ) (bytes : List ℕ) (cs : List (List ℕ)) → IsBytes bytes
    → contents_from tag before fuel bytes ≡ Some cs → (more : List (List ℕ)) × (cs ≡ before ++ more) × ContentsTake tag bytes more
from_takes tag before fuel [] cs fits e =
    ([], sym (same_some before cs e) ∙ sym (append-nil before), record { parts = refl; fits = All-nil IsBytes })
from_takes tag before zero (b ∷ bytes) cs fits e = absurd cc
from_takes tag before (suc fuel) (b ∷ bytes) cs fits e =
    let s = bind_some (field_at tag (b ∷ bytes)) (λ x. contents_from tag (before ++ x.content ∷ []) fuel x.after) cs e in
    let t = field_takes tag (b ∷ bytes) s.0 fits s.1 in
    let m = from_takes tag (before ++ s.0.content ∷ []) fuel s.0.after cs t.after_fits s.2 in (
      s.0.content ∷ m.0,
      m.1 ∙ append_assoc before (s.0.content ∷ []) m.0,
      record {
        parts = t.parts ∙ ap (λ (x : List ℕ). element tag s.0.content ++ x) m.2.parts;
        fits = All-cons IsBytes s.0.content m.0 t.content_fits m.2.fits;
      },
    )

pub contents_take : (tag : ℕ) (bytes : List ℕ) (cs : List (List ℕ)) → IsBytes bytes → contents_at tag bytes ≡ Some cs
    → ContentsTake tag bytes cs
unfolding contents_at
contents_take tag bytes cs fits e =
    let m = from_takes tag [] (length bytes) bytes cs fits e in
    subst (λ (x : List (List ℕ)). ContentsTake tag bytes x) (sym m.1) m.2
