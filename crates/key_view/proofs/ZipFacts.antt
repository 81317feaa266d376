-- Two lists place by place, cut in two.
use Rattle.std.proofs.Common.{◌≡◌, List, [], ◌∷◌, ◌++◌, refl, ap, ◌∙◌}
use Rattle.std.specs.List.{AllZip}

-- the second list is cut at the place of the first
pub record Cut {X Y : Type 0} (R : X → Y → Type 0) (xs us : List X) (ys : List Y) : Type 0 where
  pub first : List Y
  pub second : List Y
  pub is : ys ≡ first ++ second
  pub firsts : AllZip R xs first
  pub seconds : AllZip R us second

pub zip_cut : {X Y : Type 0} (R : X → Y → Type 0) (xs us : List X) (ys : List Y) → AllZip R (xs ++ us) ys → Cut R xs us ys
zip_cut R [] us ys zip = record {
  first = [];
  second = ys;
  is = refl;
  firsts = tt;
  seconds = zip;
}
zip_cut R (x ∷ xs) us [] zip = absurd zip
zip_cut R (x ∷ xs) us (y ∷ ys) zip =
    let rest = zip_cut R xs us ys zip.1 in
    record {
      first = y ∷ rest.first;
      second = rest.second;
      is = ap (λ zs. y ∷ zs) rest.is;
      firsts = (zip.0, rest.firsts);
      seconds = rest.seconds;
    }

-- the second list has a last item, as the first has
pub record CutLast {X Y : Type 0} (R : X → Y → Type 0) (xs : List X) (x : X) (ys : List Y) : Type 0 where
  pub first : List Y
  pub last : Y
  pub is : ys ≡ first ++ last ∷ []
  pub firsts : AllZip R xs first
  pub lasts : R x last

only_one : {X Y : Type 0} (R : X → Y → Type 0) (x : X) (ys : List Y) → AllZip R (x ∷ []) ys → (y : Y) × (ys ≡ y ∷ []) × R x y
only_one R x [] zip = absurd zip
only_one R x (y ∷ []) zip = (y, refl, zip.0)
only_one R x (y ∷ z ∷ ys) zip = absurd zip.1

pub zip_last : {X Y : Type 0} (R : X → Y → Type 0) (xs : List X) (x : X) (ys : List Y) → AllZip R (xs ++ x ∷ []) ys → CutLast R xs x ys
zip_last R xs x ys zip =
    let cut = zip_cut R xs (x ∷ []) ys zip in
    let one = only_one R x cut.second cut.seconds in
    record {
      first = cut.first;
      last = one.0;
      is = cut.is ∙ ap (λ zs. cut.first ++ zs) one.1;
      firsts = cut.firsts;
      lasts = one.2;
    }
