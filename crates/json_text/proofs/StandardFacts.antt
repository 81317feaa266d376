-- Texts by hand, which pin the definitions.
use Rattle.std.proofs.Common.{◌≡◌, [], ◌∷◌, ◌++◌, codes, refl, true, false, None, Some}
use Rattle.std.specs.Fmt.{digits}
use Rattle.json_text.specs.JsonText.{array_member, number_member, truth_member}

-- an object of a truth, a number and an absent number
an_object : truth_member (codes "{\"a\":") true ++ (number_member (codes ",\"b\":") (Some 12) ++ (number_member (codes ",\"c\":") None ++ codes "}"))
    ≡ codes "{\"a\":true,\"b\":12,\"c\":null}"
unfolding truth_member number_member digits
an_object = refl

-- arrays of none, one and three values
no_values : array_member (codes "\"a\":") [] ≡ codes "\"a\":[]"
unfolding array_member
no_values = refl

one_value : array_member [] (codes "1" ∷ []) ≡ codes "[1]"
unfolding array_member
one_value = refl

three_values : array_member [] (codes "1" ∷ codes "{}" ∷ codes "\"b\"" ∷ []) ≡ codes "[1,{},\"b\"]"
unfolding array_member
three_values = refl

a_falsehood : truth_member [] false ≡ codes "false"
unfolding truth_member
a_falsehood = refl
