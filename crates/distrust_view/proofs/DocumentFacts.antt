-- How a document is named, and its keys, as they are made.
use Rattle.std.proofs.Common.{◌≡◌, ℕ, List, [], ◌∷◌, ◌++◌, map, codes, Option, refl, ap, ◌∙◌, append_assoc}
use Rattle.hex.specs.Hex.{encode_lower}
use Rattle.jwk_set.specs.declared.authority.KeyId.{KeyId}
use Rattle.bundle_doc.specs.Bundle.{Bundle, doc_id_of}
use Rattle.receipt_core.specs.Receipt.{Pair, offer_of}
use Rattle.receipt_core.specs.declared.triple.Triple.{Triple}
use Rattle.text_lines.specs.TextLines.{number_or_none}
use Rattle.distrust_view.specs.DistrustEffect.{named_document}

-- the parts that are written of a document's name are its name
pub named_made : (domain : List ℕ) (d : Bundle) (id : List ℕ) (rank : Option ℕ) (o x y z : List ℕ) → id ≡ doc_id_of domain d → rank ≡ d.rank
    → x ≡ o ++ encode_lower id → y ≡ x ++ codes " sequence " → z ≡ y ++ number_or_none rank → z ≡ o ++ named_document domain d
named_made domain d id rank o x y z e f p q r =
    r ∙ ap (λ t. t ++ number_or_none rank) (q ∙ ap (λ t. t ++ codes " sequence ") p)
    ∙ append_assoc (o ++ encode_lower id) (codes " sequence ") (number_or_none rank)
    ∙ append_assoc o (encode_lower id) (codes " sequence " ++ number_or_none rank)
    ∙ (λ i. o ++ (encode_lower (e i) ++ (codes " sequence " ++ number_or_none (f i))))

-- the keys of what a document can vouch by are its keys
pub offer_keys : (p : Pair) (keys : List KeyId) → map (λ (t : Triple). t.key) (map (offer_of p) keys) ≡ keys
offer_keys p [] = refl
offer_keys p (key ∷ others) = ap (λ rest. key ∷ rest) (offer_keys p others)
