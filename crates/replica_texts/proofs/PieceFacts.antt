-- The first lines of messages, written piece by piece.
use Rattle.std.proofs.Common.{◌≡◌, ◌∙◌, ℕ, List, [], ◌∷◌, ◌++◌, map, refl, sym, ap, append_assoc}
use Rattle.std.specs.Prelude.{codes, decimal}
use Rattle.std.specs.List.{flat_map, join_by}
use Rattle.hex.specs.Hex.{encode_lower}
use Rattle.receipt_core.specs.declared.receipt_id.ReceiptId.{ReceiptId}
use Rattle.replica_texts.specs.Messages.{quoted, AnyHave, any_have_text, GiveHeader, distrusts_part, give_header_text}
use Rattle.replica_texts.proofs.GlueFacts.{glue}

-- an id as its bytes
abbrev pub bytes_of : ReceiptId → List ℕ
bytes_of id = id.0

-- an id that is not the first, with the comma before it
abbrev pub later_id : ReceiptId → List ℕ
later_id id = codes "," ++ quoted id.0

-- Texts of images are texts of the items.
flat_map-map : {X Y A : Type 0} (f : Y → List A) (g : X → Y) (xs : List X) → flat_map f (map g xs) ≡ flat_map (λ x. f (g x)) xs
flat_map-map f g [] = refl
flat_map-map f g (x ∷ xs) = ap (λ t. f (g x) ++ t) (flat_map-map f g xs)

-- What was written id by id is the list of ids.
pub join-ids : (out new last : List ℕ) (ids others : List ReceiptId) (first : ReceiptId) → ids ≡ first ∷ others
    → new ≡ out ++ quoted first.0 → last ≡ new ++ flat_map later_id others
    → last ≡ out ++ join_by quoted (codes ",") (map bytes_of ids)
join-ids out new last ids others first e n l =
    l ∙ ap (λ t. t ++ flat_map later_id others) n ∙ append_assoc out (quoted first.0) (flat_map later_id others)
    ∙ ap (λ t. out ++ (quoted first.0 ++ t)) (sym (flat_map-map (λ y. codes "," ++ quoted y) bytes_of others))
    ∙ ap (λ xs. out ++ join_by quoted (codes ",") (map bytes_of xs)) (sym e)

-- What was written piece by piece is the line of the have.
pub asked-pushed : (a : AnyHave) (s0 s1 s2 s3 s4 s5 s6 s7 s8 s9 s10 s11 : List ℕ) → s1 ≡ s0 ++ codes "{\"bucket\":"
    → s2 ≡ s1 ++ decimal a.have.bucket → s3 ≡ s2 ++ codes ",\"config\":\""
    → s4 ≡ s3 ++ encode_lower a.have.config → s5 ≡ s4 ++ codes "\",\"format\":" → s6 ≡ s5 ++ decimal a.format → s7 ≡ s6 ++ codes ",\"have\":["
    → s8 ≡ s7 ++ join_by quoted (codes ",") a.have.ids → s9 ≡ s8 ++ codes "],\"of\":" → s10 ≡ s9 ++ decimal a.buckets → s11 ≡ s10 ++ codes "}"
    → s11 ≡ s0 ++ any_have_text a
unfolding any_have_text
asked-pushed a s0 s1 s2 s3 s4 s5 s6 s7 s8 s9 s10 s11 e1 e2 e3 e4 e5 e6 e7 e8 e9 e10 e11 =
    glue s0 s1 s11 _ _ e1 (glue s1 s2 s11 _ _ e2 (glue s2 s3 s11 _ _ e3 (glue s3 s4 s11 _ _ e4 (glue s4 s5 s11 _ _ e5 (glue s5 s6 s11 _ _ e6
    (glue s6 s7 s11 _ _ e7 (glue s7 s8 s11 _ _ e8 (glue s8 s9 s11 _ _ e9 (glue s9 s10 s11 _ _ e10 e11)))))))))

-- What was written piece by piece is the first line of the answer.
pub give-header-pushed : (t : GiveHeader) (s0 s1 s2 s3 s4 s5 s6 s7 s8 s9 s10 s11 s12 : List ℕ)
    → s1 ≡ s0 ++ codes "{\"bucket\":" → s2 ≡ s1 ++ decimal t.bucket → s3 ≡ s2 ++ codes ",\"config\":\""
    → s4 ≡ s3 ++ encode_lower t.config → s5 ≡ s4 ++ codes "\",\"count\":" → s6 ≡ s5 ++ decimal t.count → s7 ≡ s6 ++ distrusts_part t.distrusts
    → s8 ≡ s7 ++ codes ",\"format\":" → s9 ≡ s8 ++ decimal t.format → s10 ≡ s9 ++ codes ",\"of\":" → s11 ≡ s10 ++ decimal t.buckets → s12 ≡ s11 ++ codes "}"
    → s12 ≡ s0 ++ give_header_text t
unfolding give_header_text
give-header-pushed t s0 s1 s2 s3 s4 s5 s6 s7 s8 s9 s10 s11 s12 e1 e2 e3 e4 e5 e6 e7 e8 e9 e10 e11 e12 =
    glue s0 s1 s12 _ _ e1 (glue s1 s2 s12 _ _ e2 (glue s2 s3 s12 _ _ e3 (glue s3 s4 s12 _ _ e4 (glue s4 s5 s12 _ _ e5 (glue s5 s6 s12 _ _ e6
    (glue s6 s7 s12 _ _ e7 (glue s7 s8 s12 _ _ e8 (glue s8 s9 s12 _ _ e9 (glue s9 s10 s12 _ _ e10 (glue s10 s11 s12 _ _ e11 e12))))))))))
