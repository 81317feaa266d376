use Rattle.std.proofs.Common.{◌<◌, ◌^◌, ◌++◌, ℕ, List, [], drop, codes, decimal, refl, ap, sym, ◌∙◌, arith}
use Rattle.replica_texts.specs.Messages.{distrusts_part, give_header_text}
use Rattle.replica_texts.proofs.GiveHeaderFacts.{few-records, format_label, part-begins}
use Rattle.replica_texts.proofs.give_header_reader.guess.Goals as goal

pub returns-clause-right : goal.returns-clause-right
unfolding give_header_text
returns-clause-right c = λ t h.
    let last : List ℕ = codes ",\"of\":" ++ (decimal t.buckets ++ codes "}") in
    let later : List ℕ = decimal t.format ++ last in
    let follows : List ℕ = distrusts_part t.distrusts ++ (format_label ++ later) in
    let few : t.bucket < 2 ^ 64 = let below = h.is.bucket in let many = h.is.buckets in omega (arith, below, many) in
    let one = c.number_after-bucket.ensures.right t.bucket 44 _ few refl h.spelt in
    let two = c.digest_after.ensures t.config _ h.is.config one.1 in
    let three = c.number_after-count.ensures.right t.count 44 (drop 1 follows) h.is.count refl
    (two.1 ∙ ap (λ (x : List ℕ). codes
    "\",\"count\":" ++ (decimal t.count ++ x)) (part-begins t.distrusts later)) in
    let four = c.records_after-distrusts.ensures.right t.distrusts later
    (few-records t.format t.distrusts h.is.records) (three.1 ∙ sym (part-begins t.distrusts later)) in
    let five = c.number_after-format.ensures.right t.format 44 (drop 1 last) h.is.format refl four.1 in
    let six = c.number_after-buckets.ensures.right t.buckets 125 [] h.is.buckets refl five.1 in
    λ i. record { bucket = one.0 i; config = (c.id_of.ensures.same ∙ two.0) i; count = three.0 i; distrusts = four.0 i; format = five.0 i; buckets = six.0 i }
