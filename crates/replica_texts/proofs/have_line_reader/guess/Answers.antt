use Rattle.std.proofs.Common.{◌∙◌, refl, []}
use Rattle.replica_texts.proofs.HaveLineFacts.{whole-line, small-bucket, after_ids, after_format, after_config, after_bucket}
use Rattle.replica_texts.proofs.IdListFacts.{inside_ids}
use Rattle.replica_texts.proofs.have_line_reader.guess.Goals as goal

pub returns-clause-parts : goal.returns-clause-parts
returns-clause-parts c = λ a is.
    let bucket = c.number_after-bucket.ensures.right a.have.bucket 44 (after_bucket a) (small-bucket a is.is) refl
    (whole-line c.args.text.now a is.spelt) in
    let config = c.digest_after.ensures a.have.config (after_config a) is.is.config bucket.1 in
    let format = c.number_after-format.ensures.right a.format 44 (after_format a) is.is.format refl config.1 in
    let ids = c.list_after.ensures _ (after_ids a) (inside_ids a.have.ids is.is.ids) format.1 in
    let buckets = c.number_after-buckets.ensures.right a.buckets 125 [] is.is.buckets refl ids.1 in
    record { bucket = bucket.0; config = c.id_of.ensures.same ∙ config.0; format = format.0; ids = ids.0; buckets = buckets.0 }
