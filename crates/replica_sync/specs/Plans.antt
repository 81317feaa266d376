-- About which buckets a session asks.
use Rattle.std.specs.Prelude.{ℕ, List, length, slice_index_or, Option, None, Some}
use Rattle.replica_sync.specs.declared.bucket_plan.Buckets.{Buckets}
use Rattle.replica_sync.specs.declared.bucket_plan.Buckets.TheVariants.{All, Listed}
use Rattle.replica_sync.specs.declared.bucket_plan.BucketPlan.{BucketPlan}

-- these buckets in order; `None` is each, from 0 to 255
abbrev pub buckets_listed : Buckets → Option (List ℕ)
buckets_listed All = None
buckets_listed (Listed buckets) = Some buckets.items

abbrev pub plan_of : BucketPlan → Option (List ℕ)
plan_of plan = buckets_listed plan.buckets

-- how many answers came
abbrev pub answered_of : BucketPlan → ℕ
answered_of plan = plan.answered

-- how many buckets are asked about
abbrev pub asked_count : Option (List ℕ) → ℕ
asked_count None = 256
asked_count (Some buckets) = length buckets

-- the bucket in this place
abbrev pub bucket_at : Option (List ℕ) → ℕ → ℕ
bucket_at None place = place
bucket_at (Some buckets) place = slice_index_or buckets place 0
