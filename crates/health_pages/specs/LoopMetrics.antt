-- What the loop of a replica counts, in the text format of Prometheus
use Rattle.std.specs.Prelude.{ℕ, ◌/◌, ◌%◌, List, [], ◌∷◌, ◌++◌, codes, decimal, flat_map, nat_lt}
use Rattle.std.specs.Prelude.{if◌then◌else◌}
use Rattle.health_pages.specs.declared.loop_counts.LoopCount.{LoopCount}
use Rattle.health_pages.specs.declared.loop_counts.LoopCount.TheVariants.{Requests, Pages}
use Rattle.health_pages.specs.declared.loop_counts.LoopCount.TheVariants.{Sessions, Faults}
use Rattle.health_pages.specs.declared.loop_counts.LoopCount.TheVariants.{ReceivedBytes, SentBytes}
use Rattle.health_pages.specs.declared.loop_counts.LoopCount.TheVariants.{Folds, Began}
use Rattle.health_pages.specs.declared.loop_counts.LoopCounts.{LoopCounts}

abbrev pub comment_line : (label name text : List ℕ) → List ℕ
comment_line label name text = label ++ (name ++ (codes " " ++ (text ++ codes "\n")))

-- the lines of a metric up to its value
abbrev pub metric_head : (name help kind : List ℕ) → List ℕ
metric_head name help kind = comment_line (codes "# HELP ") name help
    ++ (comment_line (codes "# TYPE ") name kind ++ name)

abbrev pub info_text : (name help version : List ℕ) → List ℕ
info_text name help version = metric_head name help (codes "gauge")
    ++ (codes "{version=\"" ++ (version ++ codes "\"} 1\n"))

abbrev pub version_text : List ℕ → List ℕ
version_text version =
    info_text (codes "fedbundle_loop_info") (codes "The version of the program.") version

-- ---- counts

abbrev pub count_name : LoopCount → List ℕ
count_name Requests = codes "fedbundle_loop_requests_total"
count_name Pages = codes "fedbundle_loop_pages_total"
count_name Sessions = codes "fedbundle_loop_sessions_total"
count_name Faults = codes "fedbundle_loop_faults_total"
count_name ReceivedBytes = codes "fedbundle_loop_received_bytes_total"
count_name SentBytes = codes "fedbundle_loop_sent_bytes_total"
count_name Folds = codes "fedbundle_loop_folds_total"
count_name Began = codes "fedbundle_loop_start_time_seconds"

abbrev pub count_help : LoopCount → List ℕ
count_help Requests = codes "Requests of this machine that had a reply."
count_help Pages = codes "Requests for pages that had a response."
count_help Sessions = codes "Sessions with other replicas that ended."
count_help Faults = codes "Connections that ended by a fault."
count_help ReceivedBytes = codes "Bytes that came on all connections."
count_help SentBytes = codes "Bytes that were sent on all connections."
count_help Folds = codes "How often the snapshot was written anew."
count_help Began = codes "When the replica began, in Unix seconds."

abbrev pub count_kind : LoopCount → List ℕ
count_kind Began = codes "gauge"
count_kind count = codes "counter"

abbrev pub count_value : LoopCounts → LoopCount → ℕ
count_value counts Requests = counts.requests
count_value counts Pages = counts.pages
count_value counts Sessions = counts.sessions
count_value counts Faults = counts.faults
count_value counts ReceivedBytes = counts.received_bytes
count_value counts SentBytes = counts.sent_bytes
count_value counts Folds = counts.folds
count_value counts Began = counts.began

abbrev pub counter_text : LoopCounts → LoopCount → List ℕ
counter_text counts count = metric_head (count_name count) (count_help count) (count_kind count)
    ++ (codes " " ++ (decimal (count_value counts count) ++ codes "\n"))

abbrev pub all_counts : List LoopCount
all_counts = Requests ∷ Pages ∷ Sessions ∷ Faults ∷ ReceivedBytes ∷ SentBytes ∷ Folds ∷ Began ∷ []

-- ---- the longest turn, in seconds with three decimals

abbrev pub zeros_before : ℕ → List ℕ
zeros_before rest =
    if nat_lt rest 10 then codes "00" else (if nat_lt rest 100 then codes "0" else [])

abbrev pub decimal_seconds : ℕ → List ℕ
decimal_seconds millis = decimal (millis / 1000)
    ++ (codes "." ++ (zeros_before (millis % 1000) ++ decimal (millis % 1000)))

abbrev pub seconds_gauge : (name help : List ℕ) → ℕ → List ℕ
seconds_gauge name help millis = metric_head name help (codes "gauge")
    ++ (codes " " ++ (decimal_seconds millis ++ codes "\n"))

abbrev pub turn_text : ℕ → List ℕ
turn_text millis = seconds_gauge (codes "fedbundle_loop_longest_turn_seconds")
    (codes "How long the longest turn of the loop took.") millis

-- ---- the whole

abbrev pub loop_metrics : (version : List ℕ) → LoopCounts → List ℕ
loop_metrics version counts = version_text version
    ++ (flat_map (counter_text counts) all_counts ++ turn_text counts.longest_turn)
