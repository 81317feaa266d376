-- A status in the text format of Prometheus
use Rattle.std.specs.Prelude.{ℕ, List, [], ◌∷◌, ◌++◌, Bool, true, false, ◌==◌, if◌then◌else◌}
use Rattle.std.specs.Prelude.{codes, decimal, filter, flat_map, length, Option, Some, None}
use Rattle.hex.specs.Hex.{encode_lower}
use Rattle.status_view.specs.declared.status.Status.{Status}
use Rattle.status_view.specs.declared.status.DomainStatus.{DomainStatus}
use Rattle.status_view.specs.declared.status.CurrentStatus.{CurrentStatus}
use Rattle.status_view.specs.declared.metric.Gauge.{Gauge}
use Rattle.status_view.specs.declared.metric.Gauge.TheVariants.{Receipts, ReceiptLimit, Pending}
use Rattle.status_view.specs.declared.metric.Gauge.TheVariants.{Records, RecordLimit, KeylessSeeds}
use Rattle.status_view.specs.declared.metric.Gauge.TheVariants.{Warning}
use Rattle.status_view.specs.declared.metric.DomainGauge.{DomainGauge}
use Rattle.status_view.specs.declared.metric.DomainGauge.TheVariants.{Current, Sequence}
use Rattle.status_view.specs.declared.metric.DomainGauge.TheVariants.{RefreshHint, Keys}
use Rattle.status_view.specs.declared.metric.DomainGauge.TheVariants.{DistrustedKeys}
use Rattle.status_view.specs.declared.metric.DomainGauge.TheVariants.{Accepted, Conflicts}
use Rattle.status_view.specs.Status.{has_warning}

-- ---- the lines of a metric

abbrev pub help_line : (name help : List ℕ) → List ℕ
help_line name help = codes "# HELP " ++ (name ++ (codes " " ++ (help ++ codes "\n")))

abbrev pub type_line : List ℕ → List ℕ
type_line name = codes "# TYPE " ++ (name ++ (codes " gauge" ++ codes "\n"))

-- what it says, and that it goes up and down
abbrev pub gauge_head : (name help : List ℕ) → List ℕ
gauge_head name help = help_line name help ++ type_line name

-- a backslash, a quotation mark and a line feed are escaped in the value of a label
abbrev pub label_byte : ℕ → List ℕ
label_byte b = if b == 92 then codes "\\\\"
    else (if b == 34 then codes "\\\"" else (if b == 10 then codes "\\n" else (b ∷ [])))

abbrev pub label_value : List ℕ → List ℕ
label_value text = flat_map label_byte text

-- ---- metrics of the replica

abbrev pub gauge_name : Gauge → List ℕ
gauge_name Receipts = codes "fedbundle_receipts"
gauge_name ReceiptLimit = codes "fedbundle_receipt_limit"
gauge_name Pending = codes "fedbundle_pending_receipts"
gauge_name Records = codes "fedbundle_distrust_records"
gauge_name RecordLimit = codes "fedbundle_distrust_record_limit"
gauge_name KeylessSeeds = codes "fedbundle_keyless_configured_bundles"
gauge_name Warning = codes "fedbundle_warning"

abbrev pub gauge_help : Gauge → List ℕ
gauge_help Receipts = codes "Receipts that are held."
gauge_help ReceiptLimit = codes "The most receipts that are held."
gauge_help Pending = codes "Held receipts that no accepted bundle vouches for."
gauge_help Records = codes "Records of distrust that are held."
gauge_help RecordLimit = codes "The most records of distrust that are held."
gauge_help KeylessSeeds = codes "Configured bundles without an X.509 authority."
gauge_help Warning = codes "1 where status has a warning, and else 0."

abbrev pub one_where : Bool → ℕ
one_where true = 1
one_where false = 0

abbrev pub gauge_value : Status → Gauge → ℕ
gauge_value s Receipts = s.receipts
gauge_value s ReceiptLimit = s.receipt_limit
gauge_value s Pending = s.pending
gauge_value s Records = s.records
gauge_value s RecordLimit = s.record_limit
gauge_value s KeylessSeeds = length s.keyless_seeds.items
gauge_value s Warning = one_where (has_warning s)

abbrev pub gauge_text : Status → Gauge → List ℕ
gauge_text s gauge = gauge_head (gauge_name gauge) (gauge_help gauge)
    ++ (gauge_name gauge ++ (codes " " ++ (decimal (gauge_value s gauge) ++ codes "\n")))

abbrev pub all_gauges : List Gauge
all_gauges =
    Receipts ∷ ReceiptLimit ∷ Pending ∷ Records ∷ RecordLimit ∷ KeylessSeeds ∷ Warning ∷ []

-- ---- metrics of each domain

abbrev pub domain_gauge_name : DomainGauge → List ℕ
domain_gauge_name Current = codes "fedbundle_current_bundle_info"
domain_gauge_name Sequence = codes "fedbundle_current_sequence"
domain_gauge_name RefreshHint = codes "fedbundle_current_refresh_hint_seconds"
domain_gauge_name Keys = codes "fedbundle_current_keys"
domain_gauge_name DistrustedKeys = codes "fedbundle_current_distrusted_keys"
domain_gauge_name Accepted = codes "fedbundle_accepted_bundles"
domain_gauge_name Conflicts = codes "fedbundle_conflicts"

abbrev pub domain_gauge_help : DomainGauge → List ℕ
domain_gauge_help Current = codes "The id of the current bundle of a trust domain."
domain_gauge_help Sequence = codes "The sequence number of the current bundle, if it has one."
domain_gauge_help RefreshHint = codes "The refresh hint of the current bundle, if it has one."
domain_gauge_help Keys = codes "Different keys of X.509 authorities in the current bundle."
domain_gauge_help DistrustedKeys = codes "Those of these keys that are distrusted."
domain_gauge_help Accepted = codes "Accepted bundles of a trust domain."
domain_gauge_help Conflicts = codes "Sequence numbers that several accepted bundles have."

abbrev pub current_value : DomainGauge → CurrentStatus → Option ℕ
current_value Current s = Some 1
current_value Sequence s = s.sequence
current_value RefreshHint s = s.refresh_hint
current_value Keys s = Some (length s.keys.items)
current_value DistrustedKeys s = Some (length (filter (λ k. k.is_distrusted) s.keys.items))
current_value Accepted s = None
current_value Conflicts s = None

abbrev pub value_of_current : DomainGauge → Option CurrentStatus → Option ℕ
value_of_current gauge None = None
value_of_current gauge (Some s) = current_value gauge s

-- the value for a domain, if it has one
abbrev pub domain_value : DomainGauge → DomainStatus → Option ℕ
domain_value Accepted s = Some s.accepted
domain_value Conflicts s = Some s.conflicts
domain_value gauge s = value_of_current gauge s.current

abbrev pub id_label_of : Option CurrentStatus → List ℕ
id_label_of None = []
id_label_of (Some s) = codes "\",id=\"" ++ encode_lower s.id.0

-- the labels after the domain
abbrev pub further_label : DomainGauge → Option CurrentStatus → List ℕ
further_label Current current = id_label_of current
further_label gauge current = []

abbrev pub sample_line : DomainGauge → DomainStatus → ℕ → List ℕ
sample_line gauge s value = domain_gauge_name gauge
    ++ (codes "{domain=\""
    ++ (label_value s.domain
    ++ (further_label gauge s.current
    ++ (codes "\"} " ++ (decimal value ++ codes "\n")))))

abbrev pub sample_of : DomainGauge → DomainStatus → Option ℕ → List ℕ
sample_of gauge s None = []
sample_of gauge s (Some value) = sample_line gauge s value

abbrev pub domain_sample : DomainGauge → DomainStatus → List ℕ
domain_sample gauge s = sample_of gauge s (domain_value gauge s)

abbrev pub domain_gauge_text : Status → DomainGauge → List ℕ
domain_gauge_text s gauge = gauge_head (domain_gauge_name gauge) (domain_gauge_help gauge)
    ++ flat_map (domain_sample gauge) s.domains.items

abbrev pub all_domain_gauges : List DomainGauge
all_domain_gauges =
    Current ∷ Sequence ∷ RefreshHint ∷ Keys ∷ DistrustedKeys ∷ Accepted ∷ Conflicts ∷ []

-- ---- the whole

abbrev pub digest_info : (name help digest : List ℕ) → List ℕ
digest_info name help digest = gauge_head name help
    ++ (name
    ++ (codes "{digest=\"" ++ (encode_lower digest ++ (codes "\"} 1" ++ codes "\n"))))

abbrev pub config_info : Status → List ℕ
config_info s = digest_info (codes "fedbundle_config_info") (codes "The configuration's digest.")
    s.config.0

abbrev pub status_metrics : Status → List ℕ
status_metrics s = config_info s
    ++ (flat_map (gauge_text s) all_gauges ++ flat_map (domain_gauge_text s) all_domain_gauges)
