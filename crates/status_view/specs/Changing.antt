-- What a running replica says of the configuration that it is changed from: as lines, as a member
-- of a JSON object and as metrics. If there is no such configuration, it says nothing of it.
use Rattle.std.specs.Prelude.{ℕ, List, [], ◌++◌, false, codes, decimal, flat_map, string_bytes}
use Rattle.std.specs.Prelude.{Option, Some, None}
use Rattle.hex.specs.Hex.{encode_lower}
use Rattle.json_text.specs.JsonText.{number_or_null, parted_texts, string_member}
use Rattle.text_lines.specs.TextLines.{number_or_none}
use Rattle.status_view.specs.declared.running.PeerStatus.{PeerStatus}
use Rattle.status_view.specs.declared.running.PreviousStatus.{PreviousStatus}
use Rattle.status_view.specs.declared.running.AskedConfig.{AskedConfig}
use Rattle.status_view.specs.declared.running.AskedConfig.TheVariants.{Next, Previous}
use Rattle.status_view.specs.StatusMetrics.{gauge_head}
use Rattle.status_view.specs.PeerMetrics.{peer_sample}

-- ---- as lines

abbrev pub asked_word : Option AskedConfig → List ℕ
asked_word None = codes "none"
asked_word (Some Next) = codes "next"
asked_word (Some Previous) = codes "previous"

abbrev pub asked_line : PeerStatus → List ℕ
asked_line p = codes "asked "
    ++ (string_bytes p.address ++ (codes " " ++ (asked_word p.asked ++ codes "\n")))

abbrev pub previous_line : PreviousStatus → List ℕ
previous_line q = codes "previous "
    ++ (encode_lower q.config.0
    ++ (codes " used " ++ (number_or_none q.used ++ codes "\n")))

abbrev pub changing_lines : List PeerStatus → PreviousStatus → List ℕ
changing_lines peers q = previous_line q ++ flat_map asked_line peers

abbrev pub previous_lines : List PeerStatus → Option PreviousStatus → List ℕ
previous_lines peers None = []
previous_lines peers (Some q) = changing_lines peers q

-- ---- as a member of a JSON object

abbrev pub asked_or_null : Option AskedConfig → List ℕ
asked_or_null None = codes "null"
asked_or_null (Some Next) = codes "\"next\""
asked_or_null (Some Previous) = codes "\"previous\""

abbrev pub asked_json : PeerStatus → List ℕ
asked_json p = string_member (codes "{\"peer\":") (string_bytes p.address)
    ++ (codes ",\"asked\":" ++ (asked_or_null p.asked ++ codes "}"))

abbrev pub changing_member : List PeerStatus → PreviousStatus → List ℕ
changing_member peers q = codes ",\"previous\":{\"config\":\""
    ++ (encode_lower q.config.0
    ++ (codes "\",\"used\":"
    ++ (number_or_null q.used
    ++ (codes ",\"peers\":[" ++ (parted_texts asked_json false peers ++ codes "]}")))))

-- with a comma before it
abbrev pub previous_member : List PeerStatus → Option PreviousStatus → List ℕ
previous_member peers None = []
previous_member peers (Some q) = changing_member peers q

-- ---- as metrics

abbrev pub previous_info : PreviousStatus → List ℕ
previous_info q = gauge_head (codes "fedbundle_previous_config_info")
    (codes "The configuration that is changed from.")
    ++ (codes "fedbundle_previous_config_info{config=\""
    ++ (encode_lower q.config.0 ++ codes "\"} 1\n"))

abbrev pub used_sample_at : ℕ → List ℕ
used_sample_at seconds = codes "fedbundle_previous_config_used_timestamp_seconds "
    ++ (decimal seconds ++ codes "\n")

abbrev pub used_sample : Option ℕ → List ℕ
used_sample None = []
used_sample (Some seconds) = used_sample_at seconds

abbrev pub used_gauge : PreviousStatus → List ℕ
used_gauge q = gauge_head (codes "fedbundle_previous_config_used_timestamp_seconds")
    (codes "When a session under the configuration that is changed from was last answered.")
    ++ used_sample q.used

abbrev pub asked_name : List ℕ
asked_name = codes "fedbundle_peer_asked_previous"

abbrev pub one_if_previous : AskedConfig → ℕ
one_if_previous Next = 0
one_if_previous Previous = 1

abbrev pub asked_sample_with : PeerStatus → AskedConfig → List ℕ
asked_sample_with p asked = peer_sample asked_name p (one_if_previous asked)

abbrev pub asked_sample_of : PeerStatus → Option AskedConfig → List ℕ
asked_sample_of p None = []
asked_sample_of p (Some asked) = asked_sample_with p asked

abbrev pub asked_sample : PeerStatus → List ℕ
asked_sample p = asked_sample_of p p.asked

abbrev pub asked_gauge : List PeerStatus → List ℕ
asked_gauge peers = gauge_head asked_name
    (codes "Whether a peer last answered under the configuration that is changed from.")
    ++ flat_map asked_sample peers

abbrev pub changing_metrics : List PeerStatus → PreviousStatus → List ℕ
changing_metrics peers q = previous_info q ++ (used_gauge q ++ asked_gauge peers)

abbrev pub previous_metrics : List PeerStatus → Option PreviousStatus → List ℕ
previous_metrics peers None = []
previous_metrics peers (Some q) = changing_metrics peers q
