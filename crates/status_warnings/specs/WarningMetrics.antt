-- Warnings in the text format of Prometheus
use Rattle.std.specs.Prelude.{ℕ, List, ◌++◌, codes, flat_map}
use Rattle.std.specs.Fmt.{signed_decimal}
use Rattle.hex.specs.Hex.{encode_lower}
use Rattle.status_view.specs.StatusMetrics.{gauge_head, label_value}
use Rattle.status_warnings.specs.declared.seen.CertificateEnd.{CertificateEnd}
use Rattle.status_warnings.specs.declared.warning_kinds.Stock.{Stock}
use Rattle.status_warnings.specs.declared.warning_kinds.Warning.{Warning}
use Rattle.status_warnings.specs.declared.warning_kinds.Warning.TheVariants.{Domain, Expires}
use Rattle.status_warnings.specs.declared.warning_kinds.Warning.TheVariants.{NearlyFull, NotFetched}
use Rattle.status_warnings.specs.declared.warning_kinds.Warning.TheVariants.{QuietPeer, SameKey}
use Rattle.status_warnings.specs.WarningLines.{kind_name, stock_name}

-- ---- the warnings

abbrev pub domain_label : List ℕ → List ℕ
domain_label domain = codes "domain=\"" ++ (label_value domain ++ codes "\"")

abbrev pub key_labels : (domain key : List ℕ) → List ℕ
key_labels domain key = domain_label domain
    ++ (codes ",key=\"" ++ (encode_lower key ++ codes "\""))

abbrev pub quiet_label : List ℕ → List ℕ
quiet_label peer = codes "peer=\"" ++ (label_value peer ++ codes "\"")

abbrev pub stock_label : Stock → List ℕ
stock_label stock = codes "what=\"" ++ (stock_name stock ++ codes "\"")

-- what is warned of
abbrev pub warning_labels : Warning → List ℕ
warning_labels (Domain fault domain) = domain_label domain
warning_labels (SameKey domain key) = key_labels domain key.0
warning_labels (Expires domain key at) = key_labels domain key.0
warning_labels (NotFetched domain fetched) = domain_label domain
warning_labels (QuietPeer peer since) = quiet_label peer
warning_labels (NearlyFull stock held most) = stock_label stock

abbrev pub warning_sample : Warning → List ℕ
warning_sample w = codes "fedbundle_warning_info{kind=\""
    ++ (kind_name w ++ (codes "\"," ++ (warning_labels w ++ codes "} 1\n")))

abbrev pub warning_gauge : List Warning → List ℕ
warning_gauge warnings = gauge_head (codes "fedbundle_warning_info")
    (codes "What status warns of, by kind.") ++ flat_map warning_sample warnings

-- ---- the certificates

abbrev pub certificate_sample : CertificateEnd → List ℕ
certificate_sample c = codes "fedbundle_certificate_not_after_timestamp_seconds{"
    ++ (key_labels c.domain c.key.0 ++ (codes "} " ++ (signed_decimal c.not_after ++ codes "\n")))

abbrev pub certificate_gauge : List CertificateEnd → List ℕ
certificate_gauge certificates =
    gauge_head (codes "fedbundle_certificate_not_after_timestamp_seconds")
    (codes "The end of a certificate that the current bundle of a trust domain has.")
    ++ flat_map certificate_sample certificates
