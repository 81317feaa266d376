-- The numbers by which a program in another language distinguishes refusals. The hundreds mean the
-- letter of the code, and the rest is its number; the number of a code in another one is added to
-- 1,000 times that of the outer one.
use Rattle.std.specs.Prelude.{ℕ, ◌+◌}
use Rattle.spiffe_name.specs.declared.error.NameError.{NameError}
use Rattle.spiffe_name.specs.declared.error.NameError.TheVariants.{Empty as N1}
use Rattle.spiffe_name.specs.declared.error.NameError.TheVariants.{TooLong as N2}
use Rattle.spiffe_name.specs.declared.error.NameError.TheVariants.{BadScheme as N3}
use Rattle.spiffe_name.specs.declared.error.NameError.TheVariants.{BadDomainByte as N4}
use Rattle.spiffe_name.specs.declared.error.NameError.TheVariants.{BadPath as N5}
use Rattle.spiffe_name.specs.declared.error.NameError.TheVariants.{NoMemory as N6}
use Rattle.bundle_doc.specs.declared.error.DocError.{DocError}
use Rattle.bundle_doc.specs.declared.error.DocError.TheVariants.{TooLong as B1}
use Rattle.bundle_doc.specs.declared.error.DocError.TheVariants.{NotJson as B2}
use Rattle.bundle_doc.specs.declared.error.DocError.TheVariants.{NotObject as B3}
use Rattle.bundle_doc.specs.declared.error.DocError.TheVariants.{NoKeys as B4}
use Rattle.bundle_doc.specs.declared.error.DocError.TheVariants.{BadSequence as B5}
use Rattle.bundle_doc.specs.declared.error.DocError.TheVariants.{BadRefreshHint as B6}
use Rattle.bundle_doc.specs.declared.error.DocError.TheVariants.{CanonicalTooLong as B7}
use Rattle.bundle_doc.specs.declared.error.DocError.TheVariants.{NoMemory as B8}
use Rattle.fed_config.specs.declared.error.ConfigError.{ConfigError}
use Rattle.fed_config.specs.declared.error.ConfigError.TheVariants.{NotJson as C1}
use Rattle.fed_config.specs.declared.error.ConfigError.TheVariants.{Shape as C2}
use Rattle.fed_config.specs.declared.error.ConfigError.TheVariants.{BadName as C3}
use Rattle.fed_config.specs.declared.error.ConfigError.TheVariants.{BadUrl as C4}
use Rattle.fed_config.specs.declared.error.ConfigError.TheVariants.{BadProfile as C5}
use Rattle.fed_config.specs.declared.error.ConfigError.TheVariants.{DoubleRelationship as C6}
use Rattle.fed_config.specs.declared.error.ConfigError.TheVariants.{BadSeed as C7}
use Rattle.fed_config.specs.declared.error.ConfigError.TheVariants.{TooMany as C8}
use Rattle.fed_config.specs.declared.error.ConfigError.TheVariants.{NoMemory as C9}
use Rattle.receipt_core.specs.declared.line_error.LineError.{LineError}
use Rattle.receipt_core.specs.declared.line_error.LineError.TheVariants.{NotCanonical as L1}
use Rattle.receipt_core.specs.declared.line_error.LineError.TheVariants.{TooLong as L2}
use Rattle.receipt_core.specs.declared.line_error.LineError.TheVariants.{NoMemory as L3}
use Rattle.closure_core.specs.declared.error.TakeError.{TakeError}
use Rattle.closure_core.specs.declared.error.TakeError.TheVariants.{UnknownDomain as G1}
use Rattle.closure_core.specs.declared.error.TakeError.TheVariants.{WrongEndpoint as G2}
use Rattle.closure_core.specs.declared.error.TakeError.TheVariants.{Full as G3}
use Rattle.closure_core.specs.declared.error.TakeError.TheVariants.{NoMemory as G4}
use Rattle.closure_core.specs.declared.error.TakeError.TheVariants.{ConfigDiffers as G5}
use Rattle.closure_core.specs.declared.error.TakeError.TheVariants.{BelowFloor as G6}
use Rattle.bundle_view.specs.declared.observe_error.ObserveError.{ObserveError}
use Rattle.bundle_view.specs.declared.observe_error.ObserveError.TheVariants.{NoRelationship as O1}
use Rattle.bundle_view.specs.declared.observe_error.ObserveError.TheVariants.{WrongEndpoint as O2}
use Rattle.bundle_view.specs.declared.observe_error.ObserveError.TheVariants.{NoVoucherBundle as O3}
use Rattle.bundle_view.specs.declared.observe_error.ObserveError.TheVariants.{KeyNotInCurrent as O4}
use Rattle.bundle_view.specs.declared.observe_error.ObserveError.TheVariants.{Document as O5}
use Rattle.bundle_view.specs.declared.observe_error.ObserveError.TheVariants.{Take as O6}
use Rattle.replica_core.specs.declared.error.SyncError.{SyncError}
use Rattle.replica_core.specs.declared.error.SyncError.TheVariants.{BadHeader as S1}
use Rattle.replica_core.specs.declared.error.SyncError.TheVariants.{ConfigDiffers as S2}
use Rattle.replica_core.specs.declared.error.SyncError.TheVariants.{VersionDiffers as S3}
use Rattle.replica_core.specs.declared.error.SyncError.TheVariants.{NotCanonical as S4}
use Rattle.replica_core.specs.declared.error.SyncError.TheVariants.{NotRising as S5}
use Rattle.replica_core.specs.declared.error.SyncError.TheVariants.{BadCount as S6}
use Rattle.replica_core.specs.declared.error.SyncError.TheVariants.{Truncated as S7}
use Rattle.replica_core.specs.declared.error.SyncError.TheVariants.{Refused as S8}
use Rattle.replica_core.specs.declared.error.SyncError.TheVariants.{Io as S9}
use Rattle.replica_core.specs.declared.error.SyncError.TheVariants.{NoMemory as S10}
use Rattle.replica_c_calls.specs.declared.call_error.CallError.{CallError}
use Rattle.replica_c_calls.specs.declared.call_error.CallError.TheVariants.{Usage, Name, Document}
use Rattle.replica_c_calls.specs.declared.call_error.CallError.TheVariants.{Config, Line, Take}
use Rattle.replica_c_calls.specs.declared.call_error.CallError.TheVariants.{Observe, Sync, Full}
use Rattle.replica_c_calls.specs.declared.call_error.CallError.TheVariants.{NoMemory}

abbrev pub name_number : NameError → ℕ
name_number N1 = 101
name_number N2 = 102
name_number N3 = 103
name_number (N4 place) = 104
name_number (N5 place) = 105
name_number N6 = 106

abbrev pub document_number : DocError → ℕ
document_number B1 = 201
document_number B2 = 202
document_number B3 = 203
document_number B4 = 204
document_number B5 = 205
document_number B6 = 206
document_number B7 = 207
document_number B8 = 208

abbrev pub config_number : ConfigError → ℕ
config_number C1 = 301
config_number C2 = 302
config_number C3 = 303
config_number C4 = 304
config_number C5 = 305
config_number C6 = 306
config_number C7 = 307
config_number C8 = 308
config_number C9 = 309

abbrev pub line_number : LineError → ℕ
line_number L1 = 401
line_number L2 = 402
line_number L3 = 403

abbrev pub take_number : TakeError → ℕ
take_number G1 = 501
take_number G2 = 502
take_number G3 = 503
take_number G4 = 504
take_number G5 = 505
take_number G6 = 506

abbrev pub observe_number : ObserveError → ℕ
observe_number O1 = 601
observe_number O2 = 602
observe_number O3 = 603
observe_number O4 = 604
observe_number (O5 e) = 605000 + document_number e
observe_number (O6 e) = 606000 + take_number e

abbrev pub sync_number : SyncError → ℕ
sync_number S1 = 701
sync_number S2 = 702
sync_number S3 = 703
sync_number (S4 place) = 704
sync_number (S5 place) = 705
sync_number S6 = 706
sync_number S7 = 707
sync_number (S8 place e) = 708000 + take_number e
sync_number S9 = 709
sync_number S10 = 710

abbrev pub number_of : CallError → ℕ
number_of Usage = 1
number_of (Name e) = name_number e
number_of (Document e) = document_number e
number_of (Config e) = config_number e
number_of (Line e) = line_number e
number_of (Take e) = take_number e
number_of (Observe e) = observe_number e
number_of (Sync e) = sync_number e
number_of Full = 901
number_of NoMemory = 902
