-- What is printed of the next polls
use Rattle.std.specs.Prelude.{◌≡◌, ℕ, pos, int_div, List, ◌++◌, map, flat_map, codes}
use Rattle.std.specs.Fmt.{signed_decimal}
use Rattle.jiff.specs.Types.{Timestamp}
use Rattle.json_text.specs.JsonText.{array_member, string_member}
use Rattle.poll_view.specs.NextPolls.{AreNextPolls, PollView}
use Rattle.poll_view.specs.declared.domain_polls.DomainPoll.{DomainPoll}
use Rattle.poll_view.specs.declared.domain_polls.NextPoll.{NextPoll}
use Rattle.poll_view.specs.declared.domain_polls.NextPoll.TheVariants.{Due, At, PastRange}
use Rattle.poll_view.specs.declared.polls_writer.PollsForm.{PollsForm}
use Rattle.poll_view.specs.declared.polls_writer.PollsForm.TheVariants.{Lines, Json}

-- a time in seconds since the Unix epoch, rounded toward zero
abbrev pub seconds_text : Timestamp → List ℕ
seconds_text t = signed_decimal (int_div t.nanosecond (pos 1000000000))

-- ---- lines

abbrev pub next_text : NextPoll → List ℕ
next_text Due = codes "due"
next_text (At t) = seconds_text t
next_text PastRange = codes "past range"

abbrev pub poll_line : DomainPoll → List ℕ
poll_line p = p.domain ++ (codes " " ++ (next_text p.next ++ codes "\n"))

-- ---- JSON

-- at a later time
abbrev pub later_members : Timestamp → List ℕ
later_members t = codes ",\"due\":false,\"next\":" ++ (seconds_text t ++ codes "}")

abbrev pub next_members : NextPoll → List ℕ
next_members Due = codes ",\"due\":true,\"next\":null}"
next_members (At t) = later_members t
next_members PastRange = codes ",\"due\":false,\"next\":null}"

abbrev pub poll_json : DomainPoll → List ℕ
poll_json p = string_member (codes "{\"domain\":") p.domain ++ next_members p.next

-- an object, and a line feed
abbrev pub polls_json : List DomainPoll → List ℕ
polls_json polls = array_member (codes "{\"polls\":") (map poll_json polls) ++ codes "}\n"

-- ---- the whole

abbrev pub polls_in : PollsForm → List DomainPoll → List ℕ
polls_in Lines polls = flat_map poll_line polls
polls_in Json polls = polls_json polls

-- the text of the next polls
pub record IsPollsText (form : PollsForm) (view : PollView) (text : List ℕ) : Type 0 where
  pub polls : List DomainPoll
  pub are : AreNextPolls view polls
  pub is : text ≡ polls_in form polls
