-- What a page of a running replica shows. One that shows what is held has the text of a command.
use Rattle.std.specs.Prelude.{◌≡◌, ◌⊎◌, ℕ, List, [], ◌++◌, ◌==◌, ◌&&◌, Bool, codes}
use Rattle.std.specs.Prelude.{flat_map, if◌then◌else◌, length, MatchBool, nat_lt}
use Rattle.std.specs.Prelude.{Option, Some, None}
use Rattle.receipt_core.specs.Acceptance.{Meaning}
use Rattle.json_reports.specs.ReportJson.{IsReportJson}
use Rattle.key_view.specs.KeysText.{IsKeysText}
use Rattle.key_view.specs.declared.keys_writer.KeysForm.TheVariants as keys
use Rattle.replica_view.specs.TrustGraph.{IsGraphText}
use Rattle.status_view.specs.declared.status_format.StatusFormat.TheVariants.{Json, Prometheus}
use Rattle.status_warnings.specs.WarnedStatus.{IsWarnedStatusIn, Watching}
use Rattle.status_warnings.specs.WarningLines.{lines_of_warnings}
use Rattle.status_warnings.specs.Warnings.{quiet_warning}
use Rattle.status_warnings.specs.declared.seen.WarnLimits.{WarnLimits}
use Rattle.status_warnings.specs.declared.warning_kinds.Warning.{Warning}
use Rattle.command_exits.specs.Exits.{IsExitLine, exit_status_of}
use Rattle.command_exits.specs.declared.exits.Exit.{Exit}
use Rattle.fedbundle.specs.SaidValues.{SaysChosen, SaysNoName}
use Rattle.health_pages.specs.FixedTexts.{fixed_text}
use Rattle.health_pages.specs.LoopMetrics.{loop_metrics}
use Rattle.health_pages.specs.Responses.{fixed_type, held_type, response_text}
use Rattle.health_pages.specs.declared.asked_page.HeldPage.{HeldPage}
use Rattle.health_pages.specs.declared.asked_page.HeldPage.TheVariants.{Metrics, Status, Report}
use Rattle.health_pages.specs.declared.asked_page.HeldPage.TheVariants.{Keys, Graph}
use Rattle.health_pages.specs.declared.asked_page.Page.{Page}
use Rattle.health_pages.specs.declared.asked_page.Page.TheVariants.{Fixed, Ready, Held}
use Rattle.health_pages.specs.declared.response.ContentType.{ContentType}
use Rattle.health_pages.specs.declared.response.ContentType.TheVariants.{Text}
use Rattle.health_pages.specs.declared.response.PageResponse.{PageResponse}
use Rattle.health_pages.specs.declared.response.ResponseStatus.{ResponseStatus}
use Rattle.health_pages.specs.declared.response.ResponseStatus.TheVariants.{Done, NotFound}
use Rattle.health_pages.specs.declared.response.ResponseStatus.TheVariants.{Unavailable}
use Rattle.local_answers.specs.declared.page_source.PageAnswer.{PageAnswer}
use Rattle.local_answers.specs.declared.page_source.PageSource.{PageSource}

-- These are the parts of the response.
pub record IsAnswer (status : ResponseStatus) (content : ContentType) (body : List ℕ)
    (answer : PageAnswer) : Type 0 where
  pub is_status : answer.status ≡ status
  pub is_content : answer.content ≡ content
  pub is_body : answer.body.items ≡ body

-- what is held, and what else is shown
pub record PageRun : Type 0 where
  pub source : PageSource
  pub meaning : Meaning

abbrev pub page_run : PageSource → Meaning → PageRun
page_run source meaning = record { source = source; meaning = meaning }

-- by which limits is warned
abbrev pub warn_limits : PageSource → WarnLimits
warn_limits source = record {
  moment = source.running.moment;
  expires_within = source.warn_times.expires_within;
  peer_quiet = source.warn_times.peer_quiet;
}

-- ---- what is held

-- what is looked at for warnings in addition to what is held: a replica knows no polls
abbrev pub watching_by : PageSource → Watching
watching_by source = record {
  limits = warn_limits source;
  running = Some source.running;
  fetches = [];
}

-- After the metrics of the status come those of what the loop counted.
pub record IsMetricsPage (run : PageRun) (text : List ℕ) : Type 0 where
  pub status : List ℕ
  pub is_status : IsWarnedStatusIn run.meaning (watching_by run.source) Prometheus status
  pub is : text ≡ status ++ loop_metrics run.source.version.now run.source.counts

-- the text of a page, whose graph is of one domain if that is chosen
abbrev pub IsHeldPage : PageRun → HeldPage → (chosen : Option (List ℕ)) → List ℕ → Type 0
IsHeldPage run Metrics chosen text = IsMetricsPage run text
IsHeldPage run Status chosen text =
    IsWarnedStatusIn run.meaning (watching_by run.source) Json text
IsHeldPage run Report chosen text = IsReportJson run.meaning text
IsHeldPage run Keys chosen text = IsKeysText keys.Json run.meaning None text
IsHeldPage run Graph chosen text = IsGraphText run.meaning chosen text

-- The page has that text.
pub record ShowsHeld (run : PageRun) (page : HeldPage) (chosen : Option (List ℕ))
    (answer : PageAnswer) : Type 0 where
  pub text : List ℕ
  pub is_text : IsHeldPage run page chosen text
  pub is : IsAnswer Done (held_type page) text answer

-- ---- a name that is refused

-- a refusal, by the exit status of a command: 4 if memory ran out
abbrev pub refusal_status : ℕ → ResponseStatus
refusal_status status = if status == 4 then Unavailable else NotFound

-- The page has the line that says why.
pub record IsRefusal (exit : Exit) (answer : PageAnswer) : Type 0 where
  pub line : List ℕ
  pub is_line : IsExitLine exit line
  pub is : IsAnswer (refusal_status (exit_status_of exit)) Text line answer

-- The page is shown, of the domain that is chosen.
pub record ShowsChosen (run : PageRun) (page : HeldPage) (named : Option (List ℕ))
    (answer : PageAnswer) : Type 0 where
  pub chosen : Option (List ℕ)
  pub is_chosen : SaysChosen named chosen
  pub shows : ShowsHeld run page chosen answer

-- Or the name is refused.
pub record RefusesPage (named : Option (List ℕ)) (answer : PageAnswer) : Type 0 where
  pub exit : Exit
  pub none : SaysNoName named exit
  pub refuses : IsRefusal exit answer

abbrev pub AnswersHeld : PageRun → HeldPage → (named : Option (List ℕ)) → PageAnswer → Type 0
AnswersHeld run page named answer =
    ShowsChosen run page named answer ⊎ RefusesPage named answer

-- ---- whether a peer is heard

-- the warnings of quiet peers
abbrev pub quiet_warnings : PageSource → List Warning
quiet_warnings source =
    flat_map (quiet_warning (warn_limits source) source.running.began) source.running.peers.now

-- there are peers, and all of them are quiet
abbrev pub is_unheard : (quiet peers : ℕ) → Bool
is_unheard quiet peers = nat_lt 0 quiet && quiet == peers

abbrev pub IsReadyAnswer : PageSource → PageAnswer → Type 0
IsReadyAnswer source answer =
    MatchBool (is_unheard (length (quiet_warnings source)) (length source.running.peers.now))
    (IsAnswer Unavailable Text (lines_of_warnings (quiet_warnings source)) answer)
    (IsAnswer Done Text (codes "ready\n") answer)

-- ---- a page

-- what a page shows: a text that never changes, whether a peer is heard, or what is held
abbrev pub ShowsPage : PageRun → Page × Option (List ℕ) → PageAnswer → Type 0
ShowsPage run (Fixed page, named) answer = IsAnswer Done (fixed_type page) (fixed_text page) answer
ShowsPage run (Ready, named) answer = IsReadyAnswer run.source answer
ShowsPage run (Held page, named) answer = AnswersHeld run page named answer

-- The response has what the page shows.
pub record AnswersPage (run : PageRun) (asked : Page × Option (List ℕ)) (is_head : Bool)
    (response : PageResponse) : Type 0 where
  pub answer : PageAnswer
  pub shows : ShowsPage run asked answer
  pub is : response.head.items ++ response.body.items
      ≡ response_text answer.status answer.content answer.body.items is_head
