use Rattle.std.proofs.Common.{◌≡◌, ◌≢◌, ◌+◌, ◌≤◌, ◌⊎◌, ◌∙◌, List, ℕ, Option, None, Some, inl, inr, refl, ap, length, subst, sym, take, true, false}
use Rattle.std.proofs.lemmas.Result.{err_from_is_err_and}
use Rattle.std.specs.Option.{is_some}
use Rattle.std.specs.Io.KnownBytes.{prepend_known}
use Rattle.byte_lines.specs.Ahead.{ahead_of}
use Rattle.byte_lines.specs.Lines.{HasNoFeed}
use Rattle.replica_core.specs.declared.error.SyncError.TheVariants.{Io, NoMemory, Truncated}
use Rattle.replica_sync.specs.PullSessions.{EndsInFeed, PullsLines}
use Rattle.replica_sync.specs.Inside.Driving.{Driven}
use Rattle.replica_sync.proofs.DrivenPulls.{driven_own, stops_here, stops_within, went_on}
use Rattle.replica_sync.proofs.pulling.read_ahead.Goals.{else-is_some, in-None, in-Some, then-is_some}
use Rattle.replica_sync.proofs.pulling.read_ahead.Goals as goal

pub returns-in-Ok-clause-ok : goal.returns-in-Ok-clause-ok
returns-in-Ok-clause-ok g c start run is =
    let ahead = ahead_of c.args.ahead.now in
    let rest = g.R.Source.remaining c.args.source.now in
    let count = c.match-place.count in
    let used = c.in-Ok.used in
    let p = c.args.pulling.now in
    let q = c.read_lines.new.self in
    let old = (g.C.Closure.state c.args.closure.now).meaning in
    let new = (g.C.Closure.state c.read_lines.new.closure).meaning in
    subst (λ (l : List ℕ). Driven start run q new (prepend_known l rest)) (sym c.pass.ensures.bytes)
    (went_on start run p q old new ahead _ _ count used rest
    (subst (λ (l : List ℕ). used ≤ length (take count l)) c.as_slice-2.ensures c.in-Ok.ensures.taken.within)
    (subst (λ (l : List ℕ). PullsLines p (record { bytes = take used (take count l); old = old; new = new }) q) c.as_slice-2.ensures c.in-Ok.ensures.pulls)
    c.in-Ok.ensures.journals c.in-Ok.ensures.fault is)

pub returns-in-Err-clause-refused : goal.returns-in-Err-clause-refused
returns-in-Err-clause-refused g c start run is =
    let ahead = ahead_of c.args.ahead.now in
    let rest = g.R.Source.remaining c.args.source.now in
    let count = c.match-place.count in
    let why = c.in-Err.why in
    let p = c.args.pulling.now in
    let q = c.read_lines.new.self in
    let old = (g.C.Closure.state c.args.closure.now).meaning in
    let new = (g.C.Closure.state c.read_lines.new.closure).meaning in
    let left = prepend_known ahead rest in
    let lines = subst (λ (l : List ℕ). PullsLines p (record { bytes = take count l; old = old; new = new }) q) c.as_slice-2.ensures c.in-Err.ensures.pulls in
    let stopped = c.in-Err.ensures.fault in
    let ends : EndsInFeed (take count ahead) ⊎ (why ≡ NoMemory) =
    elim c.if-is_some.branch [
      | then-is_some w ↦
          let some : is_some c.match-place.place ≡ true = sym c.is_some.ensures ∙ w.if-is_some.true in
          inl (elim c.match-place.branch [
            | in-Some v ↦ subst (λ (k : ℕ). EndsInFeed (take k ahead)) (sym v.count-is)
                (subst (λ (l : List ℕ). EndsInFeed (take (v.in-Some.at + 1) l)) c.as_slice.ensures v.in-Some.ensures.1)
            | in-None v ↦ absurd (let place : c.match-place.place ≡ None = v.place-is ∙ v.in-None.is in
                let no : false ≡ true = subst (λ (o : Option ℕ). is_some o ≡ true) place some in cc)
          ])
      | else-is_some w ↦ inr (w.is_memory_gone.ensures.0 (sym w.value-is ∙ c.if-is_memory_gone.true))
    ] in (
      stops_here start new run p q old ahead count rest why lines stopped ends is,
      λ io. absurd (driven_own start run left p q old new (take count ahead) why lines stopped is io),
    )

pub returns-in_err-error_of_line-in-Err-2-clause-refused : goal.returns-in_err-error_of_line-in-Err-2-clause-refused
returns-in_err-error_of_line-in-Err-2-clause-refused g c =
    let ahead = ahead_of c.args.ahead.now in
    let rest = g.R.Source.remaining c.args.source.now in
    let count = c.match-place.count in
    let why = c.in-Err.why in
    let p = c.args.pulling.now in
    let q = c.read_lines.new.self in
    let old = (g.C.Closure.state c.args.closure.now).meaning in
    let new = (g.C.Closure.state c.read_lines.new.closure).meaning in
    let lines = subst (λ (l : List ℕ). PullsLines p (record { bytes = take count l; old = old; new = new }) q) c.as_slice-2.ensures c.in-Err.ensures.pulls in
    let stopped = c.in-Err.ensures.fault in
    let ample : why ≢ NoMemory =
    elim c.if-is_some.branch [
      | then-is_some w ↦ absurd (let no : true ≡ false = sym w.if-is_some.true ∙ sym w.value-is ∙ c.if-is_memory_gone.false in cc)
      | else-is_some w ↦ λ out. let yes = w.is_memory_gone.ensures.1 out in
          let no : true ≡ false = sym yes ∙ sym w.value-is ∙ c.if-is_memory_gone.false in absurd (cc)
    ] in
    let none : is_some c.match-place.place ≡ false =
    elim c.if-is_some.branch [
      | then-is_some w ↦ absurd (let no : true ≡ false = sym w.if-is_some.true ∙ sym w.value-is ∙ c.if-is_memory_gone.false in cc)
      | else-is_some w ↦ sym c.is_some.ensures ∙ w.if-is_some.false
    ] in
    let plain : HasNoFeed ahead =
    elim c.match-place.branch [
      | in-Some v ↦ absurd (let place : c.match-place.place ≡ Some v.in-Some.at = v.place-is in
          let no : true ≡ false = subst (λ (o : Option ℕ). is_some o ≡ false) place none in cc)
      | in-None v ↦ subst HasNoFeed c.as_slice.ensures v.in-None.ensures
    ] in
    let all : count ≡ length ahead =
    elim c.match-place.branch [
      | in-Some v ↦ absurd (let place : c.match-place.place ≡ Some v.in-Some.at = v.place-is in
          let no : true ≡ false = subst (λ (o : Option ℕ). is_some o ≡ false) place none in cc)
      | in-None v ↦ v.count-is ∙ ap length v.as_slice-in-None.ensures
    ] in
    let failed = err_from_is_err_and c.from_residual.result c.from_residual.ensures.1 in
    rw (failed.1, failed.2) (λ start run is. (
      stops_within start new run p q old ahead count rest why Io all lines stopped plain ample (inl refl) is,
      λ io. c.in_err-error_of_line-in-Err-2.ensures.fault,
    ))

pub returns-clause-refused : goal.returns-clause-refused
returns-clause-refused g c start run is =
    let ahead = ahead_of c.args.ahead.now in
    let rest = g.R.Source.remaining c.args.source.now in
    let count = c.match-place.count in
    let why = c.in-Err.why in
    let p = c.args.pulling.now in
    let q = c.read_lines.new.self in
    let old = (g.C.Closure.state c.args.closure.now).meaning in
    let new = (g.C.Closure.state c.read_lines.new.closure).meaning in
    let left = prepend_known ahead rest in
    let lines = subst (λ (l : List ℕ). PullsLines p (record { bytes = take count l; old = old; new = new }) q) c.as_slice-2.ensures c.in-Err.ensures.pulls in
    let stopped = c.in-Err.ensures.fault in
    let ample : why ≢ NoMemory =
    elim c.if-is_some.branch [
      | then-is_some w ↦ absurd (let no : true ≡ false = sym w.if-is_some.true ∙ sym w.value-is ∙ c.if-is_memory_gone.false in cc)
      | else-is_some w ↦ λ out. let yes = w.is_memory_gone.ensures.1 out in
          let no : true ≡ false = sym yes ∙ sym w.value-is ∙ c.if-is_memory_gone.false in absurd (cc)
    ] in
    let none : is_some c.match-place.place ≡ false =
    elim c.if-is_some.branch [
      | then-is_some w ↦ absurd (let no : true ≡ false = sym w.if-is_some.true ∙ sym w.value-is ∙ c.if-is_memory_gone.false in cc)
      | else-is_some w ↦ sym c.is_some.ensures ∙ w.if-is_some.false
    ] in
    let plain : HasNoFeed ahead =
    elim c.match-place.branch [
      | in-Some v ↦ absurd (let place : c.match-place.place ≡ Some v.in-Some.at = v.place-is in
          let no : true ≡ false = subst (λ (o : Option ℕ). is_some o ≡ false) place none in cc)
      | in-None v ↦ subst HasNoFeed c.as_slice.ensures v.in-None.ensures
    ] in
    let all : count ≡ length ahead =
    elim c.match-place.branch [
      | in-Some v ↦ absurd (let place : c.match-place.place ≡ Some v.in-Some.at = v.place-is in
          let no : true ≡ false = subst (λ (o : Option ℕ). is_some o ≡ false) place none in cc)
      | in-None v ↦ v.count-is ∙ ap length v.as_slice-in-None.ensures
    ] in
    let e = c.in_ok-error_of_line-in-Err-2.field-0 in
    let line = c.in_ok-error_of_line-in-Err-2.ensures.line in (
      stops_within start new run p q old ahead count rest why e all lines stopped plain ample (inr line) is,
      λ io. elim line [
        | inl same ↦ absurd (driven_own start run left p q old new (take count ahead) why lines stopped is (sym same.0 ∙ io))
        | inr cut ↦ absurd (let no : Truncated ≡ Io = sym cut.0 ∙ io in cc)
      ],
    )
