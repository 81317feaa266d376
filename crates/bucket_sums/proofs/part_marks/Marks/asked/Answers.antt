use Rattle.std.proofs.Common.{◌≡◌, ◌∙◌, ◌<◌, ◌++◌, ◌∷◌, [], true, List, ℕ, length, get_or, sym, ap, arith, eqb-true}
use Rattle.std.proofs.lemmas.List.{nil_from_length}
use Rattle.bucket_sums.specs.Sessions.{at_least_one}
use Rattle.bucket_sums.proofs.MarkedFacts.{asked_as_marked, asked_none, at_least}
use Rattle.bucket_sums.proofs.part_marks.Marks.asked.Goals as goal
use Rattle.bucket_sums.proofs.part_marks.Marks.asked.Goals.{then-is_empty+then-records+in_ok-push, else-is_empty}
use Rattle.bucket_sums.proofs.part_marks.Marks.asked.Goals.{else-is_empty-via-then-is_empty+else-records, else-is_empty-via-else-is_empty}

pub returns : goal.returns
returns c =
    let marks = c.args.self.now in
    let buckets = c.in_ok-buckets.buckets in
    let all = c.in_ok-buckets.ensures.all in
    let some : 0 < length marks = omega (arith, all) in
    let asked = at_least marks buckets.items some c.in_ok-buckets.ensures.buckets in
    elim c.if-is_empty.branch [
      | then-is_empty+then-records+in_ok-push w ↦
          let is_empty = eqb-true _ _ (sym c.is_empty.ensures ∙ w.if-is_empty.true) in
          let none : buckets.items ≡ [] = nil_from_length buckets.items (omega (arith, is_empty, buckets.ok.0)) in
          let set : get_or marks 0 true ≡ true = sym w.records.ensures ∙ w.if-records.true in
          ap (λ v. v.items) w.buckets-is ∙ w.in_ok-push.ensures.items
          ∙ ap (λ (l : List ℕ). l ++ 0 ∷ []) none ∙ sym (asked_none (get_or marks 0 true) set)
          ∙ ap (at_least_one (get_or marks 0 true)) (sym none) ∙ asked
      | else-is_empty w ↦
          ap (λ v. v.items) w.buckets-is
          ∙ sym (asked_as_marked (get_or marks 0 true) buckets.items (λ none set. elim w.else-is_empty.branch [
            | else-is_empty-via-then-is_empty+else-records v ↦
                absurd (let no = v.records.ensures in let unset = v.if-records.false in cc)
            | else-is_empty-via-else-is_empty v ↦
                absurd (let size = ap length none in let full = v.if-is_empty.false in let test = c.is_empty.ensures in grind (arith, buckets.ok.0))
          ]))
          ∙ asked
    ]
