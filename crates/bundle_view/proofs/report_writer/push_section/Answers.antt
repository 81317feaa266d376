use Rattle.std.proofs.Common.{List, ◌∙◌, ◌++◌, ap, sym, subst, map, flat_map, length, slice_get, ◌-◌, option_copied}
use Rattle.bundle_doc.specs.Bundle.{Bundle}
use Rattle.bundle_view.specs.Conflicts.{reported_by}
use Rattle.bundle_view.specs.Inside.Groups.{AddsConflicts}
use Rattle.bundle_view.specs.Report.{accepted_line, conflict_line}
use Rattle.bundle_view.specs.Current.{IsCurrent}
use Rattle.bundle_view.proofs.CurrentFacts.{at_last_place, last_current}
use Rattle.bundle_view.proofs.ReportFacts.{section_added}
use Rattle.bundle_view.proofs.report_writer.push_section.Goals as goal

pub returns : goal.returns
returns g c =
    section_added (g.C.Closure.state c.args.closure.now).meaning c.args.domain.now c.in_ok-documents.documents.items (option_copied c.last.result)
    (map reported_by c.new-conflicts.result.items) (map reported_by c.add_conflicts.new.found.items) _ _ _ _ _ _
    c.in_ok-documents.ensures
    (subst (IsCurrent (g.C.Closure.state c.args.closure.now).meaning c.args.domain.now)
    (sym (c.last.ensures.value ∙ ap (λ (documents : List Bundle). slice_get documents (length documents - 1)) c.as_slice-2.ensures.value
    ∙ at_last_place c.in_ok-documents.documents.items))
    (last_current _ _ c.in_ok-documents.documents.items c.in_ok-documents.ensures))
    (ap (map reported_by) c.new-conflicts.ensures.items)
    (subst (λ (documents : List Bundle). AddsConflicts c.args.domain.now documents
    (map reported_by c.new-conflicts.result.items) (map reported_by c.add_conflicts.new.found.items))
    c.as_slice.ensures.value c.in_ok-add_conflicts.ensures)
    c.in_ok-push_domain.ensures c.in_ok-push_current.ensures
    (c.in_ok-push_accepted.ensures
    ∙ ap (λ (documents : List Bundle). c.push_current.new.out.items ++ flat_map (accepted_line c.args.domain.now)
    documents) c.as_slice-3.ensures.value)
    (c.in_ok-push_conflicts.ensures
    ∙ ap (λ conflicts. c.push_accepted.new.out.items ++ flat_map conflict_line (map reported_by conflicts))
    c.as_slice-4.ensures.value)
    c.in_ok-push_distrusts.ensures
