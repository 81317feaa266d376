use Rattle.std.proofs.Common.{◌∙◌, ap₂, rules, subst}
use Rattle.std.specs.Io.KnownBytes.{Appends}
use Rattle.byte_lines.specs.Device.{AppendsBeginning}
use Rattle.status_warnings.specs.WarnedStatus.{seen_text, watching_of}
use Rattle.status_warnings.proofs.warned_writer.write_warned_status.Goals as goal

pub returns-in_err-write_all-clause-io : goal.returns-in_err-write_all-clause-io
returns-in_err-write_all-clause-io g c = λ _. (
  search rules,
  record {
    text = c.in_ok-text.text.items;
    is = record {
      status = c.in_ok-status.status;
      is_status = c.in_ok-status.ensures;
      certificates = c.in_ok-certificates.certificates.items;
      are_ends = c.in_ok-certificates.ensures;
      same_keys = c.in_ok-same_keys.same_keys.items;
      are_same = c.in_ok-same_keys.ensures;
      is = c.in_ok-text.ensures
          ∙ ap₂ (seen_text c.args.format (watching_of c.args.watch.now) c.in_ok-status.status) c.as_slice.ensures.value c.as_slice-2.ensures.value;
    };
    begun = subst (AppendsBeginning (g.W.Sink.contents c.args.sink.now) (g.W.Sink.contents c.write_all.new.sink)) c.as_slice-3.ensures.value
        c.in_err-write_all.ensures.beginning;
  },
)

pub returns-clause-ok : goal.returns-clause-ok
returns-clause-ok g c = record {
  text = c.in_ok-text.text.items;
  is = record {
    status = c.in_ok-status.status;
    is_status = c.in_ok-status.ensures;
    certificates = c.in_ok-certificates.certificates.items;
    are_ends = c.in_ok-certificates.ensures;
    same_keys = c.in_ok-same_keys.same_keys.items;
    are_same = c.in_ok-same_keys.ensures;
    is = c.in_ok-text.ensures
        ∙ ap₂ (seen_text c.args.format (watching_of c.args.watch.now) c.in_ok-status.status) c.as_slice.ensures.value c.as_slice-2.ensures.value;
  };
  written = subst (Appends (g.W.Sink.contents c.args.sink.now) (g.W.Sink.contents c.write_all.new.sink)) c.as_slice-3.ensures.value
      c.in_ok-write_all.ensures.ok;
}

pub returns-clause-warning : goal.returns-clause-warning
returns-clause-warning g c = record {
  status = c.in_ok-status.status;
  is_status = c.in_ok-status.ensures;
  is = c.has_warning.ensures;
}
