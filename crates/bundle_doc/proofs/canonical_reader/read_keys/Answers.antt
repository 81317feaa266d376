use Rattle.std.proofs.Common.{ap, not, vec_len, rules}
use Rattle.bundle_doc.proofs.CanonicalReaderFacts.{Keeps-init, Keeps-next, Keeps-end}
use Rattle.bundle_doc.proofs.canonical_reader.read_keys.Goals as goal

pub loop-last-init : goal.loop-last-init
loop-last-init c = record { text = search rules; keeps = Keeps-init _ _ _ _ c.new-authorities.ensures.items c.new-authorities.ensures.len }

pub loop-last-preserved : goal.loop-last-preserved
loop-last-preserved c = record {
  text = search rules;
  keeps =
      Keeps-next c.args.text.now c.loop-last.authorities.items c.push.new.self.items (vec_len c.loop-last.authorities)
      (vec_len c.push.new.self) c.loop-last.last.now c.loop-last.rest.now
      (not c.is_empty.result) c.in_ok-authority.authority c.in_ok-authority.own.now c.in_ok-authority.behind.now
      c.loop-last.invariant.keeps c.in_ok-authority.ensures (ap not c.is_empty.ensures) c.in_ok-push.ensures.items c.in_ok-push.ensures.len;
}

pub returns : goal.returns
returns c =
    Keeps-end c.args.text.now c.loop-last.authorities.items (vec_len c.loop-last.authorities) c.loop-last.last.now
    c.loop-last.rest.now c.in_ok-after.field-0.now c.loop-last.invariant.keeps c.in_ok-after.ensures
