-- A receipt whose flag is raised is vouched for; the others so far are not.
use Rattle.std.proofs.Common.{◌∙◌, ◌+◌, true, length, arith, sym, ap, subst}
use Rattle.std.proofs.lemmas.Bool.{both_ways}
use Rattle.std.proofs.lemmas.List.{length-set}
use Rattle.closure_parts.proofs.PlaceFacts.{slice_get-Contains}
use Rattle.closure_core.specs.Inside.Flags.{raised_count}
use Rattle.closure_parts.specs.Held.{meaning_of}
use Rattle.plain_closure.specs.Plain.{AreSound, AreQuietBelow}
use Rattle.plain_closure.proofs.PlainFacts.{item_at, vouched-released, sound-more, quiet-more}
use Rattle.plain_closure.proofs.rounds.round.Goals.{then-is_due, else-is_due}
use Rattle.plain_closure.proofs.rounds.round.Goals as goal

pub raise-requires-clause-lowered : goal.raise-requires-clause-lowered
raise-requires-clause-lowered c =
    let r = item_at c.args.held.now.arrived c.loop-place.place (omega (arith, c.loop-place-test.true, c.requires.size, c.loop-place.invariant.size)) in
    ((c.is_due.ensures r.0 r.1).0 c.if-is_due.true).0

pub loop-place-preserved : goal.loop-place-preserved
loop-place-preserved c =
    let h = c.args.held.now in
    let i = c.loop-place.invariant in
    let r = item_at h.arrived c.loop-place.place (omega (arith, c.loop-place-test.true, c.requires.size, i.size)) in
    elim c.if-is_due.branch [
      | then-is_due w ↦
          let due = (c.is_due.ensures r.0 r.1).0 w.if-is_due.true in
          let list = w.released-is ∙ w.raise.ensures.flags in
          record {
            size = ap length list ∙ length-set c.loop-place.released c.loop-place.place true ∙ i.size;
            sound = λ s. subst (AreSound (meaning_of h) h.arrived) (sym list)
                (sound-more (meaning_of h) h.arrived c.loop-place.released c.loop-place.place r.0 (omega (arith, c.loop-place-test.true, i.size)) r.1
                (vouched-released (meaning_of h) h.arrived c.args.seed_offers.now c.requires.offers c.requires.same
                c.config-valid.ensures.valid c.loop-place.released (i.sound s) r.0
                (slice_get-Contains h.arrived c.loop-place.place r.0 r.1) due.1)
                (i.sound s));
            quiet = λ e. absurd (omega (arith, e, w.count-is));
            count = omega (arith, w.raise.ensures.count, i.count, w.count-is, ap raised_count w.released-is);
            few = omega (arith, i.few, w.count-is);
          }
      | else-is_due w ↦
          record {
            size = ap length w.released-is ∙ i.size;
            sound = λ s. subst (AreSound (meaning_of h) h.arrived) (sym w.released-is) (i.sound s);
            quiet = λ e. subst (λ fs. AreQuietBelow h.records c.args.seed_offers.now h.arrived fs (c.loop-place.place + 1)) (sym w.released-is)
                (quiet-more h.records c.args.seed_offers.now h.arrived c.loop-place.released c.loop-place.place r.0 r.1
                (λ off v. both_ways c.is_due.result w.if-is_due.false ((c.is_due.ensures r.0 r.1).1 (off, v)))
                (i.quiet (omega (arith, e, w.count-is))));
            count = omega (arith, i.count, w.count-is, ap raised_count w.released-is);
            few = omega (arith, i.few, w.count-is);
          }
    ]
