use Rattle.std.proofs.Common.{◌<◌, ◌^◌, inr, refl, sym, ap, ◌∙◌}
use Rattle.serde_json.specs.View.{members_view}
use Rattle.fed_config.specs.declared.floor.Floor.{Floor}
use Rattle.fed_config.proofs.FloorFacts.{each_push, floor_end, floor_next, not_floors, rising_floors}
use Rattle.fed_config.proofs.written.read_members.Goals as goal

pub loop-name-preserved : goal.loop-name-preserved
loop-name-preserved c =
    let floor : Floor = record { domain = c.as_str.result.now; sequence = c.in-Some-number_of.sequence } in
    record {
      read = rw c.in_ok-push.ensures.items (floor_next c.loop-name.floors.items floor c.loop-name.name-iterator c.next.new.self
          c.in-Some.name.now c.in-Some.value.now _ c.loop-name.invariant.read c.in-Some.ensures.steps c.as_str.ensures.value
          c.in-Some-number_of.ensures.number);
      fit = rw c.in_ok-push.ensures.items (each_push (λ f. f.sequence < 2 ^ 64) c.loop-name.floors.items floor
          c.loop-name.invariant.fit c.in-Some-number_of.ensures.fits);
    }

pub returns-in_default-clause-said : goal.returns-in_default-clause-said
returns-in_default-clause-said c = inr (
  refl,
  λ h.
      not_floors c.loop-name.floors.items h.0 c.loop-name.name-iterator c.next.new.self c.in-Some.name.now c.in-Some.value.now _
      c.loop-name.invariant.read c.in-Some.ensures.steps c.in_default.ensures.number
      (ap members_view c.into_iter-name-iterator.ensures.into_iter_gives.0 ∙ h.1),
)

pub returns-clause-said : goal.returns-clause-said
returns-clause-said c =
    sym (ap members_view c.into_iter-name-iterator.ensures.into_iter_gives.0)
    ∙ floor_end c.loop-name.floors.items c.loop-name.name-iterator _ c.loop-name.invariant.read c.in-None.ensures.steps.0

pub returns-clause-form : goal.returns-clause-form
returns-clause-form c = record {
  rising = rising_floors c.args.members.now.entries c.loop-name.floors.items (returns-clause-said c)
      c.into_iter-name-iterator.ensures.into_iter_gives.5;
  fit = c.loop-name.invariant.fit;
}
