use Rattle.std.proofs.Common.{refl, rules, inl, w64}
use Rattle.std.proofs.lemmas.Int.{to_z-of_z}
use Rattle.fedbundle_c.proofs.stateless_c.fedbundle_raw_report.Goals as goal

-- what was put is the text of what was reported
pub returns-in-Ok-clause-does : goal.returns-in-Ok-clause-does
returns-in-Ok-clause-does c =
    rw (to_z-of_z w64 c.put-returned.result (search rules))
    (inl (record {
      reported = c.in-Ok.reported;
      is = c.in-Ok.ensures;
      written = rw c.as_slice.ensures.value at c.put-returned.ensures.writes;
      counted = refl;
    }))
