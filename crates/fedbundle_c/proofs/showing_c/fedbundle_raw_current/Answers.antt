use Rattle.std.proofs.Common.{rules, subst, w64}
use Rattle.std.specs.Prelude.{MatchResult, MatchOption}
use Rattle.std.proofs.lemmas.Int.{to_z-of_z}
use Rattle.replica_c_calls.specs.CallErrors.{RefusesDomainText}
use Rattle.replica_c_calls.specs.Texts.{HasNoCurrentBundle, IsCurrentBundle}
use Rattle.fedbundle_c.specs.Exports.{meaning_in}
use Rattle.fedbundle_c.specs.declared.held_replica.Replica.{Replica}
use Rattle.fedbundle_c.proofs.ExportFacts.{finds-by}
use Rattle.fedbundle_c.proofs.showing_c.fedbundle_raw_current.Goals as goal

-- what was made of the replica that was held, which was put back
pub returns-clause-does : goal.returns-clause-does
returns-clause-does c =
    let made =
    subst (λ (r : Replica). MatchResult c.current_bytes-made.result
    (λ o. MatchOption o (HasNoCurrentBundle (meaning_in r) c.args.domain.now) (λ v. IsCurrentBundle (meaning_in r) c.args.domain.now v.items))
    (RefusesDomainText c.args.domain.now)) c.deref.ensures c.current_bytes-made.ensures in
    rw (to_z-of_z w64 c.put_option.result (search rules))
    (finds-by c.args.handle.now.value c.put.new.self.value c.in-Some.replica.value c.args.out.now c.put_option.new.out c.put_option.new.self.length
    c.put_option.result c.in-Some.ensures.taken c.put.ensures (λ m. HasNoCurrentBundle m c.args.domain.now)
    (λ m. IsCurrentBundle m c.args.domain.now) (RefusesDomainText c.args.domain.now) c.current_bytes-made.result (λ v. v.items) made
    c.put_option.ensures.writes)
