use Rattle.std.proofs.Common.{◌≡◌, ◌≢◌, ◌∷◌, List, ℕ, length, Some, None, lit<, arith, rules, ap}
use Rattle.std.proofs.lemmas.List.{length-append}
use Rattle.std.proofs.lemmas.Str.Pattern.{strip_prefix_char}
use Rattle.spiffe_name.proofs.PathFacts.{Reads-more, IsPath-read}
use Rattle.spiffe_name.proofs.id.fault_in_path.Goals as goal

pub loop-after-preserved : goal.loop-after-preserved
loop-after-preserved c =
    let e : c.loop-after.rest.now ≡ 47 ∷ c.in-Some.after.now =
    strip_prefix_char 47 c.loop-after.rest.now (Some c.in-Some.after) c.in-Some.ensures.cases (lit< tt) in
    let split = c.split_at_slash.ensures in
    let size = ap length e in
    let parts = ap length split.whole in
    record {
      text = search rules;
      reads = Reads-more c.args.path.now c.loop-after.rest.now c.in-Some.after.now c.split_at_slash.result.0.now
          c.split_at_slash.result.1.now c.loop-after.invariant.reads e split c.in_default-fault_in_segment.ensures;
      fits = omega (arith, length-append c.split_at_slash.result.0.now c.split_at_slash.result.1.now);
    }

pub returns-clause-answer : goal.returns-clause-answer
returns-clause-answer c =
    let none : (rest : List ℕ) → c.loop-after.rest.now ≢ 47 ∷ rest = strip_prefix_char 47 c.loop-after.rest.now None c.in_default.ensures.cases (lit< tt) in
    IsPath-read c.args.path.now c.loop-after.rest.now c.loop-after.invariant.reads none
