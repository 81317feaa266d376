-- A record that is new lowers flags.
use Rattle.std.proofs.Common.{◌∷◌, [], sym, subst}
use Rattle.std.proofs.lemmas.Result.{err_from_is_err_and}
use Rattle.receipt_core.specs.declared.distrust.Distrust.{Distrust}
use Rattle.closure_parts.specs.declared.records.Insertion.{Insertion}
use Rattle.closure_parts.specs.Held.{HeldReceipts, meaning_of, AddsRecord, HasAdded}
use Rattle.plain_closure.specs.Plain.{HasPlainFlags}
use Rattle.closure_parts.proofs.HeldChangeFacts.{hoard-same, before-added}
use Rattle.plain_closure.proofs.settling.retract.Goals as goal

pub fall-requires : goal.fall-requires
fall-requires c =
    let x : Distrust = record { domain = c.args.domain.now; key = c.args.key } in
    let added : HasAdded (meaning_of c.args.held.now) x (meaning_of c.add_record.new.self) =
    subst (λ (a : Insertion). AddsRecord (meaning_of c.args.held.now) x (meaning_of c.add_record.new.self) a)
    c.in-Added.is c.in_ok-add_record.ensures.meaning in
    record {
      before = record {
        old = c.args.held.now;
        more = x ∷ [];
        before = before-added
            c.args.held.now c.add_record.new.self x added c.in_ok-add_record.ensures.arrived;
        settled =
            c.requires.settled;
      };
    }

pub returns-in-Added-clause-meaning : goal.returns-in-Added-clause-meaning
returns-in-Added-clause-meaning c =
    let x : Distrust = record { domain = c.args.domain.now; key = c.args.key } in
    let added : HasAdded (meaning_of c.args.held.now) x (meaning_of c.add_record.new.self) =
    subst (λ (a : Insertion). AddsRecord (meaning_of c.args.held.now) x (meaning_of c.add_record.new.self) a)
    c.in-Added.is c.in_ok-add_record.ensures.meaning in
    let before = before-added c.args.held.now c.add_record.new.self x added c.in_ok-add_record.ensures.arrived in
    record {
      domain = added.domain;
      unheld = added.unheld;
      few = added.few;
      meaning = added.meaning;
      loss = c.fall.ensures.loss c.args.held.now (x ∷ []) before c.requires.settled;
    }

pub returns-in-There-clause-settled : goal.returns-in-There-clause-settled
returns-in-There-clause-settled c =
    let x : Distrust = record { domain = c.args.domain.now; key = c.args.key } in
    let there = subst (λ (a : Insertion). AddsRecord (meaning_of c.args.held.now) x (meaning_of c.add_record.new.self) a)
    c.in-There.is c.in_ok-add_record.ensures.meaning in
    subst (λ (h : HeldReceipts). HasPlainFlags h c.args.pairs.now c.args.seed_offers.now c.args.released.now.items)
    (sym (hoard-same c.args.held.now c.add_record.new.self there.1 c.in_ok-add_record.ensures.arrived
    c.in_ok-add_record.ensures.capacity)) c.requires.settled

pub returns-in-There-clause-meaning : goal.returns-in-There-clause-meaning
returns-in-There-clause-meaning c =
    let x : Distrust = record { domain = c.args.domain.now; key = c.args.key } in
    let there = subst (λ (a : Insertion). AddsRecord (meaning_of c.args.held.now) x (meaning_of c.add_record.new.self) a)
    c.in-There.is c.in_ok-add_record.ensures.meaning in
    record { held = there.0; meaning = there.1 }

pub returns-in-Full-clause-settled : goal.returns-in-Full-clause-settled
returns-in-Full-clause-settled c =
    let x : Distrust = record { domain = c.args.domain.now; key = c.args.key } in
    absurd (subst (λ (a : Insertion). AddsRecord (meaning_of c.args.held.now) x (meaning_of c.add_record.new.self) a)
    c.in-Full.is c.in_ok-add_record.ensures.meaning)

pub returns-in-Full-clause-meaning : goal.returns-in-Full-clause-meaning
returns-in-Full-clause-meaning c =
    let x : Distrust = record { domain = c.args.domain.now; key = c.args.key } in
    absurd (subst (λ (a : Insertion). AddsRecord (meaning_of c.args.held.now) x (meaning_of c.add_record.new.self) a)
    c.in-Full.is c.in_ok-add_record.ensures.meaning)

pub returns-in_err-add_record-clause-settled : goal.returns-in_err-add_record-clause-settled
returns-in_err-add_record-clause-settled c =
    subst (λ (h : HeldReceipts). HasPlainFlags h c.args.pairs.now c.args.seed_offers.now c.args.released.now.items)
    (sym (hoard-same c.args.held.now c.add_record.new.self c.in_err-add_record.ensures.meaning.1
    c.in_err-add_record.ensures.arrived c.in_err-add_record.ensures.capacity)) c.requires.settled

pub returns-in_err-add_record-clause-meaning : goal.returns-in_err-add_record-clause-meaning
returns-in_err-add_record-clause-meaning c =
    let p = err_from_is_err_and c.from_residual.result c.from_residual.ensures.1 in
    rw (p.1, p.2) (record { cause = c.in_err-add_record.ensures.meaning.0; meaning = c.in_err-add_record.ensures.meaning.1 })
