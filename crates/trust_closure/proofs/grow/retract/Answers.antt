-- A record that is new closes the labels of its key.
use Rattle.std.proofs.Common.{ap, sym, subst}
use Rattle.std.proofs.lemmas.Result.{err_from_is_err_and}
use Rattle.fed_config.specs.Configuration.{Configuration, HasDomain}
use Rattle.receipt_core.specs.declared.distrust.Distrust.{Distrust}
use Rattle.receipt_core.specs.Acceptance.{Meaning}
use Rattle.closure_parts.specs.declared.records.Insertion.{Insertion}
use Rattle.closure_parts.specs.Held.{HeldReceipts, meaning_of, AddsRecord, HasAdded}
use Rattle.trust_closure.specs.Inside.Indexed.{IsIndexed}
use Rattle.closure_parts.proofs.HeldChangeFacts.{hoard-same, before-added}
use Rattle.trust_closure.proofs.grow.retract.Goals as goal

pub close-fall-requires-clause-domain : goal.close-fall-requires-clause-domain
close-fall-requires-clause-domain c =
    let x : Distrust = record { domain = c.args.domain.now; key = c.args.key } in
    let added : HasAdded (meaning_of c.args.held.now) x (meaning_of c.add_record.new.self) =
    subst (λ (a : Insertion). AddsRecord (meaning_of c.args.held.now) x (meaning_of c.add_record.new.self) a)
    c.in-Added.is c.in_ok-add_record.ensures.meaning in
    subst (λ (k : Configuration). HasDomain k c.args.domain.now) (sym (ap (λ (m : Meaning). m.config) added.meaning)) added.domain

pub close-fall-requires-clause-before : goal.close-fall-requires-clause-before
close-fall-requires-clause-before c =
    let x : Distrust = record { domain = c.args.domain.now; key = c.args.key } in
    let added : HasAdded (meaning_of c.args.held.now) x (meaning_of c.add_record.new.self) =
    subst (λ (a : Insertion). AddsRecord (meaning_of c.args.held.now) x (meaning_of c.add_record.new.self) a)
    c.in-Added.is c.in_ok-add_record.ensures.meaning in
    record {
      old = c.args.held.now;
      before =
          before-added c.args.held.now c.add_record.new.self x added c.in_ok-add_record.ensures.arrived;
      indexed =
          c.requires.indexed;
    }

pub returns-in-Added-clause-meaning : goal.returns-in-Added-clause-meaning
returns-in-Added-clause-meaning c =
    let x : Distrust = record { domain = c.args.domain.now; key = c.args.key } in
    let added : HasAdded (meaning_of c.args.held.now) x (meaning_of c.add_record.new.self) =
    subst (λ (a : Insertion). AddsRecord (meaning_of c.args.held.now) x (meaning_of c.add_record.new.self) a)
    c.in-Added.is c.in_ok-add_record.ensures.meaning in
    let before = before-added c.args.held.now c.add_record.new.self x added c.in_ok-add_record.ensures.arrived in
    record {
      domain = added.domain;
      unheld = added.unheld;
      few = added.few;
      meaning = added.meaning;
      loss = c.close-fall.ensures.loss c.args.held.now before c.requires.indexed;
    }

pub returns-in-There-clause-indexed : goal.returns-in-There-clause-indexed
returns-in-There-clause-indexed c =
    let x : Distrust = record { domain = c.args.domain.now; key = c.args.key } in
    let there = subst (λ (a : Insertion). AddsRecord (meaning_of c.args.held.now) x (meaning_of c.add_record.new.self) a)
    c.in-There.is c.in_ok-add_record.ensures.meaning in
    subst (λ (h : HeldReceipts). IsIndexed h c.args.pairs.now c.args.label_index.now)
    (sym (hoard-same c.args.held.now c.add_record.new.self there.1 c.in_ok-add_record.ensures.arrived
    c.in_ok-add_record.ensures.capacity)) c.requires.indexed

pub returns-in-There-clause-meaning : goal.returns-in-There-clause-meaning
returns-in-There-clause-meaning c =
    let x : Distrust = record { domain = c.args.domain.now; key = c.args.key } in
    let there = subst (λ (a : Insertion). AddsRecord (meaning_of c.args.held.now) x (meaning_of c.add_record.new.self) a)
    c.in-There.is c.in_ok-add_record.ensures.meaning in
    record { held = there.0; meaning = there.1 }

pub returns-in-Full-clause-indexed : goal.returns-in-Full-clause-indexed
returns-in-Full-clause-indexed c =
    let x : Distrust = record { domain = c.args.domain.now; key = c.args.key } in
    absurd (subst (λ (a : Insertion). AddsRecord (meaning_of c.args.held.now) x (meaning_of c.add_record.new.self) a)
    c.in-Full.is c.in_ok-add_record.ensures.meaning)

pub returns-in-Full-clause-meaning : goal.returns-in-Full-clause-meaning
returns-in-Full-clause-meaning c =
    let x : Distrust = record { domain = c.args.domain.now; key = c.args.key } in
    absurd (subst (λ (a : Insertion). AddsRecord (meaning_of c.args.held.now) x (meaning_of c.add_record.new.self) a)
    c.in-Full.is c.in_ok-add_record.ensures.meaning)

pub returns-in_err-add_record-clause-indexed : goal.returns-in_err-add_record-clause-indexed
returns-in_err-add_record-clause-indexed c =
    subst (λ (h : HeldReceipts). IsIndexed h c.args.pairs.now c.args.label_index.now)
    (sym (hoard-same c.args.held.now c.add_record.new.self c.in_err-add_record.ensures.meaning.1
    c.in_err-add_record.ensures.arrived c.in_err-add_record.ensures.capacity)) c.requires.indexed

pub returns-in_err-add_record-clause-meaning : goal.returns-in_err-add_record-clause-meaning
returns-in_err-add_record-clause-meaning c =
    let p = err_from_is_err_and c.from_residual.result c.from_residual.ensures.1 in
    rw (p.1, p.2) (record { cause = c.in_err-add_record.ensures.meaning.0; meaning = c.in_err-add_record.ensures.meaning.1 })

pub returns-in-Added-clause-work : goal.returns-in-Added-clause-work
returns-in-Added-clause-work c spare =
    let x : Distrust = record { domain = c.args.domain.now; key = c.args.key } in
    let added : HasAdded (meaning_of c.args.held.now) x (meaning_of c.add_record.new.self) = subst
    (λ (a : Insertion). AddsRecord (meaning_of c.args.held.now) x (meaning_of c.add_record.new.self) a)
    c.in-Added.is c.in_ok-add_record.ensures.meaning in
    let before = before-added c.args.held.now c.add_record.new.self x added
    c.in_ok-add_record.ensures.arrived in
    c.close-fall.ensures.work c.args.held.now spare c.args.work.now before c.requires.indexed
