use Rattle.std.proofs.Common.{◌∙◌, ◌++◌, [], ◌∷◌, map, append-nil, ap, sym}
use Rattle.std.proofs.lemmas.List.{map-append}
use Rattle.bundle_doc.specs.Bundle.{Bundle}
use Rattle.bundle_view.specs.Conflicts.{ConflictGroup, reported_by}
use Rattle.bundle_view.proofs.ConflictFacts.{absent_rank, single, one_clash}
use Rattle.bundle_view.proofs.conflict.add_conflict.Goals as goal

pub returns-in_default : goal.returns-in_default
returns-in_default c = record {
  clashes = [];
  are = absent_rank c.args.group.now (λ d h. c.requires.alike d c.index-group-0.result h
      (0, c.requires.some, sym c.index-group-0.is) ∙ ap (λ (b : Bundle). b.rank) (sym c.document.ensures)
      ∙ sym c.rank.ensures ∙ c.in_default.is);
  now = sym (append-nil (map reported_by c.args.found.now.items));
}

pub returns-then-group-lt2 : goal.returns-then-group-lt2
returns-then-group-lt2 c = record {
  clashes = [];
  are = single c.args.group.now c.if-group-lt2.true;
  now =
      sym (append-nil (map reported_by c.args.found.now.items));
}

pub returns : goal.returns
returns c =
    let it : ConflictGroup = record { sequence = c.in-Some.sequence; kind = c.kind_of.result; documents = c.args.group.now } in
    record {
      clashes = it ∷ [];
      are = one_clash c.args.group.now c.in-Some.sequence c.kind_of.result c.requires.rising
          (λ d h. c.requires.alike d c.index-group-0.result h (0, c.requires.some, sym c.index-group-0.is)
          ∙ ap (λ (b : Bundle). b.rank) (sym c.document.ensures) ∙ sym c.rank.ensures ∙ c.in-Some.is)
          c.if-group-lt2.false c.kind_of.ensures;
      now = ap (map reported_by) c.in_ok-push.ensures.items ∙ map-append reported_by c.args.found.now.items _
          ∙ (λ i. map reported_by c.args.found.now.items ++ record {
            domain = c.in_ok-try_clone.ensures i;
            sequence =
                c.in-Some.sequence;
            kind = c.kind_of.result;
            documents = c.in_ok-documents.ensures i;
          } ∷ []);
    }
