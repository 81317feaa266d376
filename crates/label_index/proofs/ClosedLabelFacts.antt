-- The labels that are meant are listed by their numbers, and closed together
use Rattle.std.proofs.Common.{◌≡◌, ℕ, ◌+◌, ◌<◌, ◌≤◌, inl, inr, ◌⊎◌, List, [], ◌∷◌, ◌++◌}
use Rattle.std.proofs.Common.{length, Some, arith, refl, sym, ap, ◌∙◌, subst}
use Rattle.std.specs.Prelude.{All, Contains, slice_get, ◌↔◌}
use Rattle.std.proofs.lemmas.Bool.{cases_order}
use Rattle.std.proofs.lemmas.List.Elements.{All-contains, All-push, Contains-push}
use Rattle.std.proofs.lemmas.List.Elements.{Contains-push_cases, Contains-append_left}
use Rattle.std.proofs.lemmas.Option.{slice_get_within, same_Some}
use Rattle.wait_index.specs.Net.{Net, with_all_closed}
use Rattle.wait_index.proofs.NetLawFacts.{closed-all, length-all_set}
use Rattle.label_index.specs.declared.label.Label.{Label}
use Rattle.label_index.specs.Labels.{AreNumbersOf, HasClosed}

-- ---- the numbers of the labels that are meant, among the first ones

-- the listed numbers are those of the labels before the place that are meant
pub record AreNumbersBelow (labels : List Label) (IsMeant : Label → Type 0) (count : ℕ)
    (numbers : List ℕ) : Type 0 where
  pub within : All (λ number. number < count) numbers
  pub exactly : (number : ℕ) (label : Label) → number < count
      → slice_get labels number ≡ Some label
      → Contains numbers number ↔ IsMeant label

module _ (labels : List Label) (IsMeant : Label → Type 0) where
  -- Before the first label none is listed.
  pub meant-none : AreNumbersBelow labels IsMeant 0 []
  meant-none = record {
    within = λ k d l. absurd (omega (arith, l));
    exactly = λ number label l. absurd (omega (arith, l));
  }

  module _ (count : ℕ) (numbers : List ℕ) (h : AreNumbersBelow labels IsMeant count numbers)
      (here : Label) (at : slice_get labels count ≡ Some here) where
    -- the numbers below the next one are those below this one, and this one
    below-cases : (number : ℕ) → number < count + 1 → (number < count) ⊎ (number ≡ count)
    below-cases number l =
        elim (cases_order number count) [
          | inl e ↦ inr e
          | inr c ↦ elim c [ inl b ↦ inl b | inr b ↦ absurd (omega (arith, b, l)) ]
        ]

    -- The label at the place is the one that was looked at.
    same-label : (number : ℕ) (label : Label) → number ≡ count
        → slice_get labels number ≡ Some label → here ≡ label
    same-label number label e is =
        same_Some here label (sym at ∙ ap (λ n. slice_get labels n) (sym e) ∙ is)

    -- A label that is meant is listed next.
    pub meant-more : IsMeant here
        → AreNumbersBelow labels IsMeant (count + 1) (numbers ++ count ∷ [])
    meant-more meant = record {
      within = All-push (λ number. number < count + 1) numbers count
          (λ k d l. let w = h.within k d l in omega (arith, w)) (omega arith);
      exactly = λ number label l is.
          elim (below-cases number l) [
            | inl b ↦
                let old = h.exactly number label b is in (
                  λ c.
                      elim (Contains-push_cases numbers count number c) [
                        | inl a ↦ old.0 a
                        | inr e ↦ absurd (omega (arith, e, b))
                      ],
                  λ m. Contains-append_left numbers (count ∷ []) number (old.1 m),
                )
            | inr e ↦
                let same = same-label number label e is in (
                  λ _. subst IsMeant same meant,
                  λ _.
                      subst (Contains (numbers ++ count ∷ [])) (sym e)
                      (Contains-push numbers count),
                )
          ];
    }

    -- A label that is not meant is passed over.
    pub meant-same : (IsMeant here → ⊥) → AreNumbersBelow labels IsMeant (count + 1) numbers
    meant-same not_meant = record {
      within = λ k d l. let w = h.within k d l in omega (arith, w);
      exactly = λ number label l is.
          elim (below-cases number l) [
            | inl b ↦ h.exactly number label b is
            | inr e ↦
                let same = same-label number label e is in (
                  λ c.
                      let w = All-contains (λ n. n < count) numbers number h.within c in
                      absurd (omega (arith, w, e)),
                  λ m. absurd (not_meant (subst IsMeant (sym same) m)),
                )
          ];
    }

  -- At the end the list has all labels that are meant.
  pub meant-all : (count : ℕ) (numbers : List ℕ) → AreNumbersBelow labels IsMeant count numbers
      → length labels ≤ count → count ≤ length labels → AreNumbersOf labels IsMeant numbers
  meant-all count numbers h least most = record {
    within = λ k d l. let w = h.within k d l in omega (arith, w, most);
    exactly = λ number label at.
        let within = slice_get_within labels number label at in
        h.exactly number label (omega (arith, within, least)) at;
  }

  -- ---- they are closed together

  -- When the listed labels are closed, exactly the ones that are meant are closed in addition.
  pub closed-at-once : (numbers : List ℕ) (net : Net) → AreNumbersOf labels IsMeant numbers
      → length net.closed ≡ length labels
      → HasClosed net labels IsMeant (with_all_closed net numbers)
  closed-at-once numbers net are sizes = record {
    flags = (with_all_closed net numbers).closed;
    sizes = length-all_set numbers net.closed;
    closed = λ number label at.
        let within = slice_get_within labels number label at in
        let h = closed-all net numbers number (omega (arith, within, sizes)) in
        let k = are.exactly number label at in (
          λ t. elim (h.0 t) [ inl a ↦ inl a | inr b ↦ inr (k.0 b) ],
          λ t. h.1 (elim t [ inl a ↦ inl a | inr b ↦ inr (k.1 b) ]),
        );
    net_is = refl;
  }
