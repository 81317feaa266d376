-- What is held after lines were offered.
use Rattle.std.proofs.Common.{◌≡◌, ℕ, ◌⊎◌, inl, inr, List, [], ◌∷◌, refl, sym, ap, ◌∙◌, subst}
use Rattle.std.specs.Prelude.{◌↔◌, Contains}
use Rattle.std.specs.List.{AllByRecursion}
use Rattle.fed_config.specs.Configuration.{Configuration}
use Rattle.receipt_core.specs.Receipt.{IsReceipt}
use Rattle.receipt_core.specs.Acceptance.{Meaning, IsMeaning}
use Rattle.replica_core.specs.Absorbing.{with_entry}
use Rattle.replica_core.specs.declared.entry.Entry.{Entry}
use Rattle.replica_core.specs.declared.entry.Entry.TheVariants.{Record, Receipt as AReceipt}
use Rattle.replica_core.proofs.ContainsFacts.{contains-here, contains-later, contains-cases, contains-none}
use Rattle.replica_texts.specs.declared.entry_line.Wanted.TheVariants.{Either}
use Rattle.replica_texts.specs.Entries.{IsEntry, entry_line}
use Rattle.side_by_side.specs.declared.fate.Fate.{Fate}
use Rattle.side_by_side.specs.declared.fate.Fate.TheVariants.{Taken, Held, Unfit, NoPlace, Unread}
use Rattle.side_by_side.specs.Offering.{FitsEntry, HasTakenOffered, IsEntryHeld, IsFullFor, Kept, OffersInTurn, OffersLine}
use Rattle.side_by_side.specs.Promise.{AddsFitting, AddsOnlyFitting, LinesSay, TakesFitting}
use Rattle.side_by_side.proofs.EntryFacts.{SetLaws, IsTidier, tidier_same, tidier_then, tidier_new, full_still, config_same, one_entry, says_none}
use Rattle.side_by_side.proofs.EntryFacts.{holds_cases, holds_new, holds_old}

-- What was offered and fits is held, unless it is among what had no place.
abbrev pub TakesAll : Meaning → (Entry → Type 0) → Meaning → List Fate → Type 0
TakesAll old P new fates = (e : Entry) → P e → FitsEntry old.config e → IsEntryHeld new e ⊎ (IsFullFor new e × Contains fates NoPlace)

-- Only what was offered and fits is added, all of it that had a place, and what is held is tidy.
pub record Adds (old : Meaning) (P : Entry → Type 0) (new : Meaning) (fates : List Fate) : Type 0 where
  pub only : AddsOnlyFitting old P new
  pub all : TakesAll old P new fates
  pub tidier : IsTidier old new

-- ---- one line

-- Nothing changes.
adds_still : (old new : Meaning) (P : Entry → Type 0) (fates : List Fate) → new ≡ old → TakesAll old P old fates → Adds old P new fates
adds_still old new P fates same all =
    subst (λ (m : Meaning). Adds old P m fates) (sym same) (record {
      only = record { config = refl; keeps = λ e h. h; only = λ e h. inl h };
      all = all;
      tidier = tidier_same old;
    })

-- One is taken.
adds_taken : SetLaws → (old new : Meaning) (text : List ℕ) (e : Entry) (fates : List Fate) → AllByRecursion IsReceipt old.held → IsEntry Either text e
    → HasTakenOffered old e new → Adds old (IsEntry Either text) new fates
adds_taken laws old new text e fates forms is h =
    subst (λ (m : Meaning). Adds old (IsEntry Either text) m fates) (sym h.meaning) (record {
      only = record {
        config = config_same old e;
        keeps = λ d has. holds_old laws old e d is.is forms has;
        only = λ d has. elim (holds_cases laws old e d is.is forms has) [
          | inl same ↦ inr (subst (λ (d : Entry). IsEntry Either text d × FitsEntry old.config d) same (is, h.fits))
          | inr before ↦ inl before
        ];
      };
      all = λ d says fits. inl (subst (IsEntryHeld (with_entry e old)) (one_entry e d is.is says.is (sym is.spelt ∙ says.spelt))
          (holds_new laws old e is.is forms));
      tidier = tidier_new laws old e is.is forms h.unheld;
    })

-- What one line says is one thing.
same_said : (text : List ℕ) (e d : Entry) → IsEntry Either text e → IsEntry Either text d → e ≡ d
same_said text e d p q = one_entry e d p.is q.is (sym p.spelt ∙ q.spelt)

-- One line.
adds_line : SetLaws → (old : Kept) (text : List ℕ) (new : Kept) (fate : Fate) → AllByRecursion IsReceipt old.meaning.held → OffersLine old text new fate
    → Adds old.meaning (IsEntry Either text) new.meaning (fate ∷ [])
adds_line laws old text new Taken forms h = adds_taken laws old.meaning new.meaning text h.entry (Taken ∷ []) forms h.is h.offers.takes
adds_line laws old text new Held forms h =
    adds_still old.meaning new.meaning (IsEntry Either text) (Held ∷ []) h.offers.takes.0
    (λ d says fits. inl (subst (IsEntryHeld old.meaning) (same_said text h.entry d h.is says) h.offers.takes.1))
adds_line laws old text new Unfit forms h =
    adds_still old.meaning new.meaning (IsEntry Either text) (Unfit ∷ []) h.offers.takes.0
    (λ d says fits. absurd (h.offers.takes.1 (subst (FitsEntry old.meaning.config) (same_said text d h.entry says h.is) fits)))
adds_line laws old text new NoPlace forms h =
    adds_still old.meaning new.meaning (IsEntry Either text) (NoPlace ∷ []) h.offers.takes.0
    (λ d says fits. inr (subst (IsFullFor old.meaning) (same_said text h.entry d h.is says) h.offers.takes.1.full, contains-here NoPlace []))
adds_line laws old text new Unread forms h =
    adds_still old.meaning new.meaning (IsEntry Either text) (Unread ∷ []) (ap (λ (k : Kept). k.meaning) h.0)
    (λ d says fits. absurd (says_none text d h.1 says))

-- ---- lines in turn

-- Nothing was offered.
adds_none : (old new : Meaning) → new ≡ old → Adds old (LinesSay []) new []
adds_none old new same = adds_still old new (LinesSay []) [] same (λ e says fits. absurd (contains-none (entry_line e) says.line))

-- What the lines say is said by the first one or by a later one.
said_cases : (text : List ℕ) (texts : List (List ℕ)) (e : Entry) → LinesSay (text ∷ texts) e → IsEntry Either text e ⊎ LinesSay texts e
said_cases text texts e says = elim (contains-cases text texts (entry_line e) says.line) [
  | inl same ↦ inl (record { is = says.form; spelt = sym same })
  | inr later ↦ inr (record { form = says.form; line = later })
]

pub said_first : (text : List ℕ) (texts : List (List ℕ)) (e : Entry) → IsEntry Either text e → LinesSay (text ∷ texts) e
said_first text texts e is = record { form = is.is; line = subst (Contains (text ∷ texts)) is.spelt (contains-here text texts) }

pub said_later : (text : List ℕ) (texts : List (List ℕ)) (e : Entry) → LinesSay texts e → LinesSay (text ∷ texts) e
said_later text texts e says = record { form = says.form; line = contains-later text texts (entry_line e) says.line }

-- A first line, and then the later ones.
adds_then : (old now new : Meaning) (text : List ℕ) (texts : List (List ℕ)) (fate : Fate) (fates : List Fate)
    → Adds old (IsEntry Either text) now (fate ∷ []) → Adds now (LinesSay texts) new fates → Adds old (LinesSay (text ∷ texts)) new (fate ∷ fates)
adds_then old now new text texts fate fates p q = record {
  only = record {
    config = q.only.config ∙ p.only.config;
    keeps = λ e has. q.only.keeps e (p.only.keeps e has);
    only = λ e has. elim (q.only.only e has) [
      | inl before ↦ elim (p.only.only e before) [
        | inl older ↦ inl older
        | inr first ↦ inr (said_first text texts e first.0, first.1)
      ]
      | inr later ↦ inr (said_later text texts e later.0, subst (λ (c : Configuration). FitsEntry c e) p.only.config later.1)
    ];
  };
  all = λ e says fits. elim (said_cases text texts e says) [
    | inl first ↦ elim (p.all e first fits) [
      | inl has ↦ inl (q.only.keeps e has)
      | inr full ↦ inr (
        full_still now new e q.only.config q.tidier full.0,
        elim (contains-cases fate [] NoPlace full.1) [
          | inl same ↦ subst (Contains (fate ∷ fates)) (sym same) (contains-here fate fates)
          | inr none ↦ absurd (contains-none NoPlace none)
        ],
      )
    ]
    | inr later ↦ elim (q.all e later (subst (λ (c : Configuration). FitsEntry c e) (sym p.only.config) fits)) [
      | inl has ↦ inl has
      | inr full ↦ inr (full.0, contains-later fate fates NoPlace full.1)
    ]
  ];
  tidier = tidier_then old now new p.tidier q.tidier;
}

-- All lines.
pub adds_in_turn : SetLaws → (old : Kept) (texts : List (List ℕ)) (new : Kept) (fates : List Fate) → AllByRecursion IsReceipt old.meaning.held
    → OffersInTurn old texts new fates → Adds old.meaning (LinesSay texts) new.meaning fates
adds_in_turn laws old [] new [] forms h = adds_none old.meaning new.meaning (ap (λ (k : Kept). k.meaning) h)
adds_in_turn laws old [] new (fate ∷ fates) forms h = absurd h
adds_in_turn laws old (text ∷ texts) new [] forms h = absurd h
adds_in_turn laws old (text ∷ texts) new (fate ∷ fates) forms h =
    let between = h.0 in
    let first = adds_line laws old text between fate forms h.1 in
    adds_then old.meaning between.meaning new.meaning text texts fate fates first
    (adds_in_turn laws between texts new fates (first.tidier.forms forms) h.2)

-- ---- what callers cite

-- Less is offered by the first lines than by all.
pub only_first : (old : Meaning) (new : Meaning) (texts more : List (List ℕ)) → ((t : List ℕ) → Contains texts t → Contains more t)
    → AddsOnlyFitting old (LinesSay texts) new → AddsOnlyFitting old (LinesSay more) new
only_first old new texts more within h = record {
  config = h.config;
  keeps = h.keeps;
  only = λ e has. elim (h.only e has) [
    | inl before ↦ inl before
    | inr came ↦ inr (record { form = came.0.form; line = within (entry_line e) came.0.line }, came.1)
  ];
}

pub takes_fitting : (old new : Meaning) (P : Entry → Type 0) (fates : List Fate) → Adds old P new fates → TakesFitting old P new
takes_fitting old new P fates h = λ e says fits. elim (h.all e says fits) [
  | inl has ↦ inl has
  | inr full ↦ inr full.0
]

-- The law `adds`.
pub adds_law : SetLaws → (old new : Kept) (texts : List (List ℕ)) (fates : List Fate) → IsMeaning old.meaning → OffersInTurn old texts new fates
    → AddsFitting old.meaning (LinesSay texts) new.meaning
adds_law laws old new texts fates is h =
    let adds = adds_in_turn laws old texts new fates is.receipts h in
    record { only = adds.only; all = takes_fitting old.meaning new.meaning (LinesSay texts) fates adds }

-- ---- twice

-- Two that have the same parts are the same.
kept_same : (k m : Kept) → k.meaning ≡ m.meaning → k.journal ≡ m.journal → k ≡ m
kept_same k m a b = λ i. record { meaning = a i; journal = b i }

-- Each line that says something that fits says what is held, or has no place: so nothing changes.
abbrev HasAll : Meaning → List (List ℕ) → Type 0
HasAll m texts = (e : Entry) → LinesSay texts e → FitsEntry m.config e → IsEntryHeld m e ⊎ IsFullFor m e

still_line : (now : Kept) (text : List ℕ) (texts : List (List ℕ)) (new : Kept) (fate : Fate) → HasAll now.meaning (text ∷ texts) → OffersLine now text new fate
    → new ≡ now
still_line now text texts new Taken all h = absurd (elim (all h.entry (said_first text texts h.entry h.is) h.offers.takes.fits) [
  | inl has ↦ h.offers.takes.unheld has
  | inr full ↦ h.offers.takes.place full
])
still_line now text texts new Held all h = kept_same new now h.offers.takes.0 h.offers.journal
still_line now text texts new Unfit all h = kept_same new now h.offers.takes.0 h.offers.journal
still_line now text texts new NoPlace all h = kept_same new now h.offers.takes.0 h.offers.journal
still_line now text texts new Unread all h = h.0

still_in_turn : (now : Kept) (texts : List (List ℕ)) (new : Kept) (fates : List Fate) → HasAll now.meaning texts → OffersInTurn now texts new fates → new ≡ now
still_in_turn now [] new [] all h = h
still_in_turn now [] new (fate ∷ fates) all h = absurd h
still_in_turn now (text ∷ texts) new [] all h = absurd h
still_in_turn now (text ∷ texts) new (fate ∷ fates) all h =
    still_in_turn now texts new fates (λ e says fits. all e (said_later text texts e says) fits)
    (subst (λ (k : Kept). OffersInTurn k texts new fates) (still_line now text texts h.0 fate all h.1) h.2)

-- The law `twice`.
pub twice_law : SetLaws → (old now new : Kept) (texts : List (List ℕ)) (fates more : List Fate) → IsMeaning old.meaning → OffersInTurn old texts now fates
    → OffersInTurn now texts new more → new ≡ now
twice_law laws old now new texts fates more is first again =
    let adds = adds_law laws old now texts fates is first in
    still_in_turn now texts new more
    (λ e says fits. adds.all e says (subst (λ (c : Configuration). FitsEntry c e) adds.only.config fits)) again

-- ---- order

-- All that fits had a place, so exactly this is held.
exactly : (old new : Meaning) (P : Entry → Type 0) (fates : List Fate) → Adds old P new fates → (Contains fates NoPlace → ⊥) → (e : Entry)
    → IsEntryHeld new e ↔ (IsEntryHeld old e ⊎ (P e × FitsEntry old.config e))
exactly old new P fates h placed e = (
  λ has. h.only.only e has,
  λ came. elim came [
    | inl before ↦ h.only.keeps e before
    | inr fits ↦ elim (h.all e fits.0 fits.1) [
      | inl has ↦ has
      | inr full ↦ absurd (placed full.1)
    ]
  ],
)

-- What the one holds the other holds too.
one_way : (old one other : Meaning) (texts others : List (List ℕ)) (fates more : List Fate) → Adds old (LinesSay texts) one fates
    → Adds old (LinesSay others) other more → ((text : List ℕ) → Contains texts text → Contains others text) → (Contains more NoPlace → ⊥)
    → (e : Entry) → IsEntryHeld one e → IsEntryHeld other e
one_way old one other texts others fates more p q within placed e has = elim (p.only.only e has) [
  | inl before ↦ q.only.keeps e before
  | inr came ↦ (exactly old other (LinesSay others) more q placed e).1
      (inr (record { form = came.0.form; line = within (entry_line e) came.0.line }, came.1))
]

-- The law `order`.
pub order_law : SetLaws → (old one other : Kept) (texts others : List (List ℕ)) (fates more : List Fate) → IsMeaning old.meaning
    → OffersInTurn old texts one fates → OffersInTurn old others other more
    → ((text : List ℕ) → (Contains texts text ↔ Contains others text))
    → (Contains fates NoPlace → ⊥) → (Contains more NoPlace → ⊥) → one.meaning ≡ other.meaning
order_law laws old one other texts others fates more is first second same placed placed_too =
    let p = adds_in_turn laws old texts one fates is.receipts first in
    let q = adds_in_turn laws old others other more is.receipts second in
    let there = one_way old.meaning one.meaning other.meaning texts others fates more p q (λ t. (same t).0) placed_too in
    let back = one_way old.meaning other.meaning one.meaning others texts more fates q p (λ t. (same t).1) placed in
    let held : one.meaning.held ≡ other.meaning.held =
    laws.receipts.equal one.meaning.held other.meaning.held (p.tidier.rising is.rising) (q.tidier.rising is.rising)
    (λ r. (there (AReceipt r), back (AReceipt r))) in
    let records : one.meaning.records ≡ other.meaning.records =
    laws.records.equal one.meaning.records other.meaning.records (p.tidier.records_rising is.records_rising) (q.tidier.records_rising is.records_rising)
    (λ x. (there (Record x), back (Record x))) in
    let config = p.only.config ∙ sym q.only.config in
    λ i. record { config = config i; held = held i; records = records i }
