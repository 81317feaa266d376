-- Chains, one receipt after another; and that their ends are accepted.
use Rattle.std.proofs.Common.{◌≡◌, List, [], ◌∷◌, ◌++◌, ◌↔◌, Bool, false, IsTrue, refl, sym, subst, arith, get_or}
use Rattle.std.specs.Prelude.{Contains, Any}
use Rattle.std.specs.List.{AllByRecursion}
use Rattle.bundle_doc.specs.Bundle.{HasKeyId, doc_id_of}
use Rattle.fed_config.specs.Configuration.{Configuration}
use Rattle.fed_config.specs.declared.seed.Seed.{Seed}
use Rattle.receipt_core.specs.declared.distrust.Distrust.{Distrust}
use Rattle.receipt_core.specs.declared.triple.Triple.{Triple}
use Rattle.receipt_core.specs.Receipt.{Receipt, Pair, pair_of, need_of, offers_of}
use Rattle.receipt_core.specs.Acceptance.{Vouches, Leads, Meaning, IsMember, distrust_of, pair_of_seed}
use Rattle.receipt_core.specs.Chain.{HasVoucher, IsChain, IsFirst, LeadsOn, last_pair}
use Rattle.receipt_core.proofs.VouchingFacts.{Vouches-by_offers}

-- a member is an element with the property of being it; the code's searches say it so
pub any_from_contains : {A : Type 0} (xs : List A) (a : A) → Contains xs a → Any (λ x. x ≡ a) xs
any_from_contains xs a h = (h.0, a, h.1, h.2, refl)

-- the other way round
pub contains_from_any : {A : Type 0} (xs : List A) (a : A) → Any (λ x. x ≡ a) xs → Contains xs a
contains_from_any {A} xs a h = (h.0, h.2, subst (λ (y : A). get_or xs h.0 y ≡ y) h.4 h.3)

-- a search over an equal list for an equal triple has the same outcome
pub any_moved : (xs ys : List Triple) (a b : Triple) (r : Bool) → xs ≡ ys → a ≡ b → (IsTrue r ↔ Any (λ t. t ≡ a) xs) → IsTrue r ↔ Any (λ t. t ≡ b) ys
any_moved xs ys a b r e f h = subst (λ (zs : List Triple). IsTrue r ↔ Any (λ t. t ≡ b) zs) e (subst (λ (z : Triple). IsTrue r ↔ Any (λ t. t ≡ z) xs) f h)

-- if the key is not distrusted, the search for the need among the offers decides whether a
-- document vouches
pub next_stated : (records : List Distrust) (p : Pair) (r : Receipt) (b : Bool) → (Contains records (distrust_of r.endpoint.domain r) → ⊥)
    → (IsTrue b ↔ Any (λ t. t ≡ need_of r) (offers_of p)) → IsTrue b ↔ Vouches records p r
next_stated records p r b trusted h = (
  λ t. (Vouches-by_offers records p r).1 (
    contains_from_any (offers_of p) (need_of r) (h.0 t),
    trusted,
  ),
  λ v. h.1 (any_from_contains (offers_of p) (need_of r) ((Vouches-by_offers records p r).0 v).0),
)

-- if the key is distrusted, no document vouches
pub distrusted_stated : (records : List Distrust) (p : Pair) (r : Receipt) → Contains records (distrust_of r.endpoint.domain r) → Vouches records p r → ⊥
distrusted_stated records p r h v = ((Vouches-by_offers records p r).0 v).1 h

-- the configured document has what the receipt needs
abbrev pub IsVoucher : Receipt → Seed → Type 0
IsVoucher r s = (s.domain ≡ r.endpoint.domain) × HasKeyId s.document.authorities r.key × (doc_id_of s.domain s.document ≡ r.voucher.0)

-- if the key is not distrusted, the search among configured documents decides whether one vouches
pub seeded_stated : (c : Configuration) (seeds : List Seed) (records : List Distrust) (r : Receipt) (b : Bool)
    → seeds ≡ c.seeds → (Contains records (distrust_of r.endpoint.domain r) → ⊥)
    → (IsTrue b ↔ Any (IsVoucher r) seeds) → IsTrue b ↔ HasVoucher c records r
seeded_stated c seeds records r b e trusted h = (
  λ t.
      let found = subst (λ (zs : List Seed). Any (IsVoucher r) zs) e (h.0 t) in
      record {
        seed = found.1;
        configured = (found.0, found.2, found.3);
        vouches = record {
          endpoint = found.4.0;
          voucher = found.4.2;
          key = found.4.1;
          trusted = λ k. trusted (subst (λ d. Contains records (distrust_of d r)) found.4.0 k);
        };
      },
  λ f. h.1 (subst (λ (zs : List Seed). Any (IsVoucher r) zs) (sym e)
      (f.configured.0, f.seed, f.configured.1, f.configured.2, (f.vouches.endpoint, f.vouches.key, f.vouches.voucher))),
)

-- if the key is distrusted, no configured document vouches
pub distrusted_seeded : (c : Configuration) (records : List Distrust) (r : Receipt)
    → Contains records (distrust_of r.endpoint.domain r) → HasVoucher c records r → ⊥
distrusted_seeded c records r h f = distrusted_stated records (pair_of_seed f.seed) r h f.vouches

-- a chain is its first receipt and what that leads on to
pub chain_stated : (c : Configuration) (records : List Distrust) (r : Receipt) (rest : List Receipt) (b : Bool)
    → IsFirst c records r → (IsTrue b ↔ LeadsOn c records (pair_of r) rest) → IsTrue b ↔ IsChain c records (r ∷ rest)
chain_stated c records r rest b f h = (
  λ t. record { some = omega arith; seed = f.1.seed; configured = f.1.configured; leads = (f.0, f.1.vouches, h.0 t) },
  λ k. h.1 k.leads.2,
)

-- if the first receipt starts no chain, there is no chain
pub no_first : (c : Configuration) (records : List Distrust) (r : Receipt) (rest : List Receipt) → (IsFirst c records r → ⊥) → IsChain c records (r ∷ rest) → ⊥
no_first c records r rest none k = none (k.leads.0, record { seed = k.seed; configured = k.configured; vouches = k.leads.1 })

-- if nothing is so, `false` is the right result
pub stated_no : (P : Type 0) (b : Bool) → b ≡ false → (P → ⊥) → IsTrue b ↔ P
stated_no P b e none = (λ t. absurd (cc), λ p. absurd (none p))

-- if a test has the result `false`, nothing is so
pub not_stated : (P : Type 0) (b : Bool) → (IsTrue b ↔ P) → b ≡ false → P → ⊥
not_stated P b h e p = let yes = h.1 p in cc

-- ---- the end of a chain is accepted

-- a chain leads on also under fewer records of distrust
fewer_records : (c : Configuration) (records fewer : List Distrust) (from to : Pair) (chain : List Receipt)
    → ((x : Distrust) → Contains fewer x → Contains records x)
    → Leads c records from chain to → Leads c fewer from chain to
fewer_records c records fewer from to [] within h = h
fewer_records c records fewer from to (r ∷ chain) within h = (
  h.0,
  record { endpoint = h.1.endpoint; voucher = h.1.voucher; key = h.1.key; trusted = λ k. h.1.trusted (within (distrust_of from.domain r) k) },
  fewer_records c records fewer (pair_of r) to chain within h.2,
)

-- a document that a chain of held receipts leads to is accepted
pub IsMember-chain : (m : Meaning) (records : List Distrust) (chain : List Receipt) (h : IsChain m.config records chain)
    → AllByRecursion (Contains m.held) chain
    → ((x : Distrust) → Contains m.records x → Contains records x) → IsMember m (last_pair (pair_of_seed h.seed) chain)
IsMember-chain m records chain h held within = record {
  seed = h.seed;
  configured = h.configured;
  chain = chain;
  held = held;
  leads = fewer_records m.config records m.records (pair_of_seed h.seed) (last_pair (pair_of_seed h.seed) chain) chain within h.leads;
}

-- a chain with one more receipt ends in that one's document
last_pair-push : (from : Pair) (front : List Receipt) (r : Receipt) → last_pair from (front ++ r ∷ []) ≡ pair_of r
last_pair-push from [] r = refl
last_pair-push from (x ∷ front) r = last_pair-push (pair_of x) front r

-- the document of the last receipt of a chain is accepted, as `laws::chains` says
pub accepted_end : (m : Meaning) (records : List Distrust) (front : List Receipt) (r : Receipt)
    → IsChain m.config records (front ++ r ∷ []) → AllByRecursion (Contains m.held) (front ++ r ∷ [])
    → ((x : Distrust) → Contains m.records x → Contains records x) → IsMember m (pair_of r)
accepted_end m records front r h held within =
    subst (IsMember m) (last_pair-push (pair_of_seed h.seed) front r) (IsMember-chain m records (front ++ r ∷ []) h held within)
