-- What is accepted: the least set, and what makes it larger or smaller
use Rattle.std.proofs.Common.{◌≡◌, ◌⊎◌, inl, inr, List, [], ◌∷◌, ◌++◌, refl, sym, subst}
use Rattle.std.specs.List.{Contains, AllByRecursion}
use Rattle.fed_config.specs.Configuration.{Configuration}
use Rattle.fed_config.specs.declared.seed.Seed.{Seed}
use Rattle.receipt_core.specs.declared.distrust.Distrust.{Distrust}
use Rattle.receipt_core.specs.Receipt.{Receipt, Pair, pair_of}
use Rattle.receipt_core.specs.Acceptance.{IsFitting, Vouches, Leads, Meaning, IsMember, IsPending, IsReleased, IsClosed, pair_of_seed}
use Rattle.closure_core.specs.Alike.{AreAlike, IsSameTrust}
use Rattle.closure_core.proofs.AlikeFacts.{fits_alike, same_of_equal, same_turned}

-- ---- a chain continues by one

-- A chain continues by a receipt for which the document at its end vouches.
pub leads_more : (c : Configuration) (records : List Distrust) (from : Pair) (chain : List Receipt) (to : Pair)
    (r : Receipt) → Leads c records from chain to → IsFitting c r → Vouches records to r
    → Leads c records from (chain ++ r ∷ []) (pair_of r)
leads_more c records from [] to r leads fits vouches = (fits, subst (λ (p : Pair). Vouches records p r) (sym leads) vouches, refl)
leads_more c records from (s ∷ chain) to r leads fits vouches = (leads.0, leads.1, leads_more c records (pair_of s) chain to r leads.2 fits vouches)

-- What holds of all items of a list, and of one more, holds of the longer list.
pub all_more : {X : Type 0} (P : X → Type 0) (xs : List X) (x : X) → AllByRecursion P xs → P x → AllByRecursion P (xs ++ x ∷ [])
all_more P [] x all h = (h, tt)
all_more P (y ∷ ys) x all h = (all.0, all_more P ys x all.1 h)

-- A held receipt that an accepted document vouches for makes its own document accepted.
pub member_step : (m : Meaning) (p : Pair) (r : Receipt) → IsMember m p → Contains m.held r → IsFitting m.config r
    → Vouches m.records p r → IsMember m (pair_of r)
member_step m p r is held fits vouches = record {
  seed = is.seed;
  configured = is.configured;
  chain = is.chain ++ r ∷ [];
  held = all_more (Contains m.held) is.chain r is.held held;
  leads = leads_more m.config m.records (pair_of_seed is.seed) is.chain p r is.leads fits vouches;
}

-- Configured documents are accepted.
pub member_seed : (m : Meaning) (s : Seed) → Contains m.config.seeds s → IsMember m (pair_of_seed s)
member_seed m s has = record { seed = s; configured = has; chain = []; held = tt; leads = refl }

-- The accepted documents are closed: they have the configured ones and all that they vouch for.
pub member_closed : (m : Meaning) → IsClosed m (IsMember m)
member_closed m = record { seeds = member_seed m; steps = member_step m }

-- The document of a held receipt that has a voucher is accepted.
pub member_released : (m : Meaning) (r : Receipt) → IsReleased m r → IsMember m (pair_of r)
member_released m r is = member_step m is.voucher r is.accepted is.held is.fits is.vouches

-- ---- each closed set has every member

-- A chain that begins in a closed set ends in it.
along : (m : Meaning) (set : Pair → Type 0) → IsClosed m set → (from : Pair) (chain : List Receipt) (to : Pair)
    → set from → AllByRecursion (Contains m.held) chain → Leads m.config m.records from chain to → set to
along m set closed from [] to h held leads = subst set leads h
along m set closed from (r ∷ chain) to h held leads =
    along m set closed (pair_of r) chain to (closed.steps from r h held.0 leads.0 leads.1) held.1 leads.2

-- Each closed set has all accepted documents: to show a property of these it is enough that it is
-- closed.
pub member_least : (m : Meaning) (set : Pair → Type 0) → IsClosed m set → (p : Pair) → IsMember m p → set p
member_least m set closed p is = along m set closed (pair_of_seed is.seed) is.chain p (closed.seeds is.seed is.configured) is.held is.leads

-- ---- more receipts and fewer records of distrust

-- With more receipts, and with fewer records of distrust, what was accepted is still accepted.
pub member_more : (m n : Meaning) → IsSameTrust m.config n.config → ((r : Receipt) → Contains m.held r → Contains n.held r)
    → ((x : Distrust) → Contains n.records x → Contains m.records x) → (p : Pair) → IsMember m p → IsMember n p
member_more m n same more fewer =
    member_least m (IsMember n) record {
      seeds = λ s has. member_seed n s (subst (λ (ss : List Seed). Contains ss s) same.seeds has);
      steps = λ p r is held fits vouches. member_step n p r is (more r held) (fits_alike m.config n.config same r fits) record {
        endpoint = vouches.endpoint;
        voucher = vouches.voucher;
        key = vouches.key;
        trusted = λ h. vouches.trusted (fewer _ h);
      };
    }

-- With more receipts, and with fewer records of distrust, what was released is still released.
pub released_more : (m n : Meaning) → IsSameTrust m.config n.config → ((r : Receipt) → Contains m.held r → Contains n.held r)
    → ((x : Distrust) → Contains n.records x → Contains m.records x) → (r : Receipt) → IsReleased m r → IsReleased n r
released_more m n same more fewer r is = record {
  held = more r is.held;
  fits = fits_alike m.config n.config same r is.fits;
  voucher = is.voucher;
  accepted = member_more m n same more fewer is.voucher is.accepted;
  vouches = record {
    endpoint = is.vouches.endpoint;
    voucher = is.vouches.voucher;
    key = is.vouches.key;
    trusted = λ h. is.vouches.trusted (fewer _ h);
  };
}

-- ---- meanings of which only the limits differ

-- What the one holds the other holds.
held_alike : (m n : Meaning) → AreAlike m n → (r : Receipt) → Contains m.held r → Contains n.held r
held_alike m n alike r has = subst (λ (rs : List Receipt). Contains rs r) alike.held has

-- What the other distrusts the one distrusts.
records_alike : (m n : Meaning) → AreAlike m n → (x : Distrust) → Contains n.records x → Contains m.records x
records_alike m n alike x has = subst (λ (xs : List Distrust). Contains xs x) (sym alike.records) has

-- What the one accepts the other accepts.
pub member_alike : (m n : Meaning) → AreAlike m n → (p : Pair) → IsMember m p → IsMember n p
member_alike m n alike = member_more m n alike.trust (held_alike m n alike) (records_alike m n alike)

-- Each is alike to itself.
pub alike_itself : (m : Meaning) → AreAlike m m
alike_itself m = record { trust = same_of_equal m.config m.config refl; held = refl; records = refl }

-- They are alike in either order.
pub alike_turned : (m n : Meaning) → AreAlike m n → AreAlike n m
alike_turned m n alike = record {
  trust = same_turned m.config n.config alike.trust;
  held = sym alike.held;
  records = sym alike.records;
}

-- What is pending with the one is pending with the other.
pub pending_alike : (m n : Meaning) → AreAlike m n → (r : Receipt) → IsPending m r → IsPending n r
pending_alike m n alike r is =
    let back = alike_turned m n alike in
    record {
      held = held_alike m n alike r is.held;
      unreleased = λ h. is.unreleased (released_more n m back.trust (held_alike n m back) (records_alike n m back) r h);
    }

-- ---- a member is configured or released

-- the document is that of a held receipt with a voucher
pub record IsOfRelease (m : Meaning) (p : Pair) : Type 0 where
  pub receipt : Receipt
  pub released : IsReleased m receipt
  pub is : pair_of receipt ≡ p

-- the document is a configured one
pub record IsOfSeed (m : Meaning) (p : Pair) : Type 0 where
  pub seed : Seed
  pub configured : Contains m.config.seeds seed
  pub is : pair_of_seed seed ≡ p

-- the document is accepted, and it is known by what
abbrev pub IsGrounded : Meaning → Pair → Type 0
IsGrounded m p = IsMember m p × (IsOfSeed m p ⊎ IsOfRelease m p)

-- What is accepted for a known reason is closed, so it is all that is accepted.
grounded : (m : Meaning) → IsClosed m (IsGrounded m)
grounded m = record {
  seeds = λ s has. (member_seed m s has, inl record { seed = s; configured = has; is = refl });
  steps = λ p r is held fits vouches. (
    member_step m p r is.0 held fits vouches,
    inr record {
      receipt = r;
      released = record { held = held; fits = fits; voucher = p; accepted = is.0; vouches = vouches };
      is = refl;
    },
  );
}

-- An accepted document is configured, or it is that of a held receipt with a voucher.
pub member_grounds : (m : Meaning) (p : Pair) → IsMember m p → IsOfSeed m p ⊎ IsOfRelease m p
member_grounds m p is = (member_least m (IsGrounded m) (grounded m) p is).1
