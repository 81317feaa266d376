-- A first line, the lines of what is held, and what follows them.
use Rattle.std.proofs.Common.{◌≡◌, ℕ, List, [], ◌∷◌, ◌++◌, Option, None, Some, inr, refl, ap, sym, ◌∙◌, subst, append_assoc, append-nil}
use Rattle.std.specs.Prelude.{IfSome, IfErr, IsErrAnd, Result, Ok, Err}
use Rattle.std.specs.Io.KnownBytes.{Consumes, IsAtEnd, prepend_known}
use Rattle.fed_config.specs.Configuration.{Configuration}
use Rattle.receipt_core.specs.Acceptance.{Meaning}
use Rattle.replica_texts.specs.Snapshots.{IsSnapshot, HasFaultAfter, RefusesNext, RefusesSnapshot, begun_text, count_line, ended, header_line, held_lines}
use Rattle.replica_texts.specs.Snapshots.{text_of_lines}
use Rattle.replica_texts.specs.Inside.Reading.{FailsAfter, HoldsAll, RefusesEnd}
use Rattle.replica_texts.specs.declared.format.Format.{Format}
use Rattle.replica_core.specs.declared.error.SyncError.{SyncError}
use Rattle.replica_core.specs.declared.error.SyncError.TheVariants.{BadHeader, ConfigDiffers, VersionDiffers, NotCanonical, NotRising, BadCount, Truncated}
use Rattle.replica_core.specs.declared.error.SyncError.TheVariants.{Refused, Io, NoMemory}

-- ---- what is consumed

-- If nothing was read ahead, the stream is the source's.
pub fresh : (known : Option (List ℕ)) (kept : List ℕ) → kept ≡ [] → prepend_known kept known ≡ known
fresh None kept e = refl
fresh (Some xs) kept e = ap (λ k. Some (k ++ xs)) e

-- If both together are empty, the second is.
none_kept : (kept xs : List ℕ) → kept ++ xs ≡ [] → xs ≡ []
none_kept [] xs e = e
none_kept (b ∷ kept) xs e = absurd (cc)

-- At the end of the stream the source is at its end.
pub nothing_left : (known : Option (List ℕ)) (kept : List ℕ) → IsAtEnd (prepend_known kept known) → IsAtEnd known
nothing_left None kept e = tt
nothing_left (Some xs) kept e = none_kept kept xs e

-- What was used up in two steps was used up in one.
pub consumes_both : (a b c : Option (List ℕ)) (x y : List ℕ) → Consumes a b x → Consumes b c y → Consumes a c (x ++ y)
consumes_both None b c x y p q = tt
consumes_both (Some xs) None c x y p q = absurd p
consumes_both (Some xs) (Some ys) None x y p q = absurd q
consumes_both (Some xs) (Some ys) (Some zs) x y p q = p ∙ ap (λ t. x ++ t) q ∙ sym (append_assoc x y zs)

-- if both were consumed, the one was first
pub record Split (a c : Option (List ℕ)) (x y : List ℕ) : Type 0 where
  pub middle : Option (List ℕ)
  pub first : Consumes a middle x
  pub second : Consumes middle c y

-- What was used up in one step was used up in two.
pub split : (a c : Option (List ℕ)) (x y : List ℕ) → Consumes a c (x ++ y) → Split a c x y
split None c x y p = record { middle = None; first = tt; second = tt }
split (Some xs) None x y p = absurd p
split (Some xs) (Some zs) x y p = record { middle = Some (y ++ zs); first = p ∙ append_assoc x y zs; second = refl }

-- ---- after the first line

-- The first line and the lines of what is held are the beginning of a snapshot.
begun : (config : Configuration) (format : Format) (m : Meaning) (a b c : Option (List ℕ)) → m.config ≡ config
    → Consumes a b (ended (header_line format config)) → Consumes b c (text_of_lines (held_lines m))
    → Consumes a c (begun_text format m)
begun config format m a b c same first lines =
    consumes_both a b c (ended (header_line format m.config)) (text_of_lines (held_lines m))
    (subst (λ k. Consumes a b (ended (header_line format k))) (sym same) first) lines

-- An error after lines of what is held is one after a good beginning.
pub fault_after : (config : Configuration) (format : Format) (a b : Option (List ℕ)) (e : SyncError)
    → Consumes a b (ended (header_line format config)) → FailsAfter config b format e → HasFaultAfter config a e
fault_after config format a b e first fails = record {
  format = format;
  m = fails.m;
  left = fails.left;
  begins = record {
    of_config = fails.holds.of_config;
    valid = fails.valid;
    fits = fails.holds.fits;
    text = begun config format fails.m a b fails.left fails.holds.of_config first fails.holds.text;
  };
  cause = fails.cause;
}

-- An error after the last line is one after a good beginning.
after_all : (config : Configuration) (format : Format) (m : Meaning) (a b c : Option (List ℕ)) (number : ℕ)
    (e : SyncError) → Consumes a b (ended (header_line format config)) → HoldsAll config b format m c number
    → ((left : Option (List ℕ)) → Consumes left c (ended (count_line format m)) → RefusesNext format m left e) → HasFaultAfter config a e
after_all config format m a b c number e first all cause =
    let parts = split b c (text_of_lines (held_lines m)) (ended (count_line format m)) all.text in
    record {
      format = format;
      m = m;
      left = parts.middle;
      begins = record {
        of_config = all.of_config;
        valid = all.valid;
        fits = all.fits;
        text = begun config format m a b parts.middle all.of_config first parts.first;
      };
      cause = cause parts.middle parts.second;
    }

-- More after the last line is an error after a good beginning.
pub fault_at_end : (config : Configuration) (format : Format) (m : Meaning) (a b c : Option (List ℕ)) (number : ℕ)
    (e : SyncError) → Consumes a b (ended (header_line format config)) → HoldsAll config b format m c number
    → RefusesEnd number c e → HasFaultAfter config a e
fault_at_end config format m a b c number BadHeader first all h = absurd h
fault_at_end config format m a b c number ConfigDiffers first all h = absurd h
fault_at_end config format m a b c number VersionDiffers first all h = absurd h
fault_at_end config format m a b c number (NotCanonical n) first all h =
    after_all config format m a b c number (NotCanonical n) first all (λ left last. inr (h.0 ∙ all.next, record { after = c; is = last; more = h.1 }))
fault_at_end config format m a b c number (NotRising n) first all h = absurd h
fault_at_end config format m a b c number BadCount first all h = absurd h
fault_at_end config format m a b c number Truncated first all h = absurd h
fault_at_end config format m a b c number (Refused n why) first all h = absurd h
fault_at_end config format m a b c number Io first all h = after_all config format m a b c number Io first all (λ left last. tt)
fault_at_end config format m a b c number NoMemory first all h = after_all config format m a b c number NoMemory first all (λ left last. tt)

-- ---- the whole

-- A stream that was used up to its end is what was read.
whole : (a b c : Option (List ℕ)) (x y : List ℕ) → Consumes a b x → Consumes b c y → IsAtEnd c → IfSome a (λ bytes. bytes ≡ x ++ y)
whole None b c x y p q e = tt
whole (Some xs) None c x y p q e = absurd p
whole (Some xs) (Some ys) None x y p q e = absurd q
whole (Some xs) (Some ys) (Some zs) x y p q e = p ∙ ap (λ t. x ++ t) (q ∙ ap (λ t. y ++ t) e ∙ append-nil y)

-- A stream that ends after the last line is a snapshot.
pub all_read : (config : Configuration) (format : Format) (m : Meaning) (a b c : Option (List ℕ)) (number : ℕ)
    → Consumes a b (ended (header_line format config)) → HoldsAll config b format m c number → IsAtEnd c
    → IsSnapshot config a m
all_read config format m a b c number first all end =
    let parts = split b c (text_of_lines (held_lines m)) (ended (count_line format m)) all.text in
    record {
      of_config = all.of_config;
      valid = all.valid;
      format = format;
      fits = all.fits;
      text = whole a parts.middle c (begun_text format m) (ended (count_line format m))
          (begun config format m a b parts.middle all.of_config first parts.first) parts.second end;
    }

-- ---- what the reader returns

-- What holds of an error holds of the result that the exit of a `?` returns.
pub refused_by : {T : Type 0} (r : Result T SyncError) (Q : SyncError → Type 0) (e : SyncError) → IsErrAnd r (λ y. y ≡ e) → Q e → IfErr r Q
refused_by (Ok value) Q e is q = tt
refused_by (Err y) Q e is q = subst Q (sym is) q

-- Why the lines of what is held were not read is why the snapshot is refused.
pub held_refused : (config own : Configuration) (format : Format) (a s b : Option (List ℕ)) (e : SyncError) → s ≡ a
    → own ≡ config → Consumes s b (ended (header_line format config)) → FailsAfter own b format e
    → RefusesSnapshot config a e
held_refused config own format a s b e same same_config first fails =
    subst (λ x. RefusesSnapshot config x e) same (inr (fault_after config format s b e first (subst (λ k. FailsAfter k b format e) same_config fails)))

-- Why the end was not found is why the snapshot is refused.
pub end_refused : (config own : Configuration) (format : Format) (m : Meaning) (a s b c : Option (List ℕ)) (number : ℕ)
    (e : SyncError) → s ≡ a → own ≡ config → Consumes s b (ended (header_line format config))
    → HoldsAll own b format m c number → RefusesEnd number c e → RefusesSnapshot config a e
end_refused config own format m a s b c number e same same_config first all fault =
    subst (λ x. RefusesSnapshot config x e) same
    (inr (fault_at_end config format m s b c number e first
    (subst (λ k. HoldsAll k b format m c number) same_config all) fault))

-- What was read to the end is the snapshot.
pub snapshot_read : (config own : Configuration) (format : Format) (m : Meaning) (a s b c : Option (List ℕ))
    (number : ℕ) → s ≡ a → own ≡ config → Consumes s b (ended (header_line format config))
    → HoldsAll own b format m c number → IsAtEnd c → IsSnapshot config a m
snapshot_read config own format m a s b c number same same_config first all end =
    subst (λ x. IsSnapshot config x m) same (all_read config format m s b c number first (subst (λ k. HoldsAll k b format m c number) same_config all) end)
