-- Sessions that are served.
use Rattle.std.proofs.Common.{◌≡◌, ℕ, ◌+◌, List, [], ◌∷◌, ◌++◌, length, Option, refl, ap, sym, ◌∙◌, subst, arith, length-append, append-nil}
use Rattle.std.specs.List.{flat_map}
use Rattle.std.specs.Io.KnownBytes.{Appends, Consumes, Keeps}
use Rattle.std.proofs.KnownBytes.{Appends-nil, Appends-trans, Consumes-kept, Consumes-nil, Consumes-trans}
use Rattle.std.proofs.lemmas.Grind.{flat_map-append}
use Rattle.receipt_core.specs.Acceptance.{Meaning}
use Rattle.byte_lines.specs.Device.{AppendsBeginning}
use Rattle.replica_core.specs.Session.{HaveMessage, give_of}
use Rattle.replica_core.specs.declared.error.SyncError.{SyncError}
use Rattle.replica_core.specs.declared.error.SyncError.TheVariants.{Io}
use Rattle.replica_core.proofs.RisingListFacts.{all_append}
use Rattle.replica_sync.specs.SessionRun.{session_run}
use Rattle.replica_texts.specs.Messages.{have_text, give_text}
use Rattle.replica_sync.specs.Serving.{BeginsWithHaves, ServesUpTo, gives_text}
use Rattle.replica_texts.specs.Haves.{IsHaveOf, RefusesFurther}
use Rattle.replica_sync.specs.Inside.Serving.{Served, ServesOne}
use Rattle.replica_texts.proofs.WrittenPieceFacts.{begins-second}
use Rattle.replica_sync.proofs.PullingFacts.{written_all}

-- The text of one item more comes last.
one-more : {X : Type 0} (f : X → List ℕ) (xs : List X) (x : X) → flat_map f xs ++ f x ≡ flat_map f (xs ++ x ∷ [])
one-more f xs x = ap (λ t. flat_map f xs ++ t) (sym (append-nil (f x))) ∙ sym (flat_map-append f xs (x ∷ []))

-- what is written to a have
abbrev answered : Meaning → HaveMessage → List ℕ
answered m q = give_text (give_of m q)

-- One have more of the stream.
asks-more : (m : Meaning) (stream left next : Option (List ℕ)) (haves : List HaveMessage) (q : HaveMessage)
    → BeginsWithHaves m.config stream haves left → IsHaveOf m.config q → Consumes left next (have_text q)
    → BeginsWithHaves m.config stream (haves ++ q ∷ []) next
asks-more m stream left next haves q asks own text = record {
  each = all_append (IsHaveOf m.config) haves (q ∷ []) asks.each (own, tt);
  text = subst (Consumes stream next) (one-more have_text haves q)
      (Consumes-trans stream left next (flat_map have_text haves) (have_text q) asks.text text);
}

-- One have more is answered.
pub served-more : (m : Meaning) (stream left next old now new : Option (List ℕ)) (count : ℕ)
    → Served m stream left old now count → ServesOne m left next now new → Served m stream next old new (count + 1)
served-more m stream left next old now new count s one = record {
  haves = s.haves ++ one.have ∷ [];
  asks = asks-more m stream left next s.haves one.have s.asks one.own one.text;
  number = let so_far = s.number in let both = length-append s.haves (one.have ∷ []) in omega (arith, so_far, both);
  written = subst (Appends old new) (one-more (answered m) s.haves one.have)
      (Appends-trans old now new (gives_text m s.haves) (answered m one.have) s.written one.written);
}

-- What was written, and then nothing, is what was written.
and-nothing : (old now new : Option (List ℕ)) (text : List ℕ) → Appends old now text → Appends now new [] → Appends old new text
and-nothing old now new text before nothing = subst (Appends old new) (append-nil text) (Appends-trans old now new text [] before nothing)

-- The next have is not answered, and nothing more was written.
pub served-stops : (m : Meaning) (stream left old now : Option (List ℕ)) (count : ℕ) (e : SyncError)
    → Served m stream left old now count → RefusesFurther m.config left e → ServesUpTo (session_run stream old now) m e
served-stops m stream left old now count e s cause =
    record { haves = s.haves; left = left; asks = s.asks; cause = cause; written = written_all e old now _ s.written }

-- A beginning of the next answer was written.
pub served-begun : (m : Meaning) (stream left next old now new : Option (List ℕ)) (count : ℕ) (q : HaveMessage)
    → Served m stream left old now count → IsHaveOf m.config q → Consumes left next (have_text q) → AppendsBeginning now new (give_text (give_of m q))
    → ServesUpTo (session_run stream old new) m Io
served-begun m stream left next old now new count q s own text begun = record {
  haves = s.haves ++ q ∷ [];
  left = next;
  asks = asks-more m stream left next s.haves q s.asks own text;
  cause = tt;
  written = subst (AppendsBeginning old new) (one-more (answered m) s.haves q)
      (begins-second old now new (gives_text m s.haves) (answered m q) s.written begun);
}

-- No answer was due, and the device failed.
pub served-idle : (m : Meaning) (stream left old now new : Option (List ℕ)) (count : ℕ)
    → Served m stream left old now count → AppendsBeginning now new [] → ServesUpTo (session_run stream old new) m Io
served-idle m stream left old now new count s begun = record {
  haves = s.haves;
  left = left;
  asks = s.asks;
  cause = tt;
  written = subst (AppendsBeginning old new) (append-nil (gives_text m s.haves))
      (begins-second old now new (gives_text m s.haves) [] s.written begun);
}

-- At the beginning nothing was read or written.
pub served-none : (m : Meaning) (stream now : Option (List ℕ)) → Served m stream stream now now 0
served-none m stream now = record {
  haves = [];
  asks = record { each = tt; text = Consumes-nil stream };
  number = refl;
  written = Appends-nil now;
}

-- What follows the haves was read ahead in part.
pub served-kept : (m : Meaning) (stream left next old now : Option (List ℕ)) (count : ℕ)
    → Served m stream left old now count → Keeps left next → Served m stream next old now count
served-kept m stream left next old now count s kept = record {
  haves = s.haves;
  asks = record { each = s.asks.each; text = Consumes-kept stream left next _ s.asks.text kept };
  number = s.number;
  written = s.written;
}

-- No answer more, and nothing more was written.
pub served-still : (m : Meaning) (stream left old now new : Option (List ℕ)) (count more : ℕ)
    → Served m stream left old now count → Appends now new [] → more ≡ 0 → Served m stream left old new (count + more)
served-still m stream left old now new count more s nothing none = record {
  haves = s.haves;
  asks = s.asks;
  number = let so_far = s.number in omega (arith, so_far, none);
  written = and-nothing old now new _ s.written nothing;
}
