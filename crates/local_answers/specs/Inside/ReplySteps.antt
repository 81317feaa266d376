-- Parts of what is replied to a change.
use Rattle.std.specs.Prelude.{◌≡◌, ℕ, List, ◌++◌}
use Rattle.jwk_set.specs.declared.authority.KeyId.{KeyId}
use Rattle.receipt_core.specs.Acceptance.{Meaning}
use Rattle.change_view.specs.Changes.{SaysNow}
use Rattle.change_view.specs.declared.held_change.HeldChange.{HeldChange}
use Rattle.change_view.specs.declared.held_change.HeldChange.TheVariants.{Distrust, Observe}
use Rattle.change_view.specs.declared.held_change.ObservedBundle.{ObservedBundle}
use Rattle.local_answers.specs.Fallen.{SaysFell}
use Rattle.local_answers.specs.RequestRun.{IsWith}
use Rattle.local_answers.specs.declared.fallen_counts.DomainCount.{DomainCount}
use Rattle.local_answers.specs.declared.reply.Reply.{Reply}

-- It is that bundle, and says whether it is current now.
pub record IsSameNow (m : Meaning) (made o : ObservedBundle) : Type 0 where
  pub domain : o.domain ≡ made.domain
  pub document : o.document ≡ made.document
  pub sequence : o.sequence ≡ made.sequence
  pub key : o.key ≡ made.key
  pub voucher : o.voucher ≡ made.voucher
  pub now : SaysNow m o.domain o.document o.is_current

abbrev pub IsObservedNow : Meaning → ObservedBundle → HeldChange → Type 0
IsObservedNow m made (Observe o) = IsSameNow m made o
IsObservedNow m made change = ⊥

-- The change is that of these keys of the domain.
abbrev pub IsOfKeys : (domain : List ℕ) → List KeyId → HeldChange → Type 0
IsOfKeys domain keys (Distrust k) = (k.domain ≡ domain) × (k.keys.items ≡ keys)
IsOfKeys domain keys change = ⊥

-- the texts before it is known what fell
pub record SaidTexts : Type 0 where
  pub output : List ℕ
  pub errors : List ℕ

abbrev pub said_texts : (output errors : List ℕ) → SaidTexts
said_texts output errors = record { output = output; errors = errors }

-- The reply has these texts, and then what fell on the first.
pub record SaysFallen (m : Meaning) (before : List DomainCount) (texts : SaidTexts)
    (reply : Reply) : Type 0 where
  pub fell : List ℕ
  pub is : SaysFell m before fell
  pub has : IsWith reply (texts.output ++ fell) texts.errors 0
