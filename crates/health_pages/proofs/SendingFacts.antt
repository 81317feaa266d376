-- The part of a response that is sent next
use Rattle.std.proofs.Common.{◌≡◌, ◌<◌, ℕ, List, [], ◌∷◌, length, refl, arith}
use Rattle.health_pages.specs.Sending.{response_filled}

pub head_is_next : (head body : List ℕ) → 0 < length head → response_filled head body ≡ head
head_is_next [] body some = absurd (omega (arith, some))
head_is_next (b ∷ head) body some = refl
