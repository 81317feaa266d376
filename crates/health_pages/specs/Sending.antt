-- How a response is sent
use Rattle.std.specs.Prelude.{ℕ, List, [], ◌∷◌, ◌++◌, drop}
use Rattle.health_pages.specs.declared.response_sending.ResponseSending.{ResponseSending}

-- what of each part is not sent yet
abbrev pub left_of_response : ResponseSending → List ℕ
left_of_response sending = drop sending.head_sent sending.response.head.items

abbrev pub left_of_body : ResponseSending → List ℕ
left_of_body sending = drop sending.body_sent sending.response.body.items

-- what of the response is not sent yet
abbrev pub response_unsent : ResponseSending → List ℕ
response_unsent sending = left_of_response sending ++ left_of_body sending

-- the first of two that has a byte
abbrev pub response_filled : List ℕ → List ℕ → List ℕ
response_filled (byte ∷ head) body = byte ∷ head
response_filled [] body = body

-- what is sent next
abbrev pub response_due : ResponseSending → List ℕ
response_due sending = response_filled (left_of_response sending) (left_of_body sending)
