-- The account of the steps that were tried.
use Rattle.std.specs.Prelude.{ℕ, Bool, List, [], ◌∷◌, reverse}
use Rattle.state_calls.specs.declared.logs.LineLog.{LineLog}
use Rattle.state_calls.specs.declared.logs.StepLog.{StepLog}

-- the steps, the last first, each with whether it was done
abbrev pub noted_steps : {P : Type 0} → StepLog P → List (P × Bool)
noted_steps it = reverse it.log.items

-- these steps with these texts
abbrev pub with_texts : {P : Type 0} → List (P × Bool) → List (List ℕ)
    → List ((P × List ℕ) × Bool)
with_texts [] texts = []
with_texts (it ∷ steps) [] = []
with_texts (it ∷ steps) (text ∷ texts) = ((it.0, text), it.1) ∷ with_texts steps texts

-- the steps, the last first, each with its lines and whether it was done
abbrev pub noted_lines : {P : Type 0} → LineLog P → List ((P × List ℕ) × Bool)
noted_lines it = with_texts (noted_steps it.steps) it.texts.noted
