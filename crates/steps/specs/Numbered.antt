-- Which number a call answers, over the list of its checks.
use Rattle.std.specs.Prelude.{ℕ, true, false, List, [], ◌∷◌, ◌≡◌}
use Rattle.steps.specs.Loop.{pick}
use Rattle.steps.specs.Answer.{Answer, done, refused, Check, check}

-- the number of an answer: 0 where it is no refusal
abbrev pub number_of : {A : Type 0} → Answer A → ℕ
number_of (done a) = 0
number_of (refused number place) = number

-- the number of the first check that fails, or n where none does
abbrev pub first_of : List Check → ℕ → ℕ
first_of [] n = n
first_of (check number fails ∷ checks) n = pick fails number (first_of checks n)

-- check n is the first of the list that fails
abbrev pub FirstFails : ℕ → List Check → Type 0
FirstFails n [] = ⊥
FirstFails n (check number true ∷ checks) = n ≡ number
FirstFails n (check number false ∷ checks) = FirstFails n checks

-- a number n is answered exactly if check n is the first of the list that fails
abbrev pub Exactly : List Check → ℕ → Type 0
Exactly checks answered = (n : ℕ) → (n ≡ 0 → ⊥) → (answered ≡ n → FirstFails n checks) × (FirstFails n checks → answered ≡ n)
