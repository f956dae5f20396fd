-- The one law of the numbers: what a list of checks answers is n exactly if check n is its first that fails.
use Prim.Native.Nat.{ℕ}
use mathlib.Core.Bool.{true, false}
use mathlib.Core.List.{List, [], ◌∷◌, ◌++◌}
use mathlib.Core.Path.{◌≡◌, refl, sym, ◌∙◌}
use Rattle.steps.specs.Answer.{Answer, refuse, Check, check, checked}
use Rattle.steps.specs.Numbered.{number_of, first_of, FirstFails, Exactly}

pub number_checked : {A : Type 0} (checks : List Check) (rest : Answer A) → number_of (checked refuse checks rest) ≡ first_of checks (number_of rest)
number_checked [] rest = refl
number_checked (check number true ∷ checks) rest = refl
number_checked (check number false ∷ checks) rest = number_checked checks rest

pub first_append : (cs ds : List Check) (n : ℕ) → first_of (cs ++ ds) n ≡ first_of cs (first_of ds n)
first_append [] ds n = refl
first_append (check number true ∷ cs) ds n = refl
first_append (check number false ∷ cs) ds n = first_append cs ds n

first_fails : (checks : List Check) (n : ℕ) → (n ≡ 0 → ⊥) → first_of checks 0 ≡ n → FirstFails n checks
first_fails [] n h e = h (sym e)
first_fails (check number true ∷ checks) n h e = sym e
first_fails (check number false ∷ checks) n h e = first_fails checks n h e

fails_first : (checks : List Check) (n : ℕ) → FirstFails n checks → first_of checks 0 ≡ n
fails_first [] n f = absurd f
fails_first (check number true ∷ checks) n f = sym f
fails_first (check number false ∷ checks) n f = fails_first checks n f

pub exactly : (checks : List Check) (answered : ℕ) → answered ≡ first_of checks 0 → Exactly checks answered
exactly checks answered e n h = (λ is. first_fails checks n h (sym e ∙ is), λ f. e ∙ fails_first checks n f)

-- what is said of an answer beside other things is said of the answer alone
pub checked_of : {A B : Type 0} (f : A → B) (refusing : ℕ → A) (checks : List Check) (rest : A) → f (checked refusing checks rest) ≡ checked (λ n. f (refusing n)) checks (f rest)
checked_of f refusing [] rest = refl
checked_of f refusing (check number true ∷ checks) rest = refl
checked_of f refusing (check number false ∷ checks) rest = checked_of f refusing checks rest
