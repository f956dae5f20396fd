-- What a call answers (RULES 2.1 and 2.3): values, or a number and a place; and the checks that come first.
use Rattle.std.specs.Prelude.{ℕ, Bool, List, [], ◌∷◌, Result, Ok, Err}
use Rattle.steps.specs.Loop.{pick}
use Rattle.steps.specs.Refusal.{reason_number}
use Rattle.steps.specs.declared.refusal.Reason.{Reason}
use Rattle.steps.specs.declared.refusal.Refusal.{Refusal}

-- the paper's answer: what a call returns, or the number of its refusal and the place reported
pub data Answer (A : Type 0) : Type 0 where
  done : A → Answer A
  refused : ℕ → ℕ → Answer A

-- a refusal's number and place
abbrev pub refusal_of : {A : Type 0} → Refusal → Answer A
refusal_of r = refused (reason_number r.reason) r.place

-- the paper's answer, for each case of a call's answer
abbrev pub paper_of : {A : Type 0} → Result A Refusal → Answer A
paper_of (Ok a) = done a
paper_of (Err r) = refusal_of r

-- what reading a row, or a part of one, answers: the next place in the input, or why the row is at fault
abbrev pub Taken : Type 0
Taken = Result ℕ Reason

-- a refusal that reports place 0
abbrev pub refuse : {A : Type 0} → ℕ → Answer A
refuse number = refused number 0

-- a check of the table: its number, and whether it fails
pub data Check : Type 0 where
  check : ℕ → Bool → Check

-- The checks in their order: the first that fails refuses by its number; where none fails, `rest` is the answer.
abbrev pub checked : {A : Type 0} → (ℕ → A) → List Check → A → A
checked refuse [] rest = rest
checked refuse (check number fails ∷ checks) rest = pick fails (refuse number) (checked refuse checks rest)
