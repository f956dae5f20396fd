-- The laws of the checks that come first: where all pass the rest is answered, and else the first that fails.
use Prim.Native.Nat.{ℕ}
use mathlib.Core.Bool.{Bool, true, false}
use mathlib.Core.List.{List, [], ◌∷◌, ◌++◌}
use mathlib.Core.Path.{◌≡◌, refl, sym, ap, ◌∙◌}
use native.Mathlib.Omega.{arith}
use Rattle.std.specs.Prelude.{Result, Ok, Err}
use Rattle.steps.specs.declared.refusal.Refusal.{Refusal}
use Rattle.steps.specs.Answer.{Answer, done, refused, refuse, paper_of, Check, check, checked}
use Rattle.steps.proofs.Laws.Refusal.{reason_of, reason_again}

-- every check passes
abbrev pub Passed : List Check → Type 0
Passed [] = Unit {0}
Passed (check number fails ∷ checks) = (fails ≡ false) × Passed checks

pub differ : {A : Type 0} (a : A) (n p : ℕ) → done a ≡ refused n p → ⊥
differ a n p e = let z : ◌≡◌ {A = ℕ} 0 1 = cc in omega arith

-- an answer that no refusal gives has passed every check
pub passed_by : {A : Type 0} (refusing : ℕ → A) (checks : List Check) (rest x : A) → ((n : ℕ) → refusing n ≡ x → ⊥) → checked refusing checks rest ≡ x → Passed checks × (rest ≡ x)
passed_by refusing [] rest x never e = (tt, e)
passed_by refusing (check number true ∷ checks) rest x never e = absurd (never number e)
passed_by refusing (check number false ∷ checks) rest x never e = let others = passed_by refusing checks rest x never e in ((refl, others.0), others.1)

-- what is done has passed every check
pub passed : {A : Type 0} (checks : List Check) (a x : A) → checked refuse checks (done a) ≡ done x → Passed checks × (a ≡ x)
passed checks a x e =
    let both = passed_by refuse checks (done a) (done x) (λ n k. differ x n 0 (sym k)) e in
    let same = both.1 in
    (both.0, cc)

pub pass : {A : Type 0} (refusing : ℕ → A) (checks : List Check) (rest : A) → Passed checks → checked refusing checks rest ≡ rest
pass refusing [] rest p = refl
pass refusing (check number true ∷ checks) rest p = absurd (let z : ◌≡◌ {A = Bool} true false = p.0 in never z)
  where
    never : ◌≡◌ {A = Bool} true false → ⊥
    never e = let z : ◌≡◌ {A = ℕ} 0 1 = cc in omega arith
pass refusing (check number false ∷ checks) rest p = pass refusing checks rest p.1

-- what is refused is refused by the same check, whatever the call
pub failed : {A B : Type 0} (refusing : ℕ → B) (checks : List Check) (a : A) (rest : B) (n p : ℕ) → checked refuse checks (done a) ≡ refused n p
    → (p ≡ 0) × (checked refusing checks rest ≡ refusing n)
failed refusing [] a rest n p e = absurd (differ a n p e)
failed refusing (check number true ∷ checks) a rest n p e = let is : number ≡ n = cc in (cc, rw is)
failed refusing (check number false ∷ checks) a rest n p e = failed refusing checks a rest n p e

-- checks after checks
pub checked_append : {A : Type 0} (refusing : ℕ → A) (cs ds : List Check) (rest : A) → checked refusing (cs ++ ds) rest ≡ checked refusing cs (checked refusing ds rest)
checked_append refusing [] ds rest = refl
checked_append refusing (check number true ∷ cs) ds rest = refl
checked_append refusing (check number false ∷ cs) ds rest = checked_append refusing cs ds rest

-- a call's answer, from the paper's and the two cases of the call's own
abbrev pub call_by : {A X : Type 0} → (A → X) → (Refusal → X) → Answer A → X
call_by give refuse (done a) = give a
call_by give refuse (refused number place) = refuse (record { reason = reason_of number; place = place })

-- so two answers of a call are equal where the paper's are
pub one_answer_by : {A X : Type 0} (give : A → X) (refuse : Refusal → X) (paper : X → Answer A) → ((x : X) → call_by give refuse (paper x) ≡ x) → (x y : X) → paper x ≡ paper y → x ≡ y
one_answer_by give refuse paper same x y e = sym (same x) ∙ ap (call_by give refuse) e ∙ same y

-- the same of a `Result`
abbrev pub call_of : {A : Type 0} → Answer A → Result A Refusal
call_of = call_by Ok Err

call_again : {A : Type 0} (x : Result A Refusal) → call_of (paper_of x) ≡ x
call_again (Ok a) = refl
call_again (Err r) = rw (reason_again r.reason)

pub one_answer : {A : Type 0} (x y : Result A Refusal) → paper_of x ≡ paper_of y → x ≡ y
one_answer = one_answer_by Ok Err paper_of call_again
