-- A row is done or at fault, and not both.
use Prim.Native.Nat.{ℕ}
use mathlib.Core.List.{List}
use mathlib.Core.Path.{◌≡◌, sym, ap}
use native.Mathlib.Omega.{arith}
use Rattle.std.specs.Prelude.{Ok, Err}
use Rattle.steps.specs.Answer.{Taken}
use Rattle.steps.specs.declared.refusal.Reason.{Reason}

pub never_both : {X : Type 0} (next : ℕ) (reason : Reason) → ◌≡◌ {A = Taken} (Ok next) (Err reason) → X
never_both next reason e = absurd (no e)
  where
    no : ◌≡◌ {A = Taken} (Ok next) (Err reason) → ⊥
    no e = let z : ◌≡◌ {A = ℕ} 0 1 = cc in omega arith

-- the same with the store afterwards
pub fault_done : {X : Type 0} (reason : Reason) (next : ℕ) (s s' : List ℕ) → ◌≡◌ {A = Taken × List ℕ} (Err reason, s) (Ok next, s') → X
fault_done reason next s s' e = never_both next reason (sym (ap (λ (z : Taken × List ℕ). z.0) e))
