-- What holds of a choice and of a turn by its cases, and what every run keeps.
use Prim.{Unit}
use Prim.Native.Nat.{ℕ, zero, suc, ◌<◌}
use mathlib.Core.Bool.{Bool, true, false, ◌&&◌, false≢true}
use mathlib.Core.Path.{◌≡◌, refl, subst}
use Rattle.steps.specs.Loop.{pick, Turn, more, halt, lead, run}
use Rattle.steps.proofs.Laws.Loop.{out_free}

-- a choice, case by case
pub by_test : {A : Type 0} (L : A → Type 0) (b : Bool) {x y : A} → (b ≡ true → L x) → (b ≡ false → L y) → L (pick b x y)
by_test L true f g = f refl
by_test L false f g = g refl

-- both tests of two
pub and_left : (a b : Bool) → (a && b) ≡ true → a ≡ true
and_left true b e = refl
and_left false b e = e

pub and_right : (a b : Bool) → (a && b) ≡ true → b ≡ true
and_right true b e = e
and_right false b e = absurd (false≢true e)

-- a turn goes on with a state of which P holds, or halts with an answer of which Q holds
abbrev pub Leads : {S A : Type 0} → (S → Type 0) → (A → Type 0) → Turn S A → Type 0
Leads P Q (more s) = P s
Leads P Q (halt a) = Q a

-- a turn that goes on has a smaller measure
abbrev pub Falls : {S A : Type 0} → (S → ℕ) → S → Turn S A → Type 0
Falls μ s z = Leads (λ t. μ t < μ s) (λ _. Unit {0}) z

module _ {S A : Type 0} (turn : S → Turn S A) (out : S → A) where
  -- what every turn keeps holds of the answer
  module _ (P : S → Type 0) (Q : A → Type 0) (step : (s : S) → P s → Leads P Q (turn s)) (end : (s : S) → P s → Q (out s)) where
    after : (k : ℕ) (z : Turn S A) → ((t : S) → P t → Q (run turn out k t)) → Leads P Q z → Q (lead (run turn out k) z)
    after k (more t) rec p = rec t p
    after k (halt a) rec q = q

    pub run_keeps : (k : ℕ) (s : S) → P s → Q (run turn out k s)
    unfolding run
    run_keeps zero s p = end s p
    run_keeps (suc k) s p = after k (turn s) (λ t q. run_keeps k t q) (step s p)

  -- where a measure falls, `out` is never asked, and turns above the measure are enough
  pub enough_turns : (out' : S → A) (μ : S → ℕ) → ((s : S) → Falls μ s (turn s)) → (k k' : ℕ) (s : S) → μ s < k → μ s < k' → run turn out k s ≡ run turn out' k' s
  enough_turns out' μ falls = out_free turn out out' μ (λ s t e. subst (Falls μ s) e (falls s))

  pub never_out : (out' : S → A) (μ : S → ℕ) → ((s : S) → Falls μ s (turn s)) → (k : ℕ) (s : S) → μ s < k → run turn out k s ≡ run turn out' k s
  never_out out' μ falls k s h = enough_turns out' μ falls k k s h h
