-- The laws that proofs use of `specs/Loop.antt`. No contract cites this file. Assumes nothing.
use Prim.Native.Nat.{ℕ, zero, suc, ◌<◌}
use mathlib.Core.Path.{◌≡◌, refl, sym, ap, ◌∙◌}
use native.Mathlib.Nat.{not-suc-le-zero}
use native.Mathlib.Omega.{arith}
use Rattle.steps.specs.Loop.{Turn, halt, lead, more, run}

-- a run from s with more than m turns left gives a
pub record Runs {S A : Type 0} (turn : S → Turn S A) (out : S → A) (m : ℕ) (s : S) (a : A) : Type 0 where
  pub turns : ℕ
  pub enough : m < turns
  pub gives : run turn out turns s ≡ a

pub runs_start : {S A : Type 0} (turn : S → Turn S A) (out : S → A) (k m : ℕ) (s : S) → m < k → Runs turn out m s (run turn out k s)
runs_start turn out k m s h = record { turns = k; enough = h; gives = refl }

module _ {S A : Type 0} (turn : S → Turn S A) (out : S → A) (s : S) (a : A) where
  from : (t : S) (k m n : ℕ) → m < k → n < m → turn s ≡ more t → run turn out k s ≡ a → Runs turn out n t a
  unfolding run
  from t zero m n h l e g = absurd (not-suc-le-zero h)
  from t (suc k) m n h l e g = record { turns = k; enough = omega arith; gives = sym (ap (lead (run turn out k)) e) ∙ g }

  stop : (b : A) (k m : ℕ) → m < k → turn s ≡ halt b → run turn out k s ≡ a → b ≡ a
  unfolding run
  stop b zero m h e g = absurd (not-suc-le-zero h)
  stop b (suc k) m h e g = sym (ap (lead (run turn out k)) e) ∙ g

module _ {S A : Type 0} {turn : S → Turn S A} {out : S → A} where
  -- a turn that goes on
  pub runs_more : {m n : ℕ} {s t : S} {a : A} → Runs turn out m s a → turn s ≡ more t → n < m → Runs turn out n t a
  runs_more {m} {n} {s} {t} {a} r e l = from turn out s a t r.turns m n r.enough l e r.gives

  -- a turn that halts
  pub runs_halt : {m : ℕ} {s : S} {a b : A} → Runs turn out m s a → turn s ≡ halt b → b ≡ a
  runs_halt {m} {s} {a} {b} r e = stop turn out s a b r.turns m r.enough e r.gives

-- where a measure falls at each turn that goes on, `out` is never asked: runs with more turns than the measure depend neither on it nor on their number
module _ {S A : Type 0} (turn : S → Turn S A) (out out' : S → A) (μ : S → ℕ) (falls : (s t : S) → turn s ≡ more t → μ t < μ s) where
  by_turn : (k k' : ℕ) (s : S) → μ s < suc k → μ s < suc k' → ((t : S) → μ t < k → μ t < k' → run turn out k t ≡ run turn out' k' t) → (z : Turn S A) → turn s ≡ z
      → lead (run turn out k) z ≡ lead (run turn out' k') z
  by_turn k k' s h h' rec (more t) e =
      let l = falls s t e in
      rec t (omega arith) (omega arith)
  by_turn k k' s h h' rec (halt a) e = refl

  pub out_free : (k k' : ℕ) (s : S) → μ s < k → μ s < k' → run turn out k s ≡ run turn out' k' s
  unfolding run
  out_free zero k' s h h' = absurd (not-suc-le-zero h)
  out_free (suc k) zero s h h' = absurd (not-suc-le-zero h')
  out_free (suc k) (suc k') s h h' = by_turn k k' s h h' (λ t l l'. out_free k k' t l l') (turn s) refl
