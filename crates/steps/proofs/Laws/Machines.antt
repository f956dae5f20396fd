-- Two machines side by side: one whose turns are the other's in other words, and one that takes the same turns as far as it matters.
use Prim.Native.Nat.{ℕ, zero, suc, ◌≤◌}
use mathlib.Core.Bool.{Bool, true, false}
use mathlib.Core.Path.{◌≡◌, refl, sym, ap, ◌∙◌}
use native.Mathlib.Nat.{not-suc-le-zero}
use native.Mathlib.Omega.{arith}
use Rattle.steps.specs.Loop.{pick, Turn, more, halt, lead, run}

-- a turn that goes on does not halt
pub more_halt : {S A X : Type 0} (s : S) (a : A) → ◌≡◌ {A = Turn S A} (more s) (halt a) → X
more_halt s a e = let z : ◌≡◌ {A = ℕ} 0 1 = cc in absurd (no z)
  where
    no : ◌≡◌ {A = ℕ} 0 1 → ⊥
    no z = omega arith

-- a turn halts with one answer
pub halted : {S A : Type 0} {a b : A} → ◌≡◌ {A = Turn S A} (halt a) (halt b) → a ≡ b
halted k = cc

-- ---- In other words

-- a turn, its state and its answer in other words
abbrev pub told : {S T A B : Type 0} → (S → T) → (A → B) → Turn S A → Turn T B
told f g (more s) = more (f s)
told f g (halt a) = halt (g a)

-- a choice of turns, in other words
pub told_pick : {S T A B : Type 0} (f : S → T) (g : A → B) (b : Bool) (x y : Turn S A) → told f g (pick b x y) ≡ pick b (told f g x) (told f g y)
told_pick f g true x y = refl
told_pick f g false x y = refl

module _ {S T A B : Type 0} (turn : S → Turn S A) (turn' : T → Turn T B) (out : S → A) (out' : T → B) (f : S → T) (g : A → B)
    (turns : (s : S) → turn' (f s) ≡ told f g (turn s)) (outs : (s : S) → out' (f s) ≡ g (out s)) where
  told_lead : (k : ℕ) → ((s : S) → run turn' out' k (f s) ≡ g (run turn out k s)) → (z : Turn S A) → lead (run turn' out' k) (told f g z) ≡ g (lead (run turn out k) z)
  told_lead k rec (more s) = rec s
  told_lead k rec (halt a) = refl

  -- the same number of turns gives the same answer, in other words
  pub told_run : (k : ℕ) (s : S) → run turn' out' k (f s) ≡ g (run turn out k s)
  unfolding run
  told_run zero s = outs s
  told_run (suc k) s = ap (lead (run turn' out' k)) (turns s) ∙ told_lead k (told_run k) (turn s)

-- ---- As far as it matters

-- Both halt with a where the first does, if every turn of the first that can still lead to a is one of the second.
module _ {S A : Type 0} (turn turn' : S → Turn S A) (out out' : S → A) (a : A) (B : S → Type 0) (never : (s : S) → out s ≡ a → ⊥)
    (can : (k : ℕ) (t : S) → run turn out k t ≡ a → B t) (on : (s t : S) → turn s ≡ more t → B t → turn' s ≡ more t) (end : (s : S) → turn s ≡ halt a → turn' s ≡ halt a) where
  by_turn : (k k' : ℕ) (s : S) → ((t : S) → run turn out k t ≡ a → run turn' out' k' t ≡ a) → (z : Turn S A) → turn s ≡ z → lead (run turn out k) (turn s) ≡ a
      → lead (run turn' out' k') (turn' s) ≡ a
  by_turn k k' s rec (more t) et e =
      let r : run turn out k t ≡ a = ap (lead (run turn out k)) (sym et) ∙ e in
      ap (lead (run turn' out' k')) (on s t et (can k t r)) ∙ rec t r
  by_turn k k' s rec (halt b) et e =
      let r : b ≡ a = ap (lead (run turn out k)) (sym et) ∙ e in
      ap (lead (run turn' out' k')) (end s (et ∙ ap halt r))

  pub same_run : (k k' : ℕ) (s : S) → k ≤ k' → run turn out k s ≡ a → run turn' out' k' s ≡ a
  unfolding run
  same_run zero k' s h e = absurd (never s e)
  same_run (suc k) zero s h e = absurd (not-suc-le-zero h)
  same_run (suc k) (suc k') s h e = by_turn k k' s (λ t r. same_run k k' t (omega arith) r) (turn s) refl e
