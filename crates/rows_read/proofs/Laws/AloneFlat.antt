-- Bytes behind those that an answer rests on change nothing: a flat part, by any rule that looks at the four bytes of 1,1,1,n alone.
use Prim.Native.Nat.{ℕ, suc, ◌+◌, ◌-◌, min, ◌<◌, ◌≤◌}
use mathlib.Core.Bool.{Bool, true, false}
use mathlib.Core.List.{List}
use mathlib.Core.Path.{◌≡◌, refl, sym, subst, ◌∙◌}
use native.Mathlib.Omega.{arith}
use borrow.Author.Tests.{le-ltb, ltb-true}
use lib.Dec.{ltb}
use lib.ListN.{length}
use Rattle.steps.specs.Loop.{Turn, more, halt, run, lead}
use Rattle.steps.proofs.Laws.Turns.{Leads, Falls, run_keeps, enough_turns}
use Rattle.steps.proofs.Laws.Machines.{same_run}
use Rattle.steps.specs.Answer.{Taken}
use Rattle.std.specs.Prelude.{Ok}
use Rattle.flat_read.specs.Flat.{Flat, FlatRule, flat, four_to, is_repeat, flat_turn, flat_out, flat_of}
use Rattle.flat_read.proofs.Laws.Flat.{flat_cases, flat_falls, OnesOnward}
use Rattle.rows_read.specs.Middle.{Alike}
use Rattle.rows_read.proofs.Laws.Alike.{byte_same, bytes_same, Near, near_or, Firm, taken_near}

-- a turn that has taken a pixel: what comes after it lies behind it
abbrev pub TakesFour : Flat → Turn Flat (Taken × List ℕ) → Type 0
TakesFour x z = Leads (λ (y : Flat). x.at + 4 ≤ y.at) (λ (a : Taken × List ℕ). (next : ℕ) → a.0 ≡ Ok next → x.at + 4 ≤ next) z

pub record FlatAlone (rule : FlatRule) : Type 0 where
  pub onward : (src : List ℕ) (x : Flat) → x.at + 4 ≤ length src → TakesFour x (rule.ones src x)
  pub same : (src other : List ℕ) (n : ℕ) → Alike n src other → (x : Flat) → x.at + 4 ≤ n → rule.ones other x ≡ rule.ones src x

module _ (src other : List ℕ) (n : ℕ) (alike : Alike n src other) where
  pub four_same : (at : ℕ) (store : List ℕ) (place : ℕ) → at + 4 ≤ n → four_to other at store place ≡ four_to src at store place
  unfolding four_to
  four_same at store place h =
      let m : min 4 (length other - at) ≡ 4 = omega (arith, alike.1) in
      let k : min 4 (length src - at) ≡ 4 = omega (arith, alike.0) in
      rw (m, k, bytes_same src other n alike at 4 h)

  repeat_same : (at : ℕ) → at + 4 ≤ n → is_repeat other at ≡ is_repeat src at
  unfolding is_repeat
  repeat_same at h = simp (byte_same src other n alike at (omega arith), byte_same src other n alike (at + 1) (omega arith), byte_same src other n alike (at + 2) (omega arith))

module _ (gap : ℕ) (small : gap ≤ 1) (rule : FlatRule) (alone : FlatAlone rule) (src : List ℕ) (n : ℕ) where
  flat_past : (k : ℕ) (x : Flat) → (Near gap (length src) n x.at → ⊥) → Firm gap (length src) n (run (flat_turn rule src) flat_out k x) → ⊥
  flat_past k x h = run_keeps (flat_turn rule src) flat_out P Q step (λ y p f. f.0 refl) k x h
    where
      P : Flat → Type 0
      P y = Near gap (length src) n y.at → ⊥

      Q : Taken × List ℕ → Type 0
      Q a = Firm gap (length src) n a → ⊥

      ones : (y : Flat) → P y → y.at + 4 ≤ length src → (z : Turn Flat (Taken × List ℕ)) → TakesFour y z → Leads P Q z
      ones y p l (more t) on = λ near. p (omega arith, omega arith)
      ones y p l (halt a) on = λ firm. p (omega (arith, taken_near gap (length src) n (y.at + 4) a.0 l on firm), omega arith)

      step : (y : Flat) → P y → Leads P Q (flat_turn rule src y)
      step y p =
          flat_cases rule src y (Leads P Q)
          (λ w l e. ones y p l (rule.ones src y) (alone.onward src y l))
          (λ w l e near. p (omega arith, omega arith))
          (λ w f. f.0 refl)
          (λ w f. p f)

  pub flat_of_past : (at : ℕ) (store : List ℕ) (start wanted : ℕ) → (Near gap (length src) n at → ⊥) → Firm gap (length src) n (flat_of rule src at store start wanted) → ⊥
  unfolding flat_of
  flat_of_past at store start wanted h = flat_past (length src + 1) (flat at start wanted 0 store) h

  -- a turn after which such an answer can still be reached
  abbrev Reaches : Turn Flat (Taken × List ℕ) → Type 0
  Reaches z = Leads (λ (t : Flat). Near gap (length src) n t.at) (Firm gap (length src) n) z

  -- has its pixel among those bytes
  pixel_there : (x : Flat) → 0 < x.wanted → Reaches (flat_turn rule src x) → x.at + 4 ≤ n
  pixel_there x w =
      flat_cases rule src x L (λ w l e. ones l (rule.ones src x) (alone.onward src x l)) (λ w l e near. near.0) (λ w f. absurd (f.0 refl)) (λ none. absurd (omega arith))
    where
      L : Turn Flat (Taken × List ℕ) → Type 0
      L z = Reaches z → x.at + 4 ≤ n

      ones : x.at + 4 ≤ length src → (z : Turn Flat (Taken × List ℕ)) → TakesFour x z → L z
      ones l (more t) on = λ near. omega (arith, near.0)
      ones l (halt a) on = λ firm. taken_near gap (length src) n (x.at + 4) a.0 l on firm

  -- where pixels are wanted, the first stands among those bytes
  pub flat_first : (at : ℕ) (store : List ℕ) (start wanted : ℕ) → 0 < wanted → Firm gap (length src) n (flat_of rule src at store start wanted) → at + 4 ≤ n
  unfolding flat_of run
  flat_first at store start wanted w firm =
      let one_more : length src + 1 ≡ suc (length src) = omega arith in
      pixel_there x w (by (flat_turn rule src x) (subst (λ k. Firm gap (length src) n (run (flat_turn rule src) flat_out k x)) one_more firm))
    where
      x : Flat
      x = flat at start wanted 0 store

      by : (z : Turn Flat (Taken × List ℕ)) → Firm gap (length src) n (lead (run (flat_turn rule src) flat_out (length src)) z) → Reaches z
      by (more t) f = near_or gap (length src) n t.at (λ near. near) (λ far. absurd (flat_past (length src) t far f))
      by (halt a) f = f

module _ (gap : ℕ) (small : gap ≤ 1) (rule : FlatRule) (alone : FlatAlone rule) (src other : List ℕ) (n : ℕ) (alike : Alike n src other) where
  -- a turn whose pixel is there
  flat_same : (x : Flat) → x.at + 4 ≤ n → flat_turn rule other x ≡ flat_turn rule src x
  unfolding flat_turn
  flat_same x h =
      let k : x.at + 4 ≤ length src = omega (arith, alike.0) in
      let l : x.at + 4 ≤ length other = omega (arith, alike.1) in
      simp (
        le-ltb (length src) (x.at + 4) k,
        le-ltb (length other) (x.at + 4) l,
        repeat_same src other n alike x.at h,
        alone.same src other n alike x h,
        four_same src other n alike x.at x.store x.place h,
      )

  -- and one that needs none
  flat_over : (x : Flat) → ltb 0 x.wanted ≡ false → flat_turn rule other x ≡ flat_turn rule src x
  unfolding flat_turn
  flat_over x e = simp e

  flat_turn_lem : (x : Flat) (z : Turn Flat (Taken × List ℕ)) → Reaches gap small rule alone src n z → flat_turn rule src x ≡ z → flat_turn rule other x ≡ z
  flat_turn_lem x z r e = go (ltb 0 x.wanted) refl
    where
      go : (g : Bool) → ltb 0 x.wanted ≡ g → flat_turn rule other x ≡ z
      go true eg = flat_same x (pixel_there gap small rule alone src n x (ltb-true 0 x.wanted eg) (subst (Reaches gap small rule alone src n) (sym e) r)) ∙ e
      go false eg = flat_over x eg ∙ e

  pub flat_alone : (at : ℕ) (store : List ℕ) (start wanted : ℕ) → Firm gap (length src) n (flat_of rule src at store start wanted) → flat_of rule other at store start wanted ≡ flat_of rule src at store start wanted
  unfolding flat_of
  flat_alone at store start wanted firm =
      let a = flat_of rule src at store start wanted in
      let turns = length src + length other + 1 in
      enough_turns (flat_turn rule other) flat_out flat_out (λ (y : Flat). length other - y.at) (flat_falls rule falls other) _ turns _ (omega arith) (omega arith)
      ∙ same_run (flat_turn rule src) (flat_turn rule other) flat_out flat_out a (λ (x : Flat). Near gap (length src) n x.at)
      (λ x k. (subst (Firm gap (length src) n) (sym k) firm).0 refl)
      (λ k x r. near_or gap (length src) n x.at (λ near. near) (λ far. absurd (flat_past gap small rule alone src n k x far (subst (Firm gap (length src) n) (sym r) firm))))
      (λ x t k near. flat_turn_lem x (more t) near k)
      (λ x k. flat_turn_lem x (halt a) firm k)
      _ turns _ (omega arith) refl
    where
      falls : OnesOnward rule
      falls src x h = by (rule.ones src x) (alone.onward src x h)
        where
          by : (z : Turn Flat (Taken × List ℕ)) → TakesFour x z → Falls (λ (y : Flat). length src - y.at) x z
          by (more t) on = omega arith
          by (halt a) on = tt
