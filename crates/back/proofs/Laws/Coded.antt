-- What holds of nothing, of a run, of literals, and of one stretch of bytes after another holds of a channel as it is written.
use mathlib.Core.Path.{◌≡◌, sym, ap, ◌∙◌, subst}
use mathlib.Core.Logic.{⊎_elim}
use mathlib.Core.List.{List, [], ◌∷◌, ◌++◌, append_assoc, append-nil}
use Prim.Native.Nat.{ℕ, zero, suc, ◌≤◌, min}
use native.Mathlib.Omega.{arith}
use lib.ListN.{length, take, drop, replicate, length-take, length-drop, take-append-drop}
use Rattle.channels_written.specs.Channel.{Run, run, cut, bytes, literals, packet, stretch, gather, code}
use Rattle.channels_written.proofs.Laws.Channel.{bytes_cut, bytes_append, literals_packet, stretch_step, gather_step}

-- R p xs: the bytes p stand for the bytes xs of a channel
module _ (R : List ℕ → List ℕ → Type 0) (none : R [] []) (both : (p q xs ys : List ℕ) → R p xs → R q ys → R (p ++ q) (xs ++ ys))
    (of-run : (v n : ℕ) → 1 ≤ n → R (packet v n) (replicate n v)) (of-literals : (c : ℕ) (p : List ℕ) → c ≡ length p → 1 ≤ c → c ≤ 128 → R (c ∷ p) p) where
  -- literals, packet by packet
  literals_by : (m : ℕ) (xs : List ℕ) → length xs ≤ m → R (literals 0 xs) xs
  literals_by zero [] h = none
  literals_by (suc m) [] h = none
  literals_by zero (x ∷ xs) h = absurd (omega arith)
  literals_by (suc m) (x ∷ xs) h =
      let c : ℕ = min 128 (suc (length xs)) in
      let p : List ℕ = x ∷ take 127 xs in
      let fewer : length (drop 127 xs) ≤ m = omega (arith, length-drop 127 xs) in
      let both : R (c ∷ p ++ literals 0 (drop 127 xs)) (p ++ drop 127 xs) =
      both (c ∷ p) (literals 0 (drop 127 xs)) p (drop 127 xs) (of-literals c p (omega (arith, length-take 127 xs)) (omega arith) (omega arith)) (literals_by m (drop 127 xs) fewer) in
      subst (λ (l : List ℕ). R (c ∷ x ∷ l) (x ∷ xs)) (sym (literals_packet 127 xs))
      (subst (λ (l : List ℕ). R (c ∷ x ∷ (take 127 xs ++ literals 0 (drop 127 xs))) (x ∷ l)) (take-append-drop 127 xs) both)

  stretch_by : (g : List Run) → R (stretch g) (bytes g)
  stretch_by g =
      ⊎_elim
      (λ p. subst (λ (l : List ℕ). R l (bytes g)) (sym p.4) (subst (R (packet p.0 p.1)) (sym p.3) (of-run p.0 p.1 (omega arith))))
      (λ e. subst (λ (l : List ℕ). R l (bytes g)) (sym e) (literals_by (length (bytes g)) (bytes g) (omega arith)))
      (stretch_step g)

  gather_by : (g rs : List Run) → R (gather g rs) (bytes g ++ bytes rs)
  unfolding gather
  gather_by g [] = subst (R (stretch g)) (sym (append-nil (bytes g))) (stretch_by g)
  gather_by g (run v n ∷ rs) =
      ⊎_elim
      (λ p. subst (λ (l : List ℕ). R l (bytes g ++ (replicate n v ++ bytes rs))) (sym p.1)
      (both (stretch g) (packet v n ++ gather [] rs) (bytes g) (replicate n v ++ bytes rs) (stretch_by g)
      (both (packet v n) (gather [] rs) (replicate n v) (bytes rs) (of-run v n (omega arith)) (gather_by [] rs))))
      (λ e. subst (λ (l : List ℕ). R l (bytes g ++ (replicate n v ++ bytes rs))) (sym e)
      (subst (R (gather (g ++ run v n ∷ []) rs))
      (ap (λ (l : List ℕ). l ++ bytes rs) (bytes_append g (run v n ∷ []) ∙ ap (λ (l : List ℕ). bytes g ++ l) (append-nil (replicate n v))) ∙ append_assoc (bytes g) (replicate n v) (bytes rs))
      (gather_by (g ++ run v n ∷ []) rs)))
      (gather_step g v n rs)

  pub code_by : (xs : List ℕ) → R (code xs) xs
  unfolding code
  code_by xs = subst (R (code xs)) (bytes_cut xs) (gather_by [] (cut xs))
