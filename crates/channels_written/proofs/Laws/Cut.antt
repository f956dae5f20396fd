-- Where two neighbours differ, the cut of the whole is the cut of what stands before and the cut of what stands after.
use mathlib.Core.Path.{◌≡◌, refl, sym, ap, ◌∙◌}
use mathlib.Core.Logic.{⊎_elim}
use mathlib.Core.List.{List, [], ◌∷◌, ◌++◌, append-nil}
use Prim.Native.Nat.{ℕ, zero, suc, ◌-◌, ◌≤◌, ◌<◌}
use native.Mathlib.Omega.{arith}
use lib.ListN.{length, get_or, take, drop, drop_of_length-le}
use lib.Seq.{take-suc, drop-cons, split_at, take_all}
use Rattle.steps.proofs.Laws.Order.{lt_or_ge}
use Rattle.channels_written.specs.Channel.{Run, run, grow, cut}
use Rattle.channels_written.proofs.Laws.Channel.{grow_other, grow_step}

-- the run in hand ends before y at the latest
grow_split : (v n : ℕ) (p : List ℕ) (x y : ℕ) (q : List ℕ) → (x ≡ y → ⊥) → grow v n (p ++ x ∷ y ∷ q) ≡ grow v n (p ++ x ∷ []) ++ grow y 1 q
unfolding grow
grow_split v n [] x y q d =
    ⊎_elim
    (λ s. s.1 (y ∷ q) ∙ grow_other v y (suc n) q (λ e. d (s.0 ∙ sym e)) ∙ ap (λ (l : List Run). l ++ grow y 1 q) (sym (s.1 [])))
    (λ e. e (y ∷ q) ∙ ap (λ (l : List Run). run v n ∷ l) (grow_other x y 1 q (λ e. d (sym e))) ∙ ap (λ (l : List Run). l ++ grow y 1 q) (sym (e [])))
    (grow_step v n x)
grow_split v n (z ∷ p) x y q d =
    ⊎_elim
    (λ s. s.1 (p ++ x ∷ y ∷ q) ∙ grow_split v (suc n) p x y q d ∙ ap (λ (l : List Run). l ++ grow y 1 q) (sym (s.1 (p ++ x ∷ []))))
    (λ e. e (p ++ x ∷ y ∷ q) ∙ ap (λ (l : List Run). run v n ∷ l) (grow_split z 1 p x y q d) ∙ ap (λ (l : List Run). l ++ grow y 1 q) (sym (e (p ++ x ∷ []))))
    (grow_step v n z)

cut_split : (p : List ℕ) (x y : ℕ) (q : List ℕ) → (x ≡ y → ⊥) → cut (p ++ x ∷ y ∷ q) ≡ cut (p ++ x ∷ []) ++ cut (y ∷ q)
unfolding cut grow
cut_split [] x y q d = grow_other x y 1 q (λ e. d (sym e))
cut_split (z ∷ p) x y q d = grow_split z 1 p x y q d

cut_at : (xs : List ℕ) (j : ℕ) → suc j < length xs → (get_or xs j 0 ≡ get_or xs (suc j) 0 → ⊥) → cut xs ≡ cut (take (suc j) xs) ++ cut (drop (suc j) xs)
cut_at xs j h d =
    let x : ℕ = get_or xs j 0 in
    let y : ℕ = get_or xs (suc j) 0 in
    let q : List ℕ = drop (suc (suc j)) xs in
    let after : drop (suc j) xs ≡ y ∷ q = drop-cons xs (suc j) 0 h in
    let before : take (suc j) xs ≡ take j xs ++ x ∷ [] = take-suc xs j 0 (omega arith) in
    ap cut (split_at xs j 0 (omega arith) ∙ ap (λ (l : List ℕ). take j xs ++ x ∷ l) after)
    ∙ cut_split (take j xs) x y q d
    ∙ ap (λ (l : List ℕ). cut l ++ cut (y ∷ q)) (sym before)
    ∙ ap (λ (l : List ℕ). cut (take (suc j) xs) ++ cut l) (sym after)

-- place h has no byte before it, no byte after it, or two neighbours that differ
abbrev pub Border : List ℕ → ℕ → Type 0
Border xs h = 0 < h → h < length xs → get_or xs (h - 1) 0 ≡ get_or xs h 0 → ⊥

pub cut_border : (xs : List ℕ) (h : ℕ) → Border xs h → cut xs ≡ cut (take h xs) ++ cut (drop h xs)
unfolding cut
cut_border xs zero b = refl
cut_border xs (suc j) b =
    let j' : suc j - 1 ≡ j = omega arith in
    ⊎_elim
    (λ h. cut_at xs j h (rw j' at (b (omega arith) h)))
    (λ h. sym (ap (λ (l : List ℕ). cut l ++ cut (drop (suc j) xs)) (take_all (suc j) xs h) ∙ ap (λ (l : List ℕ). cut xs ++ cut l) (drop_of_length-le xs h) ∙ append-nil (cut xs)))
    (lt_or_ge (suc j) (length xs))

-- bytes are cut into one run at least
pub grow_some : (v n : ℕ) (xs : List ℕ) → 1 ≤ length (grow v n xs)
unfolding grow
grow_some v n [] = omega arith
grow_some v n (x ∷ xs) =
    ⊎_elim (λ s. omega (arith, ap length (s.1 xs), grow_some v (suc n) xs)) (λ e. omega (arith, ap length (e xs))) (grow_step v n x)
