-- The run in hand: n bytes of a channel are in it, and the rest is yet to be cut.
use mathlib.Core.Path.{◌≡◌, refl, sym, ap, ◌∙◌, subst}
use mathlib.Core.Logic.{⊎_elim}
use mathlib.Core.List.{List, [], ◌∷◌}
use Prim.Native.Nat.{ℕ, zero, suc, ◌+◌, ◌*◌, ◌≤◌, ◌<◌, min}
use native.Mathlib.Omega.{arith}
use native.Mathlib.Numerals.{add-one}
use borrow.Author.Count.{below_more}
use lib.ListN.{length, get_or, drop, drop_of_length-le}
use lib.Seq.{drop-cons}
use Rattle.steps.proofs.Laws.Order.{lt_or_ge}
use Rattle.channels_written.specs.Channel.{run, grow, cut, channel}
use Rattle.channels_written.specs.Inner.{Four, FourEqual, Equal}
use Rattle.channels_written.proofs.Laws.Channel.{grow_same, grow_other, grow_full}
use Rattle.channels_written.proofs.Laws.Places.{length_channel, get_or_channel}

module _ (xs : List ℕ) (v n : ℕ) (e : cut xs ≡ grow v n (drop n xs)) where
  front_more : n < length xs → n < 127 → get_or xs n 0 ≡ v → cut xs ≡ grow v (n + 1) (drop (n + 1) xs)
  front_more h l q =
      e ∙ ap (grow v n) (drop-cons xs n 0 h) ∙ grow_same v (get_or xs n 0) n (drop (suc n) xs) q l ∙ ap (λ (k : ℕ). grow v k (drop k xs)) (sym (add-one n))

  front_other : n < length xs → (get_or xs n 0 ≡ v → ⊥) → cut xs ≡ run v n ∷ cut (drop n xs)
  unfolding cut
  front_other h q =
      e ∙ ap (grow v n) (drop-cons xs n 0 h) ∙ grow_other v (get_or xs n 0) n (drop (suc n) xs) q ∙ ap (λ (l : List ℕ). run v n ∷ cut l) (sym (drop-cons xs n 0 h))

  front_full : n < length xs → 127 ≤ n → cut xs ≡ run v n ∷ cut (drop n xs)
  unfolding cut
  front_full h q =
      e ∙ ap (grow v n) (drop-cons xs n 0 h) ∙ grow_full v (get_or xs n 0) n (drop (suc n) xs) q ∙ ap (λ (l : List ℕ). run v n ∷ cut l) (sym (drop-cons xs n 0 h))

  front_end : length xs ≤ n → cut xs ≡ run v n ∷ cut (drop n xs)
  unfolding cut grow
  front_end h = e ∙ ap (grow v n) (drop_of_length-le xs h) ∙ ap (λ (l : List ℕ). run v n ∷ cut l) (sym (drop_of_length-le xs h))

  -- the run in hand has all that it may have
  front_stop : n ≡ min 127 (length xs) → cut xs ≡ run v n ∷ cut (drop n xs)
  front_stop q = ⊎_elim (λ h. front_full h (omega arith)) (λ h. front_end h) (lt_or_ge n (length xs))

front_start : (xs : List ℕ) → 0 < length xs → cut xs ≡ grow (get_or xs 0 0) 1 (drop 1 xs)
unfolding cut
front_start [] h = absurd (omega arith)
front_start (x ∷ xs) h = refl

-- ---- the same, of a channel

module _ (px : List ℕ) (at : ℕ) where
  pub equal_next : (n : ℕ) → Equal px at n → get_or px (at + 4 * n) 0 ≡ get_or px at 0 → Equal px at (n + 1)
  equal_next n e q = below_more (λ (k : ℕ). get_or px (at + 4 * k) 0 ≡ get_or px at 0) n e q

  -- four bytes more
  pub equal_four : (n : ℕ) → Equal px at n → Four px (at + 4 * n) (get_or px at 0) → Equal px at (n + 4)
  equal_four n e f =
      let i1 : at + 4 * n + 4 ≡ at + 4 * (n + 1) = omega arith in
      let i2 : at + 4 * n + 8 ≡ at + 4 * (n + 1 + 1) = omega arith in
      let i3 : at + 4 * n + 12 ≡ at + 4 * (n + 1 + 1 + 1) = omega arith in
      let four : n + 1 + 1 + 1 + 1 ≡ n + 4 = omega arith in
      rw four at (equal_next (n + 1 + 1 + 1) (equal_next (n + 1 + 1) (equal_next (n + 1) (equal_next n e f.0) (rw i1 at f.1)) (rw i2 at f.2)) (rw i3 at f.3))

  -- the first four
  pub equal_first : FourEqual px at → Equal px at 4
  equal_first f =
      let here : at ≡ at + 4 * 0 = omega arith in
      equal_four 0 (λ k h. absurd (omega arith)) (subst (λ (i : ℕ). Four px i (get_or px at 0)) here f)

module _ (px : List ℕ) (at left : ℕ) (some : 0 < left) where
  abbrev InHand : ℕ → Type 0
  InHand n = cut (channel px at left) ≡ grow (get_or px at 0) n (drop n (channel px at left))

  head : get_or px at 0 ≡ get_or (channel px at left) 0 0
  head = ap (λ (a : ℕ). get_or px a 0) (omega arith) ∙ sym (get_or_channel px at 0 left some)

  size : length (channel px at left) ≡ left
  size = length_channel px at left

  in_hand : (n : ℕ) → 1 ≤ n → n ≤ left → n ≤ 127 → Equal px at n → InHand n
  in_hand zero p h l e = absurd (omega arith)
  in_hand (suc zero) p h l e = front_start (channel px at left) (omega (arith, size)) ∙ ap (λ (v : ℕ). grow v 1 (drop 1 (channel px at left))) (sym head)
  in_hand (suc (suc n)) p h l e =
      let next : suc n + 1 ≡ suc (suc n) = omega arith in
      let before = in_hand (suc n) (omega arith) (omega arith) (omega arith) (λ k q. e k (omega arith)) in
      rw next at (front_more (channel px at left) (get_or px at 0) (suc n) before (omega (arith, size)) (omega arith) (get_or_channel px at (suc n) left h ∙ e (suc n) (omega arith)))

  module _ (n : ℕ) (p : 1 ≤ n) (l : n ≤ 127) (e : Equal px at n) where
    -- the next byte is another
    pub run_other : n < left → (get_or px (at + 4 * n) 0 ≡ get_or px at 0 → ⊥) → cut (channel px at left) ≡ run (get_or (channel px at left) 0 0) n ∷ cut (drop n (channel px at left))
    run_other h q =
        front_other (channel px at left) (get_or px at 0) n (in_hand n p (omega arith) l e) (omega (arith, size)) (λ w. q (sym (get_or_channel px at n left h) ∙ w))
        ∙ ap (λ (v : ℕ). run v n ∷ cut (drop n (channel px at left))) head

    -- the run has all that it may have
    pub run_stop : n ≡ min 127 left → cut (channel px at left) ≡ run (get_or (channel px at left) 0 0) n ∷ cut (drop n (channel px at left))
    run_stop q =
        front_stop (channel px at left) (get_or px at 0) n (in_hand n p (omega arith) l e) (omega (arith, size)) ∙ ap (λ (v : ℕ). run v n ∷ cut (drop n (channel px at left))) head
