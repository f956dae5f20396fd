-- Where a flat part is done, none of the pixels that it stored starts 1, 1, 1, by either reading: so a row of them can be written flat.
use Prim.Native.Nat.{ℕ, zero, suc, ◌+◌, ◌-◌, ◌*◌, ◌<◌, ◌≤◌}
use native.Mathlib.Nat.{not-suc-le-zero}
use native.Mathlib.Omega.{arith}
use mathlib.Core.List.{List, [], ◌∷◌}
use mathlib.Core.Bool.{false}
use mathlib.Core.Path.{◌≡◌, refl, sym, ap, subst, ◌∙◌}
use borrow.Author.Tests.{ltb-false}
use lib.ListN.{length, get_or, set, length-set}
use lib.Seq.{get_or-set_same, get_or-set_other}
use lib.Dec.{ltb}
use Rattle.steps.specs.Place.{bytes_from, spread}
use Rattle.steps.proofs.Laws.Order.{by_order}
use Rattle.steps.proofs.Laws.Place.{length_spread, length_bytes, spread_append, get_or_bytes}
use Rattle.steps.proofs.Laws.Taken.{never_both}
use Rattle.steps.proofs.Laws.Turns.{by_test, Leads, run_keeps}
use Rattle.steps.specs.Answer.{Taken}
use Rattle.std.specs.Prelude.{Ok, Err}
use Rattle.steps.specs.declared.refusal.Reason.{Reason}
use Rattle.steps.specs.declared.Reading.{Reading}
use Rattle.steps.specs.declared.Reading.TheVariants.{Crate, Document}
use Rattle.flat_read.specs.Flat.{Flat, flat, copies, copies_to, times_of, crate_flat, document_ones, document_flat, flat_rule, flat_of, flat_out, flat_turn, is_repeat, ordinary, stored, repeated}
use Rattle.flat_read.proofs.Laws.Flat.{NoRepeat, four_there, flat_cases}

-- ---- A pixel among values that are stored from p on

before_byte : (s : List ℕ) (p : ℕ) (vs : List ℕ) (j : ℕ) → j < p → get_or (spread 1 s p vs) j 0 ≡ get_or s j 0
unfolding spread
before_byte s p [] j h = refl
before_byte s p (v ∷ vs) j h = before_byte (set s p v) (p + 1) vs j (omega arith) ∙ get_or-set_other s p j v 0 (λ e. omega arith)

there_byte : (s : List ℕ) (p : ℕ) (vs : List ℕ) (j : ℕ) → j < length vs → p + length vs ≤ length s → get_or (spread 1 s p vs) (p + j) 0 ≡ get_or vs j 0
unfolding spread
there_byte s p [] j h k = absurd (not-suc-le-zero h)
there_byte s p (v ∷ vs) zero h k =
    let here : p + 0 ≡ p = omega arith in
    rw here (before_byte (set s p v) (p + 1) vs p (omega arith) ∙ get_or-set_same s p v 0 (omega arith))
there_byte s p (v ∷ vs) (suc j) h k =
    let here : p + suc j ≡ p + 1 + j = omega arith in
    rw here (there_byte (set s p v) (p + 1) vs j (omega arith) (omega (arith, length-set s p v)))

-- three bytes alike
repeat_alike : (s t : List ℕ) (i j : ℕ) → ((k : ℕ) → k < 3 → get_or s (i + k) 0 ≡ get_or t (j + k) 0) → is_repeat s i ≡ is_repeat t j
unfolding is_repeat
repeat_alike s t i j e =
    let zero-i : i + 0 ≡ i = omega arith in
    let zero-j : j + 0 ≡ j = omega arith in
    let first : get_or s i 0 ≡ get_or t j 0 = rw (zero-i, zero-j) at (e 0 (omega arith)) in
    rw (first, e 1 (omega arith), e 2 (omega arith))

before_pixel : (s : List ℕ) (p : ℕ) (vs : List ℕ) (i : ℕ) → i + 4 ≤ p → is_repeat (spread 1 s p vs) i ≡ is_repeat s i
before_pixel s p vs i h = repeat_alike (spread 1 s p vs) s i i (λ k l. before_byte s p vs (i + k) (omega arith))

there_pixel : (s : List ℕ) (p : ℕ) (q : List ℕ) → length q ≡ 4 → p + 4 ≤ length s → is_repeat (spread 1 s p q) p ≡ is_repeat q 0
there_pixel s p q h k = repeat_alike (spread 1 s p q) q p 0 (λ j l. there_byte s p q j (omega arith) (omega arith) ∙ ap (λ (z : ℕ). get_or q z 0) (omega arith))

-- a pixel's four bytes, by themselves
alone_pixel : (s : List ℕ) (p : ℕ) → is_repeat (bytes_from s p 4) 0 ≡ is_repeat s p
alone_pixel s p = repeat_alike (bytes_from s p 4) s 0 p (λ j l. ap (λ (z : ℕ). get_or (bytes_from s p 4) z 0) (omega arith) ∙ get_or_bytes s p 4 j (omega arith))

copies_pixel : (n : ℕ) (s : List ℕ) (p : ℕ) (q : List ℕ) → length q ≡ 4 → p + 4 * n ≤ length s → (i : ℕ) → i < n → is_repeat (spread 1 s p (copies n q)) (p + 4 * i) ≡ is_repeat q 0
copies_pixel zero s p q h k i l = absurd (not-suc-le-zero l)
copies_pixel (suc n) s p q h k zero l =
    let here : p + 4 * 0 ≡ p = omega arith in
    rw (spread_append 1 s p q (copies n q), here) (before_pixel (spread 1 s p q) (p + 1 * length q) (copies n q) p (omega arith) ∙ there_pixel s p q h (omega arith))
copies_pixel (suc n) s p q h k (suc i) l =
    let next : p + 1 * length q ≡ p + 4 = omega arith in
    let here : p + 4 * suc i ≡ p + 4 + 4 * i = omega arith in
    rw (spread_append 1 s p q (copies n q), next, here) (copies_pixel n (spread 1 s p q) (p + 4) q h (omega (arith, length_spread 1 s p q)) i (omega arith))

-- ---- A flat part

-- so many pixels of the store as the part has come to
record Clean (all : ℕ) (x : Flat) : Type 0 where
  within : x.wanted ≤ all
  place : x.place ≡ 4 * (all - x.wanted)
  room : 4 * all ≤ length x.store
  none : NoRepeat x.store 0 (all - x.wanted)

-- the store of an answer that is no fault
record Stored (all : ℕ) (a : Taken × List ℕ) : Type 0 where
  none : (next : ℕ) → a.0 ≡ Ok next → NoRepeat a.1 0 all

module _ (src : List ℕ) (all : ℕ) (x : Flat) (c : Clean all x) (some : 0 < x.wanted) where
  pixel_clean : x.at + 4 ≤ length src → is_repeat src x.at ≡ false → Clean all (ordinary (stored src x))
  pixel_clean l e =
      let is = four_there src x.at x.store x.place l in
      let long : length (spread 1 x.store x.place (bytes_from src x.at 4)) ≡ length x.store = length_spread 1 x.store x.place (bytes_from src x.at 4) in
      record {
        within = omega (arith, c.within);
        place = omega (arith, c.within, c.place);
        room = rw is (omega (arith, long, c.room));
        none = λ i h. rw is (by_order i (all - x.wanted)
            (λ k. before_pixel x.store x.place _ (0 + 4 * i) (omega (arith, c.place)) ∙ c.none i k)
            (λ k. let here : 0 + 4 * i ≡ x.place = omega (arith, c.within, c.place) in
            rw here (there_pixel x.store x.place _ (length_bytes src x.at 4) (omega (arith, c.within, c.place, c.room)) ∙ alone_pixel src x.at ∙ e)));
      }

  copies_clean : (n : ℕ) → 4 ≤ x.place → n ≤ x.wanted → Clean all (repeated x n)
  unfolding copies_to
  copies_clean n first fits =
      let q : List ℕ = bytes_from x.store (x.place - 4) 4 in
      let k : ℕ = all - x.wanted in
      record {
        within = omega (arith, c.within);
        place = omega (arith, c.within, c.place);
        room = omega (arith, length_spread 1 x.store x.place (copies n q), c.room);
        none = λ i h. by_order i k
            (λ l. before_pixel x.store x.place (copies n q) (0 + 4 * i) (omega (arith, c.place)) ∙ c.none i l)
            (λ l. let here : 0 + 4 * i ≡ x.place + 4 * (i - k) = omega (arith, c.within, c.place) in
            let last : x.place - 4 ≡ 0 + 4 * (k - 1) = omega (arith, c.place) in
            rw here (copies_pixel n x.store x.place q (length_bytes x.store (x.place - 4) 4) (omega (arith, c.within, c.place, c.room)) (i - k) (omega (arith, c.within))
            ∙ alone_pixel x.store (x.place - 4) ∙ ap (is_repeat x.store) last ∙ c.none (k - 1) (omega (arith, c.place))));
      }

fault_stored : {all : ℕ} {reason : Reason} {s : List ℕ} → Stored all (Err reason, s)
fault_stored {reason = reason} = record { none = λ next e. never_both next reason (sym e) }

ones_clean : (reading : Reading) (src : List ℕ) (all : ℕ) (x : Flat) → Clean all x → 0 < x.wanted → Leads (Clean all) (Stored all) ((flat_rule reading).ones src x)
unfolding crate_flat document_flat document_ones
ones_clean Crate src all x c some = fault_stored
ones_clean Document src all x c some =
    by_test (Leads (Clean all) (Stored all)) (ltb x.place 4) (λ t. fault_stored)
    (λ t. by_test (Leads (Clean all) (Stored all)) (ltb x.wanted (times_of src x)) (λ u. fault_stored)
    (λ u. copies_clean src all x c some (times_of src x) (ltb-false x.place 4 t) (ltb-false x.wanted (times_of src x) u)))

-- `first` pixels of the row stand in the store already
pub flat_stored : (reading : Reading) (src : List ℕ) (at : ℕ) (store : List ℕ) (first wanted next : ℕ) → 4 * (first + wanted) ≤ length store → NoRepeat store 0 first
    → (flat_of (flat_rule reading) src at store (4 * first) wanted).0 ≡ Ok next → NoRepeat (flat_of (flat_rule reading) src at store (4 * first) wanted).1 0 (first + wanted)
unfolding flat_of
flat_stored reading src at store first wanted next room none =
    (run_keeps (flat_turn (flat_rule reading) src) flat_out (Clean all) (Stored all) step (λ x c. fault_stored) _ _ start).none next
  where
    all : ℕ
    all = first + wanted

    start : Clean all (flat at (4 * first) wanted 0 store)
    start =
        let come : all - wanted ≡ first = omega arith in
        record { within = omega arith; place = omega arith; room = room; none = subst (NoRepeat store 0) (sym come) none }

    step : (x : Flat) → Clean all x → Leads (Clean all) (Stored all) (flat_turn (flat_rule reading) src x)
    step x c =
        flat_cases (flat_rule reading) src x (Leads (Clean all) (Stored all))
        (λ h l e. ones_clean reading src all x c h)
        (λ h l e. pixel_clean src all x c h l e)
        (λ h. fault_stored)
        (λ h. record { none = λ n e. let whole : all - x.wanted ≡ all = omega arith in subst (NoRepeat x.store 0) whole c.none })
