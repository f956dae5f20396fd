-- The laws of `specs/Survey.antt`.
use Rattle.std.proofs.Common.{◌≡◌, ℕ, zero, suc, ◌+◌, ◌-◌, ◌*◌, ◌<◌, ◌≤◌, Bool, true, false, ltb, List, sym, refl, ap, ◌∙◌, ⊎_elim, arith}
use Rattle.steps.proofs.Laws.Order.{lt_or_ge}
use Rattle.steps.specs.Loop.{pick}
use Rattle.steps.proofs.Laws.Turns.{by_test}
use Rattle.steps.specs.declared.Reading.{Reading}
use Rattle.pixel.specs.declared.Rgbe.{Rgbe}
use Rattle.pixel.specs.Rgbe.{rgbe_at}
use Rattle.light.specs.Light.{light_of, is_black, is_masked, darker, brighter}
use Rattle.survey.specs.Survey.{times, seen, seen_times, Alike, survey_of}
use Rattle.survey.specs.declared.Totals.{Totals}

-- ---- The same pixel again

one_arm : {A : Type 0} (b : Bool) (x : A) → pick b x x ≡ x
one_arm {A} b x = by_test (λ (y : A). y ≡ x) b (λ t. refl) (λ t. refl)

darker_self : (reading : Reading) (q : Rgbe) → darker reading q q ≡ q
unfolding darker
darker_self reading q = simp one_arm

darker_twice : (reading : Reading) (p q : Rgbe) → darker reading (darker reading p q) q ≡ darker reading p q
unfolding darker
darker_twice reading p q =
    by_test (λ (x : Rgbe). darker reading x q ≡ x) (is_black reading q)
    (λ t. simp t)
    (λ t. by_test (λ (x : Rgbe). darker reading x q ≡ x) (is_black reading p)
    (λ u. darker_self reading q)
    (λ u. by_test (λ (x : Rgbe). darker reading x q ≡ x) (ltb (light_of reading q) (light_of reading p))
    (λ v. darker_self reading q)
    (λ v. simp (t, u, v))))

brighter_twice : (reading : Reading) (p q : Rgbe) → brighter reading (brighter reading p q) q ≡ brighter reading p q
unfolding brighter
brighter_twice reading p q =
    by_test (λ (x : Rgbe). brighter reading x q ≡ x) (ltb (light_of reading p) (light_of reading q))
    (λ t. one_arm (ltb (light_of reading q) (light_of reading q)) q)
    (λ t. simp t)

times_more : (a n : ℕ) (b : Bool) → a + times b 1 + times b n ≡ a + times b (suc n)
times_more a n true = omega arith
times_more a n false = omega arith

seen_more : (reading : Reading) (n : ℕ) (q : Rgbe) (t : Totals) → seen_times reading n q (seen_times reading 1 q t) ≡ seen_times reading (suc n) q t
unfolding seen_times
seen_more reading n q t = simp (times_more t.black n (is_black reading q), times_more t.masked n (is_masked reading q), darker_twice reading t.darkest q, brighter_twice reading t.brightest q)

-- ---- Pixels that are the same

alike_from : (store : List ℕ) (i n : ℕ) → Alike store i (suc (suc n)) → Alike store (i + 4) (suc n)
alike_from store i n h k l =
    let place : i + 4 + 4 * k ≡ i + 4 * suc k = omega arith in
    let one : i + 4 ≡ i + 4 * 1 = omega arith in
    ap (rgbe_at store) place ∙ h (suc k) (omega arith) ∙ sym (ap (rgbe_at store) one ∙ h 1 (omega arith))

pub alike_one : (store : List ℕ) (i j : ℕ) → j ≡ 1 → Alike store i j
alike_one store i j e k l = let place : i + 4 * k ≡ i = omega arith in ap (rgbe_at store) place

-- one more
pub alike_next : (store : List ℕ) (k j : ℕ) → k < j → Alike store (4 * k) (j - k) → rgbe_at store (4 * j) ≡ rgbe_at store (4 * k) → Alike store (4 * k) (j + 1 - k)
alike_next store k j h a e m l = ⊎_elim (λ (less : m < j - k). a m less) (λ (not-less : j - k ≤ m). here (omega arith)) (lt_or_ge m (j - k))
  where
    here : 4 * k + 4 * m ≡ 4 * j → rgbe_at store (4 * k + 4 * m) ≡ rgbe_at store (4 * k)
    here z = rw z e

survey_run : (reading : Reading) (store : List ℕ) (i n m : ℕ) (t : Totals) → Alike store i (suc n) → survey_of reading store i (suc n + m) t ≡ survey_of reading store (i + 4 * suc n) m (seen_times reading (suc n) (rgbe_at store i) t)
unfolding survey_of
survey_run reading store i zero m t h =
    let first : suc zero + m ≡ suc m = omega arith in
    let place : i + 4 ≡ i + 4 * 1 = omega arith in
    ap (λ (z : ℕ). survey_of reading store i z t) first ∙ ap (λ (j : ℕ). survey_of reading store j m (seen_times reading 1 (rgbe_at store i) t)) place
survey_run reading store i (suc n) m t h =
    let first : suc (suc n) + m ≡ suc (suc n + m) = omega arith in
    let one : i + 4 ≡ i + 4 * 1 = omega arith in
    let same : rgbe_at store (i + 4) ≡ rgbe_at store i = ap (rgbe_at store) one ∙ h 1 (omega arith) in
    let place : i + 4 + 4 * suc n ≡ i + 4 * suc (suc n) = omega arith in
    ap (λ (z : ℕ). survey_of reading store i z t) first
    ∙ survey_run reading store (i + 4) n m (seen reading (rgbe_at store i) t) (alike_from store i n h)
    ∙ ap (λ (x : Rgbe). survey_of reading store (i + 4 + 4 * suc n) m (seen_times reading (suc n) x (seen reading (rgbe_at store i) t))) same
    ∙ ap (λ (j : ℕ). survey_of reading store j m (seen_times reading (suc n) (rgbe_at store i) (seen reading (rgbe_at store i) t))) place
    ∙ ap (survey_of reading store (i + 4 * suc (suc n)) m) (seen_more reading (suc n) (rgbe_at store i) t)

-- pixels that are the same, and the rest
pub survey_next : (reading : Reading) (store : List ℕ) (k e n : ℕ) (t u w : Totals) (q : Rgbe) → survey_of reading store (4 * k) (n - k) t ≡ w → k < e → e ≤ n → Alike store (4 * k) (e - k) → q ≡ rgbe_at store (4 * k) → u ≡ seen_times reading (e - k) q t
    → survey_of reading store (4 * e) (n - e) u ≡ w
survey_next reading store k e n t u w q is h l a eq eu =
    let more : ℕ = e - suc k in
    let run : e - k ≡ suc more = omega arith in
    let all : suc more + (n - e) ≡ n - k = omega arith in
    let place : 4 * k + 4 * suc more ≡ 4 * e = omega arith in
    rw (eu, eq, run, ← place) (sym (survey_run reading store (4 * k) more (n - e) t (rw run at a)) ∙ ap (λ (z : ℕ). survey_of reading store (4 * k) z t) all ∙ is)

pub survey_end : (reading : Reading) (store : List ℕ) (k n : ℕ) (t w : Totals) → survey_of reading store (4 * k) (n - k) t ≡ w → n ≤ k → t ≡ w
unfolding survey_of
survey_end reading store k n t w e h = let none : n - k ≡ 0 = omega arith in rw none at e
