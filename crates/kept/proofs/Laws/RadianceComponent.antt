-- A component by the document is read by a channel as the same bytes, and just it is taken, by any rule that takes its counts whole.
use mathlib.Core.Bool.{Bool, true, false, ◌&&◌}
use mathlib.Core.List.{List, [], ◌∷◌, ◌++◌, append_assoc}
use mathlib.Core.Option.{none, some, none-ne-some, some-injective}
use mathlib.Core.Path.{◌≡◌, refl, sym, ap, ◌∙◌, subst}
use Prim.Native.Nat.{ℕ, zero, suc, ◌+◌, ◌-◌, ◌≤◌, ◌<◌}
use native.Mathlib.Omega.{arith}
use borrow.Author.Tests.{ltb-true, ltb-false, leb-true}
use lib.Dec.{ltb, leb}
use lib.ListN.{length, take, drop, replicate, length-append, length-replicate, length-take, take-append-drop}
use Rattle.steps.specs.Loop.{pick}
use Rattle.steps.proofs.Laws.Turns.{and_left, and_right, by_test}
use Rattle.steps.specs.Answer.{Taken}
use Rattle.channels_read.specs.Channel.{CountRule}
use Rattle.channels_read.proofs.Laws.Channel.{TakesWhole}
use Rattle.back.proofs.Laws.Channel.{Reads, reads_none, reads_both, reads_run, reads_packet, ReadAs, read_as}
use Rattle.kept.specs.Radiance.{Found, after, and_then, is_over, span, spans, component}

-- ---- What was found tells what it was found from

pub found_then : {A B : Type 0} (z : Found A) (next : A → List ℕ → Found B) (r : B × List ℕ) → and_then z next ≡ some r
    → (u : A × List ℕ) × (z ≡ some u) × (next u.0 u.1 ≡ some r)
found_then none next r e = absurd (none-ne-some _ e)
found_then (some u) next r e = (u, refl, e)

pub found_after : {A : Type 0} (xs : List A) (z : Found (List A)) (r : List A × List ℕ) → after xs z ≡ some r
    → (u : List A × List ℕ) × (z ≡ some u) × (◌≡◌ {A = List A × List ℕ} (xs ++ u.0, u.1) r)
found_after xs none r e = absurd (none-ne-some _ e)
found_after xs (some u) r e = (u, refl, some-injective _ _ e)

pub found_if : {A : Type 0} (t : Bool) (z : Found A) (r : A × List ℕ) → pick t z none ≡ some r → (t ≡ true) × (z ≡ some r)
found_if true z r e = (refl, e)
found_if false z r e = absurd (none-ne-some _ e)

-- ---- Counts

-- the bytes start with `front`, which is read as xs in any channel, and rest follows
pub record Stands (rule : CountRule) (bytes xs rest : List ℕ) : Type 0 where
  pub front : List ℕ
  pub there : bytes ≡ front ++ rest
  pub reads : (w : ℕ) (src : List ℕ) (k : ℕ) (a : Taken × List ℕ) → Reads rule src k w a front xs

over : (c : ℕ) → is_over c ≡ true → 128 < c
unfolding is_over
over c e = let h = ltb-true _ c e in omega arith

not_over : (c : ℕ) → is_over c ≡ false → c ≤ 128
unfolding is_over
not_over c e = let h = ltb-false _ c e in omega arith

module _ (rule : CountRule) (whole : TakesWhole rule) where
  run_stands : (c b : ℕ) (bytes : List ℕ) → 128 < c → Stands rule (c ∷ b ∷ bytes) (replicate (c - 128) b) bytes
  run_stands c b bytes h =
      let is : 128 + (c - 128) ≡ c = omega arith in
      record {
        front = c ∷ b ∷ [];
        there = refl;
        reads = λ w src k a. subst (λ (i : ℕ). Reads rule src k w a (i ∷ b ∷ []) (replicate (c - 128) b)) is (reads_run rule src k w a whole b (c - 128) (omega arith));
      }

  literals_stand : (c : ℕ) (bytes : List ℕ) → 0 < c → c ≤ 128 → c ≤ length bytes → Stands rule (c ∷ bytes) (take c bytes) (drop c bytes)
  literals_stand c bytes h l room =
      let size : c ≡ length (take c bytes) = omega (arith, length-take c bytes) in
      record {
        front = c ∷ take c bytes;
        there = ap (λ (l : List ℕ). c ∷ l) (sym (take-append-drop c bytes));
        reads = λ w src k a. reads_packet rule src k w a whole c (take c bytes) size h l;
      }

  span_stands : (c : ℕ) (bytes : List ℕ) (r : List ℕ × List ℕ) → span c bytes ≡ some r → Stands rule (c ∷ bytes) r.0 r.1
  unfolding span
  span_stands c [] r e = absurd (none-ne-some _ e)
  span_stands c (b ∷ bytes) r e =
      by_test Right (is_over c)
      (λ t e. subst Stood (some-injective _ _ e) (run_stands c b bytes (over c t)))
      (λ t e. let both = found_if (ltb 0 c && leb c (length (b ∷ bytes))) _ r e in
      subst Stood (some-injective _ _ both.1)
      (literals_stand c (b ∷ bytes) (ltb-true _ c (and_left (ltb 0 c) _ both.0)) (not_over c t) (leb-true c _ (and_right (ltb 0 c) _ both.0))))
      e
    where
      Stood : List ℕ × List ℕ → Type 0
      Stood z = Stands rule (c ∷ b ∷ bytes) z.0 z.1

      Right : Found (List ℕ) → Type 0
      Right z = z ≡ some r → Stood r

  nothing_stands : (bytes : List ℕ) (r : List ℕ × List ℕ) → ◌≡◌ {A = List ℕ × List ℕ} ([], bytes) r → Stands rule bytes r.0 r.1 × (length r.0 ≡ 0)
  nothing_stands bytes r e =
      subst (λ (z : List ℕ × List ℕ). Stands rule bytes z.0 z.1 × (length z.0 ≡ 0)) e (record { front = []; there = refl; reads = λ w src k a. reads_none rule src k w a }, refl)

  stands_both : (bytes xs more ys rest : List ℕ) → Stands rule bytes xs more → Stands rule more ys rest → Stands rule bytes (xs ++ ys) rest
  stands_both bytes xs more ys rest s t = record {
    front = s.front ++ t.front;
    there = s.there ∙ ap (λ (l : List ℕ). s.front ++ l) t.there ∙ sym (append_assoc s.front t.front rest);
    reads = λ w src k a. reads_both rule src k w a s.front t.front xs ys (s.reads w src k a) (t.reads w src k a);
  }

  spans_stand : (counts n : ℕ) (bytes : List ℕ) (r : List ℕ × List ℕ) → spans counts n bytes ≡ some r → Stands rule bytes r.0 r.1 × (length r.0 ≡ n)
  unfolding spans
  spans_stand zero zero bytes r e = nothing_stands bytes r (some-injective _ _ e)
  spans_stand zero (suc n) bytes r e = absurd (none-ne-some _ e)
  spans_stand (suc counts) zero bytes r e = nothing_stands bytes r (some-injective _ _ e)
  spans_stand (suc counts) (suc n) [] r e = absurd (none-ne-some _ e)
  spans_stand (suc counts) (suc n) (c ∷ bytes) r e =
      let one = found_then (span c bytes) _ r e in
      let xs : List ℕ = one.0.0 in
      let more : List ℕ = one.0.1 in
      let fits = found_if (leb (length xs) _) _ r one.2 in
      let others = found_after xs (spans counts (suc n - length xs) more) r fits.1 in
      let ys : List ℕ = others.0.0 in
      let rest = spans_stand counts (suc n - length xs) more others.0 others.1 in
      let size : length (xs ++ ys) ≡ suc n = omega (arith, length-append xs ys, rest.1, leb-true (length xs) _ fits.0) in
      subst (λ (z : List ℕ × List ℕ). Stands rule (c ∷ bytes) z.0 z.1 × (length z.0 ≡ suc n)) others.2
      (stands_both (c ∷ bytes) xs more ys others.0.1 (span_stands c bytes one.0 one.1) rest.0, size)

-- ---- How many counts

-- a count stands for one byte at least
span_some : (c : ℕ) (bytes : List ℕ) (r : List ℕ × List ℕ) → span c bytes ≡ some r → 1 ≤ length r.0
unfolding span
span_some c [] r e = absurd (none-ne-some _ e)
span_some c (b ∷ bytes) r e =
    by_test (λ (z : Found (List ℕ)). z ≡ some r → 1 ≤ length r.0) (is_over c)
    (λ t e.
    let same : length (replicate (c - 128) b) ≡ length r.0 = ap size (some-injective _ _ e) in
    omega (arith, length-replicate (c - 128) b, over c t))
    (λ t e.
    let both = found_if (ltb 0 c && leb c (length (b ∷ bytes))) _ r e in
    let same : length (take c (b ∷ bytes)) ≡ length r.0 = ap size (some-injective _ _ both.1) in
    let some-there = ltb-true _ c (and_left (ltb 0 c) _ both.0) in
    omega (arith, length-take c (b ∷ bytes)))
    e
  where
    size : List ℕ × List ℕ → ℕ
    size z = length z.0

-- n counts are enough for n bytes: with one more nothing else is found
pub counts_enough : (counts n : ℕ) (bytes : List ℕ) → n ≤ counts → spans (suc counts) n bytes ≡ spans counts n bytes
unfolding spans
counts_enough zero zero bytes h = refl
counts_enough zero (suc n) bytes h = absurd (omega arith)
counts_enough (suc counts) zero bytes h = refl
counts_enough (suc counts) (suc n) [] h = refl
counts_enough (suc counts) (suc n) (c ∷ bytes) h = go (λ m l q. counts_enough counts m l q) (span c bytes) refl
  where
    next : ℕ → List ℕ → List ℕ → Found (List ℕ)
    next k xs rest = pick (leb (length xs) (suc n)) (after xs (spans k (suc n - length xs) rest)) none

    go : ((m : ℕ) (l : List ℕ) → m ≤ counts → spans (suc counts) m l ≡ spans counts m l) → (z : Found (List ℕ)) → span c bytes ≡ z → and_then z (next (suc counts)) ≡ and_then z (next counts)
    go rec none e = refl
    go rec (some u) e =
        let some-there = span_some c bytes u e in
        ap (λ (l : Found (List ℕ)). pick (leb (length u.0) (suc n)) (after u.0 l) none) (rec (suc n - length u.0) u.1 (omega arith))

-- ---- The component

pub component_read : (rule : CountRule) → TakesWhole rule → (n : ℕ) (bytes : List ℕ) (r : List ℕ × List ℕ) → component n bytes ≡ some r
    → (front : List ℕ) × (bytes ≡ front ++ r.1) × (length r.0 ≡ n) × ReadAs rule n front r.0
component_read rule whole n bytes r e =
    let found = spans_stand rule whole n n bytes r e in
    (found.0.front, found.0.there, found.1, read_as rule n found.0.front r.0 found.1 (found.0.reads n))
