-- A channel that is done by the document reading is a component by the document, or one of its counts is 0.
use mathlib.Core.List.{List, [], ◌∷◌, ◌++◌}
use mathlib.Core.Logic.{◌⊎◌, inl, inr}
use mathlib.Core.Option.{some}
use mathlib.Core.Path.{◌≡◌, refl, ap, ◌∙◌, subst}
use Prim.Native.Nat.{ℕ, zero, suc, ◌+◌, ◌-◌, min, ◌≤◌, ◌<◌}
use native.Mathlib.Numerals.{add-one}
use native.Mathlib.Omega.{arith}
use borrow.Author.Tests.{lt-ltb, le-ltb, le-leb, ltb-false}
use lib.Dec.{ltb}
use lib.ListN.{length, get_or, take, drop, replicate, length-take, length-drop, length-replicate}
use lib.Seq.{drop-cons, drop-drop}
use Rattle.steps.specs.declared.refusal.Reason.TheVariants.{BytesEnd}
use Rattle.steps.specs.Loop.{Turns, Turn, more, run, lead}
use Rattle.steps.proofs.Laws.Order.{by_order}
use Rattle.steps.proofs.Laws.Taken.{fault_done}
use Rattle.steps.proofs.Laws.Turns.{by_test}
use Rattle.steps.specs.Answer.{Taken}
use Rattle.std.specs.Prelude.{Ok}
use Rattle.channels_read.specs.Channel as read
use Rattle.channels_read.specs.Channel.{Chan, chan, Count, document_count, is_run, span_length, span_taken, span_of, channel_turn, channel_out, channel_of}
use Rattle.channels_read.proofs.Laws.Channel.{length_run, length_literals, taken_run, taken_literals, channel_cases}
use Rattle.kept.specs.Radiance.{is_over, span, spans, component}
use Rattle.kept.specs.RadianceZero.{ZeroAt}
use Rattle.kept.proofs.Laws.RadianceWritten.{spans_step, spans_add}

-- ---- One count

-- a count other than 0 asks for a byte at least
some_asked : (c : ℕ) → 0 < c → 0 < span_length c
some_asked c h = by_order 128 c (λ l. omega (arith, length_run c l)) (λ l. omega (arith, length_literals c l))

literals_found : (c : ℕ) (l : List ℕ) → 0 < c → c ≤ 128 → c ≤ length l → span c l ≡ some (take c l, drop c l)
unfolding span is_over
literals_found c [] h b room = absurd (omega arith)
literals_found c (x ∷ l) h b room = simp (le-ltb 128 c b, lt-ltb 0 c h, le-leb c (length (x ∷ l)) room)

run_found : (c x : ℕ) (l : List ℕ) → 128 < c → span c (x ∷ l) ≡ some (replicate (c - 128) x, l)
unfolding span is_over
run_found c x l h = simp (lt-ltb 128 c h)

-- where all the bytes are there that a count asks for, it is one by the document too
pub span_found : (src : List ℕ) (c p n : ℕ) → n ≡ span_length c → 0 < c → p + span_taken c n ≤ length src → (ys : List ℕ) × (length ys ≡ n) × (span c (drop p src) ≡ some (ys, drop (p + span_taken c n) src))
span_found src c p n en h room =
    by_order 128 c
    (λ l. let one = taken_run c n l in
    let x : ℕ = get_or src p 0 in
    let place : suc p ≡ p + span_taken c n = omega arith in (
      replicate (c - 128) x,
      omega (arith, length-replicate (c - 128) x, length_run c l),
      ap (span c) (drop-cons src p 0 (omega arith)) ∙ run_found c x (drop (suc p) src) l ∙ ap (λ (k : ℕ). some (replicate (c - 128) x, drop k src)) place,
    ))
    (λ l. let all = taken_literals c n l in
    let size = length_literals c l in
    let place : p + c ≡ p + span_taken c n = omega arith in (
      take c (drop p src),
      omega (arith, length-take c (drop p src), length-drop p src),
      literals_found c (drop p src) h l (omega (arith, length-drop p src)) ∙ ap (λ (r : List ℕ). some (take c (drop p src), r)) (drop-drop c p src ∙ ap (λ (k : ℕ). drop k src) place),
    ))

-- what the document reading finds of a count that it takes
pub counted : (src : List ℕ) (at done width n : ℕ) → document_count src at done width ≡ read.span n → (n ≡ span_length (get_or src at 0)) × (n ≤ width - done) × (span_taken (get_or src at 0) n ≤ length src - (at + 1))
unfolding document_count
counted src at done width n =
    by_test L (ltb (width - done) m) (λ t e. let no : ◌≡◌ {A = ℕ} 0 1 = cc in absurd (omega arith))
    (λ t. by_test L (ltb (read.behind src at) (span_taken c m))
    (λ u. by_test L (is_run c) (λ v e. let no : ◌≡◌ {A = ℕ} 0 1 = cc in absurd (omega arith)) (λ v e. let no : ◌≡◌ {A = ℕ} 0 1 = cc in absurd (omega arith)))
    (λ u e. let is : m ≡ n = cc in
    let fits = ltb-false (width - done) m t in
    subst (λ (k : ℕ). (k ≡ m) × (k ≤ width - done) × (span_taken c k ≤ length src - (at + 1))) is (refl, fits, ltb-false (read.behind src at) (span_taken c m) u)))
  where
    c : ℕ
    c = get_or src at 0

    m : ℕ
    m = span_length (get_or src at 0)

    L : Count → Type 0
    L z = z ≡ read.span n → (n ≡ span_length (get_or src at 0)) × (n ≤ width - done) × (span_taken (get_or src at 0) n ≤ length src - (at + 1))

-- ---- The channel

module _ (src : List ℕ) (channel width : ℕ) where
  -- after some counts from x on stands one that is 0
  abbrev pub Zero : Chan → Type 0
  Zero x = (n : ℕ) × (y : Chan) × Turns (channel_turn document_count src channel width) n x y × ZeroAt src width y

  -- what is left of the channel at x is there by the document, and next is the place after it
  abbrev Rest : Chan → ℕ → Type 0
  Rest x next = (xs : List ℕ) × (spans (width - x.done) (width - x.done) (drop x.at src) ≡ some (xs, drop next src))

  -- a count with its bytes, and the rest
  rest_before : (x : Chan) (m next : ℕ) → x.done < width → x.at < length src → document_count src x.at x.done width ≡ read.span m → 0 < get_or src x.at 0
      → Rest (span_of src channel (get_or src x.at 0) m x) next → Rest x next
  unfolding span_of
  rest_before x m next d l f h (xs, found) =
      let c : ℕ = get_or src x.at 0 in
      let (em, fits, there) = counted src x.at x.done width m f in
      let (ys, size, is) = span_found src c (x.at + 1) m em h (omega arith) in
      let asked : 0 < m = rw em (some_asked c h) in
      let j : ℕ = width - x.done - 1 in
      let left : ℕ = width - (x.done + m) in
      let wide : width - x.done ≡ suc j = omega arith in
      let after : suc j - length ys ≡ left = omega arith in
      let counts : j - left + left ≡ j = omega arith in
      let place : min (x.at + 1 + span_taken c m) (length src) ≡ x.at + 1 + span_taken c m = omega arith in
      let rest : spans j (suc j - length ys) (drop (x.at + 1 + span_taken c m) src) ≡ some (xs, drop next src) =
      rw (after, ← place) (subst (λ (k : ℕ). spans k left (drop (min (x.at + 1 + span_taken c m) (length src)) src) ≡ some (xs, drop next src)) counts (spans_add (j - left) left left _ (xs, drop next src) found)) in
      let front : drop x.at src ≡ c ∷ drop (x.at + 1) src = rw (add-one x.at) (drop-cons src x.at 0 l) in
      (ys ++ xs, rw (wide, front) (spans_step j j c (drop (x.at + 1) src) (ys, drop (x.at + 1 + span_taken c m) src) (xs, drop next src) is (omega arith) rest))

  -- from x on
  channel_or : (k : ℕ) (x : Chan) (next : ℕ) (s : List ℕ) → x.done ≤ width → run (channel_turn document_count src channel width) channel_out k x ≡ (Ok next, s) → Zero x ⊎ Rest x next
  unfolding run spans span_of
  channel_or zero x next s h e = fault_done BytesEnd next _ s e
  channel_or (suc k) x next s h e =
      channel_cases document_count src channel width x (λ (z : Turn Chan (Taken × List ℕ)). channel_turn document_count src channel width x ≡ z → lead (run (channel_turn document_count src channel width) channel_out k) z ≡ (Ok next, s) → Zero x ⊎ Rest x next)
      (λ m d l f et r. by_order 0 (get_or src x.at 0)
      (λ c. spans_or m d l f et c (channel_or k _ next s (within m d l f) r))
      (λ c. inl (0, x, refl, record { wants = d; there = l; zero = omega arith })))
      (λ reason d l f et r. fault_done reason next _ s r)
      (λ m d l f et r. fault_done BytesEnd next _ s r)
      (λ d l et r. fault_done BytesEnd next _ s r)
      (λ d et r. inr ([], ended d (ap here r)))
      refl e
    where
      here : Taken × List ℕ → Taken
      here z = z.0

      ended : width ≤ x.done → ◌≡◌ {A = Taken} (Ok x.at) (Ok next) → spans (width - x.done) (width - x.done) (drop x.at src) ≡ some ([], drop next src)
      ended d e =
          let none : width - x.done ≡ 0 = omega arith in
          let place : x.at ≡ next = cc in
          rw (none, place)

      within : (m : ℕ) → x.done < width → x.at < length src → document_count src x.at x.done width ≡ read.span m → (span_of src channel (get_or src x.at 0) m x).done ≤ width
      within m d l f = omega (arith, (counted src x.at x.done width m f).1)

      spans_or : (m : ℕ) → x.done < width → x.at < length src → document_count src x.at x.done width ≡ read.span m → channel_turn document_count src channel width x ≡ more (span_of src channel (get_or src x.at 0) m x)
          → 0 < get_or src x.at 0 → Zero (span_of src channel (get_or src x.at 0) m x) ⊎ Rest (span_of src channel (get_or src x.at 0) m x) next → Zero x ⊎ Rest x next
      spans_or m d l f et c (inl (n, y, turns, count)) = inl (suc n, y, (_, et, turns), count)
      spans_or m d l f et c (inr rest) = inr (rest_before x m next d l f c rest)

-- the whole channel
pub component_or : (src : List ℕ) (at : ℕ) (store : List ℕ) (channel width next : ℕ) (s : List ℕ) → channel_of document_count src at store channel width ≡ (Ok next, s)
    → Zero src channel width (chan at 0 store) ⊎ ((xs : List ℕ) × (component width (drop at src) ≡ some (xs, drop next src)))
unfolding channel_of
component_or src at store channel width next s e =
    let all : width - 0 ≡ width = omega arith in
    subst (λ (n : ℕ). Zero src channel width (chan at 0 store) ⊎ ((xs : List ℕ) × (spans n n (drop at src) ≡ some (xs, drop next src)))) all (channel_or src channel width (length src + 1) (chan at 0 store) next s (omega arith) e)
