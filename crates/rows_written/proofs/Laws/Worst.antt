-- No channel and no row takes more than its worst length, and two values in turn take it at every length and width.
use mathlib.Core.Path.{◌≡◌, refl, sym, ap, ◌∙◌}
use mathlib.Core.Logic.{⊎_elim}
use mathlib.Core.Bool.{Bool, true, false}
use mathlib.Core.List.{List, [], ◌∷◌, ◌++◌, append_assoc, append-nil}
use Prim.Native.Nat.{ℕ, zero, suc, ◌+◌, ◌*◌, ◌≤◌, ◌<◌}
use native.Mathlib.Omega.{arith}
use native.Mathlib.Nat.{add-zero}
use lib.ListN.{length, get_or, replicate, length-append, length-replicate, get_or-append}
use lib.Seq.{get_or-append-add}
use Rattle.steps.specs.Loop.{pick}
use Rattle.channels_written.specs.Channel.{Run, run, grow, cut, bytes, literals, packet, stretch, gather, code, channel}
use Rattle.rows_written.specs.Row.{written_row, worst_channel, worst_row}
use Rattle.steps.specs.Width.{is_coded}
use Rattle.channels_written.proofs.Laws.Channel.{bytes_cut, bytes_append, grow_other, length_literals, gather_short, gather_step, stretch_step}
use Rattle.channels_written.proofs.Laws.Places.{length_channel}
use Rattle.rows_written.proofs.Laws.Row.{row_coded, flat_size, coded_size}

-- ---- the bound

stretch_worst : (g : List Run) → length (stretch g) ≤ worst_channel (length (bytes g))
stretch_worst g =
    ⊎_elim
    (λ p. omega (arith, ap length p.4, ap length p.3, length-replicate p.1 p.0))
    (λ e. omega (arith, ap length e, length_literals 0 (bytes g) (omega arith)))
    (stretch_step g)

gather_worst : (g rs : List Run) → length (gather g rs) ≤ worst_channel (length (bytes g) + length (bytes rs))
unfolding gather
gather_worst g [] = omega (arith, stretch_worst g)
gather_worst g (run v n ∷ rs) =
    let split = length-append (replicate n v) (bytes rs) in
    let size = length-replicate n v in
    ⊎_elim
    (λ p. omega (arith, ap length p.1, length-append (stretch g) (packet v n ++ gather [] rs), stretch_worst g, gather_worst [] rs))
    (λ e. omega (arith, ap length e, gather_worst (g ++ run v n ∷ []) rs, ap length (bytes_append g (run v n ∷ [])), length-append (bytes g) (bytes (run v n ∷ [])), length-append (replicate n v) []))
    (gather_step g v n rs)

-- no channel is coded longer than by literals alone
pub code_worst : (xs : List ℕ) → length (code xs) ≤ worst_channel (length xs)
unfolding code
code_worst xs = omega (arith, gather_worst [] (cut xs), ap length (bytes_cut xs))

pub channel_worst : (px : List ℕ) (at n : ℕ) → length (code (channel px at n)) ≤ worst_channel n
channel_worst px at n = omega (arith, code_worst (channel px at n), length_channel px at n)

pub row_worst : (px : List ℕ) (at w : ℕ) → length (written_row px at w) ≤ worst_row w
unfolding worst_row
row_worst px at w = go (is_coded w) refl
  where
    go : (t : Bool) → is_coded w ≡ t → length (written_row px at w) ≤ pick t (4 + 4 * worst_channel w) (4 * w)
    go true e = omega (arith, ap length (row_coded px at w e), coded_size px at w, channel_worst px at w, channel_worst px (at + 1) w, channel_worst px (at + 2) w, channel_worst px (at + 3) w)
    go false e = omega (arith, flat_size px at w e)

-- ---- the bound is reached by a channel

-- n bytes, a and b in turn
abbrev pub turns : ℕ → ℕ → ℕ → List ℕ
turns a b zero = []
turns a b (suc n) = a ∷ turns b a n

ones : List ℕ → List Run
ones [] = []
ones (x ∷ xs) = run x 1 ∷ ones xs

grow_turns : (a b n : ℕ) → (a ≡ b → ⊥) → grow a 1 (turns b a n) ≡ run a 1 ∷ ones (turns b a n)
unfolding grow ones
grow_turns a b zero h = refl
grow_turns a b (suc n) h = grow_other a b 1 (turns a b n) (λ e. h (sym e)) ∙ ap (λ (l : List Run). run a 1 ∷ l) (grow_turns b a n (λ e. h (sym e)))

cut_turns : (a b n : ℕ) → (a ≡ b → ⊥) → cut (turns a b n) ≡ ones (turns a b n)
unfolding cut ones
cut_turns a b zero h = refl
cut_turns a b (suc n) h = grow_turns a b n h

gather_ones : (g : List Run) (xs : List ℕ) → gather g (ones xs) ≡ stretch (g ++ ones xs)
unfolding gather ones
gather_ones g [] = ap stretch (sym (append-nil g))
gather_ones g (x ∷ xs) =
    gather_short g x 1 (ones xs) (omega arith) ∙ gather_ones (g ++ run x 1 ∷ []) xs ∙ ap stretch (append_assoc g (run x 1 ∷ []) (ones xs))

bytes_ones : (xs : List ℕ) → bytes (ones xs) ≡ xs
unfolding ones
bytes_ones [] = refl
bytes_ones (x ∷ xs) = ap (λ (l : List ℕ). x ∷ l) (bytes_ones xs)

stretch_ones : (xs : List ℕ) → stretch (ones xs) ≡ literals 0 xs
unfolding stretch ones
stretch_ones [] = refl
stretch_ones (x ∷ []) = refl
stretch_ones (x ∷ y ∷ xs) = ap (λ (l : List ℕ). literals 0 (x ∷ y ∷ l)) (bytes_ones xs)

length_turns : (a b n : ℕ) → length (turns a b n) ≡ n
length_turns a b zero = refl
length_turns a b (suc n) = ap suc (length_turns b a n)

-- two bytes in turn take the worst length
pub turns_worst : (a b n : ℕ) → (a ≡ b → ⊥) → length (code (turns a b n)) ≡ worst_channel n
unfolding code
turns_worst a b n h =
    let e : gather [] (cut (turns a b n)) ≡ literals 0 (turns a b n) = ap (gather []) (cut_turns a b n h) ∙ gather_ones [] (turns a b n) ∙ stretch_ones (turns a b n) in
    omega (arith, ap length e, length_literals 0 (turns a b n) (omega arith), length_turns a b n)

-- ---- the bound is reached by a row

-- n pixels, the four bytes p and the four bytes q in turn
abbrev pub pixels : List ℕ → List ℕ → ℕ → List ℕ
pixels p q zero = []
pixels p q (suc n) = p ++ pixels q p n

-- every channel of such pixels is two bytes in turn, wherever the pixels stand
channel_turns : (p q pre rest : List ℕ) (k n : ℕ) → length p ≡ 4 → length q ≡ 4 → k < 4
    → channel (pre ++ (pixels p q n ++ rest)) (length pre + k) n ≡ turns (get_or p k 0) (get_or q k 0) n
channel_turns p q pre rest k zero a b l = refl
channel_turns p q pre rest k (suc n) a b l =
    let more : List ℕ = pixels q p n ++ rest in
    let here : k < length p = omega arith in
    let head : get_or (pre ++ (p ++ more)) (length pre + k) 0 ≡ get_or p k 0 = get_or-append-add pre (p ++ more) k 0 ∙ get_or-append p more 0 k here in
    let next : length pre + k + 4 ≡ length (pre ++ p) + k = omega (arith, length-append pre p) in
    ap (λ (l : List ℕ). channel (pre ++ l) (length pre + k) (suc n)) (append_assoc p (pixels q p n) rest)
    ∙ (ap (λ (x : ℕ). x ∷ channel (pre ++ (p ++ more)) (length pre + k + 4) n) head
    ∙ ap (λ (l : List ℕ). get_or p k 0 ∷ l)
    (ap (λ (i : ℕ). channel (pre ++ (p ++ more)) i n) next ∙ ap (λ (l : List ℕ). channel l (length (pre ++ p) + k) n) (sym (append_assoc pre p more)) ∙ channel_turns q p (pre ++ p) rest k n b a l))

-- pixels in turn of two values that differ in all four bytes are a row as long as a row can be
pub row_reached : (p q pre rest : List ℕ) (w : ℕ) → length p ≡ 4 → length q ≡ 4 → ((k : ℕ) → k < 4 → get_or p k 0 ≡ get_or q k 0 → ⊥)
    → length (written_row (pre ++ (pixels p q w ++ rest)) (length pre) w) ≡ worst_row w
unfolding worst_row
row_reached p q pre rest w a b differ = go (is_coded w) refl
  where
    px : List ℕ
    px = pre ++ (pixels p q w ++ rest)

    full : (k : ℕ) → k < 4 → length (code (channel px (length pre + k) w)) ≡ worst_channel w
    full k l =
        ap (λ (xs : List ℕ). length (code xs)) (channel_turns p q pre rest k w a b l) ∙ turns_worst (get_or p k 0) (get_or q k 0) w (differ k l)

    first : length (code (channel px (length pre) w)) ≡ worst_channel w
    first = ap (λ (i : ℕ). length (code (channel px i w))) (sym (add-zero (length pre))) ∙ full 0 (omega arith)

    go : (t : Bool) → is_coded w ≡ t → length (written_row px (length pre) w) ≡ pick t (4 + 4 * worst_channel w) (4 * w)
    go true e = omega (arith, ap length (row_coded px (length pre) w e), coded_size px (length pre) w, first, full 1 (omega arith), full 2 (omega arith), full 3 (omega arith))
    go false e = flat_size px (length pre) w e
