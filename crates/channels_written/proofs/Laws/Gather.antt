-- Bytes gather from one border to the next, where the next is at most three bytes on.
use mathlib.Core.Path.{◌≡◌, refl, sym, ap, ◌∙◌}
use mathlib.Core.List.{List, [], ◌∷◌, ◌++◌, append_assoc, append-nil}
use Prim.Native.Nat.{ℕ, ◌+◌, ◌-◌, ◌*◌, ◌≤◌, ◌<◌}
use native.Mathlib.Omega.{arith}
use lib.ListN.{length, get_or, take, drop, replicate, length-append, length-replicate, length-drop}
use lib.Seq.{length-take-le, get_or-take, take-take, take-add, drop_at}
use Rattle.channels_written.specs.Channel.{Run, run, cut, bytes, gather, code, channel}
use Rattle.channels_written.specs.Inner.{Skip, Short, Gathers}
use Rattle.channels_written.proofs.Laws.Channel.{bytes_cut, gather_short}
use Rattle.channels_written.proofs.Laws.Cut.{Border, cut_border}
use Rattle.channels_written.proofs.Laws.Places.{length_channel, get_or_channel}

-- short runs all gather
gather_runs : (g few rs : List Run) → Short few → gather g (few ++ rs) ≡ gather (g ++ few) rs
gather_runs g [] rs h = ap (λ (l : List Run). gather l rs) (sym (append-nil g))
gather_runs g (run v n ∷ few) rs h =
    gather_short g v n (few ++ rs) h.0
    ∙ gather_runs (g ++ run v n ∷ []) few rs h.1
    ∙ ap (λ (l : List Run). gather l rs) (append_assoc g (run v n ∷ []) few)

-- what gathers, and then the rest
pub gathers_code : (xs : List ℕ) (h : ℕ) → Gathers xs h → code xs ≡ gather (cut (take h xs)) (cut (drop h xs))
unfolding code
gathers_code xs h G = ap (gather []) G.border ∙ gather_runs [] (cut (take h xs)) (cut (drop h xs)) G.short

-- runs that have 3 bytes together are short
short_few : (rs : List Run) → length (bytes rs) ≤ 3 → Short rs
short_few [] h = tt
short_few (run v n ∷ rs) h =
    let size = length-append (replicate n v) (bytes rs) in
    let many = length-replicate n v in
    (omega arith, short_few rs (omega arith))

short_append : (g rs : List Run) → Short g → Short rs → Short (g ++ rs)
short_append [] rs a b = b
short_append (run v n ∷ g) rs a b = (a.0, short_append g rs a.1 b)

-- so many short runs have at most three times as many bytes
pub short_size : (g : List Run) → Short g → length (bytes g) ≤ 3 * length g
short_size [] h = omega arith
short_size (run v n ∷ g) h = omega (arith, h.0, short_size g h.1, length-append (replicate n v) (bytes g), length-replicate n v)

gathers_none : (xs : List ℕ) → Gathers xs 0
unfolding cut
gathers_none xs = record { within = omega arith; border = refl; short = tt }

gathers_more : (xs : List ℕ) (h d : ℕ) → Gathers xs h → Border xs h → d ≤ 3 → h + d ≤ length xs → Border xs (h + d) → Gathers xs (h + d)
gathers_more xs h d G b l w b' = record {
  within = w;
  border = cut_border xs (h + d) b';
  short = rw cut_both (short_append (cut (take h xs)) (cut new) G.short (short_few (cut new) (omega (arith, ap length (bytes_cut new), size_new))));
}
  where
    rest : List ℕ
    rest = drop h xs

    new : List ℕ
    new = take d rest

    both : List ℕ
    both = take (h + d) xs

    size : length both ≡ h + d
    size = length-take-le (h + d) xs w

    size_new : length new ≡ d
    size_new = length-take-le d rest (omega (arith, length-drop h xs))

    border_both : Border both h
    border_both p q e =
        b p (omega (arith, size)) (sym (get_or-take (h + d) xs (h - 1) 0 (omega arith)) ∙ e ∙ get_or-take (h + d) xs h 0 (omega (arith, size)))

    cut_both : cut both ≡ cut (take h xs) ++ cut new
    cut_both =
        cut_border both h border_both
        ∙ ap (λ (y : List ℕ). cut y ++ cut (drop h both)) (take-take h (h + d) xs (omega arith))
        ∙ ap (λ (y : List ℕ). cut (take h xs) ++ cut y) (ap (drop h) (take-add h d xs) ∙ drop_at (take h xs) new h (length-take-le h xs (omega arith)))

-- ---- the same, of a channel

-- what the search holds at each place where it looks
pub record Looks (px : List ℕ) (at left h : ℕ) : Type 0 where
  pub gathers : Gathers (channel px at left) h
  pub border : Border (channel px at left) h

pub looks_first : (px : List ℕ) (at left : ℕ) → Looks px at left 0
looks_first px at left = record { gathers = gathers_none (channel px at left); border = λ p. absurd (omega arith) }

module _ (px : List ℕ) (at left h d : ℕ) (L : Looks px at left h) where
  differs : Skip px (at + 4 * h) d → 0 < d → h + d < left → get_or (channel px at left) (h + d - 1) 0 ≡ get_or (channel px at left) (h + d) 0 → ⊥
  differs S p l e =
      let i : at + 4 * (h + d - 1) ≡ at + 4 * h + 4 * (d - 1) = omega arith in
      let j : at + 4 * (h + d) ≡ at + 4 * h + 4 * d = omega arith in
      S.differ p
      (ap (λ (k : ℕ). get_or px k 0) (sym i)
      ∙ sym (get_or_channel px at (h + d - 1) left (omega arith))
      ∙ e
      ∙ get_or_channel px at (h + d) left l
      ∙ ap (λ (k : ℕ). get_or px k 0) j)

  pub looks_next : Skip px (at + 4 * h) d → (d ≡ 0 → ⊥) → h + 3 < left → Looks px at left (h + d)
  looks_next S n l =
      let s = S.small in
      let b : Border (channel px at left) (h + d) = λ p q. differs S (omega arith) (omega arith) in
      record { gathers = gathers_more (channel px at left) h d L.gathers L.border s (omega (arith, length_channel px at left)) b; border = b }

-- at most three bytes are left
pub looks_end : (px : List ℕ) (at left h : ℕ) → Looks px at left h → left ≤ h + 3 → Gathers (channel px at left) left
looks_end px at left h L l =
    let w = L.gathers.within in
    let size = length_channel px at left in
    let all : h + (left - h) ≡ left = omega arith in
    rw all at (gathers_more (channel px at left) h (left - h) L.gathers L.border (omega arith) (omega arith) (λ p q. absurd (omega arith)))
