-- A stretch that is one run of 2 or 3 bytes is a run, and any other is literals.
use mathlib.Core.Path.{◌≡◌, refl, sym, ap, ◌∙◌}
use mathlib.Core.Bool.{Bool, true, false, ◌&&◌, false≢true}
use mathlib.Core.List.{List, [], ◌∷◌}
use Prim.Native.Nat.{ℕ, zero, suc, ◌*◌, ◌≤◌}
use native.Mathlib.Omega.{arith}
use lib.ListN.{length, get_or}
use lib.Dec.{eqb}
use borrow.Author.Tests.{eqb-true, eqb-false}
use Rattle.channels_written.specs.Channel.{Run, grow, cut, bytes, literals, packet, stretch, channel}
use Rattle.channels_written.specs.Inner.{one_run}
use Rattle.channels_written.proofs.Laws.Channel.{and_both, grow_same, grow_other, bytes_cut}
use Rattle.channels_written.proofs.Laws.Cut.{grow_some}

-- ---- 0, 1 or 4 bytes and more of a channel are no run of 2 or 3

pub none_of : (px : List ℕ) (at h : ℕ) → (h ≡ 2 → ⊥) → (h ≡ 3 → ⊥) → false ≡ one_run (channel px at h)
none_of px at zero p q = refl
none_of px at (suc zero) p q = refl
none_of px at (suc (suc zero)) p q = absurd (p refl)
none_of px at (suc (suc (suc zero))) p q = absurd (q refl)
none_of px at (suc (suc (suc (suc h)))) p q = refl

-- ---- the stretch

stretch_many : (g : List Run) → 2 ≤ length g → stretch g ≡ literals 0 (bytes g)
unfolding stretch
stretch_many [] h = absurd (omega arith)
stretch_many (r ∷ []) h = absurd (omega arith)
stretch_many (r ∷ s ∷ g) h = refl

-- 2 or 3 equal bytes are one run
pub one_run_lem : (ys : List ℕ) → one_run ys ≡ true → (2 ≤ length ys) × (length ys ≤ 3) × (stretch (cut ys) ≡ packet (get_or ys 0 0) (length ys))
unfolding stretch cut grow
one_run_lem [] t = absurd (false≢true t)
one_run_lem (a ∷ []) t = absurd (false≢true t)
one_run_lem (a ∷ b ∷ []) t = (omega arith, omega arith, ap stretch (grow_same a b 1 [] (eqb-true b a t) (omega arith)))
one_run_lem (a ∷ b ∷ c ∷ []) t =
    let both = and_both (eqb b a) (eqb c b) t in
    let second = eqb-true b a both.0 in
    let third = eqb-true c b both.1 in
    (omega arith, omega arith, ap stretch (grow_same a b 1 (c ∷ []) second (omega arith) ∙ grow_same a c 2 [] (third ∙ second) (omega arith)))
one_run_lem (a ∷ b ∷ c ∷ d ∷ ys) t = absurd (false≢true t)

-- three bytes that are not all equal are two runs or more
two_runs : (a b c : ℕ) → eqb b a && eqb c b ≡ false → 2 ≤ length (cut (a ∷ b ∷ c ∷ []))
unfolding cut grow
two_runs a b c f = go (eqb b a) (eqb c b) refl refl f
  where
    go : (s t : Bool) → eqb b a ≡ s → eqb c b ≡ t → s && t ≡ false → 2 ≤ length (grow a 1 (b ∷ c ∷ []))
    go true true es et f = absurd (false≢true (sym f))
    go true false es et f =
        let second = eqb-true b a es in
        omega (arith, ap length (grow_same a b 1 (c ∷ []) second (omega arith) ∙ grow_other a c 2 [] (λ e. eqb-false c b et (e ∙ sym second))))
    go false t es et f = omega (arith, ap length (grow_other a b 1 (c ∷ []) (eqb-false b a es)), grow_some b 1 (c ∷ []))

-- any other stretch is literals
pub not_one_run : (ys : List ℕ) → one_run ys ≡ false → length ys ≤ 3 * length (cut ys) → stretch (cut ys) ≡ literals 0 ys
unfolding stretch cut grow
not_one_run [] f h = refl
not_one_run (a ∷ []) f h = refl
not_one_run (a ∷ b ∷ []) f h = ap stretch (grow_other a b 1 [] (eqb-false b a f))
not_one_run (a ∷ b ∷ c ∷ []) f h = stretch_many (cut (a ∷ b ∷ c ∷ [])) (two_runs a b c f) ∙ ap (literals 0) (bytes_cut (a ∷ b ∷ c ∷ []))
not_one_run (a ∷ b ∷ c ∷ d ∷ ys) f h = stretch_many (cut (a ∷ b ∷ c ∷ d ∷ ys)) (omega arith) ∙ ap (literals 0) (bytes_cut (a ∷ b ∷ c ∷ d ∷ ys))
