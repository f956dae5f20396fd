-- What stores below a place keep: the list's length, and everything from that place on.
use Prim.Native.Nat.{ℕ, suc, ◌+◌, ◌*◌, ◌<◌}
use native.Mathlib.Nat.{mul-suc}
use native.Mathlib.Omega.{arith}
use mathlib.Core.List.{List, [], ◌∷◌}
use mathlib.Core.Path.{◌≡◌, refl, ◌∙◌}
use lib.ListN.{length, drop, set, length-set}
use lib.Seq.{drop-set-lt}
use Rattle.steps.specs.Place.{spread}

pub record Kept (limit : ℕ) (before after : List ℕ) : Type 0 where
  pub long : length after ≡ length before
  pub beyond : drop limit after ≡ drop limit before

pub kept_same : (limit : ℕ) (s : List ℕ) → Kept limit s s
kept_same limit s = record { long = refl; beyond = refl }

pub kept_then : {limit : ℕ} {a b c : List ℕ} → Kept limit a b → Kept limit b c → Kept limit a c
kept_then p q = record { long = q.long ∙ p.long; beyond = q.beyond ∙ p.beyond }

pub kept_set : (limit : ℕ) (s : List ℕ) (i v : ℕ) → i < limit → Kept limit s (set s i v)
kept_set limit s i v h = record { long = length-set s i v; beyond = drop-set-lt limit s i v h }

-- stores in every d-th place, the last one below the limit
pub kept_spread : (limit d : ℕ) (s : List ℕ) (i : ℕ) (vs : List ℕ) → i + d * length vs < limit + d → Kept limit s (spread d s i vs)
unfolding spread
kept_spread limit d s i [] h = kept_same limit s
kept_spread limit d s i (v ∷ vs) h =
    let e : d * suc (length vs) ≡ d * length vs + d = mul-suc d (length vs) in
    kept_then (kept_set limit s i v (omega arith)) (kept_spread limit d (set s i v) (i + d) vs (omega arith))
