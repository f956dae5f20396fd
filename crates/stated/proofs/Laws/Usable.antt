-- What is stated is an f32 above zero and finite, whatever the lines are.
use mathlib.Core.Path.{◌≡◌}
use mathlib.Core.Bool.{true, ◌&&◌}
use mathlib.Core.List.{List}
use Prim.{Unit}
use Prim.Native.Nat.{ℕ, ◌+◌, ◌*◌, ◌^◌, ◌<◌}
use lib.ListN.{length}
use lib.Pow.{pow_pos}
use Rattle.steps.specs.Answer.{Answer, done, refused}
use Rattle.steps.specs.declared.Reading.{Reading}
use Rattle.steps.specs.declared.Reading.TheVariants.{Crate, Document}
use Rattle.steps.proofs.Laws.Turns.{by_test, and_left, and_right, Leads, run_keeps}
use Rattle.pixel.specs.Units.{of_units, Exactly, mag}
use Rattle.words.specs.Lines.{line_feed, past, between, same}
use Rattle.stated.specs.declared.Exposure.{Exposure}
use Rattle.stated.specs.declared.Exposure.TheVariants.{Stated, NotStated}
use Rattle.stated.specs.Rounded.{product, usable}
use Rattle.stated.specs.Exposure.{Units, units, unread, exposure_of}
use Rattle.stated.specs.Said.{nothing, format_key, exposure_key, starts, rgbe_format, xyze_format, rest_of, formatted, together, exposed, heard, Place, going_on, said_turn, no_turns, said_of, said_by, heard_in}
use Rattle.stated.specs.declared.Said.{Said}
use Rattle.stated.proofs.Laws.Rounded.{nearest_exact, usable_least, usable_most}
use Rattle.stated.proofs.Laws.Said.{Told, told, place}
use Rattle.stated.proofs.Laws.Lines.{turn_cases}

-- a number of 2^-149 that is not 0
abbrev pub Above : Exposure → Type 0
Above (Stated x) = (n : ℕ) × (0 < n) × (n < 2 ^ 277) × Exactly x n
Above NotStated = Unit {0}

abbrev AbovePaper : Answer Said → Type 0
AbovePaper (done said) = Above said.exposure
AbovePaper (refused number place) = Unit {0}

-- a number that is stated together with those before it is an f32
together_exact : (before : Exposure) (u : ℕ) → Told (units u) → usable u ≡ true → usable (together before u) ≡ true → Exactly (of_units (together before u)) (together before u)
unfolding product
together_exact (Stated x) u t e f = nearest_exact (mag x * u) (2 ^ 149) (pow_pos 149) (usable_most (product (mag x) u) f)
together_exact NotStated u t e f = t e

exposed_above : (said : Said) (w : Units) → Told w → AbovePaper (exposed said w)
unfolding exposed
exposed_above said (units u) t =
    let n = together said.exposure u in
    by_test AbovePaper (usable u && usable n)
    (λ b. let f = and_right (usable u) (usable n) b in let x = together_exact said.exposure u t (and_left (usable u) (usable n) b) f in (n, usable_least n f, usable_most n f, x))
    (λ _. tt)
exposed_above said unread t = tt

heard_above : (said : Said) (line : List ℕ) → Above said.exposure → AbovePaper (heard said line)
unfolding heard formatted
heard_above said line s =
    by_test AbovePaper (starts format_key line)
    (λ _. by_test AbovePaper (same (rest_of format_key line) rgbe_format) (λ _. s) (λ _. by_test AbovePaper (same (rest_of format_key line) xyze_format) (λ _. s) (λ _. tt)))
    (λ _. by_test AbovePaper (starts exposure_key line) (λ _. exposed_above said (exposure_of (rest_of exposure_key line)) (told (rest_of exposure_key line))) (λ _. s))

abbrev AbovePlace : Place → Type 0
AbovePlace p = Above p.said.exposure

going_above : (next : ℕ) (a : Answer Said) → AbovePaper a → Leads AbovePlace AbovePaper (going_on next a)
going_above next (done said) s = s
going_above next (refused number place) s = tt

lines_above : (bytes : List ℕ) (at : ℕ) → AbovePaper (said_of bytes at)
unfolding said_of
lines_above bytes at =
    run_keeps (said_turn bytes) no_turns AbovePlace AbovePaper
    (λ p s. turn_cases bytes (Leads AbovePlace AbovePaper) p (λ _. s) (λ _ _. s) (λ _ _. let next = past line_feed bytes p.at in let line = between bytes p.at next in going_above next (heard p.said line) (heard_above p.said line s)))
    (λ p s. s) (length bytes + 1) (place at nothing) tt

above_in : (a : Answer Said) → AbovePaper a → Above (heard_in a).exposure
above_in (done said) s = s
above_in (refused number place) s = tt

pub said_above : (reading : Reading) (bytes : List ℕ) (at : ℕ) → Above (heard_in (said_by reading bytes at)).exposure
said_above Crate bytes at = tt
said_above Document bytes at = above_in (said_of bytes at) (lines_above bytes at)
