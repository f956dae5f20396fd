-- The laws that proofs use of `specs/Said.antt`.
use mathlib.Core.Path.{◌≡◌, refl, sym, ap, ◌∙◌, subst}
use mathlib.Core.Bool.{Bool, true, false, ◌&&◌}
use mathlib.Core.List.{List, ◌++◌}
use Prim.Native.Nat.{ℕ, ◌+◌, ◌-◌, ◌*◌, ◌^◌, ◌≤◌, ◌<◌}
use native.Mathlib.Omega.{arith}
use borrow.Author.Tests.{eq-eqb, ne_eqb, le-leb, lt-leb}
use lib.Dec.{eqb, leb}
use lib.Pointwise.{pointwise}
use lib.Ieee.{Float}
use lib.ListN.{length, get_or, take, drop}
use Rattle.std.specs.Prelude.{Option, Some, None, Result, Ok, Err}
use Rattle.std.specs.Option.{ok_or}
use Rattle.std.proofs.lemmas.Option.{none-some}
use Rattle.steps.specs.Loop.{pick}
use Rattle.steps.specs.Answer.{Answer, done, refused, refuse}
use Rattle.steps.specs.Refusal.{reason_number}
use Rattle.steps.specs.declared.refusal.Reason.{Reason}
use Rattle.steps.proofs.Laws.Refusal.{reason_of, reason_again}
use Rattle.steps.specs.declared.Reading.{Reading}
use Rattle.steps.proofs.Laws.Loop.{Runs, runs_start, runs_more, runs_halt}
use Rattle.steps.proofs.Laws.Turns.{by_test}
use Rattle.pixel.specs.Units.{of_units, Exactly, mag}
use Rattle.pixel.proofs.Laws.Units.{exact_bright, mag_is}
use Rattle.words.specs.Lines.{line_feed, past, between}
use Rattle.words.specs.Fields.{trim}
use Rattle.words.proofs.Laws.Lines.{same_bytes, past_moves}
use Rattle.stated.specs.declared.Exposure.{Exposure}
use Rattle.stated.specs.declared.Exposure.TheVariants.{Stated}
use Rattle.stated.specs.Rounded.{nearest_units, usable}
use Rattle.stated.specs.Exposure.{Units, units, unread, is_few, ahead, power_of, scaled_units, digit_units, point_units, exposure_of}
use Rattle.stated.specs.Said.{nothing, format_key, exposure_key, starts, formatted, together, stating, exposed, heard, Place, going_on, said_turn, no_turns, said_of, said_by, paper_of}
use Rattle.stated.specs.Inner.{usable_factor, factor_of, UsableFactor}
use Rattle.stated.specs.declared.number.Power.{Power}
use Rattle.stated.specs.declared.number.Power.TheVariants.{Raised, Lowered}
use Rattle.stated.specs.declared.Said.{Said}
use Rattle.stated.proofs.Laws.Rounded.{nearest_exact, usable_most}
use Rattle.stated.proofs.Laws.Exposure.{ten_least}

-- ---- A line that starts with a key

-- ---- A FORMAT line

-- ---- The number of an EXPOSURE line is an f32

abbrev pub Told : Units → Type 0
Told (units u) = usable u ≡ true → Exactly (of_units u) u
Told unread = Unit {0}

told_nearest : (a b : ℕ) → 0 < b → Told (units (nearest_units a b))
told_nearest a b h e = nearest_exact a b h (usable_most (nearest_units a b) e)

told_scaled : (n : ℕ) (power : Option Power) (after : ℕ) → Told (scaled_units n power after)
unfolding scaled_units
told_scaled n (Some (Raised p)) after = by_test Told (leb (p - after) 10) (λ _. told_nearest (n * 10 ^ (p - after) * 2 ^ 149) (10 ^ (after - p)) (ten_least (after - p))) (λ _. tt)
told_scaled n (Some (Lowered p)) after = by_test Told (leb (p + after) 10) (λ _. told_nearest (n * 2 ^ 149) (10 ^ (p + after)) (ten_least (p + after))) (λ _. tt)
told_scaled n None after = tt

pub told : (rest : List ℕ) → Told (exposure_of rest)
unfolding exposure_of point_units digit_units
told rest =
    let e = ahead 101 69 rest in
    let digits = take e rest in
    let point = ahead 46 46 digits in
    by_test Told (is_few 7 (take point digits ++ drop (point + 1) digits)) (λ _. told_scaled _ (power_of (drop e rest)) (length (drop (point + 1) digits))) (λ _. tt)

-- ---- An EXPOSURE line

factor_by : (n : ℕ) (t : Bool) → usable n ≡ t → usable_factor n ≡ pick t (Some (of_units n)) None
unfolding usable_factor
factor_by n t e = rw e

is_unread : (x : Float) → Some x ≡ None → ⊥
is_unread x e = let z : ◌≡◌ {A = ℕ} 0 1 = cc in omega arith

factor_is : (n : ℕ) (x : Float) → usable_factor n ≡ Some x → (usable n ≡ true) × (x ≡ of_units n)
factor_is n x e = go (usable n) refl
  where
    go : (t : Bool) → usable n ≡ t → (usable n ≡ true) × (x ≡ of_units n)
    go true h = let is : Some (of_units n) ≡ Some x = sym (factor_by n true h) ∙ e in (h, cc)
    go false h = absurd (is_unread x (sym e ∙ factor_by n false h))

factor_none : (n : ℕ) → usable_factor n ≡ None → usable n ≡ false
factor_none n e = go (usable n) refl
  where
    go : (t : Bool) → usable n ≡ t → usable n ≡ false
    go true h = absurd (is_unread (of_units n) (sym (factor_by n true h) ∙ e))
    go false h = h

exposed_by : (said : Said) (u : ℕ) (t : Bool) → (usable u && usable (together said.exposure u)) ≡ t → exposed said (units u) ≡ pick t (done (stating said (together said.exposure u))) (refuse 16)
unfolding exposed
exposed_by said u t e = rw e

exposed_none : (said : Said) → exposed said unread ≡ refuse 16
unfolding exposed
exposed_none said = refl

unread_line : (said : Said) (w : Units) → factor_of w ≡ None → refuse 16 ≡ exposed said w
unread_line said (units u) e = sym (exposed_by said u false (ap (λ (t : Bool). t && usable (together said.exposure u)) (factor_none u e)))
unread_line said unread e = sym (exposed_none said)

-- a number that can be read is above zero and finite
usable_read : (w : Units) → Told w → UsableFactor (factor_of w)
usable_read (units u) t = go (usable u) refl
  where
    go : (b : Bool) → usable u ≡ b → UsableFactor (usable_factor u)
    go true h = rw (factor_by u true h) (exact_bright (of_units u) u (t h), ap usable (mag_is (of_units u) u (t h)) ∙ h)
    go false h = rw (factor_by u false h) tt
usable_read unread t = tt

pub factor_told : (rest : List ℕ) (r : Option Float) → r ≡ factor_of (exposure_of rest) → UsableFactor r
factor_told rest r e = subst UsableFactor (sym e) (usable_read (exposure_of rest) (told rest))

-- the units of a number that can be read
read_units : (w : Units) (x : Float) → Told w → factor_of w ≡ Some x → (u : ℕ) × (w ≡ units u) × (usable u ≡ true) × (mag x ≡ u)
read_units (units u) x t e = let f = factor_is u x e in (u, refl, f.0, ap mag f.1 ∙ mag_is (of_units u) u (t f.0))
read_units unread x t e = absurd (is_unread x (sym e))

module _ (said : Said) (rest : List ℕ) (f : Option Float) (ef : f ≡ factor_of (exposure_of rest)) where
  pub exposure_unread : f ≡ None → refuse 16 ≡ exposed said (exposure_of rest)
  exposure_unread h = unread_line said (exposure_of rest) (sym ef ∙ h)

  module _ (x : Float) (h : f ≡ Some x) (before : Exposure) (eb : before ≡ said.exposure) (g : Option Float) (eg : g ≡ usable_factor (together before (mag x))) where
    line : (u : ℕ) × (exposure_of rest ≡ units u) × (usable u ≡ true) × (mag x ≡ u)
    line = read_units (exposure_of rest) x (told rest) (sym ef ∙ h)

    product : usable_factor (together said.exposure line.0) ≡ g
    product = ap (λ (n : ℕ). usable_factor (together said.exposure n)) (sym line.3) ∙ ap (λ (w : Exposure). usable_factor (together w (mag x))) (sym eb) ∙ sym eg

    tested : (t : Bool) → usable (together said.exposure line.0) ≡ t → exposed said (exposure_of rest) ≡ pick t (done (stating said (together said.exposure line.0))) (refuse 16)
    tested t e =
        ap (exposed said) line.1
        ∙ exposed_by said line.0 t (ap (λ (b : Bool). b && usable (together said.exposure line.0)) line.2 ∙ e)

    pub exposure_over : g ≡ None → refuse 16 ≡ exposed said (exposure_of rest)
    exposure_over k = sym (tested false (factor_none (together said.exposure line.0) (product ∙ k)))

    pub exposure_stated : (z : Float) → g ≡ Some z → done record { colour = said.colour; exposure = Stated z } ≡ exposed said (exposure_of rest)
    exposure_stated z k =
        let i = factor_is (together said.exposure line.0) z (product ∙ k) in
        ap (λ (y : Float). done record { colour = said.colour; exposure = Stated y }) i.1 ∙ sym (tested true i.0)

-- where there is no number, the reason is the one that is given for that
pub the_reason : {A : Type 0} (o : Option A) (r s : Reason) → o ≡ None → ◌≡◌ {A = Result A Reason} (Err r) (ok_or o s) → r ≡ s
the_reason {A = A} None r s n e = let k : ◌≡◌ {A = Result A Reason} (Err r) (Err s) = e in cc
the_reason (Some x) r s n e = absurd (none-some x (sym n))

-- ---- A line more

begins : (key line : List ℕ) (t : Bool) → pointwise eqb (take (length key) line) key ≡ t → starts key line ≡ t
unfolding starts
begins key line t e = sym (same_bytes (take (length key) line) key) ∙ e

pub line_format : (said : Said) (line : List ℕ) → pointwise eqb (take 7 line) format_key ≡ true → heard said line ≡ formatted said (trim (drop 7 line))
unfolding heard
line_format said line e = rw (begins format_key line true e)

module _ (said : Said) (line : List ℕ) (e : pointwise eqb (take 7 line) format_key ≡ false) where
  pub line_exposure : pointwise eqb (take 9 line) exposure_key ≡ true → heard said line ≡ exposed said (exposure_of (trim (drop 9 line)))
  unfolding heard
  line_exposure f = simp (begins format_key line false e, begins exposure_key line true f)

  pub line_other : pointwise eqb (take 9 line) exposure_key ≡ false → heard said line ≡ done said
  unfolding heard
  line_other f = simp (begins format_key line false e, begins exposure_key line false f)

-- ---- Line after line

abbrev pub place : ℕ → Said → Place
place at said = record { at = at; said = said }

pub said_start : (bytes : List ℕ) (at : ℕ) → Runs (said_turn bytes) no_turns (length bytes - at) (place at nothing) (said_of bytes at)
unfolding said_of
said_start bytes at = runs_start _ _ _ _ _ (omega arith)

module _ (bytes : List ℕ) (said : Said) (p : ℕ) (a : Answer Said) (r : Runs (said_turn bytes) no_turns (length bytes - p) (place p said) a) where
  pub said_done : length bytes ≤ p → done said ≡ a
  unfolding said_turn
  said_done h = runs_halt r (simp (le-leb (length bytes) p h))

  module _ (h : p < length bytes) where
    pub said_ends : get_or bytes p 0 ≡ line_feed → done said ≡ a
    unfolding said_turn
    said_ends e = runs_halt r (simp (lt-leb (length bytes) p h, eq-eqb (get_or bytes p 0) line_feed e))

    module _ (e : get_or bytes p 0 ≡ line_feed → ⊥) (q : ℕ) (eq : q ≡ past line_feed bytes p) (answer : Result Said Reason) (ea : paper_of answer ≡ heard said (take (q - p) (drop p bytes))) where
      turned : said_turn bytes (place p said) ≡ going_on q (paper_of answer)
      unfolding said_turn
      turned =
          simp (lt-leb (length bytes) p h, ne_eqb (get_or bytes p 0) line_feed e)
          (ap (λ (n : ℕ). going_on n (heard said (between bytes p n))) (sym eq) ∙ ap (going_on q) (sym ea))

      pub said_fault : (reason : Reason) → answer ≡ Err reason → refuse (reason_number reason) ≡ a
      said_fault reason k = runs_halt r (turned ∙ ap (λ (w : Result Said Reason). going_on q (paper_of w)) k)

      pub said_more : (next : Said) → answer ≡ Ok next → Runs (said_turn bytes) no_turns (length bytes - q) (place q next) a
      said_more next k = runs_more r (turned ∙ ap (λ (w : Result Said Reason). going_on q (paper_of w)) k) (omega (arith, past_moves line_feed bytes p h))

-- ---- One answer

-- the call's answer, by the paper's
call_of : Answer Said → Result Said Reason
call_of (done said) = Ok said
call_of (refused number place) = Err (reason_of number)

call_same : (a : Result Said Reason) → call_of (paper_of a) ≡ a
unfolding call_of
call_same (Ok said) = refl
call_same (Err reason) = ap Err (reason_again reason)

pub said_once : (reading : Reading) (bytes : List ℕ) (at : ℕ) (a b : Result Said Reason) → paper_of a ≡ said_by reading bytes at → paper_of b ≡ said_by reading bytes at → a ≡ b
said_once reading bytes at a b p q = sym (call_same a) ∙ ap call_of (p ∙ sym q) ∙ call_same b
