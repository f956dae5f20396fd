-- The laws that proofs use of `specs/Write.antt`.
use Prim.Native.Nat.{ℕ, ◌+◌, ◌*◌, ◌^◌, ◌<◌, ◌≤◌}
use Rattle.std.specs.Prelude.{Option, Some, None, Ok, Err}
use Rattle.std.specs.Option.{SomeIff}
use mathlib.Core.Bool.{Bool, true, false, ◌||◌}
use mathlib.Core.List.{List}
use mathlib.Core.Path.{◌≡◌, refl, sym, ap, ◌∙◌}
use native.Mathlib.Omega.{arith}
use borrow.Author.Tests.{ltb-false, lt-ltb, le-ltb, eqb-true, not-false, leb-true, leb-false}
use lib.ListN.{length}
use lib.Dec.{ltb, eqb, leb}
use lib.Ieee.{Float}
use Rattle.steps.specs.Place.{spread, bytes_from}
use Rattle.steps.specs.Answer.{Answer, done, refused, refuse, Check}
use Rattle.steps.specs.Amount.{amount_of}
use Rattle.steps.specs.Refusal.{reason_number, at_no_place}
use Rattle.steps.specs.declared.refusal.Reason.{Reason}
use Rattle.steps.specs.declared.refusal.Reason.TheVariants.{TooBright}
use Rattle.steps.proofs.Laws.Answer.{Passed, passed, pass, failed}
use Rattle.steps.proofs.Laws.Amount.{amount_by, amount_passes}
use Rattle.frames_written.specs.Samples.{packed, first_bright, FirstOf}
use Rattle.frames_written.specs.Frame.{frame_by, worst_of, file_of}
use Rattle.frames_written.proofs.Laws.Rows.{pixels_frame, samples_frame}
use Rattle.writer.specs.Write.{size_checks, frame_checks, bright_checked, Left, stored, length_of, length4_of, worst_answer, write_of, write4_of}
use Rattle.writer.specs.Inner.{verdict, Checked}

-- where nothing refuses, each check has passed
passes : (checks : List Check) → done tt ≡ verdict checks → Passed checks
passes checks e = (passed checks tt tt (sym e)).0

-- ---- The checks 7 and 10

either : (a b : Bool) → a || b ≡ false → (a ≡ false) × (b ≡ false)
either true b e = absurd (let z : ◌≡◌ {A = ℕ} 0 1 = cc in omega arith)
either false b e = (refl, e)

module _ (w h : ℕ) where
  pub sizes_within : Passed (size_checks w h) → (w ≤ 65535) × (h ≤ 65535)
  sizes_within p =
      let both = either (ltb 65535 w) (ltb 65535 h) p.1.0 in
      (ltb-false 65535 w both.0, ltb-false 65535 h both.1)

  pub sizes_ok : done tt ≡ verdict (size_checks w h) → Passed (size_checks w h)
  sizes_ok = passes (size_checks w h)

  pub worst_refused : (n : ℕ) → refuse n ≡ verdict (size_checks w h) → refuse n ≡ worst_answer w h
  unfolding worst_answer
  worst_refused n e = sym (failed refuse (size_checks w h) tt (done (worst_of w h)) n 0 (sym e)).1

  pub worst_done : (n : ℕ) → Passed (size_checks w h) → n ≡ worst_of w h → done n ≡ worst_answer w h
  unfolding worst_answer
  worst_done n p k = ap done k ∙ sym (pass refuse (size_checks w h) (done (worst_of w h)) p)

-- ---- The checks 7, 10 and 11

module _ (w h got each : ℕ) where
  -- every check passes
  abbrev pub Framed : Type 0
  Framed = Passed (frame_checks w h got each)

  pub frame_ok : done tt ≡ verdict (frame_checks w h got each) → Framed
  frame_ok = passes (frame_checks w h got each)

  pub frame_passed : Framed → (w ≤ 65535) × (h ≤ 65535) × (got ≡ each * (w * h))
  frame_passed p =
      let sizes = sizes_within w h (p.0, (p.1.0, tt)) in
      (sizes.0, sizes.1, eqb-true got (each * (w * h)) (not-false (eqb got (each * (w * h))) p.1.1.0))

-- ---- Check 12

module _ {A : Type 0} (answer : Answer ℕ → A) (samples : List Float) (n k : ℕ) (rest : A) (e : k ≡ first_bright samples 0 n) where
  pub bright_refuses : k < n → answer (refused 12 k) ≡ bright_checked answer samples n rest
  unfolding bright_checked
  bright_refuses h = rw (← e) (simp (lt-ltb k n h))

  pub bright_passes : n ≤ k → rest ≡ bright_checked answer samples n rest
  unfolding bright_checked
  bright_passes h = rw (← e) (simp (le-ltb k n h))

-- ---- Check 13

pub stored_fits : (file out out' : List ℕ) (n : ℕ) → length file ≤ length out → n ≡ length file → out' ≡ spread 1 out 0 file → (done n, out') ≡ stored file out
unfolding stored
stored_fits file out out' n h en eo = rw (en, eo) (simp (le-ltb (length out) (length file) h))

pub stored_none : (file out : List ℕ) → length out < length file → (refuse 13, out) ≡ stored file out
unfolding stored
stored_none file out h = simp (lt-ltb (length out) (length file) h)

-- whether a file fits is told by a Bool
pub room_told : (n room : ℕ) (t : Bool) → t ≡ leb n room → t ≡ true → n ≤ room
room_told n room t e k = leb-true n room (sym e ∙ k)

-- what is stored, or not, by that
pub store_short : (file out : List ℕ) (t : Bool) → t ≡ leb (length file) (length out) → t ≡ false → (refuse 13, out) ≡ stored file out
store_short file out t e k = stored_none file out (leb-false (length file) (length out) (sym e ∙ k))

pub store_done : (file out out' : List ℕ) (n : ℕ) (t : Bool) → t ≡ leb (length file) (length out) → t ≡ true → n ≡ length file → out' ≡ spread 1 out 0 file → (done n, out') ≡ stored file out
store_done file out out' n t e k en eo = stored_fits file out out' n (room_told (length file) (length out) t e k) en eo

-- ---- The calls from samples, in the code's order

module _ (w h : ℕ) (samples : List Float) where
  pub samples_refused : (r : Reason) → refuse (reason_number r) ≡ verdict (frame_checks w h (length samples) 3) → Checked w h samples (Err (at_no_place r))
  unfolding length_of write_of
  samples_refused r e = (
    (failed refuse (frame_checks w h (length samples) 3) tt _ (reason_number r) 0 (sym e)).1,
    λ out. (failed (λ (n : ℕ). (refuse n, out)) (frame_checks w h (length samples) 3) tt _ (reason_number r) 0 (sym e)).1,
  )

  module _ (p : Passed (frame_checks w h (length samples) 3)) where
    to_length : length_of w h samples ≡ bright_checked (λ a. a) samples (w * h) (done (length (file_of samples w h)))
    unfolding length_of
    to_length = pass refuse (frame_checks w h (length samples) 3) _ p

    to_write : (out : List ℕ) → write_of w h samples out ≡ bright_checked (λ a. (a, out)) samples (w * h) (stored (file_of samples w h) out)
    unfolding write_of
    to_write out = pass (λ (n : ℕ). (refuse n, out)) (frame_checks w h (length samples) 3) _ p

    pub samples_bright : (k : ℕ) → FirstOf samples 0 (w * h) (Some k) → Checked w h samples (Err (record { reason = TooBright; place = k }))
    samples_bright k f = (
      to_length ∙ sym (bright_refuses (λ x. x) samples (w * h) k _ (sym f.1) f.0),
      λ out. to_write out ∙ sym (bright_refuses (λ x. (x, out)) samples (w * h) k _ (sym f.1) f.0),
    )

    pub samples_good : first_bright samples 0 (w * h) ≡ w * h → Checked w h samples (Ok tt)
    samples_good none = (sym (pass refuse (frame_checks w h (length samples) 3) (done tt) p), none)

  module _ (c : Checked w h samples (Ok tt)) where
    samples_framed : Passed (frame_checks w h (length samples) 3)
    samples_framed = passes (frame_checks w h (length samples) 3) c.0

    pub samples_within : (w ≤ 65535) × (h ≤ 65535) × (length samples ≡ 3 * (w * h))
    samples_within = frame_passed w h (length samples) 3 samples_framed

    pub length_done : (n : ℕ) → n ≡ length (frame_by (λ k. packed samples (3 * (w * k)) w) w h) → done n ≡ length_of w h samples
    length_done n en =
        ap done (en ∙ ap length (samples_frame samples w h)) ∙ bright_passes (λ x. x) samples (w * h) (w * h) _ (sym c.1) (omega arith) ∙ sym (to_length samples_framed)

    pub write_done : (out : List ℕ) (a : Left) → a ≡ stored (frame_by (λ k. packed samples (3 * (w * k)) w) w h) out → a ≡ write_of w h samples out
    write_done out a e =
        e ∙ ap (λ (file : List ℕ). stored file out) (samples_frame samples w h) ∙ bright_passes (λ x. (x, out)) samples (w * h) (w * h) _ (sym c.1) (omega arith) ∙ sym (to_write samples_framed out)

-- ---- The calls from four-byte pixels, in the code's order

module _ (w h : ℕ) (px : List ℕ) where
  module _ (n : ℕ) (e : refuse n ≡ verdict (frame_checks w h (length px) 4)) where
    pub length4_refused : refuse n ≡ length4_of w h px
    unfolding length4_of
    length4_refused = sym (failed refuse (frame_checks w h (length px) 4) tt _ n 0 (sym e)).1

    pub write4_refused : (out : List ℕ) → (refuse n, out) ≡ write4_of w h px out
    unfolding write4_of
    write4_refused out = sym (failed (λ (m : ℕ). (refuse m, out)) (frame_checks w h (length px) 4) tt _ n 0 (sym e)).1

  module _ (p : Passed (frame_checks w h (length px) 4)) where
    pub length4_done : (n : ℕ) → n ≡ length (frame_by (λ k. bytes_from px (4 * (w * k)) (4 * w)) w h) → done n ≡ length4_of w h px
    unfolding length4_of
    length4_done n en = ap done (en ∙ ap length (pixels_frame px w h)) ∙ sym (pass refuse (frame_checks w h (length px) 4) _ p)

    pub write4_done : (out : List ℕ) (a : Left) → a ≡ stored (frame_by (λ k. bytes_from px (4 * (w * k)) (4 * w)) w h) out → a ≡ write4_of w h px out
    unfolding write4_of
    write4_done out a e =
        e ∙ ap (λ (file : List ℕ). stored file out) (pixels_frame px w h) ∙ sym (pass (λ (n : ℕ). (refuse n, out)) (frame_checks w h (length px) 4) _ p)

-- ---- The crate's guess

module _ (w h : ℕ) where
  pub expected_none : (w * h < 2 ^ 64 → ⊥) → None ≡ amount_of (w * h * 4 + 1024)
  expected_none over = amount_passes (w * h) (w * h * 4 + 1024) over (omega arith)

  module _ (pixels : ℕ) (e : pixels ≡ w * h) where
    pub expected_over : (pixels * 4 < 2 ^ 64 → ⊥) → None ≡ amount_of (w * h * 4 + 1024)
    expected_over over = amount_passes (w * h * 4) (w * h * 4 + 1024) (rw e at over) (omega arith)

    pub expected_number : (n : ℕ) (a : Option ℕ) → n ≡ pixels * 4 → SomeIff a (n + 1024 < 2 ^ 64) (n + 1024) → a ≡ amount_of (w * h * 4 + 1024)
    expected_number n a en k = amount_by (n + 1024) a k ∙ ap (λ (m : ℕ). amount_of (m + 1024)) (en ∙ ap (λ (m : ℕ). m * 4) e)
