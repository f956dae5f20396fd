-- What an answer of the writer tells: refusal 12 and its pixel, the length of the bytes that stand in the output, and that there is one answer.
use Prim.Native.Nat.{ℕ, ◌*◌, ◌≤◌}
use mathlib.Core.Bool.{Bool, true, false}
use mathlib.Core.List.{List, ◌++◌}
use mathlib.Core.Path.{◌≡◌, refl, sym, ap, ◌∙◌}
use native.Mathlib.Omega.{arith}
use borrow.Author.Tests.{ltb-true, ltb-false}
use lib.ListN.{length, drop}
use lib.Dec.{ltb}
use lib.Ieee.{Float}
use Rattle.steps.specs.Answer.{Answer, done, refused, refuse, paper_of}
use Rattle.std.specs.Prelude.{Option, Result}
use Rattle.steps.specs.declared.refusal.Refusal.{Refusal}
use Rattle.steps.proofs.Laws.Answer.{Passed, passed_by, differ, pass, one_answer}
use Rattle.steps.proofs.Laws.Place.{spread_front}
use Rattle.frames_written.specs.Samples.{first_bright, FirstBright}
use Rattle.frames_written.specs.Frame.{frame_of, file_of}
use Rattle.writer.specs.Write.{frame_checks, bright_checked, Left, stored, length_of, length4_of, write_of, write4_of, LengthPromise, Length4Promise, WorstPromise, WritePromise, Write4Promise, ExpectedPromise}
use Rattle.frames_written.proofs.Laws.Samples.{first_named, first_only}
use Rattle.writer.proofs.Laws.Write.{bright_refuses, bright_passes, stored_fits, stored_none}

-- ---- Inversions: what is answered comes from the checks, from check 12, or from the rest

module _ {A : Type 0} (answer : Answer ℕ → A) (samples : List Float) (n : ℕ) (rest z : A) (e : bright_checked answer samples n rest ≡ z) where
  abbrev first : ℕ
  first = first_bright samples 0 n

  -- it is refusal 12, of the first pixel that is too bright
  bright_tells : (k : ℕ) → (rest ≡ z → ⊥) → (answer (refused 12 first) ≡ z → first ≡ k) → FirstBright samples n k
  bright_tells k other named = go (ltb first n) refl
    where
      go : (t : Bool) → ltb first n ≡ t → FirstBright samples n k
      go true is =
          let inside = ltb-true first n is in
          let same = named (bright_refuses answer samples n first rest refl inside ∙ e) in
          rw same at (first_named samples n first refl inside)
      go false is = absurd (other (bright_passes answer samples n first rest refl (ltb-false first n is) ∙ e))

  -- it is what the rest answers, and no pixel is too bright
  bright_rest : (answer (refused 12 first) ≡ z → ⊥) → (n ≤ first) × (rest ≡ z)
  bright_rest other = go (ltb first n) refl
    where
      go : (t : Bool) → ltb first n ≡ t → (n ≤ first) × (rest ≡ z)
      go true is = absurd (other (bright_refuses answer samples n first rest refl (ltb-true first n is) ∙ e))
      go false is =
          let past = ltb-false first n is in
          (past, bright_passes answer samples n first rest refl past ∙ e)

done_of : {a b : ℕ} → done a ≡ done b → a ≡ b
done_of e = cc

number_of : {n m p q : ℕ} → ◌≡◌ {A = Answer ℕ} (refused n p) (refused m q) → n ≡ m
number_of e = cc

place_of : {n m p q : ℕ} → ◌≡◌ {A = Answer ℕ} (refused n p) (refused m q) → p ≡ q
place_of e = cc

-- a file that was stored: its length is answered, it stands at the output's front, and places beyond it are unchanged
pub record Stored (file out : List ℕ) (n : ℕ) (out' : List ℕ) : Type 0 where
  pub size : n ≡ length file
  pub room : n ≤ length out
  pub bytes : out' ≡ file ++ drop n out

module _ (file out : List ℕ) (z : Left) (e : stored file out ≡ z) where
  stored_refuses : (number place : ℕ) → z.0 ≡ refused number place → number ≡ 13
  stored_refuses number place k = go (ltb (length out) (length file)) refl
    where
      go : (t : Bool) → ltb (length out) (length file) ≡ t → number ≡ 13
      go true is = number_of (sym k ∙ ap (λ (x : Left). x.0) (sym (stored_none file out (ltb-true (length out) (length file) is) ∙ e)))
      go false is =
          absurd (differ (length file) number place (ap (λ (x : Left). x.0) (stored_fits file out _ _ (ltb-false (length out) (length file) is) refl refl ∙ e) ∙ k))

  stored_tells : (n : ℕ) → z.0 ≡ done n → Stored file out n z.1
  stored_tells n k = go (ltb (length out) (length file)) refl
    where
      go : (t : Bool) → ltb (length out) (length file) ≡ t → Stored file out n z.1
      go true is = absurd (differ n 13 0 (sym k ∙ ap (λ (x : Left). x.0) (sym (stored_none file out (ltb-true (length out) (length file) is) ∙ e))))
      go false is =
          let fits = ltb-false (length out) (length file) is in
          let same = stored_fits file out _ _ fits refl refl ∙ e in
          let size : n ≡ length file = done_of (sym k ∙ ap (λ (x : Left). x.0) (sym same)) in
          record { size = size; room = omega arith; bytes = ap (λ (x : Left). x.1) (sym same) ∙ spread_front out file fits ∙ ap (λ (m : ℕ). file ++ drop m out) (sym size) }

-- ---- Refusal 12 is given exactly if some pixel is too bright, and it names the first

module _ (w h : ℕ) (samples : List Float) (p : Passed (frame_checks w h (length samples) 3)) where
  length_rest : length_of w h samples ≡ bright_checked (λ a. a) samples (w * h) (done (length (file_of samples w h)))
  unfolding length_of
  length_rest = pass refuse (frame_checks w h (length samples) 3) _ p

  pub length_names : (k : ℕ) → FirstBright samples (w * h) k → length_of w h samples ≡ refused 12 k
  length_names k f = length_rest ∙ sym (bright_refuses (λ a. a) samples (w * h) k _ (sym (first_only samples (w * h) k f)) f.within)

  pub length_named : (k : ℕ) → length_of w h samples ≡ refused 12 k → FirstBright samples (w * h) k
  length_named k e = bright_tells (λ a. a) samples (w * h) _ _ (sym length_rest ∙ e) k (λ d. differ _ 12 k d) (λ d. place_of d)

  module _ (out : List ℕ) where
    write_rest : write_of w h samples out ≡ bright_checked (λ a. (a, out)) samples (w * h) (stored (file_of samples w h) out)
    unfolding write_of
    write_rest = pass (λ (n : ℕ). (refuse n, out)) (frame_checks w h (length samples) 3) _ p

    pub write_names : (k : ℕ) → FirstBright samples (w * h) k → write_of w h samples out ≡ (refused 12 k, out)
    write_names k f = write_rest ∙ sym (bright_refuses (λ a. (a, out)) samples (w * h) k _ (sym (first_only samples (w * h) k f)) f.within)

    pub write_named : (k : ℕ) (out' : List ℕ) → write_of w h samples out ≡ (refused 12 k, out') → FirstBright samples (w * h) k
    write_named k out' e =
        bright_tells (λ a. (a, out)) samples (w * h) _ _ (sym write_rest ∙ e) k
        (λ d. let z : ◌≡◌ {A = ℕ} 12 13 = stored_refuses (file_of samples w h) out _ d 12 k refl in omega arith)
        (λ d. place_of (ap (λ (x : Left). x.0) d))

-- ---- What stands in the output once it is done, and that its length is the length that is told beforehand

module _ (w h n : ℕ) where
  pub write_told : (samples : List Float) (out out' : List ℕ) → write_of w h samples out ≡ (done n, out')
      → Passed (frame_checks w h (length samples) 3) × (length_of w h samples ≡ done n) × Stored (file_of samples w h) out n out'
  unfolding write_of length_of
  write_told samples out out' e =
      let refusing : ℕ → Left = λ m. (refuse m, out) in
      let both = passed_by refusing (frame_checks w h (length samples) 3) _ (done n, out') (λ m d. differ n m 0 (ap (λ (x : Left). x.0) (sym d))) e in
      let rest = bright_rest (λ a. (a, out)) samples (w * h) _ _ both.1 (λ d. differ n 12 _ (ap (λ (x : Left). x.0) (sym d))) in
      let told = stored_tells (file_of samples w h) out (done n, out') rest.1 n refl in
      let same = pass refuse (frame_checks w h (length samples) 3) _ both.0 ∙ sym (bright_passes (λ a. a) samples (w * h) _ _ refl rest.0) in
      (both.0, same ∙ ap done (sym told.size), told)

  pub write4_told : (px out out' : List ℕ) → write4_of w h px out ≡ (done n, out')
      → Passed (frame_checks w h (length px) 4) × (length4_of w h px ≡ done n) × Stored (frame_of px w h) out n out'
  unfolding write4_of length4_of
  write4_told px out out' e =
      let refusing : ℕ → Left = λ m. (refuse m, out) in
      let both = passed_by refusing (frame_checks w h (length px) 4) _ (done n, out') (λ m d. differ n m 0 (ap (λ (x : Left). x.0) (sym d))) e in
      let told = stored_tells (frame_of px w h) out (done n, out') both.1 n refl in
      (both.0, pass refuse (frame_checks w h (length px) 4) _ both.0 ∙ ap done (sym told.size), told)

-- ---- One answer

both_once : (a b : Result ℕ Refusal) (o o' : List ℕ) → ◌≡◌ {A = Left} (paper_of a, o) (paper_of b, o') → (a ≡ b) × (o ≡ o')
both_once a b o o' e = (one_answer a b (ap (λ (z : Left). z.0) e), ap (λ (z : Left). z.1) e)

pub expected_once : (w h : ℕ) (a b : Option ℕ) → ExpectedPromise w h a → ExpectedPromise w h b → a ≡ b
expected_once w h a b p q = p ∙ sym q

module _ (w h : ℕ) (a b : Result ℕ Refusal) where
  pub length_once : (samples : List Float) → LengthPromise w h samples a → LengthPromise w h samples b → a ≡ b
  length_once samples p q = one_answer a b (p ∙ sym q)

  pub length4_once : (px : List ℕ) → Length4Promise w h px a → Length4Promise w h px b → a ≡ b
  length4_once px p q = one_answer a b (p ∙ sym q)

  pub worst_once : WorstPromise w h a → WorstPromise w h b → a ≡ b
  worst_once p q = one_answer a b (p ∙ sym q)

  pub write_once : (samples : List Float) (out o o' : List ℕ) → WritePromise w h samples out a o → WritePromise w h samples out b o' → (a ≡ b) × (o ≡ o')
  write_once samples out o o' p q = both_once a b o o' (p ∙ sym q)

  pub write4_once : (px out o o' : List ℕ) → Write4Promise w h px out a o → Write4Promise w h px out b o' → (a ≡ b) × (o ≡ o')
  write4_once px out o o' p q = both_once a b o o' (p ∙ sym q)
