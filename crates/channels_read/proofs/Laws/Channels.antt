-- The laws of `specs/Channels.antt`.
use Prim.Native.Nat.{ℕ, ◌+◌, ◌-◌, ◌<◌, ◌≤◌}
use native.Mathlib.Omega.{arith}
use mathlib.Core.List.{List}
use mathlib.Core.Path.{◌≡◌, refl, sym, ap, subst, ◌∙◌}
use borrow.Author.Tests.{lt-ltb, le-ltb, ltb-true, ltb-false}
use lib.Dec.{ltb}
use Rattle.steps.specs.Loop.{Turn, more, halt, run}
use Rattle.steps.specs.Answer.{Taken}
use Rattle.std.specs.Prelude.{Ok, Err}
use Rattle.steps.specs.declared.refusal.Reason.{Reason}
use Rattle.steps.proofs.Laws.Taken.{fault_done}
use Rattle.steps.proofs.Laws.Loop.{Runs, runs_start, runs_more, runs_halt}
use Rattle.steps.proofs.Laws.Turns.{by_test, Falls, never_out}
use Rattle.channels_read.specs.Channel.{CountRule, channel_of}
use Rattle.channels_read.specs.Channels.{Chans, after_channel, channels_of, chans, chans_out, chans_turn}

pub chans_starts : (rule : CountRule) (src : List ℕ) (at : ℕ) (store : List ℕ) (width : ℕ) → Runs (chans_turn rule src width) chans_out (4 - 0) (chans at 0 store) (channels_of rule src at store width)
unfolding channels_of
chans_starts rule src at store width = runs_start _ _ _ _ _ (omega arith)

module _ (rule : CountRule) (src : List ℕ) (width p channel : ℕ) (store : List ℕ) (a : Taken × List ℕ) (r : Runs (chans_turn rule src width) chans_out (4 - channel) (chans p channel store) a) where
  pub chans_done : 4 ≤ channel → (Ok p, store) ≡ a
  unfolding chans_turn
  chans_done h = runs_halt r (simp (le-ltb channel 4 h))

  module _ (t : Taken) (store' : List ℕ) (h : channel < 4) (e : (t, store') ≡ channel_of rule src p store channel width) where
    turned : chans_turn rule src width (chans p channel store) ≡ after_channel channel t store'
    unfolding chans_turn
    turned = simp (lt-ltb channel 4 h) (ap (λ (z : Taken × List ℕ). after_channel channel z.0 z.1) (sym e))

    pub chans_fault : (reason : Reason) → t ≡ Err reason → (Err reason, store') ≡ a
    chans_fault reason k = runs_halt r (turned ∙ rw k)

    pub chans_again : (next : ℕ) → t ≡ Ok next → Runs (chans_turn rule src width) chans_out (4 - (channel + 1)) (chans next (channel + 1) store') a
    chans_again next k = runs_more r (turned ∙ rw k) (omega arith)

-- a turn, case by case
pub chans_cases : (rule : CountRule) (src : List ℕ) (width : ℕ) (x : Chans) (L : Turn Chans (Taken × List ℕ) → Type 0)
    → ((next : ℕ) (s : List ℕ) → x.channel < 4 → (Ok next, s) ≡ channel_of rule src x.at x.store x.channel width → L (more (chans next (x.channel + 1) s)))
    → ((reason : Reason) (s : List ℕ) → x.channel < 4 → (Err reason, s) ≡ channel_of rule src x.at x.store x.channel width → L (halt (Err reason, s)))
    → (4 ≤ x.channel → L (halt (Ok x.at, x.store))) → L (chans_turn rule src width x)
unfolding chans_turn
chans_cases rule src width x L next faults done =
    let read = channel_of rule src x.at x.store x.channel width in
    by_test L (ltb x.channel 4) (λ t. after (ltb-true x.channel 4 t) read.0 read.1 refl) (λ t. done (ltb-false x.channel 4 t))
  where
    after : x.channel < 4 → (t : Taken) (s : List ℕ) → (t, s) ≡ channel_of rule src x.at x.store x.channel width → L (after_channel x.channel t s)
    after h (Ok n) s e = next n s h e
    after h (Err reason) s e = faults reason s h e

-- the turns never run out, since there are four channels
pub channels_never_out : (rule : CountRule) (src : List ℕ) (at : ℕ) (store : List ℕ) (width : ℕ) (out : Chans → Taken × List ℕ)
    → channels_of rule src at store width ≡ run (chans_turn rule src width) out 5 (chans at 0 store)
unfolding channels_of
channels_never_out rule src at store width out =
    let μ : Chans → ℕ = λ x. 4 - x.channel in
    never_out (chans_turn rule src width) chans_out out μ (λ x. chans_cases rule src width x (Falls μ x) (λ next s h e. omega arith) (λ reason s h e. tt) (λ h. tt)) _ _ (omega arith)

-- ---- Where all four are done

module _ (rule : CountRule) (src : List ℕ) (width next : ℕ) (s : List ℕ) where
  -- one of them, where all are done
  one : (p c : ℕ) (store : List ℕ) → c < 4 → Runs (chans_turn rule src width) chans_out (4 - c) (chans p c store) (Ok next, s)
      → (n : ℕ) × (after : List ℕ) × (channel_of rule src p store c width ≡ (Ok n, after)) × Runs (chans_turn rule src width) chans_out (4 - (c + 1)) (chans n (c + 1) after) (Ok next, s)
  one p c store h r = by (channel_of rule src p store c width).0 (channel_of rule src p store c width).1 refl
    where
      by : (t : Taken) (after : List ℕ) → (t, after) ≡ channel_of rule src p store c width
          → (n : ℕ) × (after : List ℕ) × (channel_of rule src p store c width ≡ (Ok n, after)) × Runs (chans_turn rule src width) chans_out (4 - (c + 1)) (chans n (c + 1) after) (Ok next, s)
      by (Ok n) after e = (n, after, sym e, chans_again rule src width p c store (Ok next, s) r (Ok n) after h e n refl)
      by (Err reason) after e = fault_done reason next after s (chans_fault rule src width p c store (Ok next, s) r (Err reason) after h e reason refl)

-- four channels that are done, one after the other
pub record Four (rule : CountRule) (src : List ℕ) (at : ℕ) (store : List ℕ) (width next : ℕ) (s : List ℕ) : Type 0 where
  pub green : ℕ
  pub blue : ℕ
  pub exponent : ℕ
  pub reds : List ℕ
  pub greens : List ℕ
  pub blues : List ℕ
  pub first : channel_of rule src at store 0 width ≡ (Ok green, reds)
  pub second : channel_of rule src green reds 1 width ≡ (Ok blue, greens)
  pub third : channel_of rule src blue greens 2 width ≡ (Ok exponent, blues)
  pub fourth : channel_of rule src exponent blues 3 width ≡ (Ok next, s)

module _ (rule : CountRule) (src : List ℕ) (at : ℕ) (store : List ℕ) (width next : ℕ) (s : List ℕ) where
  pub apart : channels_of rule src at store width ≡ (Ok next, s) → Four rule src at store width next s
  apart e =
      let r0 = subst (Runs (chans_turn rule src width) chans_out (4 - 0) (chans at 0 store)) e (chans_starts rule src at store width) in
      let a = one rule src width next s at 0 store (omega arith) r0 in
      let b = one rule src width next s a.0 1 a.1 (omega arith) a.3 in
      let c = one rule src width next s b.0 2 b.1 (omega arith) b.3 in
      let d = one rule src width next s c.0 3 c.1 (omega arith) c.3 in
      let end = chans_done rule src width d.0 4 d.1 (Ok next, s) d.3 (omega arith) in
      record { green = a.0; blue = b.0; exponent = c.0; reds = a.1; greens = b.1; blues = c.1; first = a.2; second = b.2; third = c.2; fourth = ◌∙◌ {b = (Ok d.0, d.1)} d.2 end }

  pub together : Four rule src at store width next s → channels_of rule src at store width ≡ (Ok next, s)
  together f =
      let r0 = chans_starts rule src at store width in
      let r1 = chans_again rule src width at 0 store _ r0 (Ok f.green) f.reds (omega arith) (sym f.first) f.green refl in
      let r2 = chans_again rule src width f.green 1 f.reds _ r1 (Ok f.blue) f.greens (omega arith) (sym f.second) f.blue refl in
      let r3 = chans_again rule src width f.blue 2 f.greens _ r2 (Ok f.exponent) f.blues (omega arith) (sym f.third) f.exponent refl in
      let r4 = chans_again rule src width f.exponent 3 f.blues _ r3 (Ok next) s (omega arith) (sym f.fourth) next refl in
      sym (chans_done rule src width next 4 s _ r4 (omega arith))
