-- Bytes behind those that an answer rests on change nothing: a channel and four, by any rule for counts that promises it at a count.
use Prim.Native.Nat.{ℕ, ◌+◌, ◌-◌, min, ◌<◌, ◌≤◌}
use mathlib.Core.Bool.{Bool, true, false}
use mathlib.Core.List.{List}
use mathlib.Core.Path.{◌≡◌, refl, sym, ap, subst, ◌∙◌}
use native.Mathlib.Omega.{arith}
use borrow.Author.Tests.{lt-ltb, le-ltb}
use lib.ListN.{length, get_or}
use Rattle.steps.specs.Loop.{Turn, more, halt, run}
use Rattle.steps.proofs.Laws.Turns.{Leads, run_keeps, enough_turns}
use Rattle.steps.proofs.Laws.Machines.{more_halt, halted, same_run}
use Rattle.steps.specs.declared.refusal.Reason.TheVariants.{BytesEnd}
use Rattle.steps.specs.Answer.{Taken}
use Rattle.std.specs.Prelude.{Ok, Err}
use Rattle.channels_read.specs.Channel.{Chan, chan, Count, span, fault, short, CountRule, channel_turn, channel_out, channel_of, is_run, span_bytes, span_taken, span_of}
use Rattle.channels_read.specs.Channels.{Chans, chans, after_channel, chans_turn, chans_out, channels_of}
use Rattle.channels_read.proofs.Laws.Channel.{channel_cases, channel_falls, span_onward, turn_done, turn_fault, turn_span}
use Rattle.channels_read.proofs.Laws.Channels.{chans_cases}
use Rattle.rows_read.specs.Middle.{Alike}
use Rattle.rows_read.proofs.Laws.Alike.{byte_same, bytes_same, Near, near_or, Firm}

-- ---- A channel, by a rule of which the same holds at a count

-- what a count rests on: so many bytes after it, or a fault that is not that bytes are missing
abbrev pub CountRests : List ℕ → ℕ → ℕ → Count → Type 0
CountRests src n at (span k) = at + 1 + span_taken (get_or src at 0) k ≤ n
CountRests src n at (fault reason) = (reason ≡ BytesEnd → ⊥) × (length src ≤ n)
CountRests src n at (short k) = ⊥

pub record CountAlone (gap : ℕ) (rule : CountRule) : Type 0 where
  -- where so many bytes are left behind a span, all of it was there
  pub whole : (src : List ℕ) (at done width k : ℕ) → at < length src → rule src at done width ≡ span k → min (at + 1 + span_taken (get_or src at 0) k) (length src) + gap ≤ length src
      → at + 1 + span_taken (get_or src at 0) k ≤ length src
  pub same : (src other : List ℕ) (n at done width : ℕ) → Alike n src other → at < n → CountRests src n at (rule src at done width) → rule other at done width ≡ rule src at done width

module _ (src other : List ℕ) (n : ℕ) (alike : Alike n src other) (channel c k : ℕ) (x : Chan) (h : x.at + 1 + span_taken c k ≤ n) where
  pub span_same : span_of other channel c k x ≡ span_of src channel c k x
  unfolding span_of span_taken span_bytes
  span_same = go (is_run c) refl
    where
      go : (t : Bool) → is_run c ≡ t → span_of other channel c k x ≡ span_of src channel c k x
      go true e =
          let g = simp e at h in
          let m : min (x.at + 1 + 1) (length other) ≡ min (x.at + 1 + 1) (length src) = omega (arith, alike.0, alike.1) in
          simp (e, m, byte_same src other n alike (x.at + 1) (omega arith))
      go false e =
          let g = simp e at h in
          let m : min (x.at + 1 + k) (length other) ≡ min (x.at + 1 + k) (length src) = omega (arith, alike.0, alike.1) in
          simp (e, m, bytes_same src other n alike (x.at + 1) k (omega arith))

module _ (gap : ℕ) (small : gap ≤ 1) (rule : CountRule) (src : List ℕ) (n channel width : ℕ) where
  -- past the places near enough no turn leads to an answer that rests on those bytes
  channel_past : (k : ℕ) (x : Chan) → (Near gap (length src) n x.at → ⊥) → Firm gap (length src) n (run (channel_turn rule src channel width) channel_out k x) → ⊥
  channel_past k x h = run_keeps (channel_turn rule src channel width) channel_out P Q step (λ y p f. f.0 refl) k x h
    where
      P : Chan → Type 0
      P y = Near gap (length src) n y.at → ⊥

      Q : Taken × List ℕ → Type 0
      Q a = Firm gap (length src) n a → ⊥

      step : (y : Chan) → P y → Leads P Q (channel_turn rule src channel width y)
      step y p =
          channel_cases rule src channel width y (Leads P Q)
          (λ m d l f near. let on = span_onward src channel (get_or src y.at 0) m y l in p (omega arith, omega arith))
          (λ reason d l f g. p (omega (arith, g.1), omega arith))
          (λ m d l e f. f.0 refl)
          (λ d l f. f.0 refl)
          (λ d f. p f)

  channel_of_past : (at : ℕ) (store : List ℕ) → (Near gap (length src) n at → ⊥) → Firm gap (length src) n (channel_of rule src at store channel width) → ⊥
  unfolding channel_of
  channel_of_past at store h = channel_past (length src + 1) (chan at 0 store) h

module _ (gap : ℕ) (small : gap ≤ 1) (rule : CountRule) (alone : CountAlone gap rule) (src other : List ℕ) (n : ℕ) (alike : Alike n src other) (channel width : ℕ) where
  span_inside : (x : Chan) (k : ℕ) → x.at < length src → rule src x.at x.done width ≡ span k → Near gap (length src) n (span_of src channel (get_or src x.at 0) k x).at
      → x.at + 1 + span_taken (get_or src x.at 0) k ≤ n
  unfolding span_of
  span_inside x k l f near = omega (arith, alone.whole src x.at x.done width k l f near.1, near.0)

  channel_on : (x t : Chan) → channel_turn rule src channel width x ≡ more t → Near gap (length src) n t.at → channel_turn rule other channel width x ≡ more t
  channel_on x t e near =
      channel_cases rule src channel width x (λ (z : Turn Chan (Taken × List ℕ)). z ≡ more t → channel_turn rule other channel width x ≡ more t)
      (λ k d l f g. goes k d l f g)
      (λ reason d l f k. more_halt t _ (sym k))
      (λ m d l f k. more_halt t _ (sym k))
      (λ d l k. more_halt t _ (sym k))
      (λ d k. more_halt t _ (sym k)) e
    where
      goes : (k : ℕ) → x.done < width → x.at < length src → rule src x.at x.done width ≡ span k
          → ◌≡◌ {A = Turn Chan (Taken × List ℕ)} (more (span_of src channel (get_or src x.at 0) k x)) (more t) → channel_turn rule other channel width x ≡ more t
      goes k d l f g =
          let c = get_or src x.at 0 in
          let s : span_of src channel c k x ≡ t = cc in
          let inside = span_inside x k l f (subst (λ (y : Chan). Near gap (length src) n y.at) (sym s) near) in
          let here : x.at < n = omega arith in
          turn_span rule other channel width x k d (omega (arith, alike.1)) (alone.same src other n x.at x.done width alike here (subst (CountRests src n x.at) (sym f) inside) ∙ f)
          ∙ rw (byte_same src other n alike x.at here) (ap more (span_same src other n alike channel c k x inside ∙ s))

  channel_end : (x : Chan) (a : Taken × List ℕ) → Firm gap (length src) n a → channel_turn rule src channel width x ≡ halt a → channel_turn rule other channel width x ≡ halt a
  channel_end x a firm e =
      channel_cases rule src channel width x (λ (z : Turn Chan (Taken × List ℕ)). z ≡ halt a → channel_turn rule other channel width x ≡ halt a)
      (λ k d l f g. more_halt _ _ g)
      (λ reason d l f k.
      let sure : Firm gap (length src) n (Err reason, x.store) = subst (Firm gap (length src) n) (sym (halted k)) firm in
      let here : x.at < n = omega (arith, sure.1) in
      turn_fault rule other channel width x reason d (omega (arith, alike.1)) (alone.same src other n x.at x.done width alike here (subst (CountRests src n x.at) (sym f) sure) ∙ f) ∙ k)
      (λ m d l f k. absurd ((subst (Firm gap (length src) n) (sym (halted k)) firm).0 refl))
      (λ d l k. absurd ((subst (Firm gap (length src) n) (sym (halted k)) firm).0 refl))
      (λ d k. turn_done rule other channel width x d ∙ k) e

  pub channel_alone : (at : ℕ) (store : List ℕ) → Firm gap (length src) n (channel_of rule src at store channel width) → channel_of rule other at store channel width ≡ channel_of rule src at store channel width
  unfolding channel_of
  channel_alone at store firm =
      let a = channel_of rule src at store channel width in
      let turns = length src + length other + 1 in
      enough_turns (channel_turn rule other channel width) channel_out channel_out (λ (y : Chan). length other - y.at) (channel_falls rule other channel width) _ turns _ (omega arith) (omega arith)
      ∙ same_run (channel_turn rule src channel width) (channel_turn rule other channel width) channel_out channel_out a (λ (x : Chan). Near gap (length src) n x.at)
      (λ x k. (subst (Firm gap (length src) n) (sym k) firm).0 refl)
      (λ k x r. near_or gap (length src) n x.at (λ near. near) (λ far. absurd (channel_past gap small rule src n channel width k x far (subst (Firm gap (length src) n) (sym r) firm))))
      channel_on
      (λ x. channel_end x a firm)
      _ turns _ (omega arith) refl

-- ---- Four channels

chans_whole : (rule : CountRule) (src : List ℕ) (width : ℕ) (x : Chans) → 4 ≤ x.channel → chans_turn rule src width x ≡ halt (Ok x.at, x.store)
unfolding chans_turn
chans_whole rule src width x h = simp (le-ltb x.channel 4 h)

module _ (gap : ℕ) (small : gap ≤ 1) (rule : CountRule) (src : List ℕ) (n width : ℕ) where
  chans_past : (k : ℕ) (x : Chans) → (Near gap (length src) n x.at → ⊥) → Firm gap (length src) n (run (chans_turn rule src width) chans_out k x) → ⊥
  chans_past k x h = run_keeps (chans_turn rule src width) chans_out P Q step (λ y p f. f.0 refl) k x h
    where
      P : Chans → Type 0
      P y = Near gap (length src) n y.at → ⊥

      Q : Taken × List ℕ → Type 0
      Q a = Firm gap (length src) n a → ⊥

      read : (y : Chans) (a : Taken × List ℕ) → P y → a ≡ channel_of rule src y.at y.store y.channel width → Q a
      read y a p e f = channel_of_past gap small rule src n y.channel width y.at y.store p (subst (Firm gap (length src) n) e f)

      step : (y : Chans) → P y → Leads P Q (chans_turn rule src width y)
      step y p = chans_cases rule src width y (Leads P Q) (λ next s l f. read y (Ok next, s) p f) (λ reason s l f. read y (Err reason, s) p f) (λ l f. p f)

  pub channels_past : (at : ℕ) (store : List ℕ) → (Near gap (length src) n at → ⊥) → Firm gap (length src) n (channels_of rule src at store width) → ⊥
  unfolding channels_of
  channels_past at store h = chans_past 5 (chans at 0 store) h

module _ (gap : ℕ) (small : gap ≤ 1) (rule : CountRule) (alone : CountAlone gap rule) (src other : List ℕ) (n : ℕ) (alike : Alike n src other) (width : ℕ) where
  -- a channel, in either
  read_same : (x : Chans) (a : Taken × List ℕ) → a ≡ channel_of rule src x.at x.store x.channel width → Firm gap (length src) n a → a ≡ channel_of rule other x.at x.store x.channel width
  read_same x a e firm = e ∙ sym (channel_alone gap small rule alone src other n alike x.channel width x.at x.store (subst (Firm gap (length src) n) e firm))

  chans_by : (x : Chans) (t : Taken) (s : List ℕ) → x.channel < 4 → (t, s) ≡ channel_of rule other x.at x.store x.channel width → chans_turn rule other width x ≡ after_channel x.channel t s
  unfolding chans_turn
  chans_by x t s h e = simp (lt-ltb x.channel 4 h) (ap (λ (z : Taken × List ℕ). after_channel x.channel z.0 z.1) (sym e))

  chans_on : (x t : Chans) → chans_turn rule src width x ≡ more t → Near gap (length src) n t.at → chans_turn rule other width x ≡ more t
  chans_on x t e near =
      chans_cases rule src width x (λ (z : Turn Chans (Taken × List ℕ)). z ≡ more t → chans_turn rule other width x ≡ more t)
      (λ next s l f k.
      let u : chans next (x.channel + 1) s ≡ t = cc in
      chans_by x (Ok next) s l (read_same x (Ok next, s) f (subst (λ (y : Chans). Near gap (length src) n y.at) (sym u) near)) ∙ k)
      (λ reason s l f k. more_halt t _ (sym k))
      (λ l k. more_halt t _ (sym k)) e

  chans_end : (x : Chans) (a : Taken × List ℕ) → Firm gap (length src) n a → chans_turn rule src width x ≡ halt a → chans_turn rule other width x ≡ halt a
  chans_end x a firm e =
      chans_cases rule src width x (λ (z : Turn Chans (Taken × List ℕ)). z ≡ halt a → chans_turn rule other width x ≡ halt a)
      (λ next s l f k. more_halt _ _ k)
      (λ reason s l f k. chans_by x (Err reason) s l (read_same x (Err reason, s) f (subst (Firm gap (length src) n) (sym (halted k)) firm)) ∙ k)
      (λ l k. chans_whole rule other width x l ∙ k) e

  pub channels_alone : (at : ℕ) (store : List ℕ) → Firm gap (length src) n (channels_of rule src at store width) → channels_of rule other at store width ≡ channels_of rule src at store width
  unfolding channels_of
  channels_alone at store firm =
      let a = channels_of rule src at store width in
      same_run (chans_turn rule src width) (chans_turn rule other width) chans_out chans_out a (λ (x : Chans). Near gap (length src) n x.at)
      (λ x k. (subst (Firm gap (length src) n) (sym k) firm).0 refl)
      (λ k x r. near_or gap (length src) n x.at (λ near. near) (λ far. absurd (chans_past gap small rule src n width k x far (subst (Firm gap (length src) n) (sym r) firm))))
      chans_on
      (λ x. chans_end x a firm)
      5 5 _ (omega arith) refl
