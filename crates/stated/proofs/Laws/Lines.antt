-- The laws of the lines together, which other crates use: line after line, the numbers of a line at fault, and that bytes behind the lines change nothing.
use Prim.{Unit}
use Prim.Native.Nat.{ℕ, zero, suc, ◌+◌, ◌-◌, ◌<◌, ◌≤◌}
use mathlib.Core.Bool.{Bool, true, false, ◌&&◌}
use mathlib.Core.List.{List, ◌++◌}
use mathlib.Core.Logic.{◌⊎◌, inl, inr}
use mathlib.Core.Path.{◌≡◌, refl, sym, ap, subst, ◌∙◌}
use native.Mathlib.Nat.{not-suc-le-zero}
use native.Mathlib.Numerals.{add-one}
use native.Mathlib.Omega.{arith}
use borrow.Author.Tests.{eq-eqb, ne_eqb, eqb-true, eqb-false, lt-leb, leb-true, leb-false}
use lib.Dec.{eqb, leb}
use lib.ListN.{length, get_or, length-append, get_or-append}
use Rattle.steps.specs.Loop.{Turn, more, halt, lead, run}
use Rattle.steps.specs.Answer.{Answer, done, refused}
use Rattle.steps.specs.declared.Reading.{Reading}
use Rattle.steps.specs.declared.Reading.TheVariants.{Crate, Document}
use Rattle.steps.proofs.Laws.Answer.{differ}
use Rattle.steps.proofs.Laws.Turns.{by_test, Leads, Falls, run_keeps, enough_turns}
use Rattle.words.specs.Lines.{line_feed, past, between, same, line_turn, no_lines, lines_end}
use Rattle.words.proofs.Laws.Lines.{past_moves, lines_start, lines_done, lines_blank, lines_on, lines_fall}
use Rattle.words.proofs.Laws.Rest.{Inside, past_rest, between_rest, lines_from}
use Rattle.stated.specs.declared.Said.{Said}
use Rattle.stated.specs.Rounded.{usable}
use Rattle.stated.specs.Exposure.{Units, units, unread, exposure_of}
use Rattle.stated.proofs.Laws.Said.{place}
use Rattle.stated.specs.Said.{nothing, format_key, exposure_key, starts, rgbe_format, xyze_format, rest_of, formatted, together, exposed, heard, Place, going_on, said_turn, no_turns, said_of, said_by}

-- ---- The numbers of a line at fault

abbrev pub LineFault : ℕ → Type 0
LineFault number = (number ≡ 15) ⊎ (number ≡ 16)

abbrev Faults : Answer Said → Type 0
Faults (done said) = Unit {0}
Faults (refused number place) = LineFault number × (place ≡ 0)

exposed_faults : (said : Said) (u : Units) → Faults (exposed said u)
unfolding exposed
exposed_faults said (units u) = by_test Faults (usable u && usable (together said.exposure u)) (λ _. tt) (λ _. (inr refl, refl))
exposed_faults said unread = (inr refl, refl)

heard_faults : (said : Said) (line : List ℕ) → Faults (heard said line)
unfolding heard formatted
heard_faults said line =
    by_test Faults (starts format_key line)
    (λ _. by_test Faults (same (rest_of format_key line) rgbe_format) (λ _. tt) (λ _. by_test Faults (same (rest_of format_key line) xyze_format) (λ _. tt) (λ _. (inl refl, refl))))
    (λ _. by_test Faults (starts exposure_key line) (λ _. exposed_faults said (exposure_of (rest_of exposure_key line))) (λ _. tt))

-- ---- Line after line

-- what the lines from a place on say
abbrev pub said_from : List ℕ → Place → Answer Said
said_from bytes = run (said_turn bytes) no_turns (length bytes + 1)

module _ (bytes : List ℕ) where
  -- a turn that ends the lines, or goes on with what a line says
  pub turn_cases : (L : Turn Place (Answer Said) → Type 0) (p : Place) → (length bytes ≤ p.at → L (halt (done p.said))) → (p.at < length bytes → get_or bytes p.at 0 ≡ line_feed → L (halt (done p.said)))
      → (p.at < length bytes → (get_or bytes p.at 0 ≡ line_feed → ⊥) → let next = past line_feed bytes p.at in L (going_on next (heard p.said (between bytes p.at next)))) → L (said_turn bytes p)
  unfolding said_turn
  turn_cases L p end blank goes =
      by_test L (leb (length bytes) p.at) (λ t. end (leb-true _ _ t))
      (λ t. by_test L (eqb (get_or bytes p.at 0) line_feed) (λ u. blank (leb-false _ _ t) (eqb-true _ _ u)) (λ u. goes (leb-false _ _ t) (eqb-false _ _ u)))

  abbrev left : Place → ℕ
  left p = length bytes - p.at

  going_falls : (p : Place) (a : Answer Said) → p.at < length bytes → Falls left p (going_on (past line_feed bytes p.at) a)
  going_falls p (done said) h = omega (arith, past_moves line_feed bytes p.at h)
  going_falls p (refused number place) h = tt

  said_falls : (p : Place) → Falls left p (said_turn bytes p)
  said_falls p = turn_cases (Falls left p) p (λ _. tt) (λ _ _. tt) (λ h _. let next = past line_feed bytes p.at in going_falls p (heard p.said (between bytes p.at next)) h)

  from_turn : (p : Place) → said_from bytes p ≡ lead (said_from bytes) (said_turn bytes p)
  unfolding run
  from_turn p = one ∙ go (said_turn bytes p) refl
    where
      one : run (said_turn bytes) no_turns (length bytes + 1) p ≡ lead (run (said_turn bytes) no_turns (length bytes)) (said_turn bytes p)
      one = rw add-one

      go : (z : Turn Place (Answer Said)) → said_turn bytes p ≡ z → lead (run (said_turn bytes) no_turns (length bytes)) z ≡ lead (said_from bytes) z
      go (more q) e =
          let less : left q < left p = subst (Falls left p) e (said_falls p) in
          enough_turns (said_turn bytes) no_turns no_turns left said_falls (length bytes) (length bytes + 1) q (omega arith) (omega arith)
      go (halt a) e = refl

  module _ (p : Place) (h : p.at < length bytes) where
    pub said_blank : get_or bytes p.at 0 ≡ line_feed → said_from bytes p ≡ done p.said
    unfolding said_turn
    said_blank e =
        let turn : said_turn bytes p ≡ halt (done p.said) = simp (lt-leb (length bytes) p.at h, eq-eqb (get_or bytes p.at 0) line_feed e) in
        from_turn p ∙ ap (lead (said_from bytes)) turn

    said_goes : (next : ℕ) (a : Answer Said) → (get_or bytes p.at 0 ≡ line_feed → ⊥) → next ≡ past line_feed bytes p.at → heard p.said (between bytes p.at next) ≡ a
        → said_from bytes p ≡ lead (said_from bytes) (going_on next a)
    unfolding said_turn
    said_goes next a e k is =
        let turn : said_turn bytes p ≡ going_on next a = simp (lt-leb (length bytes) p.at h, ne_eqb (get_or bytes p.at 0) line_feed e, ← k, is) in
        from_turn p ∙ ap (lead (said_from bytes)) turn

    pub said_on : (next : ℕ) (said : Said) → (get_or bytes p.at 0 ≡ line_feed → ⊥) → next ≡ past line_feed bytes p.at → heard p.said (between bytes p.at next) ≡ done said
        → said_from bytes p ≡ said_from bytes (place next said)
    said_on next said e k is = said_goes next (done said) e k is

  from_faults : (p : Place) → Faults (said_from bytes p)
  from_faults p =
      run_keeps (said_turn bytes) no_turns (λ (q : Place). Unit {0}) Faults
      (λ q _. turn_cases (Leads (λ (q : Place). Unit {0}) Faults) q (λ _. tt) (λ _ _. tt) (λ _ _. let next = past line_feed bytes q.at in let line = between bytes q.at next in go next (heard q.said line) (heard_faults q.said line))) (λ q _. tt) (length bytes + 1) p tt
    where
      go : (next : ℕ) (a : Answer Said) → Faults a → Leads (λ (q : Place). Unit {0}) Faults (going_on next a)
      go next (done said) f = tt
      go next (refused number place) f = f

-- the number of a refusal, which reports place 0
pub said_number : (reading : Reading) (bytes : List ℕ) (at number place : ℕ) → said_by reading bytes at ≡ refused number place → LineFault number × (place ≡ 0)
unfolding said_of
said_number Crate bytes at number place e = absurd (differ nothing number place e)
said_number Document bytes at number place e = subst Faults e (from_faults bytes record { at = at; said = nothing })

-- ---- Bytes behind the lines change nothing of what they say

-- the lines end where they do from the next line on
end_next : (bytes : List ℕ) (at next : ℕ) → at < length bytes → (get_or bytes at 0 ≡ line_feed → ⊥) → next ≡ past line_feed bytes at → lines_end bytes next ≡ lines_end bytes at
unfolding lines_end
end_next bytes at next h e k =
    let r = lines_on bytes at (lines_end bytes at) (lines_start bytes at) h next e k in
    enough_turns (line_turn bytes) no_lines no_lines (λ q. length bytes - q) (lines_fall bytes) (length bytes + 1) r.turns next (omega arith) r.enough ∙ r.gives

module _ (xs ys zs : List ℕ) where
  there : (vs : List ℕ) (at : ℕ) → at < length xs → (at < length (xs ++ vs)) × (get_or (xs ++ vs) at 0 ≡ get_or xs at 0)
  there vs at h = (omega (arith, length-append xs vs), get_or-append xs vs 0 at h)

  from_rest : (m : ℕ) (p : Place) → length (xs ++ ys) - p.at < m → Inside (lines_end (xs ++ ys) p.at) xs ys → said_from (xs ++ zs) p ≡ said_from (xs ++ ys) p
  from_rest zero p l h = absurd (not-suc-le-zero l)
  from_rest (suc m) p l h = by_place (λ q. from_rest m q) (leb (length (xs ++ ys)) p.at) refl
    where
      Later : Type 0
      Later = (q : Place) → length (xs ++ ys) - q.at < m → Inside (lines_end (xs ++ ys) q.at) xs ys → said_from (xs ++ zs) q ≡ said_from (xs ++ ys) q

      past_end : length (xs ++ ys) ≤ p.at → ⊥
      past_end t = omega (arith, h.1, lines_done (xs ++ ys) p.at _ (lines_start (xs ++ ys) p.at) t)

      by_line : Later → p.at < length (xs ++ ys) → (b : Bool) → eqb (get_or (xs ++ ys) p.at 0) line_feed ≡ b → said_from (xs ++ zs) p ≡ said_from (xs ++ ys) p
      by_line later t true u =
          let feed = eqb-true _ _ u in
          let end = lines_blank (xs ++ ys) p.at _ (lines_start (xs ++ ys) p.at) t feed in
          let short : p.at < length xs = omega (arith, h.0, end) in
          let y = there ys p.at short in
          let z = there zs p.at short in
          said_blank (xs ++ zs) p z.0 (z.1 ∙ sym y.1 ∙ feed) ∙ sym (said_blank (xs ++ ys) p t feed)
      by_line later t false u =
          let other = eqb-false _ _ u in
          let next = past line_feed (xs ++ ys) p.at in
          let moves = past_moves line_feed (xs ++ ys) p.at t in
          let end = end_next (xs ++ ys) p.at next t other refl in
          let from = lines_from (xs ++ ys) next in
          let inside : Inside next xs ys = (omega (arith, h.0), omega (arith, h.1)) in
          let short : p.at < length xs = omega arith in
          let y = there ys p.at short in
          let z = there zs p.at short in
          let nexts : next ≡ past line_feed (xs ++ zs) p.at = sym (past_rest xs ys zs line_feed p.at inside) in
          let line = between_rest xs ys zs p.at next (omega arith) inside.0 in
          let a = heard p.said (between (xs ++ ys) p.at next) in
          said_goes (xs ++ zs) p z.0 next a (λ e. other (y.1 ∙ sym z.1 ∙ e)) nexts (ap (heard p.said) line)
          ∙ go next a (omega arith) (rw end h)
          ∙ sym (said_goes (xs ++ ys) p t next a other refl refl)
        where
          go : (next : ℕ) (a : Answer Said) → length (xs ++ ys) - next < m → Inside (lines_end (xs ++ ys) next) xs ys → lead (said_from (xs ++ zs)) (going_on next a) ≡ lead (said_from (xs ++ ys)) (going_on next a)
          go next (done said) k i = later (place next said) k i
          go next (refused number place) k i = refl

      by_place : Later → (b : Bool) → leb (length (xs ++ ys)) p.at ≡ b → said_from (xs ++ zs) p ≡ said_from (xs ++ ys) p
      by_place later true t = absurd (past_end (leb-true _ _ t))
      by_place later false t = by_line later (leb-false _ _ t) _ refl

  pub said_rest : (reading : Reading) (at : ℕ) → Inside (lines_end (xs ++ ys) at) xs ys → said_by reading (xs ++ zs) at ≡ said_by reading (xs ++ ys) at
  unfolding said_of
  said_rest Crate at h = refl
  said_rest Document at h = from_rest (length (xs ++ ys) + 1) (place at nothing) (omega arith) h
