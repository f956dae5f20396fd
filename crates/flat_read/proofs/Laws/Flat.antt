-- The laws of `specs/Flat.antt`: of a pixel 1,1,1,n, and of the flat part by any rule and by the crate reading.
use Prim.Native.Nat.{ℕ, ◌+◌, ◌-◌, ◌*◌, min, ◌<◌, ◌≤◌}
use native.Mathlib.Omega.{arith}
use mathlib.Core.List.{List}
use mathlib.Core.Bool.{true, false}
use mathlib.Core.Path.{◌≡◌, sym, ap, subst, ◌∙◌}
use borrow.Author.Tests.{lt-ltb, le-ltb, ltb-true, ltb-false, ne_eqb}
use lib.ListN.{length, get_or}
use lib.Dec.{ltb}
use Rattle.steps.specs.Loop.{Turn, more, halt, run}
use Rattle.steps.specs.Place.{bytes_from, spread}
use Rattle.steps.proofs.Laws.Loop.{Runs, runs_start, runs_more, runs_halt}
use Rattle.steps.proofs.Laws.Order.{by_order}
use Rattle.steps.proofs.Laws.Taken.{never_both}
use Rattle.steps.proofs.Laws.Turns.{by_test, Falls, Leads, never_out, run_keeps}
use Rattle.steps.specs.Answer.{Taken}
use Rattle.std.specs.Prelude.{Ok, Err}
use Rattle.steps.specs.declared.refusal.Reason.{Reason}
use Rattle.steps.specs.declared.refusal.Reason.TheVariants.{BytesEnd}
use Rattle.steps.specs.declared.Reading.{Reading}
use Rattle.steps.specs.declared.Reading.TheVariants.{Crate, Document}
use Rattle.flat_read.specs.Flat.{Flat, FlatRule, flat, crate_flat, document_ones, document_flat, times_of, flat_rule, flat_of, flat_out, flat_turn, four_to, is_repeat, ordinary, stored}

-- ---- A pixel

pub repeat_not_0 : (src : List ℕ) (at : ℕ) → (get_or src at 0 ≡ 1 → ⊥) → false ≡ is_repeat src at
unfolding is_repeat
repeat_not_0 src at h = simp (ne_eqb (get_or src at 0) 1 h)

-- one whose four bytes are there, stored
pub four_there : (src : List ℕ) (at : ℕ) (store : List ℕ) (place : ℕ) → at + 4 ≤ length src → four_to src at store place ≡ spread 1 store place (bytes_from src at 4)
unfolding four_to
four_there src at store place h =
    let m : min 4 (length src - at) ≡ 4 = omega arith in
    rw m

-- ---- The flat part

pub flat_starts : (rule : FlatRule) (src : List ℕ) (at : ℕ) (store : List ℕ) (start wanted : ℕ)
    → Runs (flat_turn rule src) flat_out (length src - at) (flat at start wanted 0 store) (flat_of rule src at store start wanted)
unfolding flat_of
flat_starts rule src at store start wanted = runs_start _ _ _ _ _ (omega arith)

-- the loop, over the values that the code has in hand; n is how many bytes the input has left
module _ (rule : FlatRule) (src : List ℕ) (p place wanted repeats : ℕ) (store : List ℕ) (a : Taken × List ℕ)
    (r : Runs (flat_turn rule src) flat_out (length src - p) (flat p place wanted repeats store) a) where
  pub flat_done : wanted ≤ 0 → (Ok p, store) ≡ a
  unfolding flat_turn
  flat_done h = runs_halt r (simp (le-ltb 0 wanted h))

  module _ (h : 0 < wanted) where
    pub flat_missing : length src < p + 4 → (Err BytesEnd, rule.missing src (flat p place wanted repeats store)) ≡ a
    unfolding flat_turn
    flat_missing l = runs_halt r (simp (lt-ltb 0 wanted h, lt-ltb (length src) (p + 4) l))

    pub flat_ordinary : (x : Flat) → p + 4 ≤ length src → is_repeat src p ≡ false → x ≡ ordinary (stored src (flat p place wanted repeats store))
        → Runs (flat_turn rule src) flat_out (length src - (p + 4)) x a
    unfolding flat_turn
    flat_ordinary x l e ex = rw ex (runs_more r (simp (lt-ltb 0 wanted h, le-ltb (length src) (p + 4) l, e)) (omega arith))

-- a turn, case by case
pub flat_cases : (rule : FlatRule) (src : List ℕ) (x : Flat) (L : Turn Flat (Taken × List ℕ) → Type 0)
    → (0 < x.wanted → x.at + 4 ≤ length src → is_repeat src x.at ≡ true → L (rule.ones src x))
    → (0 < x.wanted → x.at + 4 ≤ length src → is_repeat src x.at ≡ false → L (more (ordinary (stored src x))))
    → (0 < x.wanted → L (halt (Err BytesEnd, rule.missing src x)))
    → (x.wanted ≤ 0 → L (halt (Ok x.at, x.store))) → L (flat_turn rule src x)
unfolding flat_turn
flat_cases rule src x L ones pixel missing done =
    by_test L (ltb 0 x.wanted)
    (λ t. let h = ltb-true 0 x.wanted t in
    by_test L (ltb (length src) (x.at + 4)) (λ u. missing h)
    (λ u. let l = ltb-false (length src) (x.at + 4) u in
    by_test L (is_repeat src x.at) (ones h l) (pixel h l)))
    (λ t. done (ltb-false 0 x.wanted t))

-- ---- What a rule may promise: where 1,1,1,n goes on, bytes were taken

abbrev pub OnesOnward : FlatRule → Type 0
OnesOnward rule = (src : List ℕ) (x : Flat) → x.at + 4 ≤ length src → Falls (λ (y : Flat). length src - y.at) x (rule.ones src x)

pub crate_onward : OnesOnward crate_flat
unfolding crate_flat
crate_onward src x h = tt

pub document_onward : OnesOnward document_flat
unfolding document_flat document_ones
document_onward src x h = by_test F (ltb x.place 4) (λ t. tt) (λ t. by_test F (ltb x.wanted (times_of src x)) (λ u. tt) (λ u. omega arith))
  where
    F : Turn Flat (Taken × List ℕ) → Type 0
    F = Falls (λ (y : Flat). length src - y.at) x

pub reading_onward : (reading : Reading) → OnesOnward (flat_rule reading)
reading_onward Crate = crate_onward
reading_onward Document = document_onward

-- each turn that goes on takes four bytes
pub flat_falls : (rule : FlatRule) → OnesOnward rule → (src : List ℕ) (x : Flat) → Falls (λ (y : Flat). length src - y.at) x (flat_turn rule src x)
flat_falls rule on src x =
    flat_cases rule src x (Falls (λ (y : Flat). length src - y.at) x) (λ h l e. on src x l) (λ h l e. omega arith) (λ h. tt) (λ h. tt)

-- so the turns never run out
pub flat_never_out : (rule : FlatRule) → OnesOnward rule → (src : List ℕ) (at : ℕ) (store : List ℕ) (start wanted : ℕ) (out : Flat → Taken × List ℕ)
    → flat_of rule src at store start wanted ≡ run (flat_turn rule src) out (length src + 1) (flat at start wanted 0 store)
unfolding flat_of
flat_never_out rule on src at store start wanted out = never_out (flat_turn rule src) flat_out out (λ x. length src - x.at) (flat_falls rule on src) _ _ (omega arith)

-- ---- A part that is done, by the crate reading

-- of n pixels from byte p on none starts 1, 1, 1
abbrev pub NoRepeat : List ℕ → ℕ → ℕ → Type 0
NoRepeat px p n = (i : ℕ) → i < n → is_repeat px (p + 4 * i) ≡ false

-- an answer that is no fault: four bytes for each pixel are taken, all of them there, and none of the pixels starts 1, 1, 1
pub record Plain (src : List ℕ) (at wanted : ℕ) (a : Taken × List ℕ) : Type 0 where
  pub upto : (next : ℕ) → a.0 ≡ Ok next → (next ≡ at + 4 * wanted) × (0 < wanted → next ≤ length src) × NoRepeat src at wanted

plain_fault : {src : List ℕ} {at wanted : ℕ} {reason : Reason} {s : List ℕ} → Plain src at wanted (Err reason, s)
plain_fault {reason = reason} = record { upto = λ next e. never_both next reason (sym e) }

pub crate_plain : (src : List ℕ) (at : ℕ) (store : List ℕ) (start wanted : ℕ) → Plain src at wanted (flat_of crate_flat src at store start wanted)
unfolding flat_of crate_flat
crate_plain src at store start wanted =
    run_keeps (flat_turn crate_flat src) flat_out P (Plain src at wanted) step (λ x p. plain_fault) _ _ (omega arith, omega arith, λ h. absurd (omega arith), λ i h. absurd (omega arith))
  where
    P : Flat → Type 0
    P x = (x.wanted ≤ wanted) × (x.at ≡ at + 4 * (wanted - x.wanted)) × (0 < wanted - x.wanted → x.at ≤ length src) × NoRepeat src at (wanted - x.wanted)

    step : (x : Flat) → P x → Leads P (Plain src at wanted) (flat_turn crate_flat src x)
    step x p =
        flat_cases crate_flat src x (Leads P (Plain src at wanted))
        (λ h l e. plain_fault)
        (λ h l e. (
          omega (arith, p.0),
          omega (arith, p.0, p.1),
          λ k. l,
          λ i k. by_order i (wanted - x.wanted) (p.3 i)
              (λ m. let here : at + 4 * i ≡ x.at = omega (arith, p.0, p.1) in ap (is_repeat src) here ∙ e),
        ))
        (λ h. plain_fault)
        (λ h. record {
          upto = λ next e. let f : x.at ≡ next = cc in
              let all : wanted - x.wanted ≡ wanted = omega arith in
              (omega (arith, p.1), λ k. omega (arith, p.2 (omega arith)), subst (NoRepeat src at) all p.3);
        })
