-- Counts with their bytes are read by any rule that takes a count whole where it fits, whatever follows them, and just they are taken; a coded channel is read back.
use mathlib.Core.Path.{◌≡◌, refl, sym, ap, ◌∙◌, subst}
use mathlib.Core.List.{List, [], ◌∷◌, ◌++◌, append_assoc}
use Prim.Native.Nat.{ℕ, ◌+◌, ◌-◌, ◌*◌, ◌≤◌, min}
use native.Mathlib.Omega.{arith}
use native.Mathlib.Nat.{add-zero}
use lib.ListN.{length, drop, replicate, length-append, length-replicate, length-drop}
use Rattle.steps.specs.Place.{bytes_from, spread}
use Rattle.steps.proofs.Laws.Loop.{Runs, runs_halt}
use Rattle.steps.specs.Answer.{Taken}
use Rattle.std.specs.Prelude.{Ok}
use Rattle.channels_read.specs.Channel.{chan, CountRule, channel_of, channel_out, channel_turn}
use Rattle.channels_read.proofs.Laws.Channel.{TakesWhole, length_run, length_literals, taken_run, taken_literals, span_run, span_literals, span_again, turn_done, channel_starts}
use Rattle.channels_written.specs.Channel.{packet, code}
use Rattle.back.proofs.Laws.Coded.{code_by}
use Rattle.steps.proofs.Laws.Place.{spread_append, drop_next, drop_past, bytes_there}

-- the reader is at a place of src, has `done` bytes of the channel, and goes on to the answer a
abbrev pub Reached : CountRule → List ℕ → ℕ → ℕ → Taken × List ℕ → ℕ → ℕ → List ℕ → Type 0
Reached rule src k w a at done store = Runs (channel_turn rule src k w) channel_out (length src - at) (chan at done store) a

module _ (rule : CountRule) (src : List ℕ) (k w : ℕ) (a : Taken × List ℕ) where
  move : {at at' done done' : ℕ} {store store' : List ℕ} → at ≡ at' → done ≡ done' → store ≡ store' → Reached rule src k w a at done store → Reached rule src k w a at' done' store'
  move {at} {at'} {done} {done'} {store} {store'} e f g r =
      subst (λ (i : ℕ). Reached rule src k w a i done' store') e (subst (λ (i : ℕ). Reached rule src k w a at i store') f (subst (Reached rule src k w a at done) g r))

  -- where the bytes p stand, the reader takes just them, and puts xs into the channel
  abbrev pub Reads : List ℕ → List ℕ → Type 0
  Reads p xs =
      (rest : List ℕ) (at done : ℕ) (store : List ℕ) → drop at src ≡ p ++ rest → done + length xs ≤ w → Reached rule src k w a at done store
      → Reached rule src k w a (at + length p) (done + length xs) (spread 4 store (k + 4 * done) xs)

  pub reads_none : Reads [] []
  unfolding spread
  reads_none rest at done store e h r = move (sym (add-zero at)) (sym (add-zero done)) refl r

  pub reads_both : (p q xs ys : List ℕ) → Reads p xs → Reads q ys → Reads (p ++ q) (xs ++ ys)
  reads_both p q xs ys P Q rest at done store e h r =
      let front : drop at src ≡ p ++ (q ++ rest) = e ∙ append_assoc p q rest in
      let sizes = length-append xs ys in
      let half = P (q ++ rest) at done store front (omega arith) r in
      let whole = Q rest (at + length p) (done + length xs) _ (drop_past src at p (q ++ rest) front) (omega arith) half in
      let place : k + 4 * (done + length xs) ≡ k + 4 * done + 4 * length xs = omega arith in
      move {at = at + length p + length q} {at' = at + length (p ++ q)} {done = done + length xs + length ys} {done' = done + length (xs ++ ys)} (omega (arith, length-append p q)) (omega arith)
      (ap (λ (i : ℕ). spread 4 (spread 4 store (k + 4 * done) xs) i ys) place ∙ sym (spread_append 4 store (k + 4 * done) xs ys))
      whole

  -- a run, and literals, by a rule that takes them whole
  module _ (whole : TakesWhole rule) where
    pub reads_run : (v n : ℕ) → 1 ≤ n → Reads (packet v n) (replicate n v)
    reads_run v n h rest at done store e l r =
        let size = length-replicate n v in
        let count = drop_next src at (128 + n) (v ∷ rest) e in
        let byte = drop_next src (at + 1) v rest count.2 in
        let next : at + 2 ≡ min (at + 1 + 1) (length src) = omega arith in
        let m : 128 + n - 128 ≡ n = omega arith in
        move refl (ap (λ (i : ℕ). done + i) (sym size)) refl
        (span_again src k at done store (at + 2) (done + n) (spread 4 store (k + 4 * done) (replicate n v)) (128 + n) n rule w a r (omega arith) count.0 (sym count.1)
        (whole src at done w (128 + n) n (sym count.1) (sym m ∙ length_run (128 + n) (omega arith)) (omega arith) (omega (arith, taken_run (128 + n) n (omega arith), byte.0)))
        (span_run src store _ k at done (128 + n) n v (at + 2) (omega arith) (sym byte.1) refl next))

    pub reads_packet : (c : ℕ) (p : List ℕ) → c ≡ length p → 1 ≤ c → c ≤ 128 → Reads (c ∷ p) p
    reads_packet c p s h b rest at done store e l r =
        let count = drop_next src at c (p ++ rest) e in
        let room = ap length count.2 in
        let sizes = length-append p rest in
        let left = length-drop (at + 1) src in
        let next : at + length (c ∷ p) ≡ min (at + 1 + c) (length src) = omega arith in
        let there : bytes_from src (at + 1) c ≡ p = ap (bytes_from src (at + 1)) s ∙ bytes_there src (at + 1) p rest count.2 in
        move refl (ap (λ (i : ℕ). done + i) s) refl
        (span_again src k at done store (at + length (c ∷ p)) (done + c) (spread 4 store (k + 4 * done) p) c c rule w a r (omega arith) count.0 (sym count.1)
        (whole src at done w c c (sym count.1) (length_literals c b) (omega arith) (omega (arith, taken_literals c c b)))
        (span_literals src store _ k at done c c (at + length (c ∷ p)) b (ap (spread 4 store (k + 4 * done)) (sym there)) next))

-- where the bytes c stand, a channel of w bytes is read as xs, and just c is taken
abbrev pub ReadAs : CountRule → ℕ → List ℕ → List ℕ → Type 0
ReadAs rule w c xs =
    (src : List ℕ) (at : ℕ) (store : List ℕ) (k : ℕ) (rest : List ℕ) → drop at src ≡ c ++ rest → channel_of rule src at store k w ≡ (Ok (at + length c), spread 4 store k xs)

-- counts that add up to the channel's length
pub read_as : (rule : CountRule) (w : ℕ) (c xs : List ℕ) → length xs ≡ w → ((src : List ℕ) (k : ℕ) (a : Taken × List ℕ) → Reads rule src k w a c xs) → ReadAs rule w c xs
read_as rule w c xs s reads src at store k rest e =
    let ends = reads src k (channel_of rule src at store k w) rest at 0 store e (omega arith) (channel_starts rule src at store k w) in
    let done : w ≤ 0 + length xs = omega arith in
    sym (runs_halt ends (turn_done rule src k w (chan (at + length c) (0 + length xs) (spread 4 store (k + 4 * 0) xs)) done))
    ∙ ap (λ (i : ℕ). (Ok (at + length c), spread 4 store i xs)) (omega arith)

-- a coded channel is read as its bytes
pub code_read : (rule : CountRule) → TakesWhole rule → (w : ℕ) (xs : List ℕ) → length xs ≡ w → ReadAs rule w (code xs) xs
code_read rule whole w xs s =
    read_as rule w (code xs) xs s
    (λ src k a. code_by (Reads rule src k w a) (reads_none rule src k w a) (reads_both rule src k w a) (reads_run rule src k w a whole) (reads_packet rule src k w a whole) xs)
