-- The four channels of a row, one after another (RULES 4.5), over a rule for their counts.
use Rattle.std.specs.Prelude.{ℕ, ◌+◌, List, ltb}
use Rattle.steps.specs.Loop.{pick, Turn, more, halt, run}
use Rattle.steps.specs.Answer.{Taken}
use Rattle.std.specs.Prelude.{Ok, Err}
use Rattle.steps.specs.declared.refusal.Reason.TheVariants.{BytesEnd}
use Rattle.channels_read.specs.Channel.{CountRule, channel_of}

-- how far the channels are: the next place in the input, the next channel, and the row store
pub record Chans : Type 0 where
  pub at : ℕ
  pub channel : ℕ
  pub store : List ℕ

-- that record, from its three fields
abbrev pub chans : ℕ → ℕ → List ℕ → Chans
chans at channel store = record { at = at; channel = channel; store = store }

-- after a channel comes the next, or the row is at fault
abbrev pub after_channel : ℕ → Taken → List ℕ → Turn Chans (Taken × List ℕ)
after_channel channel (Ok next) store = more (chans next (channel + 1) store)
after_channel channel (Err reason) store = halt (Err reason, store)

-- one more channel, until four are read
unfoldable pub chans_turn : CountRule → List ℕ → ℕ → Chans → Turn Chans (Taken × List ℕ)
chans_turn rule src width x =
    let read = channel_of rule src x.at x.store x.channel width in
    pick (ltb x.channel 4) (after_channel x.channel read.0 read.1) (halt (Ok x.at, x.store))

-- where the turns are used up, which never happens
abbrev pub chans_out : Chans → Taken × List ℕ
chans_out x = (Err BytesEnd, x.store)

-- the four channels, from a place of the input on; five turns are enough
unfoldable pub channels_of : CountRule → List ℕ → ℕ → List ℕ → ℕ → Taken × List ℕ
channels_of rule src at store width = run (chans_turn rule src width) chans_out 5 (chans at 0 store)
