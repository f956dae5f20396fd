-- A count of 0 in a coded row: the document reading passes over it ("0 does nothing"), and the document has no such count.
use Rattle.std.specs.Prelude.{true, List, ◌≡◌, ℕ, ◌+◌, ◌<◌, length, get_or, drop}
use Rattle.steps.specs.Loop.{Turns}
use Rattle.steps.specs.Width.{is_coded}
use Rattle.channels_read.specs.Channel.{Chan, chan, document_count, channel_turn}
use Rattle.channels_read.specs.Channels.{chans, chans_turn}
use Rattle.kept.specs.Radiance.{is_new}

-- at x the channel still wants bytes, and its next count is 0
pub record ZeroAt (src : List ℕ) (width : ℕ) (x : Chan) : Type 0 where
  pub wants : x.done < width
  pub there : x.at < length src
  pub zero : get_or src x.at 0 ≡ 0

-- A coded row with such a count: its channel, where that channel starts and with which store, as the channels before it left them, and how many of
-- its counts stand before that one.
pub record ZeroRow (src : List ℕ) (at : ℕ) (store : List ℕ) (width : ℕ) : Type 0 where
  pub coded : is_coded width ≡ true
  pub new : is_new (drop at src) ≡ true
  pub channel : ℕ
  pub place : ℕ
  pub before : List ℕ
  pub inside : channel < 4
  pub reached : Turns (chans_turn document_count src width) channel (chans (at + 4) 0 store) (chans place channel before)
  pub counts : ℕ
  pub here : Chan
  pub after : Turns (channel_turn document_count src channel width) counts (chan place 0 before) here
  pub count : ZeroAt src width here
