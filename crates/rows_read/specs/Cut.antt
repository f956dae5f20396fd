-- The cut that the crate reading does not refuse: bytes that end inside what the last count of a coded row asks for.
use Rattle.std.specs.Prelude.{ℕ, ◌+◌, ◌-◌, ◌<◌, ◌≤◌, false, List, ◌++◌, ◌≡◌, length, get_or, drop, replicate}
use Rattle.steps.specs.Loop.{Turns}
use Rattle.std.specs.Prelude.{Ok}
use Rattle.channels_read.specs.Channel.{Chan, chan, crate_count, span_length, span_taken, channel_turn, channel_of}
use Rattle.rows_read.specs.declared.kind.Kind.TheVariants.{Channels}
use Rattle.rows_read.specs.Row.{is_flat_width, kind_of, crate_start}

-- after n counts of a channel, from x on, the channel is at y
abbrev pub After : List ℕ → ℕ → ℕ → ℕ → Chan → Chan → Type 0
After src channel width = Turns (channel_turn crate_count src channel width)

-- At x stands a count that asks for all that the channel still wants, and the input ends before more than that: of a run the byte is missing;
-- of literals any number may be missing, all or none of them too.
pub record CutAt (src : List ℕ) (width : ℕ) (x : Chan) : Type 0 where
  pub wants : x.done < width
  pub there : x.at < length src
  pub last : width ≤ x.done + span_length (get_or src x.at 0)
  pub run : 128 < get_or src x.at 0 → length src ≡ x.at + 1
  pub literals : get_or src x.at 0 ≤ 128 → length src ≤ x.at + 1 + (width - x.done)

-- of the bytes that the count asks for one at least is missing
abbrev pub Short : List ℕ → ℕ → Chan → Type 0
Short src width x = length src < x.at + 1 + span_taken (get_or src x.at 0) (width - x.done)

-- how many bytes stand behind that count
abbrev pub behind : List ℕ → Chan → ℕ
behind src x = length src - (x.at + 1)

-- what the rest of the channel is read as: the bytes behind the count, and 0 for each that is missing
abbrev pub filled : List ℕ → ℕ → Chan → List ℕ
filled src width x = drop (x.at + 1) src ++ replicate (width - x.done - behind src x) 0

-- a coded row whose fourth channel, that of the exponents, is cut so; the three before it are done
pub record CutRow (src : List ℕ) (at : ℕ) (store : List ℕ) (width : ℕ) : Type 0 where
  pub coded : is_flat_width width ≡ false
  pub mark : kind_of src at ≡ Channels (at + 4)
  pub green : ℕ
  pub blue : ℕ
  pub exponent : ℕ
  pub reds : List ℕ
  pub greens : List ℕ
  pub blues : List ℕ
  pub first : channel_of crate_count src (at + 4) (crate_start src at store) 0 width ≡ (Ok green, reds)
  pub second : channel_of crate_count src green reds 1 width ≡ (Ok blue, greens)
  pub third : channel_of crate_count src blue greens 2 width ≡ (Ok exponent, blues)
  pub counts : ℕ
  pub end : Chan
  pub after : After src 3 width counts (chan exponent 0 blues) end
  pub cut : CutAt src width end
