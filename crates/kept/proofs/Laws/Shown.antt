-- The inputs and pixels that DIFFERENCES shows are answered so: the checker computes each.
use mathlib.Core.Path.{refl}
use lib.Ieee.{round, size}
use Rattle.steps.specs.Loop.{run}
use Rattle.steps.specs.Place.{bytes_from, spread}
use Rattle.pixel.specs.Units.{of_units, mag}
use Rattle.pixel.specs.Rgbe.{crate_shift, scale_of, units_of, peak, too_bright, bytes_of, packed_of}
use Rattle.words.specs.Lines.{up_to, past, same, is_first, line_turn, lines_end}
use Rattle.words.specs.Fields.{is_blank, trim_start, trim_end, fields_at}
use Rattle.words.specs.Axes.{axis_of, axes_of}
use Rattle.words.specs.Sizes.{unsigned, is_digit, all_digits, value_from, is_number, is_size, size_of}
use Rattle.stated.specs.Rounded.{nearest_whole, nearest_units, usable}
use Rattle.stated.specs.Exposure.{ahead, is_few, power_by, power_of, scaled_units, digit_units, point_units, exposure_of}
use Rattle.stated.specs.Said.{starts, formatted, exposed, heard, said_turn, said_of}
use Rattle.header.specs.Head.{said_in, fields_of, head_checks, head_of}
use Rattle.flat_read.specs.Flat.{four_to, is_repeat, copies_to, crate_flat, document_ones, document_flat, flat_turn, flat_of}
use Rattle.channels_read.specs.Channel.{is_run, span_length, span_bytes, span_taken, span_of, crate_count, document_count, channel_turn, channel_of}
use Rattle.channels_read.specs.Channels.{chans_turn, channels_of}
use Rattle.steps.specs.Width.{is_coded}
use Rattle.rows_read.specs.Row.{is_flat_width, is_mark, kind_of, early, row_by, crate_start, document_start, document_mark, parts_of, row_of}
use Rattle.reader.specs.Samples.{placed}
use Rattle.reader.specs.Frame.{step_of, row_turn, rows_of}
use Rattle.reader.specs.Read.{pixel_by, read_by}
use Rattle.kept.specs.Skies.{Each}
use Rattle.kept.specs.Shown.{unlit, shown}

pub all_shown : Each shown
unfolding round size run bytes_from spread of_units mag crate_shift scale_of units_of peak too_bright bytes_of packed_of up_to past same is_first line_turn lines_end said_of said_turn heard starts formatted exposed exposure_of ahead is_few power_by power_of scaled_units digit_units point_units nearest_whole nearest_units usable said_in is_blank trim_start trim_end fields_at axis_of axes_of unsigned is_digit all_digits value_from is_number is_size size_of fields_of head_checks head_of four_to is_repeat copies_to crate_flat document_ones document_flat flat_turn flat_of is_run span_length span_bytes span_taken span_of crate_count document_count channel_turn channel_of chans_turn channels_of is_flat_width is_coded is_mark kind_of early row_by crate_start document_start document_mark parts_of row_of unlit placed step_of row_turn rows_of pixel_by read_by
all_shown = (refl, (refl, (refl, (refl, (refl, (refl, (refl, (refl, (refl, (refl, (refl, (refl, (refl, (refl, (refl, (refl, (refl, (refl, (refl, (refl, (refl, (refl, (refl, (refl, (refl, tt)))))))))))))))))))))))))
