-- The sample skies marked P hold of the definitions: the checker computes each.
use mathlib.Core.Path.{refl}
use lib.Ieee.{round, size}
use Rattle.steps.specs.Loop.{run}
use Rattle.steps.specs.Place.{bytes_from, spread}
use Rattle.pixel.specs.Units.{of_units, mag}
use Rattle.pixel.specs.Rgbe.{crate_shift, scale_of, units_of, peak, too_bright, bytes_of, packed_of}
use Rattle.words.specs.Lines.{up_to, past, same, is_first, line_turn, lines_end}
use Rattle.words.specs.Fields.{is_blank, trim_start, trim_end, fields_at}
use Rattle.words.specs.Axes.{axis_of, axes_of}
use Rattle.words.specs.Sizes.{unsigned, is_digit, all_digits, value_from, is_number, is_size, size_of}
use Rattle.stated.specs.Said.{said_turn, said_of}
use Rattle.header.specs.Head.{said_in, fields_of, head_checks, head_of}
use Rattle.flat_read.specs.Flat.{four_to, is_repeat, copies_to, crate_flat, document_ones, document_flat, flat_turn, flat_of}
use Rattle.steps.specs.Width.{is_coded}
use Rattle.rows_read.specs.Row.{is_flat_width, row_by, parts_of, row_of}
use Rattle.channels_written.specs.Channel.{grow, cut, stretch, gather, code}
use Rattle.reader.specs.Samples.{placed}
use Rattle.reader.specs.Frame.{step_of, row_turn, rows_of}
use Rattle.reader.specs.Read.{pixel_by, read_by}
use Rattle.kept.specs.Skies.{skies, Each}

pub all_skies : Each skies
unfolding round size run bytes_from spread of_units mag crate_shift scale_of units_of peak too_bright bytes_of packed_of up_to past same is_first line_turn lines_end said_of said_turn said_in is_blank trim_start trim_end fields_at axis_of axes_of unsigned is_digit all_digits value_from is_number is_size size_of fields_of head_checks head_of four_to is_repeat copies_to crate_flat document_ones document_flat flat_turn flat_of is_flat_width is_coded row_by parts_of row_of grow cut stretch gather code placed step_of row_turn rows_of pixel_by read_by
all_skies = (refl, (refl, (refl, (refl, (refl, (refl, (refl, (refl, (refl, (refl, (refl, (refl, (refl, (refl, (refl, (refl, (refl, (refl, (refl, (refl, tt))))))))))))))))))))
