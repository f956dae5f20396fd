-- `rows_read::start::put_crate` meets its contract: each arm is a case of `proved`.
use native.Mathlib.Omega.{arith}
use lib.ListN.{length-set}
use Rattle.rows_read.proofs.Laws.Row.{some_before, one_before, first_there, last_there, start_missing, start_flat, start_pixel, start_channels}
use Rattle.rows_read.proofs.start.put_crate.Goals as goal

pub overflow_sub-store : goal.overflow_sub-store
overflow_sub-store c = search some_before

pub bounds-src-next : goal.bounds-src-next
bounds-src-next c = search first_there

pub overflow_sub-store-in-Pixel : goal.overflow_sub-store-in-Pixel
overflow_sub-store-in-Pixel c = search one_before

pub bounds-src-next-in-Pixel : goal.bounds-src-next-in-Pixel
bounds-src-next-in-Pixel c = search last_there

pub bounds-store-3 : goal.bounds-store-3
bounds-store-3 c = simp length-set (omega arith)

pub returns-in-Pixel : goal.returns-in-Pixel
returns-in-Pixel c = search start_pixel

pub returns-in-Missing : goal.returns-in-Missing
returns-in-Missing c = search start_missing

pub returns-in-Flat : goal.returns-in-Flat
returns-in-Flat c = search start_flat

pub returns-in-Channels : goal.returns-in-Channels
returns-in-Channels c = search start_channels
