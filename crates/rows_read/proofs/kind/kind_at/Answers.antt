-- `rows_read::kind::kind_at` meets its contract: each `return` is a case of `kind_of`.
use Rattle.rows_read.proofs.Laws.Row.{kind_none, kind_flat, kind_short, kind_channels, kind_pixel}
use Rattle.rows_read.proofs.kind.kind_at.Goals as goal

pub returns-then-src-at : goal.returns-then-src-at
returns-then-src-at c = search kind_none

pub returns-then-src-at-ne2 : goal.returns-then-src-at-ne2
returns-then-src-at-ne2 c = search kind_flat

pub returns-then-src-at-lt4 : goal.returns-then-src-at-lt4
returns-then-src-at-lt4 c = search kind_short

pub returns-then-is_mark : goal.returns-then-is_mark
returns-then-is_mark c = kind_channels _ _ c.if-src-at-ne2.false c.if-src-at-lt4.false _ c.is_mark.ensures c.if-is_mark.true

pub returns : goal.returns
returns c = kind_pixel _ _ c.if-src-at-ne2.false c.if-src-at-lt4.false _ c.is_mark.ensures c.if-is_mark.false
