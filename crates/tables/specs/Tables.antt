-- What a cell's tables draw.
use Rattle.tables.specs.Drawing.{Drawing, drawn}
use Rattle.tables.specs.declared.tables.Tables.{Tables}

abbrev pub drawing : Tables → Drawing
drawing t = drawn t.sends t.states t.rows t.flat_rows t.marks t.transitions
