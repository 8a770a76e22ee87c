-- The lines of a draft and of a closed table.
use Rattle.mtl.specs.Lines.{Rules}
use Rattle.mtl.specs.declared.draft.Draft.{Draft}
use Rattle.mtl.specs.declared.table.Table.{Table}

abbrev pub entered : Draft → Rules
entered d = d.lines.items

abbrev pub lines_of : Table → Rules
lines_of t = t.lines.items
