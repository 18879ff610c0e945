-- What the parts of a row hold that were read from cells.
use Rattle.am_rows.specs.declared.Numbers.{Numbers as Held}
use Rattle.am_rows.specs.declared.Texts.{Texts as Lent}
use Rattle.am_rows.specs.Cells.{Numbers, Texts}

-- the numbers that were read
abbrev pub numbers_of : Held → Numbers
numbers_of n = record { kind = n.kind; uid = n.uid; truth = n.truth }

-- the texts that are lent
abbrev pub texts_of : Lent → Texts
texts_of t = record { word = t.word.now; name = t.name.now; access = t.access.now; manifest = t.manifest.now }
