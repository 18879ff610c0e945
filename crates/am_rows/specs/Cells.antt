-- The cells of a row in a table of the columns kind, uid, word, name, access, manifest and truth.
use Rattle.std.specs.Prelude.{◌≡◌, ℕ, ◌==◌, ◌&&◌, ℤ, pos, negsuc, Bool, true, false, nat_lt, if◌then◌else◌, List, [], ◌∷◌, length, Option, Some, None, Result, Ok, Err, option_and_then, slice_get, is_some, IsTrue}
use Rattle.am_keeper.specs.declared.rows.Row.{Row}
use Rattle.am_keeper.specs.declared.rows.Row.TheVariants.{Package, Grant, Link}
use Rattle.am_rows.specs.declared.Cell.{Cell}
use Rattle.am_rows.specs.declared.Cell.TheVariants.{Whole, Words}
use Rattle.am_rows.specs.declared.RowFault.{RowFault}
use Rattle.am_rows.specs.declared.RowFault.TheVariants.{Shape, NoMemory}

infixl 10 ◌>>=◌
abbrev pub ◌>>=◌ : {A B : Type 0} → Option A → (A → Option B) → Option B
o >>= f = option_and_then f o

-- a truth value as a number
abbrev pub truth_number : Bool → ℤ
truth_number true = pos 1
truth_number false = pos 0

-- the cells of a row whose one text is its word
abbrev pub word_cells : ℤ → ℕ → List ℕ → Bool → List Cell
word_cells kind uid word truth = Whole kind ∷ Whole (pos uid) ∷ Words word ∷ Words [] ∷ Words [] ∷ Words []
    ∷ Whole (truth_number truth) ∷ []

-- the cells of a row
abbrev pub cells_of : Row → List Cell
cells_of (Package row) = Whole (pos 0) ∷ Whole (pos row.uid) ∷ Words [] ∷ Words row.name ∷ Words row.key
    ∷ Words row.text ∷ Whole (truth_number row.gone) ∷ []
cells_of (Grant row) = word_cells (pos 1) row.uid row.permission row.held
cells_of (Link row) = word_cells (pos 2) row.uid row.host row.approved

-- the number in a cell
abbrev pub whole_in : Cell → Option ℤ
whole_in (Whole n) = Some n
whole_in (Words text) = None

-- the text in a cell
abbrev pub words_in : Cell → Option (List ℕ)
words_in (Whole n) = None
words_in (Words text) = Some text

-- the number in the cell at a place
abbrev pub whole_at : List Cell → ℕ → Option ℤ
whole_at cells at = slice_get cells at >>= whole_in

-- the text in the cell at a place
abbrev pub words_at : List Cell → ℕ → Option (List ℕ)
words_at cells at = slice_get cells at >>= words_in

-- a number from 0 to 4,294,967,295 as a uid
abbrev pub uid_from : ℤ → Option ℕ
uid_from (pos n) = if nat_lt n 4294967296 then Some n else None
uid_from (negsuc n) = None

-- 0 and 1 as truth values
abbrev pub truth_from : ℤ → Option Bool
truth_from (pos n) = if n == 0 then Some false else (if n == 1 then Some true else None)
truth_from (negsuc n) = None

-- the kind, the uid and the truth value of a row
pub record Numbers : Type 0 where
  pub kind : ℤ
  pub uid : ℕ
  pub truth : Bool

-- the four texts of a row
pub record Texts : Type 0 where
  pub word : List ℕ
  pub name : List ℕ
  pub access : List ℕ
  pub manifest : List ℕ

abbrev pub is_empty : List ℕ → Bool
is_empty [] = true
is_empty (x ∷ xs) = false

-- a package row: it has no word
abbrev pub package_from : ℕ → Bool → Texts → Option Row
package_from uid gone t = if is_empty t.word then Some (Package (record
    { uid = uid; name = t.name; key = t.access; text = t.manifest; gone = gone })) else None

-- a right has only a word
abbrev pub has_word_alone : Texts → Bool
has_word_alone t = is_empty t.name && (is_empty t.access && is_empty t.manifest)

-- a row, if it has only a word
abbrev pub if_alone : Texts → Row → Option Row
if_alone t row = if has_word_alone t then Some row else None

abbrev pub grant_from : ℕ → Bool → Texts → Option Row
grant_from uid held t = if_alone t (Grant (record { uid = uid; permission = t.word; held = held }))

abbrev pub link_from : ℕ → Bool → Texts → Option Row
link_from uid approved t = if_alone t (Link (record { uid = uid; host = t.word; approved = approved }))

-- kind 0 is a package, 1 a grant, 2 a link, and there is no other
abbrev pub row_from : ℤ → ℕ → Bool → Texts → Option Row
row_from (pos n) uid truth t = if n == 0 then package_from uid truth t else
    (if n == 1 then grant_from uid truth t else (if n == 2 then link_from uid truth t else None))
row_from (negsuc n) uid truth t = None

abbrev pub numbers_in : List Cell → Option Numbers
numbers_in cells = do
  kind ← whole_at cells 0
  uid ← whole_at cells 1 >>= uid_from
  truth ← whole_at cells 6 >>= truth_from
  Some (record { kind = kind; uid = uid; truth = truth })

abbrev pub texts_in : List Cell → Option Texts
texts_in cells = do
  word ← words_at cells 2
  name ← words_at cells 3
  access ← words_at cells 4
  manifest ← words_at cells 5
  Some (record { word = word; name = name; access = access; manifest = manifest })

-- the row that these cells describe, if they have the shape of one
abbrev pub row_in : List Cell → Option Row
row_in cells = if length cells == 7 then (numbers_in cells >>= (λ n. texts_in cells >>= row_from n.kind n.uid n.truth))
    else None

-- what is to be read is read, or memory ran out, and if there is nothing to be read the answer is `Shape`
abbrev pub IsReading : Option Row → Result Row RowFault → Type 0
IsReading wanted (Ok row) = wanted ≡ Some row
IsReading wanted (Err Shape) = wanted ≡ None
IsReading wanted (Err NoMemory) = IsTrue (is_some wanted)
