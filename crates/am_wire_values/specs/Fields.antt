-- Members of an object, of which some may be absent.
use Rattle.std.specs.Prelude.{ℕ, ℤ, unsigned_abs, ◌==◌, Bool, true, List, [], ◌∷◌, map, Option, Some, None, if◌then◌else◌}
use Rattle.serde_json.specs.Data.{Data, null, boolean, number, unsigned, string, array, Members, put}
use Rattle.serde_json.specs.Find.{of_integer}
use Rattle.serde_json.specs.View.{items_of}

-- the members with a value under the name, if there is one
abbrev pub put_given : List ℕ → Option Data → Members → Members
put_given name None members = members
put_given name (Some value) members = put name value members

-- the value, or `null`
abbrev pub or_null : Option Data → Data
or_null None = null
or_null (Some value) = value

-- a number from 0 on
abbrev pub natural : ℕ → Data
natural n = number (unsigned n)

-- a number that may be negative
abbrev pub whole : ℤ → Data
whole n = number (of_integer n)

-- a number that may be negative, unless it is 0
abbrev pub some_whole : ℤ → Option Data
some_whole n = if unsigned_abs n == 0 then None else Some (whole n)

-- values as an array
abbrev pub listed : List Data → Data
listed values = array (items_of values)

-- values as an array, unless there are none
abbrev pub some_listed : List Data → Option Data
some_listed [] = None
some_listed (first ∷ others) = Some (listed (first ∷ others))

-- texts as an array
abbrev pub texts_data : List (List ℕ) → Data
texts_data texts = listed (map string texts)

-- texts as an array, unless there are none
abbrev pub some_texts : List (List ℕ) → Option Data
some_texts texts = some_listed (map string texts)

-- a boolean, unless it is false
abbrev pub some_truth : Bool → Option Data
some_truth truth = if truth then Some (boolean true) else None
