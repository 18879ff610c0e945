-- The code's collections of rights, as the lists that they represent.
use Rattle.std.specs.Prelude.{ℕ, List, map, Option, String, Vec, string_bytes}
use Rattle.std.specs.BTreeMap.{BTreeMap, get_by}
use Rattle.std.specs.BTreeSet.{BTreeSet}
use Rattle.std.specs.Cmp.Lexicographic.{slice_cmp}
use Rattle.std.specs.Ordering.{nat_cmp}
use Rattle.std.specs.declared.alloc.Global.{Global}

-- the texts of each set
abbrev pub texts_in : Vec (BTreeSet (List ℕ)) Global → List (List (List ℕ))
texts_in held = map (λ texts. texts.keys) held.items

-- the place listed under a name
abbrev pub place_in : BTreeMap (String Global) ℕ → List ℕ → Option ℕ
place_in places name = get_by (λ key. slice_cmp nat_cmp name (string_bytes key)) places
