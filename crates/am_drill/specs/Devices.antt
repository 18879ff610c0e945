-- The generated device.
use Rattle.std.specs.Prelude.{ℕ, ◌+◌, ◌*◌, pos, ◌-ℤ◌, false, codes, decimal, List, [], ◌∷◌, ◌++◌, map, None}
use Rattle.std.specs.List.{range_with_len}
use Rattle.am_types.specs.declared.device.Device.{Device}
use Rattle.am_types.specs.declared.device.Package.{Package}
use Rattle.am_types.specs.declared.device.Rules.TheVariants.{Profile}
use Rattle.am_types.specs.declared.filter.Filter.{Filter}
use Rattle.am_types.specs.declared.manifest.Decl.{Decl}
use Rattle.am_types.specs.declared.manifest.Kind.{Kind}
use Rattle.am_types.specs.declared.manifest.Kind.TheVariants.{Activity, Receiver}
use Rattle.am_model.specs.Filters.{default_category}
use Rattle.am_model.specs.Plain.{filter_for, open_decl}
use Rattle.am_drill.specs.Draws.{after, draw}

-- an action that activities list
abbrev pub activity_action : ℕ → List ℕ
activity_action n = codes "a." ++ decimal n

-- an action that is broadcast
abbrev pub broadcast_action : ℕ → List ℕ
broadcast_action n = codes "b." ++ decimal n

-- the name of a package, and the key of its calls
abbrev pub name_of : ℕ → List ℕ
name_of i = codes "p." ++ decimal i

abbrev pub key_of : ℕ → List ℕ
key_of i = codes "k" ++ decimal i

-- an exported component of a package, with one filter
abbrev pub exported : Kind → List ℕ → List ℕ → Filter → Decl
exported kind name class filter = record (open_decl kind class (filter ∷ [])) { affinity = name }

-- the activity of a package, of two draws: its action and its priority, which is from -4 to 0
unfoldable pub activity_of : ℕ → ℕ → Decl
activity_of i state =
    exported Activity (name_of i) (name_of i ++ codes ".A")
    (filter_for (activity_action (draw 0 8 state)) (default_category ∷ []) (pos 0 -ℤ pos (draw 1 5 state)))

-- the receiver of a package, of two draws: its action and its priority, which is from 0 to 4
unfoldable pub receiver_of : ℕ → ℕ → Decl
receiver_of i state =
    exported Receiver (name_of i) (name_of i ++ codes ".R")
    (filter_for (broadcast_action (draw 0 4 state)) [] (pos (draw 1 5 state)))

-- package number i, of four draws
abbrev pub package_of : ℕ → ℕ → Package
package_of i state = record {
  uid = 10000 + i;
  name = name_of i;
  key = key_of i;
  stopped = false;
  decls = activity_of i state ∷ receiver_of i (after 2 state) ∷ [];
}

-- so many packages, each with the four draws that follow those of the packages before it
abbrev pub packages_of : ℕ → ℕ → List Package
packages_of packages state = map (λ i. package_of i (after (4 * i) state)) (range_with_len 0 packages)

-- the device of so many packages
unfoldable pub device_of : ℕ → ℕ → Device
device_of packages state = record {
  rules = Profile;
  system_key = codes "sys";
  root_key = None;
  browser = None;
  «protected» = [];
  exempt = codes "b.0" ∷ codes "b.1" ∷ codes "b.2" ∷ codes "b.3" ∷ [];
  packages = packages_of packages state;
  grants = [];
  links = [];
}
