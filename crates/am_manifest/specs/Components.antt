-- The components that a package declares.
use Rattle.std.specs.Prelude.{ℕ, Bool, true, false, ◌==◌, codes, List, ◌++◌, if◌then◌else◌, Option, Some, None, option_and_then, Result, Ok, Err}
use Rattle.std.specs.List.{list_any}
use Rattle.std.specs.Option.{unwrap_or}
use Rattle.std.specs.Str.{bytes_eq}
use Rattle.toml.specs.Data.{Data, get, as_str}
use Rattle.am_types.specs.declared.manifest.Decl.{Decl}
use Rattle.am_types.specs.declared.manifest.Kind.{Kind}
use Rattle.am_types.specs.declared.manifest.Kind.TheVariants.{Activity, Service, Receiver}
use Rattle.am_types.specs.declared.manifest.Mode.{Mode}
use Rattle.am_types.specs.declared.manifest.Mode.TheVariants.{Standard, SingleTop, SingleTask, SingleInstance, SingleInstancePerTask}
use Rattle.am_types.specs.declared.manifest.ManifestFault.{ManifestFault}
use Rattle.am_types.specs.declared.manifest.ManifestFault.TheVariants.{WrongKind, ExportedUnstated}
use Rattle.am_manifest.specs.declared.components.Heading.{Heading}
use Rattle.am_manifest.specs.declared.components.Launch.{Launch}
use Rattle.am_manifest_filters.specs.declared.filters.Filters.{Filters}
use Rattle.am_uri.specs.declared.text.Form.TheVariants.{Any, Filled, Class}
use Rattle.am_types.specs.Reading.{◌>>=◌}
use Rattle.am_model.specs.Sound.{starts_with_dot}
use Rattle.am_manifest_filters.specs.Texts.{key_place}
use Rattle.am_manifest_filters.specs.Tables.{required_text, optional_text, optional_truth, optional_values, each, entry_table}
use Rattle.am_manifest_filters.specs.Filters.{filters_at}

-- some byte is a dot
abbrev pub has_dot : List ℕ → Bool
has_dot text = list_any (λ b. b == 46) text

-- the full class: a class that starts with a dot is in the package, and so is one without a dot
abbrev pub full_class : List ℕ → List ℕ → List ℕ
full_class «package» class =
    if starts_with_dot class then «package» ++ class
    else if has_dot class then class
    else «package» ++ codes "." ++ class

-- what a component's table has before its filters: its name, who may reach it, and whether it is enabled
unfoldable pub heading_of : List ℕ → List ℕ → Data → Result Heading ManifestFault
heading_of «package» at value = do
  class ← required_text Class at (codes "name") value
  exported ← optional_truth at (codes "exported") value
  enabled ← optional_truth at (codes "enabled") value
  Ok (record { class = full_class «package» class; exported = exported; enabled = unwrap_or enabled true })

-- only activities have a launch mode and an affinity of their own
abbrev pub is_activity : Kind → Bool
is_activity Activity = true
is_activity Service = false
is_activity Receiver = false

-- the launch mode with this name
abbrev pub mode_named : List ℕ → Option Mode
mode_named word =
    if bytes_eq word (codes "standard") then Some Standard
    else if bytes_eq word (codes "singleTop") then Some SingleTop
    else if bytes_eq word (codes "singleTask") then Some SingleTask
    else if bytes_eq word (codes "singleInstance") then Some SingleInstance
    else if bytes_eq word (codes "singleInstancePerTask") then Some SingleInstancePerTask
    else None

-- a launch mode; `None` is a value that isn't a text, or a word that isn't a mode
unfoldable pub mode_or : List ℕ → Option Mode → Result Mode ManifestFault
mode_or place None = Err (WrongKind place)
mode_or place (Some mode) = Ok mode

-- an optional launch mode
unfoldable pub mode_in : List ℕ → Option Data → Result Mode ManifestFault
mode_in place None = Ok Standard
mode_in place (Some value) = mode_or place (option_and_then mode_named (as_str value))

-- the launch mode of an activity
unfoldable pub mode_at : List ℕ → Data → Result Mode ManifestFault
mode_at at value = mode_in (key_place at (codes "launchMode")) (get (codes "launchMode") value)

-- how an activity is launched: its affinity is its package if none is given
unfoldable pub activity_launch : Option (List ℕ) → List ℕ → List ℕ → Data → Result Launch ManifestFault
activity_launch permission «package» at value = do
  mode ← mode_at at value
  affinity ← optional_text Any at (codes "taskAffinity") value
  Ok (record { permission = permission; mode = mode; affinity = unwrap_or affinity «package» })

-- how a component of any kind is launched
unfoldable pub launch_with : Kind → Option (List ℕ) → List ℕ → List ℕ → Data → Result Launch ManifestFault
launch_with kind permission «package» at value =
    if is_activity kind then activity_launch permission «package» at value
    else Ok (record { permission = permission; mode = Standard; affinity = «package» })

-- the permission that a component asks for, its launch mode and its affinity
unfoldable pub launch_of : Kind → List ℕ → List ℕ → Data → Result Launch ManifestFault
launch_of kind «package» at value = do
  permission ← optional_text Filled at (codes "permission") value
  launch_with kind permission «package» at value

-- whether others may reach a component: as given; if it isn't given, no if the component's table lists no filter
unfoldable pub exported_of : List ℕ → Bool → Option Bool → Result Bool ManifestFault
exported_of class written (Some exported) = Ok exported
exported_of class true None = Err (ExportedUnstated class)
exported_of class false None = Ok false

-- a component assembled from these parts
unfoldable pub declared : Kind → Heading → Launch → Filters → Result Decl ManifestFault
declared kind heading launch filters = do
  exported ← exported_of heading.class filters.written heading.exported
  Ok (record {
    kind = kind;
    class = heading.class;
    exported = exported;
    enabled = heading.enabled;
    permission =
        launch.permission;
    mode = launch.mode;
    affinity = launch.affinity;
    filters = filters.kept;
  })

-- a component
unfoldable pub component_of : Kind → List ℕ → List ℕ → Data → Result Decl ManifestFault
component_of kind «package» at value = do
  heading ← heading_of «package» at value
  launch ← launch_of kind «package» at value
  filters ← filters_at at value
  declared kind heading launch filters

-- an entry of the components at a key
unfoldable pub component_entry : Kind → List ℕ → List ℕ → List ℕ → ℕ → Data → Result Decl ManifestFault
component_entry kind «package» at key i value = do
  within ← entry_table at key i value
  component_of kind «package» within value

-- the components at a key; their number is checked later, over all kinds
unfoldable pub components_at : Kind → List ℕ → List ℕ → List ℕ → Data → Result (List Decl) ManifestFault
components_at kind «package» at key value = do
  values ← optional_values at key value
  each (component_entry kind «package» at key) 0 values
