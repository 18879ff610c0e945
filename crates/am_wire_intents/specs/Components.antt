-- A component as a text names it: package/class.
use Rattle.std.specs.Prelude.{ℕ, ◌==◌, nat_lt, List, [], ◌∷◌, ◌++◌, length, if◌then◌else◌, Option, Some, None, option_and_then, Result, Ok, Err}
use Rattle.serde_json.specs.Data.{Data}
use Rattle.serde_json.specs.Find.{as_str}
use Rattle.am_types.specs.declared.intent.Component.{Component}
use Rattle.am_model.specs.Sound.{is_name, is_package_name, starts_with_dot}
use Rattle.am_wire_fields.specs.declared.fault.WireFault.{WireFault}
use Rattle.am_wire_fields.specs.declared.fault.WireFault.TheVariants.{WrongKind, TooLong}
use Rattle.am_wire_fields.specs.Fields.{field, if_said}

-- the parts, with one more byte in front of the first
abbrev pub with_first : ℕ → Option (List ℕ × List ℕ) → Option (List ℕ × List ℕ)
with_first b None = None
with_first b (Some parts) = Some (b ∷ parts.0, parts.1)

-- the part of a text before the first slash and the part after it, if there is a slash
abbrev pub parts_of : List ℕ → Option (List ℕ × List ℕ)
parts_of [] = None
parts_of (b ∷ bytes) = if b == 47 then Some ([], bytes) else with_first b (parts_of bytes)

-- a class: a class that starts with a dot is put after the package
abbrev pub full_class : List ℕ → List ℕ → List ℕ
full_class name class = if starts_with_dot class then name ++ class else class

-- a component whose parts have at most 1,024 bytes each
unfoldable pub measured : List ℕ → List ℕ → List ℕ → Result Component WireFault
measured field_name name class =
    if nat_lt 1024 (length name) then Err (TooLong field_name)
    else if nat_lt 1024 (length class) then Err (TooLong field_name)
    else Ok (record { «package» = name; class = class })

-- a component from these parts: a package's name, and a class, which has no slash
unfoldable pub of_parts : List ℕ → Option (List ℕ × List ℕ) → Result Component WireFault
of_parts field_name None = Err (WrongKind field_name)
of_parts field_name (Some parts) =
    if is_package_name parts.0
    then (if is_name parts.1 then measured field_name parts.0 (full_class parts.0 parts.1) else Err
    (WrongKind field_name))
    else Err (WrongKind field_name)

-- the component that a value names
unfoldable pub component_in : List ℕ → Data → Result Component WireFault
component_in field_name value = of_parts field_name (option_and_then parts_of (as_str value))

-- a field that names a component, if it is present
unfoldable pub optional_component : List ℕ → Data → Result (Option Component) WireFault
optional_component field_name parent = if_said (component_in field_name) (field field_name parent)
