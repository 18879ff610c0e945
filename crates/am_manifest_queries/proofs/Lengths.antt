-- There are as many queries as packages.
use Rattle.std.proofs.Common.{◌≡◌, ℕ, List, [], ◌∷◌, length, Option, Some, None, Ok, sym, ap, ◌∙◌, subst}
use Rattle.std.specs.Prelude.{codes}
use Rattle.toml.specs.Data.{Data}
use Rattle.toml.specs.Parse.{parse_document}
use Rattle.am_types.specs.declared.device.Device.{Device}
use Rattle.am_types.specs.declared.device.Package.{Package}
use Rattle.am_types.specs.declared.visible.Queries.{Queries}
use Rattle.am_uri.specs.declared.text.Form.TheVariants.{Filled}
use Rattle.am_manifest_filters.specs.Tables.{at_most, optional_values, texts_at}
use Rattle.am_manifest_filters.proofs.StepsRead.{steps, same, each_length}
use Rattle.am_manifest.specs.declared.device.Owners.{Owners}
use Rattle.am_manifest.specs.Manifests.{root_of}
use Rattle.am_manifest.specs.Rights.{rights_in}
use Rattle.am_manifest.specs.Devices.{apart, device_in, device_of, first_taken, known_keys, owners_in, package_entry, packages_apart, packages_in, roots_apart, text_of, unless_taken}
use Rattle.am_manifest_queries.specs.Queries.{all_queries, package_queries, text_queries}

-- what is apart was read
apart_same : (owners : Owners) (read packages : List Package) → apart owners read ≡ Ok packages → read ≡ packages
unfolding apart unless_taken
apart_same owners read packages h =
    let root = steps (roots_apart owners) _ packages h in
    by (first_taken (codes "android" ∷ []) (known_keys owners) read) root.then
  where
    by : (o : Option (List ℕ)) → unless_taken read o ≡ Ok packages → read ≡ packages
    by None g = same read packages g
    by (Some name) g = absurd cc

-- as many packages as the array has entries
packages_long : (owners : Owners) (root : Data) (packages : List Package) → packages_apart owners root ≡ Ok packages
    → (values : List Data) → optional_values [] (codes "package") root ≡ Ok values → length packages ≡ length values
unfolding packages_apart packages_in
packages_long owners root packages h values is =
    let read = steps (packages_in root) _ packages h in
    let entries = steps (optional_values [] (codes "package") root) _ read.value read.is in
    let few = steps (at_most 256 (codes "packages") (length entries.value)) _ read.value entries.then in
    let long = each_length package_entry 0 entries.value read.value few.then in
    let one : entries.value ≡ values = same entries.value values (sym entries.is ∙ is) in
    sym (ap (λ (ps : List Package). length ps) (apart_same owners read.value packages read.then)) ∙ long
    ∙ ap (λ (vs : List Data). length vs) one

device_long : (root : Data) (device : Device) → device_in root ≡ Ok device
    → (values : List Data) → optional_values [] (codes "package") root ≡ Ok values → length device.packages
    ≡ length values
unfolding device_in
device_long root device h values is =
    let owners = steps (owners_in root) _ device h in
    let kept = steps (texts_at Filled [] (codes "protected") 1024 root) _ device owners.then in
    let exempt = steps (texts_at Filled [] (codes "exempt") 1024 root) _ device kept.then in
    let packages = steps (packages_apart owners.value root) _ device exempt.then in
    let rights = steps (rights_in packages.value root) _ device packages.then in
    sym (ap (λ (d : Device). length d.packages) (same _ device rights.then))
    ∙ packages_long owners.value root packages.value packages.is values is

queries_long : (root : Data) (queries : List Queries) → all_queries root ≡ Ok queries
    → (device : Device) → device_in root ≡ Ok device → length queries ≡ length device.packages
unfolding all_queries
queries_long root queries h device made =
    let values = steps (optional_values [] (codes "package") root) _ queries h in
    each_length package_queries 0 values.value queries values.then
    ∙ sym (device_long root device made values.value values.is)

-- reading a device and its queries reads as many queries as packages
pub parts_long : (bytes : List ℕ) (device : Device) (queries : List Queries) → device_of bytes ≡ Ok device
    → text_queries bytes ≡ Ok queries → length queries ≡ length device.packages
unfolding device_of text_queries
parts_long bytes device queries h g =
    let small = steps (at_most 16777216 (codes "device") (length bytes)) _ device h in
    let text = steps (text_of bytes) _ device small.then in
    let root = steps (root_of (parse_document text.value)) _ device text.then in
    let again = steps (text_of bytes) _ queries g in
    let other = steps (root_of (parse_document again.value)) _ queries again.then in
    let one : again.value ≡ text.value = same again.value text.value (sym again.is ∙ text.is) in
    let is : root_of (parse_document text.value) ≡ Ok other.value =
    subst (λ (t : List ℕ). root_of (parse_document t) ≡ Ok other.value) one other.is in
    let tree : other.value ≡ root.value = same other.value root.value (sym is ∙ root.is) in
    let made : device_in other.value ≡ Ok device = subst (λ (d : Data). device_in d ≡ Ok device) (sym tree) root.then in
    queries_long other.value queries other.then device made
