-- The components that are read have few filters.
use Rattle.std.proofs.Common.{◌≡◌, ℕ, List, ◌++◌, Ok, subst}
use Rattle.std.specs.Prelude.{All, codes}
use Rattle.std.proofs.lemmas.List.Elements.{All-append}
use Rattle.toml.specs.Data.{Data}
use Rattle.am_types.specs.declared.manifest.Decl.{Decl}
use Rattle.am_types.specs.declared.manifest.Kind.{Kind}
use Rattle.am_types.specs.declared.manifest.Kind.TheVariants.{Activity, Service, Receiver}
use Rattle.am_model.specs.Sound.{IsSoundDecl}
use Rattle.am_manifest_filters.specs.Tables.{entry_table, optional_values}
use Rattle.am_manifest_filters.specs.Filters.{filters_at}
use Rattle.am_manifest.specs.Components.{component_entry, component_of, components_at, declared, exported_of, heading_of, launch_of}
use Rattle.am_manifest.specs.Manifests.{decls_in}
use Rattle.am_manifest_filters.proofs.StepsRead.{steps, same, each_all}
use Rattle.am_manifest_filters.proofs.Limits.{filters_within}

component_within : (kind : Kind) («package» at : List ℕ) (value : Data) (decl : Decl)
    → component_of kind «package» at value ≡ Ok decl → IsSoundDecl decl
unfolding component_of declared
component_within kind «package» at value decl h =
    let heading = steps (heading_of «package» at value) _ decl h in
    let launch = steps (launch_of kind «package» at value) _ decl heading.then in
    let filters = steps (filters_at at value) _ decl launch.then in
    let exported = steps (exported_of heading.value.class filters.value.written heading.value.exported) _ decl
    filters.then in
    let kept = filters_within at value filters.value filters.is in
    subst IsSoundDecl (same _ decl exported.then) (record { few = kept.few; filters = kept.each })

components_within : (kind : Kind) («package» at key : List ℕ) (value : Data) (decls : List Decl)
    → components_at kind «package» at key value ≡ Ok decls → All IsSoundDecl decls
unfolding components_at component_entry
components_within kind «package» at key value decls h =
    let values = steps (optional_values at key value) _ decls h in
    each_all (component_entry kind «package» at key) IsSoundDecl one 0 values.value decls values.then
  where
    one : (i : ℕ) (v : Data) (decl : Decl) → component_entry kind «package» at key i v ≡ Ok decl → IsSoundDecl decl
    one i v decl e =
        let inside = steps (entry_table at key i v) _ decl e in
        component_within kind «package» inside.value v decl inside.then

pub decls_within : («package» at : List ℕ) (value : Data) (decls : List Decl) → decls_in «package» at value ≡ Ok decls
    → All IsSoundDecl decls
unfolding decls_in
decls_within «package» at value decls h =
    let activities = steps (components_at Activity «package» at (codes "activity") value) _ decls h in
    let services = steps (components_at Service «package» at (codes "service") value) _ decls activities.then in
    let receivers = steps (components_at Receiver «package» at (codes "receiver") value) _ decls services.then in
    let first = components_within Activity «package» at (codes "activity") value activities.value activities.is in
    let second = components_within Service «package» at (codes "service") value services.value services.is in
    let third = components_within Receiver «package» at (codes "receiver") value receivers.value receivers.is in
    subst (All IsSoundDecl) (same (activities.value ++ services.value ++ receivers.value) decls receivers.then)
    (All-append IsSoundDecl (activities.value ++ services.value) receivers.value
    (All-append IsSoundDecl activities.value services.value first second) third)
