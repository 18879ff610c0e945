-- What sameness for a filter leaves out, and what a fill-in keeps.
use Rattle.std.proofs.Common.{◌≡◌, ℕ, ◌≤◌, Bool, true, false, List, [], ◌∷◌, length, Option, Some, None, Ok, Err, refl, arith, nat_lt}
use Rattle.am_types.specs.declared.intent.Intent.{Intent}
use Rattle.am_types.specs.declared.intent.Flags.{Flags}
use Rattle.am_types.specs.declared.intent.Named.{Named}
use Rattle.am_types.specs.declared.uri.Uri.{Uri}
use Rattle.am_types.specs.declared.uri.Mime.{Mime}
use Rattle.std.specs.Prelude.{if◌then◌else◌}
use Rattle.std.proofs.Math.Bool.{or-false}
use Rattle.am_types.specs.declared.filter.FillFault.TheVariants.{ExtrasFull}
use Rattle.am_types.specs.Intents.{no_flags, no_intent}
use Rattle.am_model.specs.Intents.{filter_equals, or_other, filled_uri, filled_mime, filled_categories, united_flags, united_extras, filled, fill_in}

-- sameness for a filter sees neither flags nor extras, on either side
pub filter_equals-flags_and_extras : (a b : Intent) (flags flags' : Flags) (extras extras' : List Named)
    → filter_equals (record a { flags = flags; extras = extras }) (record b { flags = flags'; extras = extras' })
    ≡ filter_equals a b
filter_equals-flags_and_extras a b flags flags' extras extras' = refl

component_of : (full : Bool) (kept other intent : Intent) → (if full then Err ExtrasFull else Ok (filled kept other))
    ≡ Ok intent → intent.component ≡ kept.component
component_of true kept other intent held = cc
component_of false kept other intent held = cc

-- what is filled in keeps the component
pub fill_in-component : (kept other intent : Intent) → fill_in kept other ≡ Ok intent → intent.component
    ≡ kept.component
unfolding fill_in
fill_in-component kept other intent held = component_of (nat_lt 64 (length (united_extras kept.extras other.extras)))
    kept other intent held

or_other-None : {X : Type 0} (option : Option X) → or_other option None ≡ option
or_other-None None = refl
or_other-None (Some x) = refl

filled_uri-None : (uri : Option Uri) (mime : Option Mime) → filled_uri uri mime None ≡ uri
filled_uri-None None None = refl
filled_uri-None None (Some mime) = refl
filled_uri-None (Some uri) mime = refl

filled_mime-None : (uri : Option Uri) (mime : Option Mime) → filled_mime uri mime None ≡ mime
filled_mime-None None None = refl
filled_mime-None None (Some mime) = refl
filled_mime-None (Some uri) mime = refl

filled_categories-nil : (categories : List (List ℕ)) → filled_categories categories [] ≡ categories
filled_categories-nil [] = refl
filled_categories-nil (first ∷ others) = refl

united_flags-none : (flags : Flags) → united_flags flags no_flags ≡ flags
united_flags-none flags = rw (
  or-false flags.new_task,
  or-false flags.multiple_task,
  or-false flags.clear_task,
  or-false
      flags.clear_top,
  or-false flags.single_top,
  or-false flags.reorder_to_front,
  or-false flags.registered_only,
  or-false flags.foreground,
  or-false flags.no_abort,
  or-false flags.include_stopped,
) refl

-- what the intent that says nothing fills in is the intent itself
pub filled-empty : (kept : Intent) → filled kept no_intent ≡ kept
filled-empty kept = rw (
  or_other-None kept.action,
  filled_uri-None kept.uri kept.mime,
  filled_mime-None kept.uri
      kept.mime,
  or_other-None kept.identifier,
  filled_categories-nil kept.categories,
  or_other-None kept.«package»,
  united_flags-none kept.flags,
) refl

room : (count : ℕ) → count ≤ 64 → nat_lt 64 count ≡ false
room count few = grind arith

-- a fill-in by the intent that says nothing changes nothing
pub fill_in-empty : (kept : Intent) → length kept.extras ≤ 64 → fill_in kept no_intent ≡ Ok kept
unfolding fill_in
fill_in-empty kept few = rw (room (length kept.extras) few, filled-empty kept) refl
