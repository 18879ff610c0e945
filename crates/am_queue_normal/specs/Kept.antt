-- All normal broadcasts: what is found, counted and taken out.
use Rattle.std.specs.Prelude.{⊤, ◌≡◌, ℕ, ◌+◌, ◌≤◌, Bool, true, false, not, ◌||◌, ◌==◌, nat_lt, List, [], ◌∷◌, length, IsSome}
use Rattle.std.specs.List.{list_any, list_all, count_by, sum_by, flat_map}
use Rattle.am_types.specs.declared.broadcast.Item.{Item}
use Rattle.am_types.specs.declared.broadcast.Spot.{Spot}
use Rattle.am_model.specs.Filters.{is_empty}
use Rattle.am_model.specs.Broadcasts.{Normal, Delivery, is_delivery_due, normals_keeping}
use Rattle.am_model.specs.Sending.{Held, held_in_normals, normal_items}

-- the normal broadcasts that are live, and a number above those of all their deliveries
pub record Kept : Type 0 where
  pub normal : List Normal
  pub end : ℕ

-- some delivery is due
abbrev pub some_due : List Normal → ℕ → Bool
some_due normal now = list_any (λ (n : Normal). list_any (is_delivery_due now) n.deliveries) normal

-- the delivery isn't due
abbrev pub is_early : ℕ → Delivery → Bool
is_early now delivery = not (is_delivery_due now delivery)

-- the delivery isn't the one with this number
abbrev pub is_other : ℕ → Delivery → Bool
is_other number delivery = not (delivery.number == number)

-- how many normal broadcasts of a sender are live
abbrev pub normals_of : List Normal → ℕ → ℕ
normals_of normal sender = count_by (λ (n : Normal). n.sender == sender) normal

-- how many deliveries aren't finished
abbrev pub deliveries_in : List Normal → ℕ
deliveries_in normal = sum_by (λ (n : Normal). length n.deliveries) normal

-- each normal broadcast has a delivery that isn't finished
abbrev pub AllLive : List Normal → Type 0
AllLive normal = list_all (λ (n : Normal). not (is_empty n.deliveries)) normal ≡ true

-- the uid that holds a normal delivery
abbrev pub at_once_by : ℕ → Held
at_once_by uid = record { uid = uid; ordered = false }

-- the deliveries to a uid as items
abbrev pub items_of : ℕ → List Normal → List Item
items_of uid normal = flat_map (normal_items uid) normal

-- items with rising numbers, the first at least a given one
abbrev pub Rise : ℕ → List Item → Type 0
Rise from [] = ⊤
Rise from (item ∷ others) = (from ≤ item.delivery) × Rise (item.delivery + 1) others

-- the delivery's receiver isn't struck
abbrev pub is_spared : (Spot → Bool) → Delivery → Bool
is_spared struck delivery = not (struck delivery.spot)

-- all deliveries pass the test
abbrev pub AllPass : (Delivery → Bool) → List Normal → Type 0
AllPass keeps normal = normals_keeping keeps normal ≡ normal

-- there is a delivery with this number, and it doesn't pass the test: those that pass are the same without it
abbrev pub Fails : (Delivery → Bool) → List Normal → ℕ → Type 0
Fails keeps normal number =
    IsSome (held_in_normals number normal)
    × (normals_keeping keeps (normals_keeping (is_other number) normal) ≡ normals_keeping keeps normal)

-- the delivery passes the test, or its number is below a given one
abbrev pub or_below : (Delivery → Bool) → ℕ → Delivery → Bool
or_below keeps from delivery = keeps delivery || nat_lt delivery.number from

-- the deliveries with numbers below a given one all pass the test
abbrev pub PassBelow : (Delivery → Bool) → ℕ → List Normal → Type 0
PassBelow keeps from normal = normals_keeping keeps normal ≡ normals_keeping (or_below keeps from) normal
