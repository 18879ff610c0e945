-- How a gate in memory that parks links hands them out.
use Rattle.std.proofs.Common.{◌≡◌, ℕ, Bool, true, false, ◌+◌, ◌-◌, ◌≤◌, List, [], ◌∷◌, length, map, drop, get_or, Option, Some, None, refl, sym, ap, ◌∙◌, subst, inl, inr, arith, slice_get}
use Rattle.std.specs.Prelude.{IfSome}
use Rattle.std.specs.Option.{option_map}
use Rattle.std.proofs.lemmas.List.{drop-drop, get_or-drop, length-drop, length-map}
use Rattle.std.proofs.lemmas.Option.{slice_get-map, slice_get_cases, slice_get_read}
use Rattle.am_network.specs.declared.memory_link.MemoryWriter.{MemoryWriter}
use Rattle.am_network.specs.declared.resting_reader.RestingReader.{RestingReader}
use Rattle.am_network.specs.Links.{HandsNext, HandsOut, IsClosed, IsDone, new_link}
use Rattle.am_trials_network.specs.declared.resting_link.ParkedLink.{ParkedLink}
use Rattle.am_trials_network.specs.declared.resting_link.RestingPlan.{RestingPlan}
use Rattle.am_trials_network.specs.Gates.{AreUnused, HandedEnds, HasUnusedEnds, RestingInMemory, coming, ends_of, ends_view, handed_first, handed_next, handed_view, links_of, next_of, parked_view}

-- where a list ends
ends_by : {X : Type 0} (xs : List X) (n : ℕ) → slice_get xs n ≡ None → length xs ≤ n
ends_by xs n at = elim (slice_get_cases xs n).1 [
  | inl found ↦ absurd (let e = sym found.2 ∙ at in cc)
  | inr past ↦ past.0
]

-- the first of what is left from a place on is what is at that place
pub next_at : {X : Type 0} (all left rest : List X) (n : ℕ) (x : X) → left ≡ drop n all → left ≡ x ∷ rest
    → slice_get all n ≡ Some x
next_at all left rest n x is front =
    let long : length left ≡ length all - n = ap length is ∙ length-drop n all in
    let some : length left ≡ length (x ∷ rest) = ap length front in
    let same : n + 0 ≡ n = omega arith in
    slice_get_read all (length all) n x refl (omega (arith, long, some))
    (sym (ap (λ xs. get_or xs 0 x) front)
    ∙ (ap (λ xs. get_or xs 0 x) is ∙ (get_or-drop n all 0 x ∙ ap (λ m. get_or all m x) same)))

-- the rest of it is what is left from the next place on
pub rest_at : {X : Type 0} (all left rest : List X) (n : ℕ) → left ≡ drop n all → rest ≡ drop 1 left
    → rest ≡ drop (n + 1) all
rest_at all left rest n is others = others ∙ (ap (drop 1) is ∙ drop-drop 1 n all)

-- the next place is within the list, or its end
pub length_next : {X : Type 0} (all left rest : List X) (n : ℕ) (x : X) → left ≡ drop n all → left ≡ x ∷ rest
    → n + 1 ≤ length all
length_next all left rest n x is front =
    let long : length left ≡ length all - n = ap length is ∙ length-drop n all in
    let some : length left ≡ length (x ∷ rest) = ap length front in
    omega (arith, long, some)

-- what is planned at a place is unused
pub unused_at : (plan : List RestingPlan) (number : ℕ) → AreUnused plan → IfSome (slice_get plan number) HasUnusedEnds
unused_at plan number unused = elim (slice_get_cases plan number).1 [
  | inl found ↦ subst (λ (o : Option RestingPlan). IfSome o HasUnusedEnds) (sym found.2)
      (subst HasUnusedEnds found.3 (unused number found.0 found.1))
  | inr past ↦ subst (λ (o : Option RestingPlan). IfSome o HasUnusedEnds) (sym past.1) tt
]

-- the ends of an unused link are those of a new one
ends_new : (number : ℕ) (planned : RestingPlan) → HasUnusedEnds planned
    → ends_view (ends_of number planned) ≡ new_link number planned.reader.left
ends_new number planned unused = rw (unused.1, unused.2, unused.3)

-- the bytes of the link at a place
sent_at : (plan : List RestingPlan) (number : ℕ) (planned : RestingPlan) → slice_get plan number ≡ Some planned
    → slice_get (map (λ (p : RestingPlan). p.reader.left) plan) number ≡ Some planned.reader.left
sent_at plan number planned at =
    slice_get-map (λ (p : RestingPlan). p.reader.left) plan number
    ∙ ap (option_map (λ (p : RestingPlan). p.reader.left)) at

-- behind its last link the gate has as many links as it handed out
all_sent : (plan : List RestingPlan) (number : ℕ) → slice_get plan number ≡ None
    → length (map (λ (p : RestingPlan). p.reader.left) plan) ≤ number
all_sent plan number at = rw (length-map plan (λ (p : RestingPlan). p.reader.left)) (ends_by plan number at)

-- a gate that handed out its next link for the first time, or none as none is to come, did what any gate does
pub hands_first : (gate new : RestingInMemory) (next : Option RestingPlan)
    (handed : Option (RestingReader × MemoryWriter))
    → gate.parked ≡ [] → slice_get gate.plan gate.handed ≡ next
    → handed ≡ option_map (ends_of gate.handed) next → new ≡ handed_first gate handed → IfSome next HasUnusedEnds
    → HandsOut (Some (links_of gate)) (Some (links_of new)) (option_map ends_view handed)
hands_first gate new None handed none at is now unused =
    let P : Option (RestingReader × MemoryWriter) → Type 0 =
    λ h. new ≡ handed_first gate h → HandsOut (Some (links_of gate)) (Some (links_of new)) (option_map ends_view h) in
    let closed : IsClosed (links_of gate) = (
      all_sent gate.plan gate.handed at,
      ap (map parked_view) none,
    ) in
    subst P (sym is) (λ e. (closed, ap (λ (g : RestingInMemory). Some (links_of g)) e)) now
hands_first gate new (Some planned) handed none at is now unused =
    let P : Option (RestingReader × MemoryWriter) → Type 0 =
    λ h. new ≡ handed_first gate h → HandsOut (Some (links_of gate)) (Some (links_of new)) (option_map ends_view h) in
    subst P (sym is) (λ e. (
      planned.reader.left,
      sent_at gate.plan gate.handed planned at,
      ends_new gate.handed planned unused,
      ap (λ (g : RestingInMemory). Some (links_of g)) e,
    )) now

-- no link is to come from a gate that parks none, and has none to come for the first time if new ones are taken
done : (takes_new : Bool) (gate : RestingInMemory) → coming takes_new gate ≡ None → gate.parked ≡ []
    → IsDone takes_new (links_of gate)
done true gate at none = (all_sent gate.plan gate.handed at, ap (map parked_view) none)
done false gate at none = ap (map parked_view) none

-- a gate of which those are parked, and no link is to come for the first time, did what any gate does
hands_parked : (takes_new : Bool) (gate new : RestingInMemory) (parked : List ParkedLink) (handed : Option HandedEnds)
    → gate.parked ≡ parked → coming takes_new gate ≡ None → handed ≡ next_of gate.handed None parked
    → new ≡ handed_next gate None
    → HandsNext takes_new (Some (links_of gate)) (Some (links_of new)) (option_map handed_view handed)
hands_parked takes_new gate new [] handed none at is now =
    let P : Option HandedEnds → Type 0 =
    λ h. HandsNext takes_new (Some (links_of gate)) (Some (links_of new)) (option_map handed_view h) in
    let same : new ≡ gate =
    now ∙ (ap (λ (ps : List ParkedLink). record gate { parked = drop 1 ps }) none
    ∙ sym (ap (λ (ps : List ParkedLink). record gate { parked = ps }) none)) in
    subst P (sym is) (ap (λ (g : RestingInMemory). Some (links_of g)) same, done takes_new gate at none)
hands_parked takes_new gate new (first ∷ others) handed some at is now =
    let P : Option HandedEnds → Type 0 =
    λ h. HandsNext takes_new (Some (links_of gate)) (Some (links_of new)) (option_map handed_view h) in
    let left : new ≡ record gate { parked = others } =
    now ∙ ap (λ (ps : List ParkedLink). record gate { parked = drop 1 ps }) some in
    subst P (sym is) (
      inr (
        [],
        parked_view first,
        map parked_view others,
        ap (map parked_view) some,
        ap (λ (g : RestingInMemory). Some (links_of g)) left,
        refl,
      ),
      λ old. refl,
    )

-- one that handed out its next link for the first time did so too
hands_coming : (takes_new : Bool) (gate new : RestingInMemory) (planned : RestingPlan) (handed : Option HandedEnds)
    → coming takes_new gate ≡ Some planned → handed ≡ next_of gate.handed (Some planned) gate.parked
    → new ≡ handed_next gate (Some planned) → HasUnusedEnds planned
    → HandsNext takes_new (Some (links_of gate)) (Some (links_of new)) (option_map handed_view handed)
hands_coming false gate new planned handed at is now unused = absurd (let e = at in cc)
hands_coming true gate new planned handed at is now unused =
    let P : Option HandedEnds → Type 0 =
    λ h. HandsNext true (Some (links_of gate)) (Some (links_of new)) (option_map handed_view h) in
    subst P (sym is) (
      inl (
        (
          planned.reader.left,
          sent_at gate.plan gate.handed planned at,
          ends_new gate.handed planned unused,
          ap (λ (g : RestingInMemory). Some (links_of g)) now,
        ),
        refl,
      ),
      λ old. absurd (let e = old in cc),
    )

-- so a gate that handed out its next link for the first time, or else the one that is parked the longest, or none, did
-- what any gate does
pub hands_next : (takes_new : Bool) (gate new : RestingInMemory) (next : Option RestingPlan)
    (handed : Option HandedEnds) → coming takes_new gate ≡ next → handed ≡ next_of gate.handed next gate.parked
    → new ≡ handed_next gate next → IfSome next HasUnusedEnds
    → HandsNext takes_new (Some (links_of gate)) (Some (links_of new)) (option_map handed_view handed)
hands_next takes_new gate new None handed at is now unused =
    hands_parked takes_new gate new gate.parked handed refl at is now
hands_next takes_new gate new (Some planned) handed at is now unused =
    hands_coming takes_new gate new planned handed at is now unused
