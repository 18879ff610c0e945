-- How a gate in memory hands out its links.
use Rattle.std.proofs.Common.{◌≡◌, ℕ, ◌≤◌, List, [], length, map, Option, Some, None, refl, sym, ap, ◌∙◌, subst, inl, inr, slice_get}
use Rattle.std.specs.Prelude.{IfSome}
use Rattle.std.specs.Option.{option_map}
use Rattle.std.proofs.lemmas.List.{length-map}
use Rattle.std.proofs.lemmas.Option.{slice_get-map, slice_get_cases}
use Rattle.am_network.specs.declared.memory_link.LinkPlan.{LinkPlan}
use Rattle.am_network.specs.declared.memory_link.MemoryReader.{MemoryReader}
use Rattle.am_network.specs.declared.memory_link.MemoryWriter.{MemoryWriter}
use Rattle.am_network.specs.Links.{HandsOut, new_link}
use Rattle.am_network.specs.Memory.{GateInMemory, IsUnused, ends_of, ends_view, handed_out, links_of}

-- where a list ends
ends_by : {X : Type 0} (xs : List X) (n : ℕ) → slice_get xs n ≡ None → length xs ≤ n
ends_by xs n at = elim (slice_get_cases xs n).1 [
  | inl found ↦ absurd (let e = sym found.2 ∙ at in cc)
  | inr past ↦ past.0
]

-- the ends of an unused link are those of a new one
ends_new : (number : ℕ) (link : LinkPlan) → IsUnused link → ends_view (ends_of number link)
    ≡ new_link number link.reader.left
ends_new number link unused = rw (unused.1, unused.2, unused.3)

-- a gate that handed out its next link, or none, did what any gate does
pub hands_out : (gate new : GateInMemory) (next : Option LinkPlan) (handed : Option (MemoryReader × MemoryWriter))
    → slice_get gate.plan gate.handed ≡ next
    → handed ≡ option_map (ends_of gate.handed) next → new ≡ handed_out gate handed → IfSome next IsUnused
    → HandsOut (Some (links_of gate)) (Some (links_of new)) (option_map ends_view handed)
hands_out gate new None handed at is now unused =
    let P : Option (MemoryReader × MemoryWriter) → Type 0 =
    λ h. new ≡ handed_out gate h → HandsOut (Some (links_of gate)) (Some (links_of new)) (option_map ends_view h) in
    subst P (sym is) (λ e. (
      (
        rw (length-map gate.plan (λ (link : LinkPlan). link.reader.left))
            (ends_by gate.plan gate.handed at),
        refl,
      ),
      ap (λ (g : GateInMemory). Some (links_of g)) e,
    )) now
hands_out gate new (Some link) handed at is now unused =
    let P : Option (MemoryReader × MemoryWriter) → Type 0 =
    λ h. new ≡ handed_out gate h → HandsOut (Some (links_of gate)) (Some (links_of new)) (option_map ends_view h) in
    let sent : slice_get (map (λ (l : LinkPlan). l.reader.left) gate.plan) gate.handed ≡ Some link.reader.left =
    slice_get-map (λ (l : LinkPlan). l.reader.left) gate.plan gate.handed
    ∙ ap (option_map (λ (l : LinkPlan). l.reader.left)) at in
    subst P (sym is) (λ e. (
      link.reader.left,
      sent,
      ends_new gate.handed link unused,
      ap
          (λ (g : GateInMemory). Some (links_of g)) e,
    )) now

-- its reader has given nothing yet
pub hands_unread : (number : ℕ) (next : Option LinkPlan) (handed : Option (MemoryReader × MemoryWriter)) → handed
    ≡ option_map (ends_of number) next → IfSome next IsUnused
    → IfSome handed (λ ends. ends.0.source.given ≡ [])
hands_unread number None handed is unused =
    let P : Option (MemoryReader × MemoryWriter) → Type 0 = λ h. IfSome h (λ ends. ends.0.source.given ≡ []) in
    subst P (sym is) tt
hands_unread number (Some link) handed is unused =
    let P : Option (MemoryReader × MemoryWriter) → Type 0 = λ h. IfSome h (λ ends. ends.0.source.given ≡ []) in
    subst P (sym is) unused.0
