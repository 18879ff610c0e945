-- How a network in memory opens its gates.
use Rattle.std.proofs.Common.{◌≡◌, ℕ, zero, suc, ◌+◌, ◌-◌, ◌<◌, List, [], ◌∷◌, ◌++◌, length, drop, get_or, Some, refl, sym, ap, ◌∙◌, subst, arith, slice_get}
use Rattle.std.specs.Prelude.{unwrap_or}
use Rattle.std.proofs.lemmas.List.{append_assoc, append-nil, drop-drop, get_or-drop, length-drop}
use Rattle.am_network.specs.declared.memory_gate.GatePlan.{GatePlan}
use Rattle.am_network.specs.Links.{IsNewGate}
use Rattle.am_network.specs.Memory.{ArePlans, AreUnused, GateInMemory, gate_view, gates_of, new_gate, no_plan, rooms_of}

-- behind the first plan the links are unused too
pub other_plans : (planned others : List GatePlan) → others ≡ drop 1 planned → ArePlans planned → ArePlans others
other_plans planned others is plans k d below =
    let at : get_or others k d ≡ get_or planned (1 + k) d = ap (λ xs. get_or xs k d) is ∙ get_or-drop 1 planned k d in
    let count : length others ≡ length (drop 1 planned) = ap length is in
    let long : length (drop 1 planned) ≡ length planned - 1 = length-drop 1 planned in
    subst (λ (plan : GatePlan). AreUnused plan.links) (sym at) (plans (1 + k) d (omega arith))

-- the room at a place, and the rooms behind it
pub rooms_step : (gates k : ℕ) (planned : List GatePlan) → k < gates
    → rooms_of (gates - k) (drop k planned) ≡ length (get_or planned k no_plan).links
    ∷ rooms_of (gates - (k + 1)) (drop (k + 1) planned)
rooms_step gates k planned below =
    let more : gates - k ≡ suc (gates - (k + 1)) = omega arith in
    let same : k + 0 ≡ k = omega arith in
    let at : get_or (drop k planned) 0 no_plan ≡ get_or planned k no_plan =
    get_or-drop k planned 0 no_plan ∙ ap (λ n. get_or planned n no_plan) same in
    ap (λ n. rooms_of n (drop k planned)) more
    ∙ (ap (λ (plan : GatePlan). length plan.links ∷ rooms_of (gates - (k + 1)) (drop 1 (drop k planned))) at
    ∙ ap (λ rest. length (get_or planned k no_plan).links ∷ rooms_of (gates - (k + 1)) rest) (drop-drop 1 k planned))

-- one room more
pub rooms_grow : (gates k room : ℕ) (planned : List GatePlan) (rooms all : List ℕ) → k < gates → room
    ≡ length (get_or planned k no_plan).links
    → rooms ++ rooms_of (gates - k) (drop k planned) ≡ all → (rooms ++ room ∷ [])
    ++ rooms_of (gates - (k + 1)) (drop (k + 1) planned) ≡ all
rooms_grow gates k room planned rooms all below is before =
    append_assoc rooms (room ∷ []) (rooms_of (gates - (k + 1)) (drop (k + 1) planned))
    ∙ (ap (λ r. rooms ++ (r ∷ rooms_of (gates - (k + 1)) (drop (k + 1) planned))) is
    ∙ (ap (λ rest. rooms ++ rest) (sym (rooms_step gates k planned below)) ∙ before))

-- no room is missing
pub rooms_end : (gates k : ℕ) (planned : List GatePlan) (rooms all : List ℕ) → k ≡ gates → rooms
    ++ rooms_of (gates - k) (drop k planned) ≡ all → rooms ≡ all
rooms_end gates k planned rooms all is before =
    let none : gates - k ≡ 0 = omega arith in
    sym (append-nil rooms) ∙ (sym (ap (λ n. rooms ++ rooms_of n (drop k planned)) none) ∙ before)

-- the first room is for the first plan
pub first_room : (rooms rest : List ℕ) (room : ℕ) (planned : List GatePlan) → rooms ≡ rooms_of (length rooms) planned
    → rooms ≡ room ∷ rest
    → room ≡ length (get_or planned 0 no_plan).links
first_room rooms rest room planned is begins =
    let e : room ∷ rest ≡ rooms_of (suc (length rest)) planned = subst (λ (r : List ℕ). r ≡ rooms_of (length r) planned)
    begins is in
    ap (λ xs. get_or xs 0 room) e

-- and the others are for the others
pub other_rooms : (rooms rest : List ℕ) (room : ℕ) (planned : List GatePlan) → rooms ≡ rooms_of (length rooms) planned
    → rooms ≡ room ∷ rest
    → rest ≡ rooms_of (length rest) (drop 1 planned)
other_rooms rooms rest room planned is begins =
    let e : room ∷ rest ≡ rooms_of (suc (length rest)) planned = subst (λ (r : List ℕ). r ≡ rooms_of (length r) planned)
    begins is in
    ap (drop 1) e

-- one gate more
pub gates_grow : (rooms rest : List ℕ) (room : ℕ) (planned others : List GatePlan) (made all : List GateInMemory)
    (gate : GateInMemory) → rooms ≡ room ∷ rest
    → gate ≡ new_gate (get_or planned 0 no_plan) → others ≡ drop 1 planned → made ++ gates_of (length rooms) planned
    ≡ all
    → (made ++ gate ∷ []) ++ gates_of (length rest) others ≡ all
gates_grow rooms rest room planned others made all gate begins is left before =
    append_assoc made (gate ∷ []) (gates_of (length rest) others)
    ∙ (ap (λ g. made ++ (g ∷ gates_of (length rest) others)) is
    ∙ (ap (λ o. made ++ (new_gate (get_or planned 0 no_plan) ∷ gates_of (length rest) o)) left
    ∙ (sym (ap (λ r. made ++ gates_of (length r) planned) begins) ∙ before)))

-- the plans behind all of these gates
pub left_behind : (rooms rest : List ℕ) (room : ℕ) (planned others all : List GatePlan) → rooms ≡ room ∷ rest → others
    ≡ drop 1 planned
    → drop (length rooms) planned ≡ all → drop (length rest) others ≡ all
left_behind rooms rest room planned others all begins left before =
    ap (drop (length rest)) left ∙ (drop-drop (length rest) 1 planned
    ∙ (ap (λ n. drop n planned) (let e : length rooms ≡ suc (length rest) = ap length begins in omega arith) ∙ before))

-- there are as many rooms as were asked for
pub rooms_count : (gates : ℕ) (planned : List GatePlan) → length (rooms_of gates planned) ≡ gates
rooms_count zero planned = refl
rooms_count (suc others) planned = ap suc (rooms_count others (drop 1 planned))

-- each of them is for its plan
pub rooms_are : (gates : ℕ) (planned : List GatePlan) (made rooms : List ℕ) → made ≡ rooms → rooms
    ≡ rooms_of gates planned → (made ≡ rooms_of (length made) planned) × (length made ≡ gates)
rooms_are gates planned made rooms is all =
    let count : length made ≡ gates = ap length (is ∙ all) ∙ rooms_count gates planned in
    (is ∙ (all ∙ ap (λ n. rooms_of n planned) (sym count)), count)

-- there are as many gates as were asked for
pub gates_count : (gates : ℕ) (planned : List GatePlan) → length (gates_of gates planned) ≡ gates
gates_count zero planned = refl
gates_count (suc others) planned = ap suc (gates_count others (drop 1 planned))

-- each of them is new
pub gates_new : (gates : ℕ) (planned : List GatePlan) (k : ℕ) (gate : GateInMemory)
    → slice_get (gates_of gates planned) k ≡ Some gate → IsNewGate (gate_view gate)
gates_new zero planned k gate at = absurd (let e = at in cc)
gates_new (suc others) planned zero gate at =
    subst (λ (g : GateInMemory). IsNewGate (gate_view g)) (ap (λ o. unwrap_or o gate) at)
    (refl, (refl, refl, refl, refl))
gates_new (suc others) planned (suc k) gate at = gates_new others (drop 1 planned) k gate at
