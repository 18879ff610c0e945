-- What the changes of a start make of the tasks.
use Rattle.std.proofs.Common.{◌≡◌, ℕ, suc, ◌+◌, ◌-◌, ◌<◌, ◌≤◌, Bool, true, false, cond, eqb, List, [], ◌∷◌, ◌++◌, length, get_or, set, take, drop, Some, refl, sym, ap, ◌∙◌, arith}
use Rattle.std.specs.Prelude.{◌==◌}
use Rattle.std.specs.List.{count_by, remove, slice_get}
use Rattle.std.proofs.lemmas.List.{take_more, length-map, length-take-le, length_push, get_or-set_same, take-set, get_or_default, get_or_push, get_or-take, drop-set-lt}
use Rattle.std.proofs.lemmas.List.Sums.{sum_by-cons, sum_by_push, sum_by-take-le, sum_by-remove}
use Rattle.std.proofs.lemmas.Option.{slice_get-get_or}
use Rattle.std.proofs.lemmas.List.Edits.{length-remove}
use Rattle.am_types.specs.declared.intent.Intent.{Intent}
use Rattle.am_types.specs.declared.task.StartCall.{StartCall}
use Rattle.am_model.specs.Tasks.{Instance, Task, Tasks, is_number}
use Rattle.am_model.specs.Placement.{fresh, in_front, with_intent}
use Rattle.am_tasks.specs.declared.plan.Keeping.{Keeping}
use Rattle.am_tasks.specs.declared.plan.Keeping.TheVariants.{All, Below, Others}
use Rattle.am_tasks.specs.Plans.{number_at, kept_by}
use Rattle.am_tasks.specs.Sound.{IsSound, count_in}
use Rattle.am_tasks.proofs.Finding.{at_there}
use Rattle.am_tasks.proofs.Once.{IsOnce, tick, left_out, changed_at, stands_below}
use Rattle.am_tasks.proofs.Soundness.{instance_number, task_number, tasks_stand_once, instances_stand_once, room_at, one_at, one_next, sound_in_front}

-- the task at a place in front of the others, as the placement has it
pub brought : (all : Tasks) (place : ℕ) (d : Task) (instances : List Instance) → IsSound all → place < length all.tasks
    → record (get_or all.tasks place d) { instances = instances } ∷ remove all.tasks place
    ≡ in_front (get_or all.tasks place d) instances all.tasks
brought all place d instances sound low =
    ap (λ l. record (get_or all.tasks place d) { instances = instances } ∷ l)
    (sym (left_out task_number all.tasks place d (tasks_stand_once all sound) low))

-- a task that was changed in its place and then brought to the front
pub front_of_set : (tasks new : List Task) (place : ℕ) (task : Task) → place < length tasks
    → ((d : Task) → new ≡ get_or (set tasks place task) place d ∷ remove (set tasks place task) place)
    → new ≡ task ∷ remove tasks place
front_of_set tasks new place task low fronted =
    let here : get_or (set tasks place task) place task ≡ task = get_or-set_same tasks place task task low in
    let rest : remove (set tasks place task) place ≡ remove tasks place =
    ap (λ l. l ++ drop (suc place) (set tasks place task)) (take-set tasks place task)
    ∙ ap (λ l. take place tasks ++ l) (drop-set-lt (suc place) tasks place task (omega arith)) in
    fronted task ∙ ap (λ t. t ∷ remove (set tasks place task) place) here ∙ ap (λ l. task ∷ l) rest

-- the number at a place of the list
pub number_there : (xs : List Instance) (place : ℕ) (d : Instance) → place < length xs → number_at xs place
    ≡ (get_or xs place d).number
number_there xs place d low = rw (slice_get-get_or xs place d low) refl

-- what is kept of a list, in terms of places
abbrev pub kept_at : Keeping → ℕ → List Instance → Instance → List Instance
kept_at All place xs d = xs
kept_at Below place xs d = take (place + 1) xs
kept_at Others place xs d = remove xs place ++ get_or xs place d ∷ []

-- it is what is kept by the instance's number
pub kept_as : (keeping : Keeping) (place : ℕ) (xs : List Instance) (d : Instance) → IsOnce instance_number xs
    → place < length xs → kept_by keeping place xs ≡ kept_at keeping place xs d
kept_as All place xs d once low = refl
kept_as Below place xs d once low =
    rw (slice_get-get_or xs place d low)
    (ap (λ l. l ++ get_or xs place d ∷ []) (stands_below instance_number xs place d once low)
    ∙ sym (take_more xs place d low))
kept_as Others place xs d once low =
    rw (slice_get-get_or xs place d low) (ap (λ l. l ++ get_or xs place d ∷ [])
    (left_out instance_number xs place d once low))

-- no number occurs more often in what is kept
counted_at_most : (keeping : Keeping) (place : ℕ) (xs : List Instance) (d : Instance) (n : ℕ) → place < length xs
    → count_by (is_number n) (kept_at keeping place xs d) ≤ count_by (is_number n) xs
counted_at_most All place xs d n low = omega arith
counted_at_most Below place xs d n low = sum_by-take-le (λ (i : Instance). tick (eqb i.number n)) xs (place + 1)
counted_at_most Others place xs d n low =
    omega (
      arith,
      sum_by_push (λ (i : Instance). tick (eqb i.number n)) (remove xs place) (get_or xs place d),
      sum_by-remove (λ (i : Instance). tick (eqb i.number n)) xs place d low,
    )

-- and something is kept, and at most as much as there was
length_at_most : (keeping : Keeping) (place : ℕ) (xs : List Instance) (d : Instance) → place < length xs
    → (1 ≤ length (kept_at keeping place xs d)) × (length (kept_at keeping place xs d) ≤ length xs)
length_at_most All place xs d low = (omega arith, omega arith)
length_at_most Below place xs d low = let count = length-take-le (place + 1) xs (omega arith) in
    (omega arith, omega arith)
length_at_most Others place xs d low =
    let count = length_push (remove xs place) (get_or xs place d) in
    let rest = length-remove xs place low in
    (omega arith, omega arith)

-- each number occurs once in what is kept
pub kept_once : (keeping : Keeping) (place : ℕ) (xs : List Instance) (d : Instance) → IsOnce instance_number xs
    → place < length xs → (n : ℕ) → count_by (is_number n) (kept_by keeping place xs) ≤ 1
kept_once keeping place xs d once low n =
    rw (kept_as keeping place xs d once low) (omega (arith, counted_at_most keeping place xs d n low, once.once n))

-- a new intent changes no number
count_with_intent : (number : ℕ) (intent : Intent) (xs : List Instance) (n : ℕ)
    → count_by (is_number n) (with_intent number intent xs) ≡ count_by (is_number n) xs
count_with_intent number intent [] n = refl
count_with_intent number intent (x ∷ xs) n = by (x.number == number) (count_with_intent number intent xs n)
  where
    counts : Instance → ℕ
    counts i = tick (eqb i.number n)

    by : (b : Bool) → count_by (is_number n) (with_intent number intent xs) ≡ count_by (is_number n) xs
        → count_by (is_number n) (cond b (record x { intent = intent }) x ∷ with_intent number intent xs)
        ≡ count_by (is_number n) (x ∷ xs)
    by true rest = sum_by-cons counts (record x { intent = intent }) (with_intent number intent xs)
        ∙ ap (λ k. tick (eqb x.number n) + k) rest ∙ sym (sum_by-cons counts x xs)
    by false rest = sum_by-cons counts x (with_intent number intent xs) ∙ ap (λ k. tick (eqb x.number n) + k) rest
        ∙ sym (sum_by-cons counts x xs)

-- the instance at a place with the new intent, as the placement has it
pub renewed_at : (xs : List Instance) (place : ℕ) (intent : Intent) (i renewed : Instance) → IsOnce instance_number xs
    → place < length xs → i ≡ get_or xs place i → renewed ≡ record i { intent = intent }
    → set xs place renewed ≡ with_intent i.number intent xs
renewed_at xs place intent i renewed once low is new =
    ap (λ v. set xs place v) (new ∙ ap (λ (v : Instance). record v { intent = intent }) is)
    ∙ sym (changed_at instance_number (λ (v : Instance). record v { intent = intent }) xs place i once low)
    ∙ ap (λ (v : Instance). with_intent v.number intent xs) (sym is)

-- no instance with a new number
none_more : (next n : ℕ) → (0 ≤ 1) × (n < next → ◌≡◌ {A = ℕ} 0 0) × (next ≤ n → ◌≡◌ {A = ℕ} 0 0)
none_more next n = (omega arith, λ _. refl, λ _. refl)

-- a task that is only brought to the front leaves all sound
pub sound_fronted : (all : Tasks) (place : ℕ) (d : Task) → IsSound all → place < length all.tasks
    → IsSound (record all { tasks = get_or all.tasks place d ∷ remove all.tasks place })
sound_fronted all place d sound low =
    let room = room_at all place d sound low in
    sound_in_front all place d (get_or all.tasks place d).instances all.next_instance (λ _. 0) sound low room.0 room.1
    (omega arith) (λ n. omega arith) (λ n. none_more all.next_instance n)

-- and so does a fresh instance on what is kept of it
pub sound_put : (all : Tasks) (place kept : ℕ) (d : Task) (start : StartCall) → IsSound all → place < length all.tasks
    → kept ≤ length (get_or all.tasks place d).instances → kept < 64
    → IsSound (record all {
      tasks = record (get_or all.tasks place d) {
        instances = take kept (get_or all.tasks place d).instances
            ++ fresh all.next_instance start ∷ [];
      } ∷ remove all.tasks place;
      next_instance = all.next_instance + 1;
    })
sound_put all place kept d start sound low fits room =
    sound_in_front all place d (front ++ made ∷ []) (all.next_instance + 1) (one_at all.next_instance) sound low
    (omega (arith, count)) (omega (arith, count)) (omega arith) counted (one_next all.next_instance)
  where
    front : List Instance
    front = take kept (get_or all.tasks place d).instances

    made : Instance
    made = fresh all.next_instance start

    count : length (front ++ made ∷ []) ≡ kept + 1
    count = length_push front made ∙ ap (λ k. k + 1) (length-take-le kept (get_or all.tasks place d).instances fits)

    counted : (n : ℕ) → count_by (is_number n) (front ++ made ∷ []) ≤ count_in n (get_or all.tasks place d) + one_at
        all.next_instance n
    counted n = omega (
      arith,
      sum_by_push (λ (i : Instance). tick (eqb i.number n)) front made,
      sum_by-take-le
          (λ (i : Instance). tick (eqb i.number n)) (get_or all.tasks place d).instances kept,
    )

-- what is kept doesn't have more of any number, and has something
pub kept_least : (keeping : Keeping) (place : ℕ) (xs : List Instance) → IsOnce instance_number xs → place < length xs
    → ((n : ℕ) → count_by (is_number n) (kept_by keeping place xs) ≤ count_by (is_number n) xs)
    × (1 ≤ length (kept_by keeping place xs)) × (length (kept_by keeping place xs) ≤ length xs)
kept_least keeping place xs once low =
    let d : Instance = (at_there xs place low).0 in
    let kept = kept_as keeping place xs d once low in
    let sizes = length_at_most keeping place xs d low in
    (λ (n : ℕ). rw kept (counted_at_most keeping place xs d n low), rw kept sizes.0, rw kept sizes.1)

-- and so does a new intent
pub sound_renewed : (all : Tasks) (place : ℕ) (d : Task) (keeping : Keeping) (instance number : ℕ) (intent : Intent)
    → IsSound all → place < length all.tasks
    → instance < length (get_or all.tasks place d).instances
    → IsSound (record all {
      tasks = record (get_or all.tasks place d) {
        instances = with_intent number intent
            (kept_by keeping instance (get_or all.tasks place d).instances);
      } ∷ remove all.tasks place;
    })
sound_renewed all place d keeping instance number intent sound low there =
    let xs : List Instance = (get_or all.tasks place d).instances in
    let least = kept_least keeping instance xs (instances_stand_once all place d sound low) there in
    let same : length (with_intent number intent (kept_by keeping instance xs))
    ≡ length (kept_by keeping instance xs) = length-map (kept_by keeping instance xs) _ in
    let room = room_at all place d sound low in
    sound_in_front all place d (with_intent number intent (kept_by keeping instance xs)) all.next_instance (λ _. 0)
    sound low
    (omega (arith, least.1)) (omega (arith, least.2, room.1)) (omega arith)
    (λ n. omega (arith, count_with_intent number intent (kept_by keeping instance xs) n, least.0 n))
    (λ n. none_more all.next_instance n)

-- two parts that are the same
pub pair_of : {X Y : Type 0} (x x' : X) (y y' : Y) → x ≡ x' → y ≡ y' → ◌≡◌ {A = X × Y} (x, y) (x', y')
pair_of x x' y y' first second = rw (first, second) refl

-- the first elements up to a place have the same at it
pub front_same : {X : Type 0} (xs : List X) (place : ℕ) → place < length xs → slice_get (take (place + 1) xs) place
    ≡ slice_get xs place
front_same {X} xs place low =
    let d : X = (at_there xs place low).0 in
    let count = length-take-le (place + 1) xs (omega arith) in
    slice_get-get_or (take (place + 1) xs) place d (omega arith)
    ∙ ap Some (get_or-take (place + 1) xs place d (omega arith))
    ∙ sym (slice_get-get_or xs place d low)

-- what was moved to the top is as long as before
pub moved_length : {X : Type 0} (xs moved : List X) (place : ℕ) → place < length xs
    → ((d : X) → moved ≡ remove xs place ++ get_or xs place d ∷ []) → length moved ≡ length xs
moved_length {X} xs moved place low is =
    let d : X = (at_there xs place low).0 in
    ap length (is d) ∙ length_push (remove xs place) (get_or xs place d) ∙ length-remove xs place low

-- and has it on top
pub moved_same : {X : Type 0} (xs moved : List X) (place top : ℕ) → place < length xs
    → ((d : X) → moved ≡ remove xs place ++ get_or xs place d ∷ []) → top ≡ length xs - 1
    → slice_get moved top ≡ slice_get xs place
moved_same {X} xs moved place top low is last =
    let d : X = (at_there xs place low).0 in
    let whole = moved_length xs moved place low is in
    let rest = length-remove xs place low in
    slice_get-get_or moved top d (omega arith)
    ∙ ap (λ l. Some (get_or l top d)) (is d)
    ∙ ap Some (get_or_push (remove xs place) (get_or xs place d) d top (omega arith))
    ∙ sym (slice_get-get_or xs place d low)

-- an element that was read is the one at its place
pub same_at : {X : Type 0} (xs : List X) (place : ℕ) (x d : X) → place < length xs → x ≡ get_or xs place x → x
    ≡ get_or xs place d
same_at xs place x d low is = is ∙ get_or_default xs place x d low
