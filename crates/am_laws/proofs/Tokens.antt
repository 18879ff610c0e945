-- The records of tokens, whatever is done with pending intents.
use Rattle.std.proofs.Common.{◌≡◌, ℕ, ◌+◌, ◌≤◌, Bool, true, false, not, cond, List, [], ◌∷◌, ◌++◌, map, refl, arith}
use Rattle.std.specs.Prelude.{All, Option, Some, None, Result, Ok, Err, ◌==◌, nat_le, length}
use Rattle.std.specs.List.{Contains, find}
use Rattle.std.proofs.lemmas.List.Elements.{All-weaker, All-filter, All-map, All-contains_itself}
use Rattle.am_types.specs.declared.pending.PendingFault.{PendingFault}
use Rattle.am_types.specs.declared.pending.PendingFault.TheVariants.{Mutability, Full, NotCreator, HoldersFull}
use Rattle.am_model.specs.Pendings as pendings
use Rattle.am_model.specs.Pendings.{Pending, Pendings, Asked, has_key, is_clear, count_of, fresh, made, found, updated, without_token, with_holder, record_of, canceled, given, is_holder}
use Rattle.am_history.specs.PendingCalls.{left_of}
use Rattle.am_laws.proofs.Tests.{either_holds}

-- the next token, if there are records, is at most that
abbrev pub GotTo : ℕ → Result (Option ℕ × Pendings) PendingFault → Type 0
GotTo n (Ok got) = got.1.next ≤ n
GotTo n (Err fault) = Unit {0}

-- a record that may be made
made_got : (n : ℕ) (all : Pendings) (stay : List Pending) (asked : Asked) → all.next ≤ n
    → GotTo (n + 1) (made all stay asked)
made_got n all stay asked few =
    either_holds (GotTo (n + 1)) asked.flags.no_create (Ok (None, record all { records = stay }))
    (cond (nat_le 1024 (count_of stay asked.creator)) (Err Full) one) (omega arith)
    (either_holds (GotTo (n + 1)) (nat_le 1024 (count_of stay asked.creator)) (Err Full) one tt (omega arith))
  where
    one : Result (Option ℕ × Pendings) PendingFault
    one = Ok (Some all.next, record { records = stay ++ fresh all.next asked ∷ []; next = all.next + 1 })

-- a record that may be found
found_got : (n : ℕ) (all : Pendings) (asked : Asked) (kept : Option Pending) → all.next ≤ n
    → GotTo (n + 1) (found all asked kept)
found_got n all asked None few = made_got n all all.records asked few
found_got n all asked (Some kept) few =
    either_holds (GotTo (n + 1)) asked.flags.cancel_current (made all (without_token all.records kept.token) asked)
    (cond asked.flags.update_current other same)
    (made_got n all (without_token all.records kept.token) asked few)
    (either_holds (GotTo (n + 1)) asked.flags.update_current other same (omega arith) (omega arith))
  where
    other : Result (Option ℕ × Pendings) PendingFault
    other = Ok (Some kept.token, record all { records = map (updated kept.token asked.intent.extras) all.records })

    same : Result (Option ℕ × Pendings) PendingFault
    same = Ok (Some kept.token, all)

-- a token that is asked for
pub get_gives_one : (n : ℕ) (all : Pendings) (asked : Asked) → all.next ≤ n → GotTo (n + 1) (pendings.get all asked)
unfolding pendings.get
get_gives_one n all asked few =
    either_holds (GotTo (n + 1)) (is_clear asked.flags) (found all asked kept) (Err Mutability)
    (found_got n all asked kept few) tt
  where
    kept : Option Pending
    kept = find (has_key asked) all.records

-- the record is among these, whoever else holds its token
abbrev pub IsHeld : List Pending → Pending → Type 0
IsHeld records kept = (holders : List ℕ) × Contains records (record kept { holders = holders })

-- each record is held that is there
pub held_itself : (records : List Pending) → All (IsHeld records) records
held_itself records = All-weaker (Contains records) (IsHeld records) (λ kept one. (kept.holders, one)) records
    (All-contains_itself records)

-- the next token is as before, and no record is new
pub record AreLeft (before after : Pendings) : Type 0 where
  pub next : after.next ≡ before.next
  pub records : All (IsHeld before.records) after.records

-- nothing changed
all_left : (all : Pendings) → AreLeft all all
all_left all = record { next = refl; records = held_itself all.records }

-- and so for what a change left, if there was one
abbrev pub Keeps : Pendings → Result Pendings PendingFault → Type 0
Keeps all (Ok left) = AreLeft all left
Keeps all (Err fault) = Unit {0}

-- a record that may be canceled
canceled_keeps : (all : Pendings) (uid : ℕ) (kept : Option Pending) → Keeps all (canceled all uid kept)
canceled_keeps all uid None = tt
canceled_keeps all uid (Some kept) =
    either_holds (Keeps all) (kept.creator == uid)
    (Ok (record all { records = without_token all.records kept.token })) (Err NotCreator)
    (record {
      next = refl;
      records = All-filter (λ (other : Pending). not (other.token == kept.token)) (IsHeld all.records) all.records
          (held_itself all.records);
    }) tt

-- a token that is canceled
pub cancel_keeps : (all : Pendings) (token uid : ℕ) → Keeps all (pendings.cancel all token uid)
unfolding pendings.cancel
cancel_keeps all token uid = canceled_keeps all uid (record_of all token)

-- a record that may be given
given_keeps : (all : Pendings) (uid to : ℕ) (kept : Option Pending) → Keeps all (given all uid to kept)
given_keeps all uid to None = tt
given_keeps all uid to (Some kept) =
    either_holds (Keeps all) (not (kept.creator == uid)) (Err NotCreator) _ tt
    (either_holds (Keeps all) (is_holder kept to) (Ok all) _ (all_left all)
    (either_holds (Keeps all) (nat_le 64 (length kept.holders)) (Err HoldersFull) held tt (record {
      next = refl;
      records = All-map (IsHeld all.records) (with_holder kept.token to) all.records
          (All-weaker (IsHeld all.records) (λ (other : Pending). IsHeld all.records (with_holder kept.token to other))
          (λ other was. by other was (other.token == kept.token)) all.records (held_itself all.records));
    })))
  where
    held : Result Pendings PendingFault
    held = Ok (record all { records = map (with_holder kept.token to) all.records })

    by : (other : Pending) → IsHeld all.records other → (b : Bool)
        → IsHeld all.records (cond b (record other { holders = other.holders ++ to ∷ [] }) other)
    by other was true = was
    by other was false = was

-- a token that is given
pub give_keeps : (all : Pendings) (token uid to : ℕ) → Keeps all (pendings.give all token uid to)
unfolding pendings.give
give_keeps all token uid to = given_keeps all uid to (record_of all token)

-- a token that is used up
pub used_up_keeps : (all : Pendings) (left : Result Pendings PendingFault) → Keeps all left
    → AreLeft all (left_of all left)
used_up_keeps all (Ok left) kept = kept
used_up_keeps all (Err fault) kept = all_left all
