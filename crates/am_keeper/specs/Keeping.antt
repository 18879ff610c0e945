-- What puts do to the rows that a keeper tells.
use Rattle.std.specs.Prelude.{◌≡◌, ◌≢◌, ◌↔◌, ℕ, ◌+◌, ◌≤◌, min, Bool, nat_eq, List, Option, Some, None, Result, Ok, Err, is_some, if◌then◌else◌}
use Rattle.std.specs.Option.{option_map}
use Rattle.std.specs.Cmp.Lexicographic.{pointwise}
use Rattle.am_outside.specs.Counts.{HasRisen}
use Rattle.am_keeper.specs.declared.failure.KeepFail.{KeepFail}
use Rattle.am_keeper.specs.declared.failure.KeepFail.TheVariants.{Failed}
use Rattle.am_keeper.specs.declared.rows.Row.{Row}
use Rattle.am_keeper.specs.declared.rows.Rows.{Rows}
use Rattle.am_keeper.specs.Rows.{with_row}

-- after Ok the row is put, and after a failure the rows are the same as before
abbrev pub Puts : {X : Type 0} → (Rows → Rows) → Option Rows → Option Rows → Result X KeepFail → Type 0
Puts with_it old new (Ok done) = new ≡ option_map with_it old
Puts with_it old new (Err fail) = new ≡ old

-- a count that rose by a number, up to the greatest 64-bit number
abbrev pub raised_by : ℕ → ℕ → ℕ
raised_by more count = min (count + more) 18446744073709551615

-- rows are told if and only if they were
abbrev pub TellsAsBefore : Option Rows → Option Rows → Type 0
TellsAsBefore old new = is_some new ≡ is_some old

-- what can be said about a keeper at a moment: the rows that it tells, their place, whether its store is honest so far
-- and for good, and how many faults and puts there were
pub record Seen : Type 1 where
  pub rows : Option Rows
  pub place : Option (List ℕ)
  pub honest : Type 0
  pub for_good : Type 0
  pub faults : ℕ
  pub puts : ℕ

-- a keeper was asked once to put a row, and gave this answer: the row is put, or the rows are as before; its place and
-- whether its store is honest for good stay; and a fault is counted if and only if it failed
pub record IsAsked {X : Type 0} (row : Row) (old new : Seen) (answer : Result X KeepFail) : Type 0 where
  pub rows : new.honest → Puts (λ told. with_row told row) old.rows new.rows answer
  pub tells : TellsAsBefore old.rows new.rows
  pub place : new.place ≡ old.place
  pub was_honest : new.honest → old.honest
  pub for_good : new.for_good ↔ old.for_good
  pub puts : new.puts ≡ raised_by 1 old.puts
  pub never_falls : old.faults ≤ new.faults
  pub failed : answer ≡ Err Failed → HasRisen old.faults new.faults
  pub only_failed : answer ≢ Err Failed → new.faults ≡ old.faults

-- what a keeper tells at a moment: its ghosts, in the order of the parts
abbrev pub seen_by : {K : Type 0} → (K → Option Rows) → (K → Option (List ℕ)) → (K → Type 0) → (K → Type 0)
    → (K → ℕ) → (K → ℕ) → K → Seen
seen_by rows place honest for_good faults puts keeper = record {
  rows = rows keeper;
  place = place keeper;
  honest = honest keeper;
  for_good = for_good keeper;
  faults = faults keeper;
  puts = puts keeper;
}

-- by what it tells before and after, a keeper was asked once to put a row, and gave this answer
abbrev pub IsAskedBy : {K X : Type 0} → (K → Option Rows) → (K → Option (List ℕ)) → (K → Type 0) → (K → Type 0)
    → (K → ℕ) → (K → ℕ) → Row → K → K → Result X KeepFail → Type 0
IsAskedBy rows place honest for_good faults puts row old new =
    IsAsked row (seen_by rows place honest for_good faults puts old) (seen_by rows place honest for_good faults puts new)

-- two texts have the same bytes
abbrev pub same_text : List ℕ → List ℕ → Bool
same_text = pointwise nat_eq

-- the rows at a path once rows came back to a place
abbrev pub rows_after : Option (List ℕ) → Rows → List ℕ → Rows → Rows
rows_after None told at before = before
rows_after (Some place) told at before = if same_text place at then told else before
