-- Numbers that are kept for each app, and how they follow what is counted.
use Rattle.std.specs.Prelude.{◌≡◌, ℕ, ◌+◌, ◌≤◌, ◌==◌, List, unwrap_or, if◌then◌else◌}
use Rattle.std.specs.Map.{lookup}
use Rattle.std.specs.BTreeMap.{is_at}
use Rattle.std.specs.Ordering.{nat_cmp}
use Rattle.std.specs.List.{count_by}
use Rattle.am_model.specs.Broadcasts as broadcasts
use Rattle.am_model.specs.Broadcasts.{InTurn}

-- the number of an app
abbrev pub count_of : List (ℕ × ℕ) → ℕ → ℕ
count_of counts uid = unwrap_or (lookup (is_at (nat_cmp uid)) counts) 0

-- one for the app in question, zero for every other
abbrev pub one_for : ℕ → ℕ → ℕ
one_for uid other = if other == uid then 1 else 0

-- how many ordered broadcasts of a sender are in a queue
abbrev pub queued_of : List InTurn → ℕ → ℕ
queued_of queue sender = count_by (λ (b : InTurn). b.sender == sender) queue

-- how many results of a sender there are
abbrev pub results_of : List broadcasts.Result → ℕ → ℕ
results_of results sender = count_by (λ (r : broadcasts.Result). r.sender == sender) results

-- each number is at least the count of what there is
abbrev pub Covers : List (ℕ × ℕ) → (ℕ → ℕ) → Type 0
Covers counts there_is = (uid : ℕ) → there_is uid ≤ count_of counts uid

-- the numbers changed by as much as the counts did, from what there was to what there is
abbrev pub Follows : List (ℕ × ℕ) → List (ℕ × ℕ) → (ℕ → ℕ) → (ℕ → ℕ) → Type 0
Follows before after there_was there_is = (uid : ℕ) → count_of after uid + there_was uid
    ≡ count_of before uid + there_is uid
