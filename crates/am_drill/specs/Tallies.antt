-- How a tally is printed.
use Rattle.std.specs.Prelude.{ℕ, ◌==◌, codes, decimal, List, [], ◌∷◌, ◌++◌, if◌then◌else◌}
use Rattle.std.specs.List.{count_by, range_with_len}
use Rattle.am_drill.specs.declared.tally.Tally.{Tally}

-- how often a status came
abbrev pub times : List ℕ → ℕ → ℕ
times statuses status = count_by (λ s. s == status) statuses

-- the line of a status, if it came
unfoldable pub line_of : List ℕ → ℕ → List ℕ
line_of statuses status =
    if times statuses status == 0 then []
    else decimal status ++ (codes " " ++ (decimal (times statuses status) ++ codes "\n"))

-- the lines of statuses, one after the other
abbrev pub lines_of : List ℕ → List ℕ → List ℕ
lines_of statuses [] = []
lines_of statuses (status ∷ more) = line_of statuses status ++ lines_of statuses more

-- the statuses of HTTP in rising order
unfoldable pub all_statuses : List ℕ
all_statuses = range_with_len 100 500

-- a tally as it is printed: the statuses that came, each with how often it came, then the length of the history
unfoldable pub printed : Tally → List ℕ
printed tally = lines_of tally.statuses all_statuses ++ (codes "history " ++ (decimal tally.history ++ codes "\n"))
