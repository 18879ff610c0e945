-- Queues of ordered broadcasts: the head's turn, and the broadcasts that wait after the head.
use Rattle.std.specs.Prelude.{◌≡◌, ℕ, Bool, true, false, List, [], ◌∷◌, is_none}
use Rattle.std.specs.List.{list_all}
use Rattle.am_model.specs.Broadcasts as broadcasts
use Rattle.am_model.specs.Broadcasts.{InTurn, Doing, turn, is_over, result_of}
use Rattle.am_model.specs.Sending.{is_current}

-- the head's first receiver did this
abbrev pub head_turned : Doing → List InTurn → List InTurn
head_turned doing [] = []
head_turned doing (head ∷ others) = turn doing head ∷ others

-- the head has a delivery with this number
abbrev pub is_head : ℕ → List InTurn → Bool
is_head number [] = false
is_head number (head ∷ others) = is_current number head.current

-- the head is over
abbrev pub is_head_over : List InTurn → Bool
is_head_over [] = false
is_head_over (head ∷ others) = is_over head

-- the broadcasts after the head
abbrev pub behind_head : List InTurn → List InTurn
behind_head [] = []
behind_head (head ∷ others) = others

-- the result that the head leaves
abbrev pub head_result : ℕ → List InTurn → List broadcasts.Result
head_result delivery [] = []
head_result delivery (head ∷ others) = result_of delivery head

-- the broadcast has no delivery
abbrev pub waits : InTurn → Bool
waits broadcast = is_none broadcast.current

-- no broadcast after the head has a delivery
abbrev pub AllWait : List InTurn → Type 0
AllWait queue = list_all waits (behind_head queue) ≡ true
