-- Numbers that follow from one number.
use Rattle.std.specs.Prelude.{ℕ, zero, suc, ◌+◌, ◌*◌, ◌/◌, ◌%◌}

-- the state that begins with a number
unfoldable pub seed : ℕ → ℕ
seed number = number % 2147483648

-- the state after one draw
unfoldable pub next : ℕ → ℕ
next state = (state * 1103515245 + 12345) % 2147483648

-- the state after so many draws
abbrev pub after : ℕ → ℕ → ℕ
after zero state = state
after (suc n) state = after n (next state)

-- what a draw gives, and so the state after it
unfoldable pub given : ℕ → ℕ
given state = state / 65536

-- what the draw after n others gives, modulo m
abbrev pub draw : ℕ → ℕ → ℕ → ℕ
draw n m state = given (next (after n state)) % m
