-- Numbers that tell components apart.
use Rattle.std.specs.Prelude.{ℕ, ◌+◌, ◌*◌, ◌%◌, ◌^◌, List, fold}
use Rattle.am_types.specs.declared.intent.Component.{Component}

-- for each byte in turn: 31 times the number so far plus the byte, each within 64 bits
abbrev pub with_byte : ℕ → ℕ → ℕ
with_byte mark byte = ((mark * 31) % 2 ^ 64 + byte) % 2 ^ 64

-- the number of all bytes
unfoldable pub mark_of_bytes : List ℕ → ℕ
mark_of_bytes bytes = fold with_byte 0 bytes

-- the number of a component's class
abbrev pub mark_of : Component → ℕ
mark_of component = mark_of_bytes component.class
