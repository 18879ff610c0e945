-- The place that a response gives for its call.
use Rattle.std.specs.Prelude.{◌≡◌, ℕ, ◌^◌, ◌<◌, Bool, codes, List, ◌++◌}
use Rattle.am_http.specs.Responses.{head, place_lines}

-- the bytes begin as a response to a call at that place, which is stored or not
pub record HasMark (bytes : List ℕ) (at : ℕ) (stored : Bool) : Type 0 where
  pub status : ℕ
  pub length : ℕ
  pub rest : List ℕ
  pub fits : (status < 2 ^ 64) × (length < 2 ^ 64) × (at < 2 ^ 64)
  pub begins : bytes ≡ head status length ++ (place_lines at stored ++ rest)

-- the bytes begin as a response to a call that wasn't made
pub record HasNoMark (bytes : List ℕ) : Type 0 where
  pub status : ℕ
  pub length : ℕ
  pub rest : List ℕ
  pub fits : (status < 2 ^ 64) × (length < 2 ^ 64)
  pub begins : bytes ≡ head status length ++ (codes "AM-Stored: 0\r\n" ++ rest)

-- no other place of a call than this is the one that the bytes begin with, and they begin with one
pub record SaysOnly (bytes : List ℕ) (at : ℕ) (stored : Bool) : Type 0 where
  pub place : (other : ℕ) (others : Bool) → HasMark bytes other others → (other ≡ at) × (others ≡ stored)
  pub made : HasNoMark bytes → ⊥
