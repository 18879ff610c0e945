-- The sooner of two moments.
use Rattle.std.specs.Prelude.{ℕ, Option, Some, None}
use Rattle.am_model.specs.Broadcasts.{earlier}

-- the sooner of two moments, if there is any
abbrev pub sooner : Option ℕ → Option ℕ → Option ℕ
sooner None other = other
sooner (Some moment) other = Some (earlier moment other)
