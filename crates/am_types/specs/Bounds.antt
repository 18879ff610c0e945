-- Bounds that more than one crate names.
use Rattle.std.specs.Prelude.{ℕ}

-- the last moment that a device reaches, in milliseconds since 1970: 2^62
abbrev pub latest_moment : ℕ
latest_moment = 4611686018427387904

-- up to this number of a task, an instance, a token, a broadcast or a start there are numbers left for a call: 2^50
abbrev pub greatest_number : ℕ
greatest_number = 1125899906842624

-- the most bytes of a request's body
abbrev pub longest_body : ℕ
longest_body = 65536

-- the most bytes of a manifest's text
abbrev pub longest_manifest : ℕ
longest_manifest = 65536
