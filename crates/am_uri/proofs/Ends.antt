-- What ends an authority or a path is ASCII.
use Rattle.std.proofs.Common.{◌≡◌, ℕ, ◌<◌, ◌==◌, ◌||◌, true, inl, inr, arith}
use Rattle.std.proofs.lemmas.Bool.{or_cases, eqb-true}
use Rattle.am_model.specs.Uris.{ends_authority, ends_path, phone_ends_authority}

pub ends_path-ascii : (b : ℕ) → ends_path b ≡ true → b < 128
ends_path-ascii b h = elim (or_cases (b == 63) (b == 35) h) [
  | inl mark ↦ omega (arith, eqb-true b 63 mark)
  | inr sign ↦ omega (arith, eqb-true b 35 sign)
]

pub ends_authority-ascii : (b : ℕ) → ends_authority b ≡ true → b < 128
ends_authority-ascii b h = elim (or_cases ((b == 47) || (b == 63)) (b == 35) h) [
  | inl first ↦ elim (or_cases (b == 47) (b == 63) first) [
    | inl slash ↦ omega (arith, eqb-true b 47 slash)
    | inr mark ↦ omega (arith, eqb-true b 63 mark)
  ]
  | inr sign ↦ omega (arith, eqb-true b 35 sign)
]

pub phone_ends_authority-ascii : (b : ℕ) → phone_ends_authority b ≡ true → b < 128
phone_ends_authority-ascii b h = elim (or_cases (ends_authority b) (b == 92) h) [
  | inl end ↦ ends_authority-ascii b end
  | inr backslash ↦ omega (arith, eqb-true b 92 backslash)
]
