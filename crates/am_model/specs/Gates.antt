-- Whether a caller may reach a component.
use Rattle.std.specs.Prelude.{ℕ, Bool, ◌||◌, ◌==◌, not, List, if◌then◌else◌, Option, Some, None}
use Rattle.am_types.specs.declared.device.Grant.{Grant}
use Rattle.am_model.specs.Boards.{is_granted}

-- the verdict on a caller: admitted, or refused since the component isn't exported, or since the caller lacks a
-- permission
pub data Verdict : Type 0 where
  Admit : Verdict
  NotExported : Verdict
  NeedsPermission : List ℕ → Verdict

-- the system and the root
abbrev pub is_privileged : ℕ → Bool
is_privileged uid = (uid == 0) || (uid == 1000)

-- the system and the root hold every permission, an app those that were granted to it
abbrev pub holds : List Grant → ℕ → List ℕ → Bool
holds grants uid permission = is_privileged uid || is_granted grants uid permission

-- the verdict when a permission is asked for, or none
abbrev pub permission_verdict : List Grant → ℕ → Option (List ℕ) → Verdict
permission_verdict grants caller None = Admit
permission_verdict grants caller (Some permission) =
    if holds grants caller permission then Admit else NeedsPermission permission

-- the verdict on a caller of a component: the system, the root and the owner are admitted, others if it is
-- exported and they hold its permission
abbrev pub verdict : List Grant → ℕ → ℕ → Bool → Option (List ℕ) → Verdict
verdict grants caller owner exported permission =
    if is_privileged caller then Admit
    else if caller == owner then Admit
    else if not exported then NotExported
    else permission_verdict grants caller permission
