-- Laws of gates: who is always admitted, and that a grant never keeps out.
use Rattle.std.proofs.Common.{◌≡◌, ℕ, Bool, true, false, not, ◌&&◌, ◌||◌, cond, List, refl, ap, ◌∙◌}
use Rattle.std.specs.Prelude.{◌==◌, Option, Some, None}
use Rattle.std.specs.List.{list_any}
use Rattle.std.proofs.lemmas.Bool.{eq-eqb, and_from, or_right}
use Rattle.std.specs.Cmp.Lexicographic.{bytes_decides}
use Rattle.am_types.specs.declared.device.Grant.{Grant}
use Rattle.am_model.specs.Texts.{is_same}
use Rattle.am_model.specs.Boards.{is_grant, is_granted, with_grant}
use Rattle.am_model.specs.Lists.{inserted}
use Rattle.am_model.specs.Rights.{before_right, of_grant}
use Rattle.am_model.proofs.Lists.{any_inserted, none_left}
use Rattle.am_model.specs.Gates.{Verdict, Admit, NotExported, NeedsPermission, is_privileged, permission_verdict, verdict}

-- admitted by one test, or by what follows
admit_either : (test : Bool) (after : Verdict) → after ≡ Admit → cond test Admit after ≡ Admit
admit_either true after admitted = refl
admit_either false after admitted = admitted

-- a test that succeeds admits
admit_by : (test : Bool) (after : Verdict) → test ≡ true → cond test Admit after ≡ Admit
admit_by true after succeeds = refl
admit_by false after succeeds = cc

-- the owner is always admitted
pub owner_is_admitted : (grants : List Grant) (uid : ℕ) (exported : Bool) (permission : Option (List ℕ))
    → verdict grants uid uid exported permission ≡ Admit
owner_is_admitted grants uid exported permission =
    admit_either (is_privileged uid) _ (admit_by (uid == uid) _ (eq-eqb uid uid refl))

-- the system is always admitted
pub system_is_admitted : (grants : List Grant) (owner : ℕ) (exported : Bool) (permission : Option (List ℕ))
    → verdict grants 1000 owner exported permission ≡ Admit
system_is_admitted grants owner exported permission = refl

-- the root is always admitted
pub root_is_admitted : (grants : List Grant) (owner : ℕ) (exported : Bool) (permission : Option (List ℕ))
    → verdict grants 0 owner exported permission ≡ Admit
root_is_admitted grants owner exported permission = refl

-- an exported component without a permission admits everyone
pub open_admits_all : (grants : List Grant) (caller owner : ℕ) → verdict grants caller owner true None ≡ Admit
open_admits_all grants caller owner = admit_either (is_privileged caller) _ (admit_either (caller == owner) _ refl)

-- where one verdict admits if another does, they do so behind the same tests
admit_behind : (privileged own exported : Bool) (before after : Verdict) → (before ≡ Admit → after ≡ Admit)
    → cond privileged Admit (cond own Admit (cond (not exported) NotExported before)) ≡ Admit
    → cond privileged Admit (cond own Admit (cond (not exported) NotExported after)) ≡ Admit
admit_behind true own exported before after follows admitted = refl
admit_behind false true exported before after follows admitted = refl
admit_behind false false true before after follows admitted = follows admitted
admit_behind false false false before after follows admitted = admitted

-- who holds a permission still holds it
hold_still : (privileged before after : Bool) (permission : List ℕ) → (before ≡ true → after ≡ true)
    → cond (privileged || before) Admit (NeedsPermission permission) ≡ Admit
    → cond (privileged || after) Admit (NeedsPermission permission) ≡ Admit
hold_still true before after permission follows admitted = refl
hold_still false true after permission follows admitted = admit_by after _ (follows refl)
hold_still false false after permission follows admitted = cc

-- whom a permission admitted it still admits where the caller was granted no less
permission_still : (grants more : List Grant) (caller : ℕ) (permission : Option (List ℕ))
    → ((asked : List ℕ) → is_granted grants caller asked ≡ true → is_granted more caller asked ≡ true)
    → permission_verdict grants caller permission ≡ Admit → permission_verdict more caller permission ≡ Admit
permission_still grants more caller None keeps admitted = refl
permission_still grants more caller (Some permission) keeps admitted =
    hold_still (is_privileged caller) (is_granted grants caller permission) (is_granted more caller permission)
    permission (keeps permission) admitted

-- where the caller was granted no less, it is admitted where it was
pub more_grants_admit : (grants more : List Grant) (caller owner : ℕ) (exported : Bool) (permission : Option (List ℕ))
    → ((asked : List ℕ) → is_granted grants caller asked ≡ true → is_granted more caller asked ≡ true)
    → verdict grants caller owner exported permission ≡ Admit → verdict more caller owner exported permission ≡ Admit
more_grants_admit grants more caller owner exported permission keeps admitted =
    admit_behind (is_privileged caller) (caller == owner) exported _ _
    (permission_still grants more caller permission keeps) admitted

-- a grant stands before another
abbrev before : Grant → Grant → Bool
before = before_right of_grant

-- a grant that was there is there whether or not another is placed
kept_either : (test : Grant → Bool) (there : Bool) (grant : Grant) (grants : List Grant) → list_any test grants ≡ true
    → list_any test (cond there grants (inserted before grant grants)) ≡ true
kept_either test true grant grants granted = granted
kept_either test false grant grants granted = any_inserted before test grant grants ∙ or_right (test grant) _ granted

-- what was granted is granted after one more grant
pub grant_keeps : (grants : List Grant) (uid : ℕ) (permission : List ℕ) (caller : ℕ) (asked : List ℕ)
    → is_granted grants caller asked ≡ true → is_granted (with_grant grants uid permission true) caller asked ≡ true
grant_keeps grants uid permission caller asked granted = kept_either (is_grant caller asked)
    (is_granted grants uid permission) _ grants granted

-- a grant more never keeps out who was admitted
pub grant_admits : (grants : List Grant) (uid : ℕ) (given : List ℕ) (caller owner : ℕ) (exported : Bool)
    (permission : Option (List ℕ))
    → verdict grants caller owner exported permission ≡ Admit → verdict (with_grant grants uid given true) caller owner
    exported permission ≡ Admit
grant_admits grants uid given caller owner exported permission admitted =
    more_grants_admit grants (with_grant grants uid given true) caller owner exported permission
    (grant_keeps grants uid given caller) admitted

-- a uid and a permission are the same as themselves
is_its_own : (uid : ℕ) (permission : List ℕ) → (uid == uid) && is_same permission permission ≡ true
is_its_own uid permission = and_from (uid == uid) (is_same permission permission) (eq-eqb uid uid refl)
    ((bytes_decides permission permission).1 refl)

-- a grant that was there, or is placed, is there
there_or_placed : (test : Grant → Bool) (there : Bool) (grant : Grant) (grants : List Grant) → list_any test grants
    ≡ there → test grant ≡ true
    → list_any test (cond there grants (inserted before grant grants)) ≡ true
there_or_placed test true grant grants is own = is
there_or_placed test false grant grants is own = any_inserted before test grant grants
    ∙ ap (λ b. b || list_any test grants) own

-- who was granted a permission holds it
pub grant_is_held : (grants : List Grant) (uid : ℕ) (permission : List ℕ)
    → is_granted (with_grant grants uid permission true) uid permission ≡ true
grant_is_held grants uid permission = there_or_placed (is_grant uid permission) (is_granted grants uid permission) _
    grants refl (is_its_own uid permission)

-- a grant that was taken back is granted no more
pub grant_is_taken_back : (grants : List Grant) (uid : ℕ) (permission : List ℕ)
    → is_granted (with_grant grants uid permission false) uid permission ≡ false
grant_is_taken_back grants uid permission = none_left (is_grant uid permission) grants
