-- What a sound device opens as is sound.
use Rattle.std.proofs.Common.{◌≡◌, ℕ, ◌≤◌, not, List, refl, sym, ap, ◌∙◌, subst, arith}
use Rattle.std.specs.Prelude.{All, IfOk, IsTrue, Option, Some, None, Result, Ok, Err, ◌==◌}
use Rattle.std.specs.List.{AllByRecursion, fold, find}
use Rattle.std.proofs.lemmas.List.Elements.{All-from_recursion, recursion_from_All, All-weaker}
use Rattle.am_types.specs.declared.device.Device.{Device}
use Rattle.am_types.specs.declared.device.Package.{Package}
use Rattle.am_keeper.specs.declared.rows.PackageRow.{PackageRow}
use Rattle.am_keeper.specs.declared.rows.Rows.{Rows}
use Rattle.am_model.specs.Boards.{Board}
use Rattle.am_model.specs.Sound.{IsSound, IsSoundPackage, is_access_key, owner_keys}
use Rattle.am_model.proofs.Lists.{all_inserted, all_left}
use Rattle.am_history.specs.State.{State, opening}
use Rattle.am_history.specs.Packages.{no_uid}
use Rattle.am_history.specs.Opening.{before_package, kept_package, and_then_row, after_rows, has_too_many, unless_too_many, completed, opened, opening_with, with_rights}
use Rattle.am_history.specs.Desks.{state_or, opening_of}
use Rattle.am_history.proofs.OpeningLaws.{IfOpened, good_parts, nothing_asked, rows_leave}
use Rattle.am_laws.proofs.Openings.{opening_leaves}
use Rattle.am_laws_state.specs.Sound.{IsSoundApp, IsSoundState}
use Rattle.am_laws_state.proofs.SoundOpenings.{opening_is_sound}
use Rattle.am_opening.specs.declared.opened.Opened.{Opened}
use Rattle.am_opening.specs.declared.opened.BeginFault.{BeginFault}
use Rattle.am_opening.specs.Openings.{Opens, state_of}
use Rattle.am_opening.proofs.Completing.{rights_are}

-- the package has a key of the right form
abbrev HasKey : Package → Type 0
HasKey p = IsTrue (is_access_key p.key)

-- the packages of a state have keys, if it isn't refused
abbrev HaveKeys : Result State (List ℕ) → Type 0
HaveKeys = IfOpened (λ (state : State). AllByRecursion HasKey state.board.packages)

rows_keys : (before : Result State (List ℕ)) (rows : List PackageRow) → HaveKeys before
    → HaveKeys (fold and_then_row before rows)
rows_keys before rows all =
    rows_leave (λ (state : State). AllByRecursion HasKey state.board.packages) (λ (row : PackageRow). Unit {0})
    (λ state row one. all_left HasKey (λ (p : Package). not (p.uid == row.uid)) state.board.packages one)
    (λ state row manifest asked is good one.
    all_inserted before_package HasKey (kept_package row manifest) state.board.packages
    ((good_parts state row manifest good).key) one)
    before rows (nothing_asked rows) all

opened_keys : (device : Device) (rows : Rows) (state : Result State (List ℕ)) → HaveKeys state
    → HaveKeys (opened device rows state)
opened_keys device rows (Err name) all = tt
opened_keys device rows (Ok state) all = by (find (has_too_many (with_rights state.board rows))
    (with_rights state.board rows).packages)
  where
    same : (with_rights state.board rows).packages ≡ state.board.packages
    same = ap (λ (b : Board). b.packages) (rights_are state.board rows)

    by : (found : Option Package) → HaveKeys (unless_too_many (completed device rows state) found)
    by None = subst (λ (ps : List Package). AllByRecursion HasKey ps) (sym same) all
    by (Some owner) = tt

-- the packages that a sound device opens with have keys of the right form
device_keys : (device : Device) (rows : Rows) → IsSound device → HaveKeys (opening_with device rows)
unfolding opening_with
device_keys device rows sound =
    opened_keys device rows (after_rows (opening device) rows.packages)
    (rows_keys (Ok (opening device)) rows.packages
    (recursion_from_All HasKey device.packages (All-weaker IsSoundPackage HasKey (λ p one. one.key) device.packages
    sound.packages.each)))

-- the state has the keys of the device's system and root
record HasOwners (device : Device) (state : State) : Type 0 where
  pub system_key : state.system_key ≡ device.system_key
  pub root_key : state.root_key ≡ device.root_key

owners_stay : (device : Device) (rows : Rows) → HasOwners device (opening_of
    (record { device = device; rows = rows; place = None }))
owners_stay device rows =
    opening_leaves (HasOwners device) (λ state board uid same owners. record
    { system_key = owners.system_key; root_key = owners.root_key })
    (record { device = device; rows = rows; place = None }) (record { system_key = refl; root_key = refl })

-- what a sound device opens as is sound
pub opened_is_sound : (device : Device) (rows : Rows) (first : Opened) → IsSound device → first.next_uid ≤ no_uid
    → opening_with device rows ≡ Ok (state_of first) → IsSound first.device
opened_is_sound device rows first sound fits is = record {
  packages = record {
    few = state.packages.few;
    each = λ k d h.
        let one : IsSoundApp (_) = state.packages.each k d h in
        let below = state.packages.below k d h in
        record {
          lowest = one.lowest;
          greatest = omega (arith, below, fits);
          name = one.name;
          key = keys k d h;
          few = one.few;
          classes = one.classes;
          decls = one.decls;
        };
    rising = state.packages.rising;
  };
  names = state.packages.names;
  owners = subst (λ (ks : List (List ℕ)). All (λ key. IsTrue (is_access_key key)) ks) (sym same_owners) sound.owners;
  keys = state.packages.keys;
  grants = state.grants;
  links = state.links;
}
  where
    same : opening_of (record { device = device; rows = rows; place = None }) ≡ state_of first
    same = ap (state_or (opening device)) is

    state : IsSoundState (state_of first)
    state = subst IsSoundState same (opening_is_sound (record { device = device; rows = rows; place = None }) sound)

    owners : HasOwners device (state_of first)
    owners = subst (HasOwners device) same (owners_stay device rows)

    same_owners : owner_keys first.device.system_key first.device.root_key
        ≡ owner_keys device.system_key device.root_key
    same_owners = ap (λ key. owner_keys key first.device.root_key) owners.system_key
        ∙ ap (owner_keys device.system_key) owners.root_key

    keys : All HasKey first.device.packages
    keys = All-from_recursion HasKey first.device.packages (subst HaveKeys is (device_keys device rows sound))

-- and so is what a function answers
pub answered_is_sound : (device : Device) (rows : Rows) (result : Result Opened BeginFault) → IsSound device
    → Opens result (opening_with device rows)
    → IfOk result (λ first. first.next_uid ≤ no_uid) → IfOk result (λ first. IsSound first.device)
answered_is_sound device rows (Ok first) sound opens fits = opened_is_sound device rows first sound fits opens
answered_is_sound device rows (Err fault) sound opens fits = tt
