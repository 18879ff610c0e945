-- The state in which a manager begins.
use Rattle.std.proofs.Common.{◌≡◌, ℕ, ◌+◌, ◌≤◌, Bool, true, false, ◌||◌, ◌==◌, nat_le, nat_lt, List, [], ◌∷◌, length, map, cond, Option, Some, None, Result, Ok, Err, refl, ap, ◌∙◌, append-nil, arith}
use Rattle.std.specs.List.{AllByRecursion, count_by, find, fold}
use Rattle.std.proofs.lemmas.Bool.{and_parts, not-true}
use Rattle.am_types.specs.declared.device.Device.{Device}
use Rattle.am_types.specs.declared.device.Package.{Package}
use Rattle.am_types.specs.declared.device.Link.{Link}
use Rattle.am_types.specs.declared.manifest.Manifest.{Manifest}
use Rattle.am_types.specs.declared.manifest.ManifestFault.{ManifestFault}
use Rattle.am_keeper.specs.declared.rows.PackageRow.{PackageRow}
use Rattle.am_keeper.specs.Rows.{no_rows}
use Rattle.am_model.specs.Rights.{Right, of_grant, of_link}
use Rattle.am_model.specs.Sound.{IsSound, is_access_key}
use Rattle.am_model.specs.Texts.{is_same}
use Rattle.am_model.specs.Boards.{board_of, is_package_uid}
use Rattle.am_manifest.specs.Manifests.{manifest_of}
use Rattle.am_history.specs.State.{State, opening, uid_after, uids_of, with_packages}
use Rattle.am_history.specs.Packages.{is_key_used, is_name_used, no_uid, removed}
use Rattle.am_history.specs.Desks.{opening_of, state_or}
use Rattle.am_history.specs.Opening.{after_row, and_then_row, opening_with, completed, has_too_many, is_row_good, kept_package, place_package, unless_too_many, with_read}

module _ {R : Type 0} (right_of : R → Right) where
  -- counting goes on in the same way
  counted_from : (uid n : ℕ) (rights : List R)
      → fold (λ a (r : R). a + cond ((right_of r).0 == uid) 1 0) n rights
      ≡ fold (λ a (r : Right). a + cond (r.0 == uid) 1 0) n (map right_of rights)
  counted_from uid n [] = refl
  counted_from uid n (right ∷ rights) = counted_from uid (n + cond ((right_of right).0 == uid) 1 0) rights

  -- as many of a uid as rights of it
  count_rights : (uid : ℕ) (rights : List R) → count_by (λ (r : R). (right_of r).0 == uid) rights
      ≡ count_by (λ (r : Right). r.0 == uid) (map right_of rights)
  count_rights uid rights = counted_from uid 0 rights

-- a number that is at most another isn't above it
not_above : (n : ℕ) → n ≤ 256 → nat_lt 256 n ≡ false
not_above n small = grind (arith, small)

-- no package of a sound device has too many grants or links
few_rights : (device : Device) → IsSound device → (owner : Package) → has_too_many (board_of device) owner ≡ false
few_rights device sound owner =
    ap (λ b. b || nat_lt 256 (count_by (λ (l : Link). l.uid == owner.uid) device.links))
    (ap (λ n. nat_lt 256 n) (count_rights of_grant owner.uid device.grants) ∙ not_above _ (sound.grants.few owner.uid))
    ∙ ap (λ n. nat_lt 256 n) (count_rights of_link owner.uid device.links) ∙ not_above _ (sound.links.few owner.uid)

-- none is found where the test fails of each
none_found : {X : Type 0} (p : X → Bool) → ((x : X) → p x ≡ false) → (xs : List X) → find p xs ≡ None
none_found p never [] = refl
none_found p never (x ∷ xs) = ap (λ b. cond b (Some x) (find p xs)) (never x) ∙ none_found p never xs

-- without rows the device's own uids alone count
same_uids : (device : Device) → completed device no_rows (opening device) ≡ opening device
same_uids device = ap (λ uids. record (opening device) { next_uid = uid_after uids })
    (append-nil (uids_of device.packages))

-- without rows a sound device is opened as it is
pub no_rows_open_the_device : (device : Device) → IsSound device → opening_with device no_rows ≡ Ok (opening device)
unfolding opening_with
no_rows_open_the_device device sound =
    ap (λ after. unless_too_many after (find (has_too_many after.board) after.board.packages)) (same_uids device)
    ∙ ap (unless_too_many (opening device)) (none_found (has_too_many (board_of device)) (few_rights device sound)
    device.packages)

-- a manager of a sound device that kept nothing begins with the device's own state
pub opening_without_rows : (device : Device) (place : Option (List ℕ)) → IsSound device
    → opening_of (record { device = device; rows = no_rows; place = place }) ≡ opening device
opening_without_rows device place sound = ap (state_or (opening device)) (no_rows_open_the_device device sound)

-- what is asked of a package row
pub record IsGoodRow (state : State) (row : PackageRow) (manifest : Manifest) : Type 0 where
  pub same : is_same manifest.«package» row.name ≡ true
  pub lowest : nat_le 10000 row.uid ≡ true
  pub new : is_package_uid state.board.packages row.uid ≡ false
  pub key : is_access_key row.key ≡ true
  pub name_unused : is_name_used state.board.packages row.name ≡ false
  pub key_unused : is_key_used state row.key ≡ false
  pub room : nat_lt (length state.board.packages) 256 ≡ true

pub good_parts : (state : State) (row : PackageRow) (manifest : Manifest) → is_row_good state row manifest ≡ true
    → IsGoodRow state row manifest
good_parts state row manifest good =
    let first = and_parts _ _ good in
    let second = and_parts _ _ first.0 in
    let third = and_parts _ _ second.0 in
    let fourth = and_parts _ _ third.0 in
    let fifth = and_parts _ _ fourth.0 in
    let sixth = and_parts _ _ fifth.0 in
    record {
      same = sixth.0;
      lowest = sixth.1;
      new = not-true _ fifth.1;
      key = fourth.1;
      name_unused = not-true _ third.1;
      key_unused = not-true _ second.1;
      room = first.1;
    }

-- nothing is asked of rows
pub nothing_asked : (rows : List PackageRow) → AllByRecursion (λ (row : PackageRow). Unit {0}) rows
nothing_asked [] = tt
nothing_asked (row ∷ rows) = (tt, nothing_asked rows)

module _ (P : State → Type 0) where
  -- what holds of a state that isn't refused
  abbrev pub IfOpened : Result State (List ℕ) → Type 0
  IfOpened (Ok state) = P state
  IfOpened (Err name) = Unit {0}

  -- where each package row leaves it
  module _ (Q : PackageRow → Type 0)
      (gone : (state : State) (row : PackageRow) → P state → P (record state { board = removed state.board row.uid }))
      (read : (state : State) (row : PackageRow) (manifest : Manifest) → Q row → manifest_of row.text ≡ Ok manifest
      → is_row_good state row manifest ≡ true
      → P state → P (with_packages state (place_package (kept_package row manifest) state.board.packages))) where
    read_leaves : (state : State) (row : PackageRow) (manifest : Result Manifest ManifestFault) → Q row
        → manifest_of row.text ≡ manifest → P state
        → IfOpened (with_read state row manifest)
    read_leaves state row (Err fault) asked is here = tt
    read_leaves state row (Ok manifest) asked is here = by (is_row_good state row manifest) refl
      where
        by : (b : Bool) → is_row_good state row manifest ≡ b
            → IfOpened (cond b (Ok (with_packages state (place_package (kept_package row manifest)
            state.board.packages))) (Err row.name))
        by true good = read state row manifest asked is good here
        by false good = tt

    row_leaves : (state : State) (row : PackageRow) → Q row → P state → IfOpened (after_row state row)
    row_leaves state row asked here = by (row.uid == no_uid) row.gone
      where
        by : (none gone : Bool) → IfOpened (cond none (Err row.name)
            (cond gone (Ok (record state { board = removed state.board row.uid }))
            (with_read state row (manifest_of row.text))))
        by true c = tt
        by false true = gone state row here
        by false false = read_leaves state row (manifest_of row.text) asked refl here

    -- all of them, one after the other, do
    pub rows_leave : (before : Result State (List ℕ)) (rows : List PackageRow) → AllByRecursion Q rows → IfOpened before
        → IfOpened (fold and_then_row before rows)
    rows_leave before [] asked here = here
    rows_leave before (row ∷ rows) asked here = rows_leave (and_then_row before row) rows asked.1 (by before here)
      where
        by : (state : Result State (List ℕ)) → IfOpened state → IfOpened (and_then_row state row)
        by (Err name) one = tt
        by (Ok state) one = row_leaves state row asked.0 one
