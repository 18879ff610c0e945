-- The state in which a manager of a sound device begins is sound.
use Rattle.std.proofs.Common.{◌≡◌, ℕ, ◌<◌, ◌≤◌, Bool, true, false, not, ◌&&◌, ◌||◌, cond, eqb, List, [], ◌∷◌, ◌++◌, length, map, refl, sym, ◌∙◌, subst, arith}
use Rattle.std.specs.Prelude.{All, codes, filter, Option, Some, None, Result, Ok, Err, ◌==◌, nat_lt}
use Rattle.std.specs.List.{AllByRecursion, count_by, fold, find}
use Rattle.std.specs.List.Sorted.{IsStrictlySortedBy}
use Rattle.std.specs.Cmp.Lexicographic.{bytes_decides}
use Rattle.std.proofs.lemmas.Bool.{leb-true, ltb-true, ltb-false, eqb-true}
use Rattle.std.proofs.lemmas.List.Elements.{All-from_recursion, recursion_from_All, All-weaker, All-nil}
use Rattle.std.proofs.lemmas.List.Sums.{length-filter}
use Rattle.am_types.specs.declared.device.Device.{Device}
use Rattle.am_types.specs.declared.device.Package.{Package}
use Rattle.am_types.specs.declared.device.Grant.{Grant}
use Rattle.am_types.specs.declared.device.Link.{Link}
use Rattle.am_types.specs.declared.resolve.Registration.{Registration}
use Rattle.am_types.specs.declared.manifest.Manifest.{Manifest}
use Rattle.am_keeper.specs.declared.rows.PackageRow.{PackageRow}
use Rattle.am_keeper.specs.declared.rows.GrantRow.{GrantRow}
use Rattle.am_keeper.specs.declared.rows.LinkRow.{LinkRow}
use Rattle.am_keeper.specs.declared.rows.Rows.{Rows}
use Rattle.am_model.specs.Texts.{is_same, lowered}
use Rattle.am_model.specs.Sound.{IsSound, IsSoundPackage, owner_keys, rights_granted, rights_approved, right_cmp}
use Rattle.am_model.specs.Boards.{Board, is_package_uid, with_grant, with_link}
use Rattle.am_model.specs.Rights.{of_grant, of_link}
use Rattle.am_installed.proofs.Orders.{fewer_grants, fewer_links, grants_in_order, links_in_order}
use Rattle.am_manifest.specs.Manifests.{IsAppManifest, IsSoundManifest}
use Rattle.am_manifest.proofs.Soundness.{manifest_sound}
use Rattle.am_history.specs.State.{State, opening, uid_after, uids_of}
use Rattle.am_history.specs.Packages.{removed}
use Rattle.am_history.specs.Opening.{place_package, kept_package, and_then_row, after_rows, after_grant, after_link, with_rights, has_too_many, unless_too_many, row_uids, completed, opened, opening_with}
use Rattle.am_history.specs.Desks.{Origin, state_or, opening_of}
use Rattle.am_history.proofs.OpeningLaws.{IfOpened, IsGoodRow, good_parts, rows_leave}
use Rattle.am_history.proofs.Uids.{below_max, max_is_above, of_first, of_last}
use Rattle.am_laws_state.specs.Sound.{IsSoundApp, AreSoundApps, AreSoundReceivers, IsSoundState}
use Rattle.am_laws.proofs.Openings.{IsSameElse, rights_else}
use Rattle.am_laws.proofs.Tests.{neither}
use Rattle.am_laws_state.proofs.FreeNames.{name_is_free, key_is_free}
use Rattle.am_laws_state.proofs.SoundPackages.{apps_inserted, apps_without, manifest_app}
use Rattle.am_laws_state.proofs.SoundRights.{IsHeld, AreFew, counted, held_through, inserted_stays, grants_held, links_held, rights_held_without}

-- grants and links in order, of installed packages
record IsHeldBoard (board : Board) : Type 0 where
  pub grants : IsStrictlySortedBy right_cmp (rights_granted board.grants)
  pub links : IsStrictlySortedBy right_cmp (rights_approved board.links)
  pub granted : All (IsHeld board.packages) (rights_granted board.grants)
  pub approved : All (IsHeld board.packages) (rights_approved board.links)

-- a permission is given or taken
after_grant_held : (board : Board) (row : GrantRow) → IsHeldBoard board → IsHeldBoard (after_grant board row)
after_grant_held board row held = by (is_package_uid board.packages row.uid) refl
  where
    by : (b : Bool) → is_package_uid board.packages row.uid ≡ b
        → IsHeldBoard (cond b (record board { grants = with_grant board.grants row.uid row.permission row.held }) board)
    by true live = record {
      grants = grants_in_order board.grants row.uid row.permission row.held held.grants;
      links = held.links;
      granted = grants_held board.packages board.grants row.uid row.permission row.held live held.granted;
      approved = held.approved;
    }
    by false live = held

-- a host is approved or not
after_link_held : (board : Board) (row : LinkRow) → IsHeldBoard board → IsHeldBoard (after_link board row)
after_link_held board row held = by (is_package_uid board.packages row.uid) (is_same (lowered row.host) row.host) refl
  where
    by : (b c : Bool) → is_package_uid board.packages row.uid ≡ b
        → IsHeldBoard (cond (b && c) (record board { links = with_link board.links row.uid row.host row.approved })
        board)
    by true true live = record {
      grants = held.grants;
      links = links_in_order board.links row.uid row.host row.approved held.links;
      granted = held.granted;
      approved = links_held board.packages board.links row.uid row.host row.approved live held.approved;
    }
    by true false live = held
    by false c live = held

-- rows of grants, one after the other
grant_rows_held : (board : Board) (rows : List GrantRow) → IsHeldBoard board → IsHeldBoard (fold after_grant board rows)
grant_rows_held board [] held = held
grant_rows_held board (row ∷ rows) held = grant_rows_held (after_grant board row) rows (after_grant_held board row held)

link_rows_held : (board : Board) (rows : List LinkRow) → IsHeldBoard board → IsHeldBoard (fold after_link board rows)
link_rows_held board [] held = held
link_rows_held board (row ∷ rows) held = link_rows_held (after_link board row) rows (after_link_held board row held)

next_is_above : (uids : List ℕ) → 10000 ≤ uid_after uids
next_is_above uids = let low = max_is_above 9999 uids in omega arith

-- what holds of uids holds of each package's
of_packages : (bound : ℕ) (packages : List Package) → AllByRecursion (λ uid. uid < bound) (uids_of packages)
    → AllByRecursion (λ (p : Package). p.uid < bound) packages
of_packages bound [] all = tt
of_packages bound (p ∷ ps) all = (all.0, of_packages bound ps all.1)

-- of each row's uid
of_rows : (bound : ℕ) (rows : List PackageRow) → AllByRecursion (λ uid. uid < bound)
    (map (λ (row : PackageRow). row.uid) rows)
    → AllByRecursion (λ (row : PackageRow). row.uid < bound) rows
of_rows bound [] all = tt
of_rows bound (row ∷ rows) all = (all.0, of_rows bound rows all.1)

-- a package of a sound device
sound_app : (p : Package) → IsSoundPackage p → IsSoundApp p
sound_app p sound = record {
  lowest = sound.lowest;
  name = sound.name;
  few = sound.few;
  classes = sound.classes;
  decls =
      sound.decls;
}

-- the packages of a sound device
device_apps : (device : Device) (bound : ℕ) → IsSound device → 10000 ≤ bound
    → AllByRecursion (λ uid. uid < bound) (uids_of device.packages)
    → AreSoundApps (owner_keys device.system_key device.root_key) device.packages bound
device_apps device bound sound high all = record {
  few = sound.packages.few;
  each = All-weaker IsSoundPackage IsSoundApp sound_app device.packages sound.packages.each;
  rising = sound.packages.rising;
  below = All-from_recursion (λ (p : Package). p.uid < bound) device.packages (of_packages bound device.packages all);
  next = high;
  names = sound.names;
  keys = sound.keys;
}

-- no receiver is registered yet
none_registered : AreSoundReceivers [] 1
none_registered = record { order = tt; below = All-nil _ }

-- the device's own state is sound
opening_sound : (device : Device) → IsSound device → IsSoundState (opening device)
opening_sound device sound = record {
  packages = device_apps device (uid_after (uids_of device.packages)) sound (next_is_above (uids_of device.packages))
      (below_max 9999 (uids_of device.packages));
  grants = sound.grants;
  links = sound.links;
  registered = none_registered;
}

-- while package rows are read: packages are sound up to a bound, rights are held, and no receiver is registered
record IsOpening (bound : ℕ) (state : State) : Type 0 where
  pub packages : AreSoundApps (owner_keys state.system_key state.root_key) state.board.packages bound
  pub held : IsHeldBoard state.board
  pub registered : state.board.registered ≡ []
  pub next : state.next_registration ≡ 1

-- a package row with its manifest
row_opens : (bound : ℕ) (state : State) (row : PackageRow) (manifest : Manifest) → row.uid < bound
    → IsAppManifest manifest → IsGoodRow state row manifest
    → IsOpening bound state → IsOpening bound (record state {
      board = record (state.board)
          { packages = place_package (kept_package row manifest) state.board.packages };
    })
row_opens bound state row manifest below app good opens =
    let named : manifest.«package» ≡ row.name = (bytes_decides manifest.«package» row.name).0 good.same in
    let apps = apps_inserted (owner_keys state.system_key state.root_key) state.board.packages bound p opens.packages
    (record {
      sound = manifest_app p (leb-true 10000 row.uid good.lowest)
          (subst (λ (name : List ℕ). IsSoundManifest (record manifest { «package» = name })) named app.sound);
      room = ltb-true (length state.board.packages) 256 good.room;
      new = good.new;
      below = below;
      name = (
        subst (λ (name : List ℕ). is_same (codes "android") name ≡ false) named app.other,
        name_is_free row.name
            state.board.packages good.name_unused,
      );
      key = key_is_free state.system_key state.root_key row.key state.board.packages good.key_unused;
    }) in
    let stays = inserted_stays p state.board.packages in
    record {
      packages = apps;
      held = record {
        grants = opens.held.grants;
        links = opens.held.links;
        granted = held_through state.board.packages (place_package p state.board.packages) _ stays opens.held.granted;
        approved = held_through state.board.packages (place_package p state.board.packages) _ stays opens.held.approved;
      };
      registered = opens.registered;
      next = opens.next;
    }
  where
    p : Package
    p = kept_package row manifest

-- a package that is gone
gone_opens : (bound uid : ℕ) (state : State) → IsOpening bound state
    → IsOpening bound (record state { board = removed state.board uid })
gone_opens bound uid state opens = record {
  packages = apps_without (owner_keys state.system_key state.root_key) state.board.packages bound uid opens.packages;
  held = record {
    grants = fewer_grants (λ (g : Grant). not (g.uid == uid)) state.board.grants opens.held.grants;
    links = fewer_links (λ (l : Link). not (l.uid == uid)) state.board.links opens.held.links;
    granted = rights_held_without of_grant state.board.packages state.board.grants uid opens.held.granted;
    approved = rights_held_without of_link state.board.packages state.board.links uid opens.held.approved;
  };
  registered = opens.registered;
  next = opens.next;
}

-- package rows, one after the other
rows_open : (bound : ℕ) (before : Result State (List ℕ)) (rows : List PackageRow)
    → AllByRecursion (λ (row : PackageRow). row.uid < bound) rows
    → IfOpened (IsOpening bound) before → IfOpened (IsOpening bound) (fold and_then_row before rows)
rows_open bound =
    rows_leave (IsOpening bound) (λ (row : PackageRow). row.uid < bound)
    (λ state row opens. gone_opens bound row.uid state opens)
    (λ state row manifest below is good opens.
    row_opens bound state row manifest below (manifest_sound row.text manifest is) (good_parts state row manifest good)
    opens)

-- nothing that is found passes the test
none_passes : {X : Type 0} (test : X → Bool) (xs : List X) → find test xs ≡ None
    → AllByRecursion (λ x. test x ≡ false) xs
none_passes test [] none = tt
none_passes test (x ∷ xs) none = by (test x) refl none (none_passes test xs)
  where
    by : (b : Bool) → test x ≡ b → cond b (Some x) (find test xs) ≡ None
        → (find test xs ≡ None → AllByRecursion (λ y. test y ≡ false) xs)
        → AllByRecursion (λ y. test y ≡ false) (x ∷ xs)
    by true is none rest = absurd cc
    by false is none rest = (is, rest none)

-- who isn't installed has no right
none_held : (packages : List Package) (rights : List (ℕ × List ℕ)) (uid : ℕ) → is_package_uid packages uid ≡ false
    → AllByRecursion (IsHeld packages) rights
    → length (filter (λ (right : ℕ × List ℕ). right.0 == uid) rights) ≡ 0
none_held packages [] uid gone held = refl
none_held packages (right ∷ rights) uid gone held = by (eqb right.0 uid) refl
    (none_held packages rights uid gone held.1)
  where
    left : List (ℕ × List ℕ)
    left = filter (λ (r : ℕ × List ℕ). r.0 == uid) rights

    by : (b : Bool) → eqb right.0 uid ≡ b → length left ≡ 0 → length (cond b (right ∷ left) left) ≡ 0
    by true is rest =
        let same : right.0 ≡ uid = eqb-true right.0 uid is in
        let live : is_package_uid packages uid ≡ true = subst (λ u. is_package_uid packages u ≡ true) same held.0 in
        absurd cc
    by false is rest = rest

-- who is installed has few, where each package has
few_of_each : (n : ℕ → ℕ) (packages : List Package) (uid : ℕ) → is_package_uid packages uid ≡ true
    → AllByRecursion (λ (p : Package). n p.uid ≤ 256) packages → n uid ≤ 256
few_of_each n [] uid live few = absurd cc
few_of_each n (p ∷ ps) uid live few = by (eqb p.uid uid) refl live (few_of_each n ps uid)
  where
    by : (b : Bool) → eqb p.uid uid ≡ b → b || is_package_uid ps uid ≡ true
        → (is_package_uid ps uid ≡ true → AllByRecursion (λ (q : Package). n q.uid ≤ 256) ps → n uid ≤ 256)
        → n uid ≤ 256
    by true is live rest = subst (λ u. n u ≤ 256) (eqb-true p.uid uid is) few.0
    by false is live rest = rest live few.1

-- a package has few of these rights
abbrev HasFewOf : List (ℕ × List ℕ) → Package → Type 0
HasFewOf rights p = count_by (λ (right : ℕ × List ℕ). right.0 == p.uid) rights ≤ 256

-- so no uid has more
few_of_all : (packages : List Package) (rights : List (ℕ × List ℕ)) → All (IsHeld packages) rights
    → AllByRecursion (HasFewOf rights) packages → AreFew rights
few_of_all packages rights held few uid = by (is_package_uid packages uid) refl
  where
    n : ℕ → ℕ
    n uid = count_by (λ (right : ℕ × List ℕ). right.0 == uid) rights

    by : (b : Bool) → is_package_uid packages uid ≡ b → n uid ≤ 256
    by true live = few_of_each n packages uid live few
    by false gone =
        let none = none_held packages rights uid gone (recursion_from_All (IsHeld packages) rights held) in
        omega (arith, length-filter (λ (right : ℕ × List ℕ). right.0 == uid) rights)

-- a package that has not too many grants and links has few of each
record HasFew (board : Board) (p : Package) : Type 0 where
  pub grants : HasFewOf (rights_granted board.grants) p
  pub links : HasFewOf (rights_approved board.links) p

has_few : (board : Board) (p : Package) → has_too_many board p ≡ false → HasFew board p
has_few board p few =
    let parts = neither (nat_lt 256 (count_by (λ (g : Grant). g.uid == p.uid) board.grants))
    (nat_lt 256 (count_by (λ (l : Link). l.uid == p.uid) board.links)) few in
    let grants = ltb-false 256 (count_by (λ (g : Grant). g.uid == p.uid) board.grants) parts.0 in
    let links = ltb-false 256 (count_by (λ (l : Link). l.uid == p.uid) board.links) parts.1 in
    record {
      grants = subst (λ n. n ≤ 256) (sym (length-filter (λ (g : Grant). g.uid == p.uid) board.grants)
          ∙ sym (counted of_grant p.uid board.grants)) grants;
      links = subst (λ n. n ≤ 256) (sym (length-filter (λ (l : Link). l.uid == p.uid) board.links)
          ∙ sym (counted of_link p.uid board.links)) links;
    }

-- what having few means of a package holds of each
each_few : (board : Board) (P : Package → Type 0) → ((p : Package) → HasFew board p → P p) → (packages : List Package)
    → AllByRecursion (λ (p : Package). has_too_many board p ≡ false) packages → AllByRecursion P packages
each_few board P own [] few = tt
each_few board P own (p ∷ ps) few = (own p (has_few board p few.0), each_few board P own ps few.1)

-- the state with all rights that were kept, if no package has too many
completed_sound : (device : Device) (rows : Rows) (state : State) → IsOpening
    (uid_after (uids_of device.packages ++ row_uids rows)) state
    → find (has_too_many (with_rights state.board rows)) (with_rights state.board rows).packages ≡ None
    → IsSoundState (completed device rows state)
completed_sound device rows state opens none = record {
  packages = subst (λ (ps : List Package). AreSoundApps (owner_keys state.system_key state.root_key) ps bound)
      (sym same.packages) opens.packages;
  grants = record {
    order = held.grants;
    holders = held.granted;
    few = few_of_all board.packages (rights_granted board.grants) held.granted
        (each_few board (HasFewOf (rights_granted board.grants)) (λ p own. own.grants) board.packages few);
  };
  links = record {
    order = held.links;
    holders = held.approved;
    few = few_of_all board.packages (rights_approved board.links) held.approved
        (each_few board (HasFewOf (rights_approved board.links)) (λ p own. own.links) board.packages few);
  };
  registered = subst (λ (n : ℕ). AreSoundReceivers board.registered n) (sym opens.next)
      (subst (λ (registered : List Registration). AreSoundReceivers registered 1)
      (sym (same.registered ∙ opens.registered)) none_registered);
}
  where
    bound : ℕ
    bound = uid_after (uids_of device.packages ++ row_uids rows)

    granted : Board
    granted = fold after_grant state.board rows.grants

    board : Board
    board = with_rights state.board rows

    held : IsHeldBoard board
    held = link_rows_held granted rows.links (grant_rows_held state.board rows.grants opens.held)

    same : IsSameElse state.board board
    same = rights_else state.board rows

    few : AllByRecursion (λ (p : Package). has_too_many board p ≡ false) board.packages
    few = none_passes (has_too_many board) board.packages none

-- a state that isn't refused is sound
abbrev IsSoundIfOk : Result State (List ℕ) → Type 0
IsSoundIfOk = IfOpened IsSoundState

-- the packages were opened
opened_sound : (device : Device) (rows : Rows) (state : Result State (List ℕ))
    → IfOpened (IsOpening (uid_after (uids_of device.packages ++ row_uids rows))) state
    → IsSoundIfOk (opened device rows state)
opened_sound device rows (Err name) opens = tt
opened_sound device rows (Ok state) opens = by (find (has_too_many board) board.packages) refl
  where
    board : Board
    board = with_rights state.board rows

    by : (found : Option Package) → find (has_too_many board) board.packages ≡ found
        → IsSoundIfOk (unless_too_many (completed device rows state) found)
    by None none = completed_sound device rows state opens none
    by (Some owner) none = tt

-- a sound device is opened with rows
with_rows_sound : (device : Device) (rows : Rows) → IsSound device → IsSoundIfOk (opening_with device rows)
unfolding opening_with
with_rows_sound device rows sound =
    opened_sound device rows (after_rows (opening device) rows.packages)
    (rows_open bound (Ok (opening device)) rows.packages (of_rows bound rows.packages
    (of_first (λ uid. uid < bound) (map (λ (row : PackageRow). row.uid) rows.packages) _ last))
    (record {
      packages = device_apps device bound sound (next_is_above uids)
          (of_first (λ uid. uid < bound) (uids_of device.packages) (row_uids rows) all);
      held = record {
        grants = sound.grants.order;
        links = sound.links.order;
        granted = sound.grants.holders;
        approved =
            sound.links.holders;
      };
      registered = refl;
      next = refl;
    }))
  where
    uids : List ℕ
    uids = uids_of device.packages ++ row_uids rows

    bound : ℕ
    bound = uid_after uids

    all : AllByRecursion (λ uid. uid < bound) uids
    all = below_max 9999 uids

    last : AllByRecursion (λ uid. uid < bound) (row_uids rows)
    last = of_last (λ uid. uid < bound) (uids_of device.packages) (row_uids rows) all

-- the state, or another that is sound
either_sound : (other : State) (state : Result State (List ℕ)) → IsSoundState other → IsSoundIfOk state
    → IsSoundState (state_or other state)
either_sound other (Ok state) sound one = one
either_sound other (Err name) sound one = sound

-- a manager of a sound device begins in a sound state
pub opening_is_sound : (origin : Origin) → IsSound origin.device → IsSoundState (opening_of origin)
opening_is_sound origin sound =
    either_sound (opening origin.device) (opening_with origin.device origin.rows) (opening_sound origin.device sound)
    (with_rows_sound origin.device origin.rows sound)
