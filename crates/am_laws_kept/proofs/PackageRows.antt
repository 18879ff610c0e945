-- Package rows, read one after the other.
use Rattle.std.proofs.Common.{◌≡◌, ℕ, ◌<◌, ◌≤◌, Bool, true, false, not, ◌||◌, cond, eqb, ltb, List, [], ◌∷◌, length, refl, sym, ap, ◌∙◌, subst, arith}
use Rattle.std.specs.Prelude.{filter, Result, Ok, Err, ◌==◌, nat_le, nat_lt}
use Rattle.std.specs.List.{AllByRecursion, fold, list_any}
use Rattle.std.specs.List.Sorted.{IsStrictlySortedBy}
use Rattle.std.proofs.lemmas.Bool.{ltb-true, ltb-false, lt-ltb, eqb-true, eqb-false, and_from, or_parts, or_from, not_from_false, not_from_true}
use Rattle.am_types.specs.declared.device.Package.{Package}
use Rattle.am_types.specs.declared.device.Grant.{Grant}
use Rattle.am_types.specs.declared.device.Link.{Link}
use Rattle.am_types.specs.declared.manifest.Manifest.{Manifest}
use Rattle.am_types.specs.declared.manifest.ManifestFault.{ManifestFault}
use Rattle.am_keeper.specs.declared.rows.PackageRow.{PackageRow}
use Rattle.am_model.specs.Boards.{is_package_uid, grants_without, links_without}
use Rattle.am_model.specs.Sound.{is_access_key, right_cmp, rights_approved, rights_granted}
use Rattle.am_model.specs.Texts.{is_same}
use Rattle.am_installed.proofs.Orders.{fewer_grants, fewer_links}
use Rattle.am_manifest.specs.Manifests.{manifest_of}
use Rattle.am_history.specs.State.{State, with_packages}
use Rattle.am_history.specs.Packages.{no_uid, is_key_used, is_name_used, is_root_key, removed}
use Rattle.am_history.proofs.OpeningLaws.{good_parts}
use Rattle.am_history.specs.Opening.{before_package, place_package, kept_package, is_row_good, with_read, after_row, and_then_row}
use Rattle.am_model.proofs.Lists.{all_inserted, all_left, left_twice, length_left}
use Rattle.am_laws_kept.proofs.Placed.{Ascends, ascends_left, ascends_inserted, inserted_left, inserted_out, left_either}

-- the state without a package, its grants and its links
abbrev pub without_uid : State → ℕ → State
without_uid state uid = record state { board = removed state.board uid }

-- the state with the package of a row
abbrev pub with_row_package : State → PackageRow → Manifest → State
with_row_package state row manifest = with_packages state (place_package (kept_package row manifest)
    state.board.packages)

-- while package rows are read: packages, grants and links are in order, and no package has the greatest uid
pub record IsRead (state : State) : Type 0 where
  pub packages : Ascends before_package state.board.packages
  pub below : AllByRecursion (λ (p : Package). eqb p.uid no_uid ≡ false) state.board.packages
  pub grants : IsStrictlySortedBy right_cmp (rights_granted state.board.grants)
  pub links : IsStrictlySortedBy right_cmp (rights_approved state.board.links)

-- a row that isn't refused is that of a package that is gone, or adds a package
pub row_cases : (state after : State) (row : PackageRow) → after_row state row ≡ Ok after → (P : State → Type 0)
    → (eqb row.uid no_uid ≡ false → row.gone ≡ true → P (without_uid state row.uid))
    → (eqb row.uid no_uid ≡ false → row.gone ≡ false → (manifest : Manifest) → manifest_of row.text ≡ Ok manifest
    → is_row_good state row manifest ≡ true
    → P (with_row_package state row manifest))
    → P after
row_cases state after row reads P on_gone on_placed = by (row.uid == no_uid) row.gone refl refl reads
  where
    good : eqb row.uid no_uid ≡ false → row.gone ≡ false → (manifest : Manifest) → manifest_of row.text ≡ Ok manifest
        → (b : Bool) → is_row_good state row manifest ≡ b
        → cond {A = Result State (List ℕ)} b (Ok (with_row_package state row manifest)) (Err row.name) ≡ Ok after
        → P after
    good is stays manifest written true passes e = let same : with_row_package state row manifest
        ≡ after = cc in subst P same (on_placed is stays manifest written passes)
    good is stays manifest written false passes e = absurd cc

    read : eqb row.uid no_uid ≡ false → row.gone ≡ false → (manifest : Result Manifest ManifestFault)
        → manifest_of row.text ≡ manifest
        → with_read state row manifest ≡ Ok after → P after
    read is stays (Err fault) written e = absurd cc
    read is stays (Ok manifest) written e = good is stays manifest written (is_row_good state row manifest) refl e

    by : (b c : Bool) → eqb row.uid no_uid ≡ b → row.gone ≡ c
        → cond b (Err row.name) (cond c (Ok (without_uid state row.uid)) (with_read state row (manifest_of row.text)))
        ≡ Ok after → P after
    by true c is stays e = absurd cc
    by false true is stays e = let same : without_uid state row.uid ≡ after = cc in subst P same (on_gone is stays)
    by false false is stays e = read is stays (manifest_of row.text) refl e

-- a row of a package that is gone
pub gone_row_read : (state : State) (row : PackageRow) → eqb row.uid no_uid ≡ false → row.gone ≡ true
    → after_row state row ≡ Ok (without_uid state row.uid)
gone_row_read state row is gone =
    ap (λ b. cond b (Err row.name) (cond row.gone (Ok (without_uid state row.uid))
    (with_read state row (manifest_of row.text)))) is
    ∙ ap (λ b. cond b (Ok (without_uid state row.uid)) (with_read state row (manifest_of row.text))) gone

-- a row that adds a package
pub package_row_read : (state : State) (row : PackageRow) (manifest : Manifest) → eqb row.uid no_uid ≡ false → row.gone
    ≡ false → manifest_of row.text ≡ Ok manifest
    → is_row_good state row manifest ≡ true → after_row state row ≡ Ok (with_row_package state row manifest)
package_row_read state row manifest is stays written good =
    ap (λ b. cond b (Err row.name) (cond row.gone (Ok (without_uid state row.uid))
    (with_read state row (manifest_of row.text)))) is
    ∙ ap (λ b. cond b (Ok (without_uid state row.uid)) (with_read state row (manifest_of row.text))) stays
    ∙ ap (with_read state row) written
    ∙ ap (λ b. cond b (Ok (with_row_package state row manifest)) (Err row.name)) good

-- one uid below another, which is below a third
before_package_through : (x y z : Package) → before_package x y ≡ true → before_package y z ≡ true → before_package x z
    ≡ true
before_package_through x y z less more =
    let first : x.uid < y.uid = ltb-true x.uid y.uid less in
    let second : y.uid < z.uid = ltb-true y.uid z.uid more in
    lt-ltb x.uid z.uid (omega arith)

-- packages of other uids stand before or behind
all_apart : (p : Package) (ps : List Package) → is_package_uid ps p.uid ≡ false
    → AllByRecursion (λ q. before_package p q ≡ false → before_package q p ≡ true) ps
all_apart p [] new = tt
all_apart p (q ∷ qs) new =
    let parts = or_parts (eqb q.uid p.uid) (is_package_uid qs p.uid) new in
    (λ is. behind is parts.0, all_apart p qs parts.1)
  where
    behind : ltb p.uid q.uid ≡ false → eqb q.uid p.uid ≡ false → before_package q p ≡ true
    behind is also =
        let low : q.uid ≤ p.uid = ltb-false p.uid q.uid is in
        let other : q.uid ≡ p.uid → ⊥ = eqb-false q.uid p.uid also in
        lt-ltb q.uid p.uid (omega arith)

-- a package goes with its rights
pub gone_is_read : (state : State) (uid : ℕ) → IsRead state → IsRead (without_uid state uid)
gone_is_read state uid read = record {
  packages = ascends_left before_package (λ (p : Package). not (p.uid == uid)) state.board.packages read.packages;
  below = all_left (λ (p : Package). eqb p.uid no_uid ≡ false) (λ (p : Package). not (p.uid == uid))
      state.board.packages read.below;
  grants = fewer_grants (λ (g : Grant). not (g.uid == uid)) state.board.grants read.grants;
  links = fewer_links (λ (l : Link). not (l.uid == uid)) state.board.links read.links;
}

pub good_from : (state : State) (row : PackageRow) (manifest : Manifest) → is_same manifest.«package» row.name ≡ true
    → nat_le 10000 row.uid ≡ true
    → is_package_uid state.board.packages row.uid ≡ false → is_access_key row.key ≡ true
    → is_name_used state.board.packages row.name ≡ false
    → is_key_used state row.key ≡ false → nat_lt (length state.board.packages) 256 ≡ true
    → is_row_good state row manifest ≡ true
good_from state row manifest same lowest new key name_unused key_unused room =
    and_from _ _ (and_from _ _ (and_from _ _ (and_from _ _ (and_from _ _ (and_from _ _ same lowest)
    (not_from_false _ new)) key) (not_from_false _ name_unused))
    (not_from_false _ key_unused)) room

-- a row that isn't refused leaves all in order
pub row_is_read : (state after : State) (row : PackageRow) → after_row state row ≡ Ok after → IsRead state
    → IsRead after
row_is_read state after row reads read = row_cases state after row reads IsRead
    (λ is gone. gone_is_read state row.uid read) placed
  where
    placed : eqb row.uid no_uid ≡ false → row.gone ≡ false → (manifest : Manifest) → manifest_of row.text ≡ Ok manifest
        → is_row_good state row manifest ≡ true
        → IsRead (with_row_package state row manifest)
    placed is stays manifest written good =
        let p = kept_package row manifest in
        let parts = good_parts state row manifest good in
        record {
          packages = ascends_inserted before_package before_package_through p state.board.packages
              (all_apart p state.board.packages parts.new) read.packages;
          below = all_inserted before_package (λ (p : Package). eqb p.uid no_uid ≡ false) p state.board.packages is
              read.below;
          grants = read.grants;
          links = read.links;
        }

-- what no one passes none of those that are left passes
none_left : {X : Type 0} (test keeps : X → Bool) (xs : List X) → list_any test xs ≡ false
    → list_any test (filter keeps xs) ≡ false
none_left test keeps [] none = none
none_left test keeps (x ∷ xs) none =
    let parts = or_parts (test x) (list_any test xs) none in by (keeps x) parts.0 (none_left test keeps xs parts.1)
  where
    by : (b : Bool) → test x ≡ false → list_any test (filter keeps xs) ≡ false
        → list_any test (cond b (x ∷ filter keeps xs) (filter keeps xs)) ≡ false
    by true is rest = or_from (test x) (list_any test (filter keeps xs)) is rest
    by false is rest = rest

-- a row that is good is good where a package less is there
good_without : (state : State) (row : PackageRow) (manifest : Manifest) (uid : ℕ) → is_row_good state row manifest
    ≡ true → is_row_good (without_uid state uid) row manifest ≡ true
good_without state row manifest uid good =
    let parts = good_parts state row manifest good in
    let keys = or_parts (is_same state.system_key row.key || is_root_key state.root_key row.key)
    (list_any (λ (p : Package). is_same p.key row.key) state.board.packages) parts.key_unused in
    good_from (without_uid state uid) row manifest parts.same parts.lowest
    (none_left (λ (p : Package). p.uid == row.uid) keeps state.board.packages parts.new) parts.key
    (none_left (λ (p : Package). is_same p.name row.name) keeps state.board.packages parts.name_unused)
    (or_from _ _ keys.0 (none_left (λ (p : Package). is_same p.key row.key) keeps state.board.packages keys.1))
    (let few : length state.board.packages < 256 = ltb-true (length state.board.packages) 256 parts.room in
    let left = length_left keeps state.board.packages in
    lt-ltb (length (filter keeps state.board.packages)) 256 (omega arith))
  where
    keeps : Package → Bool
    keeps p = not (p.uid == uid)

-- the state with other packages, grants and links
abbrev with_lists : State → List Package → List Grant → List Link → State
with_lists state packages grants links = record state {
  board = record (state.board)
      { packages = packages; grants = grants; links = links };
}

same_lists : (state : State) {ps qs : List Package} {gs hs : List Grant} {ks ls : List Link} → ps ≡ qs → gs ≡ hs → ks
    ≡ ls → with_lists state ps gs ks ≡ with_lists state qs hs ls
same_lists state {ps} {qs} {gs} {hs} {ks} {ls} p g l =
    ap (λ (x : List Package). with_lists state x gs ks) p ∙ ap (λ (x : List Grant). with_lists state qs x ks) g
    ∙ ap (λ (x : List Link). with_lists state qs hs x) l

-- in which order two packages go doesn't count
gone_either : (state : State) (one other : ℕ) → without_uid (without_uid state one) other
    ≡ without_uid (without_uid state other) one
gone_either state one other =
    same_lists state (left_either (λ (p : Package). not (p.uid == other)) (λ (p : Package). not (p.uid == one))
    state.board.packages)
    (left_either (λ (g : Grant). not (g.uid == other)) (λ (g : Grant). not (g.uid == one)) state.board.grants)
    (left_either (λ (l : Link). not (l.uid == other)) (λ (l : Link). not (l.uid == one)) state.board.links)

-- nor does it count that one goes twice
gone_twice : (state : State) (uid : ℕ) → without_uid (without_uid state uid) uid ≡ without_uid state uid
gone_twice state uid =
    same_lists state (left_twice (λ (p : Package). not (p.uid == uid)) state.board.packages)
    (left_twice (λ (g : Grant). not (g.uid == uid)) state.board.grants)
    (left_twice (λ (l : Link). not (l.uid == uid)) state.board.links)

-- the row of another uid does the same where a package is gone
row_without : (state after : State) (row : PackageRow) (uid : ℕ) → eqb row.uid uid ≡ false → IsRead state
    → after_row state row ≡ Ok after
    → after_row (without_uid state uid) row ≡ Ok (without_uid after uid)
row_without state after row uid other read reads =
    row_cases state after row reads (λ (s : State). after_row (without_uid state uid) row ≡ Ok (without_uid s uid))
    (λ is gone. gone_row_read (without_uid state uid) row is gone ∙ ap (λ (s : State). Ok s)
    (gone_either state uid row.uid)) placed
  where
    keeps : Package → Bool
    keeps p = not (p.uid == uid)

    placed : eqb row.uid no_uid ≡ false → row.gone ≡ false → (manifest : Manifest) → manifest_of row.text ≡ Ok manifest
        → is_row_good state row manifest ≡ true
        → after_row (without_uid state uid) row ≡ Ok (without_uid (with_row_package state row manifest) uid)
    placed is stays manifest written good =
        let p = kept_package row manifest in
        let same : place_package p (filter keeps state.board.packages)
        ≡ filter keeps (place_package p state.board.packages) =
        sym (inserted_left before_package before_package_through keeps p state.board.packages
        (not_from_false (eqb row.uid uid) other) read.packages) in
        package_row_read (without_uid state uid) row manifest is stays written
        (good_without state row manifest uid good)
        ∙ ap (λ (ps : List Package). Ok (with_lists state ps (grants_without state.board.grants uid)
        (links_without state.board.links uid))) same

-- a package of which the row was read goes
row_undone : (state after : State) (row : PackageRow) (uid : ℕ) → eqb row.uid uid ≡ true → after_row state row
    ≡ Ok after → without_uid after uid ≡ without_uid state uid
row_undone state after row uid same reads =
    row_cases state after row reads (λ (s : State). without_uid s uid ≡ without_uid state uid)
    (λ is gone. ap (λ (u : ℕ). without_uid (without_uid state u) uid) (eqb-true row.uid uid same)
    ∙ gone_twice state uid)
    (λ is stays manifest written good. placed manifest)
  where
    keeps : Package → Bool
    keeps p = not (p.uid == uid)

    placed : (manifest : Manifest) → without_uid (with_row_package state row manifest) uid ≡ without_uid state uid
    placed manifest =
        let p = kept_package row manifest in
        let left : filter keeps (place_package p state.board.packages) ≡ filter keeps state.board.packages =
        inserted_out before_package keeps p state.board.packages (not_from_true (eqb row.uid uid) same) in
        ap (λ (ps : List Package). with_lists state ps (grants_without state.board.grants uid)
        (links_without state.board.links uid)) left

-- one row is read, then the others
pub record IsReadFirst (state : State) (row : PackageRow) (rows : List PackageRow) (after : State) : Type 0 where
  pub next : State
  pub first : after_row state row ≡ Ok next
  pub others : fold and_then_row (Ok next) rows ≡ Ok after

-- behind a row that is refused nothing is read
all_refused : (name : List ℕ) (rows : List PackageRow) → fold and_then_row (Err name) rows ≡ Err name
all_refused name [] = refl
all_refused name (row ∷ rows) = all_refused name rows

pub read_first : (state : State) (row : PackageRow) (rows : List PackageRow) (after : State)
    → fold and_then_row (after_row state row) rows ≡ Ok after
    → IsReadFirst state row rows after
read_first state row rows after reads = by (after_row state row) refl reads
  where
    by : (next : Result State (List ℕ)) → after_row state row ≡ next → fold and_then_row next rows ≡ Ok after
        → IsReadFirst state row rows after
    by (Ok next) is rest = record { next = next; first = is; others = rest }
    by (Err name) is rest = absurd (let refused = all_refused name rows in cc)

-- rows that aren't refused leave all in order
pub rows_are_read : (state after : State) (rows : List PackageRow) → fold and_then_row (Ok state) rows ≡ Ok after
    → IsRead state → IsRead after
rows_are_read state after [] reads read = let same : state ≡ after = cc in subst IsRead same read
rows_are_read state after (row ∷ rows) reads read =
    let first = read_first state row rows after reads in
    rows_are_read first.next after rows first.others (row_is_read state first.next row first.first read)

-- rows of other uids do the same where a package is gone
pub rows_without : (state after : State) (rows : List PackageRow) (uid : ℕ)
    → AllByRecursion (λ (row : PackageRow). eqb row.uid uid ≡ false) rows → IsRead state
    → fold and_then_row (Ok state) rows ≡ Ok after → fold and_then_row (Ok (without_uid state uid)) rows
    ≡ Ok (without_uid after uid)
rows_without state after [] uid others read reads = let same : state
    ≡ after = cc in ap (λ (s : State). Ok (without_uid s uid)) same
rows_without state after (row ∷ rows) uid others read reads =
    let first = read_first state row rows after reads in
    ap (λ (r : Result State (List ℕ)). fold and_then_row r rows) (row_without state first.next row uid others.0 read
    first.first)
    ∙ rows_without first.next after rows uid others.1 (row_is_read state first.next row first.first read) first.others

-- a row of the uid, and rows of other uids, do the same as those others where the package is gone
pub row_and_rows_without : (state after : State) (row : PackageRow) (rows : List PackageRow) (uid : ℕ) → eqb row.uid uid
    ≡ true
    → AllByRecursion (λ (other : PackageRow). eqb other.uid uid ≡ false) rows → IsRead state
    → fold and_then_row (after_row state row) rows ≡ Ok after → fold and_then_row (Ok (without_uid state uid)) rows
    ≡ Ok (without_uid after uid)
row_and_rows_without state after row rows uid same others read reads =
    let first = read_first state row rows after reads in
    ap (λ (s : State). fold and_then_row (Ok s) rows) (sym (row_undone state first.next row uid same first.first))
    ∙ rows_without first.next after rows uid others (row_is_read state first.next row first.first read) first.others
