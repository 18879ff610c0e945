-- An opening with rows: the packages that are read, and what is kept of the state that they make.
use Rattle.std.proofs.Common.{◌≡◌, ℕ, ◌<◌, ◌≤◌, Bool, true, false, ◌||◌, cond, eqb, List, [], ◌∷◌, ◌++◌, refl, sym, ap, ◌∙◌, subst, arith}
use Rattle.std.specs.Prelude.{Option, Some, None, Result, Ok, Err, ◌==◌, nat_lt}
use Rattle.std.specs.List.{AllByRecursion, count_by, find, fold}
use Rattle.std.proofs.lemmas.Bool.{le-ltb, lt-ltb, ne_eqb}
use Rattle.std.proofs.lemmas.List.Elements.{recursion_from_All}
use Rattle.std.proofs.lemmas.List.Sums.{length-filter}
use Rattle.am_types.specs.declared.device.Device.{Device}
use Rattle.am_types.specs.declared.device.Package.{Package}
use Rattle.am_types.specs.declared.device.Grant.{Grant}
use Rattle.am_types.specs.declared.device.Link.{Link}
use Rattle.am_keeper.specs.declared.rows.Rows.{Rows}
use Rattle.am_model.specs.Boards.{Board}
use Rattle.am_model.specs.Sound.{IsSound, IsSoundPackage, rights_approved, rights_granted}
use Rattle.am_installed.proofs.Rising.{Above, Rises, rises}
use Rattle.am_history.specs.State.{State, opening, uid_after, uids_of}
use Rattle.am_history.specs.Packages.{no_uid}
use Rattle.am_history.specs.Opening.{after_rows, and_then_row, before_package, completed, has_too_many, opened, opening_with, row_uids, unless_too_many}
use Rattle.am_laws_state.specs.Sound.{IsSoundState}
use Rattle.am_laws_state.proofs.SoundRights.{AreFew, counted}
use Rattle.am_model.specs.Rights.{of_grant, of_link}
use Rattle.am_laws_kept.specs.Found.{Kept, OpensAs, as_stopped, kept_of}
use Rattle.am_laws_kept.proofs.Boards.{grant_rows, link_rows, made_by, rights_after}
use Rattle.am_laws_kept.proofs.NextUids.{next_after}
use Rattle.am_laws_kept.proofs.PackageRows.{IsRead}
use Rattle.am_laws_kept.proofs.Placed.{Ascends, all_weaker}

-- what is kept of the state that is complete once packages were read
abbrev pub kept_after : Device → Rows → State → Kept
kept_after device rows read = record {
  packages = as_stopped read.board.packages;
  grants = made_by grant_rows read.board.packages read.board.grants rows.grants;
  links = made_by link_rows read.board.packages read.board.links rows.links;
  next_uid = next_after device rows;
  system_key = read.system_key;
  root_key = read.root_key;
}

completed_is_kept : (device : Device) (rows : Rows) (read : State) → kept_of (completed device rows read)
    ≡ kept_after device rows read
completed_is_kept device rows read =
    ap (λ (b : Board). kept_of (record read {
      board = b;
      next_uid = uid_after (uids_of device.packages ++ row_uids rows);
    })) (rights_after read.board rows)

-- the packages that are read at an opening, which finds what is kept of a state
pub record ReadsAs (device : Device) (rows : Rows) (state : State) : Type 0 where
  pub read : State
  pub reads : fold and_then_row (Ok (opening device)) rows.packages ≡ Ok read
  pub same : kept_after device rows read ≡ kept_of state

-- an opening has read packages
pub opening_reads : (device : Device) (rows : Rows) (state : State) → OpensAs device rows state
    → ReadsAs device rows state
unfolding opening_with
opening_reads device rows state opens = by (after_rows (opening device) rows.packages) refl opens.opens
  where
    complete : (read : State) → after_rows (opening device) rows.packages ≡ Ok read → (many : Option Package)
        → unless_too_many (completed device rows read) many ≡ Ok opens.found → ReadsAs device rows state
    complete read is (Some owner) e = absurd cc
    complete read is None e =
        let same : completed device rows read ≡ opens.found = cc in
        record {
          read = read;
          reads = is;
          same = sym (completed_is_kept device rows read) ∙ ap kept_of same
              ∙ opens.same;
        }

    by : (read : Result State (List ℕ)) → after_rows (opening device) rows.packages ≡ read → opened device rows read
        ≡ Ok opens.found → ReadsAs device rows state
    by (Err name) is e = absurd cc
    by (Ok read) is e = complete read is (find (has_too_many (completed device rows read).board)
        (completed device rows read).board.packages) e

-- a uid that has few grants hasn't too many, and so with links
few_grants : (board : Board) (uid : ℕ) → AreFew (rights_granted board.grants)
    → nat_lt 256 (count_by (λ (g : Grant). g.uid == uid) board.grants) ≡ false
few_grants board uid few =
    let all : count_by (λ (r : ℕ × List ℕ). r.0 == uid) (rights_granted board.grants) ≤ 256 = few uid in
    le-ltb 256 (count_by (λ (g : Grant). g.uid == uid) board.grants)
    (subst (λ (n : ℕ). n ≤ 256) (counted of_grant uid board.grants
    ∙ length-filter (λ (g : Grant). g.uid == uid) board.grants) all)

few_links : (board : Board) (uid : ℕ) → AreFew (rights_approved board.links)
    → nat_lt 256 (count_by (λ (l : Link). l.uid == uid) board.links) ≡ false
few_links board uid few =
    let all : count_by (λ (r : ℕ × List ℕ). r.0 == uid) (rights_approved board.links) ≤ 256 = few uid in
    le-ltb 256 (count_by (λ (l : Link). l.uid == uid) board.links)
    (subst (λ (n : ℕ). n ≤ 256) (counted of_link uid board.links ∙ length-filter (λ (l : Link). l.uid == uid)
    board.links) all)

-- none is found where the test fails of each
none_found : {X : Type 0} (p : X → Bool) → ((x : X) → p x ≡ false) → (xs : List X) → find p xs ≡ None
none_found p never [] = refl
none_found p never (x ∷ xs) = ap (λ b. cond b (Some x) (find p xs)) (never x) ∙ none_found p never xs

-- packages that were read are complete with the rights of a sound state
pub reading_opens : (device : Device) (rows : Rows) (state : State) → IsSoundState state → ReadsAs device rows state
    → OpensAs device rows state
unfolding opening_with
reading_opens device rows state sound reading = record {
  found = found;
  opens = ap (opened device rows) reading.reads ∙ ap (unless_too_many found)
      (none_found (has_too_many found.board) few found.board.packages);
  same = kept;
}
  where
    found : State
    found = completed device rows reading.read

    kept : kept_of (completed device rows reading.read) ≡ kept_of state
    kept = completed_is_kept device rows reading.read ∙ reading.same

    few : (owner : Package) → has_too_many (completed device rows reading.read).board owner ≡ false
    few owner =
        ap (λ b. b || nat_lt 256 (count_by (λ (l : Link). l.uid == owner.uid) found.board.links))
        (few_grants found.board owner.uid (subst (λ (gs : List Grant). AreFew (rights_granted gs))
        (sym (ap (λ (k : Kept). k.grants) kept)) sound.grants.few))
        ∙ few_links found.board owner.uid (subst (λ (ls : List Link). AreFew (rights_approved ls))
        (sym (ap (λ (k : Kept). k.links) kept)) sound.links.few)

-- packages in rising order of their uids
all_above : (uid : ℕ) (owner : Package) (ps : List Package) → owner.uid ≡ uid → Above uid ps
    → AllByRecursion (λ p. before_package owner p ≡ true) ps
all_above uid owner [] same above = tt
all_above uid owner (p ∷ ps) same above =
    (let less : uid < p.uid = above.0 in lt-ltb owner.uid p.uid (omega arith), all_above uid owner ps same above.1)

ascends_from : (ps : List Package) → Rises ps → Ascends before_package ps
ascends_from [] rise = tt
ascends_from (p ∷ ps) rise = (all_above p.uid p ps refl rise.0, ascends_from ps rise.1)

-- a sound device is in order before its rows are read
pub device_is_read : (device : Device) → IsSound device → IsRead (opening device)
device_is_read device sound = record {
  packages = ascends_from device.packages (rises device.packages sound.packages.rising);
  below = all_weaker IsSoundPackage (λ (p : Package). eqb p.uid no_uid ≡ false) not_greatest device.packages
      (recursion_from_All IsSoundPackage device.packages sound.packages.each);
  grants = sound.grants.order;
  links = sound.links.order;
}
  where
    not_greatest : (p : Package) → IsSoundPackage p → eqb p.uid no_uid ≡ false
    not_greatest p one =
        let low : p.uid ≤ 4294967294 = one.greatest in ne_eqb p.uid 4294967295 (λ same. omega arith)
