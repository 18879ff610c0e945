-- The next uid of an opening: above the device's uids and those of the rows, and no greater than it has to be.
use Rattle.std.proofs.Common.{◌≡◌, ℕ, ◌+◌, ◌<◌, ◌≤◌, Bool, true, false, not, cond, List, [], ◌∷◌, ◌++◌, map, max, refl, sym, subst, arith}
use Rattle.std.specs.Prelude.{filter, ◌==◌}
use Rattle.std.specs.List.{AllByRecursion, fold}
use Rattle.std.specs.Ordering.{nat_cmp, ordering_then}
use Rattle.std.specs.declared.cmp.Ordering.{Ordering}
use Rattle.std.specs.declared.cmp.Ordering.TheVariants.{Less, Equal, Greater}
use Rattle.std.proofs.lemmas.Map.Lookups.{exact_unsigned}
use Rattle.std.specs.Cmp.Lexicographic.{slice_cmp}
use Rattle.am_types.specs.declared.device.Device.{Device}
use Rattle.am_types.specs.declared.device.Package.{Package}
use Rattle.am_keeper.specs.declared.rows.PackageRow.{PackageRow}
use Rattle.am_keeper.specs.declared.rows.GrantRow.{GrantRow}
use Rattle.am_keeper.specs.declared.rows.LinkRow.{LinkRow}
use Rattle.am_keeper.specs.declared.rows.Rows.{Rows}
use Rattle.am_keeper.specs.Rows.{beside, put_in, by_uid, by_grant, by_link, with_package, with_grant, with_link}
use Rattle.am_history.specs.State.{uid_after, uids_of}
use Rattle.am_history.specs.Packages.{no_uid}
use Rattle.am_history.specs.Opening.{row_uids}
use Rattle.am_history.proofs.Uids.{below_max, max_is_above, of_first, of_last}

-- the greatest of some is below what is above all of them
max_is_least : (low n : ℕ) (uids : List ℕ) → low < n → AllByRecursion (λ uid. uid < n) uids → fold max low uids + 1 ≤ n
max_is_least low n [] less all = omega arith
max_is_least low n (uid ∷ uids) less all = let first : uid < n = all.0 in max_is_least (max low uid) n uids
    (omega arith) all.1

-- what holds of the first ones and of the last ones holds of all
all_append : (P : ℕ → Type 0) (xs ys : List ℕ) → AllByRecursion P xs → AllByRecursion P ys → AllByRecursion P (xs ++ ys)
all_append P [] ys first last = last
all_append P (x ∷ xs) ys first last = (first.0, all_append P xs ys first.1 last)

module _ {X : Type 0} (f : X → ℕ) (P : ℕ → Type 0) where
  -- and so for what is read of them
  to_map : (xs : List X) → AllByRecursion (λ x. P (f x)) xs → AllByRecursion P (map f xs)
  to_map [] all = tt
  to_map (x ∷ xs) all = (all.0, to_map xs all.1)

  of_map : (xs : List X) → AllByRecursion P (map f xs) → AllByRecursion (λ x. P (f x)) xs
  of_map [] all = tt
  of_map (x ∷ xs) all = (all.0, of_map xs all.1)

-- what holds of those that are left holds of each that stays, and the other way round
of_left : (P : ℕ → Type 0) (keeps : ℕ → Bool) (uids : List ℕ) → AllByRecursion P (filter keeps uids)
    → AllByRecursion (λ uid. keeps uid ≡ true → P uid) uids
of_left P keeps [] all = tt
of_left P keeps (uid ∷ uids) all = by (keeps uid) refl all (of_left P keeps uids)
  where
    by : (b : Bool) → keeps uid ≡ b → AllByRecursion P (cond b (uid ∷ filter keeps uids) (filter keeps uids))
        → (AllByRecursion P (filter keeps uids) → AllByRecursion (λ uid. keeps uid ≡ true → P uid) uids)
        → AllByRecursion (λ uid. keeps uid ≡ true → P uid) (uid ∷ uids)
    by true is all rest = (λ stays. all.0, rest all.1)
    by false is all rest = (λ stays. absurd cc, rest all)

to_left : (P : ℕ → Type 0) (keeps : ℕ → Bool) (uids : List ℕ) → AllByRecursion (λ uid. keeps uid ≡ true → P uid) uids
    → AllByRecursion P (filter keeps uids)
to_left P keeps [] all = tt
to_left P keeps (uid ∷ uids) all = by (keeps uid) refl (to_left P keeps uids all.1)
  where
    by : (b : Bool) → keeps uid ≡ b → AllByRecursion P (filter keeps uids)
        → AllByRecursion P (cond b (uid ∷ filter keeps uids) (filter keeps uids))
    by true is rest = (all.0 is, rest)
    by false is rest = rest

-- the greatest uid, which is never given, doesn't count among grants and links
abbrev counts : ℕ → Bool
counts uid = not (uid == no_uid)

-- the device's uids and those of rows are below a number
pub record AreBelow (n : ℕ) (device : Device) (rows : Rows) : Type 0 where
  pub own : AllByRecursion (λ (p : Package). p.uid < n) device.packages
  pub packages : AllByRecursion (λ (row : PackageRow). row.uid < n) rows.packages
  pub grants : AllByRecursion (λ (row : GrantRow). counts row.uid ≡ true → row.uid < n) rows.grants
  pub links : AllByRecursion (λ (row : LinkRow). counts row.uid ≡ true → row.uid < n) rows.links

-- the next uid of an opening
abbrev pub next_after : Device → Rows → ℕ
next_after device rows = uid_after (uids_of device.packages ++ row_uids rows)

-- it is an app's
pub next_is_high : (device : Device) (rows : Rows) → 10000 ≤ next_after device rows
next_is_high device rows = let low = max_is_above 9999 (uids_of device.packages ++ row_uids rows) in omega arith

-- all are below it
pub below_next : (device : Device) (rows : Rows) → AreBelow (next_after device rows) device rows
below_next device rows = record {
  own = of_map (λ (p : Package). p.uid) P device.packages (of_first P (uids_of device.packages) (row_uids rows) all);
  packages = of_map (λ (row : PackageRow). row.uid) P rows.packages
      (of_first P (map (λ (row : PackageRow). row.uid) rows.packages) _ last);
  grants = of_map (λ (row : GrantRow). row.uid) Q rows.grants (of_first Q
      (map (λ (row : GrantRow). row.uid) rows.grants) (map (λ (row : LinkRow). row.uid) rows.links) counted);
  links = of_map (λ (row : LinkRow). row.uid) Q rows.links (of_last Q (map (λ (row : GrantRow). row.uid) rows.grants)
      (map (λ (row : LinkRow). row.uid) rows.links) counted);
}
  where
    P : ℕ → Type 0
    P uid = uid < next_after device rows

    Q : ℕ → Type 0
    Q uid = counts uid ≡ true → uid < next_after device rows

    all : AllByRecursion (λ uid. uid < next_after device rows) (uids_of device.packages ++ row_uids rows)
    all = below_max 9999 (uids_of device.packages ++ row_uids rows)

    last : AllByRecursion (λ uid. uid < next_after device rows) (row_uids rows)
    last = of_last (λ uid. uid < next_after device rows) (uids_of device.packages) (row_uids rows) all

    counted : AllByRecursion (λ uid. counts uid ≡ true → uid < next_after device rows)
        (map (λ (row : GrantRow). row.uid) rows.grants ++ map (λ (row : LinkRow). row.uid) rows.links)
    counted =
        of_left (λ uid. uid < next_after device rows) counts (map (λ (row : GrantRow). row.uid) rows.grants
        ++ map (λ (row : LinkRow). row.uid) rows.links)
        (of_last (λ uid. uid < next_after device rows) (map (λ (row : PackageRow). row.uid) rows.packages) _ last)

-- and it is at most what all are below
pub next_is_least : (device : Device) (rows : Rows) (n : ℕ) → 10000 ≤ n → AreBelow n device rows
    → next_after device rows ≤ n
next_is_least device rows n high below =
    max_is_least 9999 n (uids_of device.packages ++ row_uids rows) (omega arith)
    (all_append P (uids_of device.packages) (row_uids rows) (to_map (λ (p : Package). p.uid) P device.packages
    below.own)
    (all_append P (map (λ (row : PackageRow). row.uid) rows.packages) _
    (to_map (λ (row : PackageRow). row.uid) P rows.packages below.packages)
    (to_left P counts (map (λ (row : GrantRow). row.uid) rows.grants ++ map (λ (row : LinkRow). row.uid) rows.links)
    (all_append Q (map (λ (row : GrantRow). row.uid) rows.grants) (map (λ (row : LinkRow). row.uid) rows.links)
    (to_map (λ (row : GrantRow). row.uid) Q rows.grants below.grants)
    (to_map (λ (row : LinkRow). row.uid) Q rows.links below.links)))))
  where
    P : ℕ → Type 0
    P uid = uid < n

    Q : ℕ → Type 0
    Q uid = counts uid ≡ true → uid < n

module _ {X : Type 0} (order : X → X → Ordering) (P : X → Type 0) where
  -- what holds of all, and of one that is put, holds of all with it
  all_put : (x : X) (xs : List X) → P x → AllByRecursion P xs → AllByRecursion P (put_in order x xs)
  all_put x [] one all = (one, tt)
  all_put x (y ∷ ys) one all = by (order y x) (all_put x ys one all.1)
    where
      by : (o : Ordering) → AllByRecursion P (put_in order x ys) → AllByRecursion P
          (beside o x y ys (put_in order x ys))
      by Less rest = (all.0, rest)
      by Equal rest = (one, all.1)
      by Greater rest = (one, all)

  -- what holds of all with one that was put holds of that one
  of_put : (x : X) (xs : List X) → AllByRecursion P (put_in order x xs) → P x
  of_put x [] all = all.0
  of_put x (y ∷ ys) all = by (order y x) all (of_put x ys)
    where
      by : (o : Ordering) → AllByRecursion P (beside o x y ys (put_in order x ys))
          → (AllByRecursion P (put_in order x ys) → P x) → P x
      by Less all rest = rest all.1
      by Equal all rest = all.0
      by Greater all rest = all.0

  -- and of all, where it holds of what the one that was put came over
  of_others : (x : X) → ((y : X) → order y x ≡ Equal → P x → P y) → (xs : List X) → AllByRecursion P (put_in order x xs)
      → AllByRecursion P xs
  of_others x ties [] all = tt
  of_others x ties (y ∷ ys) all = by (order y x) refl all (of_others x ties ys)
    where
      by : (o : Ordering) → order y x ≡ o → AllByRecursion P (beside o x y ys (put_in order x ys))
          → (AllByRecursion P (put_in order x ys) → AllByRecursion P ys)
          → AllByRecursion P (y ∷ ys)
      by Less is all rest = (all.0, rest all.1)
      by Equal is all rest = (ties y is all.0, all.1)
      by Greater is all rest = all.1

-- rows that tie have the same uid
first_tie : (o p : Ordering) → ordering_then o p ≡ Equal → o ≡ Equal
first_tie Less p e = cc
first_tie Equal p e = refl
first_tie Greater p e = cc

-- so have rights that tie
right_tie : (uid other : ℕ) (text others : List ℕ) → ordering_then (nat_cmp other uid) (slice_cmp nat_cmp others text)
    ≡ Equal → other ≡ uid
right_tie uid other text others tie = exact_unsigned other uid (first_tie (nat_cmp other uid)
    (slice_cmp nat_cmp others text) tie)

module _ {R : Type 0} (order : R → R → Ordering) (uid_of : R → ℕ) (n : ℕ) where
  -- those that count are below a number
  abbrev AreCountedBelow : List R → Type 0
  AreCountedBelow = AllByRecursion (λ (row : R). counts (uid_of row) ≡ true → uid_of row < n)

  -- with one that is put, if it is too
  counted_put : (row : R) (rows : List R) → uid_of row < n → AreCountedBelow rows
      → AreCountedBelow (put_in order row rows)
  counted_put row rows below all = all_put order (λ (r : R). counts (uid_of r) ≡ true → uid_of r < n) row rows
      (λ is. below) all

  -- and without it, if what it came over was of its uid
  counted_others : (row : R) (rows : List R) → ((r : R) → order r row ≡ Equal → uid_of r ≡ uid_of row)
      → AreCountedBelow (put_in order row rows) → AreCountedBelow rows
  counted_others row rows ties all =
      of_others order (λ (r : R). counts (uid_of r) ≡ true → uid_of r < n) row
      (λ r tie less. subst (λ (u : ℕ). counts u ≡ true → u < n) (sym (ties r tie)) less) rows all

-- rows have the same next uid where that of each is above what the others have
same_next : (device : Device) (rows others : Rows)
    → (AreBelow (next_after device rows) device rows → AreBelow (next_after device rows) device others)
    → (AreBelow (next_after device others) device others → AreBelow (next_after device others) device rows)
    → next_after device others ≡ next_after device rows
same_next device rows others there here =
    let low : next_after device others ≤ next_after device rows = next_is_least device others (next_after device rows)
    (next_is_high device rows) (there (below_next device rows)) in
    let high : next_after device rows ≤ next_after device others = next_is_least device rows (next_after device others)
    (next_is_high device others) (here (below_next device others)) in
    omega arith

-- all are below a number if the device's uids are and those of each kind of row
of_parts : (n : ℕ) (device : Device) (rows : Rows) → AllByRecursion (λ (p : Package). p.uid < n) device.packages
    → AllByRecursion (λ (row : PackageRow). row.uid < n) rows.packages
    → AllByRecursion (λ (row : GrantRow). counts row.uid ≡ true → row.uid < n) rows.grants
    → AllByRecursion (λ (row : LinkRow). counts row.uid ≡ true → row.uid < n) rows.links → AreBelow n device rows
of_parts n device rows own packages grants links = record {
  own = own;
  packages = packages;
  grants = grants;
  links =
      links;
}

-- the row of a uid that is below the next one leaves it the next one
pub next_with_package : (device : Device) (rows : Rows) (row : PackageRow) → row.uid < next_after device rows
    → next_after device (with_package rows row) ≡ next_after device rows
next_with_package device rows row below =
    same_next device rows (with_package rows row)
    (λ before. of_parts (next_after device rows) device (with_package rows row) before.own
    (all_put by_uid (λ (other : PackageRow). other.uid < next_after device rows) row rows.packages below
    before.packages) before.grants before.links)
    (λ after. of_parts (next_after device (with_package rows row)) device rows after.own
    (of_others by_uid (λ (other : PackageRow). other.uid < next_after device (with_package rows row)) row
    (λ other tie less. subst (λ (u : ℕ). u < next_after device (with_package rows row))
    (sym (exact_unsigned other.uid row.uid tie)) less) rows.packages after.packages) after.grants after.links)

pub next_with_grant : (device : Device) (rows : Rows) (row : GrantRow) → row.uid < next_after device rows
    → next_after device (with_grant rows row) ≡ next_after device rows
next_with_grant device rows row below =
    same_next device rows (with_grant rows row)
    (λ before. of_parts (next_after device rows) device (with_grant rows row) before.own before.packages
    (counted_put by_grant (λ (r : GrantRow). r.uid) (next_after device rows) row rows.grants below before.grants)
    before.links)
    (λ after. of_parts (next_after device (with_grant rows row)) device rows after.own after.packages
    (counted_others by_grant (λ (r : GrantRow). r.uid) (next_after device (with_grant rows row)) row rows.grants
    (λ r tie. right_tie row.uid r.uid row.permission r.permission tie) after.grants) after.links)

pub next_with_link : (device : Device) (rows : Rows) (row : LinkRow) → row.uid < next_after device rows
    → next_after device (with_link rows row) ≡ next_after device rows
next_with_link device rows row below =
    same_next device rows (with_link rows row)
    (λ before. of_parts (next_after device rows) device (with_link rows row) before.own before.packages before.grants
    (counted_put by_link (λ (r : LinkRow). r.uid) (next_after device rows) row rows.links below before.links))
    (λ after. of_parts (next_after device (with_link rows row)) device rows after.own after.packages after.grants
    (counted_others by_link (λ (r : LinkRow). r.uid) (next_after device (with_link rows row)) row rows.links
    (λ r tie. right_tie row.uid r.uid row.host r.host tie) after.links))

-- and with the row of the next uid it is one more
pub next_with_next : (device : Device) (rows : Rows) (row : PackageRow) → row.uid ≡ next_after device rows
    → next_after device (with_package rows row) ≡ next_after device rows + 1
next_with_next device rows row is =
    let before = below_next device rows in
    let after = below_next device (with_package rows row) in
    let high = next_is_high device rows in
    let low : next_after device (with_package rows row) ≤ next_after device rows + 1 =
    next_is_least device (with_package rows row) (next_after device rows + 1) (omega arith) (record {
      own = one_more_all (λ (p : Package). p.uid) device.packages before.own;
      packages = all_put by_uid (λ (other : PackageRow). other.uid < next_after device rows + 1) row rows.packages
          (omega arith)
          (one_more_all (λ (other : PackageRow). other.uid) rows.packages before.packages);
      grants = counted_all (λ (other : GrantRow). other.uid) rows.grants before.grants;
      links = counted_all (λ (other : LinkRow). other.uid) rows.links before.links;
    }) in
    let above : row.uid < next_after device (with_package rows row) =
    of_put by_uid (λ (other : PackageRow). other.uid < next_after device (with_package rows row)) row rows.packages
    after.packages in
    omega arith
  where
    one_more_all : {X : Type 0} (f : X → ℕ) (xs : List X) → AllByRecursion (λ x. f x < next_after device rows) xs
        → AllByRecursion (λ x. f x < next_after device rows + 1) xs
    one_more_all f [] all = tt
    one_more_all f (x ∷ xs) all = (
      let less : f x < next_after device rows = all.0 in omega arith,
      one_more_all f xs
          all.1,
    )

    counted_all : {X : Type 0} (f : X → ℕ) (xs : List X) → AllByRecursion
        (λ x. counts (f x) ≡ true → f x < next_after device rows) xs
        → AllByRecursion (λ x. counts (f x) ≡ true → f x < next_after device rows + 1) xs
    counted_all f [] all = tt
    counted_all f (x ∷ xs) all = (
      λ is. let less : f x < next_after device rows = all.0 is in omega arith,
      counted_all f
          xs all.1,
    )
