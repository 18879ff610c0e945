-- Package rows of which one is put: that of a package that comes last, or of one that is gone.
use Rattle.std.proofs.Common.{◌≡◌, ℕ, ◌<◌, true, false, cond, eqb, ltb, List, [], ◌∷◌, ◌++◌, refl, ap, ◌∙◌, arith}
use Rattle.std.specs.Prelude.{IsTrue, Result, Ok, ◌==◌}
use Rattle.std.specs.Cmp.{nat_cmp_total}
use Rattle.std.specs.List.{AllByRecursion, fold}
use Rattle.std.specs.Ordering.{nat_cmp, ordering_reverse}
use Rattle.std.specs.declared.cmp.Ordering.{Ordering}
use Rattle.std.specs.declared.cmp.Ordering.TheVariants.{Less, Equal, Greater}
use Rattle.std.proofs.lemmas.Bool.{ltb-true, lt-ltb, eq-eqb, ne_eqb}
use Rattle.std.proofs.lemmas.List.Sums.{fold-append}
use Rattle.std.proofs.lemmas.Map.Lookups.{exact_unsigned}
use Rattle.am_keeper.specs.declared.rows.PackageRow.{PackageRow}
use Rattle.am_keeper.specs.Rows as order
use Rattle.am_keeper.specs.Rows.{beside, put_in, leads, rises}
use Rattle.am_keeper.proofs.Puts.{left_of_and, right_of_and}
use Rattle.am_installed.proofs.Rising.{less_is}
use Rattle.am_history.specs.State.{State}
use Rattle.am_history.specs.Packages.{no_uid}
use Rattle.am_history.specs.Opening.{after_row, and_then_row}
use Rattle.am_laws_kept.proofs.Placed.{all_weaker}
use Rattle.am_laws_kept.proofs.RightRows.{first_is_before}
use Rattle.am_laws_kept.proofs.PackageRows.{IsRead, gone_row_read, read_first, row_and_rows_without, row_is_read, rows_without, without_uid}

-- a row whose uid is above all others comes last
put_last : (row : PackageRow) (rows : List PackageRow) → AllByRecursion (λ (other : PackageRow). other.uid < row.uid)
    rows
    → put_in order.by_uid row rows ≡ rows ++ row ∷ []
put_last row [] below = refl
put_last row (first ∷ others) below =
    ap (λ b. beside (cond b Less (cond (first.uid == row.uid) Equal Greater)) row first others
    (put_in order.by_uid row others)) (lt-ltb first.uid row.uid below.0)
    ∙ ap (λ l. first ∷ l) (put_last row others below.1)

-- it is read after the others
pub last_is_read : (state after : State) (row : PackageRow) (rows : List PackageRow)
    → AllByRecursion (λ (other : PackageRow). other.uid < row.uid) rows
    → fold and_then_row (Ok state) rows ≡ Ok after → fold and_then_row (Ok state) (put_in order.by_uid row rows)
    ≡ after_row after row
last_is_read state after row rows below reads =
    ap (λ l. fold and_then_row (Ok state) l) (put_last row rows below)
    ∙ fold-append and_then_row (Ok state) rows (row ∷ [])
    ∙ ap (λ r. and_then_row r row) reads

-- uids of which one stands before the other
less_uid : (a b : ℕ) → nat_cmp a b ≡ Less → a < b
less_uid a b is = ltb-true a b (less_is (ltb a b) (eqb a b) is)

-- rows behind one of a uid are of other uids
others_behind : (uid : ℕ) (row : PackageRow) (rows : List PackageRow) → row.uid ≡ uid
    → AllByRecursion (λ other. order.by_uid row other ≡ Less) rows
    → AllByRecursion (λ (other : PackageRow). eqb other.uid uid ≡ false) rows
others_behind uid row rows same all = all_weaker (λ other. order.by_uid row other ≡ Less)
    (λ (other : PackageRow). eqb other.uid uid ≡ false) apart rows all
  where
    apart : (other : PackageRow) → order.by_uid row other ≡ Less → eqb other.uid uid ≡ false
    apart other less =
        let below : row.uid < other.uid = less_uid row.uid other.uid less in
        ne_eqb other.uid uid (λ tie. omega arith)

-- with the row of a package that is gone, all is read as without that package
pub gone_is_put : (state after : State) (row : PackageRow) (rows : List PackageRow) → eqb row.uid no_uid ≡ false
    → row.gone ≡ true
    → IsTrue (rises order.by_uid rows) → IsRead state → fold and_then_row (Ok state) rows ≡ Ok after
    → fold and_then_row (Ok state) (put_in order.by_uid row rows) ≡ Ok (without_uid after row.uid)
gone_is_put state after row [] is gone up read reads =
    let same : state ≡ after = cc in gone_row_read state row is gone
    ∙ ap (λ (s : State). Ok (without_uid s row.uid)) same
gone_is_put state after row (first ∷ others) is gone up read reads =
    let next = read_first state first others after reads in
    by (order.by_uid first row) refl
    (ap (λ (r : Result State (List ℕ)). fold and_then_row r (put_in order.by_uid row others)) next.first
    ∙ gone_is_put next.next after row others is gone (right_of_and (leads order.by_uid first others) _ up)
    (row_is_read state next.next first next.first read) next.others)
  where
    behind : AllByRecursion (λ other. order.by_uid first other ≡ Less) others
    behind =
        first_is_before order.by_uid (λ p q r. nat_cmp_total.trans p.uid q.uid r.uid) first others
        (left_of_and (leads order.by_uid first others) _ up)
        (right_of_and (leads order.by_uid first others) _ up)

    by : (o : Ordering) → order.by_uid first row ≡ o
        → fold and_then_row (after_row state first) (put_in order.by_uid row others) ≡ Ok (without_uid after row.uid)
        → fold and_then_row (Ok state) (beside o row first others (put_in order.by_uid row others))
        ≡ Ok (without_uid after row.uid)
    by Less less rest = rest
    by Equal tie rest =
        let same : first.uid ≡ row.uid = exact_unsigned first.uid row.uid tie in
        ap (λ (r : Result State (List ℕ)). fold and_then_row r others) (gone_row_read state row is gone)
        ∙ row_and_rows_without state after first others row.uid (eq-eqb first.uid row.uid same)
        (others_behind row.uid first others same behind) read reads
    by Greater more rest =
        let less : order.by_uid row first ≡ Less = nat_cmp_total.antisymm row.uid first.uid
        ∙ ap ordering_reverse more in
        ap (λ (r : Result State (List ℕ)). fold and_then_row r (first ∷ others)) (gone_row_read state row is gone)
        ∙ rows_without state after (first ∷ others) row.uid
        (others_behind row.uid row (first ∷ others) refl (
          less,
          all_weaker (λ other. order.by_uid first other ≡ Less) (λ other. order.by_uid row other ≡ Less)
              (λ other behind. nat_cmp_total.trans row.uid first.uid other.uid less behind) others behind,
        )) read reads
