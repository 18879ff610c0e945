-- What rows of grants and links make of a board.
use Rattle.std.proofs.Common.{◌≡◌, ℕ, Bool, true, false, not, ◌&&◌, cond, eqb, List, [], ◌∷◌, map, refl, sym, ap, ◌∙◌, subst}
use Rattle.std.specs.Prelude.{IsTrue, ◌==◌}
use Rattle.std.specs.List.{AllByRecursion, filter, fold}
use Rattle.std.specs.List.Sorted.{IsStrictlySortedBy}
use Rattle.std.proofs.lemmas.Bool.{and_left, eqb-true, not_from_true, not_from_false}
use Rattle.am_types.specs.declared.device.Package.{Package}
use Rattle.am_types.specs.declared.device.Grant.{Grant}
use Rattle.am_types.specs.declared.device.Link.{Link}
use Rattle.am_keeper.specs.declared.rows.GrantRow.{GrantRow}
use Rattle.am_keeper.specs.declared.rows.LinkRow.{LinkRow}
use Rattle.am_keeper.specs.declared.rows.Rows.{Rows}
use Rattle.am_keeper.specs.Rows.{put_in, rises}
use Rattle.am_model.proofs.Rights.{fewer_in_order, with_in_order}
use Rattle.am_model.specs.Lists.{inserted}
use Rattle.am_model.specs.Rights.{Right, before_right, has_right, of_grant, of_link, with_right}
use Rattle.am_model.specs.Rights as makes
use Rattle.am_model.specs.Boards.{Board, is_package_uid, without_package}
use Rattle.am_model.specs.Sound.{right_cmp}
use Rattle.am_model.specs.Texts.{is_same, lowered}
use Rattle.am_history.specs.Opening.{after_grant, after_link, with_rights}
use Rattle.am_laws_kept.proofs.Placed.{all_weaker, any_left, any_out}
use Rattle.am_laws_kept.proofs.Rights.{given}
use Rattle.am_laws_kept.proofs.RightRows.{after_right, by_right as by_right_of, made_with_put, made_without, same_after}

-- a uid of a package that is gone isn't installed any more
gone_is_gone : (packages : List Package) (gone uid : ℕ) → eqb uid gone ≡ true
    → is_package_uid (without_package packages gone) uid ≡ false
gone_is_gone packages gone uid is =
    any_out (λ (p : Package). p.uid == uid) (λ (p : Package). not (p.uid == gone))
    (λ p also. not_from_true (eqb p.uid gone) (subst (λ (u : ℕ). eqb u gone ≡ true) (sym (eqb-true p.uid uid also)) is))
    packages

-- and another one is as before
others_stay : (packages : List Package) (gone uid : ℕ) → eqb uid gone ≡ false
    → is_package_uid (without_package packages gone) uid ≡ is_package_uid packages uid
others_stay packages gone uid is =
    any_left (λ (p : Package). p.uid == uid) (λ (p : Package). not (p.uid == gone))
    (λ p also. not_from_false (eqb p.uid gone) (subst (λ (u : ℕ). eqb u gone ≡ false) (sym (eqb-true p.uid uid also))
    is)) packages

-- a kind of right: what one is to, and how it is made of that
pub record RightKind (X : Type 0) : Type 0 where
  pub as_right : X → Right
  pub make : ℕ → List ℕ → X
  pub is_made : (x : X) → make (as_right x).0 (as_right x).1 ≡ x
  pub is_right : (uid : ℕ) (text : List ℕ) → as_right (make uid text) ≡ (uid, text)

-- the rows that give and take such rights, and which of them count where some packages are installed: at most those of
-- their uids
pub record RightRows (X Row : Type 0) : Type 0 where
  pub of : RightKind X
  pub key : Row → X
  pub held : Row → Bool
  pub counts : List Package → Row → Bool
  pub out : (packages : List Package) (row : Row) → is_package_uid packages (of.as_right (key row)).0 ≡ false
      → counts packages row ≡ false
  pub same : (packages others : List Package) (row : Row)
      → is_package_uid packages (of.as_right (key row)).0 ≡ is_package_uid others (of.as_right (key row)).0
      → counts packages row ≡ counts others row

module _ {X Row : Type 0} (rows_of : RightRows X Row) where
  open rows_of use {key, held, counts, out, same, of.{as_right, make, is_made, is_right}}

  abbrev AreSorted : List X → Type 0
  AreSorted xs = IsStrictlySortedBy right_cmp (map as_right xs)

  -- what rows make of such rights where some packages are installed
  abbrev pub made_by : List Package → List X → List Row → List X
  made_by packages xs rows = fold (after_right as_right (before_right as_right) key held (counts packages)) xs rows

  -- one given or taken
  given_is : (x : X) (gives : Bool) (xs : List X)
      → given as_right (before_right as_right) x gives xs ≡ with_right as_right make xs (as_right x).0 (as_right x).1
      gives
  given_is x true xs =
      ap (λ (y : X). cond (has_right as_right xs (as_right x).0 (as_right x).1) xs
      (inserted (before_right as_right) y xs)) (sym (is_made x))
  given_is x false xs = refl

  -- leaves them in order
  given_in_order : (x : X) (gives : Bool) (xs : List X) → AreSorted xs
      → AreSorted (given as_right (before_right as_right) x gives xs)
  given_in_order x gives xs up =
      subst AreSorted (sym (given_is x gives xs))
      (with_in_order as_right make is_right xs (as_right x).0 (as_right x).1
      gives up)

  -- and so do rows
  made_in_order : (packages : List Package) (xs : List X) (rows : List Row) → AreSorted xs
      → AreSorted (made_by packages xs rows)
  made_in_order packages xs [] up = up
  made_in_order packages xs (row ∷ rows) up = made_in_order packages (after_right as_right (before_right as_right) key
      held (counts packages) xs row) rows (by (counts packages row))
    where
      by : (b : Bool) → AreSorted (cond b (given as_right (before_right as_right) (key row) (held row) xs) xs)
      by true = given_in_order (key row) (held row) xs up
      by false = up

  -- those that are to the same are the same
  made_again : (xs : List X) → map (λ (r : Right). make r.0 r.1) (map as_right xs) ≡ xs
  made_again [] = refl
  made_again (x ∷ xs) = ap (λ (y : X). y ∷ map (λ (r : Right). make r.0 r.1) (map as_right xs)) (is_made x)
      ∙ ap (λ (l : List X). x ∷ l) (made_again xs)

  same_from : (xs ys : List X) → map as_right xs ≡ map as_right ys → xs ≡ ys
  same_from xs ys same = sym (made_again xs) ∙ ap (map (λ (r : Right). make r.0 r.1)) same ∙ made_again ys

  -- with a row that is put its right is given or taken
  pub made_put : (packages : List Package) (xs : List X) (row : Row) (rows : List Row) → counts packages row ≡ true
      → IsTrue (rises (by_right_of (λ r. as_right (key r)) held) rows) → AreSorted xs
      → made_by packages xs (put_in (by_right_of (λ r. as_right (key r)) held) row rows)
      ≡ with_right as_right make (made_by packages xs rows) (as_right (key row)).0 (as_right (key row)).1 (held row)
  made_put packages xs row rows live rise up =
      same_from _ _
      (made_with_put as_right (before_right as_right) key held (counts packages) row xs rows live rise
      (made_in_order packages xs (put_in (by_right_of (λ r. as_right (key r)) held) row rows) up)
      (given_in_order (key row) (held row) (made_by packages xs rows) (made_in_order packages xs rows up)))
      ∙ given_is (key row) (held row) (made_by packages xs rows)

  -- where a package is gone its rights are gone
  pub made_gone : (packages : List Package) (xs : List X) (gone : ℕ) (rows : List Row) → AreSorted xs
      → made_by (without_package packages gone) (filter (λ (x : X). not ((as_right x).0 == gone)) xs) rows
      ≡ filter (λ (x : X). not ((as_right x).0 == gone)) (made_by packages xs rows)
  made_gone packages xs gone rows up =
      same_from _ _
      (made_without as_right (before_right as_right) key held (counts packages) (counts left) gone xs rows
      (λ row is. out left row (gone_is_gone packages gone (as_right (key row)).0 is))
      (λ row is. same left packages row (others_stay packages gone (as_right (key row)).0 is))
      (made_in_order left (filter (λ (x : X). not ((as_right x).0 == gone)) xs) rows
      (fewer_in_order as_right (λ (x : X). not ((as_right x).0 == gone)) xs up))
      (fewer_in_order as_right (λ (x : X). not ((as_right x).0 == gone)) (made_by packages xs rows)
      (made_in_order packages xs rows up)))
    where
      left : List Package
      left = without_package packages gone

  -- rows make the same where the same of their uids are installed
  pub made_same : (packages others : List Package) (xs : List X) (rows : List Row)
      → AllByRecursion (λ (row : Row). is_package_uid packages (as_right (key row)).0
      ≡ is_package_uid others (as_right (key row)).0) rows
      → made_by packages xs rows ≡ made_by others xs rows
  made_same packages others xs rows all =
      same_after as_right (before_right as_right) key held (counts packages) (counts others) xs rows
      (all_weaker (λ (row : Row). is_package_uid packages (as_right (key row)).0
      ≡ is_package_uid others (as_right (key row)).0)
      (λ (row : Row). counts packages row ≡ counts others row) (λ row. same packages others row) rows all)

  -- rows that each set a field of a board so set it together
  set_by : (packages : List Package) (set : List X → Board) (step : Board → Row → Board)
      → ((xs : List X) (row : Row) → step (set xs) row ≡ cond (counts packages row)
      (set (with_right as_right make xs (as_right (key row)).0 (as_right (key row)).1 (held row))) (set xs))
      → (xs : List X) (rows : List Row) → fold step (set xs) rows ≡ set (made_by packages xs rows)
  set_by packages set step each xs [] = refl
  set_by packages set step each xs (row ∷ rows) =
      ap (λ (b : Board). fold step b rows) (each xs row ∙ by (counts packages row))
      ∙ set_by packages set step each (after_right as_right (before_right as_right) key held (counts packages) xs row)
      rows
    where
      by : (b : Bool) → cond b (set (with_right as_right make xs (as_right (key row)).0 (as_right (key row)).1
          (held row))) (set xs)
          ≡ set (cond b (given as_right (before_right as_right) (key row) (held row) xs) xs)
      by true = ap set (sym (given_is (key row) (held row) xs))
      by false = refl

-- the rows of grants, of which those of installed packages count
abbrev pub grant_rows : RightRows Grant GrantRow
grant_rows = record {
  of = record { as_right = of_grant; make = makes.grant_of; is_made = λ g. refl; is_right = λ u t. refl };
  key = λ row. record { uid = row.uid; permission = row.permission };
  held = λ row. row.held;
  counts = λ packages row. is_package_uid packages row.uid;
  out = λ packages row none. none;
  same = λ packages others row same. same;
}

-- the rows of links, of which those of installed packages count whose host is in lower case
abbrev pub link_rows : RightRows Link LinkRow
link_rows = record {
  of = record { as_right = of_link; make = makes.link_of; is_made = λ l. refl; is_right = λ u t. refl };
  key = λ row. record { uid = row.uid; host = row.host };
  held = λ row. row.approved;
  counts = λ packages row. is_package_uid packages row.uid && is_same (lowered row.host) row.host;
  out = λ packages row none. and_left _ _ none;
  same = λ packages others row same. ap (λ b. b && is_same (lowered row.host) row.host) same;
}

-- the board after all rows of grants and links: the first make grants alone, and the others links alone
pub rights_after : (board : Board) (rows : Rows) → with_rights board rows
    ≡ record board {
      grants = made_by grant_rows board.packages board.grants rows.grants;
      links = made_by link_rows board.packages board.links rows.links;
    }
rights_after board rows =
    ap (λ (b : Board). fold after_link b rows.links)
    (set_by grant_rows board.packages (λ gs. record board { grants = gs }) after_grant (λ gs row. refl) board.grants
    rows.grants)
    ∙ set_by link_rows board.packages
    (λ ls. record board { grants = made_by grant_rows board.packages board.grants rows.grants; links = ls }) after_link
    (λ ls row. refl) board.links rows.links
