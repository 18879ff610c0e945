-- An index represents packages whether they are stopped or not, and after an added one is removed again.
use Rattle.std.proofs.Common.{◌≡◌, ℕ, ◌+◌, Bool, true, false, not, cond, eqb, List, [], ◌∷◌, ◌++◌, refl, sym, ap, ◌∙◌, subst}
use Rattle.std.specs.List.Sorted.{IsStrictlyIncreasing}
use Rattle.std.proofs.lemmas.Bool.{eq-eqb}
use Rattle.std.proofs.lemmas.List.{append-nil}
use Rattle.std.proofs.lemmas.List.Elements.{filter-append}
use Rattle.am_types.specs.declared.device.Package.{Package}
use Rattle.am_types.specs.declared.manifest.Decl.{Decl}
use Rattle.am_model.specs.Boards.{with_stopped, without_package}
use Rattle.am_model.specs.Candidates.{is_kind}
use Rattle.am_installed.specs.Installed.{AreInstalled}
use Rattle.am_installed.proofs.Changed.{uids_stopped}
use Rattle.am_installed.proofs.Rising.{below_last, rises, without_new}
use Rattle.am_index.specs.declared.index.FilterIndex.{FilterIndex}
use Rattle.am_index.specs.declared.key.Key.{Key}
use Rattle.am_index.specs.Keys.{is_under}
use Rattle.am_index.specs.Members.{members_from, spots_of_package, spots_under, spots_where}
use Rattle.am_index.specs.Standing.{CanBeListed, StandsFor}
use Rattle.am_index.proofs.Stands.{spots_under-cons}

-- packages that are installed can be listed
pub listable : (ps : List Package) → AreInstalled ps → CanBeListed ps
listable ps installed = record { rising = installed.rising; few = λ k d h. (installed.each k d h).few }

-- a package that was added is removed again
pub without_last : (ps : List Package) (p : Package) → AreInstalled (ps ++ p ∷ [])
    → without_package (ps ++ p ∷ []) p.uid ≡ ps
without_last ps p installed =
    filter-append (λ (q : Package). not (eqb q.uid p.uid)) ps (p ∷ [])
    ∙ ap (λ l. without_package ps p.uid ++ l) (ap (λ b. cond (not b) (p ∷ []) []) (eq-eqb p.uid p.uid refl))
    ∙ append-nil (without_package ps p.uid)
    ∙ without_new ps p.uid (below_last ps p (rises (ps ++ p ∷ []) installed.rising))

abbrev StoppedAlike : Key → Package → Bool → List Decl → ℕ → ℕ → Type 0
StoppedAlike key p stopped ds at n =
    spots_where (λ m. is_under key m.owner m.decl) (members_from key.kind (record p { stopped = stopped }) at n ds)
    ≡ spots_where (λ m. is_under key m.owner m.decl) (members_from key.kind p at n ds)

-- what a package has under a key doesn't depend on whether it is stopped
spots_stopped : (key : Key) (p : Package) (stopped : Bool) (at n : ℕ) (ds : List Decl)
    → spots_where (λ m. is_under key m.owner m.decl) (members_from key.kind (record p { stopped = stopped }) at n ds)
    ≡ spots_where (λ m. is_under key m.owner m.decl) (members_from key.kind p at n ds)
spots_stopped key p stopped at n [] = refl
spots_stopped key p stopped at n (d ∷ ds) =
    by (is_kind key.kind d.kind) d.enabled (spots_stopped key p stopped (at + 1) (n + 1) ds)
    (spots_stopped key p stopped (at + 1) n ds)
  where
    by : (k enabled : Bool) → StoppedAlike key p stopped ds (at + 1) (n + 1) → StoppedAlike key p stopped ds (at + 1) n
        → spots_where (λ m. is_under key m.owner m.decl)
        (cond k (cond enabled (record { owner = record p { stopped = stopped }; position = at; place = n; decl = d }
        ∷ members_from key.kind (record p { stopped = stopped }) (at + 1) (n + 1) ds)
        (members_from key.kind (record p { stopped = stopped }) (at + 1) (n + 1) ds))
        (members_from key.kind (record p { stopped = stopped }) (at + 1) n ds))
        ≡ spots_where (λ m. is_under key m.owner m.decl)
        (cond k (cond enabled (record { owner = p; position = at; place = n; decl = d }
        ∷ members_from key.kind p (at + 1) (n + 1) ds) (members_from key.kind p (at + 1) (n + 1) ds))
        (members_from key.kind p (at + 1) n ds))
    by true true next other = ap (λ l. cond (is_under key p d) (record { uid = p.uid; position = at; place = n } ∷ l) l)
        next
    by true false next other = next
    by false enabled next other = other

under_stopped : (key : Key) (ps : List Package) (uid : ℕ) (stopped : Bool)
    → spots_under key (with_stopped ps uid stopped) ≡ spots_under key ps
under_stopped key [] uid stopped = refl
under_stopped key (p ∷ ps) uid stopped =
    spots_under-cons key (cond (eqb p.uid uid) (record p { stopped = stopped }) p) (with_stopped ps uid stopped)
    ∙ ap (λ l. spots_of_package key (cond (eqb p.uid uid) (record p { stopped = stopped }) p) ++ l)
    (under_stopped key ps uid stopped)
    ∙ ap (λ l. l ++ spots_under key ps) (by (eqb p.uid uid))
    ∙ sym (spots_under-cons key p ps)
  where
    by : (b : Bool) → spots_of_package key (cond b (record p { stopped = stopped }) p) ≡ spots_of_package key p
    by true = spots_stopped key p stopped 0 0 p.decls
    by false = refl

-- the index represents packages whether they are stopped or not
pub stands_stopped : (index : FilterIndex) (ps : List Package) (uid : ℕ) (stopped : Bool) → StandsFor index ps
    → StandsFor index (with_stopped ps uid stopped)
stands_stopped index ps uid stopped stands = record {
  rising = subst (λ (l : List ℕ). IsStrictlyIncreasing l) (sym (uids_stopped ps uid stopped)) stands.rising;
  lists = λ key. stands.lists key ∙ sym (under_stopped key ps uid stopped);
}
