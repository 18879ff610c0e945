-- What calls on packages come to, by what was found; and that what was prepared can be made and taken back.
use Rattle.std.proofs.Common.{◌≡◌, ℕ, ◌<◌, ◌≤◌, ◌==◌, ◌+◌, Bool, true, false, true≢false, not, ◌&&◌, ◌||◌, cond, List, [], ◌∷◌, ◌++◌, length, Option, Some, None, Result, Ok, Err, refl, subst, sym, ap, ◌∙◌, arith}
use Rattle.std.specs.Prelude.{filter, nat_le}
use Rattle.std.specs.List.{list_any, IsDistinct}
use Rattle.std.specs.Option.{option_map}
use Rattle.std.specs.Cmp.{nat_eq_equiv, unsigned_Decides}
use Rattle.std.specs.Cmp.Lexicographic.{nat_list_eq_equiv}
use Rattle.std.proofs.lemmas.Bool.{leb-false}
use Rattle.std.proofs.lemmas.List.Elements.{recursion_from_All}
use Rattle.am_types.specs.declared.device.Grant.{Grant}
use Rattle.am_types.specs.declared.device.Link.{Link}
use Rattle.am_types.specs.declared.device.Package.{Package}
use Rattle.am_types.specs.declared.history.Entry.{Entry}
use Rattle.am_types.specs.declared.manifest.Manifest.{Manifest}
use Rattle.am_types.specs.declared.manifest.ManifestFault.{ManifestFault}
use Rattle.am_types.specs.declared.reply.Reply.{Reply}
use Rattle.am_types.specs.declared.reply.Reply.TheVariants as replies
use Rattle.am_types.specs.declared.request.Request.{Request}
use Rattle.am_types.specs.declared.request.Request.TheVariants as asks
use Rattle.am_types.specs.declared.rule.Limit.{Limit}
use Rattle.am_types.specs.declared.rule.Limit.TheVariants as limits
use Rattle.am_types.specs.declared.rule.Rule.TheVariants as rules
use Rattle.am_keeper.specs.declared.rows.Row.{Row}
use Rattle.am_manifest.specs.Manifests.{manifest_of}
use Rattle.am_model.specs.Boards.{Board, grants_without, links_without, registered_without, with_stopped, is_package_uid, package_named, without_package}
use Rattle.am_model.specs.Lists.{inserted}
use Rattle.am_model.specs.Rights.{Right, before_right, grant_of, has_right, is_right, link_of, of_grant, of_link, with_right as right_set}
use Rattle.am_model.proofs.Lists.{length_left}
use Rattle.am_model.specs.Broadcasts.{Broadcasts}
use Rattle.am_model.specs.Gates.{is_privileged}
use Rattle.am_model.specs.Pendings.{Pendings, forget_uid as forget_pendings}
use Rattle.am_model.specs.Sending.{forget_uid as forget_broadcasts}
use Rattle.am_model.specs.Tasks.{Tasks, forget_uid as forget_tasks}
use Rattle.am_model.specs.Texts.{is_same}
use Rattle.am_installed.specs.Installed.{AreInstalled}
use Rattle.am_history.proofs.Acts.{act_is}
use Rattle.am_history.specs.Answers.{done, for_admin, for_found, for_package, refused}
use Rattle.am_history.specs.Kept.{gone_row, installed_row, row_of}
use Rattle.am_history.specs.Packages.{force_stop, forget, grant, install, install_read, installed, is_full, is_key_used, is_name_used, link, no_uid, uninstall, without}
use Rattle.am_history.specs.State.{Service, State, with_packages}
use Rattle.am_history.specs.Steps.{act, at_moment, keeps_row}
use Rattle.am_laws.proofs.Tests.{both, neither, unless_true}
use Rattle.am_laws_state.proofs.SoundPackages.{last_is_new}
use Rattle.am_laws_state.proofs.SoundSteps.{sound_after}
use Rattle.am_laws_state.specs.Sound.{IsSoundState}
use Rattle.am_live_packages.specs.Changes.{changed, count_held, is_held, prepared, right_limit, right_request, right_row, with_held, with_package, with_right, Fits, IsAccepted, IsInstallable, IsPlanOf, IsPrepared}
use Rattle.am_live_packages.specs.declared.change.Change.{Change}
use Rattle.am_live_packages.specs.declared.change.Change.TheVariants as changes
use Rattle.am_live_packages.specs.declared.change.Plan.TheVariants as plans
use Rattle.am_live_packages.specs.declared.change.RightChange.{RightChange}
use Rattle.am_types.specs.declared.device.RightKind.{RightKind}
use Rattle.am_types.specs.declared.device.RightKind.TheVariants.{Permission, Host}

-- what follows for the system and the root, and what for others
pub admin_goes : (state : State) (caller : ℕ) (next : Reply × State) → is_privileged caller ≡ true
    → for_admin state caller next ≡ next
admin_goes state caller next admin = ap (λ (b : Bool). cond b next (refused state rules.AdminOnly)) admin

pub others_stop : (state : State) (caller : ℕ) (next : Reply × State) → is_privileged caller ≡ false
    → for_admin state caller next ≡ refused state rules.AdminOnly
others_stop state caller next other = ap (λ (b : Bool). cond b next (refused state rules.AdminOnly)) other

-- what follows for the package of a name, by what was found
pub found_goes : (state : State) (name : List ℕ) (next : Package → Reply × State) (found : Option Package)
    → package_named state.board.packages name ≡ found
    → for_package state name next ≡ for_found state found next
found_goes state name next found is = ap (λ (o : Option Package). for_found state o next) is

-- a call that has a row kept is refused to others than the system and the root
pub not_admin : (state : State) (caller : ℕ) (request : Request) → is_privileged caller ≡ false → keeps_row request
    ≡ true
    → IsPlanOf (plans.Refused rules.AdminOnly) state caller request
unfolding install uninstall grant link
not_admin state caller (asks.Install text key) other keeps = λ (moment : ℕ) (before : List Entry).
    act_is (at_moment state moment) before caller (asks.Install text key)
    ∙ others_stop (at_moment state moment) caller _ other
not_admin state caller (asks.Uninstall name) other keeps = λ (moment : ℕ) (before : List Entry).
    act_is (at_moment state moment) before caller (asks.Uninstall name)
    ∙ others_stop (at_moment state moment) caller _ other
not_admin state caller (asks.Grant name permission held) other keeps = λ (moment : ℕ) (before : List Entry).
    act_is (at_moment state moment) before caller (asks.Grant name permission held)
    ∙ others_stop (at_moment state moment) caller _ other
not_admin state caller (asks.Link name host approved) other keeps = λ (moment : ℕ) (before : List Entry).
    act_is (at_moment state moment) before caller (asks.Link name host approved)
    ∙ others_stop (at_moment state moment) caller _ other
not_admin state caller _ other keeps = absurd cc

-- the packages of a sound state are installed as they have to be
are_installed : (state : State) → IsSoundState state → AreInstalled state.board.packages
unfolding IsDistinct
are_installed state sound = record {
  rising = sound.packages.rising;
  names = sound.packages.names.1;
  each = λ k d h. record { few = (sound.packages.each k d h).few; classes = (sound.packages.each k d h).classes };
}

-- what a right comes to that a uid is given, or that is taken from it
abbrev right_to : State → RightKind → ℕ → List ℕ → Bool → Reply × State
right_to state kind uid text held =
    cond ((held && not (is_held state.board kind uid text)) && nat_le 256 (count_held state.board kind uid))
    (refused state (rules.OverLimit (right_limit kind))) (done (with_right state kind uid text held))

act_right : (kind : RightKind) (state : State) (before : List Entry) (caller : ℕ) (name text : List ℕ) (held : Bool)
    → act state before caller (right_request kind name text held)
    ≡ for_admin state caller (for_package state name (λ (owner : Package). right_to state kind owner.uid text held))
unfolding grant link
act_right Permission state before caller name text held = act_is state before caller (asks.Grant name text held)
act_right Host state before caller name text held = act_is state before caller (asks.Link name text held)

-- the row that is kept of it
row_of_right : (kind : RightKind) (state : State) (name text : List ℕ) (held : Bool)
    → row_of state (right_request kind name text held) ≡ option_map
    (λ (owner : Package). right_row kind owner.uid text held) (package_named state.board.packages name)
row_of_right Permission state name text held = refl
row_of_right Host state name text held = refl

-- what is planned for the system and the root
module _ (state : State) (caller : ℕ) (admin : is_privileged caller ≡ true) where
  -- an installation by what was read
  install_goes : (text key : List ℕ) (read : Result Manifest ManifestFault) (moment : ℕ) (before : List Entry)
      → manifest_of text ≡ read
      → act (at_moment state moment) before caller (asks.Install text key)
      ≡ install_read (at_moment state moment) key read
  unfolding install
  install_goes text key read moment before is =
      act_is (at_moment state moment) before caller (asks.Install text key)
      ∙ admin_goes (at_moment state moment) caller (install_read (at_moment state moment) key (manifest_of text)) admin
      ∙ ap (install_read (at_moment state moment) key) is

  pub bad_manifest : (text key : List ℕ) (fault : ManifestFault) → manifest_of text ≡ Err fault
      → IsPlanOf (plans.Refused (rules.BadManifest fault)) state caller (asks.Install text key)
  bad_manifest text key fault is = λ (moment : ℕ) (before : List Entry). install_goes text key (Err fault) moment before
      is

  -- an installation of a package, by whether its name or key is in use, and whether no package can be added
  abbrev tested : State → List ℕ → Manifest → Bool → Bool → Reply × State
  tested s key manifest used full =
      cond used (refused s rules.Installed)
      (cond full (refused s (rules.OverLimit limits.Packages))
      (replies.Installed s.next_uid, record (with_package s (installed s manifest key)) { next_uid = s.next_uid + 1 }))

  module _ (text key : List ℕ) (manifest : Manifest) (is : manifest_of text ≡ Ok manifest) where
    abbrev is_used : Bool
    is_used = is_name_used state.board.packages manifest.«package» || is_key_used state key

    pub in_use : is_used ≡ true → IsPlanOf (plans.Refused rules.Installed) state caller (asks.Install text key)
    in_use used = λ (moment : ℕ) (before : List Entry).
        install_goes text key (Ok manifest) moment before is
        ∙ ap (λ (b : Bool). tested (at_moment state moment) key manifest b (is_full state)) used

    pub too_many : is_used ≡ false → is_full state ≡ true → IsPlanOf (plans.Refused (rules.OverLimit limits.Packages))
        state caller (asks.Install text key)
    too_many unused full = λ (moment : ℕ) (before : List Entry).
        install_goes text key (Ok manifest) moment before is
        ∙ ap (λ (b : Bool). tested (at_moment state moment) key manifest b (is_full state)) unused
        ∙ ap (λ (b : Bool). tested (at_moment state moment) key manifest false b) full

    -- the package can be installed
    fits : IsSoundState state → state.next_uid ≤ no_uid → is_used ≡ false → is_full state ≡ false
        → IsInstallable (installed state manifest key) state
    fits sound low unused room =
        let free = neither (is_name_used state.board.packages manifest.«package») (is_key_used state key) unused in
        let left = neither (nat_le 256 (length state.board.packages)) (state.next_uid == no_uid) room in
        record {
          room = leb-false 256 (length state.board.packages) left.0;
          uid = refl;
          follows = not_last left.1;
          new = last_is_new state.next_uid state.board.packages (recursion_from_All
              (λ (p : Package). p.uid < state.next_uid) state.board.packages sound.packages.below);
          installed = are_installed (record (with_package state (installed state manifest key))
              { next_uid = state.next_uid + 1 }) ((sound_after state sound caller (asks.Install text key)).installed
              text key manifest refl admin is free.0 free.1 room);
        }
      where
        not_last : (state.next_uid == no_uid) ≡ false → state.next_uid < no_uid
        not_last other =
            let differs : state.next_uid ≡ no_uid → ⊥ = λ e. absurd
            (apart ((unsigned_Decides state.next_uid no_uid).1 e) other) in
            omega arith
          where
            apart : (state.next_uid == no_uid) ≡ true → (state.next_uid == no_uid) ≡ false → ⊥
            apart one other = cc

    pub installs : (new : Package) (row : Row) → IsSoundState state → state.next_uid ≤ no_uid → is_used ≡ false
        → is_full state ≡ false
        → new ≡ installed state manifest key → Some row ≡ installed_row state.next_uid text key (Ok manifest)
        → IsPlanOf (plans.Accepted (changes.Install new) row) state caller (asks.Install text key)
    installs new row sound low unused room made kept = record {
      done = λ (moment : ℕ) (before : List Entry).
          install_goes text key (Ok manifest) moment before is
          ∙ ap (λ (b : Bool). tested (at_moment state moment) key manifest b (is_full state)) unused
          ∙ ap (λ (b : Bool). tested (at_moment state moment) key manifest false b) room
          ∙ ap (λ (p : Package). changed (changes.Install p) (at_moment state moment)) (sym made);
      kept = ap (installed_row state.next_uid text key) is ∙ sym kept;
      fits = subst (λ (p : Package). IsInstallable p state) (sym made) (fits sound low unused room);
    }

  -- a removal
  module _ (name : List ℕ) where
    uninstall_goes : (found : Option Package) (moment : ℕ) (before : List Entry)
        → package_named state.board.packages name ≡ found
        → act (at_moment state moment) before caller (asks.Uninstall name)
        ≡ for_found (at_moment state moment) found (λ (owner : Package). done
        (without (at_moment state moment) owner.uid))
    unfolding uninstall
    uninstall_goes found moment before is =
        act_is (at_moment state moment) before caller (asks.Uninstall name)
        ∙ admin_goes (at_moment state moment) caller _ admin
        ∙ found_goes (at_moment state moment) name _ found is

    pub none_uninstalled : package_named state.board.packages name ≡ None
        → IsPlanOf (plans.Refused rules.NoPackage) state caller (asks.Uninstall name)
    none_uninstalled is = λ (moment : ℕ) (before : List Entry). uninstall_goes None moment before is

    pub uninstalls : (owner : Package) (row : Row) → package_named state.board.packages name ≡ Some owner → row
        ≡ gone_row owner
        → IsPlanOf (plans.Accepted (changes.Uninstall owner.uid) row) state caller (asks.Uninstall name)
    uninstalls owner row is kept = record {
      done = λ (moment : ℕ) (before : List Entry). uninstall_goes (Some owner) moment before is;
      kept = ap (option_map gone_row) is ∙ ap Some (sym kept);
      fits = tt;
    }

  -- a right that is given or taken
  module _ (kind : RightKind) (name text : List ℕ) (held : Bool) where
    right_goes : (found : Option Package) (moment : ℕ) (before : List Entry) → package_named state.board.packages name
        ≡ found
        → act (at_moment state moment) before caller (right_request kind name text held)
        ≡ for_found (at_moment state moment) found (λ (owner : Package). right_to (at_moment state moment) kind
        owner.uid text held)
    right_goes found moment before is =
        act_right kind (at_moment state moment) before caller name text held
        ∙ admin_goes (at_moment state moment) caller _ admin
        ∙ found_goes (at_moment state moment) name _ found is

    pub none_given : package_named state.board.packages name ≡ None
        → IsPlanOf (plans.Refused rules.NoPackage) state caller (right_request kind name text held)
    none_given is = λ (moment : ℕ) (before : List Entry). right_goes None moment before is

    module _ (owner : Package) (is_new full : Bool) (is : package_named state.board.packages name ≡ Some owner)
        (new_is : is_new ≡ (held && not (is_held state.board kind owner.uid text)))
        (full_is : full ≡ (is_new && nat_le 256 (count_held state.board kind owner.uid))) where
      abbrev given : State → Bool → Reply × State
      given s many = cond many (refused s (rules.OverLimit (right_limit kind)))
          (done (with_right s kind owner.uid text held))

      right_tested : (many : Bool) (moment : ℕ) (before : List Entry) → full ≡ many
          → act (at_moment state moment) before caller (right_request kind name text held)
          ≡ given (at_moment state moment) many
      right_tested many moment before tests =
          right_goes (Some owner) moment before is
          ∙ ap (λ (b : Bool). given (at_moment state moment) (b && nat_le 256 (count_held state.board kind owner.uid)))
          (sym new_is)
          ∙ ap (given (at_moment state moment)) (sym full_is ∙ tests)

      pub one_too_many : (limit : Limit) → full ≡ true → limit ≡ right_limit kind
          → IsPlanOf (plans.Refused (rules.OverLimit limit)) state caller (right_request kind name text held)
      one_too_many limit tests limit_is = subst (λ (l : Limit). IsPlanOf (plans.Refused (rules.OverLimit l)) state
          caller (right_request kind name text held)) (sym limit_is)
          (λ (moment : ℕ) (before : List Entry). right_tested true moment before tests)

      pub gives : (row : Row) (copy : List ℕ) → full ≡ false → copy ≡ text → row ≡ right_row kind owner.uid text held
          → IsPlanOf (plans.Accepted (changes.Right (record {
            kind = kind;
            uid = owner.uid;
            text = copy;
            held = held;
            is_new = is_new;
          })) row) state caller (right_request kind name text held)
      gives row copy tests copied kept =
          subst (λ (t : List ℕ). IsAccepted (changes.Right (record
          { kind = kind; uid = owner.uid; text = t; held = held; is_new = is_new })) row state caller
          (right_request kind name text held))
          (sym copied) (record {
            done = λ (moment : ℕ) (before : List Entry). right_tested false moment before tests;
            kept = row_of_right kind state name text held ∙ ap (option_map
                (λ (o : Package). right_row kind o.uid text held)) is ∙ ap Some (sym kept);
            fits = new_is;
          })

-- what is taken back was the only one of its kind
module _ {X : Type 0} (test : X → Bool) where
  -- where none passes a test, all stay
  all_stay : (xs : List X) → list_any test xs ≡ false → filter (λ (x : X). not (test x)) xs ≡ xs
  all_stay [] none = refl
  all_stay (x ∷ xs) none =
      let both = neither (test x) (list_any test xs) none in
      ap (λ (b : Bool). cond (not b) (x ∷ filter (λ (y : X). not (test y)) xs) (filter (λ (y : X). not (test y)) xs))
      both.0
      ∙ ap (λ (l : List X). x ∷ l) (all_stay xs both.1)

  -- one that was put behind goes
  last_goes : (x : X) (xs : List X) → test x ≡ true → list_any test xs ≡ false
      → filter (λ (y : X). not (test y)) (xs ++ x ∷ []) ≡ xs
  last_goes x [] one none = ap (λ (b : Bool). cond (not b) (x ∷ []) []) one
  last_goes x (y ∷ ys) one none =
      let both = neither (test y) (list_any test ys) none in
      let left : List X = filter (λ (z : X). not (test z)) (ys ++ x ∷ []) in
      ap (λ (b : Bool). cond (not b) (y ∷ left) left) both.0 ∙ ap (λ (l : List X). y ∷ l) (last_goes x ys one both.1)

  -- one that came into its place goes
  placed_goes : (before : X → X → Bool) (x : X) (xs : List X) → test x ≡ true → list_any test xs ≡ false
      → filter (λ (y : X). not (test y)) (inserted before x xs) ≡ xs
  placed_goes before x [] one none = ap (λ (b : Bool). cond (not b) (x ∷ []) []) one
  placed_goes before x (y ∷ ys) one none = by (before x y) (neither (test y) (list_any test ys) none)
      (placed_goes before x ys one)
    where
      by : (b : Bool) → (test y ≡ false) × (list_any test ys ≡ false)
          → (list_any test ys ≡ false → filter (λ (z : X). not (test z)) (inserted before x ys) ≡ ys)
          → filter (λ (z : X). not (test z)) (cond b (x ∷ y ∷ ys) (y ∷ inserted before x ys)) ≡ y ∷ ys
      by true both rest =
          ap (λ (b : Bool). cond (not b) (x ∷ filter (λ (z : X). not (test z)) (y ∷ ys))
          (filter (λ (z : X). not (test z)) (y ∷ ys))) one
          ∙ all_stay (y ∷ ys) none
      by false both rest =
          ap (λ (b : Bool). cond (not b) (y ∷ filter (λ (z : X). not (test z)) (inserted before x ys))
          (filter (λ (z : X). not (test z)) (inserted before x ys))) both.0
          ∙ ap (λ (l : List X). y ∷ l) (rest both.1)

-- a uid and a text are those of themselves
itself : (uid : ℕ) (text : List ℕ) → (uid == uid) && is_same text text ≡ true
itself uid text = ap (λ (b : Bool). b && is_same text text) (nat_eq_equiv.refl uid) ∙ nat_list_eq_equiv.refl text

-- a package that was put behind the others is taken back
pub package_back : (packages : List Package) (new : Package) → is_package_uid packages new.uid ≡ false
    → without_package (packages ++ new ∷ []) new.uid ≡ packages
package_back packages new none = last_goes (λ (p : Package). p.uid == new.uid) new packages (nat_eq_equiv.refl new.uid)
    none

-- a right that wasn't there is taken back
right_back : {R : Type 0} (right_of : R → Right) (made : ℕ → List ℕ → R)
    → ((uid : ℕ) (text : List ℕ) → right_of (made uid text) ≡ (uid, text)) → (rights : List R) (uid : ℕ) (text : List ℕ)
    → has_right right_of rights uid text ≡ false → right_set right_of made
    (right_set right_of made rights uid text true) uid text false ≡ rights
right_back {R} right_of made made_is rights uid text none =
    ap (λ (b : Bool). right_set right_of made (cond b rights (inserted (before_right right_of) (made uid text) rights))
    uid text false) none
    ∙ placed_goes (is_right right_of uid text) (before_right right_of) (made uid text) rights
    (subst (λ (r : Right). (r.0 == uid) && is_same r.1 text ≡ true) (sym (made_is uid text)) (itself uid text)) none

-- so is a grant, and a link
held_back : (kind : RightKind) (board : Board) (uid : ℕ) (text : List ℕ) → is_held board kind uid text ≡ false
    → with_held (with_held board kind uid text true) kind uid text false ≡ board
held_back Permission board uid text none =
    ap (λ (grants : List Grant). record board { grants = grants })
    (right_back of_grant grant_of (λ u t. refl) board.grants uid text none)
held_back Host board uid text none =
    ap (λ (links : List Link). record board { links = links }) (right_back of_link link_of (λ u t. refl) board.links uid
    text none)

-- one that is there already isn't put twice
held_stays : (kind : RightKind) (board : Board) (uid : ℕ) (text : List ℕ) → is_held board kind uid text ≡ true
    → with_held board kind uid text true ≡ board
held_stays Permission board uid text has =
    ap (λ (b : Bool). record board {
      grants = cond b board.grants (inserted (before_right of_grant) (grant_of uid text)
          board.grants);
    }) has
held_stays Host board uid text has =
    ap (λ (b : Bool). record board {
      links = cond b board.links (inserted (before_right of_link) (link_of uid text)
          board.links);
    }) has

-- what is left of the parts is what is left of the state
pub forgotten : (old before : State) (uid : ℕ) (board : Board) (queues : Broadcasts) (pending : Pendings)
    (tasks : Tasks) (services : List Service)
    → before ≡ old → board ≡ record (before.board) { registered = registered_without before.board.registered uid }
    → queues ≡ forget_broadcasts before.broadcasts uid before.moment → pending ≡ forget_pendings before.pendings uid
    → tasks ≡ forget_tasks before.tasks uid → services ≡ filter (λ (service : Service). not (service.owner == uid))
    before.services
    → record before { board = board; broadcasts = queues; pendings = pending; tasks = tasks; services = services }
    ≡ forget old uid
forgotten old before uid board queues pending tasks services same board_is queues_are pending_is tasks_are services_are
    =
    (λ i. record before {
      board = board_is i;
      broadcasts = queues_are i;
      pendings = pending_is i;
      tasks = tasks_are i;
      services = services_are i;
    })
    ∙ ap (λ (s : State). forget s uid) same

-- there are no more packages without one
pub few_left : (old new : Board) (uid : ℕ) → new ≡ record old { packages = without_package old.packages uid }
    → length old.packages ≤ 256 → length new.packages ≤ 256
few_left old new uid is few =
    let left = length_left (λ (p : Package). not (p.uid == uid)) old.packages in
    let fewer : length (without_package old.packages uid) ≤ 256 = omega arith in
    subst (λ (b : Board). length b.packages ≤ 256) (sym is) fewer

pub few_kept : (old new newer : Board) (uid : ℕ) → new ≡ record old { packages = without_package old.packages uid }
    → newer ≡ record new { grants = grants_without new.grants uid; links = links_without new.links uid }
    → length old.packages ≤ 256 → length newer.packages ≤ 256
few_kept old new newer uid is kept few = subst (λ (b : Board). length b.packages ≤ 256) (sym kept)
    (few_left old new uid is few)

-- a package that is to be stopped, by what was found
module _ (state now : State) (caller : ℕ) (name : List ℕ) (same : now ≡ state) where
  abbrev stopped : State → Package → Reply × State
  stopped s owner = let left = forget s owner.uid in done (with_packages left
      (with_stopped left.board.packages owner.uid true))

  stop_goes : (found : Option Package) → is_privileged caller ≡ true → package_named now.board.packages name ≡ found
      → force_stop state caller name ≡ for_found now found (stopped now)
  unfolding force_stop
  stop_goes found admin is =
      ap (λ (s : State). for_admin s caller (for_package s name (stopped s))) (sym same)
      ∙ admin_goes now caller _ admin
      ∙ found_goes now name (stopped now) found is

  pub stop_refused : is_privileged caller ≡ false → force_stop state caller name
      ≡ (replies.Refused rules.AdminOnly, now)
  unfolding force_stop
  stop_refused other =
      ap (λ (s : State). for_admin s caller (for_package s name (stopped s))) (sym same)
      ∙ others_stop now caller _ other

  pub none_stopped : is_privileged caller ≡ true → package_named now.board.packages name ≡ None
      → force_stop state caller name ≡ (replies.Refused rules.NoPackage, now)
  none_stopped admin is = stop_goes None admin is

  pub stops : (owner : Package) (left : State) → is_privileged caller ≡ true → package_named now.board.packages name
      ≡ Some owner
      → left ≡ with_packages (forget now owner.uid) (with_stopped (forget now owner.uid).board.packages owner.uid true)
      → force_stop state caller name ≡ (replies.Plain, left)
  stops owner left admin is left_is = stop_goes (Some owner) admin is ∙ ap done (sym left_is)

-- what was prepared is undone
module _ (change : Change) (old before : State) (board : Board) (same : before ≡ old) where
  pub install_undone : (p : Package) → change ≡ changes.Install p → board
      ≡ record (before.board) { packages = without_package before.board.packages p.uid }
      → (s : State) → Fits change s → old ≡ prepared change s → record before { board = board } ≡ s
  install_undone p is board_is s fits made =
      let fitted : IsInstallable p s = subst (λ (c : Change). Fits c s) is fits in
      (λ i. record before { board = board_is i })
      ∙ ap (λ (t : State). with_packages t (without_package t.board.packages p.uid))
      (same ∙ made ∙ ap (λ (c : Change). prepared c s) is)
      ∙ ap (with_packages s) (package_back s.board.packages p fitted.new)

  pub right_undone : (right : RightChange) → change ≡ changes.Right right → right.is_new ≡ true → board
      ≡ with_held before.board right.kind right.uid right.text false
      → (s : State) → Fits change s → old ≡ prepared change s → record before { board = board } ≡ s
  right_undone right is new board_is s fits made =
      let fitted : right.is_new ≡ (right.held && not (is_held s.board right.kind right.uid right.text)) = subst
      (λ (c : Change). Fits c s) is fits in
      let absent : is_held s.board right.kind right.uid right.text
      ≡ false = unless_true _ (both right.held _ (sym fitted ∙ new)).1 in
      (λ i. record before { board = board_is i })
      ∙ ap (λ (t : State). with_right t right.kind right.uid right.text false)
      (same ∙ made ∙ ap (λ (c : Change). prepared c s) is ∙ ap (λ (b : Bool). cond b
      (with_right s right.kind right.uid right.text true) s) new)
      ∙ ap (λ (b : Board). record s { board = b }) (held_back right.kind s.board right.uid right.text absent)

-- a right that was prepared is given, or taken
module _ (kind : RightKind) (uid : ℕ) (text : List ℕ) (moment : ℕ) where
  abbrev right_change : Bool → Bool → Change
  right_change held is_new = changes.Right (record {
    kind = kind;
    uid = uid;
    text = text;
    held = held;
    is_new = is_new;
  })

  -- where it is to be held, nothing is left to do
  stays : (is_new : Bool) (old s : State) → IsPrepared (right_change true is_new) old → old
      ≡ prepared (right_change true is_new) s
      → changed (right_change true is_new) (at_moment s moment) ≡ (replies.Plain, at_moment old moment)
  stays true old s ready made = ap (λ (t : State). (replies.Plain, at_moment t moment)) (sym made)
  stays false old s ready made =
      let has : is_held s.board kind uid text ≡ true =
      subst (λ (t : State). is_held t.board kind uid text ≡ true) (sym ready.same ∙ made)
      (unless_false (is_held ready.before.board kind uid text) (sym ready.fits)) in
      ap (λ (b : Board). (replies.Plain, record (at_moment s moment) { board = b }))
      (held_stays kind s.board uid text has)
      ∙ ap (λ (t : State). (replies.Plain, at_moment t moment)) (sym made)
    where
      unless_false : (b : Bool) → not b ≡ false → b ≡ true
      unless_false true is = refl
      unless_false false is = sym is

  -- where it isn't, it is taken
  goes : (is_new : Bool) (old s : State) → IsPrepared (right_change false is_new) old → old
      ≡ prepared (right_change false is_new) s
      → changed (right_change false is_new) (at_moment s moment) ≡
      (replies.Plain, with_right (at_moment old moment) kind uid text false)
  goes true old s ready made = absurd (true≢false ready.fits)
  goes false old s ready made = ap (λ (t : State). (replies.Plain, with_right (at_moment t moment) kind uid text false))
      (sym made)

  right_made : (held is_new : Bool) (old settled before : State) (board : Board)
      → IsPrepared (right_change held is_new) old
      → settled ≡ at_moment old moment → before ≡ settled → board ≡
      (cond held before.board (with_held before.board kind uid text false))
      → (s : State) → old ≡ prepared (right_change held is_new) s
      → changed (right_change held is_new) (at_moment s moment) ≡ (replies.Plain, record before { board = board })
  right_made true is_new old settled before board ready settles same board_is s made =
      stays is_new old s ready made ∙ ap (λ (t : State). (replies.Plain, t)) (sym (same ∙ settles))
      ∙ ap (λ (b : Board). (replies.Plain, record before { board = b })) (sym board_is)
  right_made false is_new old settled before board ready settles same board_is s made =
      goes is_new old s ready made ∙ ap (λ (t : State). (replies.Plain, with_right t kind uid text false))
      (sym (same ∙ settles))
      ∙ ap (λ (b : Board). (replies.Plain, record before { board = b })) (sym board_is)

pub right_carried : (right : RightChange) (change : Change) (old settled before : State) (board : Board) (moment : ℕ)
    → change ≡ changes.Right right → IsPrepared change old
    → settled ≡ at_moment old moment → before ≡ settled → board ≡ (cond right.held before.board
    (with_held before.board right.kind right.uid right.text false))
    → (s : State) → old ≡ prepared change s → changed change (at_moment s moment)
    ≡ (replies.Plain, record before { board = board })
right_carried right change old settled before board moment is ready settles same board_is s made =
    ap (λ (c : Change). changed c (at_moment s moment)) is
    ∙ right_made right.kind right.uid right.text moment right.held right.is_new old settled before board
    (subst (λ (c : Change). IsPrepared c old) is ready) settles same board_is s
    (made ∙ ap (λ (c : Change). prepared c s) is)
