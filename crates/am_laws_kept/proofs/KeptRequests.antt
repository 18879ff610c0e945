-- What each request has done is found with the row that it has kept.
use Rattle.std.proofs.Common.{◌≡◌, ℕ, Bool, true, false, ◌||◌, cond, List, refl, sym, ◌∙◌}
use Rattle.std.specs.Prelude.{IsTrue, Option, Some, None, Result, Ok, Err}
use Rattle.std.specs.Option.{option_map}
use Rattle.am_types.specs.declared.device.Device.{Device}
use Rattle.am_types.specs.declared.device.Package.{Package}
use Rattle.am_types.specs.declared.manifest.Manifest.{Manifest}
use Rattle.am_types.specs.declared.manifest.ManifestFault.{ManifestFault}
use Rattle.am_types.specs.declared.history.Entry.{Entry}
use Rattle.am_types.specs.declared.reply.Reply.{Reply}
use Rattle.am_types.specs.declared.request.Request.{Request}
use Rattle.am_types.specs.declared.request.Request.TheVariants as asks
use Rattle.am_types.specs.declared.rule.Rule.{Rule}
use Rattle.am_types.specs.declared.rule.Rule.TheVariants as rules
use Rattle.am_types.specs.declared.rule.Limit.{Limit}
use Rattle.am_types.specs.declared.rule.Limit.TheVariants as limits
use Rattle.am_keeper.specs.declared.rows.Row.{Row}
use Rattle.am_keeper.specs.declared.rows.Row.TheVariants as kinds
use Rattle.am_keeper.specs.declared.rows.Rows.{Rows}
use Rattle.am_keeper.specs.Rows.{IsInOrder}
use Rattle.am_model.specs.Boards.{is_package_uid, package_named}
use Rattle.am_model.specs.Gates.{is_privileged}
use Rattle.am_model.specs.Sound.{IsSound}
use Rattle.am_manifest.specs.Manifests.{manifest_of}
use Rattle.am_history.specs.State.{State}
use Rattle.am_history.specs.Answers.{done, for_admin, for_found, for_package, refused}
use Rattle.am_history.specs.Kept.{gone_row, installed_row, row_of}
use Rattle.am_history.specs.Packages.{grant, install, install_read, is_full, is_key_used, is_name_used, link, uninstall, without}
use Rattle.am_history.specs.Steps.{act, asks_keeper, has_formed_row, is_refusal, keeps_row}
use Rattle.am_laws.proofs.Packages.{named_is_live}
use Rattle.am_laws.proofs.Tests.{neither}
use Rattle.am_laws_state.specs.Sound.{IsSoundState}
use Rattle.am_laws_kept.specs.Found.{OpensAs, with_kept}
use Rattle.am_laws_kept.proofs.KeptSteps.{grant_is_found, installation_is_found, link_is_found, removal_is_found}
use Rattle.am_laws_kept.proofs.OtherRequests.{other_stays}

module _ (device : Device) (kept : Rows) (state : State) (sound : IsSound device) (order : IsInOrder kept)
    (whole : IsSoundState state) (opens : OpensAs device kept state)
    (caller : ℕ) where
  -- with a row, unless the answer refuses, the device opens as the state that is left
  abbrev IsFound : Option Row → Reply × State → Type 0
  IsFound row out = OpensAs device (with_kept kept (cond (cond (is_refusal out.0) false true) row None)) out.1

  -- what is refused has no row
  refused_is_found : (row : Option Row) (rule : Rule) → IsFound row (refused state rule)
  refused_is_found row rule = opens

  -- either of two answers
  either_is_found : (row : Option Row) (test : Bool) (first second : Reply × State) → (test ≡ true → IsFound row first)
      → (test ≡ false → IsFound row second) → IsFound row (cond test first second)
  either_is_found row true first second one other = one refl
  either_is_found row false first second one other = other refl

  -- an answer for the system and the root alone
  admin_is_found : (row : Option Row) (next : Reply × State) → IsFound row next
      → IsFound row (for_admin state caller next)
  admin_is_found row next found = either_is_found row (is_privileged caller) next (refused state rules.AdminOnly)
      (λ is. found) (λ is. refused_is_found row rules.AdminOnly)

  -- an answer for the package of a name, whose row it is
  package_is_found : (name : List ℕ) (row_for : Package → Row) (next : Package → Reply × State)
      → ((owner : Package) → package_named state.board.packages name ≡ Some owner
      → IsFound (Some (row_for owner)) (next owner))
      → IsFound (option_map row_for (package_named state.board.packages name)) (for_package state name next)
  package_is_found name row_for next found = by (package_named state.board.packages name) refl
    where
      by : (named : Option Package) → package_named state.board.packages name ≡ named
          → IsFound (option_map row_for named) (for_found state named next)
      by None is = refused_is_found None rules.NoPackage
      by (Some owner) is = found owner is

  -- a right of a package that is given or taken, unless there are too many
  right_is_found : (name : List ℕ) (limit : Limit) (row_for : Package → Row) (many : Package → Bool)
      (after : Package → State)
      → ((owner : Package) → is_package_uid state.board.packages owner.uid ≡ true → many owner ≡ false
      → IsFound (Some (row_for owner)) (done (after owner)))
      → IsFound (option_map row_for (package_named state.board.packages name))
      (for_admin state caller (for_package state name (λ (owner : Package). cond (many owner)
      (refused state (rules.OverLimit limit)) (done (after owner)))))
  right_is_found name limit row_for many after found =
      admin_is_found _ (for_package state name next) (package_is_found name row_for next
      (λ owner is. either_is_found (Some (row_for owner)) (many owner) (refused state (rules.OverLimit limit)) _
      (λ full. refused_is_found (Some (row_for owner)) (rules.OverLimit limit))
      (λ room. found owner (named_is_live state.board.packages name owner is) room)))
    where
      next : Package → Reply × State
      next owner = cond (many owner) (refused state (rules.OverLimit limit)) (done (after owner))

  -- a package whose manifest was read
  read_is_found : (text key : List ℕ) (manifest : Result Manifest ManifestFault) → manifest_of text ≡ manifest
      → IsTrue (has_formed_row (asks.Install text key))
      → IsFound (installed_row state.next_uid text key manifest) (install_read state key manifest)
  read_is_found text key (Err fault) is formed = refused_is_found None (rules.BadManifest fault)
  read_is_found text key (Ok manifest) is formed =
      either_is_found row (is_name_used state.board.packages manifest.«package» || is_key_used state key)
      (refused state rules.Installed) _
      (λ used. refused_is_found row rules.Installed)
      (λ unused. either_is_found row (is_full state) (refused state (rules.OverLimit limits.Packages)) _
      (λ full. refused_is_found row (rules.OverLimit limits.Packages))
      (λ room.
      let parts = neither (is_name_used state.board.packages manifest.«package») (is_key_used state key) unused in
      installation_is_found device kept state sound order whole opens caller (asks.Install text key) text key manifest
      is parts.0 parts.1 room formed))
    where
      row : Option Row
      row = installed_row state.next_uid text key (Ok manifest)

  -- each request that has a row kept
  keeping_is_found : (before : List Entry) (request : Request) → keeps_row request ≡ true → IsTrue (has_formed_row request)
      → IsFound (row_of state request) (act state before caller request)
  unfolding act install uninstall grant link
  keeping_is_found before (asks.Install text key) keeps formed =
      admin_is_found _ (install_read state key (manifest_of text))
      (read_is_found text key (manifest_of text) refl formed)
  keeping_is_found before (asks.Uninstall name) keeps formed =
      admin_is_found _ (for_package state name (λ (owner : Package). done (without state owner.uid)))
      (package_is_found name gone_row (λ (owner : Package). done (without state owner.uid))
      (λ owner is.
      removal_is_found device kept state sound order whole opens caller (asks.Uninstall name) owner.uid owner.name
      (named_is_live state.board.packages name owner is)))
  keeping_is_found before (asks.Grant name permission held) keeps formed =
      right_is_found name limits.Grants
      (λ owner. kinds.Grant (record { uid = owner.uid; permission = permission; held = held })) _ _
      (λ owner. grant_is_found device kept state sound order whole opens caller (asks.Grant name permission held)
      owner.uid permission held)
  keeping_is_found before (asks.Link name host approved) keeps formed =
      right_is_found name limits.Links
      (λ owner. kinds.Link (record { uid = owner.uid; host = host; approved = approved })) _ _
      (λ owner. link_is_found device kept state sound order whole opens caller (asks.Link name host approved) owner.uid
      host approved formed)
  keeping_is_found before _ keeps formed = absurd cc

  -- each request
  pub act_is_found : (before : List Entry) (request : Request) → IsTrue (has_formed_row request)
      → OpensAs device (with_kept kept (cond (asks_keeper state before caller request) (row_of state request) None))
      (act state before caller request).1
  act_is_found before request formed = by (keeps_row request) refl
    where
      by : (keeps : Bool) → keeps_row request ≡ keeps
          → OpensAs device (with_kept kept (cond (cond keeps (cond (is_refusal (act state before caller request).0)
          false true) false) (row_of state request) None)) (act state before caller request).1
      by true is = keeping_is_found before request is formed
      by false is = record {
        found = opens.found;
        opens = opens.opens;
        same = opens.same
            ∙ sym (other_stays state caller before request is);
      }
