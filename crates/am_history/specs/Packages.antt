-- Packages that come, go and stop, and what is given to them.
use Rattle.std.specs.Prelude.{ℕ, ◌+◌, Bool, true, false, not, ◌&&◌, ◌||◌, ◌==◌, nat_le, List, [], ◌∷◌, ◌++◌, length, filter, if◌then◌else◌, Option, Some, None, Result, Ok, Err}
use Rattle.std.specs.List.{list_any, count_by}
use Rattle.am_types.specs.declared.device.Package.{Package}
use Rattle.am_types.specs.declared.device.Grant.{Grant}
use Rattle.am_types.specs.declared.device.Link.{Link}
use Rattle.am_types.specs.declared.manifest.Manifest.{Manifest}
use Rattle.am_types.specs.declared.manifest.ManifestFault.{ManifestFault}
use Rattle.am_types.specs.declared.reply.Reply.{Reply}
use Rattle.am_types.specs.declared.reply.Reply.TheVariants as replies
use Rattle.am_types.specs.declared.rule.Rule.TheVariants as rules
use Rattle.am_types.specs.declared.rule.Limit.TheVariants as limits
use Rattle.am_model.specs.Texts.{is_same}
use Rattle.am_model.specs.Boards.{Board, with_stopped, without_package, with_grant, with_link, is_granted, is_linked, grants_without, links_without, registered_without}
use Rattle.am_model.specs.Sending as sending
use Rattle.am_model.specs.Pendings as pendings
use Rattle.am_model.specs.Tasks as tasks
use Rattle.am_manifest.specs.Manifests.{manifest_of}
use Rattle.am_history.specs.State.{State, Service, with_packages}
use Rattle.am_history.specs.Answers.{refused, done, for_admin, for_package}

-- the greatest uid, which is never given
abbrev pub no_uid : ℕ
no_uid = 4294967295

-- a uid is forgotten: its instances, services and registered receivers go, its pending records are canceled and it
-- holds no token, it waits for no results, and no broadcast goes to it any longer
abbrev pub forget : State → ℕ → State
forget state uid = record state {
  board = record (state.board) { registered = registered_without state.board.registered uid };
  broadcasts = sending.forget_uid state.broadcasts uid state.moment;
  pendings = pendings.forget_uid state.pendings uid;
  tasks = tasks.forget_uid state.tasks uid;
  services = filter (λ (service : Service). not (service.owner == uid)) state.services;
}

-- the board without a package, its grants and its links
abbrev pub removed : Board → ℕ → Board
removed board uid = record board {
  packages = without_package board.packages uid;
  grants = grants_without board.grants uid;
  links = links_without board.links uid;
}

-- the root has the key
abbrev pub is_root_key : Option (List ℕ) → List ℕ → Bool
is_root_key None key = false
is_root_key (Some root_key) key = is_same root_key key

-- a caller of the state has the key
abbrev pub is_key_used : State → List ℕ → Bool
is_key_used state key =
    (is_same state.system_key key || is_root_key state.root_key key)
    || list_any (λ (p : Package). is_same p.key key) state.board.packages

-- a package of the state has the name
abbrev pub is_name_used : List Package → List ℕ → Bool
is_name_used packages name = list_any (λ (p : Package). is_same p.name name) packages

-- a package that was installed by request is stopped
abbrev pub installed : State → Manifest → List ℕ → Package
installed state manifest key =
    record { uid = state.next_uid; name = manifest.«package»; key = key; stopped = true; decls = manifest.decls }

-- no more packages can be added
abbrev pub is_full : State → Bool
is_full state = nat_le 256 (length state.board.packages) || (state.next_uid == no_uid)

-- a package whose manifest was read is installed
abbrev pub install_read : State → List ℕ → Result Manifest ManifestFault → Reply × State
install_read state key (Err fault) = refused state (rules.BadManifest fault)
install_read state key (Ok manifest) =
    if is_name_used state.board.packages manifest.«package» || is_key_used state key then refused state rules.Installed
    else if is_full state then refused state (rules.OverLimit limits.Packages)
    else (
      replies.Installed state.next_uid,
      record (with_packages state (state.board.packages ++ installed state manifest key ∷ []))
          { next_uid = state.next_uid + 1 },
    )

-- a package is installed from the text of its manifest
unfoldable pub install : State → ℕ → List ℕ → List ℕ → Reply × State
install state caller text key = for_admin state caller (install_read state key (manifest_of text))

-- the state without a package, of which nothing is left
abbrev pub without : State → ℕ → State
without state uid = let left = forget state uid in record left { board = removed left.board uid }

-- a package is uninstalled
unfoldable pub uninstall : State → ℕ → List ℕ → Reply × State
uninstall state caller name =
    for_admin state caller (for_package state name (λ (owner : Package). done (without state owner.uid)))

-- a package is stopped, and nothing of it goes on
unfoldable pub force_stop : State → ℕ → List ℕ → Reply × State
force_stop state caller name =
    for_admin state caller (for_package state name (λ (owner : Package).
    let left = forget state owner.uid in
    done (with_packages left (with_stopped left.board.packages owner.uid true))))

-- the 257th grant of a package
abbrev pub too_many_grants : List Grant → ℕ → List ℕ → Bool → Bool
too_many_grants grants uid permission held =
    (held && not (is_granted grants uid permission)) && nat_le 256 (count_by (λ (g : Grant). g.uid == uid) grants)

-- a permission is given to a package, or taken
abbrev pub grant_to : State → ℕ → List ℕ → Bool → Reply × State
grant_to state uid permission held =
    if too_many_grants state.board.grants uid permission held then refused state (rules.OverLimit limits.Grants)
    else done (record state {
      board = record (state.board) {
        grants = with_grant state.board.grants uid permission held;
      };
    })

-- a permission is given to a package by its name, or taken
unfoldable pub grant : State → ℕ → List ℕ → List ℕ → Bool → Reply × State
grant state caller name permission held =
    for_admin state caller (for_package state name (λ (owner : Package). grant_to state owner.uid permission held))

-- the 257th link of a package
abbrev pub too_many_links : List Link → ℕ → List ℕ → Bool → Bool
too_many_links links uid host approved =
    (approved && not (is_linked links uid host)) && nat_le 256 (count_by (λ (l : Link). l.uid == uid) links)

-- a package is approved for the links of a host, or no longer is
abbrev pub link_to : State → ℕ → List ℕ → Bool → Reply × State
link_to state uid host approved =
    if too_many_links state.board.links uid host approved then refused state (rules.OverLimit limits.Links)
    else done (record state { board = record (state.board) { links = with_link state.board.links uid host approved } })

-- a package is approved by its name for the links of a host, or no longer is
unfoldable pub link : State → ℕ → List ℕ → List ℕ → Bool → Reply × State
link state caller name host approved =
    for_admin state caller (for_package state name (λ (owner : Package). link_to state owner.uid host approved))
