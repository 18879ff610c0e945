-- With the row that a request has kept the device opens as the state that the request leaves.
use Rattle.std.proofs.Common.{◌≡◌, ℕ, ◌+◌, ◌<◌, Bool, true, false, not, ◌&&◌, ◌||◌, eqb, List, [], ◌∷◌, ◌++◌, length, refl, sym, ap, ◌∙◌, subst, inl, inr, arith}
use Rattle.std.specs.Prelude.{◌⊎◌, Option, Ok, ◌==◌, nat_le}
use Rattle.std.specs.Cmp.Lexicographic.{nat_list_eq_equiv}
use Rattle.std.specs.List.{AllByRecursion, list_any}
use Rattle.std.proofs.lemmas.Bool.{cases_Bool, eqb-true, le-leb, leb-false, lt-ltb, ne_eqb, not_from_false, or_parts}
use Rattle.std.proofs.lemmas.List.Elements.{recursion_from_All}
use Rattle.am_types.specs.declared.device.Device.{Device}
use Rattle.am_types.specs.declared.device.Package.{Package}
use Rattle.am_types.specs.declared.device.Grant.{Grant}
use Rattle.am_types.specs.declared.device.Link.{Link}
use Rattle.am_types.specs.declared.manifest.Manifest.{Manifest}
use Rattle.am_types.specs.declared.request.Request.TheVariants as asks
use Rattle.am_types.specs.declared.request.Request.{Request}
use Rattle.am_keeper.specs.declared.rows.PackageRow.{PackageRow}
use Rattle.am_keeper.specs.declared.rows.GrantRow.{GrantRow}
use Rattle.am_keeper.specs.declared.rows.LinkRow.{LinkRow}
use Rattle.am_keeper.specs.declared.rows.Rows.{Rows}
use Rattle.am_keeper.specs.Rows as rows
use Rattle.am_keeper.specs.Rows.{IsInOrder}
use Rattle.am_model.specs.Boards.{is_package_uid, with_grant, with_link, without_package, grants_without, links_without}
use Rattle.am_model.specs.Sound.{IsSound, is_access_key}
use Rattle.am_model.specs.Texts.{is_same, lowered}
use Rattle.am_manifest.specs.Manifests.{manifest_of}
use Rattle.am_history.specs.State.{State, opening, with_packages}
use Rattle.am_history.specs.Packages.{installed, is_full, is_key_used, is_name_used, is_root_key, no_uid, too_many_grants, too_many_links, without}
use Rattle.am_history.specs.Opening.{before_package, is_row_good, kept_package, place_package}
use Rattle.am_laws.proofs.Requests.{Steps}
use Rattle.am_laws_state.specs.Sound.{IsSoundState}
use Rattle.am_laws_state.proofs.SoundPackages.{inserted_last, last_is_new}
use Rattle.am_laws_state.proofs.SoundSteps.{sound_after}
use Rattle.am_laws_kept.specs.Found.{Kept, OpensAs, as_stopped, kept_of}
use Rattle.am_laws_kept.proofs.Alike.{all_alike, any_alike, length_alike, live_has, stopped_more, stopped_without}
use Rattle.am_laws_kept.proofs.Boards.{grant_rows, link_rows, made_gone, made_put, made_same}
use Rattle.am_laws_kept.proofs.NextUids.{below_next, next_after, next_with_grant, next_with_link, next_with_next, next_with_package}
use Rattle.am_laws_kept.proofs.Openings.{ReadsAs, device_is_read, opening_reads, reading_opens}
use Rattle.am_laws_kept.proofs.PackagePuts.{gone_is_put, last_is_read}
use Rattle.am_laws_kept.proofs.PackageRows.{IsRead, good_from, package_row_read, rows_are_read, with_row_package, without_uid}
use Rattle.am_model.proofs.Lists.{any_inserted}
use Rattle.am_laws_kept.proofs.Placed.{all_weaker}

-- what is kept is the same where its parts are
same_parts : (system_key : List ℕ) (root_key : Option (List ℕ)) {ps qs : List Package} {gs hs : List Grant}
    {ls ms : List Link} {n m : ℕ}
    → ps ≡ qs → gs ≡ hs → ls ≡ ms → n ≡ m
    → (let k : Kept = record {
      packages = ps;
      grants = gs;
      links = ls;
      next_uid = n;
      system_key = system_key;
      root_key =
          root_key;
    } in k)
    ≡ record { packages = qs; grants = hs; links = ms; next_uid = m; system_key = system_key; root_key = root_key }
same_parts system_key root_key {ps} {qs} {gs} {hs} {ls} {ms} {n} {m} p g l u =
    ap (λ (x : List Package). kept x gs ls n) p ∙ ap (λ (x : List Grant). kept qs x ls n) g
    ∙ ap (λ (x : List Link). kept qs hs x n) l ∙ ap (λ (x : ℕ). kept qs hs ms x) u
  where
    kept : List Package → List Grant → List Link → ℕ → Kept
    kept packages grants links next = record {
      packages = packages;
      grants = grants;
      links = links;
      next_uid = next;
      system_key = system_key;
      root_key = root_key;
    }

module _ (device : Device) (kept : Rows) (state : State) (sound : IsSound device) (order : IsInOrder kept)
    (whole : IsSoundState state) (opens : OpensAs device kept state) where
  reading : ReadsAs device kept state
  reading = opening_reads device kept state opens

  abbrev read : State
  read = reading.read

  is_read : IsRead read
  is_read = rows_are_read (opening device) read kept.packages reading.reads (device_is_read device sound)

  packages : as_stopped read.board.packages ≡ as_stopped state.board.packages
  packages = ap (λ (k : Kept). k.packages) reading.same

  next : next_after device kept ≡ state.next_uid
  next = ap (λ (k : Kept). k.next_uid) reading.same

  -- who is installed is read
  live_is_read : (uid : ℕ) → is_package_uid state.board.packages uid ≡ true → is_package_uid read.board.packages uid
      ≡ true
  live_is_read uid live = any_alike (λ (p : Package). p.uid == uid) (λ p. refl) read.board.packages state.board.packages
      packages ∙ live

  -- and its uid is below the next one
  live_is_below : (uid : ℕ) → is_package_uid state.board.packages uid ≡ true → uid < next_after device kept
  live_is_below uid live =
      subst (λ (n : ℕ). uid < n) (sym next)
      (live_has (λ u. u < state.next_uid) state.board.packages uid
      (recursion_from_All (λ (p : Package). p.uid < state.next_uid) state.board.packages whole.packages.below) live)

  module _ (caller : ℕ) (request : Request) where
    steps : Steps IsSoundState state caller request
    steps = sound_after state whole caller request

    -- a permission is given or taken
    pub grant_is_found : (uid : ℕ) (permission : List ℕ) (held : Bool) → is_package_uid state.board.packages uid ≡ true
        → too_many_grants state.board.grants uid permission held ≡ false
        → OpensAs device (rows.with_grant kept (record { uid = uid; permission = permission; held = held }))
        (record state { board = record (state.board) { grants = with_grant state.board.grants uid permission held } })
    grant_is_found uid permission held live room =
        reading_opens device (rows.with_grant kept row) _ (steps.granted uid permission held live room) (record {
          read = read;
          reads = reading.reads;
          same = same_parts read.system_key read.root_key refl
              (made_put grant_rows read.board.packages read.board.grants row kept.grants (live_is_read uid live)
              order.grants is_read.grants) refl
              (next_with_grant device kept row (live_is_below uid live))
              ∙ ap (λ (k : Kept). record k { grants = with_grant k.grants uid permission held }) reading.same;
        })
      where
        row : GrantRow
        row = record { uid = uid; permission = permission; held = held }

    -- a host is approved or not
    pub link_is_found : (uid : ℕ) (host : List ℕ) (approved : Bool) → is_same (lowered host) host ≡ true
        → is_package_uid state.board.packages uid ≡ true
        → too_many_links state.board.links uid host approved ≡ false
        → OpensAs device (rows.with_link kept (record { uid = uid; host = host; approved = approved }))
        (record state { board = record (state.board) { links = with_link state.board.links uid host approved } })
    link_is_found uid host approved low live room =
        reading_opens device (rows.with_link kept row) _ (steps.linked uid host approved live room) (record {
          read = read;
          reads = reading.reads;
          same = same_parts read.system_key read.root_key refl refl
              (made_put link_rows read.board.packages read.board.links row kept.links
              (ap (λ b. b && is_same (lowered host) host) (live_is_read uid live) ∙ low) order.links is_read.links)
              (next_with_link device kept row (live_is_below uid live))
              ∙ ap (λ (k : Kept). record k { links = with_link k.links uid host approved }) reading.same;
        })
      where
        row : LinkRow
        row = record { uid = uid; host = host; approved = approved }

    -- a package goes
    pub removal_is_found : (uid : ℕ) (name : List ℕ) → is_package_uid state.board.packages uid ≡ true
        → OpensAs device (rows.with_package kept (record { uid = uid; name = name; key = []; text = []; gone = true }))
        (without state uid)
    removal_is_found uid name live =
        reading_opens device (rows.with_package kept row) (without state uid) (steps.gone uid) (record {
          read = without_uid read uid;
          reads = gone_is_put (opening device) read row kept.packages greatest refl order.packages
              (device_is_read device sound) reading.reads;
          same = same_parts read.system_key read.root_key (stopped_without read.board.packages uid)
              (made_gone grant_rows read.board.packages read.board.grants uid kept.grants is_read.grants)
              (made_gone link_rows read.board.packages read.board.links uid kept.links is_read.links)
              (next_with_package device kept row (live_is_below uid live))
              ∙ ap (λ (k : Kept). record k {
                packages = without_package k.packages uid;
                grants = grants_without k.grants
                    uid;
                links = links_without k.links uid;
              }) reading.same
              ∙ ap (λ (ps : List Package). record (kept_of (without state uid)) { packages = ps })
              (sym (stopped_without state.board.packages uid));
        })
      where
        row : PackageRow
        row = record { uid = uid; name = name; key = []; text = []; gone = true }

        greatest : eqb uid no_uid ≡ false
        greatest = live_has (λ u. eqb u no_uid ≡ false) read.board.packages uid is_read.below (live_is_read uid live)

    -- a package comes
    pub installation_is_found : (text key : List ℕ) (manifest : Manifest) → manifest_of text ≡ Ok manifest
        → is_name_used state.board.packages manifest.«package» ≡ false
        → is_key_used state key ≡ false → is_full state ≡ false → is_access_key key ≡ true
        → OpensAs device (rows.with_package kept (record {
          uid = state.next_uid;
          name = manifest.«package»;
          key = key;
          text = text;
          gone = false;
        }))
        (record (with_packages state (state.board.packages ++ installed state manifest key ∷ []))
        { next_uid = state.next_uid + 1 })
    installation_is_found text key manifest written name_unused key_unused room key_good =
        reading_opens device (rows.with_package kept row) _ ((sound_after state whole 1000
        (asks.Install text key)).installed text key manifest refl refl written name_unused key_unused room) (record {
          read = with_row_package read row manifest;
          reads = last_is_read (opening device) read row kept.packages rows_below reading.reads
              ∙ package_row_read read row manifest greatest refl written good;
          same = same_parts read.system_key read.root_key
              (ap as_stopped (inserted_last new read.board.packages read_below) ∙ stopped_more read.board.packages new)
              (sym (made_same grant_rows read.board.packages (place_package new read.board.packages) read.board.grants
              kept.grants (rights_same (λ (r : GrantRow). r.uid) kept.grants (below_next device kept).grants)))
              (sym (made_same link_rows read.board.packages (place_package new read.board.packages) read.board.links
              kept.links (rights_same (λ (r : LinkRow). r.uid) kept.links (below_next device kept).links)))
              (next_with_next device kept row (sym next))
              ∙ ap (λ (k : Kept). record k { packages = k.packages ++ new ∷ []; next_uid = k.next_uid + 1 })
              reading.same
              ∙ ap (λ (ps : List Package). record (kept_of state) { packages = ps; next_uid = state.next_uid + 1 })
              (sym (stopped_more state.board.packages new));
        })
      where
        row : PackageRow
        row = record { uid = state.next_uid; name = manifest.«package»; key = key; text = text; gone = false }

        new : Package
        new = kept_package row manifest

        parts : (nat_le 256 (length state.board.packages) ≡ false) × (eqb state.next_uid no_uid ≡ false)
        parts = or_parts (nat_le 256 (length state.board.packages)) (state.next_uid == no_uid) room

        greatest : eqb state.next_uid no_uid ≡ false
        greatest = parts.1

        rows_below : AllByRecursion (λ (other : PackageRow). other.uid < state.next_uid) kept.packages
        rows_below = subst (λ (n : ℕ). AllByRecursion (λ (other : PackageRow). other.uid < n) kept.packages) next
            (below_next device kept).packages

        state_below : AllByRecursion (λ (p : Package). p.uid < state.next_uid) state.board.packages
        state_below = recursion_from_All (λ (p : Package). p.uid < state.next_uid) state.board.packages
            whole.packages.below

        read_below : AllByRecursion (λ (p : Package). p.uid < state.next_uid) read.board.packages
        read_below = all_alike (λ u. u < state.next_uid) state.board.packages read.board.packages (sym packages)
            state_below

        good : is_row_good read row manifest ≡ true
        good =
            good_from read row manifest (nat_list_eq_equiv.refl manifest.«package»)
            (le-leb 10000 state.next_uid whole.packages.next)
            (last_is_new state.next_uid read.board.packages read_below) key_good
            (any_alike (λ (p : Package). is_same p.name manifest.«package») (λ p. refl) read.board.packages
            state.board.packages packages ∙ name_unused)
            (ap (λ (k : Kept). (is_same k.system_key key || is_root_key k.root_key key) || list_any
            (λ (p : Package). is_same p.key key) read.board.packages) reading.same
            ∙ ap (λ b. (is_same state.system_key key || is_root_key state.root_key key) || b)
            (any_alike (λ (p : Package). is_same p.key key) (λ p. refl) read.board.packages state.board.packages
            packages)
            ∙ key_unused)
            (let fits : length state.board.packages < 256 = leb-false 256 (length state.board.packages) parts.0 in
            let as_many = length_alike read.board.packages state.board.packages packages in
            lt-ltb (length read.board.packages) 256 (omega arith))

        -- no row of a right is of the next uid
        other : (uid : ℕ) → (not (uid == no_uid) ≡ true → uid < next_after device kept)
            → is_package_uid read.board.packages uid ≡ is_package_uid (place_package new read.board.packages) uid
        other uid below =
            ap (λ b. b || is_package_uid read.board.packages uid) (sym (differs (cases_Bool (eqb uid no_uid))))
            ∙ sym (any_inserted before_package (λ (p : Package). p.uid == uid) new read.board.packages)
          where
            differs : (eqb uid no_uid ≡ true) ⊎ (eqb uid no_uid ≡ false) → eqb state.next_uid uid ≡ false
            differs (inl is) = subst (λ (u : ℕ). eqb state.next_uid u ≡ false) (sym (eqb-true uid no_uid is)) greatest
            differs (inr is) =
                let less : uid < state.next_uid = subst (λ (n : ℕ). uid < n) next
                (below (not_from_false (eqb uid no_uid) is)) in
                ne_eqb state.next_uid uid (λ same. omega arith)

        rights_same : {R : Type 0} (uid_of : R → ℕ) (rights : List R)
            → AllByRecursion (λ (r : R). not (uid_of r == no_uid) ≡ true → uid_of r < next_after device kept) rights
            → AllByRecursion (λ (r : R). is_package_uid read.board.packages (uid_of r)
            ≡ is_package_uid (place_package new read.board.packages) (uid_of r)) rights
        rights_same {R} uid_of rights below =
            all_weaker (λ (r : R). not (uid_of r == no_uid) ≡ true → uid_of r < next_after device kept)
            (λ (r : R). is_package_uid read.board.packages (uid_of r)
            ≡ is_package_uid (place_package new read.board.packages) (uid_of r))
            (λ r one. other (uid_of r) one) rights below
