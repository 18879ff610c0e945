-- A manifest that is read is sound, and so is a device.
use Rattle.std.proofs.Common.{◌≡◌, ℕ, ◌+◌, ◌<◌, ◌≤◌, Bool, true, false, cond, List, [], ◌∷◌, length, map, replicate, Option, Some, None, Result, Ok, Err, refl, sym, ap, ◌∙◌, subst, arith, nat_cmp}
use Rattle.std.specs.Prelude.{All, IfOk, IsTrue, IfSome, codes, is_some, nat_lt}
use Rattle.std.specs.declared.cmp.Ordering.TheVariants.{Less}
use Rattle.std.specs.List.{AllByRecursion}
use Rattle.std.specs.List.Sorted.{IsStrictlySortedBy}
use Rattle.std.specs.Str.{bytes_eq}
use Rattle.std.specs.Cmp.{nat_cmp_is}
use Rattle.std.specs.Cmp.Lexicographic.{slice_cmp, nat_list_cmp_total, nat_list_eq_equiv}
use Rattle.std.proofs.lemmas.Bool.{ltb-true, ltb-false}
use Rattle.std.proofs.lemmas.List.Elements.{All-nil, All-cons, All-head, All-tail, All-set, All-replicate}
use Rattle.std.proofs.lemmas.Map.Keys.{IsStrictlyIncreasing-from_sorted}
use Rattle.toml.specs.Data.{Data, get, as_table}
use Rattle.toml.specs.Parse.{parse_document}
use Rattle.am_types.specs.Bounds.{longest_manifest}
use Rattle.am_types.specs.declared.device.Device.{Device}
use Rattle.am_types.specs.declared.device.Package.{Package}
use Rattle.am_types.specs.declared.failure.Unmade.{Unmade}
use Rattle.am_types.specs.declared.manifest.Decl.{Decl}
use Rattle.am_types.specs.declared.manifest.Manifest.{Manifest}
use Rattle.am_types.specs.declared.manifest.ManifestFault.{ManifestFault}
use Rattle.am_types.specs.declared.manifest.ManifestFault.TheVariants.{Duplicate, WrongKind, OverLimit}
use Rattle.am_model.specs.Sound.{AreDistinct, AreSoundPackages, AreSoundRights, IsSound, IsSoundDecl, IsSoundPackage, classes_of, is_access_key, is_package_name, keys_of, names_of, owner_keys, rights_approved, rights_granted, uids_of}
use Rattle.am_uri.specs.declared.text.Form.TheVariants.{AccessKey, Filled, PackageName}
use Rattle.am_types.specs.Reading.{Gives}
use Rattle.am_uri.specs.Texts.{is_among, with_text}
use Rattle.am_manifest_filters.specs.Texts.{key_place, within_key}
use Rattle.am_manifest_filters.specs.Tables.{at_most, each, entry_table, optional_text, optional_values, required_text, texts_at}
use Rattle.am_manifest.specs.declared.device.Owners.{Owners}
use Rattle.am_manifest.specs.declared.rights.Right.{Right}
use Rattle.am_manifest.specs.declared.rights.Rights.{Rights}
use Rattle.am_types.specs.declared.device.RightKind.{RightKind}
use Rattle.am_types.specs.declared.device.RightKind.TheVariants.{Permission, Host}
use Rattle.am_manifest.specs.Manifests.{IsAppManifest, IsSoundManifest, classes, decls_in, first_repeated, manifest_alone, manifest_in, manifest_made, manifest_of, root_of, unless_repeated}
use Rattle.am_manifest.specs.Rights.{array_key, limit_name, more_texts, place_among, right_entry, right_put, rights_from, rights_in, rights_of, texts_of, with_right, with_uids}
use Rattle.am_manifest.specs.Devices.{apart, device_in, first_taken, known_keys, manifest_at, manifest_found, owners_in, package_entry, package_of, packages_apart, packages_in, roots_apart, rules_at, shares_key, unless_taken}
use Rattle.am_manifest.proofs.Apart.{AreApart, are_apart, behind_one, behind_owners, distinct}
use Rattle.am_manifest.proofs.Held.{AreFewTexts, CountUp, sound_rights}
use Rattle.am_manifest.proofs.FewFilters.{decls_within}
use Rattle.am_uri.proofs.Order.{length_put, sorted_put}
use Rattle.am_manifest_filters.proofs.StepsRead.{steps, same, within, each_length, optional_fits, required_fits}

sound_manifest : (at : List ℕ) (value : Data) (m : Manifest) → manifest_in at value ≡ Ok m → IsSoundManifest m
unfolding manifest_in manifest_made unless_repeated
sound_manifest at value m h =
    let name = steps (required_text PackageName at (codes "package") value) _ m h in
    let decls = steps (decls_in name.value at value) _ m name.then in
    let few = steps (at_most 256 (codes "components") (length decls.value)) _ m decls.then in
    let fits = required_fits PackageName at (codes "package") value name.value name.is in
    by name.value decls.value fits (within 256 (codes "components") (length decls.value) few.value few.is)
    (decls_within name.value at value decls.value decls.is) (first_repeated (classes decls.value)) refl few.then
  where
    by : (name : List ℕ) (decls : List Decl) → is_package_name name ≡ true → length decls ≤ 256 → All IsSoundDecl decls
        → (o : Option (List ℕ)) → first_repeated (classes decls) ≡ o
        → unless_repeated (record { «package» = name; decls = decls }) o ≡ Ok m → IsSoundManifest m
    by name decls fits few each None e g = subst IsSoundManifest (same _ m g)
        (record { name = fits; few = few; classes = distinct (classes decls) e; decls = each })
    by name decls fits few each (Some class) e g = absurd cc

alone_sound : (value : Data) (m : Manifest) → manifest_alone value ≡ Ok m → IsAppManifest m
unfolding manifest_alone
alone_sound value m h =
    let inside = steps (manifest_in [] value) _ m h in
    by inside.value (sound_manifest [] value inside.value inside.is) (bytes_eq inside.value.«package» (codes "android"))
    refl inside.then
  where
    by : (made : Manifest) → IsSoundManifest made → (b : Bool) → bytes_eq made.«package» (codes "android") ≡ b
        → cond b (Err (Duplicate (codes "android"))) (Ok made) ≡ Ok m → IsAppManifest m
    by made sound true e g = absurd cc
    by made sound false e g = subst IsAppManifest (same made m g) (record
        { sound = sound; other = nat_list_eq_equiv.symm (codes "android") made.«package» ∙ e })

-- a manifest that is read by itself is an app's
pub manifest_sound : (text : List ℕ) (m : Manifest) → manifest_of text ≡ Ok m → IsAppManifest m
unfolding manifest_of
manifest_sound text m h =
    let short = steps (at_most longest_manifest (codes "text") (length text)) _ m h in
    let root = steps (root_of (parse_document text)) _ m short.then in
    alone_sound root.value m root.then

-- an answer that is what reading a manifest gives is sound
pub manifest_given : (answer : Result Manifest (Unmade ManifestFault)) (value : Data)
    → Gives answer (manifest_alone value) → IfOk answer (λ manifest. IsAppManifest manifest)
manifest_given (Ok manifest) value h = alone_sound value manifest h
manifest_given (Err fault) value h = tt

found_manifest : (at : List ℕ) (value : Data) (m : Manifest) → manifest_at at value ≡ Ok m → IsSoundManifest m
unfolding manifest_at manifest_found
found_manifest at value m h = by (get (codes "manifest") value) h
  where
    at_table : (b : Bool) (v : Data) → cond b (manifest_in (within_key at (codes "manifest")) v)
        (Err (WrongKind (key_place at (codes "manifest")))) ≡ Ok m → IsSoundManifest m
    at_table true v g = sound_manifest (within_key at (codes "manifest")) v m g
    at_table false v g = absurd cc

    by : (o : Option Data) → manifest_found at o ≡ Ok m → IsSoundManifest m
    by None g = absurd cc
    by (Some v) g = at_table (is_some (as_table v)) v g

-- a package as its table gives it, except for its uid
record IsFormed (p : Package) : Type 0 where
  pub name : IsTrue (is_package_name p.name)
  pub key : IsTrue (is_access_key p.key)
  pub few : length p.decls ≤ 256
  pub classes : AreDistinct (classes_of p.decls)
  pub decls : All IsSoundDecl p.decls

-- a package that is an entry of the packages
record IsEntry (i : ℕ) (p : Package) : Type 0 where
  pub uid : p.uid ≡ 10000 + i
  pub formed : IsFormed p

entry_formed : (i : ℕ) (value : Data) (p : Package) → package_entry i value ≡ Ok p → IsEntry i p
unfolding package_entry package_of
entry_formed i value p h =
    let inside = steps (entry_table [] (codes "package") i value) _ p h in
    let key = steps (required_text AccessKey inside.value (codes "key") value) _ p inside.then in
    let manifest = steps (manifest_at inside.value value) _ p key.then in
    let sound = found_manifest inside.value value manifest.value manifest.is in
    let fits = required_fits AccessKey inside.value (codes "key") value key.value key.is in
    subst (IsEntry i) (same _ p manifest.then) (record {
      uid = refl;
      formed = record
          { name = sound.name; key = fits; few = sound.few; classes = sound.classes; decls = sound.decls };
    })

-- packages that are entries one after the other
record AreEntries (uid : ℕ) (packages : List Package) : Type 0 where
  pub counted : CountUp uid packages
  pub formed : All IsFormed packages

entries_formed : (i : ℕ) (values : List Data) (packages : List Package) → each package_entry i values ≡ Ok packages
    → AreEntries (10000 + i) packages
unfolding each
entries_formed i [] packages h = subst (AreEntries (10000 + i)) (same [] packages h)
    (record { counted = tt; formed = All-nil IsFormed })
entries_formed i (v ∷ values) packages h =
    let one = steps (package_entry i v) _ packages h in
    let others = steps (each package_entry (i + 1) values) _ packages one.then in
    let first = entry_formed i v one.value one.is in
    let rest = entries_formed (i + 1) values others.value others.is in
    let next : 10000 + (i + 1) ≡ (10000 + i) + 1 = omega arith in
    let counted = subst (λ (uid : ℕ). CountUp uid others.value) next rest.counted in
    subst (AreEntries (10000 + i)) (same (one.value ∷ others.value) packages others.then)
    (record {
      counted = (first.uid, counted);
      formed = All-cons IsFormed one.value others.value first.formed
          rest.formed;
    })

-- uids that count up rise, and stay within their bounds
rise : (uid : ℕ) (packages : List Package) → CountUp uid packages → AllByRecursion (λ other. uid ≤ other)
    (uids_of packages) × IsStrictlySortedBy nat_cmp (uids_of packages)
unfolding IsStrictlySortedBy
rise uid [] c = (tt, tt)
rise uid (p ∷ packages) c =
    let others = rise (uid + 1) packages c.1 in (
      (omega (arith, c.0), lower uid (uids_of packages) others.0),
      (
        behind p.uid uid (uids_of packages) c.0 others.0,
        others.1,
      ),
    )
  where
    lower : (n : ℕ) (uids : List ℕ) → AllByRecursion (λ other. n + 1 ≤ other) uids
        → AllByRecursion (λ other. n ≤ other) uids
    lower n [] a = tt
    lower n (other ∷ uids) a = (omega (arith, a.0), lower n uids a.1)

    behind : (first n : ℕ) (uids : List ℕ) → first ≡ n → AllByRecursion (λ other. n + 1 ≤ other) uids
        → AllByRecursion (λ other. nat_cmp first other ≡ Less) uids
    behind first n [] e a = tt
    behind first n (other ∷ uids) e a = let below : first < other = omega (arith, a.0) in
        (sym (nat_cmp_is first other Less below), behind first n uids e a.1)

sound_each : (uid : ℕ) (packages : List Package) → CountUp uid packages → 10000 ≤ uid
    → uid + length packages ≤ 4294967295 → All IsFormed packages → All IsSoundPackage packages
sound_each uid [] c low high a = All-nil IsSoundPackage
sound_each uid (p ∷ packages) c low high a =
    let first = All-head IsFormed p packages a in
    let one : IsSoundPackage p = record {
      lowest = omega (arith, c.0);
      greatest = omega (arith, c.0, high);
      name =
          first.name;
      key = first.key;
      few = first.few;
      classes = first.classes;
      decls = first.decls;
    } in
    All-cons IsSoundPackage p packages one (sound_each (uid + 1) packages c.1 (omega arith) (omega (arith, high))
    (All-tail IsFormed p packages a))

-- the packages of a device, and what its owners' keys are to them
record AreSoundApart (owners : Owners) (packages : List Package) : Type 0 where
  pub counted : CountUp 10000 packages
  pub sound : AreSoundPackages packages
  pub root : IfSome owners.root_key (λ key. bytes_eq key owners.system_key ≡ false)
  pub apart : AreApart (codes "android" ∷ []) (known_keys owners) packages

root_apart : (owners : Owners) (u : Unit {0}) → roots_apart owners ≡ Ok u
    → IfSome owners.root_key (λ key. bytes_eq key owners.system_key ≡ false)
unfolding roots_apart
root_apart owners u h = by owners.root_key h
  where
    other : (key : List ℕ) (b : Bool) → bytes_eq key owners.system_key ≡ b
        → cond b (Err (Duplicate (codes "root_key"))) (Ok tt) ≡ Ok u → bytes_eq key owners.system_key ≡ false
    other key true e g = absurd cc
    other key false e g = e

    by : (o : Option (List ℕ)) → cond (shares_key owners o) (Err (Duplicate (codes "root_key"))) (Ok tt) ≡ Ok u
        → IfSome o (λ key. bytes_eq key owners.system_key ≡ false)
    by None g = tt
    by (Some key) g = other key (bytes_eq key owners.system_key) refl g

sound_apart : (owners : Owners) (value : Data) (packages : List Package) → packages_apart owners value ≡ Ok packages
    → AreSoundApart owners packages
unfolding packages_apart packages_in apart unless_taken
sound_apart owners value packages h =
    let read = steps (packages_in value) _ packages h in
    let values = steps (optional_values [] (codes "package") value) _ read.value read.is in
    let few = steps (at_most 256 (codes "packages") (length values.value)) _ read.value values.then in
    let entries = entries_formed 0 values.value read.value few.then in
    let many = within 256 (codes "packages") (length values.value) few.value few.is in
    let long = each_length package_entry 0 values.value read.value few.then in
    let root = steps (roots_apart owners) _ packages read.then in
    let all : length read.value ≤ 256 = omega (arith, many, long) in
    by read.value entries all (root_apart owners root.value root.is)
    (first_taken (codes "android" ∷ []) (known_keys owners) read.value) refl root.then
  where
    by : (ps : List Package) → AreEntries 10000 ps → length ps ≤ 256
        → IfSome owners.root_key (λ key. bytes_eq key owners.system_key ≡ false)
        → (o : Option (List ℕ)) → first_taken (codes "android" ∷ []) (known_keys owners) ps ≡ o → unless_taken ps o
        ≡ Ok packages → AreSoundApart owners packages
    by ps entries few root (Some name) e g = absurd cc
    by ps entries few root None e g =
        let apart = are_apart (codes "android" ∷ []) (known_keys owners) ps e in
        let sound : AreSoundPackages ps = record {
          few = few;
          each = sound_each 10000 ps entries.counted (omega arith) (omega (arith, few)) entries.formed;
          rising = IsStrictlyIncreasing-from_sorted (uids_of ps) (rise 10000 ps entries.counted).1;
        } in
        subst (AreSoundApart owners) (same ps packages g) (record {
          counted = entries.counted;
          sound = sound;
          root =
              root;
          apart = apart;
        })

-- one more text of a package
few_more : (kind : RightKind) (texts : List (List ℕ)) (text : List ℕ) (more : List (List ℕ))
    → more_texts kind texts text ≡ Ok more → AreFewTexts texts → AreFewTexts more
unfolding more_texts
few_more kind texts text more h a = by (is_among text texts) (nat_lt 255 (length texts)) refl h
  where
    by : (b c : Bool) → nat_lt 255 (length texts) ≡ c → cond b (Ok texts)
        (cond c (Err (OverLimit (limit_name kind))) (Ok (with_text texts text))) ≡ Ok more → AreFewTexts more
    by true c e g = subst AreFewTexts (same texts more g) a
    by false true e g = absurd cc
    by false false e g =
        let room = ltb-false 255 (length texts) e in
        subst AreFewTexts (same (with_text texts text) more g) (record {
          order = sorted_put (slice_cmp nat_cmp) nat_list_cmp_total text texts a.order;
          few = omega
              (arith, room, length_put (slice_cmp nat_cmp) text texts);
        })

few_with : (kind : RightKind) (held : List (List (List ℕ))) (right : Right) (more : List (List (List ℕ)))
    → with_right kind held right ≡ Ok more → All AreFewTexts held → All AreFewTexts more
unfolding with_right right_put
few_with kind held right more h a = by (nat_lt right.holder (length held)) refl h
  where
    by : (b : Bool) → nat_lt right.holder (length held) ≡ b → cond b (right_put kind held right) (Ok held) ≡ Ok more
        → All AreFewTexts more
    by false e g = subst (All AreFewTexts) (same held more g) a
    by true e g =
        let texts = steps (more_texts kind (texts_of held right.holder) right.text) _ more g in
        let old : AreFewTexts (texts_of held right.holder) = a right.holder [] (ltb-true right.holder (length held) e)
        in
        subst (All AreFewTexts) (same _ more texts.then) (All-set AreFewTexts held right.holder texts.value
        (few_more kind (texts_of held right.holder) right.text texts.value texts.is old) a)

few_from : (place : List ℕ → Option ℕ) (kind : RightKind) (held : List (List (List ℕ))) (i : ℕ) (values : List Data)
    (more : List (List (List ℕ))) → rights_from place kind held i values ≡ Ok more → All AreFewTexts held
    → All AreFewTexts more
unfolding rights_from
few_from place kind held i [] more h a = subst (All AreFewTexts) (same held more h) a
few_from place kind held i (v ∷ values) more h a =
    let right = steps (right_entry place kind i v) _ more h in
    let next = steps (with_right kind held right.value) _ more right.then in
    few_from place kind next.value (i + 1) values more next.then (few_with kind held right.value next.value next.is a)

few_of : (kind : RightKind) (packages : List Package) (value : Data) (held : List (List (List ℕ)))
    → rights_of kind packages value ≡ Ok held → All AreFewTexts held
unfolding rights_of IsStrictlySortedBy
few_of kind packages value held h =
    let values = steps (optional_values [] (array_key kind) value) _ held h in
    few_from (place_among packages 0) kind (replicate (length packages) []) 0 values.value held values.then
    (All-replicate AreFewTexts (length packages) [] (record { order = tt; few = omega arith }))

-- what grants and links are rights to
granted_rights : (rights : List (ℕ × List ℕ)) → rights_granted (map (λ r. record { uid = r.0; permission = r.1 })
    rights) ≡ rights
granted_rights [] = refl
granted_rights (right ∷ rights) = ap (λ (others : List (ℕ × List ℕ)). right ∷ others) (granted_rights rights)

approved_rights : (rights : List (ℕ × List ℕ)) → rights_approved (map (λ r. record { uid = r.0; host = r.1 }) rights)
    ≡ rights
approved_rights [] = refl
approved_rights (right ∷ rights) = ap (λ (others : List (ℕ × List ℕ)). right ∷ others) (approved_rights rights)

-- the grants and the links of a device
record AreSound (packages : List Package) (rights : Rights) : Type 0 where
  pub grants : AreSoundRights packages (rights_granted rights.grants)
  pub links : AreSoundRights packages (rights_approved rights.links)

sound_in : (packages : List Package) (value : Data) (rights : Rights) → rights_in packages value ≡ Ok rights
    → CountUp 10000 packages → AreSound packages rights
unfolding rights_in
sound_in packages value rights h c =
    let granted = steps (rights_of Permission packages value) _ rights h in
    let approved = steps (rights_of Host packages value) _ rights granted.then in
    let grants = sound_rights 10000 packages granted.value c (few_of Permission packages value granted.value granted.is)
    in
    let links = sound_rights 10000 packages approved.value c (few_of Host packages value approved.value approved.is) in
    subst (AreSound packages) (same _ rights approved.then) (record {
      grants = subst (AreSoundRights packages) (sym (granted_rights (with_uids packages granted.value))) grants;
      links = subst (AreSoundRights packages) (sym (approved_rights (with_uids packages approved.value))) links;
    })

owners_fit : (value : Data) (owners : Owners) → owners_in value ≡ Ok owners
    → All (λ key. IsTrue (is_access_key key)) (owner_keys owners.system_key owners.root_key)
unfolding owners_in
owners_fit value owners h =
    let rules = steps (rules_at value) _ owners h in
    let system_key = steps (required_text AccessKey [] (codes "system_key") value) _ owners rules.then in
    let root_key = steps (optional_text AccessKey [] (codes "root_key") value) _ owners system_key.then in
    let browser = steps (optional_text PackageName [] (codes "browser") value) _ owners root_key.then in
    let first = required_fits AccessKey [] (codes "system_key") value system_key.value system_key.is in
    let second = optional_fits AccessKey [] (codes "root_key") value root_key.value root_key.is in
    subst (λ (o : Owners). All IsKey (owner_keys o.system_key o.root_key)) (same _ owners browser.then)
    (by system_key.value root_key.value first second)
  where
    IsKey : List ℕ → Type 0
    IsKey key = IsTrue (is_access_key key)

    by : (system_key : List ℕ) (o : Option (List ℕ)) → is_access_key system_key ≡ true
        → IfSome o (λ key. is_access_key key ≡ true) → All IsKey (owner_keys system_key o)
    by system_key None first second = All-cons IsKey system_key [] first (All-nil IsKey)
    by system_key (Some key) first second = All-cons IsKey system_key (key ∷ []) first
        (All-cons IsKey key [] second (All-nil IsKey))

sound_device : (value : Data) (device : Device) → device_in value ≡ Ok device → IsSound device
unfolding device_in
sound_device value device h =
    let owners = steps (owners_in value) _ device h in
    let kept = steps (texts_at Filled [] (codes "protected") 1024 value) _ device owners.then in
    let exempt = steps (texts_at Filled [] (codes "exempt") 1024 value) _ device kept.then in
    let packages = steps (packages_apart owners.value value) _ device exempt.then in
    let rights = steps (rights_in packages.value value) _ device packages.then in
    let made = sound_apart owners.value value packages.value packages.is in
    let held = sound_in packages.value value rights.value rights.is made.counted in
    let apart = made.apart in
    subst IsSound (same _ device rights.then)
    (record {
      packages = made.sound;
      names = behind_one (codes "android") (names_of packages.value) apart.new_names apart.names;
      owners = owners_fit value owners.value owners.is;
      keys = behind_owners owners.value.system_key owners.value.root_key (keys_of packages.value) made.root
          apart.new_keys apart.keys;
      grants = held.grants;
      links = held.links;
    })

-- an answer that is what reading a table gives is sound
pub sound_given : (answer : Result Device (Unmade ManifestFault)) (value : Data) → Gives answer (device_in value)
    → IfOk answer (λ device. IsSound device)
sound_given (Ok device) value h = sound_device value device h
sound_given (Err fault) value h = tt
