-- What is not found among texts differs from each of them.
use Rattle.std.proofs.Common.{◌≡◌, ℕ, Bool, true, false, cond, List, [], ◌∷◌, ◌++◌, Option, Some, None, refl, sym, ap, ◌∙◌, nat_cmp, is_eq}
use Rattle.std.specs.Prelude.{◌||◌, IfSome}
use Rattle.std.specs.declared.cmp.Ordering.{Ordering}
use Rattle.std.specs.declared.cmp.Ordering.TheVariants.{Less, Equal, Greater}
use Rattle.std.specs.List.{AllByRecursion, IsDistinct}
use Rattle.am_model.specs.Texts.{is_same}
use Rattle.std.specs.Ordering.{match_ordering}
use Rattle.std.specs.Cmp.Lexicographic.{slice_cmp, nat_list_cmp_total}
use Rattle.std.proofs.lemmas.Map.Text.{is_eq-slice_cmp}
use Rattle.am_types.specs.declared.device.Package.{Package}
use Rattle.am_model.specs.Sound.{AreDistinct, keys_of, names_of, owner_keys}
use Rattle.am_uri.specs.Texts.{is_among, with_text, with_optional}
use Rattle.am_manifest.specs.Devices.{first_taken}
use Rattle.am_manifest.specs.Manifests.{first_repeated}
use Rattle.am_manifest.proofs.Repeats.{flipped}

-- neither test holds
record Neither (a b : Bool) : Type 0 where
  pub first : a ≡ false
  pub second : b ≡ false

neither : (a b : Bool) → (a || b) ≡ false → Neither a b
neither false b h = record { first = refl; second = h }
neither true b h = absurd cc

unlike : (a b : List ℕ) → is_eq (slice_cmp nat_cmp a b) ≡ false → is_same a b ≡ false
unlike a b h = sym (is_eq-slice_cmp a b) ∙ h

turned : (a b : List ℕ) → is_eq (slice_cmp nat_cmp a b) ≡ false → is_same b a ≡ false
turned a b h = unlike b a (flipped b a ∙ h)

pub apart : (text : List ℕ) (texts : List (List ℕ)) → is_among text texts ≡ false
    → AllByRecursion (λ other. is_same text other ≡ false) texts
apart text [] h = tt
apart text (other ∷ texts) h =
    let both = neither (is_eq (slice_cmp nat_cmp text other)) (is_among text texts) h in
    (unlike text other both.first, apart text texts both.second)

-- texts of which none occurs again are distinct
pub distinct : (texts : List (List ℕ)) → first_repeated texts ≡ None → AreDistinct texts
unfolding IsDistinct
distinct [] h = tt
distinct (text ∷ texts) h = by (is_among text texts) refl h (distinct texts)
  where
    by : (b : Bool) → is_among text texts ≡ b → cond b (Some text) (first_repeated texts) ≡ None
        → (first_repeated texts ≡ None → AreDistinct texts) → AreDistinct (text ∷ texts)
    by true e g next = absurd cc
    by false e g next = (apart text texts e, next g)

-- a text that is not among others with one more is not among them, and is not that one
record Outside (text more : List ℕ) (texts : List (List ℕ)) : Type 0 where
  pub other : is_eq (slice_cmp nat_cmp text more) ≡ false
  pub before : is_among text texts ≡ false

outside : (text more : List ℕ) (texts : List (List ℕ)) → is_among text (with_text texts more) ≡ false
    → Outside text more texts
outside text more [] h = record { other = (neither (is_eq (slice_cmp nat_cmp text more)) false h).first; before = refl }
outside text more (first ∷ texts) h = by (slice_cmp nat_cmp more first) refl h (outside text more texts)
  where
    by : (r : Ordering) → slice_cmp nat_cmp more first ≡ r → is_among text
        (match_ordering r (more ∷ first ∷ texts) (first ∷ texts) (first ∷ with_text texts more)) ≡ false
        → (is_among text (with_text texts more) ≡ false → Outside text more texts) → Outside text more (first ∷ texts)
    by Less e g next =
        let both = neither (is_eq (slice_cmp nat_cmp text more)) (is_among text (first ∷ texts)) g in
        record { other = both.first; before = both.second }
    by Equal e g next =
        let both = neither (is_eq (slice_cmp nat_cmp text first)) (is_among text texts) g in
        let like : is_eq (slice_cmp nat_cmp more text) ≡ is_eq (slice_cmp nat_cmp first text) = ap is_eq
        (nat_list_cmp_total.congr more first text e) in
        record { other = flipped text more ∙ like ∙ flipped first text ∙ both.first; before = g }
    by Greater e g next =
        let both = neither (is_eq (slice_cmp nat_cmp text first)) (is_among text (with_text texts more)) g in
        let rest = next both.second in
        record { other = rest.other; before = ap (λ (b : Bool). b || is_among text texts) both.first ∙ rest.before }

-- the packages are apart: from the names and keys that are known, and from one another
pub record AreApart (known_names known_keys : List (List ℕ)) (packages : List Package) : Type 0 where
  pub new_names : AllByRecursion (λ name. is_among name known_names ≡ false) (names_of packages)
  pub new_keys : AllByRecursion (λ key. is_among key known_keys ≡ false) (keys_of packages)
  pub names : AreDistinct (names_of packages)
  pub keys : AreDistinct (keys_of packages)

-- texts that are not among those with one more
record AreOutside (more : List ℕ) (texts others : List (List ℕ)) : Type 0 where
  pub differ : AllByRecursion (λ other. is_same more other ≡ false) others
  pub before : AllByRecursion (λ other. is_among other texts ≡ false) others

all_outside : (more : List ℕ) (texts others : List (List ℕ)) → AllByRecursion
    (λ other. is_among other (with_text texts more) ≡ false) others → AreOutside more texts others
all_outside more texts [] a = record { differ = tt; before = tt }
all_outside more texts (other ∷ others) a =
    let one = outside other more texts a.0 in
    let rest = all_outside more texts others a.1 in
    record { differ = (turned other more one.other, rest.differ); before = (one.before, rest.before) }

pub are_apart : (names keys : List (List ℕ)) (packages : List Package) → first_taken names keys packages ≡ None
    → AreApart names keys packages
unfolding IsDistinct
are_apart names keys [] h = record { new_names = tt; new_keys = tt; names = tt; keys = tt }
are_apart names keys (p ∷ packages) h = by (is_among p.name names) (is_among p.key keys) refl refl h
    (are_apart (with_text names p.name) (with_text keys p.key) packages)
  where
    by : (a b : Bool) → is_among p.name names ≡ a → is_among p.key keys ≡ b
        → cond (cond a true b) (Some p.name) (first_taken (with_text names p.name) (with_text keys p.key) packages)
        ≡ None
        → (first_taken (with_text names p.name) (with_text keys p.key) packages ≡ None
        → AreApart (with_text names p.name) (with_text keys p.key) packages) → AreApart names keys (p ∷ packages)
    by true b d e g next = absurd cc
    by false true d e g next = absurd cc
    by false false d e g next =
        let rest = next g in
        let by_name = all_outside p.name names (names_of packages) rest.new_names in
        let by_key = all_outside p.key keys (keys_of packages) rest.new_keys in
        record {
          new_names = (d, by_name.before);
          new_keys = (e, by_key.before);
          names = (by_name.differ, rest.names);
          keys = (by_key.differ, rest.keys);
        }

-- texts that are not among known ones differ from a known one
pub behind_one : (text : List ℕ) (others : List (List ℕ)) → AllByRecursion (λ other. is_among other (text ∷ []) ≡ false)
    others → AreDistinct others → AreDistinct (text ∷ others)
unfolding IsDistinct
behind_one text others a d = ((all_outside text [] others a).differ, d)

pub behind_owners : (system_key : List ℕ) (root_key : Option (List ℕ)) (others : List (List ℕ))
    → IfSome root_key (λ key. is_same key system_key ≡ false)
    → AllByRecursion (λ other. is_among other (with_optional (with_text [] system_key) root_key) ≡ false) others
    → AreDistinct others → AreDistinct (owner_keys system_key root_key ++ others)
unfolding IsDistinct
behind_owners system_key None others own a d = behind_one system_key others a d
behind_owners system_key (Some root_key) others own a d =
    let two = all_outside root_key (with_text [] system_key) others a in
    let one = all_outside system_key [] others two.before in
    ((turned_bytes root_key system_key own, one.differ), (two.differ, d))
  where
    turned_bytes : (a b : List ℕ) → is_same a b ≡ false → is_same b a ≡ false
    turned_bytes a b h = turned a b (is_eq-slice_cmp a b ∙ h)
