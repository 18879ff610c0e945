-- What words name.
use Rattle.std.proofs.Common.{◌≡◌, ◌<◌, ◌≤◌, ◌&&◌, Bool, true, false, get_or, if◌then◌else◌, List, [], ◌∷◌, length, Some, None, refl, sym, ap, ◌∙◌, arith}
use Rattle.am_types.specs.declared.text.Text.{Text}
use Rattle.std.specs.Prelude.{codes}
use Rattle.am_audit_shell.specs.Words.{Named, is_option, named_by}

-- a list of eight, by what stands at each place
pub eight : (words : List Text) (a device b history c frames d responses : Text) → 8 ≤ length words → length words < 9
    → a ≡ get_or words 0 a → device ≡ get_or words 1 device → b ≡ get_or words 2 b → history ≡ get_or words 3 history
    → c ≡ get_or words 4 c → frames ≡ get_or words 5 frames → d ≡ get_or words 6 d → responses
    ≡ get_or words 7 responses
    → words ≡ a ∷ device ∷ b ∷ history ∷ c ∷ frames ∷ d ∷ responses ∷ []
eight (p ∷ q ∷ r ∷ s ∷ t ∷ u ∷ v ∷ w ∷ []) a device b history c frames d responses least most h0 h1 h2 h3 h4 h5 h6 h7 =
    cc
eight (p ∷ q ∷ r ∷ s ∷ t ∷ u ∷ v ∷ w ∷ x ∷ more) a device b history c frames d responses least most h0 h1 h2 h3 h4 h5 h6
    h7 = absurd (omega (arith, most))
eight (p ∷ q ∷ r ∷ s ∷ t ∷ u ∷ v ∷ []) a device b history c frames d responses least most h0 h1 h2 h3 h4 h5 h6 h7 =
    absurd (omega (arith, least))
eight (p ∷ q ∷ r ∷ s ∷ t ∷ u ∷ []) a device b history c frames d responses least most h0 h1 h2 h3 h4 h5 h6 h7 = absurd
    (omega (arith, least))
eight (p ∷ q ∷ r ∷ s ∷ t ∷ []) a device b history c frames d responses least most h0 h1 h2 h3 h4 h5 h6 h7 = absurd
    (omega (arith, least))
eight (p ∷ q ∷ r ∷ s ∷ []) a device b history c frames d responses least most h0 h1 h2 h3 h4 h5 h6 h7 = absurd
    (omega (arith, least))
eight (p ∷ q ∷ r ∷ []) a device b history c frames d responses least most h0 h1 h2 h3 h4 h5 h6 h7 = absurd
    (omega (arith, least))
eight (p ∷ q ∷ []) a device b history c frames d responses least most h0 h1 h2 h3 h4 h5 h6 h7 = absurd
    (omega (arith, least))
eight (p ∷ []) a device b history c frames d responses least most h0 h1 h2 h3 h4 h5 h6 h7 = absurd
    (omega (arith, least))
eight [] a device b history c frames d responses least most h0 h1 h2 h3 h4 h5 h6 h7 = absurd (omega (arith, least))

-- what stands where four tests pass
chosen : {A : Type 0} (p q r s : Bool) (x : A) → p ≡ true → q ≡ true → r ≡ true → s ≡ true → Some x
    ≡ (if (p && q) && (r && s) then Some x else None)
chosen p q r s x hp hq hr hs = rw (hp, hq, hr, hs) refl

-- and where one of them fails
by_first : {A : Type 0} (p q r s : Bool) (x : A) → p ≡ false → None ≡ (if (p && q) && (r && s) then Some x else None)
by_first p q r s x h = rw h refl

by_second : {A : Type 0} (p q r s : Bool) (x : A) → q ≡ false → None ≡ (if (p && q) && (r && s) then Some x else None)
by_second true q r s x h = rw h refl
by_second false q r s x h = refl

by_third : {A : Type 0} (p q r s : Bool) (x : A) → r ≡ false → None ≡ (if (p && q) && (r && s) then Some x else None)
by_third true true r s x h = rw h refl
by_third true false r s x h = refl
by_third false q r s x h = refl

by_fourth : {A : Type 0} (p q r s : Bool) (x : A) → s ≡ false → None ≡ (if (p && q) && (r && s) then Some x else None)
by_fourth true true true s x h = rw h refl
by_fourth true true false s x h = refl
by_fourth true false r s x h = refl
by_fourth false q r s x h = refl

module _ (words : List Text) (a device b history c frames d responses : Text)
    (is : words ≡ a ∷ device ∷ b ∷ history ∷ c ∷ frames ∷ d ∷ responses ∷ []) where
  -- the four tests of eight words, and the files that they name
  abbrev first : Bool
  first = is_option a (codes "--device") device

  abbrev second : Bool
  second = is_option b (codes "--history") history

  abbrev third : Bool
  third = is_option c (codes "--frames") frames

  abbrev fourth : Bool
  fourth = is_option d (codes "--responses") responses

  abbrev files : Named
  files = record { device = device; history = history; frames = frames; responses = responses }

  -- the words name them where the tests pass
  pub named : first ≡ true → second ≡ true → third ≡ true → fourth ≡ true → Some files ≡ named_by words
  named h0 h1 h2 h3 = chosen first second third fourth files h0 h1 h2 h3 ∙ ap named_by (sym is)

  -- and none where one of them fails
  pub not_first : first ≡ false → None ≡ named_by words
  not_first h = by_first first second third fourth files h ∙ ap named_by (sym is)

  pub not_second : second ≡ false → None ≡ named_by words
  not_second h = by_second first second third fourth files h ∙ ap named_by (sym is)

  pub not_third : third ≡ false → None ≡ named_by words
  not_third h = by_third first second third fourth files h ∙ ap named_by (sym is)

  pub not_fourth : fourth ≡ false → None ≡ named_by words
  not_fourth h = by_fourth first second third fourth files h ∙ ap named_by (sym is)
