use Rattle.std.proofs.Common.{◌≡◌, ℕ, List, sym, ◌∙◌}
use Rattle.std.specs.Prelude.{Result, Ok, Err, MatchResult, IsUtf8}
use Rattle.std.specs.Result.{is_ok}
use Rattle.std.specs.Str.{is_utf8}
use Rattle.std.proofs.lemmas.Bool.{false_from_ne_true}
use Rattle.std.proofs.lemmas.Str.{is_utf8-from_IsUtf8, IsUtf8-from_is_utf8}
use Rattle.am_frames.proofs.fields.is_text.Goals as goal

is_ok_is : {A E : Type 0} (P : A → Type 0) (Q : E → Type 0) (v : List ℕ) (r : Result A E)
    → MatchResult r (λ s. P s × IsUtf8 v) (λ e. ¬ (IsUtf8 v) × Q e) → is_ok r ≡ is_utf8 v
is_ok_is P Q v (Ok s) h = sym (is_utf8-from_IsUtf8 v h.1)
is_ok_is P Q v (Err e) h = sym (false_from_ne_true _ (λ t. h.0 (IsUtf8-from_is_utf8 v t)))

pub returns : goal.returns
returns c = c.is_ok.ensures.value ∙ is_ok_is _ _ c.args.value.now c.from_utf8.result c.from_utf8.ensures.cases
