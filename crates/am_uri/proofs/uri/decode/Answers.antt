use Rattle.std.proofs.Common.{◌∙◌, sym, ap, subst, IsUtf8}
use Rattle.std.proofs.lemmas.Bool.{false_from_ne_true}
use Rattle.std.proofs.lemmas.Str.{IsUtf8-from_is_utf8, is_utf8-from_IsUtf8}
use Rattle.percent_encoding.specs.Percent.{percent_decode}
use Rattle.am_uri.proofs.uri.decode.Goals as goal

pub returns-in-Err-Utf8 : goal.returns-in-Err-Utf8
returns-in-Err-Utf8 c =
    let bytes = c.percent_decode.ensures.bytes ∙ ap percent_decode c.as_bytes.ensures.value in
    false_from_ne_true _ (λ e.
    let other = c.in-Err-Utf8.ensures.utf8 (subst IsUtf8 (sym bytes) (IsUtf8-from_is_utf8 _ e)) in
    let is = c.in-Err-Utf8.field-0-is in
    absurd cc)

pub returns-in-Ok-into_owned : goal.returns-in-Ok-into_owned
returns-in-Ok-into_owned c =
    let bytes = c.percent_decode.ensures.bytes ∙ ap percent_decode c.as_bytes.ensures.value in (
      is_utf8-from_IsUtf8 _ (subst IsUtf8 bytes c.in-Ok.ensures.ok_only_if_utf8),
      c.new.ensures ∙ c.in-Ok-into_owned.ensures.ok ∙ c.in-Ok.ensures.value ∙ bytes,
    )
