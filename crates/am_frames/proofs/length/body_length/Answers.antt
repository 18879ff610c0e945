use Rattle.std.proofs.Common.{◌≡◌, ◌≢◌, ℕ, List, sym, ap, ◌∙◌, codes, refl}
use Rattle.std.specs.Prelude.{Err}
use Rattle.am_frames.specs.declared.fields.Named.{Named}
use Rattle.am_frames.specs.declared.fields.Named.TheVariants.{Absent, Once, Repeated}
use Rattle.am_frames.specs.declared.frame.Defect.TheVariants.{TransferEncoding}
use Rattle.am_frames.specs.Fields.{values_of, length_without, body_length}
use Rattle.am_frames.specs.FrameSpans.{headers_at, IsNamedBy}
use Rattle.am_frames.proofs.length.body_length.Goals as goal

length_without-coded : (bytes method : List ℕ) (codings lengths : List (List ℕ)) (found : Named)
    → IsNamedBy bytes codings found
    → found ≢ Absent → Err TransferEncoding ≡ length_without codings method lengths
length_without-coded bytes method codings lengths Absent h some = absurd (some refl)
length_without-coded bytes method codings lengths (Once s) h some = sym
    (ap (λ (t : List (List ℕ)). length_without t method lengths) h)
length_without-coded bytes method codings lengths (Repeated s) h some = sym
    (ap (λ (t : List (List ℕ)). length_without t method lengths) h.2)

pub returns-in-Absent : goal.returns-in-Absent
unfolding body_length
returns-in-Absent c =
    let lengths = values_of (codes "Content-Length") (headers_at c.args.bytes.now c.args.headers.now) in
    c.length_by.ensures lengths c.find_named-in-Absent.ensures.values
    ∙ sym (ap (λ (t : List (List ℕ)). length_without t c.args.method.now lengths) c.in-Absent.ensures.values)

pub returns-in_default : goal.returns-in_default
unfolding body_length
returns-in_default c =
    length_without-coded c.args.bytes.now c.args.method.now _ _ c.find_named.result c.find_named.ensures.values
    c.in_default.not-Absent
