use Rattle.std.proofs.Common.{ℕ, sym, subst, ◌∙◌, get_or, take, ◌+◌}
use Rattle.std.specs.Prelude.{All}
use Rattle.httparse.specs.Spans.{IsHeaderWithin}
use Rattle.httparse.specs.declared.spans.HeaderSpan.{HeaderSpan}
use Rattle.am_frames.specs.declared.fields.Named.{Named}
use Rattle.am_frames.specs.Fields.{values_of}
use Rattle.am_frames.specs.FrameSpans.{headers_at, IsNamedBy, IsNamedWithin}
use Rattle.am_frames.proofs.FieldLemmas.{IsNamedBy_other, IsNamedBy_more, IsNamedWithin_more}
use Rattle.am_frames.proofs.fields.find_named.Goals.{then-is_named, else-is_named}
use Rattle.am_frames.proofs.fields.find_named.Goals as goal

pub loop-header-preserved : goal.loop-header-preserved
loop-header-preserved c =
    let bytes = c.args.bytes.now in
    let name = c.args.name.now in
    let headers = c.args.headers.now in
    let i = c.loop-header.header-index in
    let inside = c.loop-header-test.true in
    let none : HeaderSpan = record { name = record { start = 0; end = 0 }; value = record { start = 0; end = 0 } } in
    let Kept : Named → Type 0 = λ found.
    IsNamedBy bytes (values_of name (headers_at bytes (take (i + 1) headers))) found
    × ((n : ℕ) → All (IsHeaderWithin n) headers → IsNamedWithin n found) in
    elim c.if-is_named.branch [
      | then-is_named w ↦
          subst Kept (sym (w.found-is ∙ w.with-found.ensures)) (
            IsNamedBy_more bytes name headers i _ inside c.loop-header.found
                (sym c.is_named.ensures ∙ w.if-is_named.true) c.loop-header.invariant.0,
            λ n all.
                IsNamedWithin_more n c.loop-header.found (get_or headers i none) (c.loop-header.invariant.1 n all)
                (all i none inside).1,
          )
      | else-is_named w ↦
          subst Kept (sym w.found-is) (
            IsNamedBy_other bytes name headers i _ inside c.loop-header.found
                (sym c.is_named.ensures ∙ w.if-is_named.false) c.loop-header.invariant.0,
            c.loop-header.invariant.1,
          )
    ]
