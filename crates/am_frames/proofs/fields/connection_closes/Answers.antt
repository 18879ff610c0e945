use Rattle.std.proofs.Common.{sym, ap, ◌∙◌, codes}
use Rattle.std.proofs.lemmas.List.{at_drop_all}
use Rattle.httparse.specs.declared.spans.HeaderSpan.{HeaderSpan}
use Rattle.std.proofs.Common.{List}
use Rattle.std.specs.List.{list_any}
use Rattle.am_frames.specs.Fields.{connection_closes, lists_close, values_of}
use Rattle.am_frames.specs.FrameSpans.{headers_at}
use Rattle.am_frames.proofs.FieldLemmas.{closes_other, closes_here, closes_not_here}
use Rattle.am_frames.proofs.fields.connection_closes.Goals.{else-is_named-via-then-is_named+else-lists_close, else-is_named-via-else-is_named}
use Rattle.am_frames.proofs.fields.connection_closes.Goals as goal

pub returns-then-lists_close : goal.returns-then-lists_close
unfolding connection_closes
returns-then-lists_close c =
    sym (sym c.loop-header.invariant
    ∙ closes_here c.args.bytes.now (codes "Connection") c.args.headers.now c.loop-header.header-index _
    c.loop-header-test.true
    (sym c.is_named.ensures ∙ c.if-is_named.true)
    (ap lists_close (sym c.of.ensures) ∙ sym c.lists_close.ensures ∙ c.if-lists_close.true))

pub returns : goal.returns
unfolding connection_closes
returns c =
    sym (at_drop_all (λ (hs : List HeaderSpan). list_any lists_close
    (values_of (codes "Connection") (headers_at c.args.bytes.now hs))) c.args.headers.now c.loop-header.header-index
    c.loop-header-test.false)
    ∙ c.loop-header.invariant

pub loop-header-preserved : goal.loop-header-preserved
loop-header-preserved c =
    elim c.else-is_named.branch [
      | else-is_named-via-then-is_named+else-lists_close w ↦
          sym (closes_not_here c.args.bytes.now (codes "Connection") c.args.headers.now c.loop-header.header-index _
          c.loop-header-test.true
          (sym c.is_named.ensures ∙ w.if-is_named.true)
          (ap lists_close (sym w.of.ensures) ∙ sym w.lists_close.ensures ∙ w.if-lists_close.false))
          ∙ c.loop-header.invariant
      | else-is_named-via-else-is_named w ↦
          sym (closes_other c.args.bytes.now (codes "Connection") c.args.headers.now c.loop-header.header-index _
          c.loop-header-test.true
          (sym c.is_named.ensures ∙ w.if-is_named.false))
          ∙ c.loop-header.invariant
    ]
