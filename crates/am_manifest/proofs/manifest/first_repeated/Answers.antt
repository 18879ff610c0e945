-- The loop's step: one more class, from the end on.
use Rattle.std.proofs.Common.{◌≡◌, ℕ, ◌-◌, true, cond, List, get_or, ap, ◌∙◌, arith, nat_cmp, is_eq}
use Rattle.std.specs.Cmp.Lexicographic.{slice_cmp}
use Rattle.am_uri.specs.Texts.{is_among}
use Rattle.am_manifest.proofs.Repeats.{later_more, repeated_more}
use Rattle.am_manifest.proofs.manifest.first_repeated.Goals as goal

pub loop-i-preserved : goal.loop-i-preserved
loop-i-preserved c =
    let decls = c.args.decls.now in
    let i = c.loop-i.i in
    let keys = c.loop-i.later.keys in
    let d = get_or decls (i - 1) c.index-decls-i.result in
    let is : d ≡ get_or decls (i - 1) d = ap (get_or decls (i - 1)) c.index-decls-i.is in
    let added = λ (text : List ℕ). c.in_ok-insert.ensures.updates.0 text
    ∙ ap (λ (k : List ℕ). cond (is_eq (slice_cmp nat_cmp k text)) true (is_among text keys))
    c.in_ok-clone.ensures.cases in
    let stands : c.contains.result ≡ is_among d.class keys = c.contains.ensures in
    let chosen = repeated_more decls i d c.loop-i-test.true c.loop-i.invariant.within is keys c.loop-i.repeated
    c.loop-i.invariant.later c.loop-i.invariant.repeated in
    record {
      within = omega arith;
      later = later_more decls i d c.loop-i-test.true c.loop-i.invariant.within is keys c.insert.new.self.keys added
          c.loop-i.invariant.later;
      repeated = rw (c.in_ok-repeated.ensures, stands) chosen;
    }
