use Rattle.am_http.proofs.NextLemmas.{gives_read}
use Rattle.am_http.proofs.reader.next_frame.Goals as goal

pub returns-in_err-found-clause-gives : goal.returns-in_err-found-clause-gives
returns-in_err-found-clause-gives g c =
    gives_read c.args.window.now c.loop-found.window c.look.new.window (g.S.Source.left c.args.source.now)
    (g.S.Source.left c.loop-found.source) (g.S.Source.left c.look.new.source) c.loop-found.invariant.reads
    c.look.ensures.reads c.look.ensures.fits

pub returns-in-Some-clause-gives : goal.returns-in-Some-clause-gives
returns-in-Some-clause-gives g c =
    gives_read c.args.window.now c.loop-found.window c.look.new.window (g.S.Source.left c.args.source.now)
    (g.S.Source.left c.loop-found.source) (g.S.Source.left c.look.new.source) c.loop-found.invariant.reads
    c.look.ensures.reads c.look.ensures.fits
