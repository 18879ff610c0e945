use Rattle.std.specs.Prelude.{◌++◌, codes, decimal}
use Rattle.am_http.proofs.SendLemmas.{part_more, sends_failed}
use Rattle.am_shell.specs.Servings.{done_line}
use Rattle.am_shell.proofs.ServingLemmas.{cut, sends_behind}
use Rattle.am_shell.proofs.serving.write_done.Goals as goal

pub returns-in_err-write_all-clause-sent : goal.returns-in_err-write_all-clause-sent
returns-in_err-write_all-clause-sent g c =
    sends_failed (g.W.Sink.taken c.args.output.now) _ (done_line c.args.done) c.from_residual.result
    c.from_residual.ensures.0
    (cut _ _ (codes "history ") (decimal c.args.done.history ++ (codes " served "
    ++ (decimal c.args.done.totals.served ++ codes "\n"))) c.in_err-write_all.ensures.sent)

pub returns-in_err-write_number-clause-sent : goal.returns-in_err-write_number-clause-sent
returns-in_err-write_number-clause-sent g c =
    sends_failed (g.W.Sink.taken c.args.output.now) _ (done_line c.args.done) c.from_residual-in_err-write_number.result
    c.from_residual-in_err-write_number.ensures.0
    (part_more _ _ _ (codes "history ") (decimal c.args.done.history
    ++ (codes " served " ++ (decimal c.args.done.totals.served ++ codes "\n"))) c.in_ok-write_all.ensures.sent
    (cut _ _ (decimal c.args.done.history) (codes " served " ++ (decimal c.args.done.totals.served ++ codes "\n"))
    c.in_err-write_number.ensures.sent))

pub returns-in_err-write_all-2-clause-sent : goal.returns-in_err-write_all-2-clause-sent
returns-in_err-write_all-2-clause-sent g c =
    sends_failed (g.W.Sink.taken c.args.output.now) _ (done_line c.args.done) c.from_residual-in_err-write_all-2.result
    c.from_residual-in_err-write_all-2.ensures.0
    (part_more _ _ _ (codes "history ") (decimal c.args.done.history
    ++ (codes " served " ++ (decimal c.args.done.totals.served ++ codes "\n"))) c.in_ok-write_all.ensures.sent
    (part_more _ _ _ (decimal c.args.done.history) (codes " served "
    ++ (decimal c.args.done.totals.served ++ codes "\n")) c.in_ok-write_number.ensures.sent
    (cut _ _ (codes " served ") (decimal c.args.done.totals.served ++ codes "\n")
    c.in_err-write_all-2.ensures.sent)))

pub returns-in_err-write_number-2-clause-sent : goal.returns-in_err-write_number-2-clause-sent
returns-in_err-write_number-2-clause-sent g c =
    sends_failed (g.W.Sink.taken c.args.output.now) _ (done_line c.args.done)
    c.from_residual-in_err-write_number-2.result c.from_residual-in_err-write_number-2.ensures.0
    (part_more _ _ _ (codes "history ") (decimal c.args.done.history
    ++ (codes " served " ++ (decimal c.args.done.totals.served ++ codes "\n"))) c.in_ok-write_all.ensures.sent
    (part_more _ _ _ (decimal c.args.done.history) (codes " served "
    ++ (decimal c.args.done.totals.served ++ codes "\n")) c.in_ok-write_number.ensures.sent
    (part_more _ _ _ (codes " served ") (decimal c.args.done.totals.served ++ codes "\n")
    c.in_ok-write_all-2.ensures.sent (cut _ _ (decimal c.args.done.totals.served) (codes "\n")
    c.in_err-write_number-2.ensures.sent))))

pub returns-clause-sent : goal.returns-clause-sent
returns-clause-sent g c =
    sends_behind _ _ _ (codes "history ") (decimal c.args.done.history
    ++ (codes " served " ++ (decimal c.args.done.totals.served ++ codes "\n"))) _ c.in_ok-write_all.ensures.sent
    (sends_behind _ _ _ (decimal c.args.done.history) (codes " served "
    ++ (decimal c.args.done.totals.served ++ codes "\n")) _ c.in_ok-write_number.ensures.sent
    (sends_behind _ _ _ (codes " served ") (decimal c.args.done.totals.served ++ codes "\n") _
    c.in_ok-write_all-2.ensures.sent
    (sends_behind _ _ _ (decimal c.args.done.totals.served) (codes "\n") _ c.in_ok-write_number-2.ensures.sent
    c.write_all-3.ensures.sent)))
