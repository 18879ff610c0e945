use Rattle.std.proofs.Common.{◌∙◌, List, ap}
use Rattle.std.specs.Option.{option_copied}
use Rattle.am_types.specs.declared.resolve.Registration.{Registration}
use Rattle.am_history.specs.BroadcastCalls.{count_of}
use Rattle.am_history.specs.State.{State}
use Rattle.am_live_broadcasts.proofs.BroadcastLemmas.{register_left, register_refused}
use Rattle.am_live_broadcasts.proofs.broadcasts.register.Goals as goal

pub returns-then-count_of-ge-MOST_REGISTERED-clause-done : goal.returns-then-count_of-ge-MOST_REGISTERED-clause-done
returns-then-count_of-ge-MOST_REGISTERED-clause-done c = λ (s : State).
    let counted = c.count_of.ensures ∙ ap (λ (rs : List Registration). count_of rs c.args.caller)
    c.registered.ensures.registered in
    register_refused (record s { board = c.args.board.now; next_registration = c.args.next.now }) c.args.caller
    c.args.filter.now (option_copied c.args.permission)
    c.count_of.result counted c.if-count_of-ge-MOST_REGISTERED.true

pub returns-clause-done : goal.returns-clause-done
returns-clause-done c = λ (s : State).
    let counted = c.count_of.ensures ∙ ap (λ (rs : List Registration). count_of rs c.args.caller)
    c.registered.ensures.registered in
    register_left (record s { board = c.args.board.now; next_registration = c.args.next.now }) c.args.caller
    c.args.filter.now (option_copied c.args.permission)
    c.count_of.result
    (record {
      number = c.args.next.now;
      uid = c.args.caller;
      filter = c.in_ok-copy.copy;
      permission = c.in_ok-held.held;
    })
    c.register.new.self counted c.if-count_of-ge-MOST_REGISTERED.false
    c.requires.registered
    (ap (λ f. record { number = c.args.next.now; uid = c.args.caller; filter = f; permission = c.in_ok-held.held })
    c.in_ok-copy.ensures.cases
    ∙ ap (λ p. record { number = c.args.next.now; uid = c.args.caller; filter = c.args.filter.now; permission = p })
    c.in_ok-held.ensures)
    c.in_ok-register.ensures.registered
