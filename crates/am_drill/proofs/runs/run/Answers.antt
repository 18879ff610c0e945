use Rattle.std.proofs.Common.{◌≡◌, ℕ, ◌+◌, List, ◌++◌, ap, ◌∙◌, refl, subst, arith}
use Rattle.am_history.specs.Desks.{start_of}
use Rattle.am_drill.specs.Calls.{behind, calls_of}
use Rattle.am_drill.specs.Drills.{history_of, statuses_of}
use Rattle.am_drill.proofs.Running.{all_left, alone_still, calls_left, drawn_more, history_at, history_ends, history_goes_on, same_twice, status_at, statuses_end, statuses_go_on}
use Rattle.am_drill.proofs.runs.run.Goals as goal

pub call-requires : goal.call-requires
call-requires g c = record {
  some = c.requires.some;
  alone = alone_still (g.D.Desk.view c.args.desk.now) (g.D.Desk.view c.loop-j.desk) c.loop-j.invariant.same
      c.requires.alone;
}

pub loop-j-init : goal.loop-j-init
loop-j-init g c =
    let first = g.D.Desk.view c.args.desk.now in
    let left = calls_left c.args.packages c.args.requests 0 c.args.draws.now in
    let all = all_left c.args.packages c.args.requests c.args.draws.now in
    record {
      statuses = ap (λ (items : List ℕ). items ++ statuses_of (start_of first) first.seen left)
          c.new-statuses.ensures.items
          ∙ ap (statuses_of (start_of first) first.seen) all;
      seen = ap (history_of (start_of first) first.seen) all;
      drawn = refl;
      same = record { origin = refl; number = refl; sharing = refl };
    }

pub loop-j-preserved : goal.loop-j-preserved
loop-j-preserved g c =
    let first = g.D.Desk.view c.args.desk.now in
    let desk = g.D.Desk.view c.loop-j.desk in
    let next = g.D.Desk.view c.call.new.desk in
    let packages = c.args.packages in
    let requests = c.args.requests in
    let state = c.args.draws.now in
    let j = c.loop-j.j in
    let so_far = c.loop-j.invariant in
    let one_more = history_at first desk packages j state c.loop-j.draws so_far.same so_far.drawn next.seen
    c.in_ok-status.ensures.seen in
    record {
      statuses = ap (λ (items : List ℕ). items ++ statuses_of (start_of first) next.seen
          (calls_left packages requests (j + 1) state)) c.in_ok-push.ensures.items
          ∙ statuses_go_on (start_of first) desk.seen next.seen packages requests j state c.loop-j-test.true one_more
          c.loop-j.statuses.items (statuses_of (start_of first) first.seen (calls_of packages requests state))
          c.in_ok-status.status
          (status_at first desk packages j state c.loop-j.draws so_far.same so_far.drawn c.in_ok-status.status
          c.in_ok-status.ensures.status)
          so_far.statuses;
      seen = history_goes_on (start_of first) desk.seen next.seen packages requests j state c.loop-j-test.true one_more
          (history_of (start_of first) first.seen (calls_of packages requests state)) so_far.seen;
      drawn = c.in_ok-status.ensures.drawn ∙ ap behind so_far.drawn ∙ drawn_more j state;
      same = same_twice first desk next so_far.same c.in_ok-status.ensures.same;
    }

pub returns : goal.returns
returns g c =
    let first = g.D.Desk.view c.args.desk.now in
    let desk = g.D.Desk.view c.loop-j.desk in
    let packages = c.args.packages in
    let requests = c.args.requests in
    let state = c.args.draws.now in
    let statuses = statuses_of (start_of first) first.seen (calls_of packages requests state) in
    let history = history_of (start_of first) first.seen (calls_of packages requests state) in
    let ended : c.loop-j.j ≡ requests = omega arith in
    record {
      statuses = statuses_end (start_of first) desk.seen packages requests state c.loop-j.statuses.items statuses
          (subst (λ (j : ℕ). c.loop-j.statuses.items ++ statuses_of (start_of first) desk.seen
          (calls_left packages requests j state) ≡ statuses)
          ended c.loop-j.invariant.statuses);
      seen = history_ends (start_of first) desk.seen packages requests state history
          (subst (λ (j : ℕ). history_of (start_of first) desk.seen (calls_left packages requests j state) ≡ history)
          ended c.loop-j.invariant.seen);
    }
