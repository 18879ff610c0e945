use Rattle.std.proofs.Common.{◌≡◌, Bool, Option, refl, subst}
use Rattle.std.specs.Option.{option_map}
use Rattle.am_network.specs.Links.{Handed, HandsNext, Links, link_of}
use Rattle.am_workers.specs.declared.working.Turn.{Turn}
use Rattle.am_workers.specs.Work.{gate_of}
use Rattle.am_workers.proofs.WorkLemmas.{back_again, few_frames, may_be_back, serves_counted}
use Rattle.am_workers.proofs.working.serve_next.Goals as goal

-- the gate handed out this link
handed : {X : Type 0} (view : X → Handed) (takes_new : Bool) (old out : Option Links) (found link : Option X)
    → found ≡ link → HandsNext takes_new old out (option_map view found)
    → HandsNext takes_new old out (option_map view link)
handed {X} view takes_new old out found link is =
    subst (λ o. HandsNext takes_new old out (option_map view o)) is

pub hand_back-ended-requires-clause-may : goal.hand_back-ended-requires-clause-may
hand_back-ended-requires-clause-may g c κs within =
    let out = handed _ _ _ _ _ _ c.in-Some.is c.in_ok-reader.ensures.next in
    let same = c.serve_link-served.ensures.same in
    may_be_back _ _ _ (link_of g.A.Reader.Source g.A.Writer.Sink c.serve_link-served.new.source
    c.serve_link-served.new.sink) out.0 c.requires.back same.source.mark same.sink.mark

pub hand_back-ended-requires-clause-few : goal.hand_back-ended-requires-clause-few
hand_back-ended-requires-clause-few g c κs within =
    few_frames c.unwrap_or-progress.result.answered _ _ _ c.serve_link-served.ensures.session.0

pub returns-clause-next : goal.returns-clause-next
returns-clause-next g c =
    let out = handed _ _ _ _ _ _ c.in-Some.is c.in_ok-reader.ensures.next in
    let link : Handed = record {
      link = link_of g.A.Reader.Source g.A.Writer.Sink c.in-Some.reader c.in-Some.writer;
      before = c.in-Some.before;
    } in
    let turn : Turn = record { taken = c.count_first-taken.result; ended = c.hand_back-ended.result } in
    let ran = c.serve_link-served.ensures in
    serves_counted g.D.Desk.waits c.args.takes_new link (gate_of g.A.Acceptor c.args.gate.now) _ _ _ _ _ _
    c.serve_link-served.new.least c.unwrap_or-progress.result
    c.serve_link-served.result turn c.unwrap_or-progress.ensures ran.session refl ran.fault ran.waits out
    c.in_ok-reader.ensures.counted c.hand_back-ended.ensures.back c.count_first-taken.ensures

pub returns-clause-back : goal.returns-clause-back
returns-clause-back g c =
    let out = handed _ _ _ _ _ _ c.in-Some.is c.in_ok-reader.ensures.next in
    let same = c.serve_link-served.ensures.same in
    let back = c.hand_back-ended.ensures.back in
    back_again _ _ _ _ _ back.parked out.0 c.requires.back same.source.mark same.sink.mark back.links
