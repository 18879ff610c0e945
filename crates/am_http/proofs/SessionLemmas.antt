-- How a connection starts, goes on and ends.
use Rattle.std.proofs.Common.{◌≡◌, ℕ, suc, ◌+◌, ◌-◌, ◌<◌, ◌≤◌, Bool, true, false, IsTrue, List, [], ◌∷◌, ◌++◌, length, take, drop, Option, Some, None, refl, sym, ap, ◌∙◌, subst, inl, inr, arith, length-append, append-nil}
use Rattle.std.specs.Prelude.{IfSome}
use Rattle.std.specs.Option.{option_map, option_to_list}
use Rattle.std.specs.Io.KnownBytes.{Appends, Keeps, prepend_known}
use Rattle.std.proofs.Math.Seq.{take-append_seam, drop-append_seam}
use Rattle.std.proofs.lemmas.Grind.{flat_map-append}
use Rattle.std.proofs.lemmas.List.{take_all, drop_all, drop-append-le, length-drop}
use Rattle.am_types.specs.declared.history.Entry.{Entry}
use Rattle.am_outside.specs.Clock.{IsTold}
use Rattle.am_history.specs.Desks.{DeskView, Origin, opening_of, IsSameDesk}
use Rattle.am_history.specs.History.{IsLegal}
use Rattle.am_http.specs.declared.end.End.{End}
use Rattle.am_http.specs.declared.end.Served.{Served}
use Rattle.am_http.specs.declared.end.End.TheVariants.{Input, Close, Refused, Cut, Limit, Idle, ReadFault, WriteFault}
use Rattle.am_frames.specs.Head.{Frame, whole}
use Rattle.am_frames.specs.Framing.{IsFraming}
use Rattle.am_http.specs.Frames.{Splits, Leaves, Drops}
use Rattle.am_http.specs.Exchanges.{Exchange, Point, AreAnswered, AreInOrder, IsAbove, Raises, RaisesAlong, floor_after, floor_of, frames_of, bytes_of, moments_of}
use Rattle.am_http.specs.Links.{Link, Midway, Server, Moments, Gives, rest_of, GoesOn, IsSameLink}
use Rattle.am_http.specs.Sessions.{most_held, most_taken, GivesAtMost, MayGoOn, defect_text, VisitEnds, Writes, Visit, Going, Serves, IsLast, Replies, Stops}
use Rattle.am_http.specs.Sending.{StopsInside}
use Rattle.am_frames.proofs.FramingLemmas.{whole_fits}
use Rattle.am_http.proofs.SendLemmas.{appends_trans, appends_none, appends_self, inside_more}
use Rattle.am_http.proofs.ExchangeLemmas.{stands, one_more, none_yet, all_more, floor_more, in_order_more}

-- one more frame of an input
splits_more : (input : List ℕ) (fs : List Frame) (f : Frame) (rest : List ℕ)
    → Splits input fs rest → IsFraming rest (whole f) → Splits input (fs ++ f ∷ []) (drop f.length rest)
splits_more input [] f rest splits next =
    (subst (λ bytes. IsFraming bytes (whole f)) (sym splits) next, ap (drop f.length) splits)
splits_more input (first ∷ others) f rest splits next =
    (splits.0, splits_more (drop first.length input) others f rest splits.1 next)

splits_as : (input : List ℕ) (fs : List Frame) (rest after : List ℕ) → after ≡ rest → Splits input fs rest
    → Splits input fs after
splits_as input fs rest after same splits = subst (λ bytes. Splits input fs bytes) (sym same) splits

leaves_more : (input : Option (List ℕ)) (fs : List Frame) (f : Frame) (rest after : Option (List ℕ))
    → Leaves input fs rest → Drops rest f after → Leaves input (fs ++ f ∷ []) after
leaves_more None fs f rest after leaves drops = tt
leaves_more (Some input) fs f None after leaves drops = absurd leaves
leaves_more (Some input) fs f (Some rest) None leaves drops = absurd drops
leaves_more (Some input) fs f (Some rest) (Some after) leaves drops =
    splits_as input (fs ++ f ∷ []) (drop f.length rest) after drops.1 (splits_more input fs f rest leaves drops.0)

frames_more : (es : List Exchange) (e : Exchange) → frames_of (es ++ e ∷ []) ≡ frames_of es ++ e.frame ∷ []
frames_more [] e = refl
frames_more (first ∷ others) e = ap (λ fs. first.frame ∷ fs) (frames_more others e)

bytes_more : (es : List Exchange) (e : Exchange) → bytes_of (es ++ e ∷ []) ≡ bytes_of es ++ e.bytes
bytes_more es e =
    flat_map-append (λ (x : Exchange). x.bytes) es (e ∷ []) ∙ ap (λ bs. bytes_of es ++ bs) (append-nil e.bytes)

-- a connection that begins, with an empty window
abbrev pub going_none : (first : Link) (w : List ℕ) (least : ℕ) → Leaves first.source.left []
    (rest_of (record { link = first; window = w; least = least }))
    → Going first (record { link = first; window = w; least = least }) 0
going_none first w least leaves =
    record {
      exchanges = [];
      answers = none_yet first.server.desk;
      moments = λ calls. refl;
      frames = leaves;
      stays = tt;
      output = appends_self first.sink.taken;
      counted = refl;
    }

pub leaves_self : (input : Option (List ℕ)) → Leaves input [] input
leaves_self None = tt
leaves_self (Some input) = refl

-- what a clock gave, and then gave further
gives_as : (a b : Moments) (ms : List ℕ) (c : Moments) → ((calls : ℕ) → b calls ≡ a calls) → Gives b ms c → Gives a ms c
gives_as a b [] c same gives = λ calls. gives calls ∙ same calls
gives_as a b (m ∷ ms) c same gives = (
  subst (λ told. IsTold told m) (same 0) gives.0,
  gives_as (λ calls. a (suc calls)) (λ calls. b (suc calls)) ms c (λ calls. same (suc calls)) gives.1,
)

gives_trans : (a : Moments) (xs : List ℕ) (b : Moments) (ys : List ℕ) (c : Moments) → Gives a xs b → Gives b ys c
    → Gives a (xs ++ ys) c
gives_trans a [] b ys c first next = gives_as a b ys c first next
gives_trans a (x ∷ xs) b ys c first next = (first.0, gives_trans (λ calls. a (suc calls)) xs b ys c first.1 next)

moments_more : (es : List Exchange) (e : Exchange) → moments_of (es ++ e ∷ []) ≡ moments_of es ++ option_to_list e.now
moments_more es e =
    flat_map-append (λ (x : Exchange). option_to_list x.now) es (e ∷ [])
    ∙ ap (λ ms. moments_of es ++ ms) (append-nil (option_to_list e.now))

more_moments : (a b c : Moments) (es : List Exchange) (e : Exchange)
    → Gives a (moments_of es) b → Gives b (option_to_list e.now) c → Gives a (moments_of (es ++ e ∷ [])) c
more_moments a b c es e so_far next =
    subst (λ ms. Gives a ms c) (sym (moments_more es e)) (gives_trans a (moments_of es) b (option_to_list e.now) c
    so_far next)

unasked_moments : (a b c : Moments) (ms : List ℕ) → Gives a ms b → Gives b [] c → Gives a ms c
unasked_moments a b c ms so_far none =
    subst (λ xs. Gives a xs c) (append-nil ms) (gives_trans a ms b [] c so_far none)

-- the exchanges so far and one more, with their output
more_frames : (input rest after : Option (List ℕ)) (es : List Exchange) (e : Exchange)
    → Leaves input (frames_of es) rest → Drops rest e.frame after → Leaves input (frames_of (es ++ e ∷ [])) after
more_frames input rest after es e leaves drops =
    subst (λ fs. Leaves input fs after) (sym (frames_more es e)) (leaves_more input (frames_of es) e.frame rest after
    leaves drops)

more_output : (old mid new : Option (List ℕ)) (es : List Exchange) (e : Exchange)
    → Appends old mid (bytes_of es) → Appends mid new e.bytes → Appends old new (bytes_of (es ++ e ∷ []))
more_output old mid new es e so_far next =
    subst (λ bs. Appends old new bs) (sym (bytes_more es e)) (appends_trans old mid new (bytes_of es) e.bytes so_far
    next)

more_count : (es : List Exchange) (e : Exchange) (count : ℕ) → length es ≡ count → length (es ++ e ∷ []) ≡ count + 1
more_count es e count h = omega (arith, h, length-append es (e ∷ []))

-- the exchanges so far and one more that a desk answered
more_answers : (first : Link) (mid : Midway) (new : Server) (es : List Exchange) (e : Exchange)
    → IsSameDesk first.server.desk mid.link.server.desk → AreAnswered first.server.desk mid.link.server.desk es
    → Serves mid.link.server new e → AreAnswered first.server.desk new.desk (es ++ e ∷ [])
more_answers first mid new es e same so_far next =
    one_more first.server.desk mid.link.server.desk new.desk es e same so_far
    (stands mid.link.server.desk new.desk e next.answer)

-- the places of the exchanges so far, and of one more
raised_more : (waits : Bool) (least mid new : ℕ) (es : List Exchange) (e : Exchange) → RaisesAlong waits least mid es
    → Raises waits mid new e.point → RaisesAlong waits least new (es ++ e ∷ [])
raised_more waits least mid new es e so_far next = (
  λ it_waits. in_order_more least es e (so_far.0 it_waits) (subst (λ (n : ℕ). IsAbove n e.point) so_far.1
      (next.0 it_waits)),
  next.1 ∙ ap (λ (n : ℕ). floor_after n e.point) so_far.1 ∙ sym (floor_more least es e),
)

-- where no call was made, they stay
raised_still : (waits : Bool) (least mid new : ℕ) (es : List Exchange) → RaisesAlong waits least mid es → new ≡ mid
    → RaisesAlong waits least new es
raised_still waits least mid new es so_far same = (so_far.0, same ∙ so_far.1)

-- a connection that goes on
pub going_more : (waits : Bool) (least : ℕ) (first : Link) (mid new : Midway) (count : ℕ)
    → IsSameDesk first.server.desk mid.link.server.desk
    → (so_far : Going first mid count) → RaisesAlong waits least mid.least so_far.exchanges
    → Replies waits false mid new
    → (going : Going first new (count + 1)) × RaisesAlong waits least new.least going.exchanges
going_more waits least first mid new count same so_far raised next = (
  record {
    exchanges = so_far.exchanges ++ next.exchange ∷ [];
    answers = more_answers first mid new.link.server so_far.exchanges next.exchange same so_far.answers next.served;
    moments = more_moments first.server.clock mid.link.server.clock new.link.server.clock so_far.exchanges
        next.exchange
        so_far.moments next.served.moment;
    frames = more_frames first.source.left (rest_of mid) (rest_of new) so_far.exchanges next.exchange so_far.frames
        next.frame;
    stays = all_more (λ (e : Exchange). e.frame.close ≡ false) so_far.exchanges next.exchange so_far.stays
        next.closes;
    output = more_output first.sink.taken mid.link.sink.taken new.link.sink.taken so_far.exchanges next.exchange
        so_far.output next.output;
    counted = more_count so_far.exchanges next.exchange count so_far.counted;
  },
  raised_more waits least mid.least new.least so_far.exchanges next.exchange raised next.raises,
)

-- a visit, along whose exchanges places go so
abbrev pub VisitAlong : Bool → ℕ → ℕ → (limit : ℕ) (old new : Link) (served : Served) → Type 0
VisitAlong waits least next limit old new served =
    (visit : Visit limit old new served) × RaisesAlong waits least next visit.exchanges

-- a connection that the peer closes
pub session_close : (waits : Bool) (least next_least limit : ℕ) (first : Link) (mid : Midway) (link : Link)
    (window : List ℕ) (count : ℕ)
    → count < limit
    → GivesAtMost (most_taken limit) first.source.left link.source.left
    → IsSameDesk first.server.desk mid.link.server.desk
    → (so_far : Going first mid count) → RaisesAlong waits least mid.least so_far.exchanges
    → Replies waits true mid (record { link = link; window = window; least = next_least })
    → VisitAlong waits least next_least limit first link (record { end = Close; answered = count + 1 })
session_close waits least next_least limit first mid link window count below gives same so_far raised next =
    let new : Midway = record { link = link; window = window; least = next_least } in
    let es = so_far.exchanges in
    let e = next.exchange in (
      record {
        exchanges = es ++ e ∷ [];
        rest = rest_of new;
        last = [];
        answers = more_answers first mid new.link.server es e same so_far.answers next.served;
        moments = more_moments first.server.clock mid.link.server.clock new.link.server.clock es e so_far.moments
            next.served.moment;
        frames = more_frames first.source.left (rest_of mid) (rest_of new) es e so_far.frames next.frame;
        most = omega (arith, below, more_count es e count so_far.counted);
        taken = gives;
        end = (sym (more_count es e count so_far.counted), (es, e, refl, so_far.stays, next.closes), refl);
        output = subst (λ bs. Appends first.sink.taken new.link.sink.taken bs)
            (sym (append-nil (bytes_of (es ++ e ∷ []))))
            (more_output first.sink.taken mid.link.sink.taken new.link.sink.taken es e so_far.output next.output);
      },
      raised_more waits least mid.least next_least es e raised next.raises,
    )

-- a connection that has had as many frames as it may
pub session_limit : (waits : Bool) (least next_least limit : ℕ) (first link : Link) (window : List ℕ) (count : ℕ)
    → count ≡ limit
    → GivesAtMost (most_taken limit) first.source.left link.source.left
    → (so_far : Going first (record { link = link; window = window; least = next_least }) count)
    → RaisesAlong waits least next_least so_far.exchanges
    → VisitAlong waits least next_least limit first link (record { end = Limit; answered = count })
session_limit waits least next_least limit first link window count all gives so_far raised =
    let mid : Midway = record { link = link; window = window; least = next_least } in (
      record {
        exchanges = so_far.exchanges;
        rest = rest_of mid;
        last = [];
        answers = so_far.answers;
        moments = so_far.moments;
        frames = so_far.frames;
        most = omega (arith, so_far.counted, all);
        taken = gives;
        end = (sym so_far.counted, so_far.stays, so_far.counted ∙ all, refl);
        output = subst (λ bs. Appends first.sink.taken mid.link.sink.taken bs)
            (sym (append-nil (bytes_of so_far.exchanges)))
            so_far.output;
      },
      raised,
    )

-- the told rest behind a frame
rest_after : Option (List ℕ) → Frame → Option (List ℕ)
rest_after rest f = option_map (drop f.length) rest

drops_after : (rest : Option (List ℕ)) (f : Frame) → IfSome rest (λ input. IsFraming input (whole f))
    → Drops rest f (rest_after rest f)
unfolding rest_after
drops_after None f h = tt
drops_after (Some input) f h = (h, refl)

-- the exchanges so far, after something that no desk was asked for
same_answers : (first mid new : DeskView) (es : List Exchange) → new.seen ≡ mid.seen → AreAnswered first mid es
    → AreAnswered first new es
same_answers first mid new es same so_far =
    let P : List Entry → Type 0 = λ (h : List Entry). AreAnswered first
    (record { origin = new.origin; number = new.number; sharing = new.sharing; seen = h }) es in
    subst P (sym same)
    (record {
      grows = so_far.grows;
      answers = so_far.answers;
      in_order = so_far.in_order;
      floor = so_far.floor;
      own = so_far.own;
      alone = so_far.alone;
    })

-- a connection that ends with what was written last, after nothing more was asked of the desk
ended : {Takes : Option (List ℕ) → Option (List ℕ) → Type 0} (waits : Bool) (least limit : ℕ) (first : Link)
    (mid new : Midway) (count : ℕ)
    (end : End) (last : List ℕ) → count < limit → GivesAtMost (most_taken limit) first.source.left new.link.source.left
    → (so_far : Going first mid count) → RaisesAlong waits least mid.least so_far.exchanges → IsLast mid new Takes
    → (Takes mid.link.sink.taken new.link.sink.taken
    → Writes (record { end = end; answered = count }) first.sink.taken new.link.sink.taken so_far.exchanges last)
    → (count ≡ length so_far.exchanges → MayGoOn limit so_far.exchanges → VisitEnds limit end count so_far.exchanges
    (record { rest = rest_of mid; left = new.link.source.left; last = last }))
    → VisitAlong waits least new.least limit first new.link (record { end = end; answered = count })
ended waits least limit first mid new count end last below gives so_far raised stop writes ends =
    let es = so_far.exchanges in
    let asked = stop.unasked in (
      record {
        exchanges = es;
        rest = rest_of mid;
        last = last;
        answers = same_answers first.server.desk mid.link.server.desk new.link.server.desk es asked.seen so_far.answers;
        moments = unasked_moments first.server.clock mid.link.server.clock new.link.server.clock (moments_of es)
            so_far.moments asked.clock;
        frames = so_far.frames;
        most = omega (arith, below, so_far.counted);
        taken = gives;
        end = ends (sym so_far.counted)
            (record { stays = so_far.stays; below = omega (arith, so_far.counted, below) });
        output = writes stop.output;
      },
      raised_still waits least mid.least new.least es raised stop.least,
    )

-- what the source gave behind a frame that still stands in the window
ahead : (rest : Option (List ℕ)) (w : List ℕ) (left : Option (List ℕ)) (f : Frame) → Keeps rest (prepend_known w left)
    → IsFraming w (whole f) → length w ≤ most_held → GivesAtMost (most_held - f.length) (rest_after rest f) left
unfolding rest_after
ahead None w left f kept here fits = ([], tt, omega arith)
ahead (Some input) w None f kept here fits = absurd kept
ahead (Some input) w (Some left) f kept here fits = (
  drop f.length w,
  ap (drop f.length) (sym kept) ∙ drop-append-le f.length w left (whole_fits w f here).1,
  omega (arith, fits, length-drop f.length w),
)

-- the sink failed at the response behind so many that were written whole
inside_response : (old new : Option (List ℕ)) (es : List Exchange) (e : Exchange) (count : ℕ) → length es ≡ count
    → StopsInside old new (bytes_of es) e.bytes
    → StopsInside old new (bytes_of (take count (es ++ e ∷ []))) (bytes_of (drop count (es ++ e ∷ [])) ++ [])
inside_response old new es e count counted inside =
    let first : take count (es ++ e ∷ []) ≡ es =
    ap (λ n. take n (es ++ e ∷ [])) (sym counted) ∙ take-append_seam es (e ∷ []) in
    let behind : drop count (es ++ e ∷ []) ≡ e ∷ [] =
    ap (λ n. drop n (es ++ e ∷ [])) (sym counted) ∙ drop-append_seam es (e ∷ []) in
    let next : bytes_of (drop count (es ++ e ∷ [])) ++ [] ≡ e.bytes =
    append-nil (bytes_of (drop count (es ++ e ∷ []))) ∙ ap (λ xs. bytes_of xs) behind ∙ append-nil e.bytes in
    subst (λ (text : List ℕ). StopsInside old new (bytes_of (take count (es ++ e ∷ []))) text) (sym next)
    (subst (λ (xs : List Exchange). StopsInside old new (bytes_of xs) e.bytes) (sym first) inside)

-- the sink failed at a text behind all responses
inside_behind : (old new : Option (List ℕ)) (es : List Exchange) (text : List ℕ) (count : ℕ) → length es ≡ count
    → StopsInside old new (bytes_of es) text
    → StopsInside old new (bytes_of (take count es)) (bytes_of (drop count es) ++ text)
inside_behind old new es text count counted inside =
    let within : length es ≤ count = omega (arith, counted) in
    subst (λ (xs : List Exchange). StopsInside old new (bytes_of (take count es)) (bytes_of xs ++ text))
    (sym (drop_all count es within))
    (subst (λ (xs : List Exchange). StopsInside old new (bytes_of xs) text) (sym (take_all count es within)) inside)

-- a connection that goes on, whose sink took no more
kept : (first : Link) (mid new : Midway) (count : ℕ) (so_far : Going first mid count)
    → Keeps mid.link.sink.taken new.link.sink.taken → Appends first.sink.taken new.link.sink.taken
    (bytes_of so_far.exchanges ++ [])
kept first mid new count so_far keeps =
    appends_trans first.sink.taken mid.link.sink.taken new.link.sink.taken (bytes_of so_far.exchanges) [] so_far.output
    (appends_none mid.link.sink.taken new.link.sink.taken keeps)

-- a connection that ends before a further frame is answered
stopped : (waits : Bool) (least limit : ℕ) (first : Link) (mid new : Midway) (count : ℕ) (end : End) → count < limit
    → GivesAtMost (most_taken limit) first.source.left new.link.source.left
    → IsSameDesk first.server.desk mid.link.server.desk
    → (so_far : Going first mid count) → RaisesAlong waits least mid.least so_far.exchanges
    → Stops waits end mid new
    → VisitAlong waits least new.least limit first new.link (record { end = end; answered = count })
stopped waits least limit first mid new count Input below gives same so_far raised stop =
    ended waits least limit first mid new count Input [] below gives so_far raised stop.1 (kept first mid new count so_far)
    (λ counted more. (counted, more, stop.0, refl))
stopped waits least limit first mid new count Close below gives same so_far raised stop = absurd stop
stopped waits least limit first mid new count Refused below gives same so_far raised stop =
    ended waits least limit first mid new count Refused (defect_text stop.0) below gives so_far raised stop.2
    (appends_trans first.sink.taken mid.link.sink.taken new.link.sink.taken (bytes_of so_far.exchanges)
    (defect_text stop.0) so_far.output)
    (λ counted more. (counted, (more, (stop.0, stop.1, refl), stop.3)))
stopped waits least limit first mid new count Cut below gives same so_far raised stop =
    ended waits least limit first mid new count Cut [] below gives so_far raised stop.1 (kept first mid new count so_far)
    (λ counted more. (counted, more, stop.0, refl))
stopped waits least limit first mid new count Limit below gives same so_far raised stop = absurd stop
stopped waits least limit first mid new count Idle below gives same so_far raised stop =
    ended waits least limit first mid new count Idle [] below gives so_far raised stop.1 (kept first mid new count so_far)
    (λ counted more. (counted, more, stop.0, refl))
stopped waits least limit first mid new count ReadFault below gives same so_far raised stop =
    ended waits least limit first mid new count ReadFault [] below gives so_far raised stop.2 (kept first mid new count so_far)
    (λ counted more. (counted, more, (new.window, stop.0, stop.1), refl))
stopped waits least limit first mid new count WriteFault below gives same so_far raised (inl next) =
    let es = so_far.exchanges in
    let e = next.exchange in
    let more = more_count es e count so_far.counted in (
      record {
        exchanges = es ++ e ∷ [];
        rest = rest_after (rest_of mid) e.frame;
        last = [];
        answers = more_answers first mid new.link.server es e same so_far.answers next.served;
        moments = more_moments first.server.clock mid.link.server.clock new.link.server.clock es e so_far.moments
            next.served.moment;
        frames = more_frames first.source.left (rest_of mid) (rest_after (rest_of mid) e.frame) es e so_far.frames
            (drops_after (rest_of mid) e.frame next.frame);
        most = omega (arith, below, more);
        taken = gives;
        end = inl (
          sym more,
          (
            es,
            e,
            refl,
            so_far.stays,
            ahead (rest_of mid) new.window new.link.source.left e.frame next.kept next.here next.fits,
            refl,
          ),
        );
        output = inside_response first.sink.taken new.link.sink.taken es e count so_far.counted
            (inside_more first.sink.taken mid.link.sink.taken new.link.sink.taken (bytes_of es) e.bytes so_far.output
            next.output);
      },
      raised_more waits least mid.least new.least es e raised next.raises,
    )
stopped waits least limit first mid new count WriteFault below gives same so_far raised (inr stop) =
    ended waits least limit first mid new count WriteFault (defect_text stop.0) below gives so_far raised stop.2
    (λ part. inside_behind first.sink.taken new.link.sink.taken so_far.exchanges (defect_text stop.0) count so_far.counted
    (inside_more first.sink.taken mid.link.sink.taken new.link.sink.taken (bytes_of so_far.exchanges)
    (defect_text stop.0) so_far.output part))
    (λ counted more. inr (counted, (more, (stop.0, stop.1, refl), stop.3)))

pub session_stop : (waits : Bool) (least next_least limit : ℕ) (first : Link) (mid : Midway) (link : Link)
    (window : List ℕ) (count : ℕ) (end : End)
    → count < limit
    → GivesAtMost (most_taken limit) first.source.left link.source.left
    → IsSameDesk first.server.desk mid.link.server.desk
    → (so_far : Going first mid count) → RaisesAlong waits least mid.least so_far.exchanges
    → Stops waits end mid (record { link = link; window = window; least = next_least })
    → VisitAlong waits least next_least limit first link (record { end = end; answered = count })
session_stop waits least next_least limit first mid link window count end below gives same so_far raised stop =
    stopped waits least limit first mid (record { link = link; window = window; least = next_least }) count end below
    gives same so_far raised stop

-- what a connection is served with stays the same from turn to turn
pub same_desk_trans : (a b c : DeskView) → IsSameDesk a b → IsSameDesk b c → IsSameDesk a c
same_desk_trans a b c first next =
    record {
      origin = next.origin ∙ first.origin;
      number = next.number ∙ first.number;
      sharing = next.sharing ∙ first.sharing;
    }

pub goes_on_trans : (a b c : DeskView) → GoesOn a b → GoesOn b c → GoesOn a c
goes_on_trans a b c first next =
    let P : Origin → Type 0 = λ (o : Origin). IsLegal (opening_of o) b.seen → IsLegal (opening_of o) c.seen in
    record {
      desk = same_desk_trans a b c first.desk next.desk;
      legal = λ h. subst P first.desk.origin next.legal (first.legal h);
    }

pub same_link_trans : (a b c : Link) → IsSameLink a b → IsSameLink b c → IsSameLink a c
same_link_trans a b c first next =
    record {
      desk = goes_on_trans a.server.desk b.server.desk c.server.desk first.desk next.desk;
      source = record {
        mark = next.source.mark ∙ first.source.mark;
        never_falls = omega (arith, first.source.never_falls, next.source.never_falls);
      };
      sink = record {
        mark = next.sink.mark ∙ first.sink.mark;
        never_falls = omega (arith, first.sink.never_falls, next.sink.never_falls);
      };
    }

pub same_link_refl : (a : Link) → IsSameLink a a
same_link_refl a =
    record {
      desk = record { desk = record { origin = refl; number = refl; sharing = refl }; legal = λ h. h };
      source = record { mark = refl; never_falls = omega arith };
      sink = record { mark = refl; never_falls = omega arith };
    }
