-- What a request does to broadcasts: it sends one, finishes a delivery, forgets receivers, or lets time pass.
use Rattle.std.proofs.Common.{◌≡◌, ℕ, ◌+◌, Bool, false, not, ◌&&◌, List}
use Rattle.std.specs.Prelude.{Option, Some}
use Rattle.am_types.specs.declared.intent.Intent.{Intent}
use Rattle.am_types.specs.declared.broadcast.Spot.{Spot}
use Rattle.am_types.specs.declared.broadcast.Answer.{Answer}
use Rattle.am_types.specs.declared.broadcast.Ordered.{Ordered}
use Rattle.am_types.specs.declared.request.Request.{Request}
use Rattle.am_types.specs.declared.request.Request.TheVariants as asks
use Rattle.am_model.specs.Gates.{is_privileged}
use Rattle.am_model.specs.Receivers.{is_protected, receivers}
use Rattle.am_model.specs.Broadcasts.{Broadcasts, expired}
use Rattle.am_model.specs.Sending as sending
use Rattle.am_model.specs.Sending.{Held, with_sent, held, finished, is_registered}
use Rattle.am_history.specs.State.{State}
use Rattle.am_history.specs.BroadcastCalls.{sending_of}
use Rattle.am_laws.specs.Access.{Sends, deed_of}
use Rattle.am_laws.proofs.Requests.{Steps}

-- this holds of the broadcasts, and after all that the request of a caller may do to them
pub record OnBroadcasts (B : Broadcasts → Type 0) (state : State) (caller : ℕ) (request : Request) : Type 0 where
  pub here : B state.broadcasts
  pub sent : (sender : ℕ) (intent : Intent) (permission : Option (List ℕ)) (ordered : Option Ordered)
      → deed_of state caller request ≡ Some (Sends sender intent permission ordered)
      → is_protected state.board.protected intent.action && not (is_privileged sender) ≡ false
      → B (with_sent state.broadcasts (sending_of state sender intent ordered
      (receivers state.board intent sender permission)) ordered)
  pub finished : (number : ℕ) (answer : Answer) (holder : Held) → request ≡ asks.Finish number answer
      → held state.broadcasts number ≡ Some holder → holder.uid ≡ caller
      → B (finished state.broadcasts number answer state.moment)
  pub forgotten : (struck : Spot → Bool) → B (sending.forget state.broadcasts struck state.moment)
  pub uid_forgotten : (uid : ℕ) → B (sending.forget_uid state.broadcasts uid state.moment)
  pub advanced : (moment : ℕ) → B (expired state.broadcasts moment)

-- so it holds after each step of the request
pub broadcast_steps : (B : Broadcasts → Type 0) (state : State) (caller : ℕ) (request : Request)
    → OnBroadcasts B state caller request
    → Steps (λ (s : State). B s.broadcasts) state caller request
broadcast_steps B state caller request on = record {
  here = on.here;
  started = λ uid intent source component found landed did is admits placed. on.here;
  served = λ uid intent component found did is admits. on.here;
  sent = on.sent;
  ended = λ keeps. on.here;
  unserved = λ keeps. on.here;
  registered = λ filter permission asked. on.here;
  taken_back = λ found. on.forgotten (λ (spot : Spot). is_registered found.number spot.aim);
  finished = on.finished;
  got = λ kind code intent flags got asked given. on.here;
  changed = λ after left same one. one;
  installed = λ text key manifest asked admin read name_unused key_unused room. on.here;
  gone = on.uid_forgotten;
  stopped = on.uid_forgotten;
  granted = λ uid permission held live room. on.here;
  linked = λ uid host approved live room. on.here;
  advanced = λ by fits. on.advanced (state.moment + by);
}
