-- The generated requests are plain ones.
use Rattle.std.proofs.Common.{ℕ, ◌<◌, ◌%◌, ◌==◌, Bool, true, false, None, Some, refl, arith}
use Rattle.std.specs.Prelude.{if◌then◌else◌}
use Rattle.am_types.specs.declared.manifest.Kind.TheVariants.{Activity}
use Rattle.am_types.specs.declared.request.Request.TheVariants as asks
use Rattle.am_types.specs.Intents.{no_flags}
use Rattle.am_drill.specs.Desks.{IsPlain}
use Rattle.am_drill.specs.Devices.{activity_action, broadcast_action}
use Rattle.am_drill.specs.Draws.{draw}
use Rattle.am_drill.specs.Requests.{acting, in_order, new_task, request_of}
use Rattle.am_drill.proofs.ShortBodies.{query_is_short, send_is_short, start_is_short, tick_is_short}

-- a remainder is below what is divided by
remains_below : (x m : ℕ) → 0 < m → x % m < m
remains_below x m some = omega arith

pub generated_is_plain : (case state : ℕ) → IsPlain (request_of case state)
unfolding request_of
generated_is_plain case state = by (case == 0) (case == 1) (case == 2)
  where
    by : (query start send : Bool) → IsPlain
        (if query then asks.Query Activity (acting (activity_action (draw 0 8 state)) no_flags) false
        else if start then asks.Start (acting (activity_action (draw 0 8 state)) new_task) None
        else if send then asks.Send (acting (broadcast_action (draw 0 4 state)) no_flags) None (Some in_order)
        else asks.Tick)
    by true start send = record {
      formed = refl;
      no_row = refl;
      short = query_is_short (draw 0 8 state)
          (remains_below _ 8 (omega arith));
    }
    by false true send = record {
      formed = refl;
      no_row = refl;
      short = start_is_short (draw 0 8 state)
          (remains_below _ 8 (omega arith));
    }
    by false false true = record {
      formed = refl;
      no_row = refl;
      short = send_is_short (draw 0 4 state)
          (remains_below _ 4 (omega arith));
    }
    by false false false = record { formed = refl; no_row = refl; short = tick_is_short }
