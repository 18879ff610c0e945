-- The bodies of the generated requests are short.
use Rattle.std.proofs.Common.{◌≡◌, ℕ, zero, suc, ◌<◌, ◌≤◌, false, refl, arith, Some, None}
use Rattle.std.specs.Fmt.{digits}
use Rattle.json.specs.Print.{escape_byte}
use Rattle.am_types.specs.Bounds.{longest_body}
use Rattle.am_types.specs.declared.manifest.Kind.TheVariants.{Activity}
use Rattle.am_types.specs.declared.request.Request.TheVariants as asks
use Rattle.am_types.specs.Intents.{no_flags}
use Rattle.am_wire_values.specs.Intents.{intent_data}
use Rattle.am_wire_values.specs.Requests.{request_data, query_data, send_data, start_data, with_ordered, with_outcome}
use Rattle.am_drill.specs.Bodies.{weight_of}
use Rattle.am_drill.specs.Devices.{activity_action, broadcast_action}
use Rattle.am_drill.specs.Requests.{acting, in_order, new_task}

-- what holds of each number below 4, or below 8
below_4 : (P : ℕ → Type 0) → P 0 → P 1 → P 2 → P 3 → (n : ℕ) → n < 4 → P n
below_4 P p q r s zero small = p
below_4 P p q r s (suc zero) small = q
below_4 P p q r s (suc (suc zero)) small = r
below_4 P p q r s (suc (suc (suc zero))) small = s
below_4 P p q r s (suc (suc (suc (suc n)))) small = absurd (omega arith)

below_8 : (P : ℕ → Type 0) → P 0 → P 1 → P 2 → P 3 → P 4 → P 5 → P 6 → P 7 → (n : ℕ) → n < 8 → P n
below_8 P p q r s t u v w zero small = p
below_8 P p q r s t u v w (suc zero) small = q
below_8 P p q r s t u v w (suc (suc zero)) small = r
below_8 P p q r s t u v w (suc (suc (suc zero))) small = s
below_8 P p q r s t u v w (suc (suc (suc (suc n)))) small =
    below_4 (λ n. P (suc (suc (suc (suc n))))) t u v w n (omega arith)

-- a length that is short
short : (n m : ℕ) → n ≡ m → m ≤ longest_body → n ≤ longest_body
short n m is small = omega arith

pub tick_is_short : weight_of asks.Tick ≤ longest_body
unfolding request_data
tick_is_short = short (weight_of asks.Tick) 2 refl (omega arith)

query_length : (n : ℕ) → n < 8 → weight_of (asks.Query Activity (acting (activity_action n) no_flags) false) ≡ 45
unfolding request_data query_data intent_data escape_byte digits
query_length = below_8 (λ n. weight_of (asks.Query Activity (acting (activity_action n) no_flags) false) ≡ 45) refl refl
    refl refl refl refl refl refl

pub query_is_short : (n : ℕ) → n < 8 → weight_of (asks.Query Activity (acting (activity_action n) no_flags) false) ≤
    longest_body
query_is_short n small = short _ 45 (query_length n small) (omega arith)

start_length : (n : ℕ) → n < 8 → weight_of (asks.Start (acting (activity_action n) new_task) None) ≡ 48
unfolding request_data start_data intent_data escape_byte digits
start_length = below_8 (λ n. weight_of (asks.Start (acting (activity_action n) new_task) None) ≡ 48) refl refl refl refl
    refl refl refl refl

pub start_is_short : (n : ℕ) → n < 8 → weight_of (asks.Start (acting (activity_action n) new_task) None) ≤ longest_body
start_is_short n small = short _ 48 (start_length n small) (omega arith)

send_length : (n : ℕ) → n < 4 → weight_of (asks.Send (acting (broadcast_action n) no_flags) None (Some in_order)) ≡ 42
unfolding request_data send_data intent_data with_ordered with_outcome escape_byte digits
send_length = below_4 (λ n. weight_of (asks.Send (acting (broadcast_action n) no_flags) None (Some in_order)) ≡ 42) refl
    refl refl refl

pub send_is_short : (n : ℕ) → n < 4 → weight_of (asks.Send (acting (broadcast_action n) no_flags) None (Some in_order))
    ≤ longest_body
send_is_short n small = short _ 42 (send_length n small) (omega arith)
