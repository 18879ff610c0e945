-- How the manager of a drill begins, and what its calls come to.
use Rattle.std.proofs.Common.{◌≡◌, ℕ, ◌*◌, List, [], length, Option, Some, None, sym, ap, ◌∙◌}
use Rattle.am_types.specs.declared.device.Device.{Device}
use Rattle.am_types.specs.declared.history.Entry.{Entry}
use Rattle.am_keeper.specs.Memory.{InMemory, fresh_keeper}
use Rattle.am_keeper.specs.declared.rows.Rows.{Rows}
use Rattle.am_keeper.specs.Rows.{no_rows}
use Rattle.am_history.specs.State.{State, opening}
use Rattle.am_drill.specs.declared.tally.Tally.{Tally}
use Rattle.am_drill.specs.Calls.{calls_of}
use Rattle.am_drill.specs.Devices.{device_of}
use Rattle.am_drill.specs.Draws.{after, seed}
use Rattle.am_drill.specs.Drills.{drilled, history_of, statuses_of, tally_of}

-- what the calls come to
pub drilled_so : (from packages requests : ℕ) (device : Device) (start : State) (seen after_all : List Entry)
    (draws : ℕ) (statuses : List ℕ)
    → start ≡ opening device → device ≡ device_of packages (seed from) → seen ≡ [] → draws
    ≡ after (4 * packages) (seed from)
    → statuses ≡ statuses_of start seen (calls_of packages requests draws)
    → after_all ≡ history_of start seen (calls_of packages requests draws)
    → ◌≡◌ {A = Tally} (record { statuses = statuses; history = length after_all }) (drilled from packages requests)
unfolding drilled
drilled_so from packages requests device start seen after_all draws statuses opens made none drawn statuses_are after_is
    =
    ap (λ (s : List ℕ). record { statuses = s; history = length after_all }) statuses_are
    ∙ ap (λ (h : List Entry). record {
      statuses = statuses_of start seen (calls_of packages requests draws);
      history =
          length h;
    }) after_is
    ∙ ap (λ (h : List Entry). record {
      statuses = statuses_of start h (calls_of packages requests draws);
      history =
          length (history_of start h (calls_of packages requests draws));
    }) none
    ∙ ap (λ (s : State). tally_of s (calls_of packages requests draws)) (opens ∙ ap opening made)
    ∙ ap (λ (d : ℕ). tally_of (opening (device_of packages (seed from))) (calls_of packages requests d)) drawn

-- a keeper that kept nothing tells no rows
pub tells_none : (keeper : InMemory) (kept told : Rows) (failing : List ℕ) → keeper ≡ fresh_keeper kept None failing
    → kept ≡ no_rows → ◌≡◌ {A = Option Rows} (Some keeper.told) (Some told) → no_rows ≡ told
tells_none keeper kept told failing fresh empty tells =
    let same : keeper.told ≡ told = some_is tells in
    sym empty ∙ sym (ap (λ (k : InMemory). k.told) fresh) ∙ same
  where
    some_is : {x y : Rows} → Some x ≡ Some y → x ≡ y
    some_is e = cc
