use Rattle.std.proofs.Common.{◌≡◌, ℕ, List, length, true, false, subst, sym, ◌∙◌}
use Rattle.am_frames.specs.declared.frame.Found.{Found}
use Rattle.am_frames.specs.Framing.{IsFraming}
use Rattle.am_frames.specs.FrameSpans.{outcome_at, IsFoundWithin}
use Rattle.am_http.specs.Sessions.{IsPartial}
use Rattle.am_http.specs.Windows.{is_open}
use Rattle.am_http.proofs.NextLemmas.{wanting_partial, partial_fits, finds_closed, finds_end, on_err}
use Rattle.am_http.proofs.reader.look.Goals as goal

-- what was found of the window's bytes was found of the window
in_window : (w now : List ℕ) (found : Found) → w ≡ now → IsFraming w (outcome_at w found)
    → IsFraming now (outcome_at now found)
in_window w now found same h = subst (λ (xs : List ℕ). IsFraming xs (outcome_at xs found)) same h

within_window : (w now : List ℕ) (found : Found) → w ≡ now → IsFoundWithin (length w) found
    → IsFoundWithin (length now) found
within_window w now found same h = subst (λ (xs : List ℕ). IsFoundWithin (length xs) found) same h

pub returns-then-not-wants_more-clause-found : goal.returns-then-not-wants_more-clause-found
returns-then-not-wants_more-clause-found g c =
    let found = c.find_frame-found.result in
    let closed : is_open found ≡ false = sym c.if-not-wants_more.ensures in
    finds_closed c.args.window.now (g.S.Source.left c.args.source.now) found
    (in_window _ _ found c.bytes.ensures.bytes c.find_frame-found.ensures.framing)
    (within_window _ _ found c.bytes.ensures.bytes c.find_frame-found.ensures.within)
    closed

pub fill-requires : goal.fill-requires
fill-requires g c =
    let found = c.find_frame-found.result in
    let wanting : is_open found ≡ true = sym c.if-not-wants_more.ensures in
    partial_fits c.args.window.now
    (wanting_partial c.args.window.now found (in_window _ _ found c.bytes.ensures.bytes
    c.find_frame-found.ensures.framing) wanting)

pub returns-in_err-count-clause-partial : goal.returns-in_err-count-clause-partial
returns-in_err-count-clause-partial g c =
    let found = c.find_frame-found.result in
    let wanting : is_open found ≡ true = sym c.if-not-wants_more.ensures in
    let before : IsPartial c.args.window.now =
    wanting_partial c.args.window.now found (in_window _ _ found c.bytes.ensures.bytes
    c.find_frame-found.ensures.framing) wanting in
    on_err c.from_residual.result (subst (λ (w : List ℕ). IsPartial w) (sym c.in_err-count.ensures.fills.0) before)

pub returns-then-count-eq0-clause-found : goal.returns-then-count-eq0-clause-found
returns-then-count-eq0-clause-found g c =
    let found = c.find_frame-found.result in
    let fills = c.in_ok-count.ensures.fills in
    finds_end c.args.window.now c.fill.new.self fills.0 (g.S.Source.left c.fill.new.source) found fills.2
    (fills.1 ∙ c.if-count-eq0.true)
    (in_window _ _ found c.bytes.ensures.bytes c.find_frame-found.ensures.framing)
    (within_window _ _ found c.bytes.ensures.bytes c.find_frame-found.ensures.within)
    (fills.4 c.if-count-eq0.true)
