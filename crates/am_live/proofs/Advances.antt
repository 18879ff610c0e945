-- What a move of the moment comes to, by who asks for it and how far it is.
use Rattle.std.proofs.Common.{◌≡◌, ℕ, ◌+◌, ◌<◌, ◌≤◌, Bool, true, false, cond, sym, ap, ◌∙◌}
use Rattle.std.specs.Prelude.{nat_le}
use Rattle.std.proofs.lemmas.Bool.{le-leb, lt-leb}
use Rattle.am_types.specs.Bounds.{latest_moment}
use Rattle.am_types.specs.declared.reply.Reply.{Reply}
use Rattle.am_types.specs.declared.reply.Reply.TheVariants.{Refused}
use Rattle.am_types.specs.declared.rule.Rule.{Rule}
use Rattle.am_types.specs.declared.rule.Rule.TheVariants.{AdminOnly, OverLimit}
use Rattle.am_types.specs.declared.rule.Limit.TheVariants.{Moment}
use Rattle.am_model.specs.Gates.{is_privileged}
use Rattle.am_history.specs.Answers.{for_admin, refused}
use Rattle.am_history.specs.State.{State}
use Rattle.am_history.specs.Steps.{advance, advanced, at_moment}

module _ (old settled : State) (caller moment more : ℕ) (at : settled ≡ at_moment old moment) where
  abbrev then : State
  then = at_moment old moment

  refused_then : (rule : Rule) → refused then rule ≡ (Refused rule, settled)
  refused_then rule = ap (λ (s : State). refused s rule) (sym at)

  -- for others than the system and the root
  pub advance_refused : is_privileged caller ≡ false → for_admin then caller (advance then more)
      ≡ (Refused AdminOnly, settled)
  advance_refused other = ap (λ (b : Bool). cond b (advance then more) (refused then AdminOnly)) other
      ∙ refused_then AdminOnly

  admitted : is_privileged caller ≡ true → for_admin then caller (advance then more) ≡ advance then more
  admitted admin = ap (λ (b : Bool). cond b (advance then more) (refused then AdminOnly)) admin

  by_fit : (fits : Bool) → nat_le (moment + more) latest_moment ≡ fits
      → advance then more ≡ cond fits (advanced (at_moment then (moment + more))) (refused then (OverLimit Moment))
  unfolding advance
  by_fit fits is = ap (λ (b : Bool). cond b (advanced (at_moment then (moment + more)))
      (refused then (OverLimit Moment))) is

  -- too far
  pub advance_too_far : is_privileged caller ≡ true → latest_moment < moment + more
      → for_admin then caller (advance then more) ≡ (Refused (OverLimit Moment), settled)
  advance_too_far admin far =
      admitted admin ∙ by_fit false (lt-leb (moment + more) latest_moment far) ∙ refused_then (OverLimit Moment)

  -- to a moment that a history may have
  pub advance_moves : (ahead : ℕ) (reply : Reply) (new : State) → is_privileged caller ≡ true → ahead ≡ moment + more
      → ahead ≤ latest_moment
      → advanced (at_moment settled ahead) ≡ (reply, new) → for_admin then caller (advance then more) ≡ (reply, new)
  advance_moves ahead reply new admin is fits done =
      admitted admin
      ∙ by_fit true (ap (λ (m : ℕ). nat_le m latest_moment) (sym is) ∙ le-leb ahead latest_moment fits)
      ∙ ap (λ (m : ℕ). advanced (at_moment then m)) (sym is)
      ∙ ap (λ (s : State). advanced (at_moment s ahead)) (sym at)
      ∙ done
