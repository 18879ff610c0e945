-- The statuses of all replies have phrases.
use Rattle.std.proofs.Common.{refl}
use Rattle.am_types.specs.declared.reply.Reply.{Reply}
use Rattle.am_types.specs.declared.reply.Reply.TheVariants as says
use Rattle.am_types.specs.declared.rule.Rule.{Rule}
use Rattle.am_types.specs.declared.rule.Rule.TheVariants as rules
use Rattle.am_wire_values.specs.Replies.{status_of}
use Rattle.am_http.specs.Responses.{HasPhrase}

-- the rules have statuses with phrases
rule_has_a_phrase : (rule : Rule) → HasPhrase (status_of (says.Refused rule))
rule_has_a_phrase rules.UnknownKey = refl
rule_has_a_phrase rule = refl

-- and so have all replies
pub every_status_has_a_phrase : (reply : Reply) → HasPhrase (status_of reply)
every_status_has_a_phrase (says.Refused rule) = rule_has_a_phrase rule
every_status_has_a_phrase reply = refl
