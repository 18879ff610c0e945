use Rattle.am_wire_values.specs.Replies.{reply_data}
use Rattle.am_wire_replies.proofs.replies.print_reply.Goals as goal

pub returns-in-Components : goal.returns-in-Components
unfolding reply_data
returns-in-Components c = rw c.in-Components.is c.print_fields.ensures

pub returns-in-Started : goal.returns-in-Started
unfolding reply_data
returns-in-Started c = rw c.in-Started.is c.print_fields-in-Started.ensures

pub returns-in-Sent : goal.returns-in-Sent
unfolding reply_data
returns-in-Sent c = rw c.in-Sent.is c.print_fields-in-Sent.ensures
