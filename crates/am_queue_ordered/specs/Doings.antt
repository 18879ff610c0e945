-- What a receiver did, and the outcome that it set.
use Rattle.am_model.specs.Broadcasts as broadcasts
use Rattle.am_queue_ordered.specs.declared.past.Doing.{Doing}
use Rattle.am_queue_ordered.specs.declared.past.Doing.TheVariants.{Answered, Late, Gone}

-- what a receiver did, in the model's terms
abbrev pub doing_of : Doing → broadcasts.Doing
doing_of (Answered answer) = broadcasts.Answered answer
doing_of Late = broadcasts.Late
doing_of Gone = broadcasts.Gone
