-- What the code asks, as the definitions see it.
use Rattle.std.specs.Prelude.{option_copied}
use Rattle.am_model.specs.Accounts as accounts
use Rattle.am_explain.specs.declared.asking.Question.{Question}

-- the question that is asked
abbrev pub question_of : Question → accounts.Question
question_of asked = record {
  caller = asked.caller;
  kind = asked.kind;
  intent = asked.intent.now;
  required = option_copied asked.permission;
}
