-- The command made only of options, as `clap` sees it.
use Rattle.std.specs.Prelude.{Bool, true, not, ◌||◌, List, [], map, Some, is_some, codes}
use Rattle.clap.specs.Words.{App, Rule, new_rule}
use Rattle.clap.specs.Simple.{new_shape}
use Rattle.clap.specs.declared.builder.action.ArgAction.TheVariants.{Set}
use Rattle.am_words.specs.Options.{Text, begins_with_hyphen, option_word}

-- the word is an option, or may be a value
abbrev pub is_fit : Text → Bool
is_fit word = not (begins_with_hyphen word) || is_some (option_word word)

-- an option with this name and one value
abbrev pub named_rule : Text → Rule
named_rule name = record (new_rule name) { long = Some name; action = Some Set }

-- a command of options with these names and nothing else
abbrev pub app_named : List Text → App
app_named names = record {
  top = record (new_shape (codes "am")) {
    rules = map named_rule names;
    no_binary_name = true;
    disable_help_flag = true;
  };
  subs = [];
}
