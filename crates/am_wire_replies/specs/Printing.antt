-- The tokens of a JSON text.
use Rattle.std.specs.Prelude.{List}
use Rattle.json.specs.Token.{Token}
use Rattle.json.specs.Tree.{json_tokens, items_tokens, members_tokens}
use Rattle.serde_json.specs.Data.{Data, Members}
use Rattle.serde_json.specs.View.{items_of}
use Rattle.serde_json.specs.Written.{outline, items_outline, members_outline}

-- the tokens of a value; its compact text is their print
abbrev pub tokens_of : Data → List Token
tokens_of value = json_tokens (outline value)

-- the tokens of these items of an array, and of the bracket that closes it
abbrev pub tokens_of_items : List Data → List Token
tokens_of_items values = items_tokens (items_outline (items_of values))

-- the tokens of these members of an object, and of the bracket that closes it
abbrev pub tokens_of_members : Members → List Token
tokens_of_members members = members_tokens (members_outline members)
