-- The tokens of values.
use Rattle.std.proofs.Common.{◌≡◌, ℤ, pos, negsuc, refl}
use Rattle.std.specs.Fmt.{signed_decimal}
use Rattle.json.specs.Print.{print}
use Rattle.serde_json.specs.Data.{Data}
use Rattle.serde_json.specs.Find.{of_integer}
use Rattle.serde_json.specs.Written.{compact_text, number_text}
use Rattle.serde_json.proofs.Texts.{print-outline}
use Rattle.am_wire_replies.specs.Printing.{tokens_of}

-- the compact text of a value is the print of its tokens
pub compact_print : (d : Data) → print (tokens_of d) ≡ compact_text d
compact_print d = print-outline d

-- the digits of a number that may be negative
pub whole_text : (n : ℤ) → number_text (of_integer n) ≡ signed_decimal n
whole_text (pos n) = refl
whole_text (negsuc n) = refl
