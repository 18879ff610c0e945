use Rattle.std.proofs.Common.{◌≡◌, ◌-◌, true, sym, ap, ◌∙◌, nat_le, length, map, not, ◌&&◌}
use Rattle.std.specs.List.{list_all}
use Rattle.std.specs.Char.{is_ascii_digit}
use Rattle.std.specs.Int.Digits.{number_from_digits}
use Rattle.am_model.specs.Filters.{is_empty}
use Rattle.am_links.proofs.Octets.{octet_read}
use Rattle.am_links.proofs.domain.is_octet.Goals as goal

pub returns-then-is_short_number : goal.returns-then-is_short_number
returns-then-is_short_number c =
    let part = c.args.part.now in
    let short : ((not (is_empty part) && nat_le (length part) 3) && list_all is_ascii_digit part) ≡ true =
    sym c.if-is_short_number.ensures in
    c.is_ok.ensures.value
    ∙ octet_read part c.parse.result c.parse.ensures.value.0 short
    ∙ sym (ap (λ b. b && nat_le (number_from_digits 10 (map (λ b. b - 48) part)) 255) short)
