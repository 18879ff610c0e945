use Rattle.std.proofs.Common.{◌≡◌, true, false, Some, None, refl, sym, ◌∙◌, ap, arith}
use Rattle.std.specs.List.{list_all, after_last}
use Rattle.std.specs.Char.{is_ascii_digit}
use Rattle.am_model.specs.Uris.{is_colon, phone_has_port}
use Rattle.am_uri.proofs.Cuts.{split_last}
use Rattle.am_uri.proofs.phone.split_port.Goals.{in_default-via-in-Some+else-has_digits_alone, in_default-via-in_default}
use Rattle.am_uri.proofs.phone.split_port.Goals as goal

pub returns-in-Some-clause-value : goal.returns-in-Some-clause-value
returns-in-Some-clause-value c =
    let cut = split_last 58 c.args.authority.now (Some c.in-Some.cut) c.in-Some.ensures.cases (omega arith) in
    let some = cut.0 in
    let front = cut.1 in
    let back = cut.2 in
    let digits : list_all is_ascii_digit (after_last is_colon c.args.authority.now) ≡ true =
    ap (list_all is_ascii_digit) (sym back) ∙ sym c.if-has_digits_alone.ensures in
    let port : phone_has_port c.args.authority.now ≡ true = rw (some, digits) refl in
    rw port (cc)

pub returns-in_default-clause-value : goal.returns-in_default-clause-value
returns-in_default-clause-value c =
    let none : phone_has_port c.args.authority.now ≡ false = elim c.in_default.branch [
      | in_default-via-in-Some+else-has_digits_alone w ↦
          let cut = split_last 58 c.args.authority.now (Some w.in-Some.cut) w.in-Some.ensures.cases (omega arith) in
          let some = cut.0 in
          let digits : list_all is_ascii_digit (after_last is_colon c.args.authority.now) ≡ false =
          ap (list_all is_ascii_digit) (sym cut.2) ∙ sym w.has_digits_alone.ensures ∙ w.if-has_digits_alone.false in
          rw (some, digits) refl
      | in_default-via-in_default w ↦
          let none = (split_last 58 c.args.authority.now None w.in_default.ensures.cases (omega arith)).0 in rw none refl
    ] in
    rw none refl
