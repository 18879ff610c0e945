use Rattle.std.proofs.Common.{sym, subst}
use Rattle.std.specs.Str.{IsCharBoundary}
use Rattle.am_model.specs.Uris.{phone_ends_authority}
use Rattle.am_uri.proofs.Cuts.{IsCharBoundary-position}
use Rattle.am_uri.proofs.Ends.{phone_ends_authority-ascii}
use Rattle.am_uri.proofs.phone.split_authority.Goals as goal

pub split_at-requires : goal.split_at-requires
split_at-requires c = subst (IsCharBoundary c.in_ok-behind.behind.now) (sym c.authority_len.ensures)
    (IsCharBoundary-position phone_ends_authority c.in_ok-behind.behind.now phone_ends_authority-ascii)
