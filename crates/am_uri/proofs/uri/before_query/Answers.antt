use Rattle.std.proofs.Common.{sym, subst}
use Rattle.std.specs.Str.{IsCharBoundary}
use Rattle.am_model.specs.Uris.{ends_path}
use Rattle.am_uri.proofs.Cuts.{IsCharBoundary-position}
use Rattle.am_uri.proofs.Ends.{ends_path-ascii}
use Rattle.am_uri.proofs.uri.before_query.Goals as goal

pub range-requires-clause-end_boundary : goal.range-requires-clause-end_boundary
range-requires-clause-end_boundary c = subst (IsCharBoundary c.args.text.now) (sym c.path_len.ensures)
    (IsCharBoundary-position ends_path c.args.text.now ends_path-ascii)
