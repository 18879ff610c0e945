use Rattle.std.proofs.Common.{◌∙◌, refl}
use Rattle.am_types.specs.declared.device.RightKind.TheVariants.{Permission, Host}
use Rattle.am_keeper.specs.declared.rows.GrantRow.{GrantRow}
use Rattle.am_keeper.specs.declared.rows.LinkRow.{LinkRow}
use Rattle.am_model.specs.Rights.{grant_of, link_of, of_grant, of_link}
use Rattle.am_opening.specs.Merging.{is_live, of_grant_row, of_link_row}
use Rattle.am_opening.proofs.Follows.{made_of}
use Rattle.am_opening.proofs.completed.rights_after.Goals as goal

pub returns-clause-grants : goal.returns-clause-grants
returns-clause-grants c =
    c.in_ok-grants.ensures
    ∙ made_of of_grant grant_of (λ uid text. refl) of_grant_row (λ (row : GrantRow). row.held)
    (λ row. is_live Permission c.args.packages.now (of_grant_row row)) (λ grant. refl) c.args.grants.items
    c.args.rows.now.grants

pub returns-clause-links : goal.returns-clause-links
returns-clause-links c =
    c.in_ok-links.ensures
    ∙ made_of of_link link_of (λ uid text. refl) of_link_row (λ (row : LinkRow). row.approved)
    (λ row. is_live Host c.args.packages.now (of_link_row row)) (λ link. refl) c.args.links.items c.args.rows.now.links
