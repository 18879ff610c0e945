-- `with` makes a value of no bytes, of the device and the rows that it is lent. It reads nothing of them.
use Rattle.std.proofs.Common.{List, [], ◌∷◌, refl}
use Rattle.std.proofs.raw_atomic.Walks.{proved}
use mir.Syntax.{named}
use mir.Val.{Val, vptr, vstruct, vnil}
use types.Kit.{‵, raw, ◌⊛◌, ◌$◌, ◌∵◌, !, qed, move, keep, split, feq_i, fjoin, fpack, suffices, done}
use types.Part.{agg}
use types.Run.{enter, returns, no_more}
use types.ByLocal.{alloc_all, pass_all, free_all, look_at, sets}
use denote.Exit.{yes}
use denote.RattleType.{Valss, owns}
use denote.Builtin.{RefOf}
use denote.Ref.{shr_vals, shr_Tells}
use denote.Signature.{plain, types_at}
use denote.Steps.{nothing}
use denote.Struct.Struct.{within}
use denote.Triple.Entry.{alive}
use denote.Triple.Walked.{says, Stays, stay_dropped, Goes-dropped, walk_of, ends_at}
use Rattle.am_types.specs.contracts.device.Device as Device
use Rattle.am_keeper.specs.contracts.rows.Rows as Rows
use Rattle.am_machine.specs.contracts.opened.Opened as Opened
use Rattle.am_machine.specs.contracts.opened.Opened.with as f
use Rattle.am_machine.proofs.opened.Opened.with.Statement.{statement}
use Rattle.am_machine.proofs.opened.Opened.with.Code as code

abbrev stayed : Stays f.ended.signature.params f.ended.kept
stayed = (stay_dropped _ yes, (stay_dropped _ yes, tt))

-- the value of no bytes
abbrev empty : Val
empty = vstruct vnil

pub with_spec : {M : Type 1} → statement M
with_spec 𝓤 𝓛 𝓜 𝓡 wired =
    let c = f.clauses 𝓛 𝓜.mem 𝓡.returns in
    let W = walk_of 𝓛 f.ended stayed c in
    proved 𝓛 f.ended stayed c 𝓜 𝓡 (
      Goes-dropped 𝓛 2 (RefOf (0 ∷ []) tt (plain (λ _. Device.the_row)) (λ _. tt)) yes (λ κs x w. refl),
      (Goes-dropped 𝓛 2 (RefOf (1 ∷ []) tt (plain (λ _. Rows.the_row)) (λ _. tt)) yes (λ κs x w. refl), tt),
    )
    f.Key.name code.function (code.unfolded 𝓤 𝓛.H 𝓜 𝓡 wired)
    (λ κs. (shr_vals, (shr_vals, tt))) (λ κs. (
      shr_Tells (named 0) κs.0 Device.the_row,
      (shr_Tells (named 1) κs.1.0 Rows.the_row, tt),
    )) (λ κs qs bounds a g are.
    let device : Val = vptr a.0.ref_ptr.0 a.0.ref_ptr.1 in
    let rows : Val = vptr a.1.0.ref_ptr.0 a.1.0.ref_ptr.1 in
    let made : Opened.the_row.Denot = record { device = a.0.now; rows = a.1.0.now } in
    let y : W.Ghost = ((κs, qs, bounds, a, (device ∷ [], (rows ∷ [], tt))), g) in
    qed 𝓛 ((raw (alive 𝓛 f.signature κs qs) ⊛ ‵ (owns (types_at f.signature.params κs) a y.0.4))
    ∷ raw ((c κs a).requires g) ∷ []) ∵ keep ! (0 ∷ []) $
    split ! $ keep ! (0 ∷ []) $
    enter ! _ _ _ _ _ $ alloc_all ! (λ l. pass_all ! refl ((tt, tt), ((tt, tt), tt)) $
    sets ! (agg ! (no_more !)) refl (tt, tt) $
    nothing ! $ nothing ! $ feq_i ! (List Val) (empty ∷ []) (empty ∷ []) refl $ fjoin ! $
    fpack ! (Valss []) (within (record { name = []; args = []; types = []; fields = [] }) tt (empty ∷ [])) tt $ fjoin !
    $
    returns ! (look_at ! 0 refl) $ free_all ! refl $
    suffices ! _ (ends_at 𝓛 f.ended stayed c y empty made (tt, (tt, tt)) (tt, (tt, tt))) $ says ! (refl, refl) $
    nothing ! $ nothing ! $ fjoin ! $ nothing ! $ fjoin ! $ move ! (2 ∷ 0 ∷ 1 ∷ []) $ done !))
