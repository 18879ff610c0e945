use Rattle.std.proofs.Common.{◌≡◌, ◌∙◌, ◌+◌, ◌++◌, ◌∷◌, [], List, None, Some, ap, cond, option_map, subst, sym}
use Rattle.am_model.specs.Pendings.{Pending, Pendings, fresh, without_token}
use Rattle.am_pending.specs.declared.key.Key.{Key}
use Rattle.am_pending.specs.declared.pendings.Pending.TheInside.{Inside}
use Rattle.am_pending.specs.Keys.{asked_by, is_same_key}
use Rattle.am_pending.specs.Records.{IsIndexed, Kept, count_at, pending_of, record_in, token_at, token_in}
use Rattle.am_pending.proofs.Indexing.{gone, key_of, one_gone, replaced, replaced_has, replaced_view, the_gone}
use Rattle.am_pending.proofs.pendings.Pending.replace.Goals as goal
use Rattle.am_pending.proofs.pendings.Pending.replace.Given.{Over}
use Rattle.am_pending.proofs.pendings.Pending.replace.Goals.{After-take, in-Some, in_default}

module _ (g : Over) (c : After-take g) where
  has : token_in c.args.key c.self.inside.records ≡ Some c.args.old
  has = ap (λ (all : Pendings). token_in c.args.key all.records) c.self.view_is ∙ c.requires.found

  -- the records with the new one
  more : c.push.new.self ≡ c.self.inside.records ++ fresh c.self.inside.next (asked_by c.args.key) ∷ []
  more = c.in_ok-push.ensures.ok ∙ ap (λ kept. c.self.inside.records ++ pending_of c.self.inside.next kept ∷ [])
      c.new.ensures

  taken : option_map (pending_of c.args.old) c.take.result
      ≡ record_in c.args.old (c.self.inside.records ++ fresh c.self.inside.next (asked_by c.args.key) ∷ [])
  taken = c.take.ensures.found ∙ ap (record_in c.args.old) more

  -- and without the old one
  left : c.take.new.self
      ≡ without_token c.self.inside.records c.args.old ++ fresh c.self.inside.next (asked_by c.args.key) ∷ []
  left = c.take.ensures.others ∙ ap (λ (all : List Pending). without_token all c.args.old) more
      ∙ replaced_view c.self.inside.records (token_at c.self.inside.tokens.entries)
      (count_at c.self.inside.counts.entries) c.self.inside.next c.args.old c.args.key c.self.invariant has

  -- what was taken is the record with the key
  is_gone : (kept : Kept) → c.take.result ≡ Some kept → pending_of c.args.old kept
      ≡ gone c.self.inside.records (token_at c.self.inside.tokens.entries) (count_at c.self.inside.counts.entries)
      c.self.inside.next c.args.old c.args.key c.self.invariant has
  is_gone kept is =
      the_gone c.self.inside.records (token_at c.self.inside.tokens.entries) (count_at c.self.inside.counts.entries)
      c.self.inside.next c.args.old c.args.key c.self.invariant has (pending_of c.args.old kept)
      (ap (option_map (pending_of c.args.old)) (sym is) ∙ taken)

pub set_token-requires : goal.set_token-requires
set_token-requires g c none =
    let at = (goal.at.set_token-requires g c).After-take in
    let f = token_at c.self.inside.tokens.entries in
    let bad : Some c.args.old ≡ None =
    sym (replaced_has c.self.inside.records f (count_at c.self.inside.counts.entries) c.self.inside.next c.args.old
    c.args.key c.self.invariant (has g at))
    ∙ ap f (sym (ap key_of (is_gone g at c.in-Some.gone c.in-Some.is))) ∙ ap f (sym c.key.ensures) ∙ none in
    cc

pub invariant_of-self-2 : goal.invariant_of-self-2
invariant_of-self-2 g c =
    let at = (goal.at.invariant_of-self-2 g c).After-take in
    let f = token_at c.self.inside.tokens.entries in
    let counts = count_at c.self.inside.counts.entries in
    elim c.match-take.branch [
      | in-Some w ↦
          subst (λ (inside : Inside). IsIndexed inside.records (token_at inside.tokens.entries)
          (count_at inside.counts.entries) (inside.next + 1)) (sym w.self-inside-is)
          (subst (λ (all : List Pending). IsIndexed all (token_at w.set_token.new.tokens.entries) counts
          (c.self.inside.next + 1)) (sym (left g at))
          (replaced c.self.inside.records f counts c.self.inside.next c.args.old c.args.key c.self.invariant (has g at)
          (token_at w.set_token.new.tokens.entries)
          (λ other. w.set_token.ensures other
          ∙ ap (λ (k : Key). cond (is_same_key other k) (Some c.self.inside.next) (f other))
          (w.key.ensures ∙ ap key_of (is_gone g at w.in-Some.gone w.in-Some.is)))))
      | in_default w ↦
          absurd (one_gone c.self.inside.records f counts c.self.inside.next c.args.old c.args.key c.self.invariant
          (has g at) (ap (option_map (pending_of c.args.old)) (sym w.in_default.is) ∙ taken g at))
    ]

pub returns-clause-ok : goal.returns-clause-ok
returns-clause-ok g c =
    let kept = left g (goal.at.returns-clause-ok g c).After-take in
    elim c.match-take.branch [
      | in-Some w ↦ ap (λ (inside : Inside). let all : Pendings = record
          { records = inside.records; next = inside.next + 1 } in all) w.self-inside-is
      | in_default w ↦ ap (λ (inside : Inside). let all : Pendings = record
          { records = inside.records; next = inside.next + 1 } in all) w.self-inside-is
    ]
    ∙ (λ i. let all : Pendings = record { records = kept i; next = c.self.inside.next + 1 } in all)
    ∙ ap (λ (all : Pendings). let one : Pendings = record {
      records = without_token all.records c.args.old
          ++ fresh all.next (asked_by c.args.key) ∷ [];
      next = all.next + 1;
    } in one) c.self.view_is
