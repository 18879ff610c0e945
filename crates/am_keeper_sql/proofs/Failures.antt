-- Why the texts may fail: for memory, or since the disk had a fault.
use Rattle.std.specs.Prelude.{IsSome, IsUtf8, nat_lt}
use Rattle.std.specs.Str.{IsAscii}
use Rattle.std.proofs.lemmas.Nat.Bits.{bit_at-zero}
use Rattle.std.specs.List.{list_all}
use Rattle.std.proofs.lemmas.Bool.{and_parts}
use Rattle.std.proofs.lemmas.Bool.Decides.{nat_tests}
use Rattle.std.proofs.Common.{◌≡◌, inl, inr, ℕ, zero, suc, ◌+◌, ◌*◌, ◌^◌, ◌≤◌, true, false, true≢false, List, [], ◌∷◌, length, codes, Option, Some, None, Result, Ok, Err, IfOk, IfErr, IsTrue, refl, sym, ap, subst, subst₂, ◌∙◌, arith}
use Rattle.std.proofs.lemmas.Str.{IsUtf8-from_ascii}
use Rattle.sqlite_disk.specs.Disk.{MoreFaults}
use Rattle.sqlite_schema.specs.Names.{same_name}
use Rattle.sqlite_trees.specs.declared.error.StoreError.TheVariants as cause
use Rattle.sqlite_resolve.specs.declared.compiled.Compiled.{Compiled}
use Rattle.sqlite_resolve.specs.declared.error.CompileError.{CompileError}
use Rattle.sqlite_catalog.specs.declared.error.Refusal.{Refusal}
use Rattle.sqlite_catalog.specs.declared.error.Refusal.TheVariants as why
use Rattle.sqlite_catalog.specs.Calls.{RefusesTable}
use Rattle.sqlite_catalog.specs.Change.{is_used, is_reserved, next_tree, created}
use Rattle.sqlite_catalog.specs.Listing.{is_formed, is_fit}
use Rattle.sqlite_schema.specs.Rules.{table_reals, index_reals}
use Rattle.sqlite_rules.specs.Lists.{Has}
use Rattle.sqlite.specs.declared.types.Value.TheVariants.{Text}
use Rattle.sqlite_typing.specs.Types.{accepts_program}
use Rattle.sqlite_trees.specs.Sound.{fits_kind, is_free_name, same_name as same_word, begins}
use Rattle.sqlite_value.specs.Order.{value_cmp}
use Rattle.sqlite.specs.declared.error.Error.{Error}
use Rattle.sqlite.specs.declared.run.Mode.{Mode}
use Rattle.sqlite.specs.Compile.{table_defined_by}
use Rattle.sqlite.specs.Command.TheVariants.{CreateTable}
use Rattle.sqlite.specs.Order.{Row}
use Rattle.sqlite.specs.Table.{Table}
use Rattle.sqlite.specs.Effect.{Database, RefusesToRead, RefusesQuery}
use Rattle.sqlite.specs.Does.{Does, MakesTable, lacks_sequence}
use Rattle.sqlite.specs.Clock.{timed}
use Rattle.sqlite.specs.Listing.{understood, reads_listing, IsSourceOf}
use Rattle.sqlite.specs.State.{State, Survives, Fails, IsNoStatement, IsNotRun, Executes, ExecutesIn, RunsCommand, IsMisplaced, shows_rows, text_of, mode_of, FailsToQuery, FailsToShow}
use Rattle.sqlite.proofs.Callers.{IsPlain, command_of, statement_of}
use Rattle.sqlite_tied.specs.Compute.{everything}
use Rattle.am_keeper_sql.specs.Table.{kept, kept_schema, no_schema}
use Rattle.am_keeper_sql.specs.Failing.{Lasts, FailsOnly}
use Rattle.am_keeper_sql.proofs.Texts.{create_text, create_is, create_plain, select_text, select_is, select_plain, select_query}

-- ---- what every call keeps

pub lasts_of : (old new : State) (P : _) → Survives old new P → Lasts old new
lasts_of old new P s = record {
  clean = λ clean. omega (arith, s.clean, clean);
  counts = s.counts;
  limit = s.limit;
  closes = s.closes;
}

pub lasts_same : (s : State) → Lasts s s
lasts_same s = record { clean = λ clean. clean; counts = omega arith; limit = refl; closes = λ clean live. inl live }

-- of an error whose cause is shown for each that there may be
pub each_error : {T E : Type 0} (r : Result T E) {P : E → Type 0} → ((e : E) → r ≡ Err e → P e) → IfErr r P
each_error (Ok x) by = tt
each_error (Err e) by = by e refl

pub each_value : {T E : Type 0} (r : Result T E) {P Q : T → Type 0} → ((x : T) → P x → Q x) → IfOk r P → IfOk r Q
each_value (Ok x) by h = by x h
each_value (Err e) by h = tt

-- more faults stay more
pub more_then : (a b c : ℕ) → MoreFaults a b → b ≤ c → MoreFaults a c
more_then a b c h k = omega (arith, h, k)

pub then_more : (a b c : ℕ) → a ≤ b → MoreFaults b c → MoreFaults a c
then_more a b c h k = grind (arith, h, k)

pub lasts_then : (a b c : State) → Lasts a b → Lasts b c → Lasts a c
lasts_then a b c p q = record {
  clean = λ clean. p.clean (q.clean clean);
  counts = omega (arith, p.counts, q.counts);
  limit = q.limit ∙ p.limit;
  closes = λ clean live. elim (p.closes (q.clean clean) live) [
    | inl open' ↦ elim (q.closes clean open') [
      | inl still ↦ inl still
      | inr more ↦ inr
          (then_more a.faults b.faults c.faults p.counts more)
    ]
    | inr more ↦ inr (more_then a.faults b.faults c.faults more q.counts)
  ];
}

-- ---- a statement that isn't refused

-- the text is one statement of so many parameters, and doesn't read the time
abbrev pub IsOne : List ℕ → ℕ → Result Compiled CompileError → Type 0
IsOne sql count (Ok c) = (length sql ≤ c.tail) × (count ≡ length c.names) × (c.formats ≡ [])
IsOne sql count (Err e) = ⊥

pub create_one : IsOne create_text 0 (understood no_schema create_text)
unfolding understood everything
create_one = (omega arith, refl, refl)

pub select_one : IsOne select_text 0 (understood kept_schema select_text)
unfolding understood everything
select_one = (omega arith, refl, refl)

module _ (old new : State) (e : Error) (live : IsTrue old.is_open) where
  pub by_store : {TooBig : Type 0} → (TooBig → ⊥) → Fails old new TooBig e → FailsOnly old new e
  by_store never (cause.OutOfMemory, is, h, rolled, told) = inl is
  by_store never (cause.Io, is, h, rolled, told) = inr h
  by_store never (cause.Corrupt, is, h, rolled, told) = inr h
  by_store never (cause.Full, is, h, rolled, told) = inr h
  by_store never (cause.Broken, is, h, rolled, told) = absurd (true≢false (sym live ∙ h))
  by_store never (cause.Unstorable, is, h, rolled, told) = absurd (never h)

  not_refused : (sql : List ℕ) (given : Row) → IsOne sql (length given) (understood old.now.schema sql)
      → IsNoStatement old sql given e → ⊥
  not_refused sql given one (inl (fault, is, named)) = subst (IsOne sql (length given)) is one
  not_refused sql given one (inr (c, is, inl (long, named))) = long (subst (IsOne sql (length given)) is one).0
  not_refused sql given one (inr (c, is, inr (inl (other, named)))) = other (subst (IsOne sql (length given)) is one).1
  not_refused sql given one (inr (c, is, inr (inr (clock, named)))) = clock (subst (IsOne sql (length given)) is one).2

  pub unrun : (sql : List ℕ) (given : Row) → IsOne sql (length given) (understood old.now.schema sql)
      → IsNotRun old new sql given e → FailsOnly old new e
  unfolding IsNotRun
  unrun sql given one (inl h) = absurd (not_refused sql given one h.0)
  unrun sql given one (inr h) = by_store (λ x. x) h

-- ---- the selection

pub select_accepted : accepts_program kept_schema [] select_query [] ≡ true
select_accepted = refl

never_read : (db : Database) (limit : Option ℕ) (e : Error) → db.schema ≡ kept_schema → limit ≡ None
    → RefusesToRead limit (command_of (understood kept_schema select_text)) db [] e → ⊥
never_read db limit e has none h = by (subst (λ k. RefusesToRead limit k db [] e) select_is.0 h)
  where
    by : RefusesQuery limit db (record { lets = []; body = select_query }) [] e → ⊥
    by (inl (named, refused)) = true≢false (sym select_accepted ∙ subst
        (λ s. accepts_program s [] select_query [] ≡ false) has refused)
    by (inr (inl (named, inl group))) = group
    by (inr (inl (named, inr (k, x, low, same, never)))) = never
    by (inr (inr (named, limited))) = absurd (let e = subst IsSome none limited in cc)

pub select_fails : (old new : State) (e : Error) → old.now.schema ≡ kept_schema → IsTrue old.is_open → old.step_limit
    ≡ None → FailsToQuery select_text [] old new e → FailsOnly old new e
unfolding FailsToQuery
select_fails old new e has live none (inl not) = unrun old new e live select_text []
    (subst (λ s. IsOne select_text 0 (understood s select_text)) (sym has) select_one) not
select_fails old new e has live none (inr (c, it, shows)) =
    let known : Ok c ≡ understood kept_schema select_text = sym it.is ∙ ap (λ s. understood s select_text) has in
    let bare = subst IsPlain (sym known) select_plain in
    let params : timed [] c.formats it.now ≡ [] = ap (λ formats. timed [] formats it.now) bare.1 in
    let it' = subst (FailsToShow old new select_text c (timed [] c.formats it.now) e) bare.0 shows in
    let db : it'.0 ≡ old.now = subst (λ b. IsSourceOf b old.now it'.0)
    (ap (λ s. reads_listing s select_text) has ∙ select_is.1) it'.1 in
    let read : RefusesToRead old.step_limit (command_of (understood kept_schema select_text)) it'.0 [] e =
    subst₂ (λ k given. RefusesToRead old.step_limit k it'.0 given e) (ap command_of known) params it'.2 in
    absurd (never_read it'.0 old.step_limit e (ap (λ (d : Database). d.schema) db ∙ has) none read)

-- ---- the making of the table

abbrev pub Silent : Result Compiled CompileError → Type 0
Silent (Ok c) = shows_rows false c ≡ false
Silent (Err e) = ⊥

create_silent : Silent (understood no_schema create_text)
unfolding understood everything
create_silent = refl

ascii : (bytes : List ℕ) → list_all (λ b. nat_lt b 128) bytes ≡ true → IsAscii bytes
ascii [] h i = omega arith
ascii (b ∷ bytes) h zero = let low = (and_parts (nat_lt b 128) (list_all (λ x. nat_lt x 128) bytes) h).0 in grind
    (arith, nat_tests, low)
ascii (b ∷ bytes) h (suc i) = ascii bytes (and_parts (nat_lt b 128) (list_all (λ x. nat_lt x 128) bytes) h).1 i

create_utf8 : IsUtf8 create_text
create_utf8 = IsUtf8-from_ascii create_text (ascii create_text refl)

name_utf8 : IsUtf8 kept.name
name_utf8 = IsUtf8-from_ascii kept.name (ascii kept.name refl)

not_reserved : is_reserved kept.name ≡ false
unfolding same_name
not_reserved = refl

fitting : is_fit (Text (codes "table")) (Text kept.name) (Text kept.name) (Text create_text) ≡ true
unfolding fits_kind is_free_name same_word value_cmp begins lib.Ieee.is_nan lib.Ieee.lt
fitting = refl

no_reals : index_reals (table_reals kept) (1 ∷ 2 ∷ 3 ∷ []) ≡ 0
no_reals = rw (bit_at-zero 1, bit_at-zero 2, bit_at-zero 3)

same_kept : (table : Table) → table_defined_by create_text ≡ Ok table → table ≡ kept
same_kept table defined = let both : Ok table ≡ Ok kept = sym defined ∙ create_is.2 in cc

unused : (name : List ℕ) → is_used no_schema name ≡ true → ⊥
unused name used = true≢false (sym used)

not_refusing : (reason : Refusal) → RefusesTable no_schema create_text reason → ⊥
not_refusing (why.Invalid e) h = absurd (let both = sym h ∙ create_is.2 in cc)
not_refusing why.NameTaken (table, defined, inl used) = unused table.name used
not_refusing why.NameTaken (table, defined, inr (index, there, used)) = unused index.name used
not_refusing why.BadName (table, defined, inl odd) = odd (subst (λ (t : Table). IsUtf8 t.name)
    (sym (same_kept table defined)) name_utf8)
not_refusing why.BadName (table, defined, inr (reserved, own)) = true≢false
    (sym (subst (λ (t : Table). is_reserved t.name ≡ true) (same_kept table defined) reserved) ∙ not_reserved)
not_refusing why.TooBig (table, defined, inl many) = (let few = subst
    (λ (t : Table). 65536 ≤ next_tree no_schema + length t.uniques) (same_kept table defined) many in omega
    (arith, few))
not_refusing why.TooBig (table, defined, inr (inl big)) = (let few = subst (λ (t : Table). 2 ^ 64 ≤ table_reals t)
    (same_kept table defined) big in omega (arith, few))
not_refusing why.TooBig (table, defined, inr (inr (key, there, big))) = few
    (subst (λ (t : Table). Has t.uniques key × (2 ^ 64 ≤ index_reals (table_reals t) key)) (same_kept table defined)
    (there, big))
  where
    few : Has kept.uniques key × (2 ^ 64 ≤ index_reals (table_reals kept) key) → ⊥
    few (inl is, big) = (let small = subst (λ k. 2 ^ 64 ≤ index_reals (table_reals kept) k) is big in omega
        (arith, small, no_reals))
    few (inr never, big) = never
not_refusing why.BadKey (table, defined, unformed) = true≢false (subst (λ t. is_formed t ≡ false)
    (same_kept table defined) unformed)
not_refusing why.BadText (table, defined, unfit) =
    true≢false (sym fitting ∙ subst (λ (t : Table). is_fit (Text (codes "table")) (Text t.name) (Text t.name)
    (Text create_text) ≡ false) (same_kept table defined) unfit)
not_refusing (why.Violates rule) h = h

-- it is none of the commands on transactions
unmisplaced : (old : State) (e : Error) → IsMisplaced old CreateTable e → ⊥
unmisplaced old e (inl (named, inl (begin, h))) = absurd (let e = begin in cc)
unmisplaced old e (inl (named, inr (inl commit, h))) = absurd (let e = commit in cc)
unmisplaced old e (inl (named, inr (inr rollback, h))) = absurd (let e = rollback in cc)
unmisplaced old e (inr (named, name, inl release, h)) = absurd (let e = release in cc)
unmisplaced old e (inr (named, name, inr back, h)) = absurd (let e = back in cc)

never_makes : (db : Database) (stop : Option Error) → db.schema ≡ no_schema → MakesTable create_text db (Err stop) → ⊥
never_makes db None has (table, defined, long) =
    (let short = subst (λ (t : Table). 10 ^ 9 ≤ 2 * length t.name + length create_text + 200) (same_kept table defined)
    long in omega (arith, short))
never_makes db (Some e) has (inl (odd, named)) = odd create_utf8
never_makes db (Some e) has (inr (reason, refuses, named)) = not_refusing reason
    (subst (λ s. RefusesTable s create_text reason) has refuses)

never_does : (limit : Option ℕ) (mode : Mode) (params : Row) (db : Database) (stop : Option Error) → db.schema
    ≡ no_schema → Does limit mode params db create_text None CreateTable (Err stop) → ⊥
never_does limit mode params db stop has (inl (halt, inl (first, makes, is), same)) = never_makes db first has makes
never_does limit mode params db stop has (inl (halt, inr (after, made, counted), same)) =
    let schema : after.schema ≡ kept_schema = made.is ∙ ap (λ s. created s made.table) has
    ∙ ap (created no_schema) (same_kept made.table made.defined) in
    let plain : lacks_sequence after.schema ≡ false = ap lacks_sequence schema in
    absurd (let e = rw plain at counted in cc)
never_does limit mode params db stop has (inr (after, made, gives)) = absurd (let e = gives in cc)

pub create_fails : (old new : State) (e : Error) → old.now.schema ≡ no_schema → IsTrue old.is_open
    → Executes create_text [] old new (Err e) → FailsOnly old new e
unfolding ExecutesIn
create_fails old new e has live (inl not) = unrun old new e live create_text []
    (subst (λ s. IsOne create_text 0 (understood s create_text)) (sym has) create_one) not
create_fails old new e has live (inr (c, it, ran)) =
    let known : Ok c ≡ understood no_schema create_text = sym it.is ∙ ap (λ s. understood s create_text) has in
    let bare = subst IsPlain (sym known) create_plain in
    let silent : shows_rows false c ≡ false = subst Silent (sym known) create_silent in
    let params = timed [] c.formats it.now in
    let command : c.command ≡ CreateTable = ap command_of known ∙ create_is.0 in
    let text : text_of create_text c ≡ create_text = ap (statement_of create_text) known ∙ create_is.1 in
    let never = λ (stop : Option Error) (h : Does old.step_limit (mode_of old) params old.now (text_of create_text c)
    c.returning c.command (Err stop)).
    never_does old.step_limit (mode_of old) params old.now stop has
    (subst₂ (λ t k. Does old.step_limit (mode_of old) params old.now t None k (Err stop)) text command
    (subst (λ returning. Does old.step_limit (mode_of old) params old.now (text_of create_text c) returning c.command
    (Err stop)) bare.0 h)) in
    let it' : RunsCommand old new create_text c params (Err e) = rw silent at ran in
    elim it' [
      | inl (inl misplaced, same) ↦ absurd (unmisplaced old e (subst (λ k. IsMisplaced old k e) command misplaced))
      | inl (inr (may, does), same) ↦ absurd (never (Some e) does)
      | inr fails ↦ by_store old new e live (never None) fails
    ]
