-- An index that is there is seen: no database holds one and nothing of one, and what may be left of work is not all that there could be.
use Rattle.index.proofs.Words.{◌≡◌, ◌∙◌, ℕ, Bool, true, false, cond, List, [], ◌∷◌, Option, Some, None, Result, refl, sym, ap, subst, inl}
use Rattle.index.proofs.Words.{inr, get, ∥∥₁_elim, FileStore, Database, over_files, Image, Trees, opens_again, Ghosts, Schema, by_tables}
use Rattle.index.proofs.Words.{Call, Bytes, Tables, has_any_of, index_schema, IsCurrent, IsFound, AreCurrent, End, OpensAgain}
use Rattle.index.proofs.Words.{CrashLeavesOnlyTables, HoldsCurrent, HoldsNone, Task, DoesInPart, Done, DoneExchanges, DoneLines, DoneLook}
use Rattle.index.proofs.Words.{HasCall, IsDoneInPart, over}
use Rattle.std.proofs.Common.{◌||◌}
use Rattle.std.specs.List.{AllZip}
use Rattle.std.specs.FinMap.{insert, remove}
use Rattle.std.proofs.lemmas.Bool.{false≢true, true≢false}
use Rattle.sqlite_catalog.specs.Listing.{IsSound, IsTableRow}
use Rattle.sqlite_catalog.proofs.StepLemmas.{same_itself}
use Rattle.sqlite_schema.specs.Names.{same_name}
use Rattle.sqlite_schema.specs.declared.schema.Table.{Table}
use Rattle.sqlite_store.specs.FileStore as store
use Rattle.sqlite_value.specs.Order.{Row}
use Rattle.sqlite_value.specs.declared.value.Value.TheVariants.{Text}
use Rattle.index_names.specs.FileName as names
use Rattle.index_rules.specs.declared.answer.Refusal.TheVariants.{BadFileName}
use Rattle.index_rules.specs.declared.call.Request.{Request}
use Rattle.index_rules.specs.declared.call.Request.TheVariants.{BanFile}
use Rattle.index_rules.specs.Effect.{tables_with_call}
use Rattle.index_rules.specs.Facts.{facts_in}
use Rattle.index_rules.specs.Maps.{TextSet, same}
use Rattle.index_rules.specs.Requests.{read_file}
use Rattle.index_rules.specs.Verdict.{Accept, verdict_now}
use Rattle.index_rules.proofs.Accepted.{accepted}
use Rattle.index_rules.proofs.KeyLemmas.{cases_same, get-put, get-without, same-refl}
use Rattle.index_rules.proofs.PastReading.{read_itself}
use Rattle.index_sql_opening.specs.Names.{has_table}
use Rattle.index.proofs.DoneLemmas.{line_made, one_made}

-- ---- a list of objects has one first table

abbrev first_name : List Table → List ℕ
first_name [] = []
first_name (table ∷ tables) = table.name

abbrev has_first : List Table → Bool
has_first [] = false
has_first (table ∷ tables) = true

named_first : (rows : List Row) (one other : List Table) → has_first other ≡ true → AllZip IsTableRow rows one
    → AllZip IsTableRow rows other
    → (has_first one ≡ true) × (first_name one ≡ first_name other)
named_first rows one [] some are are' = absurd (true≢false (sym some))
named_first [] one (b ∷ others) some are are' = absurd are'
named_first (row ∷ rows) [] (b ∷ others) some are are' = absurd are
named_first (row ∷ rows) (a ∷ more) (b ∷ others) some are are' =
    let both : Text a.name ≡ Text b.name = sym are.0.described.name_is ∙ are'.0.described.name_is in
    let same : a.name ≡ b.name = cc in
    (refl, same)

has_named : (schema : Schema) (tables : List Table) (name : List ℕ) → schema.tables ≡ tables → has_first tables ≡ true
    → first_name tables ≡ name → has_table schema name ≡ true
has_named schema [] name is some named = absurd (true≢false (sym some))
has_named schema (table ∷ tables) name is some named =
    let same : same_name table.name name ≡ true = ap (λ it. same_name it name) named ∙ same_itself name in
    rw is (rw same refl)

has_any_first : (schema : Schema) (tables : List Table) → has_first tables ≡ true → has_table schema (first_name tables) ≡ true
    → has_any_of schema tables ≡ true
has_any_first schema [] some has = absurd (true≢false (sym some))
has_any_first schema (table ∷ tables) some has = ap (λ b. b || has_any_of schema tables) has

-- a database that lists tables of which the first is called as the first of an index has something of one
has_of_two : (schema other : Schema) (db : Trees) → has_first other.tables ≡ true → first_name other.tables ≡ first_name index_schema.tables
    → IsSound schema db → IsSound other db
    → has_any_of schema index_schema.tables ≡ true
has_of_two schema other db some named sound sound' =
    let is = named_first _ schema.tables other.tables some sound.lists.listed.tables sound'.lists.listed.tables in
    has_any_first schema index_schema.tables refl (has_named schema schema.tables (first_name index_schema.tables) refl is.0 (is.1 ∙ named))

-- files that hold nothing of an index hold none of these trees
pub not_these : {image : Image} (number : ℕ) (none : HoldsNone image) (db : Trees) → none.db.trees ≡ db → AreCurrent number db → ⊥
not_these number none db same current =
    false≢true (sym none.free ∙ has_of_two none.db.schema index_schema db refl refl
    (subst (λ trees. IsSound none.db.schema trees) same none.sound) current.index.sound)

pub not_current : {image : Image} (number : ℕ) (none : HoldsNone image) (db : Database) (T : Tables) → none.db.trees ≡ db.trees
    → IsCurrent number db T → ⊥
not_current number none db T same it =
    false≢true (sym none.free ∙ has_of_two none.db.schema index_schema db.trees refl refl
    (subst (λ trees. IsSound none.db.schema trees) same none.sound)
    (subst (λ schema. IsSound schema db.trees) it.index.schema it.index.sound))

pub not_found : {image : Image} (none : HoldsNone image) (db : Database) (T : Tables) → none.db.trees ≡ db.trees → IsFound db T → ⊥
not_found none db T same (inl it) = not_current 2 none db T same it
not_found none db T same (inr it) =
    false≢true (sym none.free ∙ has_of_two none.db.schema _ db.trees refl refl
    (subst (λ trees. IsSound none.db.schema trees) same none.sound)
    (subst (λ schema. IsSound schema db.trees) it.first.schema it.first.sound))

pub no_proof : (a b : ⊥) → a ≡ b
no_proof a b = absurd a

pub current_is_there : (image : Image) (T : Tables) → HoldsCurrent image T → ¬ HoldsNone image
current_is_there image T it none = ∥∥₁_elim it.held.both no_proof
    (λ held. not_found none it.db T (none.only.alone it.db.trees held) (inl it.current))

-- ---- what may be left of work is not all that there could be: no request bans the empty name

unread : read_file [] ≡ None
unfolding read_file names.read_file_name
unread = refl

not_empty : (file : Bytes) → read_file file ≡ Some file → [] ≡ file → ⊥
not_empty file reads is = let none : read_file [] ≡ Some file = ap (λ (f : Bytes). read_file f) is ∙ reads in let both : None ≡ Some file =
    sym unread ∙ none in cc

other_than_empty : (file : Bytes) → read_file file ≡ Some file → same [] file ≡ false
other_than_empty file reads = elim (cases_same [] file) [ inl is ↦ absurd (not_empty file reads is) | inr other ↦ other ]

put_other : (bans : TextSet) (file : Bytes) → same [] file ≡ false → get (insert bans file tt) [] ≡ get bans []
put_other bans file other = get-put bans file tt [] ∙ ap (λ b. cond b (Some tt) (get bans [])) other

keeps_empty : (T : Tables) (at : ℕ) (token : Bytes) (request : Request)
    → verdict_now T (record { at = at; token = token; request = request }) ≡ Accept
    → get (tables_with_call T (record { at = at; token = token; request = request })).bans [] ≡ get T.bans []
keeps_empty T at token (BanFile file) accepts =
    let c : Call = record { at = at; token = token; request = BanFile file } in
    let reads = read_itself file ((accepted c (facts_in T c) accepts).not_refused BadFileName refl) in
    put_other T.bans file (other_than_empty file reads)
keeps_empty T at token request accepts = refl

abbrev KeepsEmpty : Tables → Tables → Type 0
KeepsEmpty T T' = get T'.bans [] ≡ get T.bans []

call_keeps : (T T' : Tables) (call : Call) → HasCall by_tables T call T' → KeepsEmpty T T'
call_keeps T T' call has = ap (λ (T : Tables). get T.bans []) has.1 ∙ keeps_empty T call.at call.token call.request has.0

same_keeps : (T T' : Tables) → T' ≡ T → KeepsEmpty T T'
same_keeps T T' same = ap (λ (T : Tables). get T.bans []) same

-- the tables that were reached, and what a crash may leave
left_keeps : (done : Done) (T : Tables) (MayLeave : Tables → Type 0) → IsDoneInPart by_tables done T MayLeave
    → (reached : Tables) × ((T' : Tables) → MayLeave T' → KeepsEmpty reached T')
left_keeps (DoneLines lines text) T MayLeave went = (
  went.reached,
  λ T' may. elim (went.crash T' may) [
    | inl same ↦ same_keeps went.reached T' same
    | inr made ↦ let it = line_made by_tables went.reached T' went.later made in call_keeps went.reached T' it.0 it.1
  ],
)
left_keeps (DoneExchanges exchanges) T MayLeave went = (
  went.reached,
  λ T' may. elim (went.crash T' may) [
    | inl same ↦ same_keeps went.reached T' same
    | inr made ↦ let it = one_made by_tables went.reached T' went.later made in call_keeps went.reached T' it.0 it.1
  ],
)
left_keeps DoneLook T MayLeave shows = (T, λ T' may. same_keeps T T' (shows T' may))

-- tables with a ban of the empty name, or without it
toggled : (T : Tables) (o : Option (Unit {0})) → get T.bans [] ≡ o → (T' : Tables) × (KeepsEmpty T T' → ⊥)
toggled T None is = (
  record T { bans = insert T.bans [] tt },
  λ keeps.
      let put : get (insert T.bans [] tt) [] ≡ Some tt =
      get-put T.bans [] tt [] ∙ ap (λ b. cond b (Some tt) (get T.bans [])) (same-refl []) in
      let both : Some tt ≡ None = sym put ∙ keeps ∙ is in cc,
)
toggled T (Some there) is = (
  record T { bans = remove T.bans [] },
  λ keeps.
      let gone : get (remove T.bans []) [] ≡ None = get-without T.bans [] [] ∙ ap (λ b. cond b None (get T.bans [])) (same-refl []) in
      let both : None ≡ Some there = sym gone ∙ keeps ∙ is in cc,
)

-- with the bytes of a volume too
pub not_left : (task : Task) (result : Result ℕ End) (T : Tables) (MayLeave : Tables → Type 0) → DoesInPart task result T MayLeave
    → (T' : Tables) × ((volume : List ℕ) → ¬ MayLeave (over volume T')) × (¬ MayLeave T')
not_left task result T MayLeave it =
    let left = left_keeps it.done T MayLeave (it.is.tables it.one_bearer) in
    let other = toggled left.0 (get left.0.bans []) refl in
    (other.0, (λ volume may. other.1 (left.1 (over volume other.0) may)), λ may. other.1 (left.1 other.0 may))

pub not_same : (T : Tables) → (T' : Tables) × (¬ (T' ≡ T))
not_same T = let it = toggled T (get T.bans []) refl in (it.0, λ same. it.1 (ap (λ (T : Tables). get T.bans []) same))

-- ---- so an index is there if some tables can't be left

module _ {D : Type 0} {g : Ghosts D} where
  pub there_by : (Are : Tables → Type 0) (last : FileStore D g) → OpensAgain last → CrashLeavesOnlyTables (over_files.recovers last) Are
      → ((T : Tables) × (¬ Are T))
      → (image : Image) → (store.state last).may_leave image → ¬ HoldsNone image
  there_by Are last again left other image may none = ∥∥₁_elim (opens_again last again.0 again.1 image may) no_proof (λ it.
      other.1 (left it.0 it.1 other.0 (λ current. absurd (not_these 2 none it.0 (none.only.alone it.0 it.2) current))))
