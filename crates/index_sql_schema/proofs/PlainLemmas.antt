-- A text that is no write with RETURNING under one schema is none under any.
use Rattle.index_sql_schema.proofs.Words.{◌≡◌, ◌==◌, ◌+◌, ◌∙◌, ap, refl, subst, sym, ℕ, Bool, true, false, true≢false, List, length, Option}
use Rattle.index_sql_schema.proofs.Words.{None, Ok, Err, Row, Trees, Command, Returning, Schema, Compiled, reads_listing, understood, State}
use Rattle.index_sql_schema.proofs.Words.{CommitsShowing, IsPlain}
use Rattle.std.proofs.Common.{if◌then◌else◌}
use Rattle.sqlite_ast.specs.declared.Shown.{Shown}
use Rattle.sqlite_ast.specs.declared.Statement.{Statement}
use Rattle.sqlite_ast.specs.declared.Statement.TheVariants.{Insert, Update, Delete}
use Rattle.sqlite_syntax.specs.declared.statement.Parsed.{Parsed}
use Rattle.sqlite_resolve.specs.declared.error.CompileError.{CompileError}
use Rattle.sqlite_resolve.specs.Lowering.{Checked, and_then}
use Rattle.sqlite_resolve.specs.Scope.{Name}
use Rattle.sqlite_resolve.specs.Body.{table_at}
use Rattle.sqlite_resolve.specs.Given.{returned}
use Rattle.sqlite_resolve.specs.Compile.{compiled, command, first, meaning, planned, returning, shows, small, source_of, target, timed}
use Rattle.sqlite_resolve.specs.Compile.{with_command}
use Rattle.sqlite.specs.Listing.{if_select, is_select, listing_schema}

-- ---- what a statement shows

never_none : {A B : Type 0} (r : Checked A) (f : A → Checked (Option B)) → ((a : A) → ¬ (f a ≡ Ok None)) → ¬ (and_then r f ≡ Ok None)
never_none (Ok a) f never h = never a h
never_none (Err e) f never h = cc

if_none : (b : Bool) (r r' : Checked (Option Returning)) → ¬ (r ≡ Ok None) → (if b then Ok None else r) ≡ Ok None
    → (if b then Ok None else r') ≡ Ok None
if_none true r r' never h = refl
if_none false r r' never h = absurd (never h)

shows_none : (s s' : Schema) (base base' : ℕ) (name : Name) (shown : List Shown) → shows s base name shown ≡ Ok None
    → shows s' base' name shown ≡ Ok None
unfolding shows
shows_none s s' base base' name shown h =
    if_none (length shown == 0) _ _ (never_none (target s name) _
    (λ at. never_none (table_at s at) _ (λ table. never_none (returned s table base shown) _
    (λ r. never_none (source_of s (length r.0) r.1) _ (λ row is. cc))))) h

returning_none : (it : Statement) (s s' : Schema) (base base' : ℕ) → returning s base it ≡ Ok None → returning s' base' it ≡ Ok None
unfolding returning
returning_none (Insert how name columns rows clauses shown) s s' base base' h = shows_none s s' base base' name shown h
returning_none (Update name sets test shown) s s' base base' h = shows_none s s' base base' name shown h
returning_none (Delete name test shown) s s' base base' h = shows_none s s' base base' name shown h
returning_none _ s s' base base' h = refl

-- ---- what a text is compiled to

split : (r : Checked (Option Returning)) (k : Checked Command) (formats : List Name) (plan : List Name × (Command × Option Returning))
    → and_then (and_then r (λ shown. and_then k (λ c. Ok (c, shown)))) (λ found. Ok (formats, found)) ≡ Ok plan → r ≡ Ok plan.1.1
split (Err e) k formats plan h = absurd (cc)
split (Ok shown) (Err e) formats plan h = absurd (cc)
split (Ok shown) (Ok c) formats plan h = let is : (formats, (c, shown)) ≡ plan = cc in ap (λ x. Ok x.1.1) is

planned_shows : (s : Schema) (p : Parsed) (plan : List Name × (Command × Option Returning)) → planned s p ≡ Ok plan
    → (base : ℕ) × (returning s base p.statement ≡ Ok plan.1.1)
unfolding planned meaning
planned_shows s p plan h =
    let formats = timed s p.formats p.statement in
    let base = small p.names + small formats in
    (base, split (returning s base p.statement) (command s p.formats base p.statement) formats plan h)

pub record Shows (s : Schema) (text : List ℕ) (c : Compiled) : Type 0 where
  pub parsed : Parsed
  pub base : ℕ
  pub read : first text ≡ Ok parsed
  pub shows : returning s base parsed.statement ≡ Ok c.returning

with_plan : (s : Schema) (text : List ℕ) (c : Compiled) (p : Parsed) → first text ≡ Ok p
    → (r : Checked (List Name × (Command × Option Returning))) → planned s p ≡ r → and_then r (λ plan. Ok (with_command p plan)) ≡ Ok c
    → Shows s text c
with_plan s text c p read (Err e) is h = absurd (cc)
with_plan s text c p read (Ok plan) is h =
    let found = planned_shows s p plan is in
    let same : with_command p plan ≡ c = cc in
    record { parsed = p; base = found.0; read = read; shows = found.1 ∙ ap (λ (x : Compiled). Ok x.returning) same }

with_first : (s : Schema) (text : List ℕ) (c : Compiled) (r : Checked Parsed) → first text ≡ r
    → and_then r (λ p. and_then (planned s p) (λ plan. Ok (with_command p plan))) ≡ Ok c → Shows s text c
with_first s text c (Err e) read h = absurd (cc)
with_first s text c (Ok p) read h = with_plan s text c p read (planned s p) refl h

compiled_shows : (s : Schema) (text : List ℕ) (c : Compiled) → compiled s text ≡ Ok c → Shows s text c
unfolding compiled
compiled_shows s text c h = with_first s text c (first text) refl h

if_so : (b : Bool) (r : Checked Compiled) (e : CompileError) (c : Compiled) → (if b then r else Err e) ≡ Ok c → r ≡ Ok c
if_so true r e c h = h
if_so false r e c h = absurd (cc)

selected : (r : Checked Compiled) (c : Compiled) → if_select r ≡ Ok c → r ≡ Ok c
selected (Err e) c h = absurd (cc)
selected (Ok k) c h = if_so (is_select k.command) (Ok k) _ c h

understood_shows : (s : Schema) (text : List ℕ) (c : Compiled) → understood s text ≡ Ok c → (t : Schema) × Shows t text c
unfolding understood
understood_shows s text c h = by_listing (reads_listing s text) h
  where
    by_listing : (b : Bool) → (if b then if_select (compiled listing_schema text) else compiled s text) ≡ Ok c
        → (t : Schema) × Shows t text c
    by_listing true h = (listing_schema, compiled_shows listing_schema text c (selected (compiled listing_schema text) c h))
    by_listing false h = (s, compiled_shows s text c h)

-- ---- under any schema

plainly : (s : Schema) (text : List ℕ) (r : Checked Compiled) → understood s text ≡ r → IsPlain r
    → (c : Compiled) × (understood s text ≡ Ok c) × (c.returning ≡ None)
plainly s text (Err e) is plain = absurd plain
plainly s text (Ok c) is plain = (c, is, plain.0)

pub plain_anywhere : (s s' : Schema) (text : List ℕ) (c : Compiled) → IsPlain (understood s text) → understood s' text ≡ Ok c
    → c.returning ≡ None
plain_anywhere s s' text c plain is =
    let here = plainly s text (understood s text) refl plain in
    let one = understood_shows s text here.0 here.1 in
    let two = understood_shows s' text c is in
    let same : one.1.parsed ≡ two.1.parsed = let a = one.1.read in let b = two.1.read in cc in
    let none : returning one.0 one.1.base one.1.parsed.statement ≡ Ok None = one.1.shows ∙ ap Ok here.2 in
    let there = returning_none one.1.parsed.statement one.0 two.0 one.1.base two.1.base none in
    let shown : returning two.0 two.1.base one.1.parsed.statement ≡ Ok c.returning =
    subst (λ (p : Parsed). returning two.0 two.1.base p.statement ≡ Ok c.returning) (sym same) two.1.shows in
    let both : Ok None ≡ Ok c.returning = sym there ∙ shown in
    sym (let e : None ≡ c.returning = cc in e)

-- so a query of it commits nothing, whatever schema is in place
pub commits_nowhere : (schema : Schema) (sql : List ℕ) (params : Row) (s : State) (db : Trees) → IsPlain (understood schema sql)
    → ¬ CommitsShowing sql params s db
unfolding CommitsShowing
commits_nowhere schema sql params s db plain h =
    let none = plain_anywhere schema s.now.schema sql h.0 plain h.1.is in
    true≢false (sym (rw none at h.2))
