-- What a cache does at a look, and what it finds again.
use Rattle.std.specs.Prelude.{◌≡◌, [], List, ℕ, Option, Some, None, Result, Err, IfSome}
use Rattle.std.specs.Prelude.{option_copied, option_map}
use Rattle.std.specs.Borrow.{Bor}
use Rattle.std.specs.FinMap.{get}
use Rattle.index_pages.specs.declared.served.Served.{Served}
use Rattle.index_rules.specs.Calls.{Model, Looks, Scans, counts, model}
use Rattle.index_rules.specs.Maps.{Bytes}
use Rattle.index_rules.specs.Tables.{Tables}
use Rattle.index_rules.specs.Walks.{TakerStep, WalksTo}
use Rattle.index_rules.specs.declared.answer.Fault.{Fault}
use Rattle.index_rules.specs.declared.answer.Fault.TheVariants as fault
use Rattle.index_rules.specs.declared.books.Books.{Ghosts}
use Rattle.index_rules.specs.declared.rows.WalkEnd.{WalkEnd}
use Rattle.index_rules.specs.declared.rows.WalkEnd.TheVariants as walk_end
use Rattle.index_caching.specs.Pages.{text_in}
use Rattle.index_cache.specs.Entries.{HasNoPage, cached_of}
use Rattle.index_cache.specs.declared.cache.Cache.{Cache}

-- the books below, as contracts see them
abbrev pub model_of : {S : Type 0} → Ghosts S → Model S
model_of g = model g.tables g.IsHonest g.IsClean g.may_leave (counts g.failures g.stores)

-- the cache is empty
pub record CachesNothing {B : Type 0} {g : _} (cache : Cache B g) : Type 0 where
  pub bodies : cache.bodies.items ≡ []
  pub pages : cache.pages.items ≡ []
  pub used : cache.used ≡ 0

-- a look at the books below, which finds this in their tables; if memory ran out, the cache is
-- empty
pub record LooksOrForgets {B A : Type 0} {g : _} (books : Ghosts B) (old new : Cache B g)
    (result : Result A Fault) (Finds : Tables → Result A Fault → Type 0) : Type 0 where
  pub found : books.IsHonest new.books → Finds (books.tables old.books) result
  pub looks : Looks (model_of books) old.books new.books result
  pub room : result ≡ Err fault.OutOfMemory → CachesNothing new

-- a walk over the books below, which hands these rows over; if memory ran out, the cache is empty
pub record WalksOrForgets {B K R A : Type 0} {g : _} (books : Ghosts B) (old new : Cache B g)
    (rows_in : Tables → List R) (taker : TakerStep K R) (result : Result A WalkEnd) : Type 0 where
  pub walked : books.IsHonest old.books → books.IsClean new.books
      → WalksTo taker (rows_in (books.tables old.books)) result
  pub given : (rows : List R) × WalksTo taker rows result
  pub looks : Scans (model_of books) old.books new.books result
  pub room : result ≡ Err walk_end.OutOfMemory → CachesNothing new

-- the first cached body of the file is found, and it is the one in the tables
pub record FindsBody {B : Type 0} {g : _} (books : Ghosts B) (cache : Cache B g) (file : Bytes)
    (result : Option (Bor Bytes)) : Type 0 where
  pub held : books.IsHonest cache.books
      → IfSome result (λ body. get (books.tables cache.books).bodies file ≡ Some body.now)
  pub found : let kept = cached_of file cache.bodies.items in
      option_copied result ≡ option_map (λ kept. kept.body) kept

-- a page that is found is the one in the tables; if none is found, none is cached
pub record FindsPage {B : Type 0} {g : _} (books : Ghosts B) (cache : Cache B g)
    (project : Option Bytes) (served : Served) (result : Option (Bor (List ℕ))) : Type 0 where
  pub held : books.IsHonest cache.books
      → IfSome result (λ text. text_in (books.tables cache.books) served project ≡ Some text.now)
  pub none : result ≡ None → HasNoPage cache.pages.items project served
