-- The entries of the cache.
use Rattle.std.specs.Prelude.{◌≡◌, ◌≢◌, ℕ, List, Option, Some}
use Rattle.std.specs.Prelude.{drop, find, length, sum_by, vec_capacity}
use Rattle.std.specs.FinMap.{get}
use Rattle.std.specs.Borrow.{Bor}
use Rattle.std.specs.List.{All, Contains}
use Rattle.index_pages.specs.declared.served.Served.{Served}
use Rattle.index_rules.specs.Maps.{Bytes, same}
use Rattle.index_rules.specs.Tables.{Tables}
use Rattle.index_caching.specs.Pages.{text_in}
use Rattle.index_cache.specs.declared.entries.CachedBody.{CachedBody}
use Rattle.index_cache.specs.declared.entries.CachedPage.{CachedPage}

-- the tables hold these bytes for the file of the entry
abbrev pub IsCachedBody : Tables → CachedBody → Type 0
IsCachedBody T kept = get T.bodies kept.file ≡ Some kept.body

-- the text of the entry is the page that the tables have
abbrev pub IsCachedPage : Tables → CachedPage → Type 0
IsCachedPage T kept = text_in T kept.served kept.project ≡ Some kept.text.items

-- the entry that was found is of this file
abbrev pub IsBodyAmong : List CachedBody → Bytes → Bor CachedBody → Type 0
IsBodyAmong bodies file kept = (kept.now.file ≡ file) × Contains bodies kept.now

-- the entry that was found is the page of this project, or the root page, in this type
abbrev pub IsPageAmong : List CachedPage → Option Bytes → Served → Bor CachedPage → Type 0
IsPageAmong pages project served kept =
    (kept.now.project ≡ project) × ((kept.now.served ≡ served) × Contains pages kept.now)

-- the entry that is found for a file: the first one
abbrev pub cached_of : Bytes → List CachedBody → Option CachedBody
cached_of file bodies = find (λ kept. same kept.file file) bodies

-- no page of this project is cached in this type
abbrev pub HasNoPage : List CachedPage → Option Bytes → Served → Type 0
HasNoPage pages project served =
    All (λ kept. kept.served ≡ served → kept.project ≢ project) pages

-- tables that have all that was cached have all that is left
abbrev pub AreLeft : List CachedBody → List CachedBody → Type 0
AreLeft kept left = (T : Tables) → All (IsCachedBody T) kept → All (IsCachedBody T) left

-- the newest entries are left: the oldest went first
abbrev pub AreNewest : List CachedBody → List CachedBody → Type 0
AreNewest kept left = (gone : ℕ) × (left ≡ drop gone kept)

-- the bytes of the bodies
abbrev pub body_bytes : List CachedBody → ℕ
body_bytes bodies = sum_by (λ kept. length kept.body) bodies

-- the bytes that the texts of pages take in memory
abbrev pub page_bytes : List CachedPage → ℕ
page_bytes pages = sum_by (λ kept. vec_capacity kept.text) pages
