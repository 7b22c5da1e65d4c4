-- What contracts see of a cache.
use Rattle.std.specs.Prelude.{ℕ}
use Rattle.index_cache.specs.declared.cache.Cache.{Cache}

-- the books below
abbrev pub books_of : {B : Type 0} {g : _} → Cache B g → B
books_of cache = cache.books

-- the most bytes of a cache
abbrev pub cache_limit : {B : Type 0} {g : _} → Cache B g → ℕ
cache_limit cache = cache.most
