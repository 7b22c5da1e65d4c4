use Rattle.index_pages.proofs.Words.{refl}
use Rattle.index_pages.proofs.TextLemmas.{front_of, steady_of}
use Rattle.index_pages.proofs.text.PageText+K+P+Vec+u8.written.Goals as goal

pub returns : goal.returns
returns g c = record { written = record { count = refl; front = front_of _; steady = steady_of _ } }
