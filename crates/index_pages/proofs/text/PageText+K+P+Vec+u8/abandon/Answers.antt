use Rattle.index_pages.proofs.Words.{refl}
use Rattle.index_pages.proofs.TextLemmas.{front_of, steady_of}
use Rattle.index_pages.proofs.text.PageText+K+P+Vec+u8.abandon.Goals as goal

pub returns-clause-written : goal.returns-clause-written
returns-clause-written g c = record { count = refl; front = front_of _; steady = steady_of _ }
