use Rattle.index_volume_books.proofs.ThroughLemmas.{on_ok_at}
use Rattle.index_volume_books.proofs.books.VolumeBooksBooks.bytes_of.Goals as goal

pub returns-clause-looks : goal.returns-clause-looks
returns-clause-looks g c =
    let it = c.find_bytes-found.ensures.finds in
    record {
      honest = λ h. (it.honest h.0, it.volume h.1);
      clean = λ h. (it.clean h.0, it.volume h.1);
      unchanged = it.unchanged;
      lasts = λ ok h clean. (on_ok_at c.find_bytes-found.result it.lasts ok h.0 clean.0, clean.1);
      crash = it.crash;
    }

pub invariant_of-self : goal.invariant_of-self
invariant_of-self g c =
    let now = c.find_bytes-found.new.self in
    record { placed = now.placed; left = now.left; kept = now.kept }
