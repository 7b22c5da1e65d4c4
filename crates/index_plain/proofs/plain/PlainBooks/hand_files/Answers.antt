use Rattle.index_plain.proofs.Words.{◌≡◌, Err, rules, sym, ap, subst, nat_list_cmp_total, exact_bytes, rest_more, rest_all, entries}
use Rattle.index_plain.proofs.Words.{deref_pair, Took, EndsEarly, Walks, GoesOn-more, GoesOn-early, GoesOn-all, FileRecord, Bytes}
use Rattle.index_plain.proofs.Words.{bytes_cmp, plain_tables, rows_of_file, map_of}
use Rattle.index_plain.proofs.TreeLemmas.{entries_map}
use Rattle.index_plain.proofs.RowLemmas.{file_rows_of, file_rows_first}
use Rattle.index_plain.proofs.plain.PlainBooks.hand_files.Goals as goal

pub loop-file-preserved : goal.loop-file-preserved
loop-file-preserved g c =
    let books = c.args.self.now in
    let rows = file_rows_of (plain_tables books) c.args.name.now in
    let all = books.files.entries in
    let rest = c.loop-file.file-iterator in
    let left = c.next.new.self in
    let entry : Bytes × FileRecord = (c.in-Some.file.now, c.in-Some.entry.now) in
    GoesOn-more g.K.Taker.takes g.K.Taker.stops (rows all) (rows rest) (rows_of_file (plain_tables books) c.args.name.now entry) (rows left)
    c.args.taker.now c.loop-file.taker c.hand_file.new.taker c.loop-file.invariant
    (file_rows_first (plain_tables books) c.args.name.now rest left entry
    (rest_more deref_pair _ _ _ (c.in-Some.file, c.in-Some.entry) c.in-Some.is c.next.ensures.steps))
    c.in_ok-hand_file.ensures.walked

pub returns-in_err-hand_file : goal.returns-in_err-hand_file
returns-in_err-hand_file g c =
    let takes = g.K.Taker.takes in
    let stops = g.K.Taker.stops in
    let books = c.args.self.now in
    let rows = file_rows_of (plain_tables books) c.args.name.now in
    let files = books.files in
    let rest = c.loop-file.file-iterator in
    let left = c.next.new.self in
    let entry : Bytes × FileRecord = (c.in-Some.file.now, c.in-Some.entry.now) in
    let end = c.in_err-hand_file.field-0.0 in
    let told : c.from_residual.result ≡ Err end = search rules in
    record {
      walked = subst (λ result. Walks takes stops (rows (entries (map_of bytes_cmp files))) c.args.taker.now c.hand_file.new.taker result)
          (sym told)
          (subst (λ es. EndsEarly takes stops (rows es) c.args.taker.now c.hand_file.new.taker end)
          (sym (entries_map nat_list_cmp_total exact_bytes files c.iter-file-items.ensures.ordered))
          (GoesOn-early takes stops (rows files.entries) (rows rest) (rows_of_file (plain_tables books) c.args.name.now entry) (rows left)
          c.args.taker.now c.loop-file.taker c.hand_file.new.taker end c.loop-file.invariant
          (file_rows_first (plain_tables books) c.args.name.now rest left entry
          (rest_more deref_pair _ _ _ (c.in-Some.file, c.in-Some.entry) c.in-Some.is c.next.ensures.steps))
          c.in_err-hand_file.ensures.walked));
      memory = search rules;
    }

pub returns : goal.returns
returns g c =
    let takes = g.K.Taker.takes in
    let books = c.args.self.now in
    let rows = file_rows_of (plain_tables books) c.args.name.now in
    let files = books.files in
    record {
      walked = subst (λ es. Took takes (rows es) c.args.taker.now c.loop-file.taker)
          (sym (entries_map nat_list_cmp_total exact_bytes files c.iter-file-items.ensures.ordered))
          (GoesOn-all takes g.K.Taker.stops (rows files.entries) (rows c.loop-file.file-iterator)
          c.args.taker.now c.loop-file.taker c.loop-file.invariant
          (ap rows (rest_all deref_pair _ _ _ c.in-None.is c.next.ensures.steps)));
      memory = search rules;
    }
