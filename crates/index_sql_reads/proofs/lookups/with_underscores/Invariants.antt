use Rattle.index_sql_reads.proofs.Words.{◌≡◌, map, take}
use Rattle.index_sql_reads.specs.UsualNames.{in_file_name}
use Rattle.index_sql_reads.proofs.lookups.with_underscores.Given as goal

-- the bytes so far
abbrev pub invariant-loop-byte : goal.invariant-loop-byte
invariant-loop-byte l = record {
  so_far : l.text.items ≡ map in_file_name (take l.byte-index l.name);
}
