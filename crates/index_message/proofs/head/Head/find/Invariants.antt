use Rattle.std.proofs.Common.{◌≡◌, ◌++◌, map}
use Rattle.httparse.specs.Spans.{header_bytes}
use Rattle.index_message.specs.Fields.{values_of}
use Rattle.index_message.proofs.FieldLemmas.{found_values, values_from}
use Rattle.index_message.proofs.head.Head.find.Given as goal

-- what was found, and what is left
abbrev pub invariant-loop-field : goal.invariant-loop-field
invariant-loop-field l = values_of l.name (map (header_bytes l.bytes) l.fields) ≡ found_values l.found
    ++ values_from l.name l.bytes l.fields l.field-index
