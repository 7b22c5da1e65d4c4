use Rattle.index_pages.proofs.Words.{◌≡◌, take, list_all, is_plain}
use Rattle.index_pages.proofs.json_parts.is_plain.Given as goal

-- the bytes so far need no escape
abbrev pub invariant-loop-byte : goal.invariant-loop-byte
invariant-loop-byte l = l.is_plain ≡ list_all is_plain (take l.byte-index l.text)
