-- What a line asks for.
use Rattle.std.specs.Prelude.{ℕ, List, if◌then◌else◌, Option, bytes_eq, codes, option_and_then}
use Rattle.index_digest.specs.Digest.{sha256}
use Rattle.index_json.specs.Json.{json_of}
use Rattle.index_json.specs.Reading.{Reading, ◌>>=◌, always, number, read_whole, text}
use Rattle.index_json.specs.Requests.{request_on_user}
use Rattle.index_json.specs.declared.line.Line.{Line}
use Rattle.index_json.specs.declared.line.Line.TheVariants as line

-- the request of a word, with its moment and its caller's token, which is kept as its digest
abbrev pub call_row : List ℕ → Reading Line
call_row word = do
  at ← number (codes "at")
  token ← text (codes "token")
  request ← request_on_user word
  always (line.Call (record { at = at; token = sha256 token; request = request }))

-- the row of a line that asks for a standing
abbrev pub standing_row : Reading Line
standing_row = do
  name ← text (codes "name")
  always (line.Standing name)

-- the row of a word
abbrev pub row_of_word : List ℕ → Reading Line
row_of_word word = λ object.
    if bytes_eq word (codes "standing") then standing_row object
    else call_row word object

abbrev pub line_row : Reading Line
line_row = do
  word ← text (codes "do")
  row_of_word word

-- what a line asks for: a call, a standing, or nothing
unfoldable pub line_of : List ℕ → Option Line
line_of bytes = option_and_then (read_whole line_row) (json_of bytes)
