-- The head of a reply, piece by piece.
use Rattle.index_http.proofs.Words.{◌≡◌, ℕ, ◌+◌, ◌<◌, ◌≤◌, List, [], ◌++◌, length, refl, ap, ◌∙◌, append_assoc, append-nil, length-append}
use Rattle.index_http.proofs.Words.{arith, head_text, reply_head}
use Rattle.std.proofs.Common.{codes, decimal}
use Rattle.http.specs.StatusCode.{code_digits}
use Rattle.index_http.specs.Replies.{phrase_of}

-- the pieces of a reply are its head and what stands behind it
pub head_pieces : (code phrase first second third digits behind : List ℕ)
    → codes "HTTP/1.1 " ++ (code ++ (codes " " ++ (phrase ++ (codes "\r\n" ++ (first ++ (second ++ (third
    ++ (codes "Content-Length: " ++ (digits ++ (codes "\r\nConnection: close\r\n\r\n" ++ (behind ++ [])))))))))))
    ≡ head_text code phrase (first ++ (second ++ third)) digits ++ behind
unfolding head_text
head_pieces code phrase first second third digits behind = simp (append_assoc, append-nil) refl

-- the text of pieces that are those of a status, of header lines and of a length
pub reply_is : (status size : ℕ) (fields code phrase lines digits behind text : List ℕ)
    → code ≡ code_digits status → phrase ≡ phrase_of status → lines ≡ fields → digits ≡ decimal size
    → text ≡ head_text code phrase lines digits ++ behind → text ≡ reply_head status fields size ++ behind
unfolding reply_head
reply_is status size fields code phrase lines digits behind text code_is phrase_is fields_is digits_is text_is =
    text_is ∙ rw (code_is, phrase_is, fields_is, digits_is) refl

pub length-head_text : (code phrase fields digits : List ℕ)
    → length (head_text code phrase fields digits) ≡ 51 + length code + length phrase + length fields + length digits
unfolding head_text
length-head_text code phrase fields digits = simp length-append (omega arith)

-- what is sent has fewer bytes than a count can tell
pub short_reply : (code phrase fields lines digits behind text : List ℕ)
    → length code ≤ 3 → length phrase ≤ 64 → lines ≡ fields → length fields ≤ 256 → length digits ≤ 40 → length behind < 9223372036854775808
    → text ≡ head_text code phrase lines digits ++ behind → length text < 18446744073709551616
short_reply code phrase fields lines digits behind text short_code short_phrase fields_is short_fields short_digits short text_is =
    let is = ap length text_is ∙ length-append (head_text code phrase lines digits) behind in
    let lines_is = ap length fields_is in
    omega (arith, is, lines_is, length-head_text code phrase lines digits, short_code, short_phrase, short_fields, short_digits, short)
