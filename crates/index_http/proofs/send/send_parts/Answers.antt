use Rattle.index_http.proofs.Words.{◌≤◌, ◌<◌, ◌∙◌, arith, rules, length, ap, length-append, reply_head}
use Rattle.index_http.specs.Replies.{fields_text}
use Rattle.index_http.proofs.Heads.{length-head_text, reply_is, short_reply}
use Rattle.index_http.proofs.send.send_parts.Goals as goal

pub write_pieces-requires : goal.write_pieces-requires
write_pieces-requires g c =
    let code : length c.code.result.now ≤ 3 = rw c.code.ensures.text (omega arith) in
    let digits : length c.as_bytes-digits.result.now ≤ 40 = rw c.as_bytes-digits.ensures.value c.format.ensures.short in
    let behind : length c.args.behind.now < 9223372036854775808 = omega arith in
    short_reply _ _ _ _ _ _ _ code c.phrase.ensures.short c.field_pieces.ensures.text c.field_pieces.ensures.short digits behind
    c.reply_pieces-pieces.ensures.text

pub length_of-requires : goal.length_of-requires
length_of-requires g c =
    let code : length c.code.result.now ≤ 3 = rw c.code.ensures.text (omega arith) in
    let digits : length c.as_bytes-digits.result.now ≤ 40 = rw c.as_bytes-digits.ensures.value c.format.ensures.short in
    let behind : length c.args.behind.now < 9223372036854775808 = omega arith in
    short_reply _ _ _ _ _ _ _ code c.phrase.ensures.short c.field_pieces.ensures.text c.field_pieces.ensures.short digits behind
    c.reply_pieces-pieces.ensures.text

pub returns-in-Ok : goal.returns-in-Ok
returns-in-Ok g c =
    let digits = c.as_bytes-digits.ensures.value ∙ c.format.ensures.text in
    let is = reply_is c.args.status c.args.size (fields_text c.args.fields) _ _ _ _ c.args.behind.now _
    c.code.ensures.text c.phrase.ensures.text c.field_pieces.ensures.text digits c.reply_pieces-pieces.ensures.text in
    let head = reply_head c.args.status (fields_text c.args.fields) c.args.size in
    let count = ap length is ∙ length-append head c.args.behind.now in
    let code : length c.code.result.now ≤ 3 = rw c.code.ensures.text (omega arith) in
    let size : length c.as_bytes-digits.result.now ≤ 40 = rw c.as_bytes-digits.ensures.value c.format.ensures.short in
    let long = rw (length-append, length-head_text) at (ap length c.reply_pieces-pieces.ensures.text) in
    let lines = ap length c.field_pieces.ensures.text in
    record {
      whole = (omega (arith, count, c.length_of.ensures), rw is at c.in-Ok.ensures.whole);
      short = omega (arith, c.length_of.ensures, long, lines, code, c.phrase.ensures.short, c.field_pieces.ensures.short, size);
      front = search rules;
      kept = search rules;
      failed = search rules;
    }

pub returns-in-Err : goal.returns-in-Err
returns-in-Err g c =
    let digits = c.as_bytes-digits.ensures.value ∙ c.format.ensures.text in
    let is = reply_is c.args.status c.args.size (fields_text c.args.fields) _ _ _ _ c.args.behind.now _
    c.code.ensures.text c.phrase.ensures.text c.field_pieces.ensures.text digits c.reply_pieces-pieces.ensures.text in
    record {
      whole = search rules;
      short = search rules;
      front = rw is at c.in-Err.ensures.front;
      kept = search rules;
      failed = search rules;
    }
