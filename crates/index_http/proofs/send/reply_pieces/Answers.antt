use Rattle.index_http.proofs.Heads.{head_pieces}
use Rattle.index_http.proofs.send.reply_pieces.Goals as goal

pub returns : goal.returns
returns c = record {
  text = head_pieces c.args.code.now c.args.phrase.now c.args.first.now c.args.second.now c.args.third.now c.args.digits.now
      c.args.body.now;
}
