use Rattle.std.proofs.Common.{arith}
use Rattle.std.proofs.lemmas.List.{length-set}
use Rattle.am_uri.specs.PathWords.{passes}
use Rattle.am_uri.proofs.PathWords.{write_on}
use Rattle.am_uri.proofs.bits.write_where.Goals as goal

pub loop-i-preserved : goal.loop-i-preserved
loop-i-preserved c =
    let l = c.loop-i in
    record {
      same_length = simp length-set l.invariant.same_length;
      so_far = simp length-set (write_on 63 (passes c.args.test) l.i c.min.result c.word_of.result l.words _ l.left.now
          c.split_at.result.0.now c.split_at.result.1.now (omega arith) l.invariant.so_far c.min.ensures
          c.split_at.ensures.front c.split_at.ensures.back c.word_of.ensures);
    }
