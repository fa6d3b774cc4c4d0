use Rattle.std.proofs.Common.{◌∷◌, [], ap, length, length-append, arith}
use Rattle.live_session.proofs.Numbered.{begin_more}
use Rattle.live_session.proofs.submitters.submitter_ends.Goals as goal

pub loop-lines-preserved : goal.loop-lines-preserved
loop-lines-preserved c =
    let ends = c.loop-lines.ends.items in
    let k = c.loop-lines.invariant in
    let grown = c.in_ok-push.ensures.items in
    record {
      begin = rw grown (begin_more 0 c.len-number.result ends c.new.result (let n = c.len-number.ensures in omega (arith, n)) k.begin (c.new.ensures.number, c.new.ensures.recorded));
      count = let n = ap length grown in let m = k.count in omega (arith, n, m, length-append ends (c.new.result ∷ []));
      asks = let n = c.remove-ask.ensures.len in let m = k.asks in omega (arith, n, m);
      tells = let n = c.remove-tell.ensures.len in let m = k.tells in omega (arith, n, m);
    }
