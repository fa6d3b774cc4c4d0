use Rattle.std.proofs.Common.{arith, refl}
use Rattle.smid_pool.proofs.VacantBits.{first_in_word, none_in_word}
use Rattle.smid_pool.proofs.vacant_set.VacantSet.first_from.Goals as goal

pub returns-then-word-ne0 : goal.returns-then-word-ne0
returns-then-word-ne0 c =
    first_in_word c.args.self.now.words c.args.start c.loop-i.i c.loop-i.low _ c.loop-i.invariant.0 c.loop-i.invariant.1 c.loop-i.invariant.2 refl c.if-word-ne0.true

pub loop-i-preserved : goal.loop-i-preserved
loop-i-preserved c =
    (omega arith, omega arith, none_in_word c.args.self.now.words c.args.start c.loop-i.i c.loop-i.low c.loop-i.invariant.0 c.loop-i.invariant.1 c.loop-i.invariant.2 c.if-word-ne0.false)
