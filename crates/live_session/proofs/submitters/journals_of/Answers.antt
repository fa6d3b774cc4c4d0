use Rattle.std.proofs.Common.{◌≡◌, ◌+◌, ◌∙◌, ◌∷◌, [], ap, length, length-append, sym, subst, arith}
use Rattle.std.specs.Vec.Iter.{into_iter_items}
use Rattle.live_session.specs.Left.{SubmittersRan}
use Rattle.live_session.proofs.Numbered.{left_more, one_left}
use Rattle.live_session.proofs.submitters.journals_of.Goals as goal

pub loop-end-preserved : goal.loop-end-preserved
loop-end-preserved c =
    let turn = rw c.in-Some.is at c.next.ensures.steps in
    let journals = c.loop-end.journals.items in
    let n = length journals in
    let grown = c.in_ok-push.ensures.items in
    let more : length c.push.new.self.items ≡ n + 1 = let e = ap length grown in omega (arith, e, length-append journals (c.finish.result ∷ [])) in
    let rest : SubmittersRan n (c.in-Some.end ∷ into_iter_items c.next.new.self) = subst (λ ends. SubmittersRan n ends) turn.0 c.loop-end.invariant.rest in
    let led = one_left n c.in-Some.end c.finish.result (sym c.is_spent.ensures ∙ c.if-is_spent.false) rest.0 c.finish.ensures in
    record {
      left = rw grown (left_more 0 n journals c.finish.result (omega arith) c.loop-end.invariant.left led);
      rest = rw more rest.1;
      count = let k = ap length turn.0 in let m = c.loop-end.invariant.count in omega (arith, k, m, more);
    }
