use Rattle.std.proofs.Common.{refl}
use Rattle.mpt_live.proofs.Submitters.{puts_ask_from}
use Rattle.mpt_live.proofs.submitter_end.SubmitterEnd.put_ask.Goals as goal

pub returns-then-is_submission-clause-put : goal.returns-then-is_submission-clause-put
returns-then-is_submission-clause-put g c =
    puts_ask_from _ c.args.self.now _ _ _ c.self.view_is c.in_ok-put_ask.ensures.number c.in-Some.ask c.in_ok-put_ask.field-0 c.in_ok-put_ask.ensures.made c.in_ok-put_ask.ensures.given refl

pub returns-else-is_submission-clause-put : goal.returns-else-is_submission-clause-put
returns-else-is_submission-clause-put g c =
    puts_ask_from _ c.args.self.now _ _ _ c.self.view_is c.in_ok-put_ask.ensures.number c.in-Some.ask c.in_ok-put_ask.field-0 c.in_ok-put_ask.ensures.made c.in_ok-put_ask.ensures.given refl

pub returns-in-Bye-clause-put : goal.returns-in-Bye-clause-put
returns-in-Bye-clause-put g c =
    puts_ask_from _ c.args.self.now _ _ _ c.self.view_is c.in_ok-put_ask.ensures.number c.in-Some.ask c.in_ok-put_ask.field-0 c.in_ok-put_ask.ensures.made c.in_ok-put_ask.ensures.given refl
