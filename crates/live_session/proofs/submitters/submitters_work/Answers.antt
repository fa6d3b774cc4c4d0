use Rattle.std.proofs.Common.{◌∙◌, subst}
use Rattle.live_session.specs.Left.{SubmittersRan}
use Rattle.live_session.proofs.Numbered.{all_ran, written_whole}
use Rattle.live_session.proofs.submitters.submitters_work.Goals as goal

pub journals_of-requires : goal.journals_of-requires
journals_of-requires g c =
    let h = all_ran 0 c.args.ends.items c.run_all.new.ends c.requires (rw c.deref_mut.ensures.value at c.run_all.ensures) in
    subst (λ ends. SubmittersRan 0 ends) (written_whole c.args.ends.items c.run_all.new.ends c.args.ends.len (c.run_all.auto.ends ∙ c.deref_mut.ensures.len)) h
