use Rattle.std.proofs.Common.{◌≡◌, false, refl}
use Rattle.mpt_trace.specs.declared.entry.Entry.{Entry}
use Rattle.mpt_trace.specs.declared.entry.Entry.TheVariants as entry
use Rattle.mpt_wire.specs.Walks.Ahead.{next_own}
use Rattle.disk_machine.proofs.Silent.{is_shown, silent}
use Rattle.disk_machine.proofs.walking.TraceWalk.follow.Goals as goal

pub returns-in-Given : goal.returns-in-Given
returns-in-Given c = rw c.in-Given.is c.give.ensures

pub returns-in_ok-run-in-Run : goal.returns-in_ok-run-in-Run
returns-in_ok-run-in-Run c = rw c.in-Run.is c.in_ok-run-in-Run.ensures

pub returns-in_ok-make_ready-in-Ready : goal.returns-in_ok-make_ready-in-Ready
returns-in_ok-make_ready-in-Ready c = rw c.in-Ready.is c.in_ok-make_ready-in-Ready.ensures

pub returns-in_ok-accept-in-Accept : goal.returns-in_ok-accept-in-Accept
returns-in_ok-accept-in-Accept c = rw c.in-Accept.is c.in_ok-accept-in-Accept.ensures

pub returns-in-Answer : goal.returns-in-Answer
returns-in-Answer c = λ m g accords. rw c.in-Answer.is (c.answer.ensures c.in-Answer.outcome m accords.0, accords.1)

pub returns-in_default : goal.returns-in_default
returns-in_default c = λ m g accords. (silent c.args.self.now.machine g c.args.entry.now (next_own c.args.entry.now c.args.later.now) m (hidden c.args.entry.now refl) accords.0, accords.1)
  where
    hidden : (e : Entry) → c.args.entry.now ≡ e → is_shown e ≡ false
    hidden (entry.Given input) is = absurd (c.in_default.not-Given input is)
    hidden (entry.Run a tag) is = absurd (c.in_default.not-Run a tag is)
    hidden entry.HostUp is = absurd (c.in_default.not-HostUp is)
    hidden (entry.Ready a h) is = absurd (c.in_default.not-Ready a h is)
    hidden (entry.Lost a h) is = absurd (c.in_default.not-Lost a h is)
    hidden (entry.Accept n a tag) is = absurd (c.in_default.not-Accept n a tag is)
    hidden (entry.Answer n how) is = absurd (c.in_default.not-Answer n how is)
    hidden entry.ResetDone is = absurd (c.in_default.not-ResetDone is)
    hidden (entry.Idle choice) is = refl
    hidden (entry.Put l i) is = refl
    hidden (entry.Take l i) is = refl
    hidden (entry.Bind h a k) is = refl
    hidden (entry.Unbind h) is = refl
    hidden entry.UnbindAll is = refl
    hidden (entry.RefuseSubmit n cause) is = refl
    hidden (entry.Refuse call cause) is = refl
    hidden (entry.AbortEnd n how) is = refl
    hidden (entry.TargetEnd a how) is = refl
