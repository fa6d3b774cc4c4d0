use Rattle.mpt_trace.specs.declared.input.Input.TheVariants as input
use Rattle.mpt_rules.specs.Host.Parts.{Host}
use Rattle.mpt_live.specs.Recorded.{Recorded}
use Rattle.mpt_live.proofs.Granted.{told_left}
use Rattle.mpt_live.proofs.recorded_host.RecordedHost.abort.Goals as goal

pub returns : goal.returns
returns c =
    let before : Recorded Host = record { part = c.self.inside.host.host; row = c.self.inside.journal.row; clock = c.self.inside.clock } in
    told_left c.record_input.result (input.Abort c.args.n) c.in_ok-refused.refused before c.args.self.now c.ask_abort.new.host.host c.ask_abort.new.host.told c.record_input.new.host.host c.record_input.new.journal.row
    c.self.view_is c.in_ok-refused.ensures.host c.in_ok-refused.ensures.entries c.record_input.ensures.host c.record_input.ensures.recorded
