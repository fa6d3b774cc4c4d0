use Rattle.std.proofs.Common.{◌∙◌, ap}
use Rattle.mpt_journal.specs.Journal.{rows_of}
use Rattle.live_session.proofs.Whole.{held_of, held_phases, summary_held}
use Rattle.live_session.proofs.sessions.ended.Goals as goal

pub summary_of-requires : goal.summary_of-requires
summary_of-requires c =
    let plan = c.args.plan.now in
    let left = c.args.left in
    let t = c.in_ok-trace.trace.entries in
    let held =
    held_of c.journals_make_sessions.ensures plan left c.deref.result.now c.in_ok-journals.journals.items t c.as_slice.result.now c.requires.left c.requires.submitters
    c.in_ok-trace.ensures c.deref.ensures.value c.in_ok-journals.ensures c.as_slice.ensures c.entered_inputs_fit.ensures in
    record { setting = c.requires.setting; phases = held_phases plan left t held }

pub returns : goal.returns
returns c =
    let plan = c.args.plan.now in
    let left = c.args.left in
    let t = c.in_ok-trace.trace.entries in
    let held =
    held_of c.journals_make_sessions.ensures plan left c.deref.result.now c.in_ok-journals.journals.items t c.as_slice.result.now c.requires.left c.requires.submitters
    c.in_ok-trace.ensures c.deref.ensures.value c.in_ok-journals.ensures c.as_slice.ensures c.entered_inputs_fit.ensures in
    record {
      session = held.session;
      is_session = held.is_session;
      submitters = held.submitters;
      trace = held.trace;
      summary = c.in_ok-summary.ensures ∙ summary_held plan left t held;
      journals = ap rows_of c.in_ok-journals.ensures ∙ held.rows;
      host = held.host;
      ioc = held.ioc;
      fabric = held.fabric;
    }
