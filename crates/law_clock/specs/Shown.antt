-- The facts of the clock of resets that are shown of the world behind a case.
use Rattle.mpt_rules.specs.World.State.{World}
use Rattle.law_facts.specs.Clock.{LoadsBeforeReset, NoReplyBeforeInit, OneLink, OneRead, OneResetWrite, PhaseTable, TablesEmpty, ValueIsLast, WritesBeforeRead}

-- all but marks, what the rules know of resets, and what the fabric does
pub record ShownClock (w : World) : Type 0 where
  pub phase_table : PhaseTable w
  pub one_read : OneRead w
  pub one_reset_write : OneResetWrite w
  pub loads_before_reset : LoadsBeforeReset w
  pub tables_empty : TablesEmpty w
  pub one_link : OneLink w
  pub no_reply_before_init : NoReplyBeforeInit w
  pub value_is_last : ValueIsLast w
  pub writes_before_read : WritesBeforeRead w
