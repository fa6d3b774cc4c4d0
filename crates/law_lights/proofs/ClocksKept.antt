-- What is shown of the clock of resets as a whole.
use Rattle.std.proofs.Common.{◌≡◌, refl}
use Rattle.mpt_rules.specs.World.Cases.{Case, entries, happens}
use Rattle.mpt_rules.specs.Law.{NothingIsStrange}
use Rattle.mpt_rules.specs.World.State.{World}
use Rattle.law_facts.specs.Clock.{Clock, FabricOff}
use Rattle.law_facts.specs.Facts.{Facts}
use Rattle.law_facts.specs.History.{History, history_after}
use Rattle.law_clock.specs.Premises.{Before, Behind}
use Rattle.law_resets.specs.Shown.{ShownResets}
use Rattle.law_resets.proofs.ResetsKept.{resets_kept}
use Rattle.law_doors.proofs.DoorsKept.{resets_heeded}
use Rattle.law_doors.proofs.StageWorld.{stage_kept}
use Rattle.law_doors.proofs.Started.{started_kept}
use Rattle.law_doors.proofs.Whole.{whole_kept}
use Rattle.law_lights.proofs.UpKept.{up_kept}

pub clocks_kept : (w : World) (h : History) (c : Case) → Facts w h → NothingIsStrange w → Clock (happens w c) (history_after h (entries w c))
clocks_kept w h c f plain =
    record {
      phase_table = shown.clock.phase_table;
      one_read = shown.clock.one_read;
      one_reset_write = shown.clock.one_reset_write;
      loads_before_reset = shown.clock.loads_before_reset;
      tables_empty = shown.clock.tables_empty;
      one_link = shown.clock.one_link;
      fabric_off = lights;
      no_reply_before_init = shown.clock.no_reply_before_init;
      marks = shown.marks;
      value_is_last = shown.clock.value_is_last;
      resets_seen = shown.resets_seen;
      writes_before_read = shown.clock.writes_before_read;
    }
  where
    before : Before w h
    before = record { facts = f; plain = plain; heeded = resets_heeded w h f }

    behind : Behind (happens w c)
    behind = record { whole = whole_kept w h f plain c; stage = stage_kept w h before c; started = started_kept w h before c }

    shown : ShownResets (happens w c) (history_after h (entries w c))
    shown = resets_kept w h c before behind

    lights : FabricOff (happens w c)
    lights = let o = shown.fabric_off in record { dark = o.dark; lit = o.lit; orders = o.orders; one = o.one; at_most = o.at_most; asked = o.asked; up = up_kept w h before c behind }
