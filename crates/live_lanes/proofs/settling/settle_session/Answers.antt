use Rattle.std.proofs.Common.{List, subst, sym}
use Rattle.mpt_trace.specs.declared.item.Ask.{Ask}
use Rattle.mpt_trace.specs.declared.item.Tell.{Tell}
use Rattle.mpt_live.specs.Lanes.{LaneEnd}
use Rattle.live_lanes.specs.Closed.{AreClosed}
use Rattle.live_lanes.proofs.Zipped.{asks_zipped, tells_zipped}
use Rattle.live_lanes.proofs.settling.settle_session.Goals as goal

pub returns : goal.returns
returns c = record {
  down = c.settle.ensures;
  ups = c.settle_all.ensures;
  out = c.settle-2.ensures;
  back = c.settle-3.ensures;
  asks = subst (λ (xs : List (LaneEnd Ask)). AreClosed xs c.args.ends.host.asks.items)
      (sym (asks_zipped c.args.ends.asks.items c.args.ends.tells.items c.requires.submitters)) c.settle_all-2.ensures;
  tells = subst (λ (xs : List (LaneEnd Tell)). AreClosed c.args.ends.host.tells.items xs)
      (sym (tells_zipped c.args.ends.asks.items c.args.ends.tells.items c.requires.submitters)) c.settle_all-3.ensures;
}
