use Rattle.std.proofs.Common.{◌∙◌, ap, refl}
use Rattle.mpt_live.specs.Lanes.{LaneEnd, lane_id, with_item}
use Rattle.mpt_live.specs.declared.sent.Sent.{Sent}
use Rattle.mpt_live.proofs.giving.Giving.give.Goals as goal

pub returns-in-Ok-clause-put : goal.returns-in-Ok-clause-put
returns-in-Ok-clause-put g c =
    let sent : Sent _ = record { stamp = c.args.stamp; item = c.args.item; within = c.give-arg-2-1.given.0 } in
    record {
      sent = sent;
      stamped = refl;
      carries = refl;
      put = ap (λ xs. record { lane = lane_id c.self.inside.lane.now; items = xs }) (c.in-Ok.ensures.put refl) ∙ ap (λ (end : LaneEnd _). with_item end sent) c.self.view_is;
    }
