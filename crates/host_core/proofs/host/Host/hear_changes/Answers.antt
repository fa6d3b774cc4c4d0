use Rattle.std.proofs.Common.{◌∙◌, ◌++◌, sym, ap, arith}
use Rattle.mpt_rules.specs.Outcome.{Happening}
use Rattle.mpt_rules.specs.Host.Parts.{Host}
use Rattle.mpt_rules.specs.Host.Replies.{reply_bytes}
use Rattle.host_core.proofs.Changes.{heard_end, heard_start, hears_counted, no_more, part_next, told_next}
use Rattle.host_core.proofs.host.Host.hear_changes.Goals as goal

pub loop-place-init : goal.loop-place-init
loop-place-init c =
    let start = heard_start c.args.self.now.host (reply_bytes c.args.reply.now) c.count_changes-place-end.result in
    (ap (λ (h : Happening Host). h.part) start, ap (λ (h : Happening Host). c.args.self.now.told ++ h.entries) start, omega arith, λ had. had)

pub loop-place-preserved : goal.loop-place-preserved
loop-place-preserved c = (
  c.loop-place.invariant.0
      ∙ part_next c.loop-place.self.host c.hear_change.new.self.host c.change_at.result (reply_bytes c.args.reply.now) c.loop-place.place c.count_changes-place-end.result c.loop-place-test.true c.change_at.ensures c.hear_change.ensures.host,
  c.loop-place.invariant.1
      ∙ told_next c.loop-place.self.host c.hear_change.new.self.host c.loop-place.self.told c.hear_change.new.self.told c.change_at.result (reply_bytes c.args.reply.now) c.loop-place.place c.count_changes-place-end.result c.loop-place-test.true c.change_at.ensures c.hear_change.ensures.host c.hear_change.ensures.told,
  omega (arith, c.loop-place.invariant.2, c.hear_change.ensures.room),
  λ had. c.hear_change.ensures.numbers (c.loop-place.invariant.3 had),
)

pub hear_change-requires : goal.hear_change-requires
hear_change-requires c = omega (arith, c.requires, c.loop-place.invariant.2, c.loop-place-test.true, c.count_changes-place-end.ensures.most)

pub returns-clause-host : goal.returns-clause-host
returns-clause-host c =
    let counted = hears_counted c.args.self.now.host (reply_bytes c.args.reply.now) c.count_changes-place-end.result c.count_changes-place-end.ensures.count in
    let end = heard_end c.loop-place.self.host (reply_bytes c.args.reply.now) c.loop-place.place c.count_changes-place-end.result (omega arith) in
    sym (ap (λ (h : Happening Host). h.part) counted ∙ c.loop-place.invariant.0 ∙ ap (λ (h : Happening Host). h.part) end)

pub returns-clause-told : goal.returns-clause-told
returns-clause-told c =
    let counted = hears_counted c.args.self.now.host (reply_bytes c.args.reply.now) c.count_changes-place-end.result c.count_changes-place-end.ensures.count in
    let end = heard_end c.loop-place.self.host (reply_bytes c.args.reply.now) c.loop-place.place c.count_changes-place-end.result (omega arith) in
    sym (ap (λ (h : Happening Host). c.args.self.now.told ++ h.entries) counted
    ∙ c.loop-place.invariant.1
    ∙ ap (λ (h : Happening Host). c.loop-place.self.told ++ h.entries) end
    ∙ no_more c.loop-place.self.told)

pub returns-clause-room : goal.returns-clause-room
returns-clause-room c = omega (arith, c.loop-place.invariant.2, c.count_changes-place-end.ensures.most, c.loop-place.auto.place-end)

pub returns-clause-numbers : goal.returns-clause-numbers
returns-clause-numbers c = c.loop-place.invariant.3
