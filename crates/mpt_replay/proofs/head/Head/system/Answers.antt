use Rattle.std.proofs.Common.{◌≡◌, ap, subst, ◌∙◌}
use Rattle.mpt_rules.specs.World.Settings.{Setting}
use Rattle.mpt_system.specs.Making.{IsCause, made_of, system_refusal}
use Rattle.mpt_replay.proofs.Heads.{only_memory}
use Rattle.mpt_replay.proofs.head.Head.system.Goals as goal

pub unreachable-requires : goal.unreachable-requires
unreachable-requires c =
    let s = c.args.self.now in
    let fault = c.in-Err.fault in
    let disks : c.deref.result.now ≡ s.disks = c.deref.ensures.value ∙ ap (λ (x : Setting). x.disks) c.self.view_is in
    let phys : c.deref-2.result.now ≡ s.phys = c.deref-2.ensures.value ∙ ap (λ (x : Setting). x.phys) c.self.view_is in
    let cause = subst (λ ds. IsCause (system_refusal ds s.phys) fault) disks (subst (λ ps. IsCause (system_refusal c.deref.result.now ps) fault) phys c.in-Err.ensures.refused) in
    c.in_default.not-OutOfMemory (only_memory s fault c.requires cause)

pub returns-in-Ok : goal.returns-in-Ok
returns-in-Ok c =
    let s = c.args.self.now in
    let disks : c.deref.result.now ≡ s.disks = c.deref.ensures.value ∙ ap (λ (x : Setting). x.disks) c.self.view_is in
    let phys : c.deref-2.result.now ≡ s.phys = c.deref-2.ensures.value ∙ ap (λ (x : Setting). x.phys) c.self.view_is in
    let queues : c.self.inside.queues ≡ s.queues = ap (λ (x : Setting). x.queues) c.self.view_is in
    c.in-Ok.ensures.made ∙ (ap (λ ds. made_of ds c.deref-2.result.now c.self.inside.queues) disks
    ∙ (ap (λ ps. made_of s.disks ps c.self.inside.queues) phys ∙ ap (λ q. made_of s.disks s.phys q) queues))
