use Rattle.std.proofs.Common.{arith, subst, sym, ap, ◌∙◌, ◌≤◌, ◌*◌, ◌+◌, ◌-◌, length}
use Rattle.mpi_doorbell.proofs.Exchanges.{asked_now, collected, taken_last, taken_more}
use Rattle.mpi_doorbell.specs.Handshake.{asked_by, dword_taken}
use Rattle.mpi_doorbell.specs.Exchange.{handshake_of, IsSound}
use Rattle.mpi_doorbell.proofs.exchange.Exchange.take_dword.Goals as goal

pub returns-then-missing-gt1-clause-after : goal.returns-then-missing-gt1-clause-after
returns-then-missing-gt1-clause-after c =
    let sound = subst IsSound c.in-Collects.is c.self.invariant in
    let within : 4 * c.in-Collects.got ≤ length c.self.inside.bytes = omega (arith, sound) in
    let after = collected c.in-Collects.got c.from-at.result (128 - 4 * c.from-at.result) (4 * (c.in-Collects.got + 1)) c.args.dword c.self.inside.bytes c.write_u32.new.buf _ c.from-at.ensures (omega arith) within c.write_u32.ensures in
    taken_more c.in-Collects.got c.in-Collects.missing c.args.dword c.self.inside.bytes _ c.if-missing-gt1.true after
    ∙ sym (ap (λ p. dword_taken (handshake_of p c.self.inside.bytes) c.args.dword) c.in-Collects.is)
    ∙ ap (λ h. dword_taken h c.args.dword) c.self.view_is

pub returns-clause-after : goal.returns-clause-after
returns-clause-after c =
    let sound = subst IsSound c.in-Collects.is c.self.invariant in
    let within : 4 * c.in-Collects.got ≤ length c.self.inside.bytes = omega (arith, sound) in
    let after = collected c.in-Collects.got c.from-at.result (128 - 4 * c.from-at.result) (4 * (c.in-Collects.got + 1)) c.args.dword c.self.inside.bytes c.write_u32.new.buf _ c.from-at.ensures (omega arith) within c.write_u32.ensures in
    taken_last c.in-Collects.got c.in-Collects.missing c.args.dword c.self.inside.bytes _ c.if-missing-gt1.false after
    ∙ sym (ap (λ p. dword_taken (handshake_of p c.self.inside.bytes) c.args.dword) c.in-Collects.is)
    ∙ ap (λ h. dword_taken h c.args.dword) c.self.view_is

pub returns-clause-effect : goal.returns-clause-effect
returns-clause-effect c =
    let sound = subst IsSound c.in-Collects.is c.self.invariant in
    let within : 4 * c.in-Collects.got ≤ length c.self.inside.bytes = omega (arith, sound) in
    let after = collected c.in-Collects.got c.from-at.result (128 - 4 * c.from-at.result) (4 * c.from-at.result + 4) c.args.dword c.self.inside.bytes c.write_u32.new.buf _ c.from-at.ensures (omega arith) within c.write_u32.ensures in
    asked_now c.in-Collects.got c.in-Collects.missing c.args.dword c.self.inside.bytes _ c.pad.result c.if-missing-gt1.false within after c.pad.ensures
    ∙ sym (ap (λ p. asked_by (handshake_of p c.self.inside.bytes) c.args.dword) c.in-Collects.is)
    ∙ ap (λ h. asked_by h c.args.dword) c.self.view_is
