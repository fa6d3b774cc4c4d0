use Rattle.std.proofs.Common.{◌≡◌, ◌++◌, sym, ap, ◌∙◌, subst, append-nil}
use Rattle.mpt_rules.specs.Host.Takes.{host_aborts, host_submits}
use Rattle.mpt_system.specs.Asking.{HasAsked, host_asked, without_smid}
use Rattle.mpt_system.proofs.Asked.{abort_refuses, abort_silent, asked_by_smid, on_ok, submit_refuses}
use Rattle.mpt_system.proofs.inputs.ask_host.Goals as goal

pub returns-in_ok-command-in-Submit : goal.returns-in_ok-command-in-Submit
returns-in_ok-command-in-Submit c =
    let old = c.args.host.now in
    let said = c.submit.ensures in
    let heard = c.refused-in-Submit.ensures in
    subst (λ i. HasAsked old (host_asked old.host i) c.refused-in-Submit.result c.submit.new.self) (sym c.in-Submit.is)
    (subst (λ k. HasAsked old (without_smid (host_submits old.host c.in-Submit.n c.in-Submit.address k)) c.refused-in-Submit.result c.submit.new.self) c.in_ok-command-in-Submit.ensures
    (asked_by_smid old c.submit.new.self (host_submits old.host c.in-Submit.n c.in-Submit.address c.in_ok-command-in-Submit.command)
    (submit_refuses old.host c.in-Submit.n c.in-Submit.address c.in_ok-command-in-Submit.command)
    c.submit.result c.refused-in-Submit.result said.refused said.ok said.told said.stays heard.cause heard.granted heard.memory))

pub returns-in-Abort : goal.returns-in-Abort
returns-in-Abort c =
    let old = c.args.host.now in
    let said = c.abort.ensures in
    let heard = c.refused-in-Abort.ensures in
    let told : c.abort.new.self.told ≡ old.told ++ (host_aborts old.host c.in-Abort.n).told =
    said.told ∙ (sym (append-nil old.told) ∙ ap (λ ts. old.told ++ ts) (sym (abort_silent old.host c.in-Abort.n))) in
    subst (λ i. HasAsked old (host_asked old.host i) c.refused-in-Abort.result c.abort.new.self) (sym c.in-Abort.is)
    (asked_by_smid old c.abort.new.self (host_aborts old.host c.in-Abort.n) (abort_refuses old.host c.in-Abort.n)
    c.abort.result c.refused-in-Abort.result said.refused said.ok (on_ok c.abort.result _ told) said.stays heard.cause heard.granted heard.memory)
