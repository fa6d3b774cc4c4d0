use Rattle.std.proofs.Common.{◌≡◌, ℕ, ◌≢◌, ◌==◌, false, if◌then◌else◌, sym, arith}
use Rattle.std.proofs.lemmas.Bool.Decides.{nat_tests}
use Rattle.ioc_core.proofs.Works.{page_found, page_other}
use Rattle.ioc_core.proofs.ioc.Ioc.page_for.Goals as goal
use Rattle.ioc_core.proofs.ioc.Ioc.page_for.Goals.{then-ask-eq-MPI2_CONFIG_ACTION_PAGE_READ_CURRENT, else-ask-eq-MPI2_CONFIG_ACTION_PAGE_READ_CURRENT}

apart : (a : ℕ) → a ≢ 1 → (a == 1) ≡ false
apart a differs = grind (arith, nat_tests, differs)

pub returns-then-ask-ne0 : goal.returns-then-ask-ne0
returns-then-ask-ne0 c = λ frame stands. page_other c.args.ask.now frame stands c.args.self.now.part c.if-ask-ne0.true

pub returns-in_ok-page-in-Present : goal.returns-in_ok-page-in-Present
returns-in_ok-page-in-Present c = λ frame stands.
    let ask = c.args.ask.now in
    let most : c.if-ask-eq-MPI2_CONFIG_ACTION_PAGE_READ_CURRENT.most ≡ (if ask.action == 1 then ask.sge_length else 0) =
    elim c.if-ask-eq-MPI2_CONFIG_ACTION_PAGE_READ_CURRENT.branch [
      | then-ask-eq-MPI2_CONFIG_ACTION_PAGE_READ_CURRENT w ↦ rw w.if-ask-eq-MPI2_CONFIG_ACTION_PAGE_READ_CURRENT.true w.most-is
      | else-ask-eq-MPI2_CONFIG_ACTION_PAGE_READ_CURRENT w ↦ rw (apart ask.action w.if-ask-eq-MPI2_CONFIG_ACTION_PAGE_READ_CURRENT.false) w.most-is
    ] in
    page_found ask frame stands c.args.self.now.part c.in-Some.handle c.in-Present.address c.in-Present.plug c.in-Present.expander c.in-Present.phy c.if-ask-eq-MPI2_CONFIG_ACTION_PAGE_READ_CURRENT.most c.in_ok-page-in-Present.page
    c.if-ask-ne0.false (sym (c.in-Some.ensures frame stands)) (sym c.in-Present.ensures.value) most c.in_ok-page-in-Present.ensures
