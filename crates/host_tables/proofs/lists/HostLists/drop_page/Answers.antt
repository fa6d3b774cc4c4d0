use Rattle.std.proofs.Common.{◌≡◌, not, refl, rules, arith}
use borrow.Author.Tests.{tests}
use Rattle.std.proofs.lemmas.Fn.{filter_same}
use Rattle.mpt_rules.specs.declared.request.Request.{Request}
use Rattle.mpt_rules.specs.Host.Removal.{is_page_of, without_page}
use Rattle.host_tables.specs.Slots.{is_internal}
use Rattle.host_tables.proofs.WaitingRequests.{list_all-filter}
use Rattle.host_tables.proofs.lists.HostLists.drop_page.Goals as goal

pub invariant_of-self : goal.invariant_of-self
invariant_of-self c =
    let kept : c.retain.new.self.items ≡ without_page c.args.handle c.self.inside.internal.items =
    filter_same _ (λ (r : Request). not (is_page_of c.args.handle r)) _ (λ x b f k. search (rules, tests)) c.self.inside.internal.items c.retain.new.self.items c.retain.ensures.filtered in (
      c.self.invariant.0,
      c.self.invariant.1,
      c.self.invariant.2,
      omega (arith, c.retain.ensures.bound, c.retain.ensures.capacity, c.self.invariant.3),
      rw kept (list_all-filter is_internal (λ (r : Request). not (is_page_of c.args.handle r)) c.self.inside.internal.items c.self.invariant.4),
    )

pub returns : goal.returns
returns c =
    let kept : c.retain.new.self.items ≡ without_page c.args.handle c.self.inside.internal.items =
    filter_same _ (λ (r : Request). not (is_page_of c.args.handle r)) _ (λ x b f k. search (rules, tests)) c.self.inside.internal.items c.retain.new.self.items c.retain.ensures.filtered in
    rw (kept, ← c.self.view_is) refl
