use Rattle.std.proofs.Common.{◌≡◌, not, filter, refl, rules}
use Rattle.std.proofs.lemmas.Fn.{filter_same}
use Rattle.mpt_rules.specs.declared.binding.Waiting.{Waiting}
use Rattle.mpt_rules.specs.Ioc.Bindings.{waits_at}
use borrow.Author.Tests.{tests}
use Rattle.ioc_core.proofs.DiskLists.{AreDisks-stop}
use Rattle.ioc_core.proofs.disks.Disks.stop_waiting.Goals as goal

pub invariant_of-self : goal.invariant_of-self
invariant_of-self c =
    let is : c.retain.new.self.items ≡ filter (λ (disk : Waiting). not (waits_at c.args.address disk)) c.self.inside.waiting.items =
    filter_same _ (λ (disk : Waiting). not (waits_at c.args.address disk)) _ (λ x b f k. search (rules, tests)) c.self.inside.waiting.items c.retain.new.self.items c.retain.ensures.filtered in
    rw is (AreDisks-stop c.self.inside.bindings c.self.inside.waiting.items c.self.invariant c.args.address)

pub returns : goal.returns
returns c =
    let is : c.retain.new.self.items ≡ filter (λ (disk : Waiting). not (waits_at c.args.address disk)) c.self.inside.waiting.items =
    filter_same _ (λ (disk : Waiting). not (waits_at c.args.address disk)) _ (λ x b f k. search (rules, tests)) c.self.inside.waiting.items c.retain.new.self.items c.retain.ensures.filtered in
    rw (is, ← c.self.view_is) refl
