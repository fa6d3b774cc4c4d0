use Rattle.std.proofs.Common.{◌≡◌, refl, rules}
use Rattle.std.specs.List.{filter}
use borrow.Author.Tests.{tests}
use Rattle.std.proofs.lemmas.Fn.{filter_same}
use Rattle.mpt_rules.specs.Host.Resets.{is_no_post}
use Rattle.host_tables.proofs.SlotTables.{not_twice}
use Rattle.host_tables.proofs.lists.HostLists.drop_posts.Goals as goal

pub returns : goal.returns
returns c =
    let kept : c.retain.new.self.items ≡ filter is_no_post c.self.inside.down.items =
    filter_same _ is_no_post _ (λ x b f k. grind (rules, tests, not_twice, k)) c.self.inside.down.items c.retain.new.self.items c.retain.ensures.filtered in
    rw (kept, c.clear.ensures.items, c.clear-2.ensures.items, ← c.self.view_is) refl
