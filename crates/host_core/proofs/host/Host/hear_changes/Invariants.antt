use Rattle.std.proofs.Common.{◌≡◌, ◌≤◌, ◌+◌, ◌*◌, ◌++◌, true}
use Rattle.mpt_wire.specs.Messages.Fields.{changes_from}
use Rattle.mpt_rules.specs.Host.Removal.{hears_changes}
use Rattle.mpt_rules.specs.Host.Replies.{reply_bytes}
use Rattle.host_core.proofs.Changes.{heard_from}
use Rattle.host_core.proofs.host.Host.hear_changes.Given as goal

abbrev pub invariant-loop-place : goal.invariant-loop-place
invariant-loop-place l =
    ((hears_changes l.initial.self.host (changes_from (reply_bytes l.reply) 0x28 l.place-end)).part ≡ (heard_from l.self.host (reply_bytes l.reply) l.place l.place-end).part)
    × (l.initial.self.told ++ (hears_changes l.initial.self.host (changes_from (reply_bytes l.reply) 0x28 l.place-end)).entries ≡ l.self.told ++ (heard_from l.self.host (reply_bytes l.reply) l.place l.place-end).entries)
    × (l.initial.self.room ≤ l.self.room + 2 * l.place)
    × (l.initial.self.has_number_room ≡ true → l.self.has_number_room ≡ true)
