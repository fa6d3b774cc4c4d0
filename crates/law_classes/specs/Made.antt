-- What the rule on the identifiers of posts asks of a case's entries, and what no fact says of the event notification.
use Rattle.std.specs.Prelude.{◌≡◌, ℕ, All, List, false}
use Rattle.smid_pool.specs.Pool.{Open, least_free}
use Rattle.smid_pool.specs.declared.class.Class.TheVariants as class
use Rattle.mpi_rings.specs.declared.request_descriptor.PostKind.TheVariants as post
use Rattle.mpt_trace.specs.declared.entry.Entry.{Entry}
use Rattle.mpt_wire.specs.Queues.Identifiers.{first_smid}
use Rattle.mpt_wire.specs.Queues.LeastPosts.{GivingAsks, giving_next, least_of}
use Rattle.mpt_wire.specs.Walks.Ahead.{PassesAhead}
use Rattle.mpt_rules.specs.declared.request.Request.{Request}
use Rattle.mpt_rules.specs.declared.request.Request.TheVariants as request
use Rattle.mpt_rules.specs.World.State.{World}
use Rattle.law_facts.specs.History.{History}
use Rattle.law_facts.specs.Ties.{is_unput_notification}
use Rattle.law_facts.specs.Words.{slot}

-- an event notification is open under the first identifier of its class alone
abbrev pub NotificationsAreFirst : World → Type 0
NotificationsAreFirst w = (s : ℕ) → slot w.host s ≡ Open request.Notification → s ≡ first_smid post.Default

-- each post that is put is the one that was made first, of its class
abbrev pub PutAsMade : History → List Entry → Type 0
PutAsMade h t = PassesAhead giving_next GivingAsks h.giving t

-- the request isn't an event notification
abbrev pub IsNoNotification : Request → Type 0
IsNoNotification request.Notification = ⊥
IsNoNotification _ = Unit {0}

-- so it is, and none waits for an identifier
pub record NotificationsStand (w : World) : Type 0 where
  pub first : NotificationsAreFirst w
  pub waiting : All IsNoNotification w.host.wait_internal

-- each event notification that is open was put
abbrev pub NotificationsArePut : World → Type 0
NotificationsArePut w = (s : ℕ) → is_unput_notification w s (slot w.host s) ≡ false

-- the least identifier of the rule is the one that the host gives next
pub record LeastsAgree (w : World) (h : History) : Type 0 where
  pub high : least_of post.HighPriority h.giving.high ≡ least_free class.High w.host.pool
  pub internal : NotificationsArePut w → least_of post.Default h.giving.internal ≡ least_free class.Internal w.host.pool
