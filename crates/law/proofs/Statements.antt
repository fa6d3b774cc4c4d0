-- What the law states of a trace that passes every rule.
use Rattle.std.proofs.Common.{◌≡◌, List, None}
use Rattle.mpt_trace.specs.declared.entry.Entry.{Entry}
use Rattle.mpt_wire.specs.Handles.Plugs.{nothing_bound, served_next}
use Rattle.mpt_wire.specs.OnWire.{HandlesOnWire, MessagesOnWire, QueuesOnWire}
use Rattle.mpt_wire.specs.Paths.Rules.{PathsKept}
use Rattle.mpt_wire.specs.Walks.Passes.{state_after}
use Rattle.mpt_wire.proofs.HandlesOnWire.{handles_on_wire, messages_on_wire, queues_on_wire}
use Rattle.mpt_wire.proofs.PathRules.{paths_kept}
use Rattle.mpt_wire.proofs.Views.{view_is_run}
use Rattle.mpt_wire.proofs.WireCycles.{frames_in_cycles, identifiers_in_cycles}
use Rattle.mpt_rules.specs.World.Settings.{Setting}
use Rattle.law_facts.specs.History.{first_history}
use Rattle.law.specs.Passed.{CarriedByRules, Passed}

module _ (s : Setting) (t : List Entry) (p : Passed s.queues (first_history s.disks) t) (none_due : (state_after served_next nothing_bound t).due ≡ None) where
  handles : HandlesOnWire t
  handles = handles_on_wire t (record {
    plugs = record { passes = p.served; ended = none_due };
    unbinds = p.unbinds;
    pages = p.pages;
    posts = p.posts;
    tasks = p.tasks;
    leaving = p.leaving;
  })

  queues : QueuesOnWire s.queues t
  queues = queues_on_wire s.queues t (record { replies = p.lanes; marks = p.marks })

  messages : MessagesOnWire s.queues t
  messages = messages_on_wire s.queues t (record { frames = p.messages; doorbell = p.doorbell })

  paths : PathsKept t
  paths = paths_kept t (record { paths = p.walks; replies = p.tells; counts = p.counts; stops = p.stops })

  pub carried : CarriedByRules s t
  carried = record {
    identifiers = (identifiers_in_cycles t p.identifiers, p.classes);
    frames = frames_in_cycles t p.frames;
    served = handles.plugs;
    removed = (handles.unbinds, handles.leaving);
    pages = (handles.pages, handles.posts);
    tasks = handles.tasks;
    messages = messages.frames;
    handshakes = messages.doorbell;
    paths = paths.paths;
    results = paths.replies;
    counts = (paths.counts, paths.stops);
    queues = (queues.replies, queues.marks);
    tied = record { told = p.told; resets = p.resets.passes; indices = p.indices; frames = p.ring; status = p.bell; identifiers = p.given };
    disks = view_is_run s.disks t p.machine;
  }
