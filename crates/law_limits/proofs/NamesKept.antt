-- The host's tables name handles of disks alone, over every case.
use Rattle.std.proofs.Common.{List, [], ◌∷◌}
use Rattle.std.specs.Prelude.{All}
use Rattle.std.proofs.lemmas.List.Elements.{All-cons, All-head, All-nil, All-tail}
use Rattle.smid_pool.specs.Pool.{Free, Open, Parked, Slot}
use Rattle.mpt_trace.specs.declared.item.Down.{Down}
use Rattle.mpt_trace.specs.declared.item.Down.TheVariants as down
use Rattle.mpt_rules.specs.declared.request.Request.{Request}
use Rattle.mpt_rules.specs.declared.request.Request.TheVariants as request
use Rattle.mpt_rules.specs.Host.Returns.{after_sent}
use Rattle.mpt_rules.specs.Law.{NothingIsStrange}
use Rattle.mpt_rules.specs.World.Cases.{Case, happens}
use Rattle.mpt_rules.specs.World.State.{World}
use Rattle.law_facts.specs.Facts.{Facts}
use Rattle.law_facts.specs.History.{History}
use Rattle.law_facts.specs.Limits.{RecordFits, WaitFits}
use Rattle.law_flights.proofs.HostMoves.{along, input_is_moves, item_is_moves, look_is_moves, stop_is_moves}
use Rattle.law_moves.proofs.Cases.{Owes, kept}
use Rattle.law_records.proofs.Recorded.{fits}
use Rattle.law_limits.specs.HandlesNamed.{HandlesNamed, NamesDiskHandle, WaitNamesDiskHandle}
use Rattle.law_limits.proofs.HostNames.{Names, move_names}

names : (x : Slot Request) → RecordFits x → NamesDiskHandle x
names Free f = tt
names Parked f = tt
names (Open (request.Leave handle)) f = f
names (Open (request.Page handle)) f = f
names (Open (request.Remove handle)) f = f
names (Open (request.Ack event context)) f = tt
names (Open (request.Command n)) f = tt
names (Open (request.Abort n task)) f = tt
names (Open (request.TargetReset address)) f = tt
names (Open request.Notification) f = tt
names (Open request.PortEnable) f = tt

pub each : {X : Type 0} (P Q : X → Type 0) → ((x : X) → P x → Q x) → (xs : List X) → All P xs → All Q xs
each P Q g [] a = All-nil Q
each P Q g (x ∷ xs) a = All-cons Q x xs (g x (All-head P x xs a)) (each P Q g xs (All-tail P x xs a))

module _ (w : World) (h : History) (f : Facts w h) (plain : NothingIsStrange w) where
  here : Names w.host
  here = record { handles = f.flights.sizes.phases; commands = f.limits.cmds; records = each RecordFits NamesDiskHandle names w.host.pool f.limits.records; leaving = f.handles.waits.handles; waits = each WaitFits WaitNamesDiskHandle (λ r. names (Open r)) w.host.wait_internal f.limits.waits }

  sent : (x : Down) (rest : List Down) → Names (after_sent w.host x rest)
  sent (down.Return address index) rest = here
  sent (down.Write reg value) rest = here
  sent (down.Read reg) rest = here
  sent (down.Post d g p) rest = here
  sent down.Stop rest = here

  owed : Owes (λ k. Names k.host) w
  owed =
      record {
        host_puts = λ x rest e. sent x rest;
        host_takes = λ queue x rest e y. along Names move_names w.host _ (item_is_moves w.host queue x (fits w h f)) here;
        host_told = λ i g. along Names move_names w.host _ (input_is_moves w.host i) here;
        host_looks = λ e. along Names move_names w.host _ (look_is_moves w.host) here;
        host_stops = λ e. along Names move_names w.host _ (stop_is_moves w.host) here;
        ioc_takes = λ x rest e. here;
        ioc_high = λ p rest e. here;
        ioc_normal = λ p rest e. here;
        ioc_puts_out = λ x rest e. here;
        ioc_takes_back = λ x rest e. here;
        ioc_puts = λ queue y rest z e u. here;
        fabric_takes = λ x rest e. here;
        fabric_says = λ x rest e. here;
        fabric_puts = λ x rest e. here;
        fabric_runs = λ tag address e. here;
        plugs = λ address expander phy. here;
        unplugs = λ address. here;
        calms = here;
      }

  pub names_kept : (c : Case) → HandlesNamed (happens w c)
  names_kept c = let z = kept (λ k. Names k.host) w plain owed here c in record { records = z.records; waits = z.waits; cmds = λ n d e. z.commands n d e }
