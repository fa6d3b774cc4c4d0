-- Whether a life is fair, by its bools and numbers alone.
use Rattle.std.proofs.Common.{◌≡◌, ℕ, zero, suc, ◌+◌, ◌-◌, ◌<◌, ◌≤◌, ◌==◌, ◌&&◌, ◌||◌, ◌⊎◌, inl, inr, nat_le, not, Bool, true, false, if◌then◌else◌, List, [], ◌∷◌, map, slice_get, Option, Some, None, is_some, refl, ap, sym, ◌∙◌, subst, arith}
use Rattle.std.specs.Prelude.{All}
use Rattle.std.specs.List.{sum_by}
use Rattle.std.proofs.lemmas.Bool.{eqb-true}
use Rattle.std.proofs.lemmas.List.Elements.{All-head, All-tail}
use Rattle.smid_pool.specs.Pool.{Slot, Free, Open, Parked}
use Rattle.mpt_trace.specs.declared.entry.Entry.{Entry}
use Rattle.mpt_trace.specs.declared.entry.Entry.TheVariants as entry
use Rattle.mpt_trace.specs.declared.item.Down.{Down}
use Rattle.mpt_trace.specs.declared.item.Down.TheVariants as downward
use Rattle.mpt_trace.specs.declared.item.Item.TheVariants as item
use Rattle.mpt_trace.specs.declared.item.Out.{Out}
use Rattle.mpt_trace.specs.declared.item.Out.TheVariants as out
use Rattle.mpt_trace.specs.declared.item.Up.{Up}
use Rattle.mpt_trace.specs.declared.item.Up.TheVariants as upward
use Rattle.mpt_trace.specs.declared.lane.LaneName.TheVariants as lane
use Rattle.scsi_disk.specs.declared.command.Command.{Command}
use Rattle.mpt_wire.specs.Messages.Fields.{address_descriptor, reply_frame_address, smid_in, success_descriptor, termination_count_in}
use Rattle.mpt_wire.specs.Messages.Naming.{AResult, NotThere, Says, Stopped, is_abort_of, names_command, said_in}
use Rattle.mpt_wire.specs.Paths.Commands.{Live}
use Rattle.mpt_wire.specs.Paths.Stops.{AbortIsPut, AbortIsReplied, HasTask, IsAwaited, IsFair, IsReplied, LifeMark, StopAsks, StopLife, abort_replied, is_post_sent, took_out, life_after, life_mark, life_with, stopping_next}
use Rattle.mpt_wire.specs.Paths.TerminationCounts.{AReset, AnAbort, Awaited, Counted, HighPost, NoPost, NotSent, Progress, Replied, count_of}
use Rattle.mpt_wire.specs.Walks.Passes.{EachEntry, Passes}
use Rattle.mpt_rules.specs.declared.request.Request.{Request}
use Rattle.mpt_rules.specs.declared.request.Request.TheVariants as request
use Rattle.mpt_rules.specs.declared.said.Said.{Said}
use Rattle.mpt_rules.specs.declared.said.Said.TheVariants as said
use Rattle.mpt_rules.specs.Host.Takes.{hears_up}
use Rattle.mpt_rules.specs.Ioc.Places.{is_reply_of}
use Rattle.mpt_rules.specs.Ioc.Replies.{outbox_of}
use Rattle.mpt_rules.specs.Ioc.Sending.{framed_up, up_of}
use Rattle.mpt_rules.specs.Ioc.Steps as step
use Rattle.mpt_rules.specs.Ioc.Tables.{request_at}
use Rattle.mpt_rules.specs.Ioc.Takes as adapter
use Rattle.mpt_rules.specs.Law.{NothingIsStrange}
use Rattle.mpt_rules.specs.World.Cases.{Case, entries}
use Rattle.mpt_rules.specs.World.Counts.{how_many, one_if, reply_count}
use Rattle.mpt_rules.specs.World.Inputs.{host_told}
use Rattle.mpt_rules.specs.World.Lines.{said_of}
use Rattle.mpt_rules.specs.World.State.{World, up_lane, up_on}
use Rattle.mpt_rules.proofs.Counts.{reply_count-cons}
use Rattle.mpt_rules.proofs.FabricCounts.{sent_task_count-append, sent_task_count-cons}
use Rattle.law_facts.specs.Clock.{is_live}
use Rattle.law_facts.specs.Facts.{Facts}
use Rattle.law_facts.specs.Flights.{OneAtFabric}
use Rattle.law_facts.specs.History.{History, history_after}
use Rattle.law_facts.specs.Messages.{AnswersBy, IsLiveTask, OutIs, SaidIs}
use Rattle.law_facts.specs.Paths.{CountOfKind, StopsStand, is_held_slot, is_stop, is_unsent, stops, takes_out, taking_out, waiting_aborts, was_stopped}
use Rattle.law_facts.specs.Words.{is_command, is_command_asked, is_order, is_reply, slot}
use Rattle.law_flights.proofs.Descriptors.{smid_addressed, smid_succeeded}
use Rattle.law_flights.proofs.HostQuiet.{IsQuiet, quiet, quiet_taken}
use Rattle.law_flights.proofs.HostTold.{told_input}
use Rattle.law_flights.proofs.IocTold.{told_back, told_down, told_high, told_normal}
use Rattle.law_flights.proofs.Rising.{same_identifier}
use Rattle.law_moves.proofs.CasesTold.{IsPlugWord, OwesTold, kept_told}
use Rattle.law_moves.proofs.Counted.{how_many-cons}
use Rattle.law_messages.proofs.Agreeing.{all_last, same}
use Rattle.law_messages.proofs.Known.{classed}
use Rattle.law_messages.proofs.PostsKept.{live_is_open}
use Rattle.law_counts.proofs.CountsKept.{first_box}
use Rattle.law_counts.proofs.ProgressKept.{boxed}
use Rattle.law_stops.specs.Stops.{EndsAgree}
use Rattle.law_stops.proofs.OneEnd as ends
use Rattle.law_targets.specs.Targets.{NoOrdersBeforeInit}
use Rattle.law_stopping.proofs.Lives.{IsNothing, asks_nothing, asks_of, fair_behind, passes_nothing, plug_nothing, quiet_nothing}
use Rattle.law_stopping.proofs.Waiting as waits
use Rattle.law_stopping.proofs.Waiting.{HeldAt, Naming, command_held, first_of, first_stops, named_held, stops_less, sums_few, waiting_here}

-- ---- one life

-- a task is put of a command that no abort took out
pub tasked_fair : (l : StopLife) → IsFair l → l.taken_out ≡ 0 → IsFair (life_with l HasTask)
tasked_fair l f z = record { at_most_one = f.at_most_one; no_task = λ c. absurd (omega (arith, c, z)); no_other = f.no_other; one = λ a b. absurd (cc) }

pub put_fair : (l : StopLife) → IsFair l → IsFair (life_with l AbortIsPut)
put_fair l f = record { at_most_one = f.at_most_one; no_task = f.no_task; no_other = f.no_other; one = λ a b c. absurd (omega (arith, c)) }

pub stopped_fair : (l : StopLife) → IsFair l → (l.tasked ≡ false → l.waiting ≡ 0 → l.taken_out ≡ 1) → IsFair (record l { stopped = true })
stopped_fair l f o = record { at_most_one = f.at_most_one; no_task = f.no_task; no_other = f.no_other; one = λ a b c. o b c }

pub other_fair : (l : StopLife) → IsFair l → l.taken_out ≡ 0 → IsFair (record l { other = true })
other_fair l f z = record { at_most_one = f.at_most_one; no_task = f.no_task; no_other = λ c. absurd (omega (arith, c, z)); one = f.one }

-- of a bool that is one or none
pub one_of : (b : Bool) → 1 ≤ one_if b → b ≡ true
one_of true l = refl
one_of false l = absurd (omega (arith, l))

pub one_most : (b : Bool) → one_if b ≤ 1
one_most true = omega arith
one_most false = omega arith

pub second_not : (a b : Bool) → (a && not b) ≡ true → (a ≡ true) × (b ≡ false)
second_not true false e = (refl, refl)
second_not true true e = absurd (cc)
second_not false b e = absurd (cc)

pub either : (a b : Bool) → (a || b) ≡ true → (a ≡ true) ⊎ (b ≡ true)
either true b e = inl refl
either false b e = inr e

pub no_zero : (n : ℕ) → not (n == 0) ≡ true → 1 ≤ n
no_zero zero e = absurd (cc)
no_zero (suc n) e = omega arith

-- the reply to an abort of it: of bools and numbers alone
pub replied_fair : (k : StopLife) (b : Bool) → 1 ≤ k.waiting → k.taken_out + one_if b ≤ 1 → (1 ≤ k.taken_out + one_if b → (k.tasked ≡ false) × (k.other ≡ false)) → (k.stopped ≡ true → k.tasked ≡ false → k.waiting ≡ 1 → k.taken_out + one_if b ≡ 1)
    → IsFair (record k { waiting = k.waiting - 1; taken_out = if b then k.taken_out + 1 else k.taken_out })
replied_fair k true l m n o =
    record { at_most_one = omega (arith, m); no_task = λ c. (n (omega arith)).0; no_other = λ c. (n (omega arith)).1; one = λ x y z. o x y (omega (arith, l, z)) }
replied_fair k false l m n o =
    record { at_most_one = omega (arith, m); no_task = λ c. (n (omega (arith, c))).0; no_other = λ c. (n (omega (arith, c))).1; one = λ x y z. let a = o x y (omega (arith, l, z)) in omega (arith, a) }

pub asked_held : (x : Slot Request) → is_command_asked x ≡ true → is_held_slot x ≡ true
asked_held (Open (request.Command n)) e = refl
asked_held (Open (request.Abort n task)) e = absurd (cc)
asked_held (Open (request.TargetReset address)) e = absurd (cc)
asked_held (Open (request.Leave handle)) e = absurd (cc)
asked_held (Open (request.Page handle)) e = absurd (cc)
asked_held (Open (request.Remove handle)) e = absurd (cc)
asked_held (Open (request.Ack event context)) e = absurd (cc)
asked_held (Open request.Notification) e = absurd (cc)
asked_held (Open request.PortEnable) e = absurd (cc)
asked_held Free e = absurd (cc)
asked_held Parked e = absurd (cc)

pub replies : (s : ℕ) (x : Said) → is_reply_of s x ≡ true → is_reply x ≡ true
replies s (said.Framed q frame page sense) e = refl
replies s (said.Success q page sense) e = refl
replies s (said.Value value) e = absurd (cc)
replies s (said.Mark generation) e = absurd (cc)
replies s said.Calm e = absurd (cc)
