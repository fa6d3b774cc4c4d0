-- The host accepts a submission only as it is submitted.
use Rattle.std.proofs.Common.{◌≡◌, ℕ, Bool, true, false, if◌then◌else◌, List, [], ◌∷◌, ◌++◌, map, take, Option, Some, None, slice_set, ◌&&◌, refl, subst}
use Rattle.std.specs.FinMap as finmap
use Rattle.std.specs.Prelude.{filter_map}
use Rattle.std.specs.List.{cons_option}
use Rattle.smid_pool.specs.Pool.{Free, Open, Parked, Slot}
use Rattle.mpi_doorbell.specs.HostDoor.{HostDoor}
use Rattle.mpi_doorbell.specs.declared.step.DoorStep.{DoorStep}
use Rattle.mpi_doorbell.specs.declared.step.DoorStep.TheVariants as step
use Rattle.mpt_wire.specs.Messages.Fields.{smid_in}
use Rattle.mpt_wire.specs.Walks.Passes.{EachEntry}
use Rattle.mpt_trace.specs.declared.entry.Entry.{Entry}
use Rattle.mpt_trace.specs.declared.entry.Entry.TheVariants as entry
use Rattle.mpt_trace.specs.declared.item.Up.{Up}
use Rattle.mpt_trace.specs.declared.item.Up.TheVariants as upward
use Rattle.mpt_rules.specs.declared.request.Request.{Request}
use Rattle.mpt_rules.specs.declared.request.Request.TheVariants as request
use Rattle.mpt_rules.specs.declared.stage.Stage.{Stage}
use Rattle.mpt_rules.specs.declared.stage.Stage.TheVariants as stage
use Rattle.mpt_rules.specs.Host.Doorbell.{next_turn, puts_turn}
use Rattle.mpt_rules.specs.Host.Parts.{Host}
use Rattle.mpt_rules.specs.Host.Replies as replies
use Rattle.mpt_rules.specs.Host.Resets as resets
use Rattle.mpt_rules.specs.Host.Takes.{hears_up}
use Rattle.mpt_rules.specs.Host.Values as values
use Rattle.law_messages.proofs.Requests.{IsNoAccept, IsTame, tame_no_accept}
use Rattle.law_messages.proofs.TameTold as tame

pub tame_none : (t : List Entry) → EachEntry IsTame t → EachEntry IsNoAccept t
tame_none [] a = tt
tame_none (e ∷ t) a = (tame_no_accept e a.0, tame_none t a.1)

both_none : (t u : List Entry) → EachEntry IsNoAccept t → EachEntry IsNoAccept u → EachEntry IsNoAccept (t ++ u)
both_none [] u a b = b
both_none (e ∷ t) u a b = (a.0, both_none t u a.1 b)

answers_none : (ns : List ℕ) → EachEntry IsNoAccept (map resets.reset_answer ns)
answers_none [] = tt
answers_none (n ∷ ns) = (tt, answers_none ns)

aborts_none : (ns : List ℕ) → EachEntry IsNoAccept (map resets.reset_abort ns)
aborts_none [] = tt
aborts_none (n ∷ ns) = (tt, aborts_none ns)

targets_none : (rs : List (Slot Request)) → EachEntry IsNoAccept (filter_map resets.reset_target rs)
targets_none [] = tt
targets_none (r ∷ rs) = one r (filter_map resets.reset_target rs) (targets_none rs)
  where
    one : (r : Slot Request) (t : List Entry) → EachEntry IsNoAccept t → EachEntry IsNoAccept (cons_option (resets.reset_target r) t)
    one (Open (request.TargetReset address)) t a = (tt, a)
    one (Open (request.Command n)) t a = a
    one (Open (request.Abort n task)) t a = a
    one (Open (request.Leave handle)) t a = a
    one (Open (request.Page handle)) t a = a
    one (Open (request.Remove handle)) t a = a
    one (Open (request.Ack event context)) t a = a
    one (Open request.Notification) t a = a
    one (Open request.PortEnable) t a = a
    one Free t a = a
    one Parked t a = a

reset_none : (host : Host) → EachEntry IsNoAccept (resets.reset_told host)
reset_none host =
    both_none (map resets.reset_answer (finmap.keys host.cmds)) _ (answers_none (finmap.keys host.cmds))
    (both_none (map resets.reset_abort (finmap.keys host.aborts)) _ (aborts_none (finmap.keys host.aborts))
    (both_none (filter_map resets.reset_target host.pool) (entry.ResetDone ∷ []) (targets_none host.pool) (tt, tt)))

over : (host : Host) → EachEntry IsNoAccept (resets.ends_reset_if_over host).entries
over host = by_end (host.door_ready && resets.has_all_marks host)
  where
    by_end : (b : Bool) → EachEntry IsNoAccept (if b then resets.ends_reset host else record { part = host; entries = [] }).entries
    by_end true = reset_none host
    by_end false = tt

of_stage : (host : Host) (s : Stage) (bytes : List ℕ) → EachEntry IsNoAccept (values.ends_stage host s bytes).entries
of_stage host stage.Idle bytes = tt
of_stage host stage.Start bytes = tt
of_stage host stage.StartReset bytes = tt
of_stage host stage.Facts bytes = tt
of_stage host stage.PortFacts bytes = tt
of_stage host stage.Init bytes = tt
of_stage host stage.Look bytes = tt
of_stage host stage.DiagnosticReset bytes = over (record host { door_ready = true })
of_stage host stage.UnitReset bytes = over (record host { door_ready = true })

of_turn : (host : Host) (s : Stage) (d : DoorStep) → EachEntry IsNoAccept (values.after_turn host s d).entries
of_turn host s (step.Done count bytes) = of_stage host s (take count bytes)
of_turn host s (step.Read reg) = tt
of_turn host s (step.Write reg value) = tt
of_turn host s (step.Refused at value) = tt

of_value : (host : Host) (door : Option HostDoor) (value : ℕ) → EachEntry IsNoAccept (values.hears_value_at host door value).entries
of_value host None value = tt
of_value host (Some door) value = of_turn (puts_turn host (next_turn door (Some value))) host.stage (next_turn door (Some value)).step

of_reply : (host : Host) (smid : ℕ) (o : Option Request) (v : replies.Heard) → EachEntry IsNoAccept (replies.hears_reply_to host smid o v).entries
of_reply host smid None v = tame_none (replies.hears_reply_to host smid None v).entries (tame.reply_tame host smid None v (λ r e. absurd (cc)))
of_reply host smid (Some r) v = by_request r
  where
    some_is : (r q : Request) → Some r ≡ Some q → tame.is_command r ≡ false → tame.is_command q ≡ false
    some_is r q e n = let a : r ≡ q = cc in subst (λ x. tame.is_command x ≡ false) a n

    others : (r : Request) → tame.is_command r ≡ false → EachEntry IsNoAccept (replies.hears_reply_to host smid (Some r) v).entries
    others r n = tame_none (replies.hears_reply_to host smid (Some r) v).entries (tame.reply_tame host smid (Some r) v (λ q e. some_is r q e n))

    by_request : (r : Request) → EachEntry IsNoAccept (replies.hears_reply_to host smid (Some r) v).entries
    by_request (request.Command n) = (tt, tt)
    by_request (request.Abort n task) = (tt, tt)
    by_request (request.TargetReset address) = (tt, tt)
    by_request (request.Leave handle) = others (request.Leave handle) refl
    by_request (request.Page handle) = others (request.Page handle) refl
    by_request (request.Remove handle) = others (request.Remove handle) refl
    by_request (request.Ack event context) = others (request.Ack event context) refl
    by_request request.Notification = others request.Notification refl
    by_request request.PortEnable = others request.PortEnable refl

pub taken_none : (host : Host) (queue : ℕ) (x : Up) → EachEntry IsNoAccept (hears_up host queue x).entries
taken_none host queue (upward.Value value) = of_value (record host { reading = false }) host.machine value
taken_none host queue (upward.Reply d f page sense) = of_reply (replies.takes_entry (replies.with_frame_heard host d f) queue) (smid_in d) (replies.request_of host (smid_in d)) (replies.heard_of d f page sense)
taken_none host queue (upward.Mark generation) = over (record host { marks = slice_set host.marks queue true })
taken_none host queue upward.Calm = tt
