-- Each open command is of bytes, and for unit 0: a submission is accepted as it was asked, and nothing else opens a command.
use Rattle.std.proofs.Common.{◌≡◌, ℕ, zero, suc, ◌<◌, ◌==◌, Bool, true, false, List, [], ◌∷◌, ◌++◌, replicate, Option, Some, None, refl, ap, sym, ◌∙◌, subst, arith}
use Rattle.std.specs.FinMap as finmap
use Rattle.std.specs.FinSet as finset
use Rattle.std.specs.Int.{byte_at, bytes_high_first}
use Rattle.std.specs.Ordering.{nat_cmp}
use Rattle.hex.specs.Hex.{IsBytes}
use Rattle.scsi_disk.specs.Command.{fits}
use Rattle.smid_pool.specs.Pool.{least_free}
use Rattle.smid_pool.specs.declared.class.Class.TheVariants as class
use Rattle.removal.specs.Handles.{ready_handle}
use Rattle.mpt_wire.specs.Machine.Causes.{is_up}
use Rattle.mpt_wire.specs.Machine.State.{OpenRequest}
use Rattle.mpt_wire.specs.Walks.Passes.{EachEntry}
use Rattle.mpt_trace.specs.Command.{cdb_of, command_named}
use Rattle.mpt_trace.specs.ReadingSchedule.{IsCommand}
use Rattle.mpt_trace.specs.declared.choice.Choice.{Choice}
use Rattle.mpt_trace.specs.declared.choice.Choice.TheVariants as choice
use Rattle.mpt_trace.specs.declared.command_form.CommandForm.{CommandForm}
use Rattle.mpt_trace.specs.declared.command_form.CommandForm.TheVariants as form
use Rattle.mpt_trace.specs.declared.entry.Entry.{Entry}
use Rattle.mpt_trace.specs.declared.entry.Entry.TheVariants as entry
use Rattle.mpt_trace.specs.declared.input.Input.{Input}
use Rattle.mpt_trace.specs.declared.input.Input.TheVariants as input
use Rattle.mpt_trace.specs.declared.item.Back.{Back}
use Rattle.mpt_trace.specs.declared.item.Down.{Down}
use Rattle.mpt_trace.specs.declared.item.Out.{Out}
use Rattle.mpt_trace.specs.declared.item.Up.{Up}
use Rattle.mpt_trace.specs.declared.refusal.RefusedCall.{RefusedCall}
use Rattle.mpt_trace.specs.declared.refusal.RefusedCall.TheVariants as call
use Rattle.mpt_rules.specs.declared.post.Post.{Post}
use Rattle.mpt_rules.specs.declared.why.Why.{Why}
use Rattle.mpt_rules.specs.Fabric.Calls as fab
use Rattle.mpt_rules.specs.Fabric.Parts.{Fabric}
use Rattle.mpt_rules.specs.Host.Inputs as inputs
use Rattle.mpt_rules.specs.Host.Strange.{why_strange}
use Rattle.mpt_rules.specs.Host.Takes.{hears_up, takes_unless}
use Rattle.mpt_rules.specs.Ioc.Sending.{front_out, front_up_on}
use Rattle.mpt_rules.specs.Ioc.Steps as step
use Rattle.mpt_rules.specs.Ioc.Takes as adapter
use Rattle.mpt_rules.specs.World.Cases.{Case, Chosen, FabricCalms, HostLooks, HostStops, Told, case_of, entries, moves_or_idles}
use Rattle.mpt_rules.specs.World.Inputs.{by_plug, by_result}
use Rattle.mpt_rules.specs.World.Moves as move
use Rattle.mpt_rules.specs.World.Settings.{IsCase, Setting}
use Rattle.mpt_rules.specs.World.State.{World, up_on, with_up}
use Rattle.mpt_rules.proofs.HostCalls.{aborts_by, resets_target_by, submits_by}
use Rattle.law_facts.specs.Facts.{Facts}
use Rattle.law_facts.specs.History.{History, first_history, history_after}
use Rattle.law_moves.proofs.HostWords.{EndsIt, HostTells, IsHostWord, Words, host_tells}
use Rattle.law_standing.proofs.FrameBytes.{append_bytes, cons_bytes, low_byte, none_bytes, zero_bytes}
use Rattle.law_messages.proofs.Keys.{get_inserted, get_other_inserted}
use Rattle.law_messages.proofs.ReadyPlug.{ready_plug}
use Rattle.law_messages.proofs.Requests.{IsNoAccept, IsTame, accepted_requests, requests_less, tame_no_accept}
use Rattle.law_messages.proofs.TameTold as tame
use Rattle.law_requests.specs.Bytes.{CommandsAreBytes, IsOfBytes}

-- ---- a command that is asked

high_bytes : (n x : ℕ) → IsBytes (bytes_high_first n x)
high_bytes zero x = none_bytes
high_bytes (suc n) x = cons_bytes (byte_at n x) (bytes_high_first n x) (low_byte n x) (high_bytes n x)

ten_bytes : (code lba blocks : ℕ) → code < 256 → IsBytes (Rattle.mpt_trace.specs.Command.transfer_10 code lba blocks)
ten_bytes code lba blocks l =
    append_bytes (code ∷ 0 ∷ bytes_high_first 4 lba) ((0 ∷ bytes_high_first 2 blocks) ++ 0 ∷ []) (cons_bytes code (0 ∷ bytes_high_first 4 lba) l (cons_bytes 0 (bytes_high_first 4 lba) (omega arith) (high_bytes 4 lba)))
    (append_bytes (0 ∷ bytes_high_first 2 blocks) (0 ∷ []) (cons_bytes 0 (bytes_high_first 2 blocks) (omega arith) (high_bytes 2 blocks)) (zero_bytes 1))

sixteen_bytes : (code lba blocks : ℕ) → code < 256 → IsBytes (Rattle.mpt_trace.specs.Command.transfer_16 code lba blocks)
sixteen_bytes code lba blocks l =
    append_bytes (code ∷ 0 ∷ bytes_high_first 8 lba) (bytes_high_first 4 blocks ++ 0 ∷ 0 ∷ []) (cons_bytes code (0 ∷ bytes_high_first 8 lba) l (cons_bytes 0 (bytes_high_first 8 lba) (omega arith) (high_bytes 8 lba)))
    (append_bytes (bytes_high_first 4 blocks) (0 ∷ 0 ∷ []) (high_bytes 4 blocks) (zero_bytes 2))

form_bytes : (f : CommandForm) → IsCommand f → IsBytes (cdb_of f)
form_bytes form.Tur c = zero_bytes 6
form_bytes (form.Inquiry len) c =
    append_bytes (0x12 ∷ 0 ∷ 0 ∷ bytes_high_first 2 len) (0 ∷ []) (cons_bytes 0x12 (0 ∷ 0 ∷ bytes_high_first 2 len) (omega arith) (cons_bytes 0 (0 ∷ bytes_high_first 2 len) (omega arith) (cons_bytes 0 (bytes_high_first 2 len) (omega arith) (high_bytes 2 len)))) (zero_bytes 1)
form_bytes form.Capacity c = cons_bytes 0x25 (replicate 9 0) (omega arith) (zero_bytes 9)
form_bytes (form.Read lba blocks) c = ten_bytes 0x28 lba blocks (omega arith)
form_bytes (form.Write lba blocks fill) c = ten_bytes 0x2a lba blocks (omega arith)
form_bytes (form.Read16 lba blocks) c = sixteen_bytes 0x88 lba blocks (omega arith)
form_bytes (form.Write16 lba blocks fill) c = sixteen_bytes 0x8a lba blocks (omega arith)
form_bytes (form.Raw cdb len) c = c.0

-- ---- entries without an accept

none_tame : (t : List Entry) → EachEntry IsTame t → EachEntry IsNoAccept t
none_tame [] a = tt
none_tame (e ∷ t) a = (tame_no_accept e a.0, none_tame t a.1)

none_append : (t u : List Entry) → EachEntry IsNoAccept t → EachEntry IsNoAccept u → EachEntry IsNoAccept (t ++ u)
none_append [] u a b = b
none_append (e ∷ t) u a b = (a.0, none_append t u a.1 b)

word_none : (e : Entry) → IsHostWord e → IsNoAccept e
word_none (entry.Accept n a s) w = w
word_none e w = tt

words_none : (t : List Entry) → EachEntry IsHostWord t → EachEntry IsNoAccept t
words_none [] a = tt
words_none (e ∷ t) a = (word_none e a.0, words_none t a.1)

tells_none : (t : List Entry) → HostTells t → EachEntry IsNoAccept t
tells_none t (Words a) = words_none t a
tells_none t (EndsIt told a e) = subst (EachEntry IsNoAccept) (sym e) (none_append told (entry.ResetDone ∷ []) (words_none told a) (tt, tt))

plug_none : (i : Input) (r : RefusedCall) (o : Option fab.PlugRefusal) (f : Fabric) → EachEntry IsNoAccept (by_plug i r o f).entries
plug_none i r None f = (tt, tt)
plug_none i r (Some fab.PlugRefusal.NoSuchDisk) f = tt
plug_none i r (Some fab.PlugRefusal.NoSuchPhy) f = tt
plug_none i r (Some fab.PlugRefusal.Occupied) f = (tt, (tt, tt))
plug_none i r (Some fab.PlugRefusal.AlreadyPlugged) f = (tt, (tt, tt))
plug_none i r (Some fab.PlugRefusal.PlugsSpent) f = (tt, (tt, tt))
plug_none i r (Some fab.PlugRefusal.NotPlugged) f = (tt, (tt, tt))

module _ (w : World) where
  host_put : (xs : List Down) → EachEntry IsNoAccept (moves_or_idles w choice.HostPut (move.host_puts w xs)).entries
  host_put [] = (tt, tt)
  host_put (x ∷ rest) = (tt, tt)

  host_took : (queue : ℕ) (x : Up) (rest : List Up) (y : Option Why) → EachEntry IsNoAccept (move.host_took (with_up w queue rest) queue x (takes_unless w.host queue x y)).entries
  host_took queue x rest None = (tt, tells_none (hears_up w.host queue x).entries (host_tells w.host queue x))
  host_took queue x rest (Some y) = (tt, tt)

  host_take : (c : Choice) (queue : ℕ) (xs : List Up) → EachEntry IsNoAccept (moves_or_idles w c (move.host_takes w queue xs)).entries
  host_take c queue [] = (tt, tt)
  host_take c queue (x ∷ rest) = host_took queue x rest (why_strange w.host queue x)

  take_above : (queue : ℕ) → EachEntry IsNoAccept (moves_or_idles w (choice.HostTakeOn queue) (move.host_takes_above w queue)).entries
  take_above zero = (tt, tt)
  take_above (suc queue) = host_take (choice.HostTakeOn (suc queue)) (suc queue) (up_on w (suc queue))

  ioc_take : (xs : List Down) → EachEntry IsNoAccept (moves_or_idles w choice.IocTake (move.ioc_takes w xs)).entries
  ioc_take [] = (tt, tt)
  ioc_take (x ∷ rest) = (tt, none_tame (adapter.takes_down w.ioc x).entries (tame.down_tame w.ioc x))

  high : (xs : List Post) → EachEntry IsNoAccept (moves_or_idles w choice.IocHigh (move.ioc_works w (step.steps_high_on w.ioc xs))).entries
  high [] = (tt, tt)
  high (p ∷ rest) = none_tame (step.works_on (record w.ioc { high = rest }) p).entries (tame.works_tame (record w.ioc { high = rest }) p)

  normal : (xs : List Post) → EachEntry IsNoAccept (moves_or_idles w choice.IocNormal (move.ioc_works w (step.steps_normal_on w.ioc xs))).entries
  normal [] = (tt, tt)
  normal (p ∷ rest) = none_tame (step.works_on (record w.ioc { normal = rest }) p).entries (tame.works_tame (record w.ioc { normal = rest }) p)

  out_put : (o : Option Out) → EachEntry IsNoAccept (moves_or_idles w choice.IocOut (move.ioc_puts_out w o)).entries
  out_put None = (tt, tt)
  out_put (Some x) = (tt, tt)

  back_take : (xs : List Back) → EachEntry IsNoAccept (moves_or_idles w choice.IocBack (move.ioc_takes_back w xs)).entries
  back_take [] = (tt, tt)
  back_take (x ∷ rest) = (tt, none_tame (adapter.takes_back w.ioc x).entries (tame.back_tame w.ioc x))

  up_put : (c : Choice) (queue : ℕ) (o : Option Up) → EachEntry IsNoAccept (moves_or_idles w c (move.ioc_puts w queue o)).entries
  up_put c queue None = (tt, tt)
  up_put c queue (Some x) = (tt, tt)

  put_above : (queue : ℕ) → EachEntry IsNoAccept (moves_or_idles w (choice.IocPutOn queue) (move.ioc_puts_above w queue)).entries
  put_above zero = (tt, tt)
  put_above (suc queue) = up_put (choice.IocPutOn (suc queue)) (suc queue) (front_up_on w.ioc (suc queue))

  out_take : (xs : List Out) → EachEntry IsNoAccept (moves_or_idles w choice.FabricTake (move.fabric_takes w xs)).entries
  out_take [] = (tt, tt)
  out_take (x ∷ rest) = (tt, tt)

  say : (xs : List Back) → EachEntry IsNoAccept (moves_or_idles w choice.FabricSay (move.fabric_says w (fab.says_first xs w.fabric))).entries
  say [] = (tt, tt)
  say (x ∷ rest) = tt

  back_put : (xs : List Back) → EachEntry IsNoAccept (moves_or_idles w choice.FabricPut (move.fabric_puts w xs)).entries
  back_put [] = (tt, tt)
  back_put (x ∷ rest) = (tt, tt)

  run : (tag : ℕ) (o : Option ℕ) (f : Fabric) → EachEntry IsNoAccept (moves_or_idles w (choice.FabricRun tag) (move.fabric_ran w tag o f)).entries
  run tag None f = (tt, tt)
  run tag (Some address) f = (tt, tt)

  chosen : (c : Choice) → EachEntry IsNoAccept (case_of w (Chosen c)).entries
  chosen choice.HostPut = host_put w.host.out
  chosen choice.HostTake = host_take choice.HostTake 0 (up_on w 0)
  chosen (choice.HostTakeOn queue) = take_above queue
  chosen choice.IocTake = ioc_take w.down
  chosen choice.IocHigh = high w.ioc.high
  chosen choice.IocNormal = normal w.ioc.normal
  chosen choice.IocOut = out_put (front_out w.ioc)
  chosen choice.IocBack = back_take w.back
  chosen choice.IocPut = up_put choice.IocPut 0 (front_up_on w.ioc 0)
  chosen (choice.IocPutOn queue) = put_above queue
  chosen choice.FabricTake = out_take w.out
  chosen choice.FabricSay = say w.fabric.notices
  chosen choice.FabricPut = back_put w.fabric.out
  chosen (choice.FabricRun tag) = run tag (fab.runs w.fabric tag).answer (fab.runs w.fabric tag).part

-- ---- each case

module _ (w : World) (h : History) (f : Facts w h) (bytes : CommandsAreBytes h) where
  by_none : (t : List Entry) → EachEntry IsNoAccept t → CommandsAreBytes (history_after h t)
  by_none t a n r e = bytes n r (requests_less n r (record { machine = h.machine; so_far = h.so_far }) t a e)

  by_tame : (t : List Entry) → EachEntry IsTame t → CommandsAreBytes (history_after h t)
  by_tame t a = by_none t (none_tame t a)

  accepted : (n address s : ℕ) (g : CommandForm) (handle : ℕ) → IsCommand g → is_up w.host.mode ≡ true → ready_handle w.host.phases address ≡ Some handle → CommandsAreBytes (history_after h (entry.Given (input.Submit n address g) ∷ entry.Accept n address s ∷ []))
  accepted n address s g handle c u e m r q = by_key (m == n) refl
    where
      after : finmap.get (finmap.insert h.machine.requests n (record { address = address; plug = (ready_plug w h f address handle u e).0; command = command_named g })) m ≡ Some r
      after = sym (ap (λ x. finmap.get x m) (accepted_requests (record { machine = h.machine; so_far = h.so_far }) n address (ready_plug w h f address handle u e).0 s g (ready_plug w h f address handle u e).1)) ∙ q

      by_key : (b : Bool) → (m == n) ≡ b → IsOfBytes r.command
      by_key false t = bytes m r (sym (get_other_inserted h.machine.requests n (record { address = address; plug = (ready_plug w h f address handle u e).0; command = command_named g }) m (Rattle.law_messages.proofs.Agreeing.differ m n t)) ∙ after)
      by_key true t =
          let z : Some (record { address = address; plug = (ready_plug w h f address handle u e).0; command = command_named g }) ≡ Some r =
          sym (get_inserted h.machine.requests n (record { address = address; plug = (ready_plug w h f address handle u e).0; command = command_named g })) ∙ (ap (finmap.get (finmap.insert h.machine.requests n (record { address = address; plug = (ready_plug w h f address handle u e).0; command = command_named g }))) (sym (Rattle.std.proofs.lemmas.Bool.eqb-true m n t)) ∙ after) in
          subst (λ (x : OpenRequest). IsOfBytes x.command) (same_request (record { address = address; plug = (ready_plug w h f address handle u e).0; command = command_named g }) r z) (form_bytes g c, refl)
        where
          same_request : (x y : OpenRequest) → Some x ≡ Some y → x ≡ y
          same_request x y e = cc

  submitted : (n address : ℕ) (g : CommandForm) → IsCommand g → (used up : Bool) (handle : Option ℕ) (fit : Bool) (o : Option ℕ) → is_up w.host.mode ≡ up → ready_handle w.host.phases address ≡ handle
      → CommandsAreBytes (history_after h (by_result (input.Submit n address g) (entry.RefuseSubmit n) (submits_by w.host n address (command_named g) used up handle fit o)).entries)
  submitted n address g c true up handle fit o u e = by_none (by_result (input.Submit n address g) (entry.RefuseSubmit n) (submits_by w.host n address (command_named g) true up handle fit o)).entries (tt, (tt, tt))
  submitted n address g c false false handle fit o u e = by_none (by_result (input.Submit n address g) (entry.RefuseSubmit n) (submits_by w.host n address (command_named g) false false handle fit o)).entries (tt, (tt, tt))
  submitted n address g c false true None fit o u e = by_none (by_result (input.Submit n address g) (entry.RefuseSubmit n) (submits_by w.host n address (command_named g) false true None fit o)).entries (tt, (tt, tt))
  submitted n address g c false true (Some x) false o u e = by_none (by_result (input.Submit n address g) (entry.RefuseSubmit n) (submits_by w.host n address (command_named g) false true (Some x) false o)).entries (tt, (tt, tt))
  submitted n address g c false true (Some x) true None u e = by_none (by_result (input.Submit n address g) (entry.RefuseSubmit n) (submits_by w.host n address (command_named g) false true (Some x) true None)).entries (tt, (tt, tt))
  submitted n address g c false true (Some x) true (Some s) u e = accepted n address s g x c u e

  told : (i : Input) → IsCase (Told i) → CommandsAreBytes (history_after h (entries w (Told i)))
  told input.Start c = by_tame (entries w (Told input.Start)) (tame.option_tame input.Start call.Start (inputs.starts w.host) (tame.starts_tame w.host w.host.mode))
  told (input.Submit n address g) c = submitted n address g c.2 (finset.contains w.host.accepted n) (is_up w.host.mode) (ready_handle w.host.phases address) (fits (command_named g)) (least_free class.ScsiIo w.host.pool) refl refl
  told (input.Abort n) c = by_tame (entries w (Told (input.Abort n))) (tame.result_tame (input.Abort n) (entry.Refuse (call.Abort n)) (aborts_by w.host n (is_up w.host.mode) (finmap.get w.host.cmds n) (finmap.get w.host.aborts n) (least_free class.High w.host.pool)) (λ x. tt) (tame.aborts_tame w.host n (is_up w.host.mode) (finmap.get w.host.cmds n) (finmap.get w.host.aborts n) (least_free class.High w.host.pool)))
  told (input.TargetReset address) c = by_tame (entries w (Told (input.TargetReset address))) (tame.result_tame (input.TargetReset address) (entry.Refuse (call.TargetReset address)) (resets_target_by w.host address (is_up w.host.mode) (ready_handle w.host.phases address) (least_free class.High w.host.pool)) (λ x. tt) (tame.targets_tame w.host address (is_up w.host.mode) (ready_handle w.host.phases address) (least_free class.High w.host.pool)))
  told input.Reset c = by_tame (entries w (Told input.Reset)) (tame.option_tame input.Reset call.Reset (inputs.diag_resets w.host) (tame.diag_tame w.host w.host.mode))
  told input.UnitReset c = by_tame (entries w (Told input.UnitReset)) (tame.option_tame input.UnitReset call.UnitReset (inputs.unit_resets w.host) (tame.unit_tame w.host w.host.mode))
  told (input.Plug address expander phy) c = let o = fab.fabric_plugs w.fabric address expander phy in by_none (entries w (Told (input.Plug address expander phy))) (plug_none (input.Plug address expander phy) (call.Plug address) o.answer o.part)
  told (input.Unplug address) c = let o = fab.fabric_unplugs w.fabric address in by_none (entries w (Told (input.Unplug address))) (plug_none (input.Unplug address) (call.Unplug address) o.answer o.part)

  pub bytes_kept : (c : Case) → IsCase c → CommandsAreBytes (history_after h (entries w c))
  bytes_kept (Told i) c = told i c
  bytes_kept (Chosen x) c = by_none (case_of w (Chosen x)).entries (chosen w x)
  bytes_kept HostLooks c = by_none [] tt
  bytes_kept HostStops c = by_none [] tt
  bytes_kept FabricCalms c = by_none [] tt

pub bytes_first : (s : Setting) → CommandsAreBytes (first_history s.disks)
bytes_first s n r e = absurd (none_open n r e)
  where
    none_open : (n : ℕ) (r : OpenRequest) → finmap.get (first_history s.disks).machine.requests n ≡ Some r → ⊥
    none_open n r e = let z : None ≡ Some r = sym (finmap.get-empty {X = OpenRequest} nat_cmp n) ∙ e in cc
