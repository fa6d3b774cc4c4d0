-- Each case keeps that open commands are of bytes and of unit 0.
use Rattle.std.proofs.Common.{◌≡◌, ℕ, zero, suc, ◌<◌, ◌==◌, Bool, true, false, List, [], ◌∷◌, ◌++◌, replicate, Option, Some, None, refl, ap, sym, ◌∙◌, subst, arith}
use Rattle.std.specs.FinMap as finmap
use Rattle.std.specs.FinSet as finset
use Rattle.std.specs.Ordering.{nat_cmp}
use Rattle.std.proofs.lemmas.Bool.{eqb-true}
use Rattle.hex.specs.Hex.{IsBytes}
use Rattle.byteorder.specs.Endian.{big_bytes}
use Rattle.std.specs.Int.{byte_at, bytes_high_first}
use Rattle.removal.specs.Handles.{ready_handle}
use Rattle.scsi_disk.specs.Command.{fits}
use Rattle.smid_pool.specs.Pool.{least_free}
use Rattle.smid_pool.specs.declared.class.Class.TheVariants as class
use Rattle.mpt_wire.specs.Machine.Causes.{is_up}
use Rattle.mpt_wire.specs.Machine.State.{OpenRequest}
use Rattle.mpt_wire.specs.Walks.Passes.{EachEntry}
use Rattle.mpt_trace.specs.Command.{cdb_of, command_named, transfer_10, transfer_16}
use Rattle.mpt_trace.specs.ReadingSchedule.{IsCommand, IsInput}
use Rattle.mpt_trace.specs.declared.choice.Choice.{Choice}
use Rattle.mpt_trace.specs.declared.choice.Choice.TheVariants as choice
use Rattle.mpt_trace.specs.declared.command_form.CommandForm.{CommandForm}
use Rattle.mpt_trace.specs.declared.command_form.CommandForm.TheVariants as form
use Rattle.mpt_trace.specs.declared.disk_spec.DiskSpec.{DiskSpec}
use Rattle.mpt_trace.specs.declared.entry.Entry.{Entry}
use Rattle.mpt_trace.specs.declared.entry.Entry.TheVariants as entry
use Rattle.mpt_trace.specs.declared.input.Input.{Input}
use Rattle.mpt_trace.specs.declared.input.Input.TheVariants as input
use Rattle.mpt_trace.specs.declared.item.Back.{Back}
use Rattle.mpt_trace.specs.declared.item.Down.{Down}
use Rattle.mpt_trace.specs.declared.item.Out.{Out}
use Rattle.mpt_trace.specs.declared.item.Up.{Up}
use Rattle.mpt_trace.specs.declared.refusal.Refusal.TheVariants as refusal
use Rattle.mpt_trace.specs.declared.refusal.RefusedCall.{RefusedCall}
use Rattle.mpt_trace.specs.declared.refusal.RefusedCall.TheVariants as call
use Rattle.mpt_rules.specs.declared.post.Post.{Post}
use Rattle.mpt_rules.specs.declared.why.Why.{Why}
use Rattle.mpt_rules.specs.Fabric.Calls as fab
use Rattle.mpt_rules.specs.Fabric.Parts.{Fabric}
use Rattle.mpt_rules.specs.Host.Inputs as inputs
use Rattle.mpt_rules.specs.Host.Takes.{hears_up, takes_unless}
use Rattle.mpt_rules.specs.Ioc.Steps as step
use Rattle.mpt_rules.specs.Ioc.Takes as adapter
use Rattle.mpt_rules.specs.Outcome.{Happening}
use Rattle.mpt_rules.specs.World.Cases.{Case, Told, Chosen, HostLooks, HostStops, FabricCalms, entries, moves_or_idles}
use Rattle.mpt_rules.specs.World.Inputs.{by_plug, by_result, host_told}
use Rattle.mpt_rules.specs.World.Moves as move
use Rattle.mpt_rules.specs.World.Settings.{IsCase}
use Rattle.mpt_rules.specs.World.State.{World, up_on}
use Rattle.mpt_rules.proofs.HostCalls.{aborts_by, resets_target_by, submits_by}
use Rattle.law_facts.specs.Facts.{Facts}
use Rattle.law_facts.specs.History.{History, first_history, history_after}
use Rattle.law_messages.proofs.Agreeing.{not_both, same}
use Rattle.law_messages.proofs.Keys.{get_inserted, get_other_inserted}
use Rattle.law_messages.proofs.ReadyPlug.{ready_plug}
use Rattle.law_messages.proofs.Requests.{IsNoAccept, IsTame, accepted_requests, requests_less, tame_no_accept}
use Rattle.law_messages.proofs.TameTold as tame
use Rattle.law_standing.proofs.FrameBytes.{append_bytes, cons_bytes, low_byte, none_bytes, zero_bytes}
use Rattle.law_paths.specs.Plain.{CommandsArePlain, IsPlain}
use Rattle.law_paths.proofs.Entries.{IsQuiet}
use Rattle.law_paths.proofs.HostCases.{hears_quietly}

-- ---- the commands that a schedule names

big : (n x : ℕ) → IsBytes (big_bytes n x)
big zero x = none_bytes
big (suc n) x = cons_bytes (byte_at n x) (bytes_high_first n x) (low_byte n x) (big n x)

plain_10 : (code lba blocks : ℕ) → code < 256 → IsBytes (transfer_10 code lba blocks)
plain_10 code lba blocks c =
    append_bytes (code ∷ 0 ∷ big_bytes 4 lba) ((0 ∷ big_bytes 2 blocks) ++ 0 ∷ []) (cons_bytes code (0 ∷ big_bytes 4 lba) c (cons_bytes 0 (big_bytes 4 lba) (omega arith) (big 4 lba)))
    (append_bytes (0 ∷ big_bytes 2 blocks) (0 ∷ []) (cons_bytes 0 (big_bytes 2 blocks) (omega arith) (big 2 blocks)) (zero_bytes 1))

plain_16 : (code lba blocks : ℕ) → code < 256 → IsBytes (transfer_16 code lba blocks)
plain_16 code lba blocks c =
    append_bytes (code ∷ 0 ∷ big_bytes 8 lba) (big_bytes 4 blocks ++ 0 ∷ 0 ∷ []) (cons_bytes code (0 ∷ big_bytes 8 lba) c (cons_bytes 0 (big_bytes 8 lba) (omega arith) (big 8 lba)))
    (append_bytes (big_bytes 4 blocks) (0 ∷ 0 ∷ []) (big 4 blocks) (zero_bytes 2))

cdb_bytes : (f : CommandForm) → IsCommand f → IsBytes (cdb_of f)
cdb_bytes form.Tur i = zero_bytes 6
cdb_bytes (form.Inquiry len) i = append_bytes (Rattle.mpi_names.specs.declared.operation_code.TheConstants.INQUIRY ∷ 0 ∷ 0 ∷ big_bytes 2 len) (0 ∷ []) (cons_bytes _ (0 ∷ 0 ∷ big_bytes 2 len) (omega arith) (cons_bytes 0 (0 ∷ big_bytes 2 len) (omega arith) (cons_bytes 0 (big_bytes 2 len) (omega arith) (big 2 len)))) (zero_bytes 1)
cdb_bytes form.Capacity i = cons_bytes _ (replicate 9 0) (omega arith) (zero_bytes 9)
cdb_bytes (form.Read lba blocks) i = plain_10 _ lba blocks (omega arith)
cdb_bytes (form.Write lba blocks fill) i = plain_10 _ lba blocks (omega arith)
cdb_bytes (form.Read16 lba blocks) i = plain_16 _ lba blocks (omega arith)
cdb_bytes (form.Write16 lba blocks fill) i = plain_16 _ lba blocks (omega arith)
cdb_bytes (form.Raw cdb len) i = i.0

named_plain : (f : CommandForm) → IsCommand f → IsPlain (command_named f)
named_plain f i = (cdb_bytes f i, refl)

-- ---- entries that accept nothing

pub tame_all : (t : List Entry) → EachEntry IsTame t → EachEntry IsNoAccept t
tame_all [] a = tt
tame_all (e ∷ t) a = (tame_no_accept e a.0, tame_all t a.1)

quiet_one : (e : Entry) → IsQuiet e → IsNoAccept e
quiet_one (entry.Given i) q = tt
quiet_one (entry.Accept n a s) q = absurd q
quiet_one (entry.Answer n how) q = tt
quiet_one (entry.Idle x) q = tt
quiet_one (entry.Put l x) q = tt
quiet_one (entry.Take l x) q = tt
quiet_one (entry.Bind handle a k) q = tt
quiet_one (entry.Unbind handle) q = tt
quiet_one entry.UnbindAll q = tt
quiet_one (entry.Run a s) q = tt
quiet_one entry.HostUp q = tt
quiet_one (entry.Ready a handle) q = tt
quiet_one (entry.Lost a handle) q = tt
quiet_one (entry.RefuseSubmit n cause) q = tt
quiet_one (entry.Refuse call cause) q = tt
quiet_one (entry.AbortEnd n how) q = tt
quiet_one (entry.TargetEnd a how) q = tt
quiet_one entry.ResetDone q = tt

pub quiet_all : (t : List Entry) → EachEntry IsQuiet t → EachEntry IsNoAccept t
quiet_all [] a = tt
quiet_all (e ∷ t) a = (quiet_one e a.0, quiet_all t a.1)

module _ (w : World) where
  abbrev Accepts_none : Happening World → Type 0
  Accepts_none o = EachEntry IsNoAccept o.entries

  host_put : (xs : List Down) → Accepts_none (moves_or_idles w choice.HostPut (move.host_puts w xs))
  host_put [] = (tt, tt)
  host_put (x ∷ rest) = (tt, tt)

  host_took : (queue : ℕ) (x : Up) (why : Option Why) → EachEntry IsNoAccept (move.told_of (takes_unless w.host queue x why).answer (takes_unless w.host queue x why).told)
  host_took queue x None = quiet_all (hears_up w.host queue x).entries (hears_quietly w.host queue x)
  host_took queue x (Some why) = tt

  host_take : (c : Choice) (queue : ℕ) (xs : List Up) → Accepts_none (moves_or_idles w c (move.host_takes w queue xs))
  host_take c queue [] = (tt, tt)
  host_take c queue (x ∷ rest) = (tt, host_took queue x (Rattle.mpt_rules.specs.Host.Strange.why_strange w.host queue x))

  take_above : (queue : ℕ) → Accepts_none (moves_or_idles w (choice.HostTakeOn queue) (move.host_takes_above w queue))
  take_above zero = (tt, tt)
  take_above (suc queue) = host_take (choice.HostTakeOn (suc queue)) (suc queue) (up_on w (suc queue))

  ioc_take : (xs : List Down) → Accepts_none (moves_or_idles w choice.IocTake (move.ioc_takes w xs))
  ioc_take [] = (tt, tt)
  ioc_take (x ∷ rest) = (tt, tame_all (adapter.takes_down w.ioc x).entries (tame.down_tame w.ioc x))

  high : (xs : List Post) → Accepts_none (moves_or_idles w choice.IocHigh (move.ioc_works w (step.steps_high_on w.ioc xs)))
  high [] = (tt, tt)
  high (p ∷ rest) = tame_all (step.works_on (record w.ioc { high = rest }) p).entries (tame.works_tame (record w.ioc { high = rest }) p)

  normal : (xs : List Post) → Accepts_none (moves_or_idles w choice.IocNormal (move.ioc_works w (step.steps_normal_on w.ioc xs)))
  normal [] = (tt, tt)
  normal (p ∷ rest) = tame_all (step.works_on (record w.ioc { normal = rest }) p).entries (tame.works_tame (record w.ioc { normal = rest }) p)

  out_put : (o : Option Out) → Accepts_none (moves_or_idles w choice.IocOut (move.ioc_puts_out w o))
  out_put None = (tt, tt)
  out_put (Some x) = (tt, tt)

  back_take : (xs : List Back) → Accepts_none (moves_or_idles w choice.IocBack (move.ioc_takes_back w xs))
  back_take [] = (tt, tt)
  back_take (x ∷ rest) = (tt, tame_all (adapter.takes_back w.ioc x).entries (tame.back_tame w.ioc x))

  up_put : (c : Choice) (queue : ℕ) (o : Option Up) → Accepts_none (moves_or_idles w c (move.ioc_puts w queue o))
  up_put c queue None = (tt, tt)
  up_put c queue (Some x) = (tt, tt)

  put_above : (queue : ℕ) → Accepts_none (moves_or_idles w (choice.IocPutOn queue) (move.ioc_puts_above w queue))
  put_above zero = (tt, tt)
  put_above (suc queue) = up_put (choice.IocPutOn (suc queue)) (suc queue) (adapter.front_up_on w.ioc (suc queue))

  out_take : (xs : List Out) → Accepts_none (moves_or_idles w choice.FabricTake (move.fabric_takes w xs))
  out_take [] = (tt, tt)
  out_take (x ∷ rest) = (tt, tt)

  say : (o : Option Fabric) → Accepts_none (moves_or_idles w choice.FabricSay (move.fabric_says w o))
  say None = (tt, tt)
  say (Some x) = tt

  back_put : (xs : List Back) → Accepts_none (moves_or_idles w choice.FabricPut (move.fabric_puts w xs))
  back_put [] = (tt, tt)
  back_put (x ∷ rest) = (tt, tt)

  run : (tag : ℕ) (o : Option ℕ) (x : Fabric) → Accepts_none (moves_or_idles w (choice.FabricRun tag) (move.fabric_ran w tag o x))
  run tag None x = (tt, tt)
  run tag (Some address) x = (tt, tt)

  chosen : (c : Choice) → EachEntry IsNoAccept (entries w (Chosen c))
  chosen choice.HostPut = host_put w.host.out
  chosen choice.HostTake = host_take choice.HostTake 0 (up_on w 0)
  chosen (choice.HostTakeOn queue) = take_above queue
  chosen choice.IocTake = ioc_take w.down
  chosen choice.IocHigh = high w.ioc.high
  chosen choice.IocNormal = normal w.ioc.normal
  chosen choice.IocOut = out_put (adapter.front_out w.ioc)
  chosen choice.IocBack = back_take w.back
  chosen choice.IocPut = up_put choice.IocPut 0 (adapter.front_up_on w.ioc 0)
  chosen (choice.IocPutOn queue) = put_above queue
  chosen choice.FabricTake = out_take w.out
  chosen choice.FabricSay = say (fab.announces w.fabric)
  chosen choice.FabricPut = back_put w.fabric.out
  chosen (choice.FabricRun tag) = run tag (fab.runs w.fabric tag).answer (fab.runs w.fabric tag).part

plug_none : (i : Input) (r : RefusedCall) (o : Option fab.PlugRefusal) (x : Fabric) → EachEntry IsNoAccept (by_plug i r o x).entries
plug_none i r None x = (tt, tt)
plug_none i r (Some fab.PlugRefusal.NoSuchDisk) x = tt
plug_none i r (Some fab.PlugRefusal.NoSuchPhy) x = tt
plug_none i r (Some fab.PlugRefusal.Occupied) x = (tt, (tt, tt))
plug_none i r (Some fab.PlugRefusal.AlreadyPlugged) x = (tt, (tt, tt))
plug_none i r (Some fab.PlugRefusal.PlugsSpent) x = (tt, (tt, tt))
plug_none i r (Some fab.PlugRefusal.NotPlugged) x = (tt, (tt, tt))

-- ---- over the world

module _ (w : World) (h : History) (f : Facts w h) (p : CommandsArePlain h) where
  less : (t : List Entry) → EachEntry IsNoAccept t → CommandsArePlain (history_after h t)
  less t a n r e = p n r (requests_less n r (record { machine = h.machine; so_far = h.so_far }) t a e)

  accepted : (n a : ℕ) (g : CommandForm) → IsCommand g → (x s : ℕ) → is_up w.host.mode ≡ true → ready_handle w.host.phases a ≡ Some x → CommandsArePlain (history_after h (entry.Given (input.Submit n a g) ∷ entry.Accept n a s ∷ []))
  accepted n a g i x s u q m r e = by_number (m == n) refl
    where
      opened : (history_after h (entry.Given (input.Submit n a g) ∷ entry.Accept n a s ∷ [])).machine.requests ≡ finmap.insert h.machine.requests n (record { address = a; plug = (ready_plug w h f a x u q).0; command = command_named g })
      opened = let z = ready_plug w h f a x u q in accepted_requests (record { machine = h.machine; so_far = h.so_far }) n a z.0 s g z.1

      by_number : (b : Bool) → (m == n) ≡ b → IsPlain r.command
      by_number false t = p m r (sym (get_other_inserted h.machine.requests n (record { address = a; plug = (ready_plug w h f a x u q).0; command = command_named g }) m (λ j. apart j t)) ∙ (sym (ap (λ x. finmap.get x m) opened) ∙ e))
        where
          apart : m ≡ n → (m == n) ≡ false → ⊥
          apart j t = not_both (m == n) t (subst (λ k. (m == k) ≡ true) j (same m))
      by_number true t =
          let c : OpenRequest = record { address = a; plug = (ready_plug w h f a x u q).0; command = command_named g } in
          let z : Some c ≡ Some r = sym (get_inserted h.machine.requests n c) ∙ (sym (ap (λ x. finmap.get x n) opened) ∙ subst (λ k. finmap.get (history_after h (entry.Given (input.Submit n a g) ∷ entry.Accept n a s ∷ [])).machine.requests k ≡ Some r) (eqb-true m n t) e) in
          subst IsPlain (ap (λ (x : OpenRequest). x.command) (some_is c r z)) (named_plain g i)
        where
          some_is : (x y : OpenRequest) → Some x ≡ Some y → x ≡ y
          some_is x y e = cc

  submitted : (n a : ℕ) (g : CommandForm) → IsCommand g → (used up : Bool) (handle : Option ℕ) (fit : Bool) (least : Option ℕ) → is_up w.host.mode ≡ up → ready_handle w.host.phases a ≡ handle
      → CommandsArePlain (history_after h (by_result (input.Submit n a g) (entry.RefuseSubmit n) (submits_by w.host n a (command_named g) used up handle fit least)).entries)
  submitted n a g i true up handle fit least u q = less (entry.Given (input.Submit n a g) ∷ entry.RefuseSubmit n refusal.NumberUsed ∷ []) (tt, (tt, tt))
  submitted n a g i false false handle fit least u q = less (entry.Given (input.Submit n a g) ∷ entry.RefuseSubmit n refusal.NotOperational ∷ []) (tt, (tt, tt))
  submitted n a g i false true None fit least u q = less (entry.Given (input.Submit n a g) ∷ entry.RefuseSubmit n refusal.NoDevice ∷ []) (tt, (tt, tt))
  submitted n a g i false true (Some x) false least u q = less (entry.Given (input.Submit n a g) ∷ entry.RefuseSubmit n refusal.BadLength ∷ []) (tt, (tt, tt))
  submitted n a g i false true (Some x) true None u q = less (entry.Given (input.Submit n a g) ∷ entry.RefuseSubmit n refusal.NoIdentifier ∷ []) (tt, (tt, tt))
  submitted n a g i false true (Some x) true (Some s) u q = accepted n a g i x s u q

  told : (i : Input) → IsInput i → CommandsArePlain (history_after h (entries w (Told i)))
  told input.Start g = less (host_told w.host input.Start).entries (tame_all (host_told w.host input.Start).entries (tame.option_tame input.Start call.Start (inputs.starts_in w.host w.host.mode) (tame.starts_tame w.host w.host.mode)))
  told (input.Submit n a c) g = submitted n a c g.2 (finset.contains w.host.accepted n) (is_up w.host.mode) (ready_handle w.host.phases a) (fits (command_named c)) (least_free class.ScsiIo w.host.pool) refl refl
  told (input.Abort n) g =
      let o = aborts_by w.host n (is_up w.host.mode) (finmap.get w.host.cmds n) (finmap.get w.host.aborts n) (least_free class.High w.host.pool) in
      less (host_told w.host (input.Abort n)).entries (tame_all (host_told w.host (input.Abort n)).entries (tame.result_tame (input.Abort n) (entry.Refuse (call.Abort n)) o (λ x. tt) (tame.aborts_tame w.host n (is_up w.host.mode) (finmap.get w.host.cmds n) (finmap.get w.host.aborts n) (least_free class.High w.host.pool))))
  told (input.TargetReset address) g =
      let o = resets_target_by w.host address (is_up w.host.mode) (ready_handle w.host.phases address) (least_free class.High w.host.pool) in
      less (host_told w.host (input.TargetReset address)).entries (tame_all (host_told w.host (input.TargetReset address)).entries (tame.result_tame (input.TargetReset address) (entry.Refuse (call.TargetReset address)) o (λ x. tt) (tame.targets_tame w.host address (is_up w.host.mode) (ready_handle w.host.phases address) (least_free class.High w.host.pool))))
  told input.Reset g = less (host_told w.host input.Reset).entries (tame_all (host_told w.host input.Reset).entries (tame.option_tame input.Reset call.Reset (inputs.diag_resets_in w.host w.host.mode) (tame.diag_tame w.host w.host.mode)))
  told input.UnitReset g = less (host_told w.host input.UnitReset).entries (tame_all (host_told w.host input.UnitReset).entries (tame.option_tame input.UnitReset call.UnitReset (inputs.unit_resets_in w.host w.host.mode) (tame.unit_tame w.host w.host.mode)))
  told (input.Plug address expander phy) g = let o = fab.fabric_plugs w.fabric address expander phy in less (entries w (Told (input.Plug address expander phy))) (plug_none (input.Plug address expander phy) (call.Plug address) o.answer o.part)
  told (input.Unplug address) g = let o = fab.fabric_unplugs w.fabric address in less (entries w (Told (input.Unplug address))) (plug_none (input.Unplug address) (call.Unplug address) o.answer o.part)

  pub plain_kept : (c : Case) → IsCase c → CommandsArePlain (history_after h (entries w c))
  plain_kept (Told i) g = told i g
  plain_kept (Chosen c) g = less (entries w (Chosen c)) (chosen w c)
  plain_kept HostLooks g = less [] tt
  plain_kept HostStops g = less [] tt
  plain_kept FabricCalms g = less [] tt

pub plain_at_first : (disks : List DiskSpec) → CommandsArePlain (first_history disks)
plain_at_first disks n r e = let z : finmap.get (first_history disks).machine.requests n ≡ None = finmap.get-empty nat_cmp n in let y : None ≡ Some r = sym z ∙ e in absurd (cc)
