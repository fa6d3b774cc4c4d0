-- Entries that the rule of a handshake's words passes over.
use Rattle.std.proofs.Common.{◌≡◌, ℕ, zero, suc, Bool, true, false, List, [], ◌∷◌, ◌++◌, Option, Some, None, slice_get, refl, sym, subst}
use Rattle.mpt_wire.specs.Messages.DoorbellWords.{Door, DoorAsks, IsTalk, door_next}
use Rattle.mpt_wire.specs.Walks.Passes.{EachEntry, Passes, state_after}
use Rattle.mpt_trace.specs.declared.choice.Choice.{Choice}
use Rattle.mpt_trace.specs.declared.choice.Choice.TheVariants as choice
use Rattle.mpt_trace.specs.declared.entry.Entry.{Entry}
use Rattle.mpt_trace.specs.declared.entry.Entry.TheVariants as entry
use Rattle.mpt_trace.specs.declared.input.Input.{Input}
use Rattle.mpt_trace.specs.declared.input.Input.TheVariants as input
use Rattle.mpt_trace.specs.declared.item.Back.{Back}
use Rattle.mpt_trace.specs.declared.item.Down.{Down}
use Rattle.mpt_trace.specs.declared.item.Out.{Out}
use Rattle.mpt_trace.specs.declared.item.Up.{Up}
use Rattle.mpt_trace.specs.declared.refusal.RefusedCall.{RefusedCall}
use Rattle.mpt_trace.specs.declared.refusal.RefusedCall.TheVariants as call
use Rattle.mpt_trace.specs.declared.refusal.Refusal.{Refusal}
use Rattle.mpt_rules.specs.declared.post.Post.{Post}
use Rattle.scsi_disk.specs.declared.command.Command.{Command}
use Rattle.mpt_rules.specs.Fabric.Calls as fab
use Rattle.mpt_rules.specs.Fabric.Parts.{Fabric}
use Rattle.mpt_rules.specs.Host.Parts.{Cmd, Host}
use Rattle.mpt_rules.specs.Ioc.Steps as step
use Rattle.mpt_rules.specs.World.Cases.{Case, Chosen, FabricCalms, HostLooks, HostStops, Told, entries, moves_or_idles}
use Rattle.mpt_rules.specs.World.Inputs.{by_plug, by_result}
use Rattle.mpt_rules.specs.World.Moves as move
use Rattle.mpt_rules.specs.World.State.{World, up_on}
use Rattle.mpt_rules.proofs.HostCalls.{aborts_by, resets_target_by, submits_by}
use Rattle.law_moves.proofs.CasesTold.{IsPlugWord}
use Rattle.law_moves.proofs.HostWords.{IsHostWord}
use Rattle.law_moves.proofs.IocWords.{IsIocWord, works_words}

abbrev pub IsMild : Entry → Type 0
IsMild (entry.Put l i) = ⊥
IsMild (entry.Take l i) = ⊥
IsMild entry.ResetDone = ⊥
IsMild (entry.Given input.Reset) = ⊥
IsMild (entry.Given input.UnitReset) = ⊥
IsMild (entry.Refuse call.Reset cause) = ⊥
IsMild (entry.Refuse call.UnitReset cause) = ⊥
IsMild _ = Unit {0}

mild_input : (g : Door) (i : Input) → IsMild (entry.Given i) → door_next g (entry.Given i) ≡ g
mild_input g input.Start h = refl
mild_input g (input.Submit n address form) h = refl
mild_input g (input.Abort n) h = refl
mild_input g (input.TargetReset address) h = refl
mild_input g input.Reset h = absurd h
mild_input g input.UnitReset h = absurd h
mild_input g (input.Plug address expander phy) h = refl
mild_input g (input.Unplug address) h = refl

mild_refusal : (g : Door) (r : RefusedCall) (c : Refusal) → IsMild (entry.Refuse r c) → door_next g (entry.Refuse r c) ≡ g
mild_refusal g call.Start c h = refl
mild_refusal g (call.Abort n) c h = refl
mild_refusal g (call.TargetReset address) c h = refl
mild_refusal g call.Reset c h = absurd h
mild_refusal g call.UnitReset c h = absurd h
mild_refusal g (call.Plug address) c h = refl
mild_refusal g (call.Unplug address) c h = refl

mild_stays : (g : Door) (e : Entry) → IsMild e → door_next g e ≡ g
mild_stays g (entry.Put l i) h = absurd h
mild_stays g (entry.Take l i) h = absurd h
mild_stays g (entry.Given i) h = mild_input g i h
mild_stays g (entry.Refuse r c) h = mild_refusal g r c h
mild_stays g entry.UnbindAll h = refl
mild_stays g (entry.Idle x) h = refl
mild_stays g (entry.Bind handle address plug) h = refl
mild_stays g (entry.Unbind handle) h = refl
mild_stays g (entry.Run address tag) h = refl
mild_stays g entry.HostUp h = refl
mild_stays g (entry.Ready address handle) h = refl
mild_stays g (entry.Lost address handle) h = refl
mild_stays g (entry.Accept n address smid) h = refl
mild_stays g (entry.RefuseSubmit n cause) h = refl
mild_stays g (entry.Answer n outcome) h = refl
mild_stays g (entry.AbortEnd n outcome) h = refl
mild_stays g (entry.TargetEnd address outcome) h = refl
mild_stays g entry.ResetDone h = absurd h

mild_free : (q : ℕ) (g : Door) (e : Entry) → IsMild e → IsTalk q g.talk → DoorAsks q g e
mild_free q g (entry.Put l i) h k = absurd h
mild_free q g (entry.Take l i) h k = absurd h
mild_free q g (entry.Given i) h k = (tt, subst (λ (x : Door). IsTalk q x.talk) (sym (mild_input g i h)) k)
mild_free q g (entry.Refuse r c) h k = (tt, subst (λ (x : Door). IsTalk q x.talk) (sym (mild_refusal g r c h)) k)
mild_free q g entry.UnbindAll h k = (tt, k)
mild_free q g (entry.Idle x) h k = (tt, k)
mild_free q g (entry.Bind handle address plug) h k = (tt, k)
mild_free q g (entry.Unbind handle) h k = (tt, k)
mild_free q g (entry.Run address tag) h k = (tt, k)
mild_free q g entry.HostUp h k = (tt, k)
mild_free q g (entry.Ready address handle) h k = (tt, k)
mild_free q g (entry.Lost address handle) h k = (tt, k)
mild_free q g (entry.Accept n address smid) h k = (tt, k)
mild_free q g (entry.RefuseSubmit n cause) h k = (tt, k)
mild_free q g (entry.Answer n outcome) h k = (tt, k)
mild_free q g (entry.AbortEnd n outcome) h k = (tt, k)
mild_free q g (entry.TargetEnd address outcome) h k = (tt, k)
mild_free q g entry.ResetDone h k = absurd h

-- ---- lists

pub state_stays : (g : Door) (t u : List Entry) → EachEntry IsMild t → state_after door_next g (t ++ u) ≡ state_after door_next g u
state_stays g [] u h = refl
state_stays g (e ∷ t) u h = subst (λ x. state_after door_next x (t ++ u) ≡ state_after door_next g u) (sym (mild_stays g e h.0)) (state_stays g t u h.1)

pub passes_over : (q : ℕ) (g : Door) (t u : List Entry) → EachEntry IsMild t → IsTalk q g.talk → Passes door_next (DoorAsks q) g u → Passes door_next (DoorAsks q) g (t ++ u)
passes_over q g [] u h k p = p
passes_over q g (e ∷ t) u h k p = (mild_free q g e h.0 k, subst (λ x. Passes door_next (DoorAsks q) x (t ++ u)) (sym (mild_stays g e h.0)) (passes_over q g t u h.1 k p))

-- ---- what is mild

host_mild : (e : Entry) → IsHostWord e → IsMild e
host_mild entry.HostUp h = tt
host_mild (entry.Ready address handle) h = tt
host_mild (entry.Lost address handle) h = tt
host_mild (entry.Answer n how) h = tt
host_mild (entry.AbortEnd n how) h = tt
host_mild (entry.TargetEnd address how) h = tt
host_mild (entry.Put l i) h = absurd h
host_mild (entry.Take l i) h = absurd h
host_mild (entry.Given i) h = absurd h
host_mild (entry.Refuse r c) h = absurd h
host_mild (entry.Idle x) h = absurd h
host_mild (entry.Bind handle address plug) h = absurd h
host_mild (entry.Unbind handle) h = absurd h
host_mild entry.UnbindAll h = absurd h
host_mild (entry.Run address tag) h = absurd h
host_mild (entry.Accept n address smid) h = absurd h
host_mild (entry.RefuseSubmit n cause) h = absurd h
host_mild entry.ResetDone h = absurd h

ioc_mild : (e : Entry) → IsIocWord e → IsMild e
ioc_mild (entry.Bind handle address plug) h = tt
ioc_mild (entry.Unbind handle) h = tt
ioc_mild entry.HostUp h = absurd h
ioc_mild (entry.Ready address handle) h = absurd h
ioc_mild (entry.Lost address handle) h = absurd h
ioc_mild (entry.Answer n how) h = absurd h
ioc_mild (entry.AbortEnd n how) h = absurd h
ioc_mild (entry.TargetEnd address how) h = absurd h
ioc_mild (entry.Put l i) h = absurd h
ioc_mild (entry.Take l i) h = absurd h
ioc_mild (entry.Given i) h = absurd h
ioc_mild (entry.Refuse r c) h = absurd h
ioc_mild (entry.Idle x) h = absurd h
ioc_mild entry.UnbindAll h = absurd h
ioc_mild (entry.Run address tag) h = absurd h
ioc_mild (entry.Accept n address smid) h = absurd h
ioc_mild (entry.RefuseSubmit n cause) h = absurd h
ioc_mild entry.ResetDone h = absurd h

each_as : (P R : Entry → Type 0) → ((e : Entry) → P e → R e) → (t : List Entry) → EachEntry P t → EachEntry R t
each_as P R f [] h = tt
each_as P R f (e ∷ t) h = (f e h.0, each_as P R f t h.1)

pub host_all : (t : List Entry) → EachEntry IsHostWord t → EachEntry IsMild t
host_all = each_as IsHostWord IsMild host_mild

pub ioc_all : (t : List Entry) → EachEntry IsIocWord t → EachEntry IsMild t
ioc_all = each_as IsIocWord IsMild ioc_mild

-- ---- inputs, but resets

pub mild_submit : (host : Host) (n address : ℕ) (command : Command) (i : Input) → IsMild (entry.Given i) → (used mode : Bool) (handle : Option ℕ) (fits : Bool) (smid : Option ℕ) → EachEntry IsMild (by_result i (entry.RefuseSubmit n) (submits_by host n address command used mode handle fits smid)).entries
mild_submit host n address command i g true mode handle fits smid = (g, (tt, tt))
mild_submit host n address command i g false false handle fits smid = (g, (tt, tt))
mild_submit host n address command i g false true None fits smid = (g, (tt, tt))
mild_submit host n address command i g false true (Some x) false smid = (g, (tt, tt))
mild_submit host n address command i g false true (Some x) true None = (g, (tt, tt))
mild_submit host n address command i g false true (Some x) true (Some s) = (g, (tt, tt))

pub mild_abort : (host : Host) (n : ℕ) (b : Bool) (cmd : Option Cmd) (there o : Option ℕ) → EachEntry IsMild (by_result (input.Abort n) (entry.Refuse (call.Abort n)) (aborts_by host n b cmd there o)).entries
mild_abort host n false cmd there o = (tt, (tt, tt))
mild_abort host n true None there o = (tt, (tt, tt))
mild_abort host n true (Some cmd) (Some x) o = (tt, (tt, tt))
mild_abort host n true (Some cmd) None None = (tt, (tt, tt))
mild_abort host n true (Some cmd) None (Some s) = (tt, tt)

pub mild_target : (host : Host) (address : ℕ) (b : Bool) (handle o : Option ℕ) → EachEntry IsMild (by_result (input.TargetReset address) (entry.Refuse (call.TargetReset address)) (resets_target_by host address b handle o)).entries
mild_target host address false handle o = (tt, (tt, tt))
mild_target host address true None o = (tt, (tt, tt))
mild_target host address true (Some x) None = (tt, (tt, tt))
mild_target host address true (Some x) (Some s) = (tt, tt)

-- ---- a case of which all entries are words of a plug: none is refused as a reset

abbrev pub IsPlain : List Entry → Type 0
IsPlain t = EachEntry IsPlugWord t → EachEntry IsMild t

module _ (w : World) where
  host_put : (c : Choice) (xs : List Down) → IsPlain (moves_or_idles w c (move.host_puts w xs)).entries
  host_put c [] h = absurd h.0
  host_put c (x ∷ rest) h = absurd h.0

  host_take : (c : Choice) (i : ℕ) (xs : List Up) → IsPlain (moves_or_idles w c (move.host_takes w i xs)).entries
  host_take c i [] h = absurd h.0
  host_take c i (x ∷ rest) h = absurd h.0

  take_above : (c : Choice) (i : ℕ) → IsPlain (moves_or_idles w c (move.host_takes_above w i)).entries
  take_above c zero h = absurd h.0
  take_above c (suc i) h = host_take c (suc i) (up_on w (suc i)) h

  ioc_take : (c : Choice) (xs : List Down) → IsPlain (moves_or_idles w c (move.ioc_takes w xs)).entries
  ioc_take c [] h = absurd h.0
  ioc_take c (x ∷ rest) h = absurd h.0

  worked : (t : List Entry) → EachEntry IsIocWord t → IsPlain t
  worked t a h = ioc_all t a

  high : (c : Choice) (xs : List Post) → IsPlain (moves_or_idles w c (move.ioc_works w (step.steps_high_on w.ioc xs))).entries
  high c [] h = absurd h.0
  high c (x ∷ rest) h = worked _ (works_words (record w.ioc { high = rest }) x) h

  normal : (c : Choice) (xs : List Post) → IsPlain (moves_or_idles w c (move.ioc_works w (step.steps_normal_on w.ioc xs))).entries
  normal c [] h = absurd h.0
  normal c (x ∷ rest) h = worked _ (works_words (record w.ioc { normal = rest }) x) h

  out_put : (c : Choice) (o : Option Out) → IsPlain (moves_or_idles w c (move.ioc_puts_out w o)).entries
  out_put c None h = absurd h.0
  out_put c (Some x) h = absurd h.0

  back_take : (c : Choice) (xs : List Back) → IsPlain (moves_or_idles w c (move.ioc_takes_back w xs)).entries
  back_take c [] h = absurd h.0
  back_take c (x ∷ rest) h = absurd h.0

  up_put : (c : Choice) (i : ℕ) (o : Option Up) → IsPlain (moves_or_idles w c (move.ioc_puts w i o)).entries
  up_put c i None h = absurd h.0
  up_put c i (Some z) h = absurd h.0

  put_above : (c : Choice) (i : ℕ) → IsPlain (moves_or_idles w c (move.ioc_puts_above w i)).entries
  put_above c zero h = absurd h.0
  put_above c (suc i) h = up_put c (suc i) _ h

  out_take : (c : Choice) (xs : List Out) → IsPlain (moves_or_idles w c (move.fabric_takes w xs)).entries
  out_take c [] h = absurd h.0
  out_take c (x ∷ rest) h = absurd h.0

  back_put : (c : Choice) (xs : List Back) → IsPlain (moves_or_idles w c (move.fabric_puts w xs)).entries
  back_put c [] h = absurd h.0
  back_put c (x ∷ rest) h = absurd h.0

  say : (c : Choice) (xs : List Back) → IsPlain (moves_or_idles w c (move.fabric_says w (fab.says_first xs w.fabric))).entries
  say c [] h = absurd h.0
  say c (x ∷ rest) h = tt

  run : (c : Choice) (tag : ℕ) (o : Option ℕ) → IsPlain (moves_or_idles w c (move.fabric_ran w tag o (fab.runs w.fabric tag).part)).entries
  run c tag None h = absurd h.0
  run c tag (Some address) h = absurd h.0

  chosen : (c : Choice) → IsPlain (entries w (Chosen c))
  chosen choice.HostPut = host_put choice.HostPut w.host.out
  chosen choice.HostTake = host_take choice.HostTake 0 (up_on w 0)
  chosen (choice.HostTakeOn i) = take_above (choice.HostTakeOn i) i
  chosen choice.IocTake = ioc_take choice.IocTake w.down
  chosen choice.IocHigh = high choice.IocHigh w.ioc.high
  chosen choice.IocNormal = normal choice.IocNormal w.ioc.normal
  chosen choice.IocOut = out_put choice.IocOut (slice_get w.ioc.out 0)
  chosen choice.IocBack = back_take choice.IocBack w.back
  chosen choice.IocPut = up_put choice.IocPut 0 _
  chosen (choice.IocPutOn i) = put_above (choice.IocPutOn i) i
  chosen choice.FabricTake = out_take choice.FabricTake w.out
  chosen choice.FabricSay = say choice.FabricSay w.fabric.notices
  chosen choice.FabricPut = back_put choice.FabricPut w.fabric.out
  chosen (choice.FabricRun tag) = run (choice.FabricRun tag) tag (fab.runs w.fabric tag).answer

  plugged : (i : Input) → IsMild (entry.Given i) → (r : RefusedCall) → ((c : Refusal) → IsMild (entry.Refuse r c)) → (o : Option fab.PlugRefusal) → IsPlain (by_plug i r o w.fabric).entries
  plugged i g r f None h = (g, tt)
  plugged i g r f (Some fab.PlugRefusal.NoSuchDisk) h = tt
  plugged i g r f (Some fab.PlugRefusal.NoSuchPhy) h = tt
  plugged i g r f (Some fab.PlugRefusal.Occupied) h = (g, (f _, tt))
  plugged i g r f (Some fab.PlugRefusal.AlreadyPlugged) h = (g, (f _, tt))
  plugged i g r f (Some fab.PlugRefusal.PlugsSpent) h = (g, (f _, tt))
  plugged i g r f (Some fab.PlugRefusal.NotPlugged) h = (g, (f _, tt))

  plug_entries : (i : Input) (r : RefusedCall) (o : Option fab.PlugRefusal) (f : Fabric) → (by_plug i r o f).entries ≡ (by_plug i r o w.fabric).entries
  plug_entries i r None f = refl
  plug_entries i r (Some fab.PlugRefusal.NoSuchDisk) f = refl
  plug_entries i r (Some fab.PlugRefusal.NoSuchPhy) f = refl
  plug_entries i r (Some fab.PlugRefusal.Occupied) f = refl
  plug_entries i r (Some fab.PlugRefusal.AlreadyPlugged) f = refl
  plug_entries i r (Some fab.PlugRefusal.PlugsSpent) f = refl
  plug_entries i r (Some fab.PlugRefusal.NotPlugged) f = refl

  told : (i : Input) → IsPlain (entries w (Told i))
  told input.Start h = absurd h.0
  told (input.Submit n address form) h = absurd h.0
  told (input.Abort n) h = absurd h.0
  told (input.TargetReset address) h = absurd h.0
  told input.Reset h = absurd h.0
  told input.UnitReset h = absurd h.0
  told (input.Plug address expander phy) h =
      let o = fab.fabric_plugs w.fabric address expander phy in let e = plug_entries (input.Plug address expander phy) (call.Plug address) o.answer o.part in
      subst (EachEntry IsMild) (sym e) (plugged (input.Plug address expander phy) tt (call.Plug address) (λ c. tt) o.answer (subst (EachEntry IsPlugWord) e h))
  told (input.Unplug address) h =
      let o = fab.fabric_unplugs w.fabric address in let e = plug_entries (input.Unplug address) (call.Unplug address) o.answer o.part in
      subst (EachEntry IsMild) (sym e) (plugged (input.Unplug address) tt (call.Unplug address) (λ c. tt) o.answer (subst (EachEntry IsPlugWord) e h))

  pub plain_case : (c : Case) → IsPlain (entries w c)
  plain_case (Told i) h = told i h
  plain_case (Chosen c) h = chosen c h
  plain_case HostLooks h = tt
  plain_case HostStops h = tt
  plain_case FabricCalms h = tt
