-- Each entry of each case keeps the classes of identifiers.
use Rattle.std.proofs.Common.{◌≡◌, ℕ, zero, suc, ◌+◌, ◌-◌, ◌≤◌, ◌==◌, Bool, true, false, List, [], ◌∷◌, ◌++◌, drop, get_or, length, slice_get, Option, Some, None, refl, ap, sym, ◌∙◌, subst, arith}
use Rattle.std.specs.Prelude.{All}
use Rattle.std.proofs.lemmas.List.Elements.{All-head}
use Rattle.mpi_doorbell.specs.declared.effect.Effect.TheVariants as effect
use Rattle.mpi_doorbell.specs.declared.effect.Effect.{Effect}
use Rattle.mpi_doorbell.specs.DoorRegisters.{register_written}
use Rattle.mpt_wire.specs.Messages.Fields.{reply_frame_address}
use Rattle.mpt_wire.specs.Queues.Identifiers.{ClassAsks, ClassesKept}
use Rattle.mpt_wire.specs.Walks.Passes.{EachEntry}
use Rattle.mpt_trace.specs.declared.entry.Entry.{Entry}
use Rattle.mpt_trace.specs.declared.entry.Entry.TheVariants as entry
use Rattle.mpt_trace.specs.declared.item.Down.{Down}
use Rattle.mpt_trace.specs.declared.item.Down.TheVariants as down
use Rattle.mpt_trace.specs.declared.item.Item.TheVariants as item
use Rattle.mpt_trace.specs.declared.item.Up.{Up}
use Rattle.mpt_trace.specs.declared.lane.LaneName.TheVariants as lane
use Rattle.mpt_rules.specs.declared.said.Said.{Said}
use Rattle.mpt_rules.specs.declared.said.Said.TheVariants as said
use Rattle.mpt_rules.specs.Host.Takes.{hears_up}
use Rattle.mpt_rules.specs.Ioc.Parts.{Ioc}
use Rattle.mpt_rules.specs.Ioc.Registers.{after_effect}
use Rattle.mpt_rules.specs.Ioc.Replies.{outbox_of}
use Rattle.mpt_rules.specs.Ioc.Sending.{framed_up, up_of}
use Rattle.mpt_rules.specs.Ioc.Steps as step
use Rattle.mpt_rules.specs.Ioc.Takes as adapter
use Rattle.mpt_rules.specs.Law.{NothingIsStrange}
use Rattle.mpt_rules.specs.World.Cases.{Case, entries}
use Rattle.mpt_rules.specs.World.Inputs.{host_told}
use Rattle.mpt_rules.specs.World.Lines.{said_of}
use Rattle.mpt_rules.specs.World.State.{World, up_lane, up_on}
use Rattle.law_facts.specs.Facts.{Facts}
use Rattle.law_facts.specs.History.{History}
use Rattle.law_facts.specs.Messages.{DownIsRecord, SaidIs}
use Rattle.law_moves.proofs.CasesTold.{IsPlugWord, OwesTold, kept_told}
use Rattle.law_moves.proofs.HostWords.{EndsIt, HostTells, IsHostWord, Words, host_tells}
use Rattle.law_moves.proofs.InputWords.{IsInputWord, input_words}
use Rattle.law_moves.proofs.IocWords.{IsIocWord, back_words, works_words}
use Rattle.law_messages.proofs.Agreeing.{all_last}
use Rattle.law_classes.proofs.Posts.{framed_class, post_class, success_class}

abbrev Asks : List Entry → Type 0
Asks t = EachEntry (ClassAsks) t

-- ---- what is told puts nothing

host_word : (e : Entry) → IsHostWord e → ClassAsks e
host_word entry.HostUp w = tt
host_word (entry.Ready address handle) w = tt
host_word (entry.Lost address handle) w = tt
host_word (entry.Answer n how) w = tt
host_word (entry.AbortEnd n how) w = tt
host_word (entry.TargetEnd address how) w = tt
host_word (entry.Put l x) w = absurd w
host_word (entry.Take l x) w = absurd w
host_word _ w = absurd w

host_words : (t : List Entry) → EachEntry IsHostWord t → Asks t
host_words [] a = tt
host_words (e ∷ t) a = (host_word e a.0, host_words t a.1)

asks_append : (t u : List Entry) → Asks t → Asks u → Asks (t ++ u)
asks_append [] u a b = b
asks_append (e ∷ t) u a b = (a.0, asks_append t u a.1 b)

host_told_asks : (t : List Entry) → HostTells t → Asks t
host_told_asks t (Words a) = host_words t a
host_told_asks t (EndsIt u a e) = subst Asks (sym e) (asks_append u (entry.ResetDone ∷ []) (host_words u a) (tt, tt))

input_word : (e : Entry) → IsInputWord e → ClassAsks e
input_word (entry.Given i) w = tt
input_word (entry.Accept n address smid) w = tt
input_word (entry.RefuseSubmit n cause) w = tt
input_word (entry.Refuse call cause) w = tt
input_word (entry.Put l x) w = absurd w
input_word _ w = absurd w

input_asks : (t : List Entry) → EachEntry IsInputWord t → Asks t
input_asks [] a = tt
input_asks (e ∷ t) a = (input_word e a.0, input_asks t a.1)

ioc_word : (e : Entry) → IsIocWord e → ClassAsks e
ioc_word (entry.Bind handle address plug) w = tt
ioc_word (entry.Unbind handle) w = tt
ioc_word (entry.Put l x) w = absurd w
ioc_word _ w = absurd w

ioc_asks : (t : List Entry) → EachEntry IsIocWord t → Asks t
ioc_asks [] a = tt
ioc_asks (e ∷ t) a = (ioc_word e a.0, ioc_asks t a.1)

plug_word : (e : Entry) → IsPlugWord e → ClassAsks e
plug_word (entry.Given i) w = tt
plug_word (entry.Refuse call cause) w = tt
plug_word (entry.Put l x) w = absurd w
plug_word _ w = absurd w

plug_asks : (t : List Entry) → EachEntry IsPlugWord t → Asks t
plug_asks [] a = tt
plug_asks (e ∷ t) a = (plug_word e a.0, plug_asks t a.1)

effect_asks : (i : Ioc) (f : Effect) → Asks (after_effect i f).entries
effect_asks i effect.None = tt
effect_asks i (effect.Asked count bytes) = tt
effect_asks i effect.UnitReset = (tt, tt)
effect_asks i effect.AdapterReset = (tt, tt)
effect_asks i (effect.Fault code) = tt

down_asks : (i : Ioc) (x : Down) → Asks (adapter.takes_down i x).entries
down_asks i (down.Write reg value) = effect_asks (record i { door = (register_written i.door reg value).registers }) (register_written i.door reg value).effect
down_asks i (down.Read reg) = tt
down_asks i (down.Post d f p) = tt
down_asks i (down.Return address index) = tt
down_asks i down.Stop = tt

module _ (w : World) (h : History) (f : Facts w h) (plain : NothingIsStrange w) where
  -- ---- what is put

  item_asks : (x : Down) → DownIsRecord w h x → ClassAsks (entry.Put lane.Down (item.Down x))
  item_asks (down.Post d g p) a = post_class w h f (record { descriptor = d; frame = g; payload = p }) a
  item_asks (down.Write reg value) a = tt
  item_asks (down.Read reg) a = tt
  item_asks (down.Return address index) a = tt
  item_asks down.Stop a = tt

  put_asks : (x : Down) (rest : List Down) → w.host.out ≡ x ∷ rest → ClassAsks (entry.Put lane.Down (item.Down x))
  put_asks x rest e = item_asks x (All-head (DownIsRecord w h) x rest (subst (All (DownIsRecord w h)) e (all_last (DownIsRecord w h) w.down w.host.out f.messages.down)))

  framed_asks : (queue s : ℕ) (g page sense : List ℕ) (free : Option ℕ) (z : Up) → framed_up s g page sense free ≡ Some z → SaidIs w h queue (said.Framed s g page sense) → ClassAsks (entry.Put (up_lane queue) (item.Up z))
  framed_asks queue s g page sense None z e a = absurd (cc)
  framed_asks queue s g page sense (Some n) z e a = subst (λ x. ClassAsks (entry.Put (up_lane queue) (item.Up x))) (some_is _ z e) (framed_class w h f queue s (reply_frame_address n) g page sense a)
    where
      some_is : (x y : Up) → Some x ≡ Some y → x ≡ y
      some_is x y e = cc

  said_asks : (queue : ℕ) (y : Said) (free : Option ℕ) (z : Up) → up_of y free ≡ Some z → SaidIs w h queue y → ClassAsks (entry.Put (up_lane queue) (item.Up z))
  said_asks queue y free z e a = by_item y e a
    where
      some_is : (x y : Up) → Some x ≡ Some y → x ≡ y
      some_is x y e = cc

      by_item : (y : Said) → up_of y free ≡ Some z → SaidIs w h queue y → ClassAsks (entry.Put (up_lane queue) (item.Up z))
      by_item (said.Value value) e a = subst (λ x. ClassAsks (entry.Put (up_lane queue) (item.Up x))) (some_is _ z e) tt
      by_item (said.Mark generation) e a = subst (λ x. ClassAsks (entry.Put (up_lane queue) (item.Up x))) (some_is _ z e) tt
      by_item said.Calm e a = subst (λ x. ClassAsks (entry.Put (up_lane queue) (item.Up x))) (some_is _ z e) tt
      by_item (said.Success s page sense) e a = subst (λ x. ClassAsks (entry.Put (up_lane queue) (item.Up x))) (some_is _ z e) (success_class w h f queue s page sense a)
      by_item (said.Framed s g page sense) e a = framed_asks queue s g page sense free z e a

  up_asks : (queue : ℕ) (y : Said) (rest : List Said) (z : Up) → outbox_of w.ioc queue ≡ y ∷ rest → up_of y (slice_get w.ioc.ring 0) ≡ Some z → ClassAsks (entry.Put (up_lane queue) (item.Up z))
  up_asks queue y rest z e u =
      said_asks queue y (slice_get w.ioc.ring 0) z u
      (All-head (SaidIs w h queue) y rest (subst (All (SaidIs w h queue)) e (all_last (SaidIs w h queue) (Rattle.std.proofs.Common.map said_of (up_on w queue)) (outbox_of w.ioc queue) (f.messages.said queue))))

  -- ---- all cases

  OnCase : World → List Entry → Type 0
  OnCase v t = EachEntry (ClassAsks) t

  owes : OwesTold OnCase w
  unfolding OnCase
  owes =
      record {
        idles = λ c. (tt, tt);
        host_puts = λ x rest e. (put_asks x rest e, tt);
        host_takes = λ queue x rest e y. (tt, host_told_asks (hears_up w.host queue x).entries (host_tells w.host queue x));
        host_told = λ i c. input_asks (host_told w.host i).entries (input_words w.host i);
        host_looks = λ e. tt;
        host_stops = λ e. tt;
        no_session = tt;
        ioc_takes = λ x rest e. (tt, down_asks w.ioc x);
        ioc_high = λ p rest e. ioc_asks (step.works_on (record w.ioc { high = rest }) p).entries (works_words (record w.ioc { high = rest }) p);
        ioc_normal = λ p rest e. ioc_asks (step.works_on (record w.ioc { normal = rest }) p).entries (works_words (record w.ioc { normal = rest }) p);
        ioc_puts_out = λ x rest e. (tt, tt);
        ioc_takes_back = λ x rest e. (tt, ioc_asks (adapter.takes_back w.ioc x).entries (back_words w.ioc x));
        ioc_puts = λ queue y rest z e u. (up_asks queue y rest z e u, tt);
        fabric_takes = λ x rest e. (tt, tt);
        fabric_says = λ x rest e. tt;
        fabric_puts = λ x rest e. (tt, tt);
        fabric_runs = λ tag address e. (tt, tt);
        plugs = λ address expander phy t p. plug_asks t p;
        unplugs = λ address t p. plug_asks t p;
        calms = tt;
      }

  pub classes_kept : (c : Case) → ClassesKept (entries w c)
  unfolding OnCase
  classes_kept c = kept_told OnCase w plain owes c
