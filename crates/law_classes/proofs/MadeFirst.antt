-- Each post that a case puts is the one that was made first of its class.
use Rattle.std.proofs.Common.{if◌then◌else◌, ◌≡◌, ℕ, Bool, true, false, List, [], ◌∷◌, ◌++◌, Option, Some, None, refl, ap, sym, ◌∙◌, subst}
use Rattle.std.specs.Prelude.{All}
use Rattle.std.proofs.lemmas.List.Elements.{All-head}
use Rattle.mpi_doorbell.specs.declared.effect.Effect.TheVariants as effect
use Rattle.mpi_doorbell.specs.declared.effect.Effect.{Effect}
use Rattle.mpi_doorbell.specs.DoorRegisters.{register_written}
use Rattle.mpt_wire.specs.Walks.Passes.{EachEntry}
use Rattle.mpt_trace.specs.declared.entry.Entry.{Entry}
use Rattle.mpt_trace.specs.declared.entry.Entry.TheVariants as entry
use Rattle.mpt_trace.specs.declared.item.Down.{Down}
use Rattle.mpt_trace.specs.declared.item.Down.TheVariants as down
use Rattle.mpt_trace.specs.declared.item.Item.TheVariants as item
use Rattle.mpt_trace.specs.declared.lane.LaneName.TheVariants as lane
use Rattle.mpt_rules.specs.Host.Takes.{hears_up}
use Rattle.mpt_rules.specs.Ioc.Parts.{Ioc}
use Rattle.mpt_rules.specs.Ioc.Registers.{after_effect}
use Rattle.mpt_rules.specs.Ioc.Steps as step
use Rattle.mpt_rules.specs.Ioc.Takes as adapter
use Rattle.mpt_rules.specs.Law.{NothingIsStrange}
use Rattle.mpt_rules.specs.World.Cases.{Case, entries}
use Rattle.mpt_rules.specs.World.Inputs.{host_told}
use Rattle.mpt_rules.specs.World.State.{World, up_lane}
use Rattle.law_facts.specs.Facts.{Facts}
use Rattle.law_facts.specs.History.{History}
use Rattle.law_facts.specs.Messages.{DownIsRecord, PostIs, PostIsRecord}
use Rattle.law_moves.proofs.CasesTold.{IsPlugWord, OwesTold, kept_told}
use Rattle.law_moves.proofs.HostWords.{EndsIt, HostTells, IsHostWord, Words, host_tells}
use Rattle.law_moves.proofs.InputWords.{IsInputWord, input_words}
use Rattle.law_moves.proofs.IocWords.{IsIocWord, back_words, works_words}
use Rattle.law_messages.proofs.Agreeing.{all_last}
use Rattle.law_classes.proofs.Posts.{posted_kind}
use Rattle.law_classes.proofs.Asks.{ack_isnt, enable_isnt, page_isnt, removal_isnt}
use Rattle.law_classes.specs.Made.{NotificationsAreFirst, PutAsMade}
use Rattle.std.specs.Bool.{MatchBool}
use Rattle.std.specs.List.{cons_option, filter_map}
use Rattle.smid_pool.specs.Pool.{Free, Open, Parked, Slot}
use Rattle.mpi_rings.specs.declared.request_descriptor.PostKind.{PostKind}
use Rattle.mpi_rings.specs.declared.request_descriptor.PostKind.TheVariants as post
use Rattle.mpt_wire.specs.Messages.Fields.{kind_in, smid_in}
use Rattle.mpt_wire.specs.Queues.Identifiers.{first_smid}
use Rattle.mpt_wire.specs.Queues.Lanes.{IsFirst}
use Rattle.mpt_wire.specs.Queues.LeastPosts.{Giving, GivingAsks, PostAsks, giving_next, is_notification}
use Rattle.mpt_wire.specs.Walks.Ahead.{PassesAhead, next_own}
use Rattle.mpt_rules.specs.declared.post.Post.{Post}
use Rattle.mpt_rules.specs.declared.request.Request.{Request}
use Rattle.mpt_rules.specs.declared.request.Request.TheVariants as request
use Rattle.law_facts.specs.Ties.{made_as, made_by}
use Rattle.law_facts.specs.Words.{slot}

contrary : {T : Type 0} {b : Bool} → b ≡ true → b ≡ false → T
contrary x y = let c : true ≡ false = sym x ∙ y in absurd (cc)

-- no post is put
abbrev IsNoPost : Entry → Type 0
IsNoPost (entry.Put l (item.Down (down.Post d g p))) = ⊥
IsNoPost _ = Unit {0}

none_asked : (g : Giving) (e : Entry) (ahead : Option Entry) → IsNoPost e → GivingAsks g e ahead
none_asked g (entry.Put l (item.Down (down.Post d f p))) ahead q = absurd q
none_asked g (entry.Put l (item.Down (down.Write reg value))) ahead q = tt
none_asked g (entry.Put l (item.Down (down.Read reg))) ahead q = tt
none_asked g (entry.Put l (item.Down (down.Return a i))) ahead q = tt
none_asked g (entry.Put l (item.Down down.Stop)) ahead q = tt
none_asked g (entry.Put l (item.Up x)) ahead q = tt
none_asked g (entry.Put l (item.Out x)) ahead q = tt
none_asked g (entry.Put l (item.Back x)) ahead q = tt
none_asked g _ ahead q = tt

passes_none : (g : Giving) (t : List Entry) → EachEntry IsNoPost t → PassesAhead giving_next GivingAsks g t
passes_none g [] q = tt
passes_none g (e ∷ t) q = (none_asked g e (next_own e t) q.0, passes_none (giving_next g e (next_own e t)) t q.1)

abbrev Asks : List Entry → Type 0
Asks t = EachEntry (IsNoPost) t

-- ---- what is told puts nothing

host_word : (e : Entry) → IsHostWord e → IsNoPost e
host_word entry.HostUp w = tt
host_word (entry.Ready address handle) w = tt
host_word (entry.Lost address handle) w = tt
host_word (entry.Answer n how) w = tt
host_word (entry.AbortEnd n how) w = tt
host_word (entry.TargetEnd address how) w = tt
host_word (entry.Put l x) w = absurd w
host_word (entry.Take l x) w = absurd w
host_word _ w = absurd w

host_words : (t : List Entry) → EachEntry IsHostWord t → Asks t
host_words [] a = tt
host_words (e ∷ t) a = (host_word e a.0, host_words t a.1)

asks_append : (t u : List Entry) → Asks t → Asks u → Asks (t ++ u)
asks_append [] u a b = b
asks_append (e ∷ t) u a b = (a.0, asks_append t u a.1 b)

host_told_asks : (t : List Entry) → HostTells t → Asks t
host_told_asks t (Words a) = host_words t a
host_told_asks t (EndsIt u a e) = subst Asks (sym e) (asks_append u (entry.ResetDone ∷ []) (host_words u a) (tt, tt))

input_word : (e : Entry) → IsInputWord e → IsNoPost e
input_word (entry.Given i) w = tt
input_word (entry.Accept n address smid) w = tt
input_word (entry.RefuseSubmit n cause) w = tt
input_word (entry.Refuse call cause) w = tt
input_word (entry.Put l x) w = absurd w
input_word _ w = absurd w

input_asks : (t : List Entry) → EachEntry IsInputWord t → Asks t
input_asks [] a = tt
input_asks (e ∷ t) a = (input_word e a.0, input_asks t a.1)

ioc_word : (e : Entry) → IsIocWord e → IsNoPost e
ioc_word (entry.Bind handle address plug) w = tt
ioc_word (entry.Unbind handle) w = tt
ioc_word (entry.Put l x) w = absurd w
ioc_word _ w = absurd w

ioc_asks : (t : List Entry) → EachEntry IsIocWord t → Asks t
ioc_asks [] a = tt
ioc_asks (e ∷ t) a = (ioc_word e a.0, ioc_asks t a.1)

plug_word : (e : Entry) → IsPlugWord e → IsNoPost e
plug_word (entry.Given i) w = tt
plug_word (entry.Refuse call cause) w = tt
plug_word (entry.Put l x) w = absurd w
plug_word _ w = absurd w

plug_asks : (t : List Entry) → EachEntry IsPlugWord t → Asks t
plug_asks [] a = tt
plug_asks (e ∷ t) a = (plug_word e a.0, plug_asks t a.1)

effect_asks : (i : Ioc) (f : Effect) → Asks (after_effect i f).entries
effect_asks i effect.None = tt
effect_asks i (effect.Asked count bytes) = tt
effect_asks i effect.UnitReset = (tt, tt)
effect_asks i effect.AdapterReset = (tt, tt)
effect_asks i (effect.Fault code) = tt

down_asks : (i : Ioc) (x : Down) → Asks (adapter.takes_down i x).entries
down_asks i (down.Write reg value) = effect_asks (record i { door = (register_written i.door reg value).registers }) (register_written i.door reg value).effect
down_asks i (down.Read reg) = tt
down_asks i (down.Post d f p) = tt
down_asks i (down.Return address index) = tt
down_asks i down.Stop = tt

module _ (w : World) (h : History) (f : Facts w h) (plain : NothingIsStrange w) (first : NotificationsAreFirst w) where
  -- the first of those that are made
  front_is : {X Y : Type 0} (test : X → Option Y) (x : X) (xs all : List X) (y : Y) (made : List Y) → made ≡ filter_map test all → all ≡ x ∷ xs → test x ≡ Some y → IsFirst y made
  front_is test x xs all y made m e t = (filter_map test xs, m ∙ (ap (filter_map test) e ∙ ap (λ o. cons_option o (filter_map test xs)) t))

  notified : (p : Post) → kind_in p.descriptor ≡ Some post.Default → is_notification p.frame ≡ true → (x : Slot Request) → slot w.host (smid_in p.descriptor) ≡ x → PostIs w h p x → smid_in p.descriptor ≡ first_smid post.Default
  notified p k n Free e a = absurd a
  notified p k n Parked e a = absurd a
  notified p k n (Open (request.Command m)) e a = absurd (other (posted_kind w h f p (request.Command m) e a))
    where
      other : kind_in p.descriptor ≡ Some post.ScsiIo → ⊥
      other z = let c : Some post.ScsiIo ≡ Some post.Default = sym z ∙ k in cc
  notified p k n (Open (request.Abort m task)) e a = absurd (other (posted_kind w h f p (request.Abort m task) e a))
    where
      other : kind_in p.descriptor ≡ Some post.HighPriority → ⊥
      other z = let c : Some post.HighPriority ≡ Some post.Default = sym z ∙ k in cc
  notified p k n (Open (request.TargetReset address)) e a = absurd (other (posted_kind w h f p (request.TargetReset address) e a))
    where
      other : kind_in p.descriptor ≡ Some post.HighPriority → ⊥
      other z = let c : Some post.HighPriority ≡ Some post.Default = sym z ∙ k in cc
  notified p k n (Open (request.Leave handle)) e a = absurd (other (posted_kind w h f p (request.Leave handle) e a))
    where
      other : kind_in p.descriptor ≡ Some post.HighPriority → ⊥
      other z = let c : Some post.HighPriority ≡ Some post.Default = sym z ∙ k in cc
  notified p k n (Open (request.Page handle)) e a = contrary (sym (ap is_notification a.1) ∙ n) (page_isnt (smid_in p.descriptor) handle)
  notified p k n (Open (request.Remove handle)) e a = contrary (sym (ap is_notification a.1) ∙ n) (removal_isnt handle)
  notified p k n (Open (request.Ack event context)) e a = contrary (sym (ap is_notification a.1) ∙ n) (ack_isnt event context)
  notified p k n (Open request.Notification) e a = first (smid_in p.descriptor) e
  notified p k n (Open request.PortEnable) e a = contrary (sym (ap is_notification a.1) ∙ n) enable_isnt

  post_asks : (d : ℕ) (g pl : List ℕ) (rest : List Down) → w.host.out ≡ down.Post d g pl ∷ rest → PostIsRecord w h (record { descriptor = d; frame = g; payload = pl }) → PostAsks (kind_in d) (smid_in d) g h.giving
  post_asks d g pl rest e a = by_kind (kind_in d) refl
    where
      by_kind : (o : Option PostKind) → kind_in d ≡ o → PostAsks o (smid_in d) g h.giving
      by_kind None k = tt
      by_kind (Some post.ScsiIo) k = tt
      by_kind (Some post.HighPriority) k = front_is (made_by post.HighPriority) (down.Post d g pl) rest w.host.out (smid_in d) h.giving.high.made f.ties.given.high_made e (ap (λ o. made_as post.HighPriority o (smid_in d) g) k)
      by_kind (Some post.Default) k = by_frame (is_notification g) refl
        where
          by_frame : (b : Bool) → is_notification g ≡ b → MatchBool b (smid_in d ≡ first_smid post.Default) (IsFirst (smid_in d) h.giving.internal.made)
          by_frame true n = notified (record { descriptor = d; frame = g; payload = pl }) k n (slot w.host (smid_in d)) refl a
          by_frame false n =
              front_is (made_by post.Default) (down.Post d g pl) rest w.host.out (smid_in d) h.giving.internal.made f.ties.given.internal_made e
              (ap (λ o. made_as post.Default o (smid_in d) g) k ∙ ap (λ b. if b then None else Some (smid_in d)) n)

  item_asks : (x : Down) (rest : List Down) → w.host.out ≡ x ∷ rest → DownIsRecord w h x → GivingAsks h.giving (entry.Put lane.Down (item.Down x)) None
  item_asks (down.Post d g p) rest e a = post_asks d g p rest e a
  item_asks (down.Write reg value) rest e a = tt
  item_asks (down.Read reg) rest e a = tt
  item_asks (down.Return address index) rest e a = tt
  item_asks down.Stop rest e a = tt

  put_asks : (x : Down) (rest : List Down) → w.host.out ≡ x ∷ rest → GivingAsks h.giving (entry.Put lane.Down (item.Down x)) None
  put_asks x rest e = item_asks x rest e (All-head (DownIsRecord w h) x rest (subst (All (DownIsRecord w h)) e (all_last (DownIsRecord w h) w.down w.host.out f.messages.down)))

  none : (t : List Entry) → EachEntry IsNoPost t → PutAsMade h t
  none t q = passes_none h.giving t q

  -- ---- all cases

  OnCase : World → List Entry → Type 0
  OnCase v t = PutAsMade h t

  owes : OwesTold OnCase w
  unfolding OnCase
  owes =
      record {
        idles = λ c. (tt, tt);
        host_puts = λ x rest e. (put_asks x rest e, tt);
        host_takes = λ queue x rest e y. none (entry.Take (up_lane queue) (item.Up x) ∷ (hears_up w.host queue x).entries) ((tt, host_told_asks (hears_up w.host queue x).entries (host_tells w.host queue x)));
        host_told = λ i c. none (host_told w.host i).entries (input_asks (host_told w.host i).entries (input_words w.host i));
        host_looks = λ e. tt;
        host_stops = λ e. tt;
        no_session = tt;
        ioc_takes = λ x rest e. none (entry.Take lane.Down (item.Down x) ∷ (adapter.takes_down w.ioc x).entries) ((tt, down_asks w.ioc x));
        ioc_high = λ p rest e. none (step.works_on (record w.ioc { high = rest }) p).entries (ioc_asks (step.works_on (record w.ioc { high = rest }) p).entries (works_words (record w.ioc { high = rest }) p));
        ioc_normal = λ p rest e. none (step.works_on (record w.ioc { normal = rest }) p).entries (ioc_asks (step.works_on (record w.ioc { normal = rest }) p).entries (works_words (record w.ioc { normal = rest }) p));
        ioc_puts_out = λ x rest e. (tt, tt);
        ioc_takes_back = λ x rest e. none (entry.Take lane.Back (item.Back x) ∷ (adapter.takes_back w.ioc x).entries) ((tt, ioc_asks (adapter.takes_back w.ioc x).entries (back_words w.ioc x)));
        ioc_puts = λ queue y rest z e u. (tt, tt);
        fabric_takes = λ x rest e. (tt, tt);
        fabric_says = λ x rest e. tt;
        fabric_puts = λ x rest e. (tt, tt);
        fabric_runs = λ tag address e. (tt, tt);
        plugs = λ address expander phy t p. none t (plug_asks t p);
        unplugs = λ address t p. none t (plug_asks t p);
        calms = tt;
      }

  pub put_as_made : (c : Case) → PutAsMade h (entries w c)
  unfolding OnCase
  put_as_made c = kept_told OnCase w plain owes c
