-- An abort is open only of a number that was accepted: each case keeps it.
use Rattle.std.proofs.Common.{◌≡◌, ℕ, ◌==◌, ◌||◌, Bool, true, false, List, [], ◌∷◌, Option, None, is_some, refl, ap, sym, ◌∙◌, subst}
use Rattle.std.specs.FinMap as finmap
use Rattle.std.specs.FinSet as finset
use Rattle.std.specs.List.{fold, range_with_len}
use Rattle.std.specs.Ordering.{nat_cmp}
use Rattle.std.proofs.lemmas.Bool.{eqb-true}
use Rattle.std.proofs.lemmas.Cmp.{nat_cmp_total}
use Rattle.smid_pool.specs.Pool.{Slot, Free, Open, Parked, slot_of}
use Rattle.mpt_wire.specs.Machine.Causes.{is_resetting}
use Rattle.mpt_trace.specs.declared.item.Down.{Down}
use Rattle.mpt_trace.specs.declared.item.Down.TheVariants as down
use Rattle.mpt_rules.specs.declared.request.Request.{Request}
use Rattle.mpt_rules.specs.declared.request.Request.TheVariants as request
use Rattle.mpt_rules.specs.declared.stage.Stage.{Stage}
use Rattle.mpt_rules.specs.declared.stage.Stage.TheVariants as stage
use Rattle.mpt_rules.specs.Host.Parts.{Host}
use Rattle.mpt_rules.specs.Host.Posts as asks
use Rattle.mpt_rules.specs.Host.Replies as replies
use Rattle.mpt_rules.specs.Host.Returns as returns
use Rattle.mpt_rules.specs.Host.Returns.{after_sent}
use Rattle.mpt_rules.specs.Law.{NothingIsStrange}
use Rattle.mpt_rules.specs.World.Cases.{Case, happens}
use Rattle.mpt_rules.specs.World.Settings.{Setting, first_world}
use Rattle.mpt_rules.specs.World.State.{World}
use Rattle.law_facts.specs.DoorAhead.{IsInMode}
use Rattle.law_facts.specs.Facts.{Facts}
use Rattle.law_facts.specs.History.{History}
use Rattle.law_flights.proofs.HostMoves as moves
use Rattle.law_flights.proofs.HostMoves.{Accepts, Acked, Acks, Adds, Answers, AskedInternal, AskedLeave, AsksAbort, AsksTarget, Begins, BeginsMessages, EndsAbort, EndsTarget, FreedHigh, FreedInternal, Frees, FreesHigh, FreesInternal, GivesHigh, GivesInternal, GivesUp, Keeps, Leaves, LeftAsks, LeftOnly, Loses, Move, Notified, Posts, Puts, PutsRead, PutsWrites, Reads, Removes, Returns, Sets, TakesEntry, WaitsHigh, WaitsInternal, along, input_is_moves, is_reset_stage, item_is_moves, look_is_moves, stop_is_moves}
use Rattle.law_moves.proofs.Cases.{Owes, kept}
use Rattle.law_messages.specs.Numbers.{AbortsAreAccepted}
use Rattle.law_messages.proofs.Agreeing.{Cmds, not_both}
use Rattle.law_messages.proofs.Keys.{get_inserted, get_other_inserted, get_other_removed, get_removed, same_key}

abbrev Aborts : Type 0
Aborts = finmap.FinMap nat_cmp ℕ

abbrev Accepted : Type 0
Accepted = finset.FinSet nat_cmp

-- the numbers of the two tables were accepted
record Known (cmds : Cmds) (aborts : Aborts) (accepted : Accepted) : Type 0 where
  commands : (n : ℕ) → is_some (finmap.get cmds n) ≡ true → finset.contains accepted n ≡ true
  named : (n : ℕ) → is_some (finmap.get aborts n) ≡ true → finset.contains accepted n ≡ true

abbrev KnownHost : Host → Type 0
KnownHost h = Known h.cmds h.aborts h.accepted

-- ---- writes

some_removed : {X : Type 0} (m : finmap.FinMap nat_cmp X) (n q : ℕ) → is_some (finmap.get (finmap.remove m n) q) ≡ true → is_some (finmap.get m q) ≡ true
some_removed m n q t = by_key (q == n) refl
  where
    by_key : (b : Bool) → (q == n) ≡ b → is_some (finmap.get m q) ≡ true
    by_key true e = not_both (is_some (finmap.get (finmap.remove m n) q)) (ap (λ j. is_some (finmap.get (finmap.remove m n) j)) (eqb-true q n e) ∙ ap is_some (get_removed m n)) t
    by_key false e = sym (ap is_some (get_other_removed m n q (Rattle.law_messages.proofs.Agreeing.differ q n e))) ∙ t

some_inserted : {X : Type 0} (m : finmap.FinMap nat_cmp X) (n : ℕ) (x : X) (c : ℕ → Bool) → c n ≡ true → ((q : ℕ) → is_some (finmap.get m q) ≡ true → c q ≡ true) → (q : ℕ) → is_some (finmap.get (finmap.insert m n x) q) ≡ true → c q ≡ true
some_inserted m n x c a f q t = by_key (q == n) refl
  where
    by_key : (b : Bool) → (q == n) ≡ b → c q ≡ true
    by_key true e = ap c (eqb-true q n e) ∙ a
    by_key false e = f q (sym (ap is_some (get_other_inserted m n x q (Rattle.law_messages.proofs.Agreeing.differ q n e))) ∙ t)

more_accepted : (s : Accepted) (n q : ℕ) → finset.contains s q ≡ true → finset.contains (finset.insert s n) q ≡ true
more_accepted s n q e = finset.contains-insert nat_cmp_total s n q ∙ (ap (λ b. Rattle.std.specs.Ordering.eq_by_cmp nat_cmp q n || b) e ∙ either (Rattle.std.specs.Ordering.eq_by_cmp nat_cmp q n))
  where
    either : (b : Bool) → (b || true) ≡ true
    either true = refl
    either false = refl

now_accepted : (s : Accepted) (n : ℕ) → finset.contains (finset.insert s n) n ≡ true
now_accepted s n = finset.contains-insert nat_cmp_total s n n ∙ ap (λ b. b || finset.contains s n) (Rattle.law_messages.proofs.Keys.this_key n)

-- ---- moves

internal : (h : Host) (s : ℕ) (x : Request) → KnownHost h → KnownHost (asks.posts_internal h s x)
internal h s (request.Page handle) z = z
internal h s (request.Remove handle) z = z
internal h s (request.Ack event context) z = z
internal h s request.Notification z = z
internal h s request.PortEnable z = z
internal h s (request.Command n) z = z
internal h s (request.Abort n task) z = z
internal h s (request.TargetReset address) z = z
internal h s (request.Leave handle) z = z

unparked : (h : Host) (task : ℕ) (x : Slot Request) → KnownHost h → KnownHost (replies.unparks h task x)
unparked h task Free z = z
unparked h task (Open r) z = z
unparked h task Parked z = z

all_returned : (h : Host) (fs : List ℕ) → KnownHost h → KnownHost (fold returns.with_return h fs)
all_returned h [] z = z
all_returned h (f ∷ fs) z = all_returned (returns.with_return h f) fs z

to : (x h2 : Host) → h2 ≡ x → KnownHost x → KnownHost h2
to x h2 e z = subst KnownHost (sym e) z

asked : (x : Request) (h h2 : Host) → AskedInternal x h h2 → KnownHost h → KnownHost h2
asked x h h2 (Posts s f e) z = to _ h2 e (internal h s x z)
asked x h h2 (WaitsInternal f e) z = to _ h2 e z

asked_leave : (handle : ℕ) (h h2 : Host) → AskedLeave handle h h2 → KnownHost h → KnownHost h2
asked_leave handle h h2 (Leaves s f e) z = to _ h2 e z
asked_leave handle h h2 (WaitsHigh f e) z = to _ h2 e z

freed_high : (s : ℕ) (h h2 : Host) → FreedHigh s h h2 → KnownHost h → KnownHost h2
freed_high s h h2 (FreesHigh w e) z = to _ h2 e z
freed_high s h h2 (GivesHigh handle rest w e) z = to _ h2 e z

freed_internal : (s : ℕ) (h h2 : Host) → FreedInternal s h h2 → KnownHost h → KnownHost h2
freed_internal s h h2 (FreesInternal w e) z = to _ h2 e z
freed_internal s h h2 (GivesInternal x rest w e) z = to _ h2 e (internal (record (asks.frees h s) { wait_internal = rest }) s x z)

moved : (h h2 : Host) → Move h h2 → KnownHost h → KnownHost h2
moved h h2 (Puts x a e) z = to _ h2 e z
moved h h2 (PutsWrites ws a e) z = to _ h2 e z
moved h h2 (PutsRead d reg e) z = to _ h2 e z
moved h h2 (Sets machine s reading ready marks e) z = to _ h2 e z
moved h h2 (TakesEntry queue e) z = to _ h2 e z
moved h h2 (Returns f r e) z = to _ h2 e z
moved h h2 (Keeps f r e) z = to _ h2 e z
moved h h2 (BeginsMessages m b r a) z = asked request.Notification m h2 a (to _ m r (all_returned h (range_with_len 0 returns.reply_frame_count) z))
moved h h2 (Frees s r o m e) z = to _ h2 e z
moved h h2 (Answers s n how o e) z = to _ h2 e (record { commands = λ q t. z.commands q (some_removed h.cmds n q t); named = z.named })
moved h h2 (EndsAbort s n task o f) z = freed_high s (replies.closes_abort h n task) h2 f (unparked (record h { aborts = finmap.remove h.aborts n }) task (slot_of h.pool task) (record { commands = z.commands; named = λ q t. z.named q (some_removed h.aborts n q t) }))
moved h h2 (EndsTarget s address o f) z = freed_high s h h2 f z
moved h h2 (LeftAsks s handle m o r u f a) z = asked (request.Remove handle) m h2 a (freed_high s _ m f z)
moved h h2 (LeftOnly s handle o r u f) z = freed_high s _ h2 f z
moved h h2 (Reads s handle page o r f) z = freed_internal s _ h2 f z
moved h h2 (Removes s handle o r f) z = freed_internal s _ h2 f z
moved h h2 (Acked s event context o r f) z = freed_internal s h h2 f z
moved h h2 (Notified s m o r f a) z = asked request.PortEnable m h2 a (freed_internal s h m f z)
moved h h2 (moves.ComesUp s m o r f e) z = to _ h2 e (freed_internal s h m f z)
moved h h2 (Acks event context b a) z = asked (request.Ack event context) h h2 a z
moved h h2 (Adds handle b d p a) z = asked (request.Page handle) _ h2 a z
moved h h2 (Loses handle p b d o r a) z = asked_leave handle _ h2 a z
moved h h2 (Accepts s n address handle command u a r f e) z =
    to _ h2 e (record { commands = λ q t. some_inserted h.cmds n (record { smid = s; handle = handle }) (finset.contains (finset.insert h.accepted n)) (now_accepted h.accepted n) (λ j y. more_accepted h.accepted n j (z.commands j y)) q t; named = λ q t. more_accepted h.accepted n q (z.named q t) })
moved h h2 (AsksAbort s n cmd u c a f e) z = to _ h2 e (record { commands = z.commands; named = λ q t. some_inserted h.aborts n s (finset.contains h.accepted) (z.commands n (ap is_some c)) z.named q t })
moved h h2 (AsksTarget s address handle u r f e) z = to _ h2 e z
moved h h2 (moves.Starts o e) z = to _ h2 e z
moved h h2 (GivesUp s m e) z = to _ h2 e z
moved h h2 (moves.Anew g r m e) z = to _ h2 e (record { commands = λ q t. none (finmap.get-empty nat_cmp q) t; named = λ q t. none (finmap.get-empty nat_cmp q) t })
  where
    none : {X T : Type 0} {o : Option X} → o ≡ None → is_some o ≡ true → T
    none e t = not_both (is_some _) (ap is_some e) t

-- ---- all cases

module _ (w : World) (h : History) (f : Facts w h) (plain : NothingIsStrange w) (a : AbortsAreAccepted w) where
  known : KnownHost w.host
  known = record { commands = λ n t. (f.disks.numbers n).accepted t; named = a }

  begun : (s : Stage) → IsInMode w s → Begins s w.host.mode
  begun stage.Init i = record { init = λ e. ap is_resetting i; resets = λ e. absurd (cc) }
  begun stage.DiagnosticReset i = record { init = λ e. absurd (cc); resets = λ e. ap is_resetting i }
  begun stage.UnitReset i = record { init = λ e. absurd (cc); resets = λ e. ap is_resetting i }
  begun stage.Idle i = record { init = λ e. absurd (cc); resets = λ e. absurd (cc) }
  begun stage.Start i = record { init = λ e. absurd (cc); resets = λ e. absurd (cc) }
  begun stage.StartReset i = record { init = λ e. absurd (cc); resets = λ e. absurd (cc) }
  begun stage.Facts i = record { init = λ e. absurd (cc); resets = λ e. absurd (cc) }
  begun stage.PortFacts i = record { init = λ e. absurd (cc); resets = λ e. absurd (cc) }
  begun stage.Look i = record { init = λ e. absurd (cc); resets = λ e. absurd (cc) }

  fits : moves.Fits w.host
  fits = record { machine = λ t. begun w.host.stage (Rattle.law_messages.proofs.PostsKept.in_mode_of w h f t); ready = λ e. Rattle.law_messages.proofs.PostsKept.ready_resets_of w h f e }

  OnHost : World → Type 0
  OnHost v = KnownHost v.host

  sent : (x : Down) (rest : List Down) → KnownHost (after_sent w.host x rest)
  sent (down.Post d g p) rest = known
  sent (down.Write reg value) rest = known
  sent (down.Read reg) rest = known
  sent (down.Return address index) rest = known
  sent down.Stop rest = known

  owes : Owes OnHost w
  unfolding OnHost
  owes =
      record {
        host_puts = λ x rest e. sent x rest;
        host_takes = λ queue x rest e y. along KnownHost moved w.host _ (item_is_moves w.host queue x fits) known;
        host_told = λ i c. along KnownHost moved w.host _ (input_is_moves w.host i) known;
        host_looks = λ e. along KnownHost moved w.host _ (look_is_moves w.host) known;
        host_stops = λ e. along KnownHost moved w.host _ (stop_is_moves w.host) known;
        ioc_takes = λ x rest e. known;
        ioc_high = λ p rest e. known;
        ioc_normal = λ p rest e. known;
        ioc_puts_out = λ x rest e. known;
        ioc_takes_back = λ x rest e. known;
        ioc_puts = λ queue y rest z e u. known;
        fabric_takes = λ x rest e. known;
        fabric_says = λ x rest e. known;
        fabric_puts = λ x rest e. known;
        fabric_runs = λ tag address e. known;
        plugs = λ address expander phy. known;
        unplugs = λ address. known;
        calms = known;
      }

  pub aborts_stay_accepted : (c : Case) → AbortsAreAccepted (happens w c)
  unfolding OnHost
  aborts_stay_accepted c = let k : OnHost (happens w c) = kept OnHost w plain owes known c in k.named

pub aborts_accepted_at_first : (s : Setting) → AbortsAreAccepted (first_world s)
aborts_accepted_at_first s n t = not_both (is_some (finmap.get (first_world s).host.aborts n)) (ap is_some (finmap.get-empty nat_cmp n)) t
