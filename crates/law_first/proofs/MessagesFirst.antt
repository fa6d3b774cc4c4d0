-- The facts of messages hold of the first world: nothing is said.
use Rattle.std.proofs.Common.{◌≡◌, ℕ, All, refl, sym, subst, arith}
use Rattle.std.proofs.lemmas.List.Elements.{All-nil}
use Rattle.smid_pool.specs.Pool.{Free}
use Rattle.mpt_rules.specs.World.Counts.{how_many}
use Rattle.mpt_rules.specs.World.Settings.{Setting, first_world}
use Rattle.mpt_rules.specs.World.State.{World}
use Rattle.law_facts.specs.History.{History, first_history}
use Rattle.law_facts.specs.Messages.{BackIs, BringUp, DownIsRecord, HeldIs, IsUnknown, Messages, NamedIsOpen, OutIs, PostIsRecord, RequestIs, SaidIs, TaskIs, is_enable_waiting}
use Rattle.law_facts.specs.Words.{is_enable_asked, is_notification_asked}
use Rattle.law_moves.proofs.Counted.{how_many-nil}
use Rattle.law_first.proofs.ClockFirst.{never}
use Rattle.law_first.proofs.Empty.{line_empty, no_key, none_of}
use Rattle.law_first.proofs.FlightsFirst.{all_slots_free, nothing_asked}

module _ (s : Setting) where
  abbrev w : World
  w = first_world s

  abbrev h : History
  h = first_history s.disks

  named : (n : ℕ) → NamedIsOpen w h n
  named n = record { live = λ c r e. no_key w.host.cmds refl n c e; number = λ c e. no_key w.host.cmds refl n c e; fit = λ r e. no_key h.machine.requests refl n r e }

  bring_up : BringUp w
  bring_up =
      record {
        one = λ e. never e;
        at_most = let a : how_many is_notification_asked w.host.pool ≡ 0 = none_of is_notification_asked 280 Free refl in let b : how_many is_enable_asked w.host.pool ≡ 0 = none_of is_enable_asked 280 Free refl in omega (arith, a, b);
        enabled = λ e. never e;
        processed = λ e. never e;
        before = λ e. never e;
        through = λ e. never e;
        up = λ e. never e;
        waiting = λ e. how_many-nil is_enable_waiting;
      }

  pub messages_first : Messages w h
  messages_first =
      record {
        down = All-nil (DownIsRecord w h);
        high = All-nil (PostIsRecord w h);
        normal = All-nil (PostIsRecord w h);
        named = named;
        unknown = λ q. subst (IsUnknown w h q) (sym (all_slots_free s q)) refl;
        requests = λ q. subst (RequestIs w h q) (sym (nothing_asked s q)) tt;
        held = All-nil (HeldIs w);
        out = All-nil (OutIs w h);
        tasks = All-nil (TaskIs h);
        back = All-nil (BackIs h);
        said = λ queue. subst (All (SaidIs w h queue)) (sym (line_empty s.queues queue)) (All-nil (SaidIs w h queue));
        bring_up = bring_up;
      }
