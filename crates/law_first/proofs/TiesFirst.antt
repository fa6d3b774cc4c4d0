-- What the rules that tie entries know of the first world: nothing, as nothing was said.
use Rattle.std.proofs.Common.{◌≡◌, ℕ, ◌+◌, ◌%◌, true, List, [], Option, None, refl, ap, sym, subst, arith}
use Rattle.std.proofs.lemmas.List.Elements.{All-nil}
use Rattle.smid_pool.specs.Pool.{Slot, is_open}
use Rattle.mpt_wire.specs.Messages.DoorbellWords.{is_over}
use Rattle.mpt_wire.specs.Queues.LeastFree.{Holder}
use Rattle.mpt_rules.specs.declared.request.Request.{Request}
use Rattle.mpt_rules.specs.declared.said.Said.{Said}
use Rattle.mpt_rules.specs.Ioc.Replies.{outbox_of}
use Rattle.mpt_rules.specs.World.Settings.{Setting, first_world}
use Rattle.mpt_rules.specs.World.State.{World}
use Rattle.law_facts.specs.DoorAhead.{first_value}
use Rattle.law_facts.specs.History.{History, first_history}
use Rattle.law_facts.specs.Ties.{BellTied, Given, HeardOf, HolderIs, OpenGiven, PostHeard, QueueIndex, ReadsAre, RingsTied, TalkTied, Ties, is_index_of, is_return, talk_out, talk_with}
use Rattle.law_facts.specs.Words.{slot}
use Rattle.law_moves.proofs.Counted.{how_many-nil}
use Rattle.law_first.proofs.ClockFirst.{never}
use Rattle.law_first.proofs.Empty.{same_at}
use Rattle.law_first.proofs.FlightsFirst.{all_slots_free}

module _ (s : Setting) where
  abbrev w : World
  w = first_world s

  abbrev h : History
  h = first_history s.disks

  queue_index : (queue : ℕ) → QueueIndex w h queue
  queue_index queue = record { heard = let z = how_many-nil (is_index_of queue) in omega (arith, z); next = same_at s.queues queue 0; go_on = tt }

  rings : RingsTied w h
  rings = record { ring = refl; returned = let z = how_many-nil is_return in ap (λ n. (0 + n) % 80) (sym z); returns = tt }

  given : Given w h
  given = record { high_made = refl; internal_made = refl; high_waiting = refl; internal_waiting = refl }

  opened : (q : ℕ) → OpenGiven w h q
  opened q = record { high = λ a b. sym (ap (λ (x : Slot Request). is_open x) (all_slots_free s q)); internal = λ a b e. sym (ap (λ (x : Slot Request). is_open x) (all_slots_free s q)) }

  holder : (q : ℕ) → HolderIs w (h.holders q) (slot w.host q)
  holder q = let n : Option Holder = None in subst (HolderIs w n) (sym (all_slots_free s q)) refl

  box : outbox_of w.ioc 0 ≡ []
  box = let n : List Said = [] in same_at s.queues 0 n

  no_value : first_value (outbox_of w.ioc 0) ≡ None
  unfolding first_value
  no_value = ap first_value box

  bell : BellTied w h.bell
  bell =
      record {
        rings = refl;
        dwords = refl;
        replying = refl;
        used = λ e. never e;
        ended = λ e f. never f;
        reads = subst (λ o. ReadsAre o []) (sym no_value) refl;
        value = λ value e. never e;
      }

  quiet : is_over (talk_out w h) ≡ true
  unfolding talk_with
  quiet = refl

  talk : TalkTied w h
  talk =
      record {
        reading = λ e. never e;
        register = λ door e. absurd (cc);
        begun = tt;
        said = λ door a e. absurd (cc);
        over = λ e r. quiet;
        late = λ e. never e;
        unit = λ e. never e;
        asked = λ e. never e;
        none_asked = λ e. refl;
      }

  pub ties_first : Ties w h
  ties_first =
      record {
        index = λ queue l. queue_index queue;
        rings = rings;
        heard = λ q. subst (HeardOf w h q) (sym (all_slots_free s q)) tt;
        unheard = All-nil (PostHeard w h);
        ready = λ e. never e;
        holders = λ q a b. holder q;
        given = given;
        opened = opened;
        so_far = refl;
        bell = bell;
        talk = talk;
      }
