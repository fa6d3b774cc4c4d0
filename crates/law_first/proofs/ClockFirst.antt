-- The facts of the clock of resets hold of the first world.
use Rattle.std.proofs.Common.{◌≡◌, ℕ, ◌+◌, ◌≤◌, Bool, true, false, [], None, is_some, refl, ap, ◌∙◌, arith}
use Rattle.smid_pool.specs.Pool.{Free, is_taken}
use Rattle.mpt_rules.specs.declared.binding.Binding.TheVariants as binding
use Rattle.mpt_rules.specs.declared.said.Said.{Said}
use Rattle.mpt_rules.specs.Fabric.Calls.{is_calm}
use Rattle.mpt_rules.specs.Host.Doorbell.{is_reset_item}
use Rattle.mpt_rules.specs.Ioc.Back.{is_port_enable}
use Rattle.mpt_rules.specs.Ioc.Replies.{outbox_of}
use Rattle.mpt_rules.specs.Ioc.Tables.{is_unbound}
use Rattle.mpt_rules.specs.World.Counts.{how_many, is_mark, mark_count, mark_count_of, read_count, register_write_count, reset_write_count, value_count}
use Rattle.mpt_rules.specs.World.FabricCounts.{discovered_count, discover_count, is_link, is_linked, linked_count, linked_count_of, link_count, link_count_of}
use Rattle.mpt_rules.specs.World.Lines.{up_line}
use Rattle.mpt_rules.specs.World.Settings.{Setting, first_world}
use Rattle.mpt_rules.specs.World.State.{World}
use Rattle.mpt_rules.specs.World.Weight.{is_read}
use Rattle.law_facts.specs.Clock.{Clock, FabricOff, HasNothing, IsDark, IsStill, LoadsBeforeReset, MarkIsDue, MarkStands, NoReplyBeforeInit, OneLink, OneRead, OneResetWrite, PhaseTable, ResetsSeen, ValueIsLast, WritesBeforeRead}
use Rattle.law_facts.specs.History.{History, first_history}
use Rattle.law_facts.specs.Words.{behind, is_calm_said, is_discover_or_stop, is_load, is_order, is_reply, is_reply_or_mark, is_stop, is_stray_reset, others}
use Rattle.law_moves.proofs.Counted.{how_many-nil, others-nil}
use Rattle.law_first.proofs.Empty.{all_of, line_empty, none_of, same_at}

-- what can't be of the first world
pub never : {X : Type 0} → false ≡ true → X
never e = absurd (cc)

pub no_more_than : {X : Type 0} (n : ℕ) → 1 ≤ n → n ≡ 0 → X
no_more_than n l e = absurd (omega (arith, l, e))

module _ (s : Setting) where
  abbrev w : World
  w = first_world s

  abbrev h : History
  h = first_history s.disks

  -- nothing is counted where nothing is
  counts_zero : (mark_count [] ≡ 0) × (value_count [] ≡ 0) × ((g : ℕ) → mark_count_of g [] ≡ 0) × (read_count [] ≡ 0) × (reset_write_count [] ≡ 0) × (register_write_count [] ≡ 0)
  unfolding mark_count value_count mark_count_of read_count reset_write_count register_write_count how_many
  counts_zero = (refl, refl, λ g. refl, refl, refl, refl)

  links_zero : (link_count [] ≡ 0) × (linked_count [] ≡ 0) × ((g : ℕ) → link_count_of g [] ≡ 0) × ((g : ℕ) → linked_count_of g [] ≡ 0) × (discover_count [] ≡ 0) × (discovered_count [] ≡ 0)
  unfolding link_count linked_count link_count_of linked_count_of discover_count discovered_count how_many
  links_zero = (refl, refl, λ g. refl, λ g. refl, refl, refl)

  behind_none : {X : Type 0} (p : X → Bool) → behind p [] ≡ []
  unfolding behind
  behind_none p = refl

  line : (queue : ℕ) → up_line w queue ≡ []
  line queue = line_empty s.queues queue

  box : (queue : ℕ) → outbox_of w.ioc queue ≡ []
  box queue = same_at s.queues queue []

  -- of each queue
  none_on : (p : Said → Bool) (queue : ℕ) → how_many p (up_line w queue) ≡ 0
  none_on p queue = ap (how_many p) (line queue) ∙ how_many-nil p

  none_behind : (t p : Said → Bool) (queue : ℕ) → how_many p (behind t (up_line w queue)) ≡ 0
  none_behind t p queue = ap (λ xs. how_many p (behind t xs)) (line queue) ∙ (ap (how_many p) (behind_none t) ∙ how_many-nil p)

  still : IsStill w
  still =
      record {
        down = refl;
        up = λ queue. ap (others is_calm_said) (line queue) ∙ others-nil is_calm_said;
        out = others-nil is_stop;
        back = others-nil is_calm;
        pool = none_of is_taken 280 Free refl;
      }

  phase_table : PhaseTable w
  phase_table =
      record {
        asked_fits = omega arith;
        generation_fits = omega arith;
        level = λ e. refl;
        ahead = λ e. never e;
        whole = refl;
        reset = λ e. never e;
        live = λ e. never e;
        off = λ e. still;
      }

  one_read : OneRead w
  one_read =
      record {
        one = let a = counts_zero.3 in let b = ap value_count (line 0) ∙ counts_zero.1 in omega (arith, a, b);
        above = λ queue l. ap value_count (line queue) ∙ counts_zero.1;
        awaited = λ e. never e;
      }

  one_reset_write : OneResetWrite w
  one_reset_write =
      record {
        one = counts_zero.4;
        begun = λ e. never e;
        others_return = λ e. refl;
        strays = how_many-nil is_stray_reset;
        mild = λ door e. absurd (cc);
        behind_it = ap register_write_count (behind_none is_reset_item) ∙ counts_zero.5;
        since = λ e. never e;
      }

  loads : LoadsBeforeReset w
  loads =
      record {
        live = λ l. no_more_than (how_many is_load []) l (how_many-nil is_load);
        before = ap (how_many is_load) (behind_none is_reset_item) ∙ how_many-nil is_load;
        outbox = λ e. never e;
      }

  nothing : HasNothing w
  nothing =
      record {
        high = refl;
        normal = refl;
        requests = none_of is_some 280 None refl;
        held = refl;
        bindings = all_of is_unbound 64 binding.Unbound refl;
        waiting = refl;
        ring = refl;
        unacked = refl;
        enabled = refl;
        through = refl;
      }

  one_link : OneLink w
  one_link =
      record {
        one = let a = links_zero.0 in let b = links_zero.1 in omega (arith, a, b);
        this = let a = links_zero.2 0 in let b = links_zero.3 0 in omega (arith, a, b);
        behind_link = ap (others is_stop) (behind_none is_link) ∙ others-nil is_stop;
        behind_linked = ap (others is_calm) (behind_none is_linked) ∙ others-nil is_calm;
        linked = λ e. let z = links_zero.1 in absurd (omega (arith, e, z));
      }

  dark : IsDark w
  dark = record { on = refl; tasks = refl; notices = refl; back = others-nil is_calm; out = others-nil is_discover_or_stop }

  no_enables : how_many is_port_enable w.ioc.requests ≡ 0
  no_enables = none_of is_port_enable 280 None refl

  fabric_off : FabricOff w
  fabric_off =
      record {
        dark = λ e. dark;
        lit = λ e. never e;
        orders = λ l. let z = how_many-nil is_order in no_more_than (0 + how_many is_order []) l (omega (arith, z));
        one = λ e. let a = links_zero.4 in let b = links_zero.5 in let c = no_enables in omega (arith, a, b, c);
        at_most = let a = links_zero.4 in let b = links_zero.5 in omega (arith, a, b);
        asked = λ l. no_more_than (how_many is_port_enable w.ioc.requests) l no_enables;
        up = λ e. never e;
      }

  no_reply : NoReplyBeforeInit w
  no_reply =
      record {
        outboxes = λ e queue. ap (how_many is_reply) (box queue) ∙ how_many-nil is_reply;
        before = λ e l queue. none_on is_reply queue;
      }

  mark_stands : (queue : ℕ) → MarkStands w queue
  mark_stands queue =
      record {
        kinds = ap (others is_reply_or_mark) (line queue) ∙ others-nil is_reply_or_mark;
        this = λ e. never e;
        one = λ e. never e;
        last = none_behind is_mark is_reply queue;
        over = λ e. never e;
        none = λ e. ap mark_count (line queue) ∙ counts_zero.0;
        early = λ e. never e;
      }

  value_is_last : ValueIsLast w
  value_is_last = record { last = λ e. never e; ready = λ e. never e }

  mark_is_due : (queue : ℕ) → MarkIsDue w h queue
  mark_is_due queue =
      record {
        resets = refl;
        due = λ l. no_more_than (mark_count (outbox_of w.ioc queue)) l (ap mark_count (box queue) ∙ counts_zero.0);
        none = λ e. refl;
        awaits = λ e. never e;
        taken = λ e. never e;
      }

  resets_seen : ResetsSeen w h
  resets_seen = record { each = λ queue a b. mark_is_due queue; dropping = refl; resetting = refl }

  writes : WritesBeforeRead w
  writes = record { before = ap register_write_count (behind_none is_read) ∙ counts_zero.5; gone = λ e. never e }

  pub clock_first : Clock w h
  clock_first =
      record {
        phase_table = phase_table;
        one_read = one_read;
        one_reset_write = one_reset_write;
        loads_before_reset = loads;
        tables_empty = λ e. nothing;
        one_link = one_link;
        fabric_off = fabric_off;
        no_reply_before_init = no_reply;
        marks = record { each = λ queue a b. mark_stands queue; first = ap mark_count (line 0) ∙ counts_zero.0 };
        value_is_last = value_is_last;
        resets_seen = resets_seen;
        writes_before_read = writes;
      }
