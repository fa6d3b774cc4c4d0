-- Each case keeps that the counts that wait to be told are right, and of their posts' kinds.
use Rattle.std.proofs.Common.{◌≡◌, ℕ, zero, suc, ◌+◌, ◌^◌, ◌<◌, ◌≤◌, ◌==◌, ◌⊎◌, inl, inr, nat_lt, Bool, true, false, cond, if◌then◌else◌, List, [], ◌∷◌, ◌++◌, drop, get_or, length, map, slice_get, Option, Some, None, refl, ap, sym, ◌∙◌, subst, arith}
use Rattle.std.specs.Prelude.{All}
use Rattle.std.specs.List.{find, sum_by}
use Rattle.std.proofs.lemmas.Bool.{eqb-true}
use Rattle.std.proofs.lemmas.List.{get_or_past}
use Rattle.std.proofs.lemmas.List.Elements.{All-cons, All-head, All-nil, All-tail}
use Rattle.std.proofs.lemmas.List.Sums.{sum_by-cons}
use Rattle.mpi_doorbell.specs.DoorRegisters.{is_fault}
use Rattle.mpi_rings.specs.declared.request_descriptor.PostKind.{PostKind}
use Rattle.mpi_rings.specs.declared.request_descriptor.PostKind.TheVariants as post
use Rattle.mpt_messages.specs.IocFrames.{reply_frame}
use Rattle.mpt_messages.specs.declared.ioc_reply.IocReply.{IocReply}
use Rattle.smid_pool.specs.Pool.{Slot, Free, Open, Parked}
use Rattle.mpt_wire.specs.Messages.Fields.{abort_task, dev_handle_in, kind_in, smid_in, target_reset, task_mid_in, task_type_in, termination_count_in}
use Rattle.mpt_wire.specs.Paths.TerminationCounts.{Awaited, CountIs, Counted, HighPost, NotSent, count_found, high_next, with_progress}
use Rattle.mpt_trace.specs.declared.entry.Entry.{Entry}
use Rattle.mpt_trace.specs.declared.entry.Entry.TheVariants as entry
use Rattle.mpt_rules.specs.declared.post.Post.{Post}
use Rattle.mpt_rules.specs.declared.request.Request.{Request}
use Rattle.mpt_rules.specs.declared.request.Request.TheVariants as request
use Rattle.mpt_rules.specs.declared.said.Said.{Said}
use Rattle.mpt_rules.specs.declared.said.Said.TheVariants as said
use Rattle.mpt_rules.specs.Ioc.Places.{is_reply_of}
use Rattle.mpt_rules.specs.Ioc.Replies.{outbox_of}
use Rattle.mpt_rules.specs.World.Counts.{how_many, one_if, reply_count}
use Rattle.mpt_rules.specs.World.State.{World}
use Rattle.mpt_rules.proofs.Counts.{reply_count-cons}
use Rattle.law_facts.specs.Clock.{is_live}
use Rattle.law_facts.specs.Facts.{Facts}
use Rattle.law_facts.specs.History.{History, history_after}
use Rattle.law_facts.specs.Paths.{CountOf, CountOfKind, opened}
use Rattle.law_facts.specs.Words.{is_reply, slot}
use Rattle.law_moves.proofs.Counted.{fewer_pass, how_many-cons}
use Rattle.law_messages.proofs.Agreeing.{all_same, same}
use Rattle.law_messages.proofs.Leads.{Leads}
use Rattle.law_asked.proofs.Firm.{Firm, not_live_there, stays}
use Rattle.law_asked.proofs.Lists.{all_both, each_counted}
use Rattle.law_counts.proofs.BoxWalk.{IsLow}
use Rattle.mpi_rings.specs.RequestDescriptor.{flags_of}
use Rattle.mpt_wire.specs.Messages.Fields.{flags_in}
use Rattle.mpt_wire.specs.Paths.TerminationCounts.{closed, opened_by}
use Rattle.mpt_wire.specs.Walks.Passes.{EachEntry}
use Rattle.mpt_trace.specs.declared.item.Back.{Back}
use Rattle.mpt_trace.specs.declared.item.Back.TheVariants as back
use Rattle.mpt_trace.specs.declared.item.Down.{Down}
use Rattle.mpt_trace.specs.declared.item.Down.TheVariants as downward
use Rattle.mpt_trace.specs.declared.item.Item.TheVariants as item
use Rattle.mpt_trace.specs.declared.item.Out.{Out}
use Rattle.mpt_trace.specs.declared.item.Out.TheVariants as out
use Rattle.mpt_trace.specs.declared.item.Up.{Up}
use Rattle.mpt_trace.specs.declared.item.Up.TheVariants as upward
use Rattle.mpt_trace.specs.declared.lane.LaneName.TheVariants as lane
use Rattle.mpt_rules.specs.declared.at_fabric.AtFabric.TheVariants as at
use Rattle.mpt_rules.specs.declared.at_fabric.HeldReset.{HeldReset}
use Rattle.mpt_rules.specs.declared.status.TheConstants.{IOC_STATUS_SUCCESS}
use Rattle.mpt_rules.specs.Fabric.Calls as fab
use Rattle.mpt_rules.specs.Host.Returns.{after_sent}
use Rattle.mpt_rules.specs.Host.Takes.{hears_up, looks, stops}
use Rattle.mpt_rules.specs.Ioc.Commands as commands
use Rattle.mpt_rules.specs.Ioc.Parts.{Ioc}
use Rattle.mpt_rules.specs.Ioc.Replies as say
use Rattle.mpt_rules.specs.Ioc.Sending.{up_of}
use Rattle.mpt_rules.specs.Ioc.Steps as step
use Rattle.mpt_rules.specs.Ioc.Tables.{is_held_as, is_operational, request_at}
use Rattle.mpt_rules.specs.Ioc.Takes as adapter
use Rattle.mpt_rules.specs.Ioc.Tasks as tasks
use Rattle.mpt_rules.specs.Law.{NothingIsStrange}
use Rattle.mpt_rules.specs.World.Cases.{Case, entries, happens}
use Rattle.mpt_rules.specs.World.Counts.{post_count, queued_count}
use Rattle.mpt_rules.specs.World.FabricCounts.{is_abort_end_of, is_reset_end_of}
use Rattle.mpt_rules.specs.World.Inputs.{host_told}
use Rattle.mpt_rules.specs.World.Lines.{back_line, is_high, said_of}
use Rattle.mpt_rules.specs.World.State.{up_lane, up_on, with_up}
use Rattle.mpt_rules.proofs.Counts.{post_count-append, post_count-cons, queued_count-cons}
use Rattle.law_facts.specs.Messages.{AnswersBy, CommandAt, PostIs, PostIsRecord, RequestIs, SaidIs}
use Rattle.law_facts.specs.Paths.{before_fabric}
use Rattle.law_facts.specs.Words.{is_abort_asked, is_enable_asked}
use Rattle.law_flights.proofs.HostQuiet.{IsQuiet, quiet, quiet_taken}
use Rattle.law_flights.proofs.HostTold.{told_input}
use Rattle.law_flights.proofs.IocTold.{told_back, told_down, told_high, told_normal}
use Rattle.law_flights.proofs.Rising.{same_identifier}
use Rattle.law_flights.proofs.Tables.{get_or-set_any}
use Rattle.law_flights.proofs.WorkLeaves.{works_leaf}
use Rattle.law_moves.proofs.CasesTold.{OwesTold, kept_told}
use Rattle.law_moves.proofs.IocTakes as leaf
use Rattle.law_moves.proofs.IocTakes.{Takes, takes}
use Rattle.law_messages.proofs.Agreeing.{all_last, all_passing}
use Rattle.law_messages.proofs.Known.{classed}
use Rattle.law_asked.proofs.Lists.{counts_first, counts_more}
use Rattle.law_counts.specs.Counted.{CountFits, CountsFit, FabricAnswers, asked_tokens}
use Rattle.law_counts.proofs.BoxWalk as box
use Rattle.law_counts.proofs.Decoded.{count_in}
use Rattle.law_counts.proofs.FabricAsks as told
use Rattle.law_counts.proofs.FabricAsks.{ends}
use Rattle.law_counts.proofs.Frames.{task_reads}
use Rattle.law_counts.proofs.IocAsks as own
use Rattle.law_counts.proofs.IocAsks.{asked_out}
use Rattle.law_counts.proofs.Opens.{high, posted}
use Rattle.law_counts.proofs.ProgressKept as progress
use Rattle.law_counts.proofs.ProgressKept.{opened_on}
use Rattle.law_counts.proofs.Quiet.{quiet_plug}
use Rattle.law_counts.proofs.Rules.{state_stays}
use Rattle.law_counts.proofs.Placed as placed

-- the count of a reply with a frame is right, and of its post's kind
pub record Counts (x : Slot Request) (g : HighPost) (n : ℕ) : Type 0 where
  pub right : CountIs g n
  pub kind : (g ≡ opened NotSent x) ⊎ (g ≡ opened (Counted n) x)

abbrev pub Told : World → History → Said → Type 0
Told w h (said.Framed s frame page sense) = (257 ≤ s) → (s ≤ 264) → Counts (slot w.host s) (h.high s) (termination_count_in frame)
Told w h item = Unit {0}

pub low_told : (w : World) (h : History) (y : Said) → IsLow y → Told w h y
low_told w h (said.Framed s frame page sense) l = λ a b. absurd (l a b)
low_told w h (said.Success s page sense) l = tt
low_told w h (said.Value value) l = tt
low_told w h (said.Mark generation) l = tt
low_told w h said.Calm l = tt

told_of : (w : World) (h : History) (y : Said) → CountOf w h y × CountOfKind w h y → Told w h y
told_of w h (said.Framed s frame page sense) a = λ b c. record { right = a.0 b c; kind = a.1 b c }
told_of w h (said.Success s page sense) a = tt
told_of w h (said.Value value) a = tt
told_of w h (said.Mark generation) a = tt
told_of w h said.Calm a = tt

count_told : (w : World) (h : History) (y : Said) → Told w h y → CountOf w h y
count_told w h (said.Framed s frame page sense) a = λ b c. (a b c).right
count_told w h (said.Success s page sense) a = tt
count_told w h (said.Value value) a = tt
count_told w h (said.Mark generation) a = tt
count_told w h said.Calm a = tt

kind_told : (w : World) (h : History) (y : Said) → Told w h y → CountOfKind w h y
kind_told w h (said.Framed s frame page sense) a = λ b c. (a b c).kind
kind_told w h (said.Success s page sense) a = tt
kind_told w h (said.Value value) a = tt
kind_told w h (said.Mark generation) a = tt
kind_told w h said.Calm a = tt

pub all_counts : (w : World) (h : History) (xs : List Said) → All (Told w h) xs → All (CountOf w h) xs
all_counts w h xs a = all_same (Told w h) (CountOf w h) (count_told w h) xs a

pub all_kinds : (w : World) (h : History) (xs : List Said) → All (Told w h) xs → All (CountOfKind w h) xs
all_kinds w h xs a = all_same (Told w h) (CountOfKind w h) (kind_told w h) xs a

-- nothing is told where there is no reply
no_reply : (w : World) (h : History) (y : Said) → is_reply y ≡ false → Told w h y
no_reply w h (said.Framed s frame page sense) e = absurd (cc)
no_reply w h (said.Success s page sense) e = tt
no_reply w h (said.Value value) e = tt
no_reply w h (said.Mark generation) e = tt
no_reply w h said.Calm e = tt

pub none_told : (w : World) (h : History) (xs : List Said) → how_many is_reply xs ≡ 0 → All (Told w h) xs
none_told w h [] z = All-nil (Told w h)
none_told w h (x ∷ xs) z = let c = how_many-cons is_reply x xs in All-cons (Told w h) x xs (no_reply w h x (by_one (is_reply x) (omega (arith, c, z)))) (none_told w h xs (omega (arith, c, z)))
  where
    by_one : (b : Bool) → one_if b ≡ 0 → b ≡ false
    by_one false z = refl
    by_one true z = absurd (omega (arith, z))

-- ---- what waits

replies_are : (s : ℕ) (x : Said) → is_reply_of s x ≡ true → is_reply x ≡ true
replies_are s (said.Framed t frame page sense) e = refl
replies_are s (said.Success t page sense) e = refl
replies_are s (said.Value value) e = absurd (cc)
replies_are s (said.Mark generation) e = absurd (cc)
replies_are s said.Calm e = absurd (cc)

replies_few : (s : ℕ) (xs : List Said) → reply_count s xs ≤ how_many is_reply xs
unfolding reply_count
replies_few s xs = fewer_pass (is_reply_of s) is_reply (replies_are s) xs

pub first_box : (s : ℕ) (boxes : List (List Said)) → reply_count s (get_or boxes 0 []) ≤ sum_by (reply_count s) boxes
first_box s [] = let z = Rattle.mpt_rules.proofs.Counts.reply_count-nil s in omega (arith, z)
first_box s (b ∷ bs) = let c = sum_by-cons (reply_count s) b bs in omega (arith, c)

-- an item is counted in its list
abbrev pub Counted_in : List Said → Said → Type 0
Counted_in xs (said.Framed s frame page sense) = 1 ≤ reply_count s xs
Counted_in xs item = Unit {0}

counted_first : (y : Said) (xs : List Said) → Counted_in (y ∷ xs) y
counted_first (said.Framed s frame page sense) xs = let c = reply_count-cons s (said.Framed s frame page sense) xs in let o : one_if (s == s) ≡ 1 = ap one_if (same s) in omega (arith, c, o)
counted_first (said.Success s page sense) xs = tt
counted_first (said.Value value) xs = tt
counted_first (said.Mark generation) xs = tt
counted_first said.Calm xs = tt

counted_more : (y x : Said) (xs : List Said) → Counted_in xs y → Counted_in (x ∷ xs) y
counted_more (said.Framed s frame page sense) x xs a = let c = reply_count-cons s x xs in omega (arith, c, a)
counted_more (said.Success s page sense) x xs a = tt
counted_more (said.Value value) x xs a = tt
counted_more (said.Mark generation) x xs a = tt
counted_more said.Calm x xs a = tt

pub counted_all : (xs : List Said) → All (λ y. Counted_in xs y) xs
counted_all xs = each_counted (λ y ys. Counted_in ys y) counted_first (λ y x ys a. counted_more y x ys a) xs

module _ (w : World) (h : History) (f : Facts w h) where
  told_here : All (Told w h) (outbox_of w.ioc 0)
  told_here = all_same (λ y. CountOf w h y × CountOfKind w h y) (Told w h) (told_of w h) (outbox_of w.ioc 0) (all_both (CountOf w h) (CountOfKind w h) (outbox_of w.ioc 0) f.paths.counts f.paths.kinds)

  record Firmed (s : ℕ) : Type 0 where
    asks : Request
    firm : Firm w h s asks

  -- a reply waits: it is nowhere else, and its record stays
  firm_said : (s : ℕ) → 257 ≤ s → s ≤ 264 → 1 ≤ reply_count s (outbox_of w.ioc 0) → Firmed s
  firm_said s a b c = by_open (placed.opened_by_none (slot w.host s) (let m = m0 in let l = first_box s w.ioc.up in omega (arith, m, l, c)))
    where
      m0 : Rattle.mpt_rules.specs.World.PlaceCounts.smid_count w s ≤ 1
      m0 = (f.flights.identifiers s (omega (arith, a)) (omega (arith, b))).at_most

      by_open : (r : Request) × (slot w.host s ≡ Open r) → Firmed s
      by_open o =
          record {
            asks = o.0;
            firm = record {
              opens = o.1;
              silent = let m = m0 in let l = first_box s w.ioc.up in omega (arith, m, l, c);
              begun = λ l. let z = f.clock.no_reply_before_init.outboxes (not_live_there w h f l).0 0 in let k = replies_few s (outbox_of w.ioc 0) in omega (arith, z, k, c);
            };
          }

  -- what waits stays right where no entry names its identifier
  pub stays_told : (v : World) (k : History) → Leads w h v.host k → ((s : ℕ) → 257 ≤ s → s ≤ 264 → 1 ≤ reply_count s (outbox_of w.ioc 0) → k.high s ≡ h.high s) → (xs : List Said) → All (Told w h) xs → All (λ y. Counted_in (outbox_of w.ioc 0) y) xs → All (Told v k) xs
  stays_told v k l e [] a c = All-nil (Told v k)
  stays_told v k l e (y ∷ xs) a c = All-cons (Told v k) y xs (one y (All-head (Told w h) y xs a) (All-head (λ y. Counted_in (outbox_of w.ioc 0) y) y xs c)) (stays_told v k l e xs (All-tail (Told w h) y xs a) (All-tail (λ y. Counted_in (outbox_of w.ioc 0) y) y xs c))
    where
      one : (y : Said) → Told w h y → Counted_in (outbox_of w.ioc 0) y → Told v k y
      one (said.Framed s frame page sense) a c = λ b d.
          let z = firm_said s b d c in
          let o = (stays w h f v s z.asks z.firm k l).opens ∙ sym z.firm.opens in
          subst (λ x. Counts x (k.high s) (termination_count_in frame)) (sym o) (subst (λ g. Counts (slot w.host s) g (termination_count_in frame)) (sym (e s b d c)) (a b d))
      one (said.Success s page sense) a c = tt
      one (said.Value value) a c = tt
      one (said.Mark generation) a c = tt
      one said.Calm a c = tt

  pub all_stay : (v : World) (k : History) → Leads w h v.host k → ((s : ℕ) → 257 ≤ s → s ≤ 264 → 1 ≤ reply_count s (outbox_of w.ioc 0) → k.high s ≡ h.high s) → All (Told v k) (outbox_of w.ioc 0)
  all_stay v k l e = stays_told v k l e (outbox_of w.ioc 0) told_here (counted_all (outbox_of w.ioc 0))

  -- without its first item too
  pub rest_stays : (v : World) (k : History) → Leads w h v.host k → (y : Said) (rest : List Said) → outbox_of w.ioc 0 ≡ y ∷ rest → ((s : ℕ) → 257 ≤ s → s ≤ 264 → 1 ≤ reply_count s rest → k.high s ≡ h.high s) → All (Told v k) rest
  rest_stays v k l y rest e g = stays_rest rest (All-tail (Told w h) y rest (subst (All (Told w h)) e told_here)) (counted_all rest)
    where
      stays_rest : (xs : List Said) → All (Told w h) xs → All (λ x. Counted_in rest x) xs → All (Told v k) xs
      stays_rest [] a c = All-nil (Told v k)
      stays_rest (x ∷ xs) a c = All-cons (Told v k) x xs (one x (All-head (Told w h) x xs a) (All-head (λ x. Counted_in rest x) x xs c)) (stays_rest xs (All-tail (Told w h) x xs a) (All-tail (λ x. Counted_in rest x) x xs c))
        where
          one : (x : Said) → Told w h x → Counted_in rest x → Told v k x
          one (said.Framed s frame page sense) a c = λ b d.
              let q = ap (reply_count s) e in let q2 = reply_count-cons s y rest in
              let z = firm_said s b d (omega (arith, q, q2, c)) in
              let o = (stays w h f v s z.asks z.firm k l).opens ∙ sym z.firm.opens in
              subst (λ x. Counts x (k.high s) (termination_count_in frame)) (sym o) (subst (λ g. Counts (slot w.host s) g (termination_count_in frame)) (sym (g s b d c)) (a b d))
          one (said.Success s page sense) a c = tt
          one (said.Value value) a c = tt
          one (said.Mark generation) a c = tt
          one said.Calm a c = tt

-- ---- the posts of the normal queue

found_all : {X : Type 0} (test : X → Bool) (P : X → Type 0) (xs : List X) (x : X) → All P xs → find test xs ≡ Some x → P x
found_all test P [] x a e = absurd (cc)
found_all test P (y ∷ ys) x a e = by_test (test y) e (λ g. found_all test P ys x (All-tail P y ys a) g)
  where
    some_is : Some y ≡ Some x → y ≡ x
    some_is e = cc

    by_test : (b : Bool) → (if b then Some y else find test ys) ≡ Some x → (find test ys ≡ Some x → P x) → P x
    by_test true e g = subst P (some_is e) (All-head P y ys a)
    by_test false e g = g e

high_flags : (d : ℕ) → kind_in d ≡ Some post.HighPriority → is_high d ≡ true
high_flags d k = by_tests (flags_in d == 0) (flags_in d == 6) (flags_in d == flags_of post.Default) refl k
  where
    by_tests : (a b c : Bool) → (flags_in d == 6) ≡ b → (if a then Some post.ScsiIo else if b then Some post.HighPriority else if c then Some post.Default else None) ≡ Some post.HighPriority → (flags_in d == 6) ≡ true
    by_tests true b c x y = absurd (cc)
    by_tests false true c x y = x
    by_tests false false true x y = absurd (cc)
    by_tests false false false x y = absurd (cc)

kind_high : (d : ℕ) → is_high d ≡ true → kind_in d ≡ Some post.HighPriority
kind_high d x = by_tests (flags_in d == 0) (flags_in d == 6) (flags_in d == flags_of post.Default) refl x
  where
    apart : (n : ℕ) → (n == 6) ≡ true → (n == 0) ≡ false
    apart n e = grind (arith, e)

    by_tests : (a b c : Bool) → (flags_in d == 0) ≡ a → b ≡ true → (if a then Some post.ScsiIo else if b then Some post.HighPriority else if c then Some post.Default else None) ≡ Some post.HighPriority
    by_tests true b c y z = let q : true ≡ false = sym y ∙ apart (flags_in d) x in absurd (cc)
    by_tests false true c y z = refl
    by_tests false false c y z = absurd (cc)

-- of what isn't of task management
abbrev IsBelow : Post → Type 0
IsBelow p = (257 ≤ smid_in p.descriptor) → (smid_in p.descriptor ≤ 264) → ⊥

count_none : (x : Slot Request) → CountIs (opened NotSent x) 0
count_none (Open (request.Abort n task)) = inl refl
count_none (Open (request.Command n)) = refl
count_none (Open (request.TargetReset address)) = refl
count_none (Open (request.Leave handle)) = refl
count_none (Open (request.Page handle)) = refl
count_none (Open (request.Remove handle)) = refl
count_none (Open (request.Ack event context)) = refl
count_none (Open request.Notification) = refl
count_none (Open request.PortEnable) = refl
count_none Free = refl
count_none Parked = refl

count_one : (x : Slot Request) → is_abort_asked x ≡ true → CountIs (opened NotSent x) 1
count_one (Open (request.Abort n task)) e = inr refl
count_one (Open (request.Command n)) e = absurd (cc)
count_one (Open (request.TargetReset address)) e = absurd (cc)
count_one (Open (request.Leave handle)) e = absurd (cc)
count_one (Open (request.Page handle)) e = absurd (cc)
count_one (Open (request.Remove handle)) e = absurd (cc)
count_one (Open (request.Ack event context)) e = absurd (cc)
count_one (Open request.Notification) e = absurd (cc)
count_one (Open request.PortEnable) e = absurd (cc)
count_one Free e = absurd (cc)
count_one Parked e = absurd (cc)

count_taken : (n : ℕ) (x : Slot Request) → CountIs (opened (Counted n) x) n
count_taken n (Open (request.Abort m task)) = refl
count_taken n (Open (request.Command m)) = refl
count_taken n (Open (request.TargetReset address)) = refl
count_taken n (Open (request.Leave handle)) = refl
count_taken n (Open (request.Page handle)) = refl
count_taken n (Open (request.Remove handle)) = refl
count_taken n (Open (request.Ack event context)) = refl
count_taken n (Open request.Notification) = refl
count_taken n (Open request.PortEnable) = refl
count_taken n Free = refl
count_taken n Parked = refl

counts_not_sent : (x : Slot Request) (n : ℕ) → n ≡ 0 → Counts x (opened NotSent x) n
counts_not_sent x n e = record { right = subst (CountIs (opened NotSent x)) (sym e) (count_none x); kind = inl refl }

counts_taken : (x : Slot Request) (n m : ℕ) → m ≡ n → Counts x (opened (Counted n) x) m
counts_taken x n m e = subst (Counts x (opened (Counted n) x)) (sym e) (record { right = count_taken n x; kind = inr refl })

module _ (w : World) (h : History) (f : Facts w h) (further : FabricAnswers w h) (fit : CountsFit w) where
  -- a post that isn't of high priority
  below_of : (p : Post) → is_high p.descriptor ≡ false → PostIsRecord w h p → IsBelow p
  below_of p n a = let z = posted w h f p a in by_request z.asks z.opens z.is
    where
      never : kind_in p.descriptor ≡ Some post.HighPriority → ⊥
      never k = let q : true ≡ false = sym (high_flags p.descriptor k) ∙ n in cc

      by_request : (r : Request) → slot w.host (smid_in p.descriptor) ≡ Open r → PostIs w h p (Open r) → IsBelow p
      by_request (request.Command m) e i = let c = classed w h f (smid_in p.descriptor) (request.Command m) e in λ x y. omega (arith, c, x)
      by_request (request.Abort m task) e i = absurd (never (high w h f p (request.Abort m task) e i.0.0))
      by_request (request.TargetReset address) e i = absurd (never (high w h f p (request.TargetReset address) e i.0))
      by_request (request.Leave handle) e i = absurd (never (high w h f p (request.Leave handle) e i.0.0))
      by_request (request.Page handle) e i = let c = classed w h f (smid_in p.descriptor) (request.Page handle) e in λ x y. omega (arith, c, y)
      by_request (request.Remove handle) e i = let c = classed w h f (smid_in p.descriptor) (request.Remove handle) e in λ x y. omega (arith, c, y)
      by_request (request.Ack event context) e i = let c = classed w h f (smid_in p.descriptor) (request.Ack event context) e in λ x y. omega (arith, c, y)
      by_request request.Notification e i = let c = classed w h f (smid_in p.descriptor) request.Notification e in λ x y. omega (arith, c, y)
      by_request request.PortEnable e i = let c = classed w h f (smid_in p.descriptor) request.PortEnable e in λ x y. omega (arith, c, y)

  all_below : All IsBelow w.ioc.normal
  all_below = all_passing (λ (p : Post). is_high p.descriptor) (PostIsRecord w h) IsBelow below_of w.ioc.normal f.flights.sorted.normal f.messages.normal

  aside : (s : ℕ) → ((handle queue len : ℕ) (written : Option ℕ) → request_at w.ioc s ≡ Some (at.Command handle queue len written) → (257 ≤ s) → (s ≤ 264) → ⊥) × (request_at w.ioc s ≡ Some at.PortEnable → (257 ≤ s) → (s ≤ 264) → ⊥)
  aside s = (λ handle queue len written e. of_command handle queue len written (slot w.host s) refl (subst (RequestIs w h s) e (f.messages.requests s)), λ e. of_enable (slot w.host s) refl (subst (RequestIs w h s) e (f.messages.requests s)))
    where
      of_command : (handle queue len : ℕ) (written : Option ℕ) (x : Slot Request) → slot w.host s ≡ x → CommandAt w h s handle queue len written x → (257 ≤ s) → (s ≤ 264) → ⊥
      of_command handle queue len written (Open (request.Command n)) e a = let c = classed w h f s (request.Command n) e in λ x y. omega (arith, c, x)
      of_command handle queue len written Free e a = absurd a
      of_command handle queue len written Parked e a = absurd a
      of_command handle queue len written (Open (request.Abort n task)) e a = absurd a
      of_command handle queue len written (Open (request.TargetReset address)) e a = absurd a
      of_command handle queue len written (Open (request.Leave hd)) e a = absurd a
      of_command handle queue len written (Open (request.Page hd)) e a = absurd a
      of_command handle queue len written (Open (request.Remove hd)) e a = absurd a
      of_command handle queue len written (Open (request.Ack event context)) e a = absurd a
      of_command handle queue len written (Open request.Notification) e a = absurd a
      of_command handle queue len written (Open request.PortEnable) e a = absurd a

      of_enable : (x : Slot Request) → slot w.host s ≡ x → is_enable_asked x ≡ true → (257 ≤ s) → (s ≤ 264) → ⊥
      of_enable (Open request.PortEnable) e a = let c = classed w h f s request.PortEnable e in λ x y. omega (arith, c, y)
      of_enable (Open (request.Command n)) e a = absurd (cc)
      of_enable Free e a = absurd (cc)
      of_enable Parked e a = absurd (cc)
      of_enable (Open (request.Abort n task)) e a = absurd (cc)
      of_enable (Open (request.TargetReset address)) e a = absurd (cc)
      of_enable (Open (request.Leave handle)) e a = absurd (cc)
      of_enable (Open (request.Page handle)) e a = absurd (cc)
      of_enable (Open (request.Remove handle)) e a = absurd (cc)
      of_enable (Open (request.Ack event context)) e a = absurd (cc)
      of_enable (Open request.Notification) e a = absurd (cc)

  unfoldable OnCase : World → List Entry → Type 0
  OnCase v t = is_fault v.ioc.door.state ≡ false → (is_live v ≡ false → how_many is_reply (outbox_of v.ioc 0) ≡ 0) → Leads w h v.host (history_after h t) → All (Told v (history_after h t)) (outbox_of v.ioc 0)

  still : (v : World) (k : History) → Leads w h v.host k → (q : ℕ) → 257 ≤ q → q ≤ 264 → 1 ≤ before_fabric w q + asked_tokens w q → slot v.host q ≡ slot w.host q
  still v k l q a b c = let z = placed.firmly w h f q (omega (arith, a)) (omega (arith, b)) c in (stays w h f v q z.asks z.firm k l).opens ∙ sym z.firm.opens

  -- ---- where the outbox is as it was

  like : (v : World) (t : List Entry) → outbox_of v.ioc 0 ≡ outbox_of w.ioc 0 → ((s : ℕ) → 257 ≤ s → s ≤ 264 → 1 ≤ reply_count s (outbox_of w.ioc 0) → (history_after h t).high s ≡ h.high s) → OnCase v t
  unfolding OnCase
  like v t o e n u l = subst (All (Told v (history_after h t))) (sym o) (all_stay w h f v (history_after h t) l e)

  silent : (t : List Entry) → EachEntry IsQuiet t → (q : ℕ) → (history_after h t).high q ≡ h.high q
  silent t a q = state_stays q (h.high q) t a

  -- what waits is neither in the host's outbox nor at the fabric
  said_alone : (s : ℕ) → 257 ≤ s → s ≤ 264 → 1 ≤ reply_count s (outbox_of w.ioc 0) → (post_count s w.host.out ≡ 0) × (asked_out s w.ioc.out + asked_tokens w s ≡ 0)
  said_alone s a b c =
      let m = (f.flights.identifiers s (omega (arith, a)) (omega (arith, b))).at_most in let l = first_box s w.ioc.up in let p = post_count-append s w.down w.host.out in
      let t = placed.tokens_are w h f s (omega (arith, a)) (omega (arith, b)) in
      (omega (arith, m, l, p, c), by_tokens (placed.tokens w h f s (omega (arith, a)) (omega (arith, b))) refl t l)
    where
      by_tokens : (j : ℕ) → placed.tokens w h f s (omega (arith, a)) (omega (arith, b)) ≡ j → placed.tokens w h f s (omega (arith, a)) (omega (arith, b)) ≡ (asked_out s w.out + asked_out s w.ioc.out) + ends s (back_line w) → reply_count s (outbox_of w.ioc 0) ≤ sum_by (reply_count s) w.ioc.up → asked_out s w.ioc.out + asked_tokens w s ≡ 0
      by_tokens zero r t l = omega (arith, r, t)
      by_tokens (suc j) r t l = let n = (placed.apart w h f s (omega (arith, a)) (omega (arith, b)) (omega (arith, r))).nowhere in absurd (omega (arith, n, l, c))

  puts : (x : Down) (rest : List Down) → w.host.out ≡ x ∷ rest → OnCase (record w { host = after_sent w.host x rest; down = w.down ++ x ∷ [] }) (entry.Put lane.Down (item.Down x) ∷ [])
  puts x rest e = like (record w { host = after_sent w.host x rest; down = w.down ++ x ∷ [] }) (entry.Put lane.Down (item.Down x) ∷ []) refl (λ s a b c. by_item x e s (said_alone s a b c).0)
    where
      by_item : (x : Down) → w.host.out ≡ x ∷ rest → (s : ℕ) → post_count s w.host.out ≡ 0 → high_next s (h.high s) (entry.Put lane.Down (item.Down x)) ≡ h.high s
      by_item (downward.Post d g pl) e s z = by_key (smid_in d == s) refl
        where
          by_key : (b : Bool) → (smid_in d == s) ≡ b → (if b then opened_by d g else h.high s) ≡ h.high s
          by_key false k = refl
          by_key true k = let p = ap (post_count s) e in let q = post_count-cons s (downward.Post d g pl) rest in let o : one_if (smid_in d == s) ≡ 1 = ap one_if k in absurd (omega (arith, p, q, o, z))
      by_item (downward.Write reg value) e s z = refl
      by_item (downward.Read reg) e s z = refl
      by_item (downward.Return a i) e s z = refl
      by_item downward.Stop e s z = refl

  puts_out : (x : Out) (rest : List Out) → w.ioc.out ≡ x ∷ rest → OnCase (record w { ioc = record w.ioc { out = rest }; out = w.out ++ x ∷ [] }) (entry.Put lane.Out (item.Out x) ∷ [])
  puts_out x rest e = like (record w { ioc = record w.ioc { out = rest }; out = w.out ++ x ∷ [] }) (entry.Put lane.Out (item.Out x) ∷ []) refl (λ s a b c. by_item x e s (said_alone s a b c).1)
    where
      by_item : (x : Out) → w.ioc.out ≡ x ∷ rest → (s : ℕ) → asked_out s w.ioc.out + asked_tokens w s ≡ 0 → high_next s (h.high s) (entry.Put lane.Out (item.Out x)) ≡ h.high s
      by_item (out.Abort smid task) e s z = by_key (smid == s) refl
        where
          by_key : (b : Bool) → (smid == s) ≡ b → (if b then with_progress Awaited (h.high s) else h.high s) ≡ h.high s
          by_key false k = refl
          by_key true k = let p = ap (asked_out s) e in let q = own.first_out s (out.Abort smid task) rest in let o : one_if (smid == s) ≡ 1 = ap one_if k in absurd (omega (arith, p, q, o, z))
      by_item (out.TargetReset smid address) e s z = by_key (smid == s) refl
        where
          by_key : (b : Bool) → (smid == s) ≡ b → (if b then with_progress Awaited (h.high s) else h.high s) ≡ h.high s
          by_key false k = refl
          by_key true k = let p = ap (asked_out s) e in let q = own.first_out s (out.TargetReset smid address) rest in let o : one_if (smid == s) ≡ 1 = ap one_if k in absurd (omega (arith, p, q, o, z))
      by_item (out.Task tag address command) e s z = refl
      by_item out.Discover e s z = refl
      by_item (out.Link generation) e s z = refl
      by_item out.Stop e s z = refl

  -- ---- the controller

  works_high : (p : Post) (rest : List Post) → w.ioc.high ≡ p ∷ rest → OnCase (record w { ioc = (step.works_on (record w.ioc { high = rest }) p).part }) (step.works_on (record w.ioc { high = rest }) p).entries
  unfolding OnCase
  works_high p rest e n u l = by_kind (kind_in p.descriptor) refl
    where
      i : Ioc
      i = record w.ioc { high = rest }

      v : World
      v = record w { ioc = (step.works_on (record w.ioc { high = rest }) p).part }

      k : History
      k = history_after h (step.works_on (record w.ioc { high = rest }) p).entries

      there : PostIsRecord w h p
      there = All-head (PostIsRecord w h) p rest (subst (All (PostIsRecord w h)) e f.messages.high)

      same_high : (q : ℕ) → k.high q ≡ h.high q
      same_high q = silent (step.works_on (record w.ioc { high = rest }) p).entries (quiet _ (told_high w.ioc (p ∷ rest))) q

      waiting : All (Told v k) (outbox_of w.ioc 0)
      waiting = all_stay w h f v k l (λ s a b c. same_high s)

      queued_here : 1 ≤ before_fabric w (smid_in p.descriptor)
      queued_here = let a = ap (queued_count (smid_in p.descriptor)) e in let b = queued_count-cons (smid_in p.descriptor) p rest in let o : one_if (smid_in p.descriptor == smid_in p.descriptor) ≡ 1 = ap one_if (same (smid_in p.descriptor)) in omega (arith, a, b, o)

      made : (m : ℕ) → (257 ≤ smid_in p.descriptor → smid_in p.descriptor ≤ 264 → Counts (slot w.host (smid_in p.descriptor)) (opened NotSent (slot w.host (smid_in p.descriptor))) m) → (257 ≤ smid_in p.descriptor) → (smid_in p.descriptor ≤ 264) → Counts (slot v.host (smid_in p.descriptor)) (k.high (smid_in p.descriptor)) m
      made m c a b =
          let q = queued_here in
          subst (λ g. Counts (slot w.host (smid_in p.descriptor)) g m) (sym (same_high (smid_in p.descriptor) ∙ (f.paths.high (smid_in p.descriptor) a b).before q)) (c a b)

      none : (r : IocReply) → termination_count_in (reply_frame r) ≡ 0 → Told v k (say.framed (smid_in p.descriptor) r)
      none r z = made (termination_count_in (reply_frame r)) (λ a b. counts_not_sent (slot w.host (smid_in p.descriptor)) (termination_count_in (reply_frame r)) z)

      stopped : (handle : ℕ) → (task_type_in p.frame == abort_task) ≡ true → Told v k (say.framed (smid_in p.descriptor) (say.task_ended handle abort_task IOC_STATUS_SUCCESS 1))
      stopped handle t =
          made (termination_count_in (reply_frame (say.task_ended handle abort_task IOC_STATUS_SUCCESS 1)))
          (λ a b. subst (Counts (slot w.host (smid_in p.descriptor)) (opened NotSent (slot w.host (smid_in p.descriptor)))) (sym (count_in handle abort_task IOC_STATUS_SUCCESS 0 1 (omega arith))) (record { right = count_one (slot w.host (smid_in p.descriptor)) (let z = posted w h f p there in is_abort z.asks z.opens z.is a b); kind = inl refl }))
        where
          is_abort : (r : Request) → slot w.host (smid_in p.descriptor) ≡ Open r → PostIs w h p (Open r) → 257 ≤ smid_in p.descriptor → smid_in p.descriptor ≤ 264 → is_abort_asked (slot w.host (smid_in p.descriptor)) ≡ true
          is_abort (request.Abort m task) s x a b = ap is_abort_asked s
          is_abort (request.TargetReset address) s x a b = let y = (task_reads p.frame target_reset 0 x.1 (inr (refl, refl))).kind in let z : task_type_in p.frame ≡ abort_task = eqb-true (task_type_in p.frame) abort_task t in absurd (omega (arith, y, z))
          is_abort (request.Leave hd) s x a b = let y = (task_reads p.frame target_reset 0 x.0.1 (inr (refl, refl))).kind in let z : task_type_in p.frame ≡ abort_task = eqb-true (task_type_in p.frame) abort_task t in absurd (omega (arith, y, z))
          is_abort (request.Command m) s x a b = let c = classed w h f (smid_in p.descriptor) (request.Command m) s in absurd (omega (arith, c, a))
          is_abort (request.Page hd) s x a b = let c = classed w h f (smid_in p.descriptor) (request.Page hd) s in absurd (omega (arith, c, b))
          is_abort (request.Remove hd) s x a b = let c = classed w h f (smid_in p.descriptor) (request.Remove hd) s in absurd (omega (arith, c, b))
          is_abort (request.Ack event context) s x a b = let c = classed w h f (smid_in p.descriptor) (request.Ack event context) s in absurd (omega (arith, c, b))
          is_abort request.Notification s x a b = let c = classed w h f (smid_in p.descriptor) request.Notification s in absurd (omega (arith, c, b))
          is_abort request.PortEnable s x a b = let c = classed w h f (smid_in p.descriptor) request.PortEnable s in absurd (omega (arith, c, b))

      queued : (stop : Post) → find (tasks.is_scsi_post (task_mid_in p.frame) (dev_handle_in p.frame)) w.ioc.normal ≡ Some stop → (257 ≤ smid_in stop.descriptor) → (smid_in stop.descriptor ≤ 264) → ⊥
      queued stop g = found_all (tasks.is_scsi_post (task_mid_in p.frame) (dev_handle_in p.frame)) IsBelow w.ioc.normal stop all_below g

      other : (o : Option PostKind) → kind_in p.descriptor ≡ o → (o ≡ Some post.HighPriority → ⊥) → All (Told v k) (outbox_of v.ioc 0)
      other o e n = box.low_works (Told v k) (low_told v k) (record w.ioc { high = rest }) p (step.works_on (record w.ioc { high = rest }) p) (works_leaf (record w.ioc { high = rest }) p) (λ z. n (sym e ∙ z)) (let g = by_flags (is_high p.descriptor) refl in below_of p g there) waiting
        where
          by_flags : (b : Bool) → is_high p.descriptor ≡ b → is_high p.descriptor ≡ false
          by_flags false x = x
          by_flags true x = absurd (n (sym e ∙ kind_high p.descriptor x))

      by_kind : (o : Option PostKind) → kind_in p.descriptor ≡ o → All (Told v k) (outbox_of v.ioc 0)
      by_kind (Some post.HighPriority) e = subst (λ o. All (Told v k) (outbox_of (step.works_kind (record w.ioc { high = rest }) p o).part 0)) (sym e) (box.high_works (Told v k) (low_told v k) (record w.ioc { high = rest }) p none stopped queued waiting)
      by_kind None e = other None e (λ z. absurd (cc))
      by_kind (Some post.ScsiIo) e = other (Some post.ScsiIo) e (λ z. absurd (cc))
      by_kind (Some post.Default) e = other (Some post.Default) e (λ z. absurd (cc))

  works_normal : (p : Post) (rest : List Post) → w.ioc.normal ≡ p ∷ rest → OnCase (record w { ioc = (step.works_on (record w.ioc { normal = rest }) p).part }) (step.works_on (record w.ioc { normal = rest }) p).entries
  unfolding OnCase
  works_normal p rest e n u l =
      let v = record w { ioc = (step.works_on (record w.ioc { normal = rest }) p).part } in
      let k = history_after h (step.works_on (record w.ioc { normal = rest }) p).entries in
      box.low_works (Told v k) (low_told v k) (record w.ioc { normal = rest }) p (step.works_on (record w.ioc { normal = rest }) p) (works_leaf (record w.ioc { normal = rest }) p) no_high
      (All-head IsBelow p rest (subst (All IsBelow) e all_below)) (all_stay w h f v k l (λ s a b c. silent (step.works_on (record w.ioc { normal = rest }) p).entries (quiet _ (told_normal w.ioc (p ∷ rest))) s))
    where
      no_high : kind_in p.descriptor ≡ Some post.HighPriority → ⊥
      no_high k =
          let a = f.flights.sorted.normal in let b = ap (how_many (λ (p : Post). is_high p.descriptor)) e in let c = how_many-cons (λ (p : Post). is_high p.descriptor) p rest in
          let o : one_if (is_high p.descriptor) ≡ 1 = ap one_if (high_flags p.descriptor k) in omega (arith, a, b, c, o)

  takes_down : (x : Down) (rest : List Down) → w.down ≡ x ∷ rest → OnCase (record w { ioc = (adapter.takes_down w.ioc x).part; down = rest }) (entry.Take lane.Down (item.Down x) ∷ (adapter.takes_down w.ioc x).entries)
  unfolding OnCase
  takes_down x rest e n u l = by_leaf (adapter.takes_down w.ioc x).part (takes w.ioc f.doorbell.sound.waits f.clock.phase_table.whole x) refl
    where
      v : World
      v = record w { ioc = (adapter.takes_down w.ioc x).part; down = rest }

      k : History
      k = history_after h (entry.Take lane.Down (item.Down x) ∷ (adapter.takes_down w.ioc x).entries)

      waiting : All (Told v k) (outbox_of w.ioc 0)
      waiting = all_stay w h f v k l (λ s a b c. silent (adapter.takes_down w.ioc x).entries (quiet _ (told_down w.ioc x)) s)

      same_up : (j : Ioc) → (adapter.takes_down w.ioc x).part ≡ j → j.up ≡ w.ioc.up → All (Told v k) (outbox_of v.ioc 0)
      same_up j g o = subst (λ up. All (Told v k) (get_or up 0 [])) (sym (ap (λ (y : Ioc). y.up) g ∙ o)) waiting

      not_live : (j : Ioc) → (adapter.takes_down w.ioc x).part ≡ j → is_operational j.door.state ≡ false → All (Told v k) (outbox_of v.ioc 0)
      not_live j g o = none_told v k (outbox_of v.ioc 0) (u (ap (λ (y : Ioc). is_operational y.door.state) g ∙ o))

      by_leaf : {y : Down} (j : Ioc) → Takes w.ioc y j → (adapter.takes_down w.ioc x).part ≡ j → All (Told v k) (outbox_of v.ioc 0)
      by_leaf j (leaf.Faults y m z) g = absurd (fault_clash (is_fault j.door.state) z (sym (ap (λ (y : Ioc). is_fault y.door.state) g) ∙ n))
        where
          fault_clash : (b : Bool) → b ≡ true → b ≡ false → ⊥
          fault_clash true a c = cc
          fault_clash false a c = cc
      by_leaf j (leaf.Written reg value m r s z) g = same_up j g (ap (λ (y : Ioc). y.up) z)
      by_leaf j (leaf.Operates value m r s t z) g = same_up j g (ap (λ (y : Ioc). y.up) z)
      by_leaf j (leaf.Forgets reg value d z) g = not_live j g refl
      by_leaf j (leaf.Reads reg value) g = subst (λ (y : Ioc). All (Told v k) (outbox_of y 0)) (sym g) (box.says (Told v k) (low_told v k) w.ioc 0 (said.Value value ∷ []) (All-cons (Told v k) (said.Value value) [] tt (All-nil (Told v k))) waiting)
      by_leaf j (leaf.Posts d f p m o z) g = same_up j g (ap (λ (y : Ioc). y.up) z)
      by_leaf j (leaf.DropsPost d f p z) g = same_up j g refl
      by_leaf j (leaf.Returns address index m o z) g = same_up j g (ap (λ (y : Ioc). y.up) z)
      by_leaf j (leaf.DropsReturn address index z) g = same_up j g refl
      by_leaf j leaf.Stops g = same_up j g refl

  takes_back : (x : Back) (rest : List Back) → w.back ≡ x ∷ rest → OnCase (record w { ioc = (adapter.takes_back w.ioc x).part; back = rest }) (entry.Take lane.Back (item.Back x) ∷ (adapter.takes_back w.ioc x).entries)
  unfolding OnCase
  takes_back x rest e n u l = box.back_box (Told v k) (low_told v k) w.ioc held aside waiting x aborted cleared
    where
      v : World
      v = record w { ioc = (adapter.takes_back w.ioc x).part; back = rest }

      k : History
      k = history_after h (entry.Take lane.Back (item.Back x) ∷ (adapter.takes_back w.ioc x).entries)

      after : (j : ℕ) → k.high j ≡ high_next j (h.high j) (entry.Take lane.Back (item.Back x))
      after j = state_stays j (high_next j (h.high j) (entry.Take lane.Back (item.Back x))) (adapter.takes_back w.ioc x).entries (quiet _ (told_back w.ioc x))

      line : (j : ℕ) → ends j (back_line w) ≡ (one_if (is_abort_end_of j x) + one_if (is_reset_end_of j x)) + ends j (rest ++ w.fabric.out)
      line j = ap (λ xs. ends j (xs ++ w.fabric.out)) e ∙ told.first_end j x (rest ++ w.fabric.out)

      -- an entry of another identifier
      another : (x : Back) (s : ℕ) → one_if (is_abort_end_of s x) + one_if (is_reset_end_of s x) ≡ 0 → high_next s (h.high s) (entry.Take lane.Back (item.Back x)) ≡ h.high s
      another (back.Aborted smid found) s z = by_key (smid == s) refl
        where
          by_key : (b : Bool) → (smid == s) ≡ b → (if b then with_progress (Counted (count_found found)) (h.high s) else h.high s) ≡ h.high s
          by_key false g = refl
          by_key true g = let o : one_if (smid == s) ≡ 1 = ap one_if g in absurd (omega (arith, z, o))
      another (back.Cleared smid count) s z = by_key (smid == s) refl
        where
          by_key : (b : Bool) → (smid == s) ≡ b → (if b then with_progress (Counted count) (h.high s) else h.high s) ≡ h.high s
          by_key false g = refl
          by_key true g = let o : one_if (smid == s) ≡ 1 = ap one_if g in absurd (omega (arith, z, o))
      another (back.Result tag r) s z = refl
      another (back.Gone tag) s z = refl
      another (back.Terminated tag) s z = refl
      another (back.Plugged a p c d) s z = refl
      another (back.Unplugged a p c d) s z = refl
      another back.Discovered s z = refl
      another (back.Linked generation) s z = refl
      another back.Calm s z = refl

      waiting : All (Told v k) (outbox_of w.ioc 0)
      waiting = all_stay w h f v k l (λ s a b c. let z = (said_alone s a b c).1 in let y = line s in after s ∙ another x s (omega (arith, z, y)))

      held : All (λ r. Told v k (commands.held_answered r)) w.ioc.held
      held = all_same (λ (r : HeldReset). 1 ≤ how_many (is_held_as r.smid) w.ioc.held) (λ r. Told v k (commands.held_answered r)) each w.ioc.held (each_counted (λ r ys. 1 ≤ how_many (is_held_as r.smid) ys) (λ r rs. counts_first (is_held_as r.smid) r rs (same r.smid)) (λ r y rs c. counts_more (is_held_as r.smid) y rs c) w.ioc.held)
        where
          each : (r : HeldReset) → 1 ≤ how_many (is_held_as r.smid) w.ioc.held → Told v k (commands.held_answered r)
          each r c = λ a b.
              let q = count_in r.handle target_reset IOC_STATUS_SUCCESS 0 0 (omega arith) in
              let p = post_count-append r.smid w.down w.host.out in
              let t = placed.tokens_are w h f r.smid (omega (arith, a)) (omega (arith, b)) in
              let y = line r.smid in
              let z = no_tokens r a b c in
              let same_high = after r.smid ∙ another x r.smid (omega (arith, z, y)) in
              subst (λ j. Counts j (k.high r.smid) (termination_count_in (reply_frame (say.task_ended r.handle target_reset IOC_STATUS_SUCCESS 0)))) (sym (still v k l r.smid a b (omega (arith, c))))
              (subst (λ g. Counts (slot w.host r.smid) g (termination_count_in (reply_frame (say.task_ended r.handle target_reset IOC_STATUS_SUCCESS 0)))) (sym (same_high ∙ (f.paths.high r.smid a b).before (omega (arith, c)))) (counts_not_sent (slot w.host r.smid) (termination_count_in (reply_frame (say.task_ended r.handle target_reset IOC_STATUS_SUCCESS 0))) q))
            where
              no_tokens : (r : HeldReset) (a : 257 ≤ r.smid) (b : r.smid ≤ 264) → 1 ≤ how_many (is_held_as r.smid) w.ioc.held → asked_tokens w r.smid ≡ 0
              no_tokens r a b c = by_tokens (placed.tokens w h f r.smid (omega (arith, a)) (omega (arith, b))) refl (placed.tokens_are w h f r.smid (omega (arith, a)) (omega (arith, b)))
                where
                  by_tokens : (j : ℕ) → placed.tokens w h f r.smid (omega (arith, a)) (omega (arith, b)) ≡ j → placed.tokens w h f r.smid (omega (arith, a)) (omega (arith, b)) ≡ (asked_out r.smid w.out + asked_out r.smid w.ioc.out) + ends r.smid (back_line w) → asked_tokens w r.smid ≡ 0
                  by_tokens zero q t = omega (arith, q, t)
                  by_tokens (suc j) q t = let n = (placed.apart w h f r.smid (omega (arith, a)) (omega (arith, b)) (omega (arith, q))).nowhere in absurd (omega (arith, n, c))

      -- what the fabric counted
      counted : (smid n m : ℕ) → m ≡ n → one_if (is_abort_end_of smid x) + one_if (is_reset_end_of smid x) ≡ 1 → high_next smid (h.high smid) (entry.Take lane.Back (item.Back x)) ≡ with_progress (Counted n) (h.high smid) → (257 ≤ smid) → (smid ≤ 264) → Counts (slot v.host smid) (k.high smid) m
      counted smid n m q o g a b =
          let y = line smid in
          let was = (further smid).awaited (omega (arith, y, o)) in
          subst (λ j. Counts j (k.high smid) m) (sym (still v k l smid a b (omega (arith, y, o))))
          (subst (λ j. Counts (slot w.host smid) j m) (sym (after smid ∙ (g ∙ (ap (with_progress (Counted n)) was ∙ opened_on (Counted n) Awaited (slot w.host smid))))) (counts_taken (slot w.host smid) n m q))

      found_count : (found : Bool) → (if found then 1 else 0) ≡ count_found found
      found_count true = refl
      found_count false = refl

      small : (found : Bool) → (if found then 1 else 0) < 2 ^ 32
      small true = omega arith
      small false = omega arith

      aborted : (smid : ℕ) (found : Bool) (handle : ℕ) → x ≡ back.Aborted smid found → request_at w.ioc smid ≡ Some (at.Abort handle) → Told v k (say.framed smid (say.task_ended handle abort_task IOC_STATUS_SUCCESS (if found then 1 else 0)))
      aborted smid found handle q r =
          counted smid (count_found found) (termination_count_in (reply_frame (say.task_ended handle abort_task IOC_STATUS_SUCCESS (if found then 1 else 0)))) (count_in handle abort_task IOC_STATUS_SUCCESS 0 (if found then 1 else 0) (small found) ∙ found_count found)
          (subst (λ y. one_if (is_abort_end_of smid y) + one_if (is_reset_end_of smid y) ≡ 1) (sym q) (let o : one_if (smid == smid) ≡ 1 = ap one_if (same smid) in omega (arith, o)))
          (subst (λ y. high_next smid (h.high smid) (entry.Take lane.Back (item.Back y)) ≡ with_progress (Counted (count_found found)) (h.high smid)) (sym q) (ap (λ b. if b then with_progress (Counted (count_found found)) (h.high smid) else h.high smid) (same smid)))

      cleared : (smid count handle : ℕ) → x ≡ back.Cleared smid count → request_at w.ioc smid ≡ Some (at.TargetReset handle) → Told v k (say.framed smid (say.task_ended handle target_reset IOC_STATUS_SUCCESS count))
      cleared smid count handle q r =
          let z : CountFits (back.Cleared smid count) = subst CountFits q (All-head CountFits x (rest ++ w.fabric.out) (subst (λ xs. All CountFits (xs ++ w.fabric.out)) e fit)) in
          counted smid count (termination_count_in (reply_frame (say.task_ended handle target_reset IOC_STATUS_SUCCESS count))) (count_in handle target_reset IOC_STATUS_SUCCESS 0 count z)
          (subst (λ y. one_if (is_abort_end_of smid y) + one_if (is_reset_end_of smid y) ≡ 1) (sym q) (let o : one_if (smid == smid) ≡ 1 = ap one_if (same smid) in omega (arith, o)))
          (subst (λ y. high_next smid (h.high smid) (entry.Take lane.Back (item.Back y)) ≡ with_progress (Counted count) (h.high smid)) (sym q) (ap (λ b. if b then with_progress (Counted count) (h.high smid) else h.high smid) (same smid)))

  -- ---- a reply is put

  unnamed : (queue s : ℕ) (z : Up) → is_reply_of s (said_of z) ≡ false → high_next s (h.high s) (entry.Put (up_lane queue) (item.Up z)) ≡ h.high s
  unnamed queue s (upward.Reply d None page sense) e = ap (λ b. if b then closed (h.high s) else h.high s) e
  unnamed queue s (upward.Reply d (Some frame) page sense) e = ap (λ b. if b then closed (h.high s) else h.high s) e
  unnamed queue s (upward.Value value) e = refl
  unnamed queue s (upward.Mark generation) e = refl
  unnamed queue s upward.Calm e = refl

  on_first : (queue : ℕ) (y : Said) → SaidIs w h queue y → (s : ℕ) → 257 ≤ s → is_reply_of s y ≡ true → queue ≡ 0
  on_first queue (said.Framed zero frame page sense) a s m t = a.0
  on_first queue (said.Framed (suc j) frame page sense) a s m t = by_slot (slot w.host (suc j)) refl a
    where
      by_slot : (x : Slot Request) → slot w.host (suc j) ≡ x → AnswersBy w h queue (suc j) (said.Framed (suc j) frame page sense) x → queue ≡ 0
      by_slot Free e x = absurd x
      by_slot Parked e x = absurd x
      by_slot (Open (request.Command n)) e x = let i = classed w h f (suc j) (request.Command n) e in let z : suc j ≡ s = eqb-true (suc j) s t in absurd (omega (arith, i, m, z))
      by_slot (Open (request.Abort n task)) e x = x.0
      by_slot (Open (request.TargetReset address)) e x = x.0
      by_slot (Open (request.Leave handle)) e x = x.0
      by_slot (Open (request.Page handle)) e x = x.0
      by_slot (Open (request.Remove handle)) e x = x.0
      by_slot (Open (request.Ack event context)) e x = x.0
      by_slot (Open request.Notification) e x = x.0
      by_slot (Open request.PortEnable) e x = x.0
  on_first queue (said.Success j page sense) a s m t = by_slot (slot w.host j) refl a
    where
      by_slot : (x : Slot Request) → slot w.host j ≡ x → AnswersBy w h queue j (said.Success j page sense) x → queue ≡ 0
      by_slot (Open (request.Command n)) e x = let i = classed w h f j (request.Command n) e in let z : j ≡ s = eqb-true j s t in absurd (omega (arith, i, m, z))
      by_slot Free e x = absurd x
      by_slot Parked e x = absurd x
      by_slot (Open (request.Abort n task)) e x = absurd x
      by_slot (Open (request.TargetReset address)) e x = absurd x
      by_slot (Open (request.Leave handle)) e x = absurd x
      by_slot (Open (request.Page handle)) e x = absurd x
      by_slot (Open (request.Remove handle)) e x = absurd x
      by_slot (Open (request.Ack event context)) e x = absurd x
      by_slot (Open request.Notification) e x = absurd x
      by_slot (Open request.PortEnable) e x = absurd x
  on_first queue (said.Value value) a s m t = absurd (cc)
  on_first queue (said.Mark generation) a s m t = absurd (cc)
  on_first queue said.Calm a s m t = absurd (cc)

  puts_up : (queue : ℕ) (y : Said) (rest : List Said) (z : Up) → outbox_of w.ioc queue ≡ y ∷ rest → up_of y (slice_get w.ioc.ring 0) ≡ Some z
      → OnCase (with_up (record w { ioc = adapter.up_sent_on w.ioc queue }) queue (up_on w queue ++ z ∷ [])) (entry.Put (up_lane queue) (item.Up z) ∷ [])
  unfolding OnCase
  puts_up queue y rest z e u n r l = subst (All (Told v k)) (sym (get_or-set_any w.ioc.up queue 0 (drop 1 (outbox_of w.ioc queue)) [])) (by_key (0 == queue) refl)
    where
      v : World
      v = with_up (record w { ioc = adapter.up_sent_on w.ioc queue }) queue (up_on w queue ++ z ∷ [])

      k : History
      k = history_after h (entry.Put (up_lane queue) (item.Up z) ∷ [])

      is : SaidIs w h queue y
      is = All-head (SaidIs w h queue) y rest (subst (All (SaidIs w h queue)) e (all_last (SaidIs w h queue) (map said_of (up_on w queue)) (outbox_of w.ioc queue) (f.messages.said queue)))

      by_reply : (s : ℕ) → (is_reply_of s y ≡ true → ⊥) → k.high s ≡ h.high s
      by_reply s o = unnamed queue s z (same_identifier s y (slice_get w.ioc.ring 0) z (progress.low w h f further queue y is) u ∙ by_bool (is_reply_of s y) refl)
        where
          by_bool : (b : Bool) → is_reply_of s y ≡ b → b ≡ false
          by_bool false x = refl
          by_bool true x = absurd (o x)

      as_was : (queue ≡ 0 → ⊥) → All (Told v k) (outbox_of w.ioc 0)
      as_was o = all_stay w h f v k l (λ s a b c. by_reply s (λ t. o (on_first queue y is s a t)))

      first : queue ≡ 0 → outbox_of w.ioc 0 ≡ y ∷ rest
      first o = subst (λ n. outbox_of w.ioc n ≡ y ∷ rest) o e

      left : queue ≡ 0 → All (Told v k) rest
      left o = rest_stays w h f v k l y rest (first o) (λ s a b c. by_reply s (λ t.
          let m = (f.flights.identifiers s (omega (arith, a)) (omega (arith, b))).at_most in let p = first_box s w.ioc.up in
          let q = ap (reply_count s) (first o) in let q2 = reply_count-cons s y rest in let x : one_if (is_reply_of s y) ≡ 1 = ap one_if t in
          omega (arith, m, p, q, q2, x, c)))

      by_key : (b : Bool) → (0 == queue) ≡ b → All (Told v k) (cond b (cond (nat_lt queue (length w.ioc.up)) (drop 1 (outbox_of w.ioc queue)) (get_or w.ioc.up 0 [])) (get_or w.ioc.up 0 []))
      by_key false g = as_was (λ o. let q : true ≡ false = ap (λ n. 0 == n) (sym o) ∙ g in absurd (cc))
      by_key true g = by_length (nat_lt queue (length w.ioc.up)) refl
        where
          zero_is : queue ≡ 0
          zero_is = grind (arith, g)

          by_length : (b : Bool) → nat_lt queue (length w.ioc.up) ≡ b → All (Told v k) (cond b (drop 1 (outbox_of w.ioc queue)) (get_or w.ioc.up 0 []))
          by_length true t = subst (All (Told v k)) (sym (ap (drop 1) e)) (left zero_is)
          by_length false t = let far = get_or_past w.ioc.up queue [] (grind (arith, t)) in let q : [] ≡ y ∷ rest = sym far ∙ e in absurd (cc)

  -- ---- each case

  quietly : (v : World) (t : List Entry) → outbox_of v.ioc 0 ≡ outbox_of w.ioc 0 → EachEntry IsQuiet t → OnCase v t
  quietly v t o a = like v t o (λ s b c d. silent t a s)

  behind : (v : World) (e : Entry) (t : List Entry) → outbox_of v.ioc 0 ≡ outbox_of w.ioc 0 → ((s : ℕ) → high_next s (h.high s) e ≡ h.high s) → EachEntry IsQuiet t → OnCase v (e ∷ t)
  behind v e t o g a = like v (e ∷ t) o (λ s b c d. state_stays s (high_next s (h.high s) e) t a ∙ g s)

  owes : OwesTold OnCase w
  owes =
      record {
        idles = λ c. quietly w (entry.Idle c ∷ []) refl (tt, tt);
        host_puts = puts;
        host_takes = λ queue x rest e y. behind (record (with_up w queue rest) { host = (hears_up w.host queue x).part }) (entry.Take (up_lane queue) (item.Up x)) (hears_up w.host queue x).entries refl (λ s. refl) (quiet_taken w.host queue x None);
        host_told = λ i c. quietly (record w { host = (host_told w.host i).part }) (host_told w.host i).entries refl (quiet (host_told w.host i).entries (told_input w.host i));
        host_looks = λ e. quietly (record w { host = looks w.host }) [] refl tt;
        host_stops = λ e. quietly (record w { host = stops w.host }) [] refl tt;
        no_session = quietly w [] refl tt;
        ioc_takes = takes_down;
        ioc_high = works_high;
        ioc_normal = works_normal;
        ioc_puts_out = puts_out;
        ioc_takes_back = takes_back;
        ioc_puts = puts_up;
        fabric_takes = λ x rest e. behind (record w { fabric = fab.takes_out w.fabric x; out = rest }) (entry.Take lane.Out (item.Out x)) [] refl (λ s. refl) tt;
        fabric_says = λ x rest e. quietly (record w { fabric = record w.fabric { notices = rest; out = w.fabric.out ++ x ∷ [] } }) [] refl tt;
        fabric_puts = λ x rest e. behind (record w { fabric = record w.fabric { out = rest }; back = w.back ++ x ∷ [] }) (entry.Put lane.Back (item.Back x)) [] refl (λ s. refl) tt;
        fabric_runs = λ tag address e. quietly (record w { fabric = (fab.runs w.fabric tag).part }) (entry.Run address tag ∷ []) refl (tt, tt);
        plugs = λ address expander phy t p. quietly (record w { fabric = (fab.fabric_plugs w.fabric address expander phy).part }) t refl (quiet_plug t p);
        unplugs = λ address t p. quietly (record w { fabric = (fab.fabric_unplugs w.fabric address).part }) t refl (quiet_plug t p);
        calms = quietly (record w { fabric = fab.calms w.fabric }) [] refl tt;
      }

  pub counts_kept : NothingIsStrange w → (c : Case) → is_fault (happens w c).ioc.door.state ≡ false → (is_live (happens w c) ≡ false → how_many is_reply (outbox_of (happens w c).ioc 0) ≡ 0) → Leads w h (happens w c).host (history_after h (entries w c)) → All (Told (happens w c) (history_after h (entries w c))) (outbox_of (happens w c).ioc 0)
  unfolding OnCase
  counts_kept plain c n u l = kept_told OnCase w plain owes c n u l
