-- Each value that the controller puts is that of its register, where no post and no return makes it fault.
use Rattle.std.proofs.Common.{◌≡◌, ℕ, zero, suc, ◌==◌, ◌&&◌, ◌||◌, not, nat_lt, Bool, true, false, cond, if◌then◌else◌, List, [], ◌∷◌, ◌++◌, length, get_or, set, drop, replicate, slice_get, Option, Some, None, refl, ap, ap₂, sym, subst, ◌∙◌, arith, length-set}
use Rattle.std.specs.Prelude.{All}
use Rattle.std.specs.List.{AllByRecursion}
use Rattle.std.proofs.lemmas.Bool.{eqb-true}
use Rattle.std.proofs.lemmas.Bool.Decides.{nat_tests}
use Rattle.std.proofs.lemmas.List.Elements.{All-from_recursion, All-head, All-tail}
use Rattle.mpi_doorbell.specs.DoorRegisters.{DoorRegisters, is_fault, linked_up, register_value, register_written}
use Rattle.mpi_rings.specs.declared.request_descriptor.PostKind.{PostKind}
use Rattle.mpi_rings.specs.declared.request_descriptor.PostKind.TheVariants as post
use Rattle.mpt_wire.specs.Messages.Fields.{kind_in, smid_in}
use Rattle.mpt_trace.specs.declared.entry.Entry.{Entry}
use Rattle.mpt_trace.specs.declared.entry.Entry.TheVariants as entry
use Rattle.mpt_trace.specs.declared.item.Back.{Back}
use Rattle.mpt_trace.specs.declared.item.Back.TheVariants as back
use Rattle.mpt_trace.specs.declared.item.Down.{Down}
use Rattle.mpt_trace.specs.declared.item.Down.TheVariants as down
use Rattle.mpt_trace.specs.declared.item.Item.TheVariants as item
use Rattle.mpt_trace.specs.declared.item.Out.{Out}
use Rattle.mpt_trace.specs.declared.item.Out.TheVariants as out
use Rattle.mpt_trace.specs.declared.input.Input.{Input}
use Rattle.mpt_trace.specs.declared.input.Input.TheVariants as input
use Rattle.mpt_trace.specs.declared.refusal.RefusedCall.TheVariants as call
use Rattle.mpt_trace.specs.declared.item.Up.{Up}
use Rattle.mpt_trace.specs.declared.item.Up.TheVariants as up
use Rattle.mpt_trace.specs.declared.lane.LaneName.{LaneName}
use Rattle.mpt_trace.specs.declared.lane.LaneName.TheVariants as lane
use Rattle.mpt_wire.specs.Fits.Lines.{Line}
use Rattle.mpt_wire.specs.Walks.Passes.{EachEntry, Passes, state_after}
use Rattle.mpt_wire.proofs.Passing.{passes_append}
use Rattle.mpt_rules.specs.declared.post.Post.{Post}
use Rattle.mpt_rules.specs.declared.said.Said.{Said}
use Rattle.mpt_rules.specs.declared.said.Said.TheVariants as said
use Rattle.mpt_rules.specs.Fabric.Calls.{announces, fabric_plugs, fabric_unplugs, runs}
use Rattle.mpt_rules.specs.Fabric.Parts.{Fabric}
use Rattle.mpt_rules.specs.Host.Parts.{Host}
use Rattle.mpt_rules.specs.Host.Strange.{why_strange}
use Rattle.mpt_rules.specs.Host.Takes.{takes_unless}
use Rattle.mpt_rules.specs.Ioc.Parts.{Ioc, new_ioc, state_of}
use Rattle.mpt_rules.specs.Ioc.Posts as posts
use Rattle.mpt_rules.specs.Ioc.Registers.{after_effect}
use Rattle.mpt_rules.specs.Ioc.Replies.{outbox_of, with_out_item}
use Rattle.mpt_rules.specs.Ioc.Sending.{front_up_of, up_of, up_sent_on}
use Rattle.mpt_rules.specs.Ioc.Steps.{steps_high_on, steps_normal_on, works_on}
use Rattle.mpt_rules.specs.Ioc.Tables.{faults, is_operational, is_reset, is_unanswered}
use Rattle.mpt_rules.specs.Ioc.Takes.{front_out, out_sent, posts_if_operational, returns_if_operational, takes_back, takes_down, takes_stop}
use Rattle.mpt_rules.specs.Law.{IsLine, NothingFaults, ReplaysAreOfCases, ValuesAreTied}
use Rattle.mpt_rules.specs.Outcome.{Happening}
use Rattle.mpt_rules.specs.Session.OpenCases.{FabricCase, HostCase, IocCase, PutsOut, PutsUp, TakesBack, TakesDown, WorksHigh, WorksNormal, fabric_does, host_does, ioc_does, open_worked, puts_back, puts_down, puts_out, puts_up, ran, says_or_not}
use Rattle.mpt_rules.specs.World.Cases.{Case, case_of, entries, happens, run, trace}
use Rattle.mpt_rules.specs.World.FabricCounts.{is_linked}
use Rattle.mpt_rules.specs.World.Inputs.{fabric_told, host_told}
use Rattle.mpt_rules.specs.World.Moves.{told_of}
use Rattle.mpt_rules.specs.World.RegisterValues.{IsValueOf, RegisterAsks, registers_next}
use Rattle.mpt_rules.specs.World.Replays.{replays}
use Rattle.mpt_rules.specs.World.Settings.{IsCase, IsSetting, OfEveryWorld, Setting, first_world}
use Rattle.mpt_rules.specs.World.State.{World, up_lane}
use Rattle.law_flights.proofs.HostQuiet.{IsQuiet, quiet, quiet_taken}
use Rattle.law_flights.proofs.HostTold.{told_input}
use Rattle.law_flights.proofs.IocTold.{told_back, told_down, told_high, told_normal}
use Rattle.law_flights.proofs.Tables.{get_or-set_any}
use Rattle.law_flights.proofs.WorkLeaves.{works_leaf}
use Rattle.law_flights.proofs.World.{plugged}
use Rattle.law_moves.proofs.IocSpeaks.{CalmTold, LinkedUp, News, Speaks, Unlinked, ioc_quiet, is_asked_out, news, works}
use Rattle.law_moves.proofs.UpChanges.{within}
use Rattle.law_parties.proofs.OfParty.{Idles, OfFabric, OfHost, OfIoc, OfParty, of_party}
use Rattle.law_registers.proofs.Doors.{Tied, calm_said, effected, is_value, spoken, value_said, values_in}

-- ---- the rule over entries

-- the entries pass, and the model behind them goes with this controller
record Goes (m : Ioc) (es : List Entry) (i : Ioc) : Type 0 where
  passes : Passes registers_next RegisterAsks m es
  tied : Tied (state_after registers_next m es) i

-- an entry that the rule passes over
abbrev IsPassed : Entry → Type 0
IsPassed (entry.Take lane.Down (item.Down x)) = ⊥
IsPassed (entry.Take lane.Back (item.Back x)) = ⊥
IsPassed (entry.Put l (item.Up x)) = ⊥
IsPassed _ = Unit {0}

passed_next : (m : Ioc) (e : Entry) → IsPassed e → registers_next m e ≡ m
passed_next m (entry.Take lane.Down (item.Down x)) q = absurd q
passed_next m (entry.Take lane.Back (item.Back x)) q = absurd q
passed_next m (entry.Put l (item.Up x)) q = absurd q
passed_next m _ q = refl

passed_asks : (m : Ioc) (e : Entry) → IsPassed e → RegisterAsks m e
passed_asks m (entry.Put l (item.Up x)) q = absurd q
passed_asks m _ q = tt

passing : (m : Ioc) (es : List Entry) (i : Ioc) → EachEntry IsPassed es → Tied m i → Goes m es i
passing m [] i q t = record { passes = tt; tied = t }
passing m (e ∷ es) i q t =
    let same = passed_next m e q.0 in
    let rest = passing m es i q.1 t in
    record {
      passes = (passed_asks m e q.0, subst (λ (n : Ioc). Passes registers_next RegisterAsks n es) (sym same) rest.passes);
      tied = subst (λ (n : Ioc). Tied (state_after registers_next n es) i) (sym same) rest.tied;
    }

-- one entry, and then entries that the rule passes over
then_passing : (m : Ioc) (e : Entry) (es : List Entry) (i : Ioc) → RegisterAsks m e → EachEntry IsPassed es → Tied (registers_next m e) i → Goes m (e ∷ es) i
then_passing m e es i a q t = let rest = passing (registers_next m e) es i q t in record { passes = (a, rest.passes); tied = rest.tied }

-- what neither puts nor takes is passed over
quiet_passed : (es : List Entry) → EachEntry IsQuiet es → EachEntry IsPassed es
quiet_passed [] q = tt
quiet_passed (e ∷ es) q = (by_entry e q.0, quiet_passed es q.1)
  where
    by_entry : (e : Entry) → IsQuiet e → IsPassed e
    by_entry (entry.Put l x) w = absurd w
    by_entry (entry.Take l x) w = absurd w
    by_entry _ w = tt

-- ---- the controller

module _ (m i : Ioc) (t : Tied m i) where
  -- the register's write, by both
  wrote : (reg value : ℕ) → Tied (takes_down m (down.Write reg value)).part (takes_down i (down.Write reg value)).part
  wrote reg value = by_door i.door t.door_is
    where
      by_door : (d : DoorRegisters) → m.door ≡ d → Tied (after_effect (record m { door = (register_written m.door reg value).registers }) (register_written m.door reg value).effect).part
          (after_effect (record i { door = (register_written d reg value).registers }) (register_written d reg value).effect).part
      by_door d e =
          subst (λ (x : DoorRegisters). Tied (after_effect (record m { door = (register_written x reg value).registers }) (register_written x reg value).effect).part
          (after_effect (record i { door = (register_written d reg value).registers }) (register_written d reg value).effect).part) (sym e)
          (effected (record m { door = (register_written d reg value).registers }) (record i { door = (register_written d reg value).registers }) (register_written d reg value).effect
          (record { door_is = refl; generation_is = t.generation_is; queues_are = t.queues_are; values_are = t.values_are; elsewhere = t.elsewhere }))

  -- a post or a return that makes no fault leaves the registers
  posted : (d : ℕ) (frame payload : List ℕ) → is_fault (posts_if_operational i d frame payload).door.state ≡ false → Tied m (posts_if_operational i d frame payload)
  posted d frame payload = by_state (is_operational (state_of i))
    where
      by_kind : (p : Post) (k : PostKind) → Tied m (posts.with_post_queued i p k)
      by_kind p post.ScsiIo = t
      by_kind p post.HighPriority = t
      by_kind p post.Default = t

      by_tests : (p : Post) (k : PostKind) (a b : Bool) → is_fault (if not a then faults i posts.bad_post else if b then faults i posts.identifier_in_use else posts.with_post_queued i p k).door.state ≡ false
          → Tied m (if not a then faults i posts.bad_post else if b then faults i posts.identifier_in_use else posts.with_post_queued i p k)
      by_tests p k false b n = absurd (cc)
      by_tests p k true true n = absurd (cc)
      by_tests p k true false n = by_kind p k

      by_name : (p : Post) (o : Option PostKind) → is_fault (posts.posts_if i p o).door.state ≡ false → Tied m (posts.posts_if i p o)
      by_name p None n = absurd (cc)
      by_name p (Some k) n = by_tests p k (posts.is_in_class (posts.class_of k) (smid_in p.descriptor)) (is_unanswered i (smid_in p.descriptor)) n

      by_state : (c : Bool) → is_fault (if c then posts.ioc_takes_post i d frame payload else i).door.state ≡ false → Tied m (if c then posts.ioc_takes_post i d frame payload else i)
      by_state false n = t
      by_state true n = by_name (record { descriptor = d; frame = frame; payload = payload }) (kind_in d) n

  returned : (address : ℕ) → is_fault (returns_if_operational i address).door.state ≡ false → Tied m (returns_if_operational i address)
  returned address = by_state (is_operational (state_of i)) (not (posts.is_frame_address address) || posts.frame_here i (posts.frame_near address))
    where
      by_state : (c b : Bool) → is_fault (if c then (if b then faults i posts.bad_return else record i { ring = i.ring ++ posts.frame_near address ∷ [] }) else i).door.state ≡ false
          → Tied m (if c then (if b then faults i posts.bad_return else record i { ring = i.ring ++ posts.frame_near address ∷ [] }) else i)
      by_state false b n = t
      by_state true true n = absurd (cc)
      by_state true false n = t

  stopped : Tied m (takes_stop i)
  stopped = by_fault (is_fault (state_of i))
    where
      by_fault : (c : Bool) → Tied m (if c then i else with_out_item i out.Stop)
      by_fault true = t
      by_fault false = t

  took_down : (x : Down) → is_fault (takes_down i x).part.door.state ≡ false → Tied (registers_next m (entry.Take lane.Down (item.Down x))) (takes_down i x).part
  took_down (down.Write reg value) n = wrote reg value
  took_down (down.Read reg) n = value_said m i (register_value m.door reg) (register_value i.door reg) (ap (λ (d : DoorRegisters). register_value d reg) t.door_is) t
  took_down (down.Post d frame payload) n = posted d frame payload n
  took_down (down.Return address index) n = returned address n
  took_down down.Stop n = stopped

  -- news of the fabric
  no_link : (x : Back) → is_linked x ≡ false → registers_next m (entry.Take lane.Back (item.Back x)) ≡ m
  no_link (back.Linked generation) e = absurd (cc)
  no_link (back.Result tag result) e = refl
  no_link (back.Gone tag) e = refl
  no_link (back.Terminated tag) e = refl
  no_link (back.Aborted smid found) e = refl
  no_link (back.Cleared smid count) e = refl
  no_link (back.Plugged address plug expander phy) e = refl
  no_link (back.Unplugged address plug expander phy) e = refl
  no_link back.Discovered e = refl
  no_link back.Calm e = refl

  -- whether a link is this generation's
  link_same : (g : ℕ) → (is_reset m.door.state && g == m.generation) ≡ (is_reset i.door.state && g == i.generation)
  link_same g = ap₂ (λ (d : DoorRegisters) (n : ℕ). is_reset d.state && g == n) t.door_is t.generation_is

  linked_by : (g : ℕ) (b : Bool) → (is_reset m.door.state && g == m.generation) ≡ b → registers_next m (entry.Take lane.Back (item.Back (back.Linked g))) ≡ (if b then record m { door = linked_up m.door } else m)
  linked_by g b e = ap (λ (c : Bool). if c then record m { door = linked_up m.door } else m) e

  took_back : (x : Back) (o : Happening Ioc) → News is_asked_out i x o → Tied (registers_next m (entry.Take lane.Back (item.Back x))) o.part
  took_back x o (Speaks l s) = subst (λ (n : Ioc). Tied n o.part) (sym (no_link x l)) (spoken m i o.part is_asked_out s t)
  took_back x o (Unlinked g is n e) =
      subst (λ (y : Back). Tied (registers_next m (entry.Take lane.Back (item.Back y))) o.part) (sym is)
      (subst (λ (k : Ioc). Tied k o.part) (sym (linked_by g false (link_same g ∙ n))) (subst (λ (p : Happening Ioc). Tied m p.part) (sym e) t))
  took_back x o (LinkedUp g is q r e) =
      subst (λ (y : Back). Tied (registers_next m (entry.Take lane.Back (item.Back y))) o.part) (sym is)
      (subst (λ (k : Ioc). Tied k o.part) (sym (linked_by g true (link_same g ∙ ap₂ (λ (a b : Bool). a && b) r q)))
      (subst (λ (p : Happening Ioc). Tied (record m { door = linked_up m.door }) p.part) (sym e)
      (record { door_is = ap linked_up t.door_is; generation_is = t.generation_is; queues_are = t.queues_are; values_are = t.values_are; elsewhere = t.elsewhere })))
  took_back x o (CalmTold is e) =
      subst (λ (y : Back). Tied (registers_next m (entry.Take lane.Back (item.Back y))) o.part) (sym is) (subst (λ (p : Happening Ioc). Tied m p.part) (sym e) (calm_said m i t))

  -- a work step
  worked : (rest : Ioc) (p : Post) → Tied m rest → Tied m (works_on rest p).part
  worked rest p s = spoken m rest (works_on rest p).part is_asked_out (works rest rest p (works_on rest p) (works_leaf rest p) (ioc_quiet is_asked_out rest)) s

  high_goes : (ps : List Post) → Goes m (open_worked i (steps_high_on i ps)).entries (open_worked i (steps_high_on i ps)).part
  high_goes [] = passing m [] i tt t
  high_goes (p ∷ rest) = passing m (steps_high_on i (p ∷ rest)).told (steps_high_on i (p ∷ rest)).part (quiet_passed (steps_high_on i (p ∷ rest)).told (quiet (steps_high_on i (p ∷ rest)).told (told_high i (p ∷ rest)))) (worked (record i { high = rest }) p t)

  normal_goes : (ps : List Post) → Goes m (open_worked i (steps_normal_on i ps)).entries (open_worked i (steps_normal_on i ps)).part
  normal_goes [] = passing m [] i tt t
  normal_goes (p ∷ rest) = passing m (steps_normal_on i (p ∷ rest)).told (steps_normal_on i (p ∷ rest)).part (quiet_passed (steps_normal_on i (p ∷ rest)).told (quiet (steps_normal_on i (p ∷ rest)).told (told_normal i (p ∷ rest)))) (worked (record i { normal = rest }) p t)

  out_goes : (o : Option Out) → Goes m (puts_out i o).entries (puts_out i o).part
  out_goes None = passing m [] i tt t
  out_goes (Some x) = passing m (entry.Put lane.Out (item.Out x) ∷ []) (out_sent i) (tt, tt) t

  -- the front of an outbox was put
  module _ (queue : ℕ) (x : Said) (rest : List Said) (f : outbox_of i queue ≡ x ∷ rest) where
    inside : nat_lt queue (length i.up) ≡ true
    inside = within i.up queue x rest f

    up_after : (q : ℕ) → get_or (set i.up queue (drop 1 (outbox_of i queue))) q [] ≡ cond (q == queue) rest (get_or i.up q [])
    up_after q =
        get_or-set_any i.up queue q (drop 1 (outbox_of i queue)) []
        ∙ (ap (λ (b : Bool). cond (q == queue) (cond b (drop 1 (outbox_of i queue)) (get_or i.up q [])) (get_or i.up q [])) inside
        ∙ ap (λ (xs : List Said). cond (q == queue) (drop 1 xs) (get_or i.up q [])) f)

    -- one that is no value
    other_put : is_value x ≡ false → Tied m (up_sent_on i queue)
    other_put n =
        record {
          door_is = t.door_is;
          generation_is = t.generation_is;
          queues_are = t.queues_are ∙ sym (length-set i.up queue _);
          values_are = t.values_are ∙ sym (at 0);
          elsewhere = λ q. at (suc q) ∙ t.elsewhere q;
        }
      where
        front : values_in (x ∷ rest) ≡ values_in rest
        front = ap (λ (b : Bool). if b then x ∷ values_in rest else values_in rest) n

        at : (q : ℕ) → values_in (get_or (set i.up queue (drop 1 (outbox_of i queue))) q []) ≡ values_in (get_or i.up q [])
        at q = ap values_in (up_after q) ∙ by_key (q == queue) refl
          where
            by_key : (b : Bool) → (q == queue) ≡ b → values_in (cond b rest (get_or i.up q [])) ≡ values_in (get_or i.up q [])
            by_key false k = refl
            by_key true k =
                let same : q ≡ queue = eqb-true q queue k in
                sym (ap values_in (ap (λ (j : ℕ). get_or i.up j []) same ∙ f) ∙ front)

  -- a value is put: it is the first that waits on queue 0
  module _ (value : ℕ) (rest : List Said) where
    first_is : outbox_of i 0 ≡ said.Value value ∷ rest → get_or m.up 0 [] ≡ said.Value value ∷ values_in rest
    first_is f = t.values_are ∙ ap values_in f

    value_asked : (l : LaneName) → outbox_of i 0 ≡ said.Value value ∷ rest → RegisterAsks m (entry.Put l (item.Up (up.Value value)))
    value_asked l f = subst (λ (xs : List Said). IsValueOf xs value) (sym (first_is f)) refl

    value_put_so : (l : LaneName) → outbox_of i 0 ≡ said.Value value ∷ rest → Tied (registers_next m (entry.Put l (item.Up (up.Value value)))) (up_sent_on i 0)
    value_put_so l f =
        record {
          door_is = t.door_is;
          generation_is = t.generation_is;
          queues_are = length-set m.up 0 _ ∙ (t.queues_are ∙ sym (length-set i.up 0 _));
          values_are = put_first m.up (drop 1 (outbox_of m 0)) (ap (nat_lt 0) t.queues_are ∙ inside 0 (said.Value value) rest f) ∙ (ap (drop 1) (first_is f) ∙ sym (ap values_in (up_after 0 (said.Value value) rest f 0)));
          elsewhere = λ q. ap values_in (up_after 0 (said.Value value) rest f (suc q)) ∙ (ap (λ (b : Bool). values_in (cond b rest (get_or i.up (suc q) []))) (apart q) ∙ t.elsewhere q);
        }
      where
        apart : (q : ℕ) → (suc q == 0) ≡ false
        apart q = grind (arith, nat_tests)

        put_first : (xs : List (List Said)) (y : List Said) → nat_lt 0 (length xs) ≡ true → get_or (set xs 0 y) 0 [] ≡ y
        put_first xs y n = get_or-set_any xs 0 0 y [] ∙ ap (λ (b : Bool). cond b y (get_or xs 0 [])) n

  -- no value waits for another queue
  never_elsewhere : (queue value : ℕ) (rest : List Said) → outbox_of i (suc queue) ≡ said.Value value ∷ rest → ⊥
  never_elsewhere queue value rest f = let p : said.Value value ∷ values_in rest ≡ [] = sym (ap values_in f) ∙ t.elsewhere queue in cc

  put_one : (queue : ℕ) (x : Said) (rest : List Said) (free : Option ℕ) → outbox_of i queue ≡ x ∷ rest → Goes m (puts_up i queue (up_of x free)).entries (puts_up i queue (up_of x free)).part
  put_one zero (said.Value value) rest free f = then_passing m (entry.Put (up_lane 0) (item.Up (up.Value value))) [] (up_sent_on i 0) (value_asked value rest (up_lane 0) f) tt (value_put_so value rest (up_lane 0) f)
  put_one (suc queue) (said.Value value) rest free f = absurd (never_elsewhere queue value rest f)
  put_one queue (said.Success smid page sense) rest free f = then_passing m _ [] (up_sent_on i queue) tt tt (other_put queue (said.Success smid page sense) rest f refl)
  put_one queue (said.Framed smid frame page sense) rest None f = passing m [] i tt t
  put_one queue (said.Framed smid frame page sense) rest (Some free) f = then_passing m _ [] (up_sent_on i queue) tt tt (other_put queue (said.Framed smid frame page sense) rest f refl)
  put_one queue (said.Mark generation) rest free f = then_passing m _ [] (up_sent_on i queue) tt tt (other_put queue (said.Mark generation) rest f refl)
  put_one queue said.Calm rest free f = then_passing m _ [] (up_sent_on i queue) tt tt (other_put queue said.Calm rest f refl)

  put_goes : (queue : ℕ) (xs : List Said) (free : Option ℕ) → outbox_of i queue ≡ xs → Goes m (puts_up i queue (front_up_of (slice_get xs 0) free)).entries (puts_up i queue (front_up_of (slice_get xs 0) free)).part
  put_goes queue [] free f = passing m [] i tt t
  put_goes queue (x ∷ rest) free f = put_one queue x rest free f

  ioc_goes : (c : IocCase) → is_fault (ioc_does i c).part.door.state ≡ false → Goes m (ioc_does i c).entries (ioc_does i c).part
  ioc_goes (TakesDown x) n = then_passing m (entry.Take lane.Down (item.Down x)) (takes_down i x).entries (takes_down i x).part tt (quiet_passed (takes_down i x).entries (quiet (takes_down i x).entries (told_down i x))) (took_down x n)
  ioc_goes WorksHigh n = high_goes i.high
  ioc_goes WorksNormal n = normal_goes i.normal
  ioc_goes PutsOut n = out_goes (front_out i)
  ioc_goes (TakesBack x) n = then_passing m (entry.Take lane.Back (item.Back x)) (takes_back i x).entries (takes_back i x).part tt (quiet_passed (takes_back i x).entries (quiet (takes_back i x).entries (told_back i x))) (took_back x (takes_back i x) (news is_asked_out i x))
  ioc_goes (PutsUp queue) n = put_goes queue (outbox_of i queue) (slice_get i.ring 0) refl

-- ---- the other parties' entries are passed over

take_up_passed : (queue : ℕ) (x : Up) → IsPassed (entry.Take (up_lane queue) (item.Up x))
take_up_passed zero x = tt
take_up_passed (suc queue) x = tt

host_put_passed : (host : Host) (xs : List Down) → EachEntry IsPassed (puts_down host xs).entries
host_put_passed host [] = tt
host_put_passed host (x ∷ rest) = (tt, tt)

host_passed : (host : Host) (c : HostCase) → EachEntry IsPassed (host_does host c).entries
host_passed host (HostCase.Told x) = quiet_passed (host_told host x).entries (quiet (host_told host x).entries (told_input host x))
host_passed host HostCase.Puts = host_put_passed host host.out
host_passed host (HostCase.Takes queue x) = (take_up_passed queue x, quiet_passed (told_of (takes_unless host queue x (why_strange host queue x)).answer (takes_unless host queue x (why_strange host queue x)).told) (quiet_taken host queue x (why_strange host queue x)))
host_passed host HostCase.Looks = tt
host_passed host HostCase.Stops = tt
host_passed host (HostCase.TakesAsk submitter x) = (tt, tt)
host_passed host (HostCase.PutsTell submitter x) = (tt, tt)

fabric_put_passed : (fabric : Fabric) (xs : List Back) → EachEntry IsPassed (puts_back fabric xs).entries
fabric_put_passed fabric [] = tt
fabric_put_passed fabric (x ∷ rest) = (tt, tt)

said_passed : (fabric : Fabric) (o : Option Fabric) → EachEntry IsPassed (says_or_not fabric o).entries
said_passed fabric None = tt
said_passed fabric (Some f) = tt

ran_passed : (fabric : Fabric) (tag : ℕ) (o : Option ℕ) (after : Fabric) → EachEntry IsPassed (ran fabric tag o after).entries
ran_passed fabric tag None after = tt
ran_passed fabric tag (Some address) after = (tt, tt)

told_passed : (fabric : Fabric) (x : Input) → EachEntry IsPassed (fabric_does fabric (FabricCase.Told x)).entries
told_passed fabric (input.Plug address expander phy) =
    let o = fabric_plugs fabric address expander phy in
    quiet_passed (fabric_told fabric (input.Plug address expander phy)).entries (quiet (fabric_told fabric (input.Plug address expander phy)).entries (plugged (input.Plug address expander phy) (call.Plug address) o.answer o.part))
told_passed fabric (input.Unplug address) =
    let o = fabric_unplugs fabric address in
    quiet_passed (fabric_told fabric (input.Unplug address)).entries (quiet (fabric_told fabric (input.Unplug address)).entries (plugged (input.Unplug address) (call.Unplug address) o.answer o.part))
told_passed fabric _ = tt

fabric_passed : (fabric : Fabric) (c : FabricCase) → EachEntry IsPassed (fabric_does fabric c).entries
fabric_passed fabric (FabricCase.Told x) = told_passed fabric x
fabric_passed fabric (FabricCase.Takes x) = (tt, tt)
fabric_passed fabric FabricCase.Says = said_passed fabric (announces fabric)
fabric_passed fabric FabricCase.Puts = fabric_put_passed fabric fabric.out
fabric_passed fabric (FabricCase.Runs tag) = ran_passed fabric tag (runs fabric tag).answer (runs fabric tag).part
fabric_passed fabric FabricCase.Calms = tt

-- ---- every world

case_goes : (m : Ioc) (w : World) (o : Happening World) → OfParty w o → is_fault o.part.ioc.door.state ≡ false → Tied m w.ioc → Goes m o.entries o.part.ioc
case_goes m w o (Idles c same is) n t =
    subst (λ (es : List Entry). Goes m es o.part.ioc) (sym is) (subst (λ (v : World). Goes m (entry.Idle c ∷ []) v.ioc) (sym same) (passing m (entry.Idle c ∷ []) w.ioc (tt, tt) t))
case_goes m w o (OfHost c host ioc is) n t =
    subst (λ (es : List Entry). Goes m es o.part.ioc) (sym is) (subst (Goes m (host_does w.host c).entries) (sym ioc) (passing m (host_does w.host c).entries w.ioc (host_passed w.host c) t))
case_goes m w o (OfIoc c host ioc is) n t =
    subst (λ (es : List Entry). Goes m es o.part.ioc) (sym is) (subst (Goes m (ioc_does w.ioc c).entries) (sym ioc) (ioc_goes m w.ioc t c (sym (ap (λ (i : Ioc). is_fault i.door.state) ioc) ∙ n)))
case_goes m w o (OfFabric c host ioc is) n t =
    subst (λ (es : List Entry). Goes m es o.part.ioc) (sym is) (subst (Goes m (fabric_does w.fabric c).entries) (sym ioc) (passing m (fabric_does w.fabric c).entries w.ioc (fabric_passed w.fabric c) t))

all_go : (m : Ioc) (w : World) (cases : List Case) → AllByRecursion IsCase cases → ((more : List Case) → AllByRecursion IsCase more → NothingFaults (run w more)) → Tied m w.ioc → Passes registers_next RegisterAsks m (trace w cases)
all_go m w [] allowed sound t = tt
all_go m w (c ∷ cases) allowed sound t =
    let o = case_goes m w (case_of w c) (of_party w c) (sound (c ∷ []) (allowed.0, tt)) t in
    passes_append registers_next RegisterAsks m (entries w c) (trace (happens w c) cases) o.passes
    (all_go (state_after registers_next m (entries w c)) (happens w c) cases allowed.1 (λ more a. sound (c ∷ more) (allowed.0, a)) o.tied)

first_tied : (s : Setting) → Tied (new_ioc [] s.queues) (first_world s).ioc
first_tied s =
    record {
      door_is = refl;
      generation_is = refl;
      queues_are = refl;
      values_are = nowhere s.queues 0 ∙ sym (ap values_in (nowhere s.queues 0));
      elsewhere = λ q. ap values_in (nowhere s.queues (suc q));
    }
  where
    nothing_said : List Said
    nothing_said = []

    nowhere : (n q : ℕ) → get_or (replicate n nothing_said) q [] ≡ []
    nowhere zero q = refl
    nowhere (suc n) zero = refl
    nowhere (suc n) (suc q) = nowhere n q

to_recursion : (cases : List Case) → All IsCase cases → AllByRecursion IsCase cases
to_recursion [] a = tt
to_recursion (c ∷ cases) a = (All-head IsCase c cases a, to_recursion cases (All-tail IsCase c cases a))

pub values_law : OfEveryWorld NothingFaults → (s : Setting) (cases : List Case) → IsSetting s → All IsCase cases → ValuesAreTied s (trace (first_world s) cases)
values_law sound s cases i a = all_go (new_ioc [] s.queues) (first_world s) cases (to_recursion cases a) (λ more b. sound s more i (All-from_recursion IsCase more b)) (first_tied s)

pub replays_values : ReplaysAreOfCases → OfEveryWorld NothingFaults → (s : Setting) (lines : List Line) → IsSetting s → All (IsLine s) lines → ValuesAreTied s (replays (first_world s) lines).entries
replays_values of_cases sound s lines i a = let o = of_cases s lines i a in subst (λ (t : List Entry). ValuesAreTied s t) (sym o.traced) (values_law sound s o.cases i o.allowed)
