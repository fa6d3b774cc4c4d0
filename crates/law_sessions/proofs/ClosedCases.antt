-- A case of a party by itself is a case of the world, where what it takes is what comes next on the lane; what a submitter
-- and the host say to each other is none.
use Rattle.std.proofs.Common.{◌≡◌, ℕ, zero, suc, nat_lt, ◌<◌, ◌≤◌, Bool, true, false, if◌then◌else◌, MatchBool, List, [], ◌∷◌, ◌++◌, length, get_or, set, map, Option, Some, None, refl, ap, sym, subst, ◌∙◌, arith, length-set, slice_get}
use Rattle.std.specs.Prelude.{filter}
use Rattle.std.proofs.lemmas.Bool.Decides.{nat_tests}
use Rattle.std.proofs.lemmas.List.{get_or_past}
use Rattle.mpt_trace.specs.ReadingSchedule.{IsInput}
use Rattle.mpt_trace.specs.declared.choice.Choice.{Choice}
use Rattle.mpt_trace.specs.declared.choice.Choice.TheVariants as choice
use Rattle.mpt_trace.specs.declared.entry.Entry.{Entry}
use Rattle.mpt_trace.specs.declared.entry.Entry.TheVariants as entry
use Rattle.mpt_trace.specs.declared.input.Input.{Input}
use Rattle.mpt_trace.specs.declared.input.Input.TheVariants as input
use Rattle.mpt_trace.specs.declared.item.Back.{Back}
use Rattle.mpt_trace.specs.declared.item.Down.{Down}
use Rattle.mpt_trace.specs.declared.item.Item.{Item}
use Rattle.mpt_trace.specs.declared.item.Item.TheVariants as item
use Rattle.mpt_trace.specs.declared.item.Out.{Out}
use Rattle.mpt_trace.specs.declared.item.Up.{Up}
use Rattle.mpt_trace.specs.declared.lane.LaneName.{LaneName}
use Rattle.mpt_trace.specs.declared.lane.LaneName.TheVariants as lane
use Rattle.mpt_trace.specs.declared.refusal.RefusedCall.TheVariants as call
use Rattle.mpt_wire.specs.Queues.Lanes.{IsFirst, LaneAsks, lane_next, same_lane}
use Rattle.mpt_wire.specs.Walks.Passes.{EachEntry, Passes, state_after}
use Rattle.mpt_rules.specs.declared.said.Said.{Said}
use Rattle.mpt_rules.specs.Fabric.Calls.{announces, fabric_plugs, fabric_unplugs, runs}
use Rattle.mpt_rules.specs.Fabric.Parts.{Fabric}
use Rattle.mpt_rules.specs.Host.Strange.{why_strange}
use Rattle.mpt_rules.specs.Ioc.Parts.{Ioc}
use Rattle.mpt_rules.specs.Ioc.Replies.{outbox_of}
use Rattle.mpt_rules.specs.Ioc.Sending.{front_up_of}
use Rattle.mpt_rules.specs.Ioc.Takes.{front_out, front_up_on, steps_high, steps_normal, takes_back, takes_down}
use Rattle.mpt_rules.specs.Outcome.{Called, Happening}
use Rattle.mpt_rules.specs.Session.OpenCases.{ByFabric, ByHost, ByIoc, BySubmitter, FabricCase, HostCase, Open, PutsAsk, PutsOut, PutsUp, TakesBack, TakesDown, TakesTell, WorksHigh, WorksNormal, puts_back, puts_down, puts_out, puts_up, ran, says_or_not, worked_if}
use Rattle.mpt_rules.specs.World.Cases.{Case, Chosen, FabricCalms, HostLooks, HostStops, Told, case_of, moves_or_idles}
use Rattle.mpt_rules.specs.World.Inputs.{fabric_told, host_told}
use Rattle.mpt_rules.specs.World.Moves as move
use Rattle.mpt_rules.specs.World.Settings.{IsCase}
use Rattle.mpt_rules.specs.World.State.{World, up_lane, up_on}
use Rattle.law_flights.proofs.HostQuiet.{IsQuiet, quiet, quiet_taken}
use Rattle.law_flights.proofs.HostTold.{told_input}
use Rattle.law_flights.proofs.IocSized as sized
use Rattle.law_flights.proofs.IocTold.{told_back, told_down, told_high, told_normal}
use Rattle.law_flights.proofs.Lanes.{behind, by_quiet, lane_items, puts_back as lane_back_put, puts_down as lane_down_put, puts_out as lane_out_put, puts_up as lane_up_put, takes_back_asks, takes_back_next, takes_down_asks, takes_down_next, takes_out_next, takes_up_asks, takes_up_next}
use Rattle.law_flights.proofs.World.{plugged}
use Rattle.law_sessions.specs.OfCases.{is_talk_lane, without_talk}
use Rattle.law_sessions.proofs.MergedCases.{Parties, does}

-- the parties of a world
abbrev pub parties_of : World → Parties
parties_of w = record { host = w.host; ioc = w.ioc; fabric = w.fabric }

-- the numbers of its input are those that an input can have
abbrev pub IsGiven : Open → Type 0
IsGiven (ByHost (HostCase.Told i)) = IsInput i
IsGiven (ByFabric (FabricCase.Told i)) = IsInput i
IsGiven _ = Unit {0}

-- as many lanes up as outboxes
abbrev pub SameQueues : World → Type 0
SameQueues w = length w.ioc.up ≡ length w.up

-- the rules of the lanes have what is on the world's
abbrev pub LanesTied : (LaneName → List Item) → World → Type 0
LanesTied g w = (l : LaneName) → is_talk_lane l ≡ false → g l ≡ lane_items l w.down w.up w.out w.back

abbrev pub after : (LaneName → List Item) → List Entry → LaneName → List Item
after g es l = state_after (lane_next l) (g l) es

-- no case of the world, or one
pub data Closes (g : LaneName → List Item) (w : World) (o : Happening Parties) : Type 0 where
  IsNone : o.part ≡ parties_of w → without_talk o.entries ≡ [] → LanesTied (after g o.entries) w → Closes g w o
  IsOne : (c : Case) (r : Happening World) → IsCase c → case_of w c ≡ r → parties_of r.part ≡ o.part → without_talk o.entries ≡ r.entries → SameQueues r.part → LanesTied (after g o.entries) r.part → Closes g w o

-- ---- entries that aren't talk

quiet_kept : (es : List Entry) → EachEntry IsQuiet es → without_talk es ≡ es
quiet_kept [] h = refl
quiet_kept (e ∷ es) h = by_entry e h.0 (quiet_kept es h.1)
  where
    by_entry : (e : Entry) → IsQuiet e → without_talk es ≡ es → without_talk (e ∷ es) ≡ e ∷ es
    by_entry (entry.Put l i) q ih = absurd q
    by_entry (entry.Take l i) q ih = absurd q
    by_entry e q ih = ap (λ (zs : List Entry). e ∷ zs) ih

module _ (g : LaneName → List Item) (w : World) (same : SameQueues w) (tied : LanesTied g w) where
  -- nothing happens
  nothing_done : Closes g w (record { part = parties_of w; entries = [] })
  nothing_done = IsNone refl refl tied

  -- ---- the host

  told : (i : Input) → IsInput i → Closes g w (does (parties_of w) (ByHost (HostCase.Told i)))
  told i given = by_input i given
    where
      one : (i : Input) → IsInput i → case_of w (Told i) ≡ record { part = record w { host = (host_told w.host i).part }; entries = (host_told w.host i).entries } → Closes g w (does (parties_of w) (ByHost (HostCase.Told i)))
      one i given is =
          IsOne (Told i) (record { part = record w { host = (host_told w.host i).part }; entries = (host_told w.host i).entries }) given is refl (quiet_kept (host_told w.host i).entries (quiet _ (told_input w.host i))) same
          (λ l k. (by_quiet l (g l) (host_told w.host i).entries w.down w.up w.out w.back (tied l k) (quiet _ (told_input w.host i))).tied)

      by_input : (i : Input) → IsInput i → Closes g w (does (parties_of w) (ByHost (HostCase.Told i)))
      by_input input.Start given = one input.Start given refl
      by_input (input.Submit n address form) given = one (input.Submit n address form) given refl
      by_input (input.Abort n) given = one (input.Abort n) given refl
      by_input (input.TargetReset address) given = one (input.TargetReset address) given refl
      by_input input.Reset given = one input.Reset given refl
      by_input input.UnitReset given = one input.UnitReset given refl
      by_input (input.Plug address expander phy) given = nothing_done
      by_input (input.Unplug address) given = nothing_done

  host_puts : (xs : List Down) → w.host.out ≡ xs → Closes g w (record { part = record (parties_of w) { host = (puts_down w.host xs).part }; entries = (puts_down w.host xs).entries })
  host_puts [] e = nothing_done
  host_puts (x ∷ rest) e =
      IsOne (Chosen choice.HostPut) (moves_or_idles w choice.HostPut (move.host_puts w (x ∷ rest))) tt (ap (λ (xs : List Down). moves_or_idles w choice.HostPut (move.host_puts w xs)) e) refl refl same
      (λ l k. lane_down_put l (g l) x w.down w.up w.out w.back (tied l k))

  -- what is first on a lane up is what is taken
  pub first_up : (queue : ℕ) (next : Up) (xs : List Up) → g (up_lane queue) ≡ map item.Up xs → LaneAsks (up_lane queue) (g (up_lane queue)) (entry.Take (up_lane queue) (item.Up next)) → (rest : List Up) × (xs ≡ next ∷ rest)
  first_up queue next xs e asks = by_list xs e (first asks)
    where
      itself : same_lane (up_lane queue) (up_lane queue) ≡ true
      itself = by_queue queue
        where
          by_queue : (q : ℕ) → same_lane (up_lane q) (up_lane q) ≡ true
          by_queue zero = refl
          by_queue (suc q) = grind (arith, nat_tests)

      first : MatchBool (same_lane (up_lane queue) (up_lane queue)) (IsFirst (item.Up next) (g (up_lane queue))) (Unit {0}) → IsFirst (item.Up next) (g (up_lane queue))
      first a = subst (λ (b : Bool). MatchBool b (IsFirst (item.Up next) (g (up_lane queue))) (Unit {0})) itself a

      by_list : (xs : List Up) → g (up_lane queue) ≡ map item.Up xs → IsFirst (item.Up next) (g (up_lane queue)) → (rest : List Up) × (xs ≡ next ∷ rest)
      by_list [] e f = absurd (let z = sym e ∙ f.1 in cc)
      by_list (y ∷ ys) e f =
          let z : item.Up y ∷ map item.Up ys ≡ item.Up next ∷ f.0 = sym e ∙ f.1 in
          let is : y ≡ next = cc in
          (ys, ap (λ (v : Up). v ∷ ys) is)

  -- a lane up that isn't empty is there
  inside : {X : Type 0} (u : List (List X)) (i : ℕ) (x : X) (rest : List X) → get_or u i [] ≡ x ∷ rest → i < length u
  inside {X} u i x rest f = by_place (nat_lt i (length u)) refl
    where
      by_place : (b : Bool) → nat_lt i (length u) ≡ b → i < length u
      by_place true t = grind (arith, t)
      by_place false t = let far : length u ≤ i = grind (arith, t) in let d : List X = [] in let z = get_or_past u i d far in absurd (cc)

  host_took : (c : Choice) (queue : ℕ) (next : Up) (rest : List Up) → is_talk_lane (up_lane queue) ≡ false → up_on w queue ≡ next ∷ rest → ((xs : List Up) → up_on w queue ≡ xs → case_of w (Chosen c) ≡ moves_or_idles w c (move.host_takes w queue xs))
      → Closes g w (does (parties_of w) (ByHost (HostCase.Takes queue next)))
  host_took c queue next rest plain f is =
      let i : queue < length w.up = inside w.up queue next rest f in
      IsOne (Chosen c) (moves_or_idles w c (move.host_takes w queue (next ∷ rest))) tt (is (next ∷ rest) f) refl
      (rw plain (ap (λ (zs : List Entry). entry.Take (up_lane queue) (item.Up next) ∷ zs) (quiet_kept _ (quiet_taken w.host queue next (why_strange w.host queue next)))))
      (same ∙ sym (length-set w.up queue rest))
      (λ l k. (behind l (g l) (entry.Take (up_lane queue) (item.Up next)) _ w.down (set w.up queue rest) w.out w.back (takes_up_asks l (g l) queue next rest w.down w.up w.out w.back (tied l k) f) (takes_up_next l (g l) queue next rest w.down w.up w.out w.back (tied l k) f i) (quiet_taken w.host queue next (why_strange w.host queue next))).tied)

  host_takes : (queue : ℕ) (next : Up) → LaneAsks (up_lane queue) (g (up_lane queue)) (entry.Take (up_lane queue) (item.Up next)) → Closes g w (does (parties_of w) (ByHost (HostCase.Takes queue next)))
  host_takes zero next asks =
      let f = first_up 0 next (up_on w 0) (tied lane.Up refl) asks in
      host_took choice.HostTake 0 next f.0 refl f.1 (λ xs e. ap (λ (ys : List Up). moves_or_idles w choice.HostTake (move.host_takes w 0 ys)) e)
  host_takes (suc queue) next asks =
      let f = first_up (suc queue) next (up_on w (suc queue)) (tied (lane.UpOn (suc queue)) refl) asks in
      host_took (choice.HostTakeOn (suc queue)) (suc queue) next f.0 refl f.1 (λ xs e. ap (λ (ys : List Up). moves_or_idles w (choice.HostTakeOn (suc queue)) (move.host_takes w (suc queue) ys)) e)

  -- talk
  talk_next : (l m : LaneName) (items : List Item) → is_talk_lane l ≡ false → is_talk_lane m ≡ true → same_lane m l ≡ false
  talk_next lane.Down (lane.Ask i) items k t = refl
  talk_next lane.Down (lane.Tell i) items k t = refl
  talk_next lane.Up (lane.Ask i) items k t = refl
  talk_next lane.Up (lane.Tell i) items k t = refl
  talk_next (lane.UpOn j) (lane.Ask i) items k t = refl
  talk_next (lane.UpOn j) (lane.Tell i) items k t = refl
  talk_next lane.Out (lane.Ask i) items k t = refl
  talk_next lane.Out (lane.Tell i) items k t = refl
  talk_next lane.Back (lane.Ask i) items k t = refl
  talk_next lane.Back (lane.Tell i) items k t = refl
  talk_next (lane.Ask j) m items k t = absurd (cc)
  talk_next (lane.Tell j) m items k t = absurd (cc)
  talk_next _ _ items k t = absurd (cc)

  talk_put : (m : LaneName) (x : Item) → is_talk_lane m ≡ true → Closes g w (record { part = parties_of w; entries = entry.Put m x ∷ [] })
  talk_put m x t =
      IsNone refl (rw t refl)
      (λ l k. subst (λ (b : Bool). (if b then g l ++ x ∷ [] else g l) ≡ lane_items l w.down w.up w.out w.back) (sym (talk_next l m (g l) k t)) (tied l k))

  talk_take : (m : LaneName) (x : Item) → is_talk_lane m ≡ true → Closes g w (record { part = parties_of w; entries = entry.Take m x ∷ [] })
  talk_take m x t =
      IsNone refl (rw t refl)
      (λ l k. subst (λ (b : Bool). (if b then Rattle.std.specs.Prelude.drop 1 (g l) else g l) ≡ lane_items l w.down w.up w.out w.back) (sym (talk_next l m (g l) k t)) (tied l k))

  -- ---- the controller

  -- what is first on another lane is what is taken
  first_down : (next : Down) (xs : List Down) → g lane.Down ≡ map item.Down xs → IsFirst (item.Down next) (g lane.Down) → (rest : List Down) × (xs ≡ next ∷ rest)
  first_down next [] e f = absurd (let z = sym e ∙ f.1 in cc)
  first_down next (y ∷ ys) e f =
      let z : item.Down y ∷ map item.Down ys ≡ item.Down next ∷ f.0 = sym e ∙ f.1 in
      let is : y ≡ next = cc in
      (ys, ap (λ (v : Down). v ∷ ys) is)

  first_back : (next : Back) (xs : List Back) → g lane.Back ≡ map item.Back xs → IsFirst (item.Back next) (g lane.Back) → (rest : List Back) × (xs ≡ next ∷ rest)
  first_back next [] e f = absurd (let z = sym e ∙ f.1 in cc)
  first_back next (y ∷ ys) e f =
      let z : item.Back y ∷ map item.Back ys ≡ item.Back next ∷ f.0 = sym e ∙ f.1 in
      let is : y ≡ next = cc in
      (ys, ap (λ (v : Back). v ∷ ys) is)

  first_out : (next : Out) (xs : List Out) → g lane.Out ≡ map item.Out xs → IsFirst (item.Out next) (g lane.Out) → (rest : List Out) × (xs ≡ next ∷ rest)
  first_out next [] e f = absurd (let z = sym e ∙ f.1 in cc)
  first_out next (y ∷ ys) e f =
      let z : item.Out y ∷ map item.Out ys ≡ item.Out next ∷ f.0 = sym e ∙ f.1 in
      let is : y ≡ next = cc in
      (ys, ap (λ (v : Out). v ∷ ys) is)

  ioc_takes : (next : Down) → IsFirst (item.Down next) (g lane.Down) → Closes g w (does (parties_of w) (ByIoc (TakesDown next)))
  ioc_takes next asks =
      let f = first_down next w.down (tied lane.Down refl) asks in
      IsOne (Chosen choice.IocTake) (moves_or_idles w choice.IocTake (move.ioc_takes w (next ∷ f.0))) tt (ap (λ (xs : List Down). moves_or_idles w choice.IocTake (move.ioc_takes w xs)) f.1) refl
      (ap (λ (zs : List Entry). entry.Take lane.Down (item.Down next) ∷ zs) (quiet_kept (takes_down w.ioc next).entries (quiet _ (told_down w.ioc next))))
      (sized.takes_down (length w.up) w.ioc next same)
      (λ l k.
      let e : g l ≡ lane_items l (next ∷ f.0) w.up w.out w.back = subst (λ (d : List Down). g l ≡ lane_items l d w.up w.out w.back) f.1 (tied l k) in
      (behind l (g l) (entry.Take lane.Down (item.Down next)) (takes_down w.ioc next).entries f.0 w.up w.out w.back (takes_down_asks l (g l) next f.0 w.up w.out w.back e) (takes_down_next l (g l) next f.0 w.up w.out w.back e) (quiet _ (told_down w.ioc next))).tied)

  ioc_takes_back : (next : Back) → IsFirst (item.Back next) (g lane.Back) → Closes g w (does (parties_of w) (ByIoc (TakesBack next)))
  ioc_takes_back next asks =
      let f = first_back next w.back (tied lane.Back refl) asks in
      IsOne (Chosen choice.IocBack) (moves_or_idles w choice.IocBack (move.ioc_takes_back w (next ∷ f.0))) tt (ap (λ (xs : List Back). moves_or_idles w choice.IocBack (move.ioc_takes_back w xs)) f.1) refl
      (ap (λ (zs : List Entry). entry.Take lane.Back (item.Back next) ∷ zs) (quiet_kept (takes_back w.ioc next).entries (quiet _ (told_back w.ioc next))))
      (sized.takes_back (length w.up) w.ioc next same)
      (λ l k.
      let e : g l ≡ lane_items l w.down w.up w.out (next ∷ f.0) = subst (λ (b : List Back). g l ≡ lane_items l w.down w.up w.out b) f.1 (tied l k) in
      (behind l (g l) (entry.Take lane.Back (item.Back next)) (takes_back w.ioc next).entries w.down w.up w.out f.0 (takes_back_asks l (g l) next f.0 w.down w.up w.out e) (takes_back_next l (g l) next f.0 w.down w.up w.out e) (quiet _ (told_back w.ioc next))).tied)

  ioc_works : (x : Choice) (called : Called Ioc Bool) → EachEntry IsQuiet called.told → length called.part.up ≡ length w.up → case_of w (Chosen x) ≡ moves_or_idles w x (move.ioc_works w called) → (b : Bool) → called.answer ≡ b
      → Closes g w (record { part = record (parties_of w) { ioc = (worked_if w.ioc b called.part called.told).part }; entries = (worked_if w.ioc b called.part called.told).entries })
  ioc_works x called still sizes is false e = nothing_done
  ioc_works x called still sizes is true e =
      IsOne (Chosen x) (moves_or_idles w x (move.ioc_worked w true called.part called.told)) tt (is ∙ ap (λ (b : Bool). moves_or_idles w x (move.ioc_worked w b called.part called.told)) e) refl (quiet_kept called.told still) sizes
      (λ l k. (by_quiet l (g l) called.told w.down w.up w.out w.back (tied l k) still).tied)

  ioc_puts_out : (o : Option Out) → front_out w.ioc ≡ o → Closes g w (record { part = record (parties_of w) { ioc = (puts_out w.ioc o).part }; entries = (puts_out w.ioc o).entries })
  ioc_puts_out None e = nothing_done
  ioc_puts_out (Some x) e =
      IsOne (Chosen choice.IocOut) (moves_or_idles w choice.IocOut (move.ioc_puts_out w (Some x))) tt (ap (λ (o : Option Out). moves_or_idles w choice.IocOut (move.ioc_puts_out w o)) e) refl refl same
      (λ l k. lane_out_put l (g l) x w.down w.up w.out w.back (tied l k))

  -- what is put up comes of an outbox that is there
  put_inside : (queue : ℕ) (xs : List Said) (free : Option ℕ) (z : Up) → outbox_of w.ioc queue ≡ xs → front_up_of (slice_get xs 0) free ≡ Some z → queue < length w.up
  put_inside queue [] free z f e = absurd (cc)
  put_inside queue (y ∷ rest) free z f e = let i = inside w.ioc.up queue y rest f in omega (arith, i, same)

  ioc_puts : (c : Choice) (queue : ℕ) (o : Option Up) → is_talk_lane (up_lane queue) ≡ false → front_up_on w.ioc queue ≡ o → ((o : Option Up) → front_up_on w.ioc queue ≡ o → case_of w (Chosen c) ≡ moves_or_idles w c (move.ioc_puts w queue o))
      → Closes g w (record { part = record (parties_of w) { ioc = (puts_up w.ioc queue o).part }; entries = (puts_up w.ioc queue o).entries })
  ioc_puts c queue None plain e is = nothing_done
  ioc_puts c queue (Some z) plain e is =
      let i : queue < length w.up = put_inside queue (outbox_of w.ioc queue) (slice_get w.ioc.ring 0) z refl e in
      IsOne (Chosen c) (moves_or_idles w c (move.ioc_puts w queue (Some z))) tt (is (Some z) e) refl (rw plain refl)
      (length-set w.ioc.up queue _ ∙ (same ∙ sym (length-set w.up queue _)))
      (λ l k. lane_up_put l (g l) queue z w.down w.up w.out w.back (tied l k) i)

  ioc_puts_up : (queue : ℕ) → Closes g w (does (parties_of w) (ByIoc (PutsUp queue)))
  ioc_puts_up zero = ioc_puts choice.IocPut 0 (front_up_on w.ioc 0) refl refl (λ o e. ap (λ (z : Option Up). moves_or_idles w choice.IocPut (move.ioc_puts w 0 z)) e)
  ioc_puts_up (suc queue) =
      ioc_puts (choice.IocPutOn (suc queue)) (suc queue) (front_up_on w.ioc (suc queue)) refl refl (λ o e. ap (λ (z : Option Up). moves_or_idles w (choice.IocPutOn (suc queue)) (move.ioc_puts w (suc queue) z)) e)

  -- ---- the fabric

  fabric_takes : (next : Out) → IsFirst (item.Out next) (g lane.Out) → Closes g w (does (parties_of w) (ByFabric (FabricCase.Takes next)))
  fabric_takes next asks =
      let f = first_out next w.out (tied lane.Out refl) asks in
      IsOne (Chosen choice.FabricTake) (moves_or_idles w choice.FabricTake (move.fabric_takes w (next ∷ f.0))) tt (ap (λ (xs : List Out). moves_or_idles w choice.FabricTake (move.fabric_takes w xs)) f.1) refl refl same
      (λ l k. takes_out_next l (g l) next f.0 w.down w.up w.back (subst (λ (o : List Out). g l ≡ lane_items l w.down w.up o w.back) f.1 (tied l k)))

  fabric_says : (o : Option Fabric) → announces w.fabric ≡ o → Closes g w (record { part = record (parties_of w) { fabric = (says_or_not w.fabric o).part }; entries = (says_or_not w.fabric o).entries })
  fabric_says None e = nothing_done
  fabric_says (Some f) e =
      IsOne (Chosen choice.FabricSay) (moves_or_idles w choice.FabricSay (move.fabric_says w (Some f))) tt (ap (λ (o : Option Fabric). moves_or_idles w choice.FabricSay (move.fabric_says w o)) e) refl refl same tied

  fabric_puts : (xs : List Back) → w.fabric.out ≡ xs → Closes g w (record { part = record (parties_of w) { fabric = (puts_back w.fabric xs).part }; entries = (puts_back w.fabric xs).entries })
  fabric_puts [] e = nothing_done
  fabric_puts (x ∷ rest) e =
      IsOne (Chosen choice.FabricPut) (moves_or_idles w choice.FabricPut (move.fabric_puts w (x ∷ rest))) tt (ap (λ (xs : List Back). moves_or_idles w choice.FabricPut (move.fabric_puts w xs)) e) refl refl same
      (λ l k. lane_back_put l (g l) x w.down w.up w.out w.back (tied l k))

  fabric_runs : (tag : ℕ) (o : Option ℕ) → (runs w.fabric tag).answer ≡ o → Closes g w (record { part = record (parties_of w) { fabric = (ran w.fabric tag o (runs w.fabric tag).part).part }; entries = (ran w.fabric tag o (runs w.fabric tag).part).entries })
  fabric_runs tag None e = nothing_done
  fabric_runs tag (Some address) e =
      IsOne (Chosen (choice.FabricRun tag)) (moves_or_idles w (choice.FabricRun tag) (move.fabric_ran w tag (Some address) (runs w.fabric tag).part)) tt
      (ap (λ (o : Option ℕ). moves_or_idles w (choice.FabricRun tag) (move.fabric_ran w tag o (runs w.fabric tag).part)) e) refl refl same tied

  fabric_told_one : (i : Input) → IsInput i → case_of w (Told i) ≡ record { part = record w { fabric = (fabric_told w.fabric i).part }; entries = (fabric_told w.fabric i).entries } → EachEntry IsQuiet (fabric_told w.fabric i).entries
      → Closes g w (does (parties_of w) (ByFabric (FabricCase.Told i)))
  fabric_told_one i given is still =
      IsOne (Told i) (record { part = record w { fabric = (fabric_told w.fabric i).part }; entries = (fabric_told w.fabric i).entries }) given is refl (quiet_kept (fabric_told w.fabric i).entries still) same
      (λ l k. (by_quiet l (g l) (fabric_told w.fabric i).entries w.down w.up w.out w.back (tied l k) still).tied)

  fabric_hears : (i : Input) → IsInput i → Closes g w (does (parties_of w) (ByFabric (FabricCase.Told i)))
  fabric_hears (input.Plug address expander phy) given =
      let o : Called Fabric (Option Rattle.mpt_rules.specs.Fabric.Calls.PlugRefusal) = fabric_plugs w.fabric address expander phy in
      fabric_told_one (input.Plug address expander phy) given refl (quiet _ (plugged (input.Plug address expander phy) (call.Plug address) o.answer o.part))
  fabric_hears (input.Unplug address) given =
      let o : Called Fabric (Option Rattle.mpt_rules.specs.Fabric.Calls.PlugRefusal) = fabric_unplugs w.fabric address in
      fabric_told_one (input.Unplug address) given refl (quiet _ (plugged (input.Unplug address) (call.Unplug address) o.answer o.part))
  fabric_hears _ given = nothing_done

  -- ---- all

  -- the first entry of a case is as the lanes ask
  abbrev pub Asks : List Entry → Type 0
  Asks es = (l : LaneName) → Passes (lane_next l) (LaneAsks l) (g l) es

  pub closes : (c : Open) → IsGiven c → Asks (does (parties_of w) c).entries → Closes g w (does (parties_of w) c)
  closes (ByHost (HostCase.Told i)) given asks = told i given
  closes (ByHost HostCase.Puts) given asks = host_puts w.host.out refl
  closes (ByHost (HostCase.Takes queue next)) given asks = host_takes queue next (asks (up_lane queue)).0
  closes (ByHost HostCase.Looks) given asks = IsOne HostLooks (case_of w HostLooks) tt refl refl refl same tied
  closes (ByHost HostCase.Stops) given asks = IsOne HostStops (case_of w HostStops) tt refl refl refl same tied
  closes (ByHost (HostCase.TakesAsk i x)) given asks = talk_take (lane.Ask i) (item.Ask x) refl
  closes (ByHost (HostCase.PutsTell i x)) given asks = talk_put (lane.Tell i) (item.Tell x) refl
  closes (ByIoc (TakesDown next)) given asks = ioc_takes next (asks lane.Down).0
  closes (ByIoc WorksHigh) given asks = ioc_works choice.IocHigh (steps_high w.ioc) (quiet _ (told_high w.ioc w.ioc.high)) (sized.steps_high (length w.up) w.ioc w.ioc.high same) refl (steps_high w.ioc).answer refl
  closes (ByIoc WorksNormal) given asks = ioc_works choice.IocNormal (steps_normal w.ioc) (quiet _ (told_normal w.ioc w.ioc.normal)) (sized.steps_normal (length w.up) w.ioc w.ioc.normal same) refl (steps_normal w.ioc).answer refl
  closes (ByIoc PutsOut) given asks = ioc_puts_out (front_out w.ioc) refl
  closes (ByIoc (TakesBack next)) given asks = ioc_takes_back next (asks lane.Back).0
  closes (ByIoc (PutsUp queue)) given asks = ioc_puts_up queue
  closes (ByFabric (FabricCase.Told i)) given asks = fabric_hears i given
  closes (ByFabric (FabricCase.Takes next)) given asks = fabric_takes next (asks lane.Out).0
  closes (ByFabric FabricCase.Says) given asks = fabric_says (announces w.fabric) refl
  closes (ByFabric FabricCase.Puts) given asks = fabric_puts w.fabric.out refl
  closes (ByFabric (FabricCase.Runs tag)) given asks = fabric_runs tag (runs w.fabric tag).answer refl
  closes (ByFabric FabricCase.Calms) given asks = IsOne FabricCalms (case_of w FabricCalms) tt refl refl refl same tied
  closes (BySubmitter i (PutsAsk x)) given asks = talk_put (lane.Ask i) (item.Ask x) refl
  closes (BySubmitter i (TakesTell x)) given asks = talk_take (lane.Tell i) (item.Tell x) refl
