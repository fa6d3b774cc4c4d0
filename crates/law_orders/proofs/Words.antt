-- Words on what is at the fabric of an identifier: states, items that have none of it, and lanes and outboxes that an item was taken from.
use Rattle.std.proofs.Common.{◌≡◌, ℕ, zero, suc, ◌+◌, ◌<◌, ◌≤◌, ◌==◌, nat_lt, not, Bool, true, false, List, [], ◌∷◌, ◌++◌, length, get_or, set, drop, map, filter_map, sum_by, Option, Some, None, is_some, option_map, refl, ap, ◌∙◌, arith}
use Rattle.std.specs.List.{cons_option, filter, find}
use Rattle.std.proofs.lemmas.List.{get_or_past, set_past}
use Rattle.std.proofs.lemmas.List.Sums.{sum_by-cons}
use Rattle.mpt_rules.specs.Ioc.Resets.{marked, outlives_reset}
use Rattle.law_flights.specs.Flights.{at_fabric}
use Rattle.smid_pool.specs.Pool.{Free, Open, Parked, Slot, is_open}
use Rattle.mpi_doorbell.specs.DoorRegisters.{is_fault}
use Rattle.mpi_doorbell.specs.declared.state.IocState.{IocState}
use Rattle.mpi_doorbell.specs.declared.state.IocState.TheVariants as ioc_state
use Rattle.mpt_trace.specs.declared.item.Back.{Back}
use Rattle.mpt_trace.specs.declared.item.Back.TheVariants as back
use Rattle.mpt_trace.specs.declared.item.Down.{Down}
use Rattle.mpt_trace.specs.declared.item.Down.TheVariants as down
use Rattle.mpt_trace.specs.declared.item.Out.{Out}
use Rattle.mpt_trace.specs.declared.item.Out.TheVariants as out
use Rattle.mpt_trace.specs.declared.item.Up.{Up}
use Rattle.mpt_rules.specs.declared.at_fabric.AtFabric.{AtFabric as Kept}
use Rattle.mpt_rules.specs.declared.at_fabric.AtFabric.TheVariants as at
use Rattle.mpt_rules.specs.declared.request.Request.{Request}
use Rattle.mpt_rules.specs.declared.said.Said.{Said}
use Rattle.mpt_rules.specs.declared.said.Said.TheVariants as said
use Rattle.mpt_rules.specs.Fabric.Calls as fab
use Rattle.mpt_rules.specs.Fabric.Disks.{plugged_news, plugged_there, stands_at}
use Rattle.mpt_rules.specs.Fabric.Parts.{Fabric, FabricDisk, Place}
use Rattle.mpt_rules.specs.Host.Parts.{Host}
use Rattle.mpt_rules.specs.Host.Returns.{after_sent}
use Rattle.mpt_rules.specs.Ioc.Places.{is_reply_of}
use Rattle.mpt_rules.specs.Ioc.Tables.{is_operational, is_ready, is_reset}
use Rattle.mpt_rules.specs.World.Counts.{how_many, one_if, reply_count}
use Rattle.mpt_rules.specs.World.FabricCounts as fc
use Rattle.mpt_rules.specs.World.FabricCounts.{abort_end_count, gone_count, link_count, linked_count, reset_end_count, result_count, sent_abort_count, sent_reset_count, sent_task_count, task_count, terminated_count}
use Rattle.mpt_rules.specs.World.Lines.{said_of}
use Rattle.mpt_rules.specs.World.PlaceCounts.{replies_on}
use Rattle.mpt_rules.specs.World.State.{World}
use Rattle.mpt_rules.proofs.Counts.{reply_count-append, reply_count-cons, reply_count-nil}
use Rattle.law_facts.specs.Flights.{abort_tokens, command_tokens, reset_tokens}
use Rattle.law_facts.specs.Words.{is_abort, is_bare, is_command, is_reply, is_stop, is_target_reset, others}
use Rattle.law_flights.proofs.Tables.{replied_to-set, said_to-set}
use Rattle.law_flights.specs.Flights.{replied_to, said_to}
use Rattle.law_moves.proofs.Counted.{how_many-cons, none_passes, others-cons, others-nil}

pub clash : {X : Type 0} (b : Bool) → b ≡ true → b ≡ false → X
clash true x y = absurd (cc)
clash false x y = absurd (cc)

-- ---- states

pub state_reset : (x : IocState) → is_reset x ≡ true → (is_operational x ≡ false) × (is_bare x ≡ true)
state_reset ioc_state.Reset e = (refl, refl)
state_reset ioc_state.Ready e = absurd (cc)
state_reset ioc_state.Operational e = absurd (cc)
state_reset (ioc_state.Fault code) e = absurd (cc)

pub state_ready : (x : IocState) → is_ready x ≡ true → (is_operational x ≡ false) × (is_reset x ≡ false) × (is_bare x ≡ true)
state_ready ioc_state.Ready e = (refl, refl, refl)
state_ready ioc_state.Reset e = absurd (cc)
state_ready ioc_state.Operational e = absurd (cc)
state_ready (ioc_state.Fault code) e = absurd (cc)

pub state_live : (x : IocState) → is_operational x ≡ true → is_reset x ≡ false
state_live ioc_state.Operational e = refl
state_live ioc_state.Reset e = absurd (cc)
state_live ioc_state.Ready e = absurd (cc)
state_live (ioc_state.Fault code) e = absurd (cc)

pub state_else : (x : IocState) → is_fault x ≡ false → is_bare x ≡ false → is_operational x ≡ true
state_else ioc_state.Operational f e = refl
state_else ioc_state.Reset f e = absurd (cc)
state_else ioc_state.Ready f e = absurd (cc)
state_else (ioc_state.Fault code) f e = absurd (cc)

-- a request is of one kind at most
pub one_kind : (o : Option Kept) → one_if (is_command o) + (one_if (is_abort o) + one_if (is_target_reset o)) ≤ 1
one_kind None = omega arith
one_kind (Some (at.Command handle queue len written)) = omega arith
one_kind (Some (at.Abort handle)) = omega arith
one_kind (Some (at.TargetReset handle)) = omega arith
one_kind (Some at.PortEnable) = omega arith

pub kind_some : (o : Option Kept) → 1 ≤ one_if (is_command o) + (one_if (is_abort o) + one_if (is_target_reset o)) → one_if (is_some o) ≡ 1
kind_some None l = absurd (omega (arith, l))
kind_some (Some r) l = refl

abbrev pub all_tokens : World → ℕ → ℕ
all_tokens v s = command_tokens v s + (abort_tokens v s + reset_tokens v s)

-- ---- what a notice, a calm word and a link are not

abbrev pub is_wordless : Back → Bool
is_wordless (back.Plugged address plug expander phy) = true
is_wordless (back.Unplugged address plug expander phy) = true
is_wordless back.Discovered = true
is_wordless (back.Linked generation) = true
is_wordless back.Calm = true
is_wordless _ = false

-- what the line back has of an identifier
abbrev pub ended_on : ℕ → List Back → ℕ
ended_on s xs = result_count s xs + (gone_count s xs + terminated_count s xs)

pub record NoWords (s : ℕ) (xs : List Back) : Type 0 where
  pub ends : ended_on s xs ≡ 0
  pub aborts : abort_end_count s xs ≡ 0
  pub resets : reset_end_count s xs ≡ 0

module _ (s : ℕ) where
  no_result : (x : Back) → is_wordless x ≡ true → fc.is_result_of s x ≡ false
  no_result (back.Result tag r) e = absurd (cc)
  no_result (back.Gone tag) e = refl
  no_result (back.Terminated tag) e = refl
  no_result (back.Aborted q found) e = refl
  no_result (back.Cleared q count) e = refl
  no_result (back.Plugged address plug expander phy) e = refl
  no_result (back.Unplugged address plug expander phy) e = refl
  no_result back.Discovered e = refl
  no_result (back.Linked generation) e = refl
  no_result back.Calm e = refl

  no_gone : (x : Back) → is_wordless x ≡ true → fc.is_gone_of s x ≡ false
  no_gone (back.Gone tag) e = absurd (cc)
  no_gone (back.Result tag r) e = refl
  no_gone (back.Terminated tag) e = refl
  no_gone (back.Aborted q found) e = refl
  no_gone (back.Cleared q count) e = refl
  no_gone (back.Plugged address plug expander phy) e = refl
  no_gone (back.Unplugged address plug expander phy) e = refl
  no_gone back.Discovered e = refl
  no_gone (back.Linked generation) e = refl
  no_gone back.Calm e = refl

  no_termination : (x : Back) → is_wordless x ≡ true → fc.is_termination_of s x ≡ false
  no_termination (back.Terminated tag) e = absurd (cc)
  no_termination (back.Result tag r) e = refl
  no_termination (back.Gone tag) e = refl
  no_termination (back.Aborted q found) e = refl
  no_termination (back.Cleared q count) e = refl
  no_termination (back.Plugged address plug expander phy) e = refl
  no_termination (back.Unplugged address plug expander phy) e = refl
  no_termination back.Discovered e = refl
  no_termination (back.Linked generation) e = refl
  no_termination back.Calm e = refl

  no_abort_end : (x : Back) → is_wordless x ≡ true → fc.is_abort_end_of s x ≡ false
  no_abort_end (back.Aborted q found) e = absurd (cc)
  no_abort_end (back.Result tag r) e = refl
  no_abort_end (back.Gone tag) e = refl
  no_abort_end (back.Terminated tag) e = refl
  no_abort_end (back.Cleared q count) e = refl
  no_abort_end (back.Plugged address plug expander phy) e = refl
  no_abort_end (back.Unplugged address plug expander phy) e = refl
  no_abort_end back.Discovered e = refl
  no_abort_end (back.Linked generation) e = refl
  no_abort_end back.Calm e = refl

  no_reset_end : (x : Back) → is_wordless x ≡ true → fc.is_reset_end_of s x ≡ false
  no_reset_end (back.Cleared q count) e = absurd (cc)
  no_reset_end (back.Result tag r) e = refl
  no_reset_end (back.Gone tag) e = refl
  no_reset_end (back.Terminated tag) e = refl
  no_reset_end (back.Aborted q found) e = refl
  no_reset_end (back.Plugged address plug expander phy) e = refl
  no_reset_end (back.Unplugged address plug expander phy) e = refl
  no_reset_end back.Discovered e = refl
  no_reset_end (back.Linked generation) e = refl
  no_reset_end back.Calm e = refl

  pub wordless : (xs : List Back) → others is_wordless xs ≡ 0 → NoWords s xs
  unfolding result_count gone_count terminated_count abort_end_count reset_end_count
  wordless xs z =
      let a = none_passes is_wordless (fc.is_result_of s) no_result xs z in
      let b = none_passes is_wordless (fc.is_gone_of s) no_gone xs z in
      let c = none_passes is_wordless (fc.is_termination_of s) no_termination xs z in
      record { ends = omega (arith, a, b, c); aborts = none_passes is_wordless (fc.is_abort_end_of s) no_abort_end xs z; resets = none_passes is_wordless (fc.is_reset_end_of s) no_reset_end xs z }

  pub one_wordless : (x : Back) → is_wordless x ≡ true → NoWords s (x ∷ [])
  one_wordless x e = let c = others-cons is_wordless x [] in let n = others-nil is_wordless in let o = ap (λ b. one_if (not b)) e in wordless (x ∷ []) (omega (arith, c, n, o))

  calm_wordless : (x : Back) → fab.is_calm x ≡ true → is_wordless x ≡ true
  calm_wordless back.Calm e = refl
  calm_wordless (back.Result tag r) e = absurd (cc)
  calm_wordless (back.Gone tag) e = absurd (cc)
  calm_wordless (back.Terminated tag) e = absurd (cc)
  calm_wordless (back.Aborted q found) e = absurd (cc)
  calm_wordless (back.Cleared q count) e = absurd (cc)
  calm_wordless (back.Plugged address plug expander phy) e = absurd (cc)
  calm_wordless (back.Unplugged address plug expander phy) e = absurd (cc)
  calm_wordless back.Discovered e = absurd (cc)
  calm_wordless (back.Linked generation) e = absurd (cc)

  pub calm_only : (xs : List Back) → others fab.is_calm xs ≡ 0 → NoWords s xs
  unfolding result_count gone_count terminated_count abort_end_count reset_end_count
  calm_only xs z =
      let a = none_passes fab.is_calm (fc.is_result_of s) (λ x e. no_result x (calm_wordless x e)) xs z in
      let b = none_passes fab.is_calm (fc.is_gone_of s) (λ x e. no_gone x (calm_wordless x e)) xs z in
      let c = none_passes fab.is_calm (fc.is_termination_of s) (λ x e. no_termination x (calm_wordless x e)) xs z in
      record { ends = omega (arith, a, b, c); aborts = none_passes fab.is_calm (fc.is_abort_end_of s) (λ x e. no_abort_end x (calm_wordless x e)) xs z; resets = none_passes fab.is_calm (fc.is_reset_end_of s) (λ x e. no_reset_end x (calm_wordless x e)) xs z }

  -- orders that aren't: the last word alone
  stop_no_task : (x : Out) → is_stop x ≡ true → fc.is_task_of s x ≡ false
  stop_no_task out.Stop e = refl
  stop_no_task (out.Task tag address command) e = absurd (cc)
  stop_no_task (out.Abort q task) e = absurd (cc)
  stop_no_task (out.TargetReset q address) e = absurd (cc)
  stop_no_task out.Discover e = absurd (cc)
  stop_no_task (out.Link generation) e = absurd (cc)

  stop_no_abort : (x : Out) → is_stop x ≡ true → fc.is_abort_by s x ≡ false
  stop_no_abort out.Stop e = refl
  stop_no_abort (out.Task tag address command) e = absurd (cc)
  stop_no_abort (out.Abort q task) e = absurd (cc)
  stop_no_abort (out.TargetReset q address) e = absurd (cc)
  stop_no_abort out.Discover e = absurd (cc)
  stop_no_abort (out.Link generation) e = absurd (cc)

  stop_no_reset : (x : Out) → is_stop x ≡ true → fc.is_reset_by s x ≡ false
  stop_no_reset out.Stop e = refl
  stop_no_reset (out.Task tag address command) e = absurd (cc)
  stop_no_reset (out.Abort q task) e = absurd (cc)
  stop_no_reset (out.TargetReset q address) e = absurd (cc)
  stop_no_reset out.Discover e = absurd (cc)
  stop_no_reset (out.Link generation) e = absurd (cc)

  pub record NoOrders (xs : List Out) : Type 0 where
    pub tasks : sent_task_count s xs ≡ 0
    pub aborts : sent_abort_count s xs ≡ 0
    pub resets : sent_reset_count s xs ≡ 0

  pub stopped : (xs : List Out) → others is_stop xs ≡ 0 → NoOrders xs
  unfolding sent_task_count sent_abort_count sent_reset_count
  stopped xs z = record { tasks = none_passes is_stop (fc.is_task_of s) stop_no_task xs z; aborts = none_passes is_stop (fc.is_abort_by s) stop_no_abort xs z; resets = none_passes is_stop (fc.is_reset_by s) stop_no_reset xs z }

-- the disks that are named
pub plugged_wordless : (g : Fabric) (ps : List Place) → others is_wordless (filter_map (plugged_there g) ps) ≡ 0
plugged_wordless g [] = others-nil is_wordless
plugged_wordless g (p ∷ ps) = by_disk (find (stands_at p.expander p.phy) g.disks) (plugged_wordless g ps)
  where
    by_disk : (o : Option FabricDisk) → others is_wordless (filter_map (plugged_there g) ps) ≡ 0 → others is_wordless (cons_option (option_map (λ disk. plugged_news disk p) o) (filter_map (plugged_there g) ps)) ≡ 0
    by_disk None z = z
    by_disk (Some d) z = let a = others-cons is_wordless (plugged_news d p) (filter_map (plugged_there g) ps) in omega (arith, a, z)

-- ---- a lane that an item was taken from

pub lanes_taken : (s : ℕ) (lanes : List (List Up)) (queue : ℕ) (x : Up) (rest : List Up) → get_or lanes queue [] ≡ x ∷ rest → sum_by (replies_on s) lanes ≡ 0 → (one_if (is_reply_of s (said_of x)) ≡ 0) × (sum_by (replies_on s) (set lanes queue rest) ≡ 0)
unfolding replied_to
lanes_taken s lanes queue x rest e z = by_place (nat_lt queue (length lanes)) refl
  where
    here : queue < length lanes → (one_if (is_reply_of s (said_of x)) ≡ 0) × (sum_by (replies_on s) (set lanes queue rest) ≡ 0)
    here l =
        let a = replied_to-set s queue lanes rest l in
        let b = ap (replies_on s) e in
        let c = reply_count-cons s (said_of x) (map said_of rest) in
        (omega (arith, a, b, c, z), omega (arith, a, b, c, z))

    by_place : (b : Bool) → nat_lt queue (length lanes) ≡ b → (one_if (is_reply_of s (said_of x)) ≡ 0) × (sum_by (replies_on s) (set lanes queue rest) ≡ 0)
    by_place true t = here (grind (arith, t))
    by_place false t = let m : length lanes ≤ queue = grind (arith, t) in let q = get_or_past lanes queue [] m in absurd (cc)

pub lane_put : (s : ℕ) (lanes : List (List Up)) (queue : ℕ) (z : Up) → queue < length lanes → is_reply_of s (said_of z) ≡ false → sum_by (replies_on s) lanes ≡ 0 → sum_by (replies_on s) (set lanes queue (get_or lanes queue [] ++ z ∷ [])) ≡ 0
unfolding replied_to
lane_put s lanes queue z l k e =
    let a = replied_to-set s queue lanes (get_or lanes queue [] ++ z ∷ []) l in
    let b = more (get_or lanes queue []) in
    omega (arith, a, b, e)
  where
    more : (xs : List Up) → replies_on s (xs ++ z ∷ []) ≡ replies_on s xs
    more [] = let c = reply_count-cons s (said_of z) [] in let o = ap one_if k in omega (arith, c, o)
    more (x ∷ xs) = let c = reply_count-cons s (said_of x) (map said_of (xs ++ z ∷ [])) in let d = reply_count-cons s (said_of x) (map said_of xs) in let h = more xs in omega (arith, c, d, h)

pub outbox_taken : (s : ℕ) (boxes : List (List Said)) (queue : ℕ) (y : Said) (rest : List Said) → get_or boxes queue [] ≡ y ∷ rest → sum_by (reply_count s) boxes ≡ 0 → sum_by (reply_count s) (set boxes queue (drop 1 (get_or boxes queue []))) ≡ 0
unfolding said_to
outbox_taken s boxes queue y rest e z = by_place (nat_lt queue (length boxes)) refl
  where
    here : queue < length boxes → sum_by (reply_count s) (set boxes queue (drop 1 (get_or boxes queue []))) ≡ 0
    here l =
        let a = said_to-set s queue boxes (drop 1 (get_or boxes queue [])) l in
        let b = ap (reply_count s) e in
        let c = reply_count-cons s y rest in
        let d = ap (λ xs. reply_count s (drop 1 xs)) e in
        omega (arith, a, b, c, d, z)

    by_place : (b : Bool) → nat_lt queue (length boxes) ≡ b → sum_by (reply_count s) (set boxes queue (drop 1 (get_or boxes queue []))) ≡ 0
    by_place true t = here (grind (arith, t))
    by_place false t = let m : length boxes ≤ queue = grind (arith, t) in let q = get_or_past boxes queue [] m in absurd (cc)

pub outbox_said : (s : ℕ) (boxes : List (List Said)) (queue : ℕ) (y : Said) → is_reply_of s y ≡ false → sum_by (reply_count s) boxes ≡ 0 → sum_by (reply_count s) (set boxes queue (get_or boxes queue [] ++ y ∷ [])) ≡ 0
unfolding said_to
outbox_said s boxes queue y k z = by_place (nat_lt queue (length boxes)) refl
  where
    more : (xs : List Said) → reply_count s (xs ++ y ∷ []) ≡ reply_count s xs
    more [] = let c = reply_count-cons s y [] in let o = ap one_if k in omega (arith, c, o)
    more (x ∷ xs) = let c = reply_count-cons s x (xs ++ y ∷ []) in let d = reply_count-cons s x xs in let h = more xs in omega (arith, c, d, h)

    here : queue < length boxes → sum_by (reply_count s) (set boxes queue (get_or boxes queue [] ++ y ∷ [])) ≡ 0
    here l =
        let a = said_to-set s queue boxes (get_or boxes queue [] ++ y ∷ []) l in
        let b = more (get_or boxes queue []) in
        omega (arith, a, b, z)

    by_place : (b : Bool) → nat_lt queue (length boxes) ≡ b → sum_by (reply_count s) (set boxes queue (get_or boxes queue [] ++ y ∷ [])) ≡ 0
    by_place true t = here (grind (arith, t))
    by_place false t = let m : length boxes ≤ queue = grind (arith, t) in ap (sum_by (reply_count s)) (set_past boxes queue (get_or boxes queue [] ++ y ∷ []) m) ∙ z

pub sent_pool : (h : Host) (x : Down) (rest : List Down) → ((after_sent h x rest).pool ≡ h.pool) × ((after_sent h x rest).out ≡ rest)
sent_pool h (down.Return address index) rest = (refl, refl)
sent_pool h (down.Write reg value) rest = (refl, refl)
sent_pool h (down.Read reg) rest = (refl, refl)
sent_pool h (down.Post d g p) rest = (refl, refl)
sent_pool h down.Stop rest = (refl, refl)

pub reply_reply : (s : ℕ) (x : Said) → is_reply_of s x ≡ true → is_reply x ≡ true
reply_reply s (said.Success q page sense) e = refl
reply_reply s (said.Framed q frame page sense) e = refl
reply_reply s (said.Value v) e = absurd (cc)
reply_reply s (said.Mark g) e = absurd (cc)
reply_reply s said.Calm e = absurd (cc)

pub open_of : (o : Slot Request) → one_if (not (is_open o)) ≡ 0 → (r : Request) × (o ≡ Open r)
open_of (Open r) z = (r, refl)
open_of Free z = absurd (omega (arith, z))
open_of Parked z = absurd (omega (arith, z))

pub flip : (a b : ℕ) → (a == b) ≡ false → (b == a) ≡ false
flip a b e = grind (arith, e)

-- ---- a reset leaves no reply

outlives_none : (q : ℕ) (xs : List Said) → reply_count q (filter outlives_reset xs) ≡ 0
outlives_none q [] = reply_count-nil q
outlives_none q (said.Value value ∷ xs) = let c = reply_count-cons q (said.Value value) (filter outlives_reset xs) in let h = outlives_none q xs in omega (arith, c, h)
outlives_none q (said.Success smid page sense ∷ xs) = outlives_none q xs
outlives_none q (said.Framed smid frame page sense ∷ xs) = outlives_none q xs
outlives_none q (said.Mark generation ∷ xs) = outlives_none q xs
outlives_none q (said.Calm ∷ xs) = let c = reply_count-cons q said.Calm (filter outlives_reset xs) in let h = outlives_none q xs in omega (arith, c, h)

marked_none : (q g : ℕ) (xs : List (List Said)) → sum_by (reply_count q) (map (λ outbox. outbox ++ said.Mark g ∷ []) (map (filter outlives_reset) xs)) ≡ 0
marked_none q g [] = refl
marked_none q g (x ∷ xs) =
    let c = sum_by-cons (reply_count q) (filter outlives_reset x ++ said.Mark g ∷ []) (map (λ outbox. outbox ++ said.Mark g ∷ []) (map (filter outlives_reset) xs)) in
    let a = reply_count-append q (filter outlives_reset x) (said.Mark g ∷ []) in
    let m = reply_count-cons q (said.Mark g) [] in
    let n = reply_count-nil q in
    let z = outlives_none q x in
    let h = marked_none q g xs in
    omega (arith, c, a, m, n, z, h)

pub reset_said : (q g : ℕ) (xs : List (List Said)) → sum_by (reply_count q) (marked g (map (filter outlives_reset) xs)) ≡ 0
reset_said q g [] = refl
reset_said q g (x ∷ xs) =
    let c = sum_by-cons (reply_count q) (filter outlives_reset x) (map (λ outbox. outbox ++ said.Mark g ∷ []) (map (filter outlives_reset) xs)) in
    let z = outlives_none q x in
    let h = marked_none q g xs in
    omega (arith, c, z, h)

-- ---- a table where none is something

pub none_kept : (requests : List (Option Kept)) (s : ℕ) → how_many is_some requests ≡ 0 → at_fabric requests s ≡ None
none_kept requests zero z = refl
none_kept requests (suc i) z = by_list requests i z
  where
    nothing : (o : Option Kept) → one_if (is_some o) ≡ 0 → o ≡ None
    nothing None z = refl
    nothing (Some r) z = absurd (omega (arith, z))

    by_list : (xs : List (Option Kept)) (i : ℕ) → how_many is_some xs ≡ 0 → get_or xs i None ≡ None
    by_list [] i z = refl
    by_list (x ∷ xs) zero z = let c = how_many-cons is_some x xs in nothing x (omega (arith, c, z))
    by_list (x ∷ xs) (suc i) z = let c = how_many-cons is_some x xs in by_list xs i (omega (arith, c, z))

pub nothing_kept : (o : Option Kept) → one_if (is_some o) ≡ 0 → o ≡ None
nothing_kept None z = refl
nothing_kept (Some r) z = absurd (omega (arith, z))

pub same_is : (n : ℕ) → (n == n) ≡ true
same_is n = grind arith

pub below : (i n : ℕ) → nat_lt i n ≡ true → i < n
below i n t = grind (arith, t)

pub above : (i n : ℕ) → nat_lt i n ≡ false → n ≤ i
above i n t = grind (arith, t)
