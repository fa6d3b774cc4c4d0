-- Each reply that is put on a lane up has the descriptor of its kind, whatever else happens.
use Rattle.std.proofs.Common.{◌≡◌, ℕ, zero, suc, ◌+◌, ◌*◌, ◌<◌, ◌≤◌, ◌==◌, ◌%◌, ◌^◌, nat_lt, not, Bool, true, false, List, [], ◌∷◌, ◌++◌, length, get_or, set, replicate, slice_get, Option, Some, None, refl, ap, ◌∙◌, subst, arith}
use Rattle.std.specs.List.{sum_by}
use Rattle.std.proofs.lemmas.List.{set_past}
use Rattle.std.proofs.lemmas.List.Sums.{sum_by-cons, sum_by-set}
use Rattle.mpt_trace.specs.declared.choice.Choice.{Choice}
use Rattle.mpt_trace.specs.declared.choice.Choice.TheVariants as choice
use Rattle.mpt_trace.specs.declared.input.Input.{Input}
use Rattle.mpt_trace.specs.declared.input.Input.TheVariants as input
use Rattle.mpt_trace.specs.declared.item.Down.{Down}
use Rattle.mpt_trace.specs.declared.item.Up.{Up}
use Rattle.mpt_trace.specs.declared.item.Up.TheVariants as up
use Rattle.mpt_trace.specs.declared.item.Out.{Out}
use Rattle.mpt_trace.specs.declared.item.Back.{Back}
use Rattle.mpt_rules.specs.declared.said.Said.{Said}
use Rattle.mpt_rules.specs.declared.said.Said.TheVariants as said
use Rattle.mpt_rules.specs.Outcome.{Called, Happening}
use Rattle.mpt_rules.specs.Fabric.Calls as fab
use Rattle.mpt_rules.specs.Fabric.Parts.{Fabric}
use Rattle.mpt_rules.specs.Ioc.Parts.{Ioc}
use Rattle.mpt_rules.specs.Ioc.Sending.{front_up_of, front_up_on, up_of}
use Rattle.mpt_rules.specs.Ioc.Replies.{outbox_of}
use Rattle.mpt_rules.specs.Ioc.Steps as step
use Rattle.mpt_rules.specs.Ioc.Sending as sending
use Rattle.mpt_rules.specs.World.Cases.{Case, Told, Chosen, HostLooks, HostStops, FabricCalms, happens, moves_or_idles, run}
use Rattle.mpt_rules.specs.World.Counts.{one_if}
use Rattle.mpt_rules.specs.World.Moves as move
use Rattle.mpt_rules.specs.World.Settings.{Setting, first_world}
use Rattle.mpt_rules.specs.World.State.{World, up_on}
use Rattle.mpt_wire.specs.Messages.Fields.{address_descriptor, address_flags, reply_frame_address, success_descriptor, success_flags}
use Rattle.law_facts.specs.Words.{others}
use Rattle.law_moves.proofs.Counted.{others-append, others-cons, others-nil}
use Rattle.law_says.specs.Premises.{DescriptorsStand, has_its_flags}

-- ---- what is put

flags_of_success : (s : ℕ) → (0 + s * 2 ^ 16 + s * 2 ^ 32) % 2 ^ 8 ≡ 0
flags_of_success s = omega arith

flags_of_address : (s a : ℕ) → (1 + s * 2 ^ 16 + a * 2 ^ 32) % 2 ^ 8 ≡ 1
flags_of_address s a = omega arith

put_right : (y : Said) (free : Option ℕ) (z : Up) → up_of y free ≡ Some z → has_its_flags z ≡ true
put_right (said.Value value) free z e = let q : up.Value value ≡ z = cc in subst (λ x. has_its_flags x ≡ true) q refl
put_right (said.Mark generation) free z e = let q : up.Mark generation ≡ z = cc in subst (λ x. has_its_flags x ≡ true) q refl
put_right said.Calm free z e = let q : up.Calm ≡ z = cc in subst (λ x. has_its_flags x ≡ true) q refl
put_right (said.Success smid page sense) free z e =
    let q : up.Reply (success_descriptor smid) None page sense ≡ z = cc in
    subst (λ x. has_its_flags x ≡ true) q (ap (λ n. n == success_flags) (flags_of_success smid))
put_right (said.Framed smid frame page sense) None z e = absurd (cc)
put_right (said.Framed smid frame page sense) (Some f) z e =
    let q : up.Reply (address_descriptor smid (reply_frame_address f)) (Some frame) page sense ≡ z = cc in
    subst (λ x. has_its_flags x ≡ true) q (ap (λ n. n == address_flags) (flags_of_address smid (reply_frame_address f)))

-- ---- lanes

abbrev Stand : List (List Up) → Type 0
Stand lanes = sum_by (others has_its_flags) lanes ≡ 0

set_stands : (lanes : List (List Up)) (i : ℕ) (items : List Up) → Stand lanes → others has_its_flags items ≤ others has_its_flags (get_or lanes i []) → Stand (set lanes i items)
set_stands lanes i items z l = by_place (nat_lt i (length lanes)) refl
  where
    by_place : (b : Bool) → nat_lt i (length lanes) ≡ b → Stand (set lanes i items)
    by_place true t =
        let m : i < length lanes = grind (arith, t) in
        let s = sum_by-set (others has_its_flags) lanes i items [] m in
        omega (arith, s, z, l)
    by_place false t = ap (sum_by (others has_its_flags)) (set_past lanes i items (grind (arith, t))) ∙ z

taken : (lanes : List (List Up)) (i : ℕ) (x : Up) (rest : List Up) → get_or lanes i [] ≡ x ∷ rest → Stand lanes → Stand (set lanes i rest)
taken lanes i x rest e z =
    let c = ap (others has_its_flags) e ∙ others-cons has_its_flags x rest in
    set_stands lanes i rest z (omega (arith, c))

more : (lanes : List (List Up)) (i : ℕ) (x : Up) → has_its_flags x ≡ true → Stand lanes → Stand (set lanes i (get_or lanes i [] ++ x ∷ []))
more lanes i x t z =
    let a = others-append has_its_flags (get_or lanes i []) (x ∷ []) in
    let c = others-cons has_its_flags x [] in
    let n = others-nil has_its_flags in
    let o : one_if (not (has_its_flags x)) ≡ 0 = ap (λ b. one_if (not b)) t in
    set_stands lanes i (get_or lanes i [] ++ x ∷ []) z (omega (arith, a, c, n, o))

none_at_first : (q : ℕ) → Stand (replicate q [])
none_at_first zero = refl
none_at_first (suc q) = let c = sum_by-cons (others has_its_flags) [] (replicate q []) in let n = others-nil has_its_flags in let h = none_at_first q in omega (arith, c, n, h)

-- ---- each case

module _ (w : World) (z : DescriptorsStand w) where
  abbrev Kept : Happening World → Type 0
  Kept o = Stand o.part.up

  host_put : (xs : List Down) → Kept (moves_or_idles w choice.HostPut (move.host_puts w xs))
  host_put [] = z
  host_put (x ∷ rest) = z

  host_take : (c : Choice) (i : ℕ) (xs : List Up) → up_on w i ≡ xs → Kept (moves_or_idles w c (move.host_takes w i xs))
  host_take c i [] e = z
  host_take c i (x ∷ rest) e = taken w.up i x rest e z

  take_above : (i : ℕ) → Kept (moves_or_idles w (choice.HostTakeOn i) (move.host_takes_above w i))
  take_above zero = z
  take_above (suc i) = host_take (choice.HostTakeOn (suc i)) (suc i) (up_on w (suc i)) refl

  ioc_take : (xs : List Down) → Kept (moves_or_idles w choice.IocTake (move.ioc_takes w xs))
  ioc_take [] = z
  ioc_take (x ∷ rest) = z

  worked : (c : Choice) (b : Bool) (called : Called Ioc Bool) → called.answer ≡ b → Kept (moves_or_idles w c (move.ioc_worked w b called.part called.told))
  worked c true called e = z
  worked c false called e = z

  out_put : (o : Option Out) → Kept (moves_or_idles w choice.IocOut (move.ioc_puts_out w o))
  out_put None = z
  out_put (Some x) = z

  back_take : (xs : List Back) → Kept (moves_or_idles w choice.IocBack (move.ioc_takes_back w xs))
  back_take [] = z
  back_take (x ∷ rest) = z

  front_right : (xs : List Said) (free : Option ℕ) (x : Up) → front_up_of (slice_get xs 0) free ≡ Some x → has_its_flags x ≡ true
  front_right [] free x e = absurd (cc)
  front_right (y ∷ ys) free x e = put_right y free x e

  up_put : (c : Choice) (i : ℕ) (o : Option Up) → front_up_on w.ioc i ≡ o → Kept (moves_or_idles w c (move.ioc_puts w i o))
  up_put c i None e = z
  up_put c i (Some x) e = more w.up i x (front_right (outbox_of w.ioc i) (slice_get w.ioc.ring 0) x e) z

  put_above : (i : ℕ) → Kept (moves_or_idles w (choice.IocPutOn i) (move.ioc_puts_above w i))
  put_above zero = z
  put_above (suc i) = up_put (choice.IocPutOn (suc i)) (suc i) (front_up_on w.ioc (suc i)) refl

  out_take : (xs : List Out) → Kept (moves_or_idles w choice.FabricTake (move.fabric_takes w xs))
  out_take [] = z
  out_take (x ∷ rest) = z

  say : (o : Option Fabric) → Kept (moves_or_idles w choice.FabricSay (move.fabric_says w o))
  say None = z
  say (Some x) = z

  back_put : (xs : List Back) → Kept (moves_or_idles w choice.FabricPut (move.fabric_puts w xs))
  back_put [] = z
  back_put (x ∷ rest) = z

  ran : (tag : ℕ) (o : Option ℕ) → Kept (moves_or_idles w (choice.FabricRun tag) (move.fabric_ran w tag o (fab.runs w.fabric tag).part))
  ran tag None = z
  ran tag (Some address) = z

  chosen : (c : Choice) → Kept (moves_or_idles w c (move.moves w c))
  chosen choice.HostPut = host_put w.host.out
  chosen choice.HostTake = host_take choice.HostTake 0 (up_on w 0) refl
  chosen (choice.HostTakeOn i) = take_above i
  chosen choice.IocTake = ioc_take w.down
  chosen choice.IocHigh = worked choice.IocHigh (step.steps_high w.ioc).answer (step.steps_high w.ioc) refl
  chosen choice.IocNormal = worked choice.IocNormal (step.steps_normal w.ioc).answer (step.steps_normal w.ioc) refl
  chosen choice.IocOut = out_put (sending.front_out w.ioc)
  chosen choice.IocBack = back_take w.back
  chosen choice.IocPut = up_put choice.IocPut 0 (front_up_on w.ioc 0) refl
  chosen (choice.IocPutOn i) = put_above i
  chosen choice.FabricTake = out_take w.out
  chosen choice.FabricSay = say (fab.announces w.fabric)
  chosen choice.FabricPut = back_put w.fabric.out
  chosen (choice.FabricRun tag) = ran tag (fab.runs w.fabric tag).answer

  told : (i : Input) → Stand (happens w (Told i)).up
  told (input.Plug address expander phy) = z
  told (input.Unplug address) = z
  told input.Start = z
  told (input.Submit n address form) = z
  told (input.Abort n) = z
  told (input.TargetReset address) = z
  told input.Reset = z
  told input.UnitReset = z

  pub descriptors_kept : (c : Case) → DescriptorsStand (happens w c)
  descriptors_kept (Told i) = told i
  descriptors_kept (Chosen c) = chosen c
  descriptors_kept HostLooks = z
  descriptors_kept HostStops = z
  descriptors_kept FabricCalms = z

pub descriptors_at_first : (s : Setting) → DescriptorsStand (first_world s)
descriptors_at_first s = none_at_first s.queues

descriptors_behind : (w : World) (cases : List Case) → DescriptorsStand w → DescriptorsStand (run w cases)
descriptors_behind w [] z = z
descriptors_behind w (c ∷ cases) z = descriptors_behind (happens w c) cases (descriptors_kept w z c)

pub descriptors_of_every_world : (s : Setting) (cases : List Case) → DescriptorsStand (run (first_world s) cases)
descriptors_of_every_world s cases = descriptors_behind (first_world s) cases (descriptors_at_first s)
