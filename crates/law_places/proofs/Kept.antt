-- Behind any case, of a world of which all facts hold: identifiers and reply frames have their places, and the turns of these.
use Rattle.std.proofs.Common.{◌≡◌, ◌≢◌, ℕ, zero, suc, ◌%◌, ◌≤◌, ◌==◌, nat_le, Bool, true, false, not, if◌then◌else◌, List, [], ◌∷◌, Option, Some, None, refl, ap, sym, ◌∙◌, subst, arith}
use Rattle.mpi_rings.specs.declared.request_descriptor.PostKind.{PostKind}
use Rattle.mpi_rings.specs.declared.request_descriptor.PostKind.TheVariants as post
use Rattle.mpt_wire.specs.Messages.Fields.{flags_in, kind_in, reply_frame_address, smid_in}
use Rattle.mpt_wire.specs.Queues.Frames.{frame_stage}
use Rattle.mpt_wire.specs.Queues.Identifiers.{smid_stage}
use Rattle.mpt_wire.specs.Walks.Cycles.{TurnAsks, turn_next}
use Rattle.mpt_wire.specs.Walks.Passes.{Passes, state_after}
use Rattle.mpt_rules.specs.declared.post.Post.{Post}
use Rattle.mpt_rules.specs.Host.Parts.{host_queue_count}
use Rattle.mpt_rules.specs.Host.Returns.{frame_of, is_frame_address}
use Rattle.mpt_rules.specs.Law.{NothingIsStrange}
use Rattle.mpt_rules.specs.World.Cases.{Case, entries, happens}
use Rattle.mpt_rules.specs.World.Counts.{how_many, one_if}
use Rattle.mpt_rules.specs.World.Lines.{is_high}
use Rattle.mpt_rules.specs.World.State.{World}
use Rattle.law_facts.specs.Facts.{Facts}
use Rattle.law_facts.specs.Flights.{QueuesSorted, turn_at}
use Rattle.law_facts.specs.History.{History, history_after}
use Rattle.law_facts.specs.Words.{others}
use Rattle.law_flights.proofs.IocCarries.{is_placed, strays, strays-cons}
use Rattle.law_flights.proofs.Standing.{Steps, next}
use Rattle.law_flights.proofs.World as world
use Rattle.law_frames.proofs.FrameHolds.{address_is}
use Rattle.law_frames.proofs.FramesKept as of_frames
use Rattle.law_frames.proofs.Kept as frames
use Rattle.law_frames.proofs.Premises.{asks}
use Rattle.law_moves.proofs.Counted.{how_many-cons, how_many-nil, others-cons, others-nil}
use Rattle.law_sizes.proofs.SizesKept.{sizes_kept}
use Rattle.law_places.specs.Further.{VectorsFit}
use Rattle.law_places.specs.Shown.{FramesAreNamed, IsPlaced, ShownPlaces, TurnsKept}
use Rattle.law_places.proofs.Premises.{frames_before, given}
use Rattle.law_places.proofs.Silent.{far_passes, other_passes}
use Rattle.law_places.proofs.Standing.{all_stand, same_count, same_turn, stands, turn_now}

-- ---- sorted queues

placed_is_high : (d : ℕ) (o : Option PostKind) (s : ℕ) → kind_in d ≡ o → is_placed true o s ≡ true → is_high d ≡ true
placed_is_high d o s e p = by_tests (flags_in d == 0) (flags_in d == 6) (flags_in d == 8) refl (e) p
  where
    by_tests : (a b c : Bool) → (flags_in d == 6) ≡ b → (if a then Some post.ScsiIo else if b then Some post.HighPriority else if c then Some post.Default else None) ≡ o → is_placed true o s ≡ true → b ≡ true
    by_tests a true c x e p = refl
    by_tests true false c x e p = let z : false ≡ true = ap (λ k. is_placed true k s) e ∙ p in absurd (cc)
    by_tests false false true x e p = let z : false ≡ true = ap (λ k. is_placed true k s) e ∙ p in absurd (cc)
    by_tests false false false x e p = let z : false ≡ true = ap (λ k. is_placed true k s) e ∙ p in absurd (cc)

placed_is_low : (d : ℕ) (o : Option PostKind) (s : ℕ) → kind_in d ≡ o → is_placed false o s ≡ true → is_high d ≡ false
placed_is_low d o s e p = by_tests (flags_in d == 0) (flags_in d == 6) (flags_in d == 8) refl refl e p
  where
    apart : (n : ℕ) → (n == 0) ≡ true → (n == 6) ≡ false
    apart n e = grind (arith, e)

    by_tests : (a b c : Bool) → (flags_in d == 0) ≡ a → (flags_in d == 6) ≡ b → (if a then Some post.ScsiIo else if b then Some post.HighPriority else if c then Some post.Default else None) ≡ o → is_placed false o s ≡ true → b ≡ false
    by_tests a false c y x e p = refl
    by_tests true true c y x e p = let z : true ≡ false = sym x ∙ apart (flags_in d) y in absurd (cc)
    by_tests false true c y x e p = let z : false ≡ true = ap (λ k. is_placed false k s) e ∙ p in absurd (cc)

placed_of : (b : Bool) → one_if (not b) ≡ 0 → b ≡ true
placed_of true z = refl
placed_of false z = absurd (omega (arith, z))

all_high : (ps : List Post) → strays true ps ≡ 0 → others (λ (p : Post). is_high p.descriptor) ps ≡ 0
all_high [] z = others-nil (λ (p : Post). is_high p.descriptor)
all_high (p ∷ ps) z =
    let c = strays-cons true p ps in
    let o = others-cons (λ (p : Post). is_high p.descriptor) p ps in
    let r = all_high ps (omega (arith, z, c)) in
    let g = placed_is_high p.descriptor (kind_in p.descriptor) (smid_in p.descriptor) refl (placed_of (is_placed true (kind_in p.descriptor) (smid_in p.descriptor)) (omega (arith, z, c))) in
    let y : one_if (not (is_high p.descriptor)) ≡ 0 = ap (λ b. one_if (not b)) g in
    omega (arith, o, r, y)

none_high : (ps : List Post) → strays false ps ≡ 0 → how_many (λ (p : Post). is_high p.descriptor) ps ≡ 0
none_high [] z = how_many-nil (λ (p : Post). is_high p.descriptor)
none_high (p ∷ ps) z =
    let c = strays-cons false p ps in
    let o = how_many-cons (λ (p : Post). is_high p.descriptor) p ps in
    let r = none_high ps (omega (arith, z, c)) in
    let g = placed_is_low p.descriptor (kind_in p.descriptor) (smid_in p.descriptor) refl (placed_of (is_placed false (kind_in p.descriptor) (smid_in p.descriptor)) (omega (arith, z, c))) in
    let y : one_if (is_high p.descriptor) ≡ 0 = ap one_if g in
    omega (arith, o, r, y)

module _ (w : World) (h : History) (f : Facts w h) (plain : NothingIsStrange w) (vectors : VectorsFit w) (c : Case) where
  -- ---- identifiers

  pub stepped : (s : ℕ) → 1 ≤ s → Steps s (host_queue_count w.host) (turn_now h s) (entries w c) (happens w c).host (happens w c).ioc (happens w c).down (happens w c).up
  stepped s l = world.steps (host_queue_count w.host) f.flights.sizes.some_queue f.flights.sizes.few_queues s (turn_now h s) l w (given w h f plain) (all_stand w h f vectors) (stands w h f vectors s l) c

  now : (s : ℕ) → s ≤ 280 → turn_now h s ≡ h.turn s
  now s m = ap (λ b. if b then h.turn s else 0) (small s m)
    where
      small : (s : ℕ) → s ≤ 280 → nat_le s 280 ≡ true
      small s m = grind (arith, m)

  pub placed_kept : (s : ℕ) → 1 ≤ s → s ≤ 280 → IsPlaced (happens w c) (history_after h (entries w c)) s
  placed_kept s l m =
      let st = (stepped s l).stands in
      let e = same_count (happens w c) s l in
      let a = st.most in
      record {
        at_most = omega (arith, a, e);
        found = λ r. e ∙ st.all r;
        turn = λ o. subst (λ t. state_after (next s) t (entries w c) % 4 ≡ turn_at (happens w c) s) (now s m) (st.turned (omega (arith, o, e)) ∙ sym (same_turn (happens w c) s l));
      }

  pub turns_pass : (s : ℕ) → 1 ≤ s → s ≤ 280 → Passes (turn_next (smid_stage s)) (TurnAsks (smid_stage s)) (h.turn s) (entries w c)
  turns_pass s l m = subst (λ t. Passes (turn_next (smid_stage s)) (TurnAsks (smid_stage s)) t (entries w c)) (now s m) (stepped s l).passes

  pub sorted_kept : QueuesSorted (happens w c)
  sorted_kept = let i = (stepped 1 (omega arith)).stands.ioc_carries in record { high = all_high (happens w c).ioc.high i.high_sorted; normal = none_high (happens w c).ioc.normal i.normal_sorted }

  pub vectors_kept : VectorsFit (happens w c)
  vectors_kept = let st = (stepped 1 (omega arith)).stands in let i = st.ioc_carries.vectored in let e = st.lanes in omega (arith, i, e)

  -- ---- reply frames, and target resets that wait

  pub frames_pass : (a : ℕ) → a ≤ 63 → Passes (turn_next (frame_stage (reply_frame_address a))) (TurnAsks (frame_stage (reply_frame_address a))) (h.frame_turn (reply_frame_address a)) (entries w c)
  frames_pass a m = of_frames.frames_pass w h f.flights (asks w h (frames_before w h f plain)) c a m

  named : FramesAreNamed (happens w c)
  named = let z = frames.names w h (frames_before w h f plain) c in record { returned = z.returned; ring = z.ring; lanes = z.lanes }

  -- ---- the two cycles, of every identifier and every address

  pub turns_kept : TurnsKept h (entries w c)
  turns_kept =
      record {
        identifiers = λ s other. of_smid s (nat_le s 280) refl (positive s other);
        frames = λ a. of_address a (is_frame_address a) refl;
      }
    where
      positive : (s : ℕ) → s ≢ 0 → 1 ≤ s
      positive zero o = absurd (o refl)
      positive (suc k) o = omega arith

      of_smid : (s : ℕ) (b : Bool) → nat_le s 280 ≡ b → 1 ≤ s → Passes (turn_next (smid_stage s)) (TurnAsks (smid_stage s)) (h.turn s) (entries w c)
      of_smid s true t l = turns_pass s l (grind (arith, t))
      of_smid s false t l = far_passes w h f plain s (grind (arith, t)) c

      of_address : (a : ℕ) (b : Bool) → is_frame_address a ≡ b → Passes (turn_next (frame_stage a)) (TurnAsks (frame_stage a)) (h.frame_turn a) (entries w c)
      of_address a true t =
          let z = address_is a t in
          subst (λ x. Passes (turn_next (frame_stage x)) (TurnAsks (frame_stage x)) (h.frame_turn x) (entries w c)) z.0 (frames_pass (frame_of a) z.1)
      of_address a false t = other_passes w h f plain a t c

  pub places_kept : ShownPlaces (happens w c) (history_after h (entries w c))
  places_kept =
      record {
        sizes = sizes_kept w c f.flights.sizes;
        sorted = sorted_kept;
        identifiers = placed_kept;
        frames = frames.frame w h (frames_before w h f plain) c;
        frames_are_named = named;
        held = frames.held w h (frames_before w h f plain) c;
      }
