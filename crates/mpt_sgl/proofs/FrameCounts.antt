-- How many frames hold what doesn't find room in the first area.
use Rattle.std.proofs.Common.{◌≡◌, ℕ, suc, ◌+◌, ◌-◌, ◌*◌, ◌/◌, ◌≤◌, Bool, true, false, ltb, cond, List, [], ◌∷◌, length, drop, refl, subst, arith}
use Rattle.std.proofs.lemmas.Bool.Decides.{nat_tests}
use Rattle.std.proofs.lemmas.List.{length-drop}
use Rattle.mpt_sgl.specs.declared.chained.ChainFrame.{ChainFrame}
use Rattle.mpt_sgl.specs.declared.list.Piece.{Piece}
use Rattle.mpt_sgl.specs.Pieces.{frame_count}
use Rattle.mpt_sgl.specs.Held.{FramesFit, Held}

-- from a frame on
later_fit : (frames : List ChainFrame) (left : ℕ) → 9 * length frames + 2 ≤ left → left ≤ 9 * length frames + 10 → FramesFit 9 left frames
later_fit [] left least most = (omega arith, omega arith)
later_fit (frame ∷ frames) left least most = (omega arith, later_fit frames (left - 9) (omega arith) (omega arith))

later_count : (frames : List ChainFrame) (left : ℕ) → 2 ≤ left → FramesFit 9 left frames → (9 * length frames + 2 ≤ left) × (left ≤ 9 * length frames + 10)
later_count [] left some fit = let most = fit.1 in (omega arith, omega arith)
later_count (frame ∷ frames) left some fit =
    let more = fit.0 in
    let ih = later_count frames (left - 9) (omega arith) fit.1 in
    (omega (arith, ih.0), omega (arith, ih.1))

-- from the first area on
pub frames_fit : (frames : List ChainFrame) (pieces : ℕ) → 1 ≤ pieces → length frames ≡ frame_count pieces → FramesFit 1 pieces frames
frames_fit [] pieces some count = (some, few) where
  few : pieces ≤ 2
  few = tested (ltb pieces 3) refl count where
    tested : (b : Bool) → ltb pieces 3 ≡ b → 0 ≡ cond b 0 ((pieces - 3) / 9 + 1) → pieces ≤ 2
    tested true t e = grind (arith, nat_tests)
    tested false t e = absurd (omega arith)
frames_fit (frame ∷ frames) pieces some count = tested (ltb pieces 3) refl count where
  tested : (b : Bool) → ltb pieces 3 ≡ b → suc (length frames) ≡ cond b 0 ((pieces - 3) / 9 + 1) → (3 ≤ pieces) × FramesFit 9 (pieces - 1) frames
  tested true t e = absurd (omega arith)
  tested false t e =
      let more : 3 ≤ pieces = grind (arith, nat_tests) in
      (more, later_fit frames (pieces - 1) (omega arith) (omega arith))

pub fit_count : (frames : List ChainFrame) (pieces : ℕ) → FramesFit 1 pieces frames → length frames ≡ frame_count pieces
fit_count [] pieces fit =
    let most = fit.1 in
    let test : ltb pieces 3 ≡ true = grind (arith, nat_tests) in
    rw test refl
fit_count (frame ∷ frames) pieces fit =
    let more = fit.0 in
    let test : ltb pieces 3 ≡ false = grind (arith, nat_tests) in
    let count = later_count frames (pieces - 1) (omega arith) fit.1 in
    let is : suc (length frames) ≡ (pieces - 3) / 9 + 1 = omega (arith, count.0, count.1) in
    rw test is

-- areas that hold pieces are as many as they need
pub held_fits : (frames : List ChainFrame) (room : ℕ) (to_device : Bool) (pieces : List Piece) (bytes : List ℕ) → Held to_device room pieces bytes frames → FramesFit room (length pieces) frames
held_fits [] room to_device pieces bytes held = (held.0, held.1)
held_fits (frame ∷ frames) room to_device pieces bytes held =
    let left : length (drop room pieces) ≡ length pieces - room = length-drop room pieces in
    (held.0, subst (λ n. FramesFit 9 n frames) left (held_fits frames 9 to_device (drop room pieces) frame.bytes held.2))
