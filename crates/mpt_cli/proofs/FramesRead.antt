-- The frames of a scatter list, one after the other.
use Rattle.std.proofs.Common.{◌≡◌, ℕ, zero, suc, ◌+◌, ◌-◌, ◌*◌, ◌^◌, ◌<◌, ◌≤◌, List, [], ◌∷◌, ◌++◌, length, drop, refl, ap, sym, ◌∙◌, arith, append-nil, append_assoc}
use Rattle.std.proofs.lemmas.List.{drop-drop}
use Rattle.mpt_sgl.specs.declared.chained.ChainFrame.{ChainFrame}
use Rattle.mpt_cli.specs.ScatterInput.{frame_at, frames_begun, frames_in}

-- the first of those that are left
frames_left : (count i : ℕ) (bytes : List ℕ) → i < count → frames_in (count - i) (drop (136 * i) bytes) ≡ frame_at (drop (136 * i) bytes) ∷ frames_in (count - (i + 1)) (drop (136 * (i + 1)) bytes)
frames_left count i bytes less =
    let e : count - i ≡ suc (count - (i + 1)) = omega arith in
    let f : 136 * i + 136 ≡ 136 * (i + 1) = omega arith in
    ap (λ n. frames_in n (drop (136 * i) bytes)) e ∙ ap (λ bs. frame_at (drop (136 * i) bytes) ∷ frames_in (count - (i + 1)) bs) (drop-drop 136 (136 * i) bytes ∙ ap (λ k. drop k bytes) f)

-- the frames so far and those that are left
pub record FramesSoFar (count : ℕ) (bytes : List ℕ) (frames : List ChainFrame) (i : ℕ) : Type 0 where
  pub all : frames ++ frames_in (count - i) (drop (136 * i) bytes) ≡ frames_in count bytes

pub no_frame_yet : (count : ℕ) (bytes : List ℕ) → FramesSoFar count bytes [] 0
no_frame_yet count bytes = record { all = let e : count - 0 ≡ count = omega arith in ap (λ n. frames_in n bytes) e }

pub one_frame_more : (count i : ℕ) (bytes rest : List ℕ) (frames after : List ChainFrame) → i < count → rest ≡ drop (136 * i) bytes → after ≡ frames ++ frame_at rest ∷ [] → FramesSoFar count bytes frames i → FramesSoFar count bytes after (i + 1)
one_frame_more count i bytes rest frames after less is more so_far =
    let left = frames_left count i bytes less in
    let tail : List ChainFrame = frames_in (count - (i + 1)) (drop (136 * (i + 1)) bytes) in
    record {
      all = ap (λ fs. fs ++ tail) more ∙ append_assoc frames (frame_at rest ∷ []) tail ∙ ap (λ r. frames ++ (frame_at r ∷ tail)) is ∙ ap (λ fs. frames ++ fs) (sym left) ∙ so_far.all;
    }

pub all_frames : (count i : ℕ) (bytes : List ℕ) (frames : List ChainFrame) → count ≤ i → FramesSoFar count bytes frames i → frames ≡ frames_in count bytes
all_frames count i bytes frames over so_far =
    let none : count - i ≡ 0 = omega arith in
    sym (append-nil frames) ∙ ap (λ n. frames ++ frames_in n (drop (136 * i) bytes)) (sym none) ∙ so_far.all

length-frames_in : (count : ℕ) (bytes : List ℕ) → length (frames_in count bytes) ≡ count
length-frames_in zero bytes = refl
length-frames_in (suc count) bytes = ap suc (length-frames_in count (drop 136 bytes))

-- there are no more frames than bytes
pub few_frames : (bytes : List ℕ) (frames : List ChainFrame) → frames ≡ frames_in (frames_begun (length bytes)) (drop 33 bytes) → length bytes < 2 ^ 32 → length frames < 2 ^ 32
few_frames bytes frames is few =
    let count : length frames ≡ frames_begun (length bytes) = ap length is ∙ length-frames_in (frames_begun (length bytes)) (drop 33 bytes) in
    omega (arith, count)
