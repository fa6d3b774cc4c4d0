-- Frames that are held: none is where none was and others are set, nor where all were returned.
use Rattle.std.proofs.Common.{◌≡◌, ◌≢◌, ℕ, zero, suc, ◌+◌, ◌<◌, ◌≤◌, ◌==◌, nat_lt, Bool, true, false, List, [], ◌∷◌, length, get_or, set, refl, ap, sym, ◌∙◌, subst, arith, length-set, get_or-set_same, get_or-set_other}
use Rattle.std.specs.List.{fold, range_with_len}
use Rattle.std.proofs.lemmas.List.{get_or_past}
use Rattle.mpt_rules.specs.declared.host_frame.HostFrame.{HostFrame}
use Rattle.mpt_rules.specs.declared.host_frame.HostFrame.TheVariants as frame
use Rattle.mpt_rules.specs.Host.Parts.{Host}
use Rattle.mpt_rules.specs.Host.Returns as returns
use Rattle.mpt_rules.specs.World.Counts.{how_many, one_if}
use Rattle.mpt_rules.specs.World.PlaceCounts.{is_held_frame}
use Rattle.law_moves.proofs.Counted.{how_many-cons, how_many-nil}

-- one is set to what isn't held
pub set_none : (frames : List HostFrame) (f : ℕ) (y : HostFrame) → is_held_frame y ≡ false → how_many is_held_frame frames ≡ 0 → how_many is_held_frame (set frames f y) ≡ 0
set_none [] f y e z = z
set_none (x ∷ xs) zero y e z = let c = how_many-cons is_held_frame x xs in let d = how_many-cons is_held_frame y xs in let o = ap one_if e in omega (arith, c, d, o, z)
set_none (x ∷ xs) (suc f) y e z =
    let c = how_many-cons is_held_frame x xs in
    let d = how_many-cons is_held_frame x (set xs f y) in
    let r = set_none xs f y e (omega (arith, c, z)) in
    omega (arith, c, d, r, z)

-- at each place none is held
none_by_place : (xs : List HostFrame) → ((a : ℕ) → is_held_frame (get_or xs a frame.Out) ≡ false) → how_many is_held_frame xs ≡ 0
none_by_place [] g = how_many-nil is_held_frame
none_by_place (x ∷ xs) g =
    let c = how_many-cons is_held_frame x xs in
    let z = ap one_if (g 0) in
    let r = none_by_place xs (λ a. g (suc a)) in
    omega (arith, c, z, r)

-- a return leaves the table's length
pub returned_length : (fs : List ℕ) (h : Host) → length (fold returns.with_return h fs).frames ≡ length h.frames
returned_length [] h = refl
returned_length (f ∷ fs) h = returned_length fs (returns.with_return h f) ∙ length-set h.frames f frame.Out

is_other : (f a : ℕ) → (f == a) ≡ false → f ≢ a
is_other f a e q = let z : (f == a) ≡ true = grind (arith, q) in cc

returned_at : (n i : ℕ) (h : Host) → length h.frames ≡ 64 → i + n ≤ 64 → ((a : ℕ) → a < i → is_held_frame (get_or h.frames a frame.Out) ≡ false) → (a : ℕ) → a < i + n
    → is_held_frame (get_or (fold returns.with_return h (range_with_len i n)).frames a frame.Out) ≡ false
returned_at zero i h l m g a s = g a (omega (arith, s))
returned_at (suc n) i h l m g a s = returned_at n (i + 1) (returns.with_return h i) (length-set h.frames i frame.Out ∙ l) (omega (arith, m)) next a (omega (arith, s))
  where
    next : (b : ℕ) → b < i + 1 → is_held_frame (get_or (set h.frames i frame.Out) b frame.Out) ≡ false
    next b t = by_place (i == b) refl
      where
        by_place : (c : Bool) → (i == b) ≡ c → is_held_frame (get_or (set h.frames i frame.Out) b frame.Out) ≡ false
        by_place true e =
            let q : i ≡ b = grind (arith, e) in
            subst (λ x. is_held_frame (get_or (set h.frames i frame.Out) x frame.Out) ≡ false) q (ap is_held_frame (get_or-set_same h.frames i frame.Out frame.Out (omega (arith, l, m))))
        by_place false e =
            let q = is_other i b e in
            ap is_held_frame (get_or-set_other h.frames i b frame.Out frame.Out (λ z. q (sym z))) ∙ g b (below q)
          where
            below : i ≢ b → b < i
            below q = grind (arith, q, t)

-- all are returned
pub all_returned : (h : Host) → length h.frames ≡ 64 → how_many is_held_frame (returns.returns_all h).frames ≡ 0
all_returned h l = none_by_place (returns.returns_all h).frames at_place
  where
    at_place : (a : ℕ) → is_held_frame (get_or (returns.returns_all h).frames a frame.Out) ≡ false
    at_place a = by_size (nat_lt a 64) refl
      where
        none : (b : ℕ) → b < 0 → is_held_frame (get_or h.frames b frame.Out) ≡ false
        none b s = absurd (omega (arith, s))

        by_size : (b : Bool) → nat_lt a 64 ≡ b → is_held_frame (get_or (returns.returns_all h).frames a frame.Out) ≡ false
        by_size true t = returned_at 64 0 h l (omega arith) none a (grind (arith, t))
        by_size false t =
            let m : 64 ≤ a = grind (arith, t) in
            let q = returned_length (range_with_len 0 returns.reply_frame_count) h in
            ap is_held_frame (get_or_past (returns.returns_all h).frames a frame.Out (omega (arith, m, q, l)))
