-- The model of what the host has to put goes with the host's outbox: it has no more posts of commands than the outbox, and where
-- the host was started and has put nothing the outbox has a register access.
use Rattle.std.proofs.Common.{◌≡◌, ℕ, ◌+◌, ◌-◌, ◌*◌, ◌%◌, ◌^◌, ◌≤◌, ◌||◌, nat_lt, Bool, true, false, if◌then◌else◌, List, [], ◌∷◌, ◌++◌, refl, ap, ◌∙◌, arith}
use Rattle.std.specs.List.{filter, list_any}
use Rattle.std.proofs.lemmas.List.Folds.{list_any-append}
use Rattle.mpi_rings.specs.declared.request_descriptor.PostKind.TheVariants as post
use Rattle.mpt_trace.specs.declared.item.Down.{Down}
use Rattle.mpt_trace.specs.declared.item.Down.TheVariants as down
use Rattle.mpt_wire.specs.Fits.Blocks.{has_to_put}
use Rattle.mpt_wire.specs.Fits.Queued.{Queued, is_scsi_io}
use Rattle.mpt_wire.specs.Messages.Fields.{kind_by_flags, kind_in, post_descriptor}
use Rattle.mpt_rules.specs.Host.Resets.{is_no_post}
use Rattle.mpt_rules.specs.World.Counts.{how_many, one_if}
use Rattle.mpt_rules.proofs.Counts.{how_many-append}
use Rattle.law_schedules.proofs.DiskCounts.{counted_cons, counted_nil}

-- the post of a command
abbrev pub is_command_post : Down → Bool
is_command_post (down.Post descriptor frame payload) = is_scsi_io (kind_in descriptor)
is_command_post _ = false

pub record FitsOut (starts : Bool) (unposted : ℕ) (out : List Down) : Type 0 where
  pub few : unposted ≤ how_many is_command_post out
  pub begins : starts ≡ true → list_any is_no_post out ≡ true

-- more is put behind
pub out_more : (starts : Bool) (unposted : ℕ) (xs ys : List Down) → FitsOut starts unposted xs → FitsOut starts unposted (xs ++ ys)
out_more starts unposted xs ys h =
    record {
      few = let f = h.few in let a = how_many-append is_command_post xs ys in omega (arith, f, a);
      begins = λ s. list_any-append is_no_post xs ys ∙ ap (λ (b : Bool). b || list_any is_no_post ys) (h.begins s);
    }

-- a command's post
pub command_post : (m s handle : ℕ) → is_scsi_io (kind_in (post_descriptor post.ScsiIo m s handle)) ≡ true
command_post m s handle = let e : (0 + m * 2 ^ 8 + s * 2 ^ 16 + handle * 2 ^ 48) % 2 ^ 8 ≡ 0 = omega arith in ap (λ (n : ℕ). is_scsi_io (kind_by_flags n)) e

pub accepted_more : (starts : Bool) (unposted : ℕ) (out : List Down) (x : Down) → is_command_post x ≡ true → FitsOut starts unposted out → FitsOut starts (unposted + 1) (out ++ x ∷ [])
accepted_more starts unposted out x c h =
    let k = out_more starts unposted out (x ∷ []) h in
    record {
      few =
          let f = h.few in
          let a = how_many-append is_command_post out (x ∷ []) in
          let b = counted_cons is_command_post x [] in
          let n = counted_nil is_command_post in
          let o = ap one_if c in
          omega (arith, f, a, b, n, o);
      begins = k.begins;
    }

-- a reset takes the posts out
pub reset_less : (starts : Bool) (unposted : ℕ) (out : List Down) → FitsOut starts unposted out → FitsOut starts 0 (filter is_no_post out)
reset_less starts unposted out h = record { few = omega arith; begins = λ s. still out ∙ h.begins s }
  where
    still : (xs : List Down) → list_any is_no_post (filter is_no_post xs) ≡ list_any is_no_post xs
    still [] = refl
    still (x ∷ xs) = by_test (is_no_post x) refl (still xs)
      where
        by_test : (b : Bool) → is_no_post x ≡ b → list_any is_no_post (filter is_no_post xs) ≡ list_any is_no_post xs → list_any is_no_post (if b then x ∷ filter is_no_post xs else filter is_no_post xs) ≡ (b || list_any is_no_post xs)
        by_test true t ih = ap (λ (c : Bool). c || list_any is_no_post (filter is_no_post xs)) t
        by_test false t ih = ih

-- the first is put
abbrev pub starts_after : Down → Bool → Bool
starts_after (down.Post descriptor frame payload) starts = starts
starts_after _ starts = false

abbrev pub unposted_after : Down → ℕ → ℕ
unposted_after (down.Post descriptor frame payload) n = if is_scsi_io (kind_in descriptor) then n - 1 else n
unposted_after _ n = n

pub first_put : (starts : Bool) (unposted : ℕ) (x : Down) (rest : List Down) → FitsOut starts unposted (x ∷ rest) → FitsOut (starts_after x starts) (unposted_after x unposted) rest
first_put starts unposted (down.Post descriptor frame payload) rest h =
    record { few = by_kind (is_scsi_io (kind_in descriptor)) refl; begins = h.begins }
  where
    by_kind : (b : Bool) → is_scsi_io (kind_in descriptor) ≡ b → (if b then unposted - 1 else unposted) ≤ how_many is_command_post rest
    by_kind true k = let f = h.few in let c = counted_cons is_command_post (down.Post descriptor frame payload) rest in let o = ap one_if k in omega (arith, f, c, o)
    by_kind false k = let f = h.few in let c = counted_cons is_command_post (down.Post descriptor frame payload) rest in let o = ap one_if k in omega (arith, f, c, o)
first_put starts unposted (down.Write reg value) rest h = record { few = let f = h.few in let c = counted_cons is_command_post (down.Write reg value) rest in omega (arith, f, c); begins = λ s. absurd (cc) }
first_put starts unposted (down.Read reg) rest h = record { few = let f = h.few in let c = counted_cons is_command_post (down.Read reg) rest in omega (arith, f, c); begins = λ s. absurd (cc) }
first_put starts unposted (down.Return address index) rest h = record { few = let f = h.few in let c = counted_cons is_command_post (down.Return address index) rest in omega (arith, f, c); begins = λ s. absurd (cc) }
first_put starts unposted down.Stop rest h = record { few = let f = h.few in let c = counted_cons is_command_post down.Stop rest in omega (arith, f, c); begins = λ s. absurd (cc) }

-- an empty outbox has nothing to put
pub nothing_to_put : (g : Queued) → FitsOut g.starts g.unposted [] → has_to_put g ≡ false
nothing_to_put g h = by_starts g.starts refl
  where
    none : nat_lt 0 g.unposted ≡ false
    none = let f = h.few in let n = counted_nil is_command_post in let z : g.unposted ≡ 0 = omega (arith, f, n) in ap (nat_lt 0) z

    by_starts : (b : Bool) → g.starts ≡ b → (g.starts || nat_lt 0 g.unposted) ≡ false
    by_starts true s = let p : false ≡ true = h.begins s in absurd (cc)
    by_starts false s = ap (λ (c : Bool). c || nat_lt 0 g.unposted) s ∙ none
