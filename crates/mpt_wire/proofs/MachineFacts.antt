-- When the machine of disks grants a submission or an abort.
use Rattle.std.proofs.Common.{◌≡◌, ℕ, ◌&&◌, ◌||◌, Bool, true, false, None, refl, ap, ◌∙◌, true≢false, arith}
use Rattle.std.specs.Ordering.{eq_by_cmp, nat_cmp}
use Rattle.std.specs.Cmp.{Equal-is, nat_cmp_total}
use Rattle.std.specs.FinSet as set
use Rattle.scsi_disk.specs.Command.{fits}
use Rattle.scsi_disk.specs.declared.command.Command.{Command}
use Rattle.mpt_wire.specs.Machine.State.{Machine}
use Rattle.mpt_wire.specs.Machine.Causes.{is_used, is_open, is_up, has_device, is_full, is_high_full, cause_of_submit, cause_of_abort}

pub submit_granted : (m : Machine) (n a : ℕ) (command : Command) → is_used m n ≡ false → is_up m.mode ≡ true → has_device m a ≡ true → fits command ≡ true → is_full m ≡ false → cause_of_submit m n a command ≡ None
submit_granted m n a command used up device fit full = rw (used, up, device, fit, full) refl

pub abort_granted : (m : Machine) (n : ℕ) → is_up m.mode ≡ true → is_open m n ≡ true → set.contains m.aborts n ≡ false → is_high_full m ≡ false → cause_of_abort m n ≡ None
abort_granted m n up opened aborting full = rw (up, opened, aborting, full) refl

-- no request was answered under an open abort where none was answered
pub none_parked : (s : set.FinSet nat_cmp) → set.intersection s set.empty ≡ set.empty
none_parked s = set.same_set nat_cmp_total set.nat_cmp-IsAntisymmetric _ _ (λ q. set.contains-intersection nat_cmp_total s set.empty q ∙ grind (arith, set.members))

-- ---- the answered requests that an open abort names, after an abort begins, ends, and after an answer

members_are : (s t : set.FinSet nat_cmp) → ((q : ℕ) → set.contains s q ≡ set.contains t q) → s ≡ t
members_are s t is = set.same_set nat_cmp_total set.nat_cmp-IsAntisymmetric s t is

tied_contains : (s : set.FinSet nat_cmp) (q n : ℕ) (b : Bool) → set.contains s n ≡ b → eq_by_cmp nat_cmp q n ≡ true → set.contains s q ≡ b
tied_contains s q n b h tie = ap (set.contains s) (set.nat_cmp-IsAntisymmetric q n ((Equal-is (nat_cmp q n)).0 tie)) ∙ h

joins : (b x y : Bool) → (b ≡ true → y ≡ true) → ((b || x) && y) ≡ (b || (x && y))
joins true x y f = f refl
joins false x y f = refl

joins_right : (b x y : Bool) → (b ≡ true → x ≡ true) → (x && (b || y)) ≡ (b || (x && y))
joins_right true true y f = refl
joins_right true false y f = f refl
joins_right false x y f = refl

stays : (b x y : Bool) → (b ≡ true → y ≡ false) → ((b || x) && y) ≡ (x && y)
stays true x true f = absurd (true≢false (f refl))
stays true true false f = refl
stays true false false f = refl
stays false x y f = refl

stays_right : (b x y : Bool) → (b ≡ true → x ≡ false) → (x && (b || y)) ≡ (x && y)
stays_right true true y f = absurd (true≢false (f refl))
stays_right true false y f = refl
stays_right false x y f = refl

module _ (aborts closed : set.FinSet nat_cmp) (n : ℕ) where
  abbrev parked : set.FinSet nat_cmp
  parked = set.intersection aborts closed

  in_parked : (q : ℕ) → set.contains parked q ≡ (set.contains aborts q && set.contains closed q)
  in_parked q = set.contains-intersection nat_cmp_total aborts closed q

  pub parked-begins_closed : set.contains closed n ≡ true → set.intersection (set.insert aborts n) closed ≡ set.insert parked n
  parked-begins_closed h = members_are _ _ (λ q.
      rw (set.contains-intersection nat_cmp_total (set.insert aborts n) closed q, set.contains-insert nat_cmp_total aborts n q, set.contains-insert nat_cmp_total parked n q, in_parked q)
      (joins (eq_by_cmp nat_cmp q n) (set.contains aborts q) (set.contains closed q) (tied_contains closed q n true h)))

  pub parked-begins_open : set.contains closed n ≡ false → set.intersection (set.insert aborts n) closed ≡ parked
  parked-begins_open h = members_are _ _ (λ q.
      rw (set.contains-intersection nat_cmp_total (set.insert aborts n) closed q, set.contains-insert nat_cmp_total aborts n q, in_parked q)
      (stays (eq_by_cmp nat_cmp q n) (set.contains aborts q) (set.contains closed q) (tied_contains closed q n false h)))

  pub parked-ends : set.intersection (set.remove aborts n) closed ≡ set.remove parked n
  parked-ends = members_are _ _ (λ q. grind (arith, set.members))

  pub parked-answered : set.contains aborts n ≡ true → set.intersection aborts (set.insert closed n) ≡ set.insert parked n
  parked-answered h = members_are _ _ (λ q.
      rw (set.contains-intersection nat_cmp_total aborts (set.insert closed n) q, set.contains-insert nat_cmp_total closed n q, set.contains-insert nat_cmp_total parked n q, in_parked q)
      (joins_right (eq_by_cmp nat_cmp q n) (set.contains aborts q) (set.contains closed q) (tied_contains aborts q n true h)))

  pub parked-answered_alone : set.contains aborts n ≡ false → set.intersection aborts (set.insert closed n) ≡ parked
  parked-answered_alone h = members_are _ _ (λ q.
      rw (set.contains-intersection nat_cmp_total aborts (set.insert closed n) q, set.contains-insert nat_cmp_total closed n q, in_parked q)
      (stays_right (eq_by_cmp nat_cmp q n) (set.contains aborts q) (set.contains closed q) (tied_contains aborts q n false h)))
