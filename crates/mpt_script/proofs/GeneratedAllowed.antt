-- Generated lines are allowed.
use Rattle.std.proofs.Common.{◌≡◌, ℕ, zero, suc, ◌+◌, ◌-◌, ◌*◌, ◌%◌, ◌<◌, ◌≤◌, ◌==◌, ◌&&◌, ◌||◌, nat_le, nat_lt, Bool, true, false, cond, List, [], ◌∷◌, ◌++◌, refl, ◌∙◌, ap, arith, lit≤, lit<, if◌then◌else◌}
use Rattle.std.specs.List.{list_any}
use Rattle.std.proofs.lemmas.Bool.{and_parts}
use Rattle.std.proofs.lemmas.Grind.{common_steps}
use Rattle.mpt_trace.specs.declared.command_form.CommandForm.TheVariants as form
use Rattle.mpt_trace.specs.declared.input.Input.{Input}
use Rattle.mpt_trace.specs.declared.input.Input.TheVariants as input
use Rattle.mpt_script.specs.declared.generator.Generator.{Generator}
use Rattle.mpt_script.specs.declared.line.Line.{Line}
use Rattle.mpt_script.specs.declared.line.Line.TheVariants as line
use Rattle.mpt_script.specs.Allowed.{are_allowed, is_schedule, is_unrefused, line_fits, statement_of}
use Rattle.mpt_script.specs.Declarations.{Declared, after, data_of, has_disk, nothing_declared, resets_of}
use Rattle.mpt_script.specs.declared.schedule_stage.ScheduleStage.TheVariants.{Steps}
use Rattle.mpt_script.specs.Generator.{block, disk_address, generated, head, is_plugged, kind, place, plug_line, started, turn_line, turned, turns}

-- the eight disks' addresses
abbrev eight : List ℕ
eight = disk_address 0 ∷ disk_address 1 ∷ disk_address 2 ∷ disk_address 3 ∷ disk_address 4 ∷ disk_address 5 ∷ disk_address 6 ∷ disk_address 7 ∷ []

-- a disk of each place was declared
disk_there : (p : ℕ) → p < 8 → list_any (λ a. a == disk_address p) eight ≡ true
disk_there zero h = refl
disk_there (suc zero) h = refl
disk_there (suc (suc zero)) h = refl
disk_there (suc (suc (suc zero))) h = refl
disk_there (suc (suc (suc (suc zero)))) h = refl
disk_there (suc (suc (suc (suc (suc zero))))) h = refl
disk_there (suc (suc (suc (suc (suc (suc zero)))))) h = refl
disk_there (suc (suc (suc (suc (suc (suc (suc zero))))))) h = refl
disk_there (suc (suc (suc (suc (suc (suc (suc (suc p)))))))) h = absurd (omega arith)

-- what was declared before so many turns more
pub record Ready (more : ℕ) (d : Declared) (g : Generator) : Type 0 where
  pub disks : d.addresses ≡ eight
  pub phys : d.phys ≡ 8 ∷ []
  pub resets : d.resets ≡ g.resets
  pub few : g.resets ≤ 8
  pub total : d.total + 512 * more ≤ 16777216

-- a line may stand
abbrev MayStand : Declared → Line → Type 0
MayStand d l = (line_fits l && is_unrefused d (statement_of d l)) ≡ true

small_address : (p : ℕ) → p < 8 → nat_le (disk_address p) 18446744073709551615 ≡ true
small_address p h = grind (arith, common_steps, h)

-- the two limits that an input can pass
room_for : (d : Declared) (given : Input) → d.resets + resets_of given ≤ 64 → d.total + data_of given ≤ 16777216 → (nat_lt 64 (d.resets + resets_of given) || nat_lt 16777216 (d.total + data_of given)) ≡ false
room_for d given h k = grind (arith, common_steps, h, k)

write_stands : (more t p lba fill : ℕ) (d : Declared) (g : Generator) → Ready (suc more) d g → t < 4294967296 → p < 8 → lba < 64 → fill < 256 → MayStand d (line.Input (input.Submit t (disk_address p) (form.Write lba 1 fill)))
write_stands more t p lba fill d g r ht hp hl hf =
    let numbered : nat_le t 4294967295 ≡ true = grind (arith, common_steps, ht) in
    let at : nat_le lba 4294967295 ≡ true = grind (arith, common_steps, hl) in
    let one_byte : nat_le fill 255 ≡ true = grind (arith, common_steps, hf) in
    let resets = r.resets in let few = r.few in let total = r.total in
    let room = room_for d (input.Submit t (disk_address p) (form.Write lba 1 fill)) (omega arith) (omega arith) in
    rw (numbered, small_address p hp, at, one_byte, room) refl

read_stands : (more t p lba : ℕ) (d : Declared) (g : Generator) → Ready (suc more) d g → t < 4294967296 → p < 8 → lba < 64 → MayStand d (line.Input (input.Submit t (disk_address p) (form.Read lba 1)))
read_stands more t p lba d g r ht hp hl =
    let numbered : nat_le t 4294967295 ≡ true = grind (arith, common_steps, ht) in
    let at : nat_le lba 4294967295 ≡ true = grind (arith, common_steps, hl) in
    let resets = r.resets in let few = r.few in let total = r.total in
    let room = room_for d (input.Submit t (disk_address p) (form.Read lba 1)) (omega arith) (omega arith) in
    rw (numbered, small_address p hp, at, room) refl

abort_stands : (more t : ℕ) (d : Declared) (g : Generator) → Ready (suc more) d g → t < 4294967296 → MayStand d (line.Input (input.Abort t))
abort_stands more t d g r ht =
    let numbered : nat_le t 4294967295 ≡ true = grind (arith, common_steps, ht) in
    let resets = r.resets in let few = r.few in let total = r.total in
    let room = room_for d (input.Abort t) (omega arith) (omega arith) in
    rw (numbered, room) refl

treset_stands : (more p : ℕ) (d : Declared) (g : Generator) → Ready (suc more) d g → p < 8 → MayStand d (line.Input (input.TargetReset (disk_address p)))
treset_stands more p d g r hp =
    let resets = r.resets in let few = r.few in let total = r.total in
    let room = room_for d (input.TargetReset (disk_address p)) (omega arith) (omega arith) in
    rw (small_address p hp, room) refl

reset_stands : (more : ℕ) (d : Declared) (g : Generator) → Ready (suc more) d g → MayStand d (line.Input input.Reset)
reset_stands more d g r =
    let resets = r.resets in let few = r.few in let total = r.total in
    let room = room_for d input.Reset (omega arith) (omega arith) in
    rw room refl

known_disk : (more p : ℕ) (d : Declared) (g : Generator) → Ready more d g → p < 8 → has_disk d (disk_address p) ≡ true
known_disk more p d g r hp = ap (list_any (λ a. a == disk_address p)) r.disks ∙ disk_there p hp

unplug_stands : (more p : ℕ) (d : Declared) (g : Generator) → Ready (suc more) d g → p < 8 → MayStand d (line.Input (input.Unplug (disk_address p)))
unplug_stands more p d g r hp = rw (small_address p hp, known_disk (suc more) p d g r hp) refl

plug_stands : (more p : ℕ) (d : Declared) (g : Generator) → Ready (suc more) d g → p < 8 → MayStand d (plug_line p)
plug_stands more p d g r hp =
    let one_byte : nat_le p 255 ≡ true = grind (arith, common_steps, hp) in
    let phy : nat_lt p 8 ≡ true = grind (arith, common_steps, hp) in
    rw (small_address p hp, one_byte, known_disk (suc more) p d g r hp, r.phys, phy) refl

-- one of two lines
pick : (Q : Line → Type 0) (b : Bool) (x y : Line) → (b ≡ true → Q x) → (b ≡ false → Q y) → Q (cond b x y)
pick Q true x y this that = this refl
pick Q false x y this that = that refl

-- the line of a turn may stand
turn_stands : (more t : ℕ) (d : Declared) (g : Generator) → Ready (suc more) d g → t < 4294967296 → MayStand d (turn_line t g)
turn_stands more t d g r ht =
    let hp : place g < 8 = omega arith in
    let hl : block g < 64 = omega arith in
    pick (MayStand d) (nat_le (kind g) 5) (line.Input (input.Submit t (disk_address (place g)) (form.Write (block g) 1 (t % 256)))) _ (λ e. write_stands more t (place g) (block g) (t % 256) d g r ht hp hl (omega arith))
    (λ e. pick (MayStand d) (nat_le (kind g) 10) (line.Input (input.Submit t (disk_address (place g)) (form.Read (block g) 1))) _ (λ f. read_stands more t (place g) (block g) d g r ht hp hl)
    (λ f. pick (MayStand d) (kind g == 11) (line.Input (input.Abort (t - 1))) _ (λ h. abort_stands more (t - 1) d g r (omega arith))
    (λ h. pick (MayStand d) (kind g == 12) (line.Input (input.TargetReset (disk_address (place g)))) _ (λ k. treset_stands more (place g) d g r hp)
    (λ k. pick (MayStand d) (kind g == 13) (if is_plugged g then line.Input (input.Unplug (disk_address (place g))) else plug_line (place g)) _
    (λ m. pick (MayStand d) (is_plugged g) (line.Input (input.Unplug (disk_address (place g)))) (plug_line (place g)) (λ n. unplug_stands more (place g) d g r hp) (λ n. plug_stands more (place g) d g r hp))
    (λ m. pick (MayStand d) (kind g == 15 && nat_lt g.resets 8) (line.Input input.Reset) line.Drain (λ n. reset_stands more d g r) (λ n. refl))))))

-- what is declared after a turn
abbrev Follows : ℕ → Declared → Generator → Line → Type 0
Follows more d g l = Ready more (after d l) (turned g)

after_input : (more : ℕ) (d : Declared) (g : Generator) (given : Input) → Ready (suc more) d g → resets_of given ≡ 0 → data_of given ≤ 512 → (kind g == 15 && nat_lt g.resets 8) ≡ false → Follows more d g (line.Input given)
after_input more d g given r none small other =
    let resets = r.resets in let few = r.few in let total = r.total in
    record {
      disks = r.disks;
      phys = r.phys;
      resets = rw other (omega (arith, none));
      few = rw other few;
      total = omega arith;
    }

after_reset : (more : ℕ) (d : Declared) (g : Generator) → Ready (suc more) d g → (kind g == 15 && nat_lt g.resets 8) ≡ true → Follows more d g (line.Input input.Reset)
after_reset more d g r this =
    let resets = r.resets in let total = r.total in
    let below = (and_parts (kind g == 15) (nat_lt g.resets 8) this).1 in
    let less : g.resets < 8 = grind (arith, common_steps, below) in
    record {
      disks = r.disks;
      phys = r.phys;
      resets = rw this (omega arith);
      few = rw this (omega arith);
      total = omega arith;
    }

after_drain : (more : ℕ) (d : Declared) (g : Generator) → Ready (suc more) d g → (kind g == 15 && nat_lt g.resets 8) ≡ false → Follows more d g line.Drain
after_drain more d g r other =
    let resets = r.resets in let few = r.few in let total = r.total in
    record {
      disks = r.disks;
      phys = r.phys;
      resets = rw other resets;
      few = rw other few;
      total = omega arith;
    }

-- another kind of turn is no reset
low_kind : (most k : ℕ) (b : Bool) → most < 15 → nat_le k most ≡ true → ((k == 15) && b) ≡ false
low_kind most k b low h =
    let other : (k == 15) ≡ false = grind (arith, common_steps, h, low) in
    rw other refl

this_kind : (n k : ℕ) (b : Bool) → n < 15 → (k == n) ≡ true → ((k == 15) && b) ≡ false
this_kind n k b low h =
    let other : (k == 15) ≡ false = grind (arith, common_steps, h, low) in
    rw other refl

turn_follows : (more t : ℕ) (d : Declared) (g : Generator) → Ready (suc more) d g → Follows more d g (turn_line t g)
turn_follows more t d g r =
    let below = nat_lt g.resets 8 in
    pick (Follows more d g) (nat_le (kind g) 5) (line.Input (input.Submit t (disk_address (place g)) (form.Write (block g) 1 (t % 256)))) _ (λ e. after_input more d g (input.Submit t (disk_address (place g)) (form.Write (block g) 1 (t % 256))) r refl (lit≤ tt) (low_kind 5 (kind g) below (lit< tt) e))
    (λ e. pick (Follows more d g) (nat_le (kind g) 10) (line.Input (input.Submit t (disk_address (place g)) (form.Read (block g) 1))) _ (λ f. after_input more d g (input.Submit t (disk_address (place g)) (form.Read (block g) 1)) r refl (lit≤ tt) (low_kind 10 (kind g) below (lit< tt) f))
    (λ f. pick (Follows more d g) (kind g == 11) (line.Input (input.Abort (t - 1))) _ (λ h. after_input more d g (input.Abort (t - 1)) r refl (lit≤ tt) (this_kind 11 (kind g) below (lit< tt) h))
    (λ h. pick (Follows more d g) (kind g == 12) (line.Input (input.TargetReset (disk_address (place g)))) _ (λ k. after_input more d g (input.TargetReset (disk_address (place g))) r refl (lit≤ tt) (this_kind 12 (kind g) below (lit< tt) k))
    (λ k. pick (Follows more d g) (kind g == 13) (if is_plugged g then line.Input (input.Unplug (disk_address (place g))) else plug_line (place g)) _
    (λ m. pick (Follows more d g) (is_plugged g) (line.Input (input.Unplug (disk_address (place g)))) (plug_line (place g)) (λ n. after_input more d g (input.Unplug (disk_address (place g))) r refl (lit≤ tt) (this_kind 13 (kind g) below (lit< tt) m)) (λ n. after_input more d g (input.Plug (disk_address (place g)) 0 (place g)) r refl (lit≤ tt) (this_kind 13 (kind g) below (lit< tt) m)))
    (λ m. pick (Follows more d g) (kind g == 15 && nat_lt g.resets 8) (line.Input input.Reset) line.Drain (λ n. after_reset more d g r n) (λ n. after_drain more d g r n))))))

both : (a b : Bool) → a ≡ true → b ≡ true → (a && b) ≡ true
both a b h k = rw (h, k) refl

-- lines after a drain, if there is one
drained : (b : Bool) (d : Declared) (rest : List Line) → are_allowed d rest ≡ true → are_allowed (after d line.Drain) rest ≡ true → are_allowed d ((if b then line.Drain ∷ [] else []) ++ rest) ≡ true
unfolding are_allowed
drained true d rest h k = k
drained false d rest h k = h

-- the turns are allowed
turns_allowed : (more t : ℕ) (d : Declared) (g : Generator) → Ready more d g → t + more ≤ 4294967295 → are_allowed d (turns more t g) ≡ true
unfolding are_allowed turns
turns_allowed zero t d g r h = refl
turns_allowed (suc more) t d g r h =
    let l = turn_line t g in
    let follows = turn_follows more t d g r in
    let idle : Ready more (after (after d l) line.Drain) (turned g) = record { disks = follows.disks; phys = follows.phys; resets = follows.resets; few = follows.few; total = follows.total } in
    both (line_fits l && is_unrefused d (statement_of d l)) (are_allowed (after d l) ((if t % 64 == 0 then line.Drain ∷ [] else []) ++ turns more (t + 1) (turned g)))
    (turn_stands more t d g r (omega arith))
    (drained (t % 64 == 0) (after d l) (turns more (t + 1) (turned g)) (turns_allowed more (t + 1) (after d l) (turned g) follows (omega arith)) (turns_allowed more (t + 1) (after (after d l) line.Drain) (turned g) idle (omega arith)))

-- the head leaves the eight disks plugged
abbrev headed : Declared
headed = record { stage = Steps; queues = 1; addresses = eight; phys = 8 ∷ []; resets = 0; total = 0 }

head_allowed : (rest : List Line) → are_allowed nothing_declared (head ++ rest) ≡ are_allowed headed rest
unfolding are_allowed
head_allowed rest = refl

-- the schedule that a number names
pub generated_allowed : (number : ℕ) → is_schedule (generated number) ≡ true
generated_allowed number =
    head_allowed (turns 1000 1 (started number))
    ∙ turns_allowed 1000 1 headed (started number) (record { disks = refl; phys = refl; resets = refl; few = lit≤ tt; total = lit≤ tt }) (lit≤ tt)
