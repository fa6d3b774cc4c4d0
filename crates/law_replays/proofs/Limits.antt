-- Each schedule that a text can stand for keeps the limits: by one walk over its lines, with what was declared so far.
use Rattle.std.proofs.Common.{◌≡◌, ◌≢◌, ℕ, zero, suc, ◌+◌, ◌<◌, ◌≤◌, ◌^◌, ◌==◌, ◌&&◌, ◌||◌, nat_le, nat_lt, Bool, true, false, IsTrue, List, [], ◌∷◌, ◌++◌, length, get_or, Ordering, Less, Equal, Greater, refl, subst, sym, ◌∙◌, append_assoc, arith}
use Rattle.std.specs.Prelude.{All, AllPairs, filter_map, slice_index, slice_index_or}
use Rattle.std.specs.List.{list_all, list_any}
use Rattle.std.specs.Ordering.{match_ordering, nat_cmp}
use Rattle.std.specs.BTreeSet.{insert_key}
use Rattle.std.proofs.lemmas.Bool.{and_parts}
use Rattle.std.proofs.lemmas.Grind.{common_steps}
use Rattle.std.proofs.lemmas.List.Elements.{All-cons, All-nil}
use Rattle.std.proofs.lemmas.List.Kept.{AllPairs-cons}
use Rattle.std.proofs.lemmas.List.{length-append}
use Rattle.std.proofs.lemmas.Map.Lookups.{exact_unsigned}
use Rattle.hex.specs.Hex.{IsBytes}
use Rattle.mpt_trace.specs.declared.command_form.CommandForm.{CommandForm}
use Rattle.mpt_trace.specs.declared.command_form.CommandForm.TheVariants as form
use Rattle.mpt_trace.specs.declared.disk_spec.DiskSpec.{DiskSpec}
use Rattle.mpt_trace.specs.declared.input.Input.{Input}
use Rattle.mpt_trace.specs.declared.input.Input.TheVariants as input
use Rattle.mpt_trace.specs.ReadingSchedule.{IsCommand, IsInput}
use Rattle.mpt_script.specs.Allowed.{are_allowed, form_fits, input_fits, is_address, is_byte, is_schedule, is_unrefused, line_fits, statement_of}
use Rattle.mpt_script.specs.Declarations.{Declared, after, has_phy, nothing_declared}
use Rattle.mpt_script.specs.declared.line.Line.{Line as ScriptLine}
use Rattle.mpt_script.specs.declared.line.Line.TheVariants as line
use Rattle.mpt_lines.specs.declared.statement.Statement.TheVariants as statement
use Rattle.mpt_wire.specs.Fits.Lines.{Line, Asked, Stepped, Drained}
use Rattle.mpt_rules.specs.Law.{IsLine}
use Rattle.mpt_rules.specs.World.Settings.{IsFromTo, IsSetting, Setting}
use Rattle.law_replays.specs.Schedules.{KeepsLimits, disk_in, lines_of, phys_in, queues_in, setting_of}

-- ---- numbers

below : (most n : ℕ) → nat_le n most ≡ true → n ≤ most
below most n h = grind (arith, common_steps, h)

above : (least n : ℕ) → nat_le least n ≡ true → least ≤ n
above least n h = grind (arith, common_steps, h)

between : (least most n : ℕ) → (nat_le least n && nat_le n most) ≡ true → IsFromTo least most n
between least most n h = let p = and_parts (nat_le least n) (nat_le n most) h in (above least n p.0, below most n p.1)

address_small : (a : ℕ) → is_address a ≡ true → a < 256 ^ 8
address_small a h = let k = below 18446744073709551615 a h in omega (arith, k)

number_32 : (n : ℕ) → nat_le n 4294967295 ≡ true → n < 2 ^ 64
number_32 n h = let k = below 4294967295 n h in omega (arith, k)

number_16 : (n : ℕ) → nat_le n 65535 ≡ true → n < 2 ^ 64
number_16 n h = let k = below 65535 n h in omega (arith, k)

number_64 : (n : ℕ) → nat_le n 18446744073709551615 ≡ true → n < 2 ^ 64
number_64 n h = let k = below 18446744073709551615 n h in omega (arith, k)

byte_small : (n : ℕ) → is_byte n ≡ true → n < 256
byte_small n h = let k = below 255 n h in omega (arith, k)

bytes_small : (xs : List ℕ) → list_all is_byte xs ≡ true → IsBytes xs
bytes_small [] h i = omega arith
bytes_small (x ∷ xs) h zero = byte_small x (and_parts (is_byte x) (list_all is_byte xs) h).0
bytes_small (x ∷ xs) h (suc i) = bytes_small xs (and_parts (is_byte x) (list_all is_byte xs) h).1 i

-- ---- inputs

command_small : (f : CommandForm) → form_fits f ≡ true → IsCommand f
command_small form.Tur h = tt
command_small (form.Inquiry len) h = number_16 len h
command_small form.Capacity h = tt
command_small (form.Read lba blocks) h =
    let p = and_parts (nat_le lba 4294967295) (nat_le blocks 65535) h in (number_32 lba p.0, number_16 blocks p.1)
command_small (form.Write lba blocks fill) h =
    let p = and_parts (nat_le lba 4294967295 && nat_le blocks 65535) (is_byte fill) h in
    let q = and_parts (nat_le lba 4294967295) (nat_le blocks 65535) p.0 in (number_32 lba q.0, number_16 blocks q.1, byte_small fill p.1)
command_small (form.Read16 lba blocks) h =
    let p = and_parts (nat_le lba 18446744073709551615) (nat_le blocks 65535) h in (number_64 lba p.0, number_16 blocks p.1)
command_small (form.Write16 lba blocks fill) h =
    let p = and_parts (nat_le lba 18446744073709551615 && nat_le blocks 65535) (is_byte fill) h in
    let q = and_parts (nat_le lba 18446744073709551615) (nat_le blocks 65535) p.0 in (number_64 lba q.0, number_16 blocks q.1, byte_small fill p.1)
command_small (form.Raw cdb len) h =
    let p = and_parts (nat_le 1 (length cdb) && nat_le (length cdb) 32 && list_all is_byte cdb) (nat_le len 4294967295) h in
    let q = and_parts (nat_le 1 (length cdb) && nat_le (length cdb) 32) (list_all is_byte cdb) p.0 in (bytes_small cdb q.1, number_32 len p.1)

byte_number : (n : ℕ) → is_byte n ≡ true → n < 2 ^ 64
byte_number n h = let k = below 255 n h in omega (arith, k)

input_small : (i : Input) → input_fits i ≡ true → IsInput i
input_small input.Start h = tt
input_small (input.Submit n address f) h =
    let p = and_parts (nat_le n 4294967295 && is_address address) (form_fits f) h in
    let q = and_parts (nat_le n 4294967295) (is_address address) p.0 in (number_32 n q.0, address_small address q.1, command_small f p.1)
input_small (input.Abort n) h = number_32 n h
input_small (input.TargetReset address) h = address_small address h
input_small input.Reset h = tt
input_small input.UnitReset h = tt
input_small (input.Plug address expander phy) h =
    let p = and_parts (is_address address && is_byte expander) (is_byte phy) h in
    let q = and_parts (is_address address) (is_byte expander) p.0 in (address_small address q.0, byte_number expander q.1, byte_number phy p.1)
input_small (input.Unplug address) h = address_small address h

-- ---- an address among those that were declared

-- the address stands in the list
abbrev has : List ℕ → ℕ → Bool
has addresses address = list_any (λ a. a == address) addresses

equal_is : (k x : ℕ) → nat_cmp k x ≡ Equal → k ≡ x
equal_is k x e = exact_unsigned k x e

-- inserting a new one makes the list longer by one
longer : (xs : List ℕ) (k : ℕ) → has xs k ≡ false → length (insert_key nat_cmp xs k) ≡ length xs + 1
longer [] k h = refl
longer (x ∷ xs) k h = by_order (nat_cmp k x) refl (longer xs k (grind (arith, common_steps, h)))
  where
    by_order : (o : Ordering) → nat_cmp k x ≡ o → length (insert_key nat_cmp xs k) ≡ length xs + 1
        → length (match_ordering o (k ∷ x ∷ xs) (x ∷ xs) (x ∷ insert_key nat_cmp xs k)) ≡ length (x ∷ xs) + 1
    by_order Less e more = omega arith
    by_order Equal e more = let same = equal_is k x e in grind (arith, common_steps, h, same)
    by_order Greater e more = omega (arith, more)

-- an address stands in the longer list exactly where it is the new one or stood there
either : (xs : List ℕ) (k a : ℕ) → has (insert_key nat_cmp xs k) a ≡ ((k == a) || has xs a)
either [] k a = refl
either (x ∷ xs) k a = by_order (nat_cmp k x) refl (either xs k a)
  where
    by_order : (o : Ordering) → nat_cmp k x ≡ o → has (insert_key nat_cmp xs k) a ≡ ((k == a) || has xs a)
        → has (match_ordering o (k ∷ x ∷ xs) (x ∷ xs) (x ∷ insert_key nat_cmp xs k)) a ≡ ((k == a) || has (x ∷ xs) a)
    by_order Less e more = refl
    by_order Equal e more = let same = equal_is k x e in grind (arith, common_steps, same)
    by_order Greater e more = grind (arith, common_steps, more)

-- ---- what lines declare after what was declared

-- a disk of the address is among these
abbrev has_disk_in : List DiskSpec → ℕ → Bool
has_disk_in disks address = list_any (λ (d : DiskSpec). d.address == address) disks

-- the address was declared, or is declared by these lines
abbrev is_named : Declared → List ScriptLine → ℕ → Bool
is_named d lines address = has d.addresses address || has_disk_in (filter_map disk_in lines) address

-- the phys that were declared, and those that these lines declare
abbrev all_phys : Declared → List ScriptLine → List ℕ
all_phys d lines = d.phys ++ filter_map phys_in lines

-- an input names only what is declared
abbrev NamesDeclared : (ℕ → Bool) → List ℕ → Input → Type 0
NamesDeclared named phys (input.Plug address expander phy) = (named address ≡ true) × (phy < slice_index phys expander)
NamesDeclared named phys (input.Unplug address) = named address ≡ true
NamesDeclared named phys _ = Unit {0}

-- a line that is carried out has numbers that an input can have, and names only what is declared
abbrev NamesIn : (ℕ → Bool) → List ℕ → Line → Type 0
NamesIn named phys (Asked given) = IsInput given × NamesDeclared named phys given
NamesIn named phys (Stepped choice count) = Unit {0}
NamesIn named phys Drained = Unit {0}

-- what holds of allowed lines
record Declares (d : Declared) (lines : List ScriptLine) : Type 0 where
  new : All (λ (x : DiskSpec). has d.addresses x.address ≡ false) (filter_map disk_in lines)
  apart : AllPairs (λ (x y : DiskSpec). x.address ≢ y.address) (filter_map disk_in lines)
  addresses : All (λ (x : DiskSpec). x.address < 256 ^ 8) (filter_map disk_in lines)
  blocks : All (λ (x : DiskSpec). IsFromTo 1 1024 x.blocks) (filter_map disk_in lines)
  few_disks : length d.addresses ≤ 64 → length d.addresses + length (filter_map disk_in lines) ≤ 64
  phys : All (IsFromTo 1 22) (filter_map phys_in lines)
  few_phys : length d.phys ≤ 16 → length d.phys + length (filter_map phys_in lines) ≤ 16
  queues : All (IsFromTo 1 8) (filter_map queues_in lines)
  named : All (NamesIn (is_named d lines) (all_phys d lines)) (lines_of lines)

no_lines : (d : Declared) → Declares d []
no_lines d = record {
  new = All-nil _;
  apart = λ i j x l k. absurd (omega (arith, l, k));
  addresses = All-nil _;
  blocks = All-nil _;
  few_disks = λ h. omega (arith, h);
  phys = All-nil _;
  few_phys = λ h. omega (arith, h);
  queues = All-nil _;
  named = All-nil _;
}

-- a line that names less than others do
more_named : (one two : ℕ → Bool) (phys : List ℕ) → ((a : ℕ) → one a ≡ true → two a ≡ true) → (l : Line) → NamesIn one phys l → NamesIn two phys l
more_named one two phys f (Asked given) h = (h.0, by_input given h.1)
  where
    by_input : (i : Input) → NamesDeclared one phys i → NamesDeclared two phys i
    by_input input.Start h = tt
    by_input (input.Submit n address form) h = tt
    by_input (input.Abort n) h = tt
    by_input (input.TargetReset address) h = tt
    by_input input.Reset h = tt
    by_input input.UnitReset h = tt
    by_input (input.Plug address expander phy) h = (f address h.0, h.1)
    by_input (input.Unplug address) h = f address h
more_named one two phys f (Stepped choice count) h = tt
more_named one two phys f Drained h = tt

-- a disk before allowed lines
disk_first : (d : Declared) (x : DiskSpec) (lines : List ScriptLine) → line_fits (line.Disk x) ≡ true → is_unrefused d (statement.Disk x) ≡ true
    → Declares (after d (line.Disk x)) lines → Declares d (line.Disk x ∷ lines)
disk_first d x lines fits free rest =
    let address = and_parts (is_address x.address && nat_le 1 x.blocks) (nat_le x.blocks 1024) fits in
    let least = and_parts (is_address x.address) (nat_le 1 x.blocks) address.0 in
    let new : has d.addresses x.address ≡ false = grind (arith, common_steps, free) in
    let room : length d.addresses < 64 = grind (arith, common_steps, free) in
    let one_more = longer d.addresses x.address new in
    let old : (a : ℕ) → has (insert_key nat_cmp d.addresses x.address) a ≡ false → (x.address ≢ a) × (has d.addresses a ≡ false) = λ a h. apart_from x.address a (has d.addresses a) (sym (either d.addresses x.address a) ∙ h) in
    let more = rest.few_disks in
    record {
      new = All-cons (λ (y : DiskSpec). has d.addresses y.address ≡ false) x (filter_map disk_in lines) new (λ k e l. (old (slice_index_or (filter_map disk_in lines) k e).address (rest.new k e l)).1);
      apart = AllPairs-cons (λ (y z : DiskSpec). y.address ≢ z.address) x (filter_map disk_in lines) (λ k e l. (old (slice_index_or (filter_map disk_in lines) k e).address (rest.new k e l)).0) rest.apart;
      addresses = All-cons (λ (y : DiskSpec). y.address < 256 ^ 8) x (filter_map disk_in lines) (address_small x.address least.0) rest.addresses;
      blocks = All-cons (λ (y : DiskSpec). IsFromTo 1 1024 y.blocks) x (filter_map disk_in lines) (above 1 x.blocks least.1, below 1024 x.blocks address.1) rest.blocks;
      few_disks = λ h. let k = more (omega (arith, one_more, room)) in omega (arith, one_more, k);
      phys = rest.phys;
      few_phys = rest.few_phys;
      queues = rest.queues;
      named = λ k e l.
          more_named (is_named (after d (line.Disk x)) lines) (is_named d (line.Disk x ∷ lines)) (all_phys d lines) (λ a h. still a h)
          (slice_index_or (lines_of lines) k e) (rest.named k e l);
    }
  where
    apart_from : (k a : ℕ) (b : Bool) → ((k == a) || b) ≡ false → (k ≢ a) × (b ≡ false)
    apart_from k a b h = ((λ same. grind (arith, common_steps, h, same)), grind (arith, common_steps, h))

    still : (a : ℕ) → is_named (after d (line.Disk x)) lines a ≡ true → is_named d (line.Disk x ∷ lines) a ≡ true
    still a h = let e = either d.addresses x.address a in grind (arith, common_steps, h, e)

-- an expander before allowed lines
expander_first : (d : Declared) (phys : ℕ) (lines : List ScriptLine) → line_fits (line.Expander phys) ≡ true
    → is_unrefused d (statement.Expander (length d.phys) phys) ≡ true → Declares (after d (line.Expander phys)) lines → Declares d (line.Expander phys ∷ lines)
expander_first d phys lines fits free rest =
    let room : length d.phys < 16 = grind (arith, common_steps, free) in
    let one_more : length (d.phys ++ phys ∷ []) ≡ length d.phys + 1 = length-append d.phys (phys ∷ []) in
    let more = rest.few_phys in
    record {
      new = rest.new;
      apart = rest.apart;
      addresses = rest.addresses;
      blocks = rest.blocks;
      few_disks = rest.few_disks;
      phys = All-cons (IsFromTo 1 22) phys (filter_map phys_in lines) (between 1 22 phys fits) rest.phys;
      few_phys = λ h. let k = more (omega (arith, one_more, room)) in omega (arith, one_more, k);
      queues = rest.queues;
      named = subst (λ all. All (NamesIn (is_named d lines) all) (lines_of lines)) (append_assoc d.phys (phys ∷ []) (filter_map phys_in lines)) rest.named;
    }

-- the phy that was declared is among all
phy_stays : (xs ys : List ℕ) (expander phy : ℕ) → (nat_lt expander (length xs) && nat_lt phy (slice_index xs expander)) ≡ true → phy < slice_index (xs ++ ys) expander
phy_stays [] ys expander phy h = absurd (grind (arith, common_steps, h))
phy_stays (x ∷ xs) ys zero phy h = let p = and_parts (nat_lt 0 (length (x ∷ xs))) (nat_lt phy x) h in grind (arith, common_steps, p)
phy_stays (x ∷ xs) ys (suc expander) phy h =
    let p = and_parts (nat_lt (suc expander) (length (x ∷ xs))) (nat_lt phy (slice_index xs expander)) h in
    let inside : nat_lt expander (length xs) ≡ true = let k = p.0 in grind (arith, common_steps, k) in
    phy_stays xs ys expander phy (rw (inside, p.1) refl)

-- an input before allowed lines
input_first : (d : Declared) (i : Input) (lines : List ScriptLine) → input_fits i ≡ true → is_unrefused d (statement_of d (line.Input i)) ≡ true
    → Declares (after d (line.Input i)) lines → Declares d (line.Input i ∷ lines)
input_first d i lines fits free rest =
    record {
      new = rest.new;
      apart = rest.apart;
      addresses = rest.addresses;
      blocks = rest.blocks;
      few_disks = rest.few_disks;
      phys = rest.phys;
      few_phys = rest.few_phys;
      queues = rest.queues;
      named = All-cons (NamesIn (is_named d lines) (all_phys d lines)) (Asked i) (lines_of lines) (input_small i fits, by_input i free) rest.named;
    }
  where
    by_input : (g : Input) → is_unrefused d (statement_of d (line.Input g)) ≡ true → NamesDeclared (is_named d lines) (all_phys d lines) g
    by_input input.Start h = tt
    by_input (input.Submit n address form) h = tt
    by_input (input.Abort n) h = tt
    by_input (input.TargetReset address) h = tt
    by_input input.Reset h = tt
    by_input input.UnitReset h = tt
    by_input (input.Plug address expander phy) h =
        let known : (has d.addresses address && has_phy d expander phy) ≡ true = grind (arith, common_steps, h) in
        let p = and_parts (has d.addresses address) (has_phy d expander phy) known in
        (rw (p.0) refl, phy_stays d.phys (filter_map phys_in lines) expander phy p.1)
    by_input (input.Unplug address) h = let known : has d.addresses address ≡ true = grind (arith, common_steps, h) in rw known refl

-- a line that declares nothing that is asked for, before allowed lines
other_first : (d : Declared) (l : Line) (lines : List ScriptLine) → NamesIn (is_named d lines) (all_phys d lines) l → Declares d lines
    → All (NamesIn (is_named d lines) (all_phys d lines)) (l ∷ lines_of lines)
other_first d l lines h rest = All-cons (NamesIn (is_named d lines) (all_phys d lines)) l (lines_of lines) h rest.named

declares : (d : Declared) (lines : List ScriptLine) → are_allowed d lines ≡ true → Declares d lines
unfolding are_allowed
declares d [] h = no_lines d
declares d (line.Queues queues ∷ lines) h =
    let p = and_parts (line_fits (line.Queues queues) && is_unrefused d (statement.Queues queues)) (are_allowed (after d (line.Queues queues)) lines) h in
    let q = and_parts (line_fits (line.Queues queues)) (is_unrefused d (statement.Queues queues)) p.0 in
    let rest = declares (after d (line.Queues queues)) lines p.1 in
    record {
      new = rest.new;
      apart = rest.apart;
      addresses = rest.addresses;
      blocks = rest.blocks;
      few_disks = rest.few_disks;
      phys = rest.phys;
      few_phys = rest.few_phys;
      queues = All-cons (IsFromTo 1 8) queues (filter_map queues_in lines) (between 1 8 queues q.0) rest.queues;
      named = rest.named;
    }
declares d (line.Disk x ∷ lines) h =
    let p = and_parts (line_fits (line.Disk x) && is_unrefused d (statement.Disk x)) (are_allowed (after d (line.Disk x)) lines) h in
    let q = and_parts (line_fits (line.Disk x)) (is_unrefused d (statement.Disk x)) p.0 in
    disk_first d x lines q.0 q.1 (declares (after d (line.Disk x)) lines p.1)
declares d (line.Expander phys ∷ lines) h =
    let p = and_parts (line_fits (line.Expander phys) && is_unrefused d (statement.Expander (length d.phys) phys)) (are_allowed (after d (line.Expander phys)) lines) h in
    let q = and_parts (line_fits (line.Expander phys)) (is_unrefused d (statement.Expander (length d.phys) phys)) p.0 in
    expander_first d phys lines q.0 q.1 (declares (after d (line.Expander phys)) lines p.1)
declares d (line.Input i ∷ lines) h =
    let p = and_parts (input_fits i && is_unrefused d (statement_of d (line.Input i))) (are_allowed (after d (line.Input i)) lines) h in
    let q = and_parts (input_fits i) (is_unrefused d (statement_of d (line.Input i))) p.0 in
    input_first d i lines q.0 q.1 (declares (after d (line.Input i)) lines p.1)
declares d (line.Choice choice count ∷ lines) h =
    let p = and_parts (line_fits (line.Choice choice count) && is_unrefused d (statement.Choice choice count)) (are_allowed (after d (line.Choice choice count)) lines) h in
    let rest = declares (after d (line.Choice choice count)) lines p.1 in
    record {
      new = rest.new;
      apart = rest.apart;
      addresses = rest.addresses;
      blocks = rest.blocks;
      few_disks = rest.few_disks;
      phys = rest.phys;
      few_phys = rest.few_phys;
      queues = rest.queues;
      named = All-cons (NamesIn (is_named d lines) (all_phys d lines)) (Stepped choice count) (lines_of lines) tt rest.named;
    }
declares d (line.Drain ∷ lines) h =
    let p = and_parts (line_fits line.Drain && is_unrefused d statement.Drain) (are_allowed (after d line.Drain) lines) h in
    let rest = declares (after d line.Drain) lines p.1 in
    record {
      new = rest.new;
      apart = rest.apart;
      addresses = rest.addresses;
      blocks = rest.blocks;
      few_disks = rest.few_disks;
      phys = rest.phys;
      few_phys = rest.few_phys;
      queues = rest.queues;
      named = All-cons (NamesIn (is_named d lines) (all_phys d lines)) Drained (lines_of lines) tt rest.named;
    }

-- ---- from nothing declared

one_queue : (qs : List ℕ) → All (IsFromTo 1 8) qs → IsFromTo 1 8 (get_or qs 0 1)
one_queue [] a = (omega arith, omega arith)
one_queue (q ∷ qs) a = a 0 q (omega arith)

line_of_setting : (lines : List ScriptLine) (l : Line) → NamesIn (is_named nothing_declared lines) (all_phys nothing_declared lines) l → IsLine (setting_of lines) l
line_of_setting lines (Asked given) h = (h.0, by_input given h.1)
  where
    by_input : (i : Input) → NamesDeclared (is_named nothing_declared lines) (all_phys nothing_declared lines) i → Rattle.mpt_rules.specs.World.Settings.NamesWhatIsThere (setting_of lines) i
    by_input input.Start h = tt
    by_input (input.Submit n address form) h = tt
    by_input (input.Abort n) h = tt
    by_input (input.TargetReset address) h = tt
    by_input input.Reset h = tt
    by_input input.UnitReset h = tt
    by_input (input.Plug address expander phy) h = h
    by_input (input.Unplug address) h = h
line_of_setting lines (Stepped choice count) h = tt
line_of_setting lines Drained h = tt

pub keeps_limits : (lines : List ScriptLine) → IsTrue (is_schedule lines) → KeepsLimits lines
keeps_limits lines allowed =
    let f = declares nothing_declared lines allowed in
    record {
      setting = record {
        few_disks = let k = f.few_disks (omega arith) in omega (arith, k);
        addresses = f.addresses;
        apart = f.apart;
        blocks = f.blocks;
        few_expanders = let k = f.few_phys (omega arith) in omega (arith, k);
        phys = f.phys;
        few_queues = one_queue (filter_map queues_in lines) f.queues;
      };
      lines = λ k e l. line_of_setting lines (slice_index_or (lines_of lines) k e) (f.named k e l);
    }
