-- What reads as a command or a statement keeps its ranges.
use Rattle.std.proofs.Common.{◌≡◌, ℕ, suc, ◌/◌, ◌%◌, ◌<◌, ◌≤◌, ◌==◌, ◌&&◌, nat_le, Bool, true, false, cond, List, [], ◌∷◌, ◌++◌, find, length, Some, Result, Ok, Err, refl, sym, ◌∙◌, subst, arith, bytes_eq}
use Rattle.std.specs.List.{list_all}
use Rattle.std.proofs.lemmas.Bool.{and_parts}
use Rattle.std.proofs.lemmas.Grind.{common_steps}
use Rattle.hex.specs.declared.error.FromHexError.{FromHexError}
use Rattle.hex.specs.Hex.{IsBytes, decode_sized}
use Rattle.hex.proofs.HexLemmas.{decode_of-ok, decode_sized-ok, decode_sized-twice}
use Rattle.mpt_lines.specs.declared.fault.Cause.{Cause}
use Rattle.mpt_lines.specs.declared.fault.Cause.TheVariants.{Form, Range}
use Rattle.mpt_lines.specs.declared.statement.Statement.{Statement}
use Rattle.mpt_lines.specs.declared.statement.Statement.TheVariants as statement
use Rattle.mpt_lines.specs.Commands.{capacity, command, commands, extent, filled_extent, inquiry, raw, read, read16, tur, write, write16}
use Rattle.mpt_lines.specs.Numbers.{address, byte, cdb, checked_bytes, digits, formed, is_bytes, number, within, ◌>>=◌}
use Rattle.mpt_lines.specs.Statements.{abort, counted, disk, drain, expander, fabric_run, host_take_on, ioc_put_on, on_queue, optional_count, plug, queues, reset, schedule_line, schedule_words, shared_words, start, submit, treset, unit, unplug}
use Rattle.mpt_lines.specs.Words.{Keyword, nothing, one, read_by, read_with, three, two}
use Rattle.mpt_trace.specs.declared.choice.Choice.{Choice}
use Rattle.mpt_trace.specs.declared.choice.Choice.TheVariants as choice
use Rattle.mpt_trace.specs.declared.command_form.CommandForm.{CommandForm}
use Rattle.mpt_trace.specs.declared.command_form.CommandForm.TheVariants as form
use Rattle.mpt_trace.specs.declared.input.Input.TheVariants as input
use Rattle.mpt_script.specs.Allowed.{choice_fits, form_fits, is_address, is_byte, is_count, is_queue, statement_fits}

-- a step that went on
pub bind_ok : {A B : Type 0} (r : Result A Cause) (f : A → Result B Cause) (y : B) → (r >>= f) ≡ Ok y → (x : A) × (r ≡ Ok x) × (f x ≡ Ok y)
bind_ok (Ok x) f y e = (x, refl, e)
bind_ok (Err cause) f y e = cc

pub ok_value : {A : Type 0} (x y : A) → (let r : Result A Cause = Ok x in r) ≡ Ok y → x ≡ y
ok_value x y e = cc

-- a refusal is no value
pub refused : {A : Type 0} (cause : Cause) (v : A) (P : Type 0) → (let r : Result A Cause = Err cause in r) ≡ Ok v → P
refused cause v P e = cc

-- what the words after a keyword say is so
abbrev pub Keeps : {A : Type 0} → (A → Type 0) → Keyword A → Type 0
Keeps {A} P k = (ws : List (List ℕ)) (v : A) → k.reads ws ≡ Ok v → P v

-- so it is of each keyword
abbrev pub EachKeeps : {A : Type 0} → (A → Type 0) → List (Keyword A) → Type 0
EachKeeps P [] = Unit {0}
EachKeeps P (k ∷ ks) = Keeps P k × EachKeeps P ks

-- what a line says by its first word is so, where it is so of each keyword
pub read_keeps : {A : Type 0} (P : A → Type 0) (keywords : List (Keyword A)) → EachKeeps P keywords → (ws : List (List ℕ)) (v : A) → read_by keywords ws ≡ Ok v → P v
read_keeps P keywords all [] v e = refused Form v _ e
read_keeps P [] all (word ∷ others) v e = refused Form v _ e
read_keeps P (k ∷ ks) all (word ∷ others) v e = by_word (bytes_eq word k.word) e (λ f. read_keeps P ks all.1 (word ∷ others) v f)
  where
    by_word : (b : Bool) → read_with (cond b (Some k) (find (λ j. bytes_eq word j.word) ks)) others ≡ Ok v → (read_by ks (word ∷ others) ≡ Ok v → P v) → P v
    by_word true e rest = all.0 others v e
    by_word false e rest = rest e

chosen : {A : Type 0} (b : Bool) (x y : A) (cause : Cause) → cond b (Ok x) (Err cause) ≡ Ok y → (b ≡ true) × (x ≡ y)
chosen true x y cause e = (refl, cc)
chosen false x y cause e = cc

-- a number in its range
within_ok : (low high n v : ℕ) → within low high n ≡ Ok v → (nat_le low v && nat_le v high) ≡ true
within_ok low high n v e =
    let c = chosen (nat_le low n && nat_le n high) n v Range e in
    subst (λ (m : ℕ). (nat_le low m && nat_le m high) ≡ true) c.1 c.0

most_ok : (high n v : ℕ) → within 0 high n ≡ Ok v → nat_le v high ≡ true
most_ok high n v e = (and_parts (nat_le 0 v) (nat_le v high) (within_ok 0 high n v e)).1

-- bytes that digits named
formed_ok : (r : Result (List ℕ) FromHexError) (bytes : List ℕ) → formed r ≡ Ok bytes → r ≡ Ok bytes
formed_ok (Ok bytes) found e = cc
formed_ok (Err fault) found e = cc

digits_ok : (n : ℕ) (word bytes : List ℕ) → digits n word ≡ Ok bytes → (length bytes ≡ n) × IsBytes bytes
digits_ok n word bytes e =
    let sized = formed_ok (decode_sized word n) bytes e in
    let len = decode_sized-ok word n bytes sized in
    let ok = decode_of-ok word bytes (sym (decode_sized-twice word n len) ∙ sized) in
    (omega (arith, len, ok.2), ok.3)

address_ok : (word : List ℕ) (a : ℕ) → address word ≡ Ok a → is_address a ≡ true
address_ok word a e =
    let found = bind_ok (digits 8 word) _ a e in
    let bytes = (digits_ok 8 word found.0 found.1).1 in
    let b0 = bytes 0 in let b1 = bytes 1 in let b2 = bytes 2 in let b3 = bytes 3 in let b4 = bytes 4 in let b5 = bytes 5 in let b6 = bytes 6 in let b7 = bytes 7 in
    let value = ok_value _ a found.2 in
    let small : a ≤ 18446744073709551615 = omega (arith, value, b0, b1, b2, b3, b4, b5, b6, b7) in
    grind (arith, common_steps, small)

byte_ok : (word : List ℕ) (b : ℕ) → byte word ≡ Ok b → is_byte b ≡ true
byte_ok word b e =
    let found = bind_ok (digits 1 word) _ b e in
    let b0 = (digits_ok 1 word found.0 found.1).1 0 in
    let value = ok_value _ b found.2 in
    let small : b ≤ 255 = omega (arith, value, b0) in
    grind (arith, common_steps, small)

all_bytes : (xs : List ℕ) → IsBytes xs → list_all is_byte xs ≡ true
all_bytes [] h = refl
all_bytes (x ∷ xs) h =
    let here : x < 256 = h 0 in
    let small : is_byte x ≡ true = grind (arith, common_steps, here) in
    rw (small, all_bytes xs (λ i. h (suc i))) refl

-- ---- commands

fits_form : (f g : CommandForm) → (let r : Result CommandForm Cause = Ok f in r) ≡ Ok g → form_fits f ≡ true → form_fits g ≡ true
fits_form f g e h = subst (λ (k : CommandForm). form_fits k ≡ true) (ok_value f g e) h

tur_fits : (ws : List (List ℕ)) (f : CommandForm) → tur ws ≡ Ok f → form_fits f ≡ true
tur_fits ws f e = fits_form form.Tur f (bind_ok (nothing ws) _ f e).2 refl

capacity_fits : (ws : List (List ℕ)) (f : CommandForm) → capacity ws ≡ Ok f → form_fits f ≡ true
capacity_fits ws f e = fits_form form.Capacity f (bind_ok (nothing ws) _ f e).2 refl

inquiry_fits : (ws : List (List ℕ)) (f : CommandForm) → inquiry ws ≡ Ok f → form_fits f ≡ true
inquiry_fits ws f e =
    let w = bind_ok (one ws) _ f e in
    let n = bind_ok (number w.0) _ f w.2 in
    let l = bind_ok (within 0 65535 n.0) _ f n.2 in
    fits_form (form.Inquiry l.0) f l.2 (most_ok 65535 n.0 l.0 l.1)

-- the first block and the count of a transfer keep their ranges
extent_ok : (most : ℕ) (ws : List (List ℕ)) (e : ℕ × ℕ) → extent most ws ≡ Ok e → (nat_le e.0 most ≡ true) × (nat_le e.1 65535 ≡ true)
extent_ok most ws e is =
    let w = bind_ok (two ws) _ e is in
    let m = bind_ok (number w.0.0) _ e w.2 in
    let n = bind_ok (number w.0.1) _ e m.2 in
    let k = bind_ok (within 0 most m.0) _ e n.2 in
    let l = bind_ok (within 0 65535 n.0) _ e k.2 in
    subst (λ (r : ℕ × ℕ). (nat_le r.0 most ≡ true) × (nat_le r.1 65535 ≡ true)) (ok_value (k.0, l.0) e l.2) (most_ok most m.0 k.0 k.1, most_ok 65535 n.0 l.0 l.1)

filled_extent_ok : (most : ℕ) (ws : List (List ℕ)) (e : ℕ × ℕ × ℕ) → filled_extent most ws ≡ Ok e → (nat_le e.0 most ≡ true) × (nat_le e.1 65535 ≡ true) × (is_byte e.2 ≡ true)
filled_extent_ok most ws e is =
    let w = bind_ok (three ws) _ e is in
    let m = bind_ok (number w.0.0) _ e w.2 in
    let n = bind_ok (number w.0.1) _ e m.2 in
    let b = bind_ok (byte w.0.2) _ e n.2 in
    let k = bind_ok (within 0 most m.0) _ e b.2 in
    let l = bind_ok (within 0 65535 n.0) _ e k.2 in
    subst (λ (r : ℕ × ℕ × ℕ). (nat_le r.0 most ≡ true) × (nat_le r.1 65535 ≡ true) × (is_byte r.2 ≡ true)) (ok_value (k.0, l.0, b.0) e l.2)
    (most_ok most m.0 k.0 k.1, most_ok 65535 n.0 l.0 l.1, byte_ok w.0.2 b.0 b.1)

read_fits : (ws : List (List ℕ)) (f : CommandForm) → read ws ≡ Ok f → form_fits f ≡ true
read_fits ws f e =
    let x = bind_ok (extent 4294967295 ws) _ f e in
    let r = extent_ok 4294967295 ws x.0 x.1 in
    fits_form (form.Read x.0.0 x.0.1) f x.2 (rw (r.0, r.1) refl)

read16_fits : (ws : List (List ℕ)) (f : CommandForm) → read16 ws ≡ Ok f → form_fits f ≡ true
read16_fits ws f e =
    let x = bind_ok (extent 18446744073709551615 ws) _ f e in
    let r = extent_ok 18446744073709551615 ws x.0 x.1 in
    fits_form (form.Read16 x.0.0 x.0.1) f x.2 (rw (r.0, r.1) refl)

write_fits : (ws : List (List ℕ)) (f : CommandForm) → write ws ≡ Ok f → form_fits f ≡ true
write_fits ws f e =
    let x = bind_ok (filled_extent 4294967295 ws) _ f e in
    let r = filled_extent_ok 4294967295 ws x.0 x.1 in
    fits_form (form.Write x.0.0 x.0.1 x.0.2) f x.2 (rw (r.0, r.1, r.2) refl)

write16_fits : (ws : List (List ℕ)) (f : CommandForm) → write16 ws ≡ Ok f → form_fits f ≡ true
write16_fits ws f e =
    let x = bind_ok (filled_extent 18446744073709551615 ws) _ f e in
    let r = filled_extent_ok 18446744073709551615 ws x.0 x.1 in
    fits_form (form.Write16 x.0.0 x.0.1 x.0.2) f x.2 (rw (r.0, r.1, r.2) refl)

cdb_ok : (word block : List ℕ) (done : Unit) → checked_bytes word ≡ Ok done → cdb word ≡ Ok block → (nat_le 1 (length block) && nat_le (length block) 32 && list_all is_byte block) ≡ true
cdb_ok word block done c e = in_room (nat_le (length word / 2) 32) refl e
  where
    shape : is_bytes word ≡ true
    shape = (chosen (is_bytes word) tt done Form c).0

    in_room : (room : Bool) → nat_le (length word / 2) 32 ≡ room → cond room (digits (length word / 2) word) (Err Range) ≡ Ok block → (nat_le 1 (length block) && nat_le (length block) 32 && list_all is_byte block) ≡ true
    in_room false is e = cc
    in_room true is e =
        let ok = digits_ok (length word / 2) word block e in
        let long = (and_parts (nat_le 1 (length word)) (length word % 2 == 0) (and_parts (nat_le 1 (length word) && (length word % 2 == 0)) _ shape).0) in
        let same = ok.0 in
        let some : nat_le 1 (length block) ≡ true = grind (arith, common_steps, same, long.0, long.1) in
        let short : nat_le (length block) 32 ≡ true = rw same is in
        rw (some, short, all_bytes block ok.1) refl

raw_fits : (ws : List (List ℕ)) (f : CommandForm) → raw ws ≡ Ok f → form_fits f ≡ true
raw_fits ws f e =
    let w = bind_ok (two ws) _ f e in
    let c = bind_ok (checked_bytes w.0.0) _ f w.2 in
    let n = bind_ok (number w.0.1) _ f c.2 in
    let b = bind_ok (cdb w.0.0) _ f n.2 in
    let l = bind_ok (within 0 4294967295 n.0) _ f b.2 in
    fits_form (form.Raw b.0 l.0) f l.2 (rw (cdb_ok w.0.0 b.0 c.0 c.1 b.1, most_ok 4294967295 n.0 l.0 l.1) refl)

pub command_fits : (ws : List (List ℕ)) (f : CommandForm) → command ws ≡ Ok f → form_fits f ≡ true
command_fits =
    read_keeps (λ (f : CommandForm). form_fits f ≡ true) commands (tur_fits, (inquiry_fits, (capacity_fits, (read_fits, (write_fits, (read16_fits, (write16_fits, (raw_fits, tt))))))))

-- ---- statements

fits_said : (f g : Statement) → (let r : Result Statement Cause = Ok f in r) ≡ Ok g → statement_fits f ≡ true → statement_fits g ≡ true
fits_said f g e h = subst (λ (k : Statement). statement_fits k ≡ true) (ok_value f g e) h

pub queues_fits : (ws : List (List ℕ)) (s : Statement) → queues ws ≡ Ok s → statement_fits s ≡ true
queues_fits ws s e =
    let w = bind_ok (one ws) _ s e in
    let n = bind_ok (number w.0) _ s w.2 in
    let q = bind_ok (within 1 8 n.0) _ s n.2 in
    fits_said (statement.Queues q.0) s q.2 (within_ok 1 8 n.0 q.0 q.1)

pub disk_fits : (ws : List (List ℕ)) (s : Statement) → disk ws ≡ Ok s → statement_fits s ≡ true
disk_fits ws s e =
    let w = bind_ok (two ws) _ s e in
    let a = bind_ok (address w.0.0) _ s w.2 in
    let n = bind_ok (number w.0.1) _ s a.2 in
    let b = bind_ok (within 1 1024 n.0) _ s n.2 in
    let range = and_parts (nat_le 1 b.0) (nat_le b.0 1024) (within_ok 1 1024 n.0 b.0 b.1) in
    fits_said (statement.Disk (record { address = a.0; blocks = b.0 })) s b.2 (rw (address_ok w.0.0 a.0 a.1, range.0, range.1) refl)

pub expander_fits : (ws : List (List ℕ)) (s : Statement) → expander ws ≡ Ok s → statement_fits s ≡ true
expander_fits ws s e =
    let w = bind_ok (two ws) _ s e in
    let m = bind_ok (number w.0.0) _ s w.2 in
    let n = bind_ok (number w.0.1) _ s m.2 in
    let p = bind_ok (within 1 22 n.0) _ s n.2 in
    fits_said (statement.Expander m.0 p.0) s p.2 (within_ok 1 22 n.0 p.0 p.1)

pub plug_fits : (ws : List (List ℕ)) (s : Statement) → plug ws ≡ Ok s → statement_fits s ≡ true
plug_fits ws s e =
    let w = bind_ok (three ws) _ s e in
    let a = bind_ok (address w.0.0) _ s w.2 in
    let m = bind_ok (number w.0.1) _ s a.2 in
    let n = bind_ok (number w.0.2) _ s m.2 in
    fits_said (statement.Plug a.0 m.0 n.0) s n.2 (address_ok w.0.0 a.0 a.1)

pub unplug_fits : (ws : List (List ℕ)) (s : Statement) → unplug ws ≡ Ok s → statement_fits s ≡ true
unplug_fits ws s e =
    let w = bind_ok (one ws) _ s e in
    let a = bind_ok (address w.0) _ s w.2 in
    fits_said (statement.Unplug a.0) s a.2 (address_ok w.0 a.0 a.1)

pub treset_fits : (ws : List (List ℕ)) (s : Statement) → treset ws ≡ Ok s → statement_fits s ≡ true
treset_fits ws s e =
    let w = bind_ok (one ws) _ s e in
    let a = bind_ok (address w.0) _ s w.2 in
    fits_said (statement.Host (input.TargetReset a.0)) s a.2 (address_ok w.0 a.0 a.1)

pub submit_fits : (ws : List (List ℕ)) (s : Statement) → submit ws ≡ Ok s → statement_fits s ≡ true
submit_fits [] s e = refused Form s _ e
submit_fits (first ∷ []) s e = refused Form s _ e
submit_fits (first ∷ second ∷ others) s e =
    let m = bind_ok (number first) _ s e in
    let a = bind_ok (address second) _ s m.2 in
    let f = bind_ok (command others) _ s a.2 in
    let n = bind_ok (within 0 4294967295 m.0) _ s f.2 in
    fits_said (statement.Host (input.Submit n.0 a.0 f.0)) s n.2 (rw (most_ok 4294967295 m.0 n.0 n.1, address_ok second a.0 a.1, command_fits others f.0 f.1) refl)

pub abort_fits : (ws : List (List ℕ)) (s : Statement) → abort ws ≡ Ok s → statement_fits s ≡ true
abort_fits ws s e =
    let w = bind_ok (one ws) _ s e in
    let m = bind_ok (number w.0) _ s w.2 in
    let n = bind_ok (within 0 4294967295 m.0) _ s m.2 in
    fits_said (statement.Host (input.Abort n.0)) s n.2 (most_ok 4294967295 m.0 n.0 n.1)

fabric_run_fits : (ws : List (List ℕ)) (s : Statement) → fabric_run ws ≡ Ok s → statement_fits s ≡ true
fabric_run_fits ws s e =
    let w = bind_ok (one ws) _ s e in
    let m = bind_ok (number w.0) _ s w.2 in
    let n = bind_ok (within 0 65535 m.0) _ s m.2 in
    fits_said (statement.Choice (choice.FabricRun n.0) 1) s n.2 (rw (most_ok 65535 m.0 n.0 n.1) refl)

counted_fits : (c : Choice) → ((count : ℕ) → choice_fits c count ≡ is_count count) → (ws : List (List ℕ)) (s : Statement) → counted c ws ≡ Ok s → statement_fits s ≡ true
counted_fits c plain ws s e =
    let m = bind_ok (optional_count ws) _ s e in
    let n = bind_ok (within 1 64 m.0) _ s m.2 in
    fits_said (statement.Choice c n.0) s n.2 (plain n.0 ∙ within_ok 1 64 m.0 n.0 n.1)

on_queue_ok : (ws : List (List ℕ)) (q : ℕ × ℕ) → on_queue ws ≡ Ok q → (is_queue q.0 && is_count q.1) ≡ true
on_queue_ok [] q e = refused Form q _ e
on_queue_ok (word ∷ others) q e =
    let i = bind_ok (number word) _ q e in
    let t = bind_ok (optional_count others) _ q i.2 in
    let k = bind_ok (within 1 7 i.0) _ q t.2 in
    let n = bind_ok (within 1 64 t.0) _ q k.2 in
    let same : (k.0, n.0) ≡ q = ok_value (k.0, n.0) q n.2 in
    subst (λ (r : ℕ × ℕ). (is_queue r.0 && is_count r.1) ≡ true) same (rw (within_ok 1 7 i.0 k.0 k.1, within_ok 1 64 t.0 n.0 n.1) refl)

ioc_put_on_fits : (ws : List (List ℕ)) (s : Statement) → ioc_put_on ws ≡ Ok s → statement_fits s ≡ true
ioc_put_on_fits ws s e =
    let q = bind_ok (on_queue ws) _ s e in
    fits_said (statement.Choice (choice.IocPutOn q.0.0) q.0.1) s q.2 (on_queue_ok ws q.0 q.1)

host_take_on_fits : (ws : List (List ℕ)) (s : Statement) → host_take_on ws ≡ Ok s → statement_fits s ≡ true
host_take_on_fits ws s e =
    let q = bind_ok (on_queue ws) _ s e in
    fits_said (statement.Choice (choice.HostTakeOn q.0.0) q.0.1) s q.2 (on_queue_ok ws q.0 q.1)

start_fits : (ws : List (List ℕ)) (s : Statement) → start ws ≡ Ok s → statement_fits s ≡ true
start_fits ws s e = fits_said (statement.Host input.Start) s (bind_ok (nothing ws) _ s e).2 refl

pub reset_fits : (ws : List (List ℕ)) (s : Statement) → reset ws ≡ Ok s → statement_fits s ≡ true
reset_fits ws s e = fits_said (statement.Host input.Reset) s (bind_ok (nothing ws) _ s e).2 refl

unit_fits : (ws : List (List ℕ)) (s : Statement) → unit ws ≡ Ok s → statement_fits s ≡ true
unit_fits ws s e = fits_said (statement.Host input.UnitReset) s (bind_ok (nothing ws) _ s e).2 refl

drain_fits : (ws : List (List ℕ)) (s : Statement) → drain ws ≡ Ok s → statement_fits s ≡ true
drain_fits ws s e = fits_said (statement.Drain) s (bind_ok (nothing ws) _ s e).2 refl

-- what a line of a schedule says keeps its ranges
pub schedule_line_fits : (ws : List (List ℕ)) (s : Statement) → schedule_line ws ≡ Ok s → statement_fits s ≡ true
schedule_line_fits =
    read_keeps (λ (s : Statement). statement_fits s ≡ true) (schedule_words ++ shared_words) (
      start_fits,
      (
        unit_fits,
        (
          drain_fits,
          (
            counted_fits choice.HostPut (λ n. refl),
            (
              counted_fits choice.HostTake (λ n. refl),
              (
                host_take_on_fits,
                (
                  counted_fits choice.IocTake (λ n. refl),
                  (
                    counted_fits choice.IocHigh (λ n. refl),
                    (
                      counted_fits choice.IocNormal (λ n. refl),
                      (
                        counted_fits choice.IocOut (λ n. refl),
                        (
                          counted_fits choice.IocBack (λ n. refl),
                          (
                            counted_fits choice.IocPut (λ n. refl),
                            (
                              ioc_put_on_fits,
                              (
                                counted_fits choice.FabricTake (λ n. refl),
                                (
                                  fabric_run_fits,
                                  (
                                    counted_fits choice.FabricSay (λ n. refl),
                                    (
                                      counted_fits choice.FabricPut (λ n. refl),
                                      (queues_fits, (disk_fits, (expander_fits, (plug_fits, (unplug_fits, (reset_fits, (treset_fits, (submit_fits, (abort_fits, tt))))))))),
                                    ),
                                  ),
                                ),
                              ),
                            ),
                          ),
                        ),
                      ),
                    ),
                  ),
                ),
              ),
            ),
          ),
        ),
      ),
    )
