-- Each printed line reads as the statement that it is.
use Rattle.std.proofs.Common.{append-nil, ◌≡◌, ℕ, zero, suc, ◌^◌, ◌<◌, ◌≤◌, ◌==◌, ◌&&◌, nat_le, Bool, true, false, List, [], ◌∷◌, ◌++◌, length, Ok, refl, ◌∙◌, ap, arith, decimal, codes, lit<}
use Rattle.std.specs.List.{list_all}
use Rattle.std.proofs.lemmas.Bool.{and_parts}
use Rattle.std.proofs.lemmas.Grind.{common_steps}
use Rattle.hex.specs.Hex.{IsBytes, encode_lower}
use Rattle.mpt_lines.proofs.Texts.{address_address_text, byte_byte_text, bytes_encode, cdb_encode, is_word, number_decimal, small_of, within_most, within_range, word_address_text, word_byte_text, word_decimal, word_encode, words_first, words_last, words_more, words_three, words_two, words_two_more}
use Rattle.mpt_lines.specs.declared.statement.Statement.{Statement}
use Rattle.mpt_lines.specs.declared.statement.Statement.TheVariants as statement
use Rattle.mpt_lines.specs.Commands.{command, inquiry, raw, read, read16, write, write16}
use Rattle.mpt_lines.specs.Numbers.{address, byte, cdb, checked_bytes, number, within}
use Rattle.mpt_lines.specs.Statements.{abort, counted, disk, expander, fabric_run, host_take_on, ioc_put_on, plug, queues, schedule_line, submit, treset, unplug}
use Rattle.mpt_lines.specs.Words.{words}
use Rattle.mpt_trace.specs.declared.choice.Choice.{Choice}
use Rattle.mpt_trace.specs.declared.choice.Choice.TheVariants as choice
use Rattle.mpt_trace.specs.declared.command_form.CommandForm.{CommandForm}
use Rattle.mpt_trace.specs.declared.command_form.CommandForm.TheVariants as form
use Rattle.mpt_trace.specs.declared.disk_spec.DiskSpec.{DiskSpec}
use Rattle.mpt_trace.specs.declared.input.Input.{Input}
use Rattle.mpt_trace.specs.declared.input.Input.TheVariants as input
use Rattle.mpt_trace.specs.Numbers.{address_text, byte_text}
use Rattle.mpt_trace.specs.Schedule.{choice_line, command_text, input_line}
use Rattle.mpt_script.specs.Allowed.{are_blocks, choice_fits, form_fits, input_fits, input_statement, is_address, is_byte, is_count, is_queue}
use Rattle.mpt_script.specs.Printed.{count_text, disk_text, expander_text}

-- ---- commands

-- the words of a command, each without spaces, read as the command
pub record ReadsAsCommand (text : List ℕ) (form : CommandForm) : Type 0 where
  pub word : List ℕ
  pub others : List (List ℕ)
  pub words_are : words text ≡ word ∷ others
  pub plain : list_all is_word (word ∷ others) ≡ true
  pub reads : command (word ∷ others) ≡ Ok form

reads_inquiry : (d : List ℕ) (len : ℕ) → number d ≡ Ok len → within 0 65535 len ≡ Ok len → inquiry (d ∷ []) ≡ Ok (form.Inquiry len)
reads_inquiry d len e w = rw (e, w) refl

inquiry_back : (len : ℕ) → nat_le len 65535 ≡ true → ReadsAsCommand (command_text (form.Inquiry len)) (form.Inquiry len)
inquiry_back len h =
    let small = small_of 65535 len (lit< tt) h in
    record {
      word = codes "inquiry";
      others = decimal len ∷ [];
      words_are = ap (λ ws. codes "inquiry" ∷ ws) (words_last (decimal len) (word_decimal len small));
      plain = rw (word_decimal len small) refl;
      reads = reads_inquiry (decimal len) len (number_decimal len small) (within_most 65535 len h);
    }

reads_read : (a b : List ℕ) (lba blocks : ℕ) → number a ≡ Ok lba → number b ≡ Ok blocks → within 0 4294967295 lba ≡ Ok lba → within 0 65535 blocks ≡ Ok blocks → read (a ∷ b ∷ []) ≡ Ok (form.Read lba blocks)
reads_read a b lba blocks e f v w = rw (e, f, v, w) refl

read_back : (lba blocks : ℕ) → are_blocks 4294967295 lba blocks ≡ true → ReadsAsCommand (command_text (form.Read lba blocks)) (form.Read lba blocks)
read_back lba blocks h =
    let parts = and_parts (nat_le lba 4294967295) (nat_le blocks 65535) h in
    let small = small_of 4294967295 lba (lit< tt) parts.0 in
    let few = small_of 65535 blocks (lit< tt) parts.1 in
    record {
      word = codes "read";
      others = decimal lba ∷ decimal blocks ∷ [];
      words_are = ap (λ ws. codes "read" ∷ ws) (words_two (decimal lba) (decimal blocks) (word_decimal lba small) (word_decimal blocks few));
      plain = rw (word_decimal lba small, word_decimal blocks few) refl;
      reads = reads_read (decimal lba) (decimal blocks) lba blocks (number_decimal lba small) (number_decimal blocks few) (within_most 4294967295 lba parts.0) (within_most 65535 blocks parts.1);
    }

reads_read16 : (a b : List ℕ) (lba blocks : ℕ) → number a ≡ Ok lba → number b ≡ Ok blocks → within 0 18446744073709551615 lba ≡ Ok lba → within 0 65535 blocks ≡ Ok blocks → read16 (a ∷ b ∷ []) ≡ Ok (form.Read16 lba blocks)
reads_read16 a b lba blocks e f v w = rw (e, f, v, w) refl

read16_back : (lba blocks : ℕ) → are_blocks 18446744073709551615 lba blocks ≡ true → ReadsAsCommand (command_text (form.Read16 lba blocks)) (form.Read16 lba blocks)
read16_back lba blocks h =
    let parts = and_parts (nat_le lba 18446744073709551615) (nat_le blocks 65535) h in
    let small = small_of 18446744073709551615 lba (lit< tt) parts.0 in
    let few = small_of 65535 blocks (lit< tt) parts.1 in
    record {
      word = codes "read16";
      others = decimal lba ∷ decimal blocks ∷ [];
      words_are = ap (λ ws. codes "read16" ∷ ws) (words_two (decimal lba) (decimal blocks) (word_decimal lba small) (word_decimal blocks few));
      plain = rw (word_decimal lba small, word_decimal blocks few) refl;
      reads = reads_read16 (decimal lba) (decimal blocks) lba blocks (number_decimal lba small) (number_decimal blocks few) (within_most 18446744073709551615 lba parts.0) (within_most 65535 blocks parts.1);
    }

reads_write : (a b c : List ℕ) (lba blocks fill : ℕ) → number a ≡ Ok lba → number b ≡ Ok blocks → byte c ≡ Ok fill → within 0 4294967295 lba ≡ Ok lba → within 0 65535 blocks ≡ Ok blocks → write (a ∷ b ∷ c ∷ []) ≡ Ok (form.Write lba blocks fill)
reads_write a b c lba blocks fill e f g v w = rw (e, f, g, v, w) refl

write_back : (lba blocks fill : ℕ) → (are_blocks 4294967295 lba blocks && is_byte fill) ≡ true → ReadsAsCommand (command_text (form.Write lba blocks fill)) (form.Write lba blocks fill)
write_back lba blocks fill h =
    let halves = and_parts (are_blocks 4294967295 lba blocks) (is_byte fill) h in
    let parts = and_parts (nat_le lba 4294967295) (nat_le blocks 65535) halves.0 in
    let small = small_of 4294967295 lba (lit< tt) parts.0 in
    let few = small_of 65535 blocks (lit< tt) parts.1 in
    let one_byte : fill < 256 = grind (arith, common_steps, halves.1) in
    record {
      word = codes "write";
      others = decimal lba ∷ decimal blocks ∷ byte_text fill ∷ [];
      words_are = ap (λ ws. codes "write" ∷ ws) (words_three (decimal lba) (decimal blocks) (byte_text fill) (word_decimal lba small) (word_decimal blocks few) (word_byte_text fill));
      plain = rw (word_decimal lba small, word_decimal blocks few, word_byte_text fill) refl;
      reads = reads_write (decimal lba) (decimal blocks) (byte_text fill) lba blocks fill (number_decimal lba small) (number_decimal blocks few) (byte_byte_text fill one_byte) (within_most 4294967295 lba parts.0) (within_most 65535 blocks parts.1);
    }

reads_write16 : (a b c : List ℕ) (lba blocks fill : ℕ) → number a ≡ Ok lba → number b ≡ Ok blocks → byte c ≡ Ok fill → within 0 18446744073709551615 lba ≡ Ok lba → within 0 65535 blocks ≡ Ok blocks → write16 (a ∷ b ∷ c ∷ []) ≡ Ok (form.Write16 lba blocks fill)
reads_write16 a b c lba blocks fill e f g v w = rw (e, f, g, v, w) refl

write16_back : (lba blocks fill : ℕ) → (are_blocks 18446744073709551615 lba blocks && is_byte fill) ≡ true → ReadsAsCommand (command_text (form.Write16 lba blocks fill)) (form.Write16 lba blocks fill)
write16_back lba blocks fill h =
    let halves = and_parts (are_blocks 18446744073709551615 lba blocks) (is_byte fill) h in
    let parts = and_parts (nat_le lba 18446744073709551615) (nat_le blocks 65535) halves.0 in
    let small = small_of 18446744073709551615 lba (lit< tt) parts.0 in
    let few = small_of 65535 blocks (lit< tt) parts.1 in
    let one_byte : fill < 256 = grind (arith, common_steps, halves.1) in
    record {
      word = codes "write16";
      others = decimal lba ∷ decimal blocks ∷ byte_text fill ∷ [];
      words_are = ap (λ ws. codes "write16" ∷ ws) (words_three (decimal lba) (decimal blocks) (byte_text fill) (word_decimal lba small) (word_decimal blocks few) (word_byte_text fill));
      plain = rw (word_decimal lba small, word_decimal blocks few, word_byte_text fill) refl;
      reads = reads_write16 (decimal lba) (decimal blocks) (byte_text fill) lba blocks fill (number_decimal lba small) (number_decimal blocks few) (byte_byte_text fill one_byte) (within_most 18446744073709551615 lba parts.0) (within_most 65535 blocks parts.1);
    }

all_bytes : (xs : List ℕ) → list_all is_byte xs ≡ true → IsBytes xs
all_bytes [] h i = lit< tt
all_bytes (x ∷ xs) h zero =
    let parts = and_parts (is_byte x) (list_all is_byte xs) h in
    byte_small x parts.0
  where
    byte_small : (b : ℕ) → is_byte b ≡ true → b < 256
    byte_small b is = grind (arith, common_steps, is)
all_bytes (x ∷ xs) h (suc i) = all_bytes xs (and_parts (is_byte x) (list_all is_byte xs) h).1 i

reads_raw : (a b block : List ℕ) (len : ℕ) → checked_bytes a ≡ Ok tt → number b ≡ Ok len → cdb a ≡ Ok block → within 0 4294967295 len ≡ Ok len → raw (a ∷ b ∷ []) ≡ Ok (form.Raw block len)
reads_raw a b block len e f g w = rw (e, f, g, w) refl

raw_back : (block : List ℕ) (len : ℕ) → form_fits (form.Raw block len) ≡ true → ReadsAsCommand (command_text (form.Raw block len)) (form.Raw block len)
raw_back block len h =
    let outer = and_parts (nat_le 1 (length block) && nat_le (length block) 32 && list_all is_byte block) (nat_le len 4294967295) h in
    let inner = and_parts (nat_le 1 (length block) && nat_le (length block) 32) (list_all is_byte block) outer.0 in
    let lengths = and_parts (nat_le 1 (length block)) (nat_le (length block) 32) inner.0 in
    let some : 1 ≤ length block = grind (arith, common_steps, lengths.0) in
    let short : length block ≤ 32 = grind (arith, common_steps, lengths.1) in
    let bytes = all_bytes block inner.1 in
    let small = small_of 4294967295 len (lit< tt) outer.1 in
    record {
      word = codes "raw";
      others = encode_lower block ∷ decimal len ∷ [];
      words_are = ap (λ ws. codes "raw" ∷ ws) (words_two (encode_lower block) (decimal len) (word_encode block bytes) (word_decimal len small));
      plain = rw (word_encode block bytes, word_decimal len small) refl;
      reads = reads_raw (encode_lower block) (decimal len) block len (bytes_encode block some bytes) (number_decimal len small) (cdb_encode block short bytes) (within_most 4294967295 len outer.1);
    }

-- each printed command reads as the command
pub command_back : (f : CommandForm) → form_fits f ≡ true → ReadsAsCommand (command_text f) f
command_back form.Tur h = record { word = codes "tur"; others = []; words_are = refl; plain = refl; reads = refl }
command_back (form.Inquiry len) h = inquiry_back len h
command_back form.Capacity h = record { word = codes "capacity"; others = []; words_are = refl; plain = refl; reads = refl }
command_back (form.Read lba blocks) h = read_back lba blocks h
command_back (form.Write lba blocks fill) h = write_back lba blocks fill h
command_back (form.Read16 lba blocks) h = read16_back lba blocks h
command_back (form.Write16 lba blocks fill) h = write16_back lba blocks fill h
command_back (form.Raw block len) h = raw_back block len h

-- ---- lines

-- the words of a line, each without spaces, read as the statement; the first has some byte
pub record ReadsAs (text : List ℕ) (said : Statement) : Type 0 where
  pub word : List ℕ
  pub others : List (List ℕ)
  pub words_are : words text ≡ word ∷ others
  pub plain : list_all is_word (word ∷ others) ≡ true
  pub some : (length word == 0) ≡ false
  pub reads : schedule_line (word ∷ others) ≡ Ok said

pub address_small : (a : ℕ) → is_address a ≡ true → a < 2 ^ 64
address_small a h = small_of 18446744073709551615 a (lit< tt) h

-- ---- inputs

pub reads_treset : (a : List ℕ) (at : ℕ) → address a ≡ Ok at → treset (a ∷ []) ≡ Ok (statement.Host (input.TargetReset at))
reads_treset a at e = rw e refl

abbrev pub treset_back : (at : ℕ) → is_address at ≡ true → ReadsAs (input_line (input.TargetReset at)) (statement.Host (input.TargetReset at))
treset_back at h = record {
  word = codes "treset";
  others = address_text at ∷ [];
  words_are = ap (λ ws. codes "treset" ∷ ws) (words_last (address_text at) (word_address_text at));
  plain = rw (word_address_text at) refl;
  some = refl;
  reads = reads_treset (address_text at) at (address_address_text at (address_small at h));
}

pub reads_unplug : (a : List ℕ) (at : ℕ) → address a ≡ Ok at → unplug (a ∷ []) ≡ Ok (statement.Unplug at)
reads_unplug a at e = rw e refl

abbrev pub unplug_back : (at : ℕ) → is_address at ≡ true → ReadsAs (input_line (input.Unplug at)) (statement.Unplug at)
unplug_back at h = record {
  word = codes "unplug";
  others = address_text at ∷ [];
  words_are = ap (λ ws. codes "unplug" ∷ ws) (words_last (address_text at) (word_address_text at));
  plain = rw (word_address_text at) refl;
  some = refl;
  reads = reads_unplug (address_text at) at (address_address_text at (address_small at h));
}

pub reads_abort : (a : List ℕ) (n : ℕ) → number a ≡ Ok n → within 0 4294967295 n ≡ Ok n → abort (a ∷ []) ≡ Ok (statement.Host (input.Abort n))
reads_abort a n e w = rw (e, w) refl

abbrev pub abort_back : (n : ℕ) → nat_le n 4294967295 ≡ true → ReadsAs (input_line (input.Abort n)) (statement.Host (input.Abort n))
abort_back n h =
    let small = small_of 4294967295 n (lit< tt) h in
    record {
      word = codes "abort";
      others = decimal n ∷ [];
      words_are = ap (λ ws. codes "abort" ∷ ws) (words_last (decimal n) (word_decimal n small));
      plain = rw (word_decimal n small) refl;
      some = refl;
      reads = reads_abort (decimal n) n (number_decimal n small) (within_most 4294967295 n h);
    }

pub reads_plug : (a b c : List ℕ) (at e phy : ℕ) → address a ≡ Ok at → number b ≡ Ok e → number c ≡ Ok phy → plug (a ∷ b ∷ c ∷ []) ≡ Ok (statement.Plug at e phy)
reads_plug a b c at e phy f g h = rw (f, g, h) refl

abbrev pub plug_back : (at e phy : ℕ) → (is_address at && is_byte e && is_byte phy) ≡ true → ReadsAs (input_line (input.Plug at e phy)) (statement.Plug at e phy)
plug_back at e phy h =
    let outer = and_parts (is_address at && is_byte e) (is_byte phy) h in
    let inner = and_parts (is_address at) (is_byte e) outer.0 in
    let small = small_of 255 e (lit< tt) inner.1 in
    let few = small_of 255 phy (lit< tt) outer.1 in
    record {
      word = codes "plug";
      others = address_text at ∷ decimal e ∷ decimal phy ∷ [];
      words_are = ap (λ ws. codes "plug" ∷ ws) (words_more (address_text at) ((decimal e ++ codes " ") ++ decimal phy) (word_address_text at) ∙ ap (λ ws. address_text at ∷ ws) (words_two (decimal e) (decimal phy) (word_decimal e small) (word_decimal phy few)));
      plain = rw (word_address_text at, word_decimal e small, word_decimal phy few) refl;
      some = refl;
      reads = reads_plug (address_text at) (decimal e) (decimal phy) at e phy (address_address_text at (address_small at inner.0)) (number_decimal e small) (number_decimal phy few);
    }

pub reads_submit : (a b : List ℕ) (others : List (List ℕ)) (n at : ℕ) (f : CommandForm) → number a ≡ Ok n → address b ≡ Ok at → command others ≡ Ok f → within 0 4294967295 n ≡ Ok n → submit (a ∷ b ∷ others) ≡ Ok (statement.Host (input.Submit n at f))
reads_submit a b others n at f e g h w = rw (e, g, h, w) refl

abbrev pub submit_back : (n at : ℕ) (f : CommandForm) → input_fits (input.Submit n at f) ≡ true → ReadsAs (input_line (input.Submit n at f)) (statement.Host (input.Submit n at f))
submit_back n at f h =
    let outer = and_parts (nat_le n 4294967295 && is_address at) (form_fits f) h in
    let inner = and_parts (nat_le n 4294967295) (is_address at) outer.0 in
    let small = small_of 4294967295 n (lit< tt) inner.0 in
    let named = command_back f outer.1 in
    record {
      word = codes "submit";
      others = decimal n ∷ address_text at ∷ named.word ∷ named.others;
      words_are = ap (λ ws. codes "submit" ∷ ws) (words_two_more (decimal n) (address_text at) (command_text f) (word_decimal n small) (word_address_text at) ∙ ap (λ ws. decimal n ∷ address_text at ∷ ws) named.words_are);
      plain = rw (word_decimal n small, word_address_text at) named.plain;
      some = refl;
      reads = reads_submit (decimal n) (address_text at) (named.word ∷ named.others) n at f (number_decimal n small) (address_address_text at (address_small at inner.1)) named.reads (within_most 4294967295 n inner.0);
    }

-- each printed input reads as its statement
pub input_back : (given : Input) → input_fits given ≡ true → ReadsAs (input_line given) (input_statement given)
input_back input.Start h = record { word = codes "start"; others = []; words_are = refl; plain = refl; some = refl; reads = refl }
input_back (input.Submit n at f) h = submit_back n at f h
input_back (input.Abort n) h = abort_back n h
input_back (input.TargetReset at) h = treset_back at h
input_back input.Reset h = record { word = codes "reset"; others = []; words_are = refl; plain = refl; some = refl; reads = refl }
input_back input.UnitReset h = record { word = codes "unit"; others = []; words_are = refl; plain = refl; some = refl; reads = refl }
input_back (input.Plug at e phy) h = plug_back at e phy h
input_back (input.Unplug at) h = unplug_back at h

-- ---- declarations

pub reads_queues : (a : List ℕ) (q : ℕ) → number a ≡ Ok q → within 1 8 q ≡ Ok q → queues (a ∷ []) ≡ Ok (statement.Queues q)
reads_queues a q e w = rw (e, w) refl

abbrev pub queues_back : (q : ℕ) → (nat_le 1 q && nat_le q 8) ≡ true → ReadsAs (codes "queues " ++ decimal q) (statement.Queues q)
queues_back q h =
    let small = small_of 8 q (lit< tt) (and_parts (nat_le 1 q) (nat_le q 8) h).1 in
    record {
      word = codes "queues";
      others = decimal q ∷ [];
      words_are = ap (λ ws. codes "queues" ∷ ws) (words_last (decimal q) (word_decimal q small));
      plain = rw (word_decimal q small) refl;
      some = refl;
      reads = reads_queues (decimal q) q (number_decimal q small) (within_range 1 8 q h);
    }

pub reads_disk : (a b : List ℕ) (at blocks : ℕ) → address a ≡ Ok at → number b ≡ Ok blocks → within 1 1024 blocks ≡ Ok blocks → disk (a ∷ b ∷ []) ≡ Ok (statement.Disk (record { address = at; blocks = blocks }))
reads_disk a b at blocks e f w = rw (e, f, w) refl

abbrev pub disk_back : (d : DiskSpec) → (is_address d.address && nat_le 1 d.blocks && nat_le d.blocks 1024) ≡ true → ReadsAs (disk_text d) (statement.Disk d)
disk_back d h =
    let outer = and_parts (is_address d.address && nat_le 1 d.blocks) (nat_le d.blocks 1024) h in
    let inner = and_parts (is_address d.address) (nat_le 1 d.blocks) outer.0 in
    let small = small_of 1024 d.blocks (lit< tt) outer.1 in
    let range : (nat_le 1 d.blocks && nat_le d.blocks 1024) ≡ true = rw (inner.1, outer.1) refl in
    record {
      word = codes "disk";
      others = address_text d.address ∷ decimal d.blocks ∷ [];
      words_are = ap (λ ws. codes "disk" ∷ ws) (words_two (address_text d.address) (decimal d.blocks) (word_address_text d.address) (word_decimal d.blocks small));
      plain = rw (word_address_text d.address, word_decimal d.blocks small) refl;
      some = refl;
      reads = reads_disk (address_text d.address) (decimal d.blocks) d.address d.blocks (address_address_text d.address (address_small d.address inner.0)) (number_decimal d.blocks small) (within_range 1 1024 d.blocks range);
    }

pub reads_expander : (a b : List ℕ) (e phys : ℕ) → number a ≡ Ok e → number b ≡ Ok phys → within 1 22 phys ≡ Ok phys → expander (a ∷ b ∷ []) ≡ Ok (statement.Expander e phys)
reads_expander a b e phys f g w = rw (f, g, w) refl

abbrev pub expander_back : (e phys : ℕ) → e < 2 ^ 64 → (nat_le 1 phys && nat_le phys 22) ≡ true → ReadsAs (expander_text e phys) (statement.Expander e phys)
expander_back e phys small h =
    let few = small_of 22 phys (lit< tt) (and_parts (nat_le 1 phys) (nat_le phys 22) h).1 in
    record {
      word = codes "expander";
      others = decimal e ∷ decimal phys ∷ [];
      words_are = ap (λ ws. codes "expander" ∷ ws) (words_two (decimal e) (decimal phys) (word_decimal e small) (word_decimal phys few));
      plain = rw (word_decimal e small, word_decimal phys few) refl;
      some = refl;
      reads = reads_expander (decimal e) (decimal phys) e phys (number_decimal e small) (number_decimal phys few) (within_range 1 22 phys h);
    }

-- ---- choices

count_small : (count : ℕ) → is_count count ≡ true → count < 2 ^ 64
count_small count h = small_of 64 count (lit< tt) (and_parts (nat_le 1 count) (nat_le count 64) h).1

reads_counted : (c : Choice) (a : List ℕ) (count : ℕ) → number a ≡ Ok count → within 1 64 count ≡ Ok count → counted c (a ∷ []) ≡ Ok (statement.Choice c count)
reads_counted c a count e w = rw (e, w) refl

-- a choice's word, with its count
counted_back : (c : Choice) (name : List ℕ) (count : ℕ) → is_count count ≡ true → is_word name ≡ true → (length name == 0) ≡ false → words name ≡ name ∷ [] → ((rest : List ℕ) → words (name ++ 32 ∷ rest) ≡ name ∷ words rest)
    → ((others : List (List ℕ)) → schedule_line (name ∷ others) ≡ counted c others) → ReadsAs (name ++ count_text count) (statement.Choice c count)
counted_back c name count h plain some alone more reads = by_count (count == 1) refl
  where
    by_count : (once : Bool) → (count == 1) ≡ once → ReadsAs (name ++ count_text count) (statement.Choice c count)
    by_count true is =
        let one : count ≡ 1 = grind (arith, common_steps, is) in
        rw one (record {
          word = name;
          others = [];
          words_are = ap words (append-nil name) ∙ alone;
          plain = rw plain refl;
          some = some;
          reads = reads [];
        })
    by_count false is =
        let small = count_small count h in
        rw is (record {
          word = name;
          others = decimal count ∷ [];
          words_are = more (decimal count) ∙ ap (λ ws. name ∷ ws) (words_last (decimal count) (word_decimal count small));
          plain = rw (plain, word_decimal count small) refl;
          some = some;
          reads = reads (decimal count ∷ []) ∙ reads_counted c (decimal count) count (number_decimal count small) (within_range 1 64 count h);
        })

reads_run : (a : List ℕ) (tag : ℕ) → number a ≡ Ok tag → within 0 65535 tag ≡ Ok tag → fabric_run (a ∷ []) ≡ Ok (statement.Choice (choice.FabricRun tag) 1)
reads_run a tag e w = rw (e, w) refl

run_back : (tag count : ℕ) → (nat_le tag 65535 && (count == 1)) ≡ true → ReadsAs (choice_line (choice.FabricRun tag) ++ count_text count) (statement.Choice (choice.FabricRun tag) count)
run_back tag count h =
    let parts = and_parts (nat_le tag 65535) (count == 1) h in
    let one : count ≡ 1 = grind (arith, common_steps, parts.1) in
    let small = small_of 65535 tag (lit< tt) parts.0 in
    rw one (record {
      word = codes "fabric-run";
      others = decimal tag ∷ [];
      words_are = ap (λ ws. codes "fabric-run" ∷ ws) (ap words (append-nil (decimal tag)) ∙ words_last (decimal tag) (word_decimal tag small));
      plain = rw (word_decimal tag small) refl;
      some = refl;
      reads = reads_run (decimal tag) tag (number_decimal tag small) (within_most 65535 tag parts.0);
    })

reads_ioc_put_on_once : (a : List ℕ) (queue : ℕ) → number a ≡ Ok queue → within 1 7 queue ≡ Ok queue → ioc_put_on (a ∷ []) ≡ Ok (statement.Choice (choice.IocPutOn queue) 1)
reads_ioc_put_on_once a queue e w = rw (e, w) refl

reads_ioc_put_on : (a b : List ℕ) (queue count : ℕ) → number a ≡ Ok queue → number b ≡ Ok count → within 1 7 queue ≡ Ok queue → within 1 64 count ≡ Ok count → ioc_put_on (a ∷ b ∷ []) ≡ Ok (statement.Choice (choice.IocPutOn queue) count)
reads_ioc_put_on a b queue count e f v w = rw (e, f, v, w) refl

ioc_put_on_back : (queue count : ℕ) → (is_queue queue && is_count count) ≡ true → ReadsAs (choice_line (choice.IocPutOn queue) ++ count_text count) (statement.Choice (choice.IocPutOn queue) count)
ioc_put_on_back queue count h = by_count (count == 1) refl
  where
    parts : (is_queue queue ≡ true) × (is_count count ≡ true)
    parts = and_parts (is_queue queue) (is_count count) h

    small : queue < 2 ^ 64
    small = small_of 7 queue (lit< tt) (and_parts (nat_le 1 queue) (nat_le queue 7) parts.0).1

    by_count : (once : Bool) → (count == 1) ≡ once → ReadsAs (choice_line (choice.IocPutOn queue) ++ count_text count) (statement.Choice (choice.IocPutOn queue) count)
    by_count true is =
        let one : count ≡ 1 = grind (arith, common_steps, is) in
        rw one (record {
          word = codes "ioc-put-on";
          others = decimal queue ∷ [];
          words_are = ap (λ ws. codes "ioc-put-on" ∷ ws) (ap words (append-nil (decimal queue)) ∙ words_last (decimal queue) (word_decimal queue small));
          plain = rw (word_decimal queue small) refl;
          some = refl;
          reads = reads_ioc_put_on_once (decimal queue) queue (number_decimal queue small) (within_range 1 7 queue parts.0);
        })
    by_count false is =
        let few = count_small count parts.1 in
        rw is (record {
          word = codes "ioc-put-on";
          others = decimal queue ∷ decimal count ∷ [];
          words_are = ap (λ ws. codes "ioc-put-on" ∷ ws) (words_first (decimal queue) (decimal count) (word_decimal queue small) ∙ ap (λ ws. decimal queue ∷ ws) (words_last (decimal count) (word_decimal count few)));
          plain = rw (word_decimal queue small, word_decimal count few) refl;
          some = refl;
          reads = reads_ioc_put_on (decimal queue) (decimal count) queue count (number_decimal queue small) (number_decimal count few) (within_range 1 7 queue parts.0) (within_range 1 64 count parts.1);
        })

reads_host_take_on_once : (a : List ℕ) (queue : ℕ) → number a ≡ Ok queue → within 1 7 queue ≡ Ok queue → host_take_on (a ∷ []) ≡ Ok (statement.Choice (choice.HostTakeOn queue) 1)
reads_host_take_on_once a queue e w = rw (e, w) refl

reads_host_take_on : (a b : List ℕ) (queue count : ℕ) → number a ≡ Ok queue → number b ≡ Ok count → within 1 7 queue ≡ Ok queue → within 1 64 count ≡ Ok count → host_take_on (a ∷ b ∷ []) ≡ Ok (statement.Choice (choice.HostTakeOn queue) count)
reads_host_take_on a b queue count e f v w = rw (e, f, v, w) refl

host_take_on_back : (queue count : ℕ) → (is_queue queue && is_count count) ≡ true → ReadsAs (choice_line (choice.HostTakeOn queue) ++ count_text count) (statement.Choice (choice.HostTakeOn queue) count)
host_take_on_back queue count h = by_count (count == 1) refl
  where
    parts : (is_queue queue ≡ true) × (is_count count ≡ true)
    parts = and_parts (is_queue queue) (is_count count) h

    small : queue < 2 ^ 64
    small = small_of 7 queue (lit< tt) (and_parts (nat_le 1 queue) (nat_le queue 7) parts.0).1

    by_count : (once : Bool) → (count == 1) ≡ once → ReadsAs (choice_line (choice.HostTakeOn queue) ++ count_text count) (statement.Choice (choice.HostTakeOn queue) count)
    by_count true is =
        let one : count ≡ 1 = grind (arith, common_steps, is) in
        rw one (record {
          word = codes "host-take-on";
          others = decimal queue ∷ [];
          words_are = ap (λ ws. codes "host-take-on" ∷ ws) (ap words (append-nil (decimal queue)) ∙ words_last (decimal queue) (word_decimal queue small));
          plain = rw (word_decimal queue small) refl;
          some = refl;
          reads = reads_host_take_on_once (decimal queue) queue (number_decimal queue small) (within_range 1 7 queue parts.0);
        })
    by_count false is =
        let few = count_small count parts.1 in
        rw is (record {
          word = codes "host-take-on";
          others = decimal queue ∷ decimal count ∷ [];
          words_are = ap (λ ws. codes "host-take-on" ∷ ws) (words_first (decimal queue) (decimal count) (word_decimal queue small) ∙ ap (λ ws. decimal queue ∷ ws) (words_last (decimal count) (word_decimal count few)));
          plain = rw (word_decimal queue small, word_decimal count few) refl;
          some = refl;
          reads = reads_host_take_on (decimal queue) (decimal count) queue count (number_decimal queue small) (number_decimal count few) (within_range 1 7 queue parts.0) (within_range 1 64 count parts.1);
        })

-- each printed choice reads as its statement
pub choice_back : (c : Choice) (count : ℕ) → choice_fits c count ≡ true → ReadsAs (choice_line c ++ count_text count) (statement.Choice c count)
choice_back choice.HostPut count h = counted_back choice.HostPut (codes "host-put") count h refl refl refl (λ rest. refl) (λ others. refl)
choice_back choice.HostTake count h = counted_back choice.HostTake (codes "host-take") count h refl refl refl (λ rest. refl) (λ others. refl)
choice_back choice.IocTake count h = counted_back choice.IocTake (codes "ioc-take") count h refl refl refl (λ rest. refl) (λ others. refl)
choice_back choice.IocHigh count h = counted_back choice.IocHigh (codes "ioc-high") count h refl refl refl (λ rest. refl) (λ others. refl)
choice_back choice.IocNormal count h = counted_back choice.IocNormal (codes "ioc-normal") count h refl refl refl (λ rest. refl) (λ others. refl)
choice_back choice.IocOut count h = counted_back choice.IocOut (codes "ioc-out") count h refl refl refl (λ rest. refl) (λ others. refl)
choice_back choice.IocBack count h = counted_back choice.IocBack (codes "ioc-back") count h refl refl refl (λ rest. refl) (λ others. refl)
choice_back choice.IocPut count h = counted_back choice.IocPut (codes "ioc-put") count h refl refl refl (λ rest. refl) (λ others. refl)
choice_back choice.FabricTake count h = counted_back choice.FabricTake (codes "fabric-take") count h refl refl refl (λ rest. refl) (λ others. refl)
choice_back choice.FabricSay count h = counted_back choice.FabricSay (codes "fabric-say") count h refl refl refl (λ rest. refl) (λ others. refl)
choice_back choice.FabricPut count h = counted_back choice.FabricPut (codes "fabric-put") count h refl refl refl (λ rest. refl) (λ others. refl)
choice_back (choice.IocPutOn queue) count h = ioc_put_on_back queue count h
choice_back (choice.HostTakeOn queue) count h = host_take_on_back queue count h
choice_back (choice.FabricRun tag) count h = run_back tag count h
