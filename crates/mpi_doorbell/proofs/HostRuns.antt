-- A host that is done wrote its message and read its reply.
use Rattle.std.proofs.Common.{◌≡◌, ℕ, suc, ◌-◌, ◌*◌, ◌/◌, ◌%◌, ◌<◌, ◌≤◌, ◌⊎◌, Bool, true, false, ◌&&◌, not, eqb, nat_le, if◌then◌else◌, Option, Some, None, List, [], ◌∷◌, ◌++◌, length, drop, replicate, slice_index, refl, ap, sym, ◌∙◌, subst, inl, inr, append_assoc, length-append, arith}
use Rattle.std.specs.List.{All}
use Rattle.std.proofs.lemmas.Bool.{and_parts, cases_eq, cond_both, eqb-true, eqb-false, false≢true, leb-true}
use Rattle.std.proofs.lemmas.Bool.Decides.{nat_tests}
use Rattle.std.proofs.lemmas.List.{append-nil, get_or_append_left, get_or_at, nil_from_length}
use Rattle.byteorder.specs.Endian.{little_bytes, little_number}
use Rattle.mpi_doorbell.specs.declared.registers.TheConstants.{DOORBELL_USED, SYS2IOC_DB_STATUS, IOC2SYS_DB_STATUS}
use Rattle.mpi_doorbell.specs.declared.stage.Reading as looked
use Rattle.mpi_doorbell.specs.declared.stage.Reading.TheVariants as reading
use Rattle.mpi_doorbell.specs.declared.stage.Stage.{Stage}
use Rattle.mpi_doorbell.specs.declared.stage.Stage.TheVariants.{Reads, Awaits, Opens, WritesKey, Locks, ResetsUnit, Finishes, Ended}
use Rattle.mpi_doorbell.specs.declared.step.DoorStep.{DoorStep}
use Rattle.mpi_doorbell.specs.declared.step.DoorStep.TheVariants.{Write, Read, Done, Refused}
use Rattle.mpi_doorbell.specs.Bytes.{has, padded}
use Rattle.mpi_doorbell.specs.DoorCalls.{dword_bytes}
use Rattle.mpi_doorbell.specs.HostDoor.{HostDoor, Stepped, reads}
use Rattle.mpi_doorbell.specs.HostHandshake.{hears_left_over, hears_news, hears_opened, hears_taken, hears_used, hears_word, opens, is_bad_length, is_whole, opening_dword}
use Rattle.mpi_doorbell.specs.HostRun.{HandsOver, after_steps, doorbell_reads, doorbell_writes, read_at, word_bytes, written_by}
use Rattle.mpi_doorbell.specs.HostSteps.{Expects, acts, handshake_of_message, hears, hears_reading, next_step, stands}
use Rattle.mpi_doorbell.proofs.DoorDwords.{dword_bytes-push}

abbrev pub IsByte : ℕ → Type 0
IsByte b = b < 256

-- four bytes are those of the number that they are
dword_of : (a b c d : ℕ) → a < 256 → b < 256 → c < 256 → d < 256 → little_bytes 4 (little_number 4 (a ∷ b ∷ c ∷ d ∷ [])) ≡ a ∷ b ∷ c ∷ d ∷ []
dword_of a b c d p q r s =
    let n : ℕ = little_number 4 (a ∷ b ∷ c ∷ d ∷ []) in
    let e₀ : n % 256 ≡ a = omega arith in
    let e₁ : n / 256 % 256 ≡ b = omega arith in
    let e₂ : n / 65536 % 256 ≡ c = omega arith in
    let e₃ : n / 16777216 % 256 ≡ d = omega arith in
    cc

word_bytes-push : (ws : List ℕ) (w : ℕ) → word_bytes (ws ++ w ∷ []) ≡ word_bytes ws ++ little_bytes 2 w
word_bytes-push [] w = append-nil (little_bytes 2 w)
word_bytes-push (x ∷ ws) w = ap (λ ys. little_bytes 2 x ++ ys) (word_bytes-push ws w) ∙ sym (append_assoc (little_bytes 2 x) (word_bytes ws) (little_bytes 2 w))

length-word_bytes : (ws : List ℕ) → length (word_bytes ws) ≡ 2 * length ws
length-word_bytes [] = refl
length-word_bytes (w ∷ ws) = omega (arith, length-word_bytes ws)

-- what is left of a message: bytes, in whole dwords
pub record Dwords (u : List ℕ) : Type 0 where
  pub bytes : All IsByte u
  pub whole : length u % 4 ≡ 0

pub record FirstDword (u : List ℕ) : Type 0 where
  pub split : little_bytes 4 (little_number 4 u) ++ drop 4 u ≡ u
  pub rest : Dwords (drop 4 u)

pub first_dword : (u : List ℕ) → Dwords u → (length u ≡ 0 → ⊥) → FirstDword u
first_dword [] h n = absurd (n refl)
first_dword (a ∷ []) h n = absurd (omega (arith, h.whole))
first_dword (a ∷ b ∷ []) h n = absurd (omega (arith, h.whole))
first_dword (a ∷ b ∷ c ∷ []) h n = absurd (omega (arith, h.whole))
first_dword (a ∷ b ∷ c ∷ d ∷ rest) h n =
    let g = h.bytes in
    record {
      split = ap (λ bs. bs ++ rest) (dword_of a b c d (g 0 0 (omega arith)) (g 1 0 (omega arith)) (g 2 0 (omega arith)) (g 3 0 (omega arith)));
      rest = record { bytes = λ k e l. g (suc (suc (suc (suc k)))) e (omega arith); whole = omega (arith, h.whole) };
    }

record Unused (m writes reads unsent reply : List ℕ) : Type 0 where
  no_writes : writes ≡ []
  no_reads : reads ≡ []
  message : unsent ≡ m
  no_reply : reply ≡ []

record Looked (m writes reads unsent reply : List ℕ) : Type 0 where
  used : ℕ
  no_writes : writes ≡ []
  one_read : reads ≡ used ∷ []
  message : unsent ≡ m
  no_reply : reply ≡ []

record Sending (m writes reads unsent reply : List ℕ) : Type 0 where
  opening : ℕ
  dwords : List ℕ
  used : ℕ
  written : writes ≡ opening ∷ dwords
  one_read : reads ≡ used ∷ []
  message : dword_bytes dwords ++ unsent ≡ m
  left : Dwords unsent
  no_reply : reply ≡ []

-- a reply that may go on up to its MsgLength
record Frames (reply : List ℕ) : Type 0 where
  least : 5 ≤ slice_index reply 2
  most : slice_index reply 2 ≤ 32
  within : length reply ≤ 4 * slice_index reply 2

record Reading (m writes reads unsent reply : List ℕ) : Type 0 where
  opening : ℕ
  dwords : List ℕ
  used : ℕ
  words : List ℕ
  last : List ℕ
  written : writes ≡ opening ∷ dwords
  read : reads ≡ used ∷ (words ++ last)
  message : dword_bytes dwords ≡ m
  got : reply ≡ word_bytes words
  ended : (last ≡ []) ⊎ (is_whole reply ≡ true)
  framed : 4 ≤ length reply → Frames reply

record Ending (m writes reads unsent reply : List ℕ) : Type 0 where
  reading_done : Reading m writes reads unsent reply
  whole : is_whole reply ≡ true

-- what a run of a handshake has done, by what the host looks for and by where it stands
HeldFor : (m writes reads unsent reply : List ℕ) → looked.Reading → Type 0
HeldFor m w r u a reading.Used = Unused m w r u a
HeldFor m w r u a reading.LeftOver = Looked m w r u a
HeldFor m w r u a reading.Opened = Sending m w r u a
HeldFor m w r u a reading.Taken = Sending m w r u a
HeldFor m w r u a reading.News = Reading m w r u a
HeldFor m w r u a reading.Word = Reading m w r u a
HeldFor m w r u a reading.Unlocked = ⊥
HeldFor m w r u a reading.ResetOver = ⊥
HeldFor m w r u a (reading.State kind) = ⊥
HeldFor m w r u a reading.UnitReset = ⊥
HeldFor m w r u a reading.Doorbell = ⊥

HeldAt : (m writes reads unsent reply : List ℕ) → Stage → Type 0
HeldAt m w r u a (Reads x) = HeldFor m w r u a x
HeldAt m w r u a (Awaits x) = HeldFor m w r u a x
HeldAt m w r u a Opens = Looked m w r u a
HeldAt m w r u a (WritesKey place) = ⊥
HeldAt m w r u a Locks = ⊥
HeldAt m w r u a ResetsUnit = ⊥
HeldAt m w r u a Finishes = Ending m w r u a
HeldAt m w r u a Ended = Unit {0}

Held : (m writes reads : List ℕ) → HostDoor → Type 0
Held m w r d = HeldAt m w r d.unsent d.reply d.stage

-- after a step, with what it wrote
After : (m writes reads : List ℕ) → Stepped → Type 0
After m w r s = Held m (w ++ written_by s.step) r s.door

still : (m w r u a : List ℕ) (s : Stage) → HeldAt m w r u a s → HeldAt m (w ++ []) r u a s
still m w r u a s h = subst (λ (ws : List ℕ). HeldAt m ws r u a s) (sym (append-nil w)) h

used_held : (m w r : List ℕ) (d : HostDoor) (v : ℕ) → Unused m w r d.unsent d.reply → After m w (r ++ v ∷ []) (hears_used d v)
unfolding After Held HeldAt HeldFor
used_held m w r d v h =
    cond_both (has v DOORBELL_USED) _ _ (After m w (r ++ v ∷ []))
    (λ _. tt)
    (λ _. still m w (r ++ v ∷ []) d.unsent d.reply (Awaits reading.LeftOver)
    (record { used = v; no_writes = h.no_writes; one_read = ap (λ rs. rs ++ v ∷ []) h.no_reads; message = h.message; no_reply = h.no_reply }))

opens_held : (m w r : List ℕ) (d : HostDoor) → Dwords m → Looked m w r d.unsent d.reply → After m w r (opens d)
unfolding After Held HeldAt HeldFor
opens_held m w r d good h =
    record {
      opening = opening_dword d.unsent;
      dwords = [];
      used = h.used;
      written = ap (λ ws. ws ++ opening_dword d.unsent ∷ []) h.no_writes;
      one_read = h.one_read;
      message = h.message;
      left = subst Dwords (sym h.message) good;
      no_reply = h.no_reply;
    }

left_over_held : (m w r : List ℕ) (d : HostDoor) (v : ℕ) → Dwords m → Looked m w r d.unsent d.reply → After m w r (hears_left_over d v)
unfolding After Held HeldAt HeldFor
left_over_held m w r d v good h =
    cond_both (has v IOC2SYS_DB_STATUS) _ _ (After m w r)
    (λ _. still m w r d.unsent d.reply Opens h)
    (λ _. opens_held m w r d good h)

opened_held : (m w r : List ℕ) (d : HostDoor) (v : ℕ) → Sending m w r d.unsent d.reply → After m w r (hears_opened d v)
unfolding After Held HeldAt HeldFor
opened_held m w r d v h =
    cond_both (has v IOC2SYS_DB_STATUS) _ _ (After m w r)
    (λ _. still m w r d.unsent d.reply (Reads reading.Taken) h)
    (λ _. still m w r d.unsent d.reply (Awaits reading.Opened) h)

sent_held : (m w r u a : List ℕ) → u ≡ [] → Sending m w r u a → Reading m w r u a
sent_held m w r u a none h =
    record {
      opening = h.opening;
      dwords = h.dwords;
      used = h.used;
      words = [];
      last = [];
      written = h.written;
      read = h.one_read;
      message = sym (append-nil (dword_bytes h.dwords)) ∙ ap (λ x. dword_bytes h.dwords ++ x) (sym none) ∙ h.message;
      got = h.no_reply;
      ended = inl refl;
      framed = λ four. absurd (omega (arith, four, ap length h.no_reply));
    }

dword_held : (m w r u a : List ℕ) → FirstDword u → Sending m w r u a → Sending m (w ++ little_number 4 u ∷ []) r (drop 4 u) a
dword_held m w r u a f h =
    let n : ℕ = little_number 4 u in
    record {
      opening = h.opening;
      dwords = h.dwords ++ n ∷ [];
      used = h.used;
      written = ap (λ ws. ws ++ n ∷ []) h.written;
      one_read = h.one_read;
      message =
          ap (λ x. x ++ drop 4 u) (dword_bytes-push h.dwords n)
          ∙ append_assoc (dword_bytes h.dwords) (little_bytes 4 n) (drop 4 u)
          ∙ ap (λ x. dword_bytes h.dwords ++ x) f.split ∙ h.message;
      left = f.rest;
      no_reply = h.no_reply;
    }

taken_held : (m w r : List ℕ) (d : HostDoor) (v : ℕ) → Sending m w r d.unsent d.reply → After m w r (hears_taken d v)
unfolding After Held HeldAt HeldFor
taken_held m w r d v h =
    cond_both (has v SYS2IOC_DB_STATUS) _ _ (After m w r)
    (λ _. still m w r d.unsent d.reply (Awaits reading.Taken) h)
    (λ _. cond_both (eqb (length d.unsent) 0) _ _ (After m w r)
    (λ e. still m w r d.unsent d.reply (Awaits reading.News) (sent_held m w r d.unsent d.reply (nil_from_length d.unsent (eqb-true _ _ e)) h))
    (λ e. dword_held m w r d.unsent d.reply (first_dword d.unsent h.left (eqb-false _ _ e)) h))

news_held : (m w r : List ℕ) (d : HostDoor) (v : ℕ) → Reading m w r d.unsent d.reply → After m w r (hears_news d v)
unfolding After Held HeldAt HeldFor
news_held m w r d v h =
    cond_both (has v IOC2SYS_DB_STATUS) _ _ (After m w r)
    (λ _. still m w r d.unsent d.reply (Awaits reading.Word) h)
    (λ _. still m w r d.unsent d.reply (Awaits reading.News) h)

-- a read of the Doorbell after the last word
later_held : (m w r u a : List ℕ) (v : ℕ) → is_whole a ≡ true → Reading m w r u a → Reading m w (r ++ v ∷ []) u a
later_held m w r u a v whole h =
    record {
      opening = h.opening;
      dwords = h.dwords;
      used = h.used;
      words = h.words;
      last = h.last ++ v ∷ [];
      written = h.written;
      read = ap (λ rs. rs ++ v ∷ []) h.read ∙ ap (λ rs. h.used ∷ rs) (append_assoc h.words h.last (v ∷ []));
      message = h.message;
      got = h.got;
      ended = inr whole;
      framed = h.framed;
    }

none_last : (last a : List ℕ) → is_whole a ≡ false → (last ≡ []) ⊎ (is_whole a ≡ true) → last ≡ []
none_last last a part (inl e) = e
none_last last a part (inr whole) = absurd (false≢true (sym part ∙ whole))

part_gives : (n g : ℕ) → (nat_le 4 n && nat_le (4 * g) n) ≡ false → 4 ≤ n → n < 4 * g
part_gives n g e four = grind (arith, nat_tests)

whole_gives : (n g : ℕ) → (nat_le 4 n && nat_le (4 * g) n) ≡ true → (4 ≤ n) × (4 * g ≤ n)
whole_gives n g e = let parts = and_parts (nat_le 4 n) (nat_le (4 * g) n) e in (leb-true 4 n parts.0, leb-true (4 * g) n parts.1)

good_gives : (n m : ℕ) → (eqb n 2 && not (nat_le 5 m && nat_le m 32)) ≡ false → n ≡ 2 → (5 ≤ m) × (m ≤ 32)
good_gives n m e two = grind (arith, nat_tests)

-- word 1 has MsgLength
frames_first : (a : List ℕ) (v : ℕ) → length a ≡ 2 → is_bad_length a v ≡ false → Frames (a ++ little_bytes 2 v)
frames_first a v two good =
    let third : slice_index (a ++ little_bytes 2 v) 2 ≡ v % 256 = get_or_at a (v % 256) (v / 256 % 256 ∷ []) 0 2 two in
    let fits = good_gives (length a) (v % 256) good two in
    record {
      least = omega (arith, third, fits.0);
      most = omega (arith, third, fits.1);
      within = omega (arith, third, fits.0, length-append a (little_bytes 2 v), two);
    }

-- a later word is within it
frames_later : (a : List ℕ) (v k : ℕ) → length a ≡ 2 * k → 4 ≤ length a → is_whole a ≡ false → Frames a → Frames (a ++ little_bytes 2 v)
frames_later a v k even four part f =
    let third : slice_index (a ++ little_bytes 2 v) 2 ≡ slice_index a 2 = get_or_append_left a (little_bytes 2 v) 0 2 (omega arith) in
    let below = part_gives (length a) (slice_index a 2) part four in
    record {
      least = omega (arith, third, f.least);
      most = omega (arith, third, f.most);
      within = omega (arith, third, below, length-append a (little_bytes 2 v), even);
    }

frames_more : (a : List ℕ) (v k : ℕ) → length a ≡ 2 * k → is_whole a ≡ false → is_bad_length a v ≡ false → (4 ≤ length a → Frames a)
    → 4 ≤ length (a ++ little_bytes 2 v) → Frames (a ++ little_bytes 2 v)
frames_more a v k even part good f four =
    elim (cases_eq (length a) 2) [
      | inl two ↦ frames_first a v two good
      | inr other ↦ let more : 4 ≤ length a = omega (arith, even, four, other, length-append a (little_bytes 2 v)) in frames_later a v k even more part (f more)
    ]

-- a read of the next word
word_held : (m w r u a : List ℕ) (v : ℕ) → is_whole a ≡ false → is_bad_length a v ≡ false → Reading m w r u a → Reading m w (r ++ v ∷ []) u (a ++ little_bytes 2 v)
word_held m w r u a v part good h =
    let none = none_last h.last a part h.ended in
    record {
      opening = h.opening;
      dwords = h.dwords;
      used = h.used;
      words = h.words ++ v ∷ [];
      last = [];
      written = h.written;
      read =
          ap (λ rs. rs ++ v ∷ []) h.read ∙ ap (λ l. h.used ∷ ((h.words ++ l) ++ v ∷ [])) none
          ∙ ap (λ ws. h.used ∷ (ws ++ v ∷ [])) (append-nil h.words) ∙ ap (λ ws. h.used ∷ ws) (sym (append-nil (h.words ++ v ∷ [])));
      message = h.message;
      got = ap (λ x. x ++ little_bytes 2 v) h.got ∙ sym (word_bytes-push h.words v);
      ended = inl refl;
      framed = frames_more a v (length h.words) (ap length h.got ∙ length-word_bytes h.words) part good h.framed;
    }

hears_word_held : (m w r : List ℕ) (d : HostDoor) (v : ℕ) → Reading m w r d.unsent d.reply → After m w (r ++ v ∷ []) (hears_word d v)
unfolding After Held HeldAt HeldFor
hears_word_held m w r d v h =
    cond_both (is_whole d.reply) _ _ (After m w (r ++ v ∷ []))
    (λ whole. cond_both (has v DOORBELL_USED) _ _ (After m w (r ++ v ∷ []))
    (λ _. still m w _ d.unsent d.reply (Awaits reading.Word) (later_held m w r d.unsent d.reply v whole h))
    (λ _. still m w _ d.unsent d.reply Finishes (record { reading_done = later_held m w r d.unsent d.reply v whole h; whole = whole })))
    (λ part. cond_both (is_bad_length d.reply v) _ _ (After m w (r ++ v ∷ []))
    (λ _. tt)
    (λ good. still m w _ d.unsent _ (Reads reading.News) (word_held m w r d.unsent d.reply v part good h)))

quiet : (m w r : List ℕ) (s : Stepped) → After m w r s → After m w (r ++ []) s
quiet m w r s h = subst (λ (rs : List ℕ). After m w rs s) (sym (append-nil r)) h

reading_held : (m w r : List ℕ) (d : HostDoor) (x : looked.Reading) (v : ℕ) → Dwords m → HeldFor m w r d.unsent d.reply x
    → After m w (r ++ read_at (Awaits x) (Some v)) (hears_reading d x v)
unfolding HeldFor
reading_held m w r d reading.Used v good h = used_held m w r d v h
reading_held m w r d reading.LeftOver v good h = quiet m w r _ (left_over_held m w r d v good h)
reading_held m w r d reading.Opened v good h = quiet m w r _ (opened_held m w r d v h)
reading_held m w r d reading.Taken v good h = quiet m w r _ (taken_held m w r d v h)
reading_held m w r d reading.News v good h = quiet m w r _ (news_held m w r d v h)
reading_held m w r d reading.Word v good h = hears_word_held m w r d v h
reading_held m w r d reading.Unlocked v good h = absurd h
reading_held m w r d reading.ResetOver v good h = absurd h
reading_held m w r d (reading.State kind) v good h = absurd h
reading_held m w r d reading.UnitReset v good h = absurd h
reading_held m w r d reading.Doorbell v good h = absurd h

-- what isn't asked changes nothing
stands_held : (m w r : List ℕ) (d : HostDoor) → Held m w r d → After m w (r ++ []) (stands d)
unfolding After
stands_held m w r d h =
    subst (λ (ws : List ℕ). Held m ws (r ++ []) d) (sym (append-nil w)) (subst (λ (rs : List ℕ). Held m w rs d) (sym (append-nil r)) h)

acts_held : (m w r : List ℕ) (d : HostDoor) (s : Stage) → s ≡ d.stage → Dwords m → HeldAt m w r d.unsent d.reply s
    → After m w (r ++ read_at s None) (acts d s)
unfolding HeldAt After Held
acts_held m w r d (Reads x) e good h = quiet m w r (reads d x) (still m w r d.unsent d.reply (Awaits x) h)
acts_held m w r d (Awaits x) e good h = stands_held m w r d (subst (HeldAt m w r d.unsent d.reply) e h)
acts_held m w r d Opens e good h = quiet m w r (opens d) (opens_held m w r d good h)
acts_held m w r d (WritesKey place) e good h = absurd h
acts_held m w r d Locks e good h = absurd h
acts_held m w r d ResetsUnit e good h = absurd h
acts_held m w r d Finishes e good h = tt
acts_held m w r d Ended e good h = stands_held m w r d (subst (HeldAt m w r d.unsent d.reply) e h)

hears_held : (m w r : List ℕ) (d : HostDoor) (s : Stage) (v : ℕ) → s ≡ d.stage → Dwords m → HeldAt m w r d.unsent d.reply s
    → After m w (r ++ read_at s (Some v)) (hears d s v)
unfolding HeldAt Held
hears_held m w r d (Awaits x) v e good h = reading_held m w r d x v good h
hears_held m w r d (Reads x) v e good h = stands_held m w r d (subst (HeldAt m w r d.unsent d.reply) e h)
hears_held m w r d Opens v e good h = stands_held m w r d (subst (HeldAt m w r d.unsent d.reply) e h)
hears_held m w r d (WritesKey place) v e good h = absurd h
hears_held m w r d Locks v e good h = absurd h
hears_held m w r d ResetsUnit v e good h = absurd h
hears_held m w r d Finishes v e good h = stands_held m w r d (subst (HeldAt m w r d.unsent d.reply) e h)
hears_held m w r d Ended v e good h = stands_held m w r d (subst (HeldAt m w r d.unsent d.reply) e h)

step_held : (m w r : List ℕ) (d : HostDoor) (v : Option ℕ) → Dwords m → Held m w r d → After m w (r ++ read_at d.stage v) (next_step d v)
unfolding Held
step_held m w r d None good h = acts_held m w r d d.stage refl good h
step_held m w r d (Some v) good h = hears_held m w r d d.stage v refl good h

run_held : (m w r : List ℕ) (d : HostDoor) (vs : List (Option ℕ)) → Dwords m → Held m w r d
    → Held m (w ++ doorbell_writes d vs) (r ++ doorbell_reads d vs) (after_steps d vs)
unfolding After
run_held m w r d [] good h =
    subst (λ (ws : List ℕ). Held m ws (r ++ []) d) (sym (append-nil w)) (subst (λ (rs : List ℕ). Held m w rs d) (sym (append-nil r)) h)
run_held m w r d (v ∷ vs) good h =
    let s : Stepped = next_step d v in
    let later = run_held m (w ++ written_by s.step) (r ++ read_at d.stage v) s.door vs good (step_held m w r d v good h) in
    subst (λ (ws : List ℕ). Held m ws (r ++ doorbell_reads d (v ∷ vs)) (after_steps s.door vs)) (append_assoc w (written_by s.step) (doorbell_writes s.door vs))
    (subst (λ (rs : List ℕ). Held m ((w ++ written_by s.step) ++ doorbell_writes s.door vs) rs (after_steps s.door vs)) (append_assoc r (read_at d.stage v) (doorbell_reads s.door vs)) later)

-- only the last step of a handshake is done

NotDone : DoorStep → Type 0
NotDone s = (count : ℕ) (bytes : List ℕ) → s ≡ Done count bytes → ⊥

ends_if : (b : Bool) (s t : Stepped) → NotDone s.step → NotDone t.step → NotDone (if b then s else t).step
ends_if true s t f g = f
ends_if false s t f g = g

not_write : (reg value : ℕ) → NotDone (Write reg value)
unfolding NotDone
not_write reg value count bytes e = cc

not_read : (reg : ℕ) → NotDone (Read reg)
unfolding NotDone
not_read reg count bytes e = cc

not_refused : (step value : ℕ) → NotDone (Refused step value)
unfolding NotDone
not_refused step value count bytes e = cc

reading_goes_on : (m w r u a : List ℕ) (d : HostDoor) (x : looked.Reading) (v : ℕ) → HeldFor m w r u a x → NotDone (hears_reading d x v).step
unfolding HeldFor
reading_goes_on m w r u a d reading.Used v h = ends_if (has v DOORBELL_USED) _ _ (not_refused 1 v) (not_read _)
reading_goes_on m w r u a d reading.LeftOver v h = ends_if (has v IOC2SYS_DB_STATUS) _ _ (not_write _ _) (not_write _ _)
reading_goes_on m w r u a d reading.Opened v h = ends_if (has v IOC2SYS_DB_STATUS) _ _ (not_write _ _) (not_read _)
reading_goes_on m w r u a d reading.Taken v h =
    ends_if (has v SYS2IOC_DB_STATUS) _ _ (not_read _) (ends_if (eqb (length d.unsent) 0) _ _ (not_read _) (not_write _ _))
reading_goes_on m w r u a d reading.News v h = ends_if (has v IOC2SYS_DB_STATUS) _ _ (not_read _) (not_read _)
reading_goes_on m w r u a d reading.Word v h =
    ends_if (is_whole d.reply) _ _
    (ends_if (has v DOORBELL_USED) _ _ (not_read _) (not_write _ _))
    (ends_if (is_bad_length d.reply v) _ _ (not_refused 6 v) (not_write _ _))
reading_goes_on m w r u a d reading.Unlocked v h = absurd h
reading_goes_on m w r u a d reading.ResetOver v h = absurd h
reading_goes_on m w r u a d (reading.State kind) v h = absurd h
reading_goes_on m w r u a d reading.UnitReset v h = absurd h
reading_goes_on m w r u a d reading.Doorbell v h = absurd h

handed_over : (m w r u a : List ℕ) (count : ℕ) (bytes : List ℕ) → Ending m w r u a → Done (length a) (padded a) ≡ Done count bytes → HandsOver m w r count bytes
handed_over m w r u a count bytes ending e =
    let h = ending.reading_done in
    let n : count ≡ length a = cc in
    let b : bytes ≡ padded a = cc in
    let all = whole_gives (length a) (slice_index a 2) ending.whole in
    let f : Frames a = h.framed all.0 in
    let third : slice_index bytes 2 ≡ slice_index a 2 = ap (λ x. slice_index x 2) b ∙ get_or_append_left a (replicate (128 - length a) 0) 0 2 (omega (arith, all.0)) in
    record {
      opening = h.opening;
      dwords = h.dwords;
      used = h.used;
      words = h.words;
      last = h.last;
      written = h.written;
      read = h.read;
      sent = h.message;
      size = n ∙ ap length h.got;
      got = b ∙ ap padded h.got;
      msg_length = omega (arith, n, third, all.1, f.within);
      least = omega (arith, n, all.1, f.least);
      most = omega (arith, n, f.within, f.most);
    }

done_acts : (m w r u a : List ℕ) (d : HostDoor) (s : Stage) (count : ℕ) (bytes : List ℕ) → d.reply ≡ a → HeldAt m w r u a s → Expects s None
    → (acts d s).step ≡ Done count bytes → HandsOver m w r count bytes
unfolding HeldAt
done_acts m w r u a d (Reads x) count bytes at h x' e = absurd (cc)
done_acts m w r u a d (Awaits x) count bytes at h x' e = absurd x'
done_acts m w r u a d Opens count bytes at h x e = absurd (cc)
done_acts m w r u a d (WritesKey place) count bytes at h x e = absurd h
done_acts m w r u a d Locks count bytes at h x e = absurd h
done_acts m w r u a d ResetsUnit count bytes at h x e = absurd h
done_acts m w r u a d Finishes count bytes at h x e =
    handed_over m w r u a count bytes h (ap (λ (y : List ℕ). Done (length y) (padded y)) (sym at) ∙ e)
done_acts m w r u a d Ended count bytes at h x e = absurd x

done_hears : (m w r u a : List ℕ) (d : HostDoor) (s : Stage) (v count : ℕ) (bytes : List ℕ) → HeldAt m w r u a s → Expects s (Some v)
    → (hears d s v).step ≡ Done count bytes → HandsOver m w r count bytes
unfolding HeldAt NotDone
done_hears m w r u a d (Awaits x) v count bytes h y e = absurd (reading_goes_on m w r u a d x v h count bytes e)
done_hears m w r u a d (Reads x) v count bytes h y e = absurd y
done_hears m w r u a d Opens v count bytes h y e = absurd y
done_hears m w r u a d (WritesKey place) v count bytes h y e = absurd y
done_hears m w r u a d Locks v count bytes h y e = absurd y
done_hears m w r u a d ResetsUnit v count bytes h y e = absurd y
done_hears m w r u a d Finishes v count bytes h y e = absurd y
done_hears m w r u a d Ended v count bytes h y e = absurd y

done_step : (m w r : List ℕ) (d : HostDoor) (v : Option ℕ) (count : ℕ) (bytes : List ℕ) → Held m w r d → Expects d.stage v
    → (next_step d v).step ≡ Done count bytes → HandsOver m w r count bytes
unfolding Held
done_step m w r d None count bytes h x e = done_acts m w r d.unsent d.reply d d.stage count bytes refl h x e
done_step m w r d (Some v) count bytes h x e = done_hears m w r d.unsent d.reply d d.stage v count bytes h x e

begun : (m : List ℕ) → Held m [] [] (handshake_of_message m)
unfolding Held HeldAt HeldFor
begun m = record { no_writes = refl; no_reads = refl; message = refl; no_reply = refl }

pub hands_over : (m : List ℕ) (vs : List (Option ℕ)) (v : Option ℕ) (count : ℕ) (bytes : List ℕ)
    → All (λ b. b < 256) m → length m % 4 ≡ 0 → Expects (after_steps (handshake_of_message m) vs).stage v
    → (next_step (after_steps (handshake_of_message m) vs) v).step ≡ Done count bytes
    → HandsOver m (doorbell_writes (handshake_of_message m) vs) (doorbell_reads (handshake_of_message m) vs) count bytes
hands_over m vs v count bytes are_bytes whole x e =
    let good : Dwords m = record { bytes = are_bytes; whole = whole } in
    done_step m _ _ (after_steps (handshake_of_message m) vs) v count bytes (run_held m [] [] (handshake_of_message m) vs good (begun m)) x e
