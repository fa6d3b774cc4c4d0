-- A post that its record names is one of the host's.
use Rattle.std.proofs.Common.{◌≡◌, ◌≢◌, ℕ, ◌-◌, ◌%◌, ◌<◌, ◌≤◌, ◌==◌, ◌&&◌, inl, inr, not, Bool, true, false, List, ◌++◌, drop, length, replicate, Option, Some, None, option_map, refl, ap, sym, ◌∙◌, subst, arith}
use Rattle.std.specs.Prelude.{All}
use Rattle.std.specs.FinMap as finmap
use Rattle.std.proofs.lemmas.List.Elements.{All-cons, All-nil}
use Rattle.scsi_disk.specs.Command.{fits, is_write}
use Rattle.scsi_disk.specs.declared.command.Command.{Command}
use Rattle.smid_pool.specs.Class.{IsIn}
use Rattle.smid_pool.specs.Pool.{Slot, Free, Open, Parked}
use Rattle.smid_pool.specs.declared.class.Class.TheVariants as class
use Rattle.mpi_rings.specs.declared.request_descriptor.PostKind.TheVariants as post
use Rattle.mpt_messages.specs.HostFrames.{IsAsk}
use Rattle.mpt_messages.specs.declared.host_ask.HostAsk.TheVariants as ask
use Rattle.mpt_wire.specs.Machine.State.{OpenRequest}
use Rattle.mpt_wire.specs.Messages.Fields.{abort_task, dev_handle_in, post_descriptor, smid_in, target_reset}
use Rattle.mpt_wire.specs.Messages.Standing.{IsHostPost}
use Rattle.mpt_wire.specs.Queues.Marks.{reply_queue_of}
use Rattle.mpt_rules.specs.declared.post.Post.{Post}
use Rattle.mpt_rules.specs.declared.request.Request.{Request}
use Rattle.mpt_rules.specs.declared.request.Request.TheVariants as request
use Rattle.mpt_rules.specs.Host.Parts.{Cmd, host_queue_count}
use Rattle.mpt_rules.specs.Host.Posts.{command_asked}
use Rattle.mpt_rules.specs.World.State.{World}
use Rattle.law_facts.specs.Facts.{Facts}
use Rattle.law_facts.specs.Flights.{AbortNames, NamesOpen}
use Rattle.law_facts.specs.History.{History}
use Rattle.law_facts.specs.Messages.{CommandPost, PostIs, PostIsRecord}
use Rattle.law_facts.specs.Words.{slot}
use Rattle.law_messages.proofs.Known.{classed, command_of, inside}

abbrev parked_slot : Slot Request
parked_slot = Parked

parked_apart : parked_slot ≢ Free
parked_apart e = cc

-- ---- a command that fits

zeros : (n : ℕ) → All (λ (byte : ℕ). byte ≡ 0) (replicate n 0)
zeros n = Rattle.std.proofs.lemmas.List.Elements.All-replicate (λ (byte : ℕ). byte ≡ 0) n 0 refl

drop_whole : (xs ys : List ℕ) → drop (length xs) (xs ++ ys) ≡ ys
drop_whole xs ys = Rattle.std.proofs.Math.Seq.drop-append_seam xs ys

module _ (c : Command) (f : fits c ≡ true) where
  cdb_short : (1 ≤ length c.cdb) × (length c.cdb ≤ 16)
  cdb_short = (grind (arith, f), grind (arith, f))

  few : c.len ≤ 4096
  few = grind (arith, f)

  pub command_is_ask : (s handle : ℕ) → 1 ≤ s → s ≤ 256 → IsAsk (command_asked s handle c)
  command_is_ask s handle a b =
      record {
        identifier = (a, b);
        command = cdb_short;
        zeros = subst (All (λ (byte : ℕ). byte ≡ 0)) (sym (drop_whole c.cdb (replicate (16 - length c.cdb) 0))) (zeros (16 - length c.cdb));
        short = few;
        write_moves = λ z. no_data (is_write c.cdb) z;
      }
    where
      no_data : (w : Bool) → c.len ≡ 0 → (w && not (c.len == 0)) ≡ false
      no_data w z = ap (λ n. w && not (n == 0)) z ∙ never w
        where
          never : (w : Bool) → (w && false) ≡ false
          never true = refl
          never false = refl

-- the queue of a command's identifier
queue_of : (q s : ℕ) → 1 ≤ s → s ≤ 256 → reply_queue_of q s ≡ (s - 1) % q
queue_of q s a b = grind (arith, a, b)

module _ (w : World) (h : History) (f : Facts w h) where
  abbrev queues : ℕ
  queues = host_queue_count w.host

  abbrev Passes_ : Post → Type 0
  Passes_ p = IsHostPost (host_queue_count w.host) p.descriptor p.frame

  command : (p : Post) (n : ℕ) → slot w.host (smid_in p.descriptor) ≡ Open (request.Command n) → (c : Option Cmd) (r : Option OpenRequest) → finmap.get w.host.cmds n ≡ c → finmap.get h.machine.requests n ≡ r → CommandPost w p c r → Passes_ p
  command p n e None r g i a = absurd a
  command p n e (Some c) None g i a = absurd a
  command p n e (Some c) (Some r) g i a =
      let z : c.smid ≡ smid_in p.descriptor = same_smid c (ap (option_map (λ (x : Cmd). x.smid)) (sym g) ∙ command_of w h f n (smid_in p.descriptor) e) in
      let k = subst (IsIn class.ScsiIo) (sym z) (classed w h f (smid_in p.descriptor) (request.Command n) e) in
      record {
        ask = command_asked c.smid c.handle r.command;
        allowed = command_is_ask r.command ((f.messages.named n).fit r i) c.smid c.handle (omega (arith, k)) (omega (arith, k));
        own = z;
        described = ap (λ s. Some (post_descriptor post.ScsiIo (reply_queue_of queues s) s c.handle)) (sym z) ∙ (ap (λ m. Some (post_descriptor post.ScsiIo m c.smid c.handle)) (queue_of queues c.smid (omega (arith, k)) (omega (arith, k))) ∙ ap Some (sym a.0));
        framed = a.1;
      }
    where
      same_smid : (c : Cmd) → Some c.smid ≡ Some (smid_in p.descriptor) → c.smid ≡ smid_in p.descriptor
      same_smid c e = cc

  -- what an abort names is an identifier of a command
  pub named : (s n task : ℕ) → slot w.host s ≡ Open (request.Abort n task) → (1 ≤ task) × (task ≤ 256)
  named s n task e = let i = inside w h f s (request.Abort n task) e in by_cmd (finmap.get w.host.cmds n) refl (subst (AbortNames w) e (f.flights.identifiers s i.0 i.1).names)
    where
      by_cmd : (o : Option Cmd) → finmap.get w.host.cmds n ≡ o → NamesOpen w task o → (1 ≤ task) × (task ≤ 256)
      by_cmd (Some c) g z = let k = classed w h f c.smid (request.Command n) ((f.flights.numbers n).command c g) in (omega (arith, k, z), omega (arith, k, z))
      by_cmd None g z = parked
        where
          there : (1 ≤ task) × (task - 1 < length w.host.pool)
          there = Rattle.law_flights.proofs.HostHolds.in_table w.host.pool task Parked z parked_apart

          parked : (1 ≤ task) × (task ≤ 256)
          parked = let t = there in let l = f.flights.sizes.pool in let k = subst (Rattle.law_facts.specs.Flights.RecordStands w task) z (f.flights.identifiers task t.0 (omega (arith, t, l))).recorded in (omega (arith, k), omega (arith, k))

  pub post_passes : (p : Post) → PostIsRecord w h p → Passes_ p
  post_passes p a = by_slot (slot w.host (smid_in p.descriptor)) refl a
    where
      by_slot : (x : Slot Request) → slot w.host (smid_in p.descriptor) ≡ x → PostIs w h p x → Passes_ p
      by_slot Free e a = absurd a
      by_slot Parked e a = absurd a
      by_slot (Open (request.Command n)) e a = command p n e (finmap.get w.host.cmds n) (finmap.get h.machine.requests n) refl refl a
      by_slot (Open (request.Abort n task)) e a = let z = a.0 in let k = named (smid_in p.descriptor) n task e in record { ask = ask.Task (dev_handle_in p.frame) abort_task task; allowed = inl (refl, k.0, k.1); own = tt; described = ap Some (sym z.0); framed = z.1 }
      by_slot (Open (request.TargetReset address)) e a = record { ask = ask.Task (dev_handle_in p.frame) target_reset 0; allowed = inr (refl, refl); own = tt; described = ap Some (sym a.0); framed = a.1 }
      by_slot (Open (request.Leave handle)) e a = let z = a.0 in record { ask = ask.Task (dev_handle_in p.frame) target_reset 0; allowed = inr (refl, refl); own = tt; described = ap Some (sym z.0); framed = z.1 }
      by_slot (Open (request.Page handle)) e a = let k = classed w h f (smid_in p.descriptor) (request.Page handle) e in record { ask = ask.PageRead (smid_in p.descriptor) handle; allowed = (omega (arith, k), omega (arith, k)); own = refl; described = ap Some (sym a.0); framed = a.1 }
      by_slot (Open (request.Remove handle)) e a = record { ask = ask.Remove handle; allowed = tt; own = tt; described = ap Some (sym a.0); framed = a.1 }
      by_slot (Open (request.Ack event context)) e a = record { ask = ask.Ack event context; allowed = tt; own = tt; described = ap Some (sym a.0); framed = a.1 }
      by_slot (Open request.Notification) e a = record { ask = ask.Notification; allowed = tt; own = tt; described = ap Some (sym a.0); framed = a.1 }
      by_slot (Open request.PortEnable) e a = record { ask = ask.PortEnable; allowed = tt; own = tt; described = ap Some (sym a.0); framed = a.1 }
