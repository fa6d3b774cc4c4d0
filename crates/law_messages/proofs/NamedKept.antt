-- Each case keeps that the trace knows exactly the open commands, which fit.
use Rattle.std.proofs.Common.{◌≡◌, ◌≢◌, ℕ, ◌-◌, ◌<◌, ◌≤◌, ◌==◌, cond, Bool, true, false, if◌then◌else◌, [], ◌∷◌, length, Some, None, IsTrue, refl, ap, sym, ◌∙◌, subst, arith}
use Rattle.std.specs.FinMap as finmap
use Rattle.std.specs.Ordering.{nat_cmp}
use Rattle.std.proofs.lemmas.Bool.{eqb-true}
use Rattle.scsi_disk.specs.Command.{fits}
use Rattle.smid_pool.specs.Pool.{Slot, Free, Open, Parked, slot_of}
use Rattle.mpt_wire.specs.Machine.State.{OpenRequest}
use Rattle.mpt_wire.specs.Machine.View.{Seen}
use Rattle.mpt_trace.specs.Command.{command_named}
use Rattle.mpt_trace.specs.declared.command_form.CommandForm.{CommandForm}
use Rattle.mpt_trace.specs.declared.entry.Entry.TheVariants as entry
use Rattle.mpt_trace.specs.declared.input.Input.TheVariants as input
use Rattle.mpt_rules.specs.declared.request.Request.{Request}
use Rattle.mpt_rules.specs.declared.request.Request.TheVariants as request
use Rattle.mpt_rules.specs.Host.Parts.{Cmd, Host}
use Rattle.mpt_rules.specs.World.State.{World}
use Rattle.law_facts.specs.Facts.{Facts}
use Rattle.law_facts.specs.History.{History, history_after}
use Rattle.law_facts.specs.Messages.{IsUnknown, NamedIsOpen}
use Rattle.law_facts.specs.Words.{slot}
use Rattle.law_flights.proofs.HostHolds.{slot_of-set}
use Rattle.law_messages.proofs.Agreeing.{differ, not_both, same, turned_false, turned_true}
use Rattle.law_messages.proofs.Keys.{get_inserted, get_other_inserted}
use Rattle.law_messages.proofs.Leads.{Accepted, Accepts, Ends, Follow, Goes, Leads}
use Rattle.law_messages.proofs.Requests.{accepted_requests}
use Rattle.law_messages.proofs.Walks.{accepted_live, accepted_number}

unknown_if : (v : World) (k : History) (s : ℕ) (x : Slot Request) → (k.walk s).known.live ≡ None → IsUnknown v k s x
unknown_if v k s Free e = e
unknown_if v k s Parked e = e
unknown_if v k s (Open (request.Command n)) e = tt
unknown_if v k s (Open (request.Abort n task)) e = e
unknown_if v k s (Open (request.TargetReset a)) e = e
unknown_if v k s (Open (request.Leave handle)) e = e
unknown_if v k s (Open (request.Page handle)) e = e
unknown_if v k s (Open (request.Remove handle)) e = e
unknown_if v k s (Open (request.Ack ev context)) e = e
unknown_if v k s (Open request.Notification) e = e
unknown_if v k s (Open request.PortEnable) e = e

-- what is known of it stays, and so does its record, where it is a command's
unknown_moves : (w : World) (h : History) (v : World) (k : History) (s : ℕ) (x y : Slot Request) → (k.walk s).known.live ≡ (h.walk s).known.live → ((n : ℕ) → x ≡ Open (request.Command n) → y ≡ x) → IsUnknown w h s x → IsUnknown v k s y
unknown_moves w h v k s Free y e g u = unknown_if v k s y (e ∙ u)
unknown_moves w h v k s Parked y e g u = unknown_if v k s y (e ∙ u)
unknown_moves w h v k s (Open (request.Command n)) y e g u = subst (IsUnknown v k s) (sym (g n refl)) tt
unknown_moves w h v k s (Open (request.Abort n task)) y e g u = unknown_if v k s y (e ∙ u)
unknown_moves w h v k s (Open (request.TargetReset a)) y e g u = unknown_if v k s y (e ∙ u)
unknown_moves w h v k s (Open (request.Leave handle)) y e g u = unknown_if v k s y (e ∙ u)
unknown_moves w h v k s (Open (request.Page handle)) y e g u = unknown_if v k s y (e ∙ u)
unknown_moves w h v k s (Open (request.Remove handle)) y e g u = unknown_if v k s y (e ∙ u)
unknown_moves w h v k s (Open (request.Ack ev context)) y e g u = unknown_if v k s y (e ∙ u)
unknown_moves w h v k s (Open request.Notification) y e g u = unknown_if v k s y (e ∙ u)
unknown_moves w h v k s (Open request.PortEnable) y e g u = unknown_if v k s y (e ∙ u)

module _ (w : World) (h : History) (f : Facts w h) (v : World) where
  seen : Seen
  seen = record { machine = h.machine; so_far = h.so_far }

  -- ---- identifiers keep their records

  module _ (k : History) (hand : ℕ) (fo : Follow w h v.host k hand) where
    apart : (n : ℕ) (c : Cmd) → finmap.get v.host.cmds n ≡ Some c → c.smid ≢ hand
    apart n c e z = let g = fo.gone n (subst (λ s. slot w.host s ≡ Open (request.Command n)) z ((f.flights.numbers n).command c (fo.less_cmds n c e))) in let a : None ≡ Some c = sym g ∙ e in cc

    named_goes : (n : ℕ) → NamedIsOpen v k n
    named_goes n =
        let z = f.messages.named n in
        record {
          live = λ c r e g. fo.lives c.smid (apart n c e) ∙ z.live c r (fo.less_cmds n c e) (fo.less_opens n r g);
          number = λ c e. ap (λ q. q c.smid) fo.numbers ∙ z.number c (fo.less_cmds n c e);
          fit = λ r g. z.fit r (fo.less_opens n r g);
        }

    unknown_goes : (s : ℕ) → IsUnknown v k s (slot v.host s)
    unknown_goes s = by_key (s == hand) refl
      where
        by_key : (b : Bool) → (s == hand) ≡ b → IsUnknown v k s (slot v.host s)
        by_key true t = unknown_if v k s (slot v.host s) (ap (λ j. (k.walk j).known.live) (eqb-true s hand t) ∙ fo.ended)
        by_key false t =
            let d = differ s hand t in
            unknown_moves w h v k s (slot w.host s) (slot v.host s) (fo.lives s d) (λ n e. fo.follows.slots s (request.Command n) d e ∙ sym e) (f.messages.unknown s)

  -- ---- a submission is accepted

  module _ (n a s handle plug : ℕ) (form : CommandForm) where
    abbrev After : History
    After = history_after h (entry.Given (input.Submit n a form) ∷ entry.Accept n a s ∷ [])

    abbrev request_opened : OpenRequest
    request_opened = record { address = a; plug = plug; command = command_named form }

    abbrev cmd_opened : Cmd
    cmd_opened = record { smid = s; handle = handle }

    module _ (z : Accepted w h v.host After n a s handle plug form) where
      cmds_are : v.host.cmds ≡ finmap.insert w.host.cmds n cmd_opened
      cmds_are = ap (λ (x : Host). x.cmds) z.host

      requests_are : (After).machine.requests ≡ finmap.insert h.machine.requests n request_opened
      unfolding seen
      requests_are = accepted_requests seen n a plug s form z.ready

      -- another identifier
      other_identifier : (m : ℕ) (c : Cmd) → finmap.get w.host.cmds m ≡ Some c → (s == c.smid) ≡ false
      other_identifier m c e = by_key (s == c.smid) refl
        where
          by_key : (b : Bool) → (s == c.smid) ≡ b → b ≡ false
          by_key false t = refl
          by_key true t = let l = z.least in let y : Free ≡ Open (request.Command m) = sym l.free ∙ (ap (slot_of w.host.pool) (eqb-true s c.smid t) ∙ (f.flights.numbers m).command c e) in absurd (cc)

      named_accepts : (m : ℕ) → NamedIsOpen v After m
      unfolding seen
      named_accepts m = by_key (m == n) refl
        where
          here : (j : ℕ) → j ≡ n → (c : Cmd) → finmap.get v.host.cmds j ≡ Some c → cmd_opened ≡ c
          here j e c g = let y : Some cmd_opened ≡ Some c = sym (ap (λ x. finmap.get x j) cmds_are ∙ (ap (finmap.get (finmap.insert w.host.cmds n cmd_opened)) e ∙ get_inserted w.host.cmds n cmd_opened)) ∙ g in cc

          there : (j : ℕ) → j ≡ n → (r : OpenRequest) → finmap.get (After).machine.requests j ≡ Some r → request_opened ≡ r
          there j e r g = let y : Some request_opened ≡ Some r = sym (ap (λ x. finmap.get x j) requests_are ∙ (ap (finmap.get (finmap.insert h.machine.requests n request_opened)) e ∙ get_inserted h.machine.requests n request_opened)) ∙ g in cc

          before : (m == n) ≡ false → (c : Cmd) → finmap.get v.host.cmds m ≡ Some c → finmap.get w.host.cmds m ≡ Some c
          before t c g = sym (ap (λ x. finmap.get x m) cmds_are ∙ get_other_inserted w.host.cmds n cmd_opened m (differ m n t)) ∙ g

          before_open : (m == n) ≡ false → (r : OpenRequest) → finmap.get (After).machine.requests m ≡ Some r → finmap.get h.machine.requests m ≡ Some r
          before_open t r g = sym (ap (λ x. finmap.get x m) requests_are ∙ get_other_inserted h.machine.requests n request_opened m (differ m n t)) ∙ g

          at_once : (c : Cmd) (r : OpenRequest) → cmd_opened ≡ c → request_opened ≡ r → ((After).walk c.smid).known.live ≡ Some (record { number = n; address = r.address; command = r.command })
          at_once c r e g = subst (λ (y : Cmd). ((After).walk y.smid).known.live ≡ Some (record { number = n; address = r.address; command = r.command })) e
              (subst (λ (q : OpenRequest). ((After).walk s).known.live ≡ Some (record { number = n; address = q.address; command = q.command })) g
              (accepted_live s (h.walk s) n a s form ∙ ap (λ b. if b then Some (record { number = n; address = a; command = command_named form }) else (h.walk s).known.live) (same s)))

          by_key : (b : Bool) → (m == n) ≡ b → NamedIsOpen v After m
          by_key true t =
              let i : m ≡ n = eqb-true m n t in
              record {
                live = λ c r e g. subst (λ j. ((After).walk c.smid).known.live ≡ Some (record { number = j; address = r.address; command = r.command })) (sym i) (at_once c r (here m i c e) (there m i r g));
                number = λ c e. subst (λ (y : Cmd). (After).so_far.number_of y.smid ≡ Some m) (here m i c e) (accepted_number seen s n a s form ∙ (ap (λ b. if b then Some n else h.so_far.number_of s) (same s) ∙ ap Some (sym i)));
                fit = λ r g. subst (λ (q : OpenRequest). IsTrue (fits q.command)) (there m i r g) z.fit;
              }
          by_key false t =
              let y = f.messages.named m in
              record {
                live = λ c r e g. accepted_live c.smid (h.walk c.smid) n a s form ∙ (ap (λ b. if b then Some (record { number = n; address = a; command = command_named form }) else (h.walk c.smid).known.live) (other_identifier m c (before t c e)) ∙ y.live c r (before t c e) (before_open t r g));
                number = λ c e. accepted_number seen c.smid n a s form ∙ (ap (λ b. if b then Some n else h.so_far.number_of c.smid) (turned_false s c.smid (other_identifier m c (before t c e))) ∙ y.number c (before t c e));
                fit = λ r g. y.fit r (before_open t r g);
              }

      unknown_accepts : (q : ℕ) → IsUnknown v After q (slot v.host q)
      unknown_accepts q = by_key (q == s) refl
        where
          low : (1 ≤ s) × (s - 1 < length w.host.pool)
          low = let l = z.least in let i = l.inside in let t = f.flights.sizes.pool in (omega (arith, i), omega (arith, i, t))

          at : (b : Bool) → (q == s) ≡ b → slot v.host q ≡ cond b (Open (request.Command n)) (slot w.host q)
          at b t = ap (λ (x : Host). slot_of x.pool q) z.host ∙ (slot_of-set w.host.pool s q (Open (request.Command n)) low.0 low.1 ∙ ap (λ b. cond b (Open (request.Command n)) (slot_of w.host.pool q)) t)

          kept : (q == s) ≡ false → ((After).walk q).known.live ≡ (h.walk q).known.live
          kept t = accepted_live q (h.walk q) n a s form ∙ by_it (s == q) refl
            where
              by_it : (b : Bool) → (s == q) ≡ b → (if s == q then Some (record { number = n; address = a; command = command_named form }) else (h.walk q).known.live) ≡ (h.walk q).known.live
              by_it false y = ap (λ b. if b then Some (record { number = n; address = a; command = command_named form }) else (h.walk q).known.live) y
              by_it true y = not_both (q == s) t (turned_true s q y)

          by_key : (b : Bool) → (q == s) ≡ b → IsUnknown v After q (slot v.host q)
          by_key true t = subst (IsUnknown v After q) (sym (at true t)) tt
          by_key false t = unknown_moves w h v After q (slot w.host q) (slot v.host q) (kept t) (λ m e. at false t) (f.messages.unknown q)

  -- ---- wherever a case leads

  pub named_kept : (k : History) → Leads w h v.host k → (n : ℕ) → NamedIsOpen v k n
  named_kept k (Goes hand a fo) n = named_goes k hand fo n
  named_kept k (Accepts m a s handle plug form z) n = by_told k z.told z
    where
      by_told : (k : History) → k ≡ After m a s handle plug form → Accepted w h v.host k m a s handle plug form → NamedIsOpen v k n
      by_told k e y = subst (λ x. NamedIsOpen v x n) (sym e) (named_accepts m a s handle plug form (subst (λ x. Accepted w h v.host x m a s handle plug form) e y) n)
  named_kept k (Ends l p c u g) n =
      let z = f.messages.named n in
      record {
        live = λ d r e i. none d (ap (λ m. finmap.get m n) c ∙ finmap.get-empty nat_cmp n) e;
        number = λ d e. none d (ap (λ m. finmap.get m n) c ∙ finmap.get-empty nat_cmp n) e;
        fit = λ r i. z.fit r (g n r i);
      }
    where
      none : {T : Type 0} (d : Cmd) → finmap.get v.host.cmds n ≡ None → finmap.get v.host.cmds n ≡ Some d → T
      none d e i = let y : None ≡ Some d = sym e ∙ i in absurd (cc)

  pub unknown_kept : (k : History) → Leads w h v.host k → (s : ℕ) → IsUnknown v k s (slot v.host s)
  unknown_kept k (Goes hand a fo) s = unknown_goes k hand fo s
  unknown_kept k (Accepts m a q handle plug form z) s = subst (λ x. IsUnknown v x s (slot v.host s)) (sym z.told) (unknown_accepts m a q handle plug form (subst (λ x. Accepted w h v.host x m a q handle plug form) z.told z) s)
  unknown_kept k (Ends l p c u g) s = unknown_if v k s (slot v.host s) (u s)
