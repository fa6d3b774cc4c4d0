-- Where a post that the host puts, and one that the controller takes, leaves its command.
use Rattle.std.proofs.Common.{◌≡◌, ℕ, ◌+◌, ◌≤◌, ◌==◌, ◌&&◌, Bool, true, false, if◌then◌else◌, List, [], ◌∷◌, ◌++◌, refl, ap, sym, ◌∙◌, subst, arith}
use Rattle.std.specs.Prelude.{All}
use Rattle.std.proofs.lemmas.List.Elements.{All-head, All-tail}
use Rattle.mpi_doorbell.specs.DoorRegisters.{is_fault}
use Rattle.mpt_trace.specs.declared.entry.Entry.TheVariants as entry
use Rattle.mpt_trace.specs.declared.item.Down.{Down}
use Rattle.mpt_trace.specs.declared.item.Down.TheVariants as down
use Rattle.mpt_trace.specs.declared.item.Item.TheVariants as item
use Rattle.mpt_trace.specs.declared.lane.LaneName.TheVariants as lane
use Rattle.mpt_wire.specs.Messages.Fields.{function_in, kind_in, smid_in, task_mid_in, task_type_in}
use Rattle.mpt_wire.specs.Messages.Naming.{is_high_priority, names_command}
use Rattle.mpt_wire.specs.Paths.Commands.{live_mark, mark_if}
use Rattle.mpt_wire.specs.Paths.Stages.{Accepted, AtController, Posted, stage_if}
use Rattle.mpt_wire.specs.Paths.Table.{PutsPost, TakesAbort, TakesPost}
use Rattle.mpt_wire.specs.Walks.Passes.{EachEntry}
use Rattle.mpt_rules.specs.declared.post.Post.{Post}
use Rattle.mpt_rules.specs.Host.Returns.{after_sent}
use Rattle.mpt_rules.specs.Ioc.Takes as adapter
use Rattle.mpt_rules.specs.World.Counts.{one_if, post_count}
use Rattle.mpt_rules.specs.World.State.{World}
use Rattle.mpt_rules.proofs.Counts.{post_count-cons}
use Rattle.law_facts.specs.Facts.{Facts}
use Rattle.law_facts.specs.History.{History, history_after}
use Rattle.law_facts.specs.Messages.{DownIsRecord, PostIsRecord}
use Rattle.law_facts.specs.Paths.{SaidStage, stage_of}
use Rattle.law_facts.specs.Words.{is_command_asked, is_post, slot}
use Rattle.law_flights.proofs.IocTold.{told_down}
use Rattle.law_messages.proofs.Agreeing.{all_more, all_same, not_both}
use Rattle.law_messages.proofs.IocQueues.{queued_down}
use Rattle.law_messages.proofs.TameTold.{down_tame}
use Rattle.law_moves.proofs.IocTakes as leaf
use Rattle.law_paths.specs.Staged.{DownAt, OutAt, PostAt, Staged}
use Rattle.law_paths.specs.Tags.{TagsFit}
use Rattle.law_paths.proofs.Alone.{alone, low, spots}
use Rattle.law_paths.proofs.Entries.{IsQuiet, Silent, equal, first_leads, is_named, not_named, same, silent}
use Rattle.law_paths.proofs.FabricCases.{begin, by_name, leads_to, quietly}
use Rattle.law_paths.proofs.Giving.{takes}
use Rattle.law_paths.proofs.IocCases.{no_events, no_orders, told_quiet}
use Rattle.law_paths.proofs.PostKinds.{none_high, scsi_kind}
use Rattle.law_paths.proofs.Moves.{asked_is}

-- a post that names no command's identifier
pub unnamed : (s d : ℕ) → names_command (smid_in d) d ≡ false → names_command s d ≡ false
unnamed s d e = by_key (s == smid_in d) refl
  where
    by_key : (b : Bool) → (s == smid_in d) ≡ b → names_command s d ≡ false
    by_key false t = not_named s d t
    by_key true t = subst (λ j. names_command j d ≡ false) (sym (equal s (smid_in d) t)) e

pub named_most : (d : ℕ) → names_command (smid_in d) d ≡ true → smid_in d ≤ 256
named_most d e = grind (arith, e)

pub named_within : (d : ℕ) → names_command (smid_in d) d ≡ true → (1 ≤ smid_in d) × (smid_in d ≤ 280)
named_within d e = (grind (arith, e), grind (arith, e))

module _ (w : World) (h : History) (f : Facts w h) (tags : TagsFit w) where
  -- an open command's identifier is one of commands
  is_command_id : (d : ℕ) → is_command_asked (slot w.host (smid_in d)) ≡ true → names_command (smid_in d) d ≡ true
  is_command_id d c = let n = asked_is (slot w.host (smid_in d)) c in let l = low w h f.flights (smid_in d) n.0 n.1 in is_named d l.0 l.1

  -- an identifier of commands
  within : (d : ℕ) → names_command (smid_in d) d ≡ true → (1 ≤ smid_in d) × (smid_in d ≤ 280)
  within d e = (grind (arith, e), grind (arith, e))

  -- ---- a put

  module _ (x : Down) (rest : List Down) where
    abbrev PutTo : World
    PutTo = record w { host = after_sent w.host x rest; down = w.down ++ x ∷ [] }

    abbrev PutAfter : History
    PutAfter = history_after h (entry.Put lane.Down (item.Down x) ∷ [])

    put_plain : w.host.out ≡ x ∷ rest → (after_sent w.host x rest).out ≡ rest → (after_sent w.host x rest).pool ≡ w.host.pool → ((s : ℕ) → Silent s (entry.Put lane.Down (item.Down x) ∷ [])) → DownAt PutTo PutAfter Posted x → Staged PutTo PutAfter PutTo
    put_plain e o p q b =
        let z = quietly w h f tags PutTo (entry.Put lane.Down (item.Down x) ∷ []) p q (tt, tt) in
        let a = All-tail (DownAt PutTo PutAfter Accepted) x rest (subst (All (DownAt PutTo PutAfter Accepted)) e z.out) in
        record { out = subst (All (DownAt PutTo PutAfter Accepted)) (sym o) a; down = all_more (DownAt PutTo PutAfter Posted) w.down x z.down b; normal = z.normal; sending = z.sending; sent = z.sent; tasks = z.tasks; made = z.made; back = z.back; said = z.said; up = z.up }

    put_named : (q : ℕ) → (1 ≤ q) × (q ≤ 280) → w.host.out ≡ x ∷ rest → (after_sent w.host x rest).out ≡ rest → (after_sent w.host x rest).pool ≡ w.host.pool → post_count q (x ∷ rest) ≡ 1 + post_count q rest → ((s : ℕ) → (s == q) ≡ false → Silent s (entry.Put lane.Down (item.Down x) ∷ [])) → DownAt PutTo PutAfter Posted x → Staged PutTo PutAfter PutTo
    put_named q i e o p c s b =
        let y : World = record w { host = record w.host { out = rest } } in
        let g = begin w h f tags in
        let left : Staged w h y = record { out = All-tail (DownAt w h Accepted) x rest (subst (All (DownAt w h Accepted)) e g.out); down = g.down; normal = g.normal; sending = g.sending; sent = g.sent; tasks = g.tasks; made = g.made; back = g.back; said = g.said; up = g.up } in
        let a = alone w h f.flights q i.0 i.1 in
        let m = ap (post_count q) e in
        let n : spots y q ≡ 0 = omega (arith, a, c, m) in
        let z = by_name w h f tags q PutTo (entry.Put lane.Down (item.Down x) ∷ []) y p s (tt, tt) n left in
        record { out = subst (All (DownAt PutTo PutAfter Accepted)) (sym o) z.out; down = all_more (DownAt PutTo PutAfter Posted) w.down x z.down b; normal = z.normal; sending = z.sending; sent = z.sent; tasks = z.tasks; made = z.made; back = z.back; said = z.said; up = z.up }

  pub puts_down : (x : Down) (rest : List Down) → w.host.out ≡ x ∷ rest → Staged (record w { host = after_sent w.host x rest; down = w.down ++ x ∷ [] }) (history_after h (entry.Put lane.Down (item.Down x) ∷ [])) (record w { host = after_sent w.host x rest; down = w.down ++ x ∷ [] })
  puts_down (down.Write reg value) rest e = put_plain (down.Write reg value) rest e refl refl (λ s. (refl, tt)) tt
  puts_down (down.Read reg) rest e = put_plain (down.Read reg) rest e refl refl (λ s. (refl, tt)) tt
  puts_down (down.Return address index) rest e = put_plain (down.Return address index) rest e refl refl (λ s. (refl, tt)) tt
  puts_down down.Stop rest e = put_plain down.Stop rest e refl refl (λ s. (refl, tt)) tt
  puts_down (down.Post d g p) rest e = by_name_of (names_command (smid_in d) d) refl
    where
      by_name_of : (b : Bool) → names_command (smid_in d) d ≡ b → Staged (record w { host = after_sent w.host (down.Post d g p) rest; down = w.down ++ down.Post d g p ∷ [] }) (history_after h (entry.Put lane.Down (item.Down (down.Post d g p)) ∷ [])) (record w { host = after_sent w.host (down.Post d g p) rest; down = w.down ++ down.Post d g p ∷ [] })
      by_name_of false t = put_plain (down.Post d g p) rest e refl refl (λ s. (unnamed s d t, tt)) (λ c. not_both (names_command (smid_in d) d) t (is_command_id d c))
      by_name_of true t =
          put_named (down.Post d g p) rest (smid_in d) (within d t) e refl refl (let c = post_count-cons (smid_in d) (down.Post d g p) rest in let o : one_if (smid_in d == smid_in d) ≡ 1 = ap one_if (same (smid_in d)) in omega (arith, c, o))
          (λ s n. (not_named s d n, tt))
          (λ c. first_leads h (smid_in d) (entry.Put lane.Down (item.Down (down.Post d g p))) [] tt ∙ leads_to (stage_of h (smid_in d)) (names_command (smid_in d) d) PutsPost t)

  -- ---- a take

  highs_none : All (λ (p : Post). is_command_asked (slot w.host (smid_in p.descriptor)) ≡ false) w.ioc.high
  highs_none = none_high w h f w.ioc.high f.flights.sorted.high f.messages.high

  module _ (x : Down) (rest : List Down) (unfaulted : is_fault (adapter.takes_down w.ioc x).part.door.state ≡ false) where
    abbrev TookTo : World
    TookTo = record w { ioc = (adapter.takes_down w.ioc x).part; down = rest }

    abbrev TookAfter : History
    TookAfter = history_after h (entry.Take lane.Down (item.Down x) ∷ (adapter.takes_down w.ioc x).entries)

    told : EachEntry IsQuiet (adapter.takes_down w.ioc x).entries
    told = told_quiet (adapter.takes_down w.ioc x).entries (told_down w.ioc x) (down_tame w.ioc x)

    took : ((d : ℕ) (g p : List ℕ) → x ≡ down.Post d g p → PostAt TookTo TookAfter AtController (record { descriptor = d; frame = g; payload = p })) → Staged TookTo TookAfter (record w { down = rest }) → Staged TookTo TookAfter TookTo
    took b z =
        let g =
        takes (SaidStage TookTo TookAfter) (OutAt TookTo TookAfter AtController) (no_events TookTo TookAfter) (no_orders TookTo TookAfter) (λ n. tt) (λ n. tt) w.ioc x (adapter.takes_down w.ioc x).part
        (leaf.takes w.ioc f.doorbell.sound.waits f.clock.phase_table.whole x) unfaulted (record { said = z.said; out = z.sending }) in
        let q =
        queued_down (PostAt TookTo TookAfter AtController) w.ioc x f.doorbell.sound.waits f.clock.phase_table.whole unfaulted b
        (all_same (λ (p : Post). is_command_asked (slot w.host (smid_in p.descriptor)) ≡ false) (PostAt TookTo TookAfter AtController) (λ p n c. not_both (is_command_asked (slot w.host (smid_in p.descriptor))) n c) w.ioc.high highs_none, z.normal) in
        record { out = z.out; down = z.down; normal = q.1; sending = g.out; sent = z.sent; tasks = z.tasks; made = z.made; back = z.back; said = g.said; up = z.up }

    not_posted : is_post x ≡ false → (d : ℕ) (g p : List ℕ) → x ≡ down.Post d g p → PostAt TookTo TookAfter AtController (record { descriptor = d; frame = g; payload = p })
    not_posted n d g p i = not_both (is_post x) n (ap is_post i)

    took_plain : w.down ≡ x ∷ rest → ((s : ℕ) → Silent s (entry.Take lane.Down (item.Down x) ∷ (adapter.takes_down w.ioc x).entries)) → ((d : ℕ) (g p : List ℕ) → x ≡ down.Post d g p → PostAt TookTo TookAfter AtController (record { descriptor = d; frame = g; payload = p })) → Staged TookTo TookAfter TookTo
    took_plain e q b =
        let z = quietly w h f tags TookTo (entry.Take lane.Down (item.Down x) ∷ (adapter.takes_down w.ioc x).entries) refl q (tt, down_tame w.ioc x) in
        took b (record { out = z.out; down = All-tail (DownAt TookTo TookAfter Posted) x rest (subst (All (DownAt TookTo TookAfter Posted)) e z.down); normal = z.normal; sending = z.sending; sent = z.sent; tasks = z.tasks; made = z.made; back = z.back; said = z.said; up = z.up })

    took_named : (q : ℕ) → (1 ≤ q) × (q ≤ 280) → w.down ≡ x ∷ rest → post_count q (x ∷ rest) ≡ 1 + post_count q rest → ((s : ℕ) → (s == q) ≡ false → Silent s (entry.Take lane.Down (item.Down x) ∷ (adapter.takes_down w.ioc x).entries)) → ((d : ℕ) (g p : List ℕ) → x ≡ down.Post d g p → PostAt TookTo TookAfter AtController (record { descriptor = d; frame = g; payload = p })) → Staged TookTo TookAfter TookTo
    took_named q i e c s b =
        let y : World = record w { down = rest } in
        let g = begin w h f tags in
        let left : Staged w h y = record { out = g.out; down = All-tail (DownAt w h Posted) x rest (subst (All (DownAt w h Posted)) e g.down); normal = g.normal; sending = g.sending; sent = g.sent; tasks = g.tasks; made = g.made; back = g.back; said = g.said; up = g.up } in
        let a = alone w h f.flights q i.0 i.1 in
        let m = ap (post_count q) e in
        let n : spots y q ≡ 0 = omega (arith, a, c, m) in
        took b (by_name w h f tags q TookTo (entry.Take lane.Down (item.Down x) ∷ (adapter.takes_down w.ioc x).entries) y refl s (tt, down_tame w.ioc x) n left)

  pub takes_down : (x : Down) (rest : List Down) → w.down ≡ x ∷ rest → is_fault (adapter.takes_down w.ioc x).part.door.state ≡ false
      → Staged (record w { ioc = (adapter.takes_down w.ioc x).part; down = rest }) (history_after h (entry.Take lane.Down (item.Down x) ∷ (adapter.takes_down w.ioc x).entries)) (record w { ioc = (adapter.takes_down w.ioc x).part; down = rest })
  takes_down (down.Write reg value) rest e v = took_plain (down.Write reg value) rest v e (λ s. (refl, silent s (adapter.takes_down w.ioc (down.Write reg value)).entries (told (down.Write reg value) rest v))) (not_posted (down.Write reg value) rest v refl)
  takes_down (down.Read reg) rest e v = took_plain (down.Read reg) rest v e (λ s. (refl, tt)) (not_posted (down.Read reg) rest v refl)
  takes_down (down.Return address index) rest e v = took_plain (down.Return address index) rest v e (λ s. (refl, tt)) (not_posted (down.Return address index) rest v refl)
  takes_down down.Stop rest e v = took_plain down.Stop rest v e (λ s. (refl, tt)) (not_posted down.Stop rest v refl)
  takes_down (down.Post d g p) rest e v = by_name_of (names_command (smid_in d) d) refl
    where
      written : PostIsRecord w h (record { descriptor = d; frame = g; payload = p })
      written = All-head (DownIsRecord w h) (down.Post d g p) (rest ++ w.host.out) (subst (λ xs. All (DownIsRecord w h) (xs ++ w.host.out)) e f.messages.down)

      leads : names_command (smid_in d) d ≡ true → is_command_asked (slot w.host (smid_in d)) ≡ true → stage_of (history_after h (entry.Take lane.Down (item.Down (down.Post d g p)) ∷ [])) (smid_in d) ≡ AtController
      leads t c =
          first_leads h (smid_in d) (entry.Take lane.Down (item.Down (down.Post d g p))) [] tt
          ∙ (ap (λ o. stage_if (stage_of h (smid_in d)) (if is_high_priority o && function_in g == Rattle.mpt_messages.specs.Function.byte_of Rattle.mpt_messages.specs.declared.function.Function.TheVariants.TaskManagement && task_type_in g == Rattle.mpt_wire.specs.Messages.Fields.abort_task && task_mid_in g == smid_in d then live_mark (h.walk (smid_in d)).known.live TakesAbort else mark_if (names_command (smid_in d) d) TakesPost)) (scsi_kind w h f (record { descriptor = d; frame = g; payload = p }) written c)
          ∙ leads_to (stage_of h (smid_in d)) (names_command (smid_in d) d) TakesPost t)

      of_post : (P : Post → Type 0) → P (record { descriptor = d; frame = g; payload = p }) → (d2 : ℕ) (g2 p2 : List ℕ) → down.Post d g p ≡ down.Post d2 g2 p2 → P (record { descriptor = d2; frame = g2; payload = p2 })
      of_post P a d2 g2 p2 i =
          let j : d ≡ d2 = cc in let k : g ≡ g2 = cc in let l : p ≡ p2 = cc in
          subst (λ z. P (record { descriptor = z; frame = g2; payload = p2 })) j (subst (λ z. P (record { descriptor = d; frame = z; payload = p2 })) k (subst (λ z. P (record { descriptor = d; frame = g; payload = z })) l a))

      by_name_of : (b : Bool) → names_command (smid_in d) d ≡ b → Staged (record w { ioc = (adapter.takes_down w.ioc (down.Post d g p)).part; down = rest }) (history_after h (entry.Take lane.Down (item.Down (down.Post d g p)) ∷ [])) (record w { ioc = (adapter.takes_down w.ioc (down.Post d g p)).part; down = rest })
      by_name_of false t =
          took_plain (down.Post d g p) rest v e (λ s. (unnamed s d t, tt))
          (of_post (PostAt (record w { ioc = (adapter.takes_down w.ioc (down.Post d g p)).part; down = rest }) (history_after h (entry.Take lane.Down (item.Down (down.Post d g p)) ∷ [])) AtController) (λ c. not_both (names_command (smid_in d) d) t (is_command_id d c)))
      by_name_of true t =
          took_named (down.Post d g p) rest v (smid_in d) (within d t) e (let c = post_count-cons (smid_in d) (down.Post d g p) rest in let o : one_if (smid_in d == smid_in d) ≡ 1 = ap one_if (same (smid_in d)) in omega (arith, c, o))
          (λ s n. (not_named s d n, tt))
          (of_post (PostAt (record w { ioc = (adapter.takes_down w.ioc (down.Post d g p)).part; down = rest }) (history_after h (entry.Take lane.Down (item.Down (down.Post d g p)) ∷ [])) AtController) (λ c. leads t c))
